-- The first message of an input.
use Rattle.std.specs.Prelude.{◌≡◌, ◌≢◌, ◌⊎◌, ℕ, ◌+◌, ◌-◌, ◌^◌, ◌<◌, ◌≤◌, min, List, [], ◌++◌, length, Ok, Err, Some, None, ⊤}
use Rattle.std.specs.declared.option.Option.{Option}
use Rattle.std.specs.Io.KnownBytes.{Consumes, IsAtEnd}
use Rattle.httparse.specs.Grammar.{RequestHead}
use Rattle.sn_http.specs.Fields.{fields_of}
use Rattle.sn_http.specs.Framing.{framing}
use Rattle.sn_http.specs.Options.{token_of, closes}
use Rattle.sn_http.specs.Heads.{IsHead, HasNoHead, Carried}
use Rattle.sn_http.specs.declared.message.Message.{Message}
use Rattle.sn_http.specs.declared.message.Filled.{Filled}
use Rattle.sn_http.specs.declared.message.Filled.TheVariants.{Whole as There, Over}
use Rattle.sn_http.specs.declared.message.Incoming.{Incoming}
use Rattle.sn_http.specs.declared.message.Incoming.TheVariants.{Message as Whole, Check, End, ReadFault, Memory}

-- these bytes are this message, with nothing behind it (RFC 9112, 2.1)
pub record IsMessage (bytes : List ℕ) (message : Message) : Type 0 where
  pub head : RequestHead
  pub begins : IsHead bytes head message.body
  pub framed : framing head.method (fields_of head.fields) ≡ Ok (length message.body)
  pub method : message.method ≡ head.method
  pub target : message.target ≡ head.target
  pub token : message.token ≡ token_of (fields_of head.fields)
  pub closing : message.closing ≡ closes head.minor (fields_of head.fields)

-- an input that isn't empty has no head
pub record IsHeadless (input : List ℕ) : Type 0 where
  pub some : input ≢ []
  pub none : HasNoHead input

-- the head's fields fail a check
pub record IsMisframed (input : List ℕ) (status : ℕ) : Type 0 where
  pub head : RequestHead
  pub rest : List ℕ
  pub begins : IsHead input head rest
  pub refused : framing head.method (fields_of head.fields) ≡ Err status

-- the input is over inside the body (RFC 9112, 8)
pub record IsCutShort (input : List ℕ) : Type 0 where
  pub head : RequestHead
  pub rest : List ℕ
  pub size : ℕ
  pub begins : IsHead input head rest
  pub framed : framing head.method (fields_of head.fields) ≡ Ok size
  pub short : length rest < size

-- the status of the first check that fails, of an input to its end
abbrev pub IsCheck : ℕ → List ℕ → Type 0
IsCheck status input = (IsHeadless input × (status ≡ 400)) ⊎ (IsMisframed input status ⊎ (IsCutShort input × (status ≡ 400)))

-- P of an input that is told
abbrev pub OfTold : Option (List ℕ) → (List ℕ → Type 0) → Type 0
OfTold None P = ⊤
OfTold (Some input) P = P input

abbrev pub IfMessage : Incoming → (Message → Type 0) → Type 0
IfMessage (Whole message) P = P message
IfMessage (Check status place) P = ⊤
IfMessage End P = ⊤
IfMessage ReadFault P = ⊤
IfMessage Memory P = ⊤

abbrev pub IfCheck : Incoming → (ℕ → ℕ → Type 0) → Type 0
IfCheck (Whole message) P = ⊤
IfCheck (Check status place) P = P status place
IfCheck End P = ⊤
IfCheck ReadFault P = ⊤
IfCheck Memory P = ⊤

abbrev pub IfNoMessage : Incoming → Type 0 → Type 0
IfNoMessage (Whole message) P = ⊤
IfNoMessage (Check status place) P = P
IfNoMessage End P = P
IfNoMessage ReadFault P = P
IfNoMessage Memory P = P

abbrev pub IsMessageOrMemory : Incoming → Type 0
IsMessageOrMemory (Whole message) = ⊤
IsMessageOrMemory (Check status place) = ⊥
IsMessageOrMemory End = ⊥
IsMessageOrMemory ReadFault = ⊥
IsMessageOrMemory Memory = ⊤

-- so many bytes are there, or the input is over before
abbrev pub FillsTo : ℕ → List ℕ → Option (List ℕ) → Filled → Type 0
FillsTo count bytes left There = count ≤ length bytes
FillsTo count bytes left Over = (length bytes < count) × IsAtEnd left

-- the message was taken from the front of what was to be read
pub record Takes (before after : Option (List ℕ)) (place next : ℕ) (message : Message) : Type 0 where
  pub bytes : List ℕ
  pub is : IsMessage bytes message
  pub taken : Consumes before after bytes
  pub place_is : message.place ≡ place
  pub next_is : next ≡ min (place + length bytes) (2 ^ 64 - 1)

-- .. or from the front of what was read ahead
pub record TakesFrom (old new : Carried) (message : Message) : Type 0 where
  pub bytes : List ℕ
  pub is : IsMessage bytes message
  pub taken : old.bytes ≡ bytes ++ new.bytes
  pub place_is : message.place ≡ old.place
  pub next_is : new.place ≡ min (old.place + length bytes) (2 ^ 64 - 1)

-- What was found at the front of some bytes.
use Rattle.std.specs.Prelude.{◌≡◌, ℕ, ◌≤◌, List, drop, length, IfOk, ⊤}
use Rattle.httparse.specs.Grammar.{RequestHead, print_request}
use Rattle.sn_http.specs.Fields.{fields_of}
use Rattle.sn_http.specs.Framing.{framing}
use Rattle.sn_http.specs.Options.{token_of, closes}
use Rattle.sn_http.specs.Heads.{IsHead}
use Rattle.sn_http.specs.declared.head.Head.{Head}
use Rattle.sn_http.specs.declared.head.Found.{Found}
use Rattle.sn_http.specs.declared.head.Found.TheVariants.{Head as Whole, NotYet, Never, Memory}

-- the head at the front, as it is kept
pub record IsHeadAt (bytes : List ℕ) (found : Head) : Type 0 where
  pub head : RequestHead
  pub begins : IsHead bytes head (drop found.len bytes)
  pub len : found.len ≡ length (print_request head)
  pub fits : found.len ≤ length bytes
  pub method : found.method ≡ head.method
  pub target : found.target ≡ head.target
  pub token : found.token ≡ token_of (fields_of head.fields)
  pub closing : found.closing ≡ closes head.minor (fields_of head.fields)
  pub body : found.body ≡ framing head.method (fields_of head.fields)
  pub small : IfOk found.body (λ size. size ≤ 8388608)

abbrev pub IfHead : Found → (Head → Type 0) → Type 0
IfHead (Whole head) P = P head
IfHead NotYet P = ⊤
IfHead Never P = ⊤
IfHead Memory P = ⊤

abbrev pub IsNotYet : Found → Type 0
IsNotYet (Whole head) = ⊥
IsNotYet NotYet = ⊤
IsNotYet Never = ⊥
IsNotYet Memory = ⊥

abbrev pub IsNever : Found → Type 0
IsNever (Whole head) = ⊥
IsNever NotYet = ⊥
IsNever Never = ⊤
IsNever Memory = ⊥

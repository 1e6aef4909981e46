-- The input of a command, as one text.
use Rattle.std.specs.Prelude.{◌≡◌, ◌⊎◌, ℕ, ◌+◌, ◌≤◌, ◌^◌, List, [], ◌∷◌, ◌++◌, Some, length}
use Rattle.std.specs.declared.option.Option.{Option}
use Rattle.std.specs.Str.{IsUtf8}
use Rattle.sn_status.specs.declared.refusal.Refusal.TheVariants.{InputLong, InputUtf8}
use Rattle.sn_status.specs.declared.status.Status.{Status}
use Rattle.sn_status.specs.declared.status.Status.TheVariants.{Done, Usage, Refused, DiskFault, LinkFault, ReadFault, WriteFault, Memory, Foreign, Server, BadAnswer}
use Rattle.sn_io.specs.Streams.{GivesAtMost, GivesPart, HasGiven}
use Rattle.sn_items.specs.Utf8.{IsValidTo}

-- the most bytes of an input
abbrev pub MOST_INPUT : ℕ
MOST_INPUT = 2 ^ 24

-- all that is left is this text, of at most so many bytes
pub record HasText (left : Option (List ℕ)) (text : List ℕ) : Type 0 where
  pub is : left ≡ Some text
  pub utf8 : IsUtf8 text
  pub short : length text ≤ MOST_INPUT

-- the whole input was read, as one text
pub record ReadsText (before after : Option (List ℕ)) (text : List ℕ) : Type 0 where
  pub given : HasGiven MOST_INPUT before after text
  pub utf8 : IsUtf8 text

-- the whole input was read, and its longest UTF-8 prefix ends at this place
pub record IsInputUtf8 (before after : Option (List ℕ)) (place : ℕ) : Type 0 where
  pub input : List ℕ
  pub given : HasGiven MOST_INPUT before after input
  pub valid : IsValidTo input place

-- the statuses of an input that is no text, and what of it was read
abbrev pub StopsReading : Status → Option (List ℕ) → Option (List ℕ) → Type 0
StopsReading Done before after = ⊥
StopsReading Usage before after = ⊥
StopsReading (Refused InputLong) before after = GivesPart before after (MOST_INPUT + 1)
StopsReading (Refused (InputUtf8 place)) before after = IsInputUtf8 before after place
StopsReading (Refused refusal) before after = ⊥
StopsReading DiskFault before after = ⊥
StopsReading LinkFault before after = ⊥
StopsReading ReadFault before after = GivesAtMost before after MOST_INPUT
StopsReading WriteFault before after = ⊥
StopsReading Memory before after = GivesAtMost before after (MOST_INPUT + 1)
StopsReading (Foreign unfit) before after = ⊥
StopsReading (Server number tag) before after = ⊥
StopsReading (BadAnswer place) before after = ⊥

-- the text is the input without a line feed at its end
abbrev pub IsOneLine : List ℕ → List ℕ → Type 0
IsOneLine input text =
    (input ≡ text ++ 10 ∷ []) ⊎ ((input ≡ text) × ((front : List ℕ) → ¬ (input ≡ front ++ 10 ∷ [])))

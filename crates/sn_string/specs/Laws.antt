-- What holds of every text.
use Rattle.std.specs.Prelude.{◌≡◌, ◌≢◌, ℕ, List, MatchResult, Result}
use Rattle.sn_string.specs.Grammar.{Is003, Reading}
use Rattle.sn_string.specs.Parts.{reading_of}
use Rattle.sn_string.specs.Refusals.{IsRefusal}
use Rattle.sn_string.specs.declared.reader.Parts.{Parts}
use Rattle.sn_string.specs.declared.reader.StringError.{StringError}
use Rattle.sn_string.specs.declared.reader.StringError.TheVariants as error

-- a text says one thing at most
abbrev pub HasOneReading : Type 0
HasOneReading = (text : List ℕ) (a b : Reading) → Is003 text a → Is003 text b → a ≡ b

-- `read` may answer so
abbrev pub IsOutcome : List ℕ → Result Parts StringError → Type 0
IsOutcome text outcome = MatchResult outcome (λ parts. Is003 text (reading_of parts)) (IsRefusal text)

-- a 003 string is read as what it says, or memory is wanting; so what `write` gives is read back
abbrev pub IsReadBack : Type 0
IsReadBack = (text : List ℕ) (reading : Reading) → Is003 text reading
    → (outcome : Result Parts StringError) → IsOutcome text outcome
    → MatchResult outcome (λ parts. reading_of parts ≡ reading) (λ e. e ≡ error.Memory)

-- a text has one refusal at most, want of memory aside
abbrev pub HasOneRefusal : Type 0
HasOneRefusal = (text : List ℕ) (a b : StringError) → a ≢ error.Memory → b ≢ error.Memory
    → IsRefusal text a → IsRefusal text b → a ≡ b

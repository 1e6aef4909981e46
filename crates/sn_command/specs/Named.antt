-- The command that words name, and its cost.
use Rattle.std.specs.Prelude.{◌≡◌, ◌⊎◌, ℕ, List, codes, Some, None}
use Rattle.std.specs.Fmt.{decimal}
use Rattle.sn_command.specs.Syntax.{Takes, command_named, value_of}

-- the cost where no option gives one
abbrev pub USUAL_COST : ℕ
USUAL_COST = 110000

-- the words give this cost: a decimal without a leading zero, or nothing for the usual one
abbrev pub GivesCost : List (List ℕ) → ℕ → Type 0
GivesCost words cost = (value_of words (codes "cost") ≡ Some (decimal cost))
    ⊎ ((cost ≡ USUAL_COST) × (value_of words (codes "cost") ≡ None))

-- the words name this command, and `clap` takes them
pub record Names (words : List (List ℕ)) (command : List ℕ) : Type 0 where
  pub takes : Takes words
  pub named : command_named words ≡ Some command

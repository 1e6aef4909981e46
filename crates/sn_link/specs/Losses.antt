-- What is lost of the exchanges to come, by their numbers.
use Rattle.std.specs.Prelude.{ℕ, ◌==◌, Bool, false, Option, None, Some, if◌then◌else◌}
use Rattle.sn_link.specs.declared.losses.Losses.{Losses}
use Rattle.sn_link.specs.declared.losses.Lost.{Lost}
use Rattle.sn_link.specs.declared.losses.Lost.TheVariants.{Nothing, Request, Reply}

-- it is the one that is meant
abbrev pub is_meant : Option ℕ → ℕ → Bool
is_meant None number = false
is_meant (Some other) number = other == number

-- what is lost of the exchange of this number; where both are meant its request is
abbrev pub lost_at : Losses → ℕ → Lost
lost_at losses number = if is_meant losses.request number then Request else (if is_meant losses.reply number then Reply else Nothing)

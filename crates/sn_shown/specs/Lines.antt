-- The lines of an account so far.
use Rattle.std.specs.Prelude.{ℕ, List, ◌∷◌}
use Rattle.std.specs.List.{flat_map}
use Rattle.sn_laws.specs.Lookups.{Bytes, last_of}
use Rattle.sn_laws.specs.declared.ideal.Account.{Account}
use Rattle.sn_report.specs.Labels.{Labels}
use Rattle.sn_report.specs.Showing.{account_text, version_lines}

-- an account's line and those of its items among these
abbrev pub lines_so_far : Labels → List Bytes → Account → List (List ℕ)
lines_so_far labels items a = account_text a ∷ flat_map (λ uuid. version_lines labels (last_of uuid a.versions)) items

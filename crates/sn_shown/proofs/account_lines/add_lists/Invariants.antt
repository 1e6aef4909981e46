use Rattle.std.specs.Prelude.{◌≡◌, ◌++◌}
use Rattle.std.specs.List.{flat_map}
use Rattle.sn_shown.proofs.account_lines.add_lists.Given as goal

abbrev pub invariant-lists : goal.invariant-lists
invariant-lists l = l.lines ≡ l.initial.lines ++ flat_map (λ list. list) l.yielded

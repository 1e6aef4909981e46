use Rattle.std.specs.Prelude.{◌≡◌, ◌++◌}
use Rattle.std.specs.BTreeMap.{btree_map_len, values}
use Rattle.sn_shown.proofs.by_label.add_values.Given as goal

abbrev pub invariant-lines : goal.invariant-lines
invariant-lines l = l.lines ++ values l.by_label ≡ l.initial.lines ++ values l.initial.by_label

abbrev pub decreases-lines : goal.decreases-lines
decreases-lines l = btree_map_len l.by_label

use Rattle.std.proofs.Common.{sym, ap, ◌∙◌}
use Rattle.std.specs.List.{flat_map}
use Rattle.std.specs.Map.Iter.{deref_pair}
use Rattle.std.proofs.lemmas.Map.Iter.{rest_all}
use Rattle.sn_row_map.specs.Ranges.{row_of_kind}
use Rattle.sn_row_map.proofs.StepLemmas.{entry_found, entry_passed}
use Rattle.sn_row_map.proofs.row_map.RowMap.first_between.Goals as goal

pub entries-init : goal.entries-init
entries-init c =
    ap (flat_map (row_of_kind c.args.kind)) (sym (c.into_iter-key-iterator.ensures.into_iter_gives ∙ c.range-key-items.ensures.between tt))

pub returns-in-Some-row_of_kind-clause-found : goal.returns-in-Some-row_of_kind-clause-found
returns-in-Some-row_of_kind-clause-found c =
    entry_found c.args.kind _ _ _ _ _ _ c.entries.invariant c.in-Some.ensures.steps c.in-Some-row_of_kind.ensures

pub entries-preserved : goal.entries-preserved
entries-preserved c = entry_passed c.args.kind _ _ _ _ _ c.entries.invariant c.in-Some.ensures.steps c.in_default.ensures

pub returns-clause-found : goal.returns-clause-found
returns-clause-found c = c.entries.invariant ∙ ap (flat_map (row_of_kind c.args.kind)) (rest_all deref_pair _ _ _ c.in-None.is c.next.ensures.steps)

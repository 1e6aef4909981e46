use Rattle.std.proofs.Common.{rules, ◌≡◌, map, ap, ◌∙◌}
use Rattle.std.specs.List.{flat_map}
use Rattle.std.specs.Map.Iter.{deref_pair}
use Rattle.std.proofs.lemmas.Map.Iter.{iter_end}
use Rattle.sn_row_map.specs.Ranges.{row_of_kind}
use Rattle.sn_row_map.proofs.RangeLemmas.{ranges_between}
use Rattle.sn_row_map.proofs.row_map.RowMap.range.Goals as goal

pub returns : goal.returns
returns c =
    let whole : map deref_pair c.entries.yielded ≡ c.range-key-items.result = search (rules, iter_end) in
    ranges_between c.args.self.now c.args.kind c.entries.rows c.bounds_of.result.0 c.bounds_of.result.1 c.range-key-items.ensures.ordered c.bounds_of.ensures.whole
    (c.entries.invariant ∙ ap (flat_map (row_of_kind c.args.kind)) (whole ∙ c.range-key-items.ensures.between tt))

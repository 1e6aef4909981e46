use Rattle.std.proofs.Common.{◌∙◌, subst, take, arith}
use Rattle.std.proofs.lemmas.List.Elements.{All-weaker}
use Rattle.sn_rows.specs.Table.{key_of}
use Rattle.sn_row_map.specs.RowMaps.{IsSwept}
use Rattle.sn_row_map.proofs.ListLemmas.{all_more, all_read}
use Rattle.sn_row_map.proofs.RowLemmas.{tidy_after}
use Rattle.sn_row_map.proofs.row_map.RowMap.sweep_for.Goals as goal

pub swept-preserved : goal.swept-preserved
swept-preserved c = record {
  rows = λ key. c.sweep_one.ensures.rows key ∙ c.swept.invariant.rows key;
  swept = all_more (λ change. IsSwept c.sweep_one.new.self (key_of change)) c.args.changes.now c.swept.change-index c.change-item.result _ (omega arith) c.change-item.is
      (All-weaker (λ change. IsSwept c.swept.self (key_of change)) (λ change. IsSwept c.sweep_one.new.self (key_of change))
      (λ change h. c.sweep_one.ensures.still (key_of change) h) (take c.swept.change-index c.args.changes.now) c.swept.invariant.swept)
      (subst (IsSwept c.sweep_one.new.self) c.key.ensures c.sweep_one.ensures.swept);
  still = λ key h. c.sweep_one.ensures.still key (c.swept.invariant.still key h);
}

pub returns-clause-tidy : goal.returns-clause-tidy
returns-clause-tidy c =
    tidy_after _ _ c.args.changes.now
    (all_read (λ change. IsSwept c.swept.self (key_of change)) c.args.changes.now c.swept.change-index (omega arith) c.swept.invariant.swept) c.swept.invariant.still

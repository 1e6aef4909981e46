use Rattle.std.proofs.Common.{◌∙◌, take, arith}
use Rattle.std.proofs.lemmas.List.Elements.{All-weaker}
use Rattle.sn_row_map.specs.RowMaps.{IsSwept}
use Rattle.sn_row_map.proofs.ListLemmas.{all_more, all_read}
use Rattle.sn_row_map.proofs.RowLemmas.{swept_changes, tidy_after}
use Rattle.sn_row_map.proofs.row_map.RowMap.sweep.Goals as goal

pub swept-preserved : goal.swept-preserved
swept-preserved c = record {
  rows = λ key. c.sweep_one.ensures.rows key ∙ c.swept.invariant.rows key;
  swept = all_more (IsSwept c.sweep_one.new.self) c.args.keys.now c.swept.key-index c.key-item.result _ (omega arith) c.key-item.is
      (All-weaker (IsSwept c.swept.self) (IsSwept c.sweep_one.new.self) c.sweep_one.ensures.still (take c.swept.key-index c.args.keys.now) c.swept.invariant.swept)
      c.sweep_one.ensures.swept;
  still = λ key h. c.sweep_one.ensures.still key (c.swept.invariant.still key h);
}

pub returns-clause-swept : goal.returns-clause-swept
returns-clause-swept c = all_read (IsSwept c.swept.self) c.args.keys.now c.swept.key-index (omega arith) c.swept.invariant.swept

pub returns-clause-tidy : goal.returns-clause-tidy
returns-clause-tidy c = λ changes is.
    tidy_after _ _ changes
    (swept_changes _ _ changes is (all_read (IsSwept c.swept.self) c.args.keys.now c.swept.key-index (omega arith) c.swept.invariant.swept))
    c.swept.invariant.still

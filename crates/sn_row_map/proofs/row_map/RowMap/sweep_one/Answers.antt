use Rattle.std.proofs.Common.{sym, ◌∙◌}
use Rattle.sn_row_map.proofs.RowLemmas.{none_stays, none_found, some_found}
use Rattle.sn_row_map.proofs.row_map.RowMap.sweep_one.Goals as goal

pub returns-then-is_some-clause-swept : goal.returns-then-is_some-clause-swept
returns-then-is_some-clause-swept c = λ h. some_found c.get.result _ (sym c.is_some.ensures ∙ c.if-is_some.true) c.get.ensures

pub returns-clause-rows : goal.returns-clause-rows
returns-clause-rows c = none_stays _ _ _ (none_found c.get.result _ (sym c.is_some.ensures ∙ c.if-is_some.false) c.get.ensures) c.remove.ensures.rows

pub returns-clause-swept : goal.returns-clause-swept
returns-clause-swept c = λ h. absurd (c.remove.ensures.gone h)

use Rattle.std.proofs.Common.{length}
use Rattle.sn_script.proofs.Lists.{is_zero, is_not_zero, last_goes, last_stays, none_stays}
use Rattle.sn_script.proofs.reader.kept.Goals as goal

pub returns-then-is_empty-clause-kept : goal.returns-then-is_empty-clause-kept
returns-then-is_empty-clause-kept c =
    last_goes (λ t. t.now) c.args.texts.now c.in-Some.front.now c.in-Some.last.now c.in-Some.ensures.cases.0
    (is_zero (length c.in-Some.last.now.now) c.if-is_empty.ensures)

pub returns-else-is_empty-clause-kept : goal.returns-else-is_empty-clause-kept
returns-else-is_empty-clause-kept c =
    last_stays (λ t. t.now) c.args.texts.now c.in-Some.front.now c.in-Some.last.now c.in-Some.ensures.cases.0
    (is_not_zero (length c.in-Some.last.now.now) c.if-is_empty.ensures)

pub returns-in-None-clause-kept : goal.returns-in-None-clause-kept
returns-in-None-clause-kept c = none_stays (λ t. t.now) c.args.texts.now c.in-None.ensures.cases

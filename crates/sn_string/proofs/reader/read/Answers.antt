use Rattle.std.proofs.Common.{rules}
use Rattle.sn_string.specs.Parts.{HasForms}
use Rattle.sn_string.specs.Refusals.{IsNoParamsPart}
use Rattle.sn_string.proofs.Places.{params_within, RefusedFor-params}
use Rattle.sn_string.proofs.reader.read.Goals as goal

pub overflow_sub-result : goal.overflow_sub-result
overflow_sub-result c = params_within _ _ _ _ _ _ _ c.in-Some.ensures.some

pub returns-in-Ok-None-clause-err : goal.returns-in-Ok-None-clause-err
returns-in-Ok-None-clause-err c =
    let forms : HasForms c.in-Some.six = search rules in
    let none : IsNoParamsPart c.in-Some.six.params_text.now = search rules in
    RefusedFor-params c.args.text.now c.in-Some.six c.in-Some.ensures.some forms none

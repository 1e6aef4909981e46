use Rattle.std.proofs.Common.{arith}
use Rattle.std.proofs.lemmas.Result.{IfOk-weaker}
use Rattle.serde_json.specs.View.{view}
use Rattle.sn_sync.proofs.Shapes.{IsShallow, answer-shallow}
use Rattle.sn_sync.specs.Written.{IsAnswerData}
use Rattle.sn_sync.proofs.answer_writer.write_answer.Goals as goal
use Rattle.sn_sync.proofs.answer_writer.write_answer.Goals.{in-Account+in_ok-value-in-Account, in-Params+in_ok-value-in-Params, in-Refused+in_ok-value-in-Refused}

pub json_text-requires : goal.json_text-requires
json_text-requires c =
    let said : IsAnswerData c.args.answer.now (view c.match-answer.value) = elim c.match-answer.branch [
      | in-Account+in_ok-value-in-Account w ↦ rw (w.in-Account.is, w.value-is) w.in_ok-value-in-Account.ensures
      | in-Params+in_ok-value-in-Params w ↦ rw (w.in-Params.is, w.value-is) w.in_ok-value-in-Params.ensures
      | in-Refused+in_ok-value-in-Refused w ↦ rw (w.in-Refused.is, w.value-is) w.in_ok-value-in-Refused.ensures
    ] in
    let shallow : IsShallow 4 (view c.match-answer.value) = answer-shallow c.args.answer.now (view c.match-answer.value) said in
    record { whole = shallow.whole; shallow = omega (arith, shallow.levels) }

pub returns : goal.returns
returns c =
    let said : IsAnswerData c.args.answer.now (view c.match-answer.value) = elim c.match-answer.branch [
      | in-Account+in_ok-value-in-Account w ↦ rw (w.in-Account.is, w.value-is) w.in_ok-value-in-Account.ensures
      | in-Params+in_ok-value-in-Params w ↦ rw (w.in-Params.is, w.value-is) w.in_ok-value-in-Params.ensures
      | in-Refused+in_ok-value-in-Refused w ↦ rw (w.in-Refused.is, w.value-is) w.in_ok-value-in-Refused.ensures
    ] in
    IfOk-weaker c.json_text.result _ _ (λ s h. (view c.match-answer.value, said, h)) c.json_text.ensures

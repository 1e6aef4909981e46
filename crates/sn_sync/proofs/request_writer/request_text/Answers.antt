use Rattle.std.proofs.Common.{arith, refl, string_bytes}
use Rattle.std.proofs.lemmas.Result.{IfOk-weaker}
use Rattle.serde_json.specs.View.{view}
use Rattle.sn_sync.proofs.Shapes.{IsShallow, WritesRequest-body, request-shallow}
use Rattle.sn_sync.specs.Written.{IsRequestData}
use Rattle.sn_sync.proofs.request_writer.request_text.Goals as goal
use Rattle.sn_sync.proofs.request_writer.request_text.Goals.{in-Register+in_ok-value-in-Register, in-SignIn+in_ok-value-in-SignIn, in-ChangePw+in_ok-value-in-ChangePw}

pub json_text-requires : goal.json_text-requires
json_text-requires c =
    let said : IsRequestData c.args.request.now (view c.match-request.value) = elim c.match-request.branch [
      | in-Register+in_ok-value-in-Register w ↦ rw (w.in-Register.is, w.value-is) w.in_ok-value-in-Register.ensures
      | in-SignIn+in_ok-value-in-SignIn w ↦ rw (w.in-SignIn.is, w.value-is) w.in_ok-value-in-SignIn.ensures
      | in-ChangePw+in_ok-value-in-ChangePw w ↦ rw (w.in-ChangePw.is, w.value-is) (w.in_ok-value-in-ChangePw.ensures w.in-ChangePw.token)
    ] in
    let shallow : IsShallow 3 (view c.match-request.value) = request-shallow c.args.request.now (view c.match-request.value) said in
    record { whole = shallow.whole; shallow = omega (arith, shallow.levels) }

pub returns : goal.returns
returns c =
    let said : IsRequestData c.args.request.now (view c.match-request.value) = elim c.match-request.branch [
      | in-Register+in_ok-value-in-Register w ↦ rw (w.in-Register.is, w.value-is) w.in_ok-value-in-Register.ensures
      | in-SignIn+in_ok-value-in-SignIn w ↦ rw (w.in-SignIn.is, w.value-is) w.in_ok-value-in-SignIn.ensures
      | in-ChangePw+in_ok-value-in-ChangePw w ↦ rw (w.in-ChangePw.is, w.value-is) (w.in_ok-value-in-ChangePw.ensures w.in-ChangePw.token)
    ] in
    IfOk-weaker c.json_text.result _ _ (λ s. WritesRequest-body c.args.request.now (view c.match-request.value) (string_bytes s) said) c.json_text.ensures

pub returns-in-Sync : goal.returns-in-Sync
returns-in-Sync c =
    IfOk-weaker c.sync_text.result _ _ (λ s h. rw (c.in-Sync.is, ← c.as_slice.ensures) (_, (h.0, h.1, refl), h.2)) c.sync_text.ensures

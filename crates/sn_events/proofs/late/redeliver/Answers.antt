use Rattle.std.proofs.Common.{refl, subst}
use Rattle.sn_http.specs.Answers.{IsAnswer}
use Rattle.sn_laws.specs.Lookups.{Bytes}
use Rattle.sn_events.specs.declared.late.Redelivered.{Redelivered}
use Rattle.sn_events.proofs.Redelivering.{redelivered}
use Rattle.sn_events.proofs.late.redeliver.Goals as goal

pub returns : goal.returns
returns c =
    let made : Redelivered = record { link = c.in_ok-link.link; place = c.in_ok-link.place; batches = c.in-Ok.field-0.batches; status = c.in_ok-status.status } in
    let (body, heard) = c.in_ok-status.ensures.read in
    redelivered c.args.link c.set_now.new.self c.args.place c.args.now c.args.request.now c.new-recording.result c.deliver_again.new.self c.in-Ok.field-0 body made c.set_now.ensures.held
    c.set_now.ensures.now c.new-recording.ensures.link c.new-recording.ensures.place c.in-Ok.ensures.again c.in-Ok.ensures.gains c.in_ok-link.ensures.0
    (subst (λ (bytes : Bytes). IsAnswer bytes made.status body) c.as_slice.ensures heard) c.in_ok-status.ensures.other refl

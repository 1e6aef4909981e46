use Rattle.std.proofs.Common.{refl}
use Rattle.std.proofs.KnownBytes.{Appends-nil}
use Rattle.sn_server.proofs.server.Server.serve_message.Goals as goal

pub returns-in-Ok-clause-ends : goal.returns-in-Ok-clause-ends
returns-in-Ok-clause-ends g c = λ kept stands.
    let (made, rule, stands_now) = c.in-Done.ensures.replied kept stands in
    (c.now-now.result, made, c.in-Done.reply, rule, stands_now, c.in-Ok.ensures.ok, c.now-now.ensures, refl)

pub returns-in-Done-clause-ends : goal.returns-in-Done-clause-ends
returns-in-Done-clause-ends g c = λ kept stands.
    let (made, rule, stands_now) = c.in-Done.ensures.replied kept stands in
    (c.in-Err.ensures.cause.failed, (c.now-now.result, made, c.in-Done.reply, rule, stands_now, c.in-Err.ensures.err, c.now-now.ensures))

pub returns-clause-ends : goal.returns-clause-ends
returns-clause-ends g c = λ kept stands.
    let (made, reply, rule, either) = c.in-Broken.ensures.replied kept stands in
    (c.now-now.result, made, reply, rule, either, Appends-nil _, c.now-now.ensures)

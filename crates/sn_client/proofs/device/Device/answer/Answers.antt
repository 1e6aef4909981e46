use Rattle.std.proofs.Common.{sym, subst}
use Rattle.sn_client.specs.Calls.{IsOpen, MayHave}
use Rattle.sn_client.specs.declared.called.Called.TheVariants as called
use Rattle.sn_device.specs.declared.error.ClientError.{ClientError}
use Rattle.sn_client.proofs.CallLemmas.{Answers, answers_broken, answers_done, answers_refused}
use Rattle.sn_client.proofs.device.Device.answer.Goals as goal

pub returns-in-Done-clause-ends : goal.returns-in-Done-clause-ends
returns-in-Done-clause-ends g c = λ kept what left gives opens.
    answers_done IsOpen (MayHave g.D.Disk.told g.D.Disk.may_leave) gives kept what left c.args.changes.items c.args.given c.in-Done.device c.in-Done.ensures.fits.0
    (c.in-Done.ensures.done kept opens)

pub returns-in-Refused-clause-ends : goal.returns-in-Refused-clause-ends
returns-in-Refused-clause-ends g c = λ kept what left gives opens.
    subst (λ (why : ClientError). Answers IsOpen (MayHave g.D.Disk.told g.D.Disk.may_leave) gives kept what left c.args.changes.items c.args.given (called.Refused c.in-Refused.device why))
    (sym c.of_commit.ensures)
    (answers_refused IsOpen (MayHave g.D.Disk.told g.D.Disk.may_leave) gives kept what left c.args.changes.items c.args.given c.in-Refused.device c.in-Refused.error
    c.in-Refused.ensures.cause (c.in-Refused.ensures.stays kept opens))

pub returns-in-Broken-clause-ends : goal.returns-in-Broken-clause-ends
returns-in-Broken-clause-ends g c = λ kept what left gives opens.
    answers_broken (IsOpen {D = g.row.D.Denot} {g = g.D.Disk}) (MayHave g.D.Disk.told g.D.Disk.may_leave) gives kept what left c.args.changes.items c.args.given c.in-Broken.disk c.in-Broken.ensures.fits.1
    (c.in-Broken.ensures.broken kept opens)

pub returns-in-Refused-clause-cause : goal.returns-in-Refused-clause-cause
returns-in-Refused-clause-cause g c = (c.in-Refused.error, c.in-Refused.ensures.cause, c.of_commit.ensures)

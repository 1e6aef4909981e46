use Rattle.std.proofs.Common.{None}
use Rattle.sn_replay.proofs.Steps.{losses_next}
use Rattle.sn_replay.proofs.losses.losses_of.Goals as goal

pub fates-preserved : goal.fates-preserved
fates-preserved c =
    losses_next (record { request = None; reply = None }) c.fates.losses c.losses_with-losses.result c.args.fates.now c.fates.fate-index _ c.fates-test.true
    c.fates.invariant c.losses_with-losses.ensures

use Rattle.std.proofs.Common.{◌+◌, ◌<◌, arith}
use Rattle.sn_account.specs.States.{state_rows}
use Rattle.sn_account.specs.Unsound.{HasSoundAccount}
use Rattle.sn_account.proofs.SoundKinds.{not_true}
use Rattle.sn_account.proofs.Upto.{below_more, upto_all, upto_not}
use Rattle.sn_account.proofs.soundness.are_there.Goals as goal

pub returns-then-not-is_there : goal.returns-then-not-is_there
returns-then-not-is_there c =
    upto_not (HasSoundAccount (state_rows c.args.state.now)) c.args.count c.accounts.number (omega arith) (omega arith)
    (not_true c.is_there.result c.is_there.ensures c.if-not-is_there.true)

pub accounts-preserved : goal.accounts-preserved
accounts-preserved c =
    below_more (HasSoundAccount (state_rows c.args.state.now)) c.accounts.number c.accounts.invariant (c.is_there.ensures.0 c.if-not-is_there.false)

pub returns-else-not-is_there : goal.returns-else-not-is_there
returns-else-not-is_there c =
    let last : c.args.count < c.accounts.number + 1 = omega arith in
    upto_all (HasSoundAccount (state_rows c.args.state.now)) c.args.count (c.accounts.number + 1) last
    (below_more (HasSoundAccount (state_rows c.args.state.now)) c.accounts.number c.accounts.invariant (c.is_there.ensures.0 c.if-not-is_there.false))

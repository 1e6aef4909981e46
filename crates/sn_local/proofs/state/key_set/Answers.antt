use Rattle.std.proofs.Common.{arith}
use Rattle.sn_device.proofs.Facts.{lengths}
use Rattle.sn_local.proofs.state.key_set.Goals as goal

pub unreachable-requires : goal.unreachable-requires
unreachable-requires c =
    let identifier = lengths 1 254 c.args.owner.now.identifier c.args.owner.now.identifier_fits in
    let nonce = lengths 1 256 c.args.keys.now.pw_nonce c.args.keys.now.nonce_fits in
    let cost = c.args.keys.now.cost_fits in
    let most = c.args.keys.now.cost_bounded in
    grind (arith, c.in-None.ensures.within, c.in_ok-identifier.ensures, c.in_ok-nonce.ensures)

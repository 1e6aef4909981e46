use Rattle.std.proofs.Common.{arith}
use Rattle.sn_account.proofs.PresentLemmas.{lengths}
use Rattle.sn_account.proofs.accounts.params_of.Goals as goal

pub unreachable-requires : goal.unreachable-requires
unreachable-requires c =
    let identifier = lengths 1 254 c.args.account.now.identifier c.args.account.now.identifier_fits in
    let nonce = lengths 1 256 c.args.generation.now.pw_nonce c.args.generation.now.nonce_fits in
    grind (arith, c.in-None.ensures.within, c.in_ok-identifier.ensures, c.in_ok-nonce.ensures)

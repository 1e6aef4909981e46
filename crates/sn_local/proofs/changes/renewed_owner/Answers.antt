use Rattle.sn_local.proofs.RenewLemmas.{renewed_fits}
use Rattle.sn_local.proofs.changes.renewed_owner.Goals as goal

pub unreachable-requires : goal.unreachable-requires
unreachable-requires c =
    let some = c.in_default.ensures.within.1 (renewed_fits c.args.owner.now c.in_ok-identifier.identifier c.args.token c.in_ok-sync_token.sync_token
    c.in_ok-cursor_token.cursor_token c.in_ok-identifier.ensures c.in_ok-sync_token.ensures c.in_ok-cursor_token.ensures c.requires) in
    absurd cc

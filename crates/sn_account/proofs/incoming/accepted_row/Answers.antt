use Rattle.sn_account.proofs.IncomingLemmas.{fits_row, no_row}
use Rattle.sn_account.proofs.incoming.accepted_row.Goals as goal

pub unreachable-requires : goal.unreachable-requires
unreachable-requires c =
    let fits = fits_row c.args.item.now.body c.args.item.now.kind c.as_str-kind.result.now c.content_of-content.result.now c.enc_of-enc.result.now
    c.is_deleted-deleted.result c.requires.within.kind c.requires.short c.as_str-kind.ensures c.is_deleted-deleted.ensures
    c.content_of-content.ensures c.enc_of-enc.ensures in
    no_row c.in_ok-found.found c.in-None.is c.in_ok-found.ensures.within (fits.0, fits.1, c.requires.created, c.requires.stamp, fits.2, fits.3)

use Rattle.std.proofs.Common.{inr, refl}
use Rattle.sn_drafts.proofs.looking.standing_item.Goals as goal

pub returns-then-is_deleted-clause-err : goal.returns-then-is_deleted-clause-err
returns-then-is_deleted-clause-err g c =
    (inr (c.in-Some.number, c.in-Some.item.now, c.in-Some.ensures.some, c.is_deleted.ensures.0 c.if-is_deleted.true), refl)

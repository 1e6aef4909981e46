use Rattle.sn_drafts.proofs.LookLemmas.{deleted_by}
use Rattle.sn_drafts.proofs.looking.is_deleted.Goals as goal

pub returns-in-Some : goal.returns-in-Some
returns-in-Some c = deleted_by c.args.item.now.latest c.in-Some.version c.is_deletion.result c.in-Some.is c.is_deletion.ensures

use Rattle.std.proofs.Common.{codes, ap}
use Rattle.serde_json.specs.Find.{get}
use Rattle.sn_json.specs.Views.{view}
use Rattle.sn_sync.specs.Items as items
use Rattle.sn_sync.specs.Items.{SaysCreated}
use Rattle.sn_sync.specs.Members.{SaysStamp}
use Rattle.sn_sync.specs.Refusals.{Lacks}
use Rattle.sn_sync.specs.Standings.{standing_of}
use Rattle.sn_sync.proofs.Chains.{IfErr-exit, Lacks-created}
use Rattle.sn_sync.proofs.item_reader.created_in.Goals as goal

pub returns-in_err-stamp_in-in-Stored-clause-err :
    goal.returns-in_err-stamp_in-in-Stored-clause-err
returns-in_err-stamp_in-in-Stored-clause-err c =
    let m = get (codes "created_at") (view c.args.value) in
    rw (ap standing_of c.in-Stored.is) (IfErr-exit (Lacks (SaysStamp m) (codes "created_at")) (Lacks (SaysCreated items.stored m) (codes "created_at"))
    c.from_residual.result c.in_err-stamp_in-in-Stored.field-0.0 c.from_residual.ensures.1
    (Lacks-created m (codes "created_at")) c.in_err-stamp_in-in-Stored.ensures.err)

use Rattle.std.proofs.Common.{IfOk, Option, subst, sym}
use Rattle.sn_rows.specs.declared.body.RowBody.{RowBody}
use Rattle.sn_device.specs.Listing.{IsMarked}
use Rattle.sn_drafts.proofs.lines.marked.Goals as goal

pub returns-in-Some : goal.returns-in-Some
returns-in-Some c =
    let P : Option RowBody → Type 0 = λ v. IfOk c.marked_by_draft.result (λ found. IsMarked c.args.sets.now c.args.item.now v c.args.item.now.body found.0 found.1) in
    subst P (sym c.in-Some.is) c.marked_by_draft.ensures

use Rattle.std.proofs.Common.{◌↔◌, IfOk, IsTrue, Some, subst, sym}
use Rattle.sn_rows.specs.declared.body.RowBody.{RowBody}
use Rattle.sn_device.specs.States.{NamesVersion}
use Rattle.sn_soundness.proofs.soundness.names_body.Goals as goal

pub returns-in-Sealed : goal.returns-in-Sealed
returns-in-Sealed c =
    let P : RowBody → Type 0 = λ b. IfOk c.names_both.result (λ named. IsTrue named ↔ NamesVersion c.args.uuid (Some b)) in
    subst P (sym c.in-Sealed.is) c.names_both.ensures

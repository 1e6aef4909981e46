use Rattle.std.proofs.Common.{◌↔◌, IfOk, IsTrue, Option, subst, sym}
use Rattle.sn_rows.specs.declared.body.RowBody.{RowBody}
use Rattle.sn_device.specs.States.{NamesVersion}
use Rattle.sn_soundness.proofs.soundness.names_version.Goals as goal

pub returns-in-Some : goal.returns-in-Some
returns-in-Some c =
    let P : Option RowBody → Type 0 = λ v. IfOk c.names_body.result (λ named. IsTrue named ↔ NamesVersion c.args.uuid v) in
    subst P (sym c.in-Some.is) c.names_body.ensures

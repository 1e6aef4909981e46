use Rattle.std.specs.Prelude.{Option, Some}
use Rattle.std.proofs.Common.{sym, ◌∙◌, subst}
use Rattle.std.proofs.Math.Path.{fun_ext}
use Rattle.sn_rows.specs.Table.{Rows}
use Rattle.sn_rows.specs.declared.kind.RowKind.{RowKind}
use Rattle.sn_account.specs.States.{state_rows}
use Rattle.sn_account.specs.Unsound.{IsFirstUnsound}
use Rattle.sn_server.proofs.server.Server.check.Goals as goal

pub first_unsound-requires-clause-kinds : goal.first_unsound-requires-clause-kinds
first_unsound-requires-clause-kinds g c = λ k v is. c.requires.kinds k v (sym (c.in-Ok.ensures.rows k) ∙ is)

pub returns-in-Ok-Some-clause-refused : goal.returns-in-Ok-Some-clause-refused
returns-in-Ok-Some-clause-refused g c = (
  c.requires.some,
  subst (λ (r : Rows). IsFirstUnsound r (Some c.in-Ok-Some.kind)) (fun_ext c.in-Ok.ensures.rows)
      (subst (λ (o : Option RowKind). IsFirstUnsound (state_rows c.in-Ok.state) o) c.in-Ok-Some.field-0-is c.in-Ok-Some.ensures),
)

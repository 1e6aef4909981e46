use Rattle.std.proofs.Common.{◌≡◌, ◌∙◌, IfOk, fold, ap, subst}
use Rattle.clap.specs.Simple.{App, app_of}
use Rattle.sn_command.specs.Rows.{with_command_row}
use Rattle.sn_command.specs.Syntax.{sn_app}
use Rattle.sn_command.proofs.syntax.sn.Goals as goal

pub returns : goal.returns
returns c =
    let rows = c.command_rows.result in
    let whole : fold with_command_row (app_of c.in_ok-top.field-0) rows ≡ sn_app =
    ap (λ (a : App). fold with_command_row a rows) c.in_ok-top.ensures ∙ c.command_rows.ensures in
    subst (λ (a : App). IfOk c.with_commands.result (λ command. app_of command ≡ a)) whole c.with_commands.ensures

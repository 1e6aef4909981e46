use Rattle.std.proofs.Common.{◌≡◌, fold, take}
use Rattle.clap.specs.Simple.{app_of}
use Rattle.sn_command.specs.Rows.{with_command_row}
use Rattle.sn_command.proofs.syntax.with_commands.Given as goal

abbrev pub invariant-loop-row : goal.invariant-loop-row
invariant-loop-row l = app_of l.command ≡ fold with_command_row (app_of l.initial.command) (take l.row-index l.rows)

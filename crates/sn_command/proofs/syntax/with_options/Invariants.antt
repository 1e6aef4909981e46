use Rattle.std.proofs.Common.{◌≡◌, fold, take, false}
use Rattle.clap.specs.Simple.{app_of}
use Rattle.clap.specs.declared.builder.command.Command.TheViews.{out-Command}
use Rattle.sn_command.specs.Rows.{with_option_row}
use Rattle.sn_command.proofs.syntax.with_options.Given as goal

abbrev pub invariant-loop-row : goal.invariant-loop-row
invariant-loop-row l = (app_of l.command ≡ fold with_option_row (app_of l.initial.command) (take l.row-index l.rows))
    × ((out-Command l.command).has_globals ≡ false)

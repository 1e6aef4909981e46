use Rattle.std.proofs.Common.{ℕ, List, [], Bor}
use Rattle.clap.specs.Simple.{app_of}
use Rattle.sn_command.specs.Rows.{with_command_row}
use Rattle.sn_command.specs.declared.commands.CommandRow.{CommandRow}
use Rattle.sn_command.proofs.RowFolds.{fold_end, fold_next}
use Rattle.sn_command.proofs.syntax.with_commands.Goals as goal

pub loop-row-preserved : goal.loop-row-preserved
loop-row-preserved c =
    let text : Bor (List ℕ) = record { ref_ptr = (0, 0); now = [] } in
    let shown : CommandRow = record { name = text; about = text; options = record { ref_ptr = (0, 0); now = [] } } in
    let row : Bor CommandRow = record { ref_ptr = (0, 0); now = shown } in
    fold_next with_command_row (app_of c.args.start) (app_of c.loop-row.command) (app_of c.in_ok-command.command) c.args.rows.now c.loop-row.row-index row
    c.loop-row-test.true c.in_ok-command.ensures c.loop-row.invariant

pub returns : goal.returns
returns c =
    fold_end with_command_row (app_of c.args.start) (app_of c.loop-row.command) c.args.rows.now c.loop-row.row-index c.loop-row-test.false
    c.loop-row.invariant

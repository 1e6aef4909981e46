use Rattle.sn_account.specs.States.{state_rows}
use Rattle.sn_server.proofs.Handles.{if_written}
use Rattle.sn_server.proofs.handling.prepare.Goals as goal

pub returns-clause-rule : goal.returns-clause-rule
returns-clause-rule c = if_written (state_rows c.args.state.now) c.args.request.now c.args.now c.in_ok-ruled.ruled.changes c.in_ok-ruled.ruled.answer c.args.closing c.written.result c.written.ensures.changes c.written.ensures.reply c.in_ok-ruled.ensures.rule

use Rattle.sn_command.specs.Words.{texts}
use Rattle.sn_command.proofs.command_line.command_of.Goals as goal

pub returns-clause-command : goal.returns-clause-command
returns-clause-command c = c.asked.ensures.command (texts c.args.words.now) c.in-Err.ensures.not_taken

pub returns-clause-none : goal.returns-clause-none
returns-clause-none c = c.asked.ensures.none (texts c.args.words.now) c.in-Err.ensures.not_taken

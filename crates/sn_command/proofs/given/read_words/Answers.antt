use Rattle.clap.specs.Simple.{app_of}
use Rattle.sn_command.specs.Words.{texts}
use Rattle.sn_command.proofs.Givens.{given_of, none_given, not_taken_by}
use Rattle.sn_command.proofs.given.read_words.Goals as goal

pub returns-in-Ok-try_get_matches_from-clause-given : goal.returns-in-Ok-try_get_matches_from-clause-given
returns-in-Ok-try_get_matches_from-clause-given c =
    let read = c.in-Ok-try_get_matches_from in
    given_of (app_of c.in-Ok.command) (texts c.args.words.now) read.matches c.given_by.result c.in-Ok.ensures
    read.ensures.kinds read.ensures.matches c.given_by.ensures.given

pub returns-in-Ok-try_get_matches_from-clause-not_taken : goal.returns-in-Ok-try_get_matches_from-clause-not_taken
returns-in-Ok-try_get_matches_from-clause-not_taken c =
    let read = c.in-Ok-try_get_matches_from in
    none_given (app_of c.in-Ok.command) (texts c.args.words.now) read.matches c.given_by.result c.in-Ok.ensures
    read.ensures.kinds read.ensures.matches c.given_by.ensures.none

pub returns-in-Err-clause-not_taken : goal.returns-in-Err-clause-not_taken
returns-in-Err-clause-not_taken c =
    not_taken_by (app_of c.in-Ok.command) (texts c.args.words.now) c.in-Err.error c.not_taken.result c.in-Ok.ensures
    c.in-Err.ensures.kinds c.not_taken.ensures

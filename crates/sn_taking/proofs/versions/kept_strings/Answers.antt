use Rattle.sn_sets.specs.Sets.{sealed_of}
use Rattle.sn_taking.proofs.VersionLemmas.{kept_again, kept_so}
use Rattle.sn_taking.proofs.versions.kept_strings.Goals as goal

pub returns-in-Some-clause-ok : goal.returns-in-Some-clause-ok
returns-in-Some-clause-ok c =
    kept_again c.args.sets.now c.args.words.now c.rewrap_older.new.words c.args.uuid (sealed_of c.args.given) _ c.in-Some.again c.in-Some.is
    c.in_ok-again.ensures.some

pub returns-in-None-clause-ok : goal.returns-in-None-clause-ok
returns-in-None-clause-ok c =
    kept_so c.args.sets.now c.args.words.now c.rewrap_older.new.words c.args.uuid c.args.given _ c.in-None.is c.in_ok-again.ensures.none

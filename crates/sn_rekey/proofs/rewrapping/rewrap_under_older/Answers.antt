use Rattle.std.proofs.Common.{refl}
use Rattle.sn_rekey.proofs.RowLemmas.{none_under_older, nowhere_alone, some_under_older}
use Rattle.sn_rekey.proofs.rewrapping.rewrap_under_older.Goals as goal

pub returns-in-Some-clause-some : goal.returns-in-Some-clause-some
returns-in-Some-clause-some c =
    some_under_older c.rewrap_under.result c.args.sets.now c.in-Some.older c.args.to.now c.args.words.now c.args.uuid c.args.sealed.now c.rewrap_under.new.words
    c.requires.closed c.in-Some.is c.rewrap_under.ensures.some

pub returns-in-Some-clause-none : goal.returns-in-Some-clause-none
returns-in-Some-clause-none c =
    none_under_older c.rewrap_under.result c.args.sets.now c.in-Some.older c.args.words.now c.args.uuid c.args.sealed.now c.rewrap_under.new.words
    c.requires.closed c.in-Some.is c.rewrap_under.ensures.none

pub returns-in-None-clause-none : goal.returns-in-None-clause-none
returns-in-None-clause-none c = (nowhere_alone c.args.sets.now c.args.uuid c.args.sealed.now c.requires.closed c.in-None.is, refl)

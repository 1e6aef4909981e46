use Rattle.std.proofs.Common.{string_bytes}
use Rattle.sn_sets.proofs.SetLemmas.{held_older, nowhere_alone, nowhere_older}
use Rattle.sn_sets.proofs.sets.Sets.open_older.Goals as goal

pub returns-in-Some-clause-some : goal.returns-in-Some-clause-some
returns-in-Some-clause-some c =
    held_older string_bytes c.args.self.now c.args.uuid c.args.sealed.now c.in-Some.older c.open_under.result c.requires c.in-Some.is c.open_under.ensures.some

pub returns-in-Some-clause-none : goal.returns-in-Some-clause-none
returns-in-Some-clause-none c =
    nowhere_older c.args.self.now c.args.uuid c.args.sealed.now c.in-Some.older c.open_under.result c.requires c.in-Some.is c.open_under.ensures.none

pub returns-in-None-clause-none : goal.returns-in-None-clause-none
returns-in-None-clause-none c = nowhere_alone c.args.self.now c.args.uuid c.args.sealed.now c.requires c.in-None.is

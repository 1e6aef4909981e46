use Rattle.sn_conflict.proofs.CheckLemmas.{no_stamp, stamp_none, stamp_once, stamp_some}
use Rattle.sn_conflict.proofs.checking.stamp_of.Goals as goal

pub returns-in-Some : goal.returns-in-Some
returns-in-Some c =
    let some = stamp_some c.args.item.now c.in-Some.text c.read_stamp.result c.in-Some.is (rw c.as_str.ensures at c.read_stamp.ensures.some) in
    record {
      some = some;
      one = stamp_once c.args.item.now c.read_stamp.result some;
      none = stamp_none c.args.item.now c.in-Some.text c.read_stamp.result c.in-Some.is (rw c.as_str.ensures at c.read_stamp.ensures.none);
    }

pub returns-in-None-clause-none : goal.returns-in-None-clause-none
returns-in-None-clause-none c = no_stamp c.args.item.now c.in-None.is

use Rattle.sn_string.specs.Lent.{lent_params}
use Rattle.sn_string.proofs.PartFacts.{part_none, part_same}
use Rattle.sn_string.proofs.params_part.is_part_of.Goals as goal

pub returns-in-Some : goal.returns-in-Some
returns-in-Some c = part_same c.args.part.now (lent_params c.in-Some.lent) c.args.params.now c.are.result c.in-Some.ensures c.are.ensures

pub returns-in-Some-2 : goal.returns-in-Some-2
returns-in-Some-2 c =
    part_same c.args.part.now c.in-Some-2.found c.args.params.now c.same.result (rw c.in-Some-2.is at c.in_ok-found.ensures.some) c.same.ensures

pub returns-in-None : goal.returns-in-None
returns-in-None c = part_none c.args.part.now c.args.params.now (rw c.in-None.is at c.in_ok-found.ensures.none)

use Rattle.sn_string.proofs.NamingFacts.{named_under, named_under_none}
use Rattle.sn_string.proofs.naming.names_uuid_under.Goals as goal

pub returns-in-Some : goal.returns-in-Some
returns-in-Some c =
    named_under c.args.text.now c.args.uuid c.args.params.now c.in-Some.six c.is_part_of.result c.in-Some.ensures.parts c.in-Some.ensures.forms c.is_part_of.ensures

pub returns-in-None : goal.returns-in-None
returns-in-None c = named_under_none c.args.text.now c.args.uuid c.args.params.now c.in-None.ensures.none

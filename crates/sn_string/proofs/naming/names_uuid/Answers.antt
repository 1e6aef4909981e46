use Rattle.sn_string.proofs.NamingFacts.{named_none, named_six}
use Rattle.sn_string.proofs.naming.names_uuid.Goals as goal

pub returns-in-Some : goal.returns-in-Some
returns-in-Some c =
    named_six c.args.text.now c.args.uuid c.in-Some.six c.is_params_part.result c.in-Some.ensures.parts c.in-Some.ensures.forms c.is_params_part.ensures

pub returns-in-None : goal.returns-in-None
returns-in-None c = named_none c.args.text.now c.args.uuid c.in-None.ensures.none

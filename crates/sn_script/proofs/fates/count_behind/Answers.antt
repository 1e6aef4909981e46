use Rattle.std.proofs.Common.{Some, None}
use Rattle.sn_script.proofs.Ordinals.{named_read, not_named, stripped_text}
use Rattle.sn_script.proofs.fates.count_behind.Goals as goal

pub returns-in-Some : goal.returns-in-Some
returns-in-Some c =
    named_read c.args.word.now c.args.name.now c.in-Some.rest.now c.count_of.result
    (stripped_text c.args.name.now c.args.word.now (Some c.in-Some.rest) c.in-Some.ensures.cases) c.count_of.ensures

pub returns-in-None : goal.returns-in-None
returns-in-None c =
    not_named c.args.word.now c.args.name.now (stripped_text c.args.name.now c.args.word.now None c.in-None.ensures.cases)

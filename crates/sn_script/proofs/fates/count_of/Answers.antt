use Rattle.std.proofs.Common.{Some, None, lit<, length}
use Rattle.std.proofs.lemmas.Str.Pattern.{strip_prefix_char}
use Rattle.sn_script.proofs.Lists.{is_zero, is_not_zero}
use Rattle.sn_script.proofs.Ordinals.{count_read, first_count, no_count}
use Rattle.sn_script.proofs.fates.count_of.Goals as goal

pub returns-then-is_empty : goal.returns-then-is_empty
returns-then-is_empty c = first_count c.args.rest.now (is_zero (length c.args.rest.now) c.if-is_empty.ensures)

pub returns-in-Some : goal.returns-in-Some
returns-in-Some c =
    count_read c.args.rest.now c.in-Some.number.now c.ordinal_of.result
    (strip_prefix_char 61 c.args.rest.now (Some c.in-Some.number) c.in-Some.ensures.cases (lit< tt)) c.ordinal_of.ensures

pub returns-in-None : goal.returns-in-None
returns-in-None c =
    no_count c.args.rest.now (is_not_zero (length c.args.rest.now) c.if-is_empty.ensures)
    (strip_prefix_char 61 c.args.rest.now None c.in-None.ensures.cases (lit< tt))

use Rattle.std.proofs.Common.{Some, None, lit<}
use Rattle.std.proofs.lemmas.Str.Pattern.{strip_prefix_char}
use Rattle.sn_script.proofs.Ordinals.{label_read, no_label}
use Rattle.sn_script.proofs.words.label_of.Goals as goal

pub returns-in-Some : goal.returns-in-Some
returns-in-Some c =
    label_read c.args.word.now c.in-Some.number.now c.ordinal_of.result
    (strip_prefix_char 35 c.args.word.now (Some c.in-Some.number) c.in-Some.ensures.cases (lit< tt)) c.ordinal_of.ensures

pub returns-in-None : goal.returns-in-None
returns-in-None c = no_label c.args.word.now (strip_prefix_char 35 c.args.word.now None c.in-None.ensures.cases (lit< tt))

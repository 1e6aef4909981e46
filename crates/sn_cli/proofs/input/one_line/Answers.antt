use Rattle.std.proofs.Common.{arith, refl, inr, None}
use Rattle.std.proofs.lemmas.Str.Pattern.{strip_suffix_char}
use Rattle.sn_cli.proofs.input.one_line.Goals as goal

pub returns-in-None : goal.returns-in-None
returns-in-None c = inr (refl, strip_suffix_char 10 c.args.text.now None c.in-None.ensures.cases (omega arith))

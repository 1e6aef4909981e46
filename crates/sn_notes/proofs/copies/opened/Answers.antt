use Rattle.std.proofs.Common.{arith}
use Rattle.std.proofs.lemmas.Str.Pattern.{strip_suffix_char}
use Rattle.sn_notes.proofs.CopyLemmas.{opened_found}
use Rattle.sn_notes.proofs.copies.opened.Goals as goal

pub returns-clause-some : goal.returns-clause-some
returns-clause-some c =
    let split = strip_suffix_char 125 c.trimmed.result.now c.strip_suffix.result c.strip_suffix.ensures.cases (omega arith) in
    (opened_found c.args.text.now c.trimmed.result.now c.strip_suffix.result c.trimmed.ensures split).0

pub returns-clause-none : goal.returns-clause-none
returns-clause-none c =
    let split = strip_suffix_char 125 c.trimmed.result.now c.strip_suffix.result c.strip_suffix.ensures.cases (omega arith) in
    (opened_found c.args.text.now c.trimmed.result.now c.strip_suffix.result c.trimmed.ensures split).1

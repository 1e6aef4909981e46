use Rattle.sn_rows.proofs.TextLemmas.{within}
use Rattle.sn_rows.proofs.texts.is_str_within.Goals as goal

pub returns-then-least-text-clause-test : goal.returns-then-least-text-clause-test
returns-then-least-text-clause-test c =
    within c.args.text.now c.args.least c.args.most c.utf8.text c.if-least-text.true

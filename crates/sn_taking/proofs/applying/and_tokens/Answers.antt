use Rattle.std.proofs.Common.{◌∙◌}
use Rattle.sn_taking.proofs.ApplyLemmas.{and_more}
use Rattle.sn_taking.proofs.applying.and_tokens.Goals as goal

pub returns-clause-ok : goal.returns-clause-ok
returns-clause-ok c = (
  c.in_ok-counted.counted,
  c.in_ok-counted.ensures,
  c.into_vec.ensures
      ∙ and_more c.args.taken.changes c.push.new.self c.push_some.new.changes c.in_ok-counted.counted c.args.gone c.in_ok-push.ensures.ok
      c.in_ok-push_some.ensures,
)

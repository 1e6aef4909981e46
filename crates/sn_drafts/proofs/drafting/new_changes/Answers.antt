use Rattle.std.proofs.lemmas.Result.{IfOk-weaker}
use Rattle.sn_drafts.proofs.drafting.new_changes.Goals as goal

pub returns-clause-made : goal.returns-clause-made
returns-clause-made c =
    IfOk-weaker c.put_both.result _ _ (λ changes both. (c.in_ok-strings.strings, c.in_ok-strings.ensures.sealed, both)) c.put_both.ensures

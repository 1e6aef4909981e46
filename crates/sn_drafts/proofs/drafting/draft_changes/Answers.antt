use Rattle.std.proofs.lemmas.Result.{IfOk-weaker}
use Rattle.sn_drafts.proofs.drafting.draft_changes.Goals as goal

pub returns-clause-made : goal.returns-clause-made
returns-clause-made c =
    IfOk-weaker c.one_change.result _ _ (λ changes are. (
      c.in_ok-strings.strings,
      c.in_ok-strings.ensures.sealed,
      record { change = c.in_ok-change.change; change_is = c.in_ok-change.ensures; changes_are = are },
    )) c.one_change.ensures

use Rattle.std.proofs.Common.{codes, inl, inr}
use Rattle.serde_json.specs.Find.{get}
use Rattle.sn_json.specs.Views.{view}
use Rattle.sn_sync.specs.Answers.{RefusesSynced}
use Rattle.sn_sync.specs.Items.{RefusesList, stored}
use Rattle.sn_sync.specs.Members.{SaysText}
use Rattle.sn_sync.specs.Refusals.{Lacks}
use Rattle.sn_sync.proofs.Chains.{IfErr-exit}
use Rattle.sn_sync.proofs.answer_reader.synced.Goals as goal

pub returns-in_err-saved-clause-err : goal.returns-in_err-saved-clause-err
returns-in_err-saved-clause-err c =
    let d = view c.args.body in
    IfErr-exit (RefusesList stored (codes "saved_items") (get (codes "saved_items") d)) (RefusesSynced d)
    c.from_residual-in_err-saved.result c.in_err-saved.field-0.0 c.from_residual-in_err-saved.ensures.1
    (λ e wrong. inr (
      (_, c.in_ok-conflicts.ensures.ok),
      inr (
        (_, c.in_ok-cursor_token.ensures.ok),
        inr ((_, c.in_ok-retrieved.ensures.ok), inl wrong),
      ),
    ))
    c.in_err-saved.ensures.err

pub returns-in_err-sync_token-clause-err : goal.returns-in_err-sync_token-clause-err
returns-in_err-sync_token-clause-err c =
    let d = view c.args.body in
    IfErr-exit (Lacks (SaysText (get (codes "sync_token") d)) (codes "sync_token")) (RefusesSynced d)
    c.from_residual-in_err-sync_token.result c.in_err-sync_token.field-0.0 c.from_residual-in_err-sync_token.ensures.1
    (λ e lacks. inr (
      (_, c.in_ok-conflicts.ensures.ok),
      inr (
        (_, c.in_ok-cursor_token.ensures.ok),
        inr (
          (_, c.in_ok-retrieved.ensures.ok),
          inr ((_, c.in_ok-saved.ensures.ok), inl lacks),
        ),
      ),
    ))
    c.in_err-sync_token.ensures.err

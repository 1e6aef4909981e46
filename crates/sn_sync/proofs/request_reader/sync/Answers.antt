-- The searches for these two steps run near their limits, so the steps are written out.
use Rattle.std.proofs.Common.{inl, inr, codes}
use Rattle.std.proofs.lemmas.Result.{err_from_is_err_and}
use Rattle.sn_json.specs.Views.{view}
use Rattle.sn_sync.specs.Requests.{RefusesSync}
use Rattle.sn_sync.proofs.Causes.{Caused-weaker}
use Rattle.sn_sync.proofs.request_reader.sync.Goals as goal

pub returns-in_err-limit-clause-err : goal.returns-in_err-limit-clause-err
returns-in_err-limit-clause-err c =
    let exit = err_from_is_err_and c.from_residual-in_err-limit.result c.from_residual-in_err-limit.ensures.1 in
    rw (exit.1, exit.2) (Caused-weaker _ (RefusesSync (view c.args.body)) c.in_err-limit.field-0.0
    (λ e h. inr (
      (codes "20190520", c.in_ok-word_in.ensures.ok),
      inr (
        (c.in_ok-cursor_token.cursor_token, c.in_ok-cursor_token.ensures.ok),
        inr ((c.in_ok-items.items, c.in_ok-items.ensures.ok), inl h),
      ),
    )) c.in_err-limit.ensures.err)

pub returns-in_err-sync_token-clause-err : goal.returns-in_err-sync_token-clause-err
returns-in_err-sync_token-clause-err c =
    let exit = err_from_is_err_and c.from_residual-in_err-sync_token.result c.from_residual-in_err-sync_token.ensures.1 in
    rw (exit.1, exit.2) (Caused-weaker _ (RefusesSync (view c.args.body)) c.in_err-sync_token.field-0.0
    (λ e h. inr (
      (codes "20190520", c.in_ok-word_in.ensures.ok),
      inr (
        (c.in_ok-cursor_token.cursor_token, c.in_ok-cursor_token.ensures.ok),
        inr ((c.in_ok-items.items, c.in_ok-items.ensures.ok), inr ((c.in_ok-limit.limit, c.in_ok-limit.ensures.ok), inl h)),
      ),
    )) c.in_err-sync_token.ensures.err)

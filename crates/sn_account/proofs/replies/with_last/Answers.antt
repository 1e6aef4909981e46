use Rattle.std.proofs.Common.{◌≢◌, [], length, ap, inr}
use Rattle.sn_account.proofs.replies.with_last.Goals as goal

pub returns : goal.returns
returns c =
    let some : c.args.changes ≢ [] = λ none. (let e = c.is_empty.ensures.1 (ap length none) in absurd cc) in
    inr (
      some,
      (
        c.put_store.result,
        c.in-Some.row,
        c.put_store.ensures,
        c.in-Some.ensures.parts.0,
        c.in-Some.ensures.parts.2,
        c.in-Some.ensures.parts.1,
        c.in_ok-push.ensures.ok,
      ),
    )

use Rattle.std.proofs.Common.{◌≢◌, ◌∙◌, inl, inr, refl}
use Rattle.sn_keys.specs.Keys.{check_value}
use Rattle.sn_account.specs.Rules.{IsBadAuth}
use Rattle.sn_account.specs.States.{state_rows}
use Rattle.sn_account.proofs.PasswordLemmas.{password_changed}
use Rattle.sn_account.proofs.passwords.change_password.Goals as goal

pub returns-then-not-has_password : goal.returns-then-not-has_password
returns-then-not-has_password c = λ store has.
    let other : c.in-Some-account.account.now.check ≢ check_value c.args.current.now =
    λ same. let holds = c.if-not-has_password.ensures.1 same in cc in
    let refuses : IsBadAuth c.unchanged-then-not-has_password.result.changes c.unchanged-then-not-has_password.result.answer =
    (c.unchanged-then-not-has_password.ensures.changes, c.unchanged-then-not-has_password.ensures.answer ∙ c.refused-then-not-has_password.ensures) in
    inr (inl (
      c.in-Some.number,
      c.in-Some-account.account.now,
      rw c.in-Some.is at c.in_ok-number.ensures.some,
      c.in-Some-account.ensures.some,
      other,
      refuses,
    ))

pub returns : goal.returns
returns c = λ store has.
    password_changed (state_rows c.args.state.now) store c.args.token.now c.args.current.now c.args.pw.now c.args.cost c.args.nonce.now
    c.in-Some.number c.in-Some-account.account.now c.change_keys.result (rw c.in-Some.is at c.in_ok-number.ensures.some)
    c.in-Some-account.ensures.some (c.if-not-has_password.ensures.0 refl) (c.change_keys.ensures store has)

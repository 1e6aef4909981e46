use Rattle.std.proofs.Common.{rules, ◌≡◌, true, false}
use Rattle.sn_account.specs.States.{state_rows}
use Rattle.sn_account.proofs.SignInLemmas.{admits, rejects}
use Rattle.sn_account.proofs.accounts.sign_in.Goals as goal

pub returns-then-not-has_password : goal.returns-then-not-has_password
returns-then-not-has_password c =
    let not : c.has_password.result ≡ false = search rules in
    λ store stands.
    rejects (state_rows c.args.state.now) store c.args.identifier.now c.args.pw.now c.in-Some.number c.account_of-account.result.now
    c.has_password.result c.refused-then-not-has_password.result c.in-Some.ensures.some c.account_of-account.ensures c.has_password.ensures not
    c.refused-then-not-has_password.ensures

pub returns : goal.returns
returns c =
    let same : c.has_password.result ≡ true = search rules in
    λ store stands.
    admits (state_rows c.args.state.now) store c.store_of.result.now c.args.identifier.now c.args.pw.now c.in-Some.number
    c.account_of-account.result.now c.has_password.result c.admitted.result stands c.store_of.ensures c.in-Some.ensures.some
    c.account_of-account.ensures c.has_password.ensures same c.admitted.ensures

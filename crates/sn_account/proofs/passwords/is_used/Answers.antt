use Rattle.std.proofs.Common.{◌≤◌, ◌<◌, ◌+◌, arith}
use Rattle.sn_account.specs.States.{state_rows}
use Rattle.sn_account.proofs.PasswordLemmas.{had_none_more, not_used}
use Rattle.sn_account.proofs.passwords.is_used.Goals as goal

pub generations-preserved : goal.generations-preserved
generations-preserved c =
    had_none_more (state_rows c.args.state.now) c.args.number c.args.nonce.now c.generations.generation c.generations.invariant
    (λ had. let e = c.if-had_nonce.ensures.1 had in cc)

pub returns-else-had_nonce : goal.returns-else-had_nonce
returns-else-had_nonce c =
    let last : c.args.account.now.generation ≤ c.generations.generation = omega arith in
    let none = had_none_more (state_rows c.args.state.now) c.args.number c.args.nonce.now c.generations.generation c.generations.invariant
    (λ had. let e = c.if-had_nonce.ensures.1 had in cc) in (
      λ holds. cc,
      λ used. absurd (not_used (state_rows c.args.state.now) c.args.number c.args.account.now c.args.nonce.now c.requires.sound c.requires.there
          (λ g low upto. let below : g < c.generations.generation + 1 = omega arith in none g low below) used),
    )

use Rattle.sn_account.proofs.BehindLemmas.{not_old_not_behind, old_is_behind, IsOld}
use Rattle.std.proofs.Common.{◌∙◌, sym}
use Rattle.sn_account.proofs.passwords.uuid_behind.Goals as goal

pub returns-then-branch-clause-some : goal.returns-then-branch-clause-some
returns-then-branch-clause-some c = (
  c.in-Item-Item.is-0,
  λ rows there. old_is_behind rows c.args.number c.args.present.now c.in-Item-Item.uuid c.in-Item-Item.item c.args.key.now c.args.value.now
      c.in-Item-Item.is-0 c.in-Item-Item.is-1 (c.in_ok-is_behind.ensures.0 c.if-branch.true) there,
)

pub returns-else-branch-clause-none : goal.returns-else-branch-clause-none
returns-else-branch-clause-none c = λ rows uuid there named.
    let new : ¬ (IsOld c.in-Item-Item.item c.args.number c.args.present.now) =
    λ old. let e = sym c.if-branch.false ∙ c.in_ok-is_behind.ensures.1 old in cc in
    not_old_not_behind rows c.args.number c.args.present.now uuid c.in-Item-Item.item c.args.key.now c.args.value.now c.in-Item-Item.is-1
    new there named

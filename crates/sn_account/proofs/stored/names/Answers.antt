use Rattle.std.proofs.Common.{◌≡◌, ◌∙◌, ℕ, sym, subst, eqb-true, eq-eqb}
use Rattle.sn_sync.specs.Stamps.{IsStampText}
use Rattle.sn_sync.proofs.Facts.{one_stamp}
use Rattle.sn_account.specs.Lookups.{Bytes}
use Rattle.sn_account.proofs.stored.names.Goals as goal

pub returns-in-Ok : goal.returns-in-Ok
returns-in-Ok c =
    let reads : IsStampText c.in-Some.text c.in-Ok.stamp = subst (λ (t : Bytes). IsStampText t c.in-Ok.stamp) c.as_str.ensures c.in-Ok.ensures.ok in (
      λ same. (c.in-Some.text, subst (λ (n : ℕ). IsStampText c.in-Some.text n) (eqb-true c.in-Ok.stamp c.updated.result same ∙ c.updated.ensures) reads, c.in-Some.is),
      λ named. let text : named.0 ≡ c.in-Some.text = cc in
          let spelled : IsStampText c.in-Some.text c.args.row.now.updated = subst (λ (t : Bytes). IsStampText t c.args.row.now.updated) text named.1 in
          eq-eqb c.in-Ok.stamp c.updated.result (one_stamp c.in-Some.text c.in-Ok.stamp c.args.row.now.updated reads spelled ∙ sym c.updated.ensures),
    )

pub returns-in-Err : goal.returns-in-Err
returns-in-Err c = (
  λ no. absurd cc,
  λ named. let text : named.0 ≡ c.as_str.result.now = (let e : named.0 ≡ c.in-Some.text = cc in e ∙ sym c.as_str.ensures) in
      absurd (c.in-Err.ensures.err c.args.row.now.updated (subst (λ (t : Bytes). IsStampText t c.args.row.now.updated) text named.1)),
)

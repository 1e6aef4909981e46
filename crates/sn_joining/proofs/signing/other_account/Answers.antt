use Rattle.std.proofs.Common.{List, ℕ, ap, inr, sym, ◌∙◌}
use Rattle.std.proofs.lemmas.Bool.{false≢true}
use Rattle.std.specs.Cmp.Lexicographic.{bytes_decides}
use Rattle.sn_device.specs.declared.error.ClientError.TheVariants as refusal
use Rattle.sn_joining.proofs.signing.other_account.Goals as goal

pub returns-in-Ok-clause-some : goal.returns-in-Ok-clause-some
returns-in-Ok-clause-some g c =
    let is = bytes_decides c.as_str.result.now c.args.identifier.now in inr (
      c.in_ok-owner.owner.now,
      c.in_ok-owner.ensures.some,
      (λ same. false≢true (sym c.if-eq.false ∙ (c.eq.ensures ∙ is.1 (c.as_str.ensures ∙ same)))),
      ap (λ (i : List ℕ). refusal.OtherAccount i) c.in-Ok.ensures,
    )

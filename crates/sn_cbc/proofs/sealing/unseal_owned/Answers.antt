use Rattle.std.proofs.Common.{rules, refl, ◌≡◌, ◌-◌, length, take, sym, ap, subst, ◌∙◌}
use Rattle.sn_cbc.specs.Cbc.{IsChained, IsPadded, padded, padding_count, AreBytes, IsWhole}
use Rattle.sn_cbc.proofs.PaddingLemmas.{padded-unpadded, is_padded}
use Rattle.sn_cbc.proofs.UniqueLemmas.{one_text, padded_bytes}
use Rattle.sn_cbc.proofs.sealing.unseal_owned.Goals as goal

pub returns-in-Some-clause-ok : goal.returns-in-Some-clause-ok
returns-in-Some-clause-ok c =
    let text = c.decrypted-text.result.items in
    let chained : IsChained c.args.key.now c.args.iv.now text c.args.bytes.items = search rules in
    let ends : IsPadded text c.in-Some.count = search rules in
    let kept : c.truncate.new.self.items ≡ take (length text - c.in-Some.count) text = search rules in
    subst (λ t. IsChained c.args.key.now c.args.iv.now t c.args.bytes.items)
    (sym (ap padded kept ∙ padded-unpadded text c.in-Some.count chained.whole ends)) chained

pub returns-in-None-clause-padding : goal.returns-in-None-clause-padding
returns-in-None-clause-padding c is =
    let text = c.decrypted-text.result.items in
    let chained : IsChained c.args.key.now c.args.iv.now text c.args.bytes.items = search rules in
    let whole : IsWhole c.args.bytes.items = search rules in
    let bytes_small : AreBytes c.args.bytes.items = subst AreBytes c.deref.ensures.value c.is_whole.ensures.bytes in
    let text_small : AreBytes text = subst AreBytes c.deref-2.ensures.value c.padding_of.ensures.bytes in (
      whole,
      λ plain small found.
          let same : padded plain ≡ text = one_text c.args.key.now c.args.iv.now (padded plain) text c.args.bytes.items c.told-iv c.fits-iv bytes_small
          (padded_bytes plain small) text_small found chained in
          c.in-None.ensures.none refl (padding_count plain) (subst (λ t. IsPadded t (padding_count plain)) (same ∙ sym c.deref-2.ensures.value) (is_padded plain)),
    )

use Rattle.std.specs.Prelude.{string_bytes}
use Rattle.std.proofs.Common.{inr, refl, subst}
use Rattle.sn_items.specs.declared.sealed.Sealed.{Sealed}
use Rattle.sn_sets.specs.Sets.{OpensHeld, OpensNowhere}
use Rattle.sn_drafts.proofs.LookLemmas.{reads_shown}
use Rattle.sn_drafts.proofs.looking.shown_text.Goals as goal

pub returns-in-Some-2-clause-ok : goal.returns-in-Some-2-clause-ok
returns-in-Some-2-clause-ok c =
    let opened : OpensHeld c.args.sets.now c.args.item.now.uuid c.in_ok-sealed.sealed (string_bytes c.in-Some-2.text) = rw c.in-Some-2.is at c.in_ok-text.ensures.some in (
      c.in-Some.strings.now,
      c.in-Some.ensures.some,
      subst (λ (s : Sealed). OpensHeld c.args.sets.now c.args.item.now.uuid s (string_bytes c.in-Some-2.text)) c.in_ok-sealed.ensures opened,
    )

pub nonce_of-requires : goal.nonce_of-requires
nonce_of-requires c = reads_shown c.args.item.now c.in-Some.strings.now c.requires.sound c.requires.undeleted c.in-Some.ensures.some

pub returns-clause-err : goal.returns-clause-err
returns-clause-err c =
    let none : OpensNowhere c.args.sets.now c.args.item.now.uuid c.in_ok-sealed.sealed = rw c.in_default-2.is at c.in_ok-text.ensures.none in
    inr (
      c.in_ok-nonce.nonce,
      (c.in-Some.strings.now, c.in-Some.ensures.some, subst (λ (s : Sealed). OpensNowhere c.args.sets.now c.args.item.now.uuid s) c.in_ok-sealed.ensures none, c.in_ok-nonce.ensures),
      refl,
    )

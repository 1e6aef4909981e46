use Rattle.std.proofs.Common.{◌≡◌, arith, refl, ◌∙◌, length-set, sym, take_all}
use Rattle.sn_aes.specs.Cipher.{key_words, expanded}
use Rattle.sn_aes.proofs.KeyLemmas.{key_words_more, expanded_more}
use Rattle.sn_aes.proofs.key_schedule.expand.Goals as goal

pub first-init : goal.first-init
unfolding key_words
first-init c = (refl, refl)

pub first-preserved : goal.first-preserved
first-preserved c = (
  length-set c.first.words c.first.i _ ∙ c.first.invariant.0,
  key_words_more c.args.key.now c.first.words c.first.i _ (omega arith) c.first.invariant.1 c.from_be_bytes.ensures,
)

pub next-init : goal.next-init
unfolding expanded
next-init c =
    let done : c.first.i ≡ 8 = omega (arith, c.first.auto.i-end) in
    (c.first.invariant.0, rw done at c.first.invariant.1)

pub next-preserved : goal.next-preserved
next-preserved c = (
  length-set c.next.words c.next.i _ ∙ c.next.invariant.0,
  expanded_more c.args.key.now c.next.words c.next.i _ (omega arith) (omega arith) c.next.invariant.1 c.added_word.ensures,
)

pub returns : goal.returns
returns c =
    let done : c.next.i ≡ 60 = omega (arith, c.next.auto.i-end (omega arith)) in
    let whole = take_all c.next.i c.next.words (omega (arith, c.next.invariant.0)) in
    rw done at (sym whole ∙ c.next.invariant.1)

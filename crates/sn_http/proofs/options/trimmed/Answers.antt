use Rattle.std.proofs.Common.{◌≡◌, ℕ, List, length, reverse, slice_range, refl, sym, ap, ◌∙◌, arith}
use Rattle.std.proofs.lemmas.List.{reverse-reverse}
use Rattle.httparse.specs.Grammar.{skip_ows, trim_ows}
use Rattle.httparse.proofs.TrimLemmas.{skip_ows_yes, skip_ows_no, slice_first, slice_last, slice_empty}
use Rattle.sn_http.proofs.options.trimmed.Goals.{then-loop-start-test+else-is_white, else-loop-start-test, then-loop-end-test+else-is_white-2, else-loop-end-test}
use Rattle.sn_http.proofs.options.trimmed.Goals as goal

pub loop-start-preserved : goal.loop-start-preserved
loop-start-preserved c = (
  omega arith,
  refl,
  c.loop-start.invariant.2 ∙ skip_ows_yes (slice_first _ _ _ c.loop-start-test.true (omega arith)) c.if-is_white.ensures,
)

pub loop-end-init : goal.loop-end-init
unfolding trim_ows
loop-end-init c =
    let text = c.args.text.now in
    let here = slice_range text c.loop-start.start (length text) in
    let stays : skip_ows here ≡ here =
    elim c.loop-start-test.branch [
      | then-loop-start-test+else-is_white w ↦ skip_ows_no (slice_first text _ _ w.loop-start-test.true (omega arith)) w.if-is_white.ensures
      | else-loop-start-test w ↦
          let empty = slice_empty text c.loop-start.start (length text) (omega (arith, w.loop-start-test.false, c.loop-start.invariant.0)) (omega arith) in
          ap skip_ows empty ∙ sym empty
    ] in (
      c.loop-start.invariant.0,
      omega arith,
      ap (λ (t : List ℕ). reverse (skip_ows (reverse t))) (c.loop-start.invariant.2 ∙ stays),
    )

pub loop-end-preserved : goal.loop-end-preserved
loop-end-preserved c = (
  omega (arith, c.loop-end-test.true),
  omega (arith, c.loop-end.invariant.1),
  c.loop-end.invariant.2 ∙ ap reverse (skip_ows_yes (slice_last c.args.text.now _ _ c.loop-end-test.true c.loop-end.invariant.1) c.if-is_white-2.ensures),
)

pub returns : goal.returns
returns c =
    let text = c.args.text.now in
    let here = slice_range text c.loop-start.start c.loop-end.end in
    let stays : skip_ows (reverse here) ≡ reverse here =
    elim c.loop-end-test.branch [
      | then-loop-end-test+else-is_white-2 w ↦ skip_ows_no (slice_last text _ _ w.loop-end-test.true c.loop-end.invariant.1) w.if-is_white-2.ensures
      | else-loop-end-test w ↦
          let empty = slice_empty text c.loop-start.start c.loop-end.end (omega (arith, w.loop-end-test.false, c.loop-end.invariant.0)) c.loop-end.invariant.1 in
          ap (λ (t : List ℕ). skip_ows (reverse t)) empty ∙ sym (ap reverse empty)
    ] in
    sym (c.loop-end.invariant.2 ∙ ap reverse stays ∙ reverse-reverse _)

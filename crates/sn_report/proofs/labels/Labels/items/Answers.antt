use Rattle.std.proofs.Common.{◌≡◌, ◌+◌, ◌∙◌, ap, sym, List, ℕ}
use Rattle.sn_report.specs.Labels.{label_from}
use Rattle.sn_report.proofs.ItemLemmas.{item_known, item_new}
use Rattle.sn_report.proofs.labels.Labels.items.Goals as goal
use Rattle.sn_report.proofs.labels.Labels.items.Goals.{then-label-place+in_ok-push, else-label-place}

pub loop-place-preserved : goal.loop-place-preserved
loop-place-preserved c =
    let made : List (List ℕ) = c.as_slice-made.result.now in
    let uuid : List ℕ = c.index-made-place.result in
    let place : ℕ = c.loop-place.place in
    let label : label_from 1 made uuid ≡ c.label.result = ap (λ (ls : List (List ℕ)). label_from 1 ls uuid) c.as_slice-made.ensures ∙ sym c.label.ensures in
    elim c.if-label-place.branch [
      | then-label-place+in_ok-push w ↦
          item_new made c.loop-place.items.items c.if-label-place.items.items place uuid c.loop-place-test.true c.index-made-place.is
          (label ∙ w.if-label-place.true) c.loop-place.invariant (ap (λ v. v.items) w.items-is ∙ w.in_ok-push.ensures.items)
      | else-label-place w ↦
          ap (λ v. v.items) w.items-is
          ∙ item_known made c.loop-place.items.items place uuid c.loop-place-test.true c.index-made-place.is
          (λ same. w.if-label-place.false (sym label ∙ same)) c.loop-place.invariant
    ]

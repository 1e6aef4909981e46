use Rattle.std.proofs.Common.{◌≡◌, ◌-◌, ◌+◌, ◌∷◌, Bor, List, ℕ, [], drop, get_or, length, map, take}
use Rattle.std.specs.List.{join_with_byte}
use Rattle.sn_script.specs.Grammar.{IsFate, IsLoss}
use Rattle.sn_script.proofs.Lists.{rest_is}
use Rattle.sn_script.proofs.Losses.{all_lost, next_loss, no_text, no_text_at, text_at}
use Rattle.sn_script.proofs.Ordinals.{absent, missing, present}
use Rattle.sn_script.proofs.texts.text_behind.Goals as goal

pub returns-in-Some-2 : goal.returns-in-Some-2
returns-in-Some-2 c =
    let words = c.args.words.now in
    let place = c.loop-place.place in
    let d : Bor (List ℕ) = record { ref_ptr = (0, 0); now = [] } in
    let first : List ℕ = (get_or words place d).now in
    let rest : List (Bor (List ℕ)) = take (length words - (place + 1)) (drop (place + 1) words) in
    let is = present (IsFate first) (λ text. (¬ (IsFate first)) × (text ≡ join_with_byte 32 (first ∷ map (λ w. w.now) rest)))
    c.in_ok-text.field-0 c.in-Some-2.text c.in_ok-text.ensures c.in-Some-2.is in
    text_at (λ w. w.now) words place d c.loop-place.fates rest c.in-Some-2.text c.loop-place-test.true c.loop-place.invariant
    (rest_is (place + 1) words) is.0 is.1

pub returns-in-None : goal.returns-in-None
returns-in-None c =
    let words = c.args.words.now in
    let place = c.loop-place.place in
    let d : Bor (List ℕ) = record { ref_ptr = (0, 0); now = [] } in
    let first : List ℕ = (get_or words place d).now in
    let rest : List (Bor (List ℕ)) = take (length words - (place + 1)) (drop (place + 1) words) in
    no_text_at (λ w. w.now) words place d c.loop-place.fates c.loop-place-test.true c.loop-place.invariant
    (absent (IsLoss first) c.loss_of.result c.loss_of.ensures c.in_default.not-Some)
    (missing (IsFate first) (λ text. (¬ (IsFate first)) × (text ≡ join_with_byte 32 (first ∷ map (λ w. w.now) rest)))
    c.in_ok-text.field-0 c.in_ok-text.ensures c.in-None.is)

pub loop-place-preserved : goal.loop-place-preserved
loop-place-preserved c =
    let d : Bor (List ℕ) = record { ref_ptr = (0, 0); now = [] } in
    next_loss (λ w. w.now) c.args.words.now c.loop-place.fates c.push.new.self c.loop-place.place d c.in-Some.fate
    c.loop-place-test.true c.loop-place.invariant c.in-Some.ensures c.in_ok-push.ensures.ok

pub returns : goal.returns
returns c =
    no_text (map (λ w. w.now) c.args.words.now) c.loop-place.fates
    (all_lost (λ w. w.now) c.args.words.now c.loop-place.fates c.loop-place.place c.loop-place-test.false c.loop-place.invariant)

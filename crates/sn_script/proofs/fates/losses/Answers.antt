use Rattle.std.proofs.Common.{Bor, List, ℕ, [], get_or}
use Rattle.sn_script.specs.Grammar.{IsLoss}
use Rattle.sn_script.proofs.Losses.{next_loss, not_all_lost}
use Rattle.sn_script.proofs.Ordinals.{absent}
use Rattle.sn_script.proofs.fates.losses.Goals as goal

pub returns-in_default : goal.returns-in_default
returns-in_default c =
    let words = c.args.words.now in
    let place = c.loop-word.word-index in
    let d : Bor (List ℕ) = record { ref_ptr = (0, 0); now = [] } in
    not_all_lost (λ w. w.now) words place d c.loop-word-test.true
    (absent (IsLoss (get_or words place d).now) c.loss_of.result c.loss_of.ensures c.in_default.not-Some)

pub loop-word-preserved : goal.loop-word-preserved
loop-word-preserved c =
    let d : Bor (List ℕ) = record { ref_ptr = (0, 0); now = [] } in
    next_loss (λ w. w.now) c.args.words.now c.loop-word.fates c.push.new.self c.loop-word.word-index d c.in-Some.fate
    c.loop-word-test.true c.loop-word.invariant c.in-Some.ensures c.in_ok-push.ensures.ok

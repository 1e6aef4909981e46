use Rattle.std.proofs.Common.{Bor, List, ℕ, [], arith, get_or, map}
use Rattle.sn_script.proofs.CommandFacts.{both_words, late_is}
use Rattle.sn_script.proofs.commands.late_line.Goals as goal

pub returns-in_ok-of-in-Some : goal.returns-in_ok-of-in-Some
returns-in_ok-of-in-Some c =
    let words = c.args.words.now in
    let d : Bor (List ℕ) = record { ref_ptr = (0, 0); now = [] } in
    late_is (map (λ w. w.now) words) (get_or words 0 d).now (get_or words 1 d).now c.in_ok-of-in-Some.field-0 c.in-Some.request
    (both_words (λ w. w.now) words d (omega arith)) (c.is_name.ensures.0 c.if-not-is_name.false) c.in_ok-of-in-Some.ensures c.in-Some.ensures

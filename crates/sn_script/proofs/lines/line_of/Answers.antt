use Rattle.std.proofs.Common.{◌-◌, ◌≡◌, ◌<◌, Bor, List, ℕ, [], codes, true, false, drop, get_or, length, map, subst, sym, take, IfOk}
use Rattle.std.specs.Option.{MatchOption}
use Rattle.sn_script.specs.Grammar.{IsLine}
use Rattle.sn_script.specs.Scripts.{MayStandAt}
use Rattle.sn_script.specs.declared.script.Line.{Line}
use Rattle.sn_script.proofs.CommandFacts.{one_word}
use Rattle.sn_script.proofs.ScriptFacts.{no_later_seed, stands}
use Rattle.sn_script.proofs.lines.line_of.Goals as goal

pub returns-then-is_later_seed : goal.returns-then-is_later_seed
returns-then-is_later_seed c =
    let words = c.args.words.now in
    let d : Bor (List ℕ) = record { ref_ptr = (0, 0); now = [] } in
    let parts = one_word (λ w. w.now) words d c.in-len1-up.len_at_least in
    let late = c.is_later_seed.ensures.0 c.if-is_later_seed.true in
    λ l is. no_later_seed c.args.place (get_or words 0 d).now (map (λ w. w.now) (take (length words - 1) (drop 1 words))) l late.0 late.1
    (subst (λ ws. IsLine ws l) parts is.0) is.1

pub returns-else-is_later_seed : goal.returns-else-is_later_seed
returns-else-is_later_seed c =
    let words = c.args.words.now in
    let place = c.args.place in
    let d : Bor (List ℕ) = record { ref_ptr = (0, 0); now = [] } in
    let rest : List (List ℕ) = map (λ w. w.now) (take (length words - 1) (drop 1 words)) in
    let Found : List (List ℕ) → Type 0 = λ ws. IfOk c.command_line.result (λ found. MatchOption found
    ((l : Line) → ¬ (IsLine ws l × MayStandAt place l)) (λ l. IsLine ws l × MayStandAt place l)) in
    let no_seed : ¬ ((0 < place) × ((get_or words 0 d).now ≡ codes "seed")) = λ late.
    (let yes : c.is_later_seed.result ≡ true = c.is_later_seed.ensures.1 late in
    let no : c.is_later_seed.result ≡ false = c.if-is_later_seed.false in absurd (cc)) in
    subst Found (sym (one_word (λ w. w.now) words d c.in-len1-up.len_at_least))
    (stands place (get_or words 0 d).now rest c.command_line.result no_seed c.command_line.ensures)

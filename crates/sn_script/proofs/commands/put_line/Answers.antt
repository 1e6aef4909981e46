use Rattle.std.proofs.Common.{◌-◌, Bor, List, ℕ, [], drop, get_or, length, map, take}
use Rattle.sn_script.specs.Grammar.{IsTextBehind}
use Rattle.sn_script.specs.declared.script.Fate.{Fate}
use Rattle.sn_script.specs.declared.texts.TextBehind.{TextBehind}
use Rattle.sn_script.proofs.CommandFacts.{no_put_text, one_word}
use Rattle.sn_script.proofs.Ordinals.{missing}
use Rattle.sn_script.proofs.commands.put_line.Goals as goal

pub returns-in-None : goal.returns-in-None
returns-in-None c =
    let words = c.args.words.now in
    let d : Bor (List ℕ) = record { ref_ptr = (0, 0); now = [] } in
    let rest : List (List ℕ) = map (λ w. w.now) (take (length words - 1) (drop 1 words)) in
    let parts = one_word (λ w. w.now) words d c.in-len1-up.len_at_least in
    let No : Type 0 = (fates : List Fate) (text : List ℕ) → ¬ (IsTextBehind rest fates text) in
    let Found : TextBehind → Type 0 = λ t. IsTextBehind rest t.fates t.text in
    no_put_text (map (λ w. w.now) words) (get_or words 0 d).now rest parts
    (missing No Found c.in_ok-fates-in-len1-up.field-0 c.in_ok-fates-in-len1-up.ensures c.in-None.is)

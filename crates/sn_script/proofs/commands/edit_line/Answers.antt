use Rattle.std.proofs.Common.{◌-◌, Bor, List, ℕ, [], drop, get_or, length, map, take}
use Rattle.sn_script.specs.Grammar.{IsLabel, IsTextBehind}
use Rattle.sn_script.specs.declared.script.Fate.{Fate}
use Rattle.sn_script.specs.declared.texts.TextBehind.{TextBehind}
use Rattle.sn_script.proofs.CommandFacts.{edit_is, no_edit_label, no_edit_text, two_words}
use Rattle.sn_script.proofs.Ordinals.{absent, missing, present}
use Rattle.sn_script.proofs.commands.edit_line.Goals as goal

pub returns-in_default-label_of : goal.returns-in_default-label_of
returns-in_default-label_of c =
    let words = c.args.words.now in
    let d : Bor (List ℕ) = record { ref_ptr = (0, 0); now = [] } in
    let rest : List (List ℕ) = map (λ w. w.now) (take (length words - 2) (drop 2 words)) in
    let parts = two_words (λ w. w.now) words d c.in-len2-up.len_at_least in
    no_edit_label (map (λ w. w.now) words) (get_or words 0 d).now (get_or words 1 d).now rest parts
    (absent (IsLabel (get_or words 1 d).now) c.label_of.result c.label_of.ensures c.in_default-label_of.not-Some)

pub returns-in_ok-of-in-Some-2 : goal.returns-in_ok-of-in-Some-2
returns-in_ok-of-in-Some-2 c =
    let words = c.args.words.now in
    let d : Bor (List ℕ) = record { ref_ptr = (0, 0); now = [] } in
    let rest : List (List ℕ) = map (λ w. w.now) (take (length words - 2) (drop 2 words)) in
    let parts = two_words (λ w. w.now) words d c.in-len2-up.len_at_least in
    let No : Type 0 = (fates : List Fate) (text : List ℕ) → ¬ (IsTextBehind rest fates text) in
    let Found : TextBehind → Type 0 = λ t. IsTextBehind rest t.fates t.text in
    edit_is (map (λ w. w.now) words) (get_or words 0 d).now (get_or words 1 d).now c.in_ok-of-in-Some-2.field-0 rest c.in-Some.label
    c.in-Some-2.field-0.fates c.in-Some-2.field-0.text parts (c.is_name.ensures.0 c.if-not-is_name.false) c.in_ok-of-in-Some-2.ensures
    c.in-Some.ensures (present No Found c.in_ok-fates-in-len2-up.field-0 c.in-Some-2.field-0 c.in_ok-fates-in-len2-up.ensures c.in-Some-2.is)

pub returns-in-None : goal.returns-in-None
returns-in-None c =
    let words = c.args.words.now in
    let d : Bor (List ℕ) = record { ref_ptr = (0, 0); now = [] } in
    let rest : List (List ℕ) = map (λ w. w.now) (take (length words - 2) (drop 2 words)) in
    let parts = two_words (λ w. w.now) words d c.in-len2-up.len_at_least in
    let No : Type 0 = (fates : List Fate) (text : List ℕ) → ¬ (IsTextBehind rest fates text) in
    let Found : TextBehind → Type 0 = λ t. IsTextBehind rest t.fates t.text in
    no_edit_text (map (λ w. w.now) words) (get_or words 0 d).now (get_or words 1 d).now rest parts
    (missing No Found c.in_ok-fates-in-len2-up.field-0 c.in_ok-fates-in-len2-up.ensures c.in-None.is)

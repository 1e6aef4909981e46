use Rattle.std.proofs.Common.{◌≡◌, ℕ, List, ◌∷◌, ◌++◌, ap, sym, ◌∙◌}
use Rattle.std.specs.Char.{encode_utf8}
use Rattle.std.specs.Fmt.{decimal}
use Rattle.sn_report.specs.Labels.{relabelled}
use Rattle.sn_report.proofs.FrontLemmas.{label_first, character_first, written_piece}
use Rattle.sn_report.proofs.labels.Labels.write_front.Goals as goal

pub returns-in-Some-clause-written : goal.returns-in-Some-clause-written
returns-in-Some-clause-written c =
    written_piece _ _ (35 ∷ decimal c.in-Some.number) _ _ c.in_ok-write.ensures.bytes
    (label_first c.args.self.now c.args.text.now (35 ∷ decimal c.in-Some.number) c.requires c.in-Some.ensures.label
    ∙ ap (λ (xs : List ℕ). (35 ∷ decimal c.in-Some.number) ++ relabelled c.args.self.now xs) (sym c.in-Some.ensures.behind))

pub returns-clause-written : goal.returns-clause-written
returns-clause-written c =
    let piece : c.args.text.now ≡ encode_utf8 c.in-Some-next.character ++ c.as_str.result.now =
    sym c.chars-characters.ensures.rest ∙ c.in-Some-next.ensures.steps.0 ∙ ap (λ (xs : List ℕ). encode_utf8 c.in-Some-next.character ++ xs) (sym c.as_str.ensures)
    in
    written_piece _ _ (encode_utf8 c.in-Some-next.character) _ _ c.in_ok-push.ensures.bytes
    (character_first c.args.self.now c.args.text.now c.as_str.result.now c.in-Some-next.character c.in_default.ensures.label piece)

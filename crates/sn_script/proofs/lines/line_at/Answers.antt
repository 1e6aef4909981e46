use Rattle.std.proofs.Common.{◌∙◌, ap, List, ℕ, map, subst, IfOk}
use Rattle.std.specs.Option.{MatchOption}
use Rattle.sn_script.specs.Grammar.{IsLine}
use Rattle.sn_script.specs.Scripts.{MayStandAt}
use Rattle.sn_script.specs.declared.script.Line.{Line}
use Rattle.sn_script.proofs.lines.line_at.Goals as goal

pub returns : goal.returns
returns c =
    let Found : List (List ℕ) → Type 0 = λ ws. IfOk c.line_of.result (λ found. MatchOption found
    ((l : Line) → ¬ (IsLine ws l × MayStandAt c.args.place l)) (λ l. IsLine ws l × MayStandAt c.args.place l)) in
    subst Found (ap (map (λ w. w.now)) c.as_slice.ensures.value ∙ c.in_ok-words.ensures) c.line_of.ensures

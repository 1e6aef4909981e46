use Rattle.std.proofs.Common.{◌++◌, string_bytes, ap, ◌∙◌, List, ℕ, arith}
use Rattle.sn_report.specs.Text.{line_text}
use Rattle.sn_report.proofs.WritingLemmas.{shown_step, shown_end}
use Rattle.sn_report.proofs.writing.push_shown.Goals as goal

pub shown-preserved : goal.shown-preserved
shown-preserved c =
    shown_step c.args.number _ _ _ c.line-item.result c.args.shown.now c.shown.line-index (omega arith) c.line-item.is
    (c.in_ok-push_line.ensures ∙ ap (λ (line : List ℕ). string_bytes c.shown.text ++ line_text c.args.number line) c.as_str.ensures)
    c.shown.invariant

pub returns : goal.returns
returns c = shown_end c.args.number _ _ c.args.shown.now c.shown.line-index (omega arith) c.shown.invariant

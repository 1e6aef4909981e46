use Rattle.std.proofs.Common.{ℕ, Option, Some, sym, ◌∙◌, subst}
use Rattle.sn_laws.specs.Lookups.{Bytes}
use Rattle.sn_report.specs.Labels.{label_from}
use Rattle.sn_shown.specs.ByLabel.{AddsLine, labelled_line}
use Rattle.sn_shown.specs.Closed.{closed_line}
use Rattle.sn_shown.proofs.LinesGathered.{adds_none, adds_one}
use Rattle.sn_shown.proofs.closed_lines.add_item.Goals as goal

pub returns-in_default : goal.returns-in_default
returns-in_default c = λ under shows.
    let labels = c.args.labels.now in
    let uuid = c.args.item.now.uuid in
    let lines = c.args.by_label.now in
    subst (λ (o : Option ℕ). AddsLine lines lines (label_from 1 labels uuid) (labelled_line labels uuid (closed_line labels c.args.name.now uuid o)))
    (sym c.in_default.is ∙ c.in_ok-number.ensures under shows) (adds_none lines labels uuid)

pub returns : goal.returns
returns c = λ under shows.
    let labels = c.args.labels.now in
    let uuid = c.args.item.now.uuid in
    let lines = c.args.by_label.now in
    let after = c.insert.new.self in
    subst (λ (o : Option ℕ). AddsLine lines after (label_from 1 labels uuid) (labelled_line labels uuid (closed_line labels c.args.name.now uuid o)))
    (sym c.in-Some.is ∙ c.in_ok-number.ensures under shows)
    (subst (λ (text : Bytes). AddsLine lines after (label_from 1 labels uuid) (labelled_line labels uuid (Some text))) c.in_ok-line.ensures
    (adds_one lines after labels uuid c.label.result c.in_ok-line.line c.label.ensures
    (sym c.is_labelled.ensures ∙ c.if-not-is_labelled.false) c.in_ok-insert.ensures.updates c.in_ok-insert.ensures.ordered))

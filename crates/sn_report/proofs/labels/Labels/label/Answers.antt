use Rattle.std.proofs.Common.{rules, ◌≡◌, ℕ, ◌+◌, List, length, false, subst, ◌∙◌, arith}
use Rattle.sn_report.specs.Labels.{is_labelled, label_from}
use Rattle.sn_report.proofs.NumberLemmas.{next_label, unlabelled}
use Rattle.sn_report.proofs.labels.Labels.label.Goals as goal

pub returns-in-None : goal.returns-in-None
returns-in-None c =
    let none : is_labelled c.self.inside.made.items c.args.uuid.now ≡ false =
    unlabelled c.self.inside.made.items c.args.uuid.now (c.in-None.ensures.value ∙ c.self.invariant.found c.args.uuid.now)
    in
    let count : c.len.result ≡ length c.self.inside.made.items = search rules in
    let P : List (List ℕ) → Type 0 = λ labels. c.len.result + 1 ≡ label_from 1 labels c.args.uuid.now in
    subst P c.self.view_is (omega (arith, count, next_label 1 c.self.inside.made.items c.args.uuid.now none))

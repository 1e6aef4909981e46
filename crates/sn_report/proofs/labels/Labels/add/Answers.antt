use Rattle.std.proofs.Common.{rules, ◌≡◌, ◌+◌, List, ℕ, length, true, false, subst, sym, ◌∙◌}
use Rattle.sn_report.specs.Labels.{is_labelled}
use Rattle.sn_report.specs.Numbers.{AreNumbers, IsUuidBytes}
use Rattle.sn_report.proofs.NumberLemmas.{numbers_again, numbers_more}
use Rattle.sn_report.proofs.labels.Labels.add.Goals as goal

pub invariant_of-self-then-labelled : goal.invariant_of-self-then-labelled
invariant_of-self-then-labelled c =
    let some : is_labelled c.self.inside.made.items c.args.uuid ≡ true = search rules in
    let P : List ℕ → Type 0 = IsUuidBytes in
    let is : IsUuidBytes c.args.uuid = subst P (c.of_bytes-known.ensures.same ∙ c.as_bytes.ensures) c.of_bytes-known.ensures.sixteen in
    let Q : List (List ℕ) → Type 0 = λ labels. AreNumbers labels c.self.inside.numbers in
    subst Q (sym c.in_ok-push.ensures.items) (numbers_again c.self.inside.made.items c.self.inside.numbers c.args.uuid c.self.invariant some is)

pub invariant_of-self-in-Ok : goal.invariant_of-self-in-Ok
invariant_of-self-in-Ok c =
    let count : c.len.result + 1 ≡ length c.self.inside.made.items + 1 = search rules in
    let none : is_labelled c.self.inside.made.items c.args.uuid ≡ false = search rules in
    let P : List ℕ → Type 0 = IsUuidBytes in
    let is : IsUuidBytes c.args.uuid = subst P (c.of_bytes-known.ensures.same ∙ c.as_bytes.ensures) c.of_bytes-known.ensures.sixteen in
    let Q : List (List ℕ) → Type 0 = λ labels. AreNumbers labels c.insert.new.self in
    subst Q (sym c.in_ok-push.ensures.items)
    (numbers_more c.self.inside.made.items c.self.inside.numbers c.insert.new.self c.args.uuid (c.len.result + 1)
    c.self.invariant none is count c.in-Ok.ensures.updates.0)

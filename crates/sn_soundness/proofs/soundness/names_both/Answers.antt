use Rattle.std.proofs.Common.{◌↔◌, ℕ, IfOk, IsTrue, List, subst}
use Rattle.std.proofs.lemmas.Bool.{iff_false}
use Rattle.sn_soundness.specs.Unsound.{Names}
use Rattle.sn_local.proofs.Facts.{never, tests_same}
use Rattle.sn_soundness.proofs.soundness.names_both.Goals as goal

pub returns-then-not-branch : goal.returns-then-not-branch
returns-then-not-branch c =
    let P : List ℕ → Type 0 = λ t. IsTrue c.in_ok-names_item.field-0 ↔ Names c.args.uuid t in
    never (λ both. iff_false (subst P c.as_str.ensures c.in_ok-names_item.ensures) c.if-not-branch.true both.0)

pub returns : goal.returns
returns c =
    let P : List ℕ → Type 0 = λ t. IsTrue c.in_ok-names_item.field-0 ↔ Names c.args.uuid t in
    let Q : List ℕ → Type 0 = λ t. IfOk c.names_item-2.result (λ b. IsTrue b ↔ Names c.args.uuid t) in
    tests_same c.names_item-2.result (λ enc. ((subst P c.as_str.ensures c.in_ok-names_item.ensures).0 c.if-not-branch.false, enc)) (λ both. both.1)
    (subst Q c.as_str-2.ensures c.names_item-2.ensures)

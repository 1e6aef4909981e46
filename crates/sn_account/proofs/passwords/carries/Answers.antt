use Rattle.std.proofs.Common.{IsTrue, ◌↔◌, IfOk, List, ℕ, subst}
use Rattle.sn_account.specs.Rules.{CarriesText}
use Rattle.sn_account.proofs.CarryLemmas.{carries_not_first, carries_second}
use Rattle.sn_account.proofs.passwords.carries.Goals as goal

pub returns-then-not-branch : goal.returns-then-not-branch
returns-then-not-branch c =
    let P : List ℕ → Type 0 = λ t. IsTrue c.in_ok-carries_text.field-0 ↔ CarriesText t c.args.params.now in
    carries_not_first c.args.item.now c.args.params.now c.in_ok-carries_text.field-0 (subst P c.content.ensures c.in_ok-carries_text.ensures)
    c.if-not-branch.true

pub returns : goal.returns
returns c =
    let P : List ℕ → Type 0 = λ t. IsTrue c.in_ok-carries_text.field-0 ↔ CarriesText t c.args.params.now in
    let Q : List ℕ → Type 0 = λ t. IfOk c.carries_text-2.result (λ b. IsTrue b ↔ CarriesText t c.args.params.now) in
    carries_second c.args.item.now c.args.params.now c.in_ok-carries_text.field-0 c.carries_text-2.result
    (subst P c.content.ensures c.in_ok-carries_text.ensures) c.if-not-branch.false (subst Q c.enc.ensures c.carries_text-2.ensures)

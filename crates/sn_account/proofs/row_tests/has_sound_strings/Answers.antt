use Rattle.std.proofs.Common.{◌≡◌, ◌∙◌, IsTrue, ◌↔◌, IfOk, List, ℕ, false, sym, subst}
use Rattle.sn_account.specs.Sound.{NamesItem}
use Rattle.sn_account.proofs.ItemTests.{not_first, then_second}
use Rattle.sn_account.proofs.row_tests.has_sound_strings.Goals as goal

pub returns-then-not-branch : goal.returns-then-not-branch
returns-then-not-branch c =
    let live : c.args.row.now.deleted ≡ false = sym c.is_deleted.ensures ∙ c.if-is_deleted.false in
    let P : List ℕ → Type 0 = λ t. IsTrue c.in_ok-names_item.field-0 ↔ NamesItem t c.args.uuid.now in
    not_first c.args.uuid.now c.args.row.now c.in_ok-names_item.field-0 live (subst P c.content-2.ensures c.in_ok-names_item.ensures)
    c.if-not-branch.true

pub returns : goal.returns
returns c =
    let live : c.args.row.now.deleted ≡ false = sym c.is_deleted.ensures ∙ c.if-is_deleted.false in
    let P : List ℕ → Type 0 = λ t. IsTrue c.in_ok-names_item.field-0 ↔ NamesItem t c.args.uuid.now in
    let Q : List ℕ → Type 0 = λ t. IfOk c.names_item-2.result (λ b. IsTrue b ↔ NamesItem t c.args.uuid.now) in
    then_second c.args.uuid.now c.args.row.now c.in_ok-names_item.field-0 c.names_item-2.result live
    (subst P c.content-2.ensures c.in_ok-names_item.ensures) c.if-not-branch.false (subst Q c.enc-2.ensures c.names_item-2.ensures)

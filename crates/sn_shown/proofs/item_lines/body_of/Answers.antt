use Rattle.std.proofs.Common.{◌≡◌, ℕ, Some, sym, ap, ◌∙◌, subst}
use Rattle.std.specs.BTreeMap.{get}
use Rattle.sn_items.specs.Items.{OpensItem}
use Rattle.sn_laws.specs.Lookups.{Bytes}
use Rattle.sn_laws.specs.declared.ideal.Body.{Body}
use Rattle.sn_laws.specs.declared.ideal.Body.TheVariants.{Under}
use Rattle.sn_row_map.specs.Keys.{key_cmp}
use Rattle.sn_rows.specs.declared.key.Key.TheVariants as key
use Rattle.sn_string.specs.declared.params.KeySet.{KeySet}
use Rattle.sn_shown.specs.Rows.{sealed_in}
use Rattle.sn_shown.proofs.BodyLemmas.{gone, live_of}
use Rattle.sn_shown.proofs.Finds.{never, one_found}
use Rattle.sn_shown.proofs.item_lines.body_of.Goals as goal

pub returns-then-is_deleted : goal.returns-then-is_deleted
returns-then-is_deleted c = λ accounts a v are sets at last shows.
    gone a.sets c.args.uuid.now c.args.row.now v.body (sym c.is_deleted.ensures ∙ c.if-is_deleted.true) shows

pub returns-in_default : goal.returns-in_default
returns-in_default c = λ accounts a v are sets at last shows.
    let live = live_of (get key_cmp c.args.sets.now) accounts c.args.row.now.account a c.args.uuid.now c.args.row.now v sets at last
    (sym c.is_deleted.ensures ∙ c.if-is_deleted.false) shows in
    never c.in_ok-number.field-0 live.number
    (c.in_ok-number.ensures accounts a live.number live.set c.args.uuid.now live.text are at live.at live.opens) c.in_default.is

pub returns-in_default-get : goal.returns-in_default-get
returns-in_default-get c = λ accounts a v are sets at last shows.
    let live = live_of (get key_cmp c.args.sets.now) accounts c.args.row.now.account a c.args.uuid.now c.args.row.now v sets at last
    (sym c.is_deleted.ensures ∙ c.if-is_deleted.false) shows in
    let number : c.in-Some.number ≡ live.number =
    one_found c.in_ok-number.field-0 c.in-Some.number live.number c.in-Some.is
    (c.in_ok-number.ensures accounts a live.number live.set c.args.uuid.now live.text are at live.at live.opens) in
    never (get key_cmp c.args.sets.now (key.Generation c.account.result c.in-Some.number)) live.set
    (ap (λ (n : ℕ). get key_cmp c.args.sets.now (key.Generation n c.in-Some.number)) c.account.ensures
    ∙ ap (λ (n : ℕ). get key_cmp c.args.sets.now (key.Generation c.args.row.now.account n)) number
    ∙ live.there) (sym c.in_default-get.ensures.value)

pub returns-in-Some-2 : goal.returns-in-Some-2
returns-in-Some-2 c = λ accounts a v are sets at last shows.
    let live = live_of (get key_cmp c.args.sets.now) accounts c.args.row.now.account a c.args.uuid.now c.args.row.now v sets at last
    (sym c.is_deleted.ensures ∙ c.if-is_deleted.false) shows in
    let number : c.in-Some.number ≡ live.number =
    one_found c.in_ok-number.field-0 c.in-Some.number live.number c.in-Some.is
    (c.in_ok-number.ensures accounts a live.number live.set c.args.uuid.now live.text are at live.at live.opens) in
    let set : c.in-Some-get.set.now ≡ live.set =
    one_found (get key_cmp c.args.sets.now (key.Generation c.account.result c.in-Some.number)) c.in-Some-get.set.now live.set
    (sym c.in-Some-get.ensures.value)
    (ap (λ (n : ℕ). get key_cmp c.args.sets.now (key.Generation n c.in-Some.number)) c.account.ensures
    ∙ ap (λ (n : ℕ). get key_cmp c.args.sets.now (key.Generation c.args.row.now.account n)) number
    ∙ live.there) in
    let opens : OpensItem (sealed_in c.args.row.now) c.args.uuid.now c.in-Some-get.set.now live.text =
    subst (λ (k : KeySet). OpensItem (sealed_in c.args.row.now) c.args.uuid.now k live.text) (sym set) live.opens in
    let text : c.in-Some-2.text ≡ live.text =
    one_found c.in_ok-text.field-0 c.in-Some-2.text live.text c.in-Some-2.is
    (c.in_ok-text.ensures live.text (rw (c.content.ensures, c.enc.ensures) opens)) in
    ap (λ (b : Body). Some b)
    (ap (λ (t : Bytes). Under t c.in-Some.number) text ∙ ap (λ (n : ℕ). Under live.text n) number ∙ sym live.body_is)

pub returns-in-None : goal.returns-in-None
returns-in-None c = λ accounts a v are sets at last shows.
    let live = live_of (get key_cmp c.args.sets.now) accounts c.args.row.now.account a c.args.uuid.now c.args.row.now v sets at last
    (sym c.is_deleted.ensures ∙ c.if-is_deleted.false) shows in
    let number : c.in-Some.number ≡ live.number =
    one_found c.in_ok-number.field-0 c.in-Some.number live.number c.in-Some.is
    (c.in_ok-number.ensures accounts a live.number live.set c.args.uuid.now live.text are at live.at live.opens) in
    let set : c.in-Some-get.set.now ≡ live.set =
    one_found (get key_cmp c.args.sets.now (key.Generation c.account.result c.in-Some.number)) c.in-Some-get.set.now live.set
    (sym c.in-Some-get.ensures.value)
    (ap (λ (n : ℕ). get key_cmp c.args.sets.now (key.Generation n c.in-Some.number)) c.account.ensures
    ∙ ap (λ (n : ℕ). get key_cmp c.args.sets.now (key.Generation c.args.row.now.account n)) number
    ∙ live.there) in
    let opens : OpensItem (sealed_in c.args.row.now) c.args.uuid.now c.in-Some-get.set.now live.text =
    subst (λ (k : KeySet). OpensItem (sealed_in c.args.row.now) c.args.uuid.now k live.text) (sym set) live.opens in
    never c.in_ok-text.field-0 live.text (c.in_ok-text.ensures live.text (rw (c.content.ensures, c.enc.ensures) opens)) c.in-None.is

-- When an older set may go.
use Rattle.std.proofs.Common.{arith, ◌≡◌, ◌∙◌, ◌⊎◌, ◌<◌, ℕ, Bool, true, false, List, [], ◌∷◌, All, Option, Some, None, Result, Ok, Err, IfOk, IfSome, IfNone, IsTrue, inl, inr, refl, sym, ap, subst, length, get_or, length-append}
use Rattle.std.specs.Prelude.{◌↔◌, is_some}
use Rattle.std.proofs.Math.Seq.{get_or-append_seam}
use Rattle.std.proofs.lemmas.List.Elements.{All-cons, All-nil}
use Rattle.sn_journal.specs.declared.owner.Owner.TheVariants.{Device}
use Rattle.sn_rekey.specs.Carrying.{IsFinished}
use Rattle.sn_rows.specs.Facts.{last_or_spared, spared_stays}
use Rattle.sn_rows.specs.Kinds.{key_kind}
use Rattle.sn_rows.specs.Table.{IsLast, Rows, Spares, key_of, rows_after}
use Rattle.sn_rows.specs.declared.change.Change.{Change}
use Rattle.sn_rows.specs.declared.change.Change.TheVariants.{Remove}
use Rattle.sn_rows.specs.declared.device_rows.LocalItem.{LocalItem}
use Rattle.sn_rows.specs.declared.key.Key.{Key}
use Rattle.sn_rows.specs.declared.key.Key.TheVariants as key
use Rattle.sn_rows.specs.declared.key.Slot.TheVariants.{Older}
use Rattle.sn_rows.specs.declared.kind.RowKind.TheVariants as kind
use Rattle.sn_rows.specs.declared.value.Value.{Value}
use Rattle.sn_rows.specs.declared.value.Value.TheVariants as value
use Rattle.sn_string.specs.declared.params.KeySet.{KeySet}
use Rattle.sn_table.specs.Batches.{IsOf}
use Rattle.sn_device.specs.States.{Bytes, HasLocal}
use Rattle.sn_device.specs.Steps.{AllFinished, IsFinishedAt, Retires}
use Rattle.sn_taking.specs.Taken.{option_list}
use Rattle.sn_device.proofs.Facts.{one_of_device}

-- ---- one item

-- a number has one item
pub local_so : (rows : Rows) (set : KeySet) (number : ℕ) (item : LocalItem) → HasLocal rows number item → IsFinished set item → (local : LocalItem)
    → HasLocal rows number local → IsFinished set local
local_so rows set number item has so local other =
    let both : Some (value.Local item) ≡ Some (value.Local local) = sym has ∙ other in
    let same : item ≡ local = cc in
    subst (IsFinished set) same so

-- a key has one number
pub finished_at : (rows : Rows) (set : KeySet) (at : Key) (number : ℕ) → at ≡ key.Local number
    → ((local : LocalItem) → HasLocal rows number local → IsFinished set local) → IsFinishedAt rows set at
finished_at rows set at number is so n local named has =
    let both : key.Local number ≡ key.Local n = sym is ∙ named in
    let same : n ≡ number = cc in
    so local (subst (λ (k : ℕ). HasLocal rows k local) same has)

-- ---- all items behind changes

-- one of the changes fails
pub one_fails : (P : Change → Type 0) (changes : List Change) (k : ℕ) (change : Change) → k < length changes → change ≡ get_or changes k change
    → ¬ (P change) → ¬ (All P changes)
one_fails P changes k change within is fails all = fails (subst P (sym is) (all k change within))

-- the items of the changes' keys, and those of the rows before them
abbrev pub ArePut : Rows → List Change → KeySet → Type 0
ArePut before changes set = All (λ (change : Change). IsFinishedAt (rows_after before changes) set (key_of change)) changes

abbrev pub AreKept : Rows → List Change → KeySet → Type 0
AreKept before changes set =
    (at : Key) (v : Value) → key_kind at ≡ kind.Local → before at ≡ Some v → IsFinishedAt (rows_after before changes) set at

all_at : (before : Rows) (changes : List Change) (set : KeySet) (n : ℕ) (local : LocalItem) → ArePut before changes set → AreKept before changes set
    → HasLocal (rows_after before changes) n local
    → (((change : Change) × IsLast changes (key.Local n) change) ⊎ Spares (key.Local n) changes) → IsFinished set local
all_at before changes set n local put kept has (inl (change, last)) =
    let here : get_or changes (length last.before) change ≡ change =
    ap (λ (cs : List Change). get_or cs (length last.before) change) last.parts ∙ get_or-append_seam last.before change last.after change in
    let within : length last.before < length changes =
    omega (arith, ap (λ (cs : List Change). length cs) last.parts, length-append last.before (change ∷ last.after)) in
    let is : IsFinishedAt (rows_after before changes) set (key_of change) =
    subst (λ (c : Change). IsFinishedAt (rows_after before changes) set (key_of c)) here (put (length last.before) change within) in
    is n local last.named has
all_at before changes set n local put kept has (inr spared) =
    let stood : before (key.Local n) ≡ Some (value.Local local) = sym (spared_stays (before (key.Local n)) (key.Local n) changes spared) ∙ has in
    kept (key.Local n) (value.Local local) refl stood n local refl has

-- are all
pub all_both : (before : Rows) (changes : List Change) (set : KeySet) → ArePut before changes set → AreKept before changes set
    → AllFinished (rows_after before changes) set
all_both before changes set put kept n local has =
    all_at before changes set n local put kept has (last_or_spared changes (key.Local n))

pub all_put : (before : Rows) (changes : List Change) (set : KeySet) → AllFinished (rows_after before changes) set → ArePut before changes set
all_put before changes set all k d less n local named has = all n local has

-- a test that holds of one thing only, and holds of another, of which the first tells
pub both_ways : {A B E : Type 0} (tested : Result Bool E) → (A → B) → IfOk tested (λ b. IsTrue b → A) → IfOk tested (λ b. B → IsTrue b)
    → IfOk tested (λ b. IsTrue b ↔ B)
both_ways (Ok b) to first second = (λ holds. to (first holds), second)
both_ways (Err e) to first second = tt

-- ---- the older set

none_there : (cursor : Option Bytes) → is_some cursor ≡ false → cursor ≡ None
none_there None e = refl
none_there (Some text) e = absurd (let wrong : true ≡ false = e in cc)

-- there is none
pub none_held : (rows : Rows) (cursor : Option Bytes) (older : Option KeySet) → older ≡ None → Retires rows cursor older []
none_held rows cursor older is = subst (λ (o : Option KeySet). Retires rows cursor o []) (sym is) refl

-- more pages follow
pub page_left : (rows : Rows) (cursor : Option Bytes) (older : Option KeySet) (set : KeySet) (b : Bool) → older ≡ Some set → b ≡ is_some cursor
    → b ≡ true → Retires rows cursor older []
page_left rows cursor older set b is tests some =
    subst (λ (o : Option KeySet). Retires rows cursor o []) (sym is)
    (inr (λ may. (let wrong : true ≡ false = sym some ∙ tests ∙ ap (λ (c : Option Bytes). is_some c) may.0 in cc), refl))

-- an item needs it
pub not_all : (rows : Rows) (cursor : Option Bytes) (older : Option KeySet) (set : KeySet) → older ≡ Some set → ¬ (AllFinished rows set)
    → Retires rows cursor older []
not_all rows cursor older set is fails = subst (λ (o : Option KeySet). Retires rows cursor o []) (sym is) (inr (λ may. fails may.1, refl))

-- it goes
pub goes : (rows : Rows) (cursor : Option Bytes) (older : Option KeySet) (set : KeySet) (b : Bool) → older ≡ Some set → b ≡ is_some cursor → b ≡ false
    → AllFinished rows set → Retires rows cursor older (Remove (key.Set Older) ∷ [])
goes rows cursor older set b is tests none all =
    subst (λ (o : Option KeySet). Retires rows cursor o (Remove (key.Set Older) ∷ [])) (sym is)
    (inl ((none_there cursor (sym tests ∙ none), all), (Remove (key.Set Older), record { key_is = refl; value_is = refl }, refl)))

-- ---- with what is found of it

pub retires_found : (rows : Rows) (cursor : Option Bytes) (older : Option KeySet) (gone : Option Change)
    → IfSome gone (λ change. Retires rows cursor older (change ∷ [])) → IfNone gone (Retires rows cursor older [])
    → Retires rows cursor older (option_list gone)
retires_found rows cursor older (Some change) some none = some
retires_found rows cursor older None some none = none

retired_key : (rows : Rows) (cursor : Option Bytes) (older : Option KeySet) (change : Change) → Retires rows cursor older (change ∷ [])
    → key_of change ≡ key.Set Older
retired_key rows cursor None change is = absurd (let wrong : change ∷ [] ≡ [] = is in cc)
retired_key rows cursor (Some set) change (inl (may, (c, removes, is))) =
    let both : change ∷ [] ≡ c ∷ [] = is in
    let same : change ≡ c = cc in
    ap (λ (d : Change). key_of d) same ∙ removes.key_is
retired_key rows cursor (Some set) change (inr (not, is)) = absurd (let wrong : change ∷ [] ≡ [] = is in cc)

-- it is of a device's row
pub retired_owned : (rows : Rows) (cursor : Option Bytes) (older : Option KeySet) (gone : Option Change)
    → IfSome gone (λ change. Retires rows cursor older (change ∷ [])) → All (IsOf Device) (option_list gone)
retired_owned rows cursor older None some = All-nil (IsOf Device)
retired_owned rows cursor older (Some change) some =
    All-cons (IsOf Device) change [] (one_of_device change (key.Set Older) refl (retired_key rows cursor older change some)) (All-nil (IsOf Device))

-- The strings of a row under the sets that are held.
use Rattle.std.proofs.Common.{◌≡◌, ◌∙◌, subst, inl, inr, ℕ, List, Option, Some, None, Result, Ok, Err, IfOk, IfSome, IfNone}
use Rattle.rand_chacha.specs.ChaCha.{ChaCha}
use Rattle.sn_items.specs.Items.{OpensItem}
use Rattle.sn_items.specs.declared.sealed.Sealed.{Sealed}
use Rattle.sn_rekey.specs.Laws.{SameContent}
use Rattle.sn_rekey.specs.Rewraps.{OpensNotOlder, RewrapsHeld, RewrapsItem, RewrapsOlder}
use Rattle.sn_rows.specs.Bounds.{HasDeviceLengths}
use Rattle.sn_rows.specs.declared.body.RowStrings.{RowStrings}
use Rattle.sn_sets.specs.Sets.{OpensHeld, OpensNot, OpensNowhere, sealed_of}
use Rattle.sn_sets.specs.declared.sets.Sets.{Sets}
use Rattle.sn_sets.proofs.Facts.{fits_device, one_held, opened_is_short}
use Rattle.sn_string.specs.declared.params.KeySet.{KeySet}

-- what is made of a row's strings fits a row
pub fits_row : (before after : KeySet) (words : ChaCha) (uuid : List ℕ) (strings : RowStrings) (given again : Sealed) (left : ChaCha)
    → given ≡ sealed_of strings → RewrapsItem before after words uuid given again left → HasDeviceLengths again.content × HasDeviceLengths again.enc
fits_row before after words uuid strings given again left is made =
    let alone : Sets = record { present = before; older = None; asked = None } in
    let opens : OpensItem (sealed_of strings) uuid before made.text = subst (λ (s : Sealed). OpensItem s uuid before made.text) is made.opens in
    fits_device again uuid after made.text made.rewraps.still (opened_is_short alone uuid strings made.text (inl opens))

pub nowhere : (sets : Sets) (uuid : List ℕ) (sealed : Sealed) → OpensNot sets.present uuid sealed
    → ((set : KeySet) → sets.older ≡ Some set → OpensNot set uuid sealed) → OpensNowhere sets uuid sealed
nowhere sets uuid sealed not others text (inl opens) = not text opens
nowhere sets uuid sealed not others text (inr older) = others older.set older.held text older.opens

pub nowhere_alone : (sets : Sets) (uuid : List ℕ) (sealed : Sealed) → OpensNot sets.present uuid sealed → sets.older ≡ None
    → OpensNowhere sets uuid sealed
nowhere_alone sets uuid sealed not alone = nowhere sets uuid sealed not (λ set held. absurd (cc))

pub nowhere_older : (sets : Sets) (uuid : List ℕ) (sealed : Sealed) (older : KeySet) → OpensNot sets.present uuid sealed → sets.older ≡ Some older
    → OpensNot older uuid sealed → OpensNowhere sets uuid sealed
nowhere_older sets uuid sealed older not held closed =
    nowhere sets uuid sealed not (λ set is. (let same : older ≡ set = cc in subst (λ (s : KeySet). OpensNot s uuid sealed) same closed))

pub not_older : (sets : Sets) (uuid : List ℕ) (sealed : Sealed) → OpensNowhere sets uuid sealed → OpensNotOlder sets uuid sealed
not_older sets uuid sealed none = λ text older. none text (inr older)

pub present_not_older : (sets : Sets) (uuid : List ℕ) (sealed : Sealed) (text : List ℕ) → OpensItem sealed uuid sets.present text
    → OpensNotOlder sets uuid sealed
present_not_older sets uuid sealed text opens = λ other older. older.not_present text opens

pub under_older : (sets : Sets) (older set : KeySet) (words : ChaCha) (uuid : List ℕ) (given again : Sealed) (left : ChaCha)
    → OpensNot sets.present uuid given → sets.older ≡ Some older → RewrapsItem older set words uuid given again left
    → RewrapsOlder sets set words uuid given again left
under_older sets older set words uuid given again left not held made =
    record { text = made.text; opens = record { not_present = not; set = older; held = held; opens = made.opens }; rewraps = made.rewraps }

-- ---- one content

same : (sets : Sets) (set : KeySet) (words : ChaCha) (uuid : List ℕ) (given again : Sealed) (left : ChaCha) (text : List ℕ)
    → RewrapsHeld sets set words uuid given again left → OpensHeld sets uuid given text → OpensItem again uuid set text
same sets set words uuid given again left text (inl made) opens =
    subst (λ (t : List ℕ). OpensItem again uuid set t) (one_held sets uuid given made.text text (inl made.opens) opens) made.rewraps.still
same sets set words uuid given again left text (inr made) opens =
    subst (λ (t : List ℕ). OpensItem again uuid set t) (one_held sets uuid given made.text text (inr made.opens) opens) made.rewraps.still

pub same_content : SameContent
same_content = same

-- ---- of what a call answers

pub found_none : {T : Type 0} (P : Type 0) (o : Option T) → o ≡ None → IfNone o P → P
found_none {T} P o is h = let Q : Option T → Type 0 = λ v. IfNone v P in subst Q is h

pub some_under_older : {E : Type 0} (outcome : Result (Option RowStrings) E) (sets : Sets) (older set : KeySet) (words : ChaCha) (uuid : List ℕ) (given : Sealed) (left : ChaCha)
    → OpensNot sets.present uuid given → sets.older ≡ Some older
    → IfOk outcome (λ found. IfSome found (λ again. RewrapsItem older set words uuid given (sealed_of again) left))
    → IfOk outcome (λ found. IfSome found (λ again. RewrapsOlder sets set words uuid given (sealed_of again) left))
some_under_older (Ok (Some again)) sets older set words uuid given left not held made =
    under_older sets older set words uuid given (sealed_of again) left not held made
some_under_older (Ok None) sets older set words uuid given left not held made = tt
some_under_older (Err e) sets older set words uuid given left not held made = tt

pub none_under_older : {E : Type 0} (outcome : Result (Option RowStrings) E) (sets : Sets) (older : KeySet) (words : ChaCha) (uuid : List ℕ) (given : Sealed) (left : ChaCha)
    → OpensNot sets.present uuid given → sets.older ≡ Some older
    → IfOk outcome (λ found. IfNone found (OpensNot older uuid given × (left ≡ words)))
    → IfOk outcome (λ found. IfNone found (OpensNowhere sets uuid given × (left ≡ words)))
none_under_older (Ok (Some again)) sets older words uuid given left not held none = tt
none_under_older (Ok None) sets older words uuid given left not held none = (nowhere_older sets uuid given older not held none.0, none.1)
none_under_older (Err e) sets older words uuid given left not held none = tt

pub none_of_row : {E : Type 0} (outcome : Result (Option RowStrings) E) (sets : Sets) (words middle : ChaCha) (uuid : List ℕ) (sealed given : Sealed) (left : ChaCha)
    → middle ≡ words → sealed ≡ given
    → IfOk outcome (λ found. IfNone found (OpensNowhere sets uuid sealed × (left ≡ middle)))
    → IfOk outcome (λ found. IfNone found (OpensNowhere sets uuid given × (left ≡ words)))
none_of_row (Ok (Some again)) sets words middle uuid sealed given left same is none = tt
none_of_row (Ok None) sets words middle uuid sealed given left same is none = (subst (λ (s : Sealed). OpensNowhere sets uuid s) is none.0, none.1 ∙ same)
none_of_row (Err e) sets words middle uuid sealed given left same is none = tt

pub not_older_of_row : {E : Type 0} (outcome : Result (Option RowStrings) E) (sets : Sets) (words : ChaCha) (uuid : List ℕ) (given : Sealed) (left : ChaCha)
    → IfOk outcome (λ found. IfNone found (OpensNowhere sets uuid given × (left ≡ words)))
    → IfOk outcome (λ found. IfNone found (OpensNotOlder sets uuid given × (left ≡ words)))
not_older_of_row (Ok (Some again)) sets words uuid given left none = tt
not_older_of_row (Ok None) sets words uuid given left none = (not_older sets uuid given none.0, none.1)
not_older_of_row (Err e) sets words uuid given left none = tt

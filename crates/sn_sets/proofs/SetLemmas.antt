-- What opens under the sets that are held.
use Rattle.std.proofs.Common.{◌≡◌, ◌≢◌, sym, subst, ℕ, inl, inr, List, Option, Some, None, Result, Ok, Err, IfOk, IfSome, IfNone}
use Rattle.sn_items.specs.ItemRefusals.{ItemHasCause}
use Rattle.sn_items.specs.Items.{OpensItem}
use Rattle.sn_items.specs.declared.error.ItemError.{ItemError}
use Rattle.sn_items.specs.declared.error.ItemError.TheVariants.{Memory}
use Rattle.sn_items.specs.declared.sealed.Sealed.{Sealed}
use Rattle.sn_items.specs.declared.sealed.Which.{Which}
use Rattle.sn_items.proofs.Facts.{no_item_refusal, one_content}
use Rattle.sn_sets.specs.Laws.{OneHeld}
use Rattle.sn_sets.specs.Sets.{OpensHeld, OpensNot, OpensNowhere}
use Rattle.sn_sets.specs.declared.sets.Sets.{Sets}
use Rattle.sn_string.specs.declared.params.KeySet.{KeySet}

-- ---- under one set

opens_not : (sealed : Sealed) (uuid : List ℕ) (set : KeySet) (which : Which) (error : ItemError)
    → ItemHasCause sealed uuid set which error → error ≢ Memory → OpensNot set uuid sealed
opens_not sealed uuid set which error cause other = λ text opens.
    other (no_item_refusal sealed uuid set text which error opens cause)

pub none_under : {T E : Type 0} (sealed : Sealed) (uuid : List ℕ) (set : KeySet) (which : Which) (error : ItemError) (outcome : Result (Option T) E)
    → ItemHasCause sealed uuid set which error → IfOk outcome (λ found. (found ≡ None) × (error ≢ Memory))
    → IfOk outcome (λ found. IfNone found (OpensNot set uuid sealed))
none_under {T} sealed uuid set which error (Ok found) cause not =
    let P : Option T → Type 0 = λ o. IfNone o (OpensNot set uuid sealed) in
    subst P (sym not.0) (opens_not sealed uuid set which error cause not.1)
none_under sealed uuid set which error (Err e) cause not = tt

pub some_under : {T E : Type 0} (P : T → Type 0) (error : ItemError) (outcome : Result (Option T) E)
    → IfOk outcome (λ found. (found ≡ None) × (error ≢ Memory)) → IfOk outcome (λ found. IfSome found P)
some_under {T} P error (Ok found) not =
    let Q : Option T → Type 0 = λ o. IfSome o P in
    subst Q (sym not.0) tt
some_under P error (Err e) not = tt

-- ---- under the older one

pub held_older : {T E : Type 0} (bytes : T → List ℕ) (sets : Sets) (uuid : List ℕ) (sealed : Sealed) (older : KeySet) (outcome : Result (Option T) E)
    → OpensNot sets.present uuid sealed → sets.older ≡ Some older
    → IfOk outcome (λ found. IfSome found (λ t. OpensItem sealed uuid older (bytes t)))
    → IfOk outcome (λ found. IfSome found (λ t. OpensHeld sets uuid sealed (bytes t)))
held_older bytes sets uuid sealed older (Ok (Some t)) not held opens =
    inr (record { not_present = not; set = older; held = held; opens = opens })
held_older bytes sets uuid sealed older (Ok None) not held opens = tt
held_older bytes sets uuid sealed older (Err e) not held opens = tt

nowhere : (sets : Sets) (uuid : List ℕ) (sealed : Sealed) (text : List ℕ) → OpensNot sets.present uuid sealed
    → ((set : KeySet) → sets.older ≡ Some set → OpensNot set uuid sealed) → OpensHeld sets uuid sealed text → ⊥
nowhere sets uuid sealed text not others (inl opens) = not text opens
nowhere sets uuid sealed text not others (inr opens) = others opens.set opens.held text opens.opens

pub nowhere_older : {T E : Type 0} (sets : Sets) (uuid : List ℕ) (sealed : Sealed) (older : KeySet) (outcome : Result (Option T) E)
    → OpensNot sets.present uuid sealed → sets.older ≡ Some older
    → IfOk outcome (λ found. IfNone found (OpensNot older uuid sealed))
    → IfOk outcome (λ found. IfNone found (OpensNowhere sets uuid sealed))
nowhere_older sets uuid sealed older (Ok (Some t)) not held opens = tt
nowhere_older sets uuid sealed older (Ok None) not held none = λ text h.
    nowhere sets uuid sealed text not (λ set is. (let same : older ≡ set = cc in subst (λ s. OpensNot s uuid sealed) same none)) h
nowhere_older sets uuid sealed older (Err e) not held opens = tt

pub nowhere_alone : (sets : Sets) (uuid : List ℕ) (sealed : Sealed) → OpensNot sets.present uuid sealed → sets.older ≡ None
    → OpensNowhere sets uuid sealed
nowhere_alone sets uuid sealed not alone = λ text h. nowhere sets uuid sealed text not (λ set is. absurd (cc)) h

-- ---- one content

held_once : (sets : Sets) (uuid : List ℕ) (sealed : Sealed) (text other : List ℕ)
    → OpensHeld sets uuid sealed text → OpensHeld sets uuid sealed other → text ≡ other
held_once sets uuid sealed text other (inl first) (inl second) = one_content sealed uuid sets.present text other first second
held_once sets uuid sealed text other (inl first) (inr second) = absurd (second.not_present text first)
held_once sets uuid sealed text other (inr first) (inl second) = absurd (first.not_present other second)
held_once sets uuid sealed text other (inr first) (inr second) =
    let same : first.set ≡ second.set = cc in
    one_content sealed uuid second.set text other (subst (λ s. OpensItem sealed uuid s text) same first.opens) second.opens

pub one_held : OneHeld
one_held = held_once

-- What an applied answer says of the older set.
use Rattle.std.proofs.Common.{◌≡◌, ◌-◌, ℕ, List, [], ◌∷◌, ◌++◌, length, Bool, true, false, Option, Some, None, refl, sym, ap, ◌∙◌, inl, inr, append_assoc, arith, length-append}
use Rattle.std.specs.Prelude.{slice_get}
use Rattle.sn_adopted.specs.Moves.{IsRetiring}
use Rattle.sn_device.specs.Steps.{Retires}
use Rattle.sn_laws.specs.Lookups.{Bytes}
use Rattle.sn_laws.specs.declared.moves.Move.{Move}
use Rattle.sn_laws.specs.declared.moves.Move.TheVariants.{Retire}
use Rattle.sn_rows.specs.Table.{Removes, Rows, key_of, same_key}
use Rattle.sn_rows.specs.declared.change.Change.{Change}
use Rattle.sn_rows.specs.declared.change.Change.TheVariants.{Put, Remove}
use Rattle.sn_rows.specs.declared.key.Key.{Key}
use Rattle.sn_rows.specs.declared.key.Key.TheVariants as key
use Rattle.sn_rows.specs.declared.key.Slot.TheVariants.{Older}
use Rattle.sn_string.specs.declared.params.KeySet.{KeySet}
use Rattle.sn_saying.specs.Adopted.{older_of}
use Rattle.sn_saying.specs.Retired.{IsOlderHeld, IsRetirement, ends_with, gives_up, removes_older, retiring}

-- ---- the last change of a batch

at_end : (xs : List Change) (y : Change) → slice_get (xs ++ y ∷ []) (length xs) ≡ Some y
at_end [] y = refl
at_end (x ∷ xs) y = at_end xs y

gives_up_by : (xs : List Change) (y : Change) → gives_up (xs ++ y ∷ []) ≡ removes_older y
gives_up_by xs y =
    let place : length (xs ++ y ∷ []) - 1 ≡ length xs = omega (arith, length-append xs (y ∷ [])) in
    ap (λ (n : ℕ). ends_with (slice_get (xs ++ y ∷ []) n)) place ∙ ap ends_with (at_end xs y)

removes : (change : Change) → Removes change (key.Set Older) → removes_older change ≡ true
removes (Put row) r = let wrong = r.value_is in absurd (cc)
removes (Remove at) r = ap (λ (k : Key). same_key k (key.Set Older)) r.key_is

stays : (change : Change) → key_of change ≡ key.Owner → removes_older change ≡ false
stays (Put row) named = refl
stays (Remove at) named = ap (λ (k : Key). same_key k (key.Set Older)) named

-- ---- what is said

-- where the batch gives up the older set it ends
abbrev ends : Bytes → Bool → List ℕ → List Move
ends name true held = retiring name (older_of held)
ends name false held = []

ended : (rows : Rows) (cursor : Option Bytes) (older : Option KeySet) (name : Bytes) (held : List ℕ) (front changes retired : List Change) (counted : Change)
    (later : List Move) → key_of counted ≡ key.Owner → changes ≡ front ++ counted ∷ retired → Retires rows cursor older retired
    → IsRetiring rows cursor older name held later → later ≡ ends name (gives_up changes) held
ended rows cursor older name held front changes retired counted later named are = by older
  where
    none : retired ≡ [] → later ≡ [] → later ≡ ends name (gives_up changes) held
    none none_left said =
        let whole : changes ≡ front ++ counted ∷ [] = are ∙ ap (λ (cs : List Change). front ++ counted ∷ cs) none_left in
        said ∙ sym (ap (λ (b : Bool). ends name b held) (ap gives_up whole ∙ gives_up_by front counted ∙ stays counted named))

    one : (change : Change) (number present : ℕ) → Removes change (key.Set Older) → retired ≡ change ∷ [] → held ≡ number ∷ present ∷ []
        → later ≡ Retire name number ∷ [] → later ≡ ends name (gives_up changes) held
    one change number present gone left held_is said =
        let whole : changes ≡ (front ++ counted ∷ []) ++ change ∷ [] =
        are ∙ ap (λ (cs : List Change). front ++ counted ∷ cs) left ∙ sym (append_assoc front (counted ∷ []) (change ∷ [])) in
        said
        ∙ sym (ap (λ (ns : List ℕ). retiring name (older_of ns)) held_is)
        ∙ sym (ap (λ (b : Bool). ends name b held) (ap gives_up whole ∙ gives_up_by (front ++ counted ∷ []) change ∙ removes change gone))

    by : (set : Option KeySet) → Retires rows cursor set retired → IsRetiring rows cursor set name held later → later ≡ ends name (gives_up changes) held
    by None retires says = none retires says
    by (Some set) (inl (may, (change, gone, left))) (inl (may_too, (number, present, held_is, said))) = one change number present gone left held_is said
    by (Some set) (inl (may, change)) (inr (not, said)) = absurd (not may)
    by (Some set) (inr (not, left)) (inl (may, number)) = absurd (not may)
    by (Some set) (inr (not, left)) (inr (not_too, said)) = none left said

pub not_retired : (server rows : Rows) (name : Bytes) (changes : List Change) (later : List Move) → gives_up changes ≡ false → later ≡ []
    → IsRetirement server rows name changes later
not_retired server rows name changes later stay is s d a reached shows device has conflicts cursor retrieved saved token moves says =
    ended says.end.rows cursor says.sets.older name d.held says.end.changes changes says.retired says.counted says.later says.counted_is.puts_it.key_is
    says.changes_are says.retires says.retiring
    ∙ ap (λ (b : Bool). ends name b d.held) stay
    ∙ sym is

pub retired_so : (server rows : Rows) (name : Bytes) (changes : List Change) (older : Option ℕ) (later : List Move) → gives_up changes ≡ true
    → IsOlderHeld server rows older → later ≡ retiring name older → IsRetirement server rows name changes later
retired_so server rows name changes older later gone older_is is s d a reached shows device has conflicts cursor retrieved saved token moves says =
    ended says.end.rows cursor says.sets.older name d.held says.end.changes changes says.retired says.counted says.later says.counted_is.puts_it.key_is
    says.changes_are says.retires says.retiring
    ∙ ap (λ (b : Bool). ends name b d.held) gone
    ∙ ap (retiring name) (sym (older_is s name d a reached shows device has))
    ∙ sym is

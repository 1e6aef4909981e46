-- What the checks of an answer say of the uuids that another account has.
use Rattle.std.proofs.Common.{◌≡◌, ◌≢◌, ℕ, suc, Bool, false, List, [], ◌∷◌, ◌++◌, map, Some, refl, sym, ap, ◌∙◌, subst}
use Rattle.std.proofs.lemmas.List.Elements.{Contains-append_left, Contains-append_right, Contains-push}
use Rattle.std.proofs.lemmas.Option.{slice_get_within}
use Rattle.std.specs.List.{Contains, flat_map, list_any}
use Rattle.std.specs.Prelude.{◌||◌, Option, slice_get, take}
use Rattle.std.specs.Str.{bytes_eq}
use Rattle.sn_device.specs.Laws.{IsChecked}
use Rattle.sn_device.specs.Taking.{is_conflict, is_retrieved, is_saved, told_by}
use Rattle.sn_conflict.specs.Checks.{HasItsStrings, IsConflict, IsRetrieved, IsSaved, Passes}
use Rattle.sn_conflict.specs.Lists.{AllRight}
use Rattle.sn_laws.proofs.Facts.{is_false, or_left, or_right, same_text, text_same}
use Rattle.sn_laws.specs.Each.{Each}
use Rattle.sn_laws.specs.Lookups.{Bytes}
use Rattle.sn_sync.specs.Versions.{conflict_uuids, item_of}
use Rattle.sn_sync.specs.declared.answer.Conflict.{Conflict}
use Rattle.sn_sync.specs.declared.answer.Conflict.TheVariants as conflict
use Rattle.sn_sync.specs.declared.item.Item.{Item}
use Rattle.sn_moves.specs.Foreign.{foreign_of}
use Rattle.sn_moves.proofs.ToldLemmas.{AreToldApart, IsIn, IsOut, foreign_told}

-- ---- lists

at_head : {A : Type 0} (x : A) (xs : List A) → Contains (x ∷ xs) x
at_head x xs = Contains-append_left (x ∷ []) xs x (Contains-push [] x)

behind_head : {A : Type 0} (y : A) (xs : List A) (x : A) → Contains xs x → Contains (y ∷ xs) x
behind_head y xs x has = Contains-append_right (y ∷ []) xs x has

each_got : {A : Type 0} (P : A → Type 0) (xs : List A) → ((k : ℕ) (x : A) → slice_get xs k ≡ Some x → P x) → Each P xs
each_got P [] h = tt
each_got P (x ∷ xs) h = (h 0 x refl, each_got P xs (λ k y e. h (suc k) y e))

each_right : {A : Type 0} (Right : List A → A → Type 0) (P : A → Type 0) → ((before : List A) (x : A) → Right before x → P x) → (xs : List A) → AllRight Right xs
    → Each P xs
each_right Right P f xs right = each_got P xs (λ k x e. f (take k xs) x (right k x (slice_get_within xs k x e) e))

each_of : {A : Type 0} (P Q : A → Type 0) → ((x : A) → P x → Q x) → (xs : List A) → Each P xs → Each Q xs
each_of P Q f [] h = tt
each_of P Q f (x ∷ xs) h = (f x h.0, each_of P Q f xs h.1)

each_map : {A B : Type 0} (f : A → B) (P : B → Type 0) (xs : List A) → Each (λ (x : A). P (f x)) xs → Each P (map f xs)
each_map f P [] h = tt
each_map f P (x ∷ xs) h = (h.0, each_map f P xs h.1)

each_both : {A : Type 0} (P : A → Type 0) (xs ys : List A) → Each P xs → Each P ys → Each P (xs ++ ys)
each_both P [] ys h k = k
each_both P (x ∷ xs) ys h k = (h.0, each_both P xs ys h.1 k)

-- of a list of elements, none of which has this name
each_apart : {A B : Type 0} (name : A → B) (b : B) (xs : List A) → ¬ (Contains (map name xs) b) → Each (λ (x : A). name x ≢ b) xs
each_apart name b [] none = tt
each_apart name b (x ∷ xs) none = (
  λ e. none (subst (λ y. Contains (map name (x ∷ xs)) y) e (at_head (name x) (map name xs))),
  each_apart name b xs (λ has. none (behind_head (name x) (map name xs) b has)),
)

-- what holds of each of the ones with each of the others holds the other way round
each_turned : {A B : Type 0} (R : A → B → Type 0) (xs : List A) (ys : List B) → Each (λ (y : B). Each (λ (x : A). R x y) xs) ys
    → Each (λ (x : A). Each (λ (y : B). R x y) ys) xs
each_turned R [] ys h = tt
each_turned R (x ∷ xs) ys h = (
  each_of (λ y. Each (λ z. R z y) (x ∷ xs)) (λ y. R x y) (λ y r. r.0) ys h,
  each_turned R xs ys (each_of (λ y. Each (λ z. R z y) (x ∷ xs)) (λ y. Each (λ z. R z y) xs) (λ y r. r.1) ys h),
)

neither : (a b : Bool) → a ≡ false → b ≡ false → (a || b) ≡ false
neither a b e f = ap (λ (x : Bool). x || b) e ∙ f

-- ---- the uuids of conflicts

-- each is another than those behind it
abbrev LaterApart : List Conflict → Type 0
LaterApart [] = Unit {0}
LaterApart (c ∷ cs) = Each (λ (d : Conflict). (item_of d).uuid ≢ (item_of c).uuid) cs × LaterApart cs

later_apart : (cs : List Conflict) → ((k : ℕ) (x : Conflict) → slice_get cs k ≡ Some x → ¬ (Contains (conflict_uuids (take k cs)) (item_of x).uuid)) → LaterApart cs
later_apart [] h = tt
later_apart (c ∷ cs) h = (
  each_got (λ (d : Conflict). (item_of d).uuid ≢ (item_of c).uuid) cs
      (λ k x e same. h (suc k) x e
      (subst (λ (u : Bytes). Contains (conflict_uuids (c ∷ take k cs)) u) (sym same) (at_head (item_of c).uuid (conflict_uuids (take k cs))))),
  later_apart cs (λ k x e has. h (suc k) x e (behind_head (item_of c).uuid (conflict_uuids (take k cs)) (item_of x).uuid has)),
)

none_foreign : (uuid : Bytes) (cs : List Conflict) → Each (λ (d : Conflict). (item_of d).uuid ≢ uuid) cs → IsOut uuid (flat_map foreign_of cs)
none_foreign uuid [] h = refl
none_foreign uuid (conflict.Sync i ∷ cs) h = none_foreign uuid cs h.1
none_foreign uuid (conflict.Uuid i ∷ cs) h =
    neither (bytes_eq uuid i.uuid) (list_any (bytes_eq uuid) (flat_map foreign_of cs))
    (is_false (bytes_eq uuid i.uuid) (λ same. h.0 (sym (same_text uuid i.uuid same)))) (none_foreign uuid cs h.1)
none_foreign uuid (conflict.Content i ∷ cs) h = none_foreign uuid cs h.1

abbrev InForeign : List Bytes → Conflict → Type 0
InForeign foreign (conflict.Sync i) = Unit {0}
InForeign foreign (conflict.Uuid i) = IsIn i.uuid foreign
InForeign foreign (conflict.Content i) = Unit {0}

in_foreign : (foreign : List Bytes) (cs : List Conflict) → ((u : Bytes) → IsIn u (flat_map foreign_of cs) → IsIn u foreign) → Each (InForeign foreign) cs
in_foreign foreign [] sub = tt
in_foreign foreign (conflict.Sync i ∷ cs) sub = (tt, in_foreign foreign cs sub)
in_foreign foreign (conflict.Uuid i ∷ cs) sub = (
  sub i.uuid (or_left (bytes_eq i.uuid i.uuid) (list_any (bytes_eq i.uuid) (flat_map foreign_of cs)) (text_same i.uuid i.uuid refl)),
  in_foreign foreign cs (λ u h. sub u (or_right (bytes_eq u i.uuid) (list_any (bytes_eq u) (flat_map foreign_of cs)) h)),
)
in_foreign foreign (conflict.Content i ∷ cs) sub = (tt, in_foreign foreign cs sub)

-- ---- all that is told

told_none : (is : List Item) → foreign_told (map is_retrieved is) ≡ []
told_none [] = refl
told_none (i ∷ is) = told_none is

told_conflicts : (cs : List Conflict) (is : List Item) → foreign_told (map is_conflict cs ++ map is_retrieved is) ≡ flat_map foreign_of cs
told_conflicts [] is = told_none is
told_conflicts (c ∷ cs) is = ap (λ (us : List Bytes). foreign_of c ++ us) (told_conflicts cs is)

pub told_all : (saved : List Item) (cs : List Conflict) (is : List Item) → foreign_told (told_by saved cs is) ≡ flat_map foreign_of cs
told_all [] cs is = told_conflicts cs is
told_all (i ∷ saved) cs is = told_all saved cs is

retrieved_apart : (foreign : List Bytes) (is : List Item) → AreToldApart foreign (map is_retrieved is)
retrieved_apart foreign [] = tt
retrieved_apart foreign (i ∷ is) = (ap (list_any (bytes_eq i.uuid)) (told_none is), retrieved_apart foreign is)

conflicts_apart : (foreign : List Bytes) (cs : List Conflict) (is : List Item) → LaterApart cs → Each (InForeign foreign) cs
    → AreToldApart foreign (map is_conflict cs ++ map is_retrieved is)
conflicts_apart foreign [] is apart has = retrieved_apart foreign is
conflicts_apart foreign (conflict.Sync i ∷ cs) is apart has = (
  ap (list_any (bytes_eq i.uuid)) (told_conflicts cs is) ∙ none_foreign i.uuid cs apart.0,
  conflicts_apart foreign cs is apart.1 has.1,
)
conflicts_apart foreign (conflict.Uuid i ∷ cs) is apart has = (has.0, conflicts_apart foreign cs is apart.1 has.1)
conflicts_apart foreign (conflict.Content i ∷ cs) is apart has = (tt, conflicts_apart foreign cs is apart.1 has.1)

saved_apart : (foreign : List Bytes) (saved : List Item) (cs : List Conflict) (is : List Item)
    → Each (λ (j : Item). Each (λ (c : Conflict). (item_of c).uuid ≢ j.uuid) cs) saved
    → AreToldApart foreign (map is_conflict cs ++ map is_retrieved is) → AreToldApart foreign (told_by saved cs is)
saved_apart foreign [] cs is apart rest = rest
saved_apart foreign (i ∷ saved) cs is apart rest = (
  ap (list_any (bytes_eq i.uuid)) (told_all saved cs is) ∙ none_foreign i.uuid cs apart.0,
  saved_apart foreign saved cs is apart.1 rest,
)

module _ (sent saved : List Item) (conflicts : List Conflict) (retrieved : List Item) (cursor : Option Bytes)
    (passes : Passes sent saved conflicts retrieved cursor) where
  apart_saved : Each (λ (j : Item). Each (λ (c : Conflict). (item_of c).uuid ≢ j.uuid) conflicts) saved
  apart_saved =
      each_turned (λ (j : Item) (c : Conflict). (item_of c).uuid ≢ j.uuid) saved conflicts
      (each_right (IsConflict sent saved) (λ (c : Conflict). Each (λ (j : Item). (item_of c).uuid ≢ j.uuid) saved)
      (λ before c r. each_of (λ (j : Item). j.uuid ≢ (item_of c).uuid) (λ (j : Item). (item_of c).uuid ≢ j.uuid) (λ j apart same. apart (sym same)) saved
      (each_apart (λ (j : Item). j.uuid) (item_of c).uuid saved r.unsaved)) conflicts passes.lists.named.conflicts_are)

  pub told_apart : AreToldApart (flat_map foreign_of conflicts) (told_by saved conflicts retrieved)
  told_apart =
      saved_apart (flat_map foreign_of conflicts) saved conflicts retrieved apart_saved
      (conflicts_apart (flat_map foreign_of conflicts) conflicts retrieved
      (later_apart conflicts (λ k x e. (passes.lists.named.conflicts_are k x (slice_get_within conflicts k x e) e).first))
      (in_foreign (flat_map foreign_of conflicts) conflicts (λ u h. h)))

  pub told_checked : Each IsChecked (told_by saved conflicts retrieved)
  told_checked =
      each_both IsChecked (map is_saved saved) (map is_conflict conflicts ++ map is_retrieved retrieved)
      (each_map is_saved IsChecked saved (each_right (IsSaved sent) HasItsStrings (λ before i r. r.strings) saved passes.lists.named.saved_are))
      (each_both IsChecked (map is_conflict conflicts) (map is_retrieved retrieved)
      (each_map is_conflict IsChecked conflicts
      (each_right (IsConflict sent saved) (λ (c : Conflict). HasItsStrings (item_of c)) (λ before c r. r.strings) conflicts passes.lists.named.conflicts_are))
      (each_map is_retrieved IsChecked retrieved (each_right IsRetrieved HasItsStrings (λ before i r. r.strings) retrieved passes.lists.retrieved_are)))

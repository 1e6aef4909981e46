-- The names of a shelf in memory.
use Rattle.std.proofs.Common.{◌≡◌, inl, inr, ⊎_elim, ℕ, true, false, List, [], ◌∷◌, map, sym, subst, ◌∙◌, refl, arith, Some, None, string_bytes}
use Rattle.std.specs.declared.alloc.Global.{Global}
use Rattle.std.specs.declared.option.Option.{Option}
use Rattle.std.specs.declared.string.String.{String}
use Rattle.std.specs.declared.cmp.Ordering.TheVariants.{Less}
use Rattle.std.specs.BTreeMap.{keys, is_at, IsOrdered}
use Rattle.std.specs.Cmp.Lexicographic.{slice_cmp}
use Rattle.std.specs.List.{Contains, AllByRecursion}
use Rattle.std.specs.List.Sorted.{IsStrictlySortedBy}
use Rattle.std.specs.Map.{keys_of, lookup}
use Rattle.std.specs.Ordering.{is_eq, nat_cmp}
use Rattle.std.specs.String.{string_cmp}
use Rattle.std.proofs.lemmas.Bool.{cases_Bool}
use Rattle.std.proofs.lemmas.List.Elements.{Contains-append_cases, Contains-append_left, Contains-append_right, Contains-push_cases, Contains-push}
use Rattle.std.proofs.lemmas.Map.Keys.{sorted_head, sorted_tail}
use Rattle.std.proofs.lemmas.Map.Text.{is_eq-slice_cmp, text_cmp}
use Rattle.std.proofs.lemmas.Slice.Eq.{bytes_eq-Decides}
use Rattle.sn_disk.specs.Shelf.{IsKnown}
use Rattle.sn_disk.specs.MemShelf.{slot_of, shelf_slot, AreNames}
use Rattle.sn_disk.specs.declared.memory.MemDisk.{MemDisk}
use Rattle.sn_disk.specs.declared.mem_shelf.MemShelf.{MemShelf}

abbrev Name : Type 0
Name = String Global

abbrev texts : List Name → List (List ℕ)
texts names = map (λ (name : Name). string_bytes name) names

each_below : (name : Name) (names : List Name) → AllByRecursion (λ other. string_cmp name other ≡ Less) names → AllByRecursion (λ other. slice_cmp nat_cmp (string_bytes name) other ≡ Less) (texts names)
each_below name [] all = tt
each_below name (other ∷ names) all = (all.0, each_below name names all.1)

nil_sorted : IsStrictlySortedBy (slice_cmp nat_cmp) []
unfolding IsStrictlySortedBy
nil_sorted = tt

next_sorted : (name : List ℕ) (names : List (List ℕ)) → AllByRecursion (λ other. slice_cmp nat_cmp name other ≡ Less) names → IsStrictlySortedBy (slice_cmp nat_cmp) names → IsStrictlySortedBy (slice_cmp nat_cmp) (name ∷ names)
unfolding IsStrictlySortedBy
next_sorted name names all sorted = (all, sorted)

texts_sorted : (names : List Name) → IsStrictlySortedBy string_cmp names → IsStrictlySortedBy (slice_cmp nat_cmp) (texts names)
texts_sorted [] sorted = nil_sorted
texts_sorted (name ∷ names) sorted = next_sorted (string_bytes name) (texts names) (each_below name names (sorted_head string_cmp name names sorted)) (texts_sorted names (sorted_tail string_cmp name names sorted))

same_text : (one other : List ℕ) → is_eq (slice_cmp nat_cmp one other) ≡ true → one ≡ other
same_text one other is = (bytes_eq-Decides one other).0 (sym (is_eq-slice_cmp one other) ∙ is)

text_same : (one other : List ℕ) → one ≡ other → is_eq (slice_cmp nat_cmp one other) ≡ true
text_same one other is = is_eq-slice_cmp one other ∙ (bytes_eq-Decides one other).1 is

some_known : (place : Option MemDisk) → IsKnown (slot_of (Some place))
some_known None = tt
some_known (Some disk) = tt

none_in_nil : (name : List ℕ) → Contains [] name → ⊥
none_in_nil name has = omega (arith, has.1)

known : (entries : List (Name × Option MemDisk)) (name : List ℕ) → Contains (texts (keys_of entries)) name → IsKnown (slot_of (lookup (is_at (text_cmp name)) entries))
known [] name has = absurd (none_in_nil name has)
known (entry ∷ entries) name has = elim (cases_Bool (is_eq (slice_cmp nat_cmp name (string_bytes entry.0)))) [
  | inl hit ↦ rw hit (some_known entry.1)
  | inr miss ↦ rw miss (known entries name (⊎_elim
      (λ (here : Contains (string_bytes entry.0 ∷ []) name). absurd (no_here miss here))
      (λ (later : Contains (texts (keys_of entries)) name). later)
      (Contains-append_cases (string_bytes entry.0 ∷ []) (texts (keys_of entries)) name has)))
]
  where
    no_here : is_eq (slice_cmp nat_cmp name (string_bytes entry.0)) ≡ false → Contains (string_bytes entry.0 ∷ []) name → ⊥
    no_here miss here = ⊎_elim (λ (none : Contains [] name). none_in_nil name none)
        (λ (is : string_bytes entry.0 ≡ name). let hit = text_same name (string_bytes entry.0) (sym is) in cc)
        (Contains-push_cases [] (string_bytes entry.0) name here)

has : (entries : List (Name × Option MemDisk)) (name : List ℕ) → IsKnown (slot_of (lookup (is_at (text_cmp name)) entries)) → Contains (texts (keys_of entries)) name
has [] name known = absurd known
has (entry ∷ entries) name known = elim (cases_Bool (is_eq (slice_cmp nat_cmp name (string_bytes entry.0)))) [
  | inl hit ↦ Contains-append_left (string_bytes entry.0 ∷ []) (texts (keys_of entries)) name
      (subst (λ (text : List ℕ). Contains (text ∷ []) name) (same_text name (string_bytes entry.0) hit) (Contains-push [] name))
  | inr miss ↦ Contains-append_right (string_bytes entry.0 ∷ []) (texts (keys_of entries)) name (has entries name (subst (λ place. IsKnown (slot_of place)) (rw miss refl) known))
]

pub names_are : (shelf : MemShelf) (names : List (List ℕ)) → IsOrdered string_cmp shelf.disks → names ≡ texts (keys shelf.disks) → AreNames shelf names
unfolding shelf_slot
names_are shelf names ordered is = subst (λ (l : List (List ℕ)). AreNames shelf l) (sym is) (record {
  sorted = texts_sorted (keys shelf.disks) ordered;
  whole = λ name. (known shelf.disks.entries name, has shelf.disks.entries name);
})

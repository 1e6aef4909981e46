-- The rows of one kind among all entries.
use Rattle.std.proofs.Common.{◌≡◌, Bool, true, false, List, [], ◌∷◌, ◌++◌, Option, Some, None, refl, sym, ap, subst, ◌∙◌, ⊎_elim, inl, inr, arith, eq-eqb}
use Rattle.std.specs.Prelude.{◌==◌, ◌^◌, ◌-◌, ℕ, cond, if◌then◌else◌}
use Rattle.std.specs.List.{flat_map, filter, Contains, AllByRecursion}
use Rattle.std.specs.List.Sorted.{IsStrictlySortedBy}
use Rattle.std.specs.Map.{keys_of}
use Rattle.std.specs.BTreeMap as tree
use Rattle.std.specs.BTreeMap.Range.{IsInRange, range_contains, entries_between}
use Rattle.std.specs.declared.ops.Bound.{Bound}
use Rattle.std.specs.declared.ops.Bound.TheVariants.{Included, Excluded, Unbounded}
use Rattle.std.specs.Option.{option_and_then}
use Rattle.std.specs.Ordering.{is_eq}
use Rattle.std.specs.declared.cmp.Ordering.{Ordering}
use Rattle.std.specs.declared.cmp.Ordering.TheVariants.{Less}
use Rattle.std.proofs.lemmas.Bool.{cases_Bool, eqb-true}
use Rattle.std.proofs.lemmas.List.Elements.{Contains-append_cases, Contains-append_left, Contains-append_right, Contains-push_cases, Contains-push}
use Rattle.std.proofs.lemmas.Map.Keys.{sorted_head, sorted_tail}
use Rattle.std.proofs.lemmas.Map.Lookups.{CmpEqualImpliesEq}
use Rattle.std.proofs.lemmas.Map.Views.{btree_map_get_iff, range_contains-from_IsInRange}
use Rattle.sn_rows.specs.Kinds.{key_kind, kind_number, kind_of_number}
use Rattle.sn_rows.specs.contracts.key.KeyOrd.TheImpl.Laws.{total-law}
use Rattle.sn_rows.specs.declared.key.Key.{Key}
use Rattle.sn_rows.specs.declared.key.Key.TheVariants as key
use Rattle.sn_rows.specs.declared.key.Slot.TheVariants.{Asked}
use Rattle.sn_rows.specs.declared.kind.RowKind.{RowKind}
use Rattle.sn_rows.specs.declared.kind.RowKind.TheVariants.{Store, Account, Generation, Item, Owner, Set, Local}
use Rattle.sn_rows.specs.declared.value.Value.{Value}
use Rattle.sn_rows.specs.Facts.{keys_compare, same_order}
use Rattle.sn_row_map.specs.Keys.{key_cmp}
use Rattle.sn_row_map.specs.RowMaps.{row_in}
use Rattle.sn_row_map.specs.Ranges.{row_of_kind, AreRowsOf}
use Rattle.sn_row_map.specs.declared.row_map.RowMap.{RowMap}
use Rattle.sn_row_map.proofs.KeyLemmas.{key_tie}

back : (a : RowKind) → kind_of_number (kind_number a) ≡ Some a
back Store = refl
back Account = refl
back Generation = refl
back Item = refl
back Owner = refl
back Set = refl
back Local = refl

pub same_kind : (a b : RowKind) → kind_number a ≡ kind_number b → a ≡ b
same_kind a b e = let s : Some a ≡ Some b = sym (back a) ∙ ap kind_of_number e ∙ back b in cc

abbrev pair : Key → Value → (Key × Value)
pair key value = (key, value)

abbrev found : Key → Value → (Key × Option Value)
found key value = (key, Some value)

-- a row that may be chosen, before others
all_chosen : (P : Key → Type 0) (b : Bool) (key : Key) (value : Value) (rest : List (Key × Value)) → P key → AllByRecursion P (keys_of rest) → AllByRecursion P (keys_of ((if b then (key, value) ∷ [] else []) ++ rest))
all_chosen P true key value rest p all = (p, all)
all_chosen P false key value rest p all = all

sorted_chosen : (b : Bool) (key : Key) (value : Value) (rest : List (Key × Value)) → AllByRecursion (λ k. key_cmp key k ≡ Less) (keys_of rest) → IsStrictlySortedBy key_cmp (keys_of rest) → IsStrictlySortedBy key_cmp (keys_of ((if b then (key, value) ∷ [] else []) ++ rest))
unfolding IsStrictlySortedBy
sorted_chosen true key value rest all sorted = (all, sorted)
sorted_chosen false key value rest all sorted = sorted

part_all : (kind : RowKind) (P : Key → Type 0) (es : List (Key × Option Value)) → AllByRecursion P (keys_of es) → AllByRecursion P (keys_of (flat_map (row_of_kind kind) es))
part_all kind P [] all = tt
part_all kind P ((key, None) ∷ es) all = part_all kind P es all.1
part_all kind P ((key, Some value) ∷ es) all = all_chosen P (kind_number (key_kind key) == kind_number kind) key value (flat_map (row_of_kind kind) es) all.0 (part_all kind P es all.1)

nil_sorted : IsStrictlySortedBy key_cmp []
unfolding IsStrictlySortedBy
nil_sorted = tt

part_sorted : (kind : RowKind) (es : List (Key × Option Value)) → IsStrictlySortedBy key_cmp (keys_of es) → IsStrictlySortedBy key_cmp (keys_of (flat_map (row_of_kind kind) es))
part_sorted kind [] sorted = nil_sorted
part_sorted kind ((key, None) ∷ es) sorted = part_sorted kind es (sorted_tail key_cmp key (keys_of es) sorted)
part_sorted kind ((key, Some value) ∷ es) sorted =
    sorted_chosen (kind_number (key_kind key) == kind_number kind) key value (flat_map (row_of_kind kind) es)
    (part_all kind (λ k. key_cmp key k ≡ Less) es (sorted_head key_cmp key (keys_of es) sorted)) (part_sorted kind es (sorted_tail key_cmp key (keys_of es) sorted))

pub none_in_nil : {X : Type 0} (x : X) → Contains [] x → ⊥
none_in_nil x h = absurd (omega (arith, h.1))

one_chosen : (b : Bool) (k key : Key) (v value : Value) → Contains (if b then (k, v) ∷ [] else []) (pair key value) → (b ≡ true) × (k ≡ key) × (v ≡ value)
one_chosen true k key v value h =
    ⊎_elim (λ (n : Contains {X = Key × Value} [] (pair key value)). absurd (none_in_nil (pair key value) n)) (λ (e : (pair k v) ≡ (pair key value)). (refl, ap (λ (p : Key × Value). p.0) e, ap (λ (p : Key × Value). p.1) e)) (Contains-push_cases [] (pair k v) (pair key value) h)
one_chosen false k key v value h = absurd (none_in_nil (pair key value) h)

from_one : (kind : RowKind) (e : Key × Option Value) (key : Key) (value : Value) → Contains (row_of_kind kind e) (pair key value) → (key_kind key ≡ kind) × (e ≡ (found key value))
from_one kind (k, None) key value h = absurd (none_in_nil (pair key value) h)
from_one kind (k, Some v) key value h =
    let c = one_chosen (kind_number (key_kind k) == kind_number kind) k key v value h in
    (sym (ap key_kind c.1) ∙ same_kind (key_kind k) kind (eqb-true (kind_number (key_kind k)) (kind_number kind) c.0), ap (λ (p : Key × Value). (p.0, Some p.1)) (let both : (pair k v) ≡ (pair key value) = pair_same k key v value c.1 c.2 in both))
  where
    pair_same : (k key : Key) (v value : Value) → k ≡ key → v ≡ value → pair k v ≡ pair key value
    pair_same k key v value e f = cc

from_part : (kind : RowKind) (es : List (Key × Option Value)) (key : Key) (value : Value) → Contains (flat_map (row_of_kind kind) es) (pair key value) → (key_kind key ≡ kind) × Contains es (found key value)
from_part kind [] key value h = absurd (none_in_nil (pair key value) h)
from_part kind (e ∷ es) key value h =
    ⊎_elim
    (λ (here : Contains (row_of_kind kind e) (pair key value)). let c = from_one kind e key value here in (c.0, Contains-append_left (e ∷ []) es (found key value) (subst (λ (x : Key × Option Value). Contains (x ∷ []) (found key value)) (sym c.1) (Contains-push [] (found key value)))))
    (λ (later : Contains (flat_map (row_of_kind kind) es) (pair key value)). let c = from_part kind es key value later in (c.0, Contains-append_right (e ∷ []) es (found key value) c.1))
    (Contains-append_cases (row_of_kind kind e) (flat_map (row_of_kind kind) es) (pair key value) h)

into_one : (kind : RowKind) (key : Key) (value : Value) → key_kind key ≡ kind → row_of_kind kind (found key value) ≡ (pair key value) ∷ []
into_one kind key value e = ap (λ (b : Bool). if b then (key, value) ∷ [] else []) (eq-eqb (kind_number (key_kind key)) (kind_number kind) (ap kind_number e))

into_part : (kind : RowKind) (es : List (Key × Option Value)) (key : Key) (value : Value) → key_kind key ≡ kind → Contains es (found key value) → Contains (flat_map (row_of_kind kind) es) (pair key value)
into_part kind [] key value of h = absurd (none_in_nil (found key value) h)
into_part kind (e ∷ es) key value of h =
    ⊎_elim
    (λ (here : Contains (e ∷ []) (found key value)).
    let is : e ≡ (found key value) = ⊎_elim (λ (n : Contains {X = Key × Option Value} [] (found key value)). absurd (none_in_nil (found key value) n)) (λ (p : e ≡ (found key value)). p) (Contains-push_cases [] e (found key value) here) in
    let row : row_of_kind kind e ≡ (pair key value) ∷ [] = ap (row_of_kind kind) is ∙ into_one kind key value of in
    Contains-append_left (row_of_kind kind e) (flat_map (row_of_kind kind) es) (pair key value) (subst (λ (l : List (Key × Value)). Contains l (pair key value)) (sym row) (Contains-push [] (pair key value))))
    (λ (later : Contains es (found key value)). Contains-append_right (row_of_kind kind e) (flat_map (row_of_kind kind) es) (pair key value) (into_part kind es key value of later))
    (Contains-append_cases (e ∷ []) es (found key value) h)

exact : CmpEqualImpliesEq key_cmp
exact x y e = (keys_compare x y).0 (sym (key_tie x y) ∙ ap is_eq e)

inner_some : (o : Option (Option Value)) (value : Value) → option_and_then (λ (found : Option Value). found) o ≡ Some value → o ≡ Some (Some value)
inner_some None value e = absurd cc
inner_some (Some v) value e = ap Some e

pub ranges : (m : RowMap) (kind : RowKind) (rows : List (Key × Value)) → tree.IsOrdered key_cmp m.entries → rows ≡ flat_map (row_of_kind kind) m.entries.entries → AreRowsOf m kind rows
unfolding row_in
ranges m kind rows ordered is = subst (AreRowsOf m kind) (sym is) record {
  sorted = subst (λ (R : Key → Key → Ordering). IsStrictlySortedBy R (keys_of (flat_map (row_of_kind kind) m.entries.entries))) same_order (part_sorted kind m.entries.entries ordered);
  whole = λ key value. (
    λ h.
        let c = from_part kind m.entries.entries key value h in
        (c.0, ap (λ (o : Option (Option Value)). option_and_then (λ (found : Option Value). found) o) ((btree_map_get_iff total-law exact m.entries ordered key (Some value)).1 c.1)),
    λ h. into_part kind m.entries.entries key value h.0 ((btree_map_get_iff total-law exact m.entries ordered key (Some value)).0 (inner_some (tree.get key_cmp m.entries key) value h.1)),
  );
}

-- bounds of a kind, the least uuid given
abbrev lower : RowKind → Bound Key
lower Store = Included key.Store
lower Account = Excluded key.Store
lower Generation = Excluded (key.Account (2 ^ 64 - 1))
lower Item = Excluded (key.Generation (2 ^ 64 - 1) (2 ^ 64 - 1))
lower Owner = Included key.Owner
lower Set = Excluded key.Owner
lower Local = Excluded (key.Set Asked)

abbrev upper : List ℕ → RowKind → Bound Key
upper least Store = Included key.Store
upper least Account = Excluded (key.Generation 0 0)
upper least Generation = Excluded (key.Item least)
upper least Item = Excluded key.Owner
upper least Owner = Included key.Owner
upper least Set = Excluded (key.Local 0)
upper least Local = Unbounded

between_own : (least : List ℕ) (key : Key) → IsInRange key_cmp (lower (key_kind key)) (upper least (key_kind key)) key
between_own least key.Store = (refl, refl)
between_own least (key.Account n) = (refl, refl)
between_own least (key.Generation n g) = (refl, refl)
between_own least (key.Item u) = (refl, refl)
between_own least key.Owner = (refl, refl)
between_own least (key.Set s) = (refl, refl)
between_own least (key.Local n) = (refl, tt)

-- a key of a kind lies between the bounds of the kind
pub between : (least : List ℕ) (kind : RowKind) (key : Key) → key_kind key ≡ kind → IsInRange key_cmp (lower kind) (upper least kind) key
between least kind key is = subst (λ (k : RowKind). IsInRange key_cmp (lower k) (upper least k) key) is (between_own least key)

never_both : (b : Bool) → b ≡ true → b ≡ false → ⊥
never_both b t f = absurd cc

-- an entry whose key doesn't pass a test that all keys of the kind pass
outside : (test : Key → Bool) (kind : RowKind) → ((key : Key) → key_kind key ≡ kind → test key ≡ true) → (e : Key × Option Value) → test e.0 ≡ false → row_of_kind kind e ≡ []
outside test kind passes (key, None) fails = refl
outside test kind passes (key, Some value) fails = elim (cases_Bool (kind_number (key_kind key) == kind_number kind)) [
  | inl same ↦ absurd (never_both (test key) (passes key (same_kind (key_kind key) kind (eqb-true (kind_number (key_kind key)) (kind_number kind) same))) fails)
  | inr other ↦ ap (λ (b : Bool). if b then (key, value) ∷ [] else []) other
]

kept_one : (b : Bool) (kind : RowKind) (e : Key × Option Value) (rest all : List (Key × Option Value)) → (b ≡ false → row_of_kind kind e ≡ []) → flat_map (row_of_kind kind) rest ≡ flat_map (row_of_kind kind) all
    → flat_map (row_of_kind kind) (cond b (e ∷ rest) rest) ≡ flat_map (row_of_kind kind) (e ∷ all)
kept_one true kind e rest all out same = ap (λ (l : List (Key × Value)). row_of_kind kind e ++ l) same
kept_one false kind e rest all out same = same ∙ sym (ap (λ (l : List (Key × Value)). l ++ flat_map (row_of_kind kind) all) (out refl))

pub kept : (test : Key → Bool) (kind : RowKind) → ((key : Key) → key_kind key ≡ kind → test key ≡ true) → (es : List (Key × Option Value)) → flat_map (row_of_kind kind) (filter (λ e. test e.0) es) ≡ flat_map (row_of_kind kind) es
kept test kind passes [] = refl
kept test kind passes (e ∷ es) = kept_one (test e.0) kind e (filter (λ e. test e.0) es) es (outside test kind passes e) (kept test kind passes es)

-- the same of the entries between two bounds that have the keys of the kind between them
pub ranges_between : (m : RowMap) (kind : RowKind) (rows : List (Key × Value)) (lo hi : Bound Key) → tree.IsOrdered key_cmp m.entries
    → ((key : Key) → key_kind key ≡ kind → IsInRange key_cmp lo hi key)
    → rows ≡ flat_map (row_of_kind kind) (entries_between key_cmp lo hi m.entries.entries) → AreRowsOf m kind rows
ranges_between m kind rows lo hi ordered inside is =
    ranges m kind rows ordered (is ∙ kept (range_contains key_cmp lo hi) kind (λ key of. range_contains-from_IsInRange total-law lo hi key (inside key of)) m.entries.entries)

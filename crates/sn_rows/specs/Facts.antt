-- Facts on keys, and on what changes leave of the rows, for the crates above.
use Rattle.std.proofs.Common.{◌≡◌, ◌≢◌, Bool, true, false, List, [], ◌∷◌, ◌++◌, Option, Some, None, refl, ap, subst, ◌∙◌, inl, inr, ◌⊎◌}
use Rattle.std.specs.Prelude.{IsTrue, ◌==◌, ◌↔◌, if◌then◌else◌}
use Rattle.std.specs.List.{flat_map}
use Rattle.std.proofs.lemmas.Bool.{eqb-true, eq-eqb, and_parts, and_from, cases_Bool, false_from_ne_true}
use Rattle.std.proofs.lemmas.Grind.{flat_map-append}
use Rattle.std.proofs.lemmas.List.{append-nil}
use Rattle.std.proofs.lemmas.List.Concat.{flat_map-cons}
use Rattle.std.proofs.lemmas.Slice.Eq.{bytes_eq-Decides}
use mathlib.Core.Path.{fun_ext}
use Rattle.std.specs.Cmp.{IsTotalOrder}
use Rattle.sn_rows.specs.contracts.key.KeyOrd.TheImpl.Laws.{total-law}
use Rattle.sn_rows.specs.declared.key.Slot.{Slot}
use Rattle.sn_rows.specs.declared.key.Slot.TheVariants.{Present, Older, Asked}
use Rattle.sn_rows.specs.declared.key.Key.{Key}
use Rattle.sn_rows.specs.declared.key.Key.TheVariants as key
use Rattle.sn_rows.specs.declared.value.Value.{Value}
use Rattle.sn_rows.specs.declared.change.Change.{Change}
use Rattle.sn_rows.specs.declared.change.Change.TheVariants.{Put, Remove}
use Rattle.sn_rows.specs.Kinds.{key_kind, value_kind}
use Rattle.sn_rows.specs.Order.{code_order, key_order}
use Rattle.sn_rows.specs.Table.{Rows, Puts, Removes, same_slot, same_key, key_of, value_of, changed, row_after, rows_after, rows_of_batches, with_row, Spares, IsLast}

same_slots : (a b : Slot) → IsTrue (same_slot a b) ↔ (a ≡ b)
same_slots Present Present = (λ t. refl, λ e. refl)
same_slots Older Older = (λ t. refl, λ e. refl)
same_slots Asked Asked = (λ t. refl, λ e. refl)
same_slots a b = (λ t. absurd cc, λ e. absurd cc)

-- two keys are the same where they are equal
pub keys_compare : (a b : Key) → IsTrue (same_key a b) ↔ (a ≡ b)
keys_compare key.Store key.Store = (λ t. refl, λ e. refl)
keys_compare (key.Account n) (key.Account m) = (λ t. ap key.Account (eqb-true n m t), λ e. eq-eqb n m cc)
keys_compare (key.Generation n g) (key.Generation m h) = (
  λ t. let p = and_parts (n == m) (g == h) t in let d : n ≡ m = eqb-true n m p.0 in let e : g ≡ h = eqb-true g h p.1 in cc,
  λ e. and_from (n == m) (g == h) (eq-eqb n m cc) (eq-eqb g h cc),
)
keys_compare (key.Item u) (key.Item w) = (λ t. ap key.Item ((bytes_eq-Decides u w).0 t), λ e. (bytes_eq-Decides u w).1 cc)
keys_compare key.Owner key.Owner = (λ t. refl, λ e. refl)
keys_compare (key.Set s) (key.Set t) = (λ h. ap key.Set ((same_slots s t).0 h), λ e. (same_slots s t).1 cc)
keys_compare (key.Local n) (key.Local m) = (λ t. ap key.Local (eqb-true n m t), λ e. eq-eqb n m cc)
keys_compare a b = (λ t. absurd cc, λ e. absurd cc)

pub same_self : (k : Key) → same_key k k ≡ true
same_self k = (keys_compare k k).1 refl

pub row_after-append : (found : Option Value) (key : Key) (first second : List Change) → row_after found key (first ++ second) ≡ row_after (row_after found key first) key second
row_after-append found key [] second = refl
row_after-append found key (c ∷ first) second = row_after-append (changed found key c) key first second

-- changes of other rows leave a row as it was
pub spared_stays : (found : Option Value) (key : Key) (changes : List Change) → Spares key changes → row_after found key changes ≡ found
spared_stays found key [] s = refl
spared_stays found key (c ∷ cs) s =
    let one : changed found key c ≡ found = rw s.0 refl in
    ap (λ (o : Option Value). row_after o key cs) one ∙ spared_stays found key cs s.1

-- what the last change of a row leaves
pub last_counts : (found : Option Value) (key : Key) (before : List Change) (c : Change) (after : List Change) → key_of c ≡ key → Spares key after → row_after found key (before ++ c ∷ after) ≡ value_of c
last_counts found key before c after named s =
    let same : same_key (key_of c) key ≡ true = (keys_compare (key_of c) key).1 named in
    let one : changed (row_after found key before) key c ≡ value_of c = rw same refl in
    row_after-append found key before (c ∷ after)
    ∙ ap (λ (o : Option Value). row_after o key after) one
    ∙ spared_stays (value_of c) key after s

-- the last change of a row, with one change before all
later : (c : Change) (cs : List Change) (key : Key) (d : Change) → IsLast cs key d → IsLast (c ∷ cs) key d
later c cs key d l = record { before = c ∷ l.before; after = l.after; parts = ap (λ (xs : List Change). c ∷ xs) l.parts; named = l.named; spared = l.spared }

-- of each key there is a last change, or none
pub last_or_spared : (changes : List Change) (key : Key) → ((change : Change) × IsLast changes key change) ⊎ Spares key changes
last_or_spared [] key = inr tt
last_or_spared (c ∷ cs) key =
    elim (last_or_spared cs key) [
      | inl found ↦ inl (found.0, later c cs key found.0 found.1)
      | inr spared ↦ elim (cases_Bool (same_key (key_of c) key)) [
        | inl same ↦ inl (c, record { before = []; after = cs; parts = refl; named = (keys_compare (key_of c) key).0 same; spared = spared })
        | inr other ↦ inr (other, spared)
      ]
    ]

-- a batch that follows others
pub batch_follows : (batches : List (List Change)) (batch : List Change) (key : Key) → rows_of_batches (batches ++ batch ∷ []) key ≡ rows_after (rows_of_batches batches) batch key
batch_follows batches batch key =
    let all : flat_map (λ (b : List Change). b) (batches ++ batch ∷ []) ≡ flat_map (λ (b : List Change). b) batches ++ batch =
    flat_map-append (λ (b : List Change). b) batches (batch ∷ []) ∙ ap (λ (x : List Change). flat_map (λ (b : List Change). b) batches ++ x) (flat_map-cons (λ (b : List Change). b) batch [] ∙ append-nil batch) in
    ap (row_after None key) all ∙ row_after-append None key (flat_map (λ (b : List Change). b) batches) batch

-- keys that differ are told apart
pub apart_keys : (a b : Key) → a ≢ b → same_key a b ≡ false
apart_keys a b apart = false_from_ne_true (same_key a b) (λ t. apart ((keys_compare a b).0 t))

change_gives : (rows : Rows) (change : Change) (at : Key) (found : Option Value) → key_of change ≡ at → value_of change ≡ found
    → rows_after rows (change ∷ []) ≡ with_row rows at found
change_gives rows change at found key_is value_is =
    ap (λ (k : Key). with_row rows k (value_of change)) key_is ∙ ap (λ (o : Option Value). with_row rows at o) value_is

pub with_here : (rows : Rows) (at : Key) (found : Option Value) → with_row rows at found at ≡ found
with_here rows at found = ap (λ (b : Bool). if b then found else rows at) (same_self at)

pub with_elsewhere : (rows : Rows) (at other : Key) (found : Option Value) → at ≢ other → with_row rows at found other ≡ rows other
with_elsewhere rows at other found apart = ap (λ (b : Bool). if b then found else rows other) (apart_keys at other apart)

-- a put leaves the rows with its own row
pub put_gives : (rows : Rows) (change : Change) (at : Key) (v : Value) → Puts change at v → rows_after rows (change ∷ []) ≡ with_row rows at (Some v)
put_gives rows change at v p = change_gives rows change at (Some v) p.key_is p.value_is

pub put_here : (rows : Rows) (change : Change) (at : Key) (v : Value) → Puts change at v → rows_after rows (change ∷ []) at ≡ Some v
put_here rows change at v p = ap (λ (r : Rows). r at) (put_gives rows change at v p) ∙ with_here rows at (Some v)

pub put_elsewhere : (rows : Rows) (change : Change) (at other : Key) (v : Value) → Puts change at v → at ≢ other
    → rows_after rows (change ∷ []) other ≡ rows other
put_elsewhere rows change at other v p apart = ap (λ (r : Rows). r other) (put_gives rows change at v p) ∙ with_elsewhere rows at other (Some v) apart

-- of keys that compare apart, as those of two kinds do
pub put_apart : (rows : Rows) (change : Change) (at other : Key) (v : Value) → Puts change at v → same_key at other ≡ false
    → rows_after rows (change ∷ []) other ≡ rows other
put_apart rows change at other v p off = ap (λ (r : Rows). r other) (put_gives rows change at v p) ∙ ap (λ (b : Bool). if b then Some v else rows other) off

-- of a key, one of the two is so
pub put_or_not : (rows : Rows) (change : Change) (at : Key) (v : Value) → Puts change at v → (other : Key)
    → (at ≡ other) ⊎ (rows_after rows (change ∷ []) other ≡ rows other)
put_or_not rows change at v p other =
    elim (cases_Bool (same_key at other)) [
      | inl same ↦ inl ((keys_compare at other).0 same)
      | inr apart ↦ inr (ap (λ (r : Rows). r other) (put_gives rows change at v p) ∙ ap (λ (b : Bool). if b then Some v else rows other) apart)
    ]

-- of two puts under different keys, the first one's row
pub first_put : (rows : Rows) (first second : Change) (at later : Key) (v w : Value) → Puts first at v → Puts second later w → later ≢ at
    → rows_after rows (first ∷ second ∷ []) at ≡ Some v
first_put rows first second at later v w p q apart =
    put_elsewhere (rows_after rows (first ∷ [])) second later at w q apart ∙ put_here rows first at v p

-- the second one's
pub second_put : (rows : Rows) (first second : Change) (later : Key) (w : Value) → Puts second later w
    → rows_after rows (first ∷ second ∷ []) later ≡ Some w
second_put rows first second later w q = put_here (rows_after rows (first ∷ [])) second later w q

-- and every row that neither puts
pub neither_put : (rows : Rows) (first second : Change) (at later other : Key) (v w : Value) → Puts first at v → Puts second later w
    → at ≢ other → later ≢ other → rows_after rows (first ∷ second ∷ []) other ≡ rows other
neither_put rows first second at later other v w p q apart away =
    put_elsewhere (rows_after rows (first ∷ [])) second later other w q away ∙ put_elsewhere rows first at other v p apart

-- a removal leaves the rows without its row
pub removal_gives : (rows : Rows) (change : Change) (at : Key) → Removes change at → rows_after rows (change ∷ []) ≡ with_row rows at None
removal_gives rows change at r = change_gives rows change at None r.key_is r.value_is

pub removed_here : (rows : Rows) (change : Change) (at : Key) → Removes change at → rows_after rows (change ∷ []) at ≡ None
removed_here rows change at r = ap (λ (a : Rows). a at) (removal_gives rows change at r) ∙ with_here rows at None

pub removed_elsewhere : (rows : Rows) (change : Change) (at other : Key) → Removes change at → at ≢ other
    → rows_after rows (change ∷ []) other ≡ rows other
removed_elsewhere rows change at other r apart = ap (λ (a : Rows). a other) (removal_gives rows change at r) ∙ with_elsewhere rows at other None apart

-- the code compares keys in their order
slots_in_order : (s t : Slot) → code_order (key.Set s) (key.Set t) ≡ key_order (key.Set s) (key.Set t)
slots_in_order Present Present = refl
slots_in_order Present Older = refl
slots_in_order Present Asked = refl
slots_in_order Older Present = refl
slots_in_order Older Older = refl
slots_in_order Older Asked = refl
slots_in_order Asked Present = refl
slots_in_order Asked Older = refl
slots_in_order Asked Asked = refl

pub keys_in_order : (a b : Key) → code_order a b ≡ key_order a b
keys_in_order key.Store key.Store = refl
keys_in_order (key.Account n) (key.Account m) = refl
keys_in_order (key.Generation n g) (key.Generation m h) = refl
keys_in_order (key.Item u) (key.Item w) = refl
keys_in_order key.Owner key.Owner = refl
keys_in_order (key.Set s) (key.Set t) = slots_in_order s t
keys_in_order (key.Local n) (key.Local m) = refl
keys_in_order a b = refl

pub same_order : code_order ≡ key_order
same_order = fun_ext (λ a. fun_ext (λ b. keys_in_order a b))

-- of any two keys one comes first or they are the same, and what comes before a key comes before those behind it
pub key_order_total : IsTotalOrder key_order
key_order_total = subst IsTotalOrder same_order total-law

-- the value, where there is one, is of the key's kind
abbrev pub IsOfKind : Key → Option Value → Type 0
IsOfKind k found = (v : Value) → found ≡ Some v → key_kind k ≡ value_kind v

own_kind : (c : Change) → IsOfKind (key_of c) (value_of c)
own_kind (Put row) v is = let same : row.value ≡ v = cc in row.one_kind ∙ ap value_kind same
own_kind (Remove k) v is = absurd cc

either_kind : (b : Bool) (x y : Option Value) (k : Key) → (b ≡ true → IsOfKind k x) → IsOfKind k y → IsOfKind k (if b then x else y)
either_kind true x y k f h = f refl
either_kind false x y k f h = h

changed_kind : (found : Option Value) (k : Key) (c : Change) → IsOfKind k found → IsOfKind k (changed found k c)
changed_kind found k c h =
    either_kind (same_key (key_of c) k) (value_of c) found k
    (λ t. subst (λ (q : Key). IsOfKind q (value_of c)) ((keys_compare (key_of c) k).0 t) (own_kind c)) h

-- changes leave values of their keys' kinds
pub kind_after : (found : Option Value) (k : Key) (changes : List Change) → IsOfKind k found → IsOfKind k (row_after found k changes)
kind_after found k [] h = h
kind_after found k (c ∷ cs) h = kind_after (changed found k c) k cs (changed_kind found k c h)

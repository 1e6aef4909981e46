-- Lines of a device's items, gathered by label from row to row.
use Rattle.std.proofs.Common.{◌≡◌, ℕ, List, [], ◌∷◌, ◌++◌, Option, Some, None, Bool, true, false, ◌⊎◌, refl, sym, ap, ◌∙◌, subst, inl, inr, ⊎_elim}
use Rattle.std.specs.Prelude.{◌==◌, cond, filter, if◌then◌else◌, not}
use Rattle.std.specs.BTreeMap.{BTreeMap, IsEmpty, IsOrdered, Updates, get, is_at, values}
use Rattle.std.specs.List.{flat_map}
use Rattle.std.specs.Map.{lookup}
use Rattle.std.specs.Ordering.{nat_cmp}
use Rattle.std.specs.Str.{bytes_eq}
use Rattle.sn_laws.specs.Each.{One}
use Rattle.sn_laws.specs.Lookups.{Bytes}
use Rattle.sn_laws.proofs.Facts.{or_left, or_right, same_number, text_same}
use Rattle.sn_report.specs.Labels.{Labels, is_labelled, items_of, label_from}
use Rattle.sn_row_map.specs.Ranges.{AreRowsOf, rows_behind, rows_of}
use Rattle.sn_row_map.specs.RowMaps.{row_in}
use Rattle.sn_row_map.specs.Steps.{GoesOn, IsFirst, IsNext}
use Rattle.sn_row_map.specs.declared.row_map.RowMap.{RowMap}
use Rattle.sn_rows.specs.Kinds.{key_kind}
use Rattle.sn_rows.specs.declared.device_rows.LocalItem.{LocalItem}
use Rattle.sn_rows.specs.declared.key.Key.{Key}
use Rattle.sn_rows.specs.declared.key.Key.TheVariants as key
use Rattle.sn_rows.specs.declared.kind.RowKind.TheVariants as kind
use Rattle.sn_rows.specs.declared.value.Value.{Value}
use Rattle.sn_rows.specs.declared.value.Value.TheVariants as value
use Rattle.sn_shows.specs.Devices.{HasRow}
use Rattle.sn_shown.specs.ByLabel.{AddsLine, labelled_line, with_line}
use Rattle.sn_shown.specs.Rows.{local_in}
use Rattle.sn_shown.proofs.Finds.{never, one_found}
use Rattle.sn_shown.proofs.LabelPlaces.{HasLabel, at_label, label_of, line_at, lines, one_label}
use Rattle.sn_shown.proofs.LineOrder.{in_order, own_key, same_key}
use Rattle.sn_shown.proofs.WalkLemmas.{PassedOrAhead, walk_begins, walk_ends, walk_goes_on}

-- a labelled line

labelled_parts : (labels : Labels) (uuid : Bytes) (found : Option Bytes) (x : Bytes) → labelled_line labels uuid found ≡ Some x
    → (is_labelled labels uuid ≡ true) × (found ≡ Some x)
labelled_parts labels uuid found x h = at (is_labelled labels uuid) refl h
  where
    at : (b : Bool) → is_labelled labels uuid ≡ b → (if b then found else None) ≡ Some x → (is_labelled labels uuid ≡ true) × (found ≡ Some x)
    at true e k = (e, k)
    at false e k = absurd (cc)

-- one of those that pass a test is one of all
one_of_all : (P : Bytes → Type 0) (test : Bytes → Bool) (xs : List Bytes) → One P (filter test xs) → One P xs
one_of_all P test [] one = one
one_of_all P test (x ∷ xs) one = at (test x) (λ k. one_of_all P test xs k) one
  where
    at : (b : Bool) → (One P (filter test xs) → One P xs) → One P (cond b (x ∷ filter test xs) (filter test xs)) → P x ⊎ One P xs
    at true later (inl e) = inl e
    at true later (inr k) = inr (later k)
    at false later k = inr (later k)

labelled_one : (ls : Labels) (u : Bytes) → One (λ (l : Bytes). l ≡ u) (items_of ls) → is_labelled ls u ≡ true
labelled_one [] u one = absurd one
labelled_one (l ∷ ls) u one =
    ⊎_elim
    (λ (e : l ≡ u). or_left (bytes_eq l u) (is_labelled ls u) (text_same l u e))
    (λ (later : One (λ (x : Bytes). x ≡ u) (filter (λ other. not (bytes_eq l other)) (items_of ls))).
    or_right (bytes_eq l u) (is_labelled ls u)
    (labelled_one ls u (one_of_all (λ (x : Bytes). x ≡ u) (λ other. not (bytes_eq l other)) (items_of ls) later)))
    one

same_lists : (f g : Bytes → List Bytes) → ((u : Bytes) → f u ≡ g u) → (ls : List Bytes) → flat_map f ls ≡ flat_map g ls
same_lists f g same [] = refl
same_lists f g same (l ∷ ls) =
    ap (λ (xs : List Bytes). xs ++ flat_map f ls) (same l) ∙ ap (λ (xs : List Bytes). g l ++ xs) (same_lists f g same ls)

-- no line is added, or that of an item that has a label

pub adds_none : (m : BTreeMap ℕ Bytes) (labels : Labels) (uuid : Bytes) → AddsLine m m (label_from 1 labels uuid) (labelled_line labels uuid None)
adds_none m labels uuid = at (is_labelled labels uuid)
  where
    at : (b : Bool) → AddsLine m m (label_from 1 labels uuid) (if b then None else None)
    at true = record { ordered = λ h. h; found = λ q. refl }
    at false = record { ordered = λ h. h; found = λ q. refl }

pub adds_one : (m after : BTreeMap ℕ Bytes) (labels : Labels) (uuid : Bytes) (label : ℕ) (line : Bytes) → label ≡ label_from 1 labels uuid
    → is_labelled labels uuid ≡ true → Updates nat_cmp m after label (Some line) → IsOrdered nat_cmp after
    → AddsLine m after (label_from 1 labels uuid) (labelled_line labels uuid (Some line))
adds_one m after labels uuid label line label_is labelled updates ordered =
    let here : AddsLine m after label (Some line) = record { ordered = λ h. ordered; found = λ q. updates.0 q } in
    subst (λ (o : Option Bytes). AddsLine m after (label_from 1 labels uuid) o) (sym (ap (λ (b : Bool). if b then Some line else None) labelled))
    (subst (λ (n : ℕ). AddsLine m after n (Some line)) label_is here)

-- a line is that of an item
pub record IsLineAt (labels : Labels) (of : Bytes → Option Bytes) (q : ℕ) (line : Bytes) : Type 0 where
  pub uuid : Bytes
  pub line_is : labelled_line labels uuid (of uuid) ≡ Some line
  pub at : q ≡ label_from 1 labels uuid

-- the row's item has its line there
abbrev pub HasLine : Labels → (Bytes → Option Bytes) → BTreeMap ℕ Bytes → Key → Value → Type 0
HasLine labels of m k v = (n : ℕ) (item : LocalItem) (line : Bytes) → k ≡ key.Local n → v ≡ value.Local item
    → labelled_line labels item.uuid (of item.uuid) ≡ Some line → get nat_cmp m (label_from 1 labels item.uuid) ≡ Some line

-- the row that a walk found stands in the map
abbrev pub Stands : RowMap → Option (Key × Value) → Type 0
Stands map found = (k : Key) (v : Value) → found ≡ Some (k, v) → (key_kind k ≡ kind.Local) × (row_in map k ≡ Some v)

-- the lines of the rows up to this one
pub record IsGathered (map : RowMap) (labels : Labels) (of : Bytes → Option Bytes) (m : BTreeMap ℕ Bytes) (found : Option (Key × Value)) : Type 0 where
  pub ordered : IsOrdered nat_cmp m
  pub there : PassedOrAhead (HasLine labels of m) map kind.Local found
  pub only : (q : ℕ) (line : Bytes) → get nat_cmp m q ≡ Some line → IsLineAt labels of q line
  pub stands : Stands map found

pub first_stands : (map : RowMap) (found : Option (Key × Value)) → IsFirst map kind.Local found → Stands map found
first_stands map None first k v e = absurd (cc)
first_stands map (Some row) first k v e =
    let same : row ≡ (k, v) = cc in (
      ap (λ (r : Key × Value). key_kind r.0) (sym same) ∙ first.passes,
      ap (λ (r : Key × Value). row_in map r.0) (sym same) ∙ first.stands ∙ ap (λ (r : Key × Value). Some r.1) same,
    )

pub next_stands : (map : RowMap) (before : Key) (found : Option (Key × Value)) → key_kind before ≡ kind.Local → IsNext map before found → Stands map found
next_stands map before None of next k v e = absurd (cc)
next_stands map before (Some row) of next k v e =
    let same : row ≡ (k, v) = cc in (
      ap (λ (r : Key × Value). key_kind r.0) (sym same) ∙ next.passes.0 ∙ of,
      ap (λ (r : Key × Value). row_in map r.0) (sym same) ∙ next.stands ∙ ap (λ (r : Key × Value). Some r.1) same,
    )

pub none_gathered : (map : RowMap) (labels : Labels) (of : Bytes → Option Bytes) (m : BTreeMap ℕ Bytes) (found : Option (Key × Value))
    → IsEmpty m → IsOrdered nat_cmp m → GoesOn map (rows_of map kind.Local) found → IsFirst map kind.Local found → IsGathered map labels of m found
none_gathered map labels of m found empty ordered goes first =
    record {
      ordered = ordered;
      there = walk_begins (HasLine labels of m) map kind.Local found goes;
      only = λ q line e. never (get nat_cmp m q) line e (ap (λ es. lookup (is_at (nat_cmp q)) es) empty);
      stands = first_stands map found first;
    }

-- the key of a local row
local_key : (k : Key) → key_kind k ≡ kind.Local → (n : ℕ) × (k ≡ key.Local n)
local_key key.Store e = absurd (cc)
local_key (key.Account n) e = absurd (cc)
local_key (key.Generation n g) e = absurd (cc)
local_key (key.Item u) e = absurd (cc)
local_key key.Owner e = absurd (cc)
local_key (key.Set slot) e = absurd (cc)
local_key (key.Local n) e = (n, refl)

pub local_or_not : (A : Type 0) (v : Value) → ((item : LocalItem) → v ≡ value.Local item → A) → (local_in (Some v) ≡ None → A) → A
local_or_not A (value.Local item) own other = own item refl
local_or_not A (value.Store row) own other = other refl
local_or_not A (value.Account row) own other = other refl
local_or_not A (value.Generation row) own other = other refl
local_or_not A (value.Item row) own other = other refl
local_or_not A (value.Owner row) own other = other refl
local_or_not A (value.Set row) own other = other refl

-- a row of the walk stands under a number
pub row_stands : (A : LocalItem → Type 0) (map : RowMap) (k : Key) (v : Value) (item : LocalItem)
    → ((n : ℕ) (x : LocalItem) → row_in map (key.Local n) ≡ Some (value.Local x) → A x) → key_kind k ≡ kind.Local → row_in map k ≡ Some v
    → v ≡ value.Local item → A item
row_stands A map k v item shown of stands is =
    let local = local_key k of in
    shown local.0 item (ap (row_in map) (sym local.1) ∙ stands ∙ ap (λ (x : Value). Some x) is)

-- each item with a line has a row
module _ (map : RowMap) (labels : Labels) (of : Bytes → Option Bytes) (has_row : (uuid x : Bytes) → of uuid ≡ Some x → HasRow (row_in map) uuid) where
  abbrev line : Bytes → Option Bytes
  line uuid = labelled_line labels uuid (of uuid)

  has_label : (uuid : Bytes) (x : Bytes) → line uuid ≡ Some x → is_labelled labels uuid ≡ true
  has_label uuid x h = (labelled_parts labels uuid (of uuid) x h).0

  module _ (k : Key) (v : Value) (found next : Option (Key × Value)) (m after : BTreeMap ℕ Bytes) (gathered : IsGathered map labels of m found)
      (found_is : found ≡ Some (k, v)) (goes : GoesOn map (rows_behind map k) next) (next_is : IsNext map k next) where
    next_row : Stands map next
    next_row = next_stands map k next (gathered.stands k v found_is).0 next_is

    -- a row without an item
    pub skip_row : local_in (Some v) ≡ None → after ≡ m → IsGathered map labels of after next
    skip_row none same =
        subst (λ (x : BTreeMap ℕ Bytes). IsGathered map labels of x next) (sym same)
        (record {
          ordered = gathered.ordered;
          there = walk_goes_on (HasLine labels of m) (HasLine labels of m) map kind.Local k v found next (λ a b h. h) gathered.there found_is here goes;
          only = gathered.only;
          stands = next_row;
        })
      where
        here : HasLine labels of m k v
        here n item x k_is v_is h = never (local_in (Some v)) item (ap (λ (w : Value). local_in (Some w)) v_is) none

    -- a row with one
    module _ (own : LocalItem) (is : v ≡ value.Local own) (adds : AddsLine m after (label_from 1 labels own.uuid) (line own.uuid)) where
      added : (q : ℕ) (found_line : Option Bytes) → line own.uuid ≡ found_line
          → get nat_cmp after q ≡ with_line (get nat_cmp m) (label_from 1 labels own.uuid) found_line q
      added q found_line e =
          subst (λ (o : Option Bytes). get nat_cmp after q ≡ with_line (get nat_cmp m) (label_from 1 labels own.uuid) o q) e (adds.found q)

      own_there : (x : Bytes) → line own.uuid ≡ Some x → get nat_cmp after (label_from 1 labels own.uuid) ≡ Some x
      own_there x e =
          added (label_from 1 labels own.uuid) (Some x) e
          ∙ ap (λ (b : Bool). cond b (Some x) (get nat_cmp m (label_from 1 labels own.uuid))) (own_key (label_from 1 labels own.uuid) (label_from 1 labels own.uuid) refl)

      -- what was there stays
      stays : (uuid : Bytes) (x : Bytes) → line uuid ≡ Some x → get nat_cmp m (label_from 1 labels uuid) ≡ Some x
          → get nat_cmp after (label_from 1 labels uuid) ≡ Some x
      stays uuid x line_is was = at (line own.uuid) refl
        where
          other : (y : Bytes) → line own.uuid ≡ Some y → (b : Bool) → (label_from 1 labels own.uuid == label_from 1 labels uuid) ≡ b
              → get nat_cmp after (label_from 1 labels uuid) ≡ Some x
          other y e true h =
              let labels_same : label_from 1 labels own.uuid ≡ label_from 1 labels uuid = same_number (label_from 1 labels own.uuid) (label_from 1 labels uuid) h in
              let same : own.uuid ≡ uuid = one_label 1 labels own.uuid uuid (has_label own.uuid y e) (has_label uuid x line_is) labels_same in
              ap (λ (u : Bytes). get nat_cmp after (label_from 1 labels u)) (sym same) ∙ own_there x (ap line same ∙ line_is)
          other y e false h =
              added (label_from 1 labels uuid) (Some y) e
              ∙ ap (λ (b : Bool). cond b (Some y) (get nat_cmp m (label_from 1 labels uuid))) (same_key (label_from 1 labels own.uuid) (label_from 1 labels uuid) ∙ h)
              ∙ was

          at : (found_line : Option Bytes) → line own.uuid ≡ found_line → get nat_cmp after (label_from 1 labels uuid) ≡ Some x
          at None e = added (label_from 1 labels uuid) None e ∙ was
          at (Some y) e = other y e (label_from 1 labels own.uuid == label_from 1 labels uuid) refl

      only : (q : ℕ) (x : Bytes) → get nat_cmp after q ≡ Some x → IsLineAt labels of q x
      only q x got = at (line own.uuid) refl
        where
          chosen : (y : Bytes) → line own.uuid ≡ Some y → (b : Bool) → (label_from 1 labels own.uuid == q) ≡ b → IsLineAt labels of q x
          chosen y e true h =
              let new : get nat_cmp after q ≡ Some y =
              added q (Some y) e ∙ ap (λ (b : Bool). cond b (Some y) (get nat_cmp m q)) (same_key (label_from 1 labels own.uuid) q ∙ h) in
              let same : y ≡ x = one_found (get nat_cmp after q) y x new got in
              record { uuid = own.uuid; line_is = e ∙ ap (λ (z : Bytes). Some z) same; at = sym (same_number (label_from 1 labels own.uuid) q h) }
          chosen y e false h =
              let old : get nat_cmp after q ≡ get nat_cmp m q =
              added q (Some y) e ∙ ap (λ (b : Bool). cond b (Some y) (get nat_cmp m q)) (same_key (label_from 1 labels own.uuid) q ∙ h) in
              gathered.only q x (sym old ∙ got)

          at : (found_line : Option Bytes) → line own.uuid ≡ found_line → IsLineAt labels of q x
          at None e = gathered.only q x (sym (added q None e) ∙ got)
          at (Some y) e = chosen y e (label_from 1 labels own.uuid == q) refl

      here : HasLine labels of after k v
      here n item x k_is v_is h =
          let values_same : value.Local own ≡ value.Local item = sym is ∙ v_is in
          let same : own ≡ item = cc in
          ap (λ (i : LocalItem). get nat_cmp after (label_from 1 labels i.uuid)) (sym same) ∙ own_there x (ap (λ (i : LocalItem). line i.uuid) same ∙ h)

      pub add_row : IsGathered map labels of after next
      add_row =
          record {
            ordered = adds.ordered gathered.ordered;
            there =
                walk_goes_on (HasLine labels of m) (HasLine labels of after) map kind.Local k v found next
                (λ a b h n item x a_is b_is line_is. stays item.uuid x line_is (h n item x a_is b_is line_is)) gathered.there found_is here goes;
            only = only;
            stands = next_row;
          }

  -- all rows

  module _ (m : BTreeMap ℕ Bytes) (found : Option (Key × Value)) (gathered : IsGathered map labels of m found)
      (are : AreRowsOf map kind.Local (rows_of map kind.Local)) (end : found ≡ None) where
    found_all : (q : ℕ) → get nat_cmp m q ≡ line_at line 1 labels q
    found_all q = at (get nat_cmp m q) refl
      where
        at_none : get nat_cmp m q ≡ None → (o : Option Bytes) → line_at line 1 labels q ≡ o → get nat_cmp m q ≡ o
        at_none none None e = none
        at_none none (Some x) e =
            let has : HasLabel line 1 labels q x = label_of line 1 labels q x e in
            let row : HasRow (row_in map) has.uuid = has_row has.uuid x (labelled_parts labels has.uuid (of has.uuid) x has.line_is).1 in
            let passed : HasLine labels of m (key.Local row.number) (value.Local row.item) =
            walk_ends (HasLine labels of m) map kind.Local found gathered.there are end (key.Local row.number) (value.Local row.item) refl row.stands in
            let got : get nat_cmp m (label_from 1 labels row.item.uuid) ≡ Some x =
            passed row.number row.item x refl refl (ap line row.item_is ∙ has.line_is) in
            let at_q : label_from 1 labels row.item.uuid ≡ q = ap (label_from 1 labels) row.item_is ∙ has.at in
            never (get nat_cmp m q) x (ap (get nat_cmp m) (sym at_q) ∙ got) none

        at : (found_line : Option Bytes) → get nat_cmp m q ≡ found_line → get nat_cmp m q ≡ line_at line 1 labels q
        at None e = at_none e (line_at line 1 labels q) refl
        at (Some x) e =
            let own : IsLineAt labels of q x = gathered.only q x e in
            e ∙ sym (ap (line_at line 1 labels) own.at ∙ at_label line 1 labels own.uuid (has_label own.uuid x own.line_is) ∙ own.line_is)

    same_line : (uuid : Bytes) → is_labelled labels uuid ≡ true → lines (line uuid) ≡ lines (of uuid)
    same_line uuid labelled = ap (λ (b : Bool). lines (if b then of uuid else None)) labelled

    each_same : (ls : List Bytes) → ((u : Bytes) → One (λ (l : Bytes). l ≡ u) ls → is_labelled labels u ≡ true)
        → flat_map (λ u. lines (line u)) ls ≡ flat_map (λ u. lines (of u)) ls
    each_same [] all = refl
    each_same (l ∷ ls) all =
        ap (λ (xs : List Bytes). xs ++ flat_map (λ u. lines (line u)) ls) (same_line l (all l (inl refl)))
        ∙ ap (λ (xs : List Bytes). lines (of l) ++ xs) (each_same ls (λ u one. all u (inr one)))

    pub all_gathered : (f : Bytes → List Bytes) → ((uuid : Bytes) → lines (of uuid) ≡ f uuid) → values m ≡ flat_map f (items_of labels)
    all_gathered f same =
        in_order line 1 labels m.entries (gathered.ordered, found_all)
        ∙ each_same (items_of labels) (labelled_one labels)
        ∙ same_lists (λ u. lines (of u)) f same (items_of labels)

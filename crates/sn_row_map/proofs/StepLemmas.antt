-- Steps from row to row.
use Rattle.std.proofs.Common.{◌≡◌, ◌⊎◌, Bool, true, false, List, [], ◌∷◌, ◌++◌, Option, Some, None, refl, sym, ap, subst, ◌∙◌, ⊎_elim, inl, inr}
use Rattle.std.specs.Prelude.{◌==◌, ◌&&◌, cond, if◌then◌else◌, not}
use Rattle.std.specs.List.{AllByRecursion, Contains, filter, flat_map}
use Rattle.std.specs.List.Sorted.{IsStrictlySortedBy}
use Rattle.std.specs.Map.{keys_of}
use Rattle.std.specs.BTreeMap as tree
use Rattle.std.specs.BTreeMap.Range.{IsInRange, IsLeBy, IsLtBy, IsUpToEnd, entries_between, is_past_end, range_contains}
use Rattle.std.specs.Range.Bound.{IsForward}
use Rattle.std.specs.declared.ops.Bound.{Bound}
use Rattle.std.specs.declared.ops.Bound.TheVariants.{Included, Excluded, Unbounded}
use Rattle.std.specs.Ordering.{is_lt}
use Rattle.std.specs.declared.cmp.Ordering.{Ordering}
use Rattle.std.specs.declared.cmp.Ordering.TheVariants.{Less, Equal, Greater}
use Rattle.std.proofs.lemmas.Bool.{and_parts, cases_Bool, eqb-true}
use Rattle.std.proofs.lemmas.List.Elements.{Contains-append_cases, Contains-append_left, Contains-append_right, Contains-push_cases, Contains-push}
use Rattle.std.proofs.lemmas.Cmp.{tied_itself}
use Rattle.std.proofs.lemmas.Map.Keys.{sorted_head, sorted_tail}
use Rattle.std.proofs.lemmas.Map.Views.{range_contains-from_IsInRange}
use Rattle.sn_rows.specs.Facts.{key_order_total, same_order}
use Rattle.sn_rows.specs.Kinds.{key_kind, kind_number}
use Rattle.sn_rows.specs.Order.{ComesBefore, key_order}
use Rattle.sn_rows.specs.contracts.key.KeyOrd.TheImpl.Laws.{total-law}
use Rattle.sn_rows.specs.declared.key.Key.{Key}
use Rattle.sn_rows.specs.declared.kind.RowKind.{RowKind}
use Rattle.sn_rows.specs.declared.value.Value.{Value}
use Rattle.sn_row_map.specs.Keys.{key_cmp}
use Rattle.sn_row_map.specs.Ranges.{AreRowsOf, row_of_kind, rows_of, rows_behind}
use Rattle.sn_row_map.specs.RowMaps.{row_in}
use Rattle.sn_row_map.specs.Steps.{BeginsWith, GoesOn, IsFirst, IsLeastOf, IsNext}
use Rattle.sn_row_map.specs.declared.row_map.RowMap.{RowMap}
use Rattle.sn_row_map.proofs.RangeLemmas.{kept, none_in_nil, ranges, same_kind}

abbrev Pairs : Type 0
Pairs = List (Key × Value)

-- the row comes behind the key
abbrev is_behind : Key → (Key × Value) → Bool
is_behind key row = is_lt (key_order key row.0)

abbrev behind : Key → Pairs → Pairs
behind key rows = filter (is_behind key) rows

never : (b : Bool) → b ≡ true → b ≡ false → ⊥
never b t f = absurd cc

less_of : (o : Ordering) → is_lt o ≡ true → o ≡ Less
less_of Less t = refl
less_of Equal t = absurd cc
less_of Greater t = absurd cc

not_behind_itself : (key : Key) → is_lt (key_order key key) ≡ false
not_behind_itself key = ap is_lt (tied_itself key_order_total key)

-- ---- lists of rows

dropped : (b : Bool) (x : Key × Value) (xs ys : Pairs) → b ≡ false → cond b (x ∷ xs) ys ≡ ys
dropped true x xs ys e = absurd cc
dropped false x xs ys e = refl

taken : (b : Bool) (x : Key × Value) (xs ys : Pairs) → b ≡ true → cond b (x ∷ xs) ys ≡ x ∷ xs
taken true x xs ys e = refl
taken false x xs ys e = absurd cc

-- all rows come behind
all_behind : (key : Key) (rows : Pairs) → AllByRecursion (λ k. key_order key k ≡ Less) (keys_of rows) → behind key rows ≡ rows
all_behind key [] all = refl
all_behind key (row ∷ rows) all =
    taken (is_behind key row) row (behind key rows) (behind key rows) (ap is_lt all.0) ∙ ap (λ (l : Pairs). row ∷ l) (all_behind key rows all.1)

-- behind the first row of a sorted list are the others
behind_head : (row : Key × Value) (rows : Pairs) → IsStrictlySortedBy key_order (keys_of (row ∷ rows)) → behind row.0 (row ∷ rows) ≡ rows
behind_head row rows sorted =
    dropped (is_behind row.0 row) row (behind row.0 rows) (behind row.0 rows) (not_behind_itself row.0)
    ∙ all_behind row.0 rows (sorted_head key_order row.0 (keys_of rows) sorted)

all_further : (key first : Key) (keys : List Key) → key_order key first ≡ Less → AllByRecursion (λ k. key_order first k ≡ Less) keys
    → AllByRecursion (λ k. key_order key k ≡ Less) keys
all_further key first [] less all = tt
all_further key first (k ∷ ks) less all = (key_order_total.trans key first k less all.0, all_further key first ks less all.1)

-- a row of those behind a key is behind it
passes_head : (key : Key) (rows : Pairs) (row : Key × Value) (later : Pairs) → behind key rows ≡ row ∷ later → is_behind key row ≡ true
passes_head key [] row later e = absurd cc
passes_head key (x ∷ xs) row later e = by_case (is_behind key x) refl e (λ f. passes_head key xs row later f)
  where
    by_case : (b : Bool) → is_behind key x ≡ b → cond b (x ∷ behind key xs) (behind key xs) ≡ row ∷ later
        → (behind key xs ≡ row ∷ later → is_behind key row ≡ true) → is_behind key row ≡ true
    by_case true t f more = let first : x ≡ row = cc in ap (λ (r : Key × Value). is_behind key r) (sym first) ∙ t
    by_case false t f more = more f

-- the row is among those behind, so the head of a sorted list isn't behind it
head_before : (key : Key) (rows : Pairs) (row : Key × Value) (later : Pairs) → behind key rows ≡ row ∷ later
    → (P : Key → Type 0) → AllByRecursion P (keys_of rows) → P row.0
head_before key [] row later e P all = absurd cc
head_before key (x ∷ xs) row later e P all = by_case (is_behind key x) e (λ f. head_before key xs row later f P all.1)
  where
    by_case : (b : Bool) → cond b (x ∷ behind key xs) (behind key xs) ≡ row ∷ later → (behind key xs ≡ row ∷ later → P row.0) → P row.0
    by_case true f more = let first : x ≡ row = cc in subst (λ (r : Key × Value). P r.0) first all.0
    by_case false f more = more f

not_both_ways : (a b : Key) → key_order a b ≡ Less → is_lt (key_order b a) ≡ false
not_both_ways a b less =
    elim (cases_Bool (is_lt (key_order b a))) [
      | inl t ↦ absurd (never (is_lt (key_order a a)) (ap is_lt (key_order_total.trans a b a less (less_of (key_order b a) t))) (not_behind_itself a))
      | inr f ↦ f
    ]

-- behind the first of the rows behind a key are the others of these
behind_next : (key : Key) (rows : Pairs) (row : Key × Value) (later : Pairs) → IsStrictlySortedBy key_order (keys_of rows)
    → behind key rows ≡ row ∷ later → behind row.0 rows ≡ later
behind_next key [] row later sorted e = absurd cc
behind_next key (x ∷ xs) row later sorted e =
    by_case (is_behind key x) refl e (λ f. behind_next key xs row later (sorted_tail key_order x.0 (keys_of xs) sorted) f)
  where
    by_case : (b : Bool) → is_behind key x ≡ b → cond b (x ∷ behind key xs) (behind key xs) ≡ row ∷ later
        → (behind key xs ≡ row ∷ later → behind row.0 xs ≡ later) → behind row.0 (x ∷ xs) ≡ later
    by_case true t f more =
        let first : x ≡ row = cc in
        let others : behind key xs ≡ later = cc in
        let all = all_behind key xs (all_further key x.0 (keys_of xs) (less_of (key_order key x.0) t) (sorted_head key_order x.0 (keys_of xs) sorted)) in
        ap (λ (r : Key × Value). behind r.0 (x ∷ xs)) (sym first) ∙ behind_head x xs sorted ∙ sym all ∙ others
    by_case false t f more =
        let before = head_before key xs row later f (λ k. key_order x.0 k ≡ Less) (sorted_head key_order x.0 (keys_of xs) sorted) in
        dropped (is_behind row.0 x) x (behind row.0 xs) (behind row.0 xs) (not_both_ways x.0 row.0 before)
        ∙ more f

-- ---- elements

one_of : (x y : Key × Value) → Contains (x ∷ []) y → x ≡ y
one_of x y h = ⊎_elim (λ (n : Contains {X = Key × Value} [] y). absurd (none_in_nil y n)) (λ (e : x ≡ y). e) (Contains-push_cases [] x y h)

in_parts : (x : Key × Value) (xs : Pairs) (y : Key × Value) → Contains (x ∷ xs) y → (x ≡ y) ⊎ Contains xs y
in_parts x xs y h =
    ⊎_elim (λ (here : Contains (x ∷ []) y). inl (one_of x y here)) (λ (there : Contains xs y). inr there) (Contains-append_cases (x ∷ []) xs y h)

is_head : (x : Key × Value) (xs : Pairs) → Contains (x ∷ xs) x
is_head x xs = Contains-append_left (x ∷ []) xs x (Contains-push [] x)

is_later : (x : Key × Value) (xs : Pairs) (y : Key × Value) → Contains xs y → Contains (x ∷ xs) y
is_later x xs y h = Contains-append_right (x ∷ []) xs y h

into_behind : (key : Key) (rows : Pairs) (y : Key × Value) → Contains rows y → is_behind key y ≡ true → Contains (behind key rows) y
into_behind key [] y h t = absurd (none_in_nil y h)
into_behind key (x ∷ xs) y h t = by_case (is_behind key x) refl (in_parts x xs y h) (λ there. into_behind key xs y there t)
  where
    by_case : (b : Bool) → is_behind key x ≡ b → (x ≡ y) ⊎ Contains xs y → (Contains xs y → Contains (behind key xs) y)
        → Contains (cond b (x ∷ behind key xs) (behind key xs)) y
    by_case true e (inl same) more = subst (λ (r : Key × Value). Contains (x ∷ behind key xs) r) same (is_head x (behind key xs))
    by_case true e (inr there) more = is_later x (behind key xs) y (more there)
    by_case false e (inl same) more = absurd (never (is_behind key y) t (ap (λ (r : Key × Value). is_behind key r) (sym same) ∙ e))
    by_case false e (inr there) more = more there

from_behind : (key : Key) (rows : Pairs) (y : Key × Value) → Contains (behind key rows) y → Contains rows y × (is_behind key y ≡ true)
from_behind key [] y h = absurd (none_in_nil y h)
from_behind key (x ∷ xs) y h = by_case (is_behind key x) refl h (λ there. from_behind key xs y there)
  where
    by_case : (b : Bool) → is_behind key x ≡ b → Contains (cond b (x ∷ behind key xs) (behind key xs)) y
        → (Contains (behind key xs) y → Contains xs y × (is_behind key y ≡ true)) → Contains (x ∷ xs) y × (is_behind key y ≡ true)
    by_case true e h more = elim (in_parts x (behind key xs) y h) [
      | inl same ↦ (subst (λ (r : Key × Value). Contains (x ∷ xs) r) same (is_head x xs), ap (λ (r : Key × Value). is_behind key r) (sym same) ∙ e)
      | inr there ↦ (is_later x xs y (more there).0, (more there).1)
    ]
    by_case false e h more = (is_later x xs y (more h).0, (more h).1)

-- a member of a sorted list is its head or behind it
head_least : (row : Key × Value) (rows : Pairs) (y : Key × Value) → AllByRecursion (λ k. key_order row.0 k ≡ Less) (keys_of rows) → Contains rows y → ComesBefore row.0 y.0
head_least row [] y all h = absurd (none_in_nil y h)
head_least row (x ∷ xs) y all h = elim (in_parts x xs y h) [
  | inl same ↦ subst (λ (r : Key × Value). key_order row.0 r.0 ≡ Less) same all.0
  | inr there ↦ head_least row xs y all.1 there
]

-- ---- what a step finds

no_row : (found : Option Value) → ((value : Value) → found ≡ Some value → ⊥) → found ≡ None
no_row None h = refl
no_row (Some value) h = absurd (h value refl)

-- the first of a sorted list that has just the rows of the keys that pass
pub least_of : (m : RowMap) (P : Key → Type 0) (rows : Pairs) (found : Option (Key × Value))
    → ((key : Key) (value : Value) → Contains rows (key, value) → P key × (row_in m key ≡ Some value))
    → ((key : Key) (value : Value) → P key → row_in m key ≡ Some value → Contains rows (key, value))
    → ((row : Key × Value) (later : Pairs) → rows ≡ row ∷ later → AllByRecursion (λ k. key_order row.0 k ≡ Less) (keys_of later))
    → BeginsWith rows found → IsLeastOf m P found
least_of m P rows None of into sorted none =
    λ key passes. no_row (row_in m key) (λ value there. none_in_nil (key, value) (subst (λ (l : Pairs). Contains l (key, value)) none (into key value passes there)))
least_of m P rows (Some (key, value)) of into sorted (later, is) =
    let own = of key value (subst (λ (l : Pairs). Contains l (key, value)) (sym is) (is_head (key, value) later)) in
    record {
      passes = own.0;
      stands = own.1;
      least = λ other held passes there.
          ⊎_elim
          (λ (same : (key, value) ≡ (other, held)). inl (ap (λ (r : Key × Value). r.0) same))
          (λ (more : Contains later (other, held)). inr (head_least (key, value) later (other, held) (sorted (key, value) later is) more))
          (in_parts (key, value) later (other, held) (subst (λ (l : Pairs). Contains l (other, held)) is (into other held passes there)));
    }

pub are_rows : (m : RowMap) (kind : RowKind) → tree.IsOrdered key_cmp m.entries → AreRowsOf m kind (rows_of m kind)
unfolding rows_of
are_rows m kind ordered = ranges m kind (flat_map (row_of_kind kind) m.entries.entries) ordered refl

sorted_begin : (rows : Pairs) → IsStrictlySortedBy key_order (keys_of rows) → (row : Key × Value) (later : Pairs) → rows ≡ row ∷ later
    → AllByRecursion (λ k. key_order row.0 k ≡ Less) (keys_of later)
sorted_begin rows sorted row later is =
    sorted_head key_order row.0 (keys_of later) (subst (λ (l : Pairs). IsStrictlySortedBy key_order (keys_of l)) is sorted)

pub is_first : (m : RowMap) (kind : RowKind) (found : Option (Key × Value)) → AreRowsOf m kind (rows_of m kind) → BeginsWith (rows_of m kind) found → IsFirst m kind found
is_first m kind found are begins =
    least_of m (λ key. key_kind key ≡ kind) (rows_of m kind) found (λ key value h. (are.whole key value).0 h) (λ key value of there. (are.whole key value).1 (of, there))
    (sorted_begin (rows_of m kind) are.sorted) begins

-- a row of the kind, of all of these
kind_of_first : (m : RowMap) (kind : RowKind) (row : Key × Value) (later : Pairs) → AreRowsOf m kind (rows_of m kind) → rows_of m kind ≡ row ∷ later → key_kind row.0 ≡ kind
kind_of_first m kind (key, value) later are is = ((are.whole key value).0 (subst (λ (l : Pairs). Contains l (key, value)) (sym is) (is_head (key, value) later))).0

pub first_goes_on : (m : RowMap) (kind : RowKind) (found : Option (Key × Value)) → AreRowsOf m kind (rows_of m kind) → BeginsWith (rows_of m kind) found → GoesOn m (rows_of m kind) found
first_goes_on m kind None are begins = begins
first_goes_on m kind (Some row) are (later, is) =
    let sorted = subst (λ (l : Pairs). IsStrictlySortedBy key_order (keys_of l)) is are.sorted in
    is
    ∙ ap (λ (l : Pairs). row ∷ l)
    (sym (ap (λ (k : RowKind). behind row.0 (rows_of m k)) (kind_of_first m kind row later are is) ∙ ap (behind row.0) is ∙ behind_head row later sorted))

-- ---- behind a key

abbrev Others : RowMap → Key → Type 0
Others m key = AreRowsOf m (key_kind key) (rows_of m (key_kind key))

each_behind : (k : Key) (rows : Pairs) → AllByRecursion (λ q. key_order k q ≡ Less) (keys_of (behind k rows))
each_behind k [] = tt
each_behind k (x ∷ xs) = by_case (is_behind k x) refl (each_behind k xs)
  where
    by_case : (b : Bool) → is_behind k x ≡ b → AllByRecursion (λ q. key_order k q ≡ Less) (keys_of (behind k xs))
        → AllByRecursion (λ q. key_order k q ≡ Less) (keys_of (cond b (x ∷ behind k xs) (behind k xs)))
    by_case true e more = (less_of (key_order k x.0) e, more)
    by_case false e more = more

behind_begin : (key : Key) (rows : Pairs) → IsStrictlySortedBy key_order (keys_of rows) → (row : Key × Value) (later : Pairs) → behind key rows ≡ row ∷ later
    → AllByRecursion (λ k. key_order row.0 k ≡ Less) (keys_of later)
behind_begin key rows sorted row later is =
    let others = behind_next key rows row later sorted is in
    subst (λ (l : Pairs). AllByRecursion (λ k. key_order row.0 k ≡ Less) (keys_of l)) others (each_behind row.0 rows)

pub is_next : (m : RowMap) (key : Key) (found : Option (Key × Value)) → Others m key → BeginsWith (rows_behind m key) found → IsNext m key found
is_next m key found are begins =
    least_of m (λ other. (key_kind other ≡ key_kind key) × ComesBefore key other) (rows_behind m key) found
    (λ other value h.
    let there = from_behind key (rows_of m (key_kind key)) (other, value) h in
    let own = (are.whole other value).0 there.0 in
    ((own.0, less_of (key_order key other) there.1), own.1))
    (λ other value passes there. into_behind key (rows_of m (key_kind key)) (other, value) ((are.whole other value).1 (passes.0, there)) (ap is_lt passes.1))
    (behind_begin key (rows_of m (key_kind key)) are.sorted) begins

kind_of_next : (m : RowMap) (key : Key) (row : Key × Value) (later : Pairs) → Others m key → rows_behind m key ≡ row ∷ later → key_kind row.0 ≡ key_kind key
kind_of_next m key (other, value) later are is =
    let there = from_behind key (rows_of m (key_kind key)) (other, value) (subst (λ (l : Pairs). Contains l (other, value)) (sym is) (is_head (other, value) later)) in
    ((are.whole other value).0 there.0).0

pub next_goes_on : (m : RowMap) (key : Key) (found : Option (Key × Value)) → Others m key → BeginsWith (rows_behind m key) found → GoesOn m (rows_behind m key) found
next_goes_on m key None are begins = begins
next_goes_on m key (Some row) are (later, is) =
    is
    ∙ ap (λ (l : Pairs). row ∷ l)
    (sym (ap (λ (k : RowKind). behind row.0 (rows_of m k)) (kind_of_next m key row later are is) ∙ behind_next key (rows_of m (key_kind key)) row later are.sorted is))

-- ---- the entries between bounds

-- all entries of the kind, between bounds of the kind
pub begins_all : (m : RowMap) (kind : RowKind) (lo hi : Bound Key) (found : Option (Key × Value)) → ((key : Key) → key_kind key ≡ kind → IsInRange key_cmp lo hi key)
    → BeginsWith (flat_map (row_of_kind kind) (entries_between key_cmp lo hi m.entries.entries)) found → BeginsWith (rows_of m kind) found
unfolding rows_of
begins_all m kind lo hi found inside begins =
    subst (λ (l : Pairs). BeginsWith l found) (kept (range_contains key_cmp lo hi) kind (λ key of. range_contains-from_IsInRange total-law lo hi key (inside key of)) m.entries.entries) begins

one_between : (kind : RowKind) (k : Key) (value : Value) (b c d : Bool) → (b ≡ true → c ≡ d) → (es fs : List (Key × Option Value)) (rows : Pairs) (of : Pairs)
    → of ≡ (if b then (k, value) ∷ [] else []) → row_of_kind kind (k, Some value) ≡ of
    → flat_map (row_of_kind kind) fs ≡ rows
    → flat_map (row_of_kind kind) (cond c ((k, Some value) ∷ fs) fs) ≡ (if b then cond d ((k, value) ∷ rows) rows else rows)
one_between kind k value true true d same es fs rows of is one more =
    ap (λ (l : Pairs). l ++ flat_map (row_of_kind kind) fs) (one ∙ is) ∙ ap (λ (l : Pairs). (k, value) ∷ l) more ∙ ap (λ (t : Bool). cond t ((k, value) ∷ rows) rows) (same refl)
one_between kind k value true false d same es fs rows of is one more = more ∙ ap (λ (t : Bool). cond t ((k, value) ∷ rows) rows) (same refl)
one_between kind k value false true d same es fs rows of is one more = ap (λ (l : Pairs). l ++ flat_map (row_of_kind kind) fs) (one ∙ is) ∙ more
one_between kind k value false false d same es fs rows of is one more = more

split_filter : (p : (Key × Value) → Bool) (b : Bool) (row : Key × Value) (rest : Pairs)
    → filter p ((if b then row ∷ [] else []) ++ rest) ≡ (if b then cond (p row) (row ∷ filter p rest) (filter p rest) else filter p rest)
split_filter p true row rest = refl
split_filter p false row rest = refl

within : (a b : Bool) → b ≡ false → (a && not b) ≡ a
within true false e = refl
within false b e = refl
within true true e = absurd cc

between_behind : (kind : RowKind) (key : Key) (hi : Bound Key) → ((k : Key) → key_kind k ≡ kind → is_past_end key_cmp hi k ≡ false) → (es : List (Key × Option Value))
    → flat_map (row_of_kind kind) (entries_between key_cmp (Excluded key) hi es) ≡ filter (λ row. is_lt (key_cmp key row.0)) (flat_map (row_of_kind kind) es)
between_behind kind key hi inside [] = refl
between_behind kind key hi inside ((k, None) ∷ es) = none_between (range_contains key_cmp (Excluded key) hi k) ∙ between_behind kind key hi inside es
  where
    none_between : (b : Bool) → flat_map (row_of_kind kind) (cond b ((k, None) ∷ entries_between key_cmp (Excluded key) hi es) (entries_between key_cmp (Excluded key) hi es))
        ≡ flat_map (row_of_kind kind) (entries_between key_cmp (Excluded key) hi es)
    none_between true = refl
    none_between false = refl
between_behind kind key hi inside ((k, Some value) ∷ es) =
    one_between kind k value (kind_number (key_kind k) == kind_number kind) (range_contains key_cmp (Excluded key) hi k) (is_lt (key_cmp key k))
    (λ of. within (is_lt (key_cmp key k)) (is_past_end key_cmp hi k) (inside k (same_kind (key_kind k) kind (eqb-true (kind_number (key_kind k)) (kind_number kind) of))))
    es (entries_between key_cmp (Excluded key) hi es) (filter (λ row. is_lt (key_cmp key row.0)) (flat_map (row_of_kind kind) es)) (row_of_kind kind (k, Some value)) refl refl
    (between_behind kind key hi inside es)
    ∙ sym (split_filter (λ row. is_lt (key_cmp key row.0)) (kind_number (key_kind k) == kind_number kind) (k, value) (flat_map (row_of_kind kind) es))

not_past : (b : Bool) → not b ≡ true → b ≡ false
not_past true e = absurd cc
not_past false e = refl

-- the entries of the kind behind a key, up to the kind's bound
pub begins_behind : (m : RowMap) (key : Key) (lo hi : Bound Key) (found : Option (Key × Value)) → ((k : Key) → key_kind k ≡ key_kind key → IsInRange key_cmp lo hi k)
    → BeginsWith (flat_map (row_of_kind (key_kind key)) (entries_between key_cmp (Excluded key) hi m.entries.entries)) found → BeginsWith (rows_behind m key) found
unfolding rows_of
begins_behind m key lo hi found inside begins =
    subst (λ (l : Pairs). BeginsWith l found)
    (between_behind (key_kind key) key hi
    (λ k of. not_past (is_past_end key_cmp hi k) (and_parts _ _ (range_contains-from_IsInRange total-law lo hi k (inside k of))).1) m.entries.entries
    ∙ ap (λ (R : Key → Key → Ordering). filter (λ row. is_lt (R key row.0)) (flat_map (row_of_kind (key_kind key)) m.entries.entries)) same_order)
    begins

-- a bound of the kind is ahead of each key of the kind
pub forward_from : (key : Key) (hi : Bound Key) → IsUpToEnd key_cmp hi key → IsForward (IsLeBy key_cmp) (IsLtBy key_cmp) (Excluded key) hi
forward_from key (Included b) up = up
forward_from key (Excluded b) up = up
forward_from key Unbounded up = tt

pub begins_next : (m : RowMap) (key : Key) (kind : RowKind) (lo hi : Bound Key) (found : Option (Key × Value)) → kind ≡ key_kind key
    → ((k : Key) → key_kind k ≡ kind → IsInRange key_cmp lo hi k)
    → BeginsWith (flat_map (row_of_kind kind) (entries_between key_cmp (Excluded key) hi m.entries.entries)) found → BeginsWith (rows_behind m key) found
begins_next m key kind lo hi found is inside begins =
    begins_behind m key lo hi found (λ k of. inside k (of ∙ sym is))
    (subst (λ (q : RowKind). BeginsWith (flat_map (row_of_kind q) (entries_between key_cmp (Excluded key) hi m.entries.entries)) found) is begins)

-- ---- the entries, one by one

abbrev entry : Key → Option Value → Key × Option Value
entry key found = (key, found)

-- an entry that is no row of the kind
pub entry_passed : (kind : RowKind) (rows : Pairs) (key : Key) (found : Option Value) (left more : List (Key × Option Value))
    → rows ≡ flat_map (row_of_kind kind) left → left ≡ entry key found ∷ more → row_of_kind kind (entry key found) ≡ []
    → rows ≡ flat_map (row_of_kind kind) more
entry_passed kind rows key found left more so_far is none =
    so_far ∙ ap (λ (l : List (Key × Option Value)). flat_map (row_of_kind kind) l) is ∙ ap (λ (l : Pairs). l ++ flat_map (row_of_kind kind) more) none

-- the first entry that is one
pub entry_found : (kind : RowKind) (rows : Pairs) (key : Key) (value : Value) (found : Option Value) (left more : List (Key × Option Value))
    → rows ≡ flat_map (row_of_kind kind) left → left ≡ entry key found ∷ more → row_of_kind kind (entry key found) ≡ (key, value) ∷ []
    → BeginsWith rows (Some (key, value))
entry_found kind rows key value found left more so_far is one = (
  flat_map (row_of_kind kind) more,
  so_far ∙ ap (λ (l : List (Key × Option Value)). flat_map (row_of_kind kind) l) is ∙ ap (λ (l : Pairs). l ++ flat_map (row_of_kind kind) more) one,
)

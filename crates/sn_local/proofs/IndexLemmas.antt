-- Walks over the rows of a kind, and where items stand in an index as changes come.
use Rattle.std.proofs.Common.{arith, ◌+◌, ◌<◌, ◌≤◌, ◌≡◌, ◌∙◌, ◌⊎◌, ℕ, suc, Bool, true, false, cond, List, [], ◌∷◌, ◌++◌, Option, Some, None, IfNone, All, IsTrue, refl, sym, ap, subst, ⊎_elim, inl, inr, length, get_or}
use Rattle.std.specs.Prelude.{◌==◌, if◌then◌else◌, IsSome, is_some}
use Rattle.std.specs.BTreeMap.{BTreeMap, get, is_at}
use Rattle.std.specs.Cmp.{unsigned_tied}
use Rattle.std.specs.Cmp.Lexicographic.{slice_cmp}
use Rattle.std.specs.List.{Contains, list_any}
use Rattle.std.specs.Option.{unwrap_or}
use Rattle.std.specs.Ordering.{nat_cmp}
use Rattle.std.proofs.Math.Nat.{eq-or-lt_of_le}
use Rattle.std.proofs.lemmas.Bool.{cases_Bool, eqb-true}
use Rattle.std.proofs.lemmas.List.Elements.{All-head, All-tail, at_read, Contains-append_cases, Contains-push_cases}
use Rattle.std.proofs.lemmas.List.Folds.{list_any-append}
use Rattle.std.proofs.lemmas.Map.Text.{is_eq-slice_cmp}
use Rattle.std.proofs.lemmas.Slice.Eq.{bytes_eq-Decides}
use Rattle.sn_row_map.specs.Ranges.{AreRowsOf, rows_behind, rows_of}
use Rattle.sn_row_map.specs.RowMaps.{row_in}
use Rattle.sn_row_map.specs.Steps.{GoesOn}
use Rattle.sn_row_map.specs.declared.row_map.RowMap.{RowMap}
use Rattle.sn_rows.specs.Facts.{keys_compare}
use Rattle.sn_rows.specs.Kinds.{key_kind}
use Rattle.sn_rows.specs.Table.{Rows, changed, key_of, row_after, rows_after, same_key, value_of}
use Rattle.sn_rows.specs.declared.change.Change.{Change}
use Rattle.sn_rows.specs.declared.change.Change.TheVariants.{Put, Remove}
use Rattle.sn_rows.specs.declared.change.Row.{Row}
use Rattle.sn_rows.specs.declared.device_rows.LocalItem.{LocalItem}
use Rattle.sn_rows.specs.declared.key.Key.{Key}
use Rattle.sn_rows.specs.declared.key.Key.TheVariants as key
use Rattle.sn_rows.specs.declared.kind.RowKind.{RowKind}
use Rattle.sn_rows.specs.declared.value.Value.{Value}
use Rattle.sn_rows.specs.declared.value.Value.TheVariants as value
use Rattle.sn_local.specs.Index.{Indexes, IndexesChange, IndexesRow, IsIndexed, KeepsIndexed, numbers_at}
use Rattle.sn_device.specs.Sending.{IsWaiting}
use Rattle.sn_device.specs.States.{Bytes, HasLocal}
use Rattle.sn_local.specs.declared.index.Index.{Index}

-- ---- a walk over the rows of a kind

abbrev Rowed : Type 0
Rowed = Key × Value

-- what a walk still has to look at
abbrev pub ahead : RowMap → Option Rowed → List Rowed
ahead map None = []
ahead map (Some row) = row ∷ rows_behind map row.0

ahead_is : (map : RowMap) (rows : List Rowed) (found : Option Rowed) → GoesOn map rows found → rows ≡ ahead map found
ahead_is map rows None is = is
ahead_is map rows (Some row) is = is

-- what a list has is its first, or stands behind it
first_or_later : (x y : Rowed) (ys : List Rowed) → Contains (x ∷ ys) y → (x ≡ y) ⊎ Contains ys y
first_or_later x y ys has =
    ⊎_elim
    (λ (one : Contains (x ∷ []) y). ⊎_elim
    (λ (none : Contains [] y). absurd (let wrong = none.1 in omega arith))
    (λ (same : x ≡ y). inl same)
    (Contains-push_cases [] x y one))
    (λ (later : Contains ys y). inr later)
    (Contains-append_cases (x ∷ []) ys y has)

-- each row of the kind passes, or is still ahead
abbrev pub PassedOrAhead : (Key → Value → Type 0) → RowMap → RowKind → Option Rowed → Type 0
PassedOrAhead P map kind found = (k : Key) (v : Value) → Contains (rows_of map kind) (k, v) → P k v ⊎ Contains (ahead map found) (k, v)

pub walk_begins : (P : Key → Value → Type 0) (map : RowMap) (kind : RowKind) (found : Option Rowed) → GoesOn map (rows_of map kind) found
    → PassedOrAhead P map kind found
walk_begins P map kind found goes k v has =
    inr (subst (λ (rows : List Rowed). Contains rows (k, v)) (ahead_is map (rows_of map kind) found goes) has)

-- the row that was found passes, and so does what passed before
pub walk_goes_on : (P Q : Key → Value → Type 0) (map : RowMap) (kind : RowKind) (k : Key) (v : Value) (found next : Option Rowed)
    → ((a : Key) (b : Value) → P a b → Q a b) → PassedOrAhead P map kind found → found ≡ Some (k, v) → Q k v → GoesOn map (rows_behind map k) next
    → PassedOrAhead Q map kind next
walk_goes_on P Q map kind k v found next still before is here goes a b has =
    ⊎_elim
    (λ (passed : P a b). inl (still a b passed))
    (λ (left : Contains (ahead map found) (a, b)). ⊎_elim
    (λ (same : (k, v) ≡ (a, b)). inl (subst (λ (r : Rowed). Q r.0 r.1) same here))
    (λ (later : Contains (rows_behind map k) (a, b)).
    inr (subst (λ (rows : List Rowed). Contains rows (a, b)) (ahead_is map (rows_behind map k) next goes) later))
    (first_or_later (k, v) (a, b) (rows_behind map k) (subst (λ (f : Option Rowed). Contains (ahead map f) (a, b)) is left)))
    (before a b has)

-- at the end all rows passed
pub walk_ends : (P : Key → Value → Type 0) (map : RowMap) (kind : RowKind) (found : Option Rowed) → PassedOrAhead P map kind found
    → AreRowsOf map kind (rows_of map kind) → found ≡ None → (k : Key) (v : Value) → key_kind k ≡ kind → row_in map k ≡ Some v → P k v
walk_ends P map kind found before are end k v of stands =
    ⊎_elim
    (λ (passed : P k v). passed)
    (λ (left : Contains (ahead map found) (k, v)).
    absurd (let none : Contains [] (k, v) = subst (λ (f : Option Rowed). Contains (ahead map f) (k, v)) end left in let wrong = none.1 in omega arith))
    (before k v ((are.whole k v).1 (of, stands)))

pub walk_shorter : (map : RowMap) (k : Key) (v : Value) (found next : Option Rowed) → found ≡ Some (k, v) → GoesOn map (rows_behind map k) next
    → length (ahead map next) < length (ahead map found)
walk_shorter map k v found next is goes =
    let one : length (ahead map found) ≡ suc (length (ahead map next)) = ap (λ (f : Option Rowed). length (ahead map f)) is
    ∙ ap (λ (rows : List Rowed). suc (length rows)) (ahead_is map (rows_behind map k) next goes) in
    omega arith

-- ---- one number more at a uuid

abbrev Names : Type 0
Names = BTreeMap Bytes (List ℕ)

abbrev Has : Names → Bytes → ℕ → Type 0
Has names uuid n = IsTrue (list_any (λ m. m == n) (numbers_at names uuid))

-- the names with a number more at this uuid
abbrev pub IsWithNumber : Names → Names → Bytes → ℕ → Type 0
IsWithNumber old new uuid n =
    (q : Bytes) → get (slice_cmp nat_cmp) new q ≡ cond (is_at (slice_cmp nat_cmp uuid) q) (Some (numbers_at old uuid ++ n ∷ [])) (get (slice_cmp nat_cmp) old q)

any_more : (n : ℕ) (xs ys : List ℕ) → IsTrue (list_any (λ m. m == n) xs) → IsTrue (list_any (λ m. m == n) (xs ++ ys))
any_more n xs ys h = rw (list_any-append (λ m. m == n) xs ys, h) refl

module _ (old new : Names) (uuid : Bytes) (n : ℕ) (is : IsWithNumber old new uuid n) where
  at_it : (q : Bytes) → is_at (slice_cmp nat_cmp uuid) q ≡ true → numbers_at new q ≡ numbers_at old uuid ++ n ∷ []
  at_it q same = ap (λ (o : Option (List ℕ)). unwrap_or o [])
      (is q ∙ ap (λ (b : Bool). cond b (Some (numbers_at old uuid ++ n ∷ [])) (get (slice_cmp nat_cmp) old q)) same)

  at_other : (q : Bytes) → is_at (slice_cmp nat_cmp uuid) q ≡ false → numbers_at new q ≡ numbers_at old q
  at_other q apart = ap (λ (o : Option (List ℕ)). unwrap_or o [])
      (is q ∙ ap (λ (b : Bool). cond b (Some (numbers_at old uuid ++ n ∷ [])) (get (slice_cmp nat_cmp) old q)) apart)

  pub names_stay : (q : Bytes) (m : ℕ) → Has old q m → Has new q m
  names_stay q m has =
      ⊎_elim
      (λ (same : is_at (slice_cmp nat_cmp uuid) q ≡ true). subst (λ (xs : List ℕ). IsTrue (list_any (λ k. k == m) xs)) (sym (at_it q same))
      (any_more m (numbers_at old uuid) (n ∷ [])
      (subst (λ (u : Bytes). Has old u m) (sym ((bytes_eq-Decides uuid q).0 (sym (is_eq-slice_cmp uuid q) ∙ same))) has)))
      (λ (apart : is_at (slice_cmp nat_cmp uuid) q ≡ false). subst (λ (xs : List ℕ). IsTrue (list_any (λ k. k == m) xs)) (sym (at_other q apart)) has)
      (cases_Bool (is_at (slice_cmp nat_cmp uuid) q))

-- ---- numbers that wait

-- one more stands there
pub waiting_stay : (old new : BTreeMap ℕ (Unit {0})) (number : ℕ)
    → ((q : ℕ) → get nat_cmp new q ≡ cond (is_at (nat_cmp number) q) (Some tt) (get nat_cmp old q))
    → (n : ℕ) → IsSome (get nat_cmp old n) → IsSome (get nat_cmp new n)
waiting_stay old new number is n has =
    ⊎_elim
    (λ (same : is_at (nat_cmp number) n ≡ true). ap is_some (is n ∙ ap (λ (b : Bool). cond b (Some tt) (get nat_cmp old n)) same))
    (λ (apart : is_at (nat_cmp number) n ≡ false). ap is_some (is n ∙ ap (λ (b : Bool). cond b (Some tt) (get nat_cmp old n)) apart) ∙ has)
    (cases_Bool (is_at (nat_cmp number) n))

-- what holds where nothing is found
pub none_holds : {A : Type 0} (P : Type 0) (found : Option A) (b : Bool) → IfNone found P → b ≡ is_some found → b ≡ false → P
none_holds P None b holds is not = holds
none_holds P (Some x) b holds is not = absurd (let wrong : false ≡ true = sym not ∙ is in cc)

-- a number is taken out whose item doesn't wait
pub settled : (old new : Index) (rows : Rows) (number : ℕ) → new.names ≡ old.names
    → ((q : ℕ) → get nat_cmp new.waiting q ≡ cond (is_at (nat_cmp number) q) None (get nat_cmp old.waiting q))
    → ((item : LocalItem) → HasLocal rows number item → ¬ (IsWaiting item)) → Indexes old rows → Indexes new rows
settled old new rows number names is none indexes n local stands = (
  subst (λ (m : Names). Has m local.uuid n) (sym names) (indexes n local stands).0,
  λ waits. ⊎_elim
      (λ (same : is_at (nat_cmp number) n ≡ true). (let e : number ≡ n = eqb-true number n (sym (unsigned_tied number n) ∙ same) in
      absurd (none local (subst (λ (m : ℕ). HasLocal rows m local) (sym e) stands) waits)))
      (λ (apart : is_at (nat_cmp number) n ≡ false).
      ap is_some (is n ∙ ap (λ (b : Bool). cond b None (get nat_cmp old.waiting n)) apart) ∙ (indexes n local stands).1 waits)
      (cases_Bool (is_at (nat_cmp number) n)),
)

-- ---- changes

pub kept_still : (old new : Index) (n : ℕ) (local : LocalItem) → KeepsIndexed old new → IsIndexed old n local → IsIndexed new n local
kept_still old new n local kept is = (kept.names local.uuid n is.0, λ waits. kept.waiting n (is.1 waits))

pub kept_rows : (old new : Index) (rows : Rows) → KeepsIndexed old new → Indexes old rows → Indexes new rows
kept_rows old new rows kept indexes n local stands = kept_still old new n local kept (indexes n local stands)

pub kept_twice : (first second third : Index) → KeepsIndexed first second → KeepsIndexed second third → KeepsIndexed first third
kept_twice first second third one other = record {
  names = λ uuid n h. other.names uuid n (one.names uuid n h);
  waiting = λ n h. other.waiting n (one.waiting n h);
}

-- where the row stands there that a change puts, so does what the change puts
pub put_indexed : (index : Index) (change : Change) (row : Row) → change ≡ Put row → IndexesRow index row.key row.value → IndexesChange index change
put_indexed index change row is indexed n local puts =
    let named : row.key ≡ key.Local n = sym (ap key_of is) ∙ puts.key_is in
    let held : Some row.value ≡ Some (value.Local local) = sym (ap value_of is) ∙ puts.value_is in
    let value_is : row.value ≡ value.Local local = cc in
    indexed n local named value_is

-- one change more
pub listed_more : (old new : Index) (changes : List Change) (i : ℕ) (change : Change) → KeepsIndexed old new → i < length changes
    → change ≡ get_or changes i change → ((k : ℕ) (d : Change) → k < i → IndexesChange old (get_or changes k d)) → IndexesChange new change
    → (k : ℕ) (d : Change) → k < i + 1 → IndexesChange new (get_or changes k d)
listed_more old new changes i change kept within is before here k d below =
    let upto : k ≤ i = omega arith in
    let P : ℕ → Type 0 = λ j. IndexesChange new (get_or changes j d) in
    ⊎_elim
    (λ (same : k ≡ i). subst P (sym same) (at_read changes (IndexesChange new) i change within is here d))
    (λ (less : k < i). λ n local puts. kept_still old new n local kept (before k d less n local puts))
    (eq-or-lt_of_le upto)

-- an item that changes leave stood before, or one of them puts it
found_indexed : (index : Index) (n : ℕ) (found : Option Value) (changes : List Change)
    → ((local : LocalItem) → found ≡ Some (value.Local local) → IsIndexed index n local) → All (IndexesChange index) changes
    → (local : LocalItem) → row_after found (key.Local n) changes ≡ Some (value.Local local) → IsIndexed index n local
found_indexed index n found [] before listed local is = before local is
found_indexed index n found (c ∷ cs) before listed local is =
    found_indexed index n (changed found (key.Local n) c) cs (here c (All-head (IndexesChange index) c cs listed)) (All-tail (IndexesChange index) c cs listed)
    local is
  where
    here : (c : Change) → IndexesChange index c → (item : LocalItem) → changed found (key.Local n) c ≡ Some (value.Local item) → IsIndexed index n item
    here (Put r) one item left =
        ⊎_elim
        (λ (same : same_key r.key (key.Local n) ≡ true). let value_is : Some r.value ≡ Some (value.Local item) =
        sym (ap (λ t. if t then Some r.value else found) same) ∙ left in
        one n item (record { key_is = (keys_compare r.key (key.Local n)).0 same; value_is = value_is }))
        (λ (apart : same_key r.key (key.Local n) ≡ false). before item (sym (ap (λ t. if t then Some r.value else found) apart) ∙ left))
        (cases_Bool (same_key r.key (key.Local n)))
    here (Remove k) one item left =
        ⊎_elim
        (λ (same : same_key k (key.Local n) ≡ true).
        let none : None ≡ Some (value.Local item) = sym (ap (λ t. if t then None else found) same) ∙ left in absurd cc)
        (λ (apart : same_key k (key.Local n) ≡ false). before item (sym (ap (λ t. if t then None else found) apart) ∙ left))
        (cases_Bool (same_key k (key.Local n)))

pub after_changes : (index : Index) (rows : Rows) (changes : List Change) → Indexes index rows → All (IndexesChange index) changes
    → Indexes index (rows_after rows changes)
after_changes index rows changes indexes listed n local stands =
    found_indexed index n (rows (key.Local n)) changes (λ item is. indexes n item is) listed local stands

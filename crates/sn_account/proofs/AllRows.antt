-- The walk over the rows of a kind to the first that fails a test.
use Rattle.std.proofs.Common.{◌≡◌, ◌∙◌, ℕ, ◌+◌, ◌-◌, ◌<◌, ◌≤◌, List, length, get_or, drop, Bool, true, false, IsTrue, ◌↔◌, Option, Some, None, refl, sym, ap, subst, arith, length-drop, ⊎_elim}
use Rattle.std.specs.List.{Contains}
use Rattle.std.proofs.Math.Nat.{eq-or-lt_of_le}
use Rattle.std.proofs.lemmas.List.Elements.{at_read}
use Rattle.sn_rows.specs.Kinds.{key_kind}
use Rattle.sn_rows.specs.declared.key.Key.{Key}
use Rattle.sn_rows.specs.declared.kind.RowKind.{RowKind}
use Rattle.sn_rows.specs.declared.value.Value.{Value}
use Rattle.sn_row_map.specs.Ranges.{AreRowsOf, rows_behind, rows_of}
use Rattle.sn_row_map.specs.RowMaps.{row_in}
use Rattle.sn_row_map.specs.Steps.{GoesOn}
use Rattle.sn_row_map.specs.declared.row_map.RowMap.{RowMap}
use Rattle.sn_account.specs.Walks.{AllPass}
use Rattle.sn_account.proofs.SearchLemmas.{next_row}
use Rattle.sn_account.proofs.WalkLemmas.{goes_on, left_is, left_of}

abbrev Rowed : Type 0
Rowed = Key × Value

module _ (P : Key → Value → Type 0) where
  -- so many rows were looked at, and each of them passes; these are left
  pub record InRows (map : RowMap) (kind : RowKind) (found : Option Rowed) : Type 0 where
    pub count : ℕ
    pub left : drop count (rows_of map kind) ≡ left_of map found
    pub passed : (k : ℕ) (d : Rowed) → k < count → P (get_or (rows_of map kind) k d).0 (get_or (rows_of map kind) k d).1

  pub rows_first : (map : RowMap) (kind : RowKind) (found : Option Rowed) → GoesOn map (rows_of map kind) found → InRows map kind found
  rows_first map kind found goes = record {
    count = 0;
    left = goes_on map (rows_of map kind) found goes;
    passed = λ k d below. absurd (omega (arith, below));
  }

  one_more : (rows : List Rowed) (i : ℕ) (row : Rowed) → i < length rows → row ≡ get_or rows i row
      → ((k : ℕ) (d : Rowed) → k < i → P (get_or rows k d).0 (get_or rows k d).1) → P row.0 row.1
      → (k : ℕ) (d : Rowed) → k < i + 1 → P (get_or rows k d).0 (get_or rows k d).1
  one_more rows i row within is earlier here k d below =
      let upto : k ≤ i = omega arith in
      let Q : ℕ → Type 0 = λ j. P (get_or rows j d).0 (get_or rows j d).1 in
      ⊎_elim
      (λ (e : k ≡ i). subst Q (sym e) (at_read rows (λ (r : Rowed). P r.0 r.1) i row within is here d))
      (λ (less : k < i). earlier k d less)
      (eq-or-lt_of_le upto)

  pub rows_more : (map : RowMap) (kind : RowKind) (k : Key) (v : Value) (found next : Option Rowed) → InRows map kind found
      → found ≡ Some (k, v) → P k v → GoesOn map (rows_behind map k) next → InRows map kind next
  rows_more map kind k v found next s is here goes =
      let at = next_row (rows_of map kind) s.count (k, v) (left_of map next) (s.left ∙ left_is map k v found next is goes) in
      record {
        count = s.count + 1;
        left = at.behind;
        passed = one_more (rows_of map kind) s.count (k, v) at.within at.is s.passed here;
      }

  -- the row that is found stands in the map
  pub row_there : (map : RowMap) (kind : RowKind) (k : Key) (v : Value) (found : Option Rowed) → InRows map kind found
      → AreRowsOf map kind (rows_of map kind) → found ≡ Some (k, v) → (key_kind k ≡ kind) × (row_in map k ≡ Some v)
  row_there map kind k v found s are is =
      let at = next_row (rows_of map kind) s.count (k, v) (rows_behind map k) (s.left ∙ ap (left_of map) is) in
      (are.whole k v).0 (s.count, at.within, sym at.is)

  pub rows_fail : (map : RowMap) (kind : RowKind) (k : Key) (v : Value) (found : Option Rowed) → InRows map kind found
      → AreRowsOf map kind (rows_of map kind) → found ≡ Some (k, v) → ¬ (P k v) → ¬ (AllPass P map kind)
  rows_fail map kind k v found s are is fails all =
      let there = row_there map kind k v found s are is in fails (all k v there.0 there.1)

  pub rows_end : (map : RowMap) (kind : RowKind) (found : Option Rowed) → InRows map kind found
      → AreRowsOf map kind (rows_of map kind) → found ≡ None → AllPass P map kind
  rows_end map kind found s are end k v of stands =
      let none : length (rows_of map kind) - s.count ≡ 0 = sym (length-drop s.count (rows_of map kind)) ∙ ap length (s.left ∙ ap (left_of map) end) in
      let has : Contains (rows_of map kind) (k, v) = (are.whole k v).1 (of, stands) in
      let below : has.0 < s.count = omega (arith, none, has.1) in
      let passed = s.passed has.0 (k, v) below in
      subst (λ (r : Rowed). P r.0 r.1) has.2 passed

  -- the answers
  pub not_passed : (map : RowMap) (kind : RowKind) (k : Key) (v : Value) (passed : Bool) (found : Option Rowed) → InRows map kind found
      → AreRowsOf map kind (rows_of map kind) → found ≡ Some (k, v) → IsTrue passed ↔ P k v → passed ≡ false → IsTrue false ↔ AllPass P map kind
  not_passed map kind k v passed found s are is tells missed = (
    λ holds. cc,
    λ all. absurd (rows_fail map kind k v found s are is (λ p. (let holds : passed ≡ true = tells.1 p in cc)) all),
  )

  pub all_passed : (map : RowMap) (kind : RowKind) (found : Option Rowed) → InRows map kind found
      → AreRowsOf map kind (rows_of map kind) → found ≡ None → IsTrue true ↔ AllPass P map kind
  all_passed map kind found s are end = (λ _. rows_end map kind found s are end, λ _. refl)

-- rows that pass one test pass another that follows from it
pub in_rows_by : (P Q : Key → Value → Type 0) (map : RowMap) (kind : RowKind) (found : Option Rowed)
    → ((k : Key) (v : Value) → P k v → Q k v) → InRows P map kind found → InRows Q map kind found
in_rows_by P Q map kind found f s = record {
  count = s.count;
  left = s.left;
  passed = λ k d below. f (get_or (rows_of map kind) k d).0 (get_or (rows_of map kind) k d).1 (s.passed k d below);
}

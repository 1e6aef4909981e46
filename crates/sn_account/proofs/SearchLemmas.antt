-- The walk over all items to the first that is behind.
use Rattle.std.proofs.Common.{◌≡◌, ◌∙◌, ℕ, suc, ◌+◌, ◌-◌, ◌<◌, List, ◌∷◌, length, get_or, drop, Option, Some, None, sym, ap, arith, add-one, length-drop}
use Rattle.std.proofs.Math.Seq.{drop-cons}
use Rattle.sn_rows.specs.Table.{Rows}
use Rattle.sn_rows.specs.declared.key.Key.{Key}
use Rattle.sn_rows.specs.declared.key.Key.TheVariants as key
use Rattle.sn_rows.specs.declared.kind.RowKind.TheVariants as kind
use Rattle.sn_rows.specs.declared.value.Value.{Value}
use Rattle.sn_row_map.specs.Ranges.{AreRowsOf, rows_behind, rows_of}
use Rattle.sn_row_map.specs.RowMaps.{row_in}
use Rattle.sn_row_map.specs.Steps.{GoesOn}
use Rattle.sn_row_map.specs.declared.row_map.RowMap.{RowMap}
use Rattle.sn_string.specs.declared.params.Params.{Params}
use Rattle.sn_account.specs.Lookups.{Bytes}
use Rattle.sn_account.specs.Rules.{IsBehind, IsLeastBehind, NoneBehind}
use Rattle.sn_account.proofs.BehindLemmas.{IsCurrent, current_more, found_behind, none_behind}
use Rattle.sn_account.proofs.WalkLemmas.{goes_on, left_is, left_of}

-- so many rows were looked at, and none of them is behind; these are left
pub record InSearch (map : RowMap) (n : ℕ) (params : Params) (found : Option (Key × Value)) : Type 0 where
  pub count : ℕ
  pub left : drop count (rows_of map kind.Item) ≡ left_of map found
  pub current : (k : ℕ) (d : Key × Value) → k < count → IsCurrent n params (get_or (rows_of map kind.Item) k d)

pub search_first : (map : RowMap) (n : ℕ) (params : Params) (found : Option (Key × Value)) → GoesOn map (rows_of map kind.Item) found
    → InSearch map n params found
search_first map n params found goes = record {
  count = 0;
  left = goes_on map (rows_of map kind.Item) found goes;
  current = λ k d below. absurd (omega (arith, below));
}

-- what is found is the next of the rows
pub record IsNextRow (rows : List (Key × Value)) (count : ℕ) (row : Key × Value) (rest : List (Key × Value)) : Type 0 where
  pub within : count < length rows
  pub is : row ≡ get_or rows count row
  pub behind : drop (count + 1) rows ≡ rest

pub next_row : (rows : List (Key × Value)) (count : ℕ) (row : Key × Value) (rest : List (Key × Value)) → drop count rows ≡ row ∷ rest
    → IsNextRow rows count row rest
next_row rows count row rest left =
    let size : length rows - count ≡ suc (length rest) = sym (length-drop count rows) ∙ ap length left in
    let inside : count < length rows = omega arith in
    let cut = drop-cons rows count row inside in
    let first : row ≡ get_or rows count row = cc in
    let others : drop (suc count) rows ≡ rest = cc in
    record { within = inside; is = first; behind = ap (λ (k : ℕ). drop k rows) (add-one count) ∙ others }

pub search_more : (map : RowMap) (n : ℕ) (params : Params) (k : Key) (v : Value) (found next : Option (Key × Value)) → InSearch map n params found
    → found ≡ Some (k, v) → IsCurrent n params (k, v) → GoesOn map (rows_behind map k) next → InSearch map n params next
search_more map n params k v found next s is here goes =
    let at = next_row (rows_of map kind.Item) s.count (k, v) (left_of map next) (s.left ∙ left_is map k v found next is goes) in
    record {
      count = s.count + 1;
      left = at.behind;
      current = current_more (rows_of map kind.Item) n params s.count (k, v) at.within at.is s.current here;
    }

pub search_found : (map : RowMap) (all : Rows) (n : ℕ) (params : Params) (k : Key) (v : Value) (found : Option (Key × Value)) (uuid : Bytes)
    → InSearch map n params found → AreRowsOf map kind.Item (rows_of map kind.Item) → ((a : Key) → all a ≡ row_in map a) → found ≡ Some (k, v)
    → (k ≡ key.Item uuid) × ((every : Rows) → every k ≡ Some v → IsBehind every n params uuid) → IsLeastBehind all n params uuid
search_found map all n params k v found uuid s are same is told =
    let at = next_row (rows_of map kind.Item) s.count (k, v) (rows_behind map k) (s.left ∙ ap (left_of map) is) in
    found_behind map all (rows_of map kind.Item) n params are same s.count (k, v) uuid at.within at.is told s.current

pub search_none : (map : RowMap) (all : Rows) (n : ℕ) (params : Params) (found : Option (Key × Value)) → InSearch map n params found
    → AreRowsOf map kind.Item (rows_of map kind.Item) → ((a : Key) → all a ≡ row_in map a) → found ≡ None → NoneBehind all n params
search_none map all n params found s are same end =
    let none : length (rows_of map kind.Item) - s.count ≡ 0 = sym (length-drop s.count (rows_of map kind.Item)) ∙ ap length (s.left ∙ ap (left_of map) end) in
    none_behind map all (rows_of map kind.Item) n params are same
    (λ k d within. (let below : k < s.count = omega arith in s.current k d below))

-- The least item that is behind.
use Rattle.std.proofs.Common.{◌≡◌, ◌∙◌, ◌<◌, false, List, ℕ, Some, length, get_or, map, refl, sym, ap, subst, ⊎_elim, ◌+◌, ◌≤◌, arith}
use Rattle.std.specs.List.{Contains}
use Rattle.std.specs.Ordering.{ordering_reverse}
use Rattle.std.specs.declared.cmp.Ordering.TheVariants.{Less}
use Rattle.std.proofs.Math.Nat.{eq-or-lt_of_le}
use Rattle.std.proofs.Math.ListN.{get_or-map, length-map}
use Rattle.std.proofs.lemmas.Cmp.{nat_list_cmp_total}
use Rattle.std.proofs.lemmas.List.Elements.{at_read}
use Rattle.std.proofs.lemmas.Map.Keys.{Less-from_sorted}
use Rattle.sn_rows.specs.Table.{Rows, row_after}
use Rattle.sn_rows.specs.declared.change.Change.{Change}
use Rattle.sn_rows.specs.declared.key.Key.{Key}
use Rattle.sn_rows.specs.declared.key.Key.TheVariants as key
use Rattle.sn_rows.specs.declared.kind.RowKind.TheVariants as kind
use Rattle.sn_rows.specs.declared.server_rows.ItemRow.{ItemRow}
use Rattle.sn_rows.specs.declared.value.Value.{Value}
use Rattle.sn_rows.specs.declared.value.Value.TheVariants as value
use Rattle.sn_string.specs.declared.params.Params.{Params}
use Rattle.sn_rows.specs.Order.{key_order}
use Rattle.sn_row_map.specs.Ranges.{AreRowsOf}
use Rattle.sn_row_map.specs.RowMaps.{row_in}
use Rattle.sn_row_map.specs.declared.row_map.RowMap.{RowMap}
use Rattle.sn_account.specs.Lookups.{Bytes}
use Rattle.sn_account.specs.States.{IsUnmarked, state_rows}
use Rattle.sn_account.specs.declared.state.State.{State}
use Rattle.sn_account.specs.Rules.{Carries, IsBefore, IsBehind, IsLeastBehind, NoneBehind}

-- what the test of an item says
abbrev pub IsOld : ItemRow → ℕ → Params → Type 0
IsOld item n params = (item.account ≡ n) × (item.deleted ≡ false) × ¬ (Carries item params)

pub old_is_behind : (rows : Rows) (n : ℕ) (params : Params) (uuid : Bytes) (item : ItemRow) (k : Key) (v : Value) → k ≡ key.Item uuid
    → v ≡ value.Item item → IsOld item n params → rows k ≡ Some v → IsBehind rows n params uuid
old_is_behind rows n params uuid item k v named is old there = record {
  item = item;
  there = ap rows (sym named) ∙ there ∙ ap Some is;
  own = old.0;
  kept = old.1;
  others = old.2;
}

pub not_old_not_behind : (rows : Rows) (n : ℕ) (params : Params) (uuid : Bytes) (item : ItemRow) (k : Key) (v : Value)
    → v ≡ value.Item item → ¬ (IsOld item n params) → rows k ≡ Some v → k ≡ key.Item uuid → ¬ (IsBehind rows n params uuid)
not_old_not_behind rows n params uuid item k v is new there named behind =
    let both : Some (value.Item behind.item) ≡ Some (value.Item item) = sym behind.there ∙ ap rows (sym named) ∙ there ∙ ap Some is in
    let same : behind.item ≡ item = cc in
    let P : ItemRow → Type 0 = λ i. IsOld i n params in
    new (subst P same (behind.own, behind.kept, behind.others))

-- ---- the rows of all items

pub unmarked_rows : (s : State) → IsUnmarked s → (k : Key) → state_rows s k ≡ row_in s.rows k
unmarked_rows s h k = ap (λ (changes : List Change). row_after (row_in s.rows k) k changes) h

-- the row's item, if it is one, isn't behind
abbrev pub IsCurrent : ℕ → Params → (Key × Value) → Type 0
IsCurrent n params row = (rows : Rows) (uuid : Bytes) → rows row.0 ≡ Some row.1 → row.0 ≡ key.Item uuid → ¬ (IsBehind rows n params uuid)

-- a row of an item
abbrev row_of : Bytes → ItemRow → Key × Value
row_of uuid item = (key.Item uuid, value.Item item)

-- an item that is behind stands somewhere among the rows
pub place_of : (map : RowMap) (all : Rows) (rows : List (Key × Value)) (n : ℕ) (params : Params) (uuid : Bytes) → AreRowsOf map kind.Item rows
    → ((k : Key) → all k ≡ row_in map k) → (b : IsBehind all n params uuid) → Contains rows (row_of uuid b.item)
place_of map all rows n params uuid are same b =
    (are.whole (key.Item uuid) (value.Item b.item)).1 (refl, sym (same (key.Item uuid)) ∙ b.there)

-- a row that is there isn't current if it is behind
not_current : (all : Rows) (n : ℕ) (params : Params) (uuid : Bytes) (b : IsBehind all n params uuid) (row : Key × Value)
    → row ≡ row_of uuid b.item → ¬ (IsCurrent n params row)
not_current all n params uuid b row is current =
    let named : row.0 ≡ key.Item uuid = ap (λ (r : Key × Value). r.0) is in
    let held : row.1 ≡ value.Item b.item = ap (λ (r : Key × Value). r.1) is in
    current all uuid (ap all named ∙ b.there ∙ ap Some (sym held)) named b

-- where each row is current, no item is behind
pub none_behind : (map : RowMap) (all : Rows) (rows : List (Key × Value)) (n : ℕ) (params : Params) → AreRowsOf map kind.Item rows
    → ((k : Key) → all k ≡ row_in map k) → ((k : ℕ) (d : Key × Value) → k < length rows → IsCurrent n params (get_or rows k d))
    → NoneBehind all n params
none_behind map all rows n params are same current uuid b =
    let at = place_of map all rows n params uuid are same b in
    not_current all n params uuid b (get_or rows at.0 (row_of uuid b.item)) at.2 (current at.0 (row_of uuid b.item) at.1)

-- ---- the first of the rows is the least

not_both_before : (u w : Bytes) → IsBefore u w → IsBefore w u → ⊥
not_both_before u w h k = let e = nat_list_cmp_total.antisymm u w in let f = sym h ∙ e ∙ ap ordering_reverse k in cc

pub not_before_itself : (u : Bytes) → IsBefore u u → ⊥
not_before_itself u h = not_both_before u u h h

pub keys_in_order : (held : RowMap) (rows : List (Key × Value)) (d : Key × Value) (i k : ℕ) → AreRowsOf held kind.Item rows → i < k → k < length rows
    → key_order (get_or rows i d).0 (get_or rows k d).0 ≡ Less
keys_in_order held rows d i k are lt within =
    let f : Key × Value → Key = λ e. e.0 in
    let size : length (map f rows) ≡ length rows = length-map rows f in
    let inside : k < length (map f rows) = omega arith in
    let low : get_or (map f rows) i (f d) ≡ f (get_or rows i d) = get_or-map f rows i d in
    let high : get_or (map f rows) k (f d) ≡ f (get_or rows k d) = get_or-map f rows k d in
    let ordered : key_order (get_or (map f rows) i (f d)) (get_or (map f rows) k (f d)) ≡ Less =
    Less-from_sorted key_order (map f rows) i k (f d) are.sorted lt inside in
    subst (λ (q : Key). key_order q (f (get_or rows k d)) ≡ Less) low
    (subst (λ (q : Key). key_order (get_or (map f rows) i (f d)) q ≡ Less) high ordered)

pub least_behind : (map : RowMap) (all : Rows) (rows : List (Key × Value)) (n : ℕ) (params : Params) → AreRowsOf map kind.Item rows
    → ((k : Key) → all k ≡ row_in map k) → (i : ℕ) (uuid : Bytes) → ((d : Key × Value) → (get_or rows i d).0 ≡ key.Item uuid)
    → IsBehind all n params uuid → ((k : ℕ) (d : Key × Value) → k < i → IsCurrent n params (get_or rows k d))
    → IsLeastBehind all n params uuid
least_behind map all rows n params are same i uuid named b current = record {
  behind = b;
  least = λ other ob lt.
      let at = place_of map all rows n params other are same ob in
      let row : Key × Value = row_of other ob.item in
      let k : ℕ = at.0 in
      let there : (get_or rows k row).0 ≡ key.Item other = ap (λ (r : Key × Value). r.0) at.2 in
      let not_earlier : k < i → ⊥ = λ h. not_current all n params other ob (get_or rows k row) at.2 (current k row h) in
      let not_same : k ≡ i → ⊥ = λ h.
      let e : key.Item other ≡ key.Item uuid = sym there ∙ ap (λ (j : ℕ). (get_or rows j row).0) h ∙ named row in
      let f : other ≡ uuid = cc in
      not_before_itself uuid (subst (λ (u : Bytes). IsBefore u uuid) f lt) in
      let not_later : i < k → ⊥ = λ h.
      let before : key_order (key.Item uuid) (key.Item other) ≡ Less =
      subst (λ (q : Key). key_order q (key.Item other) ≡ Less) (named row)
      (subst (λ (q : Key). key_order (get_or rows i row).0 q ≡ Less) there (keys_in_order map rows row i k are h at.1)) in
      not_both_before uuid other before lt in
      omega arith;
}

-- a row of which it is told whether it is behind stands in all rows
pub found_behind : (map : RowMap) (all : Rows) (rows : List (Key × Value)) (n : ℕ) (params : Params) → AreRowsOf map kind.Item rows
    → ((k : Key) → all k ≡ row_in map k) → (i : ℕ) (row : Key × Value) (uuid : Bytes) → i < length rows → row ≡ get_or rows i row
    → (row.0 ≡ key.Item uuid) × ((every : Rows) → every row.0 ≡ Some row.1 → IsBehind every n params uuid)
    → ((k : ℕ) (d : Key × Value) → k < i → IsCurrent n params (get_or rows k d)) → IsLeastBehind all n params uuid
found_behind map all rows n params are same i row uuid within is told current =
    let there : all row.0 ≡ Some row.1 = same row.0 ∙ ((are.whole row.0 row.1).0 (i, within, sym is)).1 in
    least_behind map all rows n params are same i uuid (at_read rows (λ (r : Key × Value). r.0 ≡ key.Item uuid) i row within is told.0)
    (told.1 all there) current

-- one row more is current
pub current_more : (rows : List (Key × Value)) (n : ℕ) (params : Params) (i : ℕ) (row : Key × Value) → i < length rows → row ≡ get_or rows i row
    → ((k : ℕ) (d : Key × Value) → k < i → IsCurrent n params (get_or rows k d)) → IsCurrent n params row
    → (k : ℕ) (d : Key × Value) → k < i + 1 → IsCurrent n params (get_or rows k d)
current_more rows n params i row within is earlier here k d below =
    let upto : k ≤ i = omega arith in
    let P : ℕ → Type 0 = λ j. IsCurrent n params (get_or rows j d) in
    ⊎_elim
    (λ (e : k ≡ i). subst P (sym e) (at_read rows (IsCurrent n params) i row within is here d))
    (λ (less : k < i). earlier k d less)
    (eq-or-lt_of_le upto)

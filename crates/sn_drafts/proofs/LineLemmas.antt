-- How the lines of a list are found: a walk over the rows of items, in the order of their keys.
use Rattle.std.proofs.Common.{◌≡◌, ◌∙◌, ℕ, List, [], ◌∷◌, ◌++◌, Option, Some, None, Result, Ok, Err, OnOk, refl, sym, ap, subst, map}
use Rattle.std.specs.Prelude.{⊤}
use Rattle.std.specs.List.{AllZip, Contains}
use Rattle.std.proofs.lemmas.List.{append-nil, append_assoc, map_push}
use Rattle.std.proofs.lemmas.List.Elements.{Contains-append_left, Contains-append_right, Contains-push}
use Rattle.sn_row_map.specs.Ranges.{AreRowsOf, rows_behind, rows_of}
use Rattle.sn_row_map.specs.RowMaps.{row_in}
use Rattle.sn_row_map.specs.Steps.{GoesOn}
use Rattle.sn_row_map.specs.declared.row_map.RowMap.{RowMap}
use Rattle.sn_rows.specs.declared.device_rows.LocalItem.{LocalItem}
use Rattle.sn_rows.specs.declared.key.Key.{Key}
use Rattle.sn_rows.specs.declared.kind.RowKind.TheVariants as kind
use Rattle.sn_rows.specs.declared.value.Value.{Value}
use Rattle.sn_rows.specs.declared.value.Value.TheVariants as value
use Rattle.sn_sets.specs.declared.sets.Sets.{Sets}
use Rattle.sn_table.specs.Logs.{HasKinds}
use Rattle.sn_device.specs.Listing.{AreListed, IsListed}
use Rattle.sn_device.specs.Sending.{Numbered}
use Rattle.sn_device.specs.States.{AreSoundLocals, HasLocal, IsSoundItem, columns}
use Rattle.sn_local.specs.Found.{IsItemRow}
use Rattle.sn_device.specs.declared.listed.Listed.{Listed}
use Rattle.sn_local.proofs.Facts.{Rowed, row_of, local_key, local_value, are_items}

-- ---- a walk over the items

-- the item's line
abbrev pub HasLine : Sets → Numbered → Listed → Type 0
HasLine sets w line = IsListed sets w.1 line

-- the rows of items are those that have a line, and what is left
pub record ListedSoFar (rows : RowMap) (sets : Sets) (told : List Listed) (found : Option Rowed) : Type 0 where
  pub items : List Numbered
  pub left : List Rowed
  pub are : rows_of rows kind.Local ≡ map row_of items ++ left
  pub goes : GoesOn rows left found
  pub listed : AllZip (HasLine sets) items told

pub none_listed : (rows : RowMap) (sets : Sets) (told : List Listed) (found : Option Rowed) → told ≡ [] → GoesOn rows (rows_of rows kind.Local) found
    → ListedSoFar rows sets told found
none_listed rows sets told found none goes = record {
  items = [];
  left = rows_of rows kind.Local;
  are = refl;
  goes = goes;
  listed = subst (λ (ls : List Listed). AllZip (HasLine sets) [] ls) (sym none) tt;
}

-- what is found is the row of a sound item
pub record IsItemFound (rows : RowMap) (k : Key) (v : Value) : Type 0 where
  pub number : ℕ
  pub local : LocalItem
  pub is : IsItemRow k v number local
  pub sound : IsSoundItem (columns local)

pub item_found : (rows : RowMap) (sets : Sets) (told : List Listed) (found : Option Rowed) (k : Key) (v : Value) → ListedSoFar rows sets told found
    → found ≡ Some (k, v) → AreRowsOf rows kind.Local (rows_of rows kind.Local) → HasKinds rows → AreSoundLocals (row_in rows) → IsItemFound rows k v
item_found rows sets told found k v so_far here all kinds sound =
    let items : List Rowed = map row_of so_far.items in
    let left : so_far.left ≡ (k, v) ∷ rows_behind rows k = subst (GoesOn rows so_far.left) here so_far.goes in
    let next : Contains ((k, v) ∷ rows_behind rows k) (k, v) = Contains-append_left ((k, v) ∷ []) (rows_behind rows k) (k, v) (Contains-push [] (k, v)) in
    let has : Contains (rows_of rows kind.Local) (k, v) =
    subst (λ (rs : List Rowed). Contains rs (k, v)) (sym (so_far.are ∙ ap (λ (rs : List Rowed). items ++ rs) left))
    (Contains-append_right items ((k, v) ∷ rows_behind rows k) (k, v) next) in
    let stands = (all.whole k v).0 has in
    let named = local_key k stands.0 in
    let valued = local_value v (sym (kinds k v stands.1) ∙ stands.0) in
    let there : HasLocal (row_in rows) named.0 valued.0 =
    ap (row_in rows) (sym named.1) ∙ stands.1 ∙ ap (λ (x : Value). Some x) valued.1 in
    record { number = named.0; local = valued.0; is = (named.1, valued.1); sound = sound.items named.0 valued.0 there }

-- what adding a line says
abbrev pub AddsLine : Sets → Value → List Listed → List Listed → Type 0
AddsLine sets v old new = (local : LocalItem) × (line : Listed) × (v ≡ value.Local local) × IsListed sets local line × (new ≡ old ++ line ∷ [])

pub adds_line : {E : Type 0} (sets : Sets) (v : Value) (old new : List Listed) (local : LocalItem) (line : Listed) (r : Result ⊤ E) → v ≡ value.Local local
    → IsListed sets local line → OnOk r (new ≡ old ++ line ∷ []) → OnOk r (AddsLine sets v old new)
adds_line sets v old new local line (Ok done) is listed ok = (local, line, is, listed, ok)
adds_line sets v old new local line (Err e) is listed ok = tt

listed_more : (sets : Sets) (items : List Numbered) (told : List Listed) (w : Numbered) (line : Listed) → AllZip (HasLine sets) items told
    → IsListed sets w.1 line → AllZip (HasLine sets) (items ++ w ∷ []) (told ++ line ∷ [])
listed_more sets [] [] w line listed is = (is, tt)
listed_more sets [] (l ∷ told) w line listed is = absurd listed
listed_more sets (i ∷ items) [] w line listed is = absurd listed
listed_more sets (i ∷ items) (l ∷ told) w line listed is = (listed.0, listed_more sets items told w line listed.1 is)

-- the row that was found has its line
pub one_listed : (rows : RowMap) (sets : Sets) (old new : List Listed) (found next : Option Rowed) (k : Key) (v : Value) → ListedSoFar rows sets old found
    → found ≡ Some (k, v) → IsItemFound rows k v → AddsLine sets v old new → GoesOn rows (rows_behind rows k) next → ListedSoFar rows sets new next
one_listed rows sets old new found next k v so_far here item adds goes =
    let w : Numbered = (item.number, adds.0) in
    let is_row : (k, v) ≡ row_of w = (let at = item.is.0 in let is = adds.2 in cc) in
    let left : so_far.left ≡ (k, v) ∷ rows_behind rows k = subst (GoesOn rows so_far.left) here so_far.goes in
    record {
      items = so_far.items ++ w ∷ [];
      left = rows_behind rows k;
      are = so_far.are ∙ ap (λ (rs : List Rowed). map row_of so_far.items ++ rs) (left ∙ ap (λ (r : Rowed). r ∷ rows_behind rows k) is_row)
          ∙ sym (append_assoc (map row_of so_far.items) (row_of w ∷ []) (rows_behind rows k))
          ∙ ap (λ (rs : List Rowed). rs ++ rows_behind rows k) (sym (map_push row_of so_far.items w));
      goes = goes;
      listed = subst (λ (ls : List Listed). AllZip (HasLine sets) (so_far.items ++ w ∷ []) ls) (sym adds.4)
          (listed_more sets so_far.items old w adds.1 so_far.listed adds.3);
    }

-- all have their lines
pub all_listed : (rows : RowMap) (sets : Sets) (told : List Listed) (found : Option Rowed) → ListedSoFar rows sets told found → found ≡ None
    → AreRowsOf rows kind.Local (rows_of rows kind.Local) → AreListed (row_in rows) sets told
all_listed rows sets told found so_far end all =
    let none : so_far.left ≡ [] = subst (GoesOn rows so_far.left) end so_far.goes in
    let whole : rows_of rows kind.Local ≡ map row_of so_far.items =
    so_far.are ∙ ap (λ (rs : List Rowed). map row_of so_far.items ++ rs) none ∙ append-nil (map row_of so_far.items) in
    (so_far.items, are_items rows so_far.items (subst (AreRowsOf rows kind.Local) whole all), so_far.listed)

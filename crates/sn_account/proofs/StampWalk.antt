-- The walk over all items to the first whose stamp comes again.
use Rattle.std.proofs.Common.{◌≡◌, ◌∙◌, ℕ, ◌+◌, ◌-◌, ◌<◌, ◌↔◌, ◌⊎◌, List, [], length, get_or, drop, Bool, true, false, Option, Some, None, inl, inr, refl, sym, ap, subst, arith, length-drop, ⊎_elim}
use Rattle.std.specs.Prelude.{IsSome}
use Rattle.std.specs.BTreeMap.{BTreeMap, get, is_at}
use Rattle.std.specs.Map.{lookup}
use Rattle.std.specs.Ordering.{nat_cmp}
use Rattle.std.specs.List.{Contains}
use Rattle.std.specs.declared.cmp.Ordering.TheVariants.{Less}
use Rattle.std.proofs.lemmas.List.Elements.{at_read}
use Rattle.sn_rows.specs.Kinds.{key_kind}
use Rattle.sn_rows.specs.Order.{key_order}
use Rattle.sn_rows.specs.Table.{Rows}
use Rattle.sn_rows.specs.declared.key.Key.{Key}
use Rattle.sn_rows.specs.declared.key.Key.TheVariants as key
use Rattle.sn_rows.specs.declared.kind.RowKind.TheVariants as kind
use Rattle.sn_rows.specs.declared.server_rows.ItemRow.{ItemRow}
use Rattle.sn_rows.specs.declared.value.Value.{Value}
use Rattle.sn_rows.specs.declared.value.Value.TheVariants as value
use Rattle.sn_row_map.specs.Ranges.{AreRowsOf, rows_behind, rows_of}
use Rattle.sn_row_map.specs.RowMaps.{row_in}
use Rattle.sn_row_map.specs.Steps.{GoesOn}
use Rattle.sn_row_map.specs.declared.row_map.RowMap.{RowMap}
use Rattle.sn_account.specs.Lookups.{Bytes, HasItem}
use Rattle.sn_account.specs.Walks.{HasStamp, MeetsStamp, StampsDiffer}
use Rattle.sn_account.proofs.ApartLemmas.{AreMet, met_more, met_skip, none_met}
use Rattle.sn_account.proofs.BehindLemmas.{keys_in_order, not_before_itself}
use Rattle.sn_account.proofs.SearchLemmas.{next_row}
use Rattle.sn_account.proofs.WalkLemmas.{goes_on, left_is, left_of}

abbrev Rowed : Type 0
Rowed = Key × Value

-- the row at a place is of an item with this stamp
abbrev pub HasStampAt : List Rowed → ℕ → ℕ → Type 0
HasStampAt rows k stamp = (k < length rows) × (u : Bytes) × (i : ItemRow) × (get_or rows k (key.Item u, value.Item i) ≡ (key.Item u, value.Item i)) × (i.updated ≡ stamp)

-- so many rows were looked at, and their stamps differ; these are left
pub record InStamps (map : RowMap) (Has : ℕ → Type 0) (found : Option Rowed) : Type 0 where
  pub count : ℕ
  pub left : drop count (rows_of map kind.Item) ≡ left_of map found
  pub kept : AreMet (HasStampAt (rows_of map kind.Item)) 0 Has count

pub stamps_first : (map : RowMap) (Has : ℕ → Type 0) (found : Option Rowed) → GoesOn map (rows_of map kind.Item) found → ((v : ℕ) → ¬ (Has v)) → InStamps map Has found
stamps_first map Has found goes none = record {
  count = 0;
  left = goes_on map (rows_of map kind.Item) found goes;
  kept = none_met (HasStampAt (rows_of map kind.Item)) 0 Has none;
}

-- the one stamp of a place
one_stamp : (rows : List Rowed) (k : ℕ) (row : Rowed) (u : Bytes) (i : ItemRow) → k < length rows → row ≡ get_or rows k row → row ≡ (key.Item u, value.Item i)
    → (stamp : ℕ) → HasStampAt rows k stamp → stamp ≡ i.updated
one_stamp rows k row u i within at is stamp (inside, w, j, there, of) =
    let first : get_or rows k (key.Item w, value.Item j) ≡ (key.Item u, value.Item i) =
    at_read rows (λ (r : Rowed). r ≡ (key.Item u, value.Item i)) k row within at is (key.Item w, value.Item j) in
    let both : (key.Item w, value.Item j) ≡ (key.Item u, value.Item i) = sym there ∙ first in
    let held : value.Item j ≡ value.Item i = ap (λ (r : Rowed). r.1) both in
    let same : j ≡ i = cc in
    sym of ∙ ap (λ (x : ItemRow). x.updated) same

has_stamp : (rows : List Rowed) (k : ℕ) (row : Rowed) (u : Bytes) (i : ItemRow) → k < length rows → row ≡ get_or rows k row → row ≡ (key.Item u, value.Item i)
    → HasStampAt rows k i.updated
has_stamp rows k row u i within at is =
    (within, u, i, at_read rows (λ (r : Rowed). r ≡ (key.Item u, value.Item i)) k row within at is (key.Item u, value.Item i), refl)

-- an item whose stamp is new
stamps_more : (map : RowMap) (Has Now : ℕ → Type 0) (k : Key) (v : Value) (u : Bytes) (i : ItemRow) (found next : Option Rowed) → InStamps map Has found
    → found ≡ Some (k, v) → k ≡ key.Item u → v ≡ value.Item i → ¬ (Has i.updated) → ((s : ℕ) → Now s ↔ (Has s ⊎ (s ≡ i.updated)))
    → GoesOn map (rows_behind map k) next → InStamps map Now next
stamps_more map Has Now k v u i found next s is named held new added goes =
    let rows : List Rowed = rows_of map kind.Item in
    let at = next_row rows s.count (k, v) (left_of map next) (s.left ∙ left_is map k v found next is goes) in
    let row : (k, v) ≡ (key.Item u, value.Item i) = cc in
    record {
      count = s.count + 1;
      left = at.behind;
      kept = met_more (HasStampAt rows) 0 Has Now s.count i.updated (omega arith) (has_stamp rows s.count (k, v) u i at.within at.is row)
          (one_stamp rows s.count (k, v) u i at.within at.is row) s.kept new added;
    }

-- a row that is no item
stamps_skip : (map : RowMap) (Has : ℕ → Type 0) (k : Key) (v : Value) (found next : Option Rowed) → InStamps map Has found → found ≡ Some (k, v)
    → ((u : Bytes) (i : ItemRow) → k ≡ key.Item u → v ≡ value.Item i → ⊥) → GoesOn map (rows_behind map k) next → InStamps map Has next
stamps_skip map Has k v found next s is other goes =
    let rows : List Rowed = rows_of map kind.Item in
    let at = next_row rows s.count (k, v) (left_of map next) (s.left ∙ left_is map k v found next is goes) in
    record {
      count = s.count + 1;
      left = at.behind;
      kept = met_skip (HasStampAt rows) 0 Has s.count
          (λ stamp (has : HasStampAt rows s.count stamp). (
          let there : (k, v) ≡ (key.Item has.1, value.Item has.2) =
          sym (at_read rows (λ (r : Rowed). r ≡ (k, v)) s.count (k, v) at.within at.is refl (key.Item has.1, value.Item has.2)) ∙ has.3 in
          other has.1 has.2 (ap (λ (r : Rowed). r.0) there) (ap (λ (r : Rowed). r.1) there)
          )) s.kept;
    }

-- a stamp that comes again
stamps_again : (map : RowMap) (all : Rows) (Has : ℕ → Type 0) (k : Key) (v : Value) (u : Bytes) (i : ItemRow) (found : Option Rowed) → InStamps map Has found
    → AreRowsOf map kind.Item (rows_of map kind.Item) → ((a : Key) → all a ≡ row_in map a) → found ≡ Some (k, v) → k ≡ key.Item u → v ≡ value.Item i
    → Has i.updated → ¬ (StampsDiffer all)
stamps_again map all Has k v u i found s are same is named held has differ =
    let rows : List Rowed = rows_of map kind.Item in
    let at = next_row rows s.count (k, v) (rows_behind map k) (s.left ∙ ap (left_of map) is) in
    let row : (k, v) ≡ (key.Item u, value.Item i) = cc in
    let earlier = (s.kept.met i.updated).0 has in
    let m : ℕ = earlier.0 in
    let w : Bytes = earlier.3.1 in
    let j : ItemRow = earlier.3.2 in
    let d : Rowed = (key.Item u, value.Item i) in
    let first : get_or rows m d ≡ (key.Item w, value.Item j) =
    at_read rows (λ (r : Rowed). r ≡ (key.Item w, value.Item j)) m (key.Item w, value.Item j) earlier.3.0 (sym earlier.3.3) refl d in
    let second : get_or rows s.count d ≡ (key.Item u, value.Item i) =
    at_read rows (λ (r : Rowed). r ≡ (key.Item u, value.Item i)) s.count (k, v) at.within at.is row d in
    let first_there : HasItem all w j = same (key.Item w) ∙ ((are.whole (key.Item w) (value.Item j)).0 (m, earlier.3.0, earlier.3.3)).1 in
    let second_there : HasItem all u i = same (key.Item u) ∙ ((are.whole (key.Item u) (value.Item i)).0
    (s.count, at.within, at_read rows (λ (r : Rowed). r ≡ (key.Item u, value.Item i)) s.count (k, v) at.within at.is row d)).1 in
    let one : w ≡ u = differ w u j i first_there second_there earlier.3.4 in
    let ordered : key_order (get_or rows m d).0 (get_or rows s.count d).0 ≡ Less = keys_in_order map rows d m s.count are earlier.2 at.within in
    let low : key_order (key.Item w) (get_or rows s.count d).0 ≡ Less =
    subst (λ (r : Rowed). key_order r.0 (get_or rows s.count d).0 ≡ Less) first ordered in
    let both : key_order (key.Item w) (key.Item u) ≡ Less = subst (λ (r : Rowed). key_order (key.Item w) r.0 ≡ Less) second low in
    not_before_itself u (subst (λ (x : Bytes). key_order (key.Item x) (key.Item u) ≡ Less) one both)

-- ---- one row more

met_or_not : {V : Type 0} (found : Option V) → ¬ (¬ (IsSome found)) → IsSome found
met_or_not (Some v) not = refl
met_or_not None not = absurd (not (λ some. cc))

item_key : (k : Key) → key_kind k ≡ kind.Item → (u : Bytes) × (k ≡ key.Item u)
item_key (key.Item u) is = (u, refl)
item_key key.Store is = cc
item_key (key.Account n) is = cc
item_key (key.Generation n g) is = cc
item_key key.Owner is = cc
item_key (key.Set s) is = cc
item_key (key.Local n) is = cc

item_or_not : (v : Value) → ((i : ItemRow) × (v ≡ value.Item i)) ⊎ ((i : ItemRow) → v ≡ value.Item i → ⊥)
item_or_not (value.Item i) = inl (i, refl)
item_or_not v = inr (λ i is. cc)

place_there : (map : RowMap) (Has : ℕ → Type 0) (k : Key) (v : Value) (found : Option Rowed) → InStamps map Has found
    → AreRowsOf map kind.Item (rows_of map kind.Item) → found ≡ Some (k, v) → key_kind k ≡ kind.Item
place_there map Has k v found s are is =
    let at = next_row (rows_of map kind.Item) s.count (k, v) (rows_behind map k) (s.left ∙ ap (left_of map) is) in
    ((are.whole k v).0 (s.count, at.within, sym at.is)).0

pub stamps_step : (map : RowMap) (old new : BTreeMap ℕ (Unit {0})) (k : Key) (v : Value) (first : Bool) (found next : Option Rowed) → InStamps map (HasStamp old) found
    → AreRowsOf map kind.Item (rows_of map kind.Item) → found ≡ Some (k, v) → MeetsStamp old new v first → first ≡ true → GoesOn map (rows_behind map k) next
    → InStamps map (HasStamp new) next
stamps_step map old new k v first found next s are is meets holds goes =
    let named = item_key k (place_there map (HasStamp old) k v found s are is) in
    ⊎_elim
    (λ (held : (i : ItemRow) × (v ≡ value.Item i)). (
    let told = meets.item held.0 held.1 in
    stamps_more map (HasStamp old) (HasStamp new) k v named.0 held.0 found next s is named.1 held.1 (told.0.0 holds) told.1 goes))
    (λ (other : (i : ItemRow) → v ≡ value.Item i → ⊥). (
    let kept = meets.other other in
    subst (λ (m : BTreeMap ℕ (Unit {0})). InStamps map (HasStamp m) next) (sym kept.1)
    (stamps_skip map (HasStamp old) k v found next s is (λ u i _ held. other i held) goes)))
    (item_or_not v)

pub stamps_stop : (map : RowMap) (all : Rows) (old new : BTreeMap ℕ (Unit {0})) (k : Key) (v : Value) (first : Bool) (found : Option Rowed) → InStamps map (HasStamp old) found
    → AreRowsOf map kind.Item (rows_of map kind.Item) → ((a : Key) → all a ≡ row_in map a) → found ≡ Some (k, v) → MeetsStamp old new v first → first ≡ false
    → ¬ (StampsDiffer all)
stamps_stop map all old new k v first found s are same is meets missed =
    let named = item_key k (place_there map (HasStamp old) k v found s are is) in
    ⊎_elim
    (λ (held : (i : ItemRow) × (v ≡ value.Item i)). (
    let told = meets.item held.0 held.1 in
    let has : HasStamp old held.0.updated = met_or_not (get nat_cmp old held.0.updated) (λ not. (let holds : first ≡ true = told.0.1 not in cc)) in
    stamps_again map all (HasStamp old) k v named.0 held.0 found s are same is named.1 held.1 has))
    (λ (other : (i : ItemRow) → v ≡ value.Item i → ⊥). absurd (let holds : first ≡ true = (meets.other other).0 in cc))
    (item_or_not v)

pub stamps_end : (map : RowMap) (all : Rows) (Has : ℕ → Type 0) (found : Option Rowed) → InStamps map Has found
    → AreRowsOf map kind.Item (rows_of map kind.Item) → ((a : Key) → all a ≡ row_in map a) → found ≡ None → StampsDiffer all
stamps_end map all Has found s are same end u w i j has other equal =
    let rows : List Rowed = rows_of map kind.Item in
    let none : length rows - s.count ≡ 0 = sym (length-drop s.count rows) ∙ ap length (s.left ∙ ap (left_of map) end) in
    let a : Contains rows (key.Item u, value.Item i) = (are.whole (key.Item u) (value.Item i)).1 (refl, sym (same (key.Item u)) ∙ has) in
    let b : Contains rows (key.Item w, value.Item j) = (are.whole (key.Item w) (value.Item j)).1 (refl, sym (same (key.Item w)) ∙ other) in
    let place : a.0 ≡ b.0 = s.kept.apart a.0 b.0 i.updated (omega arith) (omega (arith, none, a.1)) (omega arith) (omega (arith, none, b.1))
    (a.1, u, i, a.2, refl) (b.1, w, j, b.2, sym equal) in
    let first : get_or rows b.0 (key.Item u, value.Item i) ≡ (key.Item u, value.Item i) =
    subst (λ (k : ℕ). get_or rows k (key.Item u, value.Item i) ≡ (key.Item u, value.Item i)) place a.2 in
    let second : get_or rows b.0 (key.Item u, value.Item i) ≡ (key.Item w, value.Item j) =
    at_read rows (λ (r : Rowed). r ≡ (key.Item w, value.Item j)) b.0 (key.Item w, value.Item j) b.1 (sym b.2) refl (key.Item u, value.Item i) in
    let rowed : (key.Item u, value.Item i) ≡ (key.Item w, value.Item j) = sym first ∙ second in
    let keyed : key.Item u ≡ key.Item w = ap (λ (r : Rowed). r.0) rowed in
    cc

pub no_stamps : (map : BTreeMap ℕ (Unit {0})) → map.entries ≡ [] → (stamp : ℕ) → ¬ (HasStamp map stamp)
no_stamps map empty stamp =
    subst (λ (es : List (ℕ × Unit {0})). ¬ (IsSome (lookup (is_at (nat_cmp stamp)) es))) (sym empty) (λ some. cc)

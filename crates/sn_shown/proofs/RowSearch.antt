-- A device's row of an item, or that it has none.
use Rattle.std.proofs.Common.{◌≡◌, ◌⊎◌, ℕ, List, [], ◌∷◌, Option, Some, None, Bool, true, false, refl, sym, ap, ◌∙◌, inl, inr, ⊎_elim}
use Rattle.std.specs.Prelude.{cond}
use Rattle.std.specs.BTreeMap.{get, is_at}
use Rattle.std.specs.Map.{lookup}
use Rattle.std.specs.Option.{option_and_then}
use Rattle.std.specs.Str.{bytes_eq}
use Rattle.sn_laws.proofs.Facts.{clash, same_number, same_text, text_same}
use Rattle.sn_laws.specs.Each.{One}
use Rattle.sn_laws.specs.Lookups.{Bytes}
use Rattle.sn_row_map.specs.Keys.{key_cmp}
use Rattle.sn_row_map.specs.RowMaps.{row_in}
use Rattle.sn_row_map.specs.declared.row_map.RowMap.{RowMap}
use Rattle.sn_rows.specs.Table.{Rows}
use Rattle.sn_rows.specs.declared.device_rows.LocalItem.{LocalItem}
use Rattle.sn_rows.specs.declared.key.Key.{Key}
use Rattle.sn_rows.specs.declared.key.Key.TheVariants as key
use Rattle.sn_rows.specs.declared.value.Value.{Value}
use Rattle.sn_rows.specs.declared.value.Value.TheVariants as value
use Rattle.sn_shows.specs.Devices.{HasRow}
use Rattle.sn_shown.specs.Rows.{local_in, rows_in}
use Rattle.sn_shown.proofs.Finds.{never}
use Rattle.sn_shown.proofs.LinesGathered.{local_or_not}
use Rattle.sn_shown.proofs.LineOrder.{same_key as number_tie}

abbrev pub Entries : Type 0
Entries = List (Key × Option Value)

-- ---- among entries

module _ (rows : Rows) (uuid : Bytes) where
  -- no row of the item stands at this key
  abbrev NoRowAt : Key → Type 0
  NoRowAt k = (n : ℕ) (item : LocalItem) → k ≡ key.Local n → rows (key.Local n) ≡ Some (value.Local item) → item.uuid ≡ uuid → ⊥

  abbrev NoRowIn : Entries → Type 0
  NoRowIn es = (n : ℕ) (item : LocalItem) → One (λ e. e.0 ≡ key.Local n) es → rows (key.Local n) ≡ Some (value.Local item) → item.uuid ≡ uuid → ⊥

  -- a row under a number is the one that stands there
  stands_there : (m n : ℕ) (found : Option Value) → rows (key.Local m) ≡ found → key.Local m ≡ key.Local n → (item : LocalItem)
      → rows (key.Local n) ≡ Some (value.Local item) → found ≡ Some (value.Local item)
  stands_there m n found e same item stands = sym e ∙ ap rows same ∙ stands

  at_local : (m : ℕ) → HasRow rows uuid ⊎ NoRowAt (key.Local m)
  at_local m = by (rows (key.Local m)) refl
    where
      of_item : (v : Value) (own : LocalItem) → rows (key.Local m) ≡ Some v → v ≡ value.Local own → (b : Bool) → bytes_eq own.uuid uuid ≡ b
          → HasRow rows uuid ⊎ NoRowAt (key.Local m)
      of_item v own e is true h = inl (record { number = m; item = own; stands = e ∙ ap (λ (x : Value). Some x) is; item_is = same_text own.uuid uuid h })
      of_item v own e is false h =
          inr (λ n item same stands item_is.
          let there : Some v ≡ Some (value.Local item) = stands_there m n (Some v) e same item stands in
          let found : Some (value.Local own) ≡ Some (value.Local item) = ap (λ (x : Value). Some x) (sym is) ∙ there in
          let alike : own ≡ item = cc in
          clash (bytes_eq own.uuid uuid) (text_same own.uuid uuid (ap (λ (i : LocalItem). i.uuid) alike ∙ item_is)) h)

      by : (found : Option Value) → rows (key.Local m) ≡ found → HasRow rows uuid ⊎ NoRowAt (key.Local m)
      by None e = inr (λ n item same stands item_is. let there : None ≡ Some (value.Local item) = stands_there m n None e same item stands in absurd (cc))
      by (Some v) e =
          local_or_not (HasRow rows uuid ⊎ NoRowAt (key.Local m)) v
          (λ own is. of_item v own e is (bytes_eq own.uuid uuid) refl)
          (λ none. inr (λ n item same stands item_is. never (local_in (Some v)) item (ap local_in (stands_there m n (Some v) e same item stands)) none))

  at_key : (k : Key) → HasRow rows uuid ⊎ NoRowAt k
  at_key (key.Local m) = at_local m
  at_key k = inr (λ n item same stands item_is. absurd (cc))

  searched : (es : Entries) → HasRow rows uuid ⊎ NoRowIn es
  searched [] = inr (λ n item one stands item_is. one)
  searched (e ∷ es) = by (at_key e.0) (searched es)
    where
      by : HasRow rows uuid ⊎ NoRowAt e.0 → HasRow rows uuid ⊎ NoRowIn es → HasRow rows uuid ⊎ NoRowIn (e ∷ es)
      by (inl has) later = inl has
      by (inr none) (inl has) = inl has
      by (inr none) (inr later) =
          inr (λ n item one stands item_is.
          ⊎_elim
          (λ (here : e.0 ≡ key.Local n). none n item here stands item_is)
          (λ (there : One (λ (x : Key × Option Value). x.0 ≡ key.Local n) es). later n item there stands item_is)
          one)

-- ---- in a map

key_tie : (n : ℕ) (k : Key) → is_at (key_cmp (key.Local n)) k ≡ true → k ≡ key.Local n
key_tie n (key.Local m) h = ap key.Local (sym (same_number n m (sym (number_tie n m) ∙ h)))
key_tie n k h = absurd (cc)

looked_up : (n : ℕ) (es : Entries) (found : Option Value) → lookup (is_at (key_cmp (key.Local n))) es ≡ Some found → One (λ e. e.0 ≡ key.Local n) es
looked_up n [] found h = absurd (cc)
looked_up n (e ∷ es) found h = by (is_at (key_cmp (key.Local n)) e.0) refl h (λ k. looked_up n es found k)
  where
    by : (b : Bool) → is_at (key_cmp (key.Local n)) e.0 ≡ b → cond b (Some e.1) (lookup (is_at (key_cmp (key.Local n))) es) ≡ Some found
        → (lookup (is_at (key_cmp (key.Local n))) es ≡ Some found → One (λ (x : Key × Option Value). x.0 ≡ key.Local n) es)
        → (e.0 ≡ key.Local n) ⊎ One (λ (x : Key × Option Value). x.0 ≡ key.Local n) es
    by true is k later = inl (key_tie n e.0 is)
    by false is k later = inr (later k)

-- a row that is found has an entry
row_entry : (map : RowMap) (n : ℕ) (v : Value) → row_in map (key.Local n) ≡ Some v → One (λ e. e.0 ≡ key.Local n) map.entries.entries
unfolding row_in
row_entry map n v h = by (get key_cmp map.entries (key.Local n)) refl h
  where
    by : (found : Option (Option Value)) → get key_cmp map.entries (key.Local n) ≡ found → option_and_then (λ (x : Option Value). x) found ≡ Some v
        → One (λ (e : Key × Option Value). e.0 ≡ key.Local n) map.entries.entries
    by None e k = absurd (cc)
    by (Some x) e k = looked_up n map.entries.entries x e

pub row_or_none : (found : Option RowMap) (uuid : Bytes)
    → HasRow (rows_in found) uuid
    ⊎ ((n : ℕ) (item : LocalItem) → rows_in found (key.Local n) ≡ Some (value.Local item) → item.uuid ≡ uuid → ⊥)
row_or_none None uuid = inr (λ n item stands is. absurd (cc))
row_or_none (Some map) uuid =
    ⊎_elim
    (λ (has : HasRow (row_in map) uuid). inl has)
    (λ (none : NoRowIn (row_in map) uuid map.entries.entries).
    inr (λ n item stands is. none n item (row_entry map n (value.Local item) stands) stands is))
    (searched (row_in map) uuid map.entries.entries)

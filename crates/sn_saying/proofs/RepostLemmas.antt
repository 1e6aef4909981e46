-- What is sent again, by one row of a device after another.
use Rattle.std.proofs.Common.{◌≡◌, ◌∙◌, ℕ, Bool, true, false, List, [], ◌∷◌, ◌++◌, map, Option, Some, None, refl, sym, ap, subst, inl, inr, ⊎_elim, eq-eqb, arith}
use Rattle.std.specs.Prelude.{◌==◌, if◌then◌else◌, is_some}
use Rattle.std.specs.List.{AllByRecursion, Contains, flat_map}
use Rattle.std.specs.List.Sorted.{IsStrictlySortedBy}
use Rattle.std.specs.Map.{keys_of}
use Rattle.std.specs.Option.{option_to_list}
use Rattle.std.specs.Ordering.{nat_cmp}
use Rattle.std.specs.declared.cmp.Ordering.TheVariants.{Less}
use Rattle.std.proofs.lemmas.Bool.{cases_Bool, eqb-true}
use Rattle.std.proofs.lemmas.List.{append-nil, append_assoc}
use Rattle.std.proofs.lemmas.List.Elements.{Contains-append_cases, Contains-append_left, Contains-append_right, Contains-push, Contains-push_cases}
use Rattle.std.proofs.lemmas.Map.Keys.{IsStrictlyIncreasing-from_sorted}
use Rattle.sn_device.specs.Listing.{AreItems}
use Rattle.sn_device.specs.Sending.{Numbered}
use Rattle.sn_laws.proofs.Facts.{one_there}
use Rattle.sn_laws.specs.Lookups.{Bytes, last_of}
use Rattle.sn_laws.specs.Relation.{IsBased}
use Rattle.sn_laws.specs.declared.ideal.Account.{Account}
use Rattle.sn_laws.specs.declared.ideal.Version.{Version}
use Rattle.sn_row_map.specs.Ranges.{AreRowsOf, rows_behind, rows_of}
use Rattle.sn_row_map.specs.RowMaps.{row_in}
use Rattle.sn_row_map.specs.Steps.{GoesOn}
use Rattle.sn_row_map.specs.declared.row_map.RowMap.{RowMap}
use Rattle.sn_rows.specs.Order.{key_order}
use Rattle.sn_rows.specs.Table.{Rows}
use Rattle.sn_rows.specs.declared.device_rows.LocalItem.{LocalItem}
use Rattle.sn_rows.specs.declared.key.Key.{Key}
use Rattle.sn_rows.specs.declared.key.Key.TheVariants as key
use Rattle.sn_rows.specs.declared.kind.RowKind.TheVariants as kind
use Rattle.sn_rows.specs.declared.server_rows.ItemRow.{ItemRow}
use Rattle.sn_rows.specs.declared.value.Value.{Value}
use Rattle.sn_rows.specs.declared.value.Value.TheVariants as value
use Rattle.sn_shows.specs.Servers.{IsShown, ShowsAccounts, ShowsItem, account_at}
use Rattle.sn_world.specs.Committing.{AreRepostedUuids, IsReposted}
use Rattle.sn_saying.specs.Adopted.{AreRepostedIn, IsUuidOf, StandsOn, numbered, stamp_for}
use Rattle.sn_saying.proofs.WalkLemmas.{Rowed, first_or_later}

-- ---- the items of rows

abbrev pub items_in : List Rowed → List Numbered
items_in rows = flat_map (λ (r : Rowed). numbered r.0 r.1) rows

abbrev row_of : Numbered → Rowed
row_of w = (key.Local w.0, value.Local w.1)

none_of : (w : Numbered) → Contains [] w → ⊥
none_of w has = let wrong = has.1 in omega arith

one_of : (k : Key) (v : Value) (w : Numbered) → Contains (numbered k v) w → ◌≡◌ {A = Rowed} (k, v) (row_of w)
one_of (key.Local number) (value.Local local) w has =
    ⊎_elim
    (λ (none : Contains [] w). absurd (none_of w none))
    (λ (same : (number, local) ≡ w). ap row_of same)
    (Contains-push_cases [] (number, local) w has)
one_of k v w has = absurd (none_of w has)

of_item : (rows : List Rowed) (w : Numbered) → Contains (items_in rows) w → Contains rows (row_of w)
of_item [] w has = absurd (none_of w has)
of_item ((k, v) ∷ rows) w has =
    let row : Rowed = row_of w in
    ⊎_elim
    (λ (here : Contains (numbered k v) w). subst (λ (r : Rowed). Contains (r ∷ rows) row) (sym (one_of k v w here))
    (Contains-append_left (row ∷ []) rows row (Contains-push [] row)))
    (λ (later : Contains (items_in rows) w). Contains-append_right ((k, v) ∷ []) rows row (of_item rows w later))
    (Contains-append_cases (numbered k v) (items_in rows) w has)

has_item : (rows : List Rowed) (w : Numbered) → Contains rows (row_of w) → Contains (items_in rows) w
has_item [] w has = let wrong = has.1 in absurd (omega arith)
has_item ((k, v) ∷ rows) w has =
    ⊎_elim
    (λ (same : ◌≡◌ {A = Rowed} (k, v) (row_of w)). subst (λ (r : Rowed). Contains (numbered r.0 r.1 ++ items_in rows) w) (sym same)
    (Contains-append_left (w ∷ []) (items_in rows) w (Contains-push [] w)))
    (λ (later : Contains rows (row_of w)). Contains-append_right (numbered k v) (items_in rows) w (has_item rows w later))
    (first_or_later (k, v) (row_of w) rows has)

-- keys of items are in the order of their numbers

above_one : (n : ℕ) (k : Key) (v : Value) (items : List Numbered) → key_order (key.Local n) k ≡ Less
    → AllByRecursion (λ m. nat_cmp n m ≡ Less) (map (λ (w : Numbered). w.0) items)
    → AllByRecursion (λ m. nat_cmp n m ≡ Less) (map (λ (w : Numbered). w.0) (numbered k v ++ items))
above_one n (key.Local number) (value.Local local) items less rest = (less, rest)
above_one n k v items less rest = rest

above : (n : ℕ) (rows : List Rowed) → AllByRecursion (λ k. key_order (key.Local n) k ≡ Less) (keys_of rows)
    → AllByRecursion (λ m. nat_cmp n m ≡ Less) (map (λ (w : Numbered). w.0) (items_in rows))
above n [] sorted = tt
above n ((k, v) ∷ rows) sorted = above_one n k v (items_in rows) sorted.0 (above n rows sorted.1)

by_one : (k : Key) (v : Value) (rows : List Rowed) → AllByRecursion (λ j. key_order k j ≡ Less) (keys_of rows)
    → IsStrictlySortedBy nat_cmp (map (λ (w : Numbered). w.0) (items_in rows))
    → IsStrictlySortedBy nat_cmp (map (λ (w : Numbered). w.0) (numbered k v ++ items_in rows))
unfolding IsStrictlySortedBy
by_one (key.Local number) (value.Local local) rows first rest = (above number rows first, rest)
by_one k v rows first rest = rest

by_number : (rows : List Rowed) → IsStrictlySortedBy key_order (keys_of rows) → IsStrictlySortedBy nat_cmp (map (λ (w : Numbered). w.0) (items_in rows))
unfolding IsStrictlySortedBy
by_number [] sorted = tt
by_number ((k, v) ∷ rows) sorted = by_one k v rows sorted.0 (by_number rows sorted.1)

are_items : (map : RowMap) (rows : List Rowed) → AreRowsOf map kind.Local rows → AreItems (row_in map) (items_in rows)
are_items map rows are = record {
  rising = IsStrictlyIncreasing-from_sorted _ (by_number rows are.sorted);
  whole = λ number local. (
    λ has. ((are.whole (key.Local number) (value.Local local)).0 (of_item rows (number, local) has)).1,
    λ stands. has_item rows (number, local) ((are.whole (key.Local number) (value.Local local)).1 (refl, stands)),
  );
}

-- ---- a walk over them

-- the uuids so far are those of the rows that were passed; the others are left
pub record RepostedSoFar (map : RowMap) (a : Account) (uuids : List Bytes) (found : Option Rowed) : Type 0 where
  pub passed : List Rowed
  pub left : List Rowed
  pub are : rows_of map kind.Local ≡ passed ++ left
  pub goes : GoesOn map left found
  pub reposted : AreRepostedUuids a (items_in passed) uuids

pub none_reposted : (map : RowMap) (a : Account) (uuids : List Bytes) (found : Option Rowed) → uuids ≡ [] → GoesOn map (rows_of map kind.Local) found
    → RepostedSoFar map a uuids found
none_reposted map a uuids found none goes = record {
  passed = [];
  left = rows_of map kind.Local;
  are = refl;
  goes = goes;
  reposted = none;
}

both_reposted : (a : Account) (xs ys : List Numbered) (us vs : List Bytes) → AreRepostedUuids a xs us → AreRepostedUuids a ys vs
    → AreRepostedUuids a (xs ++ ys) (us ++ vs)
both_reposted a [] ys us vs h k = subst (λ (ws : List Bytes). AreRepostedUuids a ys (ws ++ vs)) (sym h) k
both_reposted a (x ∷ xs) ys us vs (inl (is, (later, us_are, rest))) k =
    inl (is, (later ++ vs, ap (λ (ws : List Bytes). ws ++ vs) us_are, both_reposted a xs ys later vs rest k))
both_reposted a (x ∷ xs) ys us vs (inr (not, rest)) k = inr (not, both_reposted a xs ys us vs rest k)

items_more : (rows : List Rowed) (k : Key) (v : Value) → items_in (rows ++ (k, v) ∷ []) ≡ items_in rows ++ numbered k v
items_more [] k v = append-nil (numbered k v)
items_more ((j, u) ∷ rows) k v =
    ap (λ (items : List Numbered). numbered j u ++ items) (items_more rows k v) ∙ sym (append_assoc (numbered j u) (items_in rows) (numbered k v))

pub one_reposted : (map : RowMap) (a : Account) (old new more : List Bytes) (found next : Option Rowed) (k : Key) (v : Value)
    → RepostedSoFar map a old found → found ≡ Some (k, v) → AreRepostedUuids a (numbered k v) more → new ≡ old ++ more
    → GoesOn map (rows_behind map k) next → RepostedSoFar map a new next
one_reposted map a old new more found next k v so_far here says new_is goes =
    let left : so_far.left ≡ (k, v) ∷ rows_behind map k = subst (GoesOn map so_far.left) here so_far.goes in
    record {
      passed = so_far.passed ++ (k, v) ∷ [];
      left = rows_behind map k;
      are = so_far.are ∙ ap (λ (rs : List Rowed). so_far.passed ++ rs) left ∙ sym (append_assoc so_far.passed ((k, v) ∷ []) (rows_behind map k));
      goes = goes;
      reposted = subst (λ (items : List Numbered). AreRepostedUuids a items new) (sym (items_more so_far.passed k v))
          (subst (AreRepostedUuids a (items_in so_far.passed ++ numbered k v)) (sym new_is)
          (both_reposted a (items_in so_far.passed) (numbered k v) old more so_far.reposted says));
    }

pub all_reposted : (map : RowMap) (a : Account) (uuids : List Bytes) (found : Option Rowed) → RepostedSoFar map a uuids found → found ≡ None
    → AreRowsOf map kind.Local (rows_of map kind.Local) → AreRepostedIn (row_in map) a uuids
all_reposted map a uuids found so_far end all =
    let none : so_far.left ≡ [] = subst (GoesOn map so_far.left) end so_far.goes in
    let whole : rows_of map kind.Local ≡ so_far.passed =
    so_far.are ∙ ap (λ (rs : List Rowed). so_far.passed ++ rs) none ∙ append-nil so_far.passed in
    (items_in so_far.passed, are_items map so_far.passed (subst (AreRowsOf map kind.Local) whole all), so_far.reposted)

-- ---- one item

abbrev stamp_of : Option Version → Option ℕ
stamp_of None = None
stamp_of (Some v) = Some v.stamp

based_from : (base : Option ℕ) (last : Option Version) → base ≡ stamp_of last → IsBased base last
based_from None None e = refl
based_from None (Some v) e = absurd (cc)
based_from (Some stamp) None e = absurd (cc)
based_from (Some stamp) (Some v) e = let same : v.stamp ≡ stamp = cc in (v, refl, same)

based_to : (base : Option ℕ) (last : Option Version) → IsBased base last → base ≡ stamp_of last
based_to None last h = sym (ap stamp_of h)
based_to (Some stamp) last (v, is, same) = ap Some (sym same) ∙ sym (ap stamp_of is)

own_stamp : (number : ℕ) (row : ItemRow) (found : Option Value) → found ≡ Some (value.Item row) → row.account ≡ number → stamp_for number found ≡ Some row.updated
own_stamp number row found is own =
    ap (stamp_for number) is ∙ ap (λ (b : Bool). if b then Some row.updated else None) (eq-eqb row.account number own)

same_item : (x y : ItemRow) (found : Option Value) → found ≡ Some (value.Item x) → found ≡ Some (value.Item y) → x ≡ y
same_item x y found e k = cc

module _ (server : Rows) (accounts : List Account) (a : Account) (number : ℕ) (shows : ShowsAccounts server accounts)
    (at : account_at number accounts ≡ Some a) where
  -- the row of an item is of the account that has versions of it
  owned : (uuid : Bytes) (row : ItemRow) → server (key.Item uuid) ≡ Some (value.Item row) → row.account ≡ number
      → (v : Version) × (last_of uuid a.versions ≡ Some v)
  owned uuid row stands own =
      let there : IsShown accounts uuid = shows.no_other (key.Item uuid) (ap is_some stands) in
      let its : ShowsItem server there.number there.account uuid there.version = (shows.each there.number there.account there.at).items uuid there.version there.last in
      let same : its.row ≡ row = same_item its.row row (server (key.Item uuid)) its.stands stands in
      let number_is : there.number ≡ number = sym its.account ∙ ap (λ (r : ItemRow). r.account) same ∙ own in
      let account_is : there.account ≡ a =
      one_there there.account a (account_at number accounts) (subst (λ (n : ℕ). account_at n accounts ≡ Some there.account) number_is there.at) at in
      (there.version, subst (λ (b : Account). last_of uuid b.versions ≡ Some there.version) account_is there.last)

  none_there : (uuid : Bytes) (found : Option Value) → server (key.Item uuid) ≡ found → last_of uuid a.versions ≡ None → stamp_for number found ≡ None
  none_there uuid (Some (value.Item row)) e none =
      ⊎_elim
      (λ (same : (row.account == number) ≡ true).
      absurd (let has = owned uuid row e (eqb-true row.account number same) in let wrong : None ≡ Some has.0 = sym none ∙ has.1 in cc))
      (λ (other : (row.account == number) ≡ false). ap (λ (b : Bool). if b then Some row.updated else None) other)
      (cases_Bool (row.account == number))
  none_there uuid found e none = refl

  -- so its stamp is that of the item's last version in the account
  shown_last : (uuid : Bytes) → stamp_for number (server (key.Item uuid)) ≡ stamp_of (last_of uuid a.versions)
  shown_last uuid = by (last_of uuid a.versions) refl
    where
      by : (last : Option Version) → last_of uuid a.versions ≡ last → stamp_for number (server (key.Item uuid)) ≡ stamp_of last
      by None e = none_there uuid (server (key.Item uuid)) refl e
      by (Some v) e =
          let its : ShowsItem server number a uuid v = (shows.each number a at).items uuid v e in
          own_stamp number its.row (server (key.Item uuid)) its.stands its.account ∙ ap Some its.updated

  to_reposted : (local : LocalItem) → StandsOn server number local → IsReposted a local
  to_reposted local (sent, base) = (sent, based_from local.base (last_of local.uuid a.versions) (base ∙ shown_last local.uuid))

  from_reposted : (local : LocalItem) → IsReposted a local → StandsOn server number local
  from_reposted local (sent, based) = (sent, based_to local.base (last_of local.uuid a.versions) based ∙ sym (shown_last local.uuid))

  one_said : (n : ℕ) (local : LocalItem) (found : Option Bytes) → IsUuidOf server number local found
      → AreRepostedUuids a ((n, local) ∷ []) (option_to_list found)
  one_said n local None not = inr (λ is. not (from_reposted local is), refl)
  one_said n local (Some uuid) (stands, same) = inl (to_reposted local stands, ([], ap (λ (u : Bytes). u ∷ []) same, refl))

  pub item_said : (k : Key) (v : Value) (n : ℕ) (local : LocalItem) (found : Option Bytes) → k ≡ key.Local n → v ≡ value.Local local
      → IsUuidOf server number local found → AreRepostedUuids a (numbered k v) (option_to_list found)
  item_said k v n local found k_is v_is is =
      subst (λ (j : Key). AreRepostedUuids a (numbered j v) (option_to_list found)) (sym k_is)
      (subst (λ (u : Value). AreRepostedUuids a (numbered (key.Local n) u) (option_to_list found)) (sym v_is) (one_said n local found is))

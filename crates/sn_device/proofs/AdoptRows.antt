-- The rows of a device after the adoption of a key set.
use Rattle.std.proofs.Common.{◌≡◌, ◌≢◌, ◌⊎◌, ℕ, true, false, List, [], ◌∷◌, All, Option, Some, None, refl, sym, ap, ◌∙◌, subst, inl, inr, ⊎_elim, arith}
use Rattle.std.proofs.lemmas.Bool.{cases_Bool}
use Rattle.std.proofs.lemmas.List.Elements.{All-append, All-cons, All-nil, Contains-append_cases, Contains-append_left, Contains-append_right, Contains-push, Contains-push_cases}
use Rattle.std.specs.List.{Contains}
use Rattle.rand_chacha.specs.ChaCha.{ChaCha}
use Rattle.sn_journal.specs.declared.owner.Owner.TheVariants.{Device}
use Rattle.sn_rekey.specs.Rekeying.{HasNoneOpen, Rekeys}
use Rattle.sn_rows.specs.Facts.{keys_compare, put_apart, put_elsewhere, put_here, put_or_not, removed_elsewhere, removed_here}
use Rattle.sn_rows.specs.Kinds.{key_kind}
use Rattle.sn_rows.specs.Table.{Puts, Rows, rows_after, same_key}
use Rattle.sn_rows.specs.declared.change.Change.{Change}
use Rattle.sn_rows.specs.declared.device_rows.LocalItem.{LocalItem}
use Rattle.sn_rows.specs.declared.device_rows.OwnerRow.{OwnerRow}
use Rattle.sn_rows.specs.declared.device_rows.SetRow.{SetRow}
use Rattle.sn_rows.specs.declared.key.Key.{Key}
use Rattle.sn_rows.specs.declared.key.Key.TheVariants as key
use Rattle.sn_rows.specs.declared.key.Slot.TheVariants.{Asked, Older, Present}
use Rattle.sn_rows.specs.declared.value.Value.TheVariants as value
use Rattle.sn_sets.specs.declared.sets.Sets.{Sets}
use Rattle.sn_string.specs.declared.params.KeySet.{KeySet}
use Rattle.sn_table.specs.Batches.{IsOf}
use Rattle.sn_device.specs.Changing.{RekeysAll}
use Rattle.sn_device.specs.Listing.{AreItems}
use Rattle.sn_device.specs.Sending.{Numbered}
use Rattle.sn_device.specs.States.{Bytes, Columns, HasLocal, HasOwner, HasSets, IsInSlot, OwnerColumns, columns, owner_columns}
use Rattle.sn_device.specs.Steps.{Adopts, DropsAsked, with_token}
use Rattle.sn_device.proofs.Drafts.{same_row}
use Rattle.sn_device.proofs.Frames.{beside, items_of_device, one_of_device}
use Rattle.sn_device.proofs.Leading.{IsOfItems, after_append}
use Rattle.sn_device.proofs.Standing.{Stand}

-- ---- items of a list

parts_of : (x : Numbered) → x ≡ (x.0, x.1)
parts_of (number, local) = refl

none_of : (x : Numbered) → ¬ (Contains {X = Numbered} [] x)
none_of x has = absurd (omega (arith, has.1))

one_of : (x y : Numbered) → Contains (x ∷ []) y → x ≡ y
one_of x y has = ⊎_elim (λ (none : Contains {X = Numbered} [] y). absurd (none_of y none)) (λ (e : x ≡ y). e) (Contains-push_cases [] x y has)

in_parts : (x : Numbered) (xs : List Numbered) (y : Numbered) → Contains (x ∷ xs) y → (x ≡ y) ⊎ Contains xs y
in_parts x xs y has =
    ⊎_elim (λ (here : Contains (x ∷ []) y). inl (one_of x y here)) (λ (there : Contains xs y). inr there) (Contains-append_cases (x ∷ []) xs y has)

is_head : (x : Numbered) (xs : List Numbered) → Contains (x ∷ xs) x
is_head x xs = Contains-append_left (x ∷ []) xs x (Contains-push [] x)

is_later : (x : Numbered) (xs : List Numbered) (y : Numbered) → Contains xs y → Contains (x ∷ xs) y
is_later x xs y has = Contains-append_right (x ∷ []) xs y has

-- ---- one row

-- what becomes of a row
pub record IsAdopted (sets : Sets) (set : KeySet) (old now : LocalItem) : Type 0 where
  pub words : ChaCha
  pub left : ChaCha
  pub rekeys : Rekeys sets set words old now left

-- one of which nothing opens stays as it is
closed_adopted : (sets : Sets) (set : KeySet) (words : ChaCha) (local : LocalItem) → HasNoneOpen sets local → IsAdopted sets set local local
closed_adopted sets set words local none = record {
  words = words;
  left = words;
  rekeys = record {
    uuid_is = refl;
    kind_is = refl;
    base_is = refl;
    body_again = false;
    second = words;
    body_is = record { closed = none.body; same = refl; undrawn = refl };
    latest_again = false;
    third = words;
    latest_is = record { closed = none.latest; same = refl; undrawn = refl };
    posted_again = false;
    posted_is = record { closed = none.posted; same = refl; undrawn = refl };
    stale_is = refl;
  };
}

-- ---- all of them

-- of none of these items with the number anything opens
abbrev IsPassed : Sets → List Numbered → ℕ → Type 0
IsPassed sets items n = (x : Numbered) → Contains items x → x.0 ≡ n → HasNoneOpen sets x.1

-- the row is what became of one of them
abbrev IsAgain : Sets → KeySet → List Numbered → ℕ → LocalItem → Type 0
IsAgain sets set items n now = (x : Numbered) × Contains items x × (x.0 ≡ n) × IsAdopted sets set x.1 now

abbrev IsSeen : Sets → KeySet → List Numbered → Rows → ℕ → LocalItem → Type 0
IsSeen sets set items r n l = (HasLocal r n l × IsPassed sets items n) ⊎ IsAgain sets set items n l

again_later : (sets : Sets) (set : KeySet) (w : Numbered) (items : List Numbered) (n : ℕ) (l : LocalItem) → IsAgain sets set items n l
    → IsAgain sets set (w ∷ items) n l
again_later sets set w items n l (x, has, of, again) = (x, is_later w items x has, of, again)

closed_or : (sets : Sets) (w : Numbered) (items : List Numbered) (n : ℕ) (x : Numbered) → HasNoneOpen sets w.1 → IsPassed sets items n → x.0 ≡ n
    → ((w ≡ x) ⊎ Contains items x) → HasNoneOpen sets x.1
closed_or sets w items n x closed passed of (inl same) = subst (λ (y : Numbered). HasNoneOpen sets y.1) same closed
closed_or sets w items n x closed passed of (inr has) = passed x has of

other_or : (sets : Sets) (w : Numbered) (items : List Numbered) (n : ℕ) (x : Numbered) → same_key (key.Local w.0) (key.Local n) ≡ false
    → IsPassed sets items n → x.0 ≡ n → ((w ≡ x) ⊎ Contains items x) → HasNoneOpen sets x.1
other_or sets w items n x apart passed of (inl same) =
    let number : w.0 ≡ n = ap (λ (y : Numbered). y.0) same ∙ of in
    let yes : same_key (key.Local w.0) (key.Local n) ≡ true = (keys_compare (key.Local w.0) (key.Local n)).1 (ap key.Local number) in
    absurd cc
other_or sets w items n x apart passed of (inr has) = passed x has of

-- past an item of which nothing opens
seen_closed : (sets : Sets) (set : KeySet) (w : Numbered) (items : List Numbered) (r : Rows) (n : ℕ) (l : LocalItem) → HasNoneOpen sets w.1
    → IsSeen sets set items r n l → IsSeen sets set (w ∷ items) r n l
seen_closed sets set w items r n l closed (inl (there, passed)) =
    inl (there, λ x has of. closed_or sets w items n x closed passed of (in_parts w items x has))
seen_closed sets set w items r n l closed (inr again) = inr (again_later sets set w items n l again)

-- past one that is sealed again
module _ (sets : Sets) (set : KeySet) (words rest : ChaCha) (w : Numbered) (after : LocalItem) (items : List Numbered) (change : Change) (r : Rows)
    (rekeys : Rekeys sets set words w.1 after rest) (puts : Puts change (key.Local w.0) (value.Local after)) where
  abbrev put : Rows
  put = rows_after r (change ∷ [])

  put_or_passed : (n : ℕ) (l : LocalItem) → HasLocal put n l → IsPassed sets items n
      → ((same_key (key.Local w.0) (key.Local n) ≡ true) ⊎ (same_key (key.Local w.0) (key.Local n) ≡ false)) → IsSeen sets set (w ∷ items) r n l
  put_or_passed n l found passed (inl same) =
      let keys : key.Local w.0 ≡ key.Local n = (keys_compare (key.Local w.0) (key.Local n)).0 same in
      let number : w.0 ≡ n = cc in
      let there : HasLocal put n after = ap put (sym keys) ∙ put_here r change (key.Local w.0) (value.Local after) puts in
      let is : l ≡ after = same_row put n l after found there in
      let again : IsAdopted sets set w.1 after = record { words = words; left = rest; rekeys = rekeys } in
      inr (w, is_head w items, number, subst (λ (x : LocalItem). IsAdopted sets set w.1 x) (sym is) again)
  put_or_passed n l found passed (inr apart) =
      let past : put (key.Local n) ≡ r (key.Local n) = put_apart r change (key.Local w.0) (key.Local n) (value.Local after) puts apart in
      inl (sym past ∙ found, λ x has of. other_or sets w items n x apart passed of (in_parts w items x has))

  seen_put : (n : ℕ) (l : LocalItem) → IsSeen sets set items put n l → IsSeen sets set (w ∷ items) r n l
  seen_put n l (inl (found, passed)) = put_or_passed n l found passed (cases_Bool (same_key (key.Local w.0) (key.Local n)))
  seen_put n l (inr again) = inr (again_later sets set w items n l again)

-- a row after the changes stood before them, and nothing of it opens, or was sealed again
seen_after : (sets : Sets) (set : KeySet) (words left : ChaCha) (items : List Numbered) (changes : List Change) (r : Rows)
    → RekeysAll sets set words items changes left → (n : ℕ) (l : LocalItem) → HasLocal (rows_after r changes) n l → IsSeen sets set items r n l
seen_after sets set words left [] changes r all n l found =
    inl (subst (λ (cs : List Change). HasLocal (rows_after r cs) n l) all.0 found, λ x has of. absurd (none_of x has))
seen_after sets set words left (w ∷ items) changes r (inl (closed, all)) n l found =
    seen_closed sets set w items r n l closed (seen_after sets set words left items changes r all n l found)
seen_after sets set words left (w ∷ items) changes r (inr (opens, after, rest, change, later, rekeys, puts, is, all)) n l found =
    let there : HasLocal (rows_after r (change ∷ later)) n l = subst (λ (cs : List Change). HasLocal (rows_after r cs) n l) is found in
    seen_put sets set words rest w after items change r rekeys puts n l
    (seen_after sets set rest left items later (rows_after r (change ∷ [])) all n l there)

put_there : (r : Rows) (change : Change) (at : ℕ) (after : LocalItem) → Puts change (key.Local at) (value.Local after) → (n : ℕ) (l : LocalItem)
    → HasLocal r n l → ((key.Local at ≡ key.Local n) ⊎ (rows_after r (change ∷ []) (key.Local n) ≡ r (key.Local n)))
    → (now : LocalItem) × HasLocal (rows_after r (change ∷ [])) n now
put_there r change at after puts n l found (inl same) =
    (after, ap (rows_after r (change ∷ [])) (sym same) ∙ put_here r change (key.Local at) (value.Local after) puts)
put_there r change at after puts n l found (inr past) = (l, past ∙ found)

-- where a row stood, one stands after them
still_there : (sets : Sets) (set : KeySet) (words left : ChaCha) (items : List Numbered) (changes : List Change) (r : Rows)
    → RekeysAll sets set words items changes left → (n : ℕ) (l : LocalItem) → HasLocal r n l
    → (now : LocalItem) × HasLocal (rows_after r changes) n now
still_there sets set words left [] changes r all n l found = (l, subst (λ (cs : List Change). HasLocal (rows_after r cs) n l) (sym all.0) found)
still_there sets set words left (w ∷ items) changes r (inl (closed, all)) n l found = still_there sets set words left items changes r all n l found
still_there sets set words left (w ∷ items) changes r (inr (opens, after, rest, change, later, rekeys, puts, is, all)) n l found =
    let one = put_there r change w.0 after puts n l found (put_or_not r change (key.Local w.0) (value.Local after) puts (key.Local n)) in
    let more = still_there sets set rest left items later (rows_after r (change ∷ [])) all n one.0 one.1 in
    (more.0, subst (λ (cs : List Change). HasLocal (rows_after r cs) n more.0) (sym is) more.1)

rekeyed_items : (sets : Sets) (set : KeySet) (words left : ChaCha) (items : List Numbered) (changes : List Change)
    → RekeysAll sets set words items changes left → All IsOfItems changes
rekeyed_items sets set words left [] changes all = subst (All IsOfItems) (sym all.0) (All-nil IsOfItems)
rekeyed_items sets set words left (w ∷ items) changes (inl (closed, all)) = rekeyed_items sets set words left items changes all
rekeyed_items sets set words left (w ∷ items) changes (inr (opens, after, rest, change, later, rekeys, puts, is, all)) =
    subst (All IsOfItems) (sym is) (All-cons IsOfItems change later (ap key_kind puts.key_is) (rekeyed_items sets set rest left items later all))

stood_before : (rows : Rows) (sets : Sets) (set : KeySet) (words : ChaCha) (items : List Numbered) → AreItems rows items → (n : ℕ) (l : LocalItem)
    → IsSeen sets set items rows n l → (old : LocalItem) × HasLocal rows n old × IsAdopted sets set old l
stood_before rows sets set words items are n l (inl (there, passed)) =
    (l, there, closed_adopted sets set words l (passed (n, l) ((are.whole n l).1 there) refl))
stood_before rows sets set words items are n l (inr (x, has, of, again)) =
    let listed : Contains items (x.0, x.1) = subst (λ (y : Numbered). Contains items y) (parts_of x) has in
    (x.1, subst (λ (k : ℕ). HasLocal rows k x.1) of ((are.whole x.0 x.1).0 listed), again)

-- ---- the account and its sets

-- the set that was asked for, where there was one, is gone
dropped_asked : (rows r : Rows) (identifier : Bytes) (asked : Option KeySet) (dropped : List Change) → r (key.Set Asked) ≡ rows (key.Set Asked)
    → IsInSlot rows identifier Asked asked → DropsAsked asked dropped → rows_after r dropped (key.Set Asked) ≡ None
dropped_asked rows r identifier None dropped same is e = ap (λ (cs : List Change). rows_after r cs (key.Set Asked)) e ∙ same ∙ is
dropped_asked rows r identifier (Some set) dropped same is (c, removes, e) =
    ap (λ (cs : List Change). rows_after r cs (key.Set Asked)) e ∙ removed_here r c (key.Set Asked) removes

-- and nothing else with it
past_dropped : (r : Rows) (asked : Option KeySet) (dropped : List Change) (at : Key) → DropsAsked asked dropped → key.Set Asked ≢ at
    → rows_after r dropped at ≡ r at
past_dropped r None dropped at e apart = ap (λ (cs : List Change). rows_after r cs at) e
past_dropped r (Some set) dropped at (c, removes, e) apart =
    ap (λ (cs : List Change). rows_after r cs at) e ∙ removed_elsewhere r c (key.Set Asked) at removes apart

dropped_device : (asked : Option KeySet) (dropped : List Change) → DropsAsked asked dropped → All (IsOf Device) dropped
dropped_device None dropped e = subst (All (IsOf Device)) (sym e) (All-nil (IsOf Device))
dropped_device (Some set) dropped (c, removes, e) =
    subst (All (IsOf Device)) (sym e) (All-cons (IsOf Device) c [] (one_of_device c (key.Set Asked) refl removes.key_is) (All-nil (IsOf Device)))

-- behind the changes of items come those of the device's own row, of the present and of the older set
module _ (mid : Rows) (counted present older : Change) (owner : OwnerRow) (now was : SetRow) (owns : Puts counted key.Owner (value.Owner owner))
    (puts : Puts present (key.Set Present) (value.Set now)) (keeps : Puts older (key.Set Older) (value.Set was)) where
  abbrev first : Rows
  first = rows_after mid (counted ∷ [])

  abbrev second : Rows
  second = rows_after first (present ∷ [])

  abbrev third : Rows
  third = rows_after second (older ∷ [])

  own_row : third key.Owner ≡ Some (value.Owner owner)
  own_row =
      put_elsewhere second older (key.Set Older) key.Owner (value.Set was) keeps (λ e. cc)
      ∙ put_elsewhere first present (key.Set Present) key.Owner (value.Set now) puts (λ e. cc)
      ∙ put_here mid counted key.Owner (value.Owner owner) owns

  present_row : third (key.Set Present) ≡ Some (value.Set now)
  present_row =
      put_elsewhere second older (key.Set Older) (key.Set Present) (value.Set was) keeps (λ e. cc)
      ∙ put_here first present (key.Set Present) (value.Set now) puts

  older_row : third (key.Set Older) ≡ Some (value.Set was)
  older_row = put_here second older (key.Set Older) (value.Set was) keeps

  other_row : (at : Key) → key.Owner ≢ at → key.Set Present ≢ at → key.Set Older ≢ at → third at ≡ mid at
  other_row at off_owner off_present off_older =
      put_elsewhere second older (key.Set Older) at (value.Set was) keeps off_older
      ∙ put_elsewhere first present (key.Set Present) at (value.Set now) puts off_present
      ∙ put_elsewhere mid counted key.Owner at (value.Owner owner) owns off_owner

-- ---- a whole adoption

-- the sets that are held after it
abbrev pub sets_adopted : Sets → KeySet → Sets
sets_adopted sets set = record { present = set; older = Some sets.present; asked = None }

-- the rows after the adoption of a set
pub record Adopted (rows : Rows) (sets : Sets) (set : KeySet) (token : Bytes) (owner : OwnerRow) (after : Rows) : Type 0 where
  pub later : OwnerRow
  pub owned : HasOwner after later
  pub columns_are : owner_columns later ≡ with_token token (owner_columns owner)
  pub present : IsInSlot after owner.identifier Present (Some set)
  pub older : IsInSlot after owner.identifier Older (Some sets.present)
  pub asked : after (key.Set Asked) ≡ None
  pub items : (n : ℕ) (l : LocalItem) → HasLocal after n l → (old : LocalItem) × HasLocal rows n old × IsAdopted sets set old l
  pub there : (n : ℕ) (l : LocalItem) → HasLocal rows n l → (now : LocalItem) × HasLocal after n now × IsAdopted sets set l now

pub adopted_sets : (rows : Rows) (sets : Sets) (set : KeySet) (token : Bytes) (owner : OwnerRow) (after : Rows)
    → (d : Adopted rows sets set token owner after) → HasSets after d.later (sets_adopted sets set)
adopted_sets rows sets set token owner after d =
    let named : owner.identifier ≡ d.later.identifier = sym (ap (λ (x : OwnerColumns). x.identifier) d.columns_are) in
    record {
      owned = d.owned;
      in_use = subst (λ (i : Bytes). IsInSlot after i Present (Some set)) named d.present;
      before = subst (λ (i : Bytes). IsInSlot after i Older (Some sets.present)) named d.older;
      wanted = d.asked;
    }

module _ (rows : Rows) (words left : ChaCha) (set : KeySet) (token : Bytes) (changes : List Change) (a : Adopts rows words set token changes left) where
  abbrev mid : Rows
  mid = rows_after rows a.rekeyed

  abbrev others : List Change
  others = a.counted ∷ a.present ∷ a.older ∷ a.dropped

  -- of the items
  of_items : All IsOfItems a.rekeyed
  of_items = rekeyed_items a.sets set words left a.items a.rekeyed a.rekeys

  row_before : (n : ℕ) (l : LocalItem) → HasLocal mid n l → (old : LocalItem) × HasLocal rows n old × IsAdopted a.sets set old l
  row_before n l found =
      stood_before rows a.sets set words a.items a.items_are n l (seen_after a.sets set words left a.items a.rekeyed rows a.rekeys n l found)

  row_there : (n : ℕ) (l : LocalItem) → HasLocal rows n l → (now : LocalItem) × HasLocal mid n now × IsAdopted a.sets set l now
  row_there n l found =
      let now = still_there a.sets set words left a.items a.rekeyed rows a.rekeys n l found in
      let old = row_before n now.0 now.1 in
      let same : old.0 ≡ l = same_row rows n old.0 l old.1 found in
      (now.0, now.1, subst (λ (x : LocalItem). IsAdopted a.sets set x now.0) same old.2)

  pub adopted_stands : (P Q : Columns → Type 0) (next : ℕ)
      → ((old now : LocalItem) → IsAdopted a.sets set old now → P (columns old) → Q (columns now)) → Stand P next rows → Stand Q next (rows_after rows a.rekeyed)
  adopted_stands P Q next so stand = record {
    numbered = λ n l found. (let old = row_before n l found in stand.numbered n old.0 old.1);
    apart = λ n m l k found too same.
        (let old = row_before n l found in
        let other = row_before m k too in
        stand.apart n m old.0 other.0 old.1 other.1 (sym old.2.rekeys.uuid_is ∙ same ∙ other.2.rekeys.uuid_is));
    items = λ n l found. (let old = row_before n l found in so old.0 l old.2 (stand.items n old.0 old.1));
  }

  pub adopted_device : All (IsOf Device) changes
  adopted_device =
      subst (All (IsOf Device)) (sym a.changes_are)
      (All-append (IsOf Device) a.rekeyed others (items_of_device a.rekeyed of_items)
      (All-cons (IsOf Device) a.counted (a.present ∷ a.older ∷ a.dropped) (one_of_device a.counted key.Owner refl a.counted_is.puts_it.key_is)
      (All-cons (IsOf Device) a.present (a.older ∷ a.dropped) (one_of_device a.present (key.Set Present) refl a.present_is.puts.key_is)
      (All-cons (IsOf Device) a.older a.dropped (one_of_device a.older (key.Set Older) refl a.older_is.puts.key_is) (dropped_device a.sets.asked a.dropped a.drops)))))

  -- behind the changes of the account and of the sets that are held
  abbrev behind : Rows
  behind =
      third mid a.counted a.present a.older a.counted_is.owner a.present_is.keys a.older_is.keys a.counted_is.puts_it a.present_is.puts a.older_is.puts

  behind_other : (at : Key) → key.Owner ≢ at → key.Set Present ≢ at → key.Set Older ≢ at → behind at ≡ mid at
  behind_other at off_owner off_present off_older =
      other_row mid a.counted a.present a.older a.counted_is.owner a.present_is.keys a.older_is.keys a.counted_is.puts_it a.present_is.puts a.older_is.puts at
      off_owner off_present off_older

  -- an item's row is the one that the changes of items left
  item_row : (n : ℕ) → rows_after mid others (key.Local n) ≡ mid (key.Local n)
  item_row n =
      past_dropped behind a.sets.asked a.dropped (key.Local n) a.drops (λ e. cc)
      ∙ behind_other (key.Local n) (λ e. cc) (λ e. cc) (λ e. cc)

  asked_before : behind (key.Set Asked) ≡ rows (key.Set Asked)
  asked_before =
      behind_other (key.Set Asked) (λ e. cc) (λ e. cc) (λ e. cc) ∙ beside rows a.rekeyed (key.Set Asked) of_items (λ e. cc)

  adopted_behind : Adopted rows a.sets set token a.owner (rows_after mid others)
  adopted_behind = record {
    later = a.counted_is.owner;
    owned = past_dropped behind a.sets.asked a.dropped key.Owner a.drops (λ e. cc)
        ∙ own_row mid a.counted a.present a.older a.counted_is.owner a.present_is.keys a.older_is.keys a.counted_is.puts_it a.present_is.puts a.older_is.puts;
    columns_are = a.counted_is.columns_are;
    present = (
      a.present_is.keys,
      past_dropped behind a.sets.asked a.dropped (key.Set Present) a.drops (λ e. cc)
          ∙ present_row mid a.counted a.present a.older a.counted_is.owner a.present_is.keys a.older_is.keys a.counted_is.puts_it a.present_is.puts
          a.older_is.puts,
      a.present_is.keys_are,
    );
    older = (
      a.older_is.keys,
      past_dropped behind a.sets.asked a.dropped (key.Set Older) a.drops (λ e. cc)
          ∙ older_row mid a.counted a.present a.older a.counted_is.owner a.present_is.keys a.older_is.keys a.counted_is.puts_it a.present_is.puts a.older_is.puts,
      a.older_is.keys_are,
    );
    asked = dropped_asked rows behind a.owner.identifier a.sets.asked a.dropped asked_before a.holds.wanted a.drops;
    items = λ n l found. row_before n l (sym (item_row n) ∙ found);
    there = λ n l found. (let now = row_there n l found in (now.0, item_row n ∙ now.1, now.2));
  }

  all_rows : rows_after rows changes ≡ rows_after mid others
  all_rows = ap (rows_after rows) a.changes_are ∙ after_append rows a.rekeyed others

  pub adopted : Adopted rows a.sets set token a.owner (rows_after rows changes)
  adopted = subst (Adopted rows a.sets set token a.owner) (sym all_rows) adopted_behind

  -- each row of an item is the one that the changes of items left
  pub adopted_row : (n : ℕ) (l : LocalItem) → HasLocal (rows_after rows changes) n l → HasLocal (rows_after rows a.rekeyed) n l
  adopted_row n l found = sym (item_row n) ∙ ap (λ (r : Rows). r (key.Local n)) (sym all_rows) ∙ found

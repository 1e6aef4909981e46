-- The commits of a change of password: a set that is asked for, one that is dropped, and the adoption of one, with the walk over the items.
use Rattle.std.proofs.Common.{◌≡◌, ◌∙◌, ℕ, List, [], ◌∷◌, ◌++◌, Option, Some, None, inl, inr, refl, sym, ap, subst, map}
use Rattle.std.specs.List.{All, Contains}
use Rattle.std.proofs.lemmas.List.{append-nil, append_assoc, map_push}
use Rattle.std.proofs.lemmas.List.Elements.{All-append, All-cons, All-nil, Contains-append_left, Contains-append_right, Contains-push}
use Rattle.rand_chacha.specs.ChaCha.{ChaCha}
use Rattle.sn_journal.specs.declared.owner.Owner.TheVariants.{Device}
use Rattle.sn_rekey.specs.Rekeying.{HasNoneOpen, HasOpen, Rekeys}
use Rattle.sn_row_map.specs.Ranges.{AreRowsOf, rows_behind, rows_of}
use Rattle.sn_row_map.specs.RowMaps.{row_in}
use Rattle.sn_row_map.specs.Steps.{GoesOn}
use Rattle.sn_row_map.specs.declared.row_map.RowMap.{RowMap}
use Rattle.sn_rows.specs.Table.{Puts, Removes, Rows}
use Rattle.sn_rows.specs.declared.change.Change.{Change}
use Rattle.sn_rows.specs.declared.change.Change.TheVariants.{Remove}
use Rattle.sn_rows.specs.declared.device_rows.LocalItem.{LocalItem}
use Rattle.sn_rows.specs.declared.device_rows.OwnerRow.{OwnerRow}
use Rattle.sn_rows.specs.declared.device_rows.SetRow.{SetRow}
use Rattle.sn_rows.specs.declared.key.Key.{Key}
use Rattle.sn_rows.specs.declared.key.Key.TheVariants as key
use Rattle.sn_rows.specs.declared.key.Slot.{Slot}
use Rattle.sn_rows.specs.declared.key.Slot.TheVariants.{Asked, Older, Present}
use Rattle.sn_rows.specs.declared.kind.RowKind.TheVariants as kind
use Rattle.sn_rows.specs.declared.value.Value.{Value}
use Rattle.sn_rows.specs.declared.value.Value.TheVariants as value
use Rattle.sn_sets.proofs.Facts.{later_again, later_at_once}
use Rattle.sn_sets.specs.Seals.{IsLater}
use Rattle.sn_sets.specs.declared.sets.Sets.{Sets}
use Rattle.sn_string.specs.declared.params.KeySet.{KeySet}
use Rattle.sn_table.specs.Batches.{IsOf}
use Rattle.sn_table.specs.Logs.{HasKinds}
use Rattle.sn_adopting.specs.Adopting.{RekeysOne, RekeysRow}
use Rattle.sn_device.specs.Changing.{MayAsk, RekeysAll}
use Rattle.sn_device.specs.Listing.{AreItems}
use Rattle.sn_device.specs.Sending.{Numbered}
use Rattle.sn_device.specs.States.{Bytes, HasSet, HasSets, owner_columns}
use Rattle.sn_device.specs.Steps.{Adopts, Asks, DropsAsked, Forgets, PutsSet, with_token}
use Rattle.sn_local.specs.Found.{IsItemRow}
use Rattle.sn_device.proofs.Facts.{one_of_device}
use Rattle.sn_local.proofs.Facts.{are_items, local_key, local_value, row_of, same_local, same_number}

abbrev Rowed : Type 0
Rowed = Key × Value

-- ---- a set that is put, and one that goes

-- by the account's identifier
puts_for : (change : Change) (slot : Slot) (set : KeySet) (identifier : Bytes) → set.params.identifier ≡ identifier
    → PutsSet change slot set.params.identifier set → PutsSet change slot identifier set
puts_for change slot set identifier named puts = subst (λ (i : Bytes). PutsSet change slot i set) named puts

set_of_device : (change : Change) (slot : Slot) (identifier : Bytes) (set : KeySet) → PutsSet change slot identifier set → IsOf Device change
set_of_device change slot identifier set put = one_of_device change (key.Set slot) refl put.puts.key_is

one_owned : (change : Change) (changes : List Change) → changes ≡ change ∷ [] → IsOf Device change → All (IsOf Device) changes
one_owned change changes are own = subst (All (IsOf Device)) (sym are) (All-cons (IsOf Device) change [] own (All-nil (IsOf Device)))

-- the changes of a set that is asked for
pub asks_for : (change : Change) (set : KeySet) (changes : List Change) → PutsSet change Asked set.params.identifier set → changes ≡ change ∷ []
    → (rows : Rows) (owner : OwnerRow) (sets : Sets) → HasSets rows owner sets → MayAsk rows sets → set.params.identifier ≡ owner.identifier → Asks rows set changes
asks_for change set changes put are rows owner sets holds may named = record {
  owner = owner;
  sets = sets;
  holds = holds;
  may = may;
  change = change;
  put = puts_for change Asked set owner.identifier named put;
  changes_are = are;
}

pub asked_owned : (change : Change) (set : KeySet) (changes : List Change) → PutsSet change Asked set.params.identifier set → changes ≡ change ∷ []
    → All (IsOf Device) changes
asked_owned change set changes put are = one_owned change changes are (set_of_device change Asked set.params.identifier set put)

-- the removal of the set that is asked for
abbrev pub gone : Change
gone = Remove (key.Set Asked)

removes_asked : Removes gone (key.Set Asked)
removes_asked = record { key_is = refl; value_is = refl }

pub forgets_by : (changes : List Change) → changes ≡ gone ∷ [] → (rows : Rows) (asked : SetRow) → HasSet rows Asked asked → Forgets rows changes
forgets_by changes are rows asked stands = record { asked = asked; stands = stands; change = gone; removes = removes_asked; changes_are = are }

pub forgotten_owned : (changes : List Change) → changes ≡ gone ∷ [] → All (IsOf Device) changes
forgotten_owned changes are = one_owned gone changes are (one_of_device gone (key.Set Asked) refl refl)

-- where one is asked for, it goes
pub drops_one : (asked : Option KeySet) (set : KeySet) (old new : List Change) → asked ≡ Some set → new ≡ old ++ gone ∷ []
    → (more : List Change) × DropsAsked asked more × (new ≡ old ++ more)
drops_one asked set old new is added = (gone ∷ [], subst (λ (o : Option KeySet). DropsAsked o (gone ∷ [])) (sym is) (gone, removes_asked, refl), added)

pub drops_none : (asked : Option KeySet) (old : List Change) → asked ≡ None → (more : List Change) × DropsAsked asked more × (old ≡ old ++ more)
drops_none asked old is = ([], subst (λ (o : Option KeySet). DropsAsked o []) (sym is) refl, sym (append-nil old))

dropped_owned : (asked : Option KeySet) (more : List Change) → DropsAsked asked more → All (IsOf Device) more
dropped_owned None more none = subst (All (IsOf Device)) (sym none) (All-nil (IsOf Device))
dropped_owned (Some set) more (change, removes, are) = one_owned change more are (one_of_device change (key.Set Asked) refl removes.key_is)

-- ---- one item

-- nothing of it opens
pub rekeys_none : (sets : Sets) (set : KeySet) (words : ChaCha) (number : ℕ) (local : LocalItem) (changes : List Change) (left : ChaCha)
    → HasNoneOpen sets local → left ≡ words → RekeysOne sets set words number local changes changes left
rekeys_none sets set words number local changes left closed undrawn =
    record { more = []; added = sym (append-nil changes); rekeys = inl (closed, (refl, undrawn)); owned = All-nil (IsOf Device) }

-- something opens, and is sealed again
pub rekeys_one : (sets : Sets) (set : KeySet) (words : ChaCha) (number : ℕ) (local after : LocalItem) (change : Change) (old new : List Change) (left : ChaCha)
    → HasOpen sets local → Rekeys sets set words local after left → Puts change (key.Local number) (value.Local after) → new ≡ old ++ change ∷ []
    → RekeysOne sets set words number local old new left
rekeys_one sets set words number local after change old new left opens rekeys puts added = record {
  more = change ∷ [];
  added = added;
  rekeys = inr (opens, after, left, change, [], rekeys, puts, refl, (refl, refl));
  owned = one_owned change (change ∷ []) refl (one_of_device change (key.Local number) refl puts.key_is);
}

-- the row is this item's
pub rekeys_row : (sets : Sets) (set : KeySet) (words : ChaCha) (number : ℕ) (local : LocalItem) (k : Key) (v : Value) (old new : List Change) (left : ChaCha)
    → IsItemRow k v number local → RekeysOne sets set words number local old new left → RekeysRow sets set words k v old new left
rekeys_row sets set words number local k v old new left is one n other at =
    let numbered : number ≡ n = same_number number n (sym is.0 ∙ at.0) in
    let same : local ≡ other = same_local local other (sym is.1 ∙ at.1) in
    subst (λ (l : LocalItem). RekeysOne sets set words n l old new left) same
    (subst (λ (m : ℕ). RekeysOne sets set words m local old new left) numbered one)

-- ---- the walk

-- items behind one another
rekeys_more : (sets : Sets) (set : KeySet) (words middle left : ChaCha) (items more : List Numbered) (changes later : List Change)
    → RekeysAll sets set words items changes middle → RekeysAll sets set middle more later left → RekeysAll sets set words (items ++ more) (changes ++ later) left
rekeys_more sets set words middle left [] more changes later (none, same) next =
    subst (λ (cs : List Change). RekeysAll sets set words more (cs ++ later) left) (sym none)
    (subst (λ (w : ChaCha). RekeysAll sets set w more later left) same next)
rekeys_more sets set words middle left (w ∷ items) more changes later (inl (closed, all)) next =
    inl (closed, rekeys_more sets set words middle left items more changes later all next)
rekeys_more sets set words middle left (w ∷ items) more changes later (inr (opens, after, rest, change, others, rekeys, puts, are, all)) next =
    inr (
      opens,
      after,
      rest,
      change,
      others ++ later,
      rekeys,
      puts,
      ap (λ (cs : List Change). cs ++ later) are,
      rekeys_more sets set rest middle left items more others later all next,
    )

-- the rows of items are those that were walked over, each with its change, and what is left
pub record RekeyedSoFar (rows : RowMap) (sets : Sets) (set : KeySet) (words : ChaCha) (changes : List Change) (rest : ChaCha) (found : Option Rowed) : Type 0 where
  pub items : List Numbered
  pub left : List Rowed
  pub are : rows_of rows kind.Local ≡ map row_of items ++ left
  pub goes : GoesOn rows left found
  pub rekeys : RekeysAll sets set words items changes rest
  pub owned : All (IsOf Device) changes
  pub later : IsLater words rest

pub none_rekeyed : (rows : RowMap) (sets : Sets) (set : KeySet) (words : ChaCha) (changes : List Change) (found : Option Rowed) → changes ≡ []
    → GoesOn rows (rows_of rows kind.Local) found → RekeyedSoFar rows sets set words changes words found
none_rekeyed rows sets set words changes found none goes = record {
  items = [];
  left = rows_of rows kind.Local;
  are = refl;
  goes = goes;
  rekeys = (none, refl);
  owned = subst (All (IsOf Device)) (sym none) (All-nil (IsOf Device));
  later = later_at_once words;
}

-- what is found is the row of an item
record IsFoundItem (k : Key) (v : Value) : Type 0 where
  number : ℕ
  local : LocalItem
  is : IsItemRow k v number local

found_item : (rows : RowMap) (items : List Numbered) (left : List Rowed) (k : Key) (v : Value) → rows_of rows kind.Local ≡ map row_of items ++ left
    → left ≡ (k, v) ∷ rows_behind rows k → AreRowsOf rows kind.Local (rows_of rows kind.Local) → HasKinds rows → IsFoundItem k v
found_item rows items left k v are here all kinds =
    let before : List Rowed = map row_of items in
    let next : Contains ((k, v) ∷ rows_behind rows k) (k, v) = Contains-append_left ((k, v) ∷ []) (rows_behind rows k) (k, v) (Contains-push [] (k, v)) in
    let has : Contains (rows_of rows kind.Local) (k, v) =
    subst (λ (rs : List Rowed). Contains rs (k, v)) (sym (are ∙ ap (λ (rs : List Rowed). before ++ rs) here))
    (Contains-append_right before ((k, v) ∷ rows_behind rows k) (k, v) next) in
    let stands = (all.whole k v).0 has in
    let named = local_key k stands.0 in
    let valued = local_value v (sym (kinds k v stands.1) ∙ stands.0) in
    record { number = named.0; local = valued.0; is = (named.1, valued.1) }

-- the row that was found has its change
pub one_rekeyed : (rows : RowMap) (sets : Sets) (set : KeySet) (words middle rest : ChaCha) (old new : List Change) (found next : Option Rowed) (k : Key) (v : Value)
    → RekeyedSoFar rows sets set words old middle found → found ≡ Some (k, v) → AreRowsOf rows kind.Local (rows_of rows kind.Local) → HasKinds rows
    → RekeysRow sets set middle k v old new rest → IsLater middle rest → GoesOn rows (rows_behind rows k) next
    → RekeyedSoFar rows sets set words new rest next
one_rekeyed rows sets set words middle rest old new found next k v so_far here all kinds adds later goes =
    let left : so_far.left ≡ (k, v) ∷ rows_behind rows k = subst (GoesOn rows so_far.left) here so_far.goes in
    let at : IsFoundItem k v = found_item rows so_far.items so_far.left k v so_far.are left all kinds in
    let w : Numbered = (at.number, at.local) in
    let one : RekeysOne sets set middle at.number at.local old new rest = adds at.number at.local at.is in
    let is_row : (k, v) ≡ row_of w = (let named = at.is.0 in let valued = at.is.1 in cc) in
    record {
      items = so_far.items ++ w ∷ [];
      left = rows_behind rows k;
      are = so_far.are ∙ ap (λ (rs : List Rowed). map row_of so_far.items ++ rs) (left ∙ ap (λ (r : Rowed). r ∷ rows_behind rows k) is_row)
          ∙ sym (append_assoc (map row_of so_far.items) (row_of w ∷ []) (rows_behind rows k))
          ∙ ap (λ (rs : List Rowed). rs ++ rows_behind rows k) (sym (map_push row_of so_far.items w));
      goes = goes;
      rekeys = subst (λ (cs : List Change). RekeysAll sets set words (so_far.items ++ w ∷ []) cs rest) (sym one.added)
          (rekeys_more sets set words middle rest so_far.items (w ∷ []) old one.more so_far.rekeys one.rekeys);
      owned = subst (All (IsOf Device)) (sym one.added) (All-append (IsOf Device) old one.more so_far.owned one.owned);
      later = later_again words middle rest so_far.later later;
    }

-- all have their changes
pub all_rekeyed : (rows : RowMap) (sets : Sets) (set : KeySet) (words rest : ChaCha) (changes : List Change) (found : Option Rowed)
    → RekeyedSoFar rows sets set words changes rest found → found ≡ None → AreRowsOf rows kind.Local (rows_of rows kind.Local)
    → (items : List Numbered) × AreItems (row_in rows) items × RekeysAll sets set words items changes rest
all_rekeyed rows sets set words rest changes found so_far end all =
    let none : so_far.left ≡ [] = subst (GoesOn rows so_far.left) end so_far.goes in
    let whole : rows_of rows kind.Local ≡ map row_of so_far.items =
    so_far.are ∙ ap (λ (rs : List Rowed). map row_of so_far.items ++ rs) none ∙ append-nil (map row_of so_far.items) in
    let items = are_items rows so_far.items (subst (AreRowsOf rows kind.Local) whole all) in
    (so_far.items, record { rising = items.rising; whole = items.whole }, so_far.rekeys)

-- ---- the whole commit

-- what was added one after another
pub adds_up : (rekeyed first second third dropped all : List Change) (counted present older : Change) → first ≡ rekeyed ++ counted ∷ []
    → second ≡ first ++ present ∷ [] → third ≡ second ++ older ∷ [] → all ≡ third ++ dropped → all ≡ rekeyed ++ counted ∷ present ∷ older ∷ dropped
adds_up rekeyed first second third dropped all counted present older one two three four =
    four
    ∙ ap (λ (cs : List Change). cs ++ dropped) three
    ∙ append_assoc second (older ∷ []) dropped
    ∙ ap (λ (cs : List Change). cs ++ older ∷ dropped) two
    ∙ append_assoc first (present ∷ []) (older ∷ dropped)
    ∙ ap (λ (cs : List Change). cs ++ present ∷ older ∷ dropped) one
    ∙ append_assoc rekeyed (counted ∷ []) (present ∷ older ∷ dropped)

module _ (rows : Rows) (owner renewed : OwnerRow) (sets : Sets) (set : KeySet) (token : Bytes) (rekeyed dropped changes : List Change)
    (counted present older : Change) where
  pub adopts_all : (words left : ChaCha) → HasSets rows owner sets → set.params.identifier ≡ owner.identifier
      → (items : List Numbered) × AreItems rows items × RekeysAll sets set words items rekeyed left
      → owner_columns renewed ≡ with_token token (owner_columns owner) → Puts counted key.Owner (value.Owner renewed)
      → PutsSet present Present set.params.identifier set → PutsSet older Older sets.present.params.identifier sets.present → DropsAsked sets.asked dropped
      → changes ≡ rekeyed ++ counted ∷ present ∷ older ∷ dropped → Adopts rows words set token changes left
  adopts_all words left holds named walked columns counts puts puts_older drops are = record {
    owner = owner;
    sets = sets;
    holds = holds;
    items = walked.0;
    items_are = walked.1;
    rekeyed = rekeyed;
    rekeys = walked.2;
    counted = counted;
    counted_is = record { owner = renewed; puts_it = counts; columns_are = columns };
    present = present;
    present_is = puts_for present Present set owner.identifier named puts;
    older = older;
    older_is = puts_for older Older sets.present owner.identifier holds.in_use.2.identifier_is puts_older;
    dropped = dropped;
    drops = drops;
    changes_are = are;
  }

  pub adopted_owned : All (IsOf Device) rekeyed → Puts counted key.Owner (value.Owner renewed) → PutsSet present Present set.params.identifier set
      → PutsSet older Older sets.present.params.identifier sets.present → DropsAsked sets.asked dropped
      → changes ≡ rekeyed ++ counted ∷ present ∷ older ∷ dropped → All (IsOf Device) changes
  adopted_owned owned counts puts puts_older drops are =
      let last = dropped_owned sets.asked dropped drops in
      let third = All-cons (IsOf Device) older dropped (set_of_device older Older sets.present.params.identifier sets.present puts_older) last in
      let second = All-cons (IsOf Device) present (older ∷ dropped) (set_of_device present Present set.params.identifier set puts) third in
      let first = All-cons (IsOf Device) counted (present ∷ older ∷ dropped) (one_of_device counted key.Owner refl counts.key_is) second in
      subst (All (IsOf Device)) (sym are) (All-append (IsOf Device) rekeyed (counted ∷ present ∷ older ∷ dropped) owned first)

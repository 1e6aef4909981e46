-- Rows that are sound by tests of their kinds, and a walk over the items with those that were seen.
use Rattle.std.proofs.Common.{◌<◌, ◌≡◌, ◌∙◌, ◌⊎◌, ◌↔◌, ℕ, Bool, true, false, cond, not, [], Option, Some, None, IfSome, IfNone, IsTrue, refl, sym, ap, subst, ⊎_elim, inl, inr}
use Rattle.std.specs.Prelude.{is_some}
use Rattle.std.specs.BTreeMap.{get, is_at}
use Rattle.std.specs.Borrow.{Bor}
use Rattle.std.specs.Cmp.Lexicographic.{slice_cmp}
use Rattle.std.specs.Ordering.{nat_cmp}
use Rattle.std.proofs.lemmas.Bool.{cases_Bool}
use Rattle.std.proofs.lemmas.Map.Text.{is_eq-slice_cmp}
use Rattle.std.proofs.lemmas.Slice.Eq.{bytes_eq-Decides}
use Rattle.sn_row_map.specs.Ranges.{AreRowsOf, rows_behind, rows_of}
use Rattle.sn_row_map.specs.RowMaps.{row_in}
use Rattle.sn_row_map.specs.Steps.{GoesOn, IsFirst, IsNext}
use Rattle.sn_row_map.specs.declared.row_map.RowMap.{RowMap}
use Rattle.sn_rows.specs.Kinds.{key_kind}
use Rattle.sn_rows.specs.Table.{Rows}
use Rattle.sn_rows.specs.declared.device_rows.LocalItem.{LocalItem}
use Rattle.sn_rows.specs.declared.device_rows.OwnerRow.{OwnerRow}
use Rattle.sn_rows.specs.declared.device_rows.SetRow.{SetRow}
use Rattle.sn_rows.specs.declared.key.Key.{Key}
use Rattle.sn_rows.specs.declared.key.Key.TheVariants as key
use Rattle.sn_rows.specs.declared.key.Slot.{Slot}
use Rattle.sn_rows.specs.declared.key.Slot.TheVariants.{Present, Older, Asked}
use Rattle.sn_rows.specs.declared.kind.RowKind.TheVariants as kind
use Rattle.sn_rows.specs.declared.value.Value.{Value}
use Rattle.sn_rows.specs.declared.value.Value.TheVariants as value
use Rattle.sn_device.specs.States.{AreOfDevice, AreSoundLocals, AreSoundSets, Bytes, Columns, HasItem, HasLocal, HasNoAccount, HasOwner, HasSet, HasSoundOwner, IsSound, IsSoundItem, columns}
use Rattle.sn_soundness.specs.Unsound.{HasOwnStrings, HasSeen, HasSoundParts, IsApart, IsSoundBeside, IsSoundRow, Seen, SeesMore, SeesRow}
use Rattle.sn_local.specs.Found.{IsItemRow}
use Rattle.sn_local.proofs.Facts.{PassedOrAhead, walk_begins, walk_ends, walk_goes_on}

-- ---- one item

pub strings_of : (c : Columns) → IsSoundItem c → HasOwnStrings c
strings_of c sound = record { body = sound.body_named; latest = sound.latest_named; posted = sound.posted_named }

pub parts_of : (c : Columns) → IsSoundItem c → HasSoundParts c
parts_of c sound = record { based = sound.based; undeleted = sound.undeleted; some = sound.some; sent = sound.sent; again = sound.again }

pub item_of : (c : Columns) → HasSoundParts c → HasOwnStrings c → IsSoundItem c
item_of c parts strings = record {
  based = parts.based;
  undeleted = parts.undeleted;
  some = parts.some;
  sent = parts.sent;
  again = parts.again;
  body_named = strings.body;
  latest_named = strings.latest;
  posted_named = strings.posted;
}

-- ---- uuids that differ

pub apart_none : (seen : Seen) (uuid : Bytes) (n : ℕ) → get (slice_cmp nat_cmp) seen uuid ≡ None → IsApart seen uuid n
apart_none seen uuid n none other has = absurd (let wrong : None ≡ Some other = sym none ∙ has in cc)

pub apart_some : (seen : Seen) (uuid : Bytes) (n m : ℕ) → get (slice_cmp nat_cmp) seen uuid ≡ Some m → m ≡ n → IsApart seen uuid n
apart_some seen uuid n m is same other has =
    let found : Some other ≡ Some m = sym has ∙ is in
    let one : other ≡ m = cc in one ∙ same

-- a uuid and its number, put where no other number stands
abbrev pub IsSeenAt : Seen → Seen → Bytes → ℕ → Type 0
IsSeenAt old new uuid n = (q : Bytes) → get (slice_cmp nat_cmp) new q ≡ cond (is_at (slice_cmp nat_cmp uuid) q) (Some n) (get (slice_cmp nat_cmp) old q)

module _ (old new : Seen) (uuid : Bytes) (n : ℕ) (is : IsSeenAt old new uuid n) where
  at_it : (q : Bytes) → is_at (slice_cmp nat_cmp uuid) q ≡ true → get (slice_cmp nat_cmp) new q ≡ Some n
  at_it q same = is q ∙ ap (λ (b : Bool). cond b (Some n) (get (slice_cmp nat_cmp) old q)) same

  at_other : (q : Bytes) → is_at (slice_cmp nat_cmp uuid) q ≡ false → get (slice_cmp nat_cmp) new q ≡ get (slice_cmp nat_cmp) old q
  at_other q apart = is q ∙ ap (λ (b : Bool). cond b (Some n) (get (slice_cmp nat_cmp) old q)) apart

  one_uuid : (q : Bytes) → is_at (slice_cmp nat_cmp uuid) q ≡ true → uuid ≡ q
  one_uuid q same = (bytes_eq-Decides uuid q).0 (sym (is_eq-slice_cmp uuid q) ∙ same)

  kept : IsApart old uuid n → (q : Bytes) (m : ℕ) → HasSeen old q m → HasSeen new q m
  kept apart q m has =
      ⊎_elim
      (λ (same : is_at (slice_cmp nat_cmp uuid) q ≡ true).
      at_it q same ∙ ap (λ (k : ℕ). Some k) (sym (apart m (subst (λ (u : Bytes). HasSeen old u m) (sym (one_uuid q same)) has))))
      (λ (differ : is_at (slice_cmp nat_cmp uuid) q ≡ false). at_other q differ ∙ has)
      (cases_Bool (is_at (slice_cmp nat_cmp uuid) q))

  no_more : (q : Bytes) (m : ℕ) → HasSeen new q m → HasSeen old q m ⊎ ((uuid ≡ q) × (n ≡ m))
  no_more q m has =
      ⊎_elim
      (λ (same : is_at (slice_cmp nat_cmp uuid) q ≡ true).
      inr (one_uuid q same, (let both : Some n ≡ Some m = sym (at_it q same) ∙ has in cc)))
      (λ (differ : is_at (slice_cmp nat_cmp uuid) q ≡ false). inl (sym (at_other q differ) ∙ has))
      (cases_Bool (is_at (slice_cmp nat_cmp uuid) q))

  pub sees_more : HasSeen new uuid n → IsApart old uuid n → SeesMore old new uuid n
  sees_more here apart = record { here = here; kept = kept apart; no_more = no_more }

-- ---- an item beside those that were seen

pub beside_of : (seen : Seen) (next n : ℕ) (local : LocalItem) → n < next → IsSoundItem (columns local) → IsApart seen local.uuid n
    → IsSoundBeside seen next n local
beside_of seen next n local numbered item apart = record { numbered = numbered; item = item; apart = apart }

-- a row has one item
one_item : (k : Key) (v : Value) (n m : ℕ) (local item : LocalItem) → IsItemRow k v n local → IsItemRow k v m item → (n ≡ m) × (local ≡ item)
one_item k v n m local item is same =
    let numbers : key.Local n ≡ key.Local m = sym is.0 ∙ same.0 in
    let items : value.Local local ≡ value.Local item = sym is.1 ∙ same.1 in (cc, cc)

pub row_of : (seen : Seen) (next n : ℕ) (local : LocalItem) (k : Key) (v : Value) → IsItemRow k v n local → IsSoundBeside seen next n local
    → IsSoundRow seen next k v
row_of seen next n local k v is sound m item same =
    let one = one_item k v n m local item is same in
    subst (λ (j : ℕ). IsSoundBeside seen next j item) one.0 (subst (λ (l : LocalItem). IsSoundBeside seen next n l) one.1 sound)

pub sees_row : (old new : Seen) (n : ℕ) (local : LocalItem) (k : Key) (v : Value) → IsItemRow k v n local → SeesMore old new local.uuid n → SeesRow old new k v
sees_row old new n local k v is sees = record {
  here = λ m item same. (
      let one = one_item k v n m local item is same in
      subst (λ (j : ℕ). HasSeen new item.uuid j) one.0 (subst (λ (l : LocalItem). HasSeen new l.uuid n) one.1 sees.here)
      );
  kept = sees.kept;
  no_more = λ uuid m has. ⊎_elim
      (λ (before : HasSeen old uuid m). inl before)
      (λ (here : (local.uuid ≡ uuid) × (n ≡ m)). inr (local, (is.0 ∙ ap (λ (j : ℕ). key.Local j) here.1, is.1), here.0))
      (sees.no_more uuid m has);
}

-- ---- a walk over the items

abbrev Rowed : Type 0
Rowed = Key × Value

-- the item of a row is sound, numbered, and seen
abbrev pub Passed : Seen → ℕ → Key → Value → Type 0
Passed seen next k v = (n : ℕ) (local : LocalItem) → IsItemRow k v n local → (n < next) × IsSoundItem (columns local) × HasSeen seen local.uuid n

-- the items so far passed, just these are seen, and what was found is a row
pub record Walked (map : RowMap) (seen : Seen) (next : ℕ) (found : Option Rowed) : Type 0 where
  pub passed : PassedOrAhead (Passed seen next) map kind.Local found
  pub stand : (uuid : Bytes) (n : ℕ) → HasSeen seen uuid n → (local : LocalItem) × HasItem (row_in map) uuid n local
  pub found_is : IfSome found (λ r. (key_kind r.0 ≡ kind.Local) × (row_in map r.0 ≡ Some r.1))

first_is : (map : RowMap) (found : Option Rowed) → IsFirst map kind.Local found → IfSome found (λ r. (key_kind r.0 ≡ kind.Local) × (row_in map r.0 ≡ Some r.1))
first_is map None first = tt
first_is map (Some r) first = (first.passes, first.stands)

next_is : (map : RowMap) (k : Key) (found : Option Rowed) → key_kind k ≡ kind.Local → IsNext map k found
    → IfSome found (λ r. (key_kind r.0 ≡ kind.Local) × (row_in map r.0 ≡ Some r.1))
next_is map k None of next = tt
next_is map k (Some r) of next = (next.passes.0 ∙ of, next.stands)

pub none_seen : (seen : Seen) → seen.entries ≡ [] → (uuid : Bytes) (n : ℕ) → ¬ (HasSeen seen uuid n)
none_seen seen empty uuid n has =
    let none : get (slice_cmp nat_cmp) seen uuid ≡ None = rw (empty) refl in
    let wrong : None ≡ Some n = sym none ∙ has in absurd cc

pub walked_first : (map : RowMap) (seen : Seen) (next : ℕ) (found : Option Rowed) → ((uuid : Bytes) (n : ℕ) → ¬ (HasSeen seen uuid n))
    → IsFirst map kind.Local found → GoesOn map (rows_of map kind.Local) found → Walked map seen next found
walked_first map seen next found none first goes = record {
  passed = walk_begins (Passed seen next) map kind.Local found goes;
  stand = λ uuid n has. absurd (none uuid n has);
  found_is = first_is map found first;
}

-- what was found stands
stands : (map : RowMap) (seen : Seen) (next : ℕ) (found : Option Rowed) (k : Key) (v : Value) → Walked map seen next found → found ≡ Some (k, v)
    → (key_kind k ≡ kind.Local) × (row_in map k ≡ Some v)
stands map seen next found k v walked is =
    subst (λ (f : Option Rowed). IfSome f (λ r. (key_kind r.0 ≡ kind.Local) × (row_in map r.0 ≡ Some r.1))) is walked.found_is

pub walked_more : (map : RowMap) (old new : Seen) (next : ℕ) (found after : Option Rowed) (k : Key) (v : Value) → Walked map old next found
    → found ≡ Some (k, v) → IsSoundRow old next k v → SeesRow old new k v → IsNext map k after → GoesOn map (rows_behind map k) after
    → Walked map new next after
walked_more map old new next found after k v walked is sound sees follows goes =
    let here = stands map old next found k v walked is in
    record {
      passed = walk_goes_on (Passed old next) (Passed new next) map kind.Local k v found after
          (λ a b passed n local row. (let was = passed n local row in (was.0, was.1, sees.kept local.uuid n was.2)))
          walked.passed is
          (λ n local row. (let own = sound n local row in (own.numbered, own.item, sees.here n local row)))
          goes;
      stand = λ uuid n has. ⊎_elim
          (λ (before : HasSeen old uuid n). walked.stand uuid n before)
          (λ (now : (local : LocalItem) × IsItemRow k v n local × (local.uuid ≡ uuid)). (
            now.0,
            (ap (row_in map) (sym now.1.0) ∙ here.1 ∙ ap (λ (w : Value). Some w) now.1.1, now.2),
          ))
          (sees.no_more uuid n has);
      found_is = next_is map k after here.0 follows;
    }

-- where a row fails, the items aren't sound
pub walk_fails : (map : RowMap) (owner : OwnerRow) (seen : Seen) (found : Option Rowed) (k : Key) (v : Value) → HasOwner (row_in map) owner
    → Walked map seen owner.next found → found ≡ Some (k, v) → ¬ (IsSoundRow seen owner.next k v) → ¬ (AreSoundLocals (row_in map))
walk_fails map owner seen found k v owned walked is fails sound =
    let here = stands map seen owner.next found k v walked is in
    fails (λ n local row. (
    let own : HasLocal (row_in map) n local = ap (row_in map) (sym row.0) ∙ here.1 ∙ ap (λ (w : Value). Some w) row.1 in
    record {
      numbered = sound.numbered owner n local owned own;
      item = sound.items n local own;
      apart = λ other has. (let twin = walked.stand local.uuid other has in sound.apart other n twin.0 local twin.1.0 own twin.1.1);
    }
    ))

one_owner : (rows : Rows) (owner other : OwnerRow) → HasOwner rows owner → HasOwner rows other → owner ≡ other
one_owner rows owner other has holds = let same : Some (value.Owner owner) ≡ Some (value.Owner other) = sym has ∙ holds in cc

-- where all passed, they are
pub walk_over : (map : RowMap) (owner : OwnerRow) (seen : Seen) (found : Option Rowed) → HasOwner (row_in map) owner → Walked map seen owner.next found
    → AreRowsOf map kind.Local (rows_of map kind.Local) → found ≡ None → AreSoundLocals (row_in map)
walk_over map owner seen found owned walked are end =
    let passed : (n : ℕ) (local : LocalItem) → HasLocal (row_in map) n local → (n < owner.next) × IsSoundItem (columns local) × HasSeen seen local.uuid n =
    λ n local own. walk_ends (Passed seen owner.next) map kind.Local found walked.passed are end (key.Local n) (value.Local local) refl own n local (refl, refl) in
    record {
      numbered = λ other n local holds own. subst (λ (o : OwnerRow). n < o.next) (one_owner (row_in map) owner other owned holds) (passed n local own).0;
      apart = λ n other local twin own its same.
          let first : HasSeen seen twin.uuid n = subst (λ (u : Bytes). HasSeen seen u n) same (passed n local own).2 in
          let second : HasSeen seen twin.uuid other = (passed other twin its).2 in
          let both : Some n ≡ Some other = sym first ∙ second in cc;
      items = λ n local own. (passed n local own).1;
    }

-- ---- key sets

-- where a set is found, it stands
pub set_there : (rows : Rows) (slot : Slot) (found : Option (Bor SetRow)) (b : Bool) → IfSome found (λ s. HasSet rows slot s.now) → is_some found ≡ not b
    → b ≡ false → (keys : SetRow) × HasSet rows slot keys
set_there rows slot None b some is none = absurd (let wrong : false ≡ true = is ∙ ap not none in cc)
set_there rows slot (Some s) b some is none = (s.now, some)

pub set_lacks : (rows : Rows) (slot : Slot) (found : Option (Bor SetRow)) (b : Bool) → IfNone found (rows (key.Set slot) ≡ None) → is_some found ≡ not b
    → b ≡ true → (keys : SetRow) → ¬ (HasSet rows slot keys)
set_lacks rows slot None b lacks is none keys has = let wrong : None ≡ Some (value.Set keys) = sym lacks ∙ has in absurd cc
set_lacks rows slot (Some s) b lacks is none keys has = absurd (let wrong : true ≡ false = is ∙ ap not none in cc)

-- the sets of an account without a present one aren't sound
pub no_present : (rows : Rows) (owned : (owner : OwnerRow) × HasOwner rows owner) → ((keys : SetRow) → ¬ (HasSet rows Present keys)) → ¬ (AreSoundSets rows)
no_present rows owned lacks sound = let there = sound.present owned.0 owned.1 in lacks there.0 there.1

-- with a present one, and with an asked one, they are where there is no older one
pub asked_alone : (rows : Rows) (found : Option (Bor SetRow)) (b : Bool) → (present : (keys : SetRow) × HasSet rows Present keys)
    → (asked : (keys : SetRow) × HasSet rows Asked keys) → IfSome found (λ s. HasSet rows Older s.now) → IfNone found (rows (key.Set Older) ≡ None)
    → is_some found ≡ not b → (IsTrue b ↔ AreSoundSets rows)
asked_alone rows found b present asked some lacks is = (
  λ none. record {
    present = λ owner has. present;
    asked_alone = λ own older stands other. set_lacks rows Older found b lacks is none older other;
  },
  λ sound. ⊎_elim
      (λ (none : b ≡ true). none)
      (λ (there : b ≡ false). (let older = set_there rows Older found b some is there in absurd (sound.asked_alone asked.0 older.0 asked.1 older.1)))
      (cases_Bool b),
)

pub none_asked : (rows : Rows) → (keys : SetRow) × HasSet rows Present keys → ((keys : SetRow) → ¬ (HasSet rows Asked keys)) → AreSoundSets rows
none_asked rows present lacks = record { present = λ owner has. present; asked_alone = λ asked older stands other. lacks asked stands }

-- ---- the kinds together

-- without an account, rows without sets and items are none
pub nothing_left : (rows : Rows) → AreOfDevice rows → HasNoAccount rows → ((k : Key) → key_kind k ≡ kind.Set → rows k ≡ None)
    → ((k : Key) → key_kind k ≡ kind.Local → rows k ≡ None) → (k : Key) (v : Value) → ¬ (rows k ≡ Some v)
nothing_left rows device none sets locals key.Store v is = let wrong = device.own key.Store v is in absurd cc
nothing_left rows device none sets locals (key.Account n) v is = let wrong = device.own (key.Account n) v is in absurd cc
nothing_left rows device none sets locals (key.Generation n g) v is = let wrong = device.own (key.Generation n g) v is in absurd cc
nothing_left rows device none sets locals (key.Item u) v is = let wrong = device.own (key.Item u) v is in absurd cc
nothing_left rows device none sets locals key.Owner v is = let wrong : None ≡ Some v = sym none ∙ is in absurd cc
nothing_left rows device none sets locals (key.Set s) v is = let wrong : None ≡ Some v = sym (sets (key.Set s) refl) ∙ is in absurd cc
nothing_left rows device none sets locals (key.Local n) v is = let wrong : None ≡ Some v = sym (locals (key.Local n) refl) ∙ is in absurd cc

pub sound_empty : (rows : Rows) → AreOfDevice rows → ((k : Key) (v : Value) → ¬ (rows k ≡ Some v)) → IsSound rows
sound_empty rows device none = record {
  device = device;
  owner = λ at v is. absurd (none at v is);
  sets = record { present = λ owner is. absurd (none key.Owner (value.Owner owner) is); asked_alone = λ asked older is. absurd (none (key.Set Asked) (value.Set asked) is) };
  locals = record {
    numbered = λ owner n local is own. absurd (none key.Owner (value.Owner owner) is);
    apart = λ n other local twin is stands same. absurd (none (key.Local n) (value.Local local) is);
    items = λ n local is. absurd (none (key.Local n) (value.Local local) is);
  };
}

-- a row without an account is unsound
pub owner_lacks : (rows : Rows) (k : Key) (v : Value) → HasNoAccount rows → rows k ≡ Some v → ¬ (HasSoundOwner rows)
owner_lacks rows k v none is sound =
    let owned = sound k v is in
    let wrong : None ≡ Some (value.Owner owned.0) = sym none ∙ owned.1 in absurd cc

pub sound_whole : (rows : Rows) (owner : OwnerRow) → AreOfDevice rows → HasOwner rows owner → AreSoundSets rows → AreSoundLocals rows → IsSound rows
sound_whole rows owner device owned sets locals = record {
  device = device;
  owner = λ at v is. (owner, owned);
  sets = sets;
  locals = locals;
}

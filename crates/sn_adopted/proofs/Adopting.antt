-- The rows of a device that adopts a set by its own step.
use Rattle.std.proofs.Common.{◌≡◌, ◌≢◌, ◌<◌, ◌||◌, ℕ, List, [], ◌∷◌, All, Bool, true, false, Some, None, refl, sym, ap, ◌∙◌, subst, inl, arith}
use Rattle.std.proofs.lemmas.Bool.Decides.{nat_tests}
use Rattle.std.proofs.lemmas.List.Elements.{All-head, All-tail}
use Rattle.std.specs.Prelude.{◌==◌, length}
use Rattle.rand_chacha.specs.ChaCha.{ChaCha}
use Rattle.sn_device.proofs.Facts.{Adopted, IsAdopted as IsRekeyed, adopted, adopted_device, adopted_sets}
use Rattle.sn_device.specs.States.{HasLocal, OwnerColumns}
use Rattle.sn_device.specs.Steps.{Adopts}
use Rattle.sn_journal.specs.declared.owner.Owner.TheVariants.{Device as device_owner}
use Rattle.sn_laws.proofs.Facts.{retired}
use Rattle.sn_laws.specs.Lookups.{Bytes, greatest, is_device}
use Rattle.sn_laws.specs.Moves.{after, without}
use Rattle.sn_laws.specs.Reached.{IsOneOrTwo, NoncesApart}
use Rattle.sn_laws.specs.Runs.{end_from}
use Rattle.sn_laws.specs.declared.ideal.Account.{Account}
use Rattle.sn_laws.specs.declared.ideal.Device.{Device}
use Rattle.sn_laws.specs.declared.ideal.Ideal.{Ideal}
use Rattle.sn_laws.specs.declared.moves.Move.TheVariants.{Retire}
use Rattle.sn_rekey.specs.Rekeying.{IsClosed, Rekeys, RewrapsPlace}
use Rattle.sn_rows.specs.Facts.{apart_keys, removed_elsewhere, spared_stays}
use Rattle.sn_rows.specs.Kinds.{key_kind}
use Rattle.sn_rows.specs.Table.{Removes, Rows, Spares, key_of, rows_after}
use Rattle.sn_rows.specs.declared.body.RowBody.TheVariants as body
use Rattle.sn_rows.specs.declared.change.Change.{Change}
use Rattle.sn_rows.specs.declared.change.Change.TheVariants.{Remove}
use Rattle.sn_rows.specs.declared.device_rows.LocalItem.{LocalItem}
use Rattle.sn_rows.specs.declared.key.Key.{Key}
use Rattle.sn_rows.specs.declared.key.Key.TheVariants as key
use Rattle.sn_rows.specs.declared.key.Slot.TheVariants.{Older}
use Rattle.sn_sets.specs.Sets.{OpensNowhere, sealed_of}
use Rattle.sn_shows.proofs.Facts.{adopted_shows, find_changed, greatest_of_one, greatest_of_two, holder_of, retired_shows}
use Rattle.sn_shows.specs.Adopting.{AdoptsSet, HasItemAt, WasAdopted}
use Rattle.sn_shows.specs.Devices.{IsDeviceKey, ShowsDevice, ShowsHolder, ShowsLocal}
use Rattle.sn_shows.specs.Laws.{HasAccount}
use Rattle.sn_shows.specs.Sets.{OpensUnder, set_at}
use Rattle.sn_string.specs.declared.params.KeySet.{KeySet}
use Rattle.sn_table.specs.Batches.{IsOf, owner_of_kind}
use Rattle.sn_adopted.proofs.Older.{places_not}
use Rattle.sn_adopted.proofs.Places.{NoneOlder, by_present, none_alone, row_adopted}
use Rattle.sn_adopted.proofs.SetRows.{alone_none, identifier_of, older_at, present_at, row_of_set}
use Rattle.sn_adopted.specs.Laws.{AdoptHolds, AdoptShows}
use Rattle.sn_adopted.specs.Moves.{OlderStale, adopting}

-- ---- changes of a device's rows leave every other row

device_key : (k : Key) → owner_of_kind (key_kind k) ≡ device_owner → IsDeviceKey k
device_key key.Store e = absurd (cc)
device_key (key.Account number) e = absurd (cc)
device_key (key.Generation number generation) e = absurd (cc)
device_key (key.Item uuid) e = absurd (cc)
device_key key.Owner e = tt
device_key (key.Set slot) e = tt
device_key (key.Local number) e = tt

spared : (k : Key) → ¬ (IsDeviceKey k) → (changes : List Change) → All (IsOf device_owner) changes → Spares k changes
spared k off [] all = tt
spared k off (c ∷ cs) all = (
  apart_keys (key_of c) k
      (λ e. off (device_key k (ap (λ (q : Key). owner_of_kind (key_kind q)) (sym e) ∙ All-head (IsOf device_owner) c cs all))),
  spared k off cs (All-tail (IsOf device_owner) c cs all),
)

-- ---- the set that is left of two

present_left : (older present : ℕ) → older < present → without (λ m. m == older) (older ∷ present ∷ []) ≡ present ∷ []
present_left older present lt =
    let own : (older == older) ≡ true = grind (arith) in
    let apart : (present == older) ≡ false = grind (arith, nat_tests, lt) in
    rw (own, apart) refl

-- ---- the step

module _ (rows : Rows) (words left : ChaCha) (set : KeySet) (token : Bytes) (number : ℕ) (changes : List Change) (s : Ideal) (name : Bytes) (d : Device)
    (a : Account) (shows : ShowsDevice rows s name) (has : HasAccount s name d a) (only : OlderStale rows a d.held) (apart : NoncesApart a)
    (new : set_at number a.sets ≡ Some set) (above : greatest 0 d.held < number) (x : Adopts rows words set token changes left) where
  abbrev now : Rows
  now = rows_after rows changes

  its : Adopted rows x.sets set token x.owner now
  its = adopted rows words left set token changes x

  holder : ShowsHolder rows s name d a
  holder = holder_of rows s name d a shows has

  own : x.owner.identifier ≡ a.identifier
  own = identifier_of rows s name d a x.owner holder x.holds.owned

  others : (k : Key) → ¬ (IsDeviceKey k) → now k ≡ rows k
  others k off = spared_stays (rows k) k changes (spared k off changes (adopted_device rows words left set token changes x))

  -- the set that was present has this number, and each row's places open under it, if under any
  module _ (old : ℕ) (at_old : set_at old a.sets ≡ Some x.sets.present)
      (none : (local : ℕ) (item : LocalItem) → HasLocal rows local item
      → NoneOlder x.sets item.uuid item.body × NoneOlder x.sets item.uuid item.latest × NoneOlder x.sets item.uuid item.posted) where
    -- over rows that are the same but for sets
    module _ (base : Rows) (same : (local : ℕ) → base (key.Local local) ≡ rows (key.Local local)) (spares : (k : Key) → ¬ (IsDeviceKey k) → base k ≡ rows k) where
      was : (local : ℕ) (again : LocalItem) → HasLocal now local again → WasAdopted base a old number local again
      was local again found =
          let before = its.items local again found in
          let places = none local before.0 before.1 in
          record {
            item = before.0;
            stood = same local ∙ before.1;
            is = row_adopted a x.sets set old number at_old new before.2.words before.2.left before.0 again places.0 places.1 places.2 before.2.rekeys;
          }

      stay : (local : ℕ) → HasItemAt base local → HasItemAt now local
      stay local (item, stands) = let after = its.there local item (sym (same local) ∙ stands) in (after.0, after.1)

      rows_adopted : AdoptsSet base now a old number
      rows_adopted = record {
        owner = record {
          owner = its.later;
          stands = its.owned;
          identifier = ap (λ (c : OwnerColumns). c.identifier) its.columns_are ∙ own;
        };
        present = record { row = its.present.0; stands = its.present.1; is = row_of_set a number its.present.0 x.owner.identifier set own new its.present.2 };
        older = its.older.0;
        older_stands = its.older.1;
        older_is = row_of_set a old its.older.0 x.owner.identifier x.sets.present own at_old its.older.2;
        items = was;
        stay = stay;
        others = λ k off. others k off ∙ sym (spares k off);
      }

  -- of the set that was present each row is stale
  stale_after : (old : ℕ) → set_at old a.sets ≡ Some x.sets.present → OlderStale now a (old ∷ number ∷ [])
  stale_after old at_old local again strings text found is opens = by before.2.rekeys.body_again before.2.rekeys.body_is before.2.rekeys.stale_is
    where
      before : (item : LocalItem) × HasLocal rows local item × IsRekeyed x.sets set item again
      before = its.items local again found

      r : Rekeys x.sets set before.2.words before.0 again before.2.left
      r = before.2.rekeys

      by : (sealed : Bool) → RewrapsPlace x.sets set before.2.words before.0.uuid sealed before.0.body again.body r.second
          → again.stale ≡ (sealed || before.0.stale) → again.stale ≡ true
      by true place stale = stale
      by false place stale =
          let same : before.0.body ≡ Some (body.Sealed strings) = sym place.same ∙ is in
          let closed : OpensNowhere x.sets before.0.uuid (sealed_of strings) = subst (IsClosed x.sets before.0.uuid) same place.closed in
          let under : OpensUnder a.sets old before.0.uuid (sealed_of strings) text =
          subst (λ (u : Bytes). OpensUnder a.sets old u (sealed_of strings) text) r.uuid_is opens in
          absurd (closed text (inl (by_present a x.sets set old number at_old new before.0.uuid (sealed_of strings) text under)))

  -- ---- of one set that is held

  at_greatest : set_at (greatest 0 d.held) a.sets ≡ Some x.sets.present
  at_greatest = present_at rows s name d a x.owner x.sets holder x.holds

  from_one : (old : ℕ) → d.held ≡ old ∷ [] → ShowsDevice now (end_from s (adopting name a.identifier number (old ∷ []))) name
  from_one old alone =
      let is : greatest 0 d.held ≡ old = ap (greatest 0) alone ∙ greatest_of_one old in
      let at_old : set_at old a.sets ≡ Some x.sets.present = subst (λ (n : ℕ). set_at n a.sets ≡ Some x.sets.present) is at_greatest in
      let none : x.sets.older ≡ None = alone_none rows s name d a x.owner x.sets holder x.holds old alone in
      adopted_shows rows now s name d a old number shows has alone (subst (λ (n : ℕ). n < number) is above) apart
      (rows_adopted old at_old
      (λ local item stands. (none_alone x.sets item.uuid item.body none, none_alone x.sets item.uuid item.latest none, none_alone x.sets item.uuid item.posted none))
      rows (λ local. refl) (λ k off. refl))

  -- ---- of two

  abbrev gone : Change
  gone = Remove (key.Set Older)

  abbrev mid : Rows
  mid = rows_after rows (gone ∷ [])

  goes : Removes gone (key.Set Older)
  goes = record { key_is = refl; value_is = refl }

  past : (k : Key) → key.Set Older ≢ k → mid k ≡ rows k
  past k off = removed_elsewhere rows gone (key.Set Older) k goes off

  from_two : (older old : ℕ) → d.held ≡ older ∷ old ∷ [] → older < old → ShowsDevice now (end_from s (adopting name a.identifier number (older ∷ old ∷ []))) name
  from_two older old both lt =
      let is : greatest 0 d.held ≡ old = ap (greatest 0) both ∙ greatest_of_two older old lt in
      let at_old : set_at old a.sets ≡ Some x.sets.present = subst (λ (n : ℕ). set_at n a.sets ≡ Some x.sets.present) is at_greatest in
      let none = places_not rows s name a x.sets older old at_old (older_at rows s name d a x.owner x.sets holder x.holds older old both)
      (subst (OlderStale rows a) both only) in
      let first : ShowsDevice mid (after s (Retire name older)) name = retired_shows rows s name d a older old gone shows has both lt goes in
      let left_has : HasAccount (after s (Retire name older)) name (retired older d) a =
      record { device = find_changed (is_device name) (retired older) (λ e. refl) s.devices d has.device; account = has.account } in
      adopted_shows mid now (after s (Retire name older)) name (retired older d) a old number first left_has
      (ap (without (λ m. m == older)) both ∙ present_left older old lt) (subst (λ (n : ℕ). n < number) is above) apart
      (rows_adopted old at_old
      (λ local item stands. none local item stands (subst (λ (n : ℕ). ShowsLocal s name n a item) is (holder.locals local item stands)))
      mid (λ local. past (key.Local local) (λ e. cc)) (λ k off. past k (λ e. off (subst IsDeviceKey e tt))))

  shows_adopted : (held : List ℕ) → d.held ≡ held → IsOneOrTwo (length a.sets) held → ShowsDevice now (end_from s (adopting name a.identifier number held)) name
  shows_adopted [] e are = absurd are
  shows_adopted (old ∷ []) e are = from_one old e
  shows_adopted (older ∷ old ∷ []) e are = from_two older old e are.1
  shows_adopted (older ∷ old ∷ m ∷ more) e are = absurd are

pub adopt_shows : AdoptShows
adopt_shows rows words left set token number changes s name d a shows has held only apart new above x = (
  shows_adopted rows words left set token number changes s name d a shows has only apart new above x d.held refl held,
  stale_after rows words left set token number changes s name d a shows has only apart new above x (greatest 0 d.held)
      (at_greatest rows words left set token number changes s name d a shows has only apart new above x),
  (adopted rows words left set token changes x).asked,
)

pub adopt_holds : AdoptHolds
adopt_holds rows words left set token changes x =
    let its : Adopted rows x.sets set token x.owner (rows_after rows changes) = adopted rows words left set token changes x in
    record { later = its.later; columns_are = its.columns_are; holds = adopted_sets rows x.sets set token x.owner (rows_after rows changes) its }

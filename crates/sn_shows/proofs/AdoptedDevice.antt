-- The rows of a device that adopts a set.
use Rattle.std.proofs.Common.{◌≡◌, ◌<◌, ℕ, [], ◌∷◌, ◌++◌, Option, Some, refl, sym, ap, ◌∙◌, subst}
use Rattle.std.specs.Prelude.{IsSome}
use Rattle.sn_laws.specs.Lookups.{Bytes, device_named, draft_at, greatest, is_device}
use Rattle.sn_laws.specs.Moves.{after, joined}
use Rattle.sn_laws.specs.Reached.{NoncesApart}
use Rattle.sn_laws.specs.declared.ideal.Account.{Account}
use Rattle.sn_laws.specs.declared.ideal.Device.{Device}
use Rattle.sn_laws.specs.declared.ideal.Draft.{Draft}
use Rattle.sn_laws.specs.declared.ideal.Ideal.{Ideal}
use Rattle.sn_laws.specs.declared.moves.Move.TheVariants.{Join}
use Rattle.sn_rows.specs.Table.{Rows}
use Rattle.sn_rows.specs.declared.device_rows.LocalItem.{LocalItem}
use Rattle.sn_rows.specs.declared.key.Key.{Key}
use Rattle.sn_rows.specs.declared.key.Key.TheVariants as key
use Rattle.sn_rows.specs.declared.key.Slot.TheVariants.{Older}
use Rattle.sn_rows.specs.declared.value.Value.{Value}
use Rattle.sn_rows.specs.declared.value.Value.TheVariants as value
use Rattle.sn_shows.proofs.AdoptedItems.{adopted_local}
use Rattle.sn_shows.proofs.AdoptedSets.{greatest_of_one, greatest_of_two}
use Rattle.sn_shows.proofs.DeviceLookups.{find_changed}
use Rattle.sn_shows.proofs.DeviceStates.{holder_of, shows_of}
use Rattle.sn_shows.specs.Adopting.{AdoptedShows, AdoptsSet, WasAdopted}
use Rattle.sn_shows.specs.Devices.{HasRow, IsDeviceKey, ShowsHolder, ShowsLocal, ShowsOlder, ShowsPresent}
use Rattle.std.specs.Prelude.{find}

-- which keys are a device's
device_key : (k : Key) → (¬ (IsDeviceKey k) → IsDeviceKey k) → IsDeviceKey k
device_key key.Store h = h (λ e. e)
device_key (key.Account number) h = h (λ e. e)
device_key (key.Generation number generation) h = h (λ e. e)
device_key (key.Item uuid) h = h (λ e. e)
device_key key.Owner h = tt
device_key (key.Set slot) h = tt
device_key (key.Local number) h = tt

module _ (rows later : Rows) (s t : Ideal) (name : Bytes) (d e : Device) (a : Account) (old number : ℕ) (h : ShowsHolder rows s name d a)
    (p : AdoptsSet rows later a old number) (alone : d.held ≡ old ∷ []) (both : e.held ≡ old ∷ number ∷ []) (lt : old < number) (apart : NoncesApart a)
    (same : (uuid : Bytes) → draft_at t name uuid ≡ draft_at s name uuid) where
  was_greatest : greatest 0 d.held ≡ old
  was_greatest = ap (greatest 0) alone ∙ greatest_of_one old

  is_greatest : greatest 0 e.held ≡ number
  is_greatest = ap (greatest 0) both ∙ greatest_of_two old number lt

  locals : (local : ℕ) (again : LocalItem) → later (key.Local local) ≡ Some (value.Local again) → ShowsLocal t name number a again
  locals local again stands =
      let was : WasAdopted rows a old number local again = p.items local again stands in
      let shown : ShowsLocal s name old a was.item =
      subst (λ (n : ℕ). ShowsLocal s name n a was.item) was_greatest (h.locals local was.item was.stood) in
      adopted_local a old number was.item again was.is s t name apart lt (same was.item.uuid) shown

  once : (n m : ℕ) (again twin : LocalItem) → later (key.Local n) ≡ Some (value.Local again) → later (key.Local m) ≡ Some (value.Local twin)
      → again.uuid ≡ twin.uuid → n ≡ m
  once n m again twin stands too k =
      let first : WasAdopted rows a old number n again = p.items n again stands in
      let second : WasAdopted rows a old number m twin = p.items m twin too in
      h.once n m first.item second.item first.stood second.stood (sym first.is.uuid_is ∙ k ∙ second.is.uuid_is)

  drafts : (uuid : Bytes) (draft : Draft) → draft_at t name uuid ≡ Some draft → HasRow later uuid
  drafts uuid draft found =
      let row : HasRow rows uuid = h.drafts uuid draft (sym (same uuid) ∙ found) in
      let now = p.stay row.number (row.item, row.stands) in
      let was : WasAdopted rows a old number row.number now.0 = p.items row.number now.0 now.1 in
      let is : was.item ≡ row.item = same_item was.item row.item was.stood row.stands in
      record {
        number = row.number;
        item = now.0;
        stands = now.1;
        item_is = was.is.uuid_is ∙ ap (λ (x : LocalItem). x.uuid) is ∙ row.item_is;
      }
    where
      same_item : {found : Option Value} (x y : LocalItem) → found ≡ Some (value.Local x) → found ≡ Some (value.Local y) → x ≡ y
      same_item x y e k = cc

  no_other : (k : Key) → IsSome (later k) → IsDeviceKey k
  no_other k some = device_key k (λ off. h.no_other k (subst (λ (o : Option Value). IsSome o) (p.others k off) some))

  adopted_holder : ShowsHolder later t name e a
  adopted_holder = record {
    owner = p.owner;
    present = subst (λ (n : ℕ). ShowsPresent later a n) (sym is_greatest) p.present;
    older = subst (ShowsOlder a (later (key.Set Older))) (sym both) (p.older, p.older_stands, p.older_is);
    locals = λ local again stands. subst (λ (n : ℕ). ShowsLocal t name n a again) (sym is_greatest) (locals local again stands);
    once = once;
    drafts = drafts;
    no_other = no_other;
  }

-- the device that a join leaves
abbrev joined_device : Device → ℕ → Device
joined_device d number = record d { held = d.held ++ number ∷ [] }

joined_named : (s : Ideal) (name identifier : Bytes) (number : ℕ) (d : Device) → device_named s name ≡ Some d
    → device_named (after s (Join name identifier number)) name ≡ Some (joined_device d number)
joined_named s name identifier number d e =
    ap (λ (found : Option Device). find (is_device name) (joined s.devices name identifier number found)) e
    ∙ find_changed (is_device name) (λ x. joined_device x number) (λ x. refl) s.devices d e

pub adopted_shows : AdoptedShows
adopted_shows rows later s name d a old number h has alone lt apart p =
    shows_of later (after s (Join name a.identifier number)) name (joined_device d number) a
    (record { device = joined_named s name a.identifier number d has.device; account = has.account })
    (adopted_holder rows later s (after s (Join name a.identifier number)) name d (joined_device d number) a old number
    (holder_of rows s name d a h has) p alone (ap (λ held. held ++ number ∷ []) alone) lt apart (λ uuid. refl))

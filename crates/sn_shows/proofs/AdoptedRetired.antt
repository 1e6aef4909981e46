-- The rows of a device whose older set goes, and what these moves leave of what other devices' rows show.
use Rattle.std.proofs.Common.{◌≡◌, ◌≢◌, ◌<◌, ℕ, [], ◌∷◌, Option, Some, Bool, true, false, refl, sym, ap, ◌∙◌, subst, arith}
use Rattle.std.proofs.lemmas.Bool.Decides.{nat_tests}
use Rattle.std.specs.Prelude.{◌==◌, IsSome}
use Rattle.sn_laws.proofs.Facts.{clash, same_text}
use Rattle.sn_laws.specs.Lookups.{Bytes, draft_at, greatest, is_device, is_draft}
use Rattle.sn_laws.specs.Moves.{after, unposted, without}
use Rattle.sn_laws.specs.declared.ideal.Account.{Account}
use Rattle.sn_laws.specs.declared.ideal.Device.{Device}
use Rattle.sn_laws.specs.declared.ideal.Draft.{Draft}
use Rattle.sn_laws.specs.declared.ideal.Ideal.{Ideal}
use Rattle.sn_laws.specs.declared.moves.Move.TheVariants.{Retire, Unpost}
use Rattle.sn_rows.specs.Facts.{keys_compare, removed_elsewhere, removed_here}
use Rattle.sn_rows.specs.Table.{Removes, Rows, rows_after, same_key}
use Rattle.sn_rows.specs.declared.change.Change.{Change}
use Rattle.sn_rows.specs.declared.device_rows.LocalItem.{LocalItem}
use Rattle.sn_rows.specs.declared.key.Key.{Key}
use Rattle.sn_rows.specs.declared.key.Key.TheVariants as key
use Rattle.sn_rows.specs.declared.key.Slot.TheVariants.{Older, Present}
use Rattle.sn_rows.specs.declared.value.Value.{Value}
use Rattle.sn_rows.specs.declared.value.Value.TheVariants as value
use Rattle.sn_shows.proofs.AdoptedSets.{greatest_of_one, greatest_of_two}
use Rattle.sn_shows.proofs.DeviceLookups.{find_changed, find_past_changed}
use Rattle.sn_shows.proofs.DeviceStates.{draft_is, holder_of, local_alike, not_device, not_of_device, shows_alike, shows_of}
use Rattle.sn_shows.specs.Adopting.{RetireKeeps, RetiredShows, UnpostKeeps}
use Rattle.sn_shows.specs.Devices.{HasRow, IsDeviceKey, ShowsHolder, ShowsLocal, ShowsOlder, ShowsPresent}

-- ---- the set that is left

abbrev retired_device : ℕ → Device → Device
retired_device number d = record d { held = without (λ m. m == number) d.held }

present_left : (older present : ℕ) → older < present → without (λ m. m == older) (older ∷ present ∷ []) ≡ present ∷ []
present_left older present lt =
    let own : (older == older) ≡ true = grind (arith) in
    let apart : (present == older) ≡ false = grind (arith, nat_tests, lt) in
    rw (own, apart) refl

module _ (rows : Rows) (s t : Ideal) (name : Bytes) (d e : Device) (a : Account) (older present : ℕ) (change : Change) (h : ShowsHolder rows s name d a)
    (gone : Removes change (key.Set Older)) (both : d.held ≡ older ∷ present ∷ []) (alone : e.held ≡ present ∷ []) (lt : older < present)
    (same : (uuid : Bytes) → draft_at t name uuid ≡ draft_at s name uuid) where
  abbrev later : Rows
  later = rows_after rows (change ∷ [])

  away : (k : Key) → key.Set Older ≢ k → later k ≡ rows k
  away k apart = removed_elsewhere rows change (key.Set Older) k gone apart

  same_greatest : greatest 0 d.held ≡ greatest 0 e.held
  same_greatest = ap (greatest 0) both ∙ greatest_of_two older present lt ∙ sym (ap (greatest 0) alone ∙ greatest_of_one present)

  local_before : (local : ℕ) (item : LocalItem) → later (key.Local local) ≡ Some (value.Local item) → rows (key.Local local) ≡ Some (value.Local item)
  local_before local item stands = sym (away (key.Local local) (λ k. cc)) ∙ stands

  no_other : (k : Key) → IsSome (later k) → IsDeviceKey k
  no_other k some = by (same_key (key.Set Older) k) refl
    where
      by : (b : Bool) → same_key (key.Set Older) k ≡ b → IsDeviceKey k
      by true is = subst IsDeviceKey ((keys_compare (key.Set Older) k).0 is) tt
      by false off =
          let stays : later k ≡ rows k = away k (λ is. clash (same_key (key.Set Older) k) ((keys_compare (key.Set Older) k).1 is) off) in
          h.no_other k (subst (λ (o : Option Value). IsSome o) stays some)

  drafts : (uuid : Bytes) (draft : Draft) → draft_at t name uuid ≡ Some draft → HasRow later uuid
  drafts uuid draft found =
      let row : HasRow rows uuid = h.drafts uuid draft (sym (same uuid) ∙ found) in
      record { number = row.number; item = row.item; stands = away (key.Local row.number) (λ k. cc) ∙ row.stands; item_is = row.item_is }

  present_stays : ShowsPresent later a (greatest 0 d.held)
  present_stays = record { row = h.present.row; stands = away (key.Set Present) (λ k. cc) ∙ h.present.stands; is = h.present.is }

  locals : (local : ℕ) (item : LocalItem) → later (key.Local local) ≡ Some (value.Local item) → ShowsLocal t name (greatest 0 e.held) a item
  locals local item stands =
      let shown : ShowsLocal s name (greatest 0 d.held) a item = h.locals local item (local_before local item stands) in
      local_alike s t name (greatest 0 e.held) a item (same item.uuid) (subst (λ (n : ℕ). ShowsLocal s name n a item) same_greatest shown)

  retired_holder : ShowsHolder later t name e a
  retired_holder = record {
    owner = record { owner = h.owner.owner; stands = away key.Owner (λ k. cc) ∙ h.owner.stands; identifier = h.owner.identifier };
    present = subst (λ (n : ℕ). ShowsPresent later a n) same_greatest present_stays;
    older = subst (ShowsOlder a (later (key.Set Older))) (sym alone) (removed_here rows change (key.Set Older) gone);
    locals = locals;
    once = λ n m item twin stands too k. h.once n m item twin (local_before n item stands) (local_before m twin too) k;
    drafts = drafts;
    no_other = no_other;
  }

pub retired_shows : RetiredShows
retired_shows rows s name d a older present change h has both lt gone =
    let held : without (λ m. m == older) d.held ≡ present ∷ [] = ap (without (λ m. m == older)) both ∙ present_left older present lt in
    shows_of (rows_after rows (change ∷ [])) (after s (Retire name older)) name (retired_device older d) a
    (record {
      device = find_changed (is_device name) (retired_device older) (λ x. refl) s.devices d has.device;
      account = has.account;
    })
    (retired_holder rows s (after s (Retire name older)) name d (retired_device older d) a older present change (holder_of rows s name d a h has) gone both held lt
    (λ uuid. refl))

-- ---- what other devices' rows show

pub retire_keeps : RetireKeeps
retire_keeps rows s name other number apart h =
    shows_alike rows s (after s (Retire name number)) other
    (find_past_changed (is_device other) (is_device name) (retired_device number)
    (λ e k. not_device name other e apart (same_text e.name name k))
    (λ e k. not_device name other (retired_device number e) apart (same_text e.name name k)) s.devices)
    (λ i. refl) (λ u. refl) h

pub unpost_keeps : UnpostKeeps
unpost_keeps rows s name other uuid apart h =
    shows_alike rows s (after s (Unpost name uuid)) other refl (λ i. refl)
    (λ mine. find_past_changed (is_draft other mine) (is_draft name uuid) unposted
    (λ d e. not_of_device name other mine d apart (draft_is name uuid d e).0)
    (λ d e. not_of_device name other mine (unposted d) apart (draft_is name uuid d e).0)
    s.drafts)
    h

-- A row taken away, with the draft that it had if it had one.
use Rattle.std.proofs.Common.{◌≡◌, ◌≢◌, ℕ, [], ◌∷◌, Option, Some, None, Bool, true, false, refl, sym, ap, ◌∙◌, subst}
use Rattle.std.specs.Prelude.{IsSome}
use Rattle.sn_laws.proofs.Facts.{clash}
use Rattle.sn_laws.specs.Lookups.{Bytes, draft_at, greatest, is_draft}
use Rattle.sn_laws.specs.Moves.{after}
use Rattle.sn_laws.specs.declared.ideal.Account.{Account}
use Rattle.sn_laws.specs.declared.ideal.Device.{Device}
use Rattle.sn_laws.specs.declared.ideal.Draft.{Draft}
use Rattle.sn_laws.specs.declared.ideal.Ideal.{Ideal}
use Rattle.sn_laws.specs.declared.moves.Move.TheVariants.{Settle}
use Rattle.sn_rows.specs.Facts.{keys_compare, removed_elsewhere, removed_here}
use Rattle.sn_rows.specs.Table.{Removes, Rows, rows_after, same_key}
use Rattle.sn_rows.specs.declared.change.Change.{Change}
use Rattle.sn_rows.specs.declared.device_rows.LocalItem.{LocalItem}
use Rattle.sn_rows.specs.declared.key.Key.{Key}
use Rattle.sn_rows.specs.declared.key.Key.TheVariants as key
use Rattle.sn_rows.specs.declared.key.Slot.TheVariants.{Older, Present}
use Rattle.sn_rows.specs.declared.value.Value.{Value}
use Rattle.sn_rows.specs.declared.value.Value.TheVariants as value
use Rattle.sn_shows.proofs.DeviceLookups.{find_past_without, find_without}
use Rattle.sn_shows.proofs.DeviceStates.{draft_is, holder_of, local_alike, not_of_item, shows_of}
use Rattle.sn_shows.specs.Devices.{HasRow, IsDeviceKey, ShowsDevice, ShowsHolder, ShowsOlder}
use Rattle.sn_shows.specs.Laws.{HasAccount}
use Rattle.sn_shows.specs.Meetings.{HasNone, RemovedShows}

some_kept : (found was : Option Value) → found ≡ was → IsSome found → IsSome was
some_kept found was e h = subst (λ (o : Option Value). IsSome o) e h

module _ (rows : Rows) (s next : Ideal) (name : Bytes) (local : ℕ) (item : LocalItem) (d : Device) (a : Account) (change : Change)
    (gone : Removes change (key.Local local)) (stands : rows (key.Local local) ≡ Some (value.Local item)) (h : ShowsHolder rows s name d a)
    (others : (uuid : Bytes) → uuid ≢ item.uuid → draft_at next name uuid ≡ draft_at s name uuid) (none : draft_at next name item.uuid ≡ None) where
  abbrev later : Rows
  later = rows_after rows (change ∷ [])

  here : later (key.Local local) ≡ None
  here = removed_here rows change (key.Local local) gone

  away : (k : Key) → key.Local local ≢ k → later k ≡ rows k
  away k apart = removed_elsewhere rows change (key.Local local) k gone apart

  -- what stands afterwards stood before, and is another row of another item
  stood : (number : ℕ) (it : LocalItem) → later (key.Local number) ≡ Some (value.Local it)
      → (rows (key.Local number) ≡ Some (value.Local it)) × (it.uuid ≢ item.uuid)
  stood number it e =
      let apart : key.Local local ≢ key.Local number = λ k. let none : later (key.Local number) ≡ None = ap later (sym k) ∙ here in cc in
      let was : rows (key.Local number) ≡ Some (value.Local it) = sym (away (key.Local number) apart) ∙ e in
      (was, λ same. apart (ap (λ (n : ℕ). key.Local n) (sym (h.once number local it item was stands same))))

  drafts : (uuid : Bytes) (draft : Draft) → draft_at next name uuid ≡ Some draft → HasRow later uuid
  drafts uuid draft e =
      let apart : uuid ≢ item.uuid = λ k. let same : draft_at next name uuid ≡ None = ap (draft_at next name) k ∙ none in cc in
      let row = h.drafts uuid draft (sym (others uuid apart) ∙ e) in
      let off : key.Local local ≢ key.Local row.number =
      λ k. apart (sym row.item_is ∙ ap (λ (x : LocalItem). x.uuid) (same_item row.item (ap rows (sym k) ∙ stands) row.stands)) in
      record { number = row.number; item = row.item; stands = away (key.Local row.number) off ∙ row.stands; item_is = row.item_is }
    where
      same_item : {found : Option Value} (x : LocalItem) → found ≡ Some (value.Local item) → found ≡ Some (value.Local x) → x ≡ item
      same_item x e k = cc

  holder : ShowsHolder later next name d a
  holder = record {
    owner = record { owner = h.owner.owner; stands = away key.Owner (λ e. cc) ∙ h.owner.stands; identifier = h.owner.identifier };
    present = record { row = h.present.row; stands = away (key.Set Present) (λ e. cc) ∙ h.present.stands; is = h.present.is };
    older = subst (λ (found : Option Value). ShowsOlder a found d.held) (sym (away (key.Set Older) (λ e. cc))) h.older;
    locals = λ number it e.
        let was = stood number it e in
        local_alike s next name (greatest 0 d.held) a it (others it.uuid was.1) (h.locals number it was.0);
    once = λ n m it twin e k same. h.once n m it twin (stood n it e).0 (stood m twin k).0 same;
    drafts = drafts;
    no_other = λ k some. no_other k some;
  }
    where
      no_other : (k : Key) → IsSome (later k) → IsDeviceKey k
      no_other k some = by (same_key (key.Local local) k) refl
        where
          by : (b : Bool) → same_key (key.Local local) k ≡ b → IsDeviceKey k
          by true e = subst IsDeviceKey ((keys_compare (key.Local local) k).0 e) tt
          by false e = h.no_other k (some_kept (later k) (rows k) (away k (λ same. clash (same_key (key.Local local) k) ((keys_compare (key.Local local) k).1 same) e)) some)

-- the row's draft goes with it
pub removed_shows : RemovedShows
removed_shows rows s name local item d a change shows has stands gone =
    shows_of (rows_after rows (change ∷ [])) (after s (Settle name item.uuid)) name d a (record { device = has.device; account = has.account })
    (holder rows s (after s (Settle name item.uuid)) name local item d a change gone stands (holder_of rows s name d a shows has)
    (λ uuid apart.
    find_past_without (is_draft name uuid) (is_draft name item.uuid)
    (λ x e. not_of_item name item.uuid uuid x apart (draft_is name item.uuid x e).1) s.drafts)
    (find_without (is_draft name item.uuid) s.drafts))

-- it had none
pub removed_clean : (rows : Rows) (s : Ideal) (name : Bytes) (local : ℕ) (item : LocalItem) (d : Device) (a : Account) (change : Change) → ShowsDevice rows s name
    → HasAccount s name d a → rows (key.Local local) ≡ Some (value.Local item) → Removes change (key.Local local) → draft_at s name item.uuid ≡ None
    → ShowsDevice (rows_after rows (change ∷ [])) s name
removed_clean rows s name local item d a change shows has stands gone none =
    shows_of (rows_after rows (change ∷ [])) s name d a has
    (holder rows s s name local item d a change gone stands (holder_of rows s name d a shows has) (λ uuid apart. refl) none)

-- no row of the item is left
pub none_left : (rows : Rows) (s : Ideal) (name : Bytes) (local : ℕ) (item : LocalItem) (d : Device) (a : Account) (change : Change) → ShowsDevice rows s name
    → HasAccount s name d a → rows (key.Local local) ≡ Some (value.Local item) → Removes change (key.Local local)
    → HasNone (rows_after rows (change ∷ [])) item.uuid
none_left rows s name local item d a change shows has stands gone number it e same =
    let off : key.Local local ≢ key.Local number =
    λ k. let none : rows_after rows (change ∷ []) (key.Local number) ≡ None = ap (rows_after rows (change ∷ [])) (sym k) ∙ removed_here rows change (key.Local local) gone in cc in
    let was : rows (key.Local number) ≡ Some (value.Local it) = sym (removed_elsewhere rows change (key.Local local) (key.Local number) gone off) ∙ e in
    off (ap (λ (n : ℕ). key.Local n) (sym ((holder_of rows s name d a shows has).once number local it item was stands same)))

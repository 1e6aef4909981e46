-- A put of an item's row: the rows after it show a state where the row shows its item and the drafts of all others are as before.
use Rattle.std.proofs.Common.{◌≡◌, ◌≢◌, ◌⊎◌, ℕ, [], ◌∷◌, Option, Some, Bool, true, false, refl, sym, ap, ◌∙◌, subst, inl, inr, ⊎_elim}
use Rattle.std.specs.Prelude.{◌==◌, IsSome}
use Rattle.std.specs.Str.{bytes_eq}
use Rattle.std.proofs.lemmas.Bool.Decides.{eqb_tells}
use Rattle.sn_laws.proofs.Facts.{clash, same_text, text_same}
use Rattle.sn_laws.specs.Lookups.{Bytes, draft_at, greatest}
use Rattle.sn_laws.specs.declared.ideal.Account.{Account}
use Rattle.sn_laws.specs.declared.ideal.Device.{Device}
use Rattle.sn_laws.specs.declared.ideal.Draft.{Draft}
use Rattle.sn_laws.specs.declared.ideal.Ideal.{Ideal}
use Rattle.sn_rows.specs.Table.{Puts, Rows, rows_after}
use Rattle.sn_rows.specs.declared.change.Change.{Change}
use Rattle.sn_rows.specs.declared.device_rows.LocalItem.{LocalItem}
use Rattle.sn_rows.specs.declared.key.Key.{Key}
use Rattle.sn_rows.specs.declared.key.Key.TheVariants as key
use Rattle.sn_rows.specs.declared.key.Slot.TheVariants.{Present, Older}
use Rattle.sn_rows.specs.declared.value.Value.{Value}
use Rattle.sn_rows.specs.declared.value.Value.TheVariants as value
use Rattle.sn_rows.specs.Facts.{put_elsewhere, put_or_not, put_here}
use Rattle.sn_shows.specs.Devices.{HasRow, IsDeviceKey, ShowsHolder, ShowsLocal, ShowsOlder}
use Rattle.sn_shows.proofs.DeviceStates.{local_alike}

-- the put row shows its item in the next state, the rows of other numbers are of other items, and their drafts are as before
pub record IsPut (rows : Rows) (s t : Ideal) (name : Bytes) (number : ℕ) (a : Account) (change : Change) (local : ℕ) (item : LocalItem) : Type 0 where
  pub puts : Puts change (key.Local local) (value.Local item)
  pub shown : ShowsLocal t name number a item
  pub own : (was : LocalItem) → rows (key.Local local) ≡ Some (value.Local was) → was.uuid ≡ item.uuid
  pub apart : (other : ℕ) (it : LocalItem) → rows (key.Local other) ≡ Some (value.Local it) → local ≢ other → it.uuid ≢ item.uuid
  pub others : (uuid : Bytes) → uuid ≢ item.uuid → draft_at t name uuid ≡ draft_at s name uuid

module _ (rows : Rows) (s t : Ideal) (name : Bytes) (d : Device) (a : Account) (change : Change) (local : ℕ) (item : LocalItem) where
  abbrev pub later : Rows
  later = rows_after rows (change ∷ [])

  abbrev pub IsPutHere : Type 0
  IsPutHere = IsPut rows s t name (greatest 0 d.held) a change local item

  away : IsPutHere → (other : Key) → key.Local local ≢ other → later other ≡ rows other
  away p other apart = put_elsewhere rows change (key.Local local) other (value.Local item) p.puts apart

  here : IsPutHere → later (key.Local local) ≡ Some (value.Local item)
  here p = put_here rows change (key.Local local) (value.Local item) p.puts

  elsewhere : (other : ℕ) → local ≢ other → key.Local local ≢ key.Local other
  elsewhere other apart e = apart (cc)

  -- a row is the put one, or was there, of another item
  which : IsPutHere → (other : ℕ) (it : LocalItem) → later (key.Local other) ≡ Some (value.Local it)
      → ((local ≡ other) × (item ≡ it)) ⊎ ((rows (key.Local other) ≡ Some (value.Local it)) × (it.uuid ≢ item.uuid))
  which p other it e =
      ⊎_elim
      (λ (same : ((local == other) ≡ true) × (local ≡ other)).
      let put : later (key.Local other) ≡ Some (value.Local item) = subst (λ (n : ℕ). later (key.Local n) ≡ Some (value.Local item)) same.1 (here p) in
      let is : item ≡ it = cc in
      inl (same.1, is))
      (λ (differs : ((local == other) ≡ false) × (local ≢ other)).
      let was : rows (key.Local other) ≡ Some (value.Local it) = sym (away p (key.Local other) (elsewhere other differs.1)) ∙ e in
      inr (was, p.apart other it was differs.1))
      (eqb_tells local other)

  locals : IsPutHere → ShowsHolder rows s name d a → (other : ℕ) (it : LocalItem) → later (key.Local other) ≡ Some (value.Local it)
      → ShowsLocal t name (greatest 0 d.held) a it
  locals p h other it e =
      ⊎_elim
      (λ (put : (local ≡ other) × (item ≡ it)). subst (λ (x : LocalItem). ShowsLocal t name (greatest 0 d.held) a x) put.1 p.shown)
      (λ (was : (rows (key.Local other) ≡ Some (value.Local it)) × (it.uuid ≢ item.uuid)).
      local_alike s t name (greatest 0 d.held) a it (p.others it.uuid was.1) (h.locals other it was.0))
      (which p other it e)

  once : IsPutHere → ShowsHolder rows s name d a → (n m : ℕ) (it twin : LocalItem) → later (key.Local n) ≡ Some (value.Local it)
      → later (key.Local m) ≡ Some (value.Local twin) → it.uuid ≡ twin.uuid → n ≡ m
  once p h n m it twin e k same = at (which p n it e) (which p m twin k)
    where
      at : ((local ≡ n) × (item ≡ it)) ⊎ ((rows (key.Local n) ≡ Some (value.Local it)) × (it.uuid ≢ item.uuid))
          → ((local ≡ m) × (item ≡ twin)) ⊎ ((rows (key.Local m) ≡ Some (value.Local twin)) × (twin.uuid ≢ item.uuid)) → n ≡ m
      at (inl x) (inl y) = sym x.0 ∙ y.0
      at (inl x) (inr y) = absurd (y.1 (sym same ∙ ap (λ (i : LocalItem). i.uuid) (sym x.1)))
      at (inr x) (inl y) = absurd (x.1 (same ∙ ap (λ (i : LocalItem). i.uuid) (sym y.1)))
      at (inr x) (inr y) = h.once n m it twin x.0 y.0 same

  drafts : IsPutHere → ShowsHolder rows s name d a → (uuid : Bytes) (draft : Draft) → draft_at t name uuid ≡ Some draft → HasRow later uuid
  drafts p h uuid draft e = at (bytes_eq uuid item.uuid) refl
    where
      at : (b : Bool) → bytes_eq uuid item.uuid ≡ b → HasRow later uuid
      at true is = record { number = local; item = item; stands = here p; item_is = sym (same_text uuid item.uuid is) }
      at false off =
          let apart : uuid ≢ item.uuid = λ k. clash (bytes_eq uuid item.uuid) (text_same uuid item.uuid k) off in
          let was : HasRow rows uuid = h.drafts uuid draft (sym (p.others uuid apart) ∙ e) in
          let differs : local ≢ was.number =
          λ k. apart (sym was.item_is ∙ p.own was.item (subst (λ (n : ℕ). rows (key.Local n) ≡ Some (value.Local was.item)) (sym k) was.stands)) in
          record {
            number = was.number;
            item = was.item;
            stands = away p (key.Local was.number) (elsewhere was.number differs) ∙ was.stands;
            item_is = was.item_is;
          }

  no_other : IsPutHere → ShowsHolder rows s name d a → (other : Key) → IsSome (later other) → IsDeviceKey other
  no_other p h other some =
      ⊎_elim
      (λ (e : key.Local local ≡ other). subst IsDeviceKey e tt)
      (λ (e : later other ≡ rows other). h.no_other other (subst (λ (found : Option Value). IsSome found) e some))
      (put_or_not rows change (key.Local local) (value.Local item) p.puts other)

  -- the rows after the put show the next state
  pub put_holder : IsPutHere → ShowsHolder rows s name d a → ShowsHolder later t name d a
  put_holder p h =
      record {
        owner = record { owner = h.owner.owner; stands = away p key.Owner (λ e. cc) ∙ h.owner.stands; identifier = h.owner.identifier };
        present = record { row = h.present.row; stands = away p (key.Set Present) (λ e. cc) ∙ h.present.stands; is = h.present.is };
        older = subst (λ (found : Option Value). ShowsOlder a found d.held) (sym (away p (key.Set Older) (λ e. cc))) h.older;
        locals = locals p h;
        once = once p h;
        drafts = drafts p h;
        no_other = no_other p h;
      }

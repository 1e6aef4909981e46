-- What changes of a device's rows leave of how far it has pulled.
use Rattle.std.proofs.Common.{◌≡◌, ◌≢◌, ◌⊎◌, ℕ, List, [], ◌∷◌, Option, Some, None, refl, sym, ap, ◌∙◌, inr, ⊎_elim}
use Rattle.sn_device.specs.States.{HasItem, HasLocal, HasOwner, token_of}
use Rattle.sn_laws.specs.Lookups.{Bytes}
use Rattle.sn_laws.specs.declared.ideal.Account.{Account}
use Rattle.sn_laws.specs.declared.ideal.Device.{Device}
use Rattle.sn_rows.specs.Facts.{put_here, put_or_not, removed_elsewhere, removed_here}
use Rattle.sn_rows.specs.Table.{Puts, Removes, Rows, rows_after}
use Rattle.sn_rows.specs.declared.change.Change.{Change}
use Rattle.sn_rows.specs.declared.device_rows.LocalItem.{LocalItem}
use Rattle.sn_rows.specs.declared.device_rows.OwnerRow.{OwnerRow}
use Rattle.sn_rows.specs.declared.key.Key.TheVariants as key
use Rattle.sn_rows.specs.declared.value.Value.TheVariants as value
use Rattle.sn_world.proofs.DeviceRows.{one_local, one_owner, owner_past}
use Rattle.sn_world.proofs.Frames.{HasPulled}
use Rattle.sn_world.specs.Pulled.{BasesPulled, HasBase, HasNoBase, PulledAt, PulledTo}

-- ---- one item

-- what its row stands on is as it was
pub record StaysAt (rows later : Rows) (uuid : Bytes) : Type 0 where
  pub kept : (stamp : ℕ) → HasBase rows uuid stamp → HasBase later uuid stamp
  pub none : HasNoBase rows uuid → HasNoBase later uuid

pub stays_on : (rows later : Rows) (a : Account) (upto : ℕ) (uuid : Bytes) → StaysAt rows later uuid → PulledAt rows a upto uuid → PulledAt later a upto uuid
stays_on rows later a upto uuid stays h = record {
  live = λ v last within alive. stays.kept v.stamp (h.live v last within alive);
  gone = λ v last within dead. stays.none (h.gone v last within dead);
}

pub stays_same : (rows later : Rows) → ((number : ℕ) → later (key.Local number) ≡ rows (key.Local number)) → (uuid : Bytes) → StaysAt rows later uuid
stays_same rows later same uuid = record {
  kept = λ stamp h. (h.0, h.1, (same h.0 ∙ h.2.0, h.2.1), h.3);
  none = λ h number local there. h number local (sym (same number) ∙ there.0, there.1);
}

pub stays_both : (rows mid later : Rows) (uuid : Bytes) → StaysAt rows mid uuid → StaysAt mid later uuid → StaysAt rows later uuid
stays_both rows mid later uuid x y = record { kept = λ stamp h. y.kept stamp (x.kept stamp h); none = λ h. y.none (x.none h) }

-- a row is put: of this item it was one without a base, or has the same; and it has none now where the item had none
pub stays_put : (rows : Rows) (change : Change) (number : ℕ) (new : LocalItem) (uuid : Bytes) → Puts change (key.Local number) (value.Local new)
    → ((local : LocalItem) → HasLocal rows number local → local.uuid ≡ uuid → (local.base ≡ None) ⊎ ((new.uuid ≡ uuid) × (new.base ≡ local.base)))
    → (new.uuid ≡ uuid → HasNoBase rows uuid → new.base ≡ None) → StaysAt rows (rows_after rows (change ∷ [])) uuid
stays_put rows change number new uuid puts lost gained = record { kept = kept; none = none }
  where
    here : rows_after rows (change ∷ []) (key.Local number) ≡ Some (value.Local new)
    here = put_here rows change (key.Local number) (value.Local new) puts

    kept : (stamp : ℕ) → HasBase rows uuid stamp → HasBase (rows_after rows (change ∷ [])) uuid stamp
    kept stamp (at, local, there, base) =
        ⊎_elim
        (λ (same : key.Local number ≡ key.Local at).
        ⊎_elim (λ (no : local.base ≡ None). absurd (cc))
        (λ (is : (new.uuid ≡ uuid) × (new.base ≡ local.base)). (number, new, (here, is.0), is.1 ∙ base))
        (lost local (ap rows same ∙ there.0) there.1))
        (λ (past : rows_after rows (change ∷ []) (key.Local at) ≡ rows (key.Local at)). (at, local, (past ∙ there.0, there.1), base))
        (put_or_not rows change (key.Local number) (value.Local new) puts (key.Local at))

    none : HasNoBase rows uuid → HasNoBase (rows_after rows (change ∷ [])) uuid
    none h at local there =
        ⊎_elim
        (λ (same : key.Local number ≡ key.Local at).
        let is : local ≡ new = one_local local new (rows_after rows (change ∷ []) (key.Local at)) there.0 (ap (rows_after rows (change ∷ [])) (sym same) ∙ here) in
        ap (λ (l : LocalItem). l.base) is ∙ gained (ap (λ (l : LocalItem). l.uuid) (sym is) ∙ there.1) h)
        (λ (past : rows_after rows (change ∷ []) (key.Local at) ≡ rows (key.Local at)). h at local (sym past ∙ there.0, there.1))
        (put_or_not rows change (key.Local number) (value.Local new) puts (key.Local at))

-- a row is taken away: of this item it was one without a base
pub stays_removed : (rows : Rows) (change : Change) (number : ℕ) (uuid : Bytes) → Removes change (key.Local number)
    → ((local : LocalItem) → HasLocal rows number local → local.uuid ≡ uuid → local.base ≡ None) → StaysAt rows (rows_after rows (change ∷ [])) uuid
stays_removed rows change number uuid gone lost = record {
  kept = λ stamp h. (h.0, h.1, (removed_elsewhere rows change (key.Local number) (key.Local h.0) gone (apart stamp h.0 h.1 h.2 h.3) ∙ h.2.0, h.2.1), h.3);
  none = λ h at local there. h at local (sym (removed_elsewhere rows change (key.Local number) (key.Local at) gone (off at local there.0)) ∙ there.0, there.1);
}
  where
    apart : (stamp at : ℕ) (local : LocalItem) → HasItem rows uuid at local → local.base ≡ Some stamp → key.Local number ≢ key.Local at
    apart stamp at local there base same = let no : local.base ≡ None = lost local (ap rows same ∙ there.0) there.1 in cc

    off : (at : ℕ) (local : LocalItem) → HasLocal (rows_after rows (change ∷ [])) at local → key.Local number ≢ key.Local at
    off at local there e =
        let none : rows_after rows (change ∷ []) (key.Local at) ≡ None = ap (rows_after rows (change ∷ [])) (sym e) ∙ removed_here rows change (key.Local number) gone in
        let some : rows_after rows (change ∷ []) (key.Local at) ≡ Some (value.Local local) = there in
        cc

-- ---- all items of a device

-- what rows stand on is as it was, and so is the sync token
pub record PullsAlike (rows later : Rows) : Type 0 where
  pub stays : (uuid : Bytes) → StaysAt rows later uuid
  pub token : (owner : OwnerRow) → HasOwner later owner → (was : OwnerRow) × HasOwner rows was × (was.sync_token ≡ owner.sync_token)

pub alike_token : (rows later : Rows) → later key.Owner ≡ rows key.Owner → (owner : OwnerRow) → HasOwner later owner
    → (was : OwnerRow) × HasOwner rows was × (was.sync_token ≡ owner.sync_token)
alike_token rows later same owner has = (owner, sym same ∙ has, refl)

-- where that row is put with the same token
pub alike_put : (rows later : Rows) (was new : OwnerRow) → HasOwner rows was → HasOwner later new → new.sync_token ≡ was.sync_token
    → (owner : OwnerRow) → HasOwner later owner → (before : OwnerRow) × HasOwner rows before × (before.sync_token ≡ owner.sync_token)
alike_put rows later was new had has same owner there =
    (was, had, sym same ∙ ap (λ (o : OwnerRow). o.sync_token) (one_owner new owner (later key.Owner) has there))

-- a row is put that stands on what it stood on
pub alike_row : (rows : Rows) (change : Change) (number : ℕ) (local new : LocalItem) → HasLocal rows number local → Puts change (key.Local number) (value.Local new)
    → new.uuid ≡ local.uuid → new.base ≡ local.base → PullsAlike rows (rows_after rows (change ∷ []))
alike_row rows change number local new stands puts uuid_is base_is = record {
  stays = λ uuid.
      stays_put rows change number new uuid puts
      (λ was there own.
      let same : local ≡ was = one_local local was (rows (key.Local number)) stands there in
      inr (uuid_is ∙ ap (λ (l : LocalItem). l.uuid) same ∙ own, base_is ∙ ap (λ (l : LocalItem). l.base) same))
      (λ own none. base_is ∙ none number local (stands, sym uuid_is ∙ own));
  token = alike_token rows (rows_after rows (change ∷ [])) (owner_past rows change number (value.Local new) puts);
}

-- a row without a base is taken away
pub alike_removed : (rows : Rows) (change : Change) (number : ℕ) (local : LocalItem) → HasLocal rows number local → Removes change (key.Local number)
    → local.base ≡ None → PullsAlike rows (rows_after rows (change ∷ []))
alike_removed rows change number local stands gone none = record {
  stays = λ uuid.
      stays_removed rows change number uuid gone
      (λ was there own. ap (λ (l : LocalItem). l.base) (one_local was local (rows (key.Local number)) there stands) ∙ none);
  token = alike_token rows (rows_after rows (change ∷ [])) (removed_elsewhere rows change (key.Local number) key.Owner gone (λ e. cc));
}

pub pulls_kept : (rows later : Rows) (accounts : List Account) (found : Option Device) → PullsAlike rows later → BasesPulled rows → PulledTo rows accounts found
    → HasPulled later accounts found
pulls_kept rows later accounts found alike bases pulled = (
  λ owner has none uuid.
      let was = alike.token owner has in
      (alike.stays uuid).none (bases was.0 was.1 (ap token_of was.2 ∙ none) uuid),
  λ d number a owner text stamp named at own has token is uuid.
      let was = alike.token owner has in
      stays_on rows later a stamp uuid (alike.stays uuid) (pulled d number a was.0 text stamp named at own was.1 (ap token_of was.2 ∙ token) is uuid),
)

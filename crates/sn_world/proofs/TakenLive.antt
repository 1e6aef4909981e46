-- What was sent of a device's row that meets the server's version of its item: whether that was saved, and what is live of the device afterwards.
use Rattle.std.proofs.Common.{◌≡◌, ◌≢◌, ℕ, List, [], ◌∷◌, Option, Some, None, false, refl, sym, ap, ◌∙◌, subst, inl, inr, ⊎_elim, arith}
use Rattle.sn_account.specs.Incoming.{Names}
use Rattle.sn_account.specs.Tells.{IsSavedOf, IsStored}
use Rattle.sn_device.specs.Sending.{SaysBase, first_some, message_body}
use Rattle.sn_device.specs.States.{HasItem}
use Rattle.sn_conflict.specs.Meetings.{HasContentOf, IsKnown, PostedHasContent}
use Rattle.sn_laws.proofs.Facts.{one_there}
use Rattle.sn_laws.specs.Lookups.{Bytes}
use Rattle.sn_laws.specs.declared.ideal.Account.{Account}
use Rattle.sn_rows.specs.Table.{Rows, key_of, rows_after}
use Rattle.sn_rows.specs.declared.body.RowBody.{RowBody}
use Rattle.sn_rows.specs.declared.body.RowBody.TheVariants as row
use Rattle.sn_rows.specs.declared.change.Change.{Change}
use Rattle.sn_rows.specs.declared.device_rows.LocalItem.{LocalItem}
use Rattle.sn_rows.specs.declared.key.Key.TheVariants as key
use Rattle.sn_sets.specs.declared.sets.Sets.{Sets}
use Rattle.sn_sync.specs.Laws.{HasOneStamp}
use Rattle.sn_sync.specs.Stamps.{IsStampText}
use Rattle.sn_sync.specs.declared.item.Body.{Body}
use Rattle.sn_sync.specs.declared.item.Item.{Item}
use Rattle.sn_world.proofs.DeviceRows.{one_local, posted_elsewhere}
use Rattle.sn_world.proofs.Items.{apart_numbers}
use Rattle.sn_world.proofs.Making.{sends_it}
use Rattle.sn_world.specs.Live.{LiveItem}
use Rattle.sn_world.specs.Making.{SendsPosted}

-- what is saved has the content of what was posted
pub saved_content : (sets : Sets) (local : LocalItem) (sent i : Item) → SendsPosted local sent → IsSavedOf sent i → PostedHasContent sets local i
saved_content sets local sent i sends of = (
  sends.0.version,
  sends_it local.posted (first_some local.latest local.body) sends.0.version sends.1 sends.0.sent,
  subst (λ (b : Body). HasContentOf sets local sends.0.version i b) (sym (of.body ∙ sends.0.body_is)) (by sends.0.version sends.0.body_is),
)
  where
    by : (b : RowBody) → sent.body ≡ message_body b → HasContentOf sets local b i (message_body b)
    by row.Deleted is = tt
    by (row.Sealed strings) is = (sym sends.0.kind_is ∙ sym (of.kind (λ gone. cc)), inl refl)

-- what was live of the device is live where the row is changed of which a version is known to be above the one that it stands on
pub live_past : HasOneStamp → (server rows : Rows) (accounts : List Account) (n : ℕ) (i : Item) → IsStored server n i → (number : ℕ) (local : LocalItem)
    → HasItem rows i.uuid number local
    → ¬ (IsKnown local i false) → (change : Change) → key_of change ≡ key.Local number → (j : Item) → LiveItem (server (key.Item j.uuid)) rows accounts n j
    → LiveItem (server (key.Item j.uuid)) (rows_after rows (change ∷ [])) accounts n j
live_past one_stamp server rows accounts n i stored number local stands news change of j (inl x) = inl x
live_past one_stamp server rows accounts n i stored number local stands news change of j (inr (inl x)) = inr (inl x)
live_past one_stamp server rows accounts n i stored number local stands news change of j (inr (inr (inl x))) = inr (inr (inl x))
live_past one_stamp server rows accounts n i stored number local stands news change of j (inr (inr (inr (inr x)))) = inr (inr (inr (inr x)))
live_past one_stamp server rows accounts n i stored number local stands news change of j (inr (inr (inr (inl x)))) =
    ⊎_elim
    (λ (same : x.number ≡ number).
    let row : x.local ≡ local = one_local x.local local (rows (key.Local number)) (ap (λ (k : ℕ). rows (key.Local k)) (sym same) ∙ x.stands) stands.0 in
    let uuid : i.uuid ≡ j.uuid = sym stands.1 ∙ ap (λ (l : LocalItem). l.uuid) (sym row) ∙ x.uuid_is in
    inr (inr (inl (
      stored.0,
      ap (λ (u : Bytes). server (key.Item u)) (sym uuid) ∙ stored.1,
      stored.2,
      λ names. unnamed names x.local.base refl x.base row,
    ))))
    (λ (differs : x.number ≢ number).
    inr (inr (inr (inl (posted_elsewhere rows change number j of x differs)))))
    (apart_numbers x.number number)
  where
    unnamed : Names j stored.0 → (base : Option ℕ) → x.local.base ≡ base → SaysBase x.local.base j.updated_at → x.local ≡ local → ⊥
    unnamed names None none says row =
        let nothing : j.updated_at ≡ None = subst (λ (b : Option ℕ). SaysBase b j.updated_at) none says in
        let some : j.updated_at ≡ Some names.0 = names.2 in
        cc
    unnamed names (Some base) is says row =
        let said : SaysBase (Some base) j.updated_at = subst (λ (b : Option ℕ). SaysBase b j.updated_at) is says in
        let text : names.0 ≡ said.0 = one_there names.0 said.0 j.updated_at names.2 said.2 in
        let same : stored.0.updated ≡ base = one_stamp said.0 stored.0.updated base (subst (λ (t : Bytes). IsStampText t stored.0.updated) text names.1) said.1 in
        news (record {
          retrieved = refl;
          base = base;
          stands_on = ap (λ (l : LocalItem). l.base) (sym row) ∙ is;
          stamp = stored.0.updated;
          stamped = (stored.3.stamp, stored.3.spelled, stored.3.updated);
          old = omega (arith, same);
        })

-- What was live of a device is live where a saved item is applied to its row.
use Rattle.std.proofs.Common.{◌≡◌, ◌≢◌, ℕ, Option, Some, None, Bool, false, sym, ap, ◌∙◌, subst, inl, inr, ⊎_elim}
use Rattle.std.specs.Prelude.{if◌then◌else◌}
use Rattle.sn_laws.specs.Lookups.{Bytes}
use Rattle.sn_account.specs.Stored.{body_of}
use Rattle.sn_rows.specs.declared.body.RowBody.{RowBody}
use Rattle.sn_rows.specs.declared.device_rows.LocalItem.{LocalItem}
use Rattle.sn_rows.specs.declared.key.Key.TheVariants as key
use Rattle.sn_rows.specs.declared.server_rows.ItemRow.{ItemRow}
use Rattle.sn_sync.specs.declared.item.Body.{Body}
use Rattle.sn_sync.specs.declared.item.Body.TheVariants as body
use Rattle.sn_world.proofs.DeviceRows.{one_local, posted_elsewhere}
use Rattle.sn_world.proofs.Items.{apart_numbers}
use Rattle.sn_world.proofs.Making.{sends_it}
use Rattle.sn_device.specs.Sending.{first_some, message_body}
use Rattle.sn_world.specs.Settling.{AppliesLive}

one_body : (x y : RowBody) (found : Option RowBody) → found ≡ Some x → found ≡ Some y → x ≡ y
one_body x y found e k = cc

-- a row that isn't deleted is given with strings
not_deleted : (row : ItemRow) (q : Bool) (b : Body) → q ≡ false → (if q then body.Deleted else body.Strings row.content row.enc) ≡ b → b ≢ body.Deleted
not_deleted row q b live is deleted =
    let strings : (if false then body.Deleted else body.Strings row.content row.enc) ≡ b =
    subst (λ (z : Bool). (if z then body.Deleted else body.Strings row.content row.enc) ≡ b) live is in
    cc

-- what of another row was posted stays, and so does what the account's versions make live
pub applies_live : AppliesLive
applies_live server device accounts n number local sent saved j change stands sends stored of at (inl h) = inl h
applies_live server device accounts n number local sent saved j change stands sends stored of at (inr (inl h)) = inr (inl h)
applies_live server device accounts n number local sent saved j change stands sends stored of at (inr (inr (inl h))) = inr (inr (inl h))
applies_live server device accounts n number local sent saved j change stands sends stored of at (inr (inr (inr (inr h)))) = inr (inr (inr (inr h)))
applies_live server device accounts n number local sent saved j change stands (inr again) stored of at (inr (inr (inr (inl x)))) =
    inr (inr (inr (inl (posted_elsewhere device change number j at x
    (λ same.
    let row : x.local ≡ local = one_local x.local local (device (key.Local number)) (ap (λ (k : ℕ). device (key.Local k)) (sym same) ∙ x.stands) stands in
    let none : local.posted ≡ None = again.3 in
    let some : local.posted ≡ Some x.posted = ap (λ (y : LocalItem). y.posted) (sym row) ∙ x.posted_is in
    cc)))))
applies_live server device accounts n number local sent saved j change stands (inl sends) stored of at (inr (inr (inr (inl x)))) =
    ⊎_elim
    (λ (same : x.number ≡ number).
    let row : x.local ≡ local = one_local x.local local (device (key.Local number)) (ap (λ (k : ℕ). device (key.Local k)) (sym same) ∙ x.stands) stands in
    let posted_is : local.posted ≡ Some sends.0.version = sends_it local.posted (first_some local.latest local.body) sends.0.version sends.1 sends.0.sent in
    let posted : sends.0.version ≡ x.posted =
    one_body sends.0.version x.posted local.posted posted_is (ap (λ (y : LocalItem). y.posted) (sym row) ∙ x.posted_is) in
    let bodies : sent.body ≡ j.body = sends.0.body_is ∙ ap message_body posted ∙ sym x.body_is in
    let kinds : sent.kind ≡ j.kind = sends.0.kind_is ∙ ap (λ (y : LocalItem). y.kind) (sym row) ∙ x.kind_is in
    let uuids : saved.uuid ≡ j.uuid = of.uuid ∙ sends.0.uuid_is ∙ ap (λ (y : LocalItem). y.uuid) (sym row) ∙ x.uuid_is in
    let given : body_of stored.0 ≡ sent.body = sym stored.3.body ∙ of.body in
    inr (inl (
      stored.0,
      ap (λ (u : Bytes). server (key.Item u)) (sym uuids) ∙ stored.1,
      stored.2,
      (given ∙ bodies, λ live. sym stored.3.kind ∙ of.kind (not_deleted stored.0 stored.0.deleted sent.body live given) ∙ kinds),
    )))
    (λ (differs : x.number ≢ number).
    inr (inr (inr (inl (posted_elsewhere device change number j at x differs)))))
    (apart_numbers x.number number)

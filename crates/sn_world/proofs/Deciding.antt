-- Whether a device's row has an item as what was sent, which its rows decide.
use Rattle.std.proofs.Common.{◌≡◌, ◌≢◌, ◌⊎◌, ◌<◌, ℕ, zero, suc, List, [], ◌∷◌, Option, Some, None, refl, sym, ap, ◌∙◌, subst, inl, inr, ⊎_elim, arith}
use Rattle.sn_account.specs.Stored.{body_of}
use Rattle.sn_changed.proofs.Facts.{apart_numbers, apart_texts}
use Rattle.sn_device.specs.Sending.{message_body}
use Rattle.sn_device.specs.States.{HasItem, HasLocal, HasOwner, IsFree, IsSound, IsUsed}
use Rattle.sn_laws.specs.Lookups.{Bytes}
use Rattle.sn_laws.specs.declared.moves.Move.{Move}
use Rattle.sn_rows.specs.Table.{Rows, rows_after}
use Rattle.sn_rows.specs.declared.body.RowBody.{RowBody}
use Rattle.sn_rows.specs.declared.change.Change.{Change}
use Rattle.sn_rows.specs.declared.change.Change.TheVariants.{Put, Remove}
use Rattle.sn_rows.specs.declared.device_rows.LocalItem.{LocalItem}
use Rattle.sn_rows.specs.declared.device_rows.OwnerRow.{OwnerRow}
use Rattle.sn_rows.specs.declared.key.Key.{Key}
use Rattle.sn_rows.specs.declared.key.Key.TheVariants as key
use Rattle.sn_rows.specs.declared.server_rows.ItemRow.{ItemRow}
use Rattle.sn_rows.specs.declared.value.Value.{Value}
use Rattle.sn_rows.specs.declared.value.Value.TheVariants as value
use Rattle.sn_sync.specs.declared.item.Body.{Body}
use Rattle.sn_sync.specs.declared.item.Body.TheVariants as body
use Rattle.sn_world.specs.Serving.{IsSentRow, SaysChange, SaysChanges, SaysRow, stamp_in}

-- it is so, or it isn't
abbrev Either : Type 0 → Type 0
Either A = A ⊎ ¬ A

both : {A B : Type 0} → Either A → Either B → Either (A × B)
both (inl a) (inl b) = inl (a, b)
both (inl a) (inr off) = inr (λ h. off h.1)
both (inr off) other = inr (λ h. off h.0)

-- ---- equality

apart_stamps : (x y : Option ℕ) → Either (x ≡ y)
apart_stamps None None = inl refl
apart_stamps None (Some y) = inr (λ e. cc)
apart_stamps (Some x) None = inr (λ e. cc)
apart_stamps (Some x) (Some y) =
    ⊎_elim (λ (e : x ≡ y). inl (ap Some e)) (λ (off : x ≢ y). inr (λ e. let same : x ≡ y = cc in off same)) (apart_numbers x y)

apart_bodies : (x y : Body) → Either (x ≡ y)
apart_bodies body.Deleted body.Deleted = inl refl
apart_bodies body.Deleted (body.Strings content enc) = inr (λ e. cc)
apart_bodies (body.Strings content enc) body.Deleted = inr (λ e. cc)
apart_bodies (body.Strings content enc) (body.Strings other another) = by (apart_texts content other) (apart_texts enc another)
  where
    by : Either (content ≡ other) → Either (enc ≡ another) → Either (body.Strings content enc ≡ body.Strings other another)
    by (inl e) (inl k) = inl (cc)
    by (inl e) (inr off) = inr (λ k. let same : enc ≡ another = cc in off same)
    by (inr off) k = inr (λ e. let same : content ≡ other = cc in off same)

-- ---- the row of an item

local_is : (x y : LocalItem) (found : Option Value) → found ≡ Some (value.Local x) → found ≡ Some (value.Local y) → x ≡ y
local_is x y found e k = cc

-- under one local number
at_number : (rows : Rows) (uuid : Bytes) (number : ℕ) → Either ((local : LocalItem) × HasItem rows uuid number local)
at_number rows uuid number = by (rows (key.Local number)) refl
  where
    by : (found : Option Value) → rows (key.Local number) ≡ found → Either ((local : LocalItem) × HasItem rows uuid number local)
    by (Some (value.Local local)) e =
        ⊎_elim (λ (same : local.uuid ≡ uuid). inl (local, (e, same)))
        (λ (off : local.uuid ≢ uuid). inr (λ h. off (ap (λ (x : LocalItem). x.uuid) (local_is local h.0 (rows (key.Local number)) e h.1.0) ∙ h.1.1)))
        (apart_texts local.uuid uuid)
    by (Some (value.Store row)) e = inr (λ h. let is = h.1.0 in cc)
    by (Some (value.Account row)) e = inr (λ h. let is = h.1.0 in cc)
    by (Some (value.Generation row)) e = inr (λ h. let is = h.1.0 in cc)
    by (Some (value.Item row)) e = inr (λ h. let is = h.1.0 in cc)
    by (Some (value.Owner row)) e = inr (λ h. let is = h.1.0 in cc)
    by (Some (value.Set row)) e = inr (λ h. let is = h.1.0 in cc)
    by None e = inr (λ h. let is = h.1.0 in cc)

-- under one below this
below : (rows : Rows) (uuid : Bytes) (most : ℕ) → IsUsed rows uuid ⊎ ((number : ℕ) (local : LocalItem) → number < most → ¬ (HasItem rows uuid number local))
below rows uuid zero = inr (λ number local low h. absurd (omega arith))
below rows uuid (suc most) = by (at_number rows uuid most) (below rows uuid most)
  where
    less : (number : ℕ) → number ≢ most → number < suc most → number < most
    less number other low = omega arith

    by : Either ((local : LocalItem) × HasItem rows uuid most local)
        → IsUsed rows uuid ⊎ ((number : ℕ) (local : LocalItem) → number < most → ¬ (HasItem rows uuid number local))
        → IsUsed rows uuid ⊎ ((number : ℕ) (local : LocalItem) → number < suc most → ¬ (HasItem rows uuid number local))
    by (inl here) rest = inl (most, here.0, here.1)
    by (inr off) (inl used) = inl used
    by (inr off) (inr none) = inr (λ number local low h. ⊎_elim (λ (same : number ≡ most).
        off (local, subst (λ (k : ℕ). HasItem rows uuid k local) same h))
        (λ (other : number ≢ most). none number local (less number other low) h) (apart_numbers number most))

-- some row has the uuid, or none has
pub used_or_free : (rows : Rows) (uuid : Bytes) → IsSound rows → IsUsed rows uuid ⊎ IsFree rows uuid
used_or_free rows uuid sound = by (rows key.Owner) refl
  where
    numbered : (owner : OwnerRow) → HasOwner rows owner → IsUsed rows uuid ⊎ IsFree rows uuid
    numbered owner has =
        ⊎_elim (λ (used : IsUsed rows uuid). inl used)
        (λ (none : (number : ℕ) (local : LocalItem) → number < owner.next → ¬ (HasItem rows uuid number local)).
        inr (λ number local h. none number local (sound.locals.numbered owner number local has h.0) h)) (below rows uuid owner.next)

    without : ((owner : OwnerRow) → ¬ (HasOwner rows owner)) → IsUsed rows uuid ⊎ IsFree rows uuid
    without none = inr (λ number local h. let has = sound.owner (key.Local number) (value.Local local) h.0 in none has.0 has.1)

    by : (found : Option Value) → rows key.Owner ≡ found → IsUsed rows uuid ⊎ IsFree rows uuid
    by (Some (value.Owner owner)) e = numbered owner e
    by (Some (value.Local row)) e = without (λ owner has. cc)
    by (Some (value.Store row)) e = without (λ owner has. cc)
    by (Some (value.Account row)) e = without (λ owner has. cc)
    by (Some (value.Generation row)) e = without (λ owner has. cc)
    by (Some (value.Item row)) e = without (λ owner has. cc)
    by (Some (value.Set row)) e = without (λ owner has. cc)
    by None e = without (λ owner has. cc)

-- ---- whether it has the item as what was sent

abbrev IsPostedAs : LocalItem → Body → Type 0
IsPostedAs local sent = (posted : RowBody) × (local.posted ≡ Some posted) × (sent ≡ message_body posted)

posted_as : (local : LocalItem) (sent : Body) → Either (IsPostedAs local sent)
posted_as local sent = by local.posted refl
  where
    by : (found : Option RowBody) → local.posted ≡ found → Either (IsPostedAs local sent)
    by None e = inr (λ h. let is = h.1 in cc)
    by (Some posted) e =
        ⊎_elim (λ (same : sent ≡ message_body posted). inl (posted, e, same))
        (λ (off : sent ≢ message_body posted). inr (λ h. off (h.2 ∙ ap message_body (same_posted h.0 h.1)))) (apart_bodies sent (message_body posted))
      where
        same_posted : (other : RowBody) → local.posted ≡ Some other → other ≡ posted
        same_posted other k = cc

abbrev IsRowOf : Option Value → LocalItem → ItemRow → Type 0
IsRowOf found local row = (local.kind ≡ row.kind) × ((local.base ≡ stamp_in found) × IsPostedAs local (body_of row))

pub decide_sent : (found : Option Value) (device : Rows) (uuid : Bytes) (row : ItemRow) → IsSound device
    → IsSentRow found device uuid row ⊎ ¬ (IsSentRow found device uuid row)
decide_sent found device uuid row sound = by (used_or_free device uuid sound)
  where
    of : (number : ℕ) (local : LocalItem) → HasItem device uuid number local → Either (IsRowOf found local row)
        → IsSentRow found device uuid row ⊎ ¬ (IsSentRow found device uuid row)
    of number local has (inl (kind, (base, (posted, posted_is, body_is)))) =
        inl
        (record {
          number = number;
          local = local;
          stands = has;
          kind_is = kind;
          base_is = base;
          posted = posted;
          posted_is = posted_is;
          body_is = body_is;
        })
    of number local has (inr off) =
        inr
        (λ (x : IsSentRow found device uuid row).
        let number_is : x.number ≡ number = sound.locals.apart x.number number x.local local x.stands.0 has.0 (x.stands.1 ∙ sym has.1) in
        let same : x.local ≡ local =
        local_is x.local local (device (key.Local number)) (subst (λ (k : ℕ). HasLocal device k x.local) number_is x.stands.0) has.0 in
        off (subst (λ (l : LocalItem). IsRowOf found l row) same (x.kind_is, (x.base_is, (x.posted, x.posted_is, x.body_is)))))

    by : IsUsed device uuid ⊎ IsFree device uuid → IsSentRow found device uuid row ⊎ ¬ (IsSentRow found device uuid row)
    by (inl (number, local, has)) =
        of number local has
        (both (apart_texts local.kind row.kind) (both (apart_stamps local.base (stamp_in found)) (posted_as local (body_of row))))
    by (inr free) = inr (λ (x : IsSentRow found device uuid row). free x.number x.local x.stands)

-- ---- so each batch says some moves

row_says_some : (server device : Rows) (name : Bytes) (at : Key) (v : Value) → IsSound device → (moves : List Move) × SaysRow server device name at v moves
row_says_some server device name (key.Item uuid) (value.Item row) sound =
    ⊎_elim (λ (sent : IsSentRow (server (key.Item uuid)) device uuid row). (_, inl (sent, refl)))
    (λ (off : ¬ (IsSentRow (server (key.Item uuid)) device uuid row)). (_, inr (off, refl))) (decide_sent (server (key.Item uuid)) device uuid row sound)
row_says_some server device name at v sound = ([], refl)

change_says_some : (server device : Rows) (name : Bytes) (change : Change) → IsSound device → (moves : List Move) × SaysChange server device name change moves
change_says_some server device name (Put row) sound = row_says_some server device name row.key row.value sound
change_says_some server device name (Remove at) sound = ([], refl)

pub changes_say_some : (server device : Rows) (name : Bytes) (changes : List Change) → IsSound device
    → (moves : List Move) × SaysChanges server device name changes moves
changes_say_some server device name [] sound = ([], refl)
changes_say_some server device name (c ∷ cs) sound =
    let first = change_says_some server device name c sound in
    let later = changes_say_some (rows_after server (c ∷ [])) device name cs sound in
    (_, (first.0, later.0, first.1, later.1, refl))

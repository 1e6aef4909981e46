-- A set that is asked for, or dropped, and a session token that is renewed leave what a device's rows show.
use Rattle.std.proofs.Common.{◌≡◌, ◌≢◌, List, [], ◌∷◌, Option, Some, Bool, true, false, refl, sym, ap, ◌∙◌, subst}
use Rattle.std.specs.Prelude.{IsSome}
use Rattle.sn_device.specs.States.{IsInSlot, OwnerColumns, HasNoneAsked}
use Rattle.sn_laws.proofs.Facts.{clash}
use Rattle.sn_laws.specs.Lookups.{Bytes}
use Rattle.sn_laws.specs.declared.ideal.Account.{Account}
use Rattle.sn_laws.specs.declared.ideal.Device.{Device}
use Rattle.sn_laws.specs.declared.ideal.Ideal.{Ideal}
use Rattle.sn_rows.specs.Facts.{keys_compare, put_elsewhere, put_here, removed_elsewhere, removed_here}
use Rattle.sn_rows.specs.Table.{Rows, rows_after, same_key}
use Rattle.sn_rows.specs.declared.change.Change.{Change}
use Rattle.sn_rows.specs.declared.key.Key.{Key}
use Rattle.sn_rows.specs.declared.key.Key.TheVariants as key
use Rattle.sn_rows.specs.declared.key.Slot.TheVariants.{Asked, Older, Present}
use Rattle.sn_rows.specs.declared.value.Value.{Value}
use Rattle.sn_rows.specs.declared.value.Value.TheVariants as value
use Rattle.sn_shows.proofs.Facts.{holder_from, holder_of, shows_of, tokens_show}
use Rattle.sn_shows.specs.Devices.{HasRow, IsDeviceKey, ShowsDevice, ShowsHolder, ShowsOlder}
use Rattle.sn_adopted.proofs.SetRows.{identifier_of}
use Rattle.sn_adopted.specs.Laws.{AskShows, ForgetShows, RenewShows}

-- ---- rows that differ in the asked set alone

module _ (rows now : Rows) (s : Ideal) (name : Bytes) (same : (k : Key) → key.Set Asked ≢ k → now k ≡ rows k) where
  own_key : (k : Key) → ((key.Set Asked ≢ k) → IsDeviceKey k) → IsDeviceKey k
  own_key k h = by (same_key (key.Set Asked) k) refl
    where
      by : (b : Bool) → same_key (key.Set Asked) k ≡ b → IsDeviceKey k
      by true is = subst IsDeviceKey ((keys_compare (key.Set Asked) k).0 is) tt
      by false off = h (λ e. clash (same_key (key.Set Asked) k) ((keys_compare (key.Set Asked) k).1 e) off)

  asked_holder : (d : Device) (a : Account) → ShowsHolder rows s name d a → ShowsHolder now s name d a
  asked_holder d a h = record {
    owner = record { owner = h.owner.owner; stands = same key.Owner (λ e. cc) ∙ h.owner.stands; identifier = h.owner.identifier };
    present = record { row = h.present.row; stands = same (key.Set Present) (λ e. cc) ∙ h.present.stands; is = h.present.is };
    older = subst (λ (found : Option Value). ShowsOlder a found d.held) (sym (same (key.Set Older) (λ e. cc))) h.older;
    locals = λ local item e. h.locals local item (sym (same (key.Local local) (λ k. cc)) ∙ e);
    once = λ n m item twin e k. h.once n m item twin (sym (same (key.Local n) (λ x. cc)) ∙ e) (sym (same (key.Local m) (λ x. cc)) ∙ k);
    drafts = λ uuid draft e.
        let row : HasRow rows uuid = h.drafts uuid draft e in
        record { number = row.number; item = row.item; stands = same (key.Local row.number) (λ k. cc) ∙ row.stands; item_is = row.item_is };
    no_other = λ k some. own_key k (λ off. h.no_other k (subst (λ (found : Option Value). IsSome found) (same k off) some));
  }

  asked_shows : (at : Key) (v : Value) → rows at ≡ Some v → ShowsDevice rows s name → ShowsDevice now s name
  asked_shows at v stands h =
      let own = holder_from rows s name at v h stands in
      shows_of now s name own.0 own.1 own.2 (asked_holder own.0 own.1 (holder_of rows s name own.0 own.1 h own.2))

-- ---- the commits

pub ask_shows : AskShows
ask_shows rows set changes s name h x =
    subst (λ (cs : List Change). ShowsDevice (rows_after rows cs) s name × IsInSlot (rows_after rows cs) x.owner.identifier Asked (Some set)) (sym x.changes_are) (
      asked_shows rows (rows_after rows (x.change ∷ [])) s name
          (λ k off. put_elsewhere rows x.change (key.Set Asked) k (value.Set x.put.keys) x.put.puts off) key.Owner (value.Owner x.owner) x.holds.owned h,
      (x.put.keys, put_here rows x.change (key.Set Asked) (value.Set x.put.keys) x.put.puts, x.put.keys_are),
    )

pub forget_shows : ForgetShows
forget_shows rows changes s name h x =
    subst (λ (cs : List Change). ShowsDevice (rows_after rows cs) s name × HasNoneAsked (rows_after rows cs)) (sym x.changes_are) (
      asked_shows rows (rows_after rows (x.change ∷ [])) s name (λ k off. removed_elsewhere rows x.change (key.Set Asked) k x.removes off) (key.Set Asked)
          (value.Set x.asked) x.stands h,
      removed_here rows x.change (key.Set Asked) x.removes,
    )

pub renew_shows : RenewShows
renew_shows rows token changes s name h x =
    let own = holder_from rows s name key.Owner (value.Owner x.owner) h x.owned in
    let holder : ShowsHolder rows s name own.0 own.1 = holder_of rows s name own.0 own.1 h own.2 in
    subst (λ (cs : List Change). ShowsDevice (rows_after rows cs) s name) (sym x.changes_are)
    (tokens_show rows s name own.0 own.1 x.change h own.2
    (record {
      row = x.renewed.owner;
      puts = x.renewed.puts_it;
      identifier = ap (λ (c : OwnerColumns). c.identifier) x.renewed.columns_are ∙ identifier_of rows s name own.0 own.1 x.owner holder x.owned;
    }))

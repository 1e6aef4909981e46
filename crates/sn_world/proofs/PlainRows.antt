-- Where each account has one set, no device has a row that is to be sealed again, and none an older set.
use Rattle.std.proofs.Common.{◌≡◌, ◌<◌, ◌≤◌, ℕ, length, Option, Some, None, Bool, true, false, refl, sym, subst, arith}
use Rattle.std.specs.Prelude.{IsSome}
use Rattle.sn_device.specs.States.{HasLocal}
use Rattle.sn_laws.proofs.Facts.{is_false}
use Rattle.sn_laws.specs.Lookups.{Bytes, account_named, device_named, greatest}
use Rattle.sn_laws.specs.Relation.{IsUnder}
use Rattle.sn_laws.specs.declared.ideal.Account.{Account}
use Rattle.sn_laws.specs.declared.ideal.Body.{Body}
use Rattle.sn_laws.specs.declared.ideal.Device.{Device}
use Rattle.sn_laws.specs.declared.ideal.Ideal.{Ideal}
use Rattle.sn_rows.specs.Table.{Rows}
use Rattle.sn_rows.specs.declared.device_rows.LocalItem.{LocalItem}
use Rattle.sn_rows.specs.declared.key.Key.TheVariants as key
use Rattle.sn_rows.specs.declared.key.Slot.TheVariants.{Older}
use Rattle.sn_shows.specs.Devices.{OpensBase, ShowsBase, ShowsDeviceAs, ShowsHolder, ShowsNothing}
use Rattle.sn_shows.specs.Laws.{HasAccount}
use Rattle.sn_shows.specs.Servers.{account_at}
use Rattle.sn_world.proofs.HeldSets.{held_sets}
use Rattle.sn_world.proofs.PlainSets.{carries_some, holds_one}
use Rattle.sn_world.proofs.Tokens.{named_at}
use Rattle.sn_world.specs.Holds.{Holds}
use Rattle.sn_world.specs.Plain.{HoldsPlain, PlainRows}
use Rattle.sn_world.specs.World.{World}

abbrev HasNone : Rows → Type 0
HasNone rows =
    ((number : ℕ) (local : LocalItem) → HasLocal rows number local → local.stale ≡ false) × (rows (key.Set Older) ≡ None)

none_there : (found : Option ℕ) → found ≡ None → IsSome found → ⊥
none_there None is some = absurd (cc)
none_there (Some n) is some = absurd (cc)

module _ (secret : Bytes) (w : World) (s : Ideal) (name : Bytes) (p : HoldsPlain secret w s) where
  abbrev rows : Rows
  rows = w.devices name

  abbrev h : Holds secret w s
  h = p.holds

  none_held : ShowsNothing rows s name → HasNone rows
  none_held x = (
    λ number local stands. (let none : rows (key.Local number) ≡ None = x.none (key.Local number) in absurd (cc)),
    x.none (key.Set Older),
  )

  -- what a row stands on is under the one set, and so under none below it
  unstale : (n : ℕ) (a : Account) (number most : ℕ) (local : LocalItem) → account_at n s.accounts ≡ Some a → most ≡ 1 → HasLocal rows number local
      → (base : Option ℕ) → local.base ≡ base → ShowsBase a most local base → local.stale ≡ true → ⊥
  unstale n a number most local at one stands None is shows stale =
      none_there local.base is (((h.sound name).locals.items number local stands).again stale)
  unstale n a number most local at one stands (Some stamp) is shows stale =
      let opens : OpensBase a.sets most shows.listed.number local.uuid shows.listed.strings shows.listed.text true =
      subst (λ (b : Bool). OpensBase a.sets most shows.listed.number local.uuid shows.listed.strings shows.listed.text b) stale shows.opens in
      let below : shows.listed.number < most = opens.0 in
      let low : 1 ≤ shows.listed.number =
      carries_some s h.reached n a at shows.listed.version shows.listed.among shows.listed.number
      (subst (λ (b : Body). IsUnder shows.listed.number b) (sym shows.listed.live) refl) in
      absurd (omega arith)

  held : (d : Device) (a : Account) → device_named s name ≡ Some d → account_named s d.account ≡ Some a → ShowsHolder rows s name d a → HasNone rows
  held d a named has x =
      let k = named_at s d.account a has in
      let own : HasAccount s name d a = record { device = named; account = has } in
      let one = holds_one d.held (length a.sets) a (rows (key.Set Older)) (p.plain.one_set k.0 a k.1) (held_sets s h.reached name d a own) x.older in (
        λ number local stands.
            is_false local.stale
            (unstale k.0 a number (greatest 0 d.held) local k.1 one.0 stands local.base refl (x.locals number local stands).base),
        one.1,
      )

  pub has_none : HasNone rows
  has_none = by (device_named s name) refl (h.devices name)
    where
      by : (found : Option Device) → device_named s name ≡ found → ShowsDeviceAs rows s name found → HasNone rows
      by None e x = none_held x
      by (Some d) e (a, has, x) = held d a e has x

pub plain_rows : PlainRows
plain_rows secret w s name p = has_none secret w s name p

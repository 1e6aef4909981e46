-- The item that is sent of a device's stale row: on the server the item's last version is behind, and the item is it, sealed again.
use Rattle.std.proofs.Common.{◌≡◌, ◌<◌, ℕ, List, [], ◌∷◌, length, Option, Some, Bool, sym, ap, ◌∙◌, subst, inl, inr, ⊎_elim, arith}
use Rattle.std.specs.Prelude.{map}
use Rattle.sn_account.specs.Incoming.{IsAbsent, IsHeld, Names, SameVersion}
use Rattle.sn_account.specs.Lookups.{HasItem}
use Rattle.sn_items.specs.declared.sealed.Sealed.{Sealed}
use Rattle.sn_laws.proofs.Facts.{last_among, one_there}
use Rattle.sn_laws.specs.Each.{Each, One}
use Rattle.sn_laws.specs.Laws.{Rises}
use Rattle.sn_laws.specs.Lookups.{Bytes, last_of}
use Rattle.sn_laws.specs.declared.ideal.Account.{Account}
use Rattle.sn_laws.specs.declared.ideal.Ideal.{Ideal}
use Rattle.sn_laws.specs.declared.ideal.Version.{Version}
use Rattle.sn_rows.specs.declared.body.RowBody.{RowBody}
use Rattle.sn_rows.specs.declared.body.RowBody.TheVariants as row
use Rattle.sn_rows.specs.declared.body.RowStrings.{RowStrings}
use Rattle.sn_rows.specs.declared.device_rows.LocalItem.{LocalItem}
use Rattle.sn_rows.specs.declared.key.Key.TheVariants as key
use Rattle.sn_rows.specs.declared.server_rows.ItemRow.{ItemRow}
use Rattle.sn_shows.specs.Devices.{IsBase, OpensBase, ShowsBase, ShowsLocal}
use Rattle.sn_shows.specs.Servers.{ShowsItem}
use Rattle.sn_shows.specs.Sets.{OpensUnder}
use Rattle.sn_sync.specs.Laws.{HasOneStamp}
use Rattle.sn_sync.specs.Stamps.{IsStampText}
use Rattle.sn_changed.proofs.Found.{has_last, one_item}
use Rattle.sn_changed.specs.Stale.{IsResent, StaleBehind, StaleFree}

-- ---- of versions with rising stamps one has each stamp

above : (n : ℕ) (vs : List Version) (x : Version) → Each (λ m. n < m) (map (λ (v : Version). v.stamp) vs) → One (λ (v : Version). v ≡ x) vs → n < x.stamp
above n [] x each one = absurd one
above n (v ∷ vs) x each one = ⊎_elim (λ (is : v ≡ x). subst (λ (w : Version). n < w.stamp) is each.0) (λ rest. above n vs x each.1 rest) one

never_below : (n m : ℕ) → n < m → n ≡ m → ⊥
never_below n m less same = absurd (omega (arith, less, same))

pub one_stamped : (vs : List Version) (x y : Version) → Rises (map (λ (v : Version). v.stamp) vs) → One (λ (v : Version). v ≡ x) vs
    → One (λ (v : Version). v ≡ y) vs → x.stamp ≡ y.stamp → x ≡ y
one_stamped [] x y rising at_x at_y same = absurd at_x
one_stamped (v ∷ vs) x y rising at_x at_y same =
    ⊎_elim
    (λ (is : v ≡ x).
    ⊎_elim (λ (too : v ≡ y). sym is ∙ too)
    (λ rest. absurd (never_below v.stamp y.stamp (above v.stamp vs y rising.0 rest) (ap (λ (w : Version). w.stamp) is ∙ same))) at_y)
    (λ rest.
    ⊎_elim (λ (is : v ≡ y). absurd (never_below v.stamp x.stamp (above v.stamp vs x rising.0 rest) (ap (λ (w : Version). w.stamp) is ∙ sym same)))
    (λ rest_too. one_stamped vs x y rising.1 rest rest_too same) at_y)
    at_x

-- ---- the row

one_strings : (x y : RowStrings) (found : Option RowBody) → found ≡ Some (row.Sealed x) → found ≡ Some (row.Sealed y) → x ≡ y
one_strings x y found e k = cc

abbrev sealed : RowStrings → Sealed
sealed strings = record { content = strings.content; enc = strings.enc }

-- it stands on a version
base_of : (s : Ideal) (name : Bytes) (number : ℕ) (a : Account) (local : LocalItem) (stamp : ℕ) → ShowsLocal s name number a local → local.base ≡ Some stamp
    → IsBase a number local stamp
base_of s name number a local stamp shows is = subst (λ (o : Option ℕ). ShowsBase a number local o) is shows.base

pub stale_behind : StaleBehind
stale_behind s name a local v i shows rising x last = record {
  text = base.listed.text;
  under = base.listed.number;
  live = ap (λ (w : Version). w.body) (sym same) ∙ base.listed.live;
  behind = λ e. never_below base.listed.number (length a.sets) opens.0 e;
  kind_is = x.kind_is ∙ sym base.listed.kind_is ∙ ap (λ (w : Version). w.kind) same;
  content = x.strings.content;
  enc = x.strings.enc;
  strings = x.body_is;
  opens = subst (λ (u : Bytes). OpensUnder a.sets (length a.sets) u (sealed x.strings) base.listed.text) (sym x.uuid_is)
      (subst (λ (t : RowStrings). OpensUnder a.sets (length a.sets) local.uuid (sealed t) base.listed.text) strings_are opens.1);
}
  where
    base : IsBase a (length a.sets) local v.stamp
    base = base_of s name (length a.sets) a local v.stamp shows x.base_is

    opens : (base.listed.number < length a.sets) × OpensUnder a.sets (length a.sets) local.uuid (sealed base.listed.strings) base.listed.text
    opens =
        subst (λ (b : Bool). OpensBase a.sets (length a.sets) base.listed.number local.uuid base.listed.strings base.listed.text b) x.stale base.opens

    strings_are : base.listed.strings ≡ x.strings
    strings_are = one_strings base.listed.strings x.strings local.body base.listed.body_is x.has

    same : base.listed.version ≡ v
    same = one_stamped a.versions base.listed.version v rising base.listed.among (last_among i.uuid a.versions v last).0 base.listed.stamp_is

-- ---- what a server may accept of it

item_in : (uuid : Bytes) (vs : List Version) (x : Version) → One (λ (v : Version). v ≡ x) vs → x.uuid ≡ uuid → One (λ (v : Version). v.uuid ≡ uuid) vs
item_in uuid [] x one is = absurd one
item_in uuid (v ∷ vs) x one is =
    ⊎_elim (λ (same : v ≡ x). inl (ap (λ (w : Version). w.uuid) same ∙ is)) (λ rest. inr (item_in uuid vs x rest is)) one

pub stale_free : HasOneStamp → StaleFree
stale_free one_stamp p present s name number a local stamp i shows apart at rising row_shows x names free = record {
  version = last.0;
  stamp_is = stamp_is;
  meets = record {
    shows = shows;
    apart = apart;
    at = at;
    last = last.1;
    again = stale_behind s name a local last.0 i row_shows rising (resent last.0.stamp (sym stamp_is)) last.1;
  };
}
  where
    base : IsBase a (length a.sets) local stamp
    base = base_of s name (length a.sets) a local stamp row_shows x.base_is

    last : (w : Version) × (last_of i.uuid a.versions ≡ Some w)
    last = has_last i.uuid a.versions (item_in i.uuid a.versions base.listed.version base.listed.among (base.listed.item_is ∙ sym x.uuid_is))

    shown : ShowsItem p.rows number a i.uuid last.0
    shown = (shows.each number a at).items i.uuid last.0 last.1

    -- the version that the item names is the stored one
    of_row : (r : ItemRow) → HasItem p.rows i.uuid r → Names i r → last.0.stamp ≡ stamp
    of_row r there says =
        let is : r ≡ shown.row = one_item r shown.row (p.rows (key.Item i.uuid)) there shown.stands in
        let text : says.0 ≡ names.0 = one_there says.0 names.0 i.updated_at says.2 names.2 in
        let updated : r.updated ≡ stamp = one_stamp names.0 r.updated stamp (subst (λ (t : Bytes). IsStampText t r.updated) text says.1) names.1 in
        sym shown.updated ∙ ap (λ (z : ItemRow). z.updated) (sym is) ∙ updated

    stamp_is : last.0.stamp ≡ stamp
    stamp_is =
        ⊎_elim (λ (absent : IsAbsent p.rows i.uuid). absurd (absent shown.row shown.stands))
        (λ (held : (r : ItemRow) × IsHeld p number i r × ¬ (SameVersion r i) × Names i r). of_row held.0 held.1.0 held.3) free.0

    resent : (k : ℕ) → stamp ≡ k → IsResent local k i
    resent k is = subst (λ (n : ℕ). IsResent local n i) is x

-- What is sent is live.
use Rattle.std.proofs.Common.{◌≡◌, ◌≢◌, ◌⊎◌, ◌≤◌, ℕ, length, Option, Some, None, refl, sym, ap, ◌∙◌, subst, inl, inr, ⊎_elim, arith}
use Rattle.std.proofs.Math.Nat.{eq-or-lt_of_le}
use Rattle.std.proofs.lemmas.Bool.{cases_lt}
use Rattle.std.specs.Prelude.{IsSome}
use Rattle.sn_changed.specs.Stale.{HasRisingStamps, StaleBehind}
use Rattle.sn_device.specs.Sending.{IsSentAs, SaysBase, first_some, message_body}
use Rattle.sn_laws.specs.Each.{Each}
use Rattle.sn_laws.specs.Laws.{VersionsRise}
use Rattle.sn_laws.specs.Lookups.{Bytes, greatest}
use Rattle.sn_laws.specs.declared.ideal.Account.{Account}
use Rattle.sn_laws.specs.declared.ideal.Ideal.{Ideal}
use Rattle.sn_laws.specs.declared.ideal.Version.{Version}
use Rattle.sn_rows.specs.Table.{Rows}
use Rattle.sn_rows.specs.declared.body.RowBody.{RowBody}
use Rattle.sn_rows.specs.declared.body.RowBody.TheVariants as row
use Rattle.sn_rows.specs.declared.device_rows.LocalItem.{LocalItem}
use Rattle.sn_rows.specs.declared.key.Key.TheVariants as key
use Rattle.sn_rows.specs.declared.value.Value.TheVariants as value
use Rattle.sn_shows.proofs.Facts.{holder_of}
use Rattle.sn_shows.specs.Devices.{IsBase, ShowsBase, ShowsLocal}
use Rattle.sn_shows.specs.Servers.{ShowsAccounts, ShowsItem, account_at, stamps_in}
use Rattle.sn_sync.specs.Laws.{HasOneStamp}
use Rattle.sn_sync.specs.Stamps.{IsStampText}
use Rattle.sn_sync.specs.Versions.{NamesStamp}
use Rattle.sn_sync.specs.declared.item.Item.{Item}
use Rattle.sn_world.proofs.Lasts.{has_last, within_all}
use Rattle.sn_world.proofs.ShowsLemmas.{each_at}
use Rattle.sn_world.proofs.Lists.{this_one}
use Rattle.sn_world.specs.Holds.{Reached}
use Rattle.sn_world.specs.Live.{IsPosted, LiveItem}
use Rattle.sn_world.specs.Making.{IsSentBy, MakesLive, SendsAgain, SendsPosted}

-- ---- what was posted

-- what a row with something posted sends is that
pub sends_it : (posted : Option RowBody) (later : Option RowBody) (version : RowBody) → posted ≢ None → first_some posted later ≡ Some version → posted ≡ Some version
sends_it None later version some e = absurd (some refl)
sends_it (Some b) later version some e = e

one_text : (t u : Bytes) (found : Option Bytes) → found ≡ Some t → found ≡ Some u → t ≡ u
one_text t u found e k = cc

posted_live : (device : Rows) (number : ℕ) (local : LocalItem) (i : Item) → device (key.Local number) ≡ Some (value.Local local)
    → SendsPosted local i → IsPosted device i
posted_live device number local i stands x =
    record {
      number = number;
      local = local;
      stands = stands;
      uuid_is = sym x.0.uuid_is;
      kind_is = sym x.0.kind_is;
      base = x.0.replaces;
      posted = x.0.version;
      posted_is = sends_it local.posted (first_some local.latest local.body) x.0.version x.1 x.0.sent;
      body_is = x.0.body_is;
    }

-- ---- a stale row

-- what it sends is the version that it stands on
sent_again : (posted latest found : Option RowBody) (version b : RowBody) → posted ≡ None → latest ≡ None → found ≡ Some b
    → first_some posted (first_some latest found) ≡ Some version → version ≡ b
sent_again None None found version b unposted undrafted is sent = cc
sent_again None (Some c) found version b unposted undrafted is sent = absurd (cc)
sent_again (Some c) latest found version b unposted undrafted is sent = absurd (cc)

alike : (a b : ℕ) → (a ≡ b) ⊎ (a ≢ b)
alike a b =
    elim (cases_lt a b) [
      | inl below ↦ inr (λ same. absurd (omega arith))
      | inr above ↦ elim (eq-or-lt_of_le above) [
        | inl same ↦ inl (sym same)
        | inr over ↦ inr (λ same. absurd (omega arith))
      ]
    ]

no_draft : (found : Option RowBody) → found ≡ None → IsSome found → ⊥
no_draft None none some = absurd (cc)
no_draft (Some b) none some = cc

-- of an item whose last version is another than the one that the row stands on, it changes nothing; else it is that version, sealed again
module _ (one_stamp : HasOneStamp) (behind : StaleBehind) (server device : Rows) (s : Ideal) (name : Bytes) (n : ℕ) (a : Account) (local : LocalItem) (i : Item)
    (rising : HasRisingStamps a) (shows : ShowsAccounts server s.accounts) (at : account_at n s.accounts ≡ Some a)
    (shown : ShowsLocal s name (length a.sets) a local) (x : SendsAgain local i) where
  again_by : (base : Option ℕ) → local.base ≡ base → ShowsBase a (length a.sets) local base → SaysBase base i.updated_at
      → LiveItem (server (key.Item i.uuid)) device s.accounts n i
  again_by None e stands names = absurd (no_draft local.latest x.2 stands.1)
  again_by (Some stamp) e stands names =
      let last = has_last i.uuid a.versions stands.listed.version stands.listed.among (stands.listed.item_is ∙ sym x.0.uuid_is) in
      let its : ShowsItem server n a i.uuid last.0 = (shows.each n a at).items i.uuid last.0 last.1 in
      ⊎_elim
      (λ (same : last.0.stamp ≡ stamp). inr (inr (inr (inr (record {
        account = a;
        at = at;
        version = last.0;
        last = last.1;
        names = subst (λ (k : ℕ). NamesStamp i k) (sym same) names;
        again = behind s name a local last.0 i shown rising (record {
          stale = x.1;
          base_is = e ∙ ap Some (sym same);
          uuid_is = x.0.uuid_is;
          kind_is = x.0.kind_is;
          strings = stands.listed.strings;
          has = stands.listed.body_is;
          body_is = x.0.body_is
              ∙ ap message_body
              (sent_again local.posted local.latest local.body x.0.version (row.Sealed stands.listed.strings) x.3 x.2 stands.listed.body_is x.0.sent);
        }) last.1;
      })))))
      (λ (other : last.0.stamp ≢ stamp). inr (inr (inl (
        its.row,
        its.stands,
        its.account,
        λ named.
            let text : named.0 ≡ names.0 = one_text named.0 names.0 i.updated_at named.2 names.2 in
            other (sym its.updated ∙ one_stamp names.0 its.row.updated stamp (subst (λ (t : Bytes). IsStampText t its.row.updated) text named.1) names.1),
      ))))
      (alike last.0.stamp stamp)

  pub again_live : LiveItem (server (key.Item i.uuid)) device s.accounts n i
  again_live = again_by local.base refl shown.base x.0.replaces

-- ---- any row

sent_as : (local : LocalItem) (i : Item) → IsSentBy local i → IsSentAs local i
sent_as local i (inl x) = x.0
sent_as local i (inr x) = x.0

rising_of : VersionsRise → (s : Ideal) → Reached s → (n : ℕ) (a : Account) → account_at n s.accounts ≡ Some a → HasRisingStamps a
rising_of rise s r n a at =
    each_at HasRisingStamps s.accounts n a (subst (λ (t : Ideal). Each HasRisingStamps t.accounts) (sym r.is) (rise r.moves r.legal)) at

pub makes_live : HasOneStamp → VersionsRise → StaleBehind → MakesLive
makes_live one_stamp rise behind server device s name n number a d item i reached server_shows at has shows stands x =
    (bound item.base refl (sent_as item i x).replaces, λ last. live last x)
  where
    shown : ShowsLocal s name (greatest 0 d.held) a item
    shown = (holder_of device s name d a shows has).locals number item stands

    bound : (base : Option ℕ) → item.base ≡ base → SaysBase base i.updated_at → (text : Bytes) (stamp : ℕ) → i.updated_at ≡ Some text → IsStampText text stamp
        → stamp ≤ greatest 0 (stamps_in s.accounts)
    bound None e known text stamp is spelled = absurd (cc)
    bound (Some base) e known text stamp is spelled =
        let its : IsBase a (greatest 0 d.held) item base = subst (λ (o : Option ℕ). ShowsBase a (greatest 0 d.held) item o) e shown.base in
        let within : its.listed.version.stamp ≤ greatest 0 (stamps_in s.accounts) =
        this_one (λ (y : Version). y.stamp ≤ greatest 0 (stamps_in s.accounts)) a.versions its.listed.version
        (each_at (λ (b : Account). Each (λ (y : Version). y.stamp ≤ greatest 0 (stamps_in s.accounts)) b.versions) s.accounts n a (within_all s.accounts) at) its.listed.among in
        let same_text : text ≡ known.0 = cc in
        let same : stamp ≡ base = one_stamp known.0 stamp base (subst (λ (t : Bytes). IsStampText t stamp) same_text spelled) known.1 in
        let is_stamp : its.listed.version.stamp ≡ base = its.listed.stamp_is in
        omega arith

    live : greatest 0 d.held ≡ length a.sets → IsSentBy item i → LiveItem (server (key.Item i.uuid)) device s.accounts n i
    live last (inl y) = inr (inr (inr (inl (posted_live device number item i stands y))))
    live last (inr y) =
        again_live one_stamp behind server device s name n a item i (rising_of rise s reached n a at) server_shows.all at
        (subst (λ (g : ℕ). ShowsLocal s name g a item) last shown) y

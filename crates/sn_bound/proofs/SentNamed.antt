-- What a device sends that has all versions of its account and no draft: its account's last versions, sealed again under the last set, each of which names
-- its stamp.
use Rattle.std.proofs.Common.{◌≡◌, ◌≤◌, ℕ, length, Bool, Option, Some, None, refl, sym, ap, ◌∙◌, subst, inr}
use Rattle.sn_account.specs.Incoming.{IsOwnBody}
use Rattle.sn_account.specs.Rules.{IsPresent}
use Rattle.sn_account.specs.Sessions.{IsSession, session_token}
use Rattle.sn_bound.proofs.AllSaved.{IsAsSent, NamesLast}
use Rattle.sn_bound.proofs.SavedTaken.{HasClean}
use Rattle.sn_bound.specs.Whole.{HasWhole}
use Rattle.sn_device.specs.Sending.{SaysBase, first_some, message_body}
use Rattle.sn_device.specs.States.{HasLocal, HasSets}
use Rattle.sn_items.specs.Items.{OpensItem}
use Rattle.sn_laws.proofs.Facts.{one_there}
use Rattle.sn_laws.specs.Lookups.{Bytes, account_named, device_named, draft_at, greatest, last_of}
use Rattle.sn_laws.specs.declared.ideal.Account.{Account}
use Rattle.sn_laws.specs.declared.ideal.Device.{Device}
use Rattle.sn_laws.specs.declared.ideal.Draft.{Draft}
use Rattle.sn_laws.specs.declared.ideal.Ideal.{Ideal}
use Rattle.sn_laws.specs.declared.ideal.Version.{Version}
use Rattle.sn_rows.specs.Table.{Rows}
use Rattle.sn_rows.specs.declared.body.RowBody.{RowBody}
use Rattle.sn_rows.specs.declared.body.RowBody.TheVariants as row
use Rattle.sn_rows.specs.declared.device_rows.LocalItem.{LocalItem}
use Rattle.sn_rows.specs.declared.device_rows.OwnerRow.{OwnerRow}
use Rattle.sn_rows.specs.declared.key.Key.TheVariants as key
use Rattle.sn_rows.specs.declared.value.Value.TheVariants as value
use Rattle.sn_sets.specs.Sets.{sealed_of}
use Rattle.sn_sets.specs.declared.sets.Sets.{Sets}
use Rattle.sn_ready.specs.Ready.{HoldsLast}
use Rattle.sn_shows.proofs.Facts.{holder_from, holder_of}
use Rattle.sn_shows.specs.Devices.{IsBase, OpensBase, ShowsBase, ShowsDraft, ShowsDrafted, ShowsHolder}
use Rattle.sn_shows.specs.Laws.{AccountsApart, HasAccount}
use Rattle.sn_shows.specs.Servers.{ShowsItem, account_at}
use Rattle.sn_shows.specs.Sets.{OpensUnder, set_at}
use Rattle.sn_string.specs.declared.params.KeySet.{KeySet}
use Rattle.sn_string.specs.declared.params.Params.{Params}
use Rattle.sn_sync.specs.Stamps.{IsStampText}
use Rattle.sn_sync.specs.declared.item.Item.{Item}
use Rattle.sn_world.proofs.DeviceSets.{present_at}
use Rattle.sn_world.proofs.DeviceRows.{one_owner}
use Rattle.sn_world.proofs.OwnStrings.{sent_by_own}
use Rattle.sn_world.proofs.SetsKept.{present_params}
use Rattle.sn_world.proofs.Tokens.{device_account, few_numbers, same_owner, session_account}
use Rattle.sn_world.specs.Holds.{DeviceToken, Holds}
use Rattle.sn_world.specs.Laws.{SyncedRows}
use Rattle.sn_world.specs.Making.{SendsAgain}
use Rattle.sn_world.specs.Pulled.{HasAll, StandOnLasts}
use Rattle.sn_world.specs.World.{World}

-- no row has a draft
abbrev pub NoneDrafted : Rows → Type 0
NoneDrafted rows = (number : ℕ) (local : LocalItem) → HasLocal rows number local → local.latest ≡ None

-- so there is none
pub undrafted_there : (rows : Rows) (s : Ideal) (name : Bytes) (d : Device) (a : Account) → ShowsHolder rows s name d a → NoneDrafted rows
    → (uuid : Bytes) → draft_at s name uuid ≡ None
undrafted_there rows s name d a holder clean uuid = by (draft_at s name uuid) refl
  where
    by : (found : Option Draft) → draft_at s name uuid ≡ found → draft_at s name uuid ≡ None
    by None is = is
    by (Some draft) is =
        let there = holder.drafts uuid draft is in
        let shown : ShowsDrafted a.sets (greatest 0 d.held) there.item (draft_at s name there.item.uuid) =
        (holder.locals there.number there.item there.stands).draft in
        let drafted : ShowsDraft a.sets (greatest 0 d.held) there.item draft =
        subst (λ (o : Option Draft). ShowsDrafted a.sets (greatest 0 d.held) there.item o) (ap (λ (u : Bytes). draft_at s name u) there.item_is ∙ is) shown in
        let none : there.item.latest ≡ None = clean there.number there.item there.stands in
        let some : there.item.latest ≡ Some drafted.latest = drafted.latest_is in
        absurd (cc)

only_body : (posted latest found : Option RowBody) (version : RowBody) → posted ≡ None → latest ≡ None
    → first_some posted (first_some latest found) ≡ Some version → found ≡ Some version
only_body None None found version e k is = is
only_body None (Some b) found version e k is = absurd (cc)
only_body (Some b) latest found version e k is = absurd (cc)

module _ (apart : AccountsApart) (synced : SyncedRows) (secret : Bytes) (v : World) (t : Ideal) (h : Holds secret v t) (name : Bytes) (owner : OwnerRow)
    (sets : Sets) (holds : HasSets (v.devices name) owner sets) (clean : NoneDrafted (v.devices name)) (whole : HasWhole v.server (v.devices name))
    (last_set : HoldsLast t name) where
  abbrev rows : Rows
  rows = v.devices name

  its : (d : Device) × (a : Account) × HasAccount t name d a
  its = holder_from rows t name key.Owner (value.Owner owner) (h.devices name) holds.owned

  abbrev d : Device
  d = its.0

  abbrev a : Account
  a = its.1

  abbrev g : ℕ
  g = greatest 0 d.held

  holder : ShowsHolder rows t name d a
  holder = holder_of rows t name d a (h.devices name) its.2

  present : set_at g a.sets ≡ Some sets.present
  present = present_at rows t name d a owner sets holder holds

  -- ---- the account's number

  token : DeviceToken secret rows t.accounts d
  token = h.own_tokens name d its.2.device

  token_is : owner.token ≡ session_token secret token.number g
  token_is = ap (λ (o : OwnerRow). o.token) (one_owner owner token.owner (rows key.Owner) holds.owned token.has) ∙ token.is

  session_at : (n : ℕ) → IsSession v.server owner.token n → account_at n t.accounts ≡ Some a
  session_at n session =
      let b = session_account apart secret v t h owner.token n session in
      let spelled : owner.token ≡ session_token secret n session.account.generation =
      session.is ∙ ap (λ (c : Bytes). session_token c n session.account.generation) (h.keeps_secret session.store session.stands) in
      let same : token.number ≡ n =
      same_owner secret owner.token token.number n g session.account.generation (few_numbers apart secret v t h token.number token.account token.at)
      (few_numbers apart secret v t h n b.0 b.1) token_is spelled in
      let own : HasAccount t name d token.account = device_account apart secret v t h name token.number token.account d token.at its.2.device token.own in
      let account : token.account ≡ a = one_there token.account a (account_named t d.account) own.account its.2.account in
      subst (λ (k : ℕ). account_at k t.accounts ≡ Some a) same (subst (λ (b : Account). account_at token.number t.accounts ≡ Some b) account token.at)

  -- ---- all versions of it

  all : HasAll rows t name
  all = record {
    owner = whole.owner;
    has = whole.owned;
    text = whole.text;
    token = whole.token_is;
    stamp = whole.stamp;
    is = whole.stamped;
    all = λ e b uuid x has last. (up_to e b uuid x has last);
  }
    where
      at : account_at whole.number t.accounts ≡ Some a
      at =
          session_at whole.number
          (subst (λ (o : OwnerRow). IsSession v.server o.token whole.number) (one_owner whole.owner owner (rows key.Owner) whole.owned holds.owned)
          whole.session)

      up_to : (e : Device) (b : Account) (uuid : Bytes) (x : Version) → HasAccount t name e b → last_of uuid b.versions ≡ Some x → x.stamp ≤ whole.stamp
      up_to e b uuid x has last =
          let device : e ≡ d = one_there e d (device_named t name) has.device its.2.device in
          let account : b ≡ a =
          one_there b a (account_named t d.account) (subst (λ (z : Device). account_named t z.account ≡ Some b) device has.account) its.2.account in
          let shown : ShowsItem v.server whole.number a uuid x =
          (h.server.all.each whole.number a at).items uuid x (subst (λ (z : Account). last_of uuid z.versions ≡ Some x) account last) in
          subst (λ (n : ℕ). n ≤ whole.stamp) shown.updated (whole.all uuid shown.row shown.stands shown.account)

  stand : StandOnLasts rows a
  stand = synced secret v t name d a h its.2 (undrafted_there rows t name d a holder clean) all

  -- ---- what is sent of a row

  module _ (number : ℕ) (local : LocalItem) (i : Item) (stands : HasLocal rows number local) (again : SendsAgain local i) where
    on_last : (stamp : ℕ) × (local.base ≡ Some stamp) × IsBase a g local stamp
    on_last =
        let on = stand.no_other number local stands in
        (on.0.stamp, on.3, subst (λ (o : Option ℕ). ShowsBase a g local o) on.3 (holder.locals number local stands).base)

    pub names_last : (n : ℕ) → IsSession v.server owner.token n → (params : Params) → IsPresent v.server n params → NamesLast v.server n params i
    names_last n session params is =
        let at : account_at n t.accounts ≡ Some a = session_at n session in
        let on = stand.no_other number local stands in
        let last : last_of i.uuid a.versions ≡ Some on.0 = ap (λ (u : Bytes). last_of u a.versions) again.0.uuid_is ∙ on.1 in
        let shown : ShowsItem v.server n a i.uuid on.0 = (h.server.all.each n a at).items i.uuid on.0 last in
        let says : SaysBase (Some on.0.stamp) i.updated_at = subst (λ (o : Option ℕ). SaysBase o i.updated_at) on.3 again.0.replaces in
        let set : set_at (length a.sets) a.sets ≡ Some sets.present =
        subst (λ (k : ℕ). set_at k a.sets ≡ Some sets.present) (last_set d a its.2) present in
        let same : params ≡ sets.present.params = present_params v.server t.accounts n a params sets.present h.server.all at is set in
        record {
          row = shown.row;
          held = shown.stands;
          own = shown.account;
          names = (says.0, subst (λ (stamp : ℕ). IsStampText says.0 stamp) (sym shown.updated) says.1, says.2);
          sealed = subst (λ (p : Params). IsOwnBody i.uuid p i.body) (sym same)
              (sent_by_own rows t name d a holder sets.present present number local i stands (inr again));
        }

    pub is_clean : (given : Item) → IsAsSent i given → HasClean sets rows given
    is_clean given as_sent =
        let base = on_last.2 in
        let listed = base.listed in
        let sent : local.body ≡ Some again.0.version = only_body local.posted local.latest local.body again.0.version again.3 again.2 again.0.sent in
        let same : again.0.version ≡ row.Sealed listed.strings =
        one_there again.0.version (row.Sealed listed.strings) local.body sent listed.body_is in
        let opens = subst (λ (b : Bool). OpensBase a.sets g listed.number local.uuid listed.strings listed.text b) again.1 base.opens in
        let under : OpensUnder a.sets g local.uuid (sealed_of listed.strings) listed.text = opens.1 in
        let named : local.uuid ≡ given.uuid = sym again.0.uuid_is ∙ sym as_sent.0 in
        record {
          number = number;
          local = local;
          stands = (stands, named);
          clean = again.2;
          content = listed.strings.content;
          enc = listed.strings.enc;
          body_is = as_sent.1 ∙ again.0.body_is ∙ ap message_body same;
          text = listed.text;
          opens = subst (λ (u : Bytes). OpensItem (sealed_of listed.strings) u sets.present listed.text) named
              (subst (λ (k : KeySet). OpensItem (sealed_of listed.strings) local.uuid k listed.text)
              (one_there under.set sets.present (set_at g a.sets) under.at present) under.opens);
        }

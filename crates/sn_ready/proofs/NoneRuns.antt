-- Where each undeleted last version of its account carries the account's last set, a device of which nothing waits begins a change of password, and the
-- server finds no item behind.
use Rattle.std.proofs.Common.{◌≡◌, ◌⊎◌, ◌<◌, ◌≤◌, ℕ, true, false, List, length, map, Option, Some, None, refl, sym, ap, ◌∙◌, subst, inl, inr, ⊎_elim, arith}
use Rattle.std.specs.Prelude.{Bool, IsSome}
use Rattle.std.proofs.lemmas.Bool.{false_from_ne_true}
use Rattle.sn_account.specs.Rules.{IsBehind, IsPresent}
use Rattle.sn_account.specs.Sessions.{IsSession, session_token}
use Rattle.sn_account.specs.Sound.{most_generations}
use Rattle.sn_device.specs.Runs.{RefusesChange}
use Rattle.sn_device.specs.Sending.{NoneWaits}
use Rattle.sn_device.specs.States.{HasLocal, HasSets}
use Rattle.sn_device.specs.declared.error.ClientError.{ClientError}
use Rattle.sn_finished.specs.Finished.{CarriesLast}
use Rattle.sn_items.specs.Items.{Carries}
use Rattle.sn_laws.proofs.Facts.{one_there}
use Rattle.sn_laws.specs.Each.{Each}
use Rattle.sn_laws.specs.Laws.{Rises, VersionsRise}
use Rattle.sn_laws.specs.Lookups.{Bytes, account_named, device_named, draft_at, greatest, last_of}
use Rattle.sn_laws.specs.Relation.{IsLive, IsUnder}
use Rattle.sn_laws.specs.Runs.{LegalFrom, end_from}
use Rattle.sn_laws.specs.declared.ideal.Account.{Account}
use Rattle.sn_laws.specs.declared.ideal.Body.{Body}
use Rattle.sn_laws.specs.declared.ideal.Body.TheVariants.{Gone, Under}
use Rattle.sn_laws.specs.declared.ideal.Device.{Device}
use Rattle.sn_laws.specs.declared.ideal.Draft.{Draft}
use Rattle.sn_laws.specs.declared.ideal.Ideal.{Ideal}
use Rattle.sn_laws.specs.declared.ideal.Version.{Version}
use Rattle.sn_laws.specs.declared.moves.Move.{Move}
use Rattle.sn_passwd.proofs.Points.{HoldsAlone, last_alone}
use Rattle.sn_passwd.proofs.Retiring.{device_kept}
use Rattle.sn_ready.proofs.Carrying.{stays_carrying}
use Rattle.sn_ready.specs.Ready.{HoldsLast}
use Rattle.sn_rekey.specs.Carrying.{CarriesOther}
use Rattle.sn_rekey.specs.declared.error.Running.TheVariants as running
use Rattle.sn_rows.specs.Table.{Rows}
use Rattle.sn_rows.specs.declared.body.RowBody.{RowBody}
use Rattle.sn_rows.specs.declared.device_rows.LocalItem.{LocalItem}
use Rattle.sn_rows.specs.declared.device_rows.OwnerRow.{OwnerRow}
use Rattle.sn_rows.specs.declared.key.Key.TheVariants as key
use Rattle.sn_rows.specs.declared.key.Slot.TheVariants.{Older}
use Rattle.sn_rows.specs.declared.value.Value.TheVariants as value
use Rattle.sn_sets.specs.Sets.{sealed_of}
use Rattle.sn_sets.specs.declared.sets.Sets.{Sets}
use Rattle.sn_shows.proofs.Facts.{each_at, holder_of}
use Rattle.sn_shows.specs.Devices.{IsBase, OpensBase, ShowsBase, ShowsDrafted, ShowsHolder, ShowsOlder}
use Rattle.sn_shows.specs.Laws.{AccountsApart, HasAccount}
use Rattle.sn_shows.specs.Servers.{ShowsStrings, account_at}
use Rattle.sn_shows.specs.Sets.{OpensUnder, set_at}
use Rattle.sn_string.specs.declared.params.KeySet.{KeySet}
use Rattle.sn_string.specs.declared.params.Params.{Params}
use Rattle.sn_world.proofs.AtLast.{rises_last}
use Rattle.sn_world.proofs.Facts.{device_account, few_numbers, named_at, no_draft, one_owner, present_at, same_owner, session_account}
use Rattle.sn_world.proofs.PresentSets.{none_in}
use Rattle.sn_world.proofs.SetsKept.{present_params}
use Rattle.sn_world.proofs.Standing.{its_last}
use Rattle.sn_world.specs.Holds.{DeviceToken, Holds, TokensDiffer}
use Rattle.sn_world.specs.Laws.{SyncedRows}
use Rattle.sn_world.specs.Pulled.{HasAll}
use Rattle.sn_world.specs.Pulled.{StandOnLasts}
use Rattle.sn_world.specs.World.{World}

module _ (apart : AccountsApart) (rise : VersionsRise) (synced : SyncedRows) (secret : Bytes) (v : World) (t : Ideal) (h : Holds secret v t) (name : Bytes)
    (owner : OwnerRow) (sets : Sets) (holds : HasSets (v.devices name) owner sets) (none_waits : NoneWaits (v.devices name)) (alone : HoldsAlone t name)
    (whole : HasAll (v.devices name) t name) (d : Device) (a : Account) (has : HasAccount t name d a) (carries : CarriesLast a) where
  abbrev rows : Rows
  rows = v.devices name

  abbrev g : ℕ
  g = greatest 0 d.held

  holder : ShowsHolder rows t name d a
  holder = holder_of rows t name d a (h.devices name) has

  last : g ≡ length a.sets
  last = last_alone t name alone d a has

  there : (n : ℕ) × (account_at n t.accounts ≡ Some a)
  there = named_at t d.account a has.account

  present : set_at (length a.sets) a.sets ≡ Some sets.present
  present = subst (λ (k : ℕ). set_at k a.sets ≡ Some sets.present) last (present_at rows t name d a owner sets holder holds)

  undrafted : (uuid : Bytes) → draft_at t name uuid ≡ None
  undrafted = no_draft rows t name d a holder none_waits

  stand : StandOnLasts rows a
  stand = synced secret v t name d a h has undrafted whole

  rising : Rises (map (λ (x : Version). x.stamp) a.versions)
  rising =
      each_at (λ (b : Account). Rises (map (λ (x : Version). x.stamp) b.versions)) t.accounts there.0 a
      (subst (λ (u : Ideal). Each (λ (b : Account). Rises (map (λ (x : Version). x.stamp) b.versions)) u.accounts) (sym h.reached.is)
      (rise h.reached.moves h.reached.legal)) there.1

  -- ---- the device's rows

  clean : (n : ℕ) (local : LocalItem) → HasLocal rows n local → (local.latest ≡ None) × (local.posted ≡ None)
  clean n local stands =
      subst (λ (found : Option Draft). ShowsDrafted a.sets g local found) (undrafted local.uuid) (holder.locals n local stands).draft

  none_older : sets.older ≡ None
  none_older =
      none_in rows owner.identifier Older sets.older
      (subst (λ (held : List ℕ). ShowsOlder a (rows (key.Set Older)) held) (alone d a has) holder.older) holds.before

  of_present : (local : LocalItem) (stamp : ℕ) (base : IsBase a g local stamp) → base.listed.number ≡ length a.sets → local.stale ≡ false
      → Carries (sealed_of base.listed.strings) sets.present.params
  of_present local stamp base number fresh =
      let opens : OpensUnder a.sets base.listed.number local.uuid (sealed_of base.listed.strings) base.listed.text =
      subst (λ (flag : Bool). OpensBase a.sets g base.listed.number local.uuid base.listed.strings base.listed.text flag) fresh base.opens in
      let set : opens.set ≡ sets.present =
      one_there opens.set sets.present (set_at (length a.sets) a.sets) (subst (λ (k : ℕ). set_at k a.sets ≡ Some opens.set) number opens.at) present in
      subst (λ (k : KeySet). Carries (sealed_of base.listed.strings) k.params) set opens.opens.carries

  body_not : (n : ℕ) (local : LocalItem) → HasLocal rows n local → ¬ (CarriesOther sets.present local.body)
  body_not n local stands other =
      let on = stand.no_other n local stands in
      let base : IsBase a g local on.0.stamp =
      subst (λ (o : Option ℕ). ShowsBase a g local o) on.3 (holder.locals n local stands).base in
      let listed = base.listed in
      let same : listed.version ≡ on.0 =
      ⊎_elim (λ (e : listed.version ≡ on.0). e)
      (λ (less : listed.version.stamp < on.0.stamp). absurd (let e : listed.version.stamp ≡ on.0.stamp = listed.stamp_is in omega arith))
      (rises_last local.uuid a.versions listed.version on.0 rising listed.among listed.item_is on.1) in
      let number : listed.number ≡ length a.sets =
      subst (λ (b : Body). IsUnder (length a.sets) b) (ap (λ (x : Version). x.body) (sym same) ∙ listed.live) (carries local.uuid on.0 on.1 on.2) in
      let fresh : local.stale ≡ false = false_from_ne_true local.stale (λ stale. none_waits n local stands (inr stale)) in
      subst (λ (b : Option RowBody). CarriesOther sets.present b) listed.body_is other (of_present local on.0.stamp base number fresh)

  -- a change may begin
  pub runs_not : (why : ClientError) → RefusesChange rows sets why → ⊥
  runs_not why (inl (running.Older nonce, (older, some, is), why_is)) = let none = none_older in absurd (cc)
  runs_not why (inl (running.Item uuid, (none, first), why_is)) = by first.so
    where
      by : (CarriesOther sets.present first.local.body) ⊎ (CarriesOther sets.present first.local.latest) ⊎ (CarriesOther sets.present first.local.posted) → ⊥
      by (inl body) = body_not first.number first.local first.stands.0 body
      by (inr (inl latest)) =
          subst (λ (b : Option RowBody). CarriesOther sets.present b) (clean first.number first.local first.stands.0).0 latest
      by (inr (inr posted)) =
          subst (λ (b : Option RowBody). CarriesOther sets.present b) (clean first.number first.local first.stands.0).1 posted
  runs_not why (inr (uuid, none, first, why_is)) =
      let unsent = (clean first.number first.local first.stands.0).1 in
      let some : IsSome first.local.posted = first.so in
      let no_body : IsSome {T = RowBody} None = subst (λ (b : Option RowBody). IsSome b) unsent some in
      absurd (cc)

  -- ---- the server's

  token : DeviceToken secret rows t.accounts d
  token = h.own_tokens name d has.device

  token_is : owner.token ≡ session_token secret token.number g
  token_is = ap (λ (o : OwnerRow). o.token) (one_owner owner token.owner (rows key.Owner) holds.owned token.has) ∙ token.is

  session_at : (n : ℕ) → IsSession v.server owner.token n → account_at n t.accounts ≡ Some a
  session_at n session =
      let b = session_account apart secret v t h owner.token n session in
      let spelled : owner.token ≡ session_token secret n session.account.generation =
      session.is ∙ ap (λ (c : Bytes). session_token c n session.account.generation) (h.keeps_secret session.store session.stands) in
      let same : token.number ≡ n =
      same_owner secret owner.token token.number n g session.account.generation (few_numbers apart secret v t h token.number token.account token.at)
      (few_numbers apart secret v t h n b.0 b.1) token_is spelled in
      let its : HasAccount t name d token.account = device_account apart secret v t h name token.number token.account d token.at has.device token.own in
      let account : token.account ≡ a = one_there token.account a (account_named t d.account) its.account has.account in
      subst (λ (k : ℕ). account_at k t.accounts ≡ Some a) same (subst (λ (b : Account). account_at token.number t.accounts ≡ Some b) account token.at)

  pub behind_not : (n : ℕ) → IsSession v.server owner.token n → (params : Params) → IsPresent v.server n params → (uuid : Bytes)
      → IsBehind v.server n params uuid → ⊥
  behind_not n session params is uuid b = by its.0.body its.2 (carries uuid its.0 its.1)
    where
      at : account_at n t.accounts ≡ Some a
      at = session_at n session

      its : (x : Version) × (last_of uuid a.versions ≡ Some x) × ShowsStrings a.sets uuid b.item x.body × (b.item.updated ≡ x.stamp) × (b.item.kind ≡ x.kind)
      its = its_last v.server t.accounts n a uuid b.item h.server.all at b.there b.own

      params_are : params ≡ sets.present.params
      params_are = present_params v.server t.accounts n a params sets.present h.server.all at is present

      by : (body : Body) → ShowsStrings a.sets uuid b.item body → (IsLive body → IsUnder (length a.sets) body) → ⊥
      by Gone shows step = let kept = b.kept in let gone : b.item.deleted ≡ true = shows.0 in absurd (cc)
      by (Under text k) shows step =
          let opens : OpensUnder a.sets k uuid (record { content = b.item.content; enc = b.item.enc }) text = shows.1 in
          let set : opens.set ≡ sets.present =
          one_there opens.set sets.present (set_at (length a.sets) a.sets) (subst (λ (j : ℕ). set_at j a.sets ≡ Some opens.set) (step tt) opens.at) present in
          let same : opens.set.params ≡ params = ap (λ (z : KeySet). z.params) set ∙ sym params_are in
          let both = opens.opens.carries in
          b.others (
            (both.content.reading, both.content.reads, both.content.params_are ∙ same),
            (both.enc.reading, both.enc.reads, both.enc.params_are ∙ same),
          )

-- ---- from before

-- with the same session token
module _ (apart : AccountsApart) (secret : Bytes) (differ : TokensDiffer secret) (w v : World) (s : Ideal) (moves : List Move) (h : Holds secret w s)
    (legal : LegalFrom s moves) (k : Holds secret v (end_from s moves)) (name : Bytes) (owner now : OwnerRow)
    (owned : w.devices name key.Owner ≡ Some (value.Owner owner)) (owned_now : v.devices name key.Owner ≡ Some (value.Owner now))
    (same_token : now.token ≡ owner.token) (last : HoldsLast s name) (last_now : HoldsLast (end_from s moves) name) (d : Device) (a : Account)
    (has : HasAccount s name d a) (e : Device) (b : Account) (has_now : HasAccount (end_from s moves) name e b) where
  abbrev t : Ideal
  t = end_from s moves

  was : DeviceToken secret (w.devices name) s.accounts d
  was = h.own_tokens name d has.device

  is : DeviceToken secret (v.devices name) t.accounts e
  is = k.own_tokens name e has_now.device

  tokens : session_token secret was.number (greatest 0 d.held) ≡ session_token secret is.number (greatest 0 e.held)
  tokens =
      sym was.is ∙ ap (λ (o : OwnerRow). o.token) (one_owner was.owner owner (w.devices name key.Owner) was.has owned) ∙ sym same_token
      ∙ ap (λ (o : OwnerRow). o.token) (one_owner now is.owner (v.devices name key.Owner) owned_now is.has) ∙ is.is

  same_count : length b.sets ≡ length a.sets
  same_count =
      let at = named_at s d.account a has.account in
      let at_now = named_at t e.account b has_now.account in
      let number : was.number ≡ is.number =
      same_owner secret (session_token secret was.number (greatest 0 d.held)) was.number is.number (greatest 0 d.held) (greatest 0 e.held)
      (few_numbers apart secret w s h was.number was.account was.at) (few_numbers apart secret v t k is.number is.account is.at) refl tokens in
      let few : length a.sets ≤ most_generations = h.few.sets_few at.0 a at.1 in
      let few_now : length b.sets ≤ most_generations = k.few.sets_few at_now.0 b at_now.1 in
      let one : greatest 0 d.held ≡ length a.sets = last d a has in
      let two : greatest 0 e.held ≡ length b.sets = last_now e b has_now in
      let greatest_is : greatest 0 d.held ≡ greatest 0 e.held =
      differ is.number (greatest 0 d.held) (greatest 0 e.held) (few_numbers apart secret v t k is.number is.account is.at) (omega arith) (omega arith)
      (ap (λ (n : ℕ). session_token secret n (greatest 0 d.held)) (sym number) ∙ tokens) in
      omega (arith, one, two, greatest_is)

  pub still_carries : CarriesLast a → CarriesLast b
  still_carries carries =
      let x = device_kept moves s name d has.device in
      let device : x.0 ≡ e = one_there x.0 e (device_named t name) x.1 has_now.device in
      let own : e.account ≡ d.account = ap (λ (z : Device). z.account) (sym device) ∙ x.2 in
      stays_carrying moves s h.reached legal d.account a b has.account (subst (λ (i : Bytes). account_named t i ≡ Some b) own has_now.account) same_count carries

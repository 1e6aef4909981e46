-- What a change of password is answered with is what its device may adopt.
use Rattle.std.proofs.Common.{◌≡◌, ◌⊎◌, ◌<◌, ◌≤◌, ◌+◌, ℕ, List, [], ◌∷◌, length, length-append, Option, Some, None, refl, sym, ap, ◌∙◌, subst, inl, inr, arith}
use Rattle.sn_account.specs.Rule.{Rule}
use Rattle.sn_account.specs.Rules.{ChangesPassword}
use Rattle.sn_account.specs.Lookups.{HasStore}
use Rattle.sn_account.specs.Sessions.{session_token}
use Rattle.sn_account.specs.Sound.{IsSound as IsSoundServer}
use Rattle.sn_changed.specs.Laws.{ChangeServed, IsChanged, IsRefused, next_set}
use Rattle.sn_changed.specs.Leaves.{ChangeLeaves, ComesNext, OnlyBecomes, with_set}
use Rattle.sn_device.specs.Runs.{change_to}
use Rattle.sn_device.specs.States.{HasOwner}
use Rattle.sn_laws.proofs.Facts.{one_there}
use Rattle.sn_laws.specs.Lookups.{Bytes, device_named, greatest}
use Rattle.sn_laws.specs.Moves.{after}
use Rattle.sn_laws.specs.Runs.{end_from}
use Rattle.sn_laws.specs.declared.ideal.Account.{Account}
use Rattle.sn_laws.specs.declared.ideal.Device.{Device}
use Rattle.sn_laws.specs.declared.ideal.Ideal.{Ideal}
use Rattle.sn_laws.specs.declared.moves.Move.{Move}
use Rattle.sn_rows.specs.Table.{Rows, rows_after}
use Rattle.sn_rows.specs.declared.change.Change.{Change}
use Rattle.sn_rows.specs.declared.device_rows.OwnerRow.{OwnerRow}
use Rattle.sn_rows.specs.declared.key.Key.TheVariants as key
use Rattle.sn_rows.specs.declared.server_rows.StoreRow.{StoreRow}
use Rattle.sn_rows.specs.declared.value.Value.{Value}
use Rattle.sn_rows.specs.declared.value.Value.TheVariants as value
use Rattle.sn_shows.specs.Devices.{ShowsDeviceAs}
use Rattle.sn_shows.specs.Laws.{AccountsApart, HasAccount}
use Rattle.sn_shows.specs.Servers.{account_at}
use Rattle.sn_shows.specs.Sets.{set_at}
use Rattle.sn_string.specs.declared.params.KeySet.{KeySet}
use Rattle.sn_sync.specs.declared.answer.Answer.{Answer}
use Rattle.sn_sync.specs.declared.answer.Answer.TheVariants as answer
use Rattle.sn_sync.specs.declared.request.Request.{Request}
use Rattle.sn_world.proofs.Becoming.{same_device}
use Rattle.sn_world.proofs.ServedChange.{outcome, own_session, said_changes}
use Rattle.sn_world.proofs.Tokens.{apart_of, device_account, few_numbers, held_within, same_owner}
use Rattle.sn_world.specs.Committing.{MayAdopt}
use Rattle.sn_world.specs.Holds.{DeviceToken, Holds, HoldsChange}
use Rattle.sn_world.specs.Laws.{ChangedAdopts}
use Rattle.sn_world.specs.Serving.{SaysRoute, changes_in}
use Rattle.sn_world.specs.World.{World}

one_owner : (x y : OwnerRow) (found : Option Value) → found ≡ Some (value.Owner x) → found ≡ Some (value.Owner y) → x ≡ y
one_owner x y found e k = cc

one_begun : (x y : KeySet) (found : Option KeySet) → found ≡ Some x → found ≡ Some y → x ≡ y
one_begun x y found e k = cc

-- a device with rows has an account
device_of : (rows : Rows) (s : Ideal) (name : Bytes) (owner : OwnerRow) (found : Option Device) → device_named s name ≡ found → ShowsDeviceAs rows s name found
    → HasOwner rows owner → (d : Device) × (device_named s name ≡ Some d)
device_of rows s name owner None e shown has = let none = shown.none key.Owner in absurd (cc)
device_of rows s name owner (Some d) e shown has = (d, e)

module _ (apart : AccountsApart) (change_law : ChangeServed) (leaves_law : ChangeLeaves) (secret : Bytes) (w : World) (s : Ideal) (h : Holds secret w s)
    (name : Bytes)
    (owner : OwnerRow) (has : HasOwner (w.devices name) owner) (begins : Option KeySet) (current pw : Bytes) (cost : ℕ) (nonce : Bytes) (changes : List Change)
    (token identifier uuid : Bytes) (x : HoldsChange secret s.accounts begins owner.token pw cost nonce) (store : StoreRow) (stands : HasStore w.server store)
    (rule : ChangesPassword w.server store owner.token current pw cost nonce changes (answer.Account token identifier uuid))
    (y : IsChanged w.server store s owner.token current x.set changes (answer.Account token identifier uuid)) where
  abbrev a : Account
  a = y.account

  abbrev later : Ideal
  later = after s (next_set a x.set)

  abbrev now : Account
  now = with_set x.set a

  leaves : OnlyBecomes s later y.number a now × ComesNext a.sets x.set
  leaves = leaves_law s y.number a x.set (apart_of apart s h.reached) y.holder.at

  device : (d : Device) × (device_named s name ≡ Some d)
  device = device_of (w.devices name) s name owner (device_named s name) refl (h.devices name) has

  abbrev d : Device
  d = device.0

  own : DeviceToken secret (w.devices name) s.accounts d
  own = h.own_tokens name d device.1

  -- the session of the request is that of the device's account
  number_is : own.number ≡ y.number
  number_is =
      let row : own.owner ≡ owner = one_owner own.owner owner (w.devices name key.Owner) own.has has in
      let spelled : owner.token ≡ session_token secret own.number (greatest 0 d.held) = ap (λ (o : OwnerRow). o.token) (sym row) ∙ own.is in
      let asked : x.number ≡ y.number =
      own_session apart change_law secret w s h begins owner.token current pw cost nonce changes (answer.Account token identifier uuid) x store stands rule y.number y.holder.session in
      same_owner secret owner.token own.number x.number (greatest 0 d.held) x.generation (few_numbers apart secret w s h own.number own.account own.at)
      (few_numbers apart secret w s h x.number x.account x.at) spelled x.token_is ∙ asked

  account_is : own.account ≡ a
  account_is =
      one_there own.account a (account_at y.number s.accounts) (subst (λ (k : ℕ). account_at k s.accounts ≡ Some own.account) number_is own.at) y.holder.at

  identifier_is : a.identifier ≡ d.account
  identifier_is = ap (λ (b : Account). b.identifier) (sym account_is) ∙ own.own

  longer : length now.sets ≡ length a.sets + 1
  longer = length-append a.sets (x.set ∷ [])

  above : greatest 0 d.held < length now.sets
  above =
      let account : HasAccount s name d a = device_account apart secret w s h name y.number a d y.holder.at device.1 identifier_is in
      let held : greatest 0 d.held ≤ length a.sets = held_within apart secret w s h name d a account in
      let more : length now.sets ≡ length a.sets + 1 = longer in
      omega arith

  token_is : token ≡ session_token secret y.number (length now.sets)
  token_is =
      let given = y.answers in
      let is : token ≡ session_token store.secret y.number (length a.sets + 1) = cc in
      is ∙ ap (λ (c : Bytes). session_token c y.number (length a.sets + 1)) (h.keeps_secret store stands) ∙ ap (session_token secret y.number) (sym longer)

  pub adopts : MayAdopt secret later name x.set token
  adopts = record {
    number = y.number;
    account = now;
    at = leaves.0.is;
    device = d;
    named = same_device s later leaves.0.drafts leaves.0.devices name ∙ device.1;
    own = identifier_is;
    last = subst (λ (k : ℕ). set_at k now.sets ≡ Some x.set) (sym longer) leaves.1.next;
    above = above;
    token_is = token_is;
  }

pub changed_adopts : AccountsApart → ChangeServed → ChangeLeaves → ChangedAdopts
changed_adopts apart change_law leaves_law secret w next s m now changes moves token identifier uuid set differ h mk begins x says = by out.1
  where
    given : Answer
    given = answer.Account token identifier uuid

    owner : OwnerRow
    owner = mk.owner

    asked : HoldsChange secret s.accounts m.begins owner.token mk.set.pw mk.set.params.pw_cost mk.set.params.pw_nonce
    asked = h.changes m owner.token mk.sets.present.pw mk.set.pw mk.set.params.pw_cost mk.set.params.pw_nonce x.made mk.request_is

    rule : Rule w.server (change_to owner mk.sets.present mk.set) now changes given
    rule = subst (λ (r : Request). Rule w.server r now changes given) mk.request_is x.rule

    out : IsSoundServer (rows_after w.server changes)
        × (IsRefused w.server s owner.token mk.sets.present.pw asked.set changes given
        ⊎ IsChanged w.server rule.0 s owner.token mk.sets.present.pw asked.set changes given)
    out = outcome apart change_law secret w s h m.begins owner.token mk.sets.present.pw mk.set.pw mk.set.params.pw_cost mk.set.params.pw_nonce changes given
        asked rule.0 rule.1 rule.2

    said : moves ≡ changes_in m.begins changes
    said = subst (λ (r : Request). SaysRoute w.server (w.devices m.device) m.device m.begins r changes moves) mk.request_is says

    by : IsRefused w.server s owner.token mk.sets.present.pw asked.set changes given
        ⊎ IsChanged w.server rule.0 s owner.token mk.sets.present.pw asked.set changes given
        → MayAdopt secret (end_from s moves) m.device set token
    by (inl (inl (denied, bad))) = let is = bad.1 in absurd (cc)
    by (inl (inr (number, a, holder, check, refused, (tag, further, why)))) = let is = why.1 in absurd (cc)
    by (inr y) =
        let moves_are : moves ≡ next_set y.account asked.set ∷ [] =
        said ∙ ap (λ (o : Option KeySet). changes_in o changes) asked.is
        ∙ said_changes w.server rule.0 s owner.token mk.sets.present.pw asked.set changes given y in
        subst (λ (ms : List Move). MayAdopt secret (end_from s ms) m.device set token) (sym moves_are)
        (subst (λ (k : KeySet). MayAdopt secret (after s (next_set y.account asked.set)) m.device k token) (one_begun asked.set set m.begins asked.is begins)
        (adopts apart change_law leaves_law secret w s h m.device owner mk.holds.owned m.begins mk.sets.present.pw mk.set.pw mk.set.params.pw_cost
        mk.set.params.pw_nonce changes token identifier uuid asked rule.0 rule.1 rule.2 y))

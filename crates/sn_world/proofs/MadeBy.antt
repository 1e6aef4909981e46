-- A request that is made keeps the invariant.
use Rattle.std.proofs.Common.{◌≡◌, ◌≤◌, ℕ, List, [], ◌∷◌, length, Option, Some, None, refl, sym, ap, ◌∙◌, subst, ⊎_elim, arith}
use Rattle.sn_account.specs.Sessions.{session_token}
use Rattle.sn_device.specs.States.{HasOwner, IsInSlot}
use Rattle.sn_laws.specs.Each.{Each, One}
use Rattle.sn_laws.specs.Lookups.{Bytes, device_named, greatest}
use Rattle.sn_laws.specs.declared.ideal.Device.{Device}
use Rattle.sn_laws.specs.declared.ideal.Ideal.{Ideal}
use Rattle.sn_rows.specs.declared.device_rows.OwnerRow.{OwnerRow}
use Rattle.sn_rows.specs.declared.key.Key.TheVariants as key
use Rattle.sn_rows.specs.declared.key.Slot.TheVariants.{Asked}
use Rattle.sn_rows.specs.declared.value.Value.{Value}
use Rattle.sn_rows.specs.declared.value.Value.TheVariants as value
use Rattle.sn_shows.proofs.Facts.{holder_of}
use Rattle.sn_shows.specs.Laws.{AccountsApart, HasAccount}
use Rattle.sn_shows.specs.Servers.{stamps_in}
use Rattle.sn_string.specs.declared.params.KeySet.{KeySet}
use Rattle.sn_string.specs.declared.params.Params.{Params}
use Rattle.sn_sync.specs.declared.item.Item.{Item}
use Rattle.sn_sync.specs.declared.request.Request.{Request}
use Rattle.sn_sync.specs.declared.request.Request.TheVariants as request
use Rattle.sn_world.proofs.DeviceSets.{identifier_of}
use Rattle.sn_world.proofs.Frames.{same_world}
use Rattle.sn_world.proofs.ShowsLemmas.{holder_from}
use Rattle.sn_world.proofs.Tokens.{alive_last, device_account, held_within, token_session}
use Rattle.sn_world.specs.Holds.{BeginsSet, DeviceToken, HasToken, Holds, HoldsChange, HoldsSync, IsSync, TokensDiffer}
use Rattle.sn_world.specs.Laws.{KeepsMaking}
use Rattle.sn_world.specs.Live.{KnownBelow, LiveItems}
use Rattle.sn_world.specs.Making.{IsSentOf, MakesRequest, MakesChange, MakesLive, MakesOf, MakesSync}
use Rattle.sn_world.specs.World.{IsMade, Made, World}

one_owner : (x y : OwnerRow) (found : Option Value) → found ≡ Some (value.Owner x) → found ≡ Some (value.Owner y) → x ≡ y
one_owner x y found e k = cc

-- two readings of one request
one_sync : (a b : Bytes) (xs ys : List Item) (l m : ℕ) (p q r t : Option Bytes) → request.Sync a xs l p q ≡ request.Sync b ys m r t → (a ≡ b) × (xs ≡ ys)
one_sync a b xs ys l m p q r t e = (cc, cc)

one_register : (p q : Params) (x y : Bytes) → request.Register p x ≡ request.Register q y → (p ≡ q) × (x ≡ y)
one_register p q x y e = (cc, cc)

one_change : (t u c d p q : Bytes) (k l : ℕ) (n m : Bytes) → request.ChangePw t c p k n ≡ request.ChangePw u d q l m → (t ≡ u) × (p ≡ q) × (k ≡ l) × (n ≡ m)
one_change t u c d p q k l n m e = (cc, cc, cc, cc)

module _ (apart : AccountsApart) (live_law : MakesLive) (secret : Bytes) (w : World) (s : Ideal) (differ : TokensDiffer secret) (h : Holds secret w s) (name : Bytes) where
  -- a device's own row, as that of the account whose session token it has
  module _ (owner : OwnerRow) (owned : HasOwner (w.devices name) owner) (d : Device) (named : device_named s name ≡ Some d) where
    abbrev own : DeviceToken secret (w.devices name) s.accounts d
    own = h.own_tokens name d named

    has : HasAccount s name d own.account
    has = device_account apart secret w s h name own.number own.account d own.at named own.own

    token_is : owner.token ≡ session_token secret own.number (greatest 0 d.held)
    token_is = ap (λ (o : OwnerRow). o.token) (one_owner owner own.owner (w.devices name key.Owner) owned own.has) ∙ own.is

    within : greatest 0 d.held ≤ length own.account.sets
    within = held_within apart secret w s h name d own.account has

    identifier_is : own.account.identifier ≡ owner.identifier
    identifier_is =
        sym (identifier_of (w.devices name) s name d own.account owner (holder_of (w.devices name) s name d own.account (h.devices name) has) owned)

  -- ---- a sync

  module _ (token : Bytes) (items : List Item) (x : MakesSync (w.devices name) token items) (d : Device) (named : device_named s name ≡ Some d) where
    abbrev mine : DeviceToken secret (w.devices name) s.accounts d
    mine = h.own_tokens name d named

    of_device : HasToken secret s.accounts (device_named s name) token
    of_device = record {
      number = mine.number;
      account = mine.account;
      at = mine.at;
      device = d;
      named = named;
      own = mine.own;
      generation = greatest 0 d.held;
      held = let same : greatest 0 d.held ≡ greatest 0 d.held = refl in omega arith;
      is = x.token_is ∙ token_is x.owner x.has d named;
    }

    each_sent : (js : List Item) → Each (IsSentOf (w.devices name)) js
        → Each (KnownBelow (greatest 0 (stamps_in s.accounts))) js
        × (greatest 0 d.held ≡ length mine.account.sets → LiveItems w.server (w.devices name) s.accounts mine.number js)
    each_sent [] from = (tt, λ last. tt)
    each_sent (j ∷ js) (first, behind) =
        let one = live_law w.server (w.devices name) s name mine.number first.0 mine.account d first.1 j h.reached h.server mine.at (has x.owner x.has d named)
        (h.devices name) first.2 first.3 in
        let rest = each_sent js behind in
        ((one.0, rest.0), λ last. (one.1 last, rest.1 last))

    pub sync_made : HoldsSync secret w.server (w.devices name) s name token items
    unfolding of_device
    sync_made =
        let all = each_sent items x.from in
        record {
          of_device = of_device;
          known = all.0;
          live = λ n session.
              subst (λ (k : ℕ). LiveItems w.server (w.devices name) s.accounts k items)
              (token_session apart secret w s h differ name token of_device n session).0
              (all.1 (alive_last apart secret w s h differ name token of_device n session));
        }

  -- a device that has an account's row has an account
  pub sync_of : (token : Bytes) (items : List Item) → MakesSync (w.devices name) token items → HoldsSync secret w.server (w.devices name) s name token items
  sync_of token items x =
      let d = holder_from (w.devices name) s name key.Owner (value.Owner x.owner) (h.devices name) x.has in
      sync_made token items x d.0 d.2.device

  -- ---- a change of password

  -- the set that is asked for is one of the device's account
  asked_identifier : (identifier : Bytes) (found : Option KeySet) (set : KeySet) → found ≡ Some set → IsInSlot (w.devices name) identifier Asked found
      → set.params.identifier ≡ identifier
  asked_identifier identifier None set is slot = absurd (cc)
  asked_identifier identifier (Some other) set is (keys, stands, of) =
      let same : other ≡ set = cc in
      ap (λ (z : KeySet). z.params.identifier) (sym same) ∙ of.identifier_is

  pub change_of : (found : Option KeySet) (token current pw : Bytes) (cost : ℕ) (nonce : Bytes)
      → MakesChange (w.devices name) found (request.ChangePw token current pw cost nonce) → HoldsChange secret s.accounts found token pw cost nonce
  change_of found token current pw cost nonce x =
      let d = holder_from (w.devices name) s name key.Owner (value.Owner x.owner) (h.devices name) x.holds.owned in
      let mine : DeviceToken secret (w.devices name) s.accounts d.0 = h.own_tokens name d.0 d.2.device in
      let parts = one_change token x.owner.token current x.sets.present.pw pw x.set.pw cost x.set.params.pw_cost nonce x.set.params.pw_nonce x.request_is in
      record {
        set = x.set;
        is = x.is;
        pw_is = sym parts.1;
        cost_is = sym parts.2;
        nonce_is = sym parts.3;
        number = mine.number;
        account = mine.account;
        at = mine.at;
        own = identifier_is x.owner x.holds.owned d.0 d.2.device
            ∙ sym (asked_identifier x.owner.identifier x.sets.asked x.set x.asked x.holds.wanted);
        generation = greatest 0 d.0.held;
        within = within x.owner x.holds.owned d.0 d.2.device;
        token_is = parts.0 ∙ token_is x.owner x.holds.owned d.0 d.2.device;
      }

module _ (apart : AccountsApart) (live_law : MakesLive) (secret : Bytes) (w next : World) (s : Ideal) (m : Made) (differ : TokensDiffer secret) (h : Holds secret w s)
    (x : MakesRequest w next m) where
  -- a request of the new list is an old one or this
  which : (P : Made → Type 0) → P m → ((o : Made) → IsMade w o → P o) → (o : Made) → One (λ z. z ≡ o) (m ∷ w.made) → P o
  which P new old o one = ⊎_elim (λ (e : m ≡ o). subst P e new) (λ rest. old o rest) one

  sync_case : (r : Request) → MakesOf (w.devices m.device) m.begins r → (token : Bytes) (items : List Item) (limit : ℕ) (sync_token cursor_token : Option Bytes)
      → r ≡ request.Sync token items limit sync_token cursor_token → HoldsSync secret w.server (w.devices m.device) s m.device token items
  sync_case (request.Sync token items limit sync_token cursor_token) of t js l p q e =
      let same = one_sync token t items js limit l sync_token cursor_token p q e in
      subst (λ (z : Bytes). HoldsSync secret w.server (w.devices m.device) s m.device z js) same.0
      (subst (λ (z : List Item). HoldsSync secret w.server (w.devices m.device) s m.device token z) same.1
      (sync_of apart live_law secret w s differ h m.device token items of))
  sync_case (request.Register params pw) of t js l p q e = absurd (cc)
  sync_case (request.Params identifier) of t js l p q e = absurd (cc)
  sync_case (request.SignIn identifier pw) of t js l p q e = absurd (cc)
  sync_case (request.ChangePw token current pw cost nonce) of t js l p q e = absurd (cc)

  change_case : (r : Request) → MakesOf (w.devices m.device) m.begins r → (token current pw : Bytes) (cost : ℕ) (nonce : Bytes)
      → r ≡ request.ChangePw token current pw cost nonce → HoldsChange secret s.accounts m.begins token pw cost nonce
  change_case (request.ChangePw token current pw cost nonce) of t c p k n e =
      change_of apart live_law secret w s differ h m.device m.begins t c p k n (subst (λ (r : Request). MakesChange (w.devices m.device) m.begins r) e of)
  change_case (request.Sync token items limit sync_token cursor_token) of t current pw cost nonce e = absurd (cc)
  change_case (request.Register params pw) of t current p cost nonce e = absurd (cc)
  change_case (request.Params identifier) of t current pw cost nonce e = absurd (cc)
  change_case (request.SignIn identifier pw) of t current p cost nonce e = absurd (cc)

  register_case : (r : Request) → MakesOf (w.devices m.device) m.begins r → (params : Params) (pw : Bytes) → r ≡ request.Register params pw
      → BeginsSet m.begins params pw
  register_case (request.Register params pw) of p q e =
      let there = one_register params of.set.params pw of.set.pw of.request_is in
      let same = one_register params p pw q e in
      record { set = of.set; is = of.is; params_are = sym same.0 ∙ there.0; pw_is = sym same.1 ∙ there.1 }
  register_case (request.Sync token items limit sync_token cursor_token) of p q e = absurd (cc)
  register_case (request.Params identifier) of p q e = absurd (cc)
  register_case (request.SignIn identifier pw) of p q e = absurd (cc)
  register_case (request.ChangePw token current pw cost nonce) of p q e = absurd (cc)

  pub made_so : Holds secret next s
  made_so =
      same_world secret next s w.server w.devices (m ∷ w.made) x.server x.devices x.made
      (record {
        reached = h.reached;
        few = h.few;
        keeps_secret = h.keeps_secret;
        server = h.server;
        server_sound = h.server_sound;
        devices = h.devices;
        sound = h.sound;
        older_stale = h.older_stale;
        numbers = h.numbers;
        own_tokens = h.own_tokens;
        sync_tokens = h.sync_tokens;
        bases_pulled = h.bases_pulled;
        pulled = h.pulled;
        syncs = λ o token items one is.
            which (λ z. IsSync z token items → HoldsSync secret w.server (w.devices z.device) s z.device token items)
            (λ k. sync_case m.request x.of token items k.limit k.sync_token k.cursor_token k.is)
            (λ z made k. h.syncs z token items made k) o one is;
        changes = λ o token current pw cost nonce one is.
            which (λ z. z.request ≡ request.ChangePw token current pw cost nonce → HoldsChange secret s.accounts z.begins token pw cost nonce)
            (change_case m.request x.of token current pw cost nonce) (λ z made. h.changes z token current pw cost nonce made) o one is;
        registers = λ o params pw one is.
            which (λ z. z.request ≡ request.Register params pw → BeginsSet z.begins params pw) (register_case m.request x.of params pw)
            (λ z made. h.registers z params pw made) o one is;
      })

pub keeps_making : AccountsApart → MakesLive → KeepsMaking
keeps_making apart live_law secret w next s m differ h x = made_so apart live_law secret w next s m differ h x

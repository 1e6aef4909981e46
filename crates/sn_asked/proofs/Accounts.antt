-- What a device that has an account knows of it: its number on the server, its last set, and what the server answers to its questions.
use Rattle.std.proofs.Common.{◌≡◌, ◌≢◌, ◌<◌, ◌≤◌, ◌⊎◌, ℕ, length, Option, Some, refl, sym, ap, ◌∙◌, subst, inl, inr}
use Rattle.std.proofs.Math.Nat.{eq-or-lt_of_le}
use Rattle.std.specs.Prelude.{IsSome, codes, true}
use Rattle.sn_account.specs.Lookups.{HasAccount as HasAccountRow, HasStore, IsNamed}
use Rattle.sn_account.specs.Rules.{Admits, IsBehind, IsPresent, Rejects, SignsIn, TellsParams}
use Rattle.sn_account.specs.Sessions.{IsSession, account_uuid, session_token}
use Rattle.sn_device.specs.States.{HasSets}
use Rattle.sn_keys.specs.Keys.{check_value}
use Rattle.sn_asked.specs.Asked.{IsLastSet}
use Rattle.sn_laws.proofs.Facts.{one_there}
use Rattle.sn_laws.specs.Lookups.{Bytes, account_named, device_named, greatest, last_of}
use Rattle.sn_laws.specs.Relation.{IsLive, IsUnder}
use Rattle.sn_laws.specs.declared.ideal.Account.{Account}
use Rattle.sn_laws.specs.declared.ideal.Body.{Body}
use Rattle.sn_laws.specs.declared.ideal.Body.TheVariants.{Gone, Under}
use Rattle.sn_laws.specs.declared.ideal.Device.{Device}
use Rattle.sn_laws.specs.declared.ideal.Ideal.{Ideal}
use Rattle.sn_laws.specs.declared.ideal.Version.{Version}
use Rattle.sn_ready.specs.Passwds.{IsFinished}
use Rattle.sn_ready.specs.Ready.{HoldsLast}
use Rattle.sn_rows.specs.declared.device_rows.OwnerRow.{OwnerRow}
use Rattle.sn_rows.specs.declared.key.Key.TheVariants as key
use Rattle.sn_rows.specs.declared.server_rows.AccountRow.{AccountRow}
use Rattle.sn_rows.specs.declared.server_rows.StoreRow.{StoreRow}
use Rattle.sn_rows.specs.declared.value.Value.{Value}
use Rattle.sn_rows.specs.declared.value.Value.TheVariants as value
use Rattle.sn_sets.specs.declared.sets.Sets.{Sets}
use Rattle.sn_shows.proofs.Facts.{holder_from, holder_of, one_number}
use Rattle.sn_shows.specs.Devices.{ShowsHolder}
use Rattle.sn_shows.specs.Laws.{AccountsApart, HasAccount}
use Rattle.sn_shows.specs.Servers.{ShowsIdentity, ShowsStrings, account_at}
use Rattle.sn_shows.specs.Sets.{OpensUnder, set_at}
use Rattle.sn_string.specs.declared.params.KeySet.{KeySet}
use Rattle.sn_string.specs.declared.params.Params.{Params}
use Rattle.sn_sync.specs.declared.answer.Answer.{Answer}
use Rattle.sn_sync.specs.declared.answer.Answer.TheVariants as answer
use Rattle.sn_sync.specs.declared.answer.More.TheVariants as more
use Rattle.sn_world.proofs.Facts.{apart_of, device_account, few_numbers, held_within, identifier_of, nonces_apart, one_account, one_owner, present_at, same_owner, session_account, there_is, told_present}
use Rattle.sn_world.proofs.SetsKept.{present_params}
use Rattle.sn_world.proofs.Standing.{its_last}
use Rattle.sn_world.specs.Committing.{MayAdopt}
use Rattle.sn_world.specs.Holds.{DeviceToken, Holds}
use Rattle.sn_world.specs.Laws.{IsOnlySet}
use Rattle.sn_world.specs.World.{World}

below_of : (a b : ℕ) → a ≤ b → a ≢ b → a < b
below_of a b within apart =
    elim (eq-or-lt_of_le within) [
      | inl same ↦ absurd (apart same)
      | inr less ↦ less
    ]

module _ (apart : AccountsApart) (secret : Bytes) (v : World) (t : Ideal) (h : Holds secret v t) (name : Bytes) (owner : OwnerRow) (sets : Sets)
    (holds : HasSets (v.devices name) owner sets) where
  pub found : (d : Device) × (a : Account) × HasAccount t name d a
  found = holder_from (v.devices name) t name key.Owner (value.Owner owner) (h.devices name) holds.owned

  abbrev pub d : Device
  d = found.0

  pub own : DeviceToken secret (v.devices name) t.accounts d
  own = h.own_tokens name d found.2.device

  abbrev a : Account
  a = own.account

  abbrev pub number : ℕ
  number = own.number

  has : HasAccount t name d a
  has = device_account apart secret v t h name own.number a d own.at found.2.device own.own

  holder : ShowsHolder (v.devices name) t name d a
  holder = holder_of (v.devices name) t name d a (h.devices name) has

  its : ShowsIdentity v.server number a
  its = (h.server.all.each number a own.at).identity

  identifier_is : a.identifier ≡ owner.identifier
  identifier_is = sym (identifier_of (v.devices name) t name d a owner holder holds.owned)

  pub named : IsNamed v.server owner.identifier number
  named = (its.row, its.stands, its.identifier ∙ identifier_is)

  -- no other account has the identifier
  number_named : (n : ℕ) → IsNamed v.server owner.identifier n → n ≡ number
  number_named n (row, there, is) =
      let b = there_is (account_at n t.accounts) (h.server.all.no_other (key.Account n) (subst (λ (o : Option Value). IsSome o) (sym there) refl)) in
      let other : ShowsIdentity v.server n b.0 = (h.server.all.each n b.0 b.1).identity in
      let row_is : row ≡ other.row = one_account row other.row (v.server (key.Account n)) there other.stands in
      apart_of apart t h.reached n number b.0 a b.1 own.at
      (sym other.identifier ∙ ap (λ (z : AccountRow). z.identifier) (sym row_is) ∙ is ∙ sym identifier_is)

  row_of : (n : ℕ) (row : AccountRow) → HasAccountRow v.server n row → n ≡ number → row ≡ its.row
  row_of n row there same =
      one_account row its.row (v.server (key.Account n)) there (ap (λ (k : ℕ). v.server (key.Account k)) same ∙ its.stands)

  -- ---- the last set

  last_asked : (set : KeySet) → IsLastSet t name set → its.last ≡ set
  last_asked set last = one_there its.last set (set_at (length a.sets) a.sets) its.last_is (last d a has)

  held : set_at (greatest 0 d.held) a.sets ≡ Some sets.present
  held = present_at (v.devices name) t name d a owner sets holder holds

  last_present : HoldsLast t name → its.last ≡ sets.present
  last_present last =
      one_there its.last sets.present (set_at (length a.sets) a.sets) its.last_is
      (subst (λ (k : ℕ). set_at k a.sets ≡ Some sets.present) (last d a has) held)

  -- of an account's sets no two have one nonce
  one_holder : (e : Device) (b : Account) → HasAccount t name e b → a ≡ b
  one_holder e b other =
      let device : d ≡ e = one_there d e (device_named t name) has.device other.device in
      one_there a b (account_named t e.account) (subst (λ (z : Device). account_named t z.account ≡ Some a) device has.account) other.account

  holds_there : its.last.params ≡ sets.present.params → HoldsLast t name
  holds_there same e b other =
      let device : d ≡ e = one_there d e (device_named t name) has.device other.device in
      let last : greatest 0 d.held ≡ length a.sets =
      one_number a.sets (greatest 0 d.held) (length a.sets) sets.present its.last (nonces_apart t h.reached number a own.at) held its.last_is
      (ap (λ (p : Params). p.pw_nonce) (sym same)) in
      ap (λ (z : Device). greatest 0 z.held) (sym device) ∙ last ∙ ap (λ (z : Account). length z.sets) (one_holder e b other)

  -- ---- the parameters

  present_is : (params : Params) → IsPresent v.server number params → params ≡ its.last.params
  present_is params is = present_params v.server t.accounts number a params its.last h.server.all own.at is its.last_is

  pub one_present : (p q : Params) → IsPresent v.server number p → IsPresent v.server number q → p ≡ q
  one_present p q is too = present_is p is ∙ sym (present_is q too)

  -- those that the server tells
  pub told : (given : Answer) → TellsParams v.server owner.identifier given
      → (params : Params) × (given ≡ answer.Params params) × IsPresent v.server number params
  told given (inl (unknown, is)) = absurd (unknown number named)
  told given (inr x) = (
    x.params,
    x.answers,
    told_present apart secret v t h owner.identifier x.params
        (inr (record {
          n = x.n;
          account = x.account;
          there = x.there;
          named = x.named;
          generation = x.generation;
          present = x.present;
          params = x.params;
          identifier_is = x.identifier_is;
          cost = x.cost;
          nonce = x.nonce;
          answers = refl;
        })) number named,
  )

  -- whose they are
  pub asked_params : (set : KeySet) (params : Params) → IsPresent v.server number params → IsLastSet t name set → params ≡ set.params
  asked_params set params is last = present_is params is ∙ ap (λ (z : KeySet). z.params) (last_asked set last)

  pub held_params : (params : Params) → IsPresent v.server number params → HoldsLast t name → params ≡ sets.present.params
  held_params params is last = present_is params is ∙ ap (λ (z : KeySet). z.params) (last_present last)

  pub holds_last : (params : Params) → IsPresent v.server number params → params ≡ sets.present.params → HoldsLast t name
  holds_last params is same = holds_there (sym (present_is params is) ∙ same)

  -- ---- the session

  pub session_is : (n : ℕ) → IsSession v.server owner.token n → n ≡ number
  session_is n session =
      let b = session_account apart secret v t h owner.token n session in
      let spelled : owner.token ≡ session_token secret n session.account.generation =
      session.is ∙ ap (λ (c : Bytes). session_token c n session.account.generation) (h.keeps_secret session.store session.stands) in
      let token : owner.token ≡ session_token secret number (greatest 0 d.held) =
      ap (λ (o : OwnerRow). o.token) (one_owner owner own.owner (v.devices name key.Owner) holds.owned own.has) ∙ own.is in
      same_owner secret owner.token n number session.account.generation (greatest 0 d.held) (few_numbers apart secret v t h n b.0 b.1)
      (few_numbers apart secret v t h number a own.at) spelled token

  -- ---- a sign-in with the set that was asked for

  module _ (set : KeySet) where
    -- it is refused where the check value is another
    pub signs : (store : StoreRow) (given : Answer) → SignsIn v.server store owner.identifier set.pw given
        → (Rejects v.server owner.identifier set.pw × (given ≡ answer.Refused 401 (codes "bad-auth") more.Nothing))
        ⊎ Admits v.server store owner.identifier set.pw given
    signs store given (inl (unknown, is)) = absurd (unknown number named)
    signs store given (inr answered) = answered

    -- so the set isn't the last one
    pub rejects_not : Rejects v.server owner.identifier set.pw → ¬ (IsLastSet t name set)
    rejects_not x last =
        let row : x.account ≡ its.row = row_of x.n x.account x.there (number_named x.n (x.account, x.there, x.named)) in
        x.check (ap (λ (z : AccountRow). z.check) row ∙ its.check ∙ ap (λ (z : KeySet). check_value z.pw) (last_asked set last))

    -- else it is, where no other has its parameters and its check value
    pub admits_last : (store : StoreRow) (given : Answer) → Admits v.server store owner.identifier set.pw given → (params : Params)
        → IsPresent v.server number params → params ≡ set.params → IsOnlySet t set → IsLastSet t name set
    admits_last store given x params is same only e b other =
        let row : x.account ≡ its.row = row_of x.n x.account x.there (number_named x.n (x.account, x.there, x.named)) in
        let check : check_value its.last.pw ≡ check_value set.pw = sym its.check ∙ ap (λ (z : AccountRow). z.check) (sym row) ∙ x.check in
        let last : its.last ≡ set = only number a its.last own.at its.last_is (sym (present_is params is) ∙ same) check in
        subst (λ (z : Account). set_at (length z.sets) z.sets ≡ Some set) (one_holder e b other) (its.last_is ∙ ap Some last)

  -- which is the account's last
  module _ (set : KeySet) (last : IsLastSet t name set) (params : Params) (is : IsPresent v.server number params) (other : params ≢ sets.present.params)
      (store : StoreRow) (stands : HasStore v.server store) where
    pub record IsAdmitted (given : Answer) : Type 0 where
      pub token : Bytes
      pub identifier : Bytes
      pub uuid : Bytes
      pub given_is : given ≡ answer.Account token identifier uuid
      pub session : IsSession v.server token number
      pub may : MayAdopt secret t name set token

    below : greatest 0 d.held < length a.sets
    below =
        below_of (greatest 0 d.held) (length a.sets) (held_within apart secret v t h name d a has)
        (λ same.
        other (present_is params is ∙ ap (λ (z : KeySet). z.params)
        (one_there its.last sets.present (set_at (length a.sets) a.sets) its.last_is
        (subst (λ (k : ℕ). set_at k a.sets ≡ Some sets.present) same held))))

    pub admitted : (given : Answer) → Admits v.server store owner.identifier set.pw given → IsAdmitted given
    admitted given x =
        let same : x.n ≡ number = number_named x.n (x.account, x.there, x.named) in
        let row : x.account ≡ its.row = row_of x.n x.account x.there same in
        let token : session_token store.secret x.n x.account.generation ≡ session_token store.secret number its.row.generation =
        ap (λ (k : ℕ). session_token store.secret k x.account.generation) same
        ∙ ap (λ (z : AccountRow). session_token store.secret number z.generation) row in
        record {
          token = session_token store.secret x.n x.account.generation;
          identifier = owner.identifier;
          uuid = account_uuid x.n;
          given_is = x.answers;
          session = record { store = store; stands = stands; account = its.row; there = its.stands; is = token };
          may = record {
            number = number;
            account = a;
            at = own.at;
            device = d;
            named = has.device;
            own = own.own;
            last = last d a has;
            above = below;
            token_is = token ∙ ap (λ (c : Bytes). session_token c number its.row.generation) (h.keeps_secret store stands)
                ∙ ap (session_token secret number) its.generation;
          };
        }

  -- ---- a change that is finished

  pub behind_not : IsFinished t name → (params : Params) → IsPresent v.server number params → (uuid : Bytes) → IsBehind v.server number params uuid → ⊥
  behind_not finished params is uuid b = by item.0.body item.2 (finished d a has uuid item.0 item.1)
    where
      item : (x : Version) × (last_of uuid a.versions ≡ Some x) × ShowsStrings a.sets uuid b.item x.body × (b.item.updated ≡ x.stamp) × (b.item.kind ≡ x.kind)
      item = its_last v.server t.accounts number a uuid b.item h.server.all own.at b.there b.own

      by : (body : Body) → ShowsStrings a.sets uuid b.item body → (IsLive body → IsUnder (length a.sets) body) → ⊥
      by Gone shows step = let kept = b.kept in let gone : b.item.deleted ≡ true = shows.0 in absurd (cc)
      by (Under text k) shows step =
          let opens : OpensUnder a.sets k uuid (record { content = b.item.content; enc = b.item.enc }) text = shows.1 in
          let set : opens.set ≡ its.last =
          one_there opens.set its.last (set_at (length a.sets) a.sets) (subst (λ (j : ℕ). set_at j a.sets ≡ Some opens.set) (step tt) opens.at) its.last_is in
          let same : opens.set.params ≡ params = ap (λ (z : KeySet). z.params) set ∙ sym (present_is params is) in
          let both = opens.opens.carries in
          b.others (
            (both.content.reading, both.content.reads, both.content.params_are ∙ same),
            (both.enc.reading, both.enc.reads, both.enc.params_are ∙ same),
          )

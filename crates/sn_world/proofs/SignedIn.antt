-- What a sign-in is answered with is what a device may begin with, renew its session token with, or adopt a set with.
use Rattle.std.proofs.Common.{◌≡◌, ◌≢◌, ◌<◌, ◌≤◌, ℕ, List, length, Option, Some, refl, sym, ap, ◌∙◌, subst, inl, inr}
use Rattle.std.proofs.Math.Nat.{eq-or-lt_of_le}
use Rattle.std.specs.Prelude.{IsSome}
use Rattle.sn_account.specs.Rule.{Rule}
use Rattle.sn_account.specs.Rules.{Admits, IsPresent, SignsIn}
use Rattle.sn_account.specs.Sessions.{account_uuid, session_token}
use Rattle.sn_device.specs.States.{HasOwner}
use Rattle.sn_keys.specs.Keys.{check_value}
use Rattle.sn_laws.proofs.Facts.{one_there}
use Rattle.sn_laws.specs.Lookups.{Bytes, device_named, greatest}
use Rattle.sn_laws.specs.declared.ideal.Account.{Account}
use Rattle.sn_laws.specs.declared.ideal.Device.{Device}
use Rattle.sn_laws.specs.declared.ideal.Ideal.{Ideal}
use Rattle.sn_rows.specs.declared.change.Change.{Change}
use Rattle.sn_rows.specs.declared.device_rows.OwnerRow.{OwnerRow}
use Rattle.sn_rows.specs.declared.key.Key.TheVariants as key
use Rattle.sn_rows.specs.declared.server_rows.AccountRow.{AccountRow}
use Rattle.sn_rows.specs.declared.value.Value.{Value}
use Rattle.sn_rows.specs.declared.value.Value.TheVariants as value
use Rattle.sn_shows.proofs.Facts.{holder_of, one_number}
use Rattle.sn_shows.specs.Devices.{ShowsHolder}
use Rattle.sn_shows.specs.Laws.{AccountsApart, HasAccount}
use Rattle.sn_shows.specs.Servers.{ShowsIdentity, account_at}
use Rattle.sn_shows.specs.Sets.{set_at}
use Rattle.sn_string.specs.declared.params.KeySet.{KeySet}
use Rattle.sn_string.specs.declared.params.Params.{Params}
use Rattle.sn_sync.specs.declared.answer.Answer.TheVariants as answer
use Rattle.sn_sync.specs.declared.request.Request.TheVariants as request
use Rattle.sn_world.proofs.AccountSets.{nonces_apart}
use Rattle.sn_world.proofs.DeviceSets.{identifier_of, present_at}
use Rattle.sn_world.proofs.SetsKept.{present_params}
use Rattle.sn_world.proofs.ShowsLemmas.{holder_from}
use Rattle.sn_world.proofs.Tokens.{device_account, held_within, named_identifier, one_account, there_is}
use Rattle.sn_world.specs.Holds.{Holds}
use Rattle.sn_world.specs.Laws.{SignedInAdopts, SignedInBegins, SignedInRenews}
use Rattle.sn_world.specs.World.{World}

below_of : (a b : ℕ) → a ≤ b → a ≢ b → a < b
below_of a b within apart =
    elim (eq-or-lt_of_le within) [
      | inl same ↦ absurd (apart same)
      | inr less ↦ less
    ]

-- the account that is answered, with its last set
pub record SignedIn (secret : Bytes) (w : World) (s : Ideal) (identifier pw token uuid : Bytes) : Type 0 where
  pub number : ℕ
  pub account : Account
  pub at : account_at number s.accounts ≡ Some account
  pub row : AccountRow
  pub there : w.server (key.Account number) ≡ Some (value.Account row)
  pub named : row.identifier ≡ identifier
  pub identifier_is : account.identifier ≡ identifier
  pub generation : row.generation ≡ length account.sets
  pub last : KeySet
  pub last_is : set_at (length account.sets) account.sets ≡ Some last
  pub check : check_value last.pw ≡ check_value pw
  pub token_is : token ≡ session_token secret number (length account.sets)
  pub uuid_is : uuid ≡ account_uuid number

pub signed_in : (secret : Bytes) (w : World) (s : Ideal) (identifier pw : Bytes) (now : ℕ) (changes : List Change) (token name uuid : Bytes) → Holds secret w s
    → Rule w.server (request.SignIn identifier pw) now changes (answer.Account token name uuid) → SignedIn secret w s identifier pw token uuid
signed_in secret w s identifier pw now changes token name uuid h rule = by rule.2.1
  where
    of : (x : Admits w.server rule.0 identifier pw (answer.Account token name uuid)) → SignedIn secret w s identifier pw token uuid
    of x =
        let b = there_is (account_at x.n s.accounts) (h.server.all.no_other (key.Account x.n) (subst (λ (o : Option Value). IsSome o) (sym x.there) refl)) in
        let its : ShowsIdentity w.server x.n b.0 = (h.server.all.each x.n b.0 b.1).identity in
        let row : x.account ≡ its.row = one_account x.account its.row (w.server (key.Account x.n)) x.there its.stands in
        let generation : x.account.generation ≡ length b.0.sets = ap (λ (z : AccountRow). z.generation) row ∙ its.generation in
        let given = x.answers in
        let token_is : token ≡ session_token rule.0.secret x.n x.account.generation = cc in
        let uuid_is : uuid ≡ account_uuid x.n = cc in
        record {
          number = x.n;
          account = b.0;
          at = b.1;
          row = x.account;
          there = x.there;
          named = x.named;
          identifier_is = sym its.identifier ∙ ap (λ (z : AccountRow). z.identifier) (sym row) ∙ x.named;
          generation = generation;
          last = its.last;
          last_is = its.last_is;
          check = sym its.check ∙ ap (λ (z : AccountRow). z.check) (sym row) ∙ x.check;
          token_is = token_is ∙ ap (λ (c : Bytes). session_token c x.n x.account.generation) (h.keeps_secret rule.0 rule.1)
              ∙ ap (λ (g : ℕ). session_token secret x.n g) generation;
          uuid_is = uuid_is;
        }

    by : SignsIn w.server rule.0 identifier pw (answer.Account token name uuid) → SignedIn secret w s identifier pw token uuid
    by (inl (unknown, given)) = absurd (cc)
    by (inr (inl (rejected, given))) = absurd (cc)
    by (inr (inr x)) = of x

pub signed_in_begins : SignedInBegins
signed_in_begins secret w s identifier now changes token name uuid set h rule told only =
    let x = signed_in secret w s identifier set.pw now changes token name uuid h rule in
    let present : IsPresent w.server x.number set.params = told x.number (x.row, x.there, x.named) in
    let params : x.last.params ≡ set.params = sym (present_params w.server s.accounts x.number x.account set.params x.last h.server.all x.at present x.last_is) in
    let same : x.last ≡ set = only x.number x.account x.last x.at x.last_is params x.check in
    record {
      number = x.number;
      account = x.account;
      at = x.at;
      last = x.last_is ∙ ap Some same;
      uuid_is = x.uuid_is;
      token_is = x.token_is;
    }

-- ---- a device that has the account

-- the device of rows with this account's row, and the account that is answered as its own
pub record IsOwned (w : World) (s : Ideal) (name : Bytes) (account : Account) : Type 0 where
  pub device : Device
  pub named : device_named s name ≡ Some device
  pub own : account.identifier ≡ device.account
  pub has : HasAccount s name device account
  pub holder : ShowsHolder (w.devices name) s name device account

pub owned_by : AccountsApart → (secret : Bytes) (w : World) (s : Ideal) (identifier pw token uuid name : Bytes) (owner : OwnerRow) → Holds secret w s
    → (x : SignedIn secret w s identifier pw token uuid) → HasOwner (w.devices name) owner → owner.identifier ≡ identifier
    → IsOwned w s name x.account
owned_by apart secret w s identifier pw token uuid name owner h x owned is =
    let d = holder_from (w.devices name) s name key.Owner (value.Owner owner) (h.devices name) owned in
    let first : ShowsHolder (w.devices name) s name d.0 d.1 = holder_of (w.devices name) s name d.0 d.1 (h.devices name) d.2 in
    let of_account : owner.identifier ≡ d.1.identifier = identifier_of (w.devices name) s name d.0 d.1 owner first owned in
    let own : x.account.identifier ≡ d.0.account =
    x.identifier_is ∙ sym is ∙ of_account ∙ named_identifier s d.0.account d.1 d.2.account in
    let has : HasAccount s name d.0 x.account = device_account apart secret w s h name x.number x.account d.0 x.at d.2.device own in
    record {
      device = d.0;
      named = d.2.device;
      own = own;
      has = has;
      holder = holder_of (w.devices name) s name d.0 x.account (h.devices name) has;
    }

-- where its present set has the parameters that are present, that is the account's last one
pub signed_in_renews : AccountsApart → SignedInRenews
signed_in_renews apart secret w s identifier pw now changes token account uuid name owner sets h rule holds is told =
    let x = signed_in secret w s identifier pw now changes token account uuid h rule in
    let o = owned_by apart secret w s identifier pw token uuid name owner h x holds.owned is in
    let held : set_at (greatest 0 o.device.held) x.account.sets ≡ Some sets.present =
    present_at (w.devices name) s name o.device x.account owner sets o.holder holds in
    let present : IsPresent w.server x.number sets.present.params = told x.number (x.row, x.there, x.named) in
    let params : sets.present.params ≡ x.last.params =
    present_params w.server s.accounts x.number x.account sets.present.params x.last h.server.all x.at present x.last_is in
    let last : greatest 0 o.device.held ≡ length x.account.sets =
    one_number x.account.sets (greatest 0 o.device.held) (length x.account.sets) sets.present x.last (nonces_apart s h.reached x.number x.account x.at) held
    x.last_is (ap (λ (p : Params). p.pw_nonce) params) in
    record {
      number = x.number;
      account = x.account;
      at = x.at;
      device = o.device;
      named = o.named;
      own = o.own;
      token_is = x.token_is ∙ ap (λ (g : ℕ). session_token secret x.number g) (sym last);
    }

-- where it has others, it may adopt the last one
pub signed_in_adopts : AccountsApart → SignedInAdopts
signed_in_adopts apart secret w s identifier now changes token account uuid name owner sets set h rule holds is other told only =
    let x = signed_in secret w s identifier set.pw now changes token account uuid h rule in
    let o = owned_by apart secret w s identifier set.pw token uuid name owner h x holds.owned is in
    let held : set_at (greatest 0 o.device.held) x.account.sets ≡ Some sets.present =
    present_at (w.devices name) s name o.device x.account owner sets o.holder holds in
    let present : IsPresent w.server x.number set.params = told x.number (x.row, x.there, x.named) in
    let params : x.last.params ≡ set.params =
    sym (present_params w.server s.accounts x.number x.account set.params x.last h.server.all x.at present x.last_is) in
    let last : set_at (length x.account.sets) x.account.sets ≡ Some set = x.last_is ∙ ap Some (only x.number x.account x.last x.at x.last_is params x.check) in
    let within : greatest 0 o.device.held ≤ length x.account.sets = held_within apart secret w s h name o.device x.account o.has in
    let apart_from : greatest 0 o.device.held ≢ length x.account.sets =
    λ same.
    let there : set_at (length x.account.sets) x.account.sets ≡ Some sets.present =
    subst (λ (g : ℕ). set_at g x.account.sets ≡ Some sets.present) same held in
    other (ap (λ (z : KeySet). z.params) (one_there set sets.present (set_at (length x.account.sets) x.account.sets) last there)) in
    record {
      number = x.number;
      account = x.account;
      at = x.at;
      device = o.device;
      named = o.named;
      own = o.own;
      last = last;
      above = below_of (greatest 0 o.device.held) (length x.account.sets) within apart_from;
      token_is = x.token_is;
    }

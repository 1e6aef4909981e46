-- A session token is one account's and one generation's.
use Rattle.std.proofs.Common.{◌≡◌, ◌<◌, ◌≤◌, ◌+◌, ℕ, zero, suc, List, [], ◌∷◌, length, Option, Some, None, Bool, true, false, refl, sym, ap, ◌∙◌, subst, arith}
use Rattle.std.proofs.lemmas.Option.{slice_get_within}
use Rattle.std.specs.Prelude.{IsSome, cond, find, slice_get}
use Rattle.sn_account.proofs.Facts.{BeginsWith-token, same_account}
use Rattle.sn_account.specs.Sessions.{IsSession, session_token}
use Rattle.sn_account.specs.Sound.{most_accounts, most_generations}
use Rattle.sn_laws.proofs.Facts.{found_passes, one_there, same_text}
use Rattle.sn_laws.specs.Lookups.{Bytes, account_named, device_named, greatest, is_account}
use Rattle.sn_laws.specs.declared.ideal.Account.{Account}
use Rattle.sn_laws.specs.declared.ideal.Device.{Device}
use Rattle.sn_laws.specs.declared.ideal.Ideal.{Ideal}
use Rattle.sn_rows.specs.declared.key.Key.TheVariants as key
use Rattle.sn_rows.specs.declared.server_rows.AccountRow.{AccountRow}
use Rattle.sn_rows.specs.declared.value.Value.{Value}
use Rattle.sn_rows.specs.declared.value.Value.TheVariants as value
use Rattle.sn_shows.proofs.Facts.{holder_of}
use Rattle.sn_shows.specs.Devices.{ShowsDeviceAs, ShowsHolder}
use Rattle.sn_shows.specs.Laws.{AccountsApart, AreApart, HasAccount}
use Rattle.sn_shows.specs.Servers.{ShowsIdentity, account_at}
use Rattle.sn_shows.specs.Sets.{set_at}
use Rattle.sn_string.specs.declared.params.KeySet.{KeySet}
use Rattle.sn_world.proofs.ShowsLemmas.{number_within}
use Rattle.sn_world.specs.Holds.{HasToken, Holds, Reached, TokensDiffer}
use Rattle.sn_world.specs.World.{World}

pub apart_of : AccountsApart → (s : Ideal) → Reached s → AreApart s.accounts
apart_of law s r = subst (λ (t : Ideal). AreApart t.accounts) (sym r.is) (law r.moves r.legal)

number_of_found : (p : Account → Bool) (xs : List Account) (a : Account) → find p xs ≡ Some a → (k : ℕ) × (slice_get xs k ≡ Some a)
number_of_found p [] a h = absurd (cc)
number_of_found p (x ∷ xs) a h = at (number_of_found p xs a) (p x) h
  where
    at : (find p xs ≡ Some a → (k : ℕ) × (slice_get xs k ≡ Some a)) → (b : Bool) → cond b (Some x) (find p xs) ≡ Some a → (k : ℕ) × (slice_get (x ∷ xs) k ≡ Some a)
    at rest true e = (zero, e)
    at rest false e = let k = rest e in (suc k.0, k.1)

pub set_within : (k : ℕ) (sets : List KeySet) (set : KeySet) → set_at k sets ≡ Some set → k ≤ length sets
set_within zero sets set h = absurd (cc)
set_within (suc k) sets set h = let within : k < length sets = slice_get_within sets k set h in omega arith

pub one_account : (x y : AccountRow) (found : Option Value) → found ≡ Some (value.Account x) → found ≡ Some (value.Account y) → x ≡ y
one_account x y found e k = cc

pub there_is : (found : Option Account) → IsSome found → (b : Account) × (found ≡ Some b)
there_is None h = absurd (cc)
there_is (Some b) h = (b, refl)

-- an account that is found by its identifier has a number
pub named_at : (s : Ideal) (identifier : Bytes) (a : Account) → account_named s identifier ≡ Some a → (n : ℕ) × (account_at n s.accounts ≡ Some a)
named_at s identifier a found = let k = number_of_found (is_account identifier) s.accounts a found in (suc k.0, k.1)

pub named_identifier : (s : Ideal) (identifier : Bytes) (a : Account) → account_named s identifier ≡ Some a → a.identifier ≡ identifier
named_identifier s identifier a found = same_text a.identifier identifier (found_passes (is_account identifier) s.accounts a found).0

module _ (apart : AccountsApart) (secret : Bytes) (w : World) (s : Ideal) (h : Holds secret w s) where
  -- the account of a device is the one that has its identifier
  pub device_account : (name : Bytes) (n : ℕ) (a : Account) (d : Device) → account_at n s.accounts ≡ Some a → device_named s name ≡ Some d
      → a.identifier ≡ d.account → HasAccount s name d a
  device_account name n a d at named own =
      let shown : ShowsDeviceAs (w.devices name) s name (Some d) =
      subst (λ (found : Option Device). ShowsDeviceAs (w.devices name) s name found) named (h.devices name) in
      let k = named_at s d.account shown.0 shown.1 in
      let names : a.identifier ≡ shown.0.identifier = own ∙ sym (named_identifier s d.account shown.0 shown.1) in
      let same : n ≡ k.0 = apart_of apart s h.reached n k.0 a shown.0 at k.1 names in
      let is : shown.0 ≡ a = one_there shown.0 a (account_at n s.accounts) (subst (λ (j : ℕ). account_at j s.accounts ≡ Some shown.0) (sym same) k.1) at in
      record { device = named; account = subst (λ (x : Account). account_named s d.account ≡ Some x) is shown.1 }

  pub few_numbers : (n : ℕ) (a : Account) → account_at n s.accounts ≡ Some a → n ≤ most_accounts
  few_numbers n a at =
      let within : n < length s.accounts + 1 = number_within s.accounts n a at in
      let bound : length s.accounts ≤ most_accounts = h.few.accounts_few in
      omega arith

  pub held_within : (name : Bytes) (d : Device) (a : Account) → HasAccount s name d a → greatest 0 d.held ≤ length a.sets
  held_within name d a has =
      let holder : ShowsHolder (w.devices name) s name d a = holder_of (w.devices name) s name d a (h.devices name) has in
      set_within (greatest 0 d.held) a.sets holder.present.is.set holder.present.is.at

  -- an account's session is of its last set
  pub session_account : (token : Bytes) (k : ℕ) (session : IsSession w.server token k)
      → (b : Account) × (account_at k s.accounts ≡ Some b) × (session.account.generation ≡ length b.sets)
  session_account token k session =
      let b = there_is (account_at k s.accounts) (h.server.all.no_other (key.Account k) (subst (λ (o : Option Value). IsSome o) (sym session.there) refl)) in
      let its : ShowsIdentity w.server k b.0 = (h.server.all.each k b.0 b.1).identity in
      let row : session.account ≡ its.row = one_account session.account its.row (w.server (key.Account k)) session.there its.stands in
      (b.0, b.1, ap (λ (z : AccountRow). z.generation) row ∙ its.generation)

-- two tokens that are equal are of one account
pub same_owner : (secret token : Bytes) (n m g k : ℕ) → n ≤ most_accounts → m ≤ most_accounts → token ≡ session_token secret n g → token ≡ session_token secret m k → n ≡ m
same_owner secret token n m g k few few_too is is_too =
    same_account token n m (omega arith) (omega arith) (BeginsWith-token token secret n g is) (BeginsWith-token token secret m k is_too)

-- a token that is alive is of its account's present generation
pub token_session : AccountsApart → (secret : Bytes) (w : World) (s : Ideal) → Holds secret w s → TokensDiffer secret → (name token : Bytes)
    → (x : HasToken secret s.accounts (device_named s name) token) → (k : ℕ) (session : IsSession w.server token k)
    → (x.number ≡ k) × (x.generation ≡ session.account.generation)
token_session apart secret w s h differ name token x k session =
    let has : HasAccount s name x.device x.account = device_account apart secret w s h name x.number x.account x.device x.at x.named x.own in
    let held : greatest 0 x.device.held ≤ length x.account.sets = held_within apart secret w s h name x.device x.account has in
    let up : x.generation ≤ greatest 0 x.device.held = x.held in
    let b = session_account apart secret w s h token k session in
    let sets : length x.account.sets ≤ most_generations = h.few.sets_few x.number x.account x.at in
    let sets_too : length b.0.sets ≤ most_generations = h.few.sets_few k b.0 b.1 in
    let generation : session.account.generation ≡ length b.0.sets = b.2 in
    let spelled : token ≡ session_token secret k session.account.generation =
    session.is ∙ ap (λ (z : Bytes). session_token z k session.account.generation) (h.keeps_secret session.store session.stands) in
    let few : x.number ≤ most_accounts = few_numbers apart secret w s h x.number x.account x.at in
    let few_too : k ≤ most_accounts = few_numbers apart secret w s h k b.0 b.1 in
    let same : x.number ≡ k = same_owner secret token x.number k x.generation session.account.generation few few_too x.is spelled in
    let there : session_token secret k x.generation ≡ session_token secret k session.account.generation =
    ap (λ (z : ℕ). session_token secret z x.generation) (sym same) ∙ sym x.is ∙ spelled in
    (same, differ k x.generation session.account.generation few_too (omega arith) (omega arith) there)

-- so a device whose token is alive holds its account's last set as its greatest
pub alive_last : AccountsApart → (secret : Bytes) (w : World) (s : Ideal) → Holds secret w s → TokensDiffer secret → (name token : Bytes)
    → (x : HasToken secret s.accounts (device_named s name) token) → (k : ℕ) → IsSession w.server token k → greatest 0 x.device.held ≡ length x.account.sets
alive_last apart secret w s h differ name token x k session =
    let alike = token_session apart secret w s h differ name token x k session in
    let b = session_account apart secret w s h token k session in
    let its : b.0 ≡ x.account =
    one_there b.0 x.account (account_at k s.accounts) b.1 (subst (λ (j : ℕ). account_at j s.accounts ≡ Some x.account) alike.0 x.at) in
    let last : session.account.generation ≡ length x.account.sets = b.2 ∙ ap (λ (z : Account). length z.sets) its in
    let same : x.generation ≡ session.account.generation = alike.1 in
    let up : x.generation ≤ greatest 0 x.device.held = x.held in
    let has : HasAccount s name x.device x.account = device_account apart secret w s h name x.number x.account x.device x.at x.named x.own in
    let within : greatest 0 x.device.held ≤ length x.account.sets = held_within apart secret w s h name x.device x.account has in
    omega arith

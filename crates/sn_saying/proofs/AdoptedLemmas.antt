-- What is computed of an adoption is what it says.
use Rattle.std.proofs.Common.{◌≡◌, ℕ, List, [], ◌∷◌, ◌++◌, length, Option, Some, None, refl, sym, ap, ◌∙◌, subst}
use Rattle.sn_adopted.specs.Moves.{adopting, reposting}
use Rattle.sn_laws.specs.Lookups.{Bytes, account_named}
use Rattle.sn_laws.specs.Reached.{NoncesApart}
use Rattle.sn_laws.specs.declared.ideal.Account.{Account}
use Rattle.sn_laws.specs.declared.ideal.Device.{Device}
use Rattle.sn_laws.specs.declared.ideal.Ideal.{Ideal}
use Rattle.sn_laws.specs.declared.moves.Move.{Move}
use Rattle.sn_rows.specs.Table.{Rows}
use Rattle.sn_rows.specs.declared.key.Key.TheVariants as key
use Rattle.sn_rows.specs.declared.key.Slot.TheVariants.{Older}
use Rattle.sn_shows.proofs.Facts.{holder_of}
use Rattle.sn_shows.specs.Devices.{ShowsDevice, ShowsHolder, ShowsOlder}
use Rattle.sn_shows.specs.Laws.{HasAccount}
use Rattle.sn_shows.specs.Servers.{ShowsAccounts, ShowsServer, account_at}
use Rattle.sn_world.proofs.Facts.{named_identifier, nonces_apart}
use Rattle.sn_world.specs.Holds.{Reached}
use Rattle.sn_saying.specs.Adopted.{AreRepostedIn, HasNoAccountOf, IsAccount, IsAdoption, identifier_in, joining, older_of}
use Rattle.sn_saying.specs.Retired.{IsOlderHeld}
use Rattle.sn_saying.proofs.AccountLemmas.{IsShownAccount, account_shown, lost_named, named_account}

joined : (name identifier : Bytes) (number : ℕ) (held : List ℕ) → joining name identifier (older_of held) number ≡ adopting name identifier number held
joined name identifier number [] = refl
joined name identifier number (one ∷ []) = refl
joined name identifier number (older ∷ present ∷ []) = refl
joined name identifier number (older ∷ present ∷ third ∷ more) = refl

-- the device's own row has its account's identifier
own_identifier : (rows : Rows) (s : Ideal) (name identifier : Bytes) (d : Device) (a : Account) → ShowsHolder rows s name d a
    → identifier_in (rows key.Owner) ≡ Some identifier → identifier ≡ a.identifier
own_identifier rows s name identifier d a h is =
    let has : Some h.owner.owner.identifier ≡ Some identifier = sym (ap identifier_in h.owner.stands) ∙ is in
    let same : identifier ≡ h.owner.owner.identifier = cc in
    same ∙ h.owner.identifier

-- a device without a row of its own has no account
pub lost_owner : (rows : Rows) (s : Ideal) (name : Bytes) (d : Device) (a : Account) → ShowsDevice rows s name → HasAccount s name d a
    → identifier_in (rows key.Owner) ≡ None → ⊥
lost_owner rows s name d a device has none =
    let h : ShowsHolder rows s name d a = holder_of rows s name d a device has in
    let wrong : None ≡ Some h.owner.owner.identifier = sym none ∙ ap identifier_in h.owner.stands in
    cc

-- the device's account is the one that its identifier names
own_named : (s : Ideal) (name identifier : Bytes) (d : Device) (a : Account) → HasAccount s name d a → identifier ≡ a.identifier
    → account_named s identifier ≡ Some a
own_named s name identifier d a has own =
    subst (λ (i : Bytes). account_named s i ≡ Some a) (sym (own ∙ named_identifier s d.account a has.account)) has.account

pub no_owner : (server rows : Rows) (name : Bytes) (moves : List Move) → identifier_in (rows key.Owner) ≡ None → IsAdoption server rows name moves
no_owner server rows name moves none s d a reached shows device has = absurd (lost_owner rows s name d a device has none)

-- the account of a device that has one is the server's
pub lost_account : (server rows : Rows) (s : Ideal) (name identifier : Bytes) (d : Device) (a : Account) → ShowsServer server s.accounts
    → ShowsDevice rows s name → HasAccount s name d a → identifier_in (rows key.Owner) ≡ Some identifier → HasNoAccountOf server identifier → ⊥
lost_account server rows s name identifier d a shows device has is none =
    let h : ShowsHolder rows s name d a = holder_of rows s name d a device has in
    lost_named server s identifier a shows (own_named s name identifier d a has (own_identifier rows s name identifier d a h is)) none

pub no_account : (server rows : Rows) (name identifier : Bytes) (moves : List Move) → identifier_in (rows key.Owner) ≡ Some identifier
    → HasNoAccountOf server identifier → IsAdoption server rows name moves
no_account server rows name identifier moves is none s d a reached shows device has =
    absurd (lost_account server rows s name identifier d a shows device has is none)

-- what is found of its older set is its number
abbrev pub FindsOlder : Rows → Rows → ℕ → ℕ → Option ℕ → Type 0
FindsOlder server rows number generation older = (accounts : List Account) (a : Account) (held : List ℕ) → ShowsAccounts server accounts
    → account_at number accounts ≡ Some a → generation ≡ length a.sets → NoncesApart a → ShowsOlder a (rows (key.Set Older)) held → older ≡ older_of held

pub older_so : (server rows : Rows) (identifier : Bytes) (number generation : ℕ) (older : Option ℕ) → identifier_in (rows key.Owner) ≡ Some identifier
    → IsAccount server identifier number generation → FindsOlder server rows number generation older → IsOlderHeld server rows older
older_so server rows identifier number generation older owner_is account older_is s name d a reached shows device has =
    let h : ShowsHolder rows s name d a = holder_of rows s name d a device has in
    let own : identifier ≡ a.identifier = own_identifier rows s name identifier d a h owner_is in
    let shown : IsShownAccount s.accounts identifier number generation = account_shown server s.accounts identifier number generation shows.all account in
    let its = named_account s identifier a number generation reached (own_named s name identifier d a has own) shown in
    older_is s.accounts a d.held shows.all its.0 its.1 (nonces_apart s reached number a its.0) h.older

pub adopted_so : (server rows : Rows) (name identifier : Bytes) (number generation : ℕ) (older : Option ℕ) (uuids : List Bytes) (moves : List Move)
    → identifier_in (rows key.Owner) ≡ Some identifier → IsAccount server identifier number generation
    → FindsOlder server rows number generation older
    → ((accounts : List Account) (a : Account) → ShowsAccounts server accounts → account_at number accounts ≡ Some a → AreRepostedIn rows a uuids)
    → moves ≡ joining name identifier older generation ++ reposting name uuids → IsAdoption server rows name moves
adopted_so server rows name identifier number generation older uuids moves owner_is account older_is reposts moves_are s d a reached shows device has =
    let h : ShowsHolder rows s name d a = holder_of rows s name d a device has in
    let own : identifier ≡ a.identifier = own_identifier rows s name identifier d a h owner_is in
    let shown : IsShownAccount s.accounts identifier number generation = account_shown server s.accounts identifier number generation shows.all account in
    let its = named_account s identifier a number generation reached (own_named s name identifier d a has own) shown in
    let older_same : older ≡ older_of d.held =
    older_so server rows identifier number generation older owner_is account older_is s name d a reached shows device has in
    let again : AreRepostedIn rows a uuids = reposts s.accounts a shows.all its.0 in
    let same : joining name identifier older generation ≡ adopting name a.identifier (length a.sets) d.held =
    ap (λ (o : Option ℕ). joining name identifier o generation) older_same
    ∙ ap (λ (i : Bytes). joining name i (older_of d.held) generation) own
    ∙ ap (joining name a.identifier (older_of d.held)) its.1
    ∙ joined name a.identifier (length a.sets) d.held
    in
    record {
      device = d;
      account = a;
      has = has;
      items = again.0;
      items_are = again.1;
      uuids = uuids;
      reposted = again.2;
      moves_are = moves_are ∙ ap (λ (ms : List Move). ms ++ reposting name uuids) same;
    }

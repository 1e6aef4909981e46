-- The account of a device and the numbers of its sets, by the rows of both ends.
use Rattle.std.proofs.Common.{◌≡◌, ◌<◌, ◌≤◌, ◌+◌, ℕ, zero, suc, List, [], ◌∷◌, length, Option, Some, None, IfNone, refl, sym, ap, ◌∙◌, subst, add-one, arith}
use Rattle.std.specs.Prelude.{IfSome, is_some}
use Rattle.sn_laws.proofs.Facts.{one_there}
use Rattle.sn_laws.specs.Lookups.{Bytes, account_named}
use Rattle.sn_laws.specs.Reached.{NoncesApart}
use Rattle.sn_laws.specs.declared.ideal.Account.{Account}
use Rattle.sn_laws.specs.declared.ideal.Ideal.{Ideal}
use Rattle.sn_row_map.specs.RowMaps.{row_in}
use Rattle.sn_row_map.specs.declared.row_map.RowMap.{RowMap}
use Rattle.sn_rows.specs.Table.{Rows}
use Rattle.sn_rows.specs.declared.device_rows.SetRow.{SetRow}
use Rattle.sn_rows.specs.declared.key.Key.{Key}
use Rattle.sn_rows.specs.declared.key.Key.TheVariants as key
use Rattle.sn_rows.specs.declared.server_rows.AccountRow.{AccountRow}
use Rattle.sn_rows.specs.declared.server_rows.GenerationRow.{GenerationRow}
use Rattle.sn_rows.specs.declared.value.Value.{Value}
use Rattle.sn_rows.specs.declared.value.Value.TheVariants as value
use Rattle.sn_shows.proofs.Facts.{accounts_apart, one_number}
use Rattle.sn_shows.specs.Devices.{IsSetRow, ShowsOlder}
use Rattle.sn_shows.specs.Laws.{AreApart}
use Rattle.sn_shows.specs.Servers.{IsSet, ShowsAccounts, ShowsGeneration, ShowsIdentity, ShowsServer, account_at}
use Rattle.sn_shows.specs.Sets.{set_at}
use Rattle.sn_string.specs.declared.params.KeySet.{KeySet}
use Rattle.sn_world.proofs.Facts.{apart_of, named_at, named_identifier, set_within, there_is}
use Rattle.sn_world.specs.Holds.{Reached}
use Rattle.sn_saying.specs.Adopted.{HasNoAccountOf, HasNonce, IsAccount, IsAccountRow, nonce_in, older_of}

-- a row of the server that is that of an account of the identifier
pub account_here : (server : RowMap) (identifier : Bytes) (at : Key) (v : Value) (found : ℕ × ℕ) → row_in server at ≡ Some v
    → IsAccountRow identifier at v found → IsAccount (row_in server) identifier found.0 found.1
account_here server identifier at v found stands is = record {
  row = is.row;
  stands = subst (λ (k : Key). row_in server k ≡ Some (value.Account is.row)) is.at_is (stands ∙ ap Some is.value_is);
  identifier_is = is.identifier_is;
  generation_is = is.generation_is;
}

same_account : (x y : AccountRow) (found : Option Value) → found ≡ Some (value.Account x) → found ≡ Some (value.Account y) → x ≡ y
same_account x y found e k = cc

same_generation : (x y : GenerationRow) (found : Option Value) → found ≡ Some (value.Generation x) → found ≡ Some (value.Generation y) → x ≡ y
same_generation x y found e k = cc

pub nonce_of : (server : Rows) (number generation : ℕ) (nonce : Bytes) (row : GenerationRow)
    → server (key.Generation number generation) ≡ Some (value.Generation row) → HasNonce server number generation nonce → row.pw_nonce ≡ nonce
nonce_of server number generation nonce row stands has =
    ap (λ (r : GenerationRow). r.pw_nonce) (same_generation row has.row (server (key.Generation number generation)) stands has.stands) ∙ has.nonce_is

-- the account of this number has the identifier, and so many sets
pub record IsShownAccount (accounts : List Account) (identifier : Bytes) (number generation : ℕ) : Type 0 where
  pub account : Account
  pub at : account_at number accounts ≡ Some account
  pub named : account.identifier ≡ identifier
  pub size : generation ≡ length account.sets

pub account_shown : (server : Rows) (accounts : List Account) (identifier : Bytes) (number generation : ℕ) → ShowsAccounts server accounts
    → IsAccount server identifier number generation → IsShownAccount accounts identifier number generation
account_shown server accounts identifier number generation shows is =
    let there = there_is (account_at number accounts) (shows.no_other (key.Account number) (ap is_some is.stands)) in
    let its : ShowsIdentity server number there.0 = (shows.each number there.0 there.1).identity in
    let same : is.row ≡ its.row = same_account is.row its.row (server (key.Account number)) is.stands its.stands in
    record {
      account = there.0;
      at = there.1;
      named = sym its.identifier ∙ sym (ap (λ (r : AccountRow). r.identifier) same) ∙ is.identifier_is;
      size = sym is.generation_is ∙ ap (λ (r : AccountRow). r.generation) same ∙ its.generation;
    }

-- the account that an identifier names is the server's
pub lost_named : (server : Rows) (s : Ideal) (identifier : Bytes) (a : Account) → ShowsServer server s.accounts → account_named s identifier ≡ Some a
    → HasNoAccountOf server identifier → ⊥
lost_named server s identifier a shows named none =
    let at = named_at s identifier a named in
    let its : ShowsIdentity server at.0 a = (shows.all.each at.0 a at.1).identity in
    none at.0 its.row its.stands (its.identifier ∙ named_identifier s identifier a named)

-- and it is the one that has the identifier
pub named_account : (s : Ideal) (identifier : Bytes) (a : Account) (number generation : ℕ) → Reached s → account_named s identifier ≡ Some a
    → IsShownAccount s.accounts identifier number generation → (account_at number s.accounts ≡ Some a) × (generation ≡ length a.sets)
named_account s identifier a number generation reached named shown =
    let at = named_at s identifier a named in
    let apart : AreApart s.accounts = apart_of accounts_apart s reached in
    let same : number ≡ at.0 = apart number at.0 shown.account a shown.at at.1 (shown.named ∙ sym (named_identifier s identifier a named)) in
    let here : account_at number s.accounts ≡ Some a = subst (λ (n : ℕ). account_at n s.accounts ≡ Some a) (sym same) at.1 in
    let account_is : shown.account ≡ a = one_there shown.account a (account_at number s.accounts) shown.at here in
    (here, shown.size ∙ ap (λ (b : Account). length b.sets) account_is)

-- ---- the older set

-- where a device has no row of an older set it holds none
pub none_older : (a : Account) (found : Option Value) (held : List ℕ) → ShowsOlder a found held → nonce_in found ≡ None → older_of held ≡ None
none_older a found [] shows none = refl
none_older a found (one ∷ []) shows none = refl
none_older a found (older ∷ present ∷ []) shows none =
    let wrong : None ≡ Some shows.0.pw_nonce = sym none ∙ ap nonce_in shows.1 in
    absurd (cc)
none_older a found (older ∷ present ∷ third ∷ more) shows none = refl

-- else its row has the nonce of the older one
pub record IsOlder (a : Account) (held : List ℕ) (nonce : Bytes) : Type 0 where
  pub older : ℕ
  pub is : older_of held ≡ Some older
  pub set : KeySet
  pub at : set_at older a.sets ≡ Some set
  pub nonce_is : set.params.pw_nonce ≡ nonce

some_older : (a : Account) (found : Option Value) (held : List ℕ) (nonce : Bytes) → ShowsOlder a found held → nonce_in found ≡ Some nonce
    → IsOlder a held nonce
some_older a found [] nonce shows some = let wrong : None ≡ Some nonce = sym (ap nonce_in shows) ∙ some in absurd (cc)
some_older a found (one ∷ []) nonce shows some = let wrong : None ≡ Some nonce = sym (ap nonce_in shows) ∙ some in absurd (cc)
some_older a found (older ∷ present ∷ []) nonce shows some =
    let row : SetRow = shows.0 in
    let is : IsSetRow a older row = shows.2 in
    let has : Some row.pw_nonce ≡ Some nonce = sym (ap nonce_in shows.1) ∙ some in
    let same : row.pw_nonce ≡ nonce = cc in
    record { older = older; is = refl; set = is.set; at = is.at; nonce_is = sym is.nonce ∙ same }
some_older a found (older ∷ present ∷ third ∷ more) nonce shows some = let wrong : None ≡ Some nonce = sym (ap nonce_in shows) ∙ some in absurd (cc)

module _ (server : Rows) (accounts : List Account) (a : Account) (number : ℕ) (shows : ShowsAccounts server accounts)
    (at : account_at number accounts ≡ Some a) where
  -- a row of a set of the account is that of the set of its number
  nonce_shown : (generation : ℕ) (nonce : Bytes) → HasNonce server number generation nonce
      → (set : KeySet) × (set_at generation a.sets ≡ Some set) × (set.params.pw_nonce ≡ nonce)
  nonce_shown generation nonce has =
      let there : IsSet accounts number generation = shows.no_other (key.Generation number generation) (ap is_some has.stands) in
      let own : there.account ≡ a = one_there there.account a (account_at number accounts) there.at at in
      let set_is : set_at generation a.sets ≡ Some there.set = subst (λ (b : Account). set_at generation b.sets ≡ Some there.set) own there.set_is in
      let its : ShowsGeneration server number a generation there.set = (shows.each number a at).generations generation there.set set_is in
      let same : has.row ≡ its.row = same_generation has.row its.row (server (key.Generation number generation)) has.stands its.stands in
      (there.set, set_is, sym its.nonce ∙ sym (ap (λ (r : GenerationRow). r.pw_nonce) same) ∙ has.nonce_is)

  -- each set has its row
  lost : (generations : ℕ) (nonce : Bytes) (k : ℕ) (set : KeySet) → generations ≡ length a.sets → set_at k a.sets ≡ Some set → set.params.pw_nonce ≡ nonce
      → ((before : ℕ) → before < generations → ¬ (HasNonce server number (before + 1) nonce)) → ⊥
  lost generations nonce zero set size set_is same none = absurd (cc)
  lost generations nonce (suc k) set size set_is same none =
      let its : ShowsGeneration server number a (suc k) set = (shows.each number a at).generations (suc k) set set_is in
      let within : suc k ≤ length a.sets = set_within (suc k) a.sets set set_is in
      let has : HasNonce server number (suc k) nonce = record { row = its.row; stands = its.stands; nonce_is = its.nonce ∙ same } in
      none k (omega arith) (subst (λ (m : ℕ). HasNonce server number m nonce) (sym (add-one k)) has)

  -- what is found by the nonce of the older set is its number
  pub older_is : (generations : ℕ) (found : Option Value) (held : List ℕ) (nonce : Bytes) (result : Option ℕ) → generations ≡ length a.sets → NoncesApart a
      → ShowsOlder a found held → nonce_in found ≡ Some nonce → IfSome result (λ generation. HasNonce server number generation nonce)
      → IfNone result ((before : ℕ) → before < generations → ¬ (HasNonce server number (before + 1) nonce)) → result ≡ older_of held
  older_is generations found held nonce (Some generation) size apart older is has none =
      let held_is : IsOlder a held nonce = some_older a found held nonce older is in
      let its = nonce_shown generation nonce has in
      let same : generation ≡ held_is.older = one_number a.sets generation held_is.older its.0 held_is.set apart its.1 held_is.at (its.2 ∙ sym held_is.nonce_is) in
      ap Some same ∙ sym held_is.is
  older_is generations found held nonce None size apart older is has none =
      let held_is : IsOlder a held nonce = some_older a found held nonce older is in
      absurd (lost generations nonce held_is.older held_is.set size held_is.at held_is.nonce_is none)

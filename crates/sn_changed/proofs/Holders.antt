-- The account that a server's row of an account shows, and the version that its row of an item shows.
use Rattle.std.proofs.Common.{◌≡◌, ℕ, List, length, Option, Some, refl, sym, ap, ◌∙◌, subst}
use Rattle.std.specs.Prelude.{IsSome}
use Rattle.sn_account.specs.Lookups.{HasAccount, HasGeneration, HasItem}
use Rattle.sn_account.specs.Rules.{IsPresent}
use Rattle.sn_keys.specs.Keys.{check_value}
use Rattle.sn_laws.proofs.Facts.{one_there, same_text, text_same}
use Rattle.sn_laws.specs.Lookups.{Bytes, account_named, is_account, last_of}
use Rattle.sn_laws.specs.declared.ideal.Account.{Account}
use Rattle.sn_laws.specs.declared.ideal.Ideal.{Ideal}
use Rattle.sn_laws.specs.declared.ideal.Version.{Version}
use Rattle.sn_rows.specs.Table.{Rows}
use Rattle.sn_rows.specs.declared.key.Key.TheVariants as key
use Rattle.sn_rows.specs.declared.server_rows.AccountRow.{AccountRow}
use Rattle.sn_rows.specs.declared.server_rows.GenerationRow.{GenerationRow}
use Rattle.sn_rows.specs.declared.server_rows.ItemRow.{ItemRow}
use Rattle.sn_rows.specs.declared.server_rows.StoreRow.{StoreRow}
use Rattle.sn_rows.specs.declared.value.Value.{Value}
use Rattle.sn_rows.specs.declared.value.Value.TheVariants as value
use Rattle.sn_shows.specs.Servers.{IsSet, IsShown, ShowsAccount, ShowsAccounts, ShowsGeneration, ShowsIdentity, ShowsItem, ShowsStrings, account_at}
use Rattle.sn_shows.specs.Sets.{set_at}
use Rattle.sn_string.specs.declared.params.KeySet.{KeySet}
use Rattle.sn_string.specs.declared.params.Params.{Params}
use Rattle.sn_changed.proofs.Found.{found_at, one_item, there_is}
use Rattle.sn_changed.specs.Laws.{IsServerOf}

pub one_account : (x y : AccountRow) (found : Option Value) → found ≡ Some (value.Account x) → found ≡ Some (value.Account y) → x ≡ y
one_account x y found e k = cc

pub one_generation : (x y : GenerationRow) (found : Option Value) → found ≡ Some (value.Generation x) → found ≡ Some (value.Generation y) → x ≡ y
one_generation x y found e k = cc

-- the account of this number has this row
pub record Holder (rows : Rows) (s : Ideal) (n : ℕ) (row : AccountRow) : Type 0 where
  pub account : Account
  pub at : account_at n s.accounts ≡ Some account
  pub named : account_named s account.identifier ≡ Some account
  pub shown : ShowsAccount rows n account
  pub identifier : row.identifier ≡ account.identifier
  pub generation : row.generation ≡ length account.sets
  pub last : KeySet
  pub last_is : set_at (length account.sets) account.sets ≡ Some last
  pub check : row.check ≡ check_value last.pw

pub holder_of : (rows : Rows) (store : StoreRow) (s : Ideal) → IsServerOf rows store s.accounts → (n : ℕ) (row : AccountRow) → HasAccount rows n row
    → Holder rows s n row
holder_of rows store s h n row there =
    let a = there_is (account_at n s.accounts) (h.shows.all.no_other (key.Account n) (subst (λ (o : Option Value). IsSome o) (sym there) refl)) in
    let shown : ShowsAccount rows n a.0 = h.shows.all.each n a.0 a.1 in
    let its : ShowsIdentity rows n a.0 = shown.identity in
    let same : row ≡ its.row = one_account row its.row (rows (key.Account n)) there its.stands in
    record {
      account = a.0;
      at = a.1;
      named = found_at (is_account a.0.identifier) s.accounts n a.0 a.1 (text_same a.0.identifier a.0.identifier refl)
          (λ m b found passes. h.apart m n b a.0 found a.1 (same_text b.identifier a.0.identifier passes));
      shown = shown;
      identifier = ap (λ (r : AccountRow). r.identifier) same ∙ its.identifier;
      generation = ap (λ (r : AccountRow). r.generation) same ∙ its.generation;
      last = its.last;
      last_is = its.last_is;
      check = ap (λ (r : AccountRow). r.check) same ∙ its.check;
    }

-- the account's last version of an item, of which it has the row
pub record LastOf (rows : Rows) (a : Account) (uuid : Bytes) (row : ItemRow) : Type 0 where
  pub version : Version
  pub last : last_of uuid a.versions ≡ Some version
  pub strings : ShowsStrings a.sets uuid row version.body

pub last_shown : (rows : Rows) (accounts : List Account) (n : ℕ) (a : Account) (uuid : Bytes) (row : ItemRow) → ShowsAccounts rows accounts
    → account_at n accounts ≡ Some a → HasItem rows uuid row → row.account ≡ n → LastOf rows a uuid row
last_shown rows accounts n a uuid row h at there own =
    let cause : IsShown accounts uuid = h.no_other (key.Item uuid) (subst (λ (o : Option Value). IsSome o) (sym there) refl) in
    let its : ShowsItem rows cause.number cause.account uuid cause.version = (h.each cause.number cause.account cause.at).items uuid cause.version cause.last in
    let same : its.row ≡ row = one_item its.row row (rows (key.Item uuid)) its.stands there in
    let number : cause.number ≡ n = sym its.account ∙ ap (λ (r : ItemRow). r.account) same ∙ own in
    let is : cause.account ≡ a =
    one_there cause.account a (account_at n accounts) (subst (λ (k : ℕ). account_at k accounts ≡ Some cause.account) number cause.at) at in
    record {
      version = cause.version;
      last = subst (λ (b : Account). last_of uuid b.versions ≡ Some cause.version) is cause.last;
      strings = subst (λ (b : Account). ShowsStrings b.sets uuid row cause.version.body) is
          (subst (λ (r : ItemRow). ShowsStrings cause.account.sets uuid r cause.version.body) same its.strings);
    }

-- the account's set of which it has the row
pub record SetOf (rows : Rows) (n : ℕ) (a : Account) (g : ℕ) (row : GenerationRow) : Type 0 where
  pub set : KeySet
  pub set_is : set_at g a.sets ≡ Some set
  pub nonce : row.pw_nonce ≡ set.params.pw_nonce

pub set_shown : (rows : Rows) (accounts : List Account) (n : ℕ) (a : Account) (g : ℕ) (row : GenerationRow) → ShowsAccounts rows accounts
    → account_at n accounts ≡ Some a → HasGeneration rows n g row → SetOf rows n a g row
set_shown rows accounts n a g row h at there =
    let cause : IsSet accounts n g = h.no_other (key.Generation n g) (subst (λ (o : Option Value). IsSome o) (sym there) refl) in
    let is : cause.account ≡ a = one_there cause.account a (account_at n accounts) cause.at at in
    let set_is : set_at g a.sets ≡ Some cause.set = subst (λ (b : Account). set_at g b.sets ≡ Some cause.set) is cause.set_is in
    let its : ShowsGeneration rows n a g cause.set = (h.each n a at).generations g cause.set set_is in
    record {
      set = cause.set;
      set_is = set_is;
      nonce = ap (λ (r : GenerationRow). r.pw_nonce) (one_generation row its.row (rows (key.Generation n g)) there its.stands) ∙ its.nonce;
    }

-- the row of the account's present parameters is that of its last set
pub present_number : (rows : Rows) (s : Ideal) (n : ℕ) (row : AccountRow) (present : Params) → HasAccount rows n row → (o : Holder rows s n row)
    → (is : IsPresent rows n present) → is.account.generation ≡ length o.account.sets
present_number rows s n row present there o is =
    ap (λ (r : AccountRow). r.generation) (one_account is.account row (rows (key.Account n)) is.there there) ∙ o.generation

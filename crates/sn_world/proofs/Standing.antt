-- A server's row of an item and the last version that it shows.
use Rattle.std.proofs.Common.{◌≡◌, ◌≢◌, ℕ, List, Option, Some, refl, sym, ap, ◌∙◌, subst}
use Rattle.std.specs.Prelude.{IsSome}
use Rattle.sn_account.specs.Incoming.{IsAbsent}
use Rattle.sn_account.specs.Lookups.{HasItem}
use Rattle.sn_laws.proofs.Facts.{one_there}
use Rattle.sn_laws.specs.Each.{Each}
use Rattle.sn_laws.specs.Lookups.{Bytes, last_of}
use Rattle.sn_laws.specs.declared.ideal.Account.{Account}
use Rattle.sn_laws.specs.declared.ideal.Version.{Version}
use Rattle.sn_rows.specs.Table.{Rows}
use Rattle.sn_rows.specs.declared.key.Key.TheVariants as key
use Rattle.sn_rows.specs.declared.server_rows.ItemRow.{ItemRow}
use Rattle.sn_rows.specs.declared.value.Value.{Value}
use Rattle.sn_rows.specs.declared.value.Value.TheVariants as value
use Rattle.sn_shows.specs.Servers.{IsShown, ShowsAccounts, ShowsItem, ShowsStrings, account_at, first_of}
use Rattle.sn_world.proofs.Lasts.{each_at_number, none_of}

-- the row stands for the last version of the item in the account of its number
pub record StandsFor (rows : Rows) (accounts : List Account) (uuid : Bytes) (row : ItemRow) : Type 0 where
  pub account : Account
  pub at : account_at row.account accounts ≡ Some account
  pub version : Version
  pub last : last_of uuid account.versions ≡ Some version
  pub updated : row.updated ≡ version.stamp
  pub first : Version
  pub first_is : first_of uuid account.versions ≡ Some first
  pub created : row.created ≡ first.stamp

one_row : (r q : ItemRow) (found : Option Value) → found ≡ Some (value.Item r) → found ≡ Some (value.Item q) → r ≡ q
one_row r q found e k = cc

pub stands_for : (rows : Rows) (accounts : List Account) (uuid : Bytes) (row : ItemRow) → ShowsAccounts rows accounts → HasItem rows uuid row
    → StandsFor rows accounts uuid row
stands_for rows accounts uuid row h there =
    let cause : IsShown accounts uuid = h.no_other (key.Item uuid) (subst (λ (o : Option Value). IsSome o) (sym there) refl) in
    let its : ShowsItem rows cause.number cause.account uuid cause.version = (h.each cause.number cause.account cause.at).items uuid cause.version cause.last in
    let same : its.row ≡ row = one_row its.row row (rows (key.Item uuid)) its.stands there in
    record {
      account = cause.account;
      at = subst (λ (k : ℕ). account_at k accounts ≡ Some cause.account) (sym its.account ∙ ap (λ (r : ItemRow). r.account) same) cause.at;
      version = cause.version;
      last = cause.last;
      updated = ap (λ (r : ItemRow). r.updated) (sym same) ∙ its.updated;
      first = its.first;
      first_is = its.first_is;
      created = ap (λ (r : ItemRow). r.created) (sym same) ∙ its.created;
    }

-- an item without a row has no version
pub no_version : (rows : Rows) (accounts : List Account) (uuid : Bytes) → ShowsAccounts rows accounts → IsAbsent rows uuid
    → (n : ℕ) (a : Account) (v : Version) → account_at n accounts ≡ Some a → last_of uuid a.versions ≡ Some v → ⊥
no_version rows accounts uuid h absent n a v at last = let its = (h.each n a at).items uuid v last in absent its.row its.stands

pub nowhere : (rows : Rows) (accounts : List Account) (uuid : Bytes) → ShowsAccounts rows accounts → IsAbsent rows uuid
    → Each (λ (b : Account). Each (λ (v : Version). v.uuid ≢ uuid) b.versions) accounts
nowhere rows accounts uuid h absent =
    each_at_number (λ (b : Account). Each (λ (v : Version). v.uuid ≢ uuid) b.versions) accounts
    (λ n a at. none_of uuid a.versions (λ v last. no_version rows accounts uuid h absent n a v at last))

-- the row's last version, where its account is known
pub its_last : (rows : Rows) (accounts : List Account) (n : ℕ) (a : Account) (uuid : Bytes) (row : ItemRow) → ShowsAccounts rows accounts
    → account_at n accounts ≡ Some a → HasItem rows uuid row → row.account ≡ n
    → (v : Version) × (last_of uuid a.versions ≡ Some v) × ShowsStrings a.sets uuid row v.body × (row.updated ≡ v.stamp) × (row.kind ≡ v.kind)
its_last rows accounts n a uuid row h at there own =
    let st = stands_for rows accounts uuid row h there in
    let is : st.account ≡ a = one_there st.account a (account_at n accounts) (subst (λ (k : ℕ). account_at k accounts ≡ Some st.account) own st.at) at in
    let last : last_of uuid a.versions ≡ Some st.version = subst (λ (b : Account). last_of uuid b.versions ≡ Some st.version) is st.last in
    let its : ShowsItem rows n a uuid st.version = (h.each n a at).items uuid st.version last in
    let same : its.row ≡ row = one_row its.row row (rows (key.Item uuid)) its.stands there in (
      st.version,
      last,
      subst (λ (r : ItemRow). ShowsStrings a.sets uuid r st.version.body) same its.strings,
      st.updated,
      subst (λ (r : ItemRow). r.kind ≡ st.version.kind) same its.kind,
    )

-- The rules of a server: what it answers to a request about accounts, and what it changes.
use Rattle.std.specs.Prelude.{◌≡◌, ◌≢◌, ◌⊎◌, ℕ, suc, ◌<◌, List, [], ◌∷◌, false, codes}
use Rattle.std.specs.Ordering.{nat_cmp}
use Rattle.std.specs.Cmp.Lexicographic.{slice_cmp}
use Rattle.std.specs.declared.cmp.Ordering.TheVariants.{Less}
use Rattle.sn_keys.specs.Keys.{check_value}
use Rattle.sn_rows.specs.Table.{Puts, Rows}
use Rattle.sn_rows.specs.declared.change.Change.{Change}
use Rattle.sn_rows.specs.declared.key.Key.TheVariants as key
use Rattle.sn_rows.specs.declared.server_rows.AccountRow.{AccountRow}
use Rattle.sn_rows.specs.declared.server_rows.GenerationRow.{GenerationRow}
use Rattle.sn_rows.specs.declared.server_rows.ItemRow.{ItemRow}
use Rattle.sn_rows.specs.declared.server_rows.StoreRow.{StoreRow}
use Rattle.sn_rows.specs.declared.value.Value.TheVariants as value
use Rattle.sn_string.specs.Grammar.{Is003, Reading}
use Rattle.sn_string.specs.declared.params.Params.{Params}
use Rattle.sn_sync.specs.declared.answer.Answer.{Answer}
use Rattle.sn_sync.specs.declared.answer.Answer.TheVariants as answer
use Rattle.sn_sync.specs.declared.answer.More.{More}
use Rattle.sn_sync.specs.declared.answer.More.TheVariants as more
use Rattle.sn_account.specs.Lookups.{Bytes, HasAccount, HasGeneration, HasItem, IsNamed, IsUnknown}
use Rattle.sn_account.specs.Sessions.{IsNoSession, IsSession, account_uuid, session_token}
use Rattle.sn_account.specs.Sound.{most_accounts, most_generations}

-- nothing is changed, and the request is refused so
abbrev pub Refuses : ℕ → Bytes → More → List Change → Answer → Type 0
Refuses status tag further changes given = (changes ≡ []) × (given ≡ answer.Refused status tag further)

abbrev pub IsBadAuth : List Change → Answer → Type 0
IsBadAuth changes given = Refuses 401 (codes "bad-auth") more.Nothing changes given

-- the change puts the account of this number, with this generation of keys and this check value
pub record PutsAccount (change : Change) (n : ℕ) (identifier : Bytes) (generation : ℕ) (check : Bytes) : Type 0 where
  pub row : AccountRow
  pub puts : Puts change (key.Account n) (value.Account row)
  pub identifier_is : row.identifier ≡ identifier
  pub generation_is : row.generation ≡ generation
  pub check_is : row.check ≡ check

-- the change puts the parameters of a generation
pub record PutsGeneration (change : Change) (n generation cost : ℕ) (nonce : Bytes) : Type 0 where
  pub row : GenerationRow
  pub puts : Puts change (key.Generation n generation) (value.Generation row)
  pub cost_is : row.pw_cost ≡ cost
  pub nonce_is : row.pw_nonce ≡ nonce

-- the change puts the store's row with one account more
pub record PutsCount (change : Change) (store : StoreRow) : Type 0 where
  pub row : StoreRow
  pub puts : Puts change key.Store (value.Store row)
  pub secret : row.secret ≡ store.secret
  pub last : row.last ≡ store.last
  pub accounts : row.accounts ≡ suc store.accounts

-- ---- registration

-- the account has the next number, and its first keys
pub record BeginsAccount (store : StoreRow) (params : Params) (pw : Bytes) (changes : List Change) (given : Answer) : Type 0 where
  pub account : Change
  pub account_puts : PutsAccount account (suc store.accounts) params.identifier 1 (check_value pw)
  pub generation : Change
  pub generation_puts : PutsGeneration generation (suc store.accounts) 1 params.pw_cost params.pw_nonce
  pub count : Change
  pub count_puts : PutsCount count store
  pub changes_are : changes ≡ account ∷ generation ∷ count ∷ []
  pub answers : given ≡ answer.Account (session_token store.secret (suc store.accounts) 1) params.identifier (account_uuid (suc store.accounts))

-- refused where an account has the identifier; then where there are as many accounts as there may be
abbrev pub Registers : Rows → StoreRow → Params → Bytes → List Change → Answer → Type 0
Registers rows store params pw changes given =
    (((n : ℕ) × IsNamed rows params.identifier n) × Refuses 409 (codes "taken") more.Nothing changes given)
    ⊎ (IsUnknown rows params.identifier × (store.accounts ≡ most_accounts) × Refuses 409 (codes "full") (more.Number most_accounts) changes given)
    ⊎ (IsUnknown rows params.identifier × (store.accounts < most_accounts) × BeginsAccount store params pw changes given)

-- ---- parameters

-- those of the account's present keys
pub record Tells (rows : Rows) (identifier : Bytes) (given : Answer) : Type 0 where
  pub n : ℕ
  pub account : AccountRow
  pub there : HasAccount rows n account
  pub named : account.identifier ≡ identifier
  pub generation : GenerationRow
  pub present : HasGeneration rows n account.generation generation
  pub params : Params
  pub identifier_is : params.identifier ≡ identifier
  pub cost : params.pw_cost ≡ generation.pw_cost
  pub nonce : params.pw_nonce ≡ generation.pw_nonce
  pub answers : given ≡ answer.Params params

abbrev pub TellsParams : Rows → Bytes → Answer → Type 0
TellsParams rows identifier given =
    (IsUnknown rows identifier × (given ≡ answer.Refused 404 (codes "unknown") more.Nothing)) ⊎ Tells rows identifier given

-- ---- sign-in

-- the account's present token, where the password's check value is the account's
pub record Admits (rows : Rows) (store : StoreRow) (identifier pw : Bytes) (given : Answer) : Type 0 where
  pub n : ℕ
  pub account : AccountRow
  pub there : HasAccount rows n account
  pub named : account.identifier ≡ identifier
  pub check : account.check ≡ check_value pw
  pub answers : given ≡ answer.Account (session_token store.secret n account.generation) identifier (account_uuid n)

-- the account's check value is another
pub record Rejects (rows : Rows) (identifier pw : Bytes) : Type 0 where
  pub n : ℕ
  pub account : AccountRow
  pub there : HasAccount rows n account
  pub named : account.identifier ≡ identifier
  pub check : account.check ≢ check_value pw

abbrev pub SignsIn : Rows → StoreRow → Bytes → Bytes → Answer → Type 0
SignsIn rows store identifier pw given =
    (IsUnknown rows identifier × (given ≡ answer.Refused 404 (codes "unknown") more.Nothing))
    ⊎ (Rejects rows identifier pw × (given ≡ answer.Refused 401 (codes "bad-auth") more.Nothing))
    ⊎ Admits rows store identifier pw given

-- ---- a change of password

-- the text is a 003 string with these parameters
abbrev pub CarriesText : Bytes → Params → Type 0
CarriesText text params = (reading : Reading) × Is003 text reading × (reading.params ≡ params)

-- both strings of an item carry them
abbrev pub Carries : ItemRow → Params → Type 0
Carries item params = CarriesText item.content params × CarriesText item.enc params

-- the parameters of an account's present keys
pub record IsPresent (rows : Rows) (n : ℕ) (params : Params) : Type 0 where
  pub account : AccountRow
  pub there : HasAccount rows n account
  pub generation : GenerationRow
  pub stands : HasGeneration rows n account.generation generation
  pub identifier : params.identifier ≡ account.identifier
  pub cost : params.pw_cost ≡ generation.pw_cost
  pub nonce : params.pw_nonce ≡ generation.pw_nonce

-- an item of the account that isn't deleted and carries others
pub record IsBehind (rows : Rows) (n : ℕ) (params : Params) (uuid : Bytes) : Type 0 where
  pub item : ItemRow
  pub there : HasItem rows uuid item
  pub own : item.account ≡ n
  pub kept : item.deleted ≡ false
  pub others : ¬ (Carries item params)

abbrev pub NoneBehind : Rows → ℕ → Params → Type 0
NoneBehind rows n params = (uuid : Bytes) → ¬ (IsBehind rows n params uuid)

-- the account had this nonce in some generation
abbrev pub IsUsed : Rows → ℕ → Bytes → Type 0
IsUsed rows n nonce = (g : ℕ) × ((r : GenerationRow) × HasGeneration rows n g r × (r.pw_nonce ≡ nonce))

-- the account has its next keys
pub record Replaces (store : StoreRow) (n : ℕ) (a : AccountRow) (pw : Bytes) (cost : ℕ) (nonce : Bytes) (changes : List Change) (given : Answer)
    : Type 0 where
  pub account : Change
  pub account_puts : PutsAccount account n a.identifier (suc a.generation) (check_value pw)
  pub generation : Change
  pub generation_puts : PutsGeneration generation n (suc a.generation) cost nonce
  pub changes_are : changes ≡ account ∷ generation ∷ []
  pub answers : given ≡ answer.Account (session_token store.secret n (suc a.generation)) a.identifier (account_uuid n)

-- uuids are ordered by their bytes
abbrev pub IsBefore : Bytes → Bytes → Type 0
IsBefore a b = slice_cmp nat_cmp a b ≡ Less

-- the uuid of an item that is behind, and of no lesser one
pub record IsLeastBehind (rows : Rows) (n : ℕ) (params : Params) (uuid : Bytes) : Type 0 where
  pub behind : IsBehind rows n params uuid
  pub least : (other : Bytes) → IsBehind rows n params other → ¬ (IsBefore other uuid)

-- refused in this order: where an item still carries the parameters of an earlier generation, where the nonce was used, where there are as
-- many generations as there may be
abbrev pub ChangesKeys : Rows → StoreRow → ℕ → AccountRow → Params → Bytes → ℕ → Bytes → List Change → Answer → Type 0
ChangesKeys rows store n a present pw cost nonce changes given =
    ((uuid : Bytes) × IsLeastBehind rows n present uuid × Refuses 409 (codes "rekey-running") (more.Uuid uuid) changes given)
    ⊎ (NoneBehind rows n present × IsUsed rows n nonce × Refuses 409 (codes "nonce-used") more.Nothing changes given)
    ⊎ (NoneBehind rows n present × ¬ (IsUsed rows n nonce) × (a.generation ≡ most_generations)
    × Refuses 409 (codes "changes-used") (more.Number most_generations) changes given)
    ⊎ (NoneBehind rows n present × ¬ (IsUsed rows n nonce) × (a.generation < most_generations)
    × Replaces store n a pw cost nonce changes given)

-- the token isn't an account's present one, or the current password's check value isn't that account's; else as said
abbrev pub ChangesPassword : Rows → StoreRow → Bytes → Bytes → Bytes → ℕ → Bytes → List Change → Answer → Type 0
ChangesPassword rows store token current pw cost nonce changes given =
    (IsNoSession rows token × IsBadAuth changes given)
    ⊎ ((n : ℕ) × (a : AccountRow) × IsSession rows token n × HasAccount rows n a × (a.check ≢ check_value current) × IsBadAuth changes given)
    ⊎ ((n : ℕ) × (a : AccountRow) × (present : Params) × IsSession rows token n × HasAccount rows n a × (a.check ≡ check_value current)
    × IsPresent rows n present × ChangesKeys rows store n a present pw cost nonce changes given)

-- A change of password, and an item that is sealed again after it, as a server's rule takes them: which moves of the ideal account they are.
use Rattle.std.specs.Prelude.{◌≡◌, ◌≢◌, ◌⊎◌, ℕ, ◌+◌, List, [], ◌∷◌, length, Some, IsTrue}
use Rattle.sn_keys.specs.Keys.{check_value}
use Rattle.sn_laws.specs.Lookups.{Bytes, greatest, last_of}
use Rattle.sn_laws.specs.Moves.{after, allows}
use Rattle.sn_laws.specs.Relation.{IsNewStamp}
use Rattle.sn_laws.specs.declared.ideal.Account.{Account}
use Rattle.sn_laws.specs.declared.ideal.Body.TheVariants.{Under}
use Rattle.sn_laws.specs.declared.ideal.Ideal.{Ideal}
use Rattle.sn_laws.specs.declared.ideal.Version.{Version}
use Rattle.sn_laws.specs.declared.moves.Move.{Move}
use Rattle.sn_laws.specs.declared.moves.Move.TheVariants as move
use Rattle.sn_rows.specs.Table.{Rows, rows_after}
use Rattle.sn_rows.specs.declared.change.Change.{Change}
use Rattle.sn_rows.specs.declared.server_rows.ItemRow.{ItemRow}
use Rattle.sn_rows.specs.declared.server_rows.StoreRow.{StoreRow}
use Rattle.sn_string.specs.declared.params.KeySet.{KeySet}
use Rattle.sn_string.specs.declared.params.Params.{Params}
use Rattle.sn_sync.specs.declared.answer.Answer.{Answer}
use Rattle.sn_sync.specs.declared.answer.Answer.TheVariants as answer
use Rattle.sn_sync.specs.declared.answer.More.{More}
use Rattle.sn_sync.specs.declared.item.Body.TheVariants as body
use Rattle.sn_sync.specs.declared.item.Item.{Item}
use Rattle.sn_account.specs.Incoming.{Progress, TakesNew}
use Rattle.sn_account.specs.Lookups.{HasItem, HasStore}
use Rattle.sn_account.specs.Rules.{ChangesPassword, IsBadAuth, Refuses}
use Rattle.sn_account.specs.Sessions.{IsNoSession, IsSession, account_uuid, session_token}
use Rattle.sn_account.specs.Sound.{IsSound}
use Rattle.sn_account.specs.Taking.{IsAcceptance}
use Rattle.sn_account.specs.declared.taken.Effect.{Effect}
use Rattle.sn_shows.specs.Laws.{AreApart}
use Rattle.sn_shows.specs.Rekeying.{PutsGeneration}
use Rattle.sn_shows.specs.Servers.{ShowsAccounts, ShowsServer, account_at, stamps_in}
use Rattle.sn_shows.specs.Sets.{OpensUnder, set_at}

-- ---- a change of password

-- the rows are those of a server with these accounts: they show them and are sound, the store's row is this one, and no two accounts have one identifier
pub record IsServerOf (rows : Rows) (store : StoreRow) (accounts : List Account) : Type 0 where
  pub stands : HasStore rows store
  pub shows : ShowsServer rows accounts
  pub sound : IsSound rows
  pub apart : AreApart accounts

-- the set is what is asked for: it has this server's password, cost and nonce, and the identifier of the account whose session the token is, if it is one's
pub record IsAsked (rows : Rows) (accounts : List Account) (token pw : Bytes) (cost : ℕ) (nonce : Bytes) (set : KeySet) : Type 0 where
  pub pw_is : set.pw ≡ pw
  pub cost_is : set.params.pw_cost ≡ cost
  pub nonce_is : set.params.pw_nonce ≡ nonce
  pub own : (number : ℕ) (a : Account) → IsSession rows token number → account_at number accounts ≡ Some a → set.params.identifier ≡ a.identifier

-- the move that gives an account its next set
abbrev pub next_set : Account → KeySet → Move
next_set a set = move.Change a.identifier (length a.sets + 1) set

-- the token is the session of this account, which has this number
pub record IsHolder (rows : Rows) (accounts : List Account) (token : Bytes) (number : ℕ) (a : Account) : Type 0 where
  pub at : account_at number accounts ≡ Some a
  pub session : IsSession rows token number

-- the check value of this password is that of the account's last set
abbrev pub HasCheck : Account → Bytes → Type 0
HasCheck a current = (last : KeySet) × (set_at (length a.sets) a.sets ≡ Some last) × (check_value last.pw ≡ check_value current)

-- the token is no account's session, or the password's check value is another than its account's
abbrev pub IsDenied : Rows → List Account → Bytes → Bytes → Type 0
IsDenied rows accounts token current =
    IsNoSession rows token ⊎ ((number : ℕ) × (a : Account) × IsHolder rows accounts token number a × ¬ (HasCheck a current))

-- nothing is changed: they are denied; or they are an account's that may not have the set next, and that is answered as a conflict
abbrev pub IsRefused : Rows → Ideal → Bytes → Bytes → KeySet → List Change → Answer → Type 0
IsRefused rows s token current set changes given =
    (IsDenied rows s.accounts token current × IsBadAuth changes given)
    ⊎ ((number : ℕ) × (a : Account) × IsHolder rows s.accounts token number a × HasCheck a current × ¬ (IsTrue (allows s (next_set a set)))
    × ((tag : Bytes) × (further : More) × Refuses 409 tag further changes given))

-- token and password are an account's, which gets the set as its next one: the move is allowed, the rows of the account and of that set are put and no others,
-- the rows then show the accounts after the move, and the answer has the next generation's session token
pub record IsChanged (rows : Rows) (store : StoreRow) (s : Ideal) (token current : Bytes) (set : KeySet) (changes : List Change) (given : Answer) : Type 0 where
  pub number : ℕ
  pub account : Account
  pub holder : IsHolder rows s.accounts token number account
  pub check : HasCheck account current
  pub allowed : IsTrue (allows s (next_set account set))
  pub account_put : Change
  pub generation_put : Change
  pub puts : PutsGeneration account_put generation_put number account set
  pub changes_are : changes ≡ account_put ∷ generation_put ∷ []
  pub shows : ShowsServer (rows_after rows changes) (after s (next_set account set)).accounts
  pub answers : given ≡ answer.Account (session_token store.secret number (length account.sets + 1)) account.identifier (account_uuid number)

-- a change of password by the rule: the rows stay sound, and it is refused, or done where the move is allowed
abbrev pub ChangeServed : Type 0
ChangeServed = (rows : Rows) (store : StoreRow) (s : Ideal) (token current pw : Bytes) (cost : ℕ) (nonce : Bytes) (set : KeySet)
    (changes : List Change) (given : Answer)
    → IsServerOf rows store s.accounts → IsAsked rows s.accounts token pw cost nonce set
    → ChangesPassword rows store token current pw cost nonce changes given
    → IsSound (rows_after rows changes) × (IsRefused rows s token current set changes given ⊎ IsChanged rows store s token current set changes given)

-- ---- an item that is sealed again

-- the item is this version of the account, which is live and under another set than the last, with strings that open to its text under the last one
pub record IsVersionSealedAgain (a : Account) (v : Version) (i : Item) : Type 0 where
  pub text : Bytes
  pub under : ℕ
  pub live : v.body ≡ Under text under
  pub behind : under ≢ length a.sets
  pub kind_is : i.kind ≡ v.kind
  pub content : Bytes
  pub enc : Bytes
  pub strings : i.body ≡ body.Strings content enc
  pub opens : OpensUnder a.sets (length a.sets) i.uuid (record { content = content; enc = enc }) text

-- it is the last version of its item in the account of this number, of a server whose rows show the accounts
pub record MeetsBehind (rows : Rows) (s : Ideal) (number : ℕ) (a : Account) (v : Version) (i : Item) : Type 0 where
  pub shows : ShowsAccounts rows s.accounts
  pub apart : AreApart s.accounts
  pub at : account_at number s.accounts ≡ Some a
  pub last : last_of i.uuid a.versions ≡ Some v
  pub again : IsVersionSealedAgain a v i

-- the item's rewrap at this stamp is allowed, and the rows show the accounts after it
pub record IsRewrapped (rows : Rows) (s : Ideal) (uuid : Bytes) (stamp under : ℕ) : Type 0 where
  pub allowed : IsTrue (allows s (move.Rewrap uuid stamp under))
  pub shows : ShowsAccounts rows (after s (move.Rewrap uuid stamp under)).accounts

-- it is accepted at a stamp above all, with the stamp of its first acceptance: it is rewrapped
abbrev pub RewrapServed : Type 0
RewrapServed = (rows : Rows) (s : Ideal) (number : ℕ) (a : Account) (v : Version) (i : Item) (stamp : ℕ) (stored : ItemRow) (e : Effect)
    → MeetsBehind rows s number a v i → IsNewStamp s stamp → HasItem rows i.uuid stored
    → (x : IsAcceptance number stored.created stamp i e)
    → IsRewrapped (rows_after rows (x.change ∷ [])) s i.uuid stamp (length a.sets)

-- a sync takes it as a new version, and the last stamp that was given is the greatest: it is rewrapped, and so it is again
abbrev pub RewrapTaken : Type 0
RewrapTaken = (present : Params) (now : ℕ) (p q : Progress) (s : Ideal) (number : ℕ) (a : Account) (v : Version) (i : Item)
    → MeetsBehind p.rows s number a v i → p.last ≡ greatest 0 (stamps_in s.accounts) → TakesNew present now number p i q
    → IsRewrapped q.rows s i.uuid q.last (length a.sets)
    × (q.last ≡ greatest 0 (stamps_in (after s (move.Rewrap i.uuid q.last (length a.sets))).accounts))

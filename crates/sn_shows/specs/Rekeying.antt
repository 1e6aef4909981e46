-- What a change of password, and an item that is sealed again after it, make of a server's rows that show accounts, and what they leave of a device's.
use Rattle.std.specs.Prelude.{◌≡◌, ℕ, ◌+◌, [], ◌∷◌, length, Some, IsTrue}
use Rattle.sn_keys.specs.Keys.{check_value}
use Rattle.sn_laws.specs.Lookups.{Bytes, greatest, last_of}
use Rattle.sn_laws.specs.Moves.{allows, after, resealed}
use Rattle.sn_laws.specs.declared.ideal.Account.{Account}
use Rattle.sn_laws.specs.declared.ideal.Ideal.{Ideal}
use Rattle.sn_laws.specs.declared.ideal.Version.{Version}
use Rattle.sn_laws.specs.declared.moves.Move.TheVariants as move
use Rattle.sn_rows.specs.Table.{Puts, Rows, rows_after}
use Rattle.sn_rows.specs.declared.change.Change.{Change}
use Rattle.sn_rows.specs.declared.key.Key.TheVariants as key
use Rattle.sn_rows.specs.declared.server_rows.AccountRow.{AccountRow}
use Rattle.sn_rows.specs.declared.server_rows.GenerationRow.{GenerationRow}
use Rattle.sn_rows.specs.declared.server_rows.ItemRow.{ItemRow}
use Rattle.sn_rows.specs.declared.value.Value.TheVariants as value
use Rattle.sn_string.specs.declared.params.KeySet.{KeySet}
use Rattle.sn_shows.specs.Devices.{ShowsDevice}
use Rattle.sn_shows.specs.Laws.{AreApart}
use Rattle.sn_shows.specs.Servers.{ShowsAccounts, ShowsServer, ShowsStrings, account_at, first_of, stamps_in}

-- ---- a change of password

-- the changes put the row of the account of this number again, with one more generation and the check value of the new set, and the row of that
-- generation, with the set's parameters; the identifier stays
pub record PutsGeneration (account generation : Change) (number : ℕ) (a : Account) (set : KeySet) : Type 0 where
  pub row : AccountRow
  pub account_puts : Puts account (key.Account number) (value.Account row)
  pub identifier_is : row.identifier ≡ a.identifier
  pub next : row.generation ≡ length a.sets + 1
  pub check : row.check ≡ check_value set.pw
  pub params : GenerationRow
  pub generation_puts : Puts generation (key.Generation number (length a.sets + 1)) (value.Generation params)
  pub cost : params.pw_cost ≡ set.params.pw_cost
  pub nonce : params.pw_nonce ≡ set.params.pw_nonce
  pub own : set.params.identifier ≡ a.identifier

abbrev pub ChangedShows : Type 0
ChangedShows = (rows : Rows) (s : Ideal) (number : ℕ) (a : Account) (set : KeySet) (account generation : Change)
    → ShowsAccounts rows s.accounts → AreApart s.accounts → account_at number s.accounts ≡ Some a
    → PutsGeneration account generation number a set
    → ShowsAccounts (rows_after rows (account ∷ generation ∷ [])) (after s (move.Change a.identifier (length a.sets + 1) set)).accounts

-- the greatest stamp stays
abbrev pub ChangedLast : Type 0
ChangedLast = (s : Ideal) (identifier : Bytes) (number : ℕ) (set : KeySet)
    → greatest 0 (stamps_in (after s (move.Change identifier number set)).accounts) ≡ greatest 0 (stamps_in s.accounts)

-- so the store's row needn't be put: behind the changes a server's rows are whole
abbrev pub ChangedServer : Type 0
ChangedServer = (rows : Rows) (s : Ideal) (number : ℕ) (a : Account) (set : KeySet) (account generation : Change)
    → ShowsServer rows s.accounts → AreApart s.accounts → account_at number s.accounts ≡ Some a
    → PutsGeneration account generation number a set
    → ShowsServer (rows_after rows (account ∷ generation ∷ [])) (after s (move.Change a.identifier (length a.sets + 1) set)).accounts

-- ---- an item that is sealed again

-- the change puts the row of this version, which is the last one of its item in the account of this number, again: the type and the first stamp stay, the
-- last stamp is this one, and the strings open to the version's content under the account's last set; of a deleted one they stay empty
pub record PutsRewrapped (change : Change) (number : ℕ) (a : Account) (v : Version) (stamp : ℕ) : Type 0 where
  pub row : ItemRow
  pub puts : Puts change (key.Item v.uuid) (value.Item row)
  pub account : row.account ≡ number
  pub kind : row.kind ≡ v.kind
  pub updated : row.updated ≡ stamp
  pub first : Version
  pub first_is : first_of v.uuid a.versions ≡ Some first
  pub created : row.created ≡ first.stamp
  pub strings : ShowsStrings a.sets v.uuid row (resealed (length a.sets) v.body)

abbrev pub RewrappedShows : Type 0
RewrappedShows = (rows : Rows) (s : Ideal) (uuid : Bytes) (stamp number : ℕ) (a : Account) (v : Version) (change : Change)
    → ShowsAccounts rows s.accounts → AreApart s.accounts → IsTrue (allows s (move.Rewrap uuid stamp (length a.sets)))
    → account_at number s.accounts ≡ Some a → last_of uuid a.versions ≡ Some v
    → PutsRewrapped change number a v stamp
    → ShowsAccounts (rows_after rows (change ∷ [])) (after s (move.Rewrap uuid stamp (length a.sets))).accounts

-- the new stamp is then the greatest
abbrev pub RewrappedLast : Type 0
RewrappedLast = (s : Ideal) (uuid : Bytes) (stamp under : ℕ)
    → IsTrue (allows s (move.Rewrap uuid stamp under)) → greatest 0 (stamps_in (after s (move.Rewrap uuid stamp under)).accounts) ≡ stamp

-- ---- both leave what each device's rows show

abbrev pub ChangeKeeps : Type 0
ChangeKeeps = (rows : Rows) (s : Ideal) (name identifier : Bytes) (number : ℕ) (set : KeySet)
    → ShowsDevice rows s name → ShowsDevice rows (after s (move.Change identifier number set)) name

abbrev pub RewrapKeeps : Type 0
RewrapKeeps = (rows : Rows) (s : Ideal) (name uuid : Bytes) (stamp under : ℕ)
    → ShowsDevice rows s name → ShowsDevice rows (after s (move.Rewrap uuid stamp under)) name

-- What a sync and a change of password leave, where they are answered.
use Rattle.std.specs.Prelude.{◌≡◌, ◌<◌, ℕ, List, [], ◌∷◌, Option, Some, None, false, length}
use Rattle.rand_chacha.specs.ChaCha.{ChaCha}
use Rattle.sn_device.specs.Runs.{Act, Call, Given, Run, answered, passwd, rows_done, sync}
use Rattle.sn_device.specs.States.{HasLocal, HasSets}
use Rattle.sn_finished.specs.Finished.{CarriesLast}
use Rattle.sn_keys.specs.Keys.{AreKeysOf}
use Rattle.sn_laws.specs.Lookups.{Bytes, account_named}
use Rattle.sn_laws.specs.Runs.{end_from}
use Rattle.sn_laws.specs.declared.ideal.Account.{Account}
use Rattle.sn_laws.specs.declared.ideal.Ideal.{Ideal}
use Rattle.sn_passwd.specs.Calls.{IsOnlyAsked}
use Rattle.sn_rows.specs.Table.{Rows}
use Rattle.sn_rows.specs.declared.device_rows.LocalItem.{LocalItem}
use Rattle.sn_rows.specs.declared.device_rows.OwnerRow.{OwnerRow}
use Rattle.sn_rows.specs.declared.key.Key.TheVariants as key
use Rattle.sn_rows.specs.declared.key.Slot.TheVariants.{Older}
use Rattle.sn_sets.specs.declared.sets.Sets.{Sets}
use Rattle.sn_shows.specs.Sets.{set_at}
use Rattle.sn_string.specs.declared.params.KeySet.{KeySet}
use Rattle.sn_sync.specs.declared.request.Request.{Request}
use Rattle.sn_world.specs.Calls.{AreServed, BeginsBy, Fate, Leads, call_steps, rows_served}
use Rattle.sn_world.specs.Holds.{Holds, TokensDiffer}
use Rattle.sn_world.specs.Plain.{AsksNoSet}
use Rattle.sn_world.specs.Synced.{IsSynced}
use Rattle.sn_world.specs.World.{World}

-- the device has just its account's undeleted last versions, no draft, nothing to be sealed again, and no set that is asked for; it holds its account's last
-- set alone, and has no older one in its rows
pub record IsAtRest (rows : Rows) (s : Ideal) (name : Bytes) : Type 0 where
  pub synced : IsSynced rows s name
  pub none_stale : (number : ℕ) (local : LocalItem) → HasLocal rows number local → local.stale ≡ false
  pub none_asked : AsksNoSet rows
  pub alone : synced.device.held ≡ length synced.account.sets ∷ []
  pub none_older : rows (key.Set Older) ≡ None

-- the call's acts, with these fates of its requests, are steps that lead there
pub record LeadsAtRest (secret : Bytes) (w : World) (s : Ideal) (name : Bytes) (call : Call) (acts : List Act) (fates : List Fate) : Type 0 where
  pub begins : Request → Option KeySet
  pub of_call : BeginsBy (w.devices name) call begins
  pub leads : Leads secret w s name (call_steps name begins acts fates) (rows_served w.server fates) (rows_done (w.devices name) acts)
  pub at_rest : IsAtRest (leads.next.devices name) (end_from s leads.moves) name

-- each sync that is answered, whatever its device and others did before
abbrev pub EverySyncEnds : Type 0
EverySyncEnds = (secret : Bytes) (w : World) (s : Ideal) (name : Bytes) (least : ℕ) (words left : ChaCha) (acts : List Act) (fates : List Fate) (given : Given)
    → TokensDiffer secret → Holds secret w s → IsOnlyAsked s (w.devices name) → Run least sync (w.devices name) words acts (answered given left)
    → AreServed w.server acts fates → LeadsAtRest secret w s name sync acts fates

-- the present set in the rows is the account's last, the keys of the password, of this cost; the account has more sets than it had before; and each undeleted
-- last version of it carries the last
pub record HasNewSet (rows : Rows) (before : Ideal) (a : Account) (password : Bytes) (cost : ℕ) : Type 0 where
  pub owner : OwnerRow
  pub sets : Sets
  pub holds : HasSets rows owner sets
  pub keys : AreKeysOf password sets.present.params sets.present
  pub cost_is : sets.present.params.pw_cost ≡ cost
  pub last : set_at (length a.sets) a.sets ≡ Some sets.present
  pub was : Account
  pub named : account_named before a.identifier ≡ Some was
  pub more : length was.sets < length a.sets
  pub carries_last : CarriesLast a

-- and each change of password that is answered; then the account's last set is a new one, of that password
abbrev pub PasswdsEnd : Type 0
PasswdsEnd = (secret : Bytes) (w : World) (s : Ideal) (name : Bytes) (least : ℕ) (password : Bytes) (cost : ℕ) (words left : ChaCha) (acts : List Act)
    (fates : List Fate) (given : Given) → TokensDiffer secret → Holds secret w s → IsOnlyAsked s (w.devices name)
    → Run least (passwd password cost) (w.devices name) words acts (answered given left) → AreServed w.server acts fates
    → (x : LeadsAtRest secret w s name (passwd password cost) acts fates)
    × HasNewSet (x.leads.next.devices name) s x.at_rest.synced.account password cost

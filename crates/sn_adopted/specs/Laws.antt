-- What the commits of a change of password make of a device's rows that show a state: they show the state after the commit's moves. The commits are
-- the device's own steps; whether the moves are legal is not spoken of here.
use Rattle.std.specs.Prelude.{◌≡◌, ◌<◌, ℕ, List, [], ◌∷◌, length, Option, Some, None, IsTrue}
use Rattle.rand_chacha.specs.ChaCha.{ChaCha}
use Rattle.sn_device.specs.States.{HasSets, IsInSlot, IsSound, owner_columns, HasNoneAsked}
use Rattle.sn_device.specs.Steps.{Adopts, Asks, Forgets, Renews, Retires, Step, What, with_token}
use Rattle.sn_laws.specs.Each.{Each}
use Rattle.sn_laws.specs.Lookups.{Bytes, greatest}
use Rattle.sn_laws.specs.Moves.{allows}
use Rattle.sn_laws.specs.Reached.{AllDiffer, IsOneOrTwo, NoncesApart}
use Rattle.sn_laws.specs.Runs.{LegalFrom, end_from}
use Rattle.sn_laws.specs.declared.ideal.Account.{Account}
use Rattle.sn_laws.specs.declared.ideal.Device.{Device}
use Rattle.sn_laws.specs.declared.ideal.Ideal.{Ideal}
use Rattle.sn_laws.specs.declared.moves.Move.{Move}
use Rattle.sn_laws.specs.declared.moves.Move.TheVariants.{Unpost}
use Rattle.sn_rows.specs.Table.{Rows, rows_after}
use Rattle.sn_rows.specs.declared.change.Change.{Change}
use Rattle.sn_rows.specs.declared.device_rows.OwnerRow.{OwnerRow}
use Rattle.sn_rows.specs.declared.key.Slot.TheVariants.{Asked, Older}
use Rattle.sn_sets.specs.declared.sets.Sets.{Sets}
use Rattle.sn_shows.specs.Devices.{ShowsDevice}
use Rattle.sn_shows.specs.Laws.{HasAccount}
use Rattle.sn_shows.specs.Sets.{set_at}
use Rattle.sn_string.specs.declared.params.KeySet.{KeySet}
use Rattle.sn_adopted.specs.Moves.{AdoptsNone, AreReposted, IsRetiring, OlderStale, WasSent, adopting, reposting}

-- ---- a set is adopted

-- a device that adopts a later set of its account, whose sets have different nonces: its rows show the state after the end of the older of two sets,
-- where it held two, and the join of the new one; each row of the set that was present is stale; and no set is asked for
abbrev pub AdoptShows : Type 0
AdoptShows = (rows : Rows) (words left : ChaCha) (set : KeySet) (token : Bytes) (number : ℕ) (changes : List Change) (s : Ideal) (name : Bytes) (d : Device)
    (a : Account)
    → ShowsDevice rows s name → HasAccount s name d a → IsOneOrTwo (length a.sets) d.held → OlderStale rows a d.held → NoncesApart a
    → set_at number a.sets ≡ Some set → greatest 0 d.held < number → Adopts rows words set token changes left
    → ShowsDevice (rows_after rows changes) (end_from s (adopting name a.identifier number d.held)) name
    × OlderStale (rows_after rows changes) a (greatest 0 d.held ∷ number ∷ []) × HasNoneAsked (rows_after rows changes)

-- so each later commit leaves it
abbrev pub StaleStays : Type 0
StaleStays = (rows : Rows) (words left : ChaCha) (what : What) (changes : List Change) (s : Ideal) (name : Bytes) (d : Device) (a : Account)
    → IsSound rows → ShowsDevice rows s name → HasAccount s name d a → IsOneOrTwo (length a.sets) d.held → NoncesApart a → OlderStale rows a d.held
    → AdoptsNone what → Step rows words what changes left → OlderStale (rows_after rows changes) a d.held

-- the device's own row has the session token, and else is as it was; the set is the present one, and the one that was present the older
pub record HoldsAdopted (now : Rows) (owner : OwnerRow) (sets : Sets) (set : KeySet) (token : Bytes) : Type 0 where
  pub later : OwnerRow
  pub columns_are : owner_columns later ≡ with_token token (owner_columns owner)
  pub holds : HasSets now later (record { present = set; older = Some sets.present; asked = None })

abbrev pub AdoptHolds : Type 0
AdoptHolds = (rows : Rows) (words left : ChaCha) (set : KeySet) (token : Bytes) (changes : List Change)
    → (x : Adopts rows words set token changes left) → HoldsAdopted (rows_after rows changes) x.owner x.sets set token

-- ---- what was sent is sent again

-- rows don't say under which set: they show the state after it as well
abbrev pub RepostsShow : Type 0
RepostsShow = (rows : Rows) (s : Ideal) (name : Bytes) (uuids : List Bytes)
    → ShowsDevice rows s name → Each (WasSent s name) uuids → ShowsDevice rows (end_from s (reposting name uuids)) name

-- it is legal where each of these items, no two the same, may lose its number
abbrev pub RepostsAllowed : Type 0
RepostsAllowed = (s : Ideal) (name : Bytes) (uuids : List Bytes)
    → AllDiffer uuids → Each (λ uuid. IsTrue (allows s (Unpost name uuid))) uuids → LegalFrom s (reposting name uuids)

abbrev pub RepostsMove : Type 0
RepostsMove = (s : Ideal) (name : Bytes) (uuids : List Bytes) → AreReposted s (end_from s (reposting name uuids)) name uuids

-- ---- commits that say no move

-- a set is asked for
abbrev pub AskShows : Type 0
AskShows = (rows : Rows) (set : KeySet) (changes : List Change) (s : Ideal) (name : Bytes)
    → ShowsDevice rows s name → (x : Asks rows set changes)
    → ShowsDevice (rows_after rows changes) s name × IsInSlot (rows_after rows changes) x.owner.identifier Asked (Some set)

-- and dropped
abbrev pub ForgetShows : Type 0
ForgetShows = (rows : Rows) (changes : List Change) (s : Ideal) (name : Bytes)
    → ShowsDevice rows s name → Forgets rows changes → ShowsDevice (rows_after rows changes) s name × HasNoneAsked (rows_after rows changes)

-- the session token is renewed
abbrev pub RenewShows : Type 0
RenewShows = (rows : Rows) (token : Bytes) (changes : List Change) (s : Ideal) (name : Bytes)
    → ShowsDevice rows s name → Renews rows token changes → ShowsDevice (rows_after rows changes) s name

-- ---- an older set is retired

-- behind an answer that left the rows that are told of, in a commit whose other changes left rows that show a state: with the older set's row, where it
-- may go, the older of two sets ends
abbrev pub RetireShows : Type 0
RetireShows = (told rows : Rows) (cursor : Option Bytes) (older : Option KeySet) (changes : List Change) (s : Ideal) (name identifier : Bytes) (d : Device)
    (a : Account)
    → ShowsDevice rows s name → HasAccount s name d a → IsOneOrTwo (length a.sets) d.held → IsInSlot rows identifier Older older
    → Retires told cursor older changes
    → (moves : List Move) × IsRetiring told cursor older name d.held moves × ShowsDevice (rows_after rows changes) (end_from s moves) name

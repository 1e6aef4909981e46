-- How a change of password ends of a device that is ready, over a server that answers by its rule, where no request is lost, no answer is, and no crash takes
-- a commit away.
use Rattle.std.specs.Prelude.{◌≡◌, ◌⊎◌, ◌+◌, ℕ, List, [], ◌∷◌, ◌++◌, length, true, codes}
use Rattle.rand_chacha.specs.ChaCha.{ChaCha}
use Rattle.sn_account.specs.Lookups.{HasAccount as HasAccountRow}
use Rattle.sn_account.specs.Rules.{IsLeastBehind, IsPresent, IsUsed}
use Rattle.sn_account.specs.Sessions.{IsSession}
use Rattle.sn_account.specs.Sound.{most_generations}
use Rattle.sn_device.specs.Asking.{said}
use Rattle.sn_device.specs.Runs.{Act, Halt, IsBadCost, IsBatch, IsDone, IsDue, IsNewSet, Refuses, RefusesChange, Run, Standing, answered, asked, broken, change_to, commits, most_exchanges, nothing, passwd, refused}
use Rattle.sn_device.specs.States.{HasOwner, HasSets}
use Rattle.sn_device.specs.Steps.{Forgets, Step, What, adopts, asks, forgets}
use Rattle.sn_device.specs.declared.error.ClientError.{ClientError}
use Rattle.sn_device.specs.declared.error.ClientError.TheVariants as refusal
use Rattle.sn_finished.specs.Finished.{CarriesLast}
use Rattle.sn_laws.specs.Each.{Each}
use Rattle.sn_laws.specs.Lookups.{Bytes}
use Rattle.sn_laws.specs.declared.ideal.Account.{Account}
use Rattle.sn_laws.specs.declared.ideal.Device.{Device}
use Rattle.sn_laws.specs.declared.ideal.Ideal.{Ideal}
use Rattle.sn_ready.specs.Ready.{IsReady}
use Rattle.sn_rows.specs.Spelling.{spelled}
use Rattle.sn_rows.specs.Table.{Rows, rows_after}
use Rattle.sn_rows.specs.declared.change.Change.{Change}
use Rattle.sn_rows.specs.declared.device_rows.OwnerRow.{OwnerRow}
use Rattle.sn_rows.specs.declared.server_rows.AccountRow.{AccountRow}
use Rattle.sn_sets.specs.declared.sets.Sets.{Sets}
use Rattle.sn_shows.specs.Laws.{HasAccount}
use Rattle.sn_string.specs.declared.params.KeySet.{KeySet}
use Rattle.sn_string.specs.declared.params.Params.{Params}
use Rattle.sn_sync.specs.declared.answer.Answer.{Answer}
use Rattle.sn_sync.specs.declared.answer.Answer.TheVariants as answer
use Rattle.sn_sync.specs.declared.answer.More.{More}
use Rattle.sn_sync.specs.declared.answer.More.TheVariants as more
use Rattle.sn_world.specs.Answering.{Arrives, AfterRounds, RanOut, StampsUsed, requests_in}
use Rattle.sn_world.specs.Calls.{AreServed, Fate, rows_served, served}
use Rattle.sn_world.specs.Delivered.{FitsDevices}
use Rattle.sn_world.specs.Holds.{Holds, TokensDiffer}
use Rattle.sn_world.specs.World.{World}

-- ---- a row of exchanges

-- behind so many requests of the call: as many were made as a call may make, and one more is due
pub record UsesAll (made : ℕ) (rows : Rows) (words : ChaCha) (acts : List Act) (halt : Halt) : Type 0 where
  pub behind : AfterRounds rows words acts
  pub no_more : behind.later ≡ []
  pub all : made + requests_in acts ≡ most_exchanges
  pub due : IsDue behind.at.rows behind.at.last
  pub is : halt ≡ refused refusal.RoundsUsed

-- it isn't brought to its end; behind so many requests of the call
abbrev pub StopsRow : ℕ → Rows → Rows → ChaCha → List Act → List Fate → Halt → Type 0
StopsRow made server rows words acts fates halt =
    UsesAll made rows words acts halt ⊎ (RanOut rows words acts halt ⊎ StampsUsed server rows words acts fates halt)

-- it is: nothing is left to be sent, and no page behind the last one
pub record RowDone (rows : Rows) (words : ChaCha) (acts : List Act) : Type 0 where
  pub behind : AfterRounds rows words acts
  pub done : IsDone behind.at.rows behind.at.last

-- ---- the change

-- a set of this password and cost is drawn and kept as asked for, and the change to it is asked for and answered
pub record AsksChange (password : Bytes) (cost : ℕ) (at : Standing) (acts : List Act) : Type 0 where
  pub owner : OwnerRow
  pub sets : Sets
  pub holds : HasSets at.rows owner sets
  pub set : KeySet
  pub left : ChaCha
  pub new : IsNewSet at.words owner.identifier password cost set left
  pub kept : List Change
  pub keeps : Step at.rows left (asks set) kept left
  pub given : Answer
  pub later : List Act
  pub acts_are : acts ≡ commits (asks set) kept ∷ asked (change_to owner sets.present set) (said given) ∷ later

-- where another's change of the password runs still, an item carries a set before the last; or the account had the nonce; or it has as many sets as it may
-- have
abbrev pub IsConflict : Type 0 → Rows → ℕ → AccountRow → Params → Bytes → Bytes → More → Type 0
IsConflict runs rows number account present nonce tag further =
    ((uuid : Bytes) × runs × IsLeastBehind rows number present uuid × (tag ≡ codes "rekey-running") × (further ≡ more.Uuid uuid))
    ⊎ ((IsUsed rows number nonce × (tag ≡ codes "nonce-used") × (further ≡ more.Nothing))
    ⊎ ((account.generation ≡ most_generations) × (tag ≡ codes "changes-used") × (further ≡ more.Number most_generations)))

-- the server, with these rows, refuses the change for such a conflict, and the set is dropped
pub record RefusesIt (runs : Type 0) (password : Bytes) (cost : ℕ) (server : Rows) (at : Standing) (acts : List Act) (fates : List Fate) (halt : Halt)
    : Type 0 where
  pub change : AsksChange password cost at acts
  pub number : ℕ
  pub session : IsSession server change.owner.token number
  pub account : AccountRow
  pub there : HasAccountRow server number account
  pub present : Params
  pub present_is : IsPresent server number present
  pub tag : Bytes
  pub further : More
  pub conflict : IsConflict runs server number account present change.set.params.pw_nonce tag further
  pub given_is : change.given ≡ answer.Refused 409 tag further
  pub now : ℕ
  pub fates_are : fates ≡ served now [] (answer.Refused 409 tag further) true ∷ []
  pub dropped : List Change
  pub drops : Forgets (rows_after at.rows change.kept) dropped
  pub later_is : change.later ≡ commits forgets dropped ∷ []
  pub is : halt ≡ refused (refusal.Refused 409 tag)

-- the server makes the change; of these changes is the adoption of the set
pub record MakesIt (password : Bytes) (cost : ℕ) (at : Standing) (acts : List Act) : Type 0 where
  pub change : AsksChange password cost at acts
  pub token : Bytes
  pub identifier : Bytes
  pub uuid : Bytes
  pub given_is : change.given ≡ answer.Account token identifier uuid
  pub adopted : List Change
  pub left : ChaCha
  pub step : Step (rows_after at.rows change.kept) change.left (adopts change.set token) adopted left

-- these are more than a batch
pub record IsTooLarge (password : Bytes) (cost : ℕ) (at : Standing) (acts : List Act) (halt : Halt) : Type 0 where
  pub makes : MakesIt password cost at acts
  pub large : ¬ (IsBatch makes.adopted)
  pub no_more : makes.change.later ≡ []
  pub is : halt ≡ refused (refusal.TooLarge (length (spelled makes.adopted)))

-- it is committed
pub record IsMade (password : Bytes) (cost : ℕ) (at : Standing) (acts : List Act) : Type 0 where
  pub makes : MakesIt password cost at acts
  pub later : List Act
  pub later_is : makes.change.later ≡ commits (adopts makes.change.set makes.token) makes.adopted ∷ later

-- ---- the second row of exchanges

-- the rows with which it begins
abbrev pub rows_made : {password : Bytes} {cost : ℕ} {acts : List Act} (at : Standing) → IsMade password cost at acts → Rows
rows_made at x = rows_after (rows_after at.rows x.makes.change.kept) x.makes.adopted

-- it isn't brought to its end, behind so many requests of the call
pub record StopsLater (made : ℕ) (password : Bytes) (cost : ℕ) (server : Rows) (at : Standing) (acts : List Act) (fates : List Fate) (halt : Halt)
    : Type 0 where
  pub is_made : IsMade password cost at acts
  pub met : List Fate
  pub others : List Fate
  pub fates_are : fates ≡ met ++ others
  pub stops : StopsRow made (rows_served server met) (rows_made at is_made) is_made.makes.left is_made.later others halt

-- it is, and the call is answered
pub record IsChanged (password : Bytes) (cost : ℕ) (at : Standing) (acts : List Act) (halt : Halt) : Type 0 where
  pub is_made : IsMade password cost at acts
  pub second : RowDone (rows_made at is_made) is_made.makes.left is_made.later
  pub no_more : second.behind.later ≡ []
  pub is : halt ≡ answered nothing second.behind.at.words

-- ---- where a change of password ends

-- no change of its account's password runs: each undeleted last version of the account carries its last set
abbrev pub IsFinished : Ideal → Bytes → Type 0
IsFinished s name = (d : Device) (a : Account) → HasAccount s name d a → CarriesLast a

-- behind a first row of exchanges that is brought to its end, with the first fates
pub record BehindFirst (server rows : Rows) (words : ChaCha) (acts : List Act) (fates : List Fate) : Type 0 where
  pub first : RowDone rows words acts
  pub met : List Fate
  pub others : List Fate
  pub fates_are : fates ≡ met ++ others

-- there
pub record EndsBehindFirst (runs : Type 0) (password : Bytes) (cost : ℕ) (server rows : Rows) (words : ChaCha) (acts : List Act) (fates : List Fate) (halt : Halt)
    : Type 0 where
  pub behind : BehindFirst server rows words acts fates
  -- the call is answered; or no change may begin, where another's runs still; or no request is left; or the server refuses the change; or its adoption is
  -- more than a batch; or the second row of exchanges isn't brought to its end
  pub ends :
      IsChanged password cost behind.first.behind.at behind.first.behind.later halt
      ⊎ (((owner : OwnerRow) × (sets : Sets) × HasSets behind.first.behind.at.rows owner sets × (why : ClientError) × runs
      × RefusesChange behind.first.behind.at.rows sets why × Refuses behind.first.behind.later halt why)
      ⊎ (((requests_in acts ≡ most_exchanges) × Refuses behind.first.behind.later halt refusal.RoundsUsed)
      ⊎ (RefusesIt runs password cost (rows_served server behind.met) behind.first.behind.at behind.first.behind.later behind.others halt
      ⊎ (IsTooLarge password cost behind.first.behind.at behind.first.behind.later halt
      ⊎ StopsLater (length behind.first.behind.rounds + 1) password cost (rows_served server behind.met) behind.first.behind.at behind.first.behind.later
      behind.others halt))))

-- there, or the cost isn't taken, or the first row of exchanges isn't brought to its end, or memory is wanting, or the device's disk fails in a commit. No
-- other end is there: no answer is refused at a check, none is lost, the server refuses nothing else, and no other commit is longer than a batch
abbrev pub PasswdEnds : Ideal → Bytes → ℕ → Bytes → ℕ → Rows → Rows → ChaCha → List Act → List Fate → Halt → Type 0
PasswdEnds s name least password cost server rows words acts fates halt =
    EndsBehindFirst (¬ (IsFinished s name)) password cost server rows words acts fates halt
    ⊎ ((IsBadCost least cost × Refuses acts halt (refusal.Cost cost)) ⊎ (StopsRow 0 server rows words acts fates halt
    ⊎ ((halt ≡ refused refusal.Memory) ⊎ ((what : What) × (changes : List Change) × (halt ≡ broken what changes)))))

-- ---- the law

-- so ends each change of password of a device that asks for no set, holds its account's last one, and has an account. Where no change of its account's
-- password runs before the call, none is found to run within it
abbrev pub ReadyPasswdsAnswer : Type 0
ReadyPasswdsAnswer = (secret : Bytes) (w : World) (s : Ideal) (name : Bytes) (owner : OwnerRow) (least : ℕ) (password : Bytes) (cost : ℕ) (words : ChaCha)
    (acts : List Act) (fates : List Fate) (halt : Halt) → TokensDiffer secret → Holds secret w s → IsReady w s name → HasOwner (w.devices name) owner
    → FitsDevices w → Run least (passwd password cost) (w.devices name) words acts halt → AreServed w.server acts fates → Each Arrives fates
    → PasswdEnds s name least password cost w.server (w.devices name) words acts fates halt

-- where it is answered, it makes as many requests as both rows have exchanges, and the one for the change
abbrev pub ChangeCounts : Type 0
ChangeCounts = (password : Bytes) (cost : ℕ) (server rows : Rows) (words : ChaCha) (acts : List Act) (fates : List Fate) (halt : Halt)
    → (x : BehindFirst server rows words acts fates) → (c : IsChanged password cost x.first.behind.at x.first.behind.later halt)
    → requests_in acts ≡ length x.first.behind.rounds + 1 + length c.second.behind.rounds

-- A round of a device's sync as steps of the world.
use Rattle.std.specs.Prelude.{◌≡◌, ℕ, List, [], ◌∷◌, ◌++◌, true, None}
use Rattle.sn_account.specs.Rule.{Rule}
use Rattle.sn_device.specs.Runs.{IsRound, Round, Standing}
use Rattle.sn_device.specs.Steps.{applies, posts}
use Rattle.sn_laws.specs.Lookups.{Bytes}
use Rattle.sn_laws.specs.declared.ideal.Ideal.{Ideal}
use Rattle.sn_laws.specs.declared.moves.Move.{Move}
use Rattle.sn_rows.specs.Table.{rows_after}
use Rattle.sn_rows.specs.declared.change.Change.{Change}
use Rattle.sn_sync.specs.Fits.{FitsRequest}
use Rattle.sn_sync.specs.declared.request.Request.{Request}
use Rattle.sn_world.specs.Happens.{Happens, Trace, commits, makes, serves}
use Rattle.sn_world.specs.Holds.{Holds, TokensDiffer}
use Rattle.sn_world.specs.World.{Made, World}

-- a device's request that begins no set
abbrev pub made_by : Bytes → Request → Made
made_by name r = record { device = name; request = r; begins = None }

-- the drafts that are posted, in one commit where there are any
abbrev pub posting_steps : Bytes → List ℕ → List Change → List Happens
posting_steps name [] posted = []
posting_steps name (number ∷ numbers) posted = commits name (posts (number ∷ numbers)) posted true ∷ []

-- they are posted, the request is made and served at this time, which changes this, and the answer is applied
abbrev pub round_steps : Bytes → Round → ℕ → List Change → List Happens
round_steps name round now changes =
    posting_steps name round.numbers round.posted
    ++ makes (made_by name round.request) ∷ serves (made_by name round.request) now changes round.given true
    ∷ commits name (applies round.request round.given) round.applied true ∷ []

-- the rows of the device and of the server are those after the round
pub record GoesRound (secret : Bytes) (w : World) (s : Ideal) (name : Bytes) (round : Round) (after : Standing) (now : ℕ) (changes : List Change) : Type 0 where
  pub moves : List Move
  pub next : World
  pub goes : Trace secret w s (round_steps name round now changes) moves next
  pub server : next.server ≡ rows_after w.server changes
  pub device : next.devices name ≡ after.rows

-- a round whose request is within its bounds, and that the server answers by its rule
abbrev pub RoundsGo : Type 0
RoundsGo = (secret : Bytes) (w : World) (s : Ideal) (name : Bytes) (at : Standing) (round : Round) (after : Standing) (now : ℕ) (changes : List Change)
    → TokensDiffer secret → Holds secret w s → FitsRequest round.request → w.devices name ≡ at.rows
    → IsRound at round after → Rule w.server round.request now changes round.given
    → GoesRound secret w s name round after now changes

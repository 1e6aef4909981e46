-- How a replay goes on as the records of the disks grow, event by event.
use Rattle.std.specs.Prelude.{◌≡◌, ℕ, ◌+◌, List, [], ◌∷◌, ◌++◌, length}
use Rattle.sn_laws.specs.Lookups.{Bytes}
use Rattle.sn_laws.specs.Runs.{Legal}
use Rattle.sn_laws.specs.declared.moves.Move.{Move}
use Rattle.sn_report.specs.declared.report.Event.{Event}
use Rattle.sn_script.specs.declared.script.Line.{Line}
use Rattle.sn_tail.specs.Shelves.{SlotGrows}
use Rattle.sn_world.specs.World.{World}
use Rattle.sn_course.specs.Stages.{Stage, Reported, past, reported, reporting}
use Rattle.sn_course.specs.Fits.{Fits}
use Rattle.sn_course.specs.Headline.{Goes, MovesCarry, Recounts, Recovers, Slots, moves_in}
use Rattle.sn_course.specs.Settings.{settings_after}
use Rattle.sn_course.specs.declared.settings.Settings.{Settings}

-- the record of each disk grew, or began
pub record Grow (old new : Slots) : Type 0 where
  pub server : SlotGrows old.server new.server
  pub devices : (name : Bytes) → SlotGrows (old.devices name) (new.devices name)

-- what was recounted stays so as the records grow
abbrev pub RecountsGrow : Type 0
RecountsGrow = (old new : Slots) (secret : Bytes) (c last : Stage) (rs : List Reported) (es : List Event)
    → Grow old new → Recounts old secret c rs es last → Recounts new secret c rs es last

-- and one more event goes on where the earlier ones led
abbrev pub RecountsMore : Type 0
RecountsMore = (slots : Slots) (secret : Bytes) (c last : Stage) (rs : List Reported) (es : List Event) (r : Reported) (e : Event) (next : World)
    → Recounts slots secret c rs es last → Fits secret last r e next → Recovers slots (past last r.asks e next)
    → Recounts slots secret c (rs ++ r ∷ []) (es ++ e ∷ []) (past last r.asks e next)

-- what is recounted goes on so, whatever the disks hold
abbrev pub RecountsGo : Type 0
RecountsGo = (slots : Slots) (secret : Bytes) (c last : Stage) (rs : List Reported) (es : List Event)
    → Recounts slots secret c rs es last → Goes secret c rs es last

-- and so with one more event
abbrev pub GoesMore : Type 0
GoesMore = (secret : Bytes) (c last : Stage) (rs : List Reported) (es : List Event) (r : Reported) (e : Event) (next : World)
    → Goes secret c rs es last → Fits secret last r e next → Goes secret c (rs ++ r ∷ []) (es ++ e ∷ []) (past last r.asks e next)

-- the settings behind lines
abbrev pub settings_behind : Settings → List Line → Settings
settings_behind settings [] = settings
settings_behind settings (l ∷ ls) = settings_behind (settings_after settings l) ls

-- one more line reports after the earlier ones
abbrev pub ReportingMore : Type 0
ReportingMore = (number : ℕ) (settings : Settings) (lines : List Line) (l : Line)
    → (reporting number settings (lines ++ l ∷ []) ≡ reporting number settings lines ++ reported (number + length lines) (settings_behind settings lines) l)
    × (settings_behind settings (lines ++ l ∷ []) ≡ settings_after (settings_behind settings lines) l)

-- the moves of events, with those of one more
abbrev pub MovesMore : Type 0
MovesMore = (es : List Event) (e : Event) → moves_in (es ++ e ∷ []) ≡ moves_in es ++ e.moves

-- legal moves carry what is said of them
abbrev pub CarriedOfMoves : Type 0
CarriedOfMoves = (moves : List Move) → Legal moves → MovesCarry moves

-- What holds of each commit and of each request of a line holds of each of its steps.
use Rattle.std.proofs.Common.{List, [], ◌∷◌, Bool, Option}
use Rattle.sn_device.specs.Runs.{Act, Halt, answered, asked, broken, commits as committed, refused}
use Rattle.sn_device.specs.Steps.{What}
use Rattle.sn_laws.specs.Each.{Each}
use Rattle.sn_laws.specs.Lookups.{Bytes}
use Rattle.sn_lines.proofs.RunSets.{IsHaltOf}
use Rattle.sn_string.specs.declared.params.KeySet.{KeySet}
use Rattle.sn_sync.specs.declared.request.Request.{Request}
use Rattle.sn_world.proofs.Facts.{each_both}
use Rattle.sn_world.specs.Calls.{Fate, call_steps, crashed, fate_steps, served, undelivered}
use Rattle.sn_world.specs.Happens.{Happens, commits, makes, serves, starts}
use Rattle.sn_world.specs.Sessions.{Line, again, calls, line_steps, opens, stops, with_end}
use Rattle.sn_world.specs.World.{Made}

module _ (P : What → Type 0) (M : Made → Type 0) where
  -- a commit is of such, and so is a request that is made
  abbrev pub IsStepOf : Happens → Type 0
  IsStepOf (starts changes stands) = Unit {0}
  IsStepOf (makes m) = M m
  IsStepOf (serves m now changes given stands) = Unit {0}
  IsStepOf (commits name what changes stands) = P what

  module _ (name : Bytes) (begins : Request → Option KeySet) where
    -- the same of an act of the device, whose requests begin these sets
    abbrev pub IsDoneOf : Act → Type 0
    IsDoneOf (committed what changes) = P what
    IsDoneOf (asked r reply) = M (record { device = name; request = r; begins = begins r })

    call_of : (acts : List Act) (fates : List Fate) → Each IsDoneOf acts → Each IsStepOf (call_steps name begins acts fates)
    call_of [] fates each = tt
    call_of (committed what changes ∷ acts) fates (one, each) = (one, call_of acts fates each)
    call_of (asked r reply ∷ acts) [] each = tt
    call_of (asked r reply ∷ acts) (undelivered ∷ fates) (one, each) = (one, call_of acts fates each)
    call_of (asked r reply ∷ acts) (served now changes given arrives ∷ fates) (one, each) = (one, (tt, call_of acts fates each))
    call_of (asked r reply ∷ acts) (crashed now changes given ∷ fates) (one, each) = (one, (tt, call_of acts fates each))

    end_of : (halt : Halt) (stands : Bool) (steps : List Happens) → IsHaltOf P halt → Each IsStepOf steps → Each IsStepOf (with_end name halt stands steps)
    end_of (answered given left) stands steps of each = each
    end_of (refused why) stands steps of each = each
    end_of (broken what changes) stands steps of each = each_both IsStepOf steps (commits name what changes stands ∷ []) each (of, tt)

  again_of : (m : Made) (fate : Fate) → Each IsStepOf (fate_steps m fate)
  again_of m undelivered = tt
  again_of m (served now changes given arrives) = (tt, tt)
  again_of m (crashed now changes given) = (tt, tt)

  -- of the acts of a line's call, and of the commit in which its disk fails
  abbrev pub IsLineOf : (Request → Option KeySet) → Line → Type 0
  IsLineOf begins (opens changes stands) = Unit {0}
  IsLineOf begins (calls name least call words acts fates halt stands) = Each (IsDoneOf name begins) acts × IsHaltOf P halt
  IsLineOf begins (stops name least call words front met) = Each (IsDoneOf name begins) front
  IsLineOf begins (again name r fate) = Unit {0}

  pub steps_of : (begins : Request → Option KeySet) (line : Line) → IsLineOf begins line → Each IsStepOf (line_steps begins line)
  steps_of begins (opens changes stands) of = (tt, tt)
  steps_of begins (calls name least call words acts fates halt stands) (each, last) =
      end_of name begins halt stands (call_steps name begins acts fates) last (call_of name begins acts fates each)
  steps_of begins (stops name least call words front met) each = call_of name begins front met each
  steps_of begins (again name r fate) of = again_of (record { device = name; request = r; begins = begins r }) fate

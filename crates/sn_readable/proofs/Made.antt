-- The requests that were ever made are readable, behind each line of the world.
use Rattle.std.proofs.Common.{◌≡◌, List, [], ◌∷◌, Bool, Option, sym, subst, inl, inr}
use Rattle.sn_device.specs.Runs.{Act, Halt, answered, asked, broken, commits as committed, refused}
use Rattle.sn_laws.specs.Each.{Each, One}
use Rattle.sn_link.specs.Laws.{AreReadable, IsReadable}
use Rattle.sn_string.specs.declared.params.KeySet.{KeySet}
use Rattle.sn_sync.specs.Members.{Bytes}
use Rattle.sn_sync.specs.declared.request.Request.{Request}
use Rattle.sn_world.proofs.Facts.{each_both}
use Rattle.sn_world.specs.Calls.{Fate, call_steps, crashed, fate_steps, served, undelivered}
use Rattle.sn_world.specs.Happens.{Happens, commits, makes, serves, starts}
use Rattle.sn_world.specs.Sessions.{Line, again, calls, line_steps, made_behind, opens, stops, with_end}
use Rattle.sn_world.specs.World.{Made}
use Rattle.sn_readable.specs.Laws.{AreMadeReadable, IsReadableLine, MadeAreReadable, MadeStayReadable}

module _ (host : Bytes) where
  abbrev IsGood : Made → Type 0
  IsGood m = IsReadable host m.request

  -- a request that a step makes
  abbrev MakesGood : Happens → Type 0
  MakesGood (starts changes stands) = Unit {0}
  MakesGood (makes m) = IsGood m
  MakesGood (serves m now changes given stands) = Unit {0}
  MakesGood (commits name what changes stands) = Unit {0}

  made_good : (made : List Made) (steps : List Happens) → Each IsGood made → Each MakesGood steps → Each IsGood (made_behind made steps)
  made_good made [] good each = good
  made_good made (starts changes stands ∷ steps) good each = made_good made steps good each.1
  made_good made (makes m ∷ steps) good each = made_good (m ∷ made) steps (each.0, good) each.1
  made_good made (serves m now changes given stands ∷ steps) good each = made_good made steps good each.1
  made_good made (commits name what changes stands ∷ steps) good each = made_good made steps good each.1

  fate_good : (m : Made) (fate : Fate) → Each MakesGood (fate_steps m fate)
  fate_good m undelivered = tt
  fate_good m (served now changes given arrives) = (tt, tt)
  fate_good m (crashed now changes given) = (tt, tt)

  call_good : (name : Bytes) (begins : Request → Option KeySet) (acts : List Act) (fates : List Fate) → AreReadable host acts
      → Each MakesGood (call_steps name begins acts fates)
  call_good name begins [] fates readable = tt
  call_good name begins (committed what changes ∷ acts) fates readable = (tt, call_good name begins acts fates readable)
  call_good name begins (asked r reply ∷ acts) [] readable = tt
  call_good name begins (asked r reply ∷ acts) (fate ∷ fates) (one, rest) = (
    one,
    each_both MakesGood (fate_steps (record { device = name; request = r; begins = begins r }) fate) (call_steps name begins acts fates)
        (fate_good (record { device = name; request = r; begins = begins r }) fate) (call_good name begins acts fates rest),
  )

  end_good : (name : Bytes) (halt : Halt) (stands : Bool) (steps : List Happens) → Each MakesGood steps → Each MakesGood (with_end name halt stands steps)
  end_good name (answered given left) stands steps each = each
  end_good name (refused why) stands steps each = each
  end_good name (broken what changes) stands steps each = each_both MakesGood steps (commits name what changes stands ∷ []) each (tt, tt)

  line_good : (begins : Request → Option KeySet) (line : Line) → IsReadableLine host line → Each MakesGood (line_steps begins line)
  line_good begins (opens changes stands) readable = (tt, tt)
  line_good begins (calls name least call words acts fates halt stands) readable =
      end_good name halt stands (call_steps name begins acts fates) (call_good name begins acts fates readable)
  line_good begins (stops name least call words front met) readable = call_good name begins front met readable
  line_good begins (again name r fate) readable = fate_good (record { device = name; request = r; begins = begins r }) fate

  one_good : (made : List Made) (m : Made) → Each IsGood made → One (λ x. x ≡ m) made → IsGood m
  one_good [] m good among = absurd among
  one_good (x ∷ made) m good (inl here) = subst IsGood here good.0
  one_good (x ∷ made) m good (inr behind) = one_good made m good.1 behind

pub made_stay_readable : MadeStayReadable
made_stay_readable host secret w s line x readable good =
    subst (AreMadeReadable host) (sym x.made_is) (made_good host w.made (line_steps x.begins line) good (line_good host x.begins line readable))

pub made_are_readable : MadeAreReadable
made_are_readable host w m good among = one_good host w.made m good among

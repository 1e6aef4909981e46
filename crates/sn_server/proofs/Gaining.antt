-- What a sink gained in a session.
use Rattle.std.specs.Prelude.{◌++◌, ℕ, List, [], ◌∷◌, take}
use Rattle.std.specs.Io.KnownBytes.{Appends}
use Rattle.std.proofs.Common.{⊎_elim, inl, inr, refl, sym, ◌∙◌, subst, append-nil, length-append}
use Rattle.std.proofs.KnownBytes.{Appends-trans}
use Rattle.sn_rows.specs.declared.change.Change.{Change}
use Rattle.sn_server.specs.CheckBodies.{check_bytes}
use Rattle.sn_server.specs.Gaining.{HasGained, Tail}
use Rattle.sn_server.specs.Replies.{reply_bytes}
use Rattle.sn_server.specs.Sessions.{HasRun, SessionEnds}
use Rattle.sn_server.specs.Steps.{Step, AreSteps, World, answers_of}
use Rattle.sn_server.specs.Stores.{Kept}
use Rattle.sn_server.specs.declared.serving.Ended.TheVariants.{End, Broken, Budget, ReadFault, WriteFault, Memory}
use Rattle.sn_server.specs.declared.serving.Session.{Session}
use Rattle.sn_server.specs.declared.serving.Session.TheVariants.{Over, Broken as IsBroken}
use Rattle.sn_server.proofs.Running.{serves_more}

module _ {S D : Type 0} (kept : Kept) (a : World) where
  -- the answers of a run, and then these bytes
  behind : (mid now : World) (steps : List Step) (more : List ℕ) (result : Session S D) → HasRun kept steps a mid → Appends mid.held now.held more → Tail kept steps result more → HasGained kept a.held now.held result
  behind mid now steps more result run written tail = record {
    steps = steps;
    more = more;
    are = run.serves.are;
    tail = tail;
    gained = Appends-trans a.held mid.held now.held (answers_of steps) more run.serves.written written;
  }

  -- just the answers of a run
  just : (now : World) (steps : List Step) (result : Session S D) → AreSteps kept steps → Appends a.held now.held (answers_of steps) → Tail kept steps result [] → HasGained kept a.held now.held result
  just now steps result are written tail = record { steps = steps; more = []; are = are; tail = tail; gained = subst (Appends a.held now.held) (sym (append-nil (answers_of steps))) written }

pub session_gains : {S D : Type 0} (is_open : S → Kept → Type 0) (may_have : D → Kept → List Change → Type 0) (kept : Kept) (budget : ℕ) (a now : World) (result : Session S D)
    → SessionEnds is_open may_have kept budget a now result → HasGained kept a.held now.held result
session_gains is_open may_have kept budget a now (Over server Budget count) (steps, run, is, whole, stands) = just kept a now steps _ run.serves.are run.serves.written (refl, is)
session_gains is_open may_have kept budget a now (Over server End count) (mid, steps, how) =
    ⊎_elim
    (λ idle. behind kept a mid now steps [] _ idle.1.run idle.1.ends.1.silent (refl, idle.0))
    (λ last. let all = serves_more kept steps last.1.ends.0 a mid now last.1.run.serves last.1.ends.1 in
    just kept a now (steps ++ last.1.ends.0 ∷ []) _ all.are all.written (refl, last.0 ∙ sym (length-append steps (last.1.ends.0 ∷ [])))) how
session_gains is_open may_have kept budget a now (Over server (Broken place) count) (mid, steps, is, how) =
    behind kept a mid now steps (check_bytes how.ends.0) _ how.run how.ends.2 (is, (how.ends.0, refl))
session_gains is_open may_have kept budget a now (Over server ReadFault count) (mid, steps, is, how) = behind kept a mid now steps [] _ how.run how.ends.1.silent (refl, is)
session_gains is_open may_have kept budget a now (Over server Memory count) (mid, steps, is, how) = behind kept a mid now steps [] _ how.run how.ends.silent (refl, is)
session_gains is_open may_have kept budget a now (Over server WriteFault count) (mid, steps, is, how) =
    ⊎_elim
    (λ message. let cut = message.2 in
    behind kept a mid now steps (take cut.part.0 (reply_bytes cut.reply)) _ how.run cut.part.2
    (is, (reply_bytes cut.reply, cut.part.0, inl (message.0, cut.now, cut.made, cut.reply, cut.rule, refl), cut.part.1, refl)))
    (λ check. let part = check.2 in
    behind kept a mid now steps (take part.0 (check_bytes check.0)) _ how.run part.2
    (is, (check_bytes check.0, part.0, inr (check.0, refl), part.1, refl))) how.ends.1
session_gains is_open may_have kept budget a now (IsBroken disk) (mid, steps, how) = behind kept a mid now steps [] _ how.run how.ends.2.silent refl

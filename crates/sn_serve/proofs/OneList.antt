-- The messages of connections in one list.
use Rattle.std.proofs.Common.{◌≡◌, ◌⊎◌, ℕ, List, [], ◌∷◌, ◌++◌, inl, inr, refl, sym, subst}
use Rattle.sn_disk.specs.declared.disk.Disk.{Ghosts}
use Rattle.sn_http.specs.declared.message.Message.{Message}
use Rattle.sn_io.specs.Streams.{TakesPart}
use Rattle.sn_server.specs.CheckBodies.{check_bytes}
use Rattle.sn_server.specs.Sessions.{Fails, IsCut, Reads, SessionEnds}
use Rattle.sn_server.specs.Steps.{Step, AreSteps, World, after_all, world}
use Rattle.sn_server.specs.Stores.{Kept, IsOpen, MayHave, after}
use Rattle.sn_server.specs.declared.serving.Ended.{Ended}
use Rattle.sn_server.specs.declared.serving.Ended.TheVariants.{End, Broken, Budget, ReadFault, WriteFault, Memory}
use Rattle.sn_server.specs.declared.server.Server.{Server}
use Rattle.sn_server.specs.declared.serving.Session.{Session}
use Rattle.sn_server.specs.declared.serving.Session.TheVariants.{Over}
use Rattle.sn_serve.specs.Visits.{Stand, Visit, AreVisits}

pub steps_on : (kept : Kept) (steps more : List Step) → AreSteps kept steps → AreSteps (after_all kept steps) more → AreSteps kept (steps ++ more)
steps_on kept [] more are on = on
steps_on kept (step ∷ steps) more are on = (are.0, steps_on (after kept step.made) steps more are.1 on)

pub after_on : (kept : Kept) (steps more : List Step) → after_all kept (steps ++ more) ≡ after_all (after_all kept steps) more
after_on kept [] more = refl
after_on kept (step ∷ steps) more = after_on (after kept step.made) steps more

module _ {D : Type 0} {g : Ghosts D} where
  -- messages with which these rows become what a server has
  abbrev pub Leads : Kept → Server D g → Type 0
  Leads kept server = (steps : List Step) × AreSteps kept steps × IsOpen server (after_all kept steps)

  pub on : (kept : Kept) (steps more : List Step) (server : Server D g) → AreSteps kept steps → AreSteps (after_all kept steps) more
      → IsOpen server (after_all (after_all kept steps) more) → Leads kept server
  on kept steps more server are next stands =
      (steps ++ more, steps_on kept steps more are next, subst (λ (k : Kept). IsOpen server k) (sym (after_on kept steps more)) stands)

  -- A sink failed behind these messages: in the answer to one more, which stands, or in that to a failing check.
  of_fault : (kept : Kept) (steps : List Step) (a b : World) (server : Server D g) → AreSteps kept steps
      → (((message : Message) × Reads a b message × IsCut {S = Server D g} {D = D} IsOpen (MayHave g.told g.may_leave) (after_all kept steps) message a b server)
      ⊎ ((status : ℕ) × Fails {S = Server D g} {D = D} IsOpen (MayHave g.told g.may_leave) (after_all kept steps) a b server status × TakesPart a.held b.held (check_bytes status)))
      → Leads kept server
  of_fault kept steps a b server are (inl (message, reads, cut)) =
      let step : Step = record { bytes = reads.bytes; message = message; now = cut.now; made = cut.made; reply = cut.reply } in
      on kept steps (step ∷ []) server are (record { message = reads.is; rule = cut.rule }, tt) cut.stands
  of_fault kept steps a b server are (inr (status, fails, part)) = (steps, are, fails.stands)

  -- the messages of a session that is over
  pub of_session : (kept : Kept) (budget : ℕ) (a b : World) (server : Server D g) (how : Ended) (count : ℕ)
      → SessionEnds {S = Server D g} {D = D} IsOpen (MayHave g.told g.may_leave) kept budget a b (Over server how count) → Leads kept server
  of_session kept budget a b server Budget count (steps, run, length_is, budget_is, stands) = (steps, run.serves.are, stands)
  of_session kept budget a b server End count (mid, steps, inl (length_is, ends)) = (steps, ends.run.serves.are, ends.ends.1.stands)
  of_session kept budget a b server End count (mid, steps, inr (length_is, ends)) =
      on kept steps (ends.ends.0 ∷ []) server ends.run.serves.are ends.ends.1.are ends.ends.2
  of_session kept budget a b server (Broken place) count (mid, steps, length_is, ends) = (steps, ends.run.serves.are, ends.ends.1.stands)
  of_session kept budget a b server ReadFault count (mid, steps, length_is, ends) = (steps, ends.run.serves.are, ends.ends.1.stands)
  of_session kept budget a b server Memory count (mid, steps, length_is, ends) = (steps, ends.run.serves.are, ends.ends.stands)
  of_session kept budget a b server WriteFault count (mid, steps, length_is, ends) = of_fault kept steps mid b server ends.run.serves.are ends.ends.1

  pub one_list : (from to : Stand D g) (visits : List (Visit D g)) (kept : Kept) → AreVisits from visits to → IsOpen from.server kept → Leads kept to.server
  one_list from to [] kept same stands = ([], tt, subst (λ (s : Stand D g). IsOpen s.server kept) same stands)
  one_list from to (v ∷ visits) kept (is, next, left, rest) stands =
      let met : IsOpen v.server kept = subst (λ (s : Server D g). IsOpen s kept) (sym is.server) stands in
      let (place, unread, ends) = is.ends kept met in
      let before = world v.before.left v.before.held v.before.given 0 v.before.reads v.before.writes in
      let after = world unread v.after.held v.after.given place v.after.reads v.after.writes in
      let first : Leads kept next.server = of_session kept v.budget before after next.server left.how left.count
      (subst (λ (s : Session (Server D g) D). SessionEnds {S = Server D g} {D = D} IsOpen (MayHave g.told g.may_leave) kept v.budget before after s) left.over ends) in
      let more : Leads (after_all kept first.0) to.server = one_list next to visits (after_all kept first.0) rest first.2 in
      on kept first.0 more.0 to.server first.1 more.1 more.2

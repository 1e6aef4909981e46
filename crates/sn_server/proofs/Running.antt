-- How a session goes on by one message, and how one message ends.
use Rattle.std.specs.Prelude.{◌≡◌, ◌++◌, ℕ, ◌+◌, ◌-◌, ◌^◌, ◌≤◌, min, false, List, [], ◌∷◌, length, map}
use Rattle.std.specs.declared.option.Option.{Option}
use Rattle.std.specs.Io.KnownBytes.{Appends, Consumes}
use Rattle.std.proofs.Common.{inl, refl, sym, ◌∙◌, ap, subst, arith, append-nil}
use Rattle.std.proofs.KnownBytes.{Appends-trans, Consumes-trans, Appends-nil, Consumes-nil}
use Rattle.sn_http.specs.declared.message.Message.{Message}
use Rattle.std.proofs.lemmas.Grind.{flat_map-append}
use Rattle.sn_rows.specs.declared.change.Change.{Change}
use Rattle.sn_server.specs.Replies.{reply_bytes}
use Rattle.sn_server.specs.Sessions.{Reads, OneEnds, HasRun, SessionEnds}
use Rattle.sn_server.specs.Steps.{GainsEach, Step, IsStep, AreSteps, AreGoing, Serves, World, after_all, place_after, step_bytes, step_answer, step_now}
use Rattle.sn_server.specs.Stores.{Kept, after}
use Rattle.sn_server.specs.Messages.{MessageEnds}
use Rattle.sn_server.specs.declared.serving.Ended.{Ended}
use Rattle.sn_server.specs.declared.serving.Ended.TheVariants.{End, Broken, Budget, ReadFault, WriteFault, Memory}
use Rattle.sn_server.specs.declared.serving.One.{One}
use Rattle.sn_server.specs.declared.serving.One.TheVariants.{Served, Checked, Over, Lost}
use Rattle.sn_server.specs.declared.serving.Session.TheVariants.{Over as IsOver}

map_append : {A B : Type 0} (f : A → B) (xs ys : List A) → map f (xs ++ ys) ≡ map f xs ++ map f ys
map_append f [] ys = refl
map_append f (x ∷ xs) ys = ap (λ l. f x ∷ l) (map_append f xs ys)

gains_more : (a b c : Option (List ℕ)) (xs ys : List ℕ) → GainsEach a b xs → GainsEach b c ys → GainsEach a c (xs ++ ys)
gains_more a b c [] ys x y = subst (λ (o : Option (List ℕ)). GainsEach o c ys) (sym x) y
gains_more a b c (v ∷ xs) ys x y = (x.0, x.1, gains_more x.0 b c xs ys x.2 y)

steps_more : (kept : Kept) (steps : List Step) (step : Step) → AreSteps kept steps → IsStep (after_all kept steps).rows step → AreSteps kept (steps ++ step ∷ [])
steps_more kept [] step are is = (is, tt)
steps_more kept (s ∷ steps) step are is = (are.0, steps_more (after kept s.made) steps step are.1 is)

going_more : (steps : List Step) (step : Step) → AreGoing steps → step.message.closing ≡ false → AreGoing (steps ++ step ∷ [])
going_more [] step are is = (is, tt)
going_more (s ∷ steps) step are is = (are.0, going_more steps step are.1 is)

place_more : (place : ℕ) (steps : List Step) (step : Step) → place_after place (steps ++ step ∷ []) ≡ min (place_after place steps + length step.bytes) (2 ^ 64 - 1)
place_more place [] step = refl
place_more place (s ∷ steps) step = place_more (min (place + length s.bytes) (2 ^ 64 - 1)) steps step

pub all_more : (kept : Kept) (steps : List Step) (step : Step) → after_all kept (steps ++ step ∷ []) ≡ after (after_all kept steps) step.made
all_more kept [] step = refl
all_more kept (s ∷ steps) step = all_more (after kept s.made) steps step

pub serves_more : (kept : Kept) (steps : List Step) (step : Step) (a b c : World) → Serves kept steps a b → Serves (after_all kept steps) (step ∷ []) b c → Serves kept (steps ++ step ∷ []) a c
serves_more kept steps step a b c x y = record {
  are = steps_more kept steps step x.are y.are.0;
  taken = subst (Consumes a.left c.left) (sym (flat_map-append step_bytes steps (step ∷ []))) (Consumes-trans a.left b.left c.left _ _ x.taken y.taken);
  written = subst (Appends a.held c.held) (sym (flat_map-append step_answer steps (step ∷ []))) (Appends-trans a.held b.held c.held _ _ x.written y.written);
  clock = subst (GainsEach a.given c.given) (sym (map_append step_now steps (step ∷ []))) (gains_more a.given b.given c.given _ _ x.clock y.clock);
  place = y.place ∙ ap (λ (p : ℕ). min (p + length step.bytes) (2 ^ 64 - 1)) x.place ∙ sym (place_more a.place steps step);
  reads = omega (arith, x.reads, y.reads);
  writes = omega (arith, x.writes, y.writes);
}

pub run_more : (kept : Kept) (steps : List Step) (step : Step) (a b c : World) → HasRun kept steps a b → Serves (after_all kept steps) (step ∷ []) b c → step.message.closing ≡ false → HasRun kept (steps ++ step ∷ []) a c
run_more kept steps step a b c x y going = record { serves = serves_more kept steps step a b c x.serves y; going = going_more steps step x.going going }

pub run_none : (kept : Kept) (a : World) → HasRun kept [] a a
run_none kept a = record {
  serves = record { are = tt; taken = Consumes-nil a.left; written = Appends-nil a.held; clock = refl; place = refl; reads = omega arith; writes = omega arith };
  going = tt;
}

module _ {S D : Type 0} (is_open : S → Kept → Type 0) (may_have : D → Kept → List Change → Type 0) where
  -- a message that was read, with how it was served
  pub one_ends : (kept : Kept) (message : Message) (a b : World) (one : One S D) (read : Reads a b message) → b.place ≡ min (a.place + length read.bytes) (2 ^ 64 - 1) → a.reads ≤ b.reads → a.writes ≤ b.writes
      → MessageEnds is_open may_have kept message a.held b.held a.given b.given a.writes b.writes one → OneEnds is_open may_have kept a b one
  one_ends kept message a b (Served server closing) read place reads writes (now, made, reply, rule, stands, written, clock, closes) =
      let step : Step = record { bytes = read.bytes; message = message; now = now; made = made; reply = reply } in (
        step,
        record {
          are = (record { message = read.is; rule = rule }, tt);
          taken = subst (Consumes a.left b.left) (sym (append-nil read.bytes)) read.taken;
          written = subst (Appends a.held b.held) (sym (append-nil (reply_bytes reply))) written;
          clock = (b.given, clock, refl);
          place = place;
          reads = reads;
          writes = writes;
        },
        stands,
        closes,
      )
  one_ends kept message a b (Checked server at) read place reads writes ends = absurd ends
  one_ends kept message a b (Over server End) read place reads writes ends = absurd ends
  one_ends kept message a b (Over server (Broken at)) read place reads writes ends = absurd ends
  one_ends kept message a b (Over server Budget) read place reads writes ends = absurd ends
  one_ends kept message a b (Over server ReadFault) read place reads writes ends = absurd ends
  one_ends kept message a b (Over server Memory) read place reads writes ends = absurd ends
  one_ends kept message a b (Over server WriteFault) read place reads writes (rose, (now, made, reply, rule, stands, part, clock)) =
      (rose, inl (message, read, record { now = now; made = made; reply = reply; rule = rule; stands = stands; part = part; clock = clock }))
  one_ends kept message a b (Lost disk) read place reads writes (now, made, reply, rule, either, silent, clock) =
      (message, read, record { now = now; made = made; reply = reply; rule = rule; either = either; silent = silent; clock = clock })

  pub over_ends : (kept : Kept) (budget : ℕ) (a b c : World) (steps : List Step) (server : S) (ended : Ended) (count : ℕ) → HasRun kept steps a b → count ≡ length steps
      → OneEnds is_open may_have (after_all kept steps) b c (Over server ended) → SessionEnds is_open may_have kept budget a c (IsOver server ended count)
  over_ends kept budget a b c steps server End count run is ends = (b, steps, inl (is, record { run = run; ends = ends }))
  over_ends kept budget a b c steps server (Broken place) count run is ends = absurd ends
  over_ends kept budget a b c steps server Budget count run is ends = absurd ends
  over_ends kept budget a b c steps server ReadFault count run is ends = (b, steps, is, record { run = run; ends = ends })
  over_ends kept budget a b c steps server WriteFault count run is ends = (b, steps, is, record { run = run; ends = ends })
  over_ends kept budget a b c steps server Memory count run is ends = (b, steps, is, record { run = run; ends = ends })

-- What a session of one message does with the bytes that are delivered.
use Rattle.std.specs.Prelude.{◌≡◌, ◌++◌, ℕ, ◌+◌, ◌^◌, ◌<◌, ◌≤◌, List, [], ◌∷◌, length, map, Option, Some, None}
use Rattle.std.specs.Io.KnownBytes.{Appends, Consumes}
use Rattle.std.proofs.Common.{inl, inr, refl, sym, ◌∙◌, ap, subst, arith, append-nil, append_assoc, length-append}
use Rattle.std.proofs.lemmas.Grind.{flat_map-append}
use Rattle.sn_http.proofs.Facts.{none_in_nothing}
use Rattle.sn_http.specs.Messages.{IsCheck, IsMessage, OfTold}
use Rattle.sn_http.specs.declared.message.Message.{Message}
use Rattle.sn_io.specs.Streams.{Gains}
use Rattle.sn_rows.specs.declared.change.Change.{Change}
use Rattle.sn_server.proofs.Facts.{all_more, serves_more}
use Rattle.sn_server.specs.CheckBodies.{check_bytes}
use Rattle.sn_server.specs.Sessions.{IsCut, Reads, SessionEnds}
use Rattle.sn_server.specs.Steps.{AreSteps, GainsEach, IsStep, Serves, Step, World, after_all, answers_of, bytes_of, step_answer, step_bytes, step_now, world}
use Rattle.sn_server.specs.Stores.{Kept, after}
use Rattle.sn_server.specs.declared.serving.Ended.{Ended}
use Rattle.sn_server.specs.declared.serving.Ended.TheVariants.{End, Broken, Budget, ReadFault, WriteFault, Memory}
use Rattle.sn_server.specs.declared.serving.Session.TheVariants.{Over, Broken as IsBroken}
use Rattle.sn_link.specs.Clocks.{still_times}
use Rattle.sn_link.specs.Deliveries.{AreAt, AreServed, Delivers, Fails, IsReplied, given_by, serves}
use Rattle.sn_link.proofs.Still.{AllAre, given_still}

-- ---- messages

-- a message has bytes
pub message_some : (bytes : List ℕ) (message : Message) → IsMessage bytes message → 0 < length bytes
message_some [] message x = absurd (none_in_nothing [] x.head message.body x.begins)
message_some (b ∷ bytes) message x = omega arith

steps_short : (kept : Kept) (steps : List Step) → AreSteps kept steps → length steps ≤ length (bytes_of steps)
steps_short kept [] are = omega arith
steps_short kept (step ∷ steps) are =
    omega (arith, message_some step.bytes step.message are.0.message, steps_short (after kept step.made) steps are.1, length-append step.bytes (bytes_of steps))

map_append : {A B : Type 0} (f : A → B) (xs ys : List A) → map f (xs ++ ys) ≡ map f xs ++ map f ys
map_append f [] ys = refl
map_append f (x ∷ xs) ys = ap (λ l. f x ∷ l) (map_append f xs ys)

map_length : {A B : Type 0} (f : A → B) (xs : List A) → length (map f xs) ≡ length xs
map_length f [] = refl
map_length f (x ∷ xs) = omega (arith, map_length f xs)

gains_more : (a b c : Option (List ℕ)) (xs ys : List ℕ) → GainsEach a b xs → GainsEach b c ys → GainsEach a c (xs ++ ys)
gains_more a b c [] ys x y = subst (λ (o : Option (List ℕ)). GainsEach o c ys) (sym x) y
gains_more a b c (v ∷ xs) ys x y = (x.0, x.1, gains_more x.0 b c xs ys x.2 y)

steps_more : (kept : Kept) (steps : List Step) (step : Step) → AreSteps kept steps → IsStep (after_all kept steps).rows step → AreSteps kept (steps ++ step ∷ [])
steps_more kept [] step are is = (is, tt)
steps_more kept (s ∷ steps) step are is = (are.0, steps_more (after kept s.made) steps step are.1 is)

at_each : (now : ℕ) (steps : List Step) → AllAre now (map step_now steps) → AreAt now steps
at_each now [] are = tt
at_each now (step ∷ steps) are = (are.0, at_each now steps are.1)

at_parts : (now : ℕ) (steps : List Step) (step : Step) → AreAt now (steps ++ step ∷ []) → AreAt now steps × (step.now ≡ now)
at_parts now [] step at = (tt, at.0)
at_parts now (s ∷ steps) step at = let rest = at_parts now steps step at.1 in ((at.0, rest.0), rest.1)

-- ---- a run from the beginning on

-- a source with these bytes, an empty sink, and a clock that gave its moment once
abbrev pub before : List ℕ → ℕ → ℕ → ℕ → World
before bytes now reads writes = world (Some bytes) (Some []) (Some (now ∷ [])) 0 reads writes

record Ran (now : ℕ) (kept : Kept) (bytes : List ℕ) (steps : List Step) (mid : World) : Type 0 where
  rest : List ℕ
  left_is : mid.left ≡ Some rest
  front : bytes ≡ bytes_of steps ++ rest
  held_is : mid.held ≡ Some (answers_of steps)
  clock : GainsEach (Some (now ∷ [])) mid.given (map step_now steps)
  are : AreSteps kept steps

consumed : (bytes front : List ℕ) (left : Option (List ℕ)) → Consumes (Some bytes) left front → (rest : List ℕ) × (left ≡ Some rest) × (bytes ≡ front ++ rest)
consumed bytes front None is = absurd is
consumed bytes front (Some rest) is = (rest, refl, is)

appended : (old more : List ℕ) (held : Option (List ℕ)) → Appends (Some old) held more → held ≡ Some (old ++ more)
appended old more None is = absurd is
appended old more (Some now) is = ap (λ (l : List ℕ). Some l) is

same_some : (a b : List ℕ) → Some a ≡ Some b → a ≡ b
same_some a b is = cc

ran : (now : ℕ) (kept : Kept) (bytes : List ℕ) (reads writes : ℕ) (steps : List Step) (mid : World) → Serves kept steps (before bytes now reads writes) mid → Ran now kept bytes steps mid
ran now kept bytes reads writes steps mid x =
    let (rest, left_is, front) = consumed bytes (bytes_of steps) mid.left x.taken in
    record { rest = rest; left_is = left_is; front = front; held_is = appended [] (answers_of steps) mid.held x.written; clock = x.clock; are = x.are }

-- each message of a run is served at the clock's moment
at_run : (now moment n : ℕ) (steps : List Step) (last : Option (List ℕ)) → last ≡ still_times moment n → length steps < 2 ^ 63 + 2 ^ 62
    → GainsEach (Some (now ∷ [])) last (map step_now steps) → AreAt now steps
at_run now moment n steps last is small gains =
    at_each now steps (given_still moment n now (map step_now steps) (omega (arith, small, map_length step_now steps))
    (subst (λ (o : Option (List ℕ)). GainsEach (Some (now ∷ [])) o (map step_now steps)) is gains))

ran_served : (now moment n : ℕ) (kept : Kept) (bytes : List ℕ) (steps : List Step) (mid : World) (x : Ran now kept bytes steps mid)
    → mid.given ≡ still_times moment n → length steps < 2 ^ 63 + 2 ^ 62 → AreServed now kept bytes steps x.rest
ran_served now moment n kept bytes steps mid x is small = record { are = x.are; front = x.front; at = at_run now moment n steps mid.given is small x.clock }

-- what is written behind a run
held_behind : (mid_held : Option (List ℕ)) (written more held : List ℕ) → mid_held ≡ Some written → Appends mid_held (Some held) more → held ≡ written ++ more
held_behind mid_held written more held is x = subst (λ (o : Option (List ℕ)). Appends o (Some held) more) is x

pub begins : (bytes : List ℕ) (now reads writes : ℕ) (source sink : List ℕ) (clock : Option (List ℕ)) → source ≡ bytes → sink ≡ [] → clock ≡ Some (now ∷ [])
    → world (Some source) (Some sink) clock 0 reads writes ≡ before bytes now reads writes
begins bytes now reads writes source sink clock source_is sink_is clock_is =
    ap (λ (l : List ℕ). world (Some l) (Some sink) clock 0 reads writes) source_is
    ∙ ap (λ (l : List ℕ). world (Some bytes) (Some l) clock 0 reads writes) sink_is
    ∙ ap (λ (o : Option (List ℕ)). world (Some bytes) (Some []) o 0 reads writes) clock_is

-- ---- how it ends

replied : (now : ℕ) (kept : Kept) (bytes held : List ℕ) (steps : List Step) (rest : List ℕ) → AreServed now kept bytes steps rest → length steps ≡ 1
    → held ≡ answers_of steps → IsReplied now kept bytes held (after_all kept steps)
replied now kept bytes held [] rest x one is = absurd (omega (arith, one))
replied now kept bytes held (step ∷ []) rest x one is = record { step = step; rest = rest; served = x; given_is = is ∙ append-nil (step_answer step); next_is = refl }
replied now kept bytes held (step ∷ other ∷ steps) rest x one is = absurd (omega (arith, one))

-- the input is over behind one message at most
over_at_end : (now : ℕ) (kept : Kept) (bytes held : List ℕ) (steps : List Step) (rest : List ℕ) → AreServed now kept bytes steps rest → length steps ≤ 1
    → rest ≡ [] → held ≡ answers_of steps → Delivers now kept bytes (Some held) (serves (after_all kept steps))
over_at_end now kept bytes held [] rest x few none is = inr (refl, inr (x.front ∙ none, is))
over_at_end now kept bytes held (step ∷ steps) rest x few none is = inl (replied now kept bytes held (step ∷ steps) rest x (omega (arith, few)) is)

-- a check of all bytes fails
over_at_check : (now : ℕ) (kept : Kept) (bytes held : List ℕ) (status : ℕ) (steps : List Step) (mid : World) (x : Ran now kept bytes steps mid) → length steps ≡ 0
    → OfTold mid.left (IsCheck status) → held ≡ answers_of steps ++ check_bytes status → Delivers now kept bytes (Some held) (serves (after_all kept steps))
over_at_check now kept bytes held status [] mid x none check is =
    let of_rest : IsCheck status x.rest = subst (λ (o : Option (List ℕ)). OfTold o (IsCheck status)) x.left_is check in
    inr (refl, inl (status, subst (IsCheck status) (sym x.front) of_rest, is))
over_at_check now kept bytes held status (step ∷ steps) mid x none check is = absurd (omega (arith, none))

-- one message more was read behind a run
ran_more : (now moment n : ℕ) (kept : Kept) (bytes : List ℕ) (steps : List Step) (mid : World) (left last : Option (List ℕ)) (x : Ran now kept bytes steps mid) (step : Step)
    → IsStep (after_all kept steps).rows step → Consumes mid.left left step.bytes → Gains mid.given last step.now → last ≡ still_times moment n → length steps < 2 ^ 63
    → (rest : List ℕ) × (x.rest ≡ step.bytes ++ rest) × AreServed now kept bytes (steps ++ step ∷ []) rest
ran_more now moment n kept bytes steps mid left last x step is taken clock given small =
    let (rest, left_is, split) = consumed x.rest step.bytes left (subst (λ (o : Option (List ℕ)). Consumes o left step.bytes) x.left_is taken) in
    let gains : GainsEach (Some (now ∷ [])) last (map step_now (steps ++ step ∷ [])) =
    subst (GainsEach (Some (now ∷ [])) last) (sym (map_append step_now steps (step ∷ []))) (gains_more (Some (now ∷ [])) mid.given last (map step_now steps) (step.now ∷ []) x.clock (last, clock, refl)) in (
      rest,
      split,
      record {
        are = steps_more kept steps step x.are is;
        front = x.front ∙ ap (λ (l : List ℕ). bytes_of steps ++ l) split ∙ sym (append_assoc (bytes_of steps) step.bytes rest)
            ∙ ap (λ (l : List ℕ). (bytes_of steps ++ l) ++ rest) (sym (append-nil step.bytes))
            ∙ ap (λ (l : List ℕ). l ++ rest) (sym (flat_map-append step_bytes steps (step ∷ [])));
        at = at_run now moment n (steps ++ step ∷ []) last given (omega (arith, small, length-append steps (step ∷ []))) gains;
      },
    )

module _ {S D : Type 0} (is_open : S → Kept → Type 0) (may_have : D → Kept → List Change → Type 0) (kept : Kept) (now : ℕ) (bytes : List ℕ) (reads writes : ℕ)
    (left : Option (List ℕ)) (held : List ℕ) (moment n place reads_after writes_after : ℕ) where
  -- the server is open behind it, with what was served, and the answer is what was written
  abbrev pub OverEnds : S → Ended → Type 0
  OverEnds server ended = (next : Kept) × is_open server next × Delivers now kept bytes (given_by ended held) (serves next)

  idles : (steps : List Step) (mid : World) (server : S) → Ran now kept bytes steps mid → length steps ≤ 1 → still_times moment n ≡ mid.given → is_open server (after_all kept steps)
      → (next : Kept) × is_open server next × Delivers now kept bytes None (serves next)
  idles steps mid server x few clock stands =
      (after_all kept steps, stands, (steps, x.rest, ran_served now moment n kept bytes steps mid x (sym clock) (omega (arith, few)), refl))

  pub over : (server : S) (ended : Ended) (count : ℕ) → count ≤ 1
      → SessionEnds is_open may_have kept 1 (before bytes now reads writes) (world left (Some held) (still_times moment n) place reads_after writes_after) (Over server ended count)
      → OverEnds server ended
  over server Budget count few (steps, run, is, whole, stands) =
      let x = ran now kept bytes reads writes steps _ run.serves in
      (after_all kept steps, stands, inl (replied now kept bytes held steps x.rest (ran_served now moment n kept bytes steps _ x refl (omega (arith, is, few))) (omega (arith, is, whole)) (same_some _ _ x.held_is)))
  over server End count few (mid, steps, inl (is, how)) =
      let x = ran now kept bytes reads writes steps mid how.run.serves in
      let idle = how.ends.1 in
      let none : x.rest ≡ [] = subst (λ (o : Option (List ℕ)). OfTold o (λ input. input ≡ [])) x.left_is how.ends.0 in (
        after_all kept steps,
        idle.stands,
        over_at_end now kept bytes held steps x.rest (ran_served now moment n kept bytes steps mid x (sym idle.clock) (omega (arith, is, few))) (omega (arith, is, few)) none
            (held_behind mid.held (answers_of steps) [] held x.held_is idle.silent ∙ append-nil (answers_of steps)),
      )
  over server End count few (mid, steps, inr (is, how)) =
      let step = how.ends.0 in
      let x = ran now kept bytes reads writes (steps ++ step ∷ []) _ (serves_more kept steps step _ mid _ how.run.serves how.ends.1) in
      let one : length (steps ++ step ∷ []) ≡ 1 = omega (arith, is, few, length-append steps (step ∷ [])) in (
        after_all kept (steps ++ step ∷ []),
        subst (is_open server) (sym (all_more kept steps step)) how.ends.2,
        inl (replied now kept bytes held (steps ++ step ∷ []) x.rest (ran_served now moment n kept bytes (steps ++ step ∷ []) _ x refl (omega (arith, one))) one (same_some _ _ x.held_is)),
      )
  over server (Broken at) count few (mid, steps, is, how) =
      let x = ran now kept bytes reads writes steps mid how.run.serves in
      let fails = how.ends.1 in
      (after_all kept steps, fails.stands, over_at_check now kept bytes held how.ends.0 steps mid x (omega (arith, is, few)) fails.check (held_behind mid.held (answers_of steps) (check_bytes how.ends.0) held x.held_is how.ends.2))
  over server ReadFault count few (mid, steps, is, how) =
      idles steps mid server (ran now kept bytes reads writes steps mid how.run.serves) (omega (arith, is, few)) how.ends.1.clock how.ends.1.stands
  over server Memory count few (mid, steps, is, how) =
      idles steps mid server (ran now kept bytes reads writes steps mid how.run.serves) (omega (arith, is, few)) how.ends.clock how.ends.stands
  over server WriteFault count few (mid, steps, is, how) =
      let x = ran now kept bytes reads writes steps mid how.run.serves in
      elim how.ends.1 [
        | inl cut ↦ cut_off x cut.0 cut.1 cut.2
        | inr check ↦ idles steps mid server x (omega (arith, is, few)) check.1.clock check.1.stands
      ]
    where
      cut_off : (x : Ran now kept bytes steps mid) (message : Message) → Reads mid (world left (Some held) (still_times moment n) place reads_after writes_after) message
          → IsCut is_open may_have (after_all kept steps) message mid (world left (Some held) (still_times moment n) place reads_after writes_after) server → OverEnds server WriteFault
      cut_off x message read cut =
          let step : Step = record { bytes = read.bytes; message = message; now = cut.now; made = cut.made; reply = cut.reply } in
          let (rest, split, served) = ran_more now moment n kept bytes steps mid left (still_times moment n) x step (record { message = read.is; rule = cut.rule }) read.taken cut.clock refl (omega (arith, is, few)) in
          (after_all kept (steps ++ step ∷ []), subst (is_open server) (sym (all_more kept steps step)) cut.stands, (steps ++ step ∷ [], rest, served, refl))

  -- the disk failed in a commit
  pub lost : (disk : D) → length bytes < 2 ^ 63
      → SessionEnds is_open may_have kept 1 (before bytes now reads writes) (world left (Some held) (still_times moment n) place reads_after writes_after) (IsBroken disk)
      → (had : Kept) × (made : List Change) × may_have disk had made × Fails now kept bytes had made
  lost disk small (mid, steps, how) =
      let x = ran now kept bytes reads writes steps mid how.run.serves in
      let read = how.ends.1 in
      let cut = how.ends.2 in
      let step : Step = record { bytes = read.bytes; message = how.ends.0; now = cut.now; made = cut.made; reply = cut.reply } in
      let short : length steps < 2 ^ 63 = omega (arith, small, steps_short kept steps x.are, ap length x.front, length-append (bytes_of steps) x.rest) in
      let (rest, split, served) = ran_more now moment n kept bytes steps mid left (still_times moment n) x step (record { message = read.is; rule = inl cut.rule }) read.taken cut.clock refl short in
      let at = at_parts now steps step served.at in (
        after_all kept steps,
        cut.made,
        cut.either,
        record {
          steps = steps;
          rest = x.rest;
          served = record { are = x.are; front = x.front; at = at.0 };
          had_is = refl;
          lost = step;
          later = rest;
          split = split;
          at = at.1;
          made_is = refl;
          message = read.is;
          rule = cut.rule;
        },
      )

  -- the same from a start that is the one that is said
  pub lost_from : (disk : D) (start : World) → start ≡ before bytes now reads writes → length bytes < 2 ^ 63
      → SessionEnds is_open may_have kept 1 start (world left (Some held) (still_times moment n) place reads_after writes_after) (IsBroken disk)
      → (had : Kept) × (made : List Change) × may_have disk had made × Fails now kept bytes had made
  lost_from disk start is small ends = lost disk small
      (subst (λ (w : World). SessionEnds {S = S} is_open may_have kept 1 w (world left (Some held) (still_times moment n) place reads_after writes_after) (IsBroken disk)) is ends)

-- nothing is served
pub none_served : (now : ℕ) (kept : Kept) (bytes : List ℕ) → Delivers now kept bytes None (serves kept)
none_served now kept bytes = ([], bytes, record { are = tt; front = refl; at = tt }, refl)

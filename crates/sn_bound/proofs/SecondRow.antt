-- A row of exchanges of a device that has all versions of its account and no draft: each exchange sends one portion of what waits, and where nothing waits there
-- is one exchange.
use Rattle.std.proofs.Common.{◌≡◌, ◌≢◌, ℕ, suc, List, [], ◌∷◌, ◌++◌, length, Option, Some, None, refl, ap, ◌∙◌, subst, inl, inr, append_assoc, arith}
use Rattle.std.specs.List.{Contains, flat_map}
use Rattle.sn_bound.proofs.PortionLemmas.{is_front, last_one, some_chosen}
use Rattle.sn_bound.proofs.OneExchange.{HasAllAt, IsBehindOne, one_exchange, still_whole}
use Rattle.sn_bound.proofs.WaitingLists.{one_waiting}
use Rattle.sn_bound.specs.Portions.{ArePortions}
use Rattle.sn_bound.specs.Bound.{SendsPortions, exchanges_for}
use Rattle.sn_bound.specs.Whole.{RetrievesNothing, WholeStays}
use Rattle.sn_device.specs.Runs.{Act, AreRounds, IsDone, IsDue, IsRound, Round, Standing, acts_of}
use Rattle.sn_device.specs.Sending.{AreChosen, AreWaiting, NoneWaits, Numbered, SomeWaits}
use Rattle.sn_laws.specs.Lookups.{Bytes}
use Rattle.sn_laws.specs.declared.ideal.Ideal.{Ideal}
use Rattle.sn_rows.specs.Table.{Rows, rows_after}
use Rattle.sn_sync.specs.declared.answer.Answer.{Answer}
use Rattle.sn_sync.specs.declared.answer.Answer.TheVariants as answer
use Rattle.sn_world.proofs.AnswerLists.{at_head, none_of}
use Rattle.sn_world.proofs.RoundLemmas.{RoundLaws}
use Rattle.sn_world.proofs.SyncCalls.{RoundServed, over_round}
use Rattle.sn_world.specs.Calls.{AreServed, Fate}
use Rattle.sn_world.specs.Holds.{TokensDiffer}
use Rattle.sn_world.specs.Laws.{Keeps, SaysSome, SyncedRows}
use Rattle.sn_world.specs.World.{World}

-- ---- where none waits

none_left : (rows : Rows) (waiting : List Numbered) → AreWaiting rows waiting → NoneWaits rows → waiting ≡ []
none_left rows [] wait none = refl
none_left rows (w ∷ waiting) wait none =
    let there = (wait.whole w.0 w.1).0 (at_head w waiting) in
    absurd (none w.0 w.1 there.0 there.1)

some_left : (rows : Rows) (waiting : List Numbered) → AreWaiting rows waiting → SomeWaits rows → waiting ≢ []
some_left rows waiting wait (n, local, stands, waits) none =
    none_of (n, local) (subst (λ (ws : List Numbered). Contains ws (n, local)) none ((wait.whole n local).1 (stands, waits)))

-- behind an answer that leaves no page an exchange is due where some waits, and else all is done
due_some : (rows : Rows) (given : Answer) → RetrievesNothing given → IsDue rows (Some given) → SomeWaits rows
due_some rows (answer.Sync conflicts cursor retrieved saved token) nothing (inl page) = absurd (page nothing.0)
due_some rows (answer.Sync conflicts cursor retrieved saved token) nothing (inr some) = some
due_some rows (answer.Account token identifier uuid) nothing due = absurd nothing
due_some rows (answer.Params params) nothing due = absurd nothing
due_some rows (answer.Refused status tag more) nothing due = absurd nothing

done_none : (rows : Rows) (given : Answer) → IsDone rows (Some given) → NoneWaits rows
done_none rows (answer.Sync conflicts cursor retrieved saved token) done = done.1
done_none rows (answer.Account token identifier uuid) done = absurd done
done_none rows (answer.Params params) done = absurd done
done_none rows (answer.Refused status tag more) done = absurd done

-- ---- portions

abbrev FallInto : List Numbered → ℕ → Type 0
FallInto waiting count = (portions : List (List Numbered)) × ArePortions portions waiting × (count ≡ length portions)

one_more : (rows : Rows) (waiting chosen later : List Numbered) (count : ℕ) → AreWaiting rows waiting → AreChosen rows chosen later → chosen ≢ []
    → FallInto later count → FallInto waiting (suc count)
one_more rows waiting chosen later count wait x some (portions, are, is) =
    (chosen ∷ portions, (later, one_waiting rows waiting (chosen ++ later) wait x.all, is_front rows chosen later x some, are), omega arith)

-- ---- all exchanges

module _ (laws : RoundLaws) (stays : WholeStays) (keeps : Keeps) (says : SaysSome) (synced : SyncedRows) (secret : Bytes) (differ : TokensDiffer secret)
    (name : Bytes) where
  -- one of them, and what follows
  module _ (round : Round) (rounds : List Round) (at between : Standing) (acts : List Act) (v : World) (t : Ideal) (server : Rows) (fates : List Fate)
      (k : HasAllAt secret name v t server at.rows) (is : IsRound at round between)
      (over : AreServed server (flat_map acts_of (round ∷ rounds) ++ acts) fates) where
    served : RoundServed server round.request round.given (flat_map acts_of rounds ++ acts) fates
    served =
        over_round server round.numbers round.posted round.request round.given round.applied (flat_map acts_of rounds ++ acts) fates
        (subst (λ (xs : List Act). AreServed server xs fates) (append_assoc (acts_of round) (flat_map acts_of rounds) acts) over)

    behind : IsBehindOne laws stays keeps says synced secret differ name (rows_after server served.changes) between is.sends.later
    behind = one_exchange laws stays keeps says synced secret differ name v t server at between round k is served.now served.changes served.fits served.rule

    nothing_of : RetrievesNothing round.given
    nothing_of =
        (still_whole laws stays keeps says synced secret differ name v t server at between round k is served.now served.changes served.fits served.rule).0

    last_is : between.last ≡ Some round.given
    last_is = ap (λ (z : Standing). z.last) is.after_is

  -- behind one
  later_rounds : (rounds : List Round) (at after : Standing) (acts : List Act) (v : World) (t : Ideal) (server : Rows) (fates : List Fate) (given : Answer)
      (waiting : List Numbered) → HasAllAt secret name v t server at.rows → at.last ≡ Some given → RetrievesNothing given → AreWaiting at.rows waiting
      → AreRounds at rounds after → IsDone after.rows after.last → AreServed server (flat_map acts_of rounds ++ acts) fates
      → FallInto waiting (length rounds)
  later_rounds [] at after acts v t server fates given waiting k last nothing wait same done over =
      let done_at : IsDone at.rows at.last = subst (λ (z : Standing). IsDone z.rows z.last) same done in
      let none : NoneWaits at.rows = done_none at.rows given (subst (λ (o : Option Answer). IsDone at.rows o) last done_at) in
      ([], none_left at.rows waiting wait none, refl)
  later_rounds (round ∷ rounds) at after acts v t server fates given waiting k last nothing wait (between, is, rest) done over =
      let due : SomeWaits at.rows = due_some at.rows given nothing (subst (λ (o : Option Answer). IsDue at.rows o) last is.due) in
      let a = served round rounds at between acts v t server fates k is over in
      let b = behind round rounds at between acts v t server fates k is over in
      let some : is.sends.chosen ≢ [] =
      some_chosen at.rows is.sends.chosen is.sends.later is.sends.chosen_are
      (some_left at.rows (is.sends.chosen ++ is.sends.later) is.sends.chosen_are.all due) in
      one_more at.rows waiting is.sends.chosen is.sends.later (length rounds) wait is.sends.chosen_are some
      (later_rounds rounds between after acts b.world b.ideal (rows_after server a.changes) a.later round.given is.sends.later b.has_all
      (last_is round rounds at between acts v t server fates k is over) (nothing_of round rounds at between acts v t server fates k is over) b.wait rest done
      a.over)

  -- from the first
  pub all_rounds : (rounds : List Round) (at after : Standing) (acts : List Act) (v : World) (t : Ideal) (server : Rows) (fates : List Fate)
      → HasAllAt secret name v t server at.rows → at.last ≡ None → AreRounds at rounds after → IsDone after.rows after.last
      → AreServed server (flat_map acts_of rounds ++ acts) fates → SendsPortions at.rows (length rounds)
  all_rounds [] at after acts v t server fates k first same done over =
      absurd (subst (λ (o : Option Answer). IsDone at.rows o) first (subst (λ (z : Standing). IsDone z.rows z.last) same done))
  all_rounds (round ∷ rounds) at after acts v t server fates k first (between, is, rest) done over = by is.sends.chosen refl
    where
      others : FallInto is.sends.later (length rounds)
      others =
          let a = served round rounds at between acts v t server fates k is over in
          let b = behind round rounds at between acts v t server fates k is over in
          later_rounds rounds between after acts b.world b.ideal (rows_after server a.changes) a.later round.given is.sends.later b.has_all
          (last_is round rounds at between acts v t server fates k is over) (nothing_of round rounds at between acts v t server fates k is over) b.wait rest
          done a.over

      none_later : (later : List Numbered) → is.sends.later ≡ later → is.sends.chosen ≡ [] → later ≡ []
      none_later [] later_is none = refl
      none_later (next ∷ more) later_is none = absurd ((is.sends.chosen_are.longest next more later_is).0 none)

      counted : (portions : List (List Numbered)) → suc (length rounds) ≡ length portions → suc (length rounds) ≡ exchanges_for portions
      counted [] count = absurd (omega arith)
      counted (portion ∷ portions) count = count

      by : (chosen : List Numbered) → is.sends.chosen ≡ chosen → SendsPortions at.rows (suc (length rounds))
      by [] none =
          let no_later : is.sends.later ≡ [] = none_later is.sends.later refl none in
          let count : length rounds ≡ 0 =
          others.2 ∙ ap length (last_one others.0 (subst (λ (ws : List Numbered). ArePortions others.0 ws) no_later others.1)) in
          record {
            waiting = is.sends.chosen ++ is.sends.later;
            wait = is.sends.chosen_are.all;
            portions = [];
            are = ap (λ (ws : List Numbered). ws ++ is.sends.later) none ∙ no_later;
            sent = ap suc count;
          }
      by (w ∷ ws) some =
          let more : FallInto (is.sends.chosen ++ is.sends.later) (suc (length rounds)) =
          one_more at.rows (is.sends.chosen ++ is.sends.later) is.sends.chosen is.sends.later (length rounds) is.sends.chosen_are.all is.sends.chosen_are
          (λ none. (let e = some in cc)) others in
          record {
            waiting = is.sends.chosen ++ is.sends.later;
            wait = is.sends.chosen_are.all;
            portions = more.0;
            are = more.1;
            sent = counted more.0 more.2;
          }

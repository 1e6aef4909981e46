-- What a link has recorded of its exchanges: the bytes of each, and the batches that the server's store gained by it.
use Rattle.std.specs.Prelude.{◌≡◌, ◌++◌, ℕ, List, [], ◌∷◌, Option, Some, true, ⊤}
use Rattle.std.proofs.Common.{refl, sym, ◌∙◌, ap, subst, append-nil, append_assoc}
use Rattle.sn_io.specs.Causes.{next_count}
use Rattle.sn_journal.specs.declared.owner.Owner.TheVariants.{Server as ServerOwner}
use Rattle.sn_link.specs.Deliveries.{Standing, failed, serves}
use Rattle.sn_link.specs.Holdings.{HoldsIn}
use Rattle.sn_link.specs.Links.{AreAsked, Asks, Befalls, IsFailed, asking as link_asking, link_held, link_losses, link_now, link_number}
use Rattle.sn_link.specs.Losses.{lost_at}
use Rattle.sn_link.specs.declared.delivery.Held.{Held}
use Rattle.sn_link.specs.declared.link.ServingLink.{ServingLink}
use Rattle.sn_link.specs.declared.losses.Losses.{Losses}
use Rattle.sn_link.specs.declared.losses.Lost.TheVariants.{Nothing}
use Rattle.sn_net.specs.Exchanges.{Asking, Exchange}
use Rattle.sn_net.specs.declared.link.AskError.{AskError}
use Rattle.sn_net.specs.declared.link.AskError.TheVariants as ask
use Rattle.sn_server.specs.Stores.{Kept}
use Rattle.sn_rows.specs.declared.change.Change.{Change}
use Rattle.sn_tail.specs.Places.{place_behind}
use Rattle.sn_recorder.specs.declared.delivered.Delivered.{Delivered}
use Rattle.sn_recorder.specs.declared.exchanged.Exchanged.{Exchanged}
use Rattle.sn_recorder.specs.declared.recording.RecordingLink.{RecordingLink}

-- ---- one exchange

-- its bytes
pub record IsRecordOf (x : Exchange) (e : Exchanged) : Type 0 where
  pub request_is : e.request ≡ x.request
  pub answer_is : e.answer ≡ x.answer

-- the server's store has gained these batches; nothing is said of one whose disk failed
abbrev pub Gains : Standing → List (List Change) → Standing → Type 0
Gains (serves kept) batches (serves next) = next.batches ≡ kept.batches ++ batches
Gains (serves kept) batches (failed had made) = ⊤
Gains (failed had made) batches next = ⊤

-- the place of the gate behind the batches of the server's store
abbrev pub IsPlaceOf : ℕ → Standing → Type 0
IsPlaceOf place (serves kept) = place ≡ place_behind ServerOwner kept.batches
IsPlaceOf place (failed had made) = ⊤

-- The store of an open server has gained these batches behind those that end at a place, and this is the place of the gate behind them.
abbrev pub HasGained : Option Held → ℕ → List (List Change) → ℕ → Type 0
HasGained held place batches gate = (kept : Kept) (before later : List (List Change)) → HoldsIn held (serves kept) → kept.batches ≡ before ++ later
    → place ≡ place_behind ServerOwner before → (batches ≡ later) × (gate ≡ place_behind ServerOwner kept.batches)

-- ---- exchanges one after another

-- those from this number on, each with its record
abbrev pub AreRecorded : Losses → ℕ → ℕ → Standing → List Exchange → List Exchanged → ℕ → Standing → Type 0
AreRecorded losses now number was [] records last next = (records ≡ []) × (last ≡ number) × (next ≡ was)
AreRecorded losses now number was (x ∷ xs) [] last next = ⊥
AreRecorded losses now number was (x ∷ xs) (e ∷ records) last next =
    (mid : Standing) × Befalls (lost_at losses number) now was x mid × IsRecordOf x e × Gains was e.batches mid
    × AreRecorded losses now (next_count number) mid xs records last next

-- ---- what a recording link has

-- the link that it records
abbrev pub recorded_link : RecordingLink → ServingLink
recorded_link recording = recording.link

-- where the next batch of the server's store is to stand
abbrev pub recorded_place : RecordingLink → ℕ
recorded_place recording = recording.place

-- whatever the server had, its exchanges behind that, each with its record
abbrev pub RecordsThem : RecordingLink → RecordingLink → List Exchange → List Exchanged → Type 0
RecordsThem old new xs records = (was : Standing) → HoldsIn (link_held old.link) was → IsPlaceOf old.place was
    → (next : Standing) × HoldsIn (link_held new.link) next × IsPlaceOf new.place next
    × AreRecorded (link_losses old.link) (link_now old.link) (link_number old.link) was xs records (link_number new.link) next

-- while memory sufficed for the records, each exchange has one
pub record Records (old new : RecordingLink) (xs : List Exchange) : Type 0 where
  pub asks : Asks old.link new.link xs
  pub whole_before : new.whole ≡ true → old.whole ≡ true
  pub records : new.whole ≡ true → (more : List Exchanged) × (new.exchanged ≡ old.exchanged ++ more) × RecordsThem old new xs more

-- ---- a request that comes late or again

-- whatever the server had, it has behind the request what that does to it, and these are the batches that its store gained
abbrev pub GainsAgain : RecordingLink → RecordingLink → List ℕ → Delivered → Type 0
GainsAgain old new request given = (was : Standing) → HoldsIn (link_held old.link) was → IsPlaceOf old.place was
    → (next : Standing) × HoldsIn (link_held new.link) next × IsPlaceOf new.place next
    × Befalls Nothing (link_now old.link) was (record { host = []; request = request; answer = Some given.answer }) next × Gains was given.batches next

-- Why no answer is given: the server's disk has failed. Want of memory is told as such.
abbrev pub HasCauseAgain : RecordingLink → RecordingLink → AskError → Type 0
HasCauseAgain old new ask.Failed = (was : Standing) → HoldsIn (link_held old.link) was → (next : Standing) × HoldsIn (link_held new.link) next × IsFailed next
HasCauseAgain old new ask.Memory = ⊤

-- ---- they follow one another

recorded_more : (losses : Losses) (now number : ℕ) (was : Standing) (xs ys : List Exchange) (first later : List Exchanged) (n : ℕ) (mid : Standing) (last : ℕ) (next : Standing)
    → AreRecorded losses now number was xs first n mid → AreRecorded losses now n mid ys later last next
    → AreRecorded losses now number was (xs ++ ys) (first ++ later) last next
recorded_more losses now number was [] ys first later n mid last next (none, count, same) y =
    subst (λ (es : List Exchanged). AreRecorded losses now number was ys (es ++ later) last next) (sym none)
    (subst (λ (k : ℕ). AreRecorded losses now k was ys later last next) count (subst (λ (s : Standing). AreRecorded losses now n s ys later last next) same y))
recorded_more losses now number was (x ∷ xs) ys [] later n mid last next none y = absurd none
recorded_more losses now number was (x ∷ xs) ys (e ∷ first) later n mid last next (between, befalls, is, gains, rest) y =
    (between, befalls, is, gains, recorded_more losses now (next_count number) between xs ys first later n mid last next rest y)

-- without their records they are exchanges of the link that is recorded
pub recorded_asked : (losses : Losses) (now number : ℕ) (was : Standing) (xs : List Exchange) (records : List Exchanged) (last : ℕ) (next : Standing)
    → AreRecorded losses now number was xs records last next → AreAsked losses now number was xs last next
recorded_asked losses now number was [] records last next (none, count, same) = (count, same)
recorded_asked losses now number was (x ∷ xs) [] last next none = absurd none
recorded_asked losses now number was (x ∷ xs) (e ∷ records) last next (mid, befalls, is, gains, rest) =
    (mid, befalls, recorded_asked losses now (next_count number) mid xs records last next rest)

records_more : (a b c : RecordingLink) (xs ys : List Exchange) (first later : List Exchanged) → Asks a.link b.link xs → RecordsThem a b xs first → RecordsThem b c ys later
    → RecordsThem a c (xs ++ ys) (first ++ later)
records_more a b c xs ys first later asks x y was holds place =
    let (mid, holds_mid, place_mid, before) = x was holds place in
    let (next, holds_next, place_next, behind) = y mid holds_mid place_mid in (
      next,
      holds_next,
      place_next,
      recorded_more (link_losses a.link) (link_now a.link) (link_number a.link) was xs ys first later (link_number b.link) mid (link_number c.link) next before
          (subst (λ (l : Losses). AreRecorded l (link_now a.link) (link_number b.link) mid ys later (link_number c.link) next) asks.losses_are
          (subst (λ (k : ℕ). AreRecorded (link_losses b.link) k (link_number b.link) mid ys later (link_number c.link) next) asks.now_is behind)),
    )

pub recording : Asking RecordingLink Records
recording = record {
  none = λ link. record {
    asks = link_asking.none link.link;
    whole_before = λ whole. whole;
    records = λ whole. ([], sym (append-nil link.exchanged), λ was holds place. (was, holds, place, (refl, refl, refl)));
  };
  more = λ a b c xs ys x y. record {
    asks = link_asking.more a.link b.link c.link xs ys x.asks y.asks;
    whole_before = λ whole. x.whole_before (y.whole_before whole);
    records = λ whole.
        let (first, are_first, firsts) = x.records (y.whole_before whole) in
        let (later, are_later, laters) = y.records whole in (
          first ++ later,
          are_later ∙ ap (λ (es : List Exchanged). es ++ later) are_first ∙ append_assoc a.exchanged first later,
          records_more a b c xs ys first later x.asks firsts laters,
        );
  };
}

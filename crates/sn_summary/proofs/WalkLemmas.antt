-- A walk through moves, one after another, and through those of events.
use Rattle.std.proofs.Common.{◌≡◌, ◌<◌, ℕ, ◌+◌, List, [], ◌∷◌, ◌++◌, length, take, drop, get_or, Bool, cond, sym, ap, ◌∙◌, subst, append_assoc, append-nil}
use Rattle.std.specs.Prelude.{count_by}
use Rattle.std.specs.BTreeSet.{IsOrdered, keys}
use Rattle.std.proofs.lemmas.Grind.{flat_map-append}
use Rattle.std.proofs.lemmas.List.{take-append-drop, take_more}
use Rattle.std.proofs.lemmas.List.Sums.{sum_by_push}
use Rattle.sn_laws.specs.Lookups.{empty}
use Rattle.sn_laws.specs.Runs.{Legal, end}
use Rattle.sn_laws.specs.declared.ideal.Ideal.{Ideal}
use Rattle.sn_laws.specs.declared.moves.Move.{Move}
use Rattle.sn_laws.proofs.Facts.{end_from-append, legal_after, legal_before}
use Rattle.sn_report.specs.declared.report.Event.{Event}
use Rattle.sn_report.specs.declared.report.Report.{Report}
use Rattle.sn_summary.specs.Items.{makes_fork, makes_version}
use Rattle.sn_summary.specs.Summaries.{IsSummaryOf, moves_in}
use Rattle.sn_summary.specs.Walks.{GoesOn, HoldsDrafts, IsAfter, NotesDrafts, NotesLive, uuid_cmp}
use Rattle.sn_summary.specs.declared.summary.Summary.{Summary}
use Rattle.sn_summary.specs.declared.walk.Walk.{Walk}
use Rattle.sn_summary.proofs.LiveLemmas.{are_live}

-- ---- moves

counted : (p : Move → Bool) (ms : List Move) (m : Move) (old new : ℕ) → old ≡ count_by p ms → new ≡ old + cond (p m) 1 0
    → new ≡ count_by p (ms ++ m ∷ [])
counted p ms m old new was is = is ∙ ap (λ n. n + cond (p m) 1 0) was ∙ sym (sum_by_push (λ x. cond (p x) 1 0) ms m)

pub stepped : (old new : Walk) (m : Move) → NotesLive old.live new.live m → NotesDrafts old.drafts new.drafts m
    → new.versions ≡ old.versions + cond (makes_version m) 1 0 → new.forks ≡ old.forks + cond (makes_fork m) 1 0 → GoesOn old new (m ∷ [])
stepped old new m live drafts versions forks ms legal h = record {
  live = live ms legal h.live;
  drafts = subst (λ (s : Ideal). HoldsDrafts new.drafts s.drafts) (sym (end_from-append empty ms (m ∷ [])))
      (drafts (end ms) (legal_after empty ms (m ∷ []) legal).0 h.drafts);
  versions = counted makes_version ms m old.versions new.versions h.versions versions;
  forks = counted makes_fork ms m old.forks new.forks h.forks forks;
}

pub goes_nowhere : (walk : Walk) (moves : List Move) → GoesOn walk walk (take 0 moves)
goes_nowhere walk moves ms legal h = subst (IsAfter walk) (sym (append-nil ms)) h

pub goes_further : (first was now : Walk) (some : List Move) (more : List Move) → GoesOn first was some → GoesOn was now more
    → GoesOn first now (some ++ more)
goes_further first was now some more one two ms legal h =
    let whole : Legal ((ms ++ some) ++ more) = subst Legal (sym (append_assoc ms some more)) legal in
    subst (IsAfter now) (append_assoc ms some more) (two (ms ++ some) whole (one ms (legal_before empty (ms ++ some) more whole) h))

pub goes_one_further : (first was now : Walk) (moves : List Move) (i : ℕ) (m : Move) → i < length moves → m ≡ get_or moves i m
    → GoesOn first was (take i moves) → GoesOn was now (m ∷ []) → GoesOn first now (take (i + 1) moves)
goes_one_further first was now moves i m within is one two =
    subst (GoesOn first now)
    (sym (take_more moves i m within ∙ ap (λ (x : Move). take i moves ++ x ∷ []) (sym is)))
    (goes_further first was now (take i moves) (m ∷ []) one two)

-- ---- events

moves_more : (events : List Event) (i : ℕ) (e : Event) → i < length events → e ≡ get_or events i e
    → moves_in (take (i + 1) events) ≡ moves_in (take i events) ++ e.moves
moves_more events i e within is =
    ap moves_in (take_more events i e within)
    ∙ flat_map-append (λ (x : Event). x.moves) (take i events) (get_or events i e ∷ [])
    ∙ ap (λ ms. moves_in (take i events) ++ ms) (append-nil (get_or events i e).moves ∙ ap (λ (x : Event). x.moves) (sym is))

pub event_further : (was now : Walk) (events : List Event) (i : ℕ) (e : Event) (moves : List Move) → i < length events → e ≡ get_or events i e
    → moves ≡ e.moves → Legal (moves_in events) → IsAfter was (moves_in (take i events)) → GoesOn was now moves
    → IsAfter now (moves_in (take (i + 1) events))
event_further was now events i e moves within is are legal h goes =
    let next : moves_in (take (i + 1) events) ≡ moves_in (take i events) ++ moves =
    moves_more events i e within is ∙ ap (λ ms. moves_in (take i events) ++ ms) (sym are) in
    let front : Legal (moves_in (take (i + 1) events)) = legal_front events (i + 1) legal in
    subst (IsAfter now) (sym next) (goes (moves_in (take i events)) (subst Legal next front) h)
  where
    legal_front : (es : List Event) (n : ℕ) → Legal (moves_in es) → Legal (moves_in (take n es))
    legal_front es n k =
        legal_before empty (moves_in (take n es)) (moves_in (drop n es))
        (subst Legal (ap moves_in (sym (take-append-drop n es)) ∙ flat_map-append (λ (x : Event). x.moves) (take n es) (drop n es)) k)

pub summed : (report : Report) (walk : Walk) (summary : Summary) → IsAfter walk (moves_in report.events) → IsOrdered uuid_cmp walk.live
    → summary.events ≡ length report.events → summary.items ≡ length (keys walk.live) → summary.versions ≡ walk.versions
    → summary.forks ≡ walk.forks → summary.drafts ≡ length (keys walk.drafts) → IsSummaryOf report summary
summed report walk summary h ordered events items versions forks drafts = record {
  events = events;
  live = keys walk.live;
  are_live = are_live walk.live (end (moves_in report.events)).accounts ordered h.live;
  items = items;
  versions = versions ∙ h.versions;
  forks = forks ∙ h.forks;
  drafts = drafts ∙ h.drafts.count;
}

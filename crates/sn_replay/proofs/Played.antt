-- A replay from its first line to its last: what one more line makes of it, and what it comes to.
use Rattle.std.proofs.Common.{◌≡◌, ◌≢◌, ℕ, suc, ◌+◌, ◌<◌, ◌≤◌, List, [], ◌∷◌, ◌++◌, length, take, drop, get_or, Bool, true, false, Option, Some, None, refl, sym, ap, ◌∙◌, subst, inl, inr, arith, append_assoc}
use Rattle.std.proofs.lemmas.Grind.{flat_map-append}
use Rattle.std.proofs.lemmas.List.{append-nil, length-take-le, take_all, take_more, take-append-drop}
use Rattle.rand_chacha.specs.ChaCha.{ChaCha}
use Rattle.sn_course.specs.Stages.{Stage, Reported, past, reported, reporting, start}
use Rattle.sn_course.specs.Headline.{Carried, CarriesHeadline, Goes, IsNotAllowed, IsPasswordOf, MayStand, MovesCarry, OpensWith, PasswordsApart, Recounts, Recovers, RunsApart, SecretOf, Slots, moves_in}
use Rattle.sn_course.specs.Laws.{CarriedOfMoves, MovesMore, RecountsGo, RecountsGrow, RecountsMore, ReportingMore, settings_behind}
use Rattle.sn_course.specs.Settings.{AreFirst, settings_after, words_of}
use Rattle.sn_course.specs.declared.settings.Settings.{Settings}
use Rattle.sn_laws.specs.Each.{Each, One}
use Rattle.sn_laws.specs.Lookups.{Bytes, empty}
use Rattle.sn_laws.specs.Runs.{Legal, end}
use Rattle.sn_laws.specs.declared.moves.Move.{Move}
use Rattle.sn_lines.proofs.Facts.{apart_before}
use Rattle.sn_report.specs.declared.report.Event.{Event}
use Rattle.sn_report.specs.declared.report.Report.{Report}
use Rattle.sn_script.specs.declared.script.Line.{Line}
use Rattle.sn_script.specs.declared.script.Line.TheVariants as line
use Rattle.sn_script.specs.declared.script.Script.{Script}
use Rattle.sn_shown.specs.Shown.{AreHeld}
use Rattle.sn_world.specs.Holds.{TokensDiffer}
use Rattle.sn_world.specs.World.{World, at_first}
use Rattle.sn_replay.specs.Lines.{IsBounded, IsRefusalAt, IsReplayRefusal, reports}
use Rattle.sn_replay.specs.Playing.{ApartAlong, AreSlotsOf, BeginsReplay, HasPlayed, HasPlayedAll, IsAt, IsPlayed, IsRefusalBehind, IsRefusedBehind, ReplayingOr, PlaysAs, Tells, behind, ends_slots}
use Rattle.sn_replay.specs.declared.error.ReplayError.{ReplayError}
use Rattle.sn_replay.specs.declared.error.ReplayError.TheVariants as refusal
use Rattle.sn_replay.specs.declared.replaying.Replaying.{Replaying}
use Rattle.sn_replay.specs.declared.replaying.LineTold.{LineTold}
use Rattle.sn_replay.specs.declared.run.State.{State}
use Rattle.sn_replay.specs.declared.settings.Moment.{Moment}
use Rattle.sn_replay.proofs.Holding.{held_by_script}

-- ---- lines

reported_so : (number : ℕ) (settings : Settings) (l : Line) → reports l ≡ true
    → reported number settings l ≡ record { number = number; settings = settings; asks = l } ∷ []
reported_so number settings (line.Seed bytes) e = absurd (cc)
reported_so number settings (line.Cost n) e = absurd (cc)
reported_so number settings (line.Clock n) e = absurd (cc)
reported_so number settings (line.Register device identifier password fates) e = refl
reported_so number settings (line.SignIn device identifier password fates) e = refl
reported_so number settings (line.Put device fates text) e = refl
reported_so number settings (line.Edit device label fates text) e = refl
reported_so number settings (line.Delete device label fates) e = refl
reported_so number settings (line.Sync device fates) e = refl
reported_so number settings (line.Passwd device password fates) e = refl
reported_so number settings (line.Late device request) e = refl
reported_so number settings line.Show e = refl

reported_none : (number : ℕ) (settings : Settings) (l : Line) → reports l ≡ false → reported number settings l ≡ []
reported_none number settings (line.Seed bytes) e = refl
reported_none number settings (line.Cost n) e = refl
reported_none number settings (line.Clock n) e = refl
reported_none number settings (line.Register device identifier password fates) e = absurd (cc)
reported_none number settings (line.SignIn device identifier password fates) e = absurd (cc)
reported_none number settings (line.Put device fates text) e = absurd (cc)
reported_none number settings (line.Edit device label fates text) e = absurd (cc)
reported_none number settings (line.Delete device label fates) e = absurd (cc)
reported_none number settings (line.Sync device fates) e = absurd (cc)
reported_none number settings (line.Passwd device password fates) e = absurd (cc)
reported_none number settings (line.Late device request) e = absurd (cc)
reported_none number settings line.Show e = absurd (cc)

settings_kept : (settings : Settings) (l : Line) → reports l ≡ true → settings_after settings l ≡ settings
settings_kept settings (line.Seed bytes) e = absurd (cc)
settings_kept settings (line.Cost n) e = absurd (cc)
settings_kept settings (line.Clock n) e = absurd (cc)
settings_kept settings (line.Register device identifier password fates) e = refl
settings_kept settings (line.SignIn device identifier password fates) e = refl
settings_kept settings (line.Put device fates text) e = refl
settings_kept settings (line.Edit device label fates text) e = refl
settings_kept settings (line.Delete device label fates) e = refl
settings_kept settings (line.Sync device fates) e = refl
settings_kept settings (line.Passwd device password fates) e = refl
settings_kept settings (line.Late device request) e = refl
settings_kept settings line.Show e = refl

reporting_all : (number : ℕ) (settings : Settings) (xs ys : List Line)
    → reporting number settings (xs ++ ys) ≡ reporting number settings xs ++ reporting (number + length xs) (settings_behind settings xs) ys
reporting_all number settings [] ys =
    let same : number ≡ number + 0 = omega arith in
    ap (λ (n : ℕ). reporting n settings ys) same
reporting_all number settings (x ∷ xs) ys =
    let same : suc number + length xs ≡ number + length (x ∷ xs) = omega arith in
    let front : List Reported = reported number settings x in
    let mid : List Reported = reporting (suc number) (settings_after settings x) xs in
    ap (λ (rs : List Reported). front ++ rs) (reporting_all (suc number) (settings_after settings x) xs ys)
    ∙ ap (λ (n : ℕ). front ++ (mid ++ reporting n (settings_behind (settings_after settings x) xs) ys)) same
    ∙ sym (append_assoc front mid (reporting (number + length (x ∷ xs)) (settings_behind (settings_after settings x) xs) ys))

-- ---- the beginning stays as more lines report

some_not_none : (rs : List Reported) (r : Reported) → rs ++ r ∷ [] ≢ []
some_not_none [] r e = absurd (cc)
some_not_none (x ∷ rs) r e = absurd (cc)

secret_on : (rs later : List Reported) (secret : Bytes) → rs ≢ [] → SecretOf rs secret → SecretOf (rs ++ later) secret
secret_on [] later secret some h = absurd (some refl)
secret_on (r ∷ rs) later secret some h = h

opens_on : (rs later : List Reported) (secret : Bytes) (opened : World) → rs ≢ [] → OpensWith rs secret opened → OpensWith (rs ++ later) secret opened
opens_on [] later secret opened some h = absurd (some refl)
opens_on (r ∷ rs) later secret opened some h = h

-- ---- where the passwords are apart

module _ (script : Script) (secret : Bytes) where
  -- behind the first ones of events whose moves they are apart behind
  apart_by : (rs : List Reported) (events : List Event) → PasswordsApart script (moves_in events) → ApartAlong script secret rs events
  apart_by rs events apart before later opened early more last rs_are events_are opens goes =
      apart_before (IsPasswordOf script) empty (moves_in early) (moves_in more)
      (subst (PasswordsApart script) (ap moves_in events_are ∙ flat_map-append (λ (e : Event). e.moves) early more) apart)

  -- in each run, so in this one
  apart_in : (rs : List Reported) (events : List Event) → RunsApart script secret rs → ApartAlong script secret rs events
  apart_in rs events runs before later opened early more last rs_are events_are opens goes = runs before later opened early last rs_are opens goes

  -- of fewer lines and events
  runs_front : (rs later : List Reported) → rs ≢ [] → RunsApart script secret (rs ++ later) → RunsApart script secret rs
  runs_front rs later some runs before rest opened events last rs_are opens goes =
      runs before (rest ++ later) opened events last (ap (λ (xs : List Reported). xs ++ later) rs_are ∙ append_assoc before rest later)
      (opens_on rs later secret opened some opens) goes

  along_front : (rs later : List Reported) (events : List Event) → rs ≢ [] → ApartAlong script secret (rs ++ later) events → ApartAlong script secret rs events
  along_front rs later events some apart before rest opened early more last rs_are events_are opens goes =
      apart before (rest ++ later) opened early more last (ap (λ (xs : List Reported). xs ++ later) rs_are ∙ append_assoc before rest later) events_are
      (opens_on rs later secret opened some opens) goes

  along_before : (rs : List Reported) (events : List Event) (e : Event) → ApartAlong script secret rs (events ++ e ∷ []) → ApartAlong script secret rs events
  along_before rs events e apart before rest opened early more last rs_are events_are opens goes =
      apart before rest opened early (more ++ e ∷ []) last rs_are (ap (λ (es : List Event). es ++ e ∷ []) events_are ∙ append_assoc early more (e ∷ [])) opens goes

-- ---- one line that reports

-- where a replay stands before it
record StandsBefore (script : Script) (secret : Bytes) (rs : List Reported) (r : Reported) (k : Replaying) (events : List Event) : Type 0 where
  opened : World
  opens : OpensWith (rs ++ r ∷ []) secret opened
  last : Stage
  recounts : Recounts (ends_slots k.ends) secret (start opened) rs events last
  at : IsAt script secret k last
  moves_are : moves_in events ≡ last.moves

record IsBefore (script : Script) (rs : List Reported) (r : Reported) (k : Replaying) (events : List Event) : Type 0 where
  secret : Bytes
  secret_is : SecretOf (rs ++ r ∷ []) secret
  stands : TokensDiffer secret → ApartAlong script secret (rs ++ r ∷ []) events → StandsBefore script secret rs r k events

before_first : (script : Script) (r : Reported) (k : Replaying) → BeginsReplay (words_of r.settings r.number) k → IsBefore script [] r k []
before_first script r k b = record {
  secret = b.secret;
  secret_is = (b.left, b.drew);
  stands = λ differ apart.
      let begun = b.begun script differ in
      record { opened = begun.opened; opens = begun.opens; last = start begun.opened; recounts = refl; at = begun.at; moves_are = refl };
}

before_next : (script : Script) (secret : Bytes) (rs : List Reported) (r : Reported) (k : Replaying) (events : List Event) → rs ≢ [] → SecretOf rs secret
    → (TokensDiffer secret → ApartAlong script secret rs events → HasPlayed script secret rs k events) → IsBefore script rs r k events
before_next script secret rs r k events some is played = record {
  secret = secret;
  secret_is = secret_on rs (r ∷ []) secret some is;
  stands = λ differ apart.
      let p = played differ (along_front script secret rs (r ∷ []) events some apart) in
      record {
        opened = p.opened;
        opens = opens_on rs (r ∷ []) secret p.opened some p.opens;
        last = p.last;
        recounts = p.recounts;
        at = p.at;
        moves_are = p.moves_are;
      };
}

before : (script : Script) (secret : Bytes) (rs : List Reported) (at : Moment) (l : Line) (found : Option Replaying) (k : Replaying) (events : List Event)
    → PlaysAs script secret rs found events → ReplayingOr found at k → IsBefore script rs (record { number = at.number; settings = at.settings; asks = l }) k events
before script secret rs at l None k events (none, no_events, no_secret) b =
    let r : Reported = record { number = at.number; settings = at.settings; asks = l } in
    subst (λ (xs : List Reported). IsBefore script xs r k events) (sym none)
    (subst (λ (es : List Event). IsBefore script [] r k es) (sym no_events) (before_first script r k b))
before script secret rs at l (Some replaying) k events (some, is, played) same =
    let r : Reported = record { number = at.number; settings = at.settings; asks = l } in
    subst (λ (x : Replaying). IsBefore script rs r x events) (sym same) (before_next script secret rs r replaying events some is played)

module _ (grow : RecountsGrow) (more : RecountsMore) (moves_more : MovesMore) (script : Script) where
  -- what its event makes of it
  played_on : (secret : Bytes) (rs : List Reported) (r : Reported) (k : Replaying) (events : List Event) (told : LineTold)
      → (b : StandsBefore script secret rs r k events) → Tells script secret k b.last r told
      → HasPlayed script secret (rs ++ r ∷ []) told.replaying (events ++ told.event ∷ [])
  played_on secret rs r k events told b t =
      let e : Event = told.event in
      let now : Stage = past b.last r.asks e t.next in
      let recovers : Recovers (ends_slots told.replaying.ends) now = record {
        server = t.server_reads;
        devices = t.at.marks_read;
        shows = record { server = t.at.stands.holds.server; devices = t.at.stands.holds.devices };
        asked_alone = λ name. (t.at.stands.holds.sound name).sets.asked_alone;
        held = held_by_script now.names now.world.devices (end now.moves) t.at.begun t.at.stands.holds.devices t.at.held;
      } in
      record {
        opened = b.opened;
        opens = b.opens;
        last = now;
        recounts = more (ends_slots told.replaying.ends) secret (start b.opened) b.last rs events r e t.next
            (grow (ends_slots k.ends) (ends_slots told.replaying.ends) secret (start b.opened) b.last rs events t.grow b.recounts) t.fits recovers;
        at = t.at;
        moves_are = moves_more events e ∙ ap (λ (ms : List Move). ms ++ e.moves) b.moves_are;
        mark = t.server_mark;
      }

  module _ (reporting_more : ReportingMore) (first : Settings) (lines : List Line) (l : Line) (state : State) (p : IsPlayed script first lines state)
      (number : ℕ) (number_is : number ≡ 1 + length lines) where
    abbrev rs : List Reported
    rs = reporting 1 first lines

    abbrev r : Reported
    r = record { number = number; settings = state.settings; asks = l }

    line_is : r ≡ behind first lines l
    line_is = λ i. record { number = number_is i; settings = p.settings_are i; asks = l }

    -- a line that is a setting
    pub played_setting : (settings : Settings) → reports l ≡ false → settings ≡ settings_after state.settings l → 1 ≤ settings.cost
        → IsPlayed script first (lines ++ l ∷ []) (record { settings = settings; replaying = state.replaying; events = state.events })
    played_setting settings none is cost =
        let m = reporting_more 1 first lines l in
        let same : rs ≡ reporting 1 first (lines ++ l ∷ []) =
        sym (m.0 ∙ ap (λ (xs : List Reported). rs ++ xs) (reported_none (1 + length lines) (settings_behind first lines) l none) ∙ append-nil rs) in
        record {
          settings_are = is ∙ ap (λ (s : Settings). settings_after s l) p.settings_are ∙ sym m.1;
          cost = cost;
          secret = p.secret;
          plays = subst (λ (xs : List Reported). PlaysAs script p.secret xs state.replaying state.events) same p.plays;
        }

    more_is : reports l ≡ true → reporting 1 first (lines ++ l ∷ []) ≡ rs ++ r ∷ []
    more_is so =
        (reporting_more 1 first lines l).0
        ∙ ap (λ (xs : List Reported). rs ++ xs) (reported_so (1 + length lines) (settings_behind first lines) l so ∙ ap (λ (x : Reported). x ∷ []) (sym line_is))

    module _ (so : reports l ≡ true) (k : Replaying) (replaying_is : ReplayingOr state.replaying (record { number = number; settings = state.settings }) k) where
      is_before : IsBefore script rs r k state.events
      is_before = before script p.secret rs (record { number = number; settings = state.settings }) l state.replaying k state.events p.plays replaying_is

      -- and one that reports
      pub played_line : RecountsGo → (told : LineTold)
          → ((secret : Bytes) (c : Stage) → TokensDiffer secret → PasswordsApart script c.moves → IsAt script secret k c → Tells script secret k c r told)
          → IsPlayed script first (lines ++ l ∷ []) (record { settings = state.settings; replaying = Some told.replaying; events = state.events ++ told.event ∷ [] })
      played_line go told tells =
          let b = is_before in
          record {
            settings_are = p.settings_are ∙ sym (settings_kept (settings_behind first lines) l so) ∙ sym (reporting_more 1 first lines l).1;
            cost = p.cost;
            secret = b.secret;
            plays = subst (λ (xs : List Reported). PlaysAs script b.secret xs (Some told.replaying) (state.events ++ told.event ∷ [])) (sym (more_is so)) (
              some_not_none rs r,
              b.secret_is,
              λ differ apart.
                  let s = b.stands differ (along_before script b.secret (rs ++ r ∷ []) state.events told.event apart) in
                  let goes : Goes b.secret (start s.opened) rs state.events s.last =
                  go (ends_slots k.ends) b.secret (start s.opened) s.last rs state.events s.recounts in
                  let here : PasswordsApart script s.last.moves =
                  subst (PasswordsApart script) s.moves_are
                  (apart rs (r ∷ []) s.opened state.events (told.event ∷ []) s.last refl refl s.opens goes) in
                  played_on b.secret rs r k state.events told s (tells b.secret s.last differ here s.at),
            );
          }

      -- or that may not come
      pub refused_line : RecountsGo → (why : ReplayError) → ((secret : Bytes) (c : Stage) → IsAt script secret k c → IsRefusalAt number c l why)
          → IsRefusalBehind script first lines l why
      refused_line go refusal.Memory why = tt
      refused_line go (refusal.NotAllowed n) why =
          let b = is_before in
          record {
            reports_so = so;
            secret = b.secret;
            secret_is = subst (λ (x : Reported). SecretOf (rs ++ x ∷ []) b.secret) line_is b.secret_is;
            refused = λ differ runs.
                let own : RunsApart script b.secret (rs ++ r ∷ []) =
                subst (λ (x : Reported). RunsApart script b.secret (rs ++ x ∷ [])) (sym line_is) runs in
                let s = b.stands differ (apart_in script b.secret (rs ++ r ∷ []) state.events own) in
                let no = why b.secret s.last s.at in (
                  s.opened,
                  subst (λ (x : Reported). OpensWith (rs ++ x ∷ []) b.secret s.opened) line_is s.opens,
                  sym number_is ∙ sym no.0,
                  (state.events, s.last, go (ends_slots k.ends) b.secret (start s.opened) s.last rs state.events s.recounts, no.1),
                );
          }

-- ---- the loop

-- the cost stays 1 at least
pub cost_after : (settings later : Settings) (l : Line) → 1 ≤ settings.cost → IsBounded l → later ≡ settings_after settings l → 1 ≤ later.cost
cost_after settings later l cost bounded is = subst (λ (s : Settings). 1 ≤ s.cost) (sym is) (kept l bounded)
  where
    kept : (x : Line) → IsBounded x → 1 ≤ (settings_after settings x).cost
    kept (line.Seed bytes) h = cost
    kept (line.Cost n) h = h
    kept (line.Clock n) h = cost
    kept (line.Register device identifier password fates) h = cost
    kept (line.SignIn device identifier password fates) h = cost
    kept (line.Put device fates text) h = cost
    kept (line.Edit device label fates text) h = cost
    kept (line.Delete device label fates) h = cost
    kept (line.Sync device fates) h = cost
    kept (line.Passwd device password fates) h = cost
    kept (line.Late device request) h = cost
    kept line.Show h = cost

pub played_none : (script : Script) (first : Settings) (state : State) → AreFirst first → state.settings ≡ first → state.replaying ≡ None → state.events ≡ []
    → IsPlayed script first [] state
played_none script first state is settings_are replaying_none events_none =
    let cost : state.settings.cost ≡ 1 = ap (λ (s : Settings). s.cost) settings_are ∙ is.cost in
    record {
      settings_are = settings_are;
      cost = omega (arith, cost);
      secret = [];
      plays = subst (λ (k : Option Replaying). PlaysAs script [] [] k state.events) (sym replaying_none) (refl, events_none, refl);
    }

-- the lines of a script are those before one, it, and those behind it
lines_parted : (lines : List Line) (index : ℕ) (l : Line) → index < length lines → l ≡ get_or lines index l
    → lines ≡ take index lines ++ l ∷ drop (index + 1) lines
lines_parted lines index l lt at =
    sym (take-append-drop (index + 1) lines)
    ∙ ap (λ (xs : List Line). xs ++ drop (index + 1) lines) (take_more lines index l lt ∙ ap (λ (x : Line). take index lines ++ x ∷ []) (sym at))
    ∙ append_assoc (take index lines) (l ∷ []) (drop (index + 1) lines)

pub one_of_lines : (lines : List Line) (index : ℕ) (l : Line) → index < length lines → l ≡ get_or lines index l → One (λ x. x ≡ l) lines
one_of_lines lines index l lt at =
    subst (One (λ x. x ≡ l)) (sym (lines_parted lines index l lt at)) (one_in (take index lines) (drop (index + 1) lines))
  where
    one_in : (front later : List Line) → One (λ x. x ≡ l) (front ++ l ∷ later)
    one_in [] later = inl refl
    one_in (x ∷ front) later = inr (one_in front later)

pub count_of : (lines : List Line) (index : ℕ) → index < length lines → index + 1 ≡ 1 + length (take index lines)
count_of lines index lt =
    let count : length (take index lines) ≡ index = length-take-le index lines (omega arith) in
    omega (arith, count)

pub played_next : (script : Script) (first : Settings) (lines : List Line) (index : ℕ) (l : Line) (state : State) → index < length lines → l ≡ get_or lines index l
    → IsPlayed script first (take index lines ++ l ∷ []) state → IsPlayed script first (take (index + 1) lines) state
played_next script first lines index l state lt at p =
    subst (λ (ls : List Line). IsPlayed script first ls state)
    (sym (take_more lines index l lt ∙ ap (λ (x : Line). take index lines ++ x ∷ []) (sym at))) p

pub played_all : (script : Script) (first : Settings) (lines : List Line) (index : ℕ) (state : State) → AreFirst first → lines ≡ script.lines → length lines ≤ index
    → IsPlayed script first (take index lines) state → HasPlayedAll script state
played_all script first lines index state is lines_are all p =
    (first, is, subst (λ (ls : List Line). IsPlayed script first ls state) (take_all index lines all ∙ lines_are) p)

-- a script that isn't allowed
pub refused_all : (script : Script) (first : Settings) (lines : List Line) (index : ℕ) (l : Line) (why : ReplayError) → AreFirst first → lines ≡ script.lines
    → index < length lines → l ≡ get_or lines index l → IsRefusalBehind script first (take index lines) l why → IsReplayRefusal script why
refused_all script first lines index l refusal.Memory is lines_are lt at h = tt
refused_all script first lines index l (refusal.NotAllowed number) is lines_are lt at h =
    let front : List Line = take index lines in
    let rest : List Line = drop (index + 1) lines in
    let r : Reported = behind first front l in
    let rs : List Reported = reporting 1 first front in
    let later : List Reported = reporting (suc (1 + length front)) (settings_after (settings_behind first front) l) rest in
    let parted : reporting 1 first script.lines ≡ rs ++ r ∷ later =
    ap (reporting 1 first) (sym lines_are ∙ lines_parted lines index l lt at) ∙ reporting_all 1 first front (l ∷ rest)
    ∙ ap (λ (xs : List Reported). rs ++ (xs ++ later)) (reported_so (1 + length front) (settings_behind first front) l h.reports_so) in
    let whole : (rs ++ r ∷ []) ++ later ≡ reporting 1 first script.lines = append_assoc rs (r ∷ []) later ∙ sym parted in
    record {
      first = first;
      first_is = is;
      secret = h.secret;
      secret_is = subst (λ (xs : List Reported). SecretOf xs h.secret) whole (secret_on (rs ++ r ∷ []) later h.secret (some_not_none rs r) h.secret_is);
      refused = λ differ runs.
          let front_runs : RunsApart script h.secret (rs ++ r ∷ []) =
          runs_front script h.secret (rs ++ r ∷ []) later (some_not_none rs r) (subst (RunsApart script h.secret) (sym whole) runs) in
          let x = h.refused differ front_runs in (
            x.0,
            subst (λ (xs : List Reported). OpensWith xs h.secret x.0) whole (opens_on (rs ++ r ∷ []) later h.secret x.0 (some_not_none rs r) x.1),
            (rs, r, later, parted, x.2, x.3),
          );
    }

-- ---- what it comes to

carries_none : CarriedOfMoves → (script : Script) (first : Settings) (slots : Slots) (events : List Event) → AreFirst first → reporting 1 first script.lines ≡ []
    → events ≡ [] → CarriesHeadline script slots (record { events = events })
carries_none carry script first slots events is none no_events = record {
  first = first;
  first_is = is;
  secret = [];
  secret_is = subst (λ (xs : List Reported). SecretOf xs []) (sym none) refl;
  carried = λ differ apart.
      subst (λ (es : List Event). Carried script slots [] first es) (sym no_events)
      (record {
        opened = at_first;
        opens = subst (λ (xs : List Reported). OpensWith xs [] at_first) (sym none) refl;
        last = start at_first;
        recounts = subst (λ (xs : List Reported). Recounts slots [] (start at_first) xs [] (start at_first)) (sym none) refl;
        accounted = λ some. absurd (some refl);
        opening = λ a uuid v text number one. absurd one;
        legal = tt;
        carry = carry [] tt;
      });
}

carries_some : CarriedOfMoves → (script : Script) (first : Settings) (slots : Slots) (secret : Bytes) (k : Replaying) (events : List Event) → AreFirst first
    → SecretOf (reporting 1 first script.lines) secret → slots ≡ ends_slots k.ends
    → (TokensDiffer secret → ApartAlong script secret (reporting 1 first script.lines) events
    → HasPlayed script secret (reporting 1 first script.lines) k events)
    → CarriesHeadline script slots (record { events = events })
carries_some carry script first slots secret k events is secret_is same played = record {
  first = first;
  first_is = is;
  secret = secret;
  secret_is = secret_is;
  carried = λ differ apart.
      let p = played differ (apart_by script secret (reporting 1 first script.lines) events apart) in
      let legal : Legal (moves_in events) = subst Legal (sym p.moves_are) p.at.legal in
      subst (λ (s : Slots). Carried script s secret first events) (sym same)
      (record {
        opened = p.opened;
        opens = p.opens;
        last = p.last;
        recounts = p.recounts;
        accounted = λ some. record { server = p.mark; devices = p.at.marks_are };
        opening = subst (λ (ms : List Move). AreHeld (end ms) p.last.names) (sym p.moves_are)
            (held_by_script p.last.names p.last.world.devices (end p.last.moves) p.at.begun p.at.stands.holds.devices p.at.held);
        legal = legal;
        carry = carry (moves_in events) legal;
      });
}

carries_by : CarriedOfMoves → (script : Script) (first : Settings) (secret : Bytes) (slots : Slots) (found : Option Replaying) (events : List Event) → AreFirst first
    → PlaysAs script secret (reporting 1 first script.lines) found events → AreSlotsOf found slots → CarriesHeadline script slots (record { events = events })
carries_by carry script first secret slots None events is (none, no_events, no_secret) of = carries_none carry script first slots events is none no_events
carries_by carry script first secret slots (Some k) events is (some, secret_is, played) same =
    carries_some carry script first slots secret k events is secret_is same played

pub carries_all : CarriedOfMoves → (script : Script) (slots : Slots) (state : State) → HasPlayedAll script state → AreSlotsOf state.replaying slots
    → CarriesHeadline script slots (record { events = state.events })
carries_all carry script slots state all of = carries_by carry script all.0 all.2.secret slots state.replaying state.events all.1 all.2.plays of

-- How visits follow one another.
use Rattle.std.proofs.Common.{◌≡◌, ◌≢◌, ℕ, ◌+◌, ◌-◌, ◌<◌, ◌≤◌, max, List, [], ◌∷◌, ◌++◌, Option, refl, sym, ◌∙◌, ap, subst, arith, append-nil, append_assoc}
use Rattle.sn_disk.specs.declared.disk.Disk.{Ghosts}
use Rattle.sn_net.specs.Connections.{Event, Going, accepted, ended}
use Rattle.sn_server.specs.Outcomes.{count_of, session_disk}
use Rattle.sn_server.specs.Stores.{server_disk}
use Rattle.sn_server.specs.declared.serving.Ended.{Ended}
use Rattle.sn_server.specs.declared.serving.Ended.TheVariants.{Memory}
use Rattle.sn_server.specs.declared.server.Server.{Server}
use Rattle.sn_server.specs.declared.serving.Session.{Session}
use Rattle.sn_server.specs.declared.serving.Session.TheVariants.{Over}
use Rattle.sn_serve.specs.Hosting.{BreaksOff, EndsIn}
use Rattle.sn_serve.specs.Visits.{Moment, Stand, Visit, IsSession, IsVisit, Leaves, AreVisits, counts_for, counted_in, ends_at, events_in, events_of, stand}

module _ {D : Type 0} {g : Ghosts D} where
  abbrev pub visiting : Server D g → ℕ → Moment → Moment → Session (Server D g) D → Visit D g
  visiting server left before after session = record { server = server; budget = left; before = before; after = after; session = session }

  pub is_visit : (server : Server D g) (left : ℕ) (before after : Moment) (session : Session (Server D g) D) → 0 < left → IsSession server left before after session
      → IsVisit (stand server before.given left) (visiting server left before after session)
  is_visit server left before after session due ends = record { server = refl; budget = refl; given = refl; due = due; ends = ends }

  -- a session with which all ends
  pub breaks : (goes : List Event → Type 0) (how : Session (Server D g) D → Type 0) (server : Server D g) (left : ℕ) (before after : Moment) (session : Session (Server D g) D) (disk : D)
      → 0 < left → IsSession server left before after session → how session → goes (accepted (ends_at before) ∷ ended (ends_at after) ∷ [])
      → disk ≡ session_disk server_disk session → BreaksOff goes (stand server before.given left) after.given how disk
  breaks goes how server left before after session disk due ends broke seen back = record {
    visit = visiting server left before after session;
    is = is_visit server left before after session due ends;
    broke = broke;
    seen = seen;
    clock = refl;
    back = back;
  }

  -- one that leaves the server for the next
  pub leaves : (server next : Server D g) (left count taken : ℕ) (before after : Moment) (session : Session (Server D g) D) (how : Ended) → 0 < left
      → session ≡ Over next how count → how ≢ Memory → count ≤ left → taken ≡ max count 1
      → Leaves (visiting server left before after session) (stand next after.given (left - taken))
  leaves server next left count taken before after session how due over fed within is = record {
    how = how;
    count = count;
    over = over;
    fed = fed;
    rest = let answered : count_of session ≡ count = ap count_of over in
        subst (λ (n : ℕ). (left - taken) + max n 1 ≡ left) (sym answered) (subst (λ (m : ℕ). (left - m) + max count 1 ≡ left) (sym is) (omega arith));
    given = refl;
  }

  -- one more behind those before it
  pub visits_more : (from : Stand D g) (visits : List (Visit D g)) (to next : Stand D g) (v : Visit D g) → AreVisits from visits to → IsVisit to v → Leaves v next
      → AreVisits from (visits ++ v ∷ []) next
  visits_more from [] to next v same is left = (subst (λ (s : Stand D g). IsVisit s v) (sym same) is, next, left, refl)
  visits_more from (u ∷ visits) to next v are is left = (are.0, are.1, are.2, visits_more are.1 visits to next v are.3 is left)

  pub counted_more : (visits : List (Visit D g)) (v : Visit D g) → counted_in (visits ++ v ∷ []) ≡ counted_in visits + counts_for v
  counted_more [] v = omega arith
  counted_more (u ∷ visits) v = omega (arith, counted_more visits v)

  pub events_more : (visits : List (Visit D g)) (v : Visit D g) → events_of (visits ++ v ∷ []) ≡ events_of visits ++ events_in v
  events_more [] v = refl
  events_more (u ∷ visits) v = ap (λ (l : List Event). events_in u ++ l) (events_more visits v) ∙ sym (append_assoc (events_in u) (events_of visits) (events_in v))

module _ {D P : Type 0} {g : Ghosts D} (goes : P → P → List Event → Type 0) (law : Going P goes) where
  -- behind these connections one came with which all ends
  pub ends_in : (p q r : P) (from to : Stand D g) (given : Option (List ℕ)) (how : Session (Server D g) D → Type 0) (disk : D) (visits : List (Visit D g))
      → AreVisits from visits to → goes p q (events_of visits) → BreaksOff (goes q r) to given how disk → EndsIn (goes p r) from given how disk
  ends_in p q r from to given how disk visits are seen breaks = record {
    visits = visits;
    to = to;
    are = are;
    last = breaks.visit;
    is = breaks.is;
    broke = breaks.broke;
    seen = subst (goes p r) (sym (events_more visits breaks.visit)) (law.more p q r (events_of visits) (events_in breaks.visit) seen breaks.seen);
    clock = breaks.clock;
    back = breaks.back;
  }

  pub seen_more : (p q r : P) (visits : List (Visit D g)) (v : Visit D g) → goes p q (events_of visits) → goes q r (events_in v) → goes p r (events_of (visits ++ v ∷ []))
  seen_more p q r visits v seen more = subst (goes p r) (sym (events_more visits v)) (law.more p q r (events_of visits) (events_in v) seen more)

  pub seen_none : (p q r : P) (visits : List (Visit D g)) → goes p q (events_of visits) → goes q r [] → goes p r (events_of visits)
  seen_none p q r visits seen none = subst (goes p r) (append-nil (events_of visits)) (law.more p q r (events_of visits) [] seen none)

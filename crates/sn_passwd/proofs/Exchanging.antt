-- The exchanges of a call, from wherever it stands, as steps of the world; and what they leave.
use Rattle.std.proofs.Common.{◌≡◌, ◌+◌, ℕ, List, [], ◌∷◌, ◌++◌, length, Option, None, true, refl, sym, ap, ◌∙◌, subst, inl, inr}
use Rattle.std.specs.List.{flat_map}
use Rattle.std.proofs.lemmas.List.{append-nil}
use Rattle.rand_chacha.specs.ChaCha.{ChaCha}
use Rattle.sn_device.proofs.Facts.{EndsAlone, StopsAlone}
use Rattle.sn_device.specs.Runs.{Act, AreRounds, EndsSync, Exchanges, Given, Halt, IsDone, Point, Round, Standing, acts_of, answered, commits as committed, goes_on, is_over, nothing, rows_done}
use Rattle.sn_device.specs.Sending.{NoneWaits}
use Rattle.sn_device.specs.Steps.{applies}
use Rattle.sn_laws.specs.Lookups.{Bytes}
use Rattle.sn_laws.specs.Runs.{end_from}
use Rattle.sn_laws.specs.declared.ideal.Ideal.{Ideal}
use Rattle.sn_passwd.proofs.LastHeld.{holds_last, last_applied}
use Rattle.sn_passwd.proofs.OlderGone.{applied_alone}
use Rattle.sn_passwd.proofs.Pieces.{NeverAnswers, PieceGoes}
use Rattle.sn_passwd.proofs.Points.{Brought, HasKeys, HoldsAlone, HoldsLast, Unasked}
use Rattle.sn_passwd.proofs.RoundKeys.{KeepsKeys, keys_kept, rounds_keep}
use Rattle.sn_rows.specs.Table.{Rows}
use Rattle.sn_string.specs.declared.params.KeySet.{KeySet}
use Rattle.sn_sync.specs.declared.answer.Answer.{Answer}
use Rattle.sn_sync.specs.declared.answer.Answer.TheVariants as answer
use Rattle.sn_sync.specs.declared.request.Request.{Request}
use Rattle.sn_world.proofs.Facts.{Goes, IsWhole, LastApplies, RoundLaws, Stands, commit_last, end_goes, exchange_not, has_all, is_whole, last_applies, rounds_on, rounds_rows, trace_from}
use Rattle.sn_world.specs.Calls.{AreServed, Fate, Leads, call_steps, rows_served}
use Rattle.sn_world.specs.Happens.{Happens, Trace, commits}
use Rattle.sn_world.specs.Holds.{Holds, TokensDiffer}
use Rattle.sn_world.specs.Laws.{AppliedWhole, Keeps, SaysSome}
use Rattle.sn_world.specs.Plain.{AsksNoSet}
use Rattle.sn_world.specs.Pulled.{HasAll}
use Rattle.sn_world.specs.World.{World}

-- ---- how exchanges turn out

-- they end the call as exchanges alone do
over_alone : (count : ℕ) (at : Standing) (acts : List Act) (halt : Halt) → EndsSync count at acts (is_over halt) → EndsAlone count at acts halt
over_alone count at acts halt (inl (done, none, is)) = absurd (cc)
over_alone count at acts halt (inr (over, is, stops)) =
    let same : over ≡ halt = cc in
    inr (subst (λ (z : Halt). StopsAlone count at acts z) same stops)

-- or all is done
all_done : (count : ℕ) (at : Standing) (acts : List Act) (q : Point) → EndsSync count at acts (goes_on q)
    → IsDone at.rows at.last × (acts ≡ []) × (q ≡ record { made = count; rows = at.rows; words = at.words })
all_done count at acts q (inl (done, none, is)) = (done, none, cc)
all_done count at acts q (inr (over, is, stops)) = absurd (cc)

stops_not : (count : ℕ) (at : Standing) (acts : List Act) (given : Given) (left : ChaCha) → ¬ (StopsAlone count at acts (answered given left))
stops_not count at acts given left (inl (all, due, (none, is))) = absurd (cc)
stops_not count at acts given left (inr (inl (few, ends))) =
    exchange_not given left at.words ends.numbers ends.posted ends.request ends.ready acts ends.ends_so
stops_not count at acts given left (inr (inr (none, is))) = absurd (cc)

ends_not : (count : ℕ) (at : Standing) (acts : List Act) (given : Given) (left : ChaCha) → ¬ (EndsSync count at acts (is_over (answered given left)))
ends_not count at acts given left (inl (done, none, is)) = absurd (cc)
ends_not count at acts given left (inr (over, is, stops)) =
    let same : over ≡ answered given left = cc in
    stops_not count at acts given left (subst (λ (z : Halt). StopsAlone count at acts z) same stops)

-- no exchange answers the call
pub exchanges_never : NeverAnswers Exchanges
exchanges_never p acts given left x = ends_not (p.made + length x.rounds) x.at x.later given left x.ends

-- where exchanges begin
abbrev from : Point → Standing
from p = record { rows = p.rows; words = p.words; last = None }

module _ (whole : AppliedWhole) (laws : RoundLaws) (keeps : Keeps) (says : SaysSome) (secret : Bytes) (differ : TokensDiffer secret) (name : Bytes)
    (begins : Request → Option KeySet) where
  -- ---- steps of the world

  rounds_lead : (v : World) (t : Ideal) (server : Rows) (p : Point) (acts : List Act) (fates : List Fate) (halt : Halt) (rounds : List Round) (count : ℕ)
      (at : Standing) (later : List Act) → Stands secret name v t server p.rows → AreServed server acts fates → AreRounds (from p) rounds at
      → EndsAlone count at later halt → acts ≡ flat_map acts_of rounds ++ later → Goes secret name begins v t server p.rows acts fates halt
  rounds_lead v t server p acts fates halt rounds count at later k over went ends is =
      subst (λ (xs : List Act). Goes secret name begins v t server p.rows xs fates halt) (sym is)
      (rounds_on laws keeps says secret differ name begins rounds (from p) at later halt went
      (λ x u other fs z o. end_goes laws keeps says secret differ name begins x u other count at later fs halt z ends o) v t server fates k
      (subst (λ (xs : List Act). AreServed server xs fates) is over))

  -- ---- what they leave

  module _ (v : World) (t : Ideal) (server : Rows) (p : Point) (acts : List Act) (fates : List Fate) (k : Stands secret name v t server p.rows)
      (over : AreServed server acts fates) (rounds : List Round) (at : Standing) (went : AreRounds (from p) rounds at)
      (acts_are : acts ≡ flat_map acts_of rounds)
      (leads : Leads secret v t name (call_steps name begins acts fates) (rows_served server fates) (rows_done p.rows acts)) where
    left_rows : rows_done p.rows acts ≡ at.rows
    left_rows = ap (λ (xs : List Act). rows_done p.rows xs) acts_are ∙ sym (rounds_rows rounds (from p) at went)

    device_rows : leads.next.devices name ≡ at.rows
    device_rows = leads.device_is ∙ left_rows

    module _ (x : IsWhole at.rows at.last) where
      abbrev given_last : Answer
      given_last = answer.Sync x.conflicts None x.retrieved x.saved x.token

      ends : LastApplies (flat_map acts_of rounds) given_last
      ends = last_applies rounds (from p) at given_last went refl x.is

      as_ends : acts ≡ ends.before ++ committed (applies ends.request given_last) ends.applied ∷ []
      as_ends = acts_are ∙ ends.is

      last_step : (before : List Happens)
          × (call_steps name begins acts fates ≡ before ++ commits name (applies ends.request given_last) ends.applied true ∷ [])
      last_step =
          let steps = commit_last name begins (applies ends.request given_last) ends.applied ends.before server fates
          (subst (λ (xs : List Act). AreServed server xs fates) as_ends over) in
          (steps.0, ap (λ (xs : List Act). call_steps name begins xs fates) as_ends ∙ steps.1)

      trace : Trace secret v t (last_step.0 ++ commits name (applies ends.request given_last) ends.applied true ∷ []) leads.moves leads.next
      trace = subst (λ (xs : List Happens). Trace secret v t xs leads.moves leads.next) last_step.1 leads.goes

      all_left : HasAll at.rows (end_from t leads.moves) name
      all_left =
          subst (λ (r : Rows). HasAll r (end_from t leads.moves) name) device_rows
          (has_all whole keeps secret differ name ends.request x.conflicts x.retrieved x.saved x.token ends.applied last_step.0 leads.moves v leads.next t
          k.holds trace)

      last_left : HoldsLast (end_from t leads.moves) name
      last_left =
          holds_last keeps secret differ name ends.request given_last ends.applied laws.apart last_step.0 leads.moves v leads.next t k.holds trace

      alone_left : HoldsAlone (end_from t leads.moves) name
      alone_left =
          let one = last_applied keeps secret differ name ends.request given_last ends.applied last_step.0 leads.moves v leads.next t k.holds trace in
          let there : Holds secret leads.next (end_from t leads.moves) =
          (trace_from keeps secret differ (call_steps name begins acts fates) leads.moves v leads.next t k.holds leads.goes).1 in
          applied_alone (one.before.devices name) one.commits_so.words one.commits_so.left ends.request x.conflicts x.retrieved x.saved x.token ends.applied
          one.commits_so.step secret leads.next (end_from t leads.moves) there name one.commits_so.on.own
          (subst (λ (r : Rows). NoneWaits r) (sym device_rows) x.none_waits) last_left

      kept : KeepsKeys p.rows at.rows
      kept = rounds_keep rounds (from p) at went

      pub brought : (identifier token : Bytes) (present : KeySet) (q : Point) → Unasked identifier token present v t p → q.rows ≡ at.rows
          → Brought name identifier token present leads.next (end_from t leads.moves) q
      brought identifier token present q pre is = record {
        none_asked = subst (λ (r : Rows). AsksNoSet r) (sym is) (kept.asked ∙ pre.0);
        keys = subst (λ (r : Rows). HasKeys r identifier token present) (sym is) (keys_kept p.rows at.rows identifier token present kept pre.1);
        alone = alone_left;
        whole = subst (λ (r : Rows). HasAll r (end_from t leads.moves) name) (sym is) all_left;
        none_waits = subst (λ (r : Rows). NoneWaits r) (sym is) x.none_waits;
      }

  -- from wherever no set is asked for
  pub exchanges_goes : (identifier token : Bytes) (present : KeySet)
      → PieceGoes secret name begins Exchanges (Unasked identifier token present) (Brought name identifier token present)
  exchanges_goes identifier token present v t server p acts fates (is_over halt) k pre x over =
      rounds_lead v t server p acts fates halt x.rounds (p.made + length x.rounds) x.at x.later k over x.went
      (over_alone (p.made + length x.rounds) x.at x.later halt x.ends) x.acts_are
  exchanges_goes identifier token present v t server p acts fates (goes_on q) k pre x over =
      let done = all_done (p.made + length x.rounds) x.at x.later q x.ends in
      let ends : EndsAlone (p.made + length x.rounds) x.at x.later (answered nothing x.at.words) = inl (done.0, done.1, refl) in
      let leads : Leads secret v t name (call_steps name begins acts fates) (rows_served server fates) (rows_done p.rows acts) =
      rounds_lead v t server p acts fates (answered nothing x.at.words) x.rounds (p.made + length x.rounds) x.at x.later k over x.went ends x.acts_are in
      let acts_are : acts ≡ flat_map acts_of x.rounds =
      x.acts_are ∙ ap (λ (xs : List Act). flat_map acts_of x.rounds ++ xs) done.1 ∙ append-nil (flat_map acts_of x.rounds) in
      let rows_are : q.rows ≡ x.at.rows = ap (λ (z : Point). z.rows) done.2 in (
        leads,
        left_rows v t server p acts fates k over x.rounds x.at x.went acts_are leads ∙ sym rows_are,
        brought v t server p acts fates k over x.rounds x.at x.went acts_are leads (is_whole x.at.rows x.at.last done.0) identifier token present q pre
            rows_are,
      )

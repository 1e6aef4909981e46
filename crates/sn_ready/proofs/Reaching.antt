-- Where the exchanges of a sync lead whose answers were applied: to a world in which the invariant holds, with the rows that they leave, and in which the
-- device holds its account's last set still.
use Rattle.std.proofs.Common.{◌≡◌, ℕ, List, [], ◌∷◌, ◌++◌, true, refl, sym, ap, ◌∙◌, subst, append_assoc}
use Rattle.std.specs.List.{flat_map}
use Rattle.rand_chacha.specs.ChaCha.{ChaCha}
use Rattle.sn_account.specs.Rule.{Rule}
use Rattle.sn_device.specs.Asking.{said}
use Rattle.sn_device.specs.Runs.{Act, AreRounds, IsRound, Round, Standing, acts_of, asked, commits as committed, posting}
use Rattle.sn_device.specs.Sending.{PostsAll}
use Rattle.sn_device.specs.States.{IsSound}
use Rattle.sn_device.specs.Steps.{applies, posts}
use Rattle.sn_laws.specs.Each.{Each}
use Rattle.sn_laws.specs.Lookups.{Bytes}
use Rattle.sn_laws.specs.Runs.{end_from}
use Rattle.sn_laws.specs.declared.ideal.Ideal.{Ideal}
use Rattle.sn_rows.specs.Table.{Rows, rows_after}
use Rattle.sn_rows.specs.declared.change.Change.{Change}
use Rattle.sn_sync.specs.Fits.{FitsRequest}
use Rattle.sn_sync.specs.declared.answer.Answer.{Answer}
use Rattle.sn_sync.specs.declared.request.Request.{Request}
use Rattle.sn_world.proofs.AskLemmas.{is_answered}
use Rattle.sn_world.proofs.CallLemmas.{Stands, commit_leads, stands_then}
use Rattle.sn_world.proofs.FittingRows.{steps_fit_uuids}
use Rattle.sn_ready.proofs.LastKept.{posting_last, round_last}
use Rattle.sn_ready.specs.Ready.{HoldsLast}
use Rattle.sn_world.proofs.Reaching.{over_posting}
use Rattle.sn_world.proofs.RoundLemmas.{RoundLaws, rounds_go, sent_of}
use Rattle.sn_world.specs.Answering.{Arrives}
use Rattle.sn_world.specs.Calls.{AreServed, Fate, Leads, rows_behind, rows_served, served}
use Rattle.sn_world.specs.Committing.{AreDifferent}
use Rattle.sn_world.specs.Fitting.{FitsUuids}
use Rattle.sn_world.specs.Happens.{commits}
use Rattle.sn_world.specs.Holds.{TokensDiffer}
use Rattle.sn_world.specs.Laws.{Keeps, SaysSome}
use Rattle.sn_world.specs.Rounds.{round_steps}
use Rattle.sn_world.specs.World.{World}

-- ---- a round

-- its request is answered
record RoundServed (server : Rows) (r : Request) (given : Answer) (acts : List Act) (fates : List Fate) : Type 0 where
  now : ℕ
  changes : List Change
  later : List Fate
  fates_are : fates ≡ served now changes given true ∷ later
  fits : FitsRequest r
  rule : Rule server r now changes given
  over : AreServed (rows_after server changes) acts later

round_served : (server : Rows) (r : Request) (given : Answer) (applied : List Change) (acts : List Act) (fates : List Fate)
    → AreServed server (asked r (said given) ∷ committed (applies r given) applied ∷ acts) fates → RoundServed server r given acts fates
round_served server r given applied acts [] over = absurd over
round_served server r given applied acts (fate ∷ fates) (one, others) =
    let a = is_answered server r given (said given) fate refl one in
    record {
      now = a.now;
      changes = a.changes;
      later = fates;
      fates_are = ap (λ (f : Fate). f ∷ fates) a.fate_is;
      fits = a.fits;
      rule = a.rule;
      over = subst (λ (f : Fate). AreServed (rows_behind server f) acts fates) a.fate_is others;
    }

over_round : (server : Rows) (round : Round) (acts : List Act) (fates : List Fate) → AreServed server (acts_of round ++ acts) fates
    → RoundServed server round.request round.given acts fates
over_round server round acts fates over =
    let tail : List Act = asked round.request (said round.given) ∷ committed (applies round.request round.given) round.applied ∷ [] in
    let parts : acts_of round ++ acts ≡ posting round.numbers round.posted ++ (tail ++ acts) = append_assoc (posting round.numbers round.posted) tail acts in
    round_served server round.request round.given round.applied acts fates
    (over_posting server round.numbers round.posted (tail ++ acts) fates (subst (λ (xs : List Act). AreServed server xs fates) parts over))

module _ (laws : RoundLaws) (keeps : Keeps) (says : SaysSome) (secret : Bytes) (differ : TokensDiffer secret) (name : Bytes) where
  -- ---- a posting

  pub record Ready (server rows : Rows) : Type 0 where
    pub world : World
    pub ideal : Ideal
    pub stands : Stands secret name world ideal server rows
    pub last : HoldsLast ideal name

  pub ready_at : (v : World) (t : Ideal) (server rows : Rows) (words : ChaCha) (numbers : List ℕ) (posted : List Change) → Stands secret name v t server rows
      → HoldsLast t name → PostsAll rows numbers posted → AreDifferent numbers → Ready server (rows_after rows posted)
  ready_at v t server rows words [] [] k last all apart = record { world = v; ideal = t; stands = k; last = last }
  ready_at v t server rows words [] (c ∷ posted) k last all apart = absurd all
  ready_at v t server rows words (n ∷ ns) posted k last all apart =
      let one = commit_leads keeps says secret differ name v t server rows words words (posts (n ∷ ns)) posted k (all, refl) apart in
      record {
        world = one.next;
        ideal = end_from t one.moves;
        stands = stands_then keeps says secret differ name v t (commits name (posts (n ∷ ns)) posted true ∷ []) server (rows_after rows posted) k.holds one;
        last = posting_last secret v t name (n ∷ ns) posted server (rows_after rows posted) one last;
      }

  -- ---- uuids

  pub sound_at : (v : World) (t : Ideal) (server rows : Rows) → Stands secret name v t server rows → IsSound rows
  sound_at v t server rows k = subst IsSound k.device_is (k.holds.sound name)

  uuids_round : (v : World) (t : Ideal) (server : Rows) (at : Standing) (round : Round) (after : Standing) → Stands secret name v t server at.rows
      → HoldsLast t name → FitsUuids at.rows → IsRound at round after → FitsUuids after.rows
  uuids_round v t server at round after k last have is =
      let sends = is.sends in
      let apart = (sent_of laws.sends secret v t name at.rows k.holds k.device_is round.numbers round.posted round.request is.ready sends).0 in
      let there : Ready server (rows_after at.rows round.posted) =
      ready_at v t server at.rows at.words round.numbers round.posted k last sends.posts_them apart in
      let ready : Ready server is.ready = subst (λ (z : Rows). Ready server z) (sym sends.ready_is) there in
      let have_ready : FitsUuids is.ready =
      subst FitsUuids (sym sends.ready_is)
      (steps_fit_uuids at.rows at.words at.words (posts round.numbers) round.posted (sound_at v t server at.rows k) have (sends.posts_them, refl)) in
      subst FitsUuids (ap (λ (z : Standing). z.rows) (sym is.after_is))
      (steps_fit_uuids is.ready at.words is.left (applies round.request round.given) round.applied
      (sound_at ready.world ready.ideal server is.ready ready.stands) have_ready is.step)

  -- ---- all exchanges

  -- what is done behind them is done over what the first fates leave the server, from a world in which the invariant holds
  pub record Reaches (server : Rows) (at : Standing) (later : List Act) (fates : List Fate) : Type 0 where
    pub world : World
    pub ideal : Ideal
    pub met : List Fate
    pub rest : List Fate
    pub fates_are : fates ≡ met ++ rest
    pub stands : Stands secret name world ideal (rows_served server met) at.rows
    pub last : HoldsLast ideal name
    pub have : FitsUuids at.rows
    pub over : AreServed (rows_served server met) later rest
    pub arrive : Each Arrives rest

  pub rounds_reach : (rounds : List Round) (at after : Standing) (later : List Act) (v : World) (t : Ideal) (server : Rows) (fates : List Fate)
      → Stands secret name v t server at.rows → HoldsLast t name → FitsUuids at.rows → AreRounds at rounds after
      → AreServed server (flat_map acts_of rounds ++ later) fates → Each Arrives fates → Reaches server after later fates
  rounds_reach [] at after later v t server fates k last have same over arrive =
      let rows_are : at.rows ≡ after.rows = ap (λ (z : Standing). z.rows) (sym same) in
      record {
        world = v;
        ideal = t;
        met = [];
        rest = fates;
        fates_are = refl;
        stands = subst (λ (z : Rows). Stands secret name v t server z) rows_are k;
        last = last;
        have = subst FitsUuids rows_are have;
        over = over;
        arrive = arrive;
      }
  rounds_reach (round ∷ rounds) at after later v t server fates k last have (between, is, rest) over arrive =
      let parts : (acts_of round ++ flat_map acts_of rounds) ++ later ≡ acts_of round ++ (flat_map acts_of rounds ++ later) =
      append_assoc (acts_of round) (flat_map acts_of rounds) later in
      let a = over_round server round (flat_map acts_of rounds ++ later) fates (subst (λ (xs : List Act). AreServed server xs fates) parts over) in
      let g = rounds_go laws secret v t name at round between a.now a.changes differ k.holds a.fits k.device_is is
      (subst (λ (x : Rows). Rule x round.request a.now a.changes round.given) (sym k.server_is) a.rule) in
      let one : Leads secret v t name (round_steps name round a.now a.changes) (rows_after server a.changes) between.rows = record {
        moves = g.moves;
        next = g.next;
        goes = g.goes;
        server_is = g.server ∙ ap (λ (x : Rows). rows_after x a.changes) k.server_is;
        device_is = g.device;
      } in
      let there = stands_then keeps says secret differ name v t (round_steps name round a.now a.changes) (rows_after server a.changes) between.rows k.holds one in
      let arrive_on : Each Arrives a.later = (subst (λ (fs : List Fate). Each Arrives fs) a.fates_are arrive).1 in
      let x = rounds_reach rounds between after later one.next (end_from t one.moves) (rows_after server a.changes) a.later there
      (round_last keeps laws.apart secret differ name round a.now a.changes one.moves v one.next t k.holds one.goes)
      (uuids_round v t server at round between k last have is) rest a.over arrive_on in
      record {
        world = x.world;
        ideal = x.ideal;
        met = served a.now a.changes round.given true ∷ x.met;
        rest = x.rest;
        fates_are = a.fates_are ∙ ap (λ (fs : List Fate). served a.now a.changes round.given true ∷ fs) x.fates_are;
        stands = x.stands;
        last = x.last;
        have = x.have;
        over = x.over;
        arrive = x.arrive;
      }

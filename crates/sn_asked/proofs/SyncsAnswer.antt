-- A sync of a device that keeps a set as asked for is answered, or ends by one of the causes that are named.
use Rattle.std.proofs.Common.{◌≡◌, ◌⊎◌, ◌+◌, ℕ, List, [], ◌∷◌, ◌++◌, length, Some, true, refl, sym, ap, ◌∙◌, subst, inl, inr}
use Rattle.std.proofs.lemmas.List.{append-nil}
use Rattle.rand_chacha.specs.ChaCha.{ChaCha}
use Rattle.sn_asked.proofs.Resolving.{Comes, EndsSo, IsAdopted, resolves_so}
use Rattle.sn_asked.specs.Asked.{AskedSyncEnds, AskedSyncsAnswer, DropsIt, EveryAskedSyncAnswers, HearsAccount, HearsParams, IsLastSet, TracedAskedSyncsAnswer}
use Rattle.sn_device.proofs.Facts.{one_set, one_slot, one_owner}
use Rattle.sn_device.specs.Asking.{said}
use Rattle.sn_device.specs.Changing.{HoldsAsked}
use Rattle.sn_device.specs.Runs.{Act, AnswersNothing, Exchanges, Halt, Point, Resolves, Run, SyncsUnder, Then, Turn, answered, asked, begun, commits as committed, goes_on, is_over, nothing, sync}
use Rattle.sn_device.specs.States.{HasSets}
use Rattle.sn_device.specs.Steps.{adopts}
use Rattle.sn_laws.proofs.Facts.{each_back, each_front}
use Rattle.sn_laws.specs.Each.{Each}
use Rattle.sn_laws.specs.Laws.{VersionsRise}
use Rattle.sn_laws.specs.Lookups.{Bytes, empty}
use Rattle.sn_laws.specs.Runs.{end}
use Rattle.sn_laws.specs.declared.ideal.Ideal.{Ideal}
use Rattle.sn_ready.proofs.ChangeEnds.{ends_done, row_of}
use Rattle.sn_ready.proofs.RowEnds.{Fails, row_stops}
use Rattle.sn_ready.specs.Passwds.{RowDone, StopsRow}
use Rattle.sn_ready.specs.Ready.{HoldsLast}
use Rattle.sn_rows.specs.Table.{Rows, rows_after}
use Rattle.sn_rows.specs.declared.device_rows.OwnerRow.{OwnerRow}
use Rattle.sn_rows.specs.declared.key.Slot.TheVariants.{Asked, Present}
use Rattle.sn_sets.specs.declared.sets.Sets.{Sets}
use Rattle.sn_string.specs.declared.params.KeySet.{KeySet}
use Rattle.sn_sync.specs.Laws.{HasOneStamp}
use Rattle.sn_sync.specs.declared.answer.Answer.TheVariants as answer
use Rattle.sn_world.proofs.CallFronts.{Split, split}
use Rattle.sn_world.proofs.RoundLemmas.{RoundLaws}
use Rattle.sn_world.specs.Answering.{Arrives, IsAnswered}
use Rattle.sn_world.specs.Calls.{AreServed, Fate, begins_none, rows_served, served}
use Rattle.sn_world.specs.Delivered.{FirstFits, TracesFit}
use Rattle.sn_world.specs.Fitting.{FitsUuids}
use Rattle.sn_world.specs.Holds.{Holds, TokensDiffer}
use Rattle.sn_world.specs.Laws.{ChangedAdopts, HoldsFirst, IsOnlySet, Keeps, SaysSome, TraceKeeps}
use Rattle.sn_world.specs.World.{World, at_first}

pub record AskedLaws : Type 0 where
  pub rounds : RoundLaws
  pub keeps : Keeps
  pub says : SaysSome
  pub changed : ChangedAdopts
  pub rise : VersionsRise
  pub one_stamp : HasOneStamp

module _ (laws : AskedLaws) (secret : Bytes) (differ : TokensDiffer secret) (name : Bytes) (w : World) (s : Ideal) (h : Holds secret w s) (owner : OwnerRow)
    (sets : Sets) (holds : HasSets (w.devices name) owner sets) (set : KeySet) (asked_is : sets.asked ≡ Some set)
    (known : IsOnlySet s set ⊎ (IsLastSet s name set ⊎ HoldsLast s name)) (have : FitsUuids (w.devices name)) (words : ChaCha) (acts : List Act)
    (fates : List Fate) (over : AreServed w.server acts fates) (arrive : Each Arrives fates) where
  abbrev rows : Rows
  rows = w.devices name

  abbrev Ends : Halt → Type 0
  Ends halt = DropsIt s name owner sets.present set rows w.server acts fates halt
      ⊎ AskedSyncEnds s name owner sets.present set w.server rows words acts fates halt

  failed : (halt : Halt) → Fails halt → Ends halt
  failed halt fails = inr (inr fails)

  abbrev ComesTo : List Act → List Fate → Turn → Type 0
  ComesTo = Comes laws.rounds.apart laws.keeps laws.says laws.changed secret differ name w s h owner sets holds set asked_is known have words

  abbrev IsAdoptedTo : List Act → List Fate → Point → Type 0
  IsAdoptedTo = IsAdopted laws.rounds.apart laws.keeps laws.says laws.changed secret differ name w s h owner sets holds set asked_is known have words

  -- ---- it ends before the set is adopted

  ended : (halt : Halt)
      → EndsSo laws.rounds.apart laws.keeps laws.says laws.changed secret differ name w s h owner sets holds set asked_is known have words acts
      fates halt → Ends halt
  ended halt (inl drops) = inl drops
  ended halt (inr (inl (first, ends))) = inr (inl (record { first = first; ends = inr ends }))
  ended halt (inr (inr fails)) = failed halt fails

  -- ---- it is adopted

  module _ (front : List Act) (q : Point) (later : List Act) (are : acts ≡ front ++ later) (met others : List Fate) (fates_are : fates ≡ met ++ others)
      (x : IsAdoptedTo front met q) (later_over : AreServed (rows_served w.server met) later others) where
    abbrev second : Point
    second = record { made = 2; rows = rows_after rows x.hears.adopted; words = x.hears.left }

    abbrev server : Rows
    server = rows_after w.server x.hears.changes

    -- the second request, and its fate
    abbrev last_act : Act
    last_act = asked x.hears.request (said (answer.Account x.hears.token x.hears.identifier x.hears.uuid))

    abbrev last_fate : Fate
    last_fate = served x.hears.now x.hears.changes (answer.Account x.hears.token x.hears.identifier x.hears.uuid) true

    over_there : AreServed server later others
    over_there =
        subst (λ (z : Rows). AreServed z later others)
        (ap (rows_served w.server) x.first.fates_are ∙ ap (rows_served w.server) x.hears.fates_are ∙ ap (rows_served server) x.none) later_over

    abbrev first : HearsParams w.server owner acts fates
    first = record {
      number = x.first.number;
      named = x.first.named;
      params = x.first.params;
      present_is = x.first.present_is;
      later = x.first.later ++ later;
      acts_are = are ∙ ap (λ (xs : List Act). xs ++ later) x.first.acts_are;
      now = x.first.now;
      others = x.first.others ++ others;
      fates_are = fates_are ∙ ap (λ (fs : List Fate). fs ++ others) x.first.fates_are;
    }

    abbrev hears : HearsAccount s name owner sets.present set w.server rows words acts fates first
    hears = record {
      request = x.hears.request;
      next = x.hears.next;
      token = x.hears.token;
      identifier = x.hears.identifier;
      uuid = x.hears.uuid;
      now = x.hears.now;
      changes = x.hears.changes;
      others = others;
      fates_are = ap (λ (fs : List Fate). fs ++ others) (x.hears.fates_are ∙ ap (λ (fs : List Fate). last_fate ∷ fs) x.none);
      session = x.hears.session;
      adopted = x.hears.adopted;
      left = x.hears.left;
      step = x.hears.step;
      later = committed (adopts set x.hears.token) x.hears.adopted ∷ later;
      later_is = ap (λ (xs : List Act). xs ++ later) (x.hears.later_is ∙ ap (λ (xs : List Act). last_act ∷ xs) x.later_is);
    }

    resolved : (halt : Halt) → IsAnswered second.rows second.words later halt ⊎ StopsRow 2 server second.rows second.words later others halt → Ends halt
    resolved halt ends = inr (inl (record { first = first; ends = inl (record { hears = hears; later = later; later_is = refl; ends = ends }) }))

    stopped : (halt : Halt) → Exchanges second later (is_over halt) → Ends halt
    stopped halt ex =
        by (row_stops laws.rounds laws.keeps laws.says laws.rise laws.one_stamp secret differ name x.next x.state server second later others x.stands
        x.holds_last x.fits over_there (each_back Arrives met others (subst (λ (fs : List Fate). Each Arrives fs) fates_are arrive)) halt ex)
      where
        by : StopsRow 2 server second.rows second.words later others halt ⊎ Fails halt → Ends halt
        by (inl stops) = resolved halt (inr stops)
        by (inr fails) = failed halt fails

    done : (z : Point) → Exchanges second later (goes_on z) → Ends (answered nothing z.words)
    done z ex =
        let row : RowDone second.rows second.words later = row_of second later [] later z ex (sym (append-nil later)) in
        resolved (answered nothing z.words)
        (inl (record {
          behind = row.behind;
          no_more = refl;
          done = row.done;
          is = ap (λ (y : Point). answered nothing y.words) (ends_done (2 + length ex.rounds) ex.at ex.later z ex.ends).2;
        }))

    exchanged : (turn : Turn) (halt : Halt) → Exchanges q later turn
        → (turn ≡ is_over halt) ⊎ ((z : Point) × (turn ≡ goes_on z) × (halt ≡ answered nothing z.words)) → Ends halt
    exchanged turn halt ex (inl is) =
        stopped halt (subst (λ (t : Turn). Exchanges second later t) is (subst (λ (z : Point). Exchanges z later turn) x.q_is ex))
    exchanged turn halt ex (inr (z, is, halt_is)) =
        subst Ends (sym halt_is)
        (done z (subst (λ (t : Turn). Exchanges second later t) is (subst (λ (y : Point). Exchanges y later turn) x.q_is ex)))

  -- ---- the call

  abbrev Turns : Turn → Halt → Type 0
  Turns turn halt = (turn ≡ is_over halt) ⊎ ((z : Point) × (turn ≡ goes_on z) × (halt ≡ answered nothing z.words))

  parts : (front later : List Act) → acts ≡ front ++ later → Split name begins_none w.server front later fates
  parts front later are = split name begins_none w.server front later fates (subst (λ (xs : List Act). AreServed w.server xs fates) are over)

  then_so : (turn : Turn) (halt : Halt) → Then (Resolves owner sets.present set) Exchanges (begun rows words) acts turn → Turns turn halt → Ends halt
  then_so turn halt (inl (z, so, is)) turns =
      by (resolves_so laws.rounds.apart laws.keeps laws.says laws.changed secret differ name w s h owner sets holds set asked_is known have words acts fates
      (is_over z) so over arrive) turns
    where
      by : ComesTo acts fates (is_over z) → Turns turn halt → Ends halt
      by (inl (y, same, ends)) (inl turn_is) = let halts : y ≡ halt = cc in subst Ends halts (ended y ends)
      by (inl (y, same, ends)) (inr (p, turn_is, halt_is)) = absurd (cc)
      by (inr (q, same, x)) turns = absurd (cc)
  then_so turn halt (inr (front, q, later, so, ex, are)) turns =
      by (resolves_so laws.rounds.apart laws.keeps laws.says laws.changed secret differ name w s h owner sets holds set asked_is known have words front
      z.met (goes_on q) so z.over (each_front Arrives z.met z.others (subst (λ (fs : List Fate). Each Arrives fs) z.fates_are arrive)))
    where
      z : Split name begins_none w.server front later fates
      z = parts front later are

      by : ComesTo front z.met (goes_on q) → Ends halt
      by (inl (y, same, ends)) = absurd (cc)
      by (inr (p, same, x)) =
          let same_point : p ≡ q = cc in
          exchanged front q later are z.met z.others z.fates_are (subst (λ (y : Point). IsAdoptedTo front z.met y) same_point x) z.later_over turn halt ex turns

  under_so : (turn : Turn) (halt : Halt) → SyncsUnder owner sets (begun rows words) acts turn → Turns turn halt → Ends halt
  under_so turn halt (inl (none, ex)) turns = absurd (cc)
  under_so turn halt (inr (other, is, so)) turns =
      let same : other ≡ set = cc in
      then_so turn halt (subst (λ (k : KeySet). Then (Resolves owner sets.present k) Exchanges (begun rows words) acts turn) same so) turns

  pub sync_so : (halt : Halt) → AnswersNothing (SyncsUnder owner sets) (begun rows words) acts halt → Ends halt
  sync_so halt (inl so) = under_so (is_over halt) halt so (inl refl)
  sync_so halt (inr (q, so, is)) = under_so (goes_on q) halt so (inr (q, refl, is))

-- the device's account and sets, as its rows have them
module _ (laws : AskedLaws) (secret : Bytes) (differ : TokensDiffer secret) (name : Bytes) (w : World) (s : Ideal) (h : Holds secret w s) (owner : OwnerRow)
    (present set : KeySet) (asks : HoldsAsked (w.devices name) owner present set) (known : IsOnlySet s set ⊎ (IsLastSet s name set ⊎ HoldsLast s name))
    (have : FitsUuids (w.devices name)) (least : ℕ) (words : ChaCha) (acts : List Act) (fates : List Fate) (halt : Halt)
    (over : AreServed w.server acts fates) (arrive : Each Arrives fates) where
  abbrev EndsWith : KeySet → Type 0
  EndsWith k = DropsIt s name owner k set (w.devices name) w.server acts fates halt
      ⊎ AskedSyncEnds s name owner k set w.server (w.devices name) words acts fates halt

  asked_so : Run least sync (w.devices name) words acts halt → EndsWith present
  asked_so (inl wants) = inr (inr (inl wants.1))
  asked_so (inr (inl (nobody, refuses))) = absurd (let owned = asks.owned in cc)
  asked_so (inr (inr (one, sets, holds, so))) =
      subst EndsWith (one_set (w.devices name) owner.identifier Present sets.present present has.in_use asks.in_use)
      (sync_so laws secret differ name w s h owner sets has set
      (one_slot (w.devices name) owner.identifier Asked sets.asked (Some set) has.wanted asks.wanted) known have words acts fates over arrive halt
      (subst (λ (o : OwnerRow). AnswersNothing (SyncsUnder o sets) (begun (w.devices name) words) acts halt) same so))
    where
      same : one ≡ owner
      same = one_owner (w.devices name) one owner holds.owned asks.owned

      has : HasSets (w.devices name) owner sets
      has = subst (λ (o : OwnerRow). HasSets (w.devices name) o sets) same holds

pub every_asked_sync_answers : AskedLaws → EveryAskedSyncAnswers
every_asked_sync_answers laws secret w s name owner present set least words acts fates halt differ h only asks have run over arrive =
    asked_so laws secret differ name w s h owner present set asks (inl (only set (owner, asks.owned, asks.wanted))) have least words acts fates halt over arrive
    run

-- where that set or the present one is the last, it isn't dropped
not_dropped : (s : Ideal) (name : Bytes) (owner : OwnerRow) (present set : KeySet) (rows server : Rows) (words : ChaCha) (acts : List Act) (fates : List Fate)
    (halt : Halt) → IsLastSet s name set ⊎ HoldsLast s name → DropsIt s name owner present set rows server acts fates halt
    ⊎ AskedSyncEnds s name owner present set server rows words acts fates halt → AskedSyncEnds s name owner present set server rows words acts fates halt
not_dropped s name owner present set device host words acts fates halt last (inr ends) = ends
not_dropped s name owner present set device host words acts fates halt (inl last) (inl drops) = absurd (drops.not_asked last)
not_dropped s name owner present set device host words acts fates halt (inr last) (inl drops) = absurd (drops.not_held last)

pub asked_syncs_answer : AskedLaws → AskedSyncsAnswer
asked_syncs_answer laws secret w s name owner present set least words acts fates halt differ h ready have run over arrive =
    not_dropped s name owner present set (w.devices name) w.server words acts fates halt ready.last
    (asked_so laws secret differ name w s h owner present set ready.holds (inr ready.last) have least words acts fates halt over arrive run)

pub traced_asked_syncs_answer : HoldsFirst → TraceKeeps → FirstFits → TracesFit → AskedSyncsAnswer → TracedAskedSyncsAnswer
traced_asked_syncs_answer first keep fresh traces syncs secret steps moves w name owner present set least words acts fates halt differ t ready run over
    arrive =
    syncs secret w (end moves) name owner present set least words acts fates halt differ (keep secret steps moves w differ t).1 ready
    (traces secret at_first w empty steps moves differ (first secret) fresh.devices t name) run over arrive

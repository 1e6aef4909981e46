-- A whole sync is steps of the world, whichever of its requests and answers are lost.
use Rattle.std.proofs.Common.{◌≡◌, ℕ, List, [], ◌∷◌, ◌++◌, length, Option, None, true, false, refl, sym, ap, ◌∙◌, subst, inl, inr, append_assoc}
use Rattle.std.specs.List.{flat_map}
use Rattle.std.proofs.lemmas.List.{append-nil}
use Rattle.rand_chacha.specs.ChaCha.{ChaCha}
use Rattle.sn_account.specs.Rule.{Rule}
use Rattle.sn_account.specs.Tells.{AreApart, uuids}
use Rattle.sn_device.specs.Asking.{Reply, said}
use Rattle.sn_device.specs.Runs.{Act, AreRounds, EndsBehind, EndsExchange, Halt, IsRound, Round, Run, Sends, Standing, acts_of, asked, commits as committed, items_of, posting, nothing, rows_done, sync}
use Rattle.sn_device.proofs.Facts.{EndsAlone, ExchangesAlone, synced_alone}
use Rattle.sn_device.specs.Sending.{PostsAll}
use Rattle.sn_device.specs.States.{Bytes}
use Rattle.sn_device.specs.Steps.{Step, applies, posts}
use Rattle.sn_device.specs.declared.error.ClientError.TheVariants as refusal
use Rattle.sn_laws.specs.Runs.{end_from}
use Rattle.sn_laws.specs.declared.ideal.Ideal.{Ideal}
use Rattle.sn_rows.specs.Table.{Rows, rows_after}
use Rattle.sn_rows.specs.declared.change.Change.{Change}
use Rattle.sn_string.specs.declared.params.KeySet.{KeySet}
use Rattle.sn_sync.specs.Fits.{FitsRequest}
use Rattle.sn_sync.specs.declared.answer.Answer.{Answer}
use Rattle.sn_sync.specs.declared.request.Request.{Request}
use Rattle.sn_world.proofs.AskLemmas.{ask_leads, is_answered}
use Rattle.sn_world.proofs.CallLemmas.{Goes, Stands, answers_goes, broken_leads, commit_leads, leads_on, leads_to_on, refused_here, refuses_goes, stands_then, stops_goes}
use Rattle.sn_world.proofs.PresentSets.{unasked}
use Rattle.sn_world.proofs.RoundLemmas.{RoundLaws, goes_on_applied, round_goes, round_steps_with, sent_of}
use Rattle.sn_world.specs.Calls.{AreServed, Fate, IsServed, Leads, LeadsTo, SyncsGo, begins_none, call_steps, rows_behind, rows_served, served}
use Rattle.sn_world.specs.Committing.{AreDifferent}
use Rattle.sn_world.specs.Happens.{Happens, commits}
use Rattle.sn_world.specs.Holds.{Holds, TokensDiffer}
use Rattle.sn_world.specs.Laws.{Keeps, SaysSome}
use Rattle.sn_world.specs.Making.{MakesOf, SendsTokens}
use Rattle.sn_world.specs.Plain.{AsksNoSet}
use Rattle.sn_world.specs.World.{World}

-- ---- lists of acts

-- the posting asks for nothing
pub over_posting : (server : Rows) (numbers : List ℕ) (posted : List Change) (acts : List Act) (fates : List Fate)
    → AreServed server (posting numbers posted ++ acts) fates → AreServed server acts fates
over_posting server [] posted acts fates over = over
over_posting server (n ∷ ns) posted acts fates over = over

-- a round: its request is answered
pub record RoundServed (server : Rows) (r : Request) (given : Answer) (acts : List Act) (fates : List Fate) : Type 0 where
  pub now : ℕ
  pub changes : List Change
  pub later : List Fate
  pub fates_are : fates ≡ served now changes given true ∷ later
  pub fits : FitsRequest r
  pub rule : Rule server r now changes given
  pub over : AreServed (rows_after server changes) acts later

pub round_served : (server : Rows) (r : Request) (given : Answer) (applied : List Change) (acts : List Act) (fates : List Fate)
    → AreServed server (asked r (said given) ∷ committed (applies r given) applied ∷ acts) fates → RoundServed server r given acts fates
round_served server r given applied acts [] over = absurd over
round_served server r given applied acts (fate ∷ fates) (one, others) =
    let a = is_answered server r given (said given) fate refl one in
    record {
      now = a.now;
      changes = a.changes;
      later = fates;
      fates_are = ap (λ (f : Fate). f ∷ fates) a.fate_is;
      fits = a.fits;
      rule = a.rule;
      over = subst (λ (f : Fate). AreServed (rows_behind server f) acts fates) a.fate_is others;
    }

abbrev pub round_of : List ℕ → List Change → Request → Answer → List Change → Round
round_of numbers posted r given applied = record { numbers = numbers; posted = posted; request = r; given = given; applied = applied }

pub over_round : (server : Rows) (numbers : List ℕ) (posted : List Change) (r : Request) (given : Answer) (applied : List Change) (acts : List Act) (fates : List Fate)
    → AreServed server (acts_of (round_of numbers posted r given applied) ++ acts) fates → RoundServed server r given acts fates
over_round server [] posted r given applied acts fates over = round_served server r given applied acts fates over
over_round server (n ∷ ns) posted r given applied acts fates over = round_served server r given applied acts fates over

pub steps_of_round : (name : Bytes) (begins : Request → Option KeySet) (numbers : List ℕ) (posted : List Change) (r : Request) (given : Answer)
    (applied : List Change) (acts : List Act) (now : ℕ) (changes : List Change) (later : List Fate)
    → round_steps_with name (begins r) (round_of numbers posted r given applied) now changes ++ call_steps name begins acts later
    ≡ call_steps name begins (acts_of (round_of numbers posted r given applied) ++ acts) (served now changes given true ∷ later)
steps_of_round name begins [] posted r given applied acts now changes later = refl
steps_of_round name begins (n ∷ ns) posted r given applied acts now changes later = refl

pub rows_of_round : (rows : Rows) (numbers : List ℕ) (posted : List Change) (r : Request) (given : Answer) (applied : List Change) (acts : List Act)
    → PostsAll rows numbers posted
    → rows_done (rows_after (rows_after rows posted) applied) acts ≡ rows_done rows (acts_of (round_of numbers posted r given applied) ++ acts)
rows_of_round rows [] [] r given applied acts all = refl
rows_of_round rows [] (c ∷ posted) r given applied acts all = absurd all
rows_of_round rows (n ∷ ns) posted r given applied acts all = refl

-- the rows after a round and further acts
pub rows_over : (at : Standing) (round : Round) (after : Standing) (acts : List Act) → IsRound at round after
    → rows_done after.rows acts ≡ rows_done at.rows (acts_of round ++ acts)
rows_over at round after acts is =
    ap (λ (z : Standing). rows_done z.rows acts) is.after_is ∙ ap (λ (x : Rows). rows_done (rows_after x round.applied) acts) is.sends.ready_is
    ∙ rows_of_round at.rows round.numbers round.posted round.request round.given round.applied acts is.sends.posts_them

module _ (laws : RoundLaws) (keeps : Keeps) (says : SaysSome) (secret : Bytes) (differ : TokensDiffer secret) (name : Bytes)
    (begins : Request → Option KeySet) where
  -- ---- an exchange that ends the call

  -- what is done behind these acts, wherever they lead
  abbrev pub GoesOver : Rows → Rows → List Act → List Fate → Halt → Type 0
  GoesOver server rows acts fates halt = (v : World) (t : Ideal) → Stands secret name v t server rows → Goes secret name begins v t server rows acts fates halt

  pub posting_goes : (v : World) (t : Ideal) (server rows : Rows) (words : ChaCha) (numbers : List ℕ) (posted : List Change) (acts : List Act) (fates : List Fate)
      (halt : Halt) → Stands secret name v t server rows → PostsAll rows numbers posted → AreDifferent numbers → GoesOver server (rows_after rows posted) acts fates halt
      → Goes secret name begins v t server rows (posting numbers posted ++ acts) fates halt
  posting_goes v t server rows words [] [] acts fates halt k all apart on = on v t k
  posting_goes v t server rows words [] (c ∷ posted) acts fates halt k all apart on = absurd all
  posting_goes v t server rows words (n ∷ ns) posted acts fates halt k all apart on =
      let one = commit_leads keeps says secret differ name v t server rows words words (posts (n ∷ ns)) posted k (all, refl) apart in
      leads_to_on keeps says secret differ name v t (commits name (posts (n ∷ ns)) posted true ∷ []) (call_steps name begins acts fates) server
      (rows_after rows posted) (rows_served server fates) (rows_done (rows_after rows posted) acts) halt one
      (on one.next (end_from t one.moves) (stands_then keeps says secret differ name v t (commits name (posts (n ∷ ns)) posted true ∷ []) server
      (rows_after rows posted) k.holds one))

  -- behind its request
  module _ (v : World) (t : Ideal) (server ready : Rows) (words : ChaCha) (r : Request) (reply : Reply) (fate : Fate) (k : Stands secret name v t server ready)
      (of : MakesOf ready (begins r) r) (apart : AreApart (uuids (items_of r))) (tokens : SendsTokens ready r) (over : IsServed server r reply fate) where
    pub asked_leads : Leads secret v t name (call_steps name begins (asked r reply ∷ []) (fate ∷ [])) (rows_behind server fate) ready
    asked_leads = ask_leads keeps says secret differ name begins v t server ready k r of reply fate over

    abbrev pub AskedGoes : Halt → Type 0
    AskedGoes halt = Goes secret name begins v t server ready (asked r reply ∷ []) (fate ∷ []) halt

    -- the answer is applied
    pub applied_leads : (given : Answer) (changes : List Change) (left : ChaCha) → reply ≡ said given → Step ready words (applies r given) changes left
        → Leads secret v t name (call_steps name begins (asked r reply ∷ []) (fate ∷ []) ++ commits name (applies r given) changes true ∷ [])
        (rows_behind server fate) (rows_after ready changes)
    applied_leads given changes left is step =
        let a = is_answered server r given reply fate is over in
        let g = goes_on_applied laws secret differ name (begins r) v t k.holds words left a.now a.changes changes r given a.fits
        (subst (λ (x : Rows). MakesOf x (begins r) r) (sym k.device_is) of) apart (subst (λ (x : Rows). SendsTokens x r) (sym k.device_is) tokens)
        (subst (λ (x : Rows). Rule x r a.now a.changes given) (sym k.server_is) a.rule)
        (subst (λ (x : Rows). Step x words (applies r given) changes left) (sym k.device_is) step) in
        subst (λ (f : Fate). Leads secret v t name (call_steps name begins (asked r reply ∷ []) (f ∷ []) ++ commits name (applies r given) changes true ∷ [])
        (rows_behind server f) (rows_after ready changes)) (sym a.fate_is)
        (record {
          moves = g.moves;
          next = g.next;
          goes = g.goes;
          server_is = g.server ∙ ap (λ (x : Rows). rows_after x a.changes) k.server_is;
          device_is = g.device ∙ ap (λ (x : Rows). rows_after x changes) k.device_is;
        })

    -- its commit isn't made
    pub not_applied : (given : Answer) (changes : List Change) → Leads secret v t name
        (call_steps name begins (asked r reply ∷ []) (fate ∷ []) ++ commits name (applies r given) changes false ∷ []) (rows_behind server fate) ready
    not_applied given changes =
        leads_on keeps says secret differ name v t (call_steps name begins (asked r reply ∷ []) (fate ∷ [])) (commits name (applies r given) changes false ∷ [])
        (rows_behind server fate) ready (rows_behind server fate) ready asked_leads
        (broken_leads keeps says secret differ name asked_leads.next (end_from t asked_leads.moves) (rows_behind server fate) ready (applies r given) changes
        (stands_then keeps says secret differ name v t (call_steps name begins (asked r reply ∷ []) (fate ∷ [])) (rows_behind server fate) ready k.holds asked_leads))

    pub behind_goes : (halt : Halt) → EndsBehind ready words r reply halt → AskedGoes halt
    behind_goes halt (inl (why, fails, is)) = subst AskedGoes (sym is) asked_leads
    behind_goes halt (inr (inl is)) = subst AskedGoes (sym is) asked_leads
    behind_goes halt (inr (inr (given, said_so, inl (why, unapplied, is)))) = subst AskedGoes (sym is) asked_leads
    behind_goes halt (inr (inr (given, said_so, inr (changes, left, step, inl (batch, is))))) =
        subst AskedGoes (sym is) (applied_leads given changes left said_so step, not_applied given changes)
    behind_goes halt (inr (inr (given, said_so, inr (changes, left, step, inr (inl (large, is)))))) = subst AskedGoes (sym is) asked_leads
    behind_goes halt (inr (inr (given, said_so, inr (changes, left, step, inr (inr is))))) = subst AskedGoes (sym is) asked_leads

  pub last_goes : (v : World) (t : Ideal) (server ready : Rows) (words : ChaCha) (r : Request) (reply : Reply) (fates : List Fate) (halt : Halt)
      → Stands secret name v t server ready → MakesOf ready (begins r) r → AreApart (uuids (items_of r)) → SendsTokens ready r → AreServed server (asked r reply ∷ []) fates
      → EndsBehind ready words r reply halt → Goes secret name begins v t server ready (asked r reply ∷ []) fates halt
  last_goes v t server ready words r reply [] halt k of apart tokens over ends = absurd over
  last_goes v t server ready words r reply (fate ∷ fates) halt k of apart tokens (one, none) ends =
      subst (λ (fs : List Fate). Goes secret name begins v t server ready (asked r reply ∷ []) (fate ∷ fs) halt) (sym none)
      (behind_goes v t server ready words r reply fate k of apart tokens one halt ends)

  module _ (v : World) (t : Ideal) (server rows : Rows) (words : ChaCha) (fates : List Fate) (halt : Halt) (k : Stands secret name v t server rows)
      (numbers : List ℕ) (posted : List Change) (r : Request) (ready : Rows) (sends : Sends rows numbers posted r ready) where
    pub sends_so : AreDifferent numbers × ((set : Option KeySet) → MakesOf ready set r) × AreApart (uuids (items_of r)) × SendsTokens ready r
    sends_so = sent_of laws.sends secret v t name rows k.holds k.device_is numbers posted r ready sends

    pub exchange_goes : (acts : List Act) → EndsExchange words numbers posted r ready acts halt → AreServed server acts fates
        → Goes secret name begins v t server rows acts fates halt
    exchange_goes acts (inl (some, none, stops)) over =
        stops_goes keeps says secret differ name begins v t server rows acts fates halt words words (posts numbers) posted k (sends.posts_them, refl) sends_so.0 none
        stops over
    exchange_goes acts (inr (batch, inl (is, ends))) over =
        let as_posted : posting numbers posted ++ [] ≡ acts = append-nil (posting numbers posted) ∙ sym is in
        let beyond : AreServed server [] fates =
        over_posting server numbers posted [] fates (subst (λ (xs : List Act). AreServed server xs fates) (sym as_posted) over) in
        subst (λ (xs : List Act). Goes secret name begins v t server rows xs fates halt) as_posted
        (posting_goes v t server rows words numbers posted [] fates halt k sends.posts_them sends_so.0
        (λ x u z. refuses_goes keeps says secret differ name begins x u server (rows_after rows posted) [] fates halt refusal.Memory z (refl, ends) beyond))
    exchange_goes acts (inr (batch, inr (reply, is, ends))) over =
        let beyond : AreServed server (asked r reply ∷ []) fates =
        over_posting server numbers posted (asked r reply ∷ []) fates (subst (λ (xs : List Act). AreServed server xs fates) is over) in
        let ready_is : ready ≡ rows_after rows posted = sends.ready_is in
        subst (λ (xs : List Act). Goes secret name begins v t server rows xs fates halt) (sym is)
        (posting_goes v t server rows words numbers posted (asked r reply ∷ []) fates halt k sends.posts_them sends_so.0
        (λ x u z. last_goes x u server (rows_after rows posted) words r reply fates halt z (subst (λ (y : Rows). MakesOf y (begins r) r) ready_is (sends_so.1 (begins r))) sends_so.2 (subst (λ (y : Rows). SendsTokens y r) ready_is sends_so.3)
        beyond (subst (λ (y : Rows). EndsBehind y words r reply halt) ready_is ends)))

  pub end_goes : (v : World) (t : Ideal) (server : Rows) (count : ℕ) (at : Standing) (acts : List Act) (fates : List Fate) (halt : Halt)
      → Stands secret name v t server at.rows → EndsAlone count at acts halt → AreServed server acts fates
      → Goes secret name begins v t server at.rows acts fates halt
  end_goes v t server count at acts fates halt k (inl (done, none, is)) over =
      answers_goes keeps says secret differ name begins v t server at.rows acts fates halt nothing at.words k none is over
  end_goes v t server count at acts fates halt k (inr (inl (all, due, refuses))) over =
      refuses_goes keeps says secret differ name begins v t server at.rows acts fates halt refusal.RoundsUsed k refuses over
  end_goes v t server count at acts fates halt k (inr (inr (inl (few, ends)))) over =
      exchange_goes v t server at.rows at.words fates halt k ends.numbers ends.posted ends.request ends.ready ends.sends acts ends.ends_so over
  end_goes v t server count at acts fates halt k (inr (inr (inr wants))) over =
      refuses_goes keeps says secret differ name begins v t server at.rows acts fates halt refusal.Memory k wants over

  -- ---- rounds

  -- what is done behind a round, over whatever rows it leaves the server
  abbrev pub GoesLater : Rows → List Act → Halt → Type 0
  GoesLater rows acts halt = (v : World) (t : Ideal) (server : Rows) (fates : List Fate) → Stands secret name v t server rows → AreServed server acts fates
      → Goes secret name begins v t server rows acts fates halt

  pub one_round : (v : World) (t : Ideal) (server : Rows) (at : Standing) (round : Round) (after : Standing) (acts : List Act) (fates : List Fate) (halt : Halt)
      → Stands secret name v t server at.rows → IsRound at round after → AreServed server (acts_of round ++ acts) fates → GoesLater after.rows acts halt
      → Goes secret name begins v t server at.rows (acts_of round ++ acts) fates halt
  one_round v t server at round after acts fates halt k is over on =
      let a = over_round server round.numbers round.posted round.request round.given round.applied acts fates over in
      let g = round_goes laws secret v t name (begins round.request) at round after a.now a.changes differ k.holds a.fits k.device_is is
      (subst (λ (x : Rows). Rule x round.request a.now a.changes round.given) (sym k.server_is) a.rule) in
      let one : Leads secret v t name (round_steps_with name (begins round.request) round a.now a.changes) (rows_after server a.changes) after.rows = record {
        moves = g.moves;
        next = g.next;
        goes = g.goes;
        server_is = g.server ∙ ap (λ (x : Rows). rows_after x a.changes) k.server_is;
        device_is = g.device;
      } in
      let own : List Happens = round_steps_with name (begins round.request) round a.now a.changes in
      let then_stands = stands_then keeps says secret differ name v t own (rows_after server a.changes) after.rows k.holds one in
      let all : LeadsTo secret v t name (own ++ call_steps name begins acts a.later)
      (rows_served (rows_after server a.changes) a.later) (rows_done after.rows acts) halt =
      leads_to_on keeps says secret differ name v t own (call_steps name begins acts a.later) (rows_after server a.changes)
      after.rows (rows_served (rows_after server a.changes) a.later) (rows_done after.rows acts) halt one
      (on one.next (end_from t one.moves) (rows_after server a.changes) a.later then_stands a.over) in
      subst (λ (fs : List Fate). Goes secret name begins v t server at.rows (acts_of round ++ acts) fs halt) (sym a.fates_are)
      (subst (λ (x : Rows). LeadsTo secret v t name
      (call_steps name begins (acts_of round ++ acts) (served a.now a.changes round.given true ∷ a.later)) (rows_served (rows_after server a.changes) a.later) x halt)
      (rows_over at round after acts is)
      (subst (λ (steps : List Happens). LeadsTo secret v t name steps (rows_served (rows_after server a.changes) a.later) (rows_done after.rows acts) halt)
      (steps_of_round name begins round.numbers round.posted round.request round.given round.applied acts a.now a.changes a.later) all))

  pub rounds_on : (rounds : List Round) (at after : Standing) (acts : List Act) (halt : Halt) → AreRounds at rounds after → GoesLater after.rows acts halt
      → GoesLater at.rows (flat_map acts_of rounds ++ acts) halt
  rounds_on [] at after acts halt e on = subst (λ (z : Standing). GoesLater z.rows acts halt) e on
  rounds_on (round ∷ rounds) at after acts halt (between, is, later) on =
      subst (λ (xs : List Act). GoesLater at.rows xs halt) (sym (append_assoc (acts_of round) (flat_map acts_of rounds) acts))
      (λ v t server fates k over. one_round v t server at round between (flat_map acts_of rounds ++ acts) fates halt k is over
      (rounds_on rounds between after acts halt later on))

  -- ---- the call

  module _ (w : World) (s : Ideal) (h : Holds secret w s) (words : ChaCha) (acts : List Act) (fates : List Fate) (halt : Halt)
      (over : AreServed w.server acts fates) where
    abbrev pub here : Type 0
    here = Goes secret name begins w s w.server (w.devices name) acts fates halt

    pub exchanges_go : ExchangesAlone (w.devices name) words acts halt → here
    exchanges_go x =
        let first : Standing = record { rows = w.devices name; words = words; last = None } in
        let all : GoesLater (w.devices name) (flat_map acts_of x.rounds ++ x.later) halt =
        rounds_on x.rounds first x.at x.later halt x.went
        (λ v t server fs k o. end_goes v t server (length x.rounds) x.at x.later fs halt k x.ends o) in
        subst (λ (xs : List Act). Goes secret name begins w s w.server (w.devices name) xs fates halt) (sym x.acts_are)
        (all w s w.server fates (record { holds = h; server_is = refl; device_is = refl }) (subst (λ (xs : List Act). AreServed w.server xs fates) x.acts_are over))

    pub sync_goes : (least : ℕ) → AsksNoSet (w.devices name) → Run least sync (w.devices name) words acts halt → here
    sync_goes least none (inl wants) = refused_here keeps says secret differ name begins w s h words acts fates halt over refusal.Memory wants
    sync_goes least none (inr (inl (nobody, refuses))) = refused_here keeps says secret differ name begins w s h words acts fates halt over refusal.NoAccount refuses
    sync_goes least none (inr (inr (owner, sets, holds, syncs))) =
        exchanges_go (synced_alone (w.devices name) words owner sets acts halt (unasked (w.devices name) owner sets none holds) syncs)

pub syncs_go : RoundLaws → Keeps → SaysSome → SyncsGo
syncs_go laws keeps says secret w s name least words acts fates halt differ h none runs over = record {
  begins = begins_none;
  of_call = λ r. tt;
  leads = sync_goes laws keeps says secret differ name begins_none w s h words acts fates halt over least none runs;
}

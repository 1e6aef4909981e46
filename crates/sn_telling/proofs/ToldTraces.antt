-- What is said of a call's batches and exchanges is what its trace says.
use Rattle.std.proofs.Common.{◌≡◌, ◌++◌, List, [], ◌∷◌, Bool, true, false, Option, Some, None, sym, ap, ◌∙◌, subst}
use Rattle.sn_device.specs.Runs.{Act, Call, asked, commits as committed, rows_done}
use Rattle.sn_laws.specs.Lookups.{Bytes}
use Rattle.sn_laws.specs.Reached.{DeletionsStay}
use Rattle.sn_laws.specs.Runs.{end_from}
use Rattle.sn_laws.specs.declared.ideal.Ideal.{Ideal}
use Rattle.sn_laws.specs.declared.moves.Move.{Move}
use Rattle.sn_link.specs.Laws.{AreReadable}
use Rattle.sn_moves.specs.Laws.{SaysAnswered, SaysPlainly}
use Rattle.sn_order.specs.Laws.{KindsTell}
use Rattle.sn_order.specs.Order.{AreInOrder, is_sync}
use Rattle.sn_recorder.specs.Told.{AreTold}
use Rattle.sn_recorder.specs.declared.exchanged.Exchanged.{Exchanged}
use Rattle.sn_rows.specs.Table.{Rows, rows_after}
use Rattle.sn_rows.specs.declared.change.Change.{Change}
use Rattle.sn_saying.specs.Laws.{SaidOnce}
use Rattle.sn_saying.specs.Served.{IsBegunAs}
use Rattle.sn_string.specs.declared.params.KeySet.{KeySet}
use Rattle.sn_sync.specs.declared.request.Request.{Request}
use Rattle.sn_world.specs.Calls.{BeginsBy, Fate, call_steps, crashed, fate_steps, rows_behind, rows_served, served, undelivered}
use Rattle.sn_world.specs.Happens.{Happens, Trace, commits, makes}
use Rattle.sn_world.specs.Holds.{Holds, TokensDiffer}
use Rattle.sn_world.specs.Laws.{Keeps, KeptBy}
use Rattle.sn_world.specs.World.{Made, World}
use Rattle.sn_telling.specs.Laws.{AreBegunAs, IsTelling}
use Rattle.sn_telling.specs.Walking.{SaysBatch, SaysGained, SaysWalk, known_of, rows_behind_all}
use Rattle.sn_telling.specs.declared.calling.Calling.{Calling}
use Rattle.sn_telling.proofs.BegunSets.{begun_so}
use Rattle.sn_telling.proofs.StepsActs.{AreActs, Last}
use Rattle.sn_telling.proofs.StepsCalls.{IsDoneIn, RegistersBy}
use Rattle.sn_telling.proofs.ToldCommits.{Came, commit_told}
use Rattle.sn_telling.proofs.ToldServed.{FateLeads, fate_leads, rows_told}
use Rattle.sn_telling.proofs.ToldWalk.{AreOfKind, AtCommit, AtRequest, at_commit, at_request, first_so, none_before}

-- ---- the kinds of the commits

-- the steps behind those of a request are a trace
record Behind (secret : Bytes) (steps : List Happens) (next : World) : Type 0 where
  mid : World
  state : Ideal
  moves : List Move
  goes : Trace secret mid state steps moves next

behind : (secret : Bytes) (m : Made) (fate : Fate) (steps : List Happens) (w next : World) (s : Ideal) (moves : List Move)
    → Trace secret w s (fate_steps m fate ++ steps) moves next → Behind secret steps next
behind secret m undelivered steps w next s moves goes = record { mid = w; state = s; moves = moves; goes = goes }
behind secret m (served now changes given arrives) steps w next s moves (mid, first, later, does, says, goes, is) =
    record { mid = mid; state = end_from s first; moves = later; goes = goes }
behind secret m (crashed now changes given) steps w next s moves (mid, first, later, does, says, goes, is) =
    record { mid = mid; state = end_from s first; moves = later; goes = goes }

module _ (kinds : KindsTell) (secret host name : Bytes) (begins : Request → Option KeySet) where
  pub of_kind : (acts : List Act) (fates : List Fate) (batches : List (List Change)) (exchanged : List Exchanged) (w next : World) (s : Ideal) (moves : List Move)
      → AreTold host acts fates batches exchanged → Trace secret w s (call_steps name begins acts fates) moves next → AreOfKind acts
  of_kind [] fates batches exchanged w next s moves told goes = tt
  of_kind (committed what changes ∷ acts) fates [] exchanged w next s moves told goes = absurd told
  of_kind (committed what changes ∷ acts) fates (batch ∷ batches) exchanged w next s moves told (mid, first, later, does, says, goes, is) = (
    kinds (w.devices name) does.0.words does.0.left what changes does.0.step,
    of_kind acts fates batches exchanged mid next (end_from s first) later told.1 goes,
  )
  of_kind (asked r reply ∷ acts) [] batches exchanged w next s moves told goes = absurd told
  of_kind (asked r reply ∷ acts) (fate ∷ fates) batches [] w next s moves told goes = absurd told
  of_kind (asked r reply ∷ acts) (fate ∷ fates) batches (e ∷ exchanged) w next s moves told (mid, first, later, does, says, goes, is) =
      let x : Behind secret (call_steps name begins acts fates) next =
      behind secret (record { device = name; request = r; begins = begins r }) fate (call_steps name begins acts fates) mid next (end_from s first) later goes in
      of_kind acts fates batches exchanged x.mid next x.state x.moves told.1 x.goes

-- ---- all of it

module _ (law : DeletionsStay) (answers : SaysAnswered) (plainly : SaysPlainly) (once : SaidOnce) (kinds : KindsTell) (keeps : Keeps) (secret host : Bytes)
    (differ : TokensDiffer secret) (name : Bytes) (device : Rows) (call : Call) (what : Calling) (begins : Request → Option KeySet) (may : BeginsBy device call begins)
    (server_end rows_end : Rows) where
  -- the acts behind some others, where a walk stands with them
  pub record Stands (acts : List Act) (fates : List Fate) (w : World) (s : Ideal) (heard : Bool) (last : Last) (came : Option Bytes) (batches : List (List Change))
      (exchanged : List Exchanged) : Type 0 where
    pub holds : Holds secret w s
    pub order : AreInOrder heard acts
    pub of : AreActs (IsDoneIn what) (RegistersBy call what) last acts
    pub heard_it : Came last came
    pub of_kinds : AreOfKind acts
    pub readable : AreReadable host acts
    pub told : AreTold host acts fates batches exchanged

  abbrev pub Tells : List Act → List Fate → World → List Move → List Move → List (Option KeySet) → Type 0
  Tells acts fates w said moves begun = IsTelling w name begins acts fates said moves begun server_end rows_end

  -- nothing is done any more
  ended : (fates : List Fate) (w : World) (heard : Bool) (came : Option Bytes) (batches : List (List Change)) (exchanged : List Exchanged)
      (said moves : List Move) (begun : List (Option KeySet)) → fates ≡ [] → batches ≡ [] → exchanged ≡ [] → said ≡ []
      → SaysWalk what name w.server (w.devices name) heard came batches exchanged moves begun server_end rows_end → Tells [] fates w said moves begun
  ended fates w heard came batches exchanged said moves begun no_fates no_batches no_exchanges none says =
      let walk : SaysWalk what name w.server (w.devices name) heard came [] [] moves begun server_end rows_end =
      subst (λ (xs : List Exchanged). SaysWalk what name w.server (w.devices name) heard came [] xs moves begun server_end rows_end) no_exchanges
      (subst (λ (bs : List (List Change)). SaysWalk what name w.server (w.devices name) heard came bs exchanged moves begun server_end rows_end) no_batches says) in
      record {
        moves_are = walk.0 ∙ sym none;
        begun_are = walk.1;
        server_is = walk.2 ∙ sym (ap (rows_served w.server) no_fates);
        rows_are = walk.3;
      }

  -- a walk over rows that are these too
  over : (server rows one other : Rows) (heard : Bool) (came : Option Bytes) (batches : List (List Change)) (exchanged : List Exchanged) (moves : List Move)
      (begun : List (Option KeySet)) → server ≡ one → rows ≡ other
      → SaysWalk what name server rows heard came batches exchanged moves begun server_end rows_end
      → SaysWalk what name one other heard came batches exchanged moves begun server_end rows_end
  over server rows one other heard came batches exchanged moves begun same too says =
      subst (λ (v : Rows). SaysWalk what name v other heard came batches exchanged moves begun server_end rows_end) same
      (subst (λ (v : Rows). SaysWalk what name server v heard came batches exchanged moves begun server_end rows_end) too says)

  pub tells : (acts : List Act) (fates : List Fate) (w next : World) (s : Ideal) (heard : Bool) (last : Last) (came : Option Bytes) (batches : List (List Change))
      (exchanged : List Exchanged) (said moves : List Move) (begun : List (Option KeySet)) → Stands acts fates w s heard last came batches exchanged
      → Trace secret w s (call_steps name begins acts fates) said next
      → SaysWalk what name w.server (w.devices name) heard came batches exchanged moves begun server_end rows_end → Tells acts fates w said moves begun
  tells [] fates w next s heard last came batches exchanged said moves begun x goes says =
      ended fates w heard came batches exchanged said moves begun x.told.0 x.told.1 x.told.2 goes.0 says
  tells (committed did changes ∷ acts) fates w next s heard last came [] exchanged said moves begun x goes says = absurd x.told
  tells (committed did changes ∷ acts) fates w next s heard last came (batch ∷ batches) exchanged said moves begun x (mid, first, later, does, says_so, goes, is) says =
      let kept : KeptBy secret mid s first = keeps secret w mid s (commits name did changes true) first differ x.holds does says_so in
      let at : AtCommit what name w.server (w.devices name) came server_end rows_end batch batches exchanged moves begun =
      at_commit what name w.server (w.devices name) came server_end rows_end heard batch batches exchanged moves begun
      (first_so host did changes batch acts fates batches exchanged heard x.told.0 x.of_kinds.0 x.told.1 x.readable x.order.0) says in
      let first_is : at.first ≡ first =
      commit_told law answers plainly kinds secret w s x.holds name mid what last came did changes at.first first x.of.0 x.heard_it does.0 does.1 says_so
      (subst (λ (b : List Change). SaysBatch what w.server (w.devices name) name came b at.first) x.told.0 at.says) in
      let others : Tells acts fates mid later at.later begun =
      tells acts fates mid next (end_from s first) false None came batches exchanged later at.later begun
      (record { holds = kept.1; order = x.order.1; of = x.of.1; heard_it = tt; of_kinds = x.of_kinds.1; readable = x.readable; told = x.told.1 }) goes
      (over w.server (rows_after (w.devices name) batch) mid.server (mid.devices name) false came batches exchanged at.later begun (sym does.0.on.server)
      (ap (rows_after (w.devices name)) x.told.0 ∙ sym does.0.on.own) at.goes_on) in
      record {
        moves_are = at.moves_are ∙ ap (λ (l : List Move). l ++ at.later) first_is ∙ ap (λ (l : List Move). first ++ l) others.moves_are ∙ sym is;
        begun_are = others.begun_are;
        server_is = others.server_is ∙ ap (λ (v : Rows). rows_served v fates) does.0.on.server;
        rows_are = others.rows_are ∙ ap (λ (v : Rows). rows_done v acts) does.0.on.own;
      }
  tells (asked r reply ∷ acts) [] w next s heard last came batches exchanged said moves begun x goes says = absurd x.told
  tells (asked r reply ∷ acts) (fate ∷ fates) w next s heard last came batches [] said moves begun x goes says = absurd x.told
  tells (asked r reply ∷ acts) (fate ∷ fates) w next s heard last came batches (e ∷ exchanged) said moves begun x (mid, first, later, does, says_so, goes, is) says =
      let m : Made = record { device = name; request = r; begins = begins r } in
      let kept : KeptBy secret mid s first = keeps secret w mid s (makes m) first differ x.holds does says_so in
      let at : AtRequest what name w.server (w.devices name) came server_end rows_end r batches e exchanged moves begun =
      at_request what name w.server (w.devices name) came server_end rows_end heard r batches e exchanged moves begun
      (λ found reads. reads host r x.told.0.sent x.readable.0) (none_before host acts fates batches exchanged heard r x.told.1 x.of_kinds x.order.0) says in
      let y : FateLeads secret mid (end_from s first) m fate (call_steps name begins acts fates) later next =
      fate_leads once keeps secret differ mid next (end_from s first) kept.1 name r (begins r) fate (call_steps name begins acts fates) later goes in
      let begun_it : IsBegunAs r (begins r) at.begins = begun_so device (w.devices name) call what begins r at.begins may x.of.0 does.of at.begins_so in
      let served_is : at.served ≡ y.first =
      y.told_so at.begins w.server (w.devices name) at.served begun_it does.server (ap (λ (d : Bytes → Rows). d name) does.devices)
      (subst (λ (bs : List (List Change)). SaysGained w.server (w.devices name) name at.begins (Some (known_of r)) bs at.served) x.told.0.gained at.gains) in
      let server_so : y.mid.server ≡ rows_behind w.server fate = y.server_is ∙ ap (λ (v : Rows). rows_behind v fate) does.server in
      let rows_so : y.mid.devices name ≡ w.devices name = ap (λ (d : Bytes → Rows). d name) (y.devices_are ∙ does.devices) in
      let others : Tells acts fates y.mid y.later at.later at.others =
      tells acts fates y.mid next y.state (is_sync r) (Some (r, reply)) e.answer batches exchanged y.later at.later at.others
      (record { holds = y.holds; order = x.order.1; of = x.of.1; heard_it = x.told.0.came; of_kinds = x.of_kinds; readable = x.readable.1; told = x.told.1 }) y.goes
      (over (rows_behind_all w.server e.batches) (w.devices name) y.mid.server (y.mid.devices name) (is_sync r) e.answer batches exchanged at.later at.others
      (ap (rows_behind_all w.server) x.told.0.gained ∙ rows_told w.server fate ∙ sym server_so) (sym rows_so) at.goes_on) in
      record {
        moves_are = at.moves_are ∙ ap (λ (l : List Move). l ++ at.later) served_is ∙ ap (λ (l : List Move). y.first ++ l) others.moves_are ∙ sym y.moves_are
            ∙ sym (is ∙ ap (λ (l : List Move). l ++ later) says_so);
        begun_are = subst (AreBegunAs begins (asked r reply ∷ acts)) (sym at.begun_is) (begun_it, others.begun_are);
        server_is = others.server_is ∙ ap (λ (v : Rows). rows_served v fates) server_so;
        rows_are = others.rows_are ∙ ap (λ (v : Rows). rows_done v acts) rows_so;
      }

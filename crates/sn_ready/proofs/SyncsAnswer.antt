-- A sync of a device that is ready is answered, or ends by one of the causes that are named.
use Rattle.std.proofs.Common.{◌≡◌, ℕ, List, [], length, None, refl, ap, ◌∙◌, subst, inl, inr, arith}
use Rattle.rand_chacha.specs.ChaCha.{ChaCha}
use Rattle.sn_device.specs.Runs.{Act, Halt, Run, Standing, most_exchanges, sync}
use Rattle.sn_device.proofs.Facts.{EndsAlone, ExchangesAlone, synced_alone}
use Rattle.sn_device.specs.States.{HasOwner}
use Rattle.sn_laws.specs.Each.{Each}
use Rattle.sn_laws.specs.Laws.{VersionsRise}
use Rattle.sn_laws.specs.Lookups.{Bytes, empty}
use Rattle.sn_laws.specs.Runs.{end}
use Rattle.sn_laws.specs.declared.ideal.Ideal.{Ideal}
use Rattle.sn_rows.specs.Table.{Rows}
use Rattle.sn_rows.specs.declared.device_rows.OwnerRow.{OwnerRow}
use Rattle.sn_sync.specs.Laws.{HasOneStamp}
use Rattle.sn_account.specs.Tells.{uuids}
use Rattle.sn_ready.specs.Ready.{IsReady, ReadySyncsAnswer, TracedReadySyncsAnswer}
use Rattle.sn_world.proofs.PresentSets.{unasked}
use Rattle.sn_world.proofs.Reaching.{requests_of}
use Rattle.sn_ready.proofs.Stopping.{unapplied_ends, wants}
use Rattle.sn_ready.proofs.Reaching.{Reaches, rounds_reach}
use Rattle.sn_world.proofs.RoundLemmas.{RoundLaws}
use Rattle.sn_world.specs.Answering.{Arrives, AfterRounds, SyncEnds, requests_in}
use Rattle.sn_world.specs.Calls.{AreServed, Fate}
use Rattle.sn_world.specs.Delivered.{CallsFit, FirstFits, TracesFit}
use Rattle.sn_world.specs.Fitting.{FitsUuids}
use Rattle.sn_world.specs.Holds.{Holds, TokensDiffer}
use Rattle.sn_world.specs.Laws.{HoldsFirst, Keeps, SaysSome, TraceKeeps}
use Rattle.sn_world.specs.World.{World, at_first}

-- ---- how it ends

module _ (laws : RoundLaws) (keeps : Keeps) (says : SaysSome) (rise : VersionsRise) (one_stamp : HasOneStamp) (secret : Bytes)
    (differ : TokensDiffer secret) (name : Bytes) (first rows : Rows) (words : ChaCha) (acts : List Act) (fates : List Fate) where
  abbrev Ends : Halt → Type 0
  Ends halt = SyncEnds first rows words acts fates halt

  module _ (b : AfterRounds rows words acts) (x : Reaches laws keeps says secret differ name first b.at b.later fates) where
    all_requests : length b.rounds ≡ most_exchanges → b.later ≡ [] → requests_in acts ≡ most_exchanges
    all_requests count none =
        let whole = ap requests_in b.acts_are ∙ requests_of b.rounds b.later in
        let no_more : requests_in b.later ≡ 0 = ap requests_in none in
        omega arith

    alone_ends : (halt : Halt) → EndsAlone (length b.rounds) b.at b.later halt → Ends halt
    alone_ends halt (inl (done, none, is)) = inl (record { behind = b; no_more = none; done = done; is = is })
    alone_ends halt (inr (inl (count, due, (none, is)))) =
        inr (inl (record { behind = b; no_more = none; all = all_requests count none; due = due; is = is }))
    alone_ends halt (inr (inr (inl (few, e)))) =
        inr (inr (unapplied_ends laws keeps says rise one_stamp secret differ name first rows words acts fates b x halt e))
    alone_ends halt (inr (inr (inr (none, is)))) =
        inr (inr (wants laws keeps says rise one_stamp secret differ name first rows words acts fates halt is))

-- ---- the call

served_answers : RoundLaws → Keeps → SaysSome → VersionsRise → HasOneStamp → (secret : Bytes) (w : World) (s : Ideal)
    (name : Bytes) (owner : OwnerRow) (least : ℕ) (words : ChaCha) (acts : List Act) (fates : List Fate) (halt : Halt) → TokensDiffer secret
    → Holds secret w s → IsReady w s name → HasOwner (w.devices name) owner
    → FitsUuids (w.devices name) → Run least sync (w.devices name) words acts halt → AreServed w.server acts fates → Each Arrives fates
    → SyncEnds w.server (w.devices name) words acts fates halt
served_answers laws keeps says rise one_stamp secret w s name owner least words acts fates halt differ h ready owned have (inl none) over arrive =
    inr (inr (wants laws keeps says rise one_stamp secret differ name w.server (w.devices name) words acts fates halt none.1))
served_answers laws keeps says rise one_stamp secret w s name owner least words acts fates halt differ h ready owned have (inr (inl (nobody, refuses)))
    over arrive =
    absurd (cc)
served_answers laws keeps says rise one_stamp secret w s name owner least words acts fates halt differ h ready owned have
    (inr (inr (one, sets, holds, syncs))) over arrive =
    let e : ExchangesAlone (w.devices name) words acts halt =
    synced_alone (w.devices name) words one sets acts halt (unasked (w.devices name) one sets ready.unasked holds) syncs in
    let start : Standing = record { rows = w.devices name; words = words; last = None } in
    let b : AfterRounds (w.devices name) words acts = record { rounds = e.rounds; at = e.at; went = e.went; later = e.later; acts_are = e.acts_are } in
    let x = rounds_reach laws keeps says secret differ name e.rounds start e.at e.later w s w.server fates
    (record { holds = h; server_is = refl; device_is = refl }) ready.last have e.went
    (subst (λ (xs : List Act). AreServed w.server xs fates) e.acts_are over) arrive in
    alone_ends laws keeps says rise one_stamp secret differ name w.server (w.devices name) words acts fates b x halt e.ends

pub ready_syncs_answer : CallsFit → RoundLaws → Keeps → SaysSome → VersionsRise → HasOneStamp → ReadySyncsAnswer
ready_syncs_answer fit laws keeps says rise one_stamp secret w s name owner least words acts fates halt differ h ready owned uuids run over arrive =
    served_answers laws keeps says rise one_stamp secret w s name owner least words acts fates halt differ h ready owned uuids run
    (fit secret w s name least sync words acts fates halt h ready.unasked uuids tt tt run over) arrive

pub traced_ready_syncs_answer : HoldsFirst → TraceKeeps → FirstFits → TracesFit → ReadySyncsAnswer → TracedReadySyncsAnswer
traced_ready_syncs_answer first keep fresh traces syncs secret steps moves w name owner least words acts fates halt differ t ready owned run over arrive =
    syncs secret w (end moves) name owner least words acts fates halt differ (keep secret steps moves w differ t).1 ready owned
    (traces secret at_first w empty steps moves differ (first secret) fresh.devices t name) run over arrive

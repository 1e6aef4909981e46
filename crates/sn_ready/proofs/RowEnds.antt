-- How a row of exchanges ends of a device that is ready, wherever it begins within a call.
use Rattle.std.proofs.Common.{◌≡◌, ◌⊎◌, ◌+◌, ℕ, List, [], length, None, ap, ◌∙◌, subst, inl, inr, arith}
use Rattle.rand_chacha.specs.ChaCha.{ChaCha}
use Rattle.sn_device.specs.Runs.{Act, EndsSync, Exchanges, Halt, Point, Standing, broken, is_over, most_exchanges, refused}
use Rattle.sn_device.specs.Steps.{What}
use Rattle.sn_device.specs.declared.error.ClientError.TheVariants as refusal
use Rattle.sn_laws.specs.Each.{Each}
use Rattle.sn_laws.specs.Laws.{VersionsRise}
use Rattle.sn_laws.specs.Lookups.{Bytes}
use Rattle.sn_laws.specs.declared.ideal.Ideal.{Ideal}
use Rattle.sn_ready.proofs.Reaching.{Reaches, rounds_reach}
use Rattle.sn_ready.proofs.Stopping.{Stops, unapplied_ends}
use Rattle.sn_ready.specs.Passwds.{StopsRow}
use Rattle.sn_ready.specs.Ready.{HoldsLast}
use Rattle.sn_rows.specs.Table.{Rows}
use Rattle.sn_rows.specs.declared.change.Change.{Change}
use Rattle.sn_sync.specs.Laws.{HasOneStamp}
use Rattle.sn_world.proofs.CallLemmas.{Stands}
use Rattle.sn_world.proofs.Reaching.{requests_of}
use Rattle.sn_world.proofs.RoundLemmas.{RoundLaws}
use Rattle.sn_world.specs.Answering.{Arrives, AfterRounds, requests_in}
use Rattle.sn_world.specs.Calls.{AreServed, Fate}
use Rattle.sn_world.specs.Fitting.{FitsUuids}
use Rattle.sn_world.specs.Holds.{TokensDiffer}
use Rattle.sn_world.specs.Laws.{Keeps, SaysSome}
use Rattle.sn_world.specs.World.{World}

-- memory is wanting, or the device's disk fails in a commit
abbrev pub Fails : Halt → Type 0
Fails halt = (halt ≡ refused refusal.Memory) ⊎ ((what : What) × (changes : List Change) × (halt ≡ broken what changes))

-- where exchanges begin
abbrev pub from : Point → Standing
from p = record { rows = p.rows; words = p.words; last = None }

parted : (made : ℕ) (server rows : Rows) (words : ChaCha) (acts : List Act) (fates : List Fate) (halt : Halt) → Stops server rows words acts fates halt
    → StopsRow made server rows words acts fates halt ⊎ Fails halt
parted made server rows words acts fates halt (inl ran) = inl (inr (inl ran))
parted made server rows words acts fates halt (inr (inl stamps)) = inl (inr (inr stamps))
parted made server rows words acts fates halt (inr (inr rest)) = inr rest

module _ (laws : RoundLaws) (keeps : Keeps) (says : SaysSome) (rise : VersionsRise) (one_stamp : HasOneStamp) (secret : Bytes) (differ : TokensDiffer secret)
    (name : Bytes) (v : World) (t : Ideal) (server : Rows) (p : Point) (acts : List Act) (fates : List Fate) (k : Stands secret name v t server p.rows)
    (last : HoldsLast t name) (have : FitsUuids p.rows) (over : AreServed server acts fates) (arrive : Each Arrives fates) where
  abbrev Ends : Halt → Type 0
  Ends halt = StopsRow p.made server p.rows p.words acts fates halt ⊎ Fails halt

  module _ (halt : Halt) (x : Exchanges p acts (is_over halt)) where
    abbrev b : AfterRounds p.rows p.words acts
    b = record { rounds = x.rounds; at = x.at; went = x.went; later = x.later; acts_are = x.acts_are }

    reached : Reaches laws keeps says secret differ name server b.at b.later fates
    reached =
        rounds_reach laws keeps says secret differ name x.rounds (from p) x.at x.later v t server fates k last have x.went
        (subst (λ (xs : List Act). AreServed server xs fates) x.acts_are over) arrive

    all_made : p.made + length x.rounds ≡ most_exchanges → x.later ≡ [] → p.made + requests_in acts ≡ most_exchanges
    all_made count none =
        let whole = ap requests_in x.acts_are ∙ requests_of x.rounds x.later in
        let no_more : requests_in x.later ≡ 0 = ap requests_in none in
        omega arith

    ends_so : EndsSync (p.made + length x.rounds) x.at x.later (is_over halt) → Ends halt
    ends_so (inl (done, none, is)) = absurd (cc)
    ends_so (inr (h, is, inl (all, due, (none, refuses)))) =
        let same : halt ≡ h = cc in
        inl (inl (record { behind = b; no_more = none; all = all_made all none; due = due; is = same ∙ refuses }))
    ends_so (inr (h, is, inr (inl (few, ends)))) =
        let same : h ≡ halt = cc in
        subst Ends same
        (parted p.made server p.rows p.words acts fates h
        (unapplied_ends laws keeps says rise one_stamp secret differ name server p.rows p.words acts fates b reached h ends))
    ends_so (inr (h, is, inr (inr (none, refuses)))) = let same : halt ≡ h = cc in inr (inl (same ∙ refuses))

    pub row_stops : Ends halt
    row_stops = ends_so x.ends

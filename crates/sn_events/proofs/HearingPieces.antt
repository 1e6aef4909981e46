-- A sync and a change of password, piece by piece: one that ended in no want of memory never heard of one at the server.
use Rattle.std.proofs.Common.{◌≡◌, ◌≤◌, ◌+◌, ◌^◌, ℕ, suc, List, [], ◌∷◌, ◌++◌, length, None, refl, sym, ap, subst, inl, inr, arith, length-append}
use Rattle.std.specs.Prelude.{codes, ⊤}
use Rattle.std.specs.Int.{to_be_bytes, w32}
use Rattle.std.specs.List.{flat_map}
use Rattle.rand_chacha.specs.ChaCha.{ChaCha}
use Rattle.sn_device.specs.Asking.{Reply, lost, said, unheard, unread}
use Rattle.sn_device.specs.Runs.{Act, AdoptsOrDrops, AdoptsOrKeeps, AnswersChange, AnswersNothing, AsksFor, AsksForNew, AsksHost, ChangesTo, CommitsStep, Drops, DropsOrKeeps, EndsBy, EndsSync, Exchanges, Finds, FindsParams, Halt, Hears, IsBatch, Point, Resolves, Run, Standing, StopsAt, SyncsUnder, Then, Turn, acts_of, begun, broken, change_to, goes_on, is_over, passwd, refused, sync}
use Rattle.sn_device.specs.Steps.{Forgets, What, adopts, asks, forgets}
use Rattle.sn_device.specs.declared.error.ClientError.{ClientError}
use Rattle.sn_device.specs.declared.error.ClientError.TheVariants as refusal
use Rattle.sn_events.proofs.Hearing.{account_other, exchange_hears, hears_both, no_acts, params_other, rounds_hear, said_other}
use Rattle.sn_events.specs.Answers.{IsPlain, IsWant}
use Rattle.sn_laws.specs.Lookups.{Bytes}
use Rattle.sn_link.specs.Laws.{HearsNoWant, IsWanting}
use Rattle.sn_rows.specs.Spelling.{spelled}
use Rattle.sn_rows.specs.Table.{Removes, Rows}
use Rattle.sn_rows.specs.declared.change.Change.{Change}
use Rattle.sn_rows.specs.declared.change.Change.TheVariants.{Put, Remove}
use Rattle.sn_rows.specs.declared.device_rows.OwnerRow.{OwnerRow}
use Rattle.sn_rows.specs.declared.key.Key.{Key}
use Rattle.sn_rows.specs.declared.key.Key.TheVariants as key
use Rattle.sn_rows.specs.declared.key.Slot.TheVariants.{Asked}
use Rattle.sn_server.specs.Replies.{no_memory}
use Rattle.sn_sets.specs.declared.sets.Sets.{Sets}
use Rattle.sn_string.specs.declared.params.KeySet.{KeySet}
use Rattle.sn_string.specs.declared.params.Params.{Params}
use Rattle.sn_sync.specs.declared.answer.Answer.{Answer}
use Rattle.sn_sync.specs.declared.answer.Answer.TheVariants as answer
use Rattle.sn_sync.specs.declared.request.Request.{Request}
use Rattle.sn_sync.specs.declared.request.Request.TheVariants as request

-- ---- a piece

abbrev Piece : Type 1
Piece = Point → List Act → Turn → Type 0

-- the call goes on, or ends in no want of memory
abbrev IsPlainTurn : Turn → Type 0
IsPlainTurn (goes_on q) = ⊤
IsPlainTurn (is_over halt) = IsPlain halt

-- then it heard of none in this piece
abbrev Heard : Piece → Type 0
Heard piece = (p : Point) (acts : List Act) (turn : Turn) → IsPlainTurn turn → piece p acts turn → HearsNoWant acts

-- nor was it the answer with which the piece goes on
abbrev HeardEach : (Answer → Piece) → Type 0
HeardEach next = (given : Answer) (p : Point) (acts : List Act) (turn : Turn) → IsPlainTurn turn → next given p acts turn → ¬ (given ≡ no_memory) × HearsNoWant acts

plain_over : (halt : Halt) (turn : Turn) → turn ≡ is_over halt → IsPlainTurn turn → IsPlain halt
plain_over halt turn is plain = subst IsPlainTurn is plain

no_want : (why : ClientError) (turn : Turn) → turn ≡ is_over (refused why) → IsPlainTurn turn → IsWant why → ⊥
no_want why turn is plain = let never : IsWant why → ⊥ = plain_over (refused why) turn is plain in never

ends_hear : (why : ClientError) → Heard (EndsBy why)
ends_hear why p acts turn plain (none, is) = no_acts acts none

then_hear : (first next : Piece) → Heard first → Heard next → Heard (Then first next)
then_hear first next one two p acts turn plain (inl (halt, by_first, is)) = one p acts (is_over halt) (plain_over halt turn is plain) by_first
then_hear first next one two p acts turn plain (inr (front, q, later, by_first, by_next, is)) =
    subst HearsNoWant (sym is) (hears_both front later (one p front (goes_on q) tt by_first) (two q later turn plain by_next))

commit_hears : (what : What) → Heard (CommitsStep what)
commit_hears what p acts turn plain (inl ends) = ends_hear refusal.Memory p acts turn plain ends
commit_hears what p acts turn plain (inr (changes, left, step, inl (batch, one, goes))) = subst HearsNoWant (sym one) tt
commit_hears what p acts turn plain (inr (changes, left, step, inr (halt, none, stops, is))) = no_acts acts none

-- ---- a request

hears_hear : (next : Answer → Piece) → HeardEach next → (reply : Reply) (p : Point) (acts : List Act) (turn : Turn) → IsPlainTurn turn → Hears next reply p acts turn
    → ¬ (IsWanting reply) × HearsNoWant acts
hears_hear next so lost p acts turn plain (inl (none, is)) = (λ want. let impossible : ⊥ = cc in impossible, no_acts acts none)
hears_hear next so lost p acts turn plain (inr (none, is)) = (λ want. let impossible : ⊥ = cc in impossible, no_acts acts none)
hears_hear next so unheard p acts turn plain (none, is) = (λ want. let impossible : ⊥ = cc in impossible, no_acts acts none)
hears_hear next so (unread at) p acts turn plain (inl (none, is)) = (λ want. let impossible : ⊥ = cc in impossible, no_acts acts none)
hears_hear next so (unread at) p acts turn plain (inr (none, is)) = (λ want. let impossible : ⊥ = cc in impossible, no_acts acts none)
hears_hear next so (said given) p acts turn plain (inl (none, is)) = absurd (no_want refusal.Memory turn is plain tt)
hears_hear next so (said given) p acts turn plain (inr goes) =
    let rest = so given p acts turn plain goes in
    (said_other (said given) given refl rest.0, rest.1)

asks_hear : (r : Request) (next : Answer → Piece) → HeardEach next → Heard (AsksHost r next)
asks_hear r next so p acts turn plain (inl (none, is)) = no_acts acts none
asks_hear r next so p acts turn plain (inr (inl (most, (none, is)))) = no_acts acts none
asks_hear r next so p acts turn plain (inr (inr (less, (reply, later, is, hears)))) =
    subst HearsNoWant (sym is) (hears_hear next so reply (record { made = suc p.made; rows = p.rows; words = p.words }) later turn plain hears)

-- ---- a set that was asked for is dropped

forget_length : (change : Change) → Removes change (key.Set Asked) → length (spelled (change ∷ [])) ≤ 2 ^ 30
forget_length (Put row) removes = absurd (let impossible : ⊥ = cc in impossible)
forget_length (Remove at) removes =
    subst (λ (k : Key). length (spelled (Remove k ∷ [])) ≤ 2 ^ 30) (sym removes.key_is) (omega (arith, length-append (to_be_bytes w32 1) (2 ∷ [])))

-- one removal is few enough for a batch
forget_fits : (rows : Rows) (changes : List Change) → Forgets rows changes → IsBatch changes
forget_fits rows changes x = subst IsBatch (sym x.changes_are) (forget_length x.change x.removes)

over_same : (halt other : Halt) → is_over halt ≡ is_over other → halt ≡ other
over_same halt other is = cc

stops_plain : (rows : Rows) (changes : List Change) (halt : Halt) → Forgets rows changes → StopsAt forgets changes halt → IsPlain halt → ⊥
stops_plain rows changes halt step (inl (batch, is)) plain = let never : ⊥ = subst IsPlain is plain in never
stops_plain rows changes halt step (inr (inl (large, is))) plain = large (forget_fits rows changes step)
stops_plain rows changes halt step (inr (inr is)) plain = let never : ⊤ → ⊥ = subst IsPlain is plain in never tt

forgets_plain : (p : Point) (acts : List Act) (halt : Halt) → CommitsStep forgets p acts (is_over halt) → IsPlain halt → ⊥
forgets_plain p acts halt (inl (none, is)) plain = no_want refusal.Memory (is_over halt) is plain tt
forgets_plain p acts halt (inr (changes, left, step, inl (batch, one, is))) plain = absurd cc
forgets_plain p acts halt (inr (changes, left, step, inr (other, none, stops, is))) plain =
    stops_plain p.rows changes other step.0 stops (subst IsPlain (over_same halt other is) plain)

-- behind a refusal that says that memory was wanting the call ends in that
drops_other : (status : ℕ) (tag : Bytes) (p : Point) (acts : List Act) (turn : Turn) → IsPlainTurn turn → Drops (refusal.Refused status tag) p acts turn → ¬ (status ≡ 503)
drops_other status tag p acts turn plain (inl (halt, by_first, is)) = absurd (forgets_plain p acts halt by_first (plain_over halt turn is plain))
drops_other status tag p acts turn plain (inr (front, q, later, by_first, (none, is), joined)) = no_want (refusal.Refused status tag) turn is plain

drops_hear : (why : ClientError) → Heard (Drops why)
drops_hear why = then_hear (CommitsStep forgets) (EndsBy why) (commit_hears forgets) (ends_hear why)

-- ---- what became of a change is found out

refused_other : (given : Answer) (status : ℕ) (tag : Bytes) (more : _) → given ≡ answer.Refused status tag more → ¬ (status ≡ 503) → ¬ (given ≡ no_memory)
refused_other given status tag more is other = λ want.
    let same : status ≡ 503 = cc in
    other same

drops_or_keeps : (status : ℕ) (tag : Bytes) (p : Point) (acts : List Act) (turn : Turn) → IsPlainTurn turn → DropsOrKeeps status tag p acts turn → ¬ (status ≡ 503) × HearsNoWant acts
drops_or_keeps status tag p acts turn plain (inl (is, drops)) =
    (drops_other status tag p acts turn plain drops, drops_hear (refusal.Refused status tag) p acts turn plain drops)
drops_or_keeps status tag p acts turn plain (inr (other, (none, is))) = (no_want (refusal.Refused status tag) turn is plain, no_acts acts none)

adopts_or_drops : (set : KeySet) → HeardEach (AdoptsOrDrops set)
adopts_or_drops set (answer.Account token identifier uuid) p acts turn plain x =
    (account_other (answer.Account token identifier uuid) token identifier uuid refl, commit_hears (adopts set token) p acts turn plain x)
adopts_or_drops set (answer.Refused status tag more) p acts turn plain x =
    (refused_other (answer.Refused status tag more) status tag more refl (drops_other status tag p acts turn plain x), drops_hear (refusal.Refused status tag) p acts turn plain x)
adopts_or_drops set (answer.Params params) p acts turn plain x = absurd x
adopts_or_drops set (answer.Sync conflicts cursor retrieved saved token) p acts turn plain x = absurd x

adopts_or_keeps : (set : KeySet) → HeardEach (AdoptsOrKeeps set)
adopts_or_keeps set (answer.Account token identifier uuid) p acts turn plain x =
    (account_other (answer.Account token identifier uuid) token identifier uuid refl, commit_hears (adopts set token) p acts turn plain x)
adopts_or_keeps set (answer.Refused status tag more) p acts turn plain x =
    let rest = drops_or_keeps status tag p acts turn plain x in
    (refused_other (answer.Refused status tag more) status tag more refl rest.0, rest.1)
adopts_or_keeps set (answer.Params params) p acts turn plain x = absurd x
adopts_or_keeps set (answer.Sync conflicts cursor retrieved saved token) p acts turn plain x = absurd x

module _ (owner : OwnerRow) (present set : KeySet) where
  finds_params : (params : Params) → Heard (FindsParams owner present set params)
  finds_params params p acts turn plain (inl (unmade, again)) = asks_hear (change_to owner present set) (AdoptsOrDrops set) (adopts_or_drops set) p acts turn plain again
  finds_params params p acts turn plain (inr (other, inl (made, signs))) =
      asks_hear (request.SignIn owner.identifier set.pw) (AdoptsOrKeeps set) (adopts_or_keeps set) p acts turn plain signs
  finds_params params p acts turn plain (inr (other, inr (neither, drops))) = drops_hear (refusal.Refused 401 (codes "bad-auth")) p acts turn plain drops

  finds_hear : HeardEach (Finds owner present set)
  finds_hear (answer.Params params) p acts turn plain x = (params_other (answer.Params params) params refl, finds_params params p acts turn plain x)
  finds_hear (answer.Refused status tag more) p acts turn plain x =
      let rest = drops_or_keeps status tag p acts turn plain x in
      (refused_other (answer.Refused status tag more) status tag more refl rest.0, rest.1)
  finds_hear (answer.Account token identifier uuid) p acts turn plain x = absurd x
  finds_hear (answer.Sync conflicts cursor retrieved saved token) p acts turn plain x = absurd x

  resolves_hear : Heard (Resolves owner present set)
  resolves_hear = asks_hear (request.Params owner.identifier) (Finds owner present set) finds_hear

  answers_change : HeardEach (AnswersChange owner present set)
  answers_change (answer.Account token identifier uuid) p acts turn plain x =
      (account_other (answer.Account token identifier uuid) token identifier uuid refl, commit_hears (adopts set token) p acts turn plain x)
  answers_change (answer.Refused status tag more) p acts turn plain (inl (is, resolves)) =
      (refused_other (answer.Refused status tag more) status tag more refl (λ want. absurd (omega (arith, is, want))), resolves_hear p acts turn plain resolves)
  answers_change (answer.Refused status tag more) p acts turn plain (inr (other, drops)) = (
    refused_other (answer.Refused status tag more) status tag more refl (drops_other status tag p acts turn plain drops),
    drops_hear (refusal.Refused status tag) p acts turn plain drops,
  )
  answers_change (answer.Params params) p acts turn plain x = absurd x
  answers_change (answer.Sync conflicts cursor retrieved saved token) p acts turn plain x = absurd x

-- ---- exchanges until nothing is left

end_hears : (count : ℕ) (at : Standing) (acts : List Act) (turn : Turn) → IsPlainTurn turn → EndsSync count at acts turn → HearsNoWant acts
end_hears count at acts turn plain (inl (done, none, goes)) = no_acts acts none
end_hears count at acts turn plain (inr (halt, is, inl (all, due, refuses))) = no_acts acts refuses.0
end_hears count at acts turn plain (inr (halt, is, inr (inl (few, x)))) =
    exchange_hears at.words x.numbers x.posted x.request x.ready acts halt (plain_over halt turn is plain) x.ends_so
end_hears count at acts turn plain (inr (halt, is, inr (inr wants))) = no_acts acts wants.0

exchanges_hear : Heard Exchanges
exchanges_hear p acts turn plain x =
    let first : Standing = record { rows = p.rows; words = p.words; last = None } in
    subst HearsNoWant (sym x.acts_are)
    (hears_both (flat_map acts_of x.rounds) x.later (rounds_hear x.rounds first x.at x.went) (end_hears _ x.at x.later turn plain x.ends))

-- ---- the calls

syncs_hear : (owner : OwnerRow) (sets : Sets) → Heard (SyncsUnder owner sets)
syncs_hear owner sets p acts turn plain (inl (none, exchanges)) = exchanges_hear p acts turn plain exchanges
syncs_hear owner sets p acts turn plain (inr (set, some, syncs)) =
    then_hear (Resolves owner sets.present set) Exchanges (resolves_hear owner sets.present set) exchanges_hear p acts turn plain syncs

answers_hear : (piece : Piece) → Heard piece → (p : Point) (acts : List Act) (halt : Halt) → IsPlain halt → AnswersNothing piece p acts halt → HearsNoWant acts
answers_hear piece so p acts halt plain (inl over) = so p acts (is_over halt) plain over
answers_hear piece so p acts halt plain (inr (q, goes, is)) = so p acts (goes_on q) tt goes

pub sync_hears : (least : ℕ) (rows : Rows) (words : ChaCha) (acts : List Act) (halt : Halt) → IsPlain halt → Run least sync rows words acts halt → HearsNoWant acts
sync_hears least rows words acts halt plain (inl (none, is)) = no_acts acts none
sync_hears least rows words acts halt plain (inr (inl (no_account, (none, is)))) = no_acts acts none
sync_hears least rows words acts halt plain (inr (inr (owner, sets, has, x))) = answers_hear (SyncsUnder owner sets) (syncs_hear owner sets) (begun rows words) acts halt plain x

new_hears : (password : Bytes) (cost : ℕ) (owner : OwnerRow) (present : KeySet) → Heard (AsksForNew password cost owner present)
new_hears password cost owner present p acts turn plain (set, left, new, goes) =
    then_hear (CommitsStep (asks set)) (AsksHost (change_to owner present set) (AnswersChange owner present set)) (commit_hears (asks set))
    (asks_hear (change_to owner present set) (AnswersChange owner present set) (answers_change owner present set))
    (record { made = p.made; rows = p.rows; words = left }) acts turn plain goes

asks_for_hears : (password : Bytes) (cost : ℕ) → Heard (AsksFor password cost)
asks_for_hears password cost p acts turn plain (inl (none, is)) = no_acts acts none
asks_for_hears password cost p acts turn plain (inr (owner, sets, has, inl (why, refuses, (none, is)))) = no_acts acts none
asks_for_hears password cost p acts turn plain (inr (owner, sets, has, inr (may, inl (most, (none, is))))) = no_acts acts none
asks_for_hears password cost p acts turn plain (inr (owner, sets, has, inr (may, inr (less, new)))) = new_hears password cost owner sets.present p acts turn plain new

changes_hear : (password : Bytes) (cost : ℕ) (owner : OwnerRow) (sets : Sets) → Heard (ChangesTo password cost owner sets)
changes_hear password cost owner sets =
    then_hear (SyncsUnder owner sets) (Then (AsksFor password cost) Exchanges) (syncs_hear owner sets)
    (then_hear (AsksFor password cost) Exchanges (asks_for_hears password cost) exchanges_hear)

pub passwd_hears : (least : ℕ) (password : Bytes) (cost : ℕ) (rows : Rows) (words : ChaCha) (acts : List Act) (halt : Halt) → IsPlain halt
    → Run least (passwd password cost) rows words acts halt → HearsNoWant acts
passwd_hears least password cost rows words acts halt plain (inl (none, is)) = no_acts acts none
passwd_hears least password cost rows words acts halt plain (inr (inl (no_account, (none, is)))) = no_acts acts none
passwd_hears least password cost rows words acts halt plain (inr (inr (owner, sets, has, inl (bad, (none, is))))) = no_acts acts none
passwd_hears least password cost rows words acts halt plain (inr (inr (owner, sets, has, inr (good, x)))) =
    answers_hear (ChangesTo password cost owner sets) (changes_hear password cost owner sets) (begun rows words) acts halt plain x

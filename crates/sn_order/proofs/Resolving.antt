-- A change of password: the requests by which a set is asked for, or by which it is found out what became of it, and its adoption or its end.
use Rattle.std.proofs.Common.{◌≡◌, ◌++◌, ℕ, Bool, true, false, List, [], ◌∷◌, Option, Some, None, refl, sym, ap, ◌∙◌, subst, inl, inr, append-nil}
use Rattle.sn_device.specs.Asking.{Reply, lost, said, unheard, unread}
use Rattle.sn_device.specs.Runs.{Act, AdoptsOrDrops, AdoptsOrKeeps, AnswersChange, AsksFor, AsksForNew, AsksHost, ChangesTo, CommitsStep, Drops, DropsOrKeeps, EndsBy, Exchanges, Finds, FindsParams, Halt, Hears, Point, Resolves, SyncsUnder, Then, Turn, asked, change_to, commits, goes_on, is_over}
use Rattle.sn_device.specs.States.{Bytes}
use Rattle.sn_device.specs.Steps.{adopts, asks, forgets}
use Rattle.sn_device.specs.declared.error.ClientError.{ClientError}
use Rattle.sn_rows.specs.declared.change.Change.{Change}
use Rattle.sn_rows.specs.declared.device_rows.OwnerRow.{OwnerRow}
use Rattle.sn_sets.specs.declared.sets.Sets.{Sets}
use Rattle.sn_string.specs.declared.params.KeySet.{KeySet}
use Rattle.sn_string.specs.declared.params.Params.{Params}
use Rattle.sn_sync.specs.declared.answer.Answer.{Answer}
use Rattle.sn_sync.specs.declared.answer.Answer.TheVariants as answer
use Rattle.sn_sync.specs.declared.request.Request.{Request}
use Rattle.sn_sync.specs.declared.request.Request.TheVariants as request
use Rattle.sn_order.specs.Order.{AreInOrder, IsBefore, comes_first, is_sync, next_request}
use Rattle.sn_order.specs.declared.kind.Kind.TheVariants as kind
use Rattle.sn_order.proofs.Exchanged.{exchanges_follow, exchanges_followed}
use Rattle.sn_order.proofs.Pieces.{AreAny, AreSync, Follows, IsFollowed, then_followed}
use Rattle.sn_order.proofs.Plain.{AreJoining, ArePlain, joining_order, plain_none, plain_order}

-- the call is over behind them, or goes on with a set that is adopted
abbrev AreTurned : List Act → Turn → Type 0
AreTurned acts (is_over halt) = ArePlain acts
AreTurned acts (goes_on q) = AreJoining acts

turned_followed : (acts : List Act) (turn : Turn) → AreTurned acts turn → IsFollowed AreSync acts turn
turned_followed acts (is_over halt) plain = plain_order acts plain
turned_followed acts (goes_on q) joins = λ rest syncs order. joining_order acts rest joins syncs order

-- ---- the commits

ends_turned : (why : ClientError) (p : Point) (acts : List Act) (turn : Turn) → EndsBy why p acts turn → AreTurned acts turn
ends_turned why p acts turn (none, is) = subst (AreTurned acts) (sym is) (plain_none acts none)

adopts_turned : (set : KeySet) (token : Bytes) (p : Point) (acts : List Act) (turn : Turn) → CommitsStep (adopts set token) p acts turn → AreTurned acts turn
adopts_turned set token p acts turn (inl ends) = ends_turned _ p acts turn ends
adopts_turned set token p acts turn (inr (changes, left, step, inl (batch, is, on))) =
    subst (AreTurned acts) (sym on) (subst AreJoining (sym is) (refl, refl))
adopts_turned set token p acts turn (inr (changes, left, step, inr (halt, none, stops, is))) = subst (AreTurned acts) (sym is) (plain_none acts none)

-- the set is dropped, or that isn't committed
forgets_plain : (p : Point) (acts : List Act) (turn : Turn) → CommitsStep forgets p acts turn → ArePlain acts
forgets_plain p acts turn (inl (none, is)) = plain_none acts none
forgets_plain p acts turn (inr (changes, left, step, inl (batch, is, on))) = subst ArePlain (sym is) (refl, refl)
forgets_plain p acts turn (inr (changes, left, step, inr (halt, none, stops, is))) = plain_none acts none

drops_turned : (why : ClientError) (p : Point) (acts : List Act) (turn : Turn) → Drops why p acts turn → AreTurned acts turn
drops_turned why p acts turn (inl (halt, over, is)) = subst (AreTurned acts) (sym is) (forgets_plain p acts (is_over halt) over)
drops_turned why p acts turn (inr (front, q, later, goes, (none, over), is)) =
    subst (AreTurned acts) (sym over)
    (subst ArePlain (sym (is ∙ ap (λ (xs : List Act). front ++ xs) none ∙ append-nil front)) (forgets_plain p front (goes_on q) goes))

keeps_turned : (status : ℕ) (tag : Bytes) (p : Point) (acts : List Act) (turn : Turn) → DropsOrKeeps status tag p acts turn → AreTurned acts turn
keeps_turned status tag p acts turn (inl (is, drops)) = drops_turned _ p acts turn drops
keeps_turned status tag p acts turn (inr (other, ends)) = ends_turned _ p acts turn ends

-- ---- the requests

hears_turned : (next : Answer → Point → List Act → Turn → Type 0)
    → ((given : Answer) (p : Point) (acts : List Act) (turn : Turn) → next given p acts turn → AreTurned acts turn)
    → (reply : Reply) (p : Point) (acts : List Act) (turn : Turn) → Hears next reply p acts turn → AreTurned acts turn
hears_turned next so lost p acts turn (inl ends) = ends_turned _ p acts turn ends
hears_turned next so lost p acts turn (inr ends) = ends_turned _ p acts turn ends
hears_turned next so unheard p acts turn ends = ends_turned _ p acts turn ends
hears_turned next so (unread at) p acts turn (inl ends) = ends_turned _ p acts turn ends
hears_turned next so (unread at) p acts turn (inr ends) = ends_turned _ p acts turn ends
hears_turned next so (said given) p acts turn (inl ends) = ends_turned _ p acts turn ends
hears_turned next so (said given) p acts turn (inr x) = so given p acts turn x

with_request : (r : Request) (reply : Reply) (later : List Act) (turn : Turn) → is_sync r ≡ false → AreTurned later turn → AreTurned (asked r reply ∷ later) turn
with_request r reply later (is_over halt) plain rest = (plain, rest)
with_request r reply later (goes_on q) plain rest = (plain, rest)

-- a request that is no sync, and what is made of its answer
asks_turned : (r : Request) (next : Answer → Point → List Act → Turn → Type 0) → is_sync r ≡ false
    → ((given : Answer) (p : Point) (acts : List Act) (turn : Turn) → next given p acts turn → AreTurned acts turn)
    → (p : Point) (acts : List Act) (turn : Turn) → AsksHost r next p acts turn → AreTurned acts turn
asks_turned r next plain so p acts turn (inl ends) = ends_turned _ p acts turn ends
asks_turned r next plain so p acts turn (inr (inl (most, ends))) = ends_turned _ p acts turn ends
asks_turned r next plain so p acts turn (inr (inr (few, (reply, later, is, hears)))) =
    subst (λ (xs : List Act). AreTurned xs turn) (sym is) (with_request r reply later turn plain (hears_turned next so reply _ later turn hears))

-- ---- what became of a change

change_turned : (set : KeySet) (given : Answer) (p : Point) (acts : List Act) (turn : Turn) → AdoptsOrDrops set given p acts turn → AreTurned acts turn
change_turned set (answer.Account token identifier uuid) p acts turn x = adopts_turned set token p acts turn x
change_turned set (answer.Refused status tag more) p acts turn x = drops_turned _ p acts turn x
change_turned set (answer.Params params) p acts turn x = absurd x
change_turned set (answer.Sync conflicts cursor retrieved saved token) p acts turn x = absurd x

sign_in_turned : (set : KeySet) (given : Answer) (p : Point) (acts : List Act) (turn : Turn) → AdoptsOrKeeps set given p acts turn → AreTurned acts turn
sign_in_turned set (answer.Account token identifier uuid) p acts turn x = adopts_turned set token p acts turn x
sign_in_turned set (answer.Refused status tag more) p acts turn x = keeps_turned status tag p acts turn x
sign_in_turned set (answer.Params params) p acts turn x = absurd x
sign_in_turned set (answer.Sync conflicts cursor retrieved saved token) p acts turn x = absurd x

params_turned : (owner : OwnerRow) (present set : KeySet) (params : Params) (p : Point) (acts : List Act) (turn : Turn)
    → FindsParams owner present set params p acts turn → AreTurned acts turn
params_turned owner present set params p acts turn (inl (same, asking)) =
    asks_turned (change_to owner present set) (AdoptsOrDrops set) refl (change_turned set) p acts turn asking
params_turned owner present set params p acts turn (inr (other, inl (same, asking))) =
    asks_turned (request.SignIn owner.identifier set.pw) (AdoptsOrKeeps set) refl (sign_in_turned set) p acts turn asking
params_turned owner present set params p acts turn (inr (other, inr (neither, drops))) = drops_turned _ p acts turn drops

finds_turned : (owner : OwnerRow) (present set : KeySet) (given : Answer) (p : Point) (acts : List Act) (turn : Turn) → Finds owner present set given p acts turn
    → AreTurned acts turn
finds_turned owner present set (answer.Params params) p acts turn x = params_turned owner present set params p acts turn x
finds_turned owner present set (answer.Refused status tag more) p acts turn x = keeps_turned status tag p acts turn x
finds_turned owner present set (answer.Account token identifier uuid) p acts turn x = absurd x
finds_turned owner present set (answer.Sync conflicts cursor retrieved saved token) p acts turn x = absurd x

resolves_turned : (owner : OwnerRow) (present set : KeySet) (p : Point) (acts : List Act) (turn : Turn) → Resolves owner present set p acts turn
    → AreTurned acts turn
resolves_turned owner present set p acts turn x =
    asks_turned (request.Params owner.identifier) (Finds owner present set) refl (finds_turned owner present set) p acts turn x

-- ---- a change that begins

answers_turned : (owner : OwnerRow) (present set : KeySet) (given : Answer) (p : Point) (acts : List Act) (turn : Turn)
    → AnswersChange owner present set given p acts turn → AreTurned acts turn
answers_turned owner present set (answer.Account token identifier uuid) p acts turn x = adopts_turned set token p acts turn x
answers_turned owner present set (answer.Refused status tag more) p acts turn (inl (is, resolves)) = resolves_turned owner present set p acts turn resolves
answers_turned owner present set (answer.Refused status tag more) p acts turn (inr (other, drops)) = drops_turned _ p acts turn drops
answers_turned owner present set (answer.Params params) p acts turn x = absurd x
answers_turned owner present set (answer.Sync conflicts cursor retrieved saved token) p acts turn x = absurd x

-- a set is kept as asked for before any request
asks_first : (next : Option Request) → IsBefore false kind.Asks next
asks_first None = tt
asks_first (Some r) = either (is_sync r)
  where
    either : (syncs : Bool) → comes_first false kind.Asks syncs ≡ true
    either true = refl
    either false = refl

with_asked : (set : KeySet) (front later : List Act) (turn : Turn) → (changes : List Change) × (front ≡ commits (asks set) changes ∷ [])
    → IsFollowed AreSync later turn → IsFollowed AreSync (front ++ later) turn
with_asked set front later (is_over halt) (changes, is) rest =
    subst (λ (xs : List Act). AreInOrder false (xs ++ later)) (sym is) (asks_first (next_request later), rest)
with_asked set front later (goes_on q) (changes, is) rest = λ more syncs order.
    subst (λ (xs : List Act). AreInOrder false ((xs ++ later) ++ more)) (sym is) (asks_first (next_request (later ++ more)), rest more syncs order)

-- the set is kept as asked for
asks_kept : (set : KeySet) (p q : Point) (front : List Act) → CommitsStep (asks set) p front (goes_on q)
    → (changes : List Change) × (front ≡ commits (asks set) changes ∷ [])
asks_kept set p q front (inl (none, is)) = absurd (let impossible : ⊥ = cc in impossible)
asks_kept set p q front (inr (changes, left, step, inl (batch, is, on))) = (changes, is)
asks_kept set p q front (inr (changes, left, step, inr (halt, none, stops, is))) = absurd (let impossible : ⊥ = cc in impossible)

-- or that isn't committed
asks_stopped : (set : KeySet) (p : Point) (front : List Act) (halt : Halt) → CommitsStep (asks set) p front (is_over halt) → AreInOrder false front
asks_stopped set p front halt (inl (none, is)) = plain_order front (plain_none front none)
asks_stopped set p front halt (inr (changes, left, step, inl (batch, is, on))) = absurd (let impossible : ⊥ = cc in impossible)
asks_stopped set p front halt (inr (changes, left, step, inr (stop, none, stops, is))) = plain_order front (plain_none front none)

new_followed : (password : Bytes) (cost : ℕ) (owner : OwnerRow) (present : KeySet) (p : Point) (acts : List Act) (turn : Turn)
    → AsksForNew password cost owner present p acts turn → IsFollowed AreSync acts turn
new_followed password cost owner present p acts turn (set, left, new, inl (halt, over, is)) =
    subst (IsFollowed AreSync acts) (sym is) (asks_stopped set _ acts halt over)
new_followed password cost owner present p acts turn (set, left, new, inr (front, q, later, goes, asking, is)) =
    subst (λ (xs : List Act). IsFollowed AreSync xs turn) (sym is)
    (with_asked set front later turn (asks_kept set _ q front goes)
    (turned_followed later turn
    (asks_turned (change_to owner present set) (AnswersChange owner present set) refl (answers_turned owner present set) q later turn asking)))

ends_followed : (why : ClientError) (p : Point) (acts : List Act) (turn : Turn) → EndsBy why p acts turn → IsFollowed AreSync acts turn
ends_followed why p acts turn ends = turned_followed acts turn (ends_turned why p acts turn ends)

asking_followed : (password : Bytes) (cost : ℕ) (p : Point) (acts : List Act) (turn : Turn) → AsksFor password cost p acts turn → IsFollowed AreSync acts turn
asking_followed password cost p acts turn (inl ends) = ends_followed _ p acts turn ends
asking_followed password cost p acts turn (inr (owner, sets, holds, inl (why, refuses, ends))) = ends_followed why p acts turn ends
asking_followed password cost p acts turn (inr (owner, sets, holds, inr (may, inl (most, ends)))) = ends_followed _ p acts turn ends
asking_followed password cost p acts turn (inr (owner, sets, holds, inr (may, inr (few, asking)))) =
    new_followed password cost owner sets.present p acts turn asking

-- ---- with the exchanges behind it

pub syncs_followed : (owner : OwnerRow) (sets : Sets) (p : Point) (acts : List Act) (turn : Turn) → SyncsUnder owner sets p acts turn
    → IsFollowed AreAny acts turn
syncs_followed owner sets p acts turn (inl (none, exchanges)) = exchanges_followed p acts turn exchanges
syncs_followed owner sets p acts turn (inr (set, some, both)) =
    then_followed AreSync (Resolves owner sets.present set) Exchanges
    (λ q front out x. turned_followed front out (resolves_turned owner sets.present set q front out x)) exchanges_followed exchanges_follow p acts turn both

change_followed : (password : Bytes) (cost : ℕ) (p : Point) (acts : List Act) (turn : Turn) → Then (AsksFor password cost) Exchanges p acts turn
    → IsFollowed AreAny acts turn
change_followed password cost p acts turn x =
    then_followed AreSync (AsksFor password cost) Exchanges (asking_followed password cost) exchanges_followed exchanges_follow p acts turn x

any_follow : (acts : List Act) (turn : Turn) → Follows AreAny acts turn
any_follow acts (is_over halt) = tt
any_follow acts (goes_on q) = λ rest. tt

pub changes_followed : (password : Bytes) (cost : ℕ) (owner : OwnerRow) (sets : Sets) (p : Point) (acts : List Act) (turn : Turn)
    → ChangesTo password cost owner sets p acts turn → IsFollowed AreAny acts turn
changes_followed password cost owner sets p acts turn x =
    then_followed AreAny (SyncsUnder owner sets) (Then (AsksFor password cost) Exchanges) (syncs_followed owner sets) (change_followed password cost)
    (λ q later out y. any_follow later out) p acts turn x

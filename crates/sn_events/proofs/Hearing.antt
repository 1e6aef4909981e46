-- A registration, a sign-in and an exchange that ended in no want of memory never heard of one at the server.
use Rattle.std.proofs.Common.{◌≡◌, ℕ, List, [], ◌∷◌, ◌++◌, refl, sym, subst, inl, inr}
use Rattle.std.specs.Prelude.{codes, ⊤}
use Rattle.std.specs.List.{flat_map}
use Rattle.rand_chacha.specs.ChaCha.{ChaCha}
use Rattle.sn_device.specs.Asking.{Fails, Reply, said}
use Rattle.sn_device.specs.Runs.{Act, AreRounds, AsksAccount, AsksFirst, CommitsOnce, EndsBehind, EndsExchange, Given, Halt, IsRound, IsUnapplied, KeepsAccount, Round, Run, SignsInAgain, SignsInBy, SignsInUnder, SignsInWith, Standing, acts_of, asked, commits, items_of, posting, refused, register, sign_in}
use Rattle.sn_device.specs.Steps.{AppliesTo, What, applies, begins, renews, adopts}
use Rattle.sn_device.specs.declared.error.ClientError.{ClientError}
use Rattle.sn_device.specs.declared.error.ClientError.TheVariants as refusal
use Rattle.sn_events.specs.Answers.{IsPlain, IsWant}
use Rattle.sn_laws.specs.Lookups.{Bytes}
use Rattle.sn_link.specs.Laws.{HearsNoWant, IsWanting}
use Rattle.sn_rows.specs.Table.{Rows}
use Rattle.sn_rows.specs.declared.change.Change.{Change}
use Rattle.sn_server.specs.Replies.{no_memory}
use Rattle.sn_sets.specs.declared.sets.Sets.{Sets}
use Rattle.sn_string.specs.declared.params.KeySet.{KeySet}
use Rattle.sn_string.specs.declared.params.Params.{Params}
use Rattle.sn_sync.specs.declared.answer.Answer.{Answer}
use Rattle.sn_sync.specs.declared.answer.Answer.TheVariants as answer
use Rattle.sn_sync.specs.declared.request.Request.{Request}
use Rattle.sn_sync.specs.declared.request.Request.TheVariants as request

-- ---- one request

pub no_acts : (acts : List Act) → acts ≡ [] → HearsNoWant acts
no_acts acts none = subst HearsNoWant (sym none) tt

one_more : (acts later : List Act) (r : Request) (reply : Reply) → acts ≡ asked r reply ∷ later → ¬ (IsWanting reply) → HearsNoWant later → HearsNoWant acts
one_more acts later r reply is unwanted rest = subst HearsNoWant (sym is) (unwanted, rest)

-- the refusal of a reply that says so is a want of memory
want_fails : (reply : Reply) (why : ClientError) → Fails reply why → IsWanting reply → IsWant why
want_fails reply why fails is =
    let so : why ≡ refusal.Refused 503 (codes "memory") = subst (λ (r : Reply). Fails r why) is fails in
    subst IsWant (sym so) refl

plain_fails : (reply : Reply) (why : ClientError) (halt : Halt) → Fails reply why → halt ≡ refused why → IsPlain halt → ¬ (IsWanting reply)
plain_fails reply why halt fails is plain = λ want.
    let never : IsWant why → ⊥ = subst IsPlain is plain in
    never (want_fails reply why fails want)

plain_memory : (halt : Halt) → halt ≡ refused refusal.Memory → IsPlain halt → ⊥
plain_memory halt is plain = let never : ⊤ → ⊥ = subst IsPlain is plain in never tt

pub said_other : (reply : Reply) (given : Answer) → reply ≡ said given → ¬ (given ≡ no_memory) → ¬ (IsWanting reply)
said_other reply given is other = λ want.
    let same : given ≡ no_memory = cc in
    other same

first_hears : (r : Request) (P : Answer → List Act → Halt → Type 0) (acts : List Act) (halt : Halt) → IsPlain halt
    → ((given : Answer) (later : List Act) → P given later halt → ¬ (given ≡ no_memory) × HearsNoWant later) → AsksFirst r P acts halt → HearsNoWant acts
first_hears r P acts halt plain goes (reply, later, is, inl (why, fails, (none, halt_is))) =
    one_more acts later r reply is (plain_fails reply why halt fails halt_is plain) (no_acts later none)
first_hears r P acts halt plain goes (reply, later, is, inr (inl (none, halt_is))) = absurd (plain_memory halt halt_is plain)
first_hears r P acts halt plain goes (reply, later, is, inr (inr (given, said_so, p))) =
    let rest = goes given later p in
    one_more acts later r reply is (said_other reply given said_so rest.0) rest.1

once_hears : (rows : Rows) (words : ChaCha) (what : What) (given : Given) (acts : List Act) (halt : Halt) → CommitsOnce rows words what given acts halt → HearsNoWant acts
once_hears rows words what given acts halt (changes, left, step, inl (batch, is, end)) = subst HearsNoWant (sym is) tt
once_hears rows words what given acts halt (changes, left, step, inr (none, stops)) = no_acts acts none

-- ---- accounts

pub account_other : (given : Answer) (token identifier uuid : Bytes) → given ≡ answer.Account token identifier uuid → ¬ (given ≡ no_memory)
account_other given token identifier uuid is = λ other. let impossible : ⊥ = cc in impossible

pub params_other : (given : Answer) (params : Params) → given ≡ answer.Params params → ¬ (given ≡ no_memory)
params_other given params is = λ other. let impossible : ⊥ = cc in impossible

account_hears : (rows : Rows) (words : ChaCha) (r : Request) (what : Bytes → Bytes → What) (acts : List Act) (halt : Halt) → IsPlain halt → AsksAccount rows words r what acts halt
    → HearsNoWant acts
account_hears rows words r what acts halt plain x = first_hears r (KeepsAccount rows words what) acts halt plain kept x
  where
    kept : (given : Answer) (later : List Act) → KeepsAccount rows words what given later halt → ¬ (given ≡ no_memory) × HearsNoWant later
    kept given later (token, identifier, uuid, is, once) = (account_other given token identifier uuid is, once_hears rows words (what uuid token) _ later halt once)

pub register_hears : (least : ℕ) (identifier password : Bytes) (cost : ℕ) (rows : Rows) (words : ChaCha) (acts : List Act) (halt : Halt) → IsPlain halt
    → Run least (register identifier password cost) rows words acts halt → HearsNoWant acts
register_hears least identifier password cost rows words acts halt plain (inl (none, is)) = no_acts acts none
register_hears least identifier password cost rows words acts halt plain (inr (inl (owner, has, (none, is)))) = no_acts acts none
register_hears least identifier password cost rows words acts halt plain (inr (inr (fresh, inl (bad, (none, is))))) = no_acts acts none
register_hears least identifier password cost rows words acts halt plain (inr (inr (fresh, inr (good, (set, left, new, x))))) =
    account_hears rows left (request.Register set.params set.pw) (begins set) acts halt plain x

again_hears : (rows : Rows) (words : ChaCha) (identifier : Bytes) (sets : Sets) (set : KeySet) (acts : List Act) (halt : Halt) → IsPlain halt
    → SignsInAgain rows words identifier sets set acts halt → HearsNoWant acts
again_hears rows words identifier sets set acts halt plain (inl (same, other, (none, is))) = no_acts acts none
again_hears rows words identifier sets set acts halt plain (inr (inl (same, x))) = account_hears rows words (request.SignIn identifier set.pw) (λ uuid token. renews token) acts halt plain x
again_hears rows words identifier sets set acts halt plain (inr (inr (other, inl (older, (none, is))))) = no_acts acts none
again_hears rows words identifier sets set acts halt plain (inr (inr (other, inr (new, x)))) = account_hears rows words (request.SignIn identifier set.pw) (λ uuid token. adopts set token) acts halt plain x

with_hears : (rows : Rows) (words : ChaCha) (identifier : Bytes) (set : KeySet) (acts : List Act) (halt : Halt) → IsPlain halt → SignsInWith rows words identifier set acts halt
    → HearsNoWant acts
with_hears rows words identifier set acts halt plain (inl (none, x)) = account_hears rows words (request.SignIn identifier set.pw) (begins set) acts halt plain x
with_hears rows words identifier set acts halt plain (inr (owner, sets, has, x)) = again_hears rows words identifier sets set acts halt plain x

under_hears : (least : ℕ) (rows : Rows) (words : ChaCha) (identifier password : Bytes) (params : Params) (acts : List Act) (halt : Halt) → IsPlain halt
    → SignsInUnder least rows words identifier password params acts halt → HearsNoWant acts
under_hears least rows words identifier password params acts halt plain (inl (other, (none, is))) = no_acts acts none
under_hears least rows words identifier password params acts halt plain (inr (same, inl (bad, (none, is)))) = no_acts acts none
under_hears least rows words identifier password params acts halt plain (inr (same, inr (good, (set, keys, x)))) = with_hears rows words identifier set acts halt plain x

pub sign_in_hears : (least : ℕ) (identifier password : Bytes) (rows : Rows) (words : ChaCha) (acts : List Act) (halt : Halt) → IsPlain halt
    → Run least (sign_in identifier password) rows words acts halt → HearsNoWant acts
sign_in_hears least identifier password rows words acts halt plain (inl (none, is)) = no_acts acts none
sign_in_hears least identifier password rows words acts halt plain (inr (inl (owner, has, other, (none, is)))) = no_acts acts none
sign_in_hears least identifier password rows words acts halt plain (inr (inr (may, x))) =
    first_hears (request.Params identifier) (SignsInBy least rows words identifier password) acts halt plain under x
  where
    under : (given : Answer) (later : List Act) → SignsInBy least rows words identifier password given later halt → ¬ (given ≡ no_memory) × HearsNoWant later
    under given later (params, is, p) = (params_other given params is, under_hears least rows words identifier password params later halt plain p)

-- ---- exchanges

pub hears_both : (first later : List Act) → HearsNoWant first → HearsNoWant later → HearsNoWant (first ++ later)
hears_both [] later x y = y
hears_both (commits what changes ∷ first) later x y = hears_both first later x y
hears_both (asked r reply ∷ first) later x y = (x.0, hears_both first later x.1 y)

posting_hears : (numbers : List ℕ) (posted : List Change) → HearsNoWant (posting numbers posted)
posting_hears [] posted = tt
posting_hears (n ∷ numbers) posted = tt

-- what is applied is no refusal
applied_other : (rows : Rows) (words left : ChaCha) (r : Request) (given : Answer) (changes : List Change) → AppliesTo rows words r given changes left → ¬ (given ≡ no_memory)
applied_other rows words left (request.Sync token items limit sync_token cursor_token) (answer.Sync conflicts cursor retrieved saved next) changes x = λ is. let impossible : ⊥ = cc in impossible
applied_other rows words left (request.Sync token items limit sync_token cursor_token) (answer.Account t identifier uuid) changes x = absurd x
applied_other rows words left (request.Sync token items limit sync_token cursor_token) (answer.Params params) changes x = absurd x
applied_other rows words left (request.Sync token items limit sync_token cursor_token) (answer.Refused status tag more) changes x = absurd x
applied_other rows words left (request.Register params pw) given changes x = absurd x
applied_other rows words left (request.Params identifier) given changes x = absurd x
applied_other rows words left (request.SignIn identifier pw) given changes x = absurd x
applied_other rows words left (request.ChangePw token current pw cost nonce) given changes x = absurd x

round_hears : (at after : Standing) (round : Round) → IsRound at round after → HearsNoWant (acts_of round)
round_hears at after round x =
    hears_both (posting round.numbers round.posted) (asked round.request (said round.given) ∷ commits (applies round.request round.given) round.applied ∷ [])
    (posting_hears round.numbers round.posted)
    (said_other (said round.given) round.given refl (applied_other x.ready at.words x.left round.request round.given round.applied x.step), tt)

pub rounds_hear : (rounds : List Round) (at after : Standing) → AreRounds at rounds after → HearsNoWant (flat_map acts_of rounds)
rounds_hear [] at after x = tt
rounds_hear (round ∷ rounds) at after (between, is, later) =
    hears_both (acts_of round) (flat_map acts_of rounds) (round_hears at between round is) (rounds_hear rounds between after later)

behind_hears : (rows : Rows) (words : ChaCha) (r : Request) (reply : Reply) (halt : Halt) → IsPlain halt → EndsBehind rows words r reply halt → ¬ (IsWanting reply)
behind_hears rows words r reply halt plain (inl (why, fails, is)) = plain_fails reply why halt fails is plain
behind_hears rows words r reply halt plain (inr (inl is)) = absurd (plain_memory halt is plain)
behind_hears rows words r reply halt plain (inr (inr (given, said_so, inl (why, unapplied, is)))) = λ want.
    let same : given ≡ no_memory = cc in
    subst (λ (g : Answer). IsUnapplied rows words (items_of r) g why) same unapplied
behind_hears rows words r reply halt plain (inr (inr (given, said_so, inr (changes, left, step, stops)))) =
    said_other reply given said_so (applied_other rows words left r given changes step)

pub exchange_hears : (words : ChaCha) (numbers : List ℕ) (posted : List Change) (r : Request) (ready : Rows) (acts : List Act) (halt : Halt) → IsPlain halt
    → EndsExchange words numbers posted r ready acts halt → HearsNoWant acts
exchange_hears words numbers posted r ready acts halt plain (inl (some, none, stops)) = no_acts acts none
exchange_hears words numbers posted r ready acts halt plain (inr (batch, inl (is, end))) = subst HearsNoWant (sym is) (posting_hears numbers posted)
exchange_hears words numbers posted r ready acts halt plain (inr (batch, inr (reply, is, ends))) =
    subst HearsNoWant (sym is)
    (hears_both (posting numbers posted) (asked r reply ∷ []) (posting_hears numbers posted) (behind_hears ready words r reply halt plain ends, tt))

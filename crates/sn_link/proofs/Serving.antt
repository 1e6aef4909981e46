-- What becomes of a device's requests, as the world has it.
use Rattle.std.specs.Prelude.{◌≡◌, ◌⊎◌, ◌++◌, ℕ, List, [], ◌∷◌, length, Bool, true, false, Option, Some, None}
use Rattle.std.proofs.Common.{inl, inr, refl, sym, ◌∙◌, ap, subst, arith, append_assoc, length-append}
use Rattle.sn_account.specs.Rule.{Rule}
use Rattle.sn_account.specs.RuleLaws.{AnswersFit, StaysSound, status_of}
use Rattle.sn_account.specs.Sound.{IsSound}
use Rattle.sn_device.specs.Asking.{IsExchange, IsReply, IsRequestBytes, Reply, lost, said, unheard, unread}
use Rattle.sn_device.specs.Runs.{Act, AreExchanges, asked, commits}
use Rattle.sn_device.specs.States.{Bytes}
use Rattle.sn_http.specs.Answers.{answer as http_answer, IsAnswer as IsHttpAnswer}
use Rattle.sn_http.specs.Laws.{SameMessage}
use Rattle.sn_http.specs.Messages.{IsMessage}
use Rattle.sn_net.specs.Exchanges.{Exchange}
use Rattle.sn_io.specs.Causes.{next_count}
use Rattle.sn_rows.specs.Table.{Rows, rows_after}
use Rattle.sn_rows.specs.declared.change.Change.{Change}
use Rattle.sn_server.specs.Replies.{no_memory}
use Rattle.sn_server.specs.Steps.{Step, after_all, bytes_of}
use Rattle.sn_server.specs.Stores.{Kept}
use Rattle.sn_sync.specs.Answers.{IsAnswer}
use Rattle.sn_sync.specs.Laws.{AnswersReadBack, HasOneAnswer}
use Rattle.sn_sync.specs.Requests.{route_of}
use Rattle.sn_sync.specs.Written.{WritesAnswer}
use Rattle.sn_sync.specs.declared.answer.Answer.{Answer}
use Rattle.sn_sync.specs.declared.request.Request.{Request}
use Rattle.sn_sync.specs.declared.request.Route.{Route}
use Rattle.sn_world.specs.Calls.{Fate, IsUnheard, crashed, rows_behind, served, undelivered}
use Rattle.sn_link.specs.Deliveries.{AreServed, Delivers, Fails, IsReplied, Standing, failed, serves}
use Rattle.sn_link.specs.Laws.{AreAnswered, AreReadable, IsAnswered, IsReadable, Leave, LeaveServer, LeavesUnheard, ServedUnlessWanting}
use Rattle.sn_link.specs.Links.{Arrives, AreAsked, Befalls}
use Rattle.sn_link.specs.Losses.{lost_at}
use Rattle.sn_link.specs.declared.losses.Losses.{Losses}
use Rattle.sn_link.specs.declared.losses.Lost.{Lost}
use Rattle.sn_link.specs.declared.losses.Lost.TheVariants as lose
use Rattle.sn_link.proofs.Delivering.{message_some}
use Rattle.sn_link.proofs.Heard.{heard_is}
use Rattle.sn_link.proofs.Requests.{IsRuled, ReadLaws, by_rule, no_check_fails, no_other, ruled, some, the_message, whole}
use Rattle.sn_link.proofs.Statuses.{rule_three}
use Rattle.sn_link.proofs.Wanting.{wanting_text, wanting_writes}

-- ---- what a delivery comes to

-- by the rule, with this answer
pub record RuledSo (rows : Rows) (r : Request) (given : Bytes) (next : Rows) : Type 0 where
  pub now : ℕ
  pub made : List Change
  pub answer : Answer
  pub rule : Rule rows r now made answer
  pub closing : Bool
  pub body : Bytes
  pub given_is : given ≡ http_answer (status_of answer) [] closing body
  pub writes : WritesAnswer answer body
  pub next_is : next ≡ rows_after rows made

-- memory was wanting, which is the answer
pub record WantedSo (rows : Rows) (given : Bytes) (next : Rows) : Type 0 where
  pub closing : Bool
  pub given_is : given ≡ http_answer 503 [] closing wanting_text
  pub next_is : next ≡ rows

-- by the rule, or nothing was changed
abbrev pub ChangedSo : Rows → Request → Rows → Type 0
ChangedSo rows r next = ((now : ℕ) × (made : List Change) × (answer : Answer) × Rule rows r now made answer × (next ≡ rows_after rows made)) ⊎ (next ≡ rows)

abbrev pub ComesTo : Rows → Request → Option Bytes → Standing → Type 0
ComesTo rows r (Some given) (serves next) = RuledSo rows r given next.rows ⊎ WantedSo rows given next.rows
ComesTo rows r (Some given) (failed had made) = ⊥
ComesTo rows r None (serves next) = ChangedSo rows r next.rows
ComesTo rows r None (failed had made) = (had.rows ≡ rows) × ((now : ℕ) × (answer : Answer) × Rule rows r now made answer)

none_made : (rows : Rows) (made : List Change) → made ≡ [] → rows_after rows made ≡ rows
none_made rows made is = ap (rows_after rows) is

module _ (laws : ReadLaws) (host : Bytes) (r : Request) (bytes : Bytes) (sent : IsRequestBytes host r bytes) (readable : IsReadable host r) (now : ℕ) (kept : Kept) where
  -- the first message that is served is the request, and nothing is behind it
  first_same : (step : Step) (rest : Bytes) → IsMessage step.bytes step.message → bytes ≡ step.bytes ++ rest
      → SameMessage bytes bytes (the_message laws host r bytes sent readable) step.message × (rest ≡ [])
  first_same step rest is split =
      let (same, none) = whole laws host r bytes sent readable step.bytes rest step.message is split in
      (record { bytes = refl; method = same.method; target = same.target; token = same.token; body = same.body; closing = same.closing }, none)

  first_ruled : (step : Step) (steps : List Step) (rest : Bytes) → AreServed now kept bytes (step ∷ steps) rest → IsRuled kept.rows r step × (bytes_of steps ++ rest ≡ [])
  first_ruled step steps rest x =
      let (same, none) = first_same step (bytes_of steps ++ rest) x.are.0.message (x.front ∙ append_assoc step.bytes (bytes_of steps) rest) in
      (ruled laws host r bytes sent readable kept.rows step same x.are.0.rule, none)

  first_none : (steps : List Step) (rest : Bytes) → bytes_of steps ++ rest ≡ [] → rest ≡ []
  first_none [] rest is = is
  first_none (step ∷ steps) rest is = none_of rest (omega (arith, ap length is, length-append (bytes_of (step ∷ steps)) rest))
    where
      none_of : (rest : Bytes) → length rest ≡ 0 → rest ≡ []
      none_of [] e = refl
      none_of (b ∷ rest) e = absurd (omega (arith, e))

  replied_so : (given : Bytes) (next : Kept) (x : IsReplied now kept bytes given next) → RuledSo kept.rows r given next.rows ⊎ WantedSo kept.rows given next.rows
  replied_so given next x = elim (first_ruled x.step [] x.rest x.served).0 [
    | inl rule ↦ inl (record {
      now = x.step.now;
      made = x.step.made;
      answer = rule.0;
      rule = rule.1;
      closing = x.step.reply.closing;
      body = x.step.reply.body;
      given_is = x.given_is ∙ ap (λ (n : ℕ). http_answer n x.step.reply.allow x.step.reply.closing x.step.reply.body) rule.2.status
          ∙ ap (λ (l : Bytes). http_answer (status_of rule.0) l x.step.reply.closing x.step.reply.body) rule.2.allow_is;
      writes = rule.2.body;
      next_is = ap (λ (k : Kept). k.rows) x.next_is;
    })
    | inr want ↦ inr (record {
      closing = x.step.reply.closing;
      given_is = x.given_is ∙ ap (λ (n : ℕ). http_answer n x.step.reply.allow x.step.reply.closing x.step.reply.body) want.1.status
          ∙ ap (λ (l : Bytes). http_answer 503 l x.step.reply.closing x.step.reply.body) want.1.allow_is
          ∙ ap (λ (l : Bytes). http_answer 503 [] x.step.reply.closing l) want.1.body;
      next_is = ap (λ (k : Kept). k.rows) x.next_is ∙ none_made kept.rows x.step.made want.0;
    })
  ]

  changed_so : (steps : List Step) (rest : Bytes) (next : Kept) → AreServed now kept bytes steps rest → next ≡ after_all kept steps → ChangedSo kept.rows r next.rows
  changed_so [] rest next x is = inr (ap (λ (k : Kept). k.rows) is)
  changed_so (step ∷ []) rest next x is = elim (first_ruled step [] rest x).0 [
    | inl rule ↦ inl (step.now, step.made, rule.0, rule.1, ap (λ (k : Kept). k.rows) is)
    | inr want ↦ inr (ap (λ (k : Kept). k.rows) is ∙ none_made kept.rows step.made want.0)
  ]
  changed_so (step ∷ other ∷ steps) rest next x is = absurd (omega (
    arith,
    message_some other.bytes other.message x.are.1.0.message,
    ap length (first_ruled step (other ∷ steps) rest x).1,
    length-append (bytes_of (other ∷ steps)) rest,
    length-append other.bytes (bytes_of steps),
  ))

  failed_so : (had : Kept) (made : List Change) (steps : List Step) (x : Fails now kept bytes had made) → x.steps ≡ steps
      → (had.rows ≡ kept.rows) × ((at : ℕ) × (answer : Answer) × Rule kept.rows r at made answer)
  failed_so had made [] x is =
      let had_is : had ≡ kept = x.had_is ∙ ap (after_all kept) is in
      let split : bytes ≡ x.lost.bytes ++ x.later = x.served.front ∙ ap (λ (s : List Step). bytes_of s ++ x.rest) is ∙ x.split in
      let same = first_same x.lost x.later x.message split in
      let (answer, rule) = by_rule laws host r bytes sent readable had.rows x.lost same.0 x.rule in
      let at_kept : Rule kept.rows r x.lost.now x.lost.made answer = subst (λ (k : Kept). Rule k.rows r x.lost.now x.lost.made answer) had_is rule in
      (ap (λ (k : Kept). k.rows) had_is, (x.lost.now, answer, subst (λ (l : List Change). Rule kept.rows r x.lost.now l answer) x.made_is at_kept))
  failed_so had made (step ∷ steps) x is =
      let there : AreServed now kept bytes (step ∷ steps) x.rest = subst (λ (s : List Step). AreServed now kept bytes s x.rest) is x.served in
      absurd (no_other laws host r bytes sent readable x.rest x.lost.bytes x.later x.lost.message (first_none steps x.rest (first_ruled step steps x.rest there).1) x.message x.split)

  pub comes_to : (given : Option Bytes) (next : Standing) → Delivers now kept bytes given next → ComesTo kept.rows r given next
  comes_to (Some given) (serves next) (inl replied) = replied_so given next replied
  comes_to (Some given) (serves next) (inr (same, inl (status, check, is))) = absurd (no_check_fails laws host r bytes sent readable status check)
  comes_to (Some given) (serves next) (inr (same, inr (none, is))) = absurd (some laws host r bytes sent readable none)
  comes_to (Some given) (failed had made) none = absurd none
  comes_to None (serves next) (steps, rest, x, is) = changed_so steps rest next x is
  comes_to None (failed had made) x = failed_so had made x.steps x refl

-- ---- one exchange

-- a fate, by the rows behind it
abbrev pub OneLeaves : Rows → Request → Reply → Standing → Type 0
OneLeaves rows r reply (serves next) = (fate : Fate) × IsAnswered rows r reply fate × (next.rows ≡ rows_behind rows fate)
OneLeaves rows r reply (failed had made) = ((fate : Fate) × IsAnswered rows r reply fate × (had.rows ≡ rows_behind rows fate))
    × ((fate : Fate) × IsAnswered rows r reply fate × (rows_after had.rows made ≡ rows_behind rows fate))

pub record HearLaws : Type 0 where
  pub read : ReadLaws
  pub answers : AnswersReadBack
  pub one_answer : HasOneAnswer
  pub fit : AnswersFit
  pub sound : StaysSound

none_unheard : (on : Route) (reply : Reply) → IsReply on None reply → IsUnheard reply
none_unheard on lost is = tt
none_unheard on unheard is = tt
none_unheard on (unread at) is = tt
none_unheard on (said given) is = absurd (let impossible : ⊥ = cc in impossible)

same_some : (a b : Bytes) → Some a ≡ Some b → a ≡ b
same_some a b is = cc

module _ (laws : HearLaws) (rows : Rows) (r : Request) (sound : IsSound rows) (host : Bytes) (readable : IsReadable host r) where
  -- nothing was heard
  unheard_leaves : (reply : Reply) (given : Option Bytes) (next : Standing) → IsUnheard reply → ComesTo rows r given next → OneLeaves rows r reply next
  unheard_leaves reply (Some given) (serves next) un (inl x) =
      (served x.now x.made x.answer false, inl (readable.fits, x.rule, un), x.next_is)
  unheard_leaves reply (Some given) (serves next) un (inr x) = (undelivered, inl un, x.next_is)
  unheard_leaves reply (Some given) (failed had made) un none = absurd none
  unheard_leaves reply None (serves next) un (inl (now, made, answer, rule, is)) = (served now made answer false, inl (readable.fits, rule, un), is)
  unheard_leaves reply None (serves next) un (inr same) = (undelivered, inl un, same)
  unheard_leaves reply None (failed had made) un (same, (now, answer, rule)) = (
    (undelivered, inl un, same),
    (served now made answer false, inl (readable.fits, rule, un), ap (λ (w : Rows). rows_after w made) same),
  )

  -- an answer was heard
  heard_rule : (given : Bytes) (next : Rows) (x : RuledSo rows r given next) (heard : Answer) → IsReply (route_of r) (Some given) (said heard) → heard ≡ x.answer
  heard_rule given next x heard (status, body, is, says) =
      let three = rule_three rows r x.now x.made x.answer x.rule in
      let there : IsHttpAnswer (http_answer (status_of x.answer) [] x.closing x.body) status body = subst (λ (b : Bytes). IsHttpAnswer b status body) x.given_is is in
      let same = heard_is (status_of x.answer) x.closing x.body status body three.0 three.1 there in
      let as_said : IsAnswer (route_of r) (status_of x.answer) x.body heard =
      subst (λ (b : Bytes). IsAnswer (route_of r) (status_of x.answer) b heard) same.1 (subst (λ (n : ℕ). IsAnswer (route_of r) n body heard) same.0 says) in
      laws.one_answer (route_of r) (status_of x.answer) x.body heard x.answer as_said
      (laws.answers (route_of r) (status_of x.answer) x.answer x.body (laws.fit rows r x.now x.made x.answer sound readable.fits x.rule) x.writes)

  heard_want : (given : Bytes) (next : Rows) (x : WantedSo rows given next) (heard : Answer) → IsReply (route_of r) (Some given) (said heard) → heard ≡ no_memory
  heard_want given next x heard (status, body, is, says) =
      let there : IsHttpAnswer (http_answer 503 [] x.closing wanting_text) status body = subst (λ (b : Bytes). IsHttpAnswer b status body) x.given_is is in
      let same = heard_is 503 x.closing wanting_text status body (omega arith) (omega arith) there in
      let as_said : IsAnswer (route_of r) 503 wanting_text heard =
      subst (λ (b : Bytes). IsAnswer (route_of r) 503 b heard) same.1 (subst (λ (n : ℕ). IsAnswer (route_of r) n body heard) same.0 says) in
      laws.one_answer (route_of r) 503 wanting_text heard no_memory as_said
      (laws.answers (route_of r) 503 no_memory wanting_text (refl, (λ e. absurd (omega arith)), tt) wanting_writes)

  said_leaves : (given : Bytes) (heard : Answer) (next : Standing) → IsReply (route_of r) (Some given) (said heard) → ComesTo rows r (Some given) next → OneLeaves rows r (said heard) next
  said_leaves given heard (serves next) came (inl x) =
      (served x.now x.made x.answer true, inl (readable.fits, x.rule, ap said (heard_rule given next.rows x heard came)), x.next_is)
  said_leaves given heard (serves next) came (inr x) = (undelivered, inr (ap said (heard_want given next.rows x heard came), refl), x.next_is)
  said_leaves given heard (failed had made) came none = absurd none

  heard_leaves : (reply : Reply) (given : Bytes) (next : Standing) → IsReply (route_of r) (Some given) reply → ComesTo rows r (Some given) next → OneLeaves rows r reply next
  heard_leaves lost given next came x = absurd came
  heard_leaves unheard given next came x = unheard_leaves unheard (Some given) next tt x
  heard_leaves (unread at) given next came x = unheard_leaves (unread at) (Some given) next tt x
  heard_leaves (said heard) given next came x = said_leaves given heard next came x

  arrives_leaves : (reply : Reply) (given answer : Option Bytes) (next : Standing) → Arrives given answer → IsReply (route_of r) answer reply → ComesTo rows r given next → OneLeaves rows r reply next
  arrives_leaves reply given None next arrives came x = unheard_leaves reply given next (none_unheard (route_of r) reply came) x
  arrives_leaves reply given (Some answer) next arrives came x =
      heard_leaves reply answer next came (subst (λ (o : Option Bytes). ComesTo rows r o next) arrives x)

unheard_came : (on : Route) (answer : Option Bytes) (reply : Reply) → answer ≡ None → IsReply on answer reply → IsUnheard reply
unheard_came on answer reply none came = none_unheard on reply (subst (λ (o : Option Bytes). IsReply on o reply) none came)

-- what becomes of an exchange at an open server
pub one_leaves : (laws : HearLaws) (kept : Kept) (sound : IsSound kept.rows) (host : Bytes) (r : Request) (readable : IsReadable host r) (reply : Reply) (x : Exchange) (now : ℕ)
    (what : Lost) (next : Standing) → IsExchange host r reply x → Befalls what now (serves kept) x next → OneLeaves kept.rows r reply next
one_leaves laws kept sound host r readable reply x now lose.Nothing next exchange (given, delivers, arrives) =
    arrives_leaves laws kept.rows r sound host readable reply given x.answer next arrives exchange.came
    (comes_to laws.read host r x.request exchange.sent readable now kept given next delivers)
one_leaves laws kept sound host r readable reply x now lose.Request next exchange (same, none) =
    subst (OneLeaves kept.rows r reply) (sym same) (undelivered, inl (unheard_came (route_of r) x.answer reply none exchange.came), refl)
one_leaves laws kept sound host r readable reply x now lose.Reply next exchange (given, delivers, none) =
    unheard_leaves laws kept.rows r sound host readable reply given next (unheard_came (route_of r) x.answer reply none exchange.came)
    (comes_to laws.read host r x.request exchange.sent readable now kept given next delivers)

-- .. at one whose disk has failed
failed_befalls : (had : Kept) (made : List Change) (x : Exchange) (now : ℕ) (what : Lost) (next : Standing) → Befalls what now (failed had made) x next
    → (next ≡ failed had made) × (x.answer ≡ None)
failed_befalls had made x now lose.Nothing next befalls = befalls
failed_befalls had made x now lose.Request next befalls = befalls
failed_befalls had made x now lose.Reply next befalls = befalls

sound_behind : (laws : HearLaws) (rows : Rows) (r : Request) (reply : Reply) (fate : Fate) → IsSound rows → IsAnswered rows r reply fate → IsSound (rows_behind rows fate)
sound_behind laws rows r reply undelivered sound x = sound
sound_behind laws rows r reply (served now changes given arrives) sound (inl x) = laws.sound rows r now changes given sound x.0 x.1
sound_behind laws rows r reply (served now changes given arrives) sound (inr (want, other)) = absurd (let impossible : ⊥ = cc in impossible)
sound_behind laws rows r reply (crashed now changes given) sound x = sound

-- ---- all exchanges

-- where the disk has failed nothing is delivered
none_delivered : (host : Bytes) (acts : List Act) (losses : Losses) (now number : ℕ) (had : Kept) (made : List Change) (xs : List Exchange) (last : ℕ) (next : Standing)
    → AreAsked losses now number (failed had made) xs last next → AreExchanges host acts xs
    → (next ≡ failed had made) × ((server : Rows) → Leave server acts server)
none_delivered host [] losses now number had made xs last next are exchanges =
    let over : AreAsked losses now number (failed had made) [] last next = subst (λ (l : List Exchange). AreAsked losses now number (failed had made) l last next) exchanges are in
    (over.1, λ server. record { fates = []; are = refl; rows_are = refl })
none_delivered host (commits what changes ∷ acts) losses now number had made xs last next are exchanges =
    let (same, leave) = none_delivered host acts losses now number had made xs last next are exchanges in
    (same, λ server. let rest = leave server in record { fates = rest.fates; are = rest.are; rows_are = rest.rows_are })
none_delivered host (asked r reply ∷ acts) losses now number had made xs last next are (x, later, is, exchange, others) =
    let (mid, befalls, rest) = subst (λ (l : List Exchange). AreAsked losses now number (failed had made) l last next) is are in
    let (stays, none) = failed_befalls had made x now (lost_at losses number) mid befalls in
    let (same, leave) = none_delivered host acts losses now (next_count number) had made later last next
    (subst (λ (s : Standing). AreAsked losses now (next_count number) s later last next) stays rest) others in
    (same, λ server. let behind = leave server in record { fates = undelivered ∷ behind.fates; are = (inl (unheard_came (route_of r) x.answer reply none exchange.came), behind.are); rows_are = behind.rows_are })

-- behind a request with this fate
leave_behind : (server rows : Rows) (r : Request) (reply : Reply) (acts : List Act) (left : Rows) (fate : Fate) → IsAnswered server r reply fate → rows ≡ rows_behind server fate
    → Leave rows acts left → Leave server (asked r reply ∷ acts) left
leave_behind server rows r reply acts left fate answered is x =
    let there : Leave (rows_behind server fate) acts left = subst (λ (w : Rows). Leave w acts left) is x in
    record { fates = fate ∷ there.fates; are = (answered, there.are); rows_are = there.rows_are }

behind_all : (server rows : Rows) (r : Request) (reply : Reply) (acts : List Act) (next : Standing) (fate : Fate) → IsAnswered server r reply fate → rows ≡ rows_behind server fate
    → LeaveServer rows acts next → LeaveServer server (asked r reply ∷ acts) next
behind_all server rows r reply acts (serves kept) fate answered is x = leave_behind server rows r reply acts kept.rows fate answered is x
behind_all server rows r reply acts (failed had made) fate answered is x =
    (leave_behind server rows r reply acts had.rows fate answered is x.0, leave_behind server rows r reply acts (rows_after had.rows made) fate answered is x.1)

commits_all : (server : Rows) (acts : List Act) (act : Act) (next : Standing) → ((fates : List Fate) → AreAnswered server acts fates → AreAnswered server (act ∷ acts) fates)
    → LeaveServer server acts next → LeaveServer server (act ∷ acts) next
commits_all server acts act (serves kept) more x = record { fates = x.fates; are = more x.fates x.are; rows_are = x.rows_are }
commits_all server acts act (failed had made) more x = (
  record { fates = x.0.fates; are = more x.0.fates x.0.are; rows_are = x.0.rows_are },
  record { fates = x.1.fates; are = more x.1.fates x.1.are; rows_are = x.1.rows_are },
)

-- the first exchange, and those behind it
goes_further : (laws : HearLaws) (host : Bytes) (r : Request) (reply : Reply) (acts : List Act) (losses : Losses) (now number : ℕ) (kept : Kept) (later : List Exchange) (last : ℕ) (next mid : Standing)
    → IsSound kept.rows → OneLeaves kept.rows r reply mid → AreAsked losses now (next_count number) mid later last next → AreExchanges host acts later
    → ((k : Kept) → IsSound k.rows → AreAsked losses now (next_count number) (serves k) later last next → LeaveServer k.rows acts next)
    → LeaveServer kept.rows (asked r reply ∷ acts) next
goes_further laws host r reply acts losses now number kept later last next (serves k) sound (fate, answered, rows_are) behind others again =
    behind_all kept.rows k.rows r reply acts next fate answered rows_are
    (again k (subst IsSound (sym rows_are) (sound_behind laws kept.rows r reply fate sound answered)) behind)
goes_further laws host r reply acts losses now number kept later last next (failed had made) sound (first, second) behind others again =
    let (same, leave) = none_delivered host acts losses now (next_count number) had made later last next behind others in
    subst (LeaveServer kept.rows (asked r reply ∷ acts)) (sym same) (
      leave_behind kept.rows had.rows r reply acts had.rows first.0 first.1 first.2 (leave had.rows),
      leave_behind kept.rows (rows_after had.rows made) r reply acts (rows_after had.rows made) second.0 second.1 second.2 (leave (rows_after had.rows made)),
    )

pub all_leave : (laws : HearLaws) (host : Bytes) (acts : List Act) (losses : Losses) (now number : ℕ) (kept : Kept) (xs : List Exchange) (last : ℕ) (next : Standing)
    → IsSound kept.rows → AreAsked losses now number (serves kept) xs last next → AreExchanges host acts xs → AreReadable host acts → LeaveServer kept.rows acts next
all_leave laws host [] losses now number kept xs last next sound are exchanges readable =
    let over : AreAsked losses now number (serves kept) [] last next = subst (λ (l : List Exchange). AreAsked losses now number (serves kept) l last next) exchanges are in
    subst (LeaveServer kept.rows []) (sym over.1) (record { fates = []; are = refl; rows_are = refl })
all_leave laws host (commits what changes ∷ acts) losses now number kept xs last next sound are exchanges readable =
    commits_all kept.rows acts (commits what changes) next (λ fates x. x) (all_leave laws host acts losses now number kept xs last next sound are exchanges readable)
all_leave laws host (asked r reply ∷ acts) losses now number kept xs last next sound are (x, later, is, exchange, others) (readable, rest) =
    let (mid, befalls, behind) = subst (λ (l : List Exchange). AreAsked losses now number (serves kept) l last next) is are in
    goes_further laws host r reply acts losses now number kept later last next mid sound
    (one_leaves laws kept sound host r readable reply x now (lost_at losses number) mid exchange befalls) behind others
    (λ k sound_then asked_then. all_leave laws host acts losses now (next_count number) k later last next sound_then asked_then others rest)

-- ---- the world's fates

pub unless_wanting : ServedUnlessWanting
unless_wanting server [] fates hears are = are
unless_wanting server (commits what changes ∷ acts) fates hears are = unless_wanting server acts fates hears are
unless_wanting server (asked r reply ∷ acts) [] hears are = absurd are
unless_wanting server (asked r reply ∷ acts) (fate ∷ fates) hears (inl is, rest) = (is, unless_wanting (rows_behind server fate) acts fates hears.1 rest)
unless_wanting server (asked r reply ∷ acts) (fate ∷ fates) hears (inr (want, is), rest) = absurd (hears.0 want)

-- ---- a request that is delivered again

pub again_leaves : (laws : ReadLaws) (kept : Kept) (host : Bytes) (r : Request) (readable : IsReadable host r) (bytes : Bytes) (answer : Option Bytes) (now : ℕ) (next : Standing)
    → IsRequestBytes host r bytes → Befalls lose.Nothing now (serves kept) (record { host = []; request = bytes; answer = answer }) next → LeavesUnheard kept.rows r next
again_leaves laws kept host r readable bytes answer now next sent (given, delivers, arrives) =
    leaves given next (comes_to laws host r bytes sent readable now kept given next delivers)
  where
    leaves : (given : Option Bytes) (next : Standing) → ComesTo kept.rows r given next → LeavesUnheard kept.rows r next
    leaves (Some given) (serves k) (inl x) = (served x.now x.made x.answer false, (readable.fits, x.rule, tt), x.next_is)
    leaves (Some given) (serves k) (inr x) = (undelivered, tt, x.next_is)
    leaves (Some given) (failed had made) none = absurd none
    leaves None (serves k) (inl (at, made, given, rule, is)) = (served at made given false, (readable.fits, rule, tt), is)
    leaves None (serves k) (inr same) = (undelivered, tt, same)
    leaves None (failed had made) (same, (at, given, rule)) = (
      (undelivered, tt, same),
      (served at made given false, (readable.fits, rule, tt), ap (λ (w : Rows). rows_after w made) same),
    )

-- What became of a request, by what the server's store gained.
use Rattle.std.specs.Prelude.{◌≡◌, ◌⊎◌, ◌++◌, ℕ, List, [], ◌∷◌, length, Bool, false, true, Option, Some, None}
use Rattle.std.proofs.Common.{inl, inr, refl, sym, ◌∙◌, ap, subst, arith, append-nil, append_assoc, length-append}
use Rattle.std.proofs.lemmas.List.{append_cancel_left}
use Rattle.sn_account.specs.Rule.{Rule}
use Rattle.sn_account.specs.RuleLaws.{status_of}
use Rattle.sn_account.specs.Sound.{IsSound}
use Rattle.sn_device.specs.Asking.{IsExchange, IsReply, IsRequestBytes, Reply, lost, said, unheard, unread}
use Rattle.sn_device.specs.States.{Bytes}
use Rattle.sn_http.specs.Answers.{answer as http_answer, IsAnswer as IsHttpAnswer}
use Rattle.sn_http.specs.Laws.{SameMessage}
use Rattle.sn_net.specs.Exchanges.{Exchange}
use Rattle.sn_rows.specs.Table.{rows_after}
use Rattle.sn_rows.specs.declared.change.Change.{Change}
use Rattle.sn_server.specs.Replies.{no_memory}
use Rattle.sn_server.specs.Steps.{Step, after_all, bytes_of}
use Rattle.sn_server.specs.Stores.{Kept, after, batch_of}
use Rattle.sn_sync.specs.Answers.{IsAnswer}
use Rattle.sn_sync.specs.Requests.{route_of}
use Rattle.sn_sync.specs.Written.{WritesAnswer}
use Rattle.sn_sync.specs.declared.answer.Answer.{Answer}
use Rattle.sn_sync.specs.declared.request.Request.{Request}
use Rattle.sn_sync.specs.declared.request.Route.{Route}
use Rattle.sn_world.specs.Calls.{Fate, IsServed, IsUnheard, rows_behind, served, undelivered}
use Rattle.sn_link.specs.Deliveries.{AreServed, Delivers, IsReplied, serves}
use Rattle.sn_link.specs.Laws.{IsAnswered, IsReadable}
use Rattle.sn_link.specs.Links.{Arrives}
use Rattle.sn_link.specs.declared.losses.Lost.{Lost}
use Rattle.sn_link.specs.declared.losses.Lost.TheVariants as lose
use Rattle.sn_link.proofs.Facts.{HearLaws, IsRuled, ReadLaws, heard_is, message_some, no_check_fails, rule_three, ruled, some, the_message, wanting_text, wanting_writes, whole}
use Rattle.sn_recorder.specs.Fates.{AgainsHaveFates, ExchangesHaveFates, HasFate, HasFateAgain, IsServedAt}
use Rattle.sn_recorder.specs.Recorded.{IsRecordOf}
use Rattle.sn_recorder.specs.Told.{IsToldOf, batches_of}
use Rattle.sn_recorder.specs.declared.exchanged.Exchanged.{Exchanged}
use Rattle.sn_recorder.proofs.Growing.{same_serves}

-- ---- what a delivery comes to

-- by the rule at this moment, with this answer, where one was given
record Ruled (now : ℕ) (kept : Kept) (r : Request) (given : Option Bytes) (next : Kept) : Type 0 where
  made : List Change
  answer : Answer
  rule : Rule kept.rows r now made answer
  closing : Bool
  body : Bytes
  gives : (bytes : Bytes) → given ≡ Some bytes → (bytes ≡ http_answer (status_of answer) [] closing body) × WritesAnswer answer body
  next_is : next ≡ after kept made

-- nothing was changed; the answer, where one was given, is that memory was wanting
record Idle (kept : Kept) (given : Option Bytes) (next : Kept) : Type 0 where
  closing : Bool
  gives : (bytes : Bytes) → given ≡ Some bytes → bytes ≡ http_answer 503 [] closing wanting_text
  rows_are : next.rows ≡ kept.rows
  batches_are : next.batches ≡ kept.batches

abbrev ComesTo : ℕ → Kept → Request → Option Bytes → Kept → Type 0
ComesTo now kept r given next = Ruled now kept r given next ⊎ Idle kept given next

same_given : (a b : Bytes) → Some a ≡ Some b → b ≡ a
same_given a b is = cc

none_given : {P : Type 0} (bytes : Bytes) → None ≡ Some bytes → P
none_given bytes is = absurd (let impossible : ⊥ = cc in impossible)

none_rows : (kept next : Kept) (made : List Change) → next ≡ after kept made → made ≡ [] → next.rows ≡ kept.rows
none_rows kept next made is none = ap (λ (k : Kept). k.rows) is ∙ ap (rows_after kept.rows) none

none_batches : (kept next : Kept) (made : List Change) → next ≡ after kept made → made ≡ [] → next.batches ≡ kept.batches
none_batches kept next made is none =
    ap (λ (k : Kept). k.batches) is ∙ ap (λ (l : List Change). kept.batches ++ batch_of l) none ∙ append-nil kept.batches

module _ (laws : ReadLaws) (host : Bytes) (r : Request) (bytes : Bytes) (sent : IsRequestBytes host r bytes) (readable : IsReadable host r) (now : ℕ) (kept : Kept) where
  -- the first message that is served is the request, and nothing is behind it
  first_ruled : (step : Step) (steps : List Step) (rest : Bytes) → AreServed now kept bytes (step ∷ steps) rest → IsRuled kept.rows r step × (bytes_of steps ++ rest ≡ [])
  first_ruled step steps rest x =
      let split : bytes ≡ step.bytes ++ (bytes_of steps ++ rest) = x.front ∙ append_assoc step.bytes (bytes_of steps) rest in
      let (same, none) = whole laws host r bytes sent readable step.bytes (bytes_of steps ++ rest) step.message x.are.0.message split in
      let there : SameMessage bytes bytes (the_message laws host r bytes sent readable) step.message =
      record { bytes = refl; method = same.method; target = same.target; token = same.token; body = same.body; closing = same.closing } in
      (ruled laws host r bytes sent readable kept.rows step there x.are.0.rule, none)

  replied : (given : Bytes) (next : Kept) → IsReplied now kept bytes given next → ComesTo now kept r (Some given) next
  replied given next x = elim (first_ruled x.step [] x.rest x.served).0 [
    | inl rule ↦ inl (record {
      made = x.step.made;
      answer = rule.0;
      rule = subst (λ (at : ℕ). Rule kept.rows r at x.step.made rule.0) x.served.at.0 rule.1;
      closing = x.step.reply.closing;
      body = x.step.reply.body;
      gives = λ other is. (
        same_given given other is ∙ x.given_is ∙ ap (λ (n : ℕ). http_answer n x.step.reply.allow x.step.reply.closing x.step.reply.body) rule.2.status
            ∙ ap (λ (l : Bytes). http_answer (status_of rule.0) l x.step.reply.closing x.step.reply.body) rule.2.allow_is,
        rule.2.body,
      );
      next_is = x.next_is;
    })
    | inr want ↦ inr (record {
      closing = x.step.reply.closing;
      gives = λ other is.
          same_given given other is ∙ x.given_is ∙ ap (λ (n : ℕ). http_answer n x.step.reply.allow x.step.reply.closing x.step.reply.body) want.1.status
          ∙ ap (λ (l : Bytes). http_answer 503 l x.step.reply.closing x.step.reply.body) want.1.allow_is
          ∙ ap (λ (l : Bytes). http_answer 503 [] x.step.reply.closing l) want.1.body;
      rows_are = none_rows kept next x.step.made x.next_is want.0;
      batches_are = none_batches kept next x.step.made x.next_is want.0;
    })
  ]

  unreplied : (steps : List Step) (rest : Bytes) (next : Kept) → AreServed now kept bytes steps rest → next ≡ after_all kept steps → ComesTo now kept r None next
  unreplied [] rest next x is = inr (record {
    closing = true;
    gives = λ other none. none_given other none;
    rows_are = ap (λ (k : Kept). k.rows) is;
    batches_are = ap (λ (k : Kept). k.batches) is;
  })
  unreplied (step ∷ []) rest next x is = elim (first_ruled step [] rest x).0 [
    | inl rule ↦ inl (record {
      made = step.made;
      answer = rule.0;
      rule = subst (λ (at : ℕ). Rule kept.rows r at step.made rule.0) x.at.0 rule.1;
      closing = true;
      body = [];
      gives = λ other none. none_given other none;
      next_is = is;
    })
    | inr want ↦ inr (record {
      closing = true;
      gives = λ other none. none_given other none;
      rows_are = none_rows kept next step.made is want.0;
      batches_are = none_batches kept next step.made is want.0;
    })
  ]
  unreplied (step ∷ other ∷ steps) rest next x is = absurd (omega (
    arith,
    message_some other.bytes other.message x.are.1.0.message,
    ap length (first_ruled step (other ∷ steps) rest x).1,
    length-append (bytes_of (other ∷ steps)) rest,
    length-append other.bytes (bytes_of steps),
  ))

  comes_to : (given : Option Bytes) (next : Kept) → Delivers now kept bytes given (serves next) → ComesTo now kept r given next
  comes_to (Some given) next (inl x) = replied given next x
  comes_to (Some given) next (inr (same, inl (status, check, is))) = absurd (no_check_fails laws host r bytes sent readable status check)
  comes_to (Some given) next (inr (same, inr (none, is))) = absurd (some laws host r bytes sent readable none)
  comes_to None next (steps, rest, x, is) = unreplied steps rest next x is

-- ---- the fate

-- at this moment, with this behind it
record Fated (now : ℕ) (kept next : Kept) (P : Fate → Type 0) : Type 0 where
  fate : Fate
  is : P fate
  at : IsServedAt now fate
  rows_are : next.rows ≡ rows_behind kept.rows fate
  batches_are : next.batches ≡ kept.batches ++ batches_of fate

-- by the rule, with an answer that arrives or doesn't
by_rule : (now : ℕ) (kept next : Kept) (P : Fate → Type 0) (made : List Change) (answer : Answer) (arrives : Bool) → next ≡ after kept made → P (served now made answer arrives)
    → Fated now kept next P
by_rule now kept next P made answer arrives is so = record {
  fate = served now made answer arrives;
  is = so;
  at = refl;
  rows_are = ap (λ (k : Kept). k.rows) is;
  batches_are = ap (λ (k : Kept). k.batches) is;
}

-- never served
by_none : (now : ℕ) (kept next : Kept) (P : Fate → Type 0) → next.rows ≡ kept.rows → next.batches ≡ kept.batches → P undelivered → Fated now kept next P
by_none now kept next P rows_are batches_are so = record {
  fate = undelivered;
  is = so;
  at = tt;
  rows_are = rows_are;
  batches_are = batches_are ∙ sym (append-nil kept.batches);
}

none_unheard : (on : Route) (reply : Reply) → IsReply on None reply → IsUnheard reply
none_unheard on lost is = tt
none_unheard on unheard is = tt
none_unheard on (unread at) is = tt
none_unheard on (said given) is = absurd (let impossible : ⊥ = cc in impossible)

unheard_came : (on : Route) (answer : Option Bytes) (reply : Reply) → answer ≡ None → IsReply on answer reply → IsUnheard reply
unheard_came on answer reply none came = none_unheard on reply (subst (λ (o : Option Bytes). IsReply on o reply) none came)

-- the status of an answer that was given is that of its fate
answer_read : (kept : Kept) (r : Request) (now : ℕ) (made : List Change) (answer : Answer) → Rule kept.rows r now made answer → (given : Bytes) (closing : Bool) (body : Bytes)
    → given ≡ http_answer (status_of answer) [] closing body → (status : ℕ) (text : Bytes) → IsHttpAnswer given status text → (status ≡ status_of answer) × (text ≡ body)
answer_read kept r now made answer rule given closing body is status text read =
    let three = rule_three kept.rows r now made answer rule in
    heard_is (status_of answer) closing body status text three.0 three.1 (subst (λ (b : Bytes). IsHttpAnswer b status text) is read)

want_read : (given : Bytes) (closing : Bool) → given ≡ http_answer 503 [] closing wanting_text → (status : ℕ) (text : Bytes) → IsHttpAnswer given status text
    → (status ≡ 503) × (text ≡ wanting_text)
want_read given closing is status text read =
    heard_is 503 closing wanting_text status text (omega arith) (omega arith) (subst (λ (b : Bytes). IsHttpAnswer b status text) is read)

module _ (laws : HearLaws) (kept : Kept) (r : Request) (sound : IsSound kept.rows) (host : Bytes) (readable : IsReadable host r) (now : ℕ) (next : Kept) where
  abbrev FatedSo : Reply → Type 0
  FatedSo reply = Fated now kept next (IsAnswered kept.rows r reply)

  -- nothing was heard
  unheard_fated : (reply : Reply) (given : Option Bytes) → IsUnheard reply → ComesTo now kept r given next → FatedSo reply
  unheard_fated reply given un (inl x) = by_rule now kept next (IsAnswered kept.rows r reply) x.made x.answer false x.next_is (inl (readable.fits, x.rule, un))
  unheard_fated reply given un (inr x) = by_none now kept next (IsAnswered kept.rows r reply) x.rows_are x.batches_are (inl un)

  -- what was heard is the answer
  heard_rule : (given : Bytes) (x : Ruled now kept r (Some given) next) (heard : Answer) → IsReply (route_of r) (Some given) (said heard) → heard ≡ x.answer
  heard_rule given x heard (status, text, read, says) =
      let (given_is, writes) = x.gives given refl in
      let (status_is, text_is) = answer_read kept r now x.made x.answer x.rule given x.closing x.body given_is status text read in
      let as_said : IsAnswer (route_of r) (status_of x.answer) x.body heard =
      subst (λ (b : Bytes). IsAnswer (route_of r) (status_of x.answer) b heard) text_is (subst (λ (n : ℕ). IsAnswer (route_of r) n text heard) status_is says) in
      laws.one_answer (route_of r) (status_of x.answer) x.body heard x.answer as_said
      (laws.answers (route_of r) (status_of x.answer) x.answer x.body (laws.fit kept.rows r now x.made x.answer sound readable.fits x.rule) writes)

  heard_want : (given : Bytes) (x : Idle kept (Some given) next) (heard : Answer) → IsReply (route_of r) (Some given) (said heard) → heard ≡ no_memory
  heard_want given x heard (status, text, read, says) =
      let (status_is, text_is) = want_read given x.closing (x.gives given refl) status text read in
      let as_said : IsAnswer (route_of r) 503 wanting_text heard =
      subst (λ (b : Bytes). IsAnswer (route_of r) 503 b heard) text_is (subst (λ (n : ℕ). IsAnswer (route_of r) n text heard) status_is says) in
      laws.one_answer (route_of r) 503 wanting_text heard no_memory as_said
      (laws.answers (route_of r) 503 no_memory wanting_text (refl, (λ e. absurd (omega arith)), tt) wanting_writes)

  said_fated : (given : Bytes) (heard : Answer) → IsReply (route_of r) (Some given) (said heard) → ComesTo now kept r (Some given) next → FatedSo (said heard)
  said_fated given heard came (inl x) =
      by_rule now kept next (IsAnswered kept.rows r (said heard)) x.made x.answer true x.next_is (inl (readable.fits, x.rule, ap said (heard_rule given x heard came)))
  said_fated given heard came (inr x) =
      by_none now kept next (IsAnswered kept.rows r (said heard)) x.rows_are x.batches_are (inr (ap said (heard_want given x heard came), refl))

  heard_fated : (reply : Reply) (given : Bytes) → IsReply (route_of r) (Some given) reply → ComesTo now kept r (Some given) next → FatedSo reply
  heard_fated lost given came x = absurd came
  heard_fated unheard given came x = unheard_fated unheard (Some given) tt x
  heard_fated (unread at) given came x = unheard_fated (unread at) (Some given) tt x
  heard_fated (said heard) given came x = said_fated given heard came x

  arrives_fated : (reply : Reply) (given answer : Option Bytes) → Arrives given answer → IsReply (route_of r) answer reply → ComesTo now kept r given next → FatedSo reply
  arrives_fated reply given None arrives came x = unheard_fated reply given (none_unheard (route_of r) reply came) x
  arrives_fated reply given (Some answer) arrives came x =
      heard_fated reply answer came (subst (λ (o : Option Bytes). ComesTo now kept r o next) arrives x)

-- ---- an exchange

-- the batches that its record has are those by which the store grew
batches_are : (kept next : Kept) (batches : List (List Change)) (fate : Fate) → next.batches ≡ kept.batches ++ batches → next.batches ≡ kept.batches ++ batches_of fate
    → batches ≡ batches_of fate
batches_are kept next batches fate gains is = append_cancel_left kept.batches batches (batches_of fate) (sym gains ∙ is)

told_of : (host : Bytes) (r : Request) (reply : Reply) (x : Exchange) (e : Exchanged) (fate : Fate) → IsExchange host r reply x → IsRecordOf x e → e.batches ≡ batches_of fate
    → IsToldOf host r reply fate e
told_of host r reply x e fate exchange is gained = record {
  sent = subst (IsRequestBytes host r) (sym is.request_is) exchange.sent;
  came = subst (λ (o : Option Bytes). IsReply (route_of r) o reply) (sym is.answer_is) exchange.came;
  gained = gained;
}

module _ (host : Bytes) (r : Request) (reply : Reply) (now : ℕ) (kept next : Kept) (x : Exchange) (e : Exchanged) (exchange : IsExchange host r reply x) (is : IsRecordOf x e)
    (gains : next.batches ≡ kept.batches ++ e.batches) where
  has_fate : (what : Lost) (f : Fated now kept next (IsAnswered kept.rows r reply)) → (what ≡ lose.Request → f.fate ≡ undelivered) → HasFate host r reply what now kept next e
  has_fate what f none = record {
    fate = f.fate;
    is = f.is;
    at = f.at;
    told = told_of host r reply x e f.fate exchange is (batches_are kept next e.batches f.fate gains f.batches_are);
    rows_are = f.rows_are;
    none = none;
  }

pub exchanges_have_fates : HearLaws → ExchangesHaveFates
unfolding by_none
exchanges_have_fates laws host r reply lose.Nothing now kept next x e sound readable exchange (given, delivers, arrives) is gains =
    has_fate host r reply now kept next x e exchange is gains lose.Nothing
    (arrives_fated laws kept r sound host readable now next reply given x.answer arrives exchange.came
    (comes_to laws.read host r x.request exchange.sent readable now kept given next delivers))
    (λ other. absurd (let impossible : ⊥ = cc in impossible))
exchanges_have_fates laws host r reply lose.Request now kept next x e sound readable exchange (same, none) is gains =
    let kept_is = same_serves kept next same in
    has_fate host r reply now kept next x e exchange is gains lose.Request
    (by_none now kept next (IsAnswered kept.rows r reply) (ap (λ (k : Kept). k.rows) kept_is) (ap (λ (k : Kept). k.batches) kept_is)
    (inl (unheard_came (route_of r) x.answer reply none exchange.came)))
    (λ other. refl)
exchanges_have_fates laws host r reply lose.Reply now kept next x e sound readable exchange (given, delivers, none) is gains =
    has_fate host r reply now kept next x e exchange is gains lose.Reply
    (unheard_fated laws kept r sound host readable now next reply given (unheard_came (route_of r) x.answer reply none exchange.came)
    (comes_to laws.read host r x.request exchange.sent readable now kept given next delivers))
    (λ other. absurd (let impossible : ⊥ = cc in impossible))

-- ---- a request that comes late or again

arrived : (given answer : Option Bytes) (bytes : Bytes) → Arrives given answer → answer ≡ Some bytes → given ≡ Some bytes
arrived given None bytes arrives is = none_given bytes is
arrived given (Some answer) bytes arrives is = arrives ∙ is

again_fated : (r : Request) (host : Bytes) (readable : IsReadable host r) (now : ℕ) (kept next : Kept) (batches : List (List Change)) (given answer : Option Bytes)
    → next.batches ≡ kept.batches ++ batches → Arrives given answer → ComesTo now kept r given next → HasFateAgain r now kept next batches answer
unfolding by_rule by_none
again_fated r host readable now kept next batches given answer gains arrives (inl x) =
    let f = by_rule now kept next (IsServed kept.rows r unheard) x.made x.answer false x.next_is (readable.fits, x.rule, tt) in
    record {
      fate = served now x.made x.answer false;
      is = f.is;
      at = refl;
      gained = batches_are kept next batches f.fate gains f.batches_are;
      rows_are = f.rows_are;
      status_is = λ bytes is status text read.
          (answer_read kept r now x.made x.answer x.rule bytes x.closing x.body (x.gives bytes (arrived given answer bytes arrives is)).0 status text read).0;
    }
again_fated r host readable now kept next batches given answer gains arrives (inr x) =
    let f = by_none now kept next (IsServed kept.rows r unheard) x.rows_are x.batches_are tt in
    record {
      fate = undelivered;
      is = tt;
      at = tt;
      gained = batches_are kept next batches undelivered gains f.batches_are;
      rows_are = f.rows_are;
      status_is = λ bytes is status text read. (want_read bytes x.closing (x.gives bytes (arrived given answer bytes arrives is)) status text read).0;
    }

pub agains_have_fates : ReadLaws → AgainsHaveFates
agains_have_fates laws host r bytes now kept next batches answer sent readable (given, delivers, arrives) gains =
    again_fated r host readable now kept next batches given answer gains arrives (comes_to laws host r bytes sent readable now kept given next delivers)

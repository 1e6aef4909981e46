-- Whichever first acts of a pull are done, the device may pull from there on.
use Rattle.std.proofs.Common.{◌≡◌, ◌⊎◌, ℕ, List, [], ◌∷◌, ◌++◌, length, Some, None, refl, sym, ap, ◌∙◌, subst, ⊎_elim, inl, inr, append_assoc}
use Rattle.std.specs.List.{flat_map}
use Rattle.std.proofs.lemmas.List.{append-nil}
use Rattle.std.proofs.lemmas.List.Concat.{flat_map-cons}
use Rattle.rand_chacha.specs.ChaCha.{ChaCha}
use Rattle.sn_account.specs.Laws.{HasOneAccount}
use Rattle.sn_device.specs.Asking.{Reply, said}
use Rattle.sn_device.specs.Runs.{Act, AreRounds, EndsBehind, EndsExchange, Halt, Round, Standing, acts_of, asked, broken, commits, posting, refused, rows_done}
use Rattle.sn_device.proofs.Facts.{EndsAlone, ExchangesAlone}
use Rattle.sn_device.specs.States.{IsSound, token_of}
use Rattle.sn_device.specs.Steps.{AppliesAnswer, AppliesTo, What, applies}
use Rattle.sn_device.specs.declared.error.ClientError.TheVariants as refusal
use Rattle.sn_conflict.specs.Checks.{most_retrieved}
use Rattle.sn_pull.specs.Laws.{MayPullAgain, PullGoesOn}
use Rattle.sn_pull.specs.Pulls.{MayPull}
use Rattle.sn_pull.specs.Serving.{AreServed}
use Rattle.sn_pull.proofs.EndLemmas.{AllWent, Behind, Came, Goes, OneRound, all_went, behind_first, came_it, exchanges_of, known, own_row, page_went, round_went, stands_first}
use Rattle.sn_pull.proofs.MayLemmas.{may_again}
use Rattle.sn_pull.proofs.RoundLemmas.{AsksPage, Known, Stands, asks_page, none_waits, served_page}
use Rattle.sn_rows.specs.Table.{Rows, rows_after}
use Rattle.sn_rows.specs.declared.change.Change.{Change}
use Rattle.sn_rows.specs.declared.device_rows.OwnerRow.{OwnerRow}
use Rattle.sn_sets.specs.declared.sets.Sets.{Sets}
use Rattle.sn_sync.specs.Laws.{HasOneStamp, HasOneToken}
use Rattle.sn_sync.specs.declared.request.Request.{Request}
use Rattle.sn_sync.specs.declared.request.Request.TheVariants as request

-- ---- acts without a commit

-- none, or a request
abbrev IsStill : List Act → Type 0
IsStill acts = (acts ≡ []) ⊎ ((r : Request) × (reply : Reply) × (acts ≡ asked r reply ∷ []))

-- they leave the rows, and so does each front of them
still_front : (rows : Rows) (acts front later : List Act) → IsStill acts → acts ≡ front ++ later → rows_done rows front ≡ rows
still_front rows acts [] later still e = refl
still_front rows acts (x ∷ front) later (inl none) e = absurd (let wrong : [] ≡ x ∷ (front ++ later) = sym none ∙ e in cc)
still_front rows acts (x ∷ []) later (inr (r, reply, one)) e =
    let whole : asked r reply ∷ [] ≡ x ∷ later = sym one ∙ e in
    let it : x ≡ asked r reply = cc in
    ap (λ (a : Act). rows_done rows (a ∷ [])) it
still_front rows acts (x ∷ y ∷ front) later (inr (r, reply, one)) e =
    absurd (let whole : asked r reply ∷ [] ≡ x ∷ y ∷ (front ++ later) = sym one ∙ e in cc)

-- ---- fronts of the exchanges

module _ (server first : Rows) (n : ℕ) (before : OwnerRow) (k : Known server first n before) (words : ChaCha) where
  abbrev At : Rows → Type 0
  At rows = Stands server first n before rows

  -- a front of one exchange and what follows it
  round_front : (at next : Rows) (r : Request) (reply : Reply) (what : What) (changes : List Change) (acts front later : List Act) → At at
      → rows_after at changes ≡ next → asked r reply ∷ commits what changes ∷ acts ≡ front ++ later
      → ((rest : List Act) → acts ≡ rest ++ later → At (rows_done next rest)) → At (rows_done at front)
  round_front at next r reply what changes acts [] later st same e more = st
  round_front at next r reply what changes acts (x ∷ []) later st same e more =
      let it : x ≡ asked r reply = cc in
      subst (λ (a : Act). At (rows_done at (a ∷ []))) (sym it) st
  round_front at next r reply what changes acts (x ∷ y ∷ front) later st same e more =
      let it : x ≡ asked r reply = cc in
      let then_it : y ≡ commits what changes = cc in
      let rest : acts ≡ front ++ later = cc in
      let done : At (rows_done (rows_after at changes) front) = subst (λ (rows : Rows). At (rows_done rows front)) (sym same) (more front rest) in
      subst (λ (a : Act). At (rows_done at (a ∷ y ∷ front))) (sym it)
      (subst (λ (a : Act). At (rows_done at (asked r reply ∷ a ∷ front))) (sym then_it) done)

  all_fronts : (at : Standing) (rounds : List Round) (after : Standing) (acts front later : List Act) (end : Rows) → Goes server first n before k words at
      → AreRounds at rounds after → AreServed server (flat_map acts_of rounds ++ acts) end → IsStill acts
      → flat_map acts_of rounds ++ acts ≡ front ++ later → At (rows_done at.rows front)
  all_fronts at [] after acts front later end goes e served still split =
      subst At (sym (still_front at.rows acts front later still split)) goes.stands
  all_fronts at (round ∷ rounds) after acts front later end goes (between, is, others) served still split =
      let parts : flat_map acts_of (round ∷ rounds) ++ acts ≡ acts_of round ++ (flat_map acts_of rounds ++ acts) =
      ap (λ (xs : List Act). xs ++ acts) (flat_map-cons acts_of round rounds) ∙ append_assoc (acts_of round) (flat_map acts_of rounds) acts in
      let one : OneRound server first n before k words at round between (flat_map acts_of rounds ++ acts) end =
      round_went server first n before k words at round between (flat_map acts_of rounds ++ acts) end goes is
      (subst (λ (xs : List Act). AreServed server xs end) parts served) in
      round_front at.rows between.rows round.request (said round.given) (applies round.request round.given) round.applied (flat_map acts_of rounds ++ acts) front
      later goes.stands one.next_rows (sym one.plain ∙ sym parts ∙ split)
      (λ rest behind. all_fronts between rounds after acts rest later end one.goes others one.served still behind)

  -- ---- behind the exchanges

  module _ (at : Standing) (goes : Goes server first n before k words at) where
    abbrev AsksSo : List ℕ → List Change → Request → Rows → Type 0
    AsksSo numbers posted r ready = AsksPage at.rows (own_row server first n before k words at goes) numbers posted r ready

    exchange_still : (numbers : List ℕ) (posted : List Change) (r : Request) (ready : Rows) (acts : List Act) (halt : Halt) → AsksSo numbers posted r ready
        → EndsExchange at.words numbers posted r ready acts halt → IsStill acts
    exchange_still numbers posted r ready acts halt ask (inl (some, none, stops)) = inl none
    exchange_still numbers posted r ready acts halt ask (inr (batch, inl (none, is))) =
        inl (none ∙ ap (λ (ns : List ℕ). posting ns posted) ask.no_numbers)
    exchange_still numbers posted r ready acts halt ask (inr (batch, inr (reply, is, ends))) =
        inr (r, reply, is ∙ ap (λ (ns : List ℕ). posting ns posted ++ asked r reply ∷ []) ask.no_numbers)

    ends_still : (count : ℕ) (acts : List Act) (halt : Halt) → EndsAlone count at acts halt → IsStill acts
    ends_still count acts halt (inl (done, none, is)) = inl none
    ends_still count acts halt (inr (inl (most, due, (none, is)))) = inl none
    ends_still count acts halt (inr (inr (inl (less, e)))) =
        exchange_still e.numbers e.posted e.request e.ready acts halt
        (asks_page at.rows (own_row server first n before k words at goes) e.numbers e.posted e.request e.ready
        (none_waits server first n before k at.rows goes.stands) goes.stands.owned e.sends) e.ends_so
    ends_still count acts halt (inr (inr (inr (none, is)))) = inl none

    -- the whole of a commit in which the disk failed
    behind_broken : (ready : Rows) (r : Request) (reply : Reply) (halt : Halt) (what : What) (changes : List Change) → ready ≡ at.rows
        → r ≡ request.Sync (own_row server first n before k words at goes).token [] most_retrieved
        (token_of (own_row server first n before k words at goes).sync_token) (token_of (own_row server first n before k words at goes).cursor_token)
        → Came server first n before k words at goes reply → EndsBehind ready at.words r reply halt → halt ≡ broken what changes
        → At (rows_after at.rows changes)
    behind_broken ready r reply halt what changes ready_is r_is came (inl (why, fails, is)) e = absurd (let wrong : refused why ≡ broken what changes = sym is ∙ e in cc)
    behind_broken ready r reply halt what changes ready_is r_is came (inr (inl is)) e =
        absurd (let wrong : refused refusal.Memory ≡ broken what changes = sym is ∙ e in cc)
    behind_broken ready r reply halt what changes ready_is r_is came (inr (inr (given, said_is, inl (why, un, is)))) e =
        absurd (let wrong : refused why ≡ broken what changes = sym is ∙ e in cc)
    behind_broken ready r reply halt what changes ready_is r_is came (inr (inr (given, said_is, inr (made, left, step, inl (batch, is))))) e =
        let whole : broken (applies r given) made ≡ broken what changes = sym is ∙ e in
        let same : made ≡ changes = cc in
        let here : AppliesTo at.rows at.words r given made left = subst (λ (x : Rows). AppliesTo x at.words r given made left) ready_is step in
        let none : AppliesAnswer at.rows at.words [] given made left = subst (λ (q : Request). AppliesTo at.rows at.words q given made left) r_is here in
        let page = came_it server first n before k words at goes reply given came said_is in
        let then : Behind server first n before words (record { rows = rows_after at.rows made; words = left; last = Some given }) =
        page_went server first n before k words at goes given page made left none in
        subst (λ (cs : List Change). At (rows_after at.rows cs)) same then.stands
    behind_broken ready r reply halt what changes ready_is r_is came (inr (inr (given, said_is, inr (made, left, step, inr (inl (past, is)))))) e =
        absurd (let wrong = sym is ∙ e in cc)
    behind_broken ready r reply halt what changes ready_is r_is came (inr (inr (given, said_is, inr (made, left, step, inr (inr is))))) e =
        absurd (let wrong : refused refusal.Memory ≡ broken what changes = sym is ∙ e in cc)

    exchange_broken : (numbers : List ℕ) (posted : List Change) (r : Request) (ready : Rows) (acts : List Act) (halt : Halt) (end : Rows) (what : What)
        (changes : List Change) → AsksSo numbers posted r ready → EndsExchange at.words numbers posted r ready acts halt → AreServed server acts end
        → halt ≡ broken what changes → At (rows_after at.rows changes)
    exchange_broken numbers posted r ready acts halt end what changes ask (inl (some, none, stops)) served e = absurd (some ask.no_numbers)
    exchange_broken numbers posted r ready acts halt end what changes ask (inr (batch, inl (none, is))) served e =
        absurd (let wrong : refused refusal.Memory ≡ broken what changes = sym is ∙ e in cc)
    exchange_broken numbers posted r ready acts halt end what changes ask (inr (batch, inr (reply, acts_is, ends))) served e =
        let acts_are : acts ≡ asked r reply ∷ [] = acts_is ∙ ap (λ (ns : List ℕ). posting ns posted ++ asked r reply ∷ []) ask.no_numbers in
        let all : AreServed server (asked r reply ∷ []) end = subst (λ (xs : List Act). AreServed server xs end) acts_are served in
        let page = served_page server first n before k at.rows goes.stands r reply all.0 ask.request_is all.1 in
        behind_broken ready r reply halt what changes ask.ready_is ask.request_is page.1 ends e

    ends_broken : (count : ℕ) (acts : List Act) (halt : Halt) (end : Rows) (what : What) (changes : List Change) → EndsAlone count at acts halt
        → AreServed server acts end → halt ≡ broken what changes → At (rows_after at.rows changes)
    ends_broken count acts halt end what changes (inl (done, none, is)) served e = absurd (let wrong = sym is ∙ e in cc)
    ends_broken count acts halt end what changes (inr (inl (most, due, (none, is)))) served e =
        absurd (let wrong : refused refusal.RoundsUsed ≡ broken what changes = sym is ∙ e in cc)
    ends_broken count acts halt end what changes (inr (inr (inl (less, x)))) served e =
        exchange_broken x.numbers x.posted x.request x.ready acts halt end what changes
        (asks_page at.rows (own_row server first n before k words at goes) x.numbers x.posted x.request x.ready
        (none_waits server first n before k at.rows goes.stands) goes.stands.owned x.sends) x.ends_so served e
    ends_broken count acts halt end what changes (inr (inr (inr (none, is)))) served e =
        absurd (let wrong : refused refusal.Memory ≡ broken what changes = sym is ∙ e in cc)

-- ---- the law

module _ (server after rows : Rows) (n : ℕ) (owner : OwnerRow) (sets : Sets) (words : ChaCha) (acts : List Act) (halt : Halt)
    (k : Known server rows n owner) (device : IsSound rows) (may : MayPull server rows n owner sets) (served : AreServed server acts after)
    (x : ExchangesAlone rows words acts halt) where
  abbrev begin : Standing
  begin = record { rows = rows; words = words; last = None }

  went : AllWent server rows n owner k words begin x.rounds x.at x.later after
  went = all_went server after rows n owner sets words acts halt k device may served x

  still : IsStill x.later
  still = ends_still server rows n owner k words x.at went.goes (length x.rounds) x.later halt x.ends

  fronts_pull : (front later : List Act) → acts ≡ front ++ later → MayPullAgain server (rows_done rows front) n owner sets
  fronts_pull front later split =
      may_again server rows n owner sets (rows_done rows front) may
      (all_fronts server rows n owner k words begin x.rounds x.at x.later front later after
      (behind_first server rows n owner sets words k.sound device may) x.went (subst (λ (xs : List Act). AreServed server xs after) x.acts_are served) still
      (sym x.acts_are ∙ split))

  broken_pulls : (what : What) (changes : List Change) → halt ≡ broken what changes → MayPullAgain server (rows_after (rows_done rows acts) changes) n owner sets
  broken_pulls what changes e =
      let there : rows_done rows acts ≡ x.at.rows =
      ap (rows_done rows) x.acts_are ∙ went.rows_are ∙ still_front x.at.rows x.later x.later [] still (sym (append-nil x.later)) in
      subst (λ (r : Rows). MayPullAgain server (rows_after r changes) n owner sets) (sym there)
      (may_again server rows n owner sets (rows_after x.at.rows changes) may
      (ends_broken server rows n owner k words x.at went.goes (length x.rounds) x.later halt after what changes x.ends went.served e))

pub pull_goes_on : HasOneStamp → HasOneToken → HasOneAccount → PullGoesOn
pull_goes_on stamps one_token one_account least server after rows n owner sets words acts halt sound device may run served =
    let k = known stamps one_token one_account server rows n owner sets sound may in
    ⊎_elim
    (λ (wants : (acts ≡ []) × (halt ≡ refused refusal.Memory)). (
      (λ (front later : List Act) (split : acts ≡ front ++ later). may_again server rows n owner sets (rows_done rows front) may
          (subst (λ (r : Rows). Stands server rows n owner r) (sym (still_front rows acts front later (inl wants.0) split))
          (stands_first server rows n owner sets sound device may))),
      (λ (what : What) (changes : List Change) (e : halt ≡ broken what changes). absurd (let wrong : refused refusal.Memory ≡ broken what changes = sym wants.1 ∙ e in cc)),
    ))
    (λ x. (
      fronts_pull server after rows n owner sets words acts halt k device may served x,
      broken_pulls server after rows n owner sets words acts halt k device may served x,
    ))
    (exchanges_of least server rows n owner sets words acts halt may run)

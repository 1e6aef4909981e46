-- How a pull ends: page after page, up to the last one, or what stops it.
use Rattle.std.proofs.Common.{◌≡◌, ◌⊎◌, ◌+◌, ℕ, false, List, [], ◌∷◌, ◌++◌, length, map, Option, Some, None, refl, sym, ap, ◌∙◌, subst, ⊎_elim, inl, inr, arith, append_assoc}
use Rattle.std.specs.Prelude.{IsSome}
use Rattle.std.specs.List.{AllZip, Contains, flat_map}
use Rattle.std.proofs.lemmas.Bool.{false_from_ne_true}
use Rattle.std.proofs.lemmas.List.Elements.{Contains-append_left}
use Rattle.std.proofs.lemmas.List.Concat.{flat_map-cons}
use Rattle.rand_chacha.specs.ChaCha.{ChaCha}
use Rattle.sn_account.specs.Laws.{HasOneAccount}
use Rattle.sn_account.specs.Pages.{Found}
use Rattle.sn_account.specs.Sound.{IsSound as IsSoundServer}
use Rattle.sn_account.specs.Syncs.{above_of, is_first}
use Rattle.sn_device.specs.Asking.{Fails, Reply, lost, said}
use Rattle.sn_device.specs.Runs.{Act, AreRounds, EndsBehind, EndsExchange, Halt, IsAllDone, IsCheckPlace, IsDone, IsRound, IsUnapplied, Round, Run, Standing, StopsAt, acts_of, answered, asked, broken, commits, items_of, most_exchanges, nothing, posting, refused, rows_done, sync}
use Rattle.sn_device.proofs.Facts.{EndsAlone, ExchangesAlone, synced_alone}
use Rattle.sn_device.specs.States.{Bytes, HasLocal, HasOwner, HasSets, IsInSlot, IsSound, owner_columns, token_of}
use Rattle.sn_device.specs.Steps.{AppliesAnswer, AppliesTo, What, applies, start}
use Rattle.sn_device.specs.Taking.{Progress, RunsOut, RunsOutAt, Told, is_retrieved, last_number}
use Rattle.sn_device.specs.declared.error.ClientError.{ClientError}
use Rattle.sn_device.specs.declared.error.ClientError.TheVariants as refusal
use Rattle.sn_conflict.specs.Checks.{most_retrieved}
use Rattle.sn_conflict.specs.declared.error.CheckError.{CheckError}
use Rattle.sn_conflict.specs.declared.error.CheckError.TheVariants as wrong
use Rattle.sn_pull.specs.Laws.{WholePull}
use Rattle.sn_pull.specs.Pages.{IsPageAnswer}
use Rattle.sn_pull.specs.Pulls.{EndsPull, Has, IsOfAccount, IsPulled, IsUpToDate, MayPull, StandsOnVersion}
use Rattle.sn_pull.specs.Serving.{AreServed, EndsLost, requests_in}
use Rattle.sn_pull.proofs.CheckLemmas.{never_fails, never_long}
use Rattle.sn_pull.proofs.ListLemmas.{zip_parts}
use Rattle.sn_pull.proofs.MayLemmas.{holds_then}
use Rattle.sn_pull.proofs.PageLemmas.{pages_answer}
use Rattle.sn_pull.proofs.RoundLemmas.{AsksPage, Comes, Finished, IsFinished, IsPageOfSync, Known, Stands, asks_of, asks_page, commits_fit, commits_page, finished_then, going_first, none_waits, of_page, older_none, page_told, served_page, stands_then, tells, with_parts}
use Rattle.sn_pull.proofs.RowLemmas.{one_owner, same_row}
use Rattle.sn_pull.proofs.TakeLemmas.{Going, IsTold, took_all}
use Rattle.sn_rows.specs.Table.{Rows, rows_after}
use Rattle.sn_rows.specs.declared.change.Change.{Change}
use Rattle.sn_rows.specs.declared.device_rows.LocalItem.{LocalItem}
use Rattle.sn_rows.specs.declared.device_rows.OwnerRow.{OwnerRow}
use Rattle.sn_rows.specs.declared.key.Key.TheVariants as key
use Rattle.sn_rows.specs.declared.key.Slot.{Slot}
use Rattle.sn_rows.specs.declared.key.Slot.TheVariants.{Asked, Older}
use Rattle.sn_rows.specs.declared.server_rows.ItemRow.{ItemRow}
use Rattle.sn_sets.specs.declared.sets.Sets.{Sets}
use Rattle.sn_string.specs.declared.params.KeySet.{KeySet}
use Rattle.sn_sync.specs.Laws.{HasOneStamp, HasOneToken}
use Rattle.sn_sync.specs.declared.answer.Answer.{Answer}
use Rattle.sn_sync.specs.declared.answer.Answer.TheVariants as answer
use Rattle.sn_sync.specs.declared.item.Item.{Item}
use Rattle.sn_sync.specs.declared.request.Request.{Request}
use Rattle.sn_sync.specs.declared.request.Request.TheVariants as request

-- ---- behind pages

-- the last answer was a page, and where it has no cursor all is pulled
abbrev pub IsLast : Rows → ℕ → Rows → Option Answer → Type 0
IsLast server n rows None = Unit {0}
IsLast server n rows (Some given) = (cursor : Option Bytes) × IsPageOfSync given cursor × (cursor ≡ None → IsFinished server n rows)

-- ---- what stops

abbrev pub Stops : List Act → Halt → Type 0
Stops acts halt = (halt ≡ refused (refusal.NumbersUsed last_number)) ⊎ ((halt ≡ refused refusal.Memory)
    ⊎ (((what : What) × (changes : List Change) × (halt ≡ broken what changes)) ⊎ ((halt ≡ refused refusal.LinkFault) × EndsLost acts)))

-- what stops the last exchange stops the call
pub stops_of : (front later whole : List Act) (halt : Halt) → whole ≡ front ++ later → Stops later halt → Stops whole halt
stops_of front later whole halt split (inl used) = inl used
stops_of front later whole halt split (inr (inl memory)) = inr (inl memory)
stops_of front later whole halt split (inr (inr (inl failed))) = inr (inr (inl failed))
stops_of front later whole halt split (inr (inr (inr (is, gone)))) = inr (inr (inr (
  is,
  record {
    front = front ++ gone.front;
    request = gone.request;
    split = split ∙ ap (λ (xs : List Act). front ++ xs) gone.split ∙ sym (append_assoc front gone.front (asked gone.request lost ∷ []));
  },
)))

-- ---- where all is done

pub finished_last : (server rows : Rows) (n : ℕ) (owner : OwnerRow) → HasOwner rows owner → (o : Option Answer) → IsLast server n rows o → IsDone rows o
    → Finished server n rows owner
finished_last server rows n owner owned None last done = absurd done
finished_last server rows n owner owned (Some given) (cursor, page, finished) done =
    let all : IsAllDone rows (answer.Sync [] cursor page.retrieved [] page.token) = subst (IsAllDone rows) page.is done in
    let f = finished all.0 in
    subst (Finished server n rows) (one_owner rows f.0 owner f.1 owned) f.2

pub record Behind (server first : Rows) (n : ℕ) (before : OwnerRow) (words : ChaCha) (at : Standing) : Type 0 where
  pub stands : Stands server first n before at.rows
  pub words_are : at.words ≡ words
  pub last : IsLast server n at.rows at.last

module _ (server first : Rows) (n : ℕ) (before : OwnerRow) (k : Known server first n before) (words : ChaCha) where
  abbrev pub Goes : Standing → Type 0
  Goes at = Behind server first n before words at

  -- ---- one exchange

  pub record OneRound (at : Standing) (round : Round) (after : Standing) (acts : List Act) (end : Rows) : Type 0 where
    pub goes : Goes after
    pub served : AreServed server acts end
    pub plain : acts_of round ++ acts ≡ asked round.request (said round.given) ∷ commits (applies round.request round.given) round.applied ∷ acts
    pub next_rows : rows_after at.rows round.applied ≡ after.rows
    pub rows_are : rows_done at.rows (acts_of round ++ acts) ≡ rows_done after.rows acts
    pub counted : requests_in (acts_of round ++ acts) ≡ 1 + requests_in acts

  -- an answer that came back is the page
  pub said_page : (rows : Rows) → (st : Stands server first n before rows) → (given : Answer) → Comes server first n before k rows st (said given)
      → IsPageAnswer server n (above_of st.asks.from st.asks.cursor) (is_first st.asks.from st.asks.cursor) most_retrieved given
  said_page rows st given (inl (other, same, page)) =
      let it : other ≡ given = cc in
      subst (λ (g : Answer). IsPageAnswer server n (above_of st.asks.from st.asks.cursor) (is_first st.asks.from st.asks.cursor) most_retrieved g) it page
  said_page rows st given (inr (inl none)) = absurd cc
  said_page rows st given (inr (inr none)) = absurd cc

  -- the commit of a page
  pub page_went : (at : Standing) → (goes : Goes at) → (given : Answer)
      → IsPageAnswer server n (above_of goes.stands.asks.from goes.stands.asks.cursor) (is_first goes.stands.asks.from goes.stands.asks.cursor) most_retrieved given
      → (changes : List Change) (left : ChaCha) → AppliesAnswer at.rows at.words [] given changes left
      → Goes (record { rows = rows_after at.rows changes; words = left; last = Some given })
  page_went at goes given pa changes left step =
      let st = goes.stands in
      let applied = subst (λ (g : Answer). AppliesAnswer at.rows at.words [] g changes left) pa.answers step in
      let c = commits_page server first n before k at.rows st at.words pa.page pa.left pa.retrieved pa.cursor pa.token pa.is_page pa.retrieved_are pa.tokens
      changes left applied in
      record {
        stands = stands_then server first n before k at.rows st at.words pa.page pa.left pa.retrieved pa.cursor pa.token pa.is_page pa.retrieved_are pa.tokens
            changes left c;
        words_are = c.left_is ∙ goes.words_are;
        last = (
          pa.cursor,
          record { retrieved = pa.retrieved; token = pa.token; is = pa.answers },
          finished_then server first n before k at.rows st at.words pa.page pa.left pa.retrieved pa.cursor pa.token pa.is_page pa.retrieved_are pa.tokens
              changes left c,
        );
      }

  pub round_went : (at : Standing) (round : Round) (after : Standing) (acts : List Act) (end : Rows) → Goes at → IsRound at round after
      → AreServed server (acts_of round ++ acts) end → OneRound at round after acts end
  round_went at round after acts end goes is served =
      let st = goes.stands in
      let ask : AsksPage at.rows st.owner round.numbers round.posted round.request is.ready =
      asks_page at.rows st.owner round.numbers round.posted round.request is.ready (none_waits server first n before k at.rows st) st.owned is.sends in
      let tail : List Act = asked round.request (said round.given) ∷ commits (applies round.request round.given) round.applied ∷ acts in
      let plain : acts_of round ++ acts ≡ tail =
      ap (λ (ns : List ℕ). (posting ns round.posted ++ asked round.request (said round.given) ∷ commits (applies round.request round.given) round.applied ∷ [])
      ++ acts) ask.no_numbers in
      let all : AreServed server tail end = subst (λ (xs : List Act). AreServed server xs end) plain served in
      let page = served_page server first n before k at.rows st round.request (said round.given) all.0 ask.request_is all.1 in
      let pa : IsPageAnswer server n (above_of st.asks.from st.asks.cursor) (is_first st.asks.from st.asks.cursor) most_retrieved round.given =
      said_page at.rows st round.given page.1 in
      let ready_step : AppliesTo at.rows at.words round.request round.given round.applied is.left =
      subst (λ (r : Rows). AppliesTo r at.words round.request round.given round.applied is.left) ask.ready_is is.step in
      let step : AppliesAnswer at.rows at.words [] round.given round.applied is.left =
      subst (λ (q : Request). AppliesTo at.rows at.words q round.given round.applied is.left) ask.request_is ready_step in
      let next : Standing = record { rows = rows_after at.rows round.applied; words = is.left; last = Some round.given } in
      let after_is : after ≡ next =
      is.after_is ∙ ap (λ (r : Rows). record { rows = rows_after r round.applied; words = is.left; last = Some round.given }) ask.ready_is in
      let there : Goes next = page_went at goes round.given pa round.applied is.left step in
      record {
        goes = subst Goes (sym after_is) there;
        served = subst (λ (s : Rows). AreServed s acts end) page.0 all.2;
        plain = plain;
        next_rows = ap (λ (s : Standing). s.rows) (sym after_is);
        rows_are = ap (rows_done at.rows) plain ∙ ap (λ (s : Standing). rows_done s.rows acts) (sym after_is);
        counted = ap requests_in plain;
      }

  -- ---- all of them

  pub record AllWent (at : Standing) (rounds : List Round) (after : Standing) (acts : List Act) (end : Rows) : Type 0 where
    pub goes : Goes after
    pub served : AreServed server acts end
    pub rows_are : rows_done at.rows (flat_map acts_of rounds ++ acts) ≡ rows_done after.rows acts
    pub counted : requests_in (flat_map acts_of rounds ++ acts) ≡ length rounds + requests_in acts

  pub rounds_went : (at : Standing) (rounds : List Round) (after : Standing) (acts : List Act) (end : Rows) → Goes at → AreRounds at rounds after
      → AreServed server (flat_map acts_of rounds ++ acts) end → AllWent at rounds after acts end
  rounds_went at [] after acts end goes e served = record {
    goes = subst Goes (sym e) goes;
    served = served;
    rows_are = ap (λ (s : Standing). rows_done s.rows acts) (sym e);
    counted = omega arith;
  }
  rounds_went at (round ∷ rounds) after acts end goes (between, is, later) served =
      let parts : flat_map acts_of (round ∷ rounds) ++ acts ≡ acts_of round ++ (flat_map acts_of rounds ++ acts) =
      ap (λ (xs : List Act). xs ++ acts) (flat_map-cons acts_of round rounds) ∙ append_assoc (acts_of round) (flat_map acts_of rounds) acts in
      let one = round_went at round between (flat_map acts_of rounds ++ acts) end goes is (subst (λ (xs : List Act). AreServed server xs end) parts served) in
      let rest = rounds_went between rounds after acts end one.goes later one.served in
      record {
        goes = rest.goes;
        served = rest.served;
        rows_are = ap (rows_done at.rows) parts ∙ one.rows_are ∙ rest.rows_are;
        counted = (let a = ap requests_in parts in let b = one.counted in let c = rest.counted in omega arith);
      }

  -- ---- what stops

  -- the local numbers are used up: nothing else stops a version of a page
  runs_out_at : (rows : Rows) (next : ℕ) (p : Progress) (sets : Sets) (f : Found) (t : Told) (why : ClientError) → Going server rows n next words p → IsTold f t → RunsOutAt sets [] p t why
      → why ≡ refusal.NumbersUsed last_number
  runs_out_at rows next p sets f t why going told (inl (needs, used, is)) = is ∙ ap (λ (m : ℕ). refusal.NumbersUsed m) used
  runs_out_at rows next p sets f t why going told (inr (inl (i, flag, is, (number, local, item, m)), room, drawn)) =
      absurd (let none = (going.clean number local item.0).0 in let some = m.other.meets.drafted in cc)
  runs_out_at rows next p sets f t why going told (inr (inr (unsaved, is, named), room, drawn)) = absurd (let e = sym told.1 ∙ is in cc)

  page_runs_out : (rows : Rows) → (st : Stands server first n before rows) → (sets : Sets) (page : List Found) (retrieved : List Item)
      (why : ClientError) → sets.older ≡ None → ((f : Found) → Contains page f → Has server n f.0 f.1 × (length f.0 ≡ 16))
      → AllZip IsTold page (map is_retrieved retrieved) → RunsOut sets [] (start rows st.owner words) (map is_retrieved retrieved) why
      → why ≡ refusal.NumbersUsed last_number
  page_runs_out rows st sets page retrieved why alone own told out =
      let zipped : AllZip IsTold page (out.front ++ out.entry ∷ out.later) = subst (λ (ts : List Told). AllZip IsTold page ts) out.split told in
      let p = zip_parts IsTold page out.front out.entry out.later zipped in
      let own_before : (f : Found) → Contains p.before f → Has server n f.0 f.1 × (length f.0 ≡ 16) =
      λ f among. own f (subst (λ (fs : List Found). Contains fs f) (sym p.split) (Contains-append_left p.before (p.at ∷ p.later) f among)) in
      let took = took_all k.stamps server rows n st.owner.next words sets alone p.before out.front (start rows st.owner words) out.at own_before p.zipped
      (going_first server first n before k rows st words) out.taken in
      runs_out_at rows st.owner.next out.at sets p.at out.entry why took.going p.is out.stops

  module _ (at : Standing) (goes : Goes at) where
    abbrev pub own_row : OwnerRow
    own_row = goes.stands.owner

    abbrev pub Page : Answer → Type 0
    Page given = IsPageAnswer server n (above_of goes.stands.asks.from goes.stands.asks.cursor) (is_first goes.stands.asks.from goes.stands.asks.cursor) most_retrieved given

    -- an answer that is a page is applied, unless the local numbers are used up
    unapplied_page : (w : ChaCha) → w ≡ words → (given : Answer) → Page given → (why : ClientError) → IsUnapplied at.rows w [] given why
        → why ≡ refusal.NumbersUsed last_number
    unapplied_page w same given page why un =
        by_cause (subst (λ (g : Answer). IsUnapplied at.rows w [] g why) page.answers un)
      where
        by_cause : IsUnapplied at.rows w [] (answer.Sync [] page.cursor page.retrieved [] page.token) why → why ≡ refusal.NumbersUsed last_number
        by_cause (inl (name, long, is)) =
            let t = tells server first n before k at.rows goes.stands words page.page page.left page.retrieved page.cursor page.token page.is_page
            page.retrieved_are page.tokens in
            absurd (never_long page.cursor page.token name t.stamp t.token_is t.cursor_is long)
        by_cause (inr (inl (e, place, fails, is_place, is))) =
            let memory : e ≡ wrong.Memory = never_fails server n k.sound k.stamps (above_of goes.stands.asks.from goes.stands.asks.cursor)
            (is_first goes.stands.asks.from goes.stands.asks.cursor) page.page page.left page.retrieved page.is_page page.retrieved_are page.cursor page.token e
            page.tokens fails in
            absurd (subst (λ (x : CheckError). IsCheckPlace x place) memory is_place)
        by_cause (inr (inr (owner, sets, passes, holds, out))) =
            let own : owner ≡ own_row = one_owner at.rows owner own_row holds.owned goes.stands.owned in
            let alone : sets.older ≡ None =
            older_none at.rows owner.identifier sets.older (goes.stands.sets_stay Older ∙ k.no_older) holds.before in
            let out_own : RunsOut sets [] (start at.rows own_row w) (map is_retrieved page.retrieved) why =
            subst (λ (o : OwnerRow). RunsOut sets [] (start at.rows o w) (map is_retrieved page.retrieved) why) own out in
            let out_words = subst (λ (x : ChaCha). RunsOut sets [] (start at.rows own_row x) (map is_retrieved page.retrieved) why) same out_own in
            page_runs_out at.rows goes.stands sets page.page page.retrieved why alone
            (of_page server first n before k at.rows goes.stands words page.page page.left page.retrieved page.cursor page.token page.is_page
            page.retrieved_are page.tokens)
            (page_told server first n before k page.page page.retrieved page.retrieved_are) out_words

    -- a commit of a page that isn't made: the disk failed, or memory was wanting
    stops_page : (w : ChaCha) (given : Answer) → Page given → (changes : List Change) (left : ChaCha) (acts : List Act) (halt : Halt) (r : Request)
        → AppliesAnswer at.rows w [] given changes left → StopsAt (applies r given) changes halt → Stops acts halt
    stops_page w given page changes left acts halt r step (inl (batch, is)) = inr (inr (inl (applies r given, changes, is)))
    stops_page w given page changes left acts halt r step (inr (inl (past, is))) =
        let applied = subst (λ (g : Answer). AppliesAnswer at.rows w [] g changes left) page.answers step in
        let c = commits_page server first n before k at.rows goes.stands w page.page page.left page.retrieved page.cursor page.token page.is_page
        page.retrieved_are page.tokens changes left applied in
        absurd (past (commits_fit server first n before k at.rows goes.stands w page.page page.left page.retrieved page.cursor page.token page.is_page
        page.retrieved_are page.tokens changes left c))
    stops_page w given page changes left acts halt r step (inr (inr is)) = inr (inl is)

    abbrev pub Came : Reply → Type 0
    Came reply = Comes server first n before k at.rows goes.stands reply

    -- a reply that ends the call: memory was wanting to read it, or it was lost
    fails_no : (r : Request) (reply : Reply) (why : ClientError) → Came reply → Fails reply why
        → (why ≡ refusal.Memory) ⊎ ((why ≡ refusal.LinkFault) × EndsLost (asked r reply ∷ []))
    fails_no r reply why (inl (given, is, page)) fails =
        let f : Fails (said given) why = subst (λ (x : Reply). Fails x why) is fails in
        absurd (subst (λ (g : Answer). Fails (said g) why) page.answers f)
    fails_no r reply why (inr (inl is)) fails = inl (subst (λ (x : Reply). Fails x why) is fails)
    fails_no r reply why (inr (inr is)) fails =
        inr (subst (λ (x : Reply). Fails x why) is fails, record { front = []; request = r; split = ap (λ (x : Reply). asked r x ∷ []) is })

    pub came_it : (reply : Reply) (given : Answer) → Came reply → reply ≡ said given → Page given
    came_it reply given came same = said_page at.rows goes.stands given (subst (λ (x : Reply). Came x) same came)

    behind_stops : (ready : Rows) (r : Request) (reply : Reply) (halt : Halt) → ready ≡ at.rows
        → r ≡ request.Sync own_row.token [] most_retrieved (token_of own_row.sync_token) (token_of own_row.cursor_token) → Came reply
        → EndsBehind ready at.words r reply halt → Stops (asked r reply ∷ []) halt
    behind_stops ready r reply halt ready_is r_is came (inl (why, fails, is)) =
        ⊎_elim (λ memory. inr (inl (is ∙ ap (λ (w : ClientError). refused w) memory)))
        (λ gone. inr (inr (inr (is ∙ ap (λ (w : ClientError). refused w) gone.0, gone.1)))) (fails_no r reply why came fails)
    behind_stops ready r reply halt ready_is r_is came (inr (inl is)) = inr (inl is)
    behind_stops ready r reply halt ready_is r_is came (inr (inr (given, said_is, inl (why, un, is)))) =
        let here : IsUnapplied at.rows at.words (items_of r) given why = subst (λ (x : Rows). IsUnapplied x at.words (items_of r) given why) ready_is un in
        let none : IsUnapplied at.rows at.words [] given why = subst (λ (q : Request). IsUnapplied at.rows at.words (items_of q) given why) r_is here in
        inl (is ∙ ap (λ (w : ClientError). refused w)
        (unapplied_page at.words goes.words_are given (came_it reply given came said_is) why none))
    behind_stops ready r reply halt ready_is r_is came (inr (inr (given, said_is, inr (changes, left, step, stops)))) =
        let here : AppliesTo at.rows at.words r given changes left = subst (λ (x : Rows). AppliesTo x at.words r given changes left) ready_is step in
        let none : AppliesAnswer at.rows at.words [] given changes left = subst (λ (q : Request). AppliesTo at.rows at.words q given changes left) r_is here in
        stops_page at.words given (came_it reply given came said_is) changes left (asked r reply ∷ []) halt r none stops

    -- ---- the end

    -- how a pull ends behind the pages that were applied
    abbrev EndsHere : ℕ → List Act → Halt → Type 0
    EndsHere count acts halt = ((halt ≡ answered nothing words) × (acts ≡ []) × Finished server n at.rows own_row)
        ⊎ (((halt ≡ refused refusal.RoundsUsed) × (acts ≡ []) × (count ≡ most_exchanges)) ⊎ Stops acts halt)

    pub exchange_ends : (acts : List Act) (halt : Halt) (end : Rows) (numbers : List ℕ) (posted : List Change) (r : Request) (ready : Rows)
        → AsksPage at.rows own_row numbers posted r ready → EndsExchange at.words numbers posted r ready acts halt → AreServed server acts end
        → (end ≡ server) × Stops acts halt
    exchange_ends acts halt end numbers posted r ready ask (inl (some, none, stops)) served = absurd (some ask.no_numbers)
    exchange_ends acts halt end numbers posted r ready ask (inr (batch, inl (none, is))) served =
        let acts_are : acts ≡ [] = none ∙ ap (λ (ns : List ℕ). posting ns posted) ask.no_numbers in
        (subst (λ (xs : List Act). AreServed server xs end) acts_are served, inr (inl is))
    exchange_ends acts halt end numbers posted r ready ask (inr (batch, inr (reply, acts_is, ends))) served =
        let acts_are : acts ≡ asked r reply ∷ [] = acts_is ∙ ap (λ (ns : List ℕ). posting ns posted ++ asked r reply ∷ []) ask.no_numbers in
        let all : AreServed server (asked r reply ∷ []) end = subst (λ (xs : List Act). AreServed server xs end) acts_are served in
        let page = served_page server first n before k at.rows goes.stands r reply all.0 ask.request_is all.1 in
        (all.2 ∙ page.0, subst (λ (xs : List Act). Stops xs halt) (sym acts_are) (behind_stops ready r reply halt ask.ready_is ask.request_is page.1 ends))

    ends_here : (count : ℕ) (acts : List Act) (halt : Halt) (end : Rows) → EndsAlone count at acts halt → AreServed server acts end
        → (end ≡ server) × EndsHere count acts halt
    ends_here count acts halt end (inl (done, none, is)) served = (
      subst (λ (xs : List Act). AreServed server xs end) none served,
      inl (is ∙ ap (λ (w : ChaCha). answered nothing w) goes.words_are, none, finished_last server at.rows n own_row goes.stands.owned at.last goes.last done),
    )
    ends_here count acts halt end (inr (inl (most, due, (none, is)))) served =
        (subst (λ (xs : List Act). AreServed server xs end) none served, inr (inl (is, none, most)))
    ends_here count acts halt end (inr (inr (inl (less, e)))) served =
        let ask = asks_page at.rows own_row e.numbers e.posted e.request e.ready (none_waits server first n before k at.rows goes.stands)
        goes.stands.owned e.sends in
        let so = exchange_ends acts halt end e.numbers e.posted e.request e.ready ask e.ends_so served in
        (so.0, inr (inr so.1))
    ends_here count acts halt end (inr (inr (inr (none, is)))) served =
        (subst (λ (xs : List Act). AreServed server xs end) none served, inr (inr (inr (inl is))))

-- ---- before the first page

module _ (server rows : Rows) (n : ℕ) (owner : OwnerRow) (sets : Sets) (sound : IsSoundServer server) (device : IsSound rows)
    (may : MayPull server rows n owner sets) where
  no_some : {A : Type 0} (o : Option A) → o ≡ None → IsSome o → ⊥
  no_some None e some = cc
  no_some (Some a) e some = cc

  none_or_some : {A : Type 0} (o : Option A) → ¬ (IsSome o) → o ≡ None
  none_or_some None not = refl
  none_or_some (Some a) not = absurd (not refl)

  clean_first : (number : ℕ) (local : LocalItem) → HasLocal rows number local → (local.latest ≡ None) × (local.posted ≡ None) × (local.stale ≡ false)
  clean_first number local has =
      let none = may.none_waits number local has in
      let item = device.locals.items number local has in
      let no_draft : local.latest ≡ None = none_or_some local.latest (λ some. none (inl some)) in (
        no_draft,
        none_or_some local.posted (λ sent. no_some local.latest no_draft (item.sent sent)),
        false_from_ne_true local.stale (λ stale. none (inr stale)),
      )

  pub stands_first : Stands server rows n owner rows
  stands_first = record {
    owner = owner;
    owned = may.holds.owned;
    columns_are = refl;
    rises = omega arith;
    sets_stay = λ slot. refl;
    numbered = λ number local has. device.locals.numbered owner number local may.holds.owned has;
    apart = λ number other local twin has had same. device.locals.apart number other local twin has had same;
    clean = clean_first;
    begins = may.begins;
    asks = asks_of server rows n owner sound may.begins;
    given = λ before. before;
  }

-- ---- after the last page

pub slot_none : (rows : Rows) (identifier : Bytes) (slot : Slot) (o : Option KeySet) → o ≡ None → IsInSlot rows identifier slot o → rows (key.Set slot) ≡ None
slot_none rows identifier slot None e is = is
slot_none rows identifier slot (Some set) e is = absurd cc

pub up_to_date : (server first : Rows) (n : ℕ) (before : OwnerRow) (sets : Sets) (rows : Rows) → HasSets first before sets
    → (st : Stands server first n before rows) → Finished server n rows st.owner → IsUpToDate server rows n before sets
up_to_date server first n before sets rows holds st f = record {
  items = record {
    each = λ uuid version has live. ⊎_elim
        (λ gone. (let e = sym live ∙ gone.0 in absurd cc)) (λ stands. stands) (f.pulled uuid version has);
    only = only;
    once = st.apart;
    clean = st.clean;
  };
  owner = st.owner;
  holds = holds_then server first n before sets rows holds st;
  stamp = f.stamp;
  greatest = f.greatest;
  token_is = f.token_is;
  columns_are = st.columns_are ∙ with_parts (owner_columns before) st.owner.sync_token st.owner.sync_token st.owner.cursor_token [] st.owner.next st.owner.next
      refl f.no_cursor refl;
  rises = st.rises;
}
  where
    only : (number : ℕ) (local : LocalItem) → HasLocal rows number local
        → (version : ItemRow) × Has server n local.uuid version × StandsOnVersion version local
    only number local has =
        let a = st.asks.of_account number local has in
        by_case a (f.pulled local.uuid a.version a.there)
      where
        by_case : (a : IsOfAccount server n local) → IsPulled rows local.uuid a.version
            → (version : ItemRow) × Has server n local.uuid version × StandsOnVersion version local
        by_case a (inl (gone, free)) = absurd (free number local (has, refl))
        by_case a (inr (m, l, item, stands)) =
            let same : m ≡ number = st.apart m number l local item.0 has item.1 in
            let it : l ≡ local = same_row rows number l local (subst (λ (j : ℕ). HasLocal rows j l) same item.0) has in
            (a.version, a.there, subst (StandsOnVersion a.version) it stands)

-- ---- the whole pull

-- the laws and facts on which a pull stands
pub known : HasOneStamp → HasOneToken → HasOneAccount → (server rows : Rows) (n : ℕ) (owner : OwnerRow) (sets : Sets) → IsSoundServer server
    → MayPull server rows n owner sets → Known server rows n owner
known stamps one_token one_account server rows n owner sets sound may = record {
  stamps = stamps;
  tokens = one_token;
  answers = pages_answer one_account one_token;
  sound = sound;
  session = may.session;
  account = may.account_fits;
  no_older = slot_none rows owner.identifier Older sets.older may.no_older may.holds.before;
}

-- where it begins
pub behind_first : (server rows : Rows) (n : ℕ) (owner : OwnerRow) (sets : Sets) (words : ChaCha) → IsSoundServer server → IsSound rows
    → MayPull server rows n owner sets → Behind server rows n owner words (record { rows = rows; words = words; last = None })
behind_first server rows n owner sets words sound device may =
    record { stands = stands_first server rows n owner sets sound device may; words_are = refl; last = tt }

none_in : (rows : Rows) (identifier : Bytes) (slot : Slot) (o : Option KeySet) → rows (key.Set slot) ≡ None → IsInSlot rows identifier slot o → o ≡ None
none_in rows identifier slot None e is = refl
none_in rows identifier slot (Some set) e is = absurd (let has = is.1 in cc)

set_none : (rows : Rows) (slot : Slot) (identifier other : Bytes) (o mine : Option KeySet) → IsInSlot rows identifier slot mine → mine ≡ None
    → IsInSlot rows other slot o → o ≡ None
set_none rows slot identifier other o mine own none is = none_in rows other slot o (slot_none rows identifier slot mine none own) is

-- its exchanges, unless memory was wanting for them
pub exchanges_of : (least : ℕ) (server rows : Rows) (n : ℕ) (owner : OwnerRow) (sets : Sets) (words : ChaCha) (acts : List Act) (halt : Halt)
    → MayPull server rows n owner sets → Run least sync rows words acts halt
    → ((acts ≡ []) × (halt ≡ refused refusal.Memory)) ⊎ ExchangesAlone rows words acts halt
exchanges_of least server rows n owner sets words acts halt may (inl wants) = inl wants
exchanges_of least server rows n owner sets words acts halt may (inr (inl (none, refuses))) = absurd (let owned = may.holds.owned in cc)
exchanges_of least server rows n owner sets words acts halt may (inr (inr (other, held, holds, syncs))) =
    inr (synced_alone rows words other held acts halt
    (set_none rows Asked owner.identifier other.identifier held.asked sets.asked may.holds.wanted may.no_asked holds.wanted) syncs)

module _ (server after rows : Rows) (n : ℕ) (owner : OwnerRow) (sets : Sets) (words : ChaCha) (acts : List Act) (halt : Halt)
    (k : Known server rows n owner) (device : IsSound rows) (may : MayPull server rows n owner sets) (served : AreServed server acts after) where
  pub all_went : (x : ExchangesAlone rows words acts halt)
      → AllWent server rows n owner k words (record { rows = rows; words = words; last = None }) x.rounds x.at x.later after
  all_went x = rounds_went server rows n owner k words (record { rows = rows; words = words; last = None }) x.rounds x.at x.later after
      (behind_first server rows n owner sets words k.sound device may) x.went (subst (λ (xs : List Act). AreServed server xs after) x.acts_are served)

  exchanges_end : ExchangesAlone rows words acts halt → (after ≡ server) × EndsPull server rows n owner sets words acts halt
  exchanges_end x =
      let went = all_went x in
      let ends = ends_here server rows n owner k words x.at went.goes (length x.rounds) x.later halt after x.ends went.served in
      let rows_then : rows_done rows acts ≡ rows_done x.at.rows x.later = ap (rows_done rows) x.acts_are ∙ went.rows_are in
      let counted : requests_in acts ≡ length x.rounds + requests_in x.later = ap requests_in x.acts_are ∙ went.counted in (
        ends.0,
        ⊎_elim
            (λ (done : (halt ≡ answered nothing words) × (x.later ≡ []) × Finished server n x.at.rows went.goes.stands.owner).
            (let last : rows_done rows acts ≡ x.at.rows = rows_then ∙ ap (rows_done x.at.rows) done.1 in
            inl (
              done.0,
              subst (λ (r : Rows). IsUpToDate server r n owner sets) (sym last)
                  (up_to_date server rows n owner sets x.at.rows may.holds went.goes.stands done.2),
            )))
            (⊎_elim
            (λ (used : (halt ≡ refused refusal.RoundsUsed) × (x.later ≡ []) × (length x.rounds ≡ most_exchanges)).
            inr (inl (used.0, (let none = ap requests_in used.1 in let most = used.2 in omega arith))))
            (λ stops. inr (inr (stops_of (flat_map acts_of x.rounds) x.later acts halt x.acts_are stops)))) ends.1,
      )

pub whole_pull : HasOneStamp → HasOneToken → HasOneAccount → WholePull
whole_pull stamps one_token one_account least server after rows n owner sets words acts halt sound device may run served =
    ⊎_elim
    (λ (wants : (acts ≡ []) × (halt ≡ refused refusal.Memory)).
    (subst (λ (xs : List Act). AreServed server xs after) wants.0 served, inr (inr (inr (inl wants.1)))))
    (λ x. exchanges_end server after rows n owner sets words acts halt (known stamps one_token one_account server rows n owner sets sound may) device may
    served x)
    (exchanges_of least server rows n owner sets words acts halt may run)

-- A pull between whose requests the server answers others.
use Rattle.std.proofs.Common.{◌≡◌, ◌⊎◌, ◌+◌, ℕ, List, [], ◌∷◌, ◌++◌, length, Some, None, refl, sym, ap, ◌∙◌, subst, ⊎_elim, inl, inr, arith, append_assoc}
use Rattle.std.specs.List.{flat_map}
use Rattle.std.proofs.lemmas.List.Concat.{flat_map-cons}
use Rattle.rand_chacha.specs.ChaCha.{ChaCha}
use Rattle.sn_account.specs.Laws.{HasOneAccount}
use Rattle.sn_account.specs.Rule.{Rule}
use Rattle.sn_account.specs.RuleLaws.{StaysSound}
use Rattle.sn_account.specs.Sessions.{IsSession}
use Rattle.sn_account.specs.Sound.{IsSound as IsSoundServer}
use Rattle.sn_account.specs.Syncs.{above_of, is_first}
use Rattle.sn_device.specs.Asking.{Reply, said}
use Rattle.sn_device.specs.Runs.{Act, AreRounds, EndsExchange, Halt, IsRound, Round, Sends, Standing, acts_of, answered, asked, commits, most_exchanges, nothing, posting, refused, rows_done}
use Rattle.sn_device.proofs.Facts.{EndsAlone, ExchangesAlone}
use Rattle.sn_device.specs.States.{IsSound}
use Rattle.sn_device.specs.Steps.{AppliesAnswer, AppliesTo, applies}
use Rattle.sn_device.specs.declared.error.ClientError.TheVariants as refusal
use Rattle.sn_conflict.specs.Checks.{most_retrieved}
use Rattle.sn_pull.specs.Laws.{PagesAnswer, PullAmongOthers}
use Rattle.sn_pull.specs.Pages.{IsPageAnswer}
use Rattle.sn_pull.specs.Pulls.{EndsPull, IsTokenGiven, IsUpToDate, MayPull}
use Rattle.sn_pull.specs.Serving.{AreOthers, AreServed, AreServedAmong, IsServed, Other, requests_in}
use Rattle.sn_pull.proofs.EndLemmas.{Behind, IsLast, Stops, exchange_ends, exchanges_of, finished_last, page_went, said_page, slot_none, stands_first, stops_of, up_to_date}
use Rattle.sn_pull.proofs.MayLemmas.{stands_quiet}
use Rattle.sn_pull.proofs.PageLemmas.{pages_answer}
use Rattle.sn_pull.proofs.RoundLemmas.{AsksPage, Finished, Known, Stands, asks_of, asks_page, served_page}
use Rattle.sn_pull.proofs.StaysLemmas.{Leaves, begins_after, rule_leaves}
use Rattle.sn_rows.specs.Table.{Rows, rows_after}
use Rattle.sn_rows.specs.declared.change.Change.{Change}
use Rattle.sn_rows.specs.declared.device_rows.OwnerRow.{OwnerRow}
use Rattle.sn_rows.specs.declared.key.Key.TheVariants as key
use Rattle.sn_rows.specs.declared.key.Slot.TheVariants.{Older}
use Rattle.sn_sets.specs.declared.sets.Sets.{Sets}
use Rattle.sn_sync.specs.Fits.{FitsRequest}
use Rattle.sn_sync.specs.Laws.{HasOneStamp, HasOneToken}
use Rattle.sn_sync.specs.declared.request.Request.{Request}

-- the laws of the crates below, and what is known of the device's first rows
record Laws (first : Rows) (before : OwnerRow) : Type 0 where
  stamps : HasOneStamp
  tokens : HasOneToken
  answers : PagesAnswer
  stay : StaysSound
  account : length before.account ≡ 16
  no_older : first (key.Set Older) ≡ None

module _ (first : Rows) (n : ℕ) (before : OwnerRow) (laws : Laws first before) (words : ChaCha) where
  -- a server, and a device that stands so by it
  record Among (server rows : Rows) : Type 0 where
    sound : IsSoundServer server
    stands : Stands server first n before rows
    given : IsTokenGiven server before

  known_by : (server : Rows) → IsSoundServer server → IsSession server before.token n → Known server first n before
  known_by server sound session = record {
    stamps = laws.stamps;
    tokens = laws.tokens;
    answers = laws.answers;
    sound = sound;
    session = session;
    account = laws.account;
    no_older = laws.no_older;
  }

  -- ---- others' requests

  given_after : (server after : Rows) (owner : OwnerRow) → (sound : IsSoundServer server) → Leaves server after sound.store.last
      → IsTokenGiven server owner → IsTokenGiven after owner
  given_after server after owner sound leaves given store stamp has is =
      let low = given sound.store stamp sound.stands is in let up = leaves.rises store has in omega arith

  one_other : (server rows : Rows) (o : Other) → Among server rows → FitsRequest o.request → Rule server o.request o.now o.changes o.given
      → Among (rows_after server o.changes) rows
  one_other server rows o a fits rule =
      let after : Rows = rows_after server o.changes in
      let st = a.stands in
      let leaves : Leaves server after a.sound.store.last =
      rule_leaves server a.sound.store o.request o.now o.changes o.given a.sound.stands rule in
      let sound : IsSoundServer after = laws.stay server o.request o.now o.changes o.given a.sound fits rule in
      let begins = begins_after server after rows n st.owner a.sound leaves (st.given a.given) st.begins in
      record {
        sound = sound;
        stands = record {
          owner = st.owner;
          owned = st.owned;
          columns_are = st.columns_are;
          rises = st.rises;
          sets_stay = st.sets_stay;
          numbered = st.numbered;
          apart = st.apart;
          clean = st.clean;
          begins = begins;
          asks = asks_of after rows n st.owner sound begins;
          given = λ other. given_after server after st.owner a.sound leaves (st.given a.given);
        };
        given = given_after server after before a.sound leaves a.given;
      }

  all_others : (server rows : Rows) (others : List Other) (met : Rows) → Among server rows → AreOthers server others met → Among met rows
  all_others server rows [] met a e = subst (λ (s : Rows). Among s rows) (sym e) a
  all_others server rows (o ∷ others) met a (fits, rule, later) = all_others (rows_after server o.changes) rows others met (one_other server rows o a fits rule) later

  -- ---- exchanges

  -- a pull stands behind these pages, by the server as it is now
  record Met (server : Rows) (at : Standing) : Type 0 where
    among : Among server at.rows
    words_are : at.words ≡ words
    last : IsLast server n at.rows at.last

  -- before the next request, whatever the last answer was by an earlier state of the server
  abbrev anew : Standing → Standing
  anew at = record { rows = at.rows; words = at.words; last = None }

  abbrev behind_anew : (server : Rows) (at : Standing) → Among server at.rows → at.words ≡ words → Behind server first n before words (anew at)
  behind_anew server at a same = record { stands = a.stands; words_are = same; last = tt }

  record RoundsTo (server : Rows) (at : Standing) (after : Standing) (whole acts : List Act) (count : ℕ) (end : Rows) : Type 0 where
    now : Rows
    met : Met now after
    served : AreServedAmong before.token n now acts end
    rows_are : rows_done at.rows whole ≡ rows_done after.rows acts
    counted : requests_in whole ≡ count + requests_in acts

  round_went : (server : Rows) (at : Standing) (round : Round) (after : Standing) (acts : List Act) (end : Rows) → Among server at.rows → at.words ≡ words
      → IsRound at round after → AreServedAmong before.token n server (acts_of round ++ acts) end
      → RoundsTo server at after (acts_of round ++ acts) acts 1 end
  round_went server at round after acts end a same is served =
      let tail : List Act = asked round.request (said round.given) ∷ commits (applies round.request round.given) round.applied ∷ acts in
      let numbers = asks_page at.rows a.stands.owner round.numbers round.posted round.request is.ready
      (stands_quiet server first n before at.rows a.stands) a.stands.owned is.sends in
      let plain : acts_of round ++ acts ≡ tail =
      ap (λ (ns : List ℕ). (posting ns round.posted ++ asked round.request (said round.given) ∷ commits (applies round.request round.given) round.applied ∷ [])
      ++ acts) numbers.no_numbers in
      let all : AreServedAmong before.token n server tail end = subst (λ (xs : List Act). AreServedAmong before.token n server xs end) plain served in
      met_went server at round after acts end same is plain all.1 all.2 (all_others server at.rows all.0 all.1 a all.3) all.4 all.5 all.6
    where
      met_went : (server : Rows) (at : Standing) (round : Round) (after : Standing) (acts : List Act) (end : Rows) → at.words ≡ words → IsRound at round after
          → acts_of round ++ acts ≡ asked round.request (said round.given) ∷ commits (applies round.request round.given) round.applied ∷ acts
          → (met between : Rows) → Among met at.rows → IsSession met before.token n → IsServed met round.request (said round.given) between
          → AreServedAmong before.token n between acts end → RoundsTo server at after (acts_of round ++ acts) acts 1 end
      met_went server at round after acts end same is plain met between a session served later =
          let st = a.stands in
          let k = known_by met a.sound session in
          let ask : AsksPage at.rows st.owner round.numbers round.posted round.request is.ready =
          asks_page at.rows st.owner round.numbers round.posted round.request is.ready (stands_quiet met first n before at.rows st) st.owned is.sends in
          let page = served_page met first n before k at.rows st round.request (said round.given) between ask.request_is served in
          let pa : IsPageAnswer met n (above_of st.asks.from st.asks.cursor) (is_first st.asks.from st.asks.cursor) most_retrieved round.given =
          said_page met first n before k words at.rows st round.given page.1 in
          let ready_step : AppliesTo at.rows at.words round.request round.given round.applied is.left =
          subst (λ (r : Rows). AppliesTo r at.words round.request round.given round.applied is.left) ask.ready_is is.step in
          let step : AppliesAnswer at.rows at.words [] round.given round.applied is.left =
          subst (λ (q : Request). AppliesTo at.rows at.words q round.given round.applied is.left) ask.request_is ready_step in
          let next : Standing = record { rows = rows_after at.rows round.applied; words = is.left; last = Some round.given } in
          let after_is : after ≡ next =
          is.after_is ∙ ap (λ (r : Rows). record { rows = rows_after r round.applied; words = is.left; last = Some round.given }) ask.ready_is in
          let there : Behind met first n before words next =
          page_went met first n before k words (anew at) (behind_anew met at a same) round.given pa round.applied is.left step in
          record {
            now = met;
            met = subst (λ (s : Standing). Met met s) (sym after_is) (record {
              among = record { sound = a.sound; stands = there.stands; given = a.given };
              words_are = there.words_are;
              last = there.last;
            });
            served = subst (λ (s : Rows). AreServedAmong before.token n s acts end) page.0 later;
            rows_are = ap (rows_done at.rows) plain ∙ ap (λ (s : Standing). rows_done s.rows acts) (sym after_is);
            counted = ap requests_in plain;
          }

  rounds_went : (server : Rows) (at : Standing) (rounds : List Round) (after : Standing) (acts : List Act) (end : Rows) → Met server at
      → AreRounds at rounds after → AreServedAmong before.token n server (flat_map acts_of rounds ++ acts) end
      → RoundsTo server at after (flat_map acts_of rounds ++ acts) acts (length rounds) end
  rounds_went server at [] after acts end m e served = record {
    now = server;
    met = subst (λ (s : Standing). Met server s) (sym e) m;
    served = served;
    rows_are = ap (λ (s : Standing). rows_done s.rows acts) (sym e);
    counted = omega arith;
  }
  rounds_went server at (round ∷ rounds) after acts end m (between, is, later) served =
      let parts : flat_map acts_of (round ∷ rounds) ++ acts ≡ acts_of round ++ (flat_map acts_of rounds ++ acts) =
      ap (λ (xs : List Act). xs ++ acts) (flat_map-cons acts_of round rounds) ∙ append_assoc (acts_of round) (flat_map acts_of rounds) acts in
      let one = round_went server at round between (flat_map acts_of rounds ++ acts) end m.among m.words_are is
      (subst (λ (xs : List Act). AreServedAmong before.token n server xs end) parts served) in
      let rest = rounds_went one.now between rounds after acts end one.met later one.served in
      record {
        now = rest.now;
        met = rest.met;
        served = rest.served;
        rows_are = ap (rows_done at.rows) parts ∙ one.rows_are ∙ rest.rows_are;
        counted = (let a = ap requests_in parts in let b = one.counted in let c = rest.counted in omega arith);
      }

  -- ---- the end

  -- a pull that is done, by the server as it is now
  abbrev IsDoneBy : Rows → Rows → Type 0
  IsDoneBy server rows = (st : Stands server first n before rows) × Finished server n rows st.owner

  abbrev EndsHere : Rows → Standing → ℕ → List Act → Halt → Type 0
  EndsHere end at count acts halt = ((halt ≡ answered nothing words) × (acts ≡ []) × IsDoneBy end at.rows)
      ⊎ (((halt ≡ refused refusal.RoundsUsed) × (acts ≡ []) × (count ≡ most_exchanges)) ⊎ Stops acts halt)

  -- a last request, behind others' requests
  asked_ends : (met : Rows) (at : Standing) (acts : List Act) (halt : Halt) (between end : Rows) (numbers : List ℕ) (posted : List Change) (r : Request)
      (ready : Rows) (reply : Reply) → Among met at.rows → at.words ≡ words → IsSession met before.token n → IsServed met r reply between → end ≡ between
      → acts ≡ asked r reply ∷ [] → Sends at.rows numbers posted r ready → EndsExchange at.words numbers posted r ready acts halt → Stops acts halt
  asked_ends met at acts halt between end numbers posted r ready reply a same session served last acts_are sends ends =
      let st = a.stands in
      let ask = asks_page at.rows st.owner numbers posted r ready (stands_quiet met first n before at.rows st) st.owned sends in
      let all : AreServed met acts end = subst (λ (xs : List Act). AreServed met xs end) (sym acts_are) (between, served, last) in
      (exchange_ends met first n before (known_by met a.sound session) words (anew at) (behind_anew met at a same) acts halt end numbers posted r ready ask
      ends all).1

  exchange_stops : (server : Rows) (at : Standing) (acts : List Act) (halt : Halt) (end : Rows) (numbers : List ℕ) (posted : List Change) (r : Request)
      (ready : Rows) → Among server at.rows → at.words ≡ words → Sends at.rows numbers posted r ready → numbers ≡ []
      → EndsExchange at.words numbers posted r ready acts halt → AreServedAmong before.token n server acts end → Stops acts halt
  exchange_stops server at acts halt end numbers posted r ready a same sends none (inl (some, empty, stops)) served = absurd (some none)
  exchange_stops server at acts halt end numbers posted r ready a same sends none (inr (batch, inl (empty, is))) served = inr (inl is)
  exchange_stops server at acts halt end numbers posted r ready a same sends none (inr (batch, inr (reply, acts_is, ends))) served =
      let acts_are : acts ≡ asked r reply ∷ [] = acts_is ∙ ap (λ (ns : List ℕ). posting ns posted ++ asked r reply ∷ []) none in
      let all : AreServedAmong before.token n server (asked r reply ∷ []) end =
      subst (λ (xs : List Act). AreServedAmong before.token n server xs end) acts_are served in
      asked_ends all.1 at acts halt all.2 end numbers posted r ready reply (all_others server at.rows all.0 all.1 a all.3) same all.4 all.5 all.6 acts_are sends
      (inr (batch, inr (reply, acts_is, ends)))

  ends_here : (server : Rows) (at : Standing) (count : ℕ) (acts : List Act) (halt : Halt) (end : Rows) → Met server at → EndsAlone count at acts halt
      → AreServedAmong before.token n server acts end → EndsHere end at count acts halt
  ends_here server at count acts halt end m (inl (done, none, is)) served =
      let same : end ≡ server = subst (λ (xs : List Act). AreServedAmong before.token n server xs end) none served in
      let st = m.among.stands in
      inl (
        is ∙ ap (λ (w : ChaCha). answered nothing w) m.words_are,
        none,
        subst (λ (s : Rows). IsDoneBy s at.rows) (sym same)
            (st, finished_last server at.rows n st.owner st.owned at.last m.last done),
      )
  ends_here server at count acts halt end m (inr (inl (most, due, (none, is)))) served = inr (inl (is, none, most))
  ends_here server at count acts halt end m (inr (inr (inl (less, e)))) served =
      let st = m.among.stands in
      let ask = asks_page at.rows st.owner e.numbers e.posted e.request e.ready (stands_quiet server first n before at.rows st) st.owned e.sends in
      inr (inr (exchange_stops server at acts halt end e.numbers e.posted e.request e.ready m.among m.words_are e.sends ask.no_numbers e.ends_so served))
  ends_here server at count acts halt end m (inr (inr (inr (none, is)))) served = inr (inr (inr (inl is)))

-- ---- the law

module _ (server after rows : Rows) (n : ℕ) (owner : OwnerRow) (sets : Sets) (words : ChaCha) (acts : List Act) (halt : Halt) (laws : Laws rows owner)
    (sound : IsSoundServer server) (device : IsSound rows) (may : MayPull server rows n owner sets) (given : IsTokenGiven server owner)
    (served : AreServedAmong owner.token n server acts after) where
  abbrev begin : Standing
  begin = record { rows = rows; words = words; last = None }

  met_first : Met rows n owner laws words server begin
  met_first = record {
    among = record { sound = sound; stands = stands_first server rows n owner sets sound device may; given = given };
    words_are = refl;
    last = tt;
  }

  among_end : ExchangesAlone rows words acts halt → EndsPull after rows n owner sets words acts halt
  among_end x =
      let went = rounds_went rows n owner laws words server begin x.rounds x.at x.later after met_first x.went
      (subst (λ (xs : List Act). AreServedAmong owner.token n server xs after) x.acts_are served) in
      let rows_then : rows_done rows acts ≡ rows_done x.at.rows x.later = ap (rows_done rows) x.acts_are ∙ went.rows_are in
      let counted : requests_in acts ≡ length x.rounds + requests_in x.later = ap requests_in x.acts_are ∙ went.counted in
      ⊎_elim
      (λ (done : (halt ≡ answered nothing words) × (x.later ≡ []) × IsDoneBy rows n owner laws words after x.at.rows).
      (let last : rows_done rows acts ≡ x.at.rows = rows_then ∙ ap (rows_done x.at.rows) done.1 in
      inl (done.0, subst (λ (r : Rows). IsUpToDate after r n owner sets) (sym last) (up_to_date after rows n owner sets x.at.rows may.holds done.2.0 done.2.1))))
      (⊎_elim
      (λ (used : (halt ≡ refused refusal.RoundsUsed) × (x.later ≡ []) × (length x.rounds ≡ most_exchanges)).
      inr (inl (used.0, (let none = ap requests_in used.1 in let most = used.2 in omega arith))))
      (λ stops. inr (inr (stops_of (flat_map acts_of x.rounds) x.later acts halt x.acts_are stops))))
      (ends_here rows n owner laws words went.now x.at (length x.rounds) x.later halt after went.met x.ends went.served)

pub pull_among_others : HasOneStamp → HasOneToken → HasOneAccount → StaysSound → PullAmongOthers
pull_among_others stamps one_token one_account stay least server after rows n owner sets words acts halt sound device may given run served =
    let laws : Laws rows owner = record {
      stamps = stamps;
      tokens = one_token;
      answers = pages_answer one_account one_token;
      stay = stay;
      account = may.account_fits;
      no_older = slot_none rows owner.identifier Older sets.older may.no_older may.holds.before;
    } in
    ⊎_elim
    (λ (wants : (acts ≡ []) × (halt ≡ refused refusal.Memory)). inr (inr (inr (inl wants.1))))
    (λ x. among_end server after rows n owner sets words acts halt laws sound device may given served x)
    (exchanges_of least server rows n owner sets words acts halt may run)

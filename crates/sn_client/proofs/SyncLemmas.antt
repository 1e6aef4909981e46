-- Exchanges of a sync, one after another: what each adds to those before it, and how the last one ends the call.
use Rattle.std.specs.List.{flat_map}
use Rattle.std.proofs.Common.{arith, ◌≡◌, ◌≢◌, ◌⊎◌, ◌↔◌, ◌+◌, ◌<◌, ◌≤◌, ℕ, Bool, IsTrue, List, [], ◌∷◌, ◌++◌, length, Option, Some, None, Ok, Err, refl, sym, ap, ◌∙◌, subst, inl, inr, append-nil, length-append}
use Rattle.std.proofs.lemmas.Grind.{flat_map-append}
use Rattle.rand_chacha.specs.ChaCha.{ChaCha}
use Rattle.sn_net.specs.Exchanges.{Exchange}
use Rattle.sn_rows.specs.Table.{Rows, rows_after}
use Rattle.sn_rows.specs.declared.change.Change.{Change}
use Rattle.sn_sync.specs.declared.answer.Answer.{Answer}
use Rattle.sn_sync.specs.declared.answer.Answer.TheVariants as answer
use Rattle.sn_sync.specs.declared.item.Item.{Item}
use Rattle.sn_sync.specs.declared.request.Request.{Request}
use Rattle.sn_sync.specs.declared.request.Request.TheVariants as request
use Rattle.sn_table.specs.Committing.{IsCause}
use Rattle.sn_table.specs.Kept.{Kept, with_batch}
use Rattle.sn_table.specs.declared.committed.CommitError.{CommitError}
use Rattle.sn_exchange.specs.Asked.{AsksOnce, IsAsked}
use Rattle.sn_device.specs.Asking.{said}
use Rattle.sn_client.specs.Calls.{Ends, kept_done, of_commit}
use Rattle.sn_device.specs.Runs.{Act, AreExchanges, AreRounds, EndsBehind, EndsUnapplied, Exchanges, Halt, IsAllDone, IsBatch, IsDone, IsDue, IsLeft, IsRound, IsUnapplied, Round, Sends, Standing, acts_of, asked, broken, commits, goes_on, items_of, most_exchanges, posting, refused}
use Rattle.sn_device.specs.Sending.{PostsAll}
use Rattle.sn_device.specs.States.{Bytes}
use Rattle.sn_device.specs.Steps.{AppliesAnswer, AppliesTo, applies, posts}
use Rattle.sn_client.specs.Syncing.{AppliesOne, EndsAsking, EndsOne, GoesThere, IsApplied, IsAskedAndApplied, IsExchanged, WentBy, gives_nothing}
use Rattle.sn_client.specs.declared.called.Called.{Called}
use Rattle.sn_client.specs.declared.called.Called.TheVariants as called
use Rattle.sn_device.specs.declared.error.ClientError.{ClientError}
use Rattle.sn_device.specs.declared.error.ClientError.TheVariants as refusal
use Rattle.sn_client.specs.declared.syncing.Exchanged.{Exchanged}
use Rattle.sn_client.specs.declared.syncing.Exchanged.TheVariants as exchanged
use Rattle.sn_client.specs.declared.piece_end.PieceEnd.TheVariants.{Over}
use Rattle.sn_client.proofs.CallLemmas.{stops_refused}

-- ---- acts behind acts

pub kept_append : (kept : Kept) (first second : List Act) → kept_done kept (first ++ second) ≡ kept_done (kept_done kept first) second
kept_append kept [] second = refl
kept_append kept (commits what changes ∷ first) second = kept_append (with_batch kept changes) first second
kept_append kept (asked r reply ∷ first) second = kept_append kept first second

pub exchanges_append : (host : Bytes) (first second : List Act) (xs ys : List Exchange) → AreExchanges host first xs → AreExchanges host second ys
    → AreExchanges host (first ++ second) (xs ++ ys)
exchanges_append host [] second xs ys none are = subst (AreExchanges host second) (sym (ap (λ (l : List Exchange). l ++ ys) none)) are
exchanges_append host (commits what changes ∷ first) second xs ys before are = exchanges_append host first second xs ys before are
exchanges_append host (asked r reply ∷ first) second xs ys (x, later, is, sent, before) are =
    (x, later ++ ys, ap (λ (l : List Exchange). l ++ ys) is, sent, exchanges_append host first second later ys before are)

acts_more : (rounds : List Round) (round : Round) → flat_map acts_of (rounds ++ round ∷ []) ≡ flat_map acts_of rounds ++ acts_of round
acts_more rounds round = flat_map-append acts_of rounds (round ∷ []) ∙ ap (λ (l : List Act). flat_map acts_of rounds ++ l) (append-nil (acts_of round))

rounds_more : (at : Standing) (rounds : List Round) (between : Standing) (round : Round) (after : Standing) → AreRounds at rounds between
    → IsRound between round after → AreRounds at (rounds ++ round ∷ []) after
rounds_more at [] between round after is one = (after, subst (λ (s : Standing). IsRound s round after) is one, refl)
rounds_more at (r ∷ rounds) between round after (next, first, later) one = (next, first, rounds_more next rounds between round after later one)

-- ---- one exchange

-- what a posting leaves
posted_rows : (kept : Kept) (numbers : List ℕ) (posted : List Change) → PostsAll kept.rows numbers posted
    → (kept_done kept (posting numbers posted)).rows ≡ rows_after kept.rows posted
posted_rows kept [] [] all = refl
posted_rows kept [] (c ∷ posted) all = absurd all
posted_rows kept (number ∷ numbers) posted all = refl

posted_asks : (host : Bytes) (numbers : List ℕ) (posted : List Change) → AreExchanges host (posting numbers posted) []
posted_asks host [] posted = refl
posted_asks host (number ∷ numbers) posted = refl

-- what was posted comes first
pub posted_first : (kept : Kept) (numbers : List ℕ) (posted : List Change) → numbers ≢ [] → kept_done kept (posting numbers posted) ≡ with_batch kept posted
posted_first kept [] posted some = absurd (some refl)
posted_first kept (number ∷ numbers) posted some = refl

pub posted_none : (kept : Kept) (numbers : List ℕ) (posted : List Change) → numbers ≡ [] → kept_done kept (posting numbers posted) ≡ kept
posted_none kept [] posted none = refl
posted_none kept (number ∷ numbers) posted none = absurd cc

-- where nothing is left behind an answer that was applied, all is done
answer_done : (rows : Rows) (words left : ChaCha) (sent : List Item) (given : Answer) (changes : List Change) (after : Rows)
    → AppliesAnswer rows words sent given changes left → ¬ (IsLeft after given) → IsAllDone after given
answer_done rows words left sent (answer.Sync conflicts None retrieved saved token) changes after s not =
    (refl, λ number local has waits. not (inr (number, local, has, waits)))
answer_done rows words left sent (answer.Sync conflicts (Some cursor) retrieved saved token) changes after s not = absurd (not (inl (λ e. cc)))
answer_done rows words left sent (answer.Account token identifier uuid) changes after s not = absurd s
answer_done rows words left sent (answer.Params params) changes after s not = absurd s
answer_done rows words left sent (answer.Refused status tag more) changes after s not = absurd s

applied_done : (rows : Rows) (words left : ChaCha) (r : Request) (given : Answer) (changes : List Change) (after : Rows)
    → AppliesTo rows words r given changes left → ¬ (IsLeft after given) → IsAllDone after given
applied_done rows words left (request.Sync token items limit sync_token cursor_token) given changes after s not =
    answer_done rows words left items given changes after s not
applied_done rows words left (request.Register params pw) given changes after s not = absurd s
applied_done rows words left (request.Params identifier) given changes after s not = absurd s
applied_done rows words left (request.SignIn identifier pw) given changes after s not = absurd s
applied_done rows words left (request.ChangePw token current pw cost nonce) given changes after s not = absurd s

abbrev behind : Rows → ChaCha → Answer → Standing
behind rows words given = record { rows = rows; words = words; last = Some given }

round_done : (at : Standing) (round : Round) (after : Standing) → IsRound at round after → ¬ (IsDue after.rows after.last) → IsDone after.rows after.last
round_done at round after is not =
    subst (λ (s : Standing). IsDone s.rows s.last) (sym is.after_is)
    (applied_done is.ready at.words is.left round.request round.given round.applied (rows_after is.ready round.applied) is.step
    (λ left. not (subst (λ (s : Standing). IsDue s.rows s.last) (sym is.after_is) left)))

-- the acts of a round leave the rows on which it ends
round_rows : (kept : Kept) (words : ChaCha) (last : Option Answer) (round : Round) (after : Standing)
    → IsRound (record { rows = kept.rows; words = words; last = last }) round after → after.rows ≡ (kept_done kept (acts_of round)).rows
round_rows kept words last round after is =
    let rest : List Act = asked round.request (said round.given) ∷ commits (applies round.request round.given) round.applied ∷ [] in
    ap (λ (s : Standing). s.rows) is.after_is
    ∙ ap (λ (r : Rows). rows_after r round.applied) (is.sends.ready_is ∙ sym (posted_rows kept round.numbers round.posted is.sends.posts_them))
    ∙ ap (λ (k : Kept). k.rows) (sym (kept_append kept (posting round.numbers round.posted) rest))

-- where a sync stands on what is kept
abbrev pub stood : Kept → ChaCha → Option Answer → Standing
stood kept words last = record { rows = kept.rows; words = words; last = last }

-- what a posting leaves, before the request goes out
module _ (kept : Kept) (words : ChaCha) (last : Option Answer) (due : IsDue kept.rows last) (numbers : List ℕ) (posted : List Change) (r : Request) (ready : Rows)
    (sends : Sends kept.rows numbers posted r ready) where
  abbrev pub is_posted : Kept
  is_posted = kept_done kept (posting numbers posted)

  rows_ready : is_posted.rows ≡ ready
  rows_ready = posted_rows kept numbers posted sends.posts_them ∙ sym sends.ready_is

  ends_exchange : (fits : IsBatch posted) (acts : List Act) (halt : Halt) → EndsAsking is_posted words r acts halt
      → EndsUnapplied (stood kept words last) (posting numbers posted ++ acts) halt
  ends_exchange fits acts halt (inl wants) = record {
    due = due;
    numbers = numbers;
    posted = posted;
    request = r;
    ready = ready;
    sends = sends;
    ends_so = inr (fits, inl (ap (λ (l : List Act). posting numbers posted ++ l) wants.0 ∙ append-nil (posting numbers posted), wants.1));
  }
  ends_exchange fits acts halt (inr (reply, is, so)) = record {
    due = due;
    numbers = numbers;
    posted = posted;
    request = r;
    ready = ready;
    sends = sends;
    ends_so = inr (
      fits,
      inr (reply, ap (λ (l : List Act). posting numbers posted ++ l) is, subst (λ (x : Rows). EndsBehind x words r reply halt) rows_ready so),
    );
  }

module _ {S D T : Type 0} (is_open : S → Kept → Type 0) (may_have : D → Kept → List Change → Type 0) where
  -- the end of acts is the end of all
  pub ends_behind : (kept : Kept) (first second : List Act) (halt : Halt) (left : ChaCha) (result : Called S D T)
      → Ends is_open may_have gives_nothing (kept_done kept first) second halt left result → Ends is_open may_have gives_nothing kept (first ++ second) halt left result
  ends_behind kept first second halt left (called.Done device given) (is, opens) =
      (is, subst (is_open device) (sym (kept_append kept first second)) opens)
  ends_behind kept first second halt left (called.Refused device why) (is, opens) =
      (is, subst (is_open device) (sym (kept_append kept first second)) opens)
  ends_behind kept first second halt left (called.Broken disk) (what, changes, is, may) =
      (what, changes, is, subst (λ (k : Kept). may_have disk k changes) (sym (kept_append kept first second)) may)

  -- ---- the answer to a request

  module _ (kept : Kept) (words : ChaCha) (r : Request) (given : Answer) (left : ChaCha) where
    pub not_applied : (device : S) (why : ClientError) → is_open device kept
        → (why ≡ refusal.Memory) ⊎ IsUnapplied kept.rows words (items_of r) given why
        → IsApplied {T = T} is_open may_have kept words r given left (exchanged.Ended (called.Refused device why))
    not_applied device why opens (inl memory) =
        record { halt = refused why; so = inr (inl (ap refused memory)); ends = (refl, opens) }
    not_applied device why opens (inr unapplied) =
        record { halt = refused why; so = inr (inr (given, refl, inl (why, unapplied, refl))); ends = (refl, opens) }

    pub not_committed : (device : S) (changes : List Change) (error : CommitError) → AppliesTo kept.rows words r given changes left
        → IsCause changes error → is_open device kept
        → IsApplied {T = T} is_open may_have kept words r given left (exchanged.Ended (called.Refused device (of_commit error)))
    not_committed device changes error step cause opens = record {
      halt = refused (of_commit error);
      so = inr (inr (given, refl, inr (changes, left, step, stops_refused (applies r given) changes error cause)));
      ends = (refl, opens);
    }

    pub broken_off : (disk : D) (changes : List Change) → AppliesTo kept.rows words r given changes left → IsBatch changes → may_have disk kept changes
        → IsApplied {T = T} is_open may_have kept words r given left (exchanged.Ended (called.Broken disk))
    broken_off disk changes step fits may = record {
      halt = broken (applies r given) changes;
      so = inr (inr (given, refl, inr (changes, left, step, inl (fits, refl))));
      ends = (applies r given, changes, refl, may);
    }

  -- ---- a request and its answer

  module _ (kept : Kept) (words : ChaCha) (r : Request) (host : Bytes) (asks : List Exchange → Type 0) (left : ChaCha) where
    answered_by : (given : Answer) (once : AsksOnce asks host r (said given)) (result : Exchanged S D T)
        → IsApplied is_open may_have kept words r given left result → IsAskedAndApplied is_open may_have kept words r host asks left result
    answered_by given once (exchanged.Applied device more) applied = record { given = given; asked_once = once; applied = applied }
    answered_by given once (exchanged.Ended result) applied = record {
      acts = asked r (said given) ∷ [];
      halt = applied.halt;
      so = inr (said given, refl, applied.so);
      exchanges = once.exchange ∷ [];
      are = (once.exchange, [], refl, once.is, refl);
      asked_so = once.asked;
      ends = ends_behind kept (asked r (said given) ∷ []) [] applied.halt left result applied.ends;
    }

    -- an answer came
    pub asks_well : (given : Answer) (result : Exchanged S D T) → IsAsked asks host r (Ok given) → IsApplied is_open may_have kept words r given left result
        → IsAskedAndApplied is_open may_have kept words r host asks left result
    asks_well given result (inl (none, is)) applied = absurd cc
    asks_well given result (inr (reply, once, is)) applied =
        answered_by given (subst (AsksOnce asks host r) is once) result applied

    -- none came
    pub asks_ill : (device : S) (why : ClientError) → IsAsked asks host r (Err why) → is_open device kept
        → IsAskedAndApplied {T = T} is_open may_have kept words r host asks left (exchanged.Ended (called.Refused device why))
    asks_ill device why (inl (none, is)) opens =
        let memory : why ≡ refusal.Memory = cc in
        record { acts = []; halt = refused why; so = inl (refl, ap refused memory); exchanges = []; are = refl; asked_so = none; ends = (refl, opens) }
    asks_ill device why (inr (reply, once, comes)) opens = record {
      acts = asked r reply ∷ [];
      halt = refused why;
      so = inr (reply, refl, elim comes [ inl fails ↦ inl (why, fails, refl) | inr memory ↦ inr (inl (ap refused memory)) ]);
      exchanges = once.exchange ∷ [];
      are = (once.exchange, [], refl, once.is, refl);
      asked_so = once.asked;
      ends = (refl, opens);
    }

  -- ---- an exchange

  module _ (kept : Kept) (words : ChaCha) (last : Option Answer) (host : Bytes) (asks : List Exchange → Type 0) (left : ChaCha)
      (due : IsDue kept.rows last) where
    -- nothing is made of it, in want of memory
    pub sends_none : (device : S) → asks [] → is_open device kept
        → IsExchanged {T = T} is_open may_have kept (stood kept words last) host asks left (exchanged.Ended (called.Refused device refusal.Memory))
    sends_none device none opens =
        record { acts = []; halt = refused refusal.Memory; so = inr (refl, refl); exchanges = []; are = refl; asked_so = none; ends = (refl, opens) }

    module _ (numbers : List ℕ) (posted : List Change) (r : Request) (ready : Rows) (sends : Sends kept.rows numbers posted r ready) where
      pub not_posted : (device : S) (error : CommitError) → numbers ≢ [] → IsCause posted error → asks [] → is_open device kept
          → IsExchanged {T = T} is_open may_have kept (stood kept words last) host asks left (exchanged.Ended (called.Refused device (of_commit error)))
      not_posted device error some cause none opens = record {
        acts = [];
        halt = refused (of_commit error);
        so = inl (record {
          due = due;
          numbers = numbers;
          posted = posted;
          request = r;
          ready = ready;
          sends = sends;
          ends_so = inl (some, refl, stops_refused (posts numbers) posted error cause);
        });
        exchanges = [];
        are = refl;
        asked_so = none;
        ends = (refl, opens);
      }

      pub posting_broken : (disk : D) → numbers ≢ [] → IsBatch posted → asks [] → may_have disk kept posted
          → IsExchanged {T = T} is_open may_have kept (stood kept words last) host asks left (exchanged.Ended (called.Broken disk))
      posting_broken disk some fits none may = record {
        acts = [];
        halt = broken (posts numbers) posted;
        so = inl (record {
          due = due;
          numbers = numbers;
          posted = posted;
          request = r;
          ready = ready;
          sends = sends;
          ends_so = inl (some, refl, inl (fits, refl));
        });
        exchanges = [];
        are = refl;
        asked_so = none;
        ends = (posts numbers, posted, refl, may);
      }

      -- behind the posting the request is asked
      pub asks_posted : (result : Exchanged S D T) → IsBatch posted → IsAskedAndApplied is_open may_have (kept_done kept (posting numbers posted)) words r host asks left result
          → IsExchanged is_open may_have kept (stood kept words last) host asks left result
      asks_posted (exchanged.Applied device more) fits so =
          let by = so.applied in
          let ready_rows : (kept_done kept (posting numbers posted)).rows ≡ ready = rows_ready kept words last due numbers posted r ready sends in
          let round : Round = record { numbers = numbers; posted = posted; request = r; given = so.given; applied = by.changes } in
          let rest : List Act = asked r (said so.given) ∷ commits (applies r so.given) by.changes ∷ [] in
          record {
            round = round;
            after = behind (rows_after ready by.changes) left so.given;
            is = record {
              due = due;
              ready = ready;
              sends = sends;
              left = left;
              step = subst (λ (x : Rows). AppliesTo x words r so.given by.changes left) ready_rows by.step;
              batches = (fits, by.batch);
              after_is = refl;
            };
            words_are = refl;
            is_more = subst (λ (x : Rows). IsTrue more ↔ IsLeft (rows_after x by.changes) so.given) ready_rows by.is_more;
            exchanges = so.asked_once.exchange ∷ [];
            are = exchanges_append host (posting numbers posted) rest [] (so.asked_once.exchange ∷ []) (posted_asks host numbers posted)
                (so.asked_once.exchange, [], refl, so.asked_once.is, refl);
            asked_so = so.asked_once.asked;
            stands = subst (is_open device) (sym (kept_append kept (posting numbers posted) rest)) by.stands;
          }
      asks_posted (exchanged.Ended result) fits so = record {
        acts = posting numbers posted ++ so.acts;
        halt = so.halt;
        so = inl (ends_exchange kept words last due numbers posted r ready sends fits so.acts so.halt so.so);
        exchanges = so.exchanges;
        are = exchanges_append host (posting numbers posted) so.acts [] so.exchanges (posted_asks host numbers posted) so.are;
        asked_so = so.asked_so;
        ends = ends_behind kept (posting numbers posted) so.acts so.halt left result so.ends;
      }

-- ---- all of them

module _ {S : Type 0} (is_open : S → Kept → Type 0) where
  -- exchanges were made from these words on, and left these and the device; this was the last answer that was applied, and with those from before the
  -- call has made so many
  pub record HasMade (before : ℕ) (kept : Kept) (words : ChaCha) (host : Bytes) (asks : List Exchange → Type 0) (left : ChaCha) (last : Option Answer)
      (device : S) (count : ℕ) : Type 0 where
    pub rounds : List Round
    pub counted : count ≡ before + length rounds
    pub went : AreRounds (record { rows = kept.rows; words = words; last = None }) rounds
        (record { rows = (kept_done kept (flat_map acts_of rounds)).rows; words = left; last = last })
    pub exchanges : List Exchange
    pub are : AreExchanges host (flat_map acts_of rounds) exchanges
    pub asked_so : asks exchanges
    pub stands : is_open device (kept_done kept (flat_map acts_of rounds))

  pub sets_out : (before : ℕ) (kept : Kept) (words : ChaCha) (host : Bytes) (asks : List Exchange → Type 0) (device : S) → asks [] → is_open device kept
      → HasMade before kept words host asks words None device before
  sets_out before kept words host asks device none opens =
      record { rounds = []; counted = omega arith; went = refl; exchanges = []; are = refl; asked_so = none; stands = opens }

  -- what it stands on now
  abbrev pub kept_now : (before : ℕ) (kept : Kept) (words : ChaCha) (host : Bytes) (asks : List Exchange → Type 0) (left : ChaCha) (last : Option Answer)
      (device : S) (count : ℕ) → HasMade before kept words host asks left last device count → Kept
  kept_now before kept words host asks left last device count made = kept_done kept (flat_map acts_of made.rounds)

  -- with another exchange
  abbrev pub IsMade : (before : ℕ) (kept : Kept) (words : ChaCha) (host : Bytes) (asks : List Exchange → Type 0) (left : ChaCha) (after : Standing)
      (device : S) (count : ℕ) → Type 0
  IsMade before kept words host asks left after device count = (made : HasMade before kept words host asks left after.last device count)
      × (after.rows ≡ (kept_now before kept words host asks left after.last device count made).rows)

  -- one more behind those before
  module _ (before : ℕ) (kept : Kept) (words : ChaCha) (host : Bytes) (earlier since all : List Exchange → Type 0) (between left : ChaCha)
      (last : Option Answer) (device next : S) (more : Bool) (count : ℕ) (made : HasMade before kept words host earlier between last device count)
      (on : (xs ys : List Exchange) → earlier xs → since ys → all (xs ++ ys)) where
    abbrev now : Kept
    now = kept_now before kept words host earlier between last device count made

    abbrev at_now : Standing
    at_now = record { rows = now.rows; words = between; last = last }

    module _ (one : AppliesOne is_open now at_now host since left next more) where
      abbrev rounds_now : List Round
      rounds_now = made.rounds ++ one.round ∷ []

      acts_now : flat_map acts_of rounds_now ≡ flat_map acts_of made.rounds ++ acts_of one.round
      acts_now = acts_more made.rounds one.round

      behind_now : kept_done kept (flat_map acts_of rounds_now) ≡ kept_done now (acts_of one.round)
      behind_now = ap (kept_done kept) acts_now ∙ kept_append kept (flat_map acts_of made.rounds) (acts_of one.round)

      went_now : AreRounds (record { rows = kept.rows; words = words; last = None }) rounds_now one.after
      went_now = rounds_more (record { rows = kept.rows; words = words; last = None }) made.rounds at_now one.round one.after made.went one.is

      rows_now : one.after.rows ≡ (kept_done kept (flat_map acts_of rounds_now)).rows
      rows_now = round_rows now between last one.round one.after one.is ∙ ap (λ (k : Kept). k.rows) (sym behind_now)

      counted_now : count + 1 ≡ before + length rounds_now
      counted_now =
          let longer : length rounds_now ≡ length made.rounds + 1 = length-append made.rounds (one.round ∷ []) in
          let so : count ≡ before + length made.rounds = made.counted in
          omega arith

      are_now : AreExchanges host (flat_map acts_of rounds_now) (made.exchanges ++ one.exchanges)
      are_now = subst (λ (l : List Act). AreExchanges host l (made.exchanges ++ one.exchanges)) (sym acts_now)
          (exchanges_append host (flat_map acts_of made.rounds) (acts_of one.round) made.exchanges one.exchanges made.are one.are)

      after_now : one.after ≡ record { rows = (kept_done kept (flat_map acts_of rounds_now)).rows; words = left; last = one.after.last }
      after_now = λ i. record { rows = rows_now i; words = one.words_are i; last = one.after.last }

      pub made_more : IsMade before kept words host all left one.after next (count + 1)
      made_more = (
        record {
          rounds = rounds_now;
          counted = counted_now;
          went = subst (λ (s : Standing). AreRounds (record { rows = kept.rows; words = words; last = None }) rounds_now s) after_now went_now;
          exchanges = made.exchanges ++ one.exchanges;
          are = are_now;
          asked_so = on made.exchanges one.exchanges made.asked_so one.asked_so;
          stands = subst (is_open next) (sym behind_now) one.stands;
        },
        rows_now,
      )

      -- another is due
      pub due_more : IsTrue more → IsDue (kept_now before kept words host all left one.after.last next (count + 1) made_more.0).rows one.after.last
      due_more is = subst (λ (r : Rows). IsDue r one.after.last) made_more.1 (one.is_more.0 is)

      -- all is done
      pub done_more : ¬ (IsTrue more) → IsDone (kept_now before kept words host all left one.after.last next (count + 1) made_more.0).rows one.after.last
      done_more not =
          subst (λ (r : Rows). IsDone r one.after.last) made_more.1 (round_done at_now one.round one.after one.is (λ is. not (one.is_more.1 is)))

module _ {S : Type 0} (is_open : S → Kept → Type 0) (before : ℕ) (kept : Kept) (words : ChaCha) (host : Bytes) (asks : List Exchange → Type 0)
    (left : ChaCha) (last : Option Answer) (device : S) (count : ℕ) (made : HasMade is_open before kept words host asks left last device count) where
  -- all is done
  pub ends_done : IsDone (kept_now is_open before kept words host asks left last device count made).rows last → count ≤ most_exchanges
      → GoesThere is_open Exchanges (record { made = before; rows = kept.rows; words = words }) kept host asks left device count
  ends_done done few = record {
    acts = flat_map acts_of made.rounds;
    goes = record {
      rounds = made.rounds;
      few = (let is : count ≡ before + length made.rounds = made.counted in let fits : before + length made.rounds ≤ most_exchanges = omega arith in fits);
      at = stood (kept_now is_open before kept words host asks left last device count made) left last;
      went = made.went;
      later = [];
      ends = inl (done, refl, ap (λ (n : ℕ). goes_on (record { made = n; rows = (kept_now is_open before kept words host asks left last device count made).rows; words = left })) made.counted);
      acts_are = sym (append-nil (flat_map acts_of made.rounds));
    };
    exchanges = made.exchanges;
    are = made.are;
    asked_so = made.asked_so;
    stands = made.stands;
  }

module _ {S D T : Type 0} (is_open : S → Kept → Type 0) (may_have : D → Kept → List Change → Type 0) (before : ℕ) (kept : Kept) (words : ChaCha)
    (host : Bytes) (asks : List Exchange → Type 0) (left : ChaCha) (last : Option Answer) (device : S) (count : ℕ)
    (made : HasMade is_open before kept words host asks left last device count) where
  -- as many were made as may be
  pub ends_used : IsDue (kept_now is_open before kept words host asks left last device count made).rows last → count ≡ most_exchanges
      → WentBy {T = T} is_open may_have Exchanges (record { made = before; rows = kept.rows; words = words }) kept host asks left (Over (called.Refused device refusal.RoundsUsed))
  ends_used due all = record {
    acts = flat_map acts_of made.rounds;
    halt = refused refusal.RoundsUsed;
    so = record {
      rounds = made.rounds;
      few = (let is : count ≡ before + length made.rounds = made.counted in let fits : before + length made.rounds ≤ most_exchanges = omega arith in fits);
      at = stood (kept_now is_open before kept words host asks left last device count made) left last;
      went = made.went;
      later = [];
      ends = inr (refused refusal.RoundsUsed, refl, inl (sym made.counted ∙ all, due, (refl, refl)));
      acts_are = sym (append-nil (flat_map acts_of made.rounds));
    };
    exchanges = made.exchanges;
    are = made.are;
    asked_so = made.asked_so;
    ends = (refl, made.stands);
  }

  -- the next one ends the call
  pub ends_by : (since all : List Exchange → Type 0) (later : ChaCha) (result : Called S D T) → ((xs ys : List Exchange) → asks xs → since ys → all (xs ++ ys))
      → count < most_exchanges → EndsOne is_open may_have (kept_now is_open before kept words host asks left last device count made) (stood (kept_now is_open before kept words host asks left last device count made) left last) host since later result
      → WentBy is_open may_have Exchanges (record { made = before; rows = kept.rows; words = words }) kept host all later (Over result)
  ends_by since all later result on few one = record {
    acts = flat_map acts_of made.rounds ++ one.acts;
    halt = one.halt;
    so = record {
      rounds = made.rounds;
      few = (let is : count ≡ before + length made.rounds = made.counted in let fits : before + length made.rounds ≤ most_exchanges = omega arith in fits);
      at = stood (kept_now is_open before kept words host asks left last device count made) left last;
      went = made.went;
      later = one.acts;
      ends = inr (
        one.halt,
        refl,
        elim one.so [
          | inl ends ↦ inr (inl (subst (λ (n : ℕ). n < most_exchanges) made.counted few, ends))
          | inr wants ↦ inr (inr wants)
        ],
      );
      acts_are = refl;
    };
    exchanges = made.exchanges ++ one.exchanges;
    are = exchanges_append host (flat_map acts_of made.rounds) one.acts made.exchanges one.exchanges made.are one.are;
    asked_so = on made.exchanges one.exchanges made.asked_so one.asked_so;
    ends = ends_behind is_open may_have kept (flat_map acts_of made.rounds) one.acts one.halt later result one.ends;
  }

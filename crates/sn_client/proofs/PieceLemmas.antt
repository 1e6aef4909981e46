-- Pieces of a call over a link: one that ends at once, a request and the piece behind its answer, a commit, one piece behind another, and the end
-- of the call.
use Rattle.std.specs.Prelude.{suc}
use Rattle.std.proofs.Common.{◌≡◌, ◌<◌, ℕ, List, [], ◌∷◌, ◌++◌, Ok, Err, refl, sym, ap, ◌∙◌, subst, inl, inr, append-nil}
use Rattle.rand_chacha.specs.ChaCha.{ChaCha}
use Rattle.sn_disk.specs.declared.disk.Disk.{Ghosts}
use Rattle.sn_net.specs.Exchanges.{Exchange}
use Rattle.sn_rows.specs.declared.change.Change.{Change}
use Rattle.sn_sync.specs.declared.answer.Answer.{Answer}
use Rattle.sn_sync.specs.declared.request.Request.{Request}
use Rattle.sn_table.specs.Committing.{IsCause}
use Rattle.sn_table.specs.Kept.{Kept, with_batch}
use Rattle.sn_table.specs.declared.committed.CommitError.{CommitError}
use Rattle.sn_exchange.specs.Asked.{AsksOnce, HeardAs, IsHeardBehind}
use Rattle.sn_device.specs.Asking.{Reply, lost, said, unheard, unread}
use Rattle.sn_client.specs.Calls.{kept_done, of_commit}
use Rattle.sn_client.specs.Going.{GoesOver}
use Rattle.sn_device.specs.Runs.{Act, AnswersNothing, AsksHost, CommitsStep, EndsBy, Hears, IsBatch, Point, Then, Turn, answered, asked, broken, commits, goes_on, is_over, most_exchanges, nothing, refused}
use Rattle.sn_device.specs.States.{Bytes}
use Rattle.sn_device.specs.Steps.{Step, What}
use Rattle.sn_client.specs.Syncing.{GoesThere, IsAnsweredPast, IsOpenSince, MayHaveSince, WentBy, gives_nothing, none_asked}
use Rattle.sn_client.specs.declared.called.Called.{Called}
use Rattle.sn_client.specs.declared.called.Called.TheVariants as called
use Rattle.sn_client.specs.declared.device.Device.{Device}
use Rattle.sn_device.specs.declared.error.ClientError.{ClientError}
use Rattle.sn_device.specs.declared.error.ClientError.TheVariants as refusal
use Rattle.sn_client.specs.declared.piece_end.PieceEnd.{PieceEnd}
use Rattle.sn_client.specs.declared.piece_end.PieceEnd.TheVariants.{On, Over}
use Rattle.sn_client.proofs.CallLemmas.{stops_refused}
use Rattle.sn_client.proofs.Moments.{ends_as, may_on, open_on}
use Rattle.sn_client.proofs.SyncLemmas.{ends_behind, exchanges_append, kept_append}

-- the same refusal ends it
over_by : (why other : ClientError) → why ≡ other → is_over (refused why) ≡ is_over (refused other)
over_by why other is = ap (λ (w : ClientError). is_over (refused w)) is

-- a reply that is no answer, or want of memory behind it, ends a piece
no_answer : (next : Answer → Point → List Act → Turn → Type 0) (reply : Reply) (why : ClientError) (p : Point) → HeardAs reply (Err why)
    → Hears next reply p [] (is_over (refused why))
no_answer next lost why p (inl is) = inl (refl, over_by why refusal.LinkFault is)
no_answer next lost why p (inr is) = inr (refl, over_by why refusal.Memory is)
no_answer next unheard why p (inl is) = (refl, over_by why refusal.Memory is)
no_answer next unheard why p (inr is) = (refl, over_by why refusal.Memory is)
no_answer next (unread at) why p (inl is) = inl (refl, over_by why (refusal.BadAnswer at) is)
no_answer next (unread at) why p (inr is) = inr (refl, over_by why refusal.Memory is)
no_answer next (said given) why p (inl is) = absurd is
no_answer next (said given) why p (inr is) = inl (refl, over_by why refusal.Memory is)

-- behind an answer one exchange more was made
pub fewer_heard : (made : ℕ) (asks : List Exchange → Type 0) (host : Bytes) (r : Request) (given : Answer) → IsHeardBehind made asks host r (Ok given)
    → made < most_exchanges
fewer_heard made asks host r given (inl (most, none, is)) = absurd cc
fewer_heard made asks host r given (inr (few, heard)) = few

-- where a call stands behind so many exchanges
abbrev stood_at : ℕ → Kept → ChaCha → Point
stood_at made kept words = record { made = made; rows = kept.rows; words = words }

-- a commit that is made
pub commit_made : {S : Type 0} (is_open : S → Kept → Type 0) (what : What) (made : ℕ) (kept : Kept) (words : ChaCha) (host : Bytes)
    (asks : List Exchange → Type 0) (left : ChaCha) (changes : List Change) (after : ChaCha) → Step kept.rows words what changes after → asks []
    → (device : S) → left ≡ after → IsBatch changes → is_open device (with_batch kept changes)
    → GoesThere is_open (CommitsStep what) (stood_at made kept words) kept host asks left device made
commit_made is_open what made kept words host asks left changes after step none device same fits opens = record {
  acts = commits what changes ∷ [];
  goes = inr (
    changes,
    after,
    step,
    inl (fits, refl, ap (λ (w : ChaCha). goes_on (record { made = made; rows = (with_batch kept changes).rows; words = w })) same),
  );
  exchanges = [];
  are = refl;
  asked_so = none;
  stands = opens;
}

module _ {S D T : Type 0} (is_open : S → Kept → Type 0) (may_have : D → Kept → List Change → Type 0) where
  -- ---- a piece that ends at once

  pub ends_at_once : (piece : Point → List Act → Turn → Type 0) (p : Point) (kept : Kept) (host : Bytes) (asks : List Exchange → Type 0) (left : ChaCha)
      (device : S) (why : ClientError) → piece p [] (is_over (refused why)) → asks [] → is_open device kept
      → WentBy {T = T} is_open may_have piece p kept host asks left (Over (called.Refused device why))
  ends_at_once piece p kept host asks left device why so none opens =
      record { acts = []; halt = refused why; so = so; exchanges = []; are = refl; asked_so = none; ends = (refl, opens) }

  -- a piece that asks nothing, where nothing is asked
  pub went_quietly : (piece : Point → List Act → Turn → Type 0) (p : Point) (kept : Kept) (host : Bytes) (left : ChaCha) (result : PieceEnd S D T)
      (asks : List Exchange → Type 0) → asks [] → WentBy is_open may_have piece p kept host none_asked left result
      → WentBy is_open may_have piece p kept host asks left result
  went_quietly piece p kept host left (On device made) asks none w = record {
    acts = w.acts;
    goes = w.goes;
    exchanges = w.exchanges;
    are = w.are;
    asked_so = subst asks (sym w.asked_so) none;
    stands = w.stands;
  }
  went_quietly piece p kept host left (Over result) asks none w = record {
    acts = w.acts;
    halt = w.halt;
    so = w.so;
    exchanges = w.exchanges;
    are = w.are;
    asked_so = subst asks (sym w.asked_so) none;
    ends = w.ends;
  }

  -- ---- a piece that is part of another

  pub went_within : (part whole : Point → List Act → Turn → Type 0) (p q : Point) (kept : Kept) (host : Bytes) (asks : List Exchange → Type 0) (left : ChaCha)
      (result : PieceEnd S D T) → ((acts : List Act) (turn : Turn) → part p acts turn → whole q acts turn)
      → WentBy is_open may_have part p kept host asks left result → WentBy is_open may_have whole q kept host asks left result
  went_within part whole p q kept host asks left (On device made) within w = record {
    acts = w.acts;
    goes = within w.acts (goes_on (record { made = made; rows = (kept_done kept w.acts).rows; words = left })) w.goes;
    exchanges = w.exchanges;
    are = w.are;
    asked_so = w.asked_so;
    stands = w.stands;
  }
  went_within part whole p q kept host asks left (Over result) within w = record {
    acts = w.acts;
    halt = w.halt;
    so = within w.acts (is_over w.halt) w.so;
    exchanges = w.exchanges;
    are = w.are;
    asked_so = w.asked_so;
    ends = w.ends;
  }

  -- ---- a request

  module _ (r : Request) (next : Answer → Point → List Act → Turn → Type 0) (made : ℕ) (kept : Kept) (words : ChaCha) (host : Bytes) where
    -- memory is wanting before it
    pub asks_none : (asks : List Exchange → Type 0) (left : ChaCha) (device : S) → asks [] → is_open device kept
        → WentBy {T = T} is_open may_have (AsksHost r next) (stood_at made kept words) kept host asks left (Over (called.Refused device refusal.Memory))
    asks_none asks left device none opens =
        ends_at_once (AsksHost r next) (stood_at made kept words) kept host asks left device refusal.Memory (inl (refl, refl)) none opens

    -- no answer came
    pub hears_ill : (asks : List Exchange → Type 0) (left : ChaCha) (device : S) (why : ClientError) → IsHeardBehind made asks host r (Err why)
        → is_open device kept
        → WentBy {T = T} is_open may_have (AsksHost r next) (stood_at made kept words) kept host asks left (Over (called.Refused device why))
    hears_ill asks left device why (inl (most, none, is)) opens =
        let used : why ≡ refusal.RoundsUsed = cc in
        ends_at_once (AsksHost r next) (stood_at made kept words) kept host asks left device why (inr (inl (most, (refl, over_by why refusal.RoundsUsed used)))) none opens
    hears_ill asks left device why (inr (few, inl (none, is))) opens =
        let memory : why ≡ refusal.Memory = cc in
        ends_at_once (AsksHost r next) (stood_at made kept words) kept host asks left device why (inl (refl, over_by why refusal.Memory memory)) none opens
    hears_ill asks left device why (inr (few, inr (reply, once, heard))) opens = record {
      acts = asked r reply ∷ [];
      halt = refused why;
      so = inr (inr (few, (reply, [], refl, no_answer next reply why (record { made = suc made; rows = kept.rows; words = words }) heard)));
      exchanges = once.exchange ∷ [];
      are = (once.exchange, [], refl, once.is, refl);
      asked_so = once.asked;
      ends = (refl, opens);
    }

    -- an answer came, and behind it the call went so
    behind_said : (earlier since all : List Exchange → Type 0) (left : ChaCha) (given : Answer) (result : PieceEnd S D T)
        → ((xs ys : List Exchange) → earlier xs → since ys → all (xs ++ ys)) → made < most_exchanges → AsksOnce earlier host r (said given)
        → WentBy is_open may_have (next given) (record { made = suc made; rows = kept.rows; words = words }) kept host since left result
        → WentBy is_open may_have (AsksHost r next) (stood_at made kept words) kept host all left result
    behind_said earlier since all left given (On device count) on few once w = record {
      acts = asked r (said given) ∷ w.acts;
      goes = inr (inr (few, (said given, w.acts, refl, inr w.goes)));
      exchanges = once.exchange ∷ w.exchanges;
      are = (once.exchange, w.exchanges, refl, once.is, w.are);
      asked_so = on (once.exchange ∷ []) w.exchanges once.asked w.asked_so;
      stands = w.stands;
    }
    behind_said earlier since all left given (Over result) on few once w = record {
      acts = asked r (said given) ∷ w.acts;
      halt = w.halt;
      so = inr (inr (few, (said given, w.acts, refl, inr w.so)));
      exchanges = once.exchange ∷ w.exchanges;
      are = (once.exchange, w.exchanges, refl, once.is, w.are);
      asked_so = on (once.exchange ∷ []) w.exchanges once.asked w.asked_so;
      ends = ends_behind is_open may_have kept (asked r (said given) ∷ []) w.acts w.halt left result w.ends;
    }

    pub hears_well : (earlier since all : List Exchange → Type 0) (left : ChaCha) (given : Answer) (there : Bytes) (count : ℕ) (result : PieceEnd S D T)
        → ((xs ys : List Exchange) → earlier xs → since ys → all (xs ++ ys)) → there ≡ host → count ≡ suc made
        → IsHeardBehind made earlier host r (Ok given)
        → WentBy is_open may_have (next given) (record { made = count; rows = kept.rows; words = words }) kept there since left result
        → WentBy is_open may_have (AsksHost r next) (stood_at made kept words) kept host all left result
    hears_well earlier since all left given there count result on aimed one (inl (most, none, is)) w = absurd cc
    hears_well earlier since all left given there count result on aimed one (inr (few, inl (none, is))) w = absurd cc
    hears_well earlier since all left given there count result on aimed one (inr (few, inr (reply, once, heard))) w =
        behind_said earlier since all left given result on few (subst (AsksOnce earlier host r) heard once)
        (subst (λ (n : ℕ). WentBy is_open may_have (next given) (record { made = n; rows = kept.rows; words = words }) kept host since left result) one
        (subst (λ (h : Bytes). WentBy is_open may_have (next given) (record { made = count; rows = kept.rows; words = words }) kept h since left result)
        aimed w))

    -- an answer came, and behind it no more was asked
    pub hears_still : (asks : List Exchange → Type 0) (left : ChaCha) (given : Answer) (count : ℕ) (result : PieceEnd S D T) → count ≡ suc made
        → IsHeardBehind made asks host r (Ok given)
        → WentBy is_open may_have (next given) (record { made = count; rows = kept.rows; words = words }) kept host (λ xs. xs ≡ []) left result
        → WentBy is_open may_have (AsksHost r next) (stood_at made kept words) kept host asks left result
    hears_still asks left given count result one heard w =
        hears_well asks (λ (xs : List Exchange). xs ≡ []) asks left given host count result
        (λ xs ys before none. subst asks (sym (append-nil xs) ∙ ap (λ (l : List Exchange). xs ++ l) (sym none)) before) refl one heard w

  -- ---- a commit

  module _ (what : What) (made : ℕ) (kept : Kept) (words : ChaCha) (host : Bytes) (asks : List Exchange → Type 0) (left : ChaCha) where
    -- memory is wanting before it
    pub commits_none : (device : S) → asks [] → is_open device kept
        → WentBy {T = T} is_open may_have (CommitsStep what) (stood_at made kept words) kept host asks left (Over (called.Refused device refusal.Memory))
    commits_none device none opens =
        ends_at_once (CommitsStep what) (stood_at made kept words) kept host asks left device refusal.Memory (inl (refl, refl)) none opens

    module _ (changes : List Change) (after : ChaCha) (step : Step kept.rows words what changes after) (none : asks []) where
      pub commit_refused : (device : S) (error : CommitError) → IsCause changes error → is_open device kept
          → WentBy {T = T} is_open may_have (CommitsStep what) (stood_at made kept words) kept host asks left (Over (called.Refused device (of_commit error)))
      commit_refused device error cause opens =
          ends_at_once (CommitsStep what) (stood_at made kept words) kept host asks left device (of_commit error)
          (inr (changes, after, step, inr (refused (of_commit error), refl, stops_refused what changes error cause, refl))) none opens

      pub commit_broken : (disk : D) → IsBatch changes → may_have disk kept changes
          → WentBy {T = T} is_open may_have (CommitsStep what) (stood_at made kept words) kept host asks left (Over (called.Broken disk))
      commit_broken disk fits may = record {
        acts = [];
        halt = broken what changes;
        so = inr (changes, after, step, inr (broken what changes, refl, inl (fits, refl), refl));
        exchanges = [];
        are = refl;
        asked_so = none;
        ends = (what, changes, refl, may);
      }

      -- and then the call is refused
      pub commit_and_refused : (device : S) (why : ClientError) → IsBatch changes → is_open device (with_batch kept changes)
          → WentBy {T = T} is_open may_have (Then (CommitsStep what) (EndsBy why)) (stood_at made kept words) kept host asks left (Over (called.Refused device why))
      commit_and_refused device why fits opens = record {
        acts = commits what changes ∷ [];
        halt = refused why;
        so = inr (
          commits what changes ∷ [],
          record { made = made; rows = (with_batch kept changes).rows; words = after },
          [],
          inr (changes, after, step, inl (fits, refl, refl)),
          (refl, refl),
          refl,
        );
        exchanges = [];
        are = refl;
        asked_so = none;
        ends = (refl, opens);
      }

    -- and then the next piece
    module _ (changes : List Change) (after : ChaCha) (step : Step kept.rows words what changes after) (next : Point → List Act → Turn → Type 0) where
      pub commit_then : (result : PieceEnd S D T) → IsBatch changes → WentBy is_open may_have next (stood_at made (with_batch kept changes) after) (with_batch kept changes) host asks left result
          → WentBy is_open may_have (Then (CommitsStep what) next) (stood_at made kept words) kept host asks left result
      commit_then (On last count) fits w = record {
        acts = commits what changes ∷ w.acts;
        goes = inr (commits what changes ∷ [], stood_at made (with_batch kept changes) after, w.acts, inr (changes, after, step, inl (fits, refl, refl)), w.goes, refl);
        exchanges = w.exchanges;
        are = w.are;
        asked_so = w.asked_so;
        stands = w.stands;
      }
      commit_then (Over result) fits w = record {
        acts = commits what changes ∷ w.acts;
        halt = w.halt;
        so = inr (commits what changes ∷ [], stood_at made (with_batch kept changes) after, w.acts, inr (changes, after, step, inl (fits, refl, refl)), w.so, refl);
        exchanges = w.exchanges;
        are = w.are;
        asked_so = w.asked_so;
        ends = ends_behind is_open may_have kept (commits what changes ∷ []) w.acts w.halt left result w.ends;
      }

  -- ---- one piece behind another

  module _ (first next : Point → List Act → Turn → Type 0) (p : Point) (kept : Kept) (host : Bytes) where
    -- the first one ends the call
    pub then_over : (asks : List Exchange → Type 0) (left : ChaCha) (result : Called S D T) → WentBy is_open may_have first p kept host asks left (Over result)
        → WentBy is_open may_have (Then first next) p kept host asks left (Over result)
    then_over asks left result w = record {
      acts = w.acts;
      halt = w.halt;
      so = inl (w.halt, w.so, refl);
      exchanges = w.exchanges;
      are = w.are;
      asked_so = w.asked_so;
      ends = w.ends;
    }

    -- the call goes on behind it
    pub then_on : (earlier since all : List Exchange → Type 0) (between left : ChaCha) (device : S) (made : ℕ) (result : PieceEnd S D T)
        → ((xs ys : List Exchange) → earlier xs → since ys → all (xs ++ ys))
        → (one : WentBy {T = T} is_open may_have first p kept host earlier between (On device made))
        → WentBy is_open may_have next (record { made = made; rows = (kept_done kept one.acts).rows; words = between }) (kept_done kept one.acts) host since
        left result
        → WentBy is_open may_have (Then first next) p kept host all left result
    then_on earlier since all between left device made (On last count) on one w =
        let acts : List Act = one.acts ++ w.acts in
        let both : Then first next p acts (goes_on (record { made = count; rows = (kept_done (kept_done kept one.acts) w.acts).rows; words = left })) =
        inr (one.acts, record { made = made; rows = (kept_done kept one.acts).rows; words = between }, w.acts, one.goes, w.goes, refl)
        in
        record {
          acts = acts;
          goes = subst (λ (k : Kept). Then first next p acts (goes_on (record { made = count; rows = k.rows; words = left })))
              (sym (kept_append kept one.acts w.acts)) both;
          exchanges = one.exchanges ++ w.exchanges;
          are = exchanges_append host one.acts w.acts one.exchanges w.exchanges one.are w.are;
          asked_so = on one.exchanges w.exchanges one.asked_so w.asked_so;
          stands = subst (is_open last) (sym (kept_append kept one.acts w.acts)) w.stands;
        }
    then_on earlier since all between left device made (Over result) on one w = record {
      acts = one.acts ++ w.acts;
      halt = w.halt;
      so = inr (one.acts, record { made = made; rows = (kept_done kept one.acts).rows; words = between }, w.acts, one.goes, w.so, refl);
      exchanges = one.exchanges ++ w.exchanges;
      are = exchanges_append host one.acts w.acts one.exchanges w.exchanges one.are w.are;
      asked_so = on one.exchanges w.exchanges one.asked_so w.asked_so;
      ends = ends_behind is_open may_have kept one.acts w.acts w.halt left result w.ends;
    }

  -- ---- the end as a call

  pub answers_over : (piece : Point → List Act → Turn → Type 0) (p : Point) (kept : Kept) (host : Bytes) (asks : List Exchange → Type 0) (left : ChaCha)
      (went : PieceEnd S D T) (result : Called S D T) → IsAnsweredPast went result → WentBy is_open may_have piece p kept host asks left went
      → GoesOver is_open may_have gives_nothing (AnswersNothing piece p) asks host kept left result
  answers_over piece p kept host asks left (On device made) result (given, is) w =
      let over : GoesOver is_open may_have gives_nothing (AnswersNothing piece p) asks host kept left (called.Done device given) =
      record {
        acts = w.acts;
        halt = answered nothing left;
        runs = inr (record { made = made; rows = (kept_done kept w.acts).rows; words = left }, w.goes, refl);
        exchanges = w.exchanges;
        are = w.are;
        asked_so = w.asked_so;
        ends = (refl, w.stands);
      }
      in
      subst (λ (c : Called S D T). GoesOver is_open may_have gives_nothing (AnswersNothing piece p) asks host kept left c) (sym is) over
  answers_over piece p kept host asks left (Over ended) result is w =
      let over : GoesOver is_open may_have gives_nothing (AnswersNothing piece p) asks host kept left ended =
      record {
        acts = w.acts;
        halt = w.halt;
        runs = inl w.so;
        exchanges = w.exchanges;
        are = w.are;
        asked_so = w.asked_so;
        ends = w.ends;
      }
      in
      subst (λ (c : Called S D T). GoesOver is_open may_have gives_nothing (AnswersNothing piece p) asks host kept left c) (sym is) over

-- ---- what a piece leaves, seen from an earlier device

module _ {S D T : Type 0} (P Q : S → Kept → Type 0) (M N : D → Kept → List Change → Type 0) (kept : Kept)
    (opens : (device : S) (acts : List Act) → P device (kept_done kept acts) → Q device (kept_done kept acts))
    (may : (disk : D) (acts : List Act) (changes : List Change) → M disk (kept_done kept acts) changes → N disk (kept_done kept acts) changes) where
  pub went_as : (piece : Point → List Act → Turn → Type 0) (p : Point) (host : Bytes) (asks : List Exchange → Type 0) (left : ChaCha) (result : PieceEnd S D T)
      → WentBy P M piece p kept host asks left result → WentBy Q N piece p kept host asks left result
  went_as piece p host asks left (On device made) w = record {
    acts = w.acts;
    goes = w.goes;
    exchanges = w.exchanges;
    are = w.are;
    asked_so = w.asked_so;
    stands = opens device w.acts w.stands;
  }
  went_as piece p host asks left (Over result) w = record {
    acts = w.acts;
    halt = w.halt;
    so = w.so;
    exchanges = w.exchanges;
    are = w.are;
    asked_so = w.asked_so;
    ends = ends_as P Q M N kept opens may gives_nothing w.acts w.halt left result w.ends;
  }

module _ {D T : Type 0} {g : Ghosts D} (old : Device D g) (kept : Kept) (first next : Point → List Act → Turn → Type 0) (p : Point) (host : Bytes) where
  -- one piece behind another, on the device that the first one left
  pub goes_behind : (earlier since all : List Exchange → Type 0) (between left : ChaCha) (device : Device D g) (made : ℕ) (there : Bytes)
      (result : PieceEnd (Device D g) D T) → ((xs ys : List Exchange) → earlier xs → since ys → all (xs ++ ys)) → there ≡ host
      → (one : WentBy {T = T} (IsOpenSince old kept) (MayHaveSince old kept) first p kept host earlier between (On device made))
      → WentBy (IsOpenSince device (kept_done kept one.acts)) (MayHaveSince device (kept_done kept one.acts)) next
      (record { made = made; rows = (kept_done kept one.acts).rows; words = between }) (kept_done kept one.acts) there since left result
      → WentBy (IsOpenSince old kept) (MayHaveSince old kept) (Then first next) p kept host all left result
  goes_behind earlier since all between left device made there result on aimed one w =
      let now : Kept = kept_done kept one.acts in
      let q : Point = record { made = made; rows = now.rows; words = between } in
      then_on (IsOpenSince old kept) (MayHaveSince old kept) first next p kept host earlier since all between left device made result on one
      (went_as (IsOpenSince device now) (IsOpenSince old kept) (MayHaveSince device now) (MayHaveSince old kept) now
      (open_on old device kept one.acts one.stands) (may_on old device kept one.acts one.stands) next q host since left result
      (subst (λ (h : Bytes). WentBy (IsOpenSince device now) (MayHaveSince device now) next q now h since left result) aimed w))

module _ {D T : Type 0} {g : Ghosts D} (old : Device D g) (kept : Kept) (what : What) (next : Point → List Act → Turn → Type 0) (made : ℕ) (words : ChaCha)
    (host : Bytes) (asks : List Exchange → Type 0) (left : ChaCha) where
  -- one piece behind a commit, on the device that has it
  pub commit_behind : (changes : List Change) (after : ChaCha) (step : Step kept.rows words what changes after) (device : Device D g)
      (result : PieceEnd (Device D g) D T) → IsBatch changes → IsOpenSince old kept device (with_batch kept changes)
      → WentBy (IsOpenSince device (with_batch kept changes)) (MayHaveSince device (with_batch kept changes)) next
      (record { made = made; rows = (with_batch kept changes).rows; words = after }) (with_batch kept changes) host asks left result
      → WentBy (IsOpenSince old kept) (MayHaveSince old kept) (Then (CommitsStep what) next) (record { made = made; rows = kept.rows; words = words }) kept host
      asks left result
  commit_behind changes after step device result fits was w =
      let now : Kept = with_batch kept changes in
      let q : Point = record { made = made; rows = now.rows; words = after } in
      let before : List Act = commits what changes ∷ [] in
      commit_then (IsOpenSince old kept) (MayHaveSince old kept) what made kept words host asks left changes after step next result fits
      (went_as (IsOpenSince device now) (IsOpenSince old kept) (MayHaveSince device now) (MayHaveSince old kept) now (open_on old device kept before was)
      (may_on old device kept before was) next q host asks left result w)

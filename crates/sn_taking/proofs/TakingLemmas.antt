-- What an answer tells, one after another.
use Rattle.std.proofs.Common.{◌≡◌, ◌∙◌, ◌≢◌, ◌<◌, ◌+◌, ℕ, suc, Bool, true, false, List, [], ◌∷◌, ◌++◌, Option, None, Result, Ok, Err, IfErr, inl, inr, refl, sym, ap, subst, length, get_or, take, drop, map, append_assoc}
use Rattle.std.specs.Result.{IsErrAnd}
use Rattle.std.proofs.Math.Seq.{drop-cons}
use Rattle.std.proofs.lemmas.List.{map-append, take-append-drop}
use Rattle.rand_chacha.specs.ChaCha.{ChaCha}
use Rattle.sn_conflict.specs.declared.meeting.Meeting.{Meeting}
use Rattle.sn_conflict.specs.declared.meeting.Meeting.TheVariants as meeting
use Rattle.sn_rows.specs.Table.{Rows, rows_after}
use Rattle.sn_rows.specs.declared.body.RowBody.{RowBody}
use Rattle.sn_rows.specs.declared.change.Change.{Change}
use Rattle.sn_rows.specs.declared.device_rows.LocalItem.{LocalItem}
use Rattle.sn_sets.specs.declared.sets.Sets.{Sets}
use Rattle.sn_sync.specs.declared.answer.Conflict.TheVariants as conflict
use Rattle.sn_sync.specs.declared.item.Body.TheVariants as body
use Rattle.sn_sync.specs.declared.item.Item.{Item}
use Rattle.sn_device.specs.States.{Bytes, HasItem, IsFree}
use Rattle.sn_taking.specs.Taken.{FindsNoFresh, IsReadable, IsUsedUp, StopsBy, StopsCopy, StopsServer, left_by, so_far}
use Rattle.sn_device.specs.Taking.{Forks, IsServers, Meets, Progress, RunsOut, RunsOutAt, Takes, TakesAll, TakesVersion, Told, is_conflict}
use Rattle.sn_device.specs.declared.error.ClientError.{ClientError}
use Rattle.sn_taking.specs.declared.taken.NotTaken.{NotTaken}
use Rattle.sn_taking.specs.declared.taken.Taken.{Taken}
use Rattle.sn_local.proofs.Facts.{take_more}

-- ---- in order

pub takes_both : (sets : Sets) (saved : List Item) (p q r : Progress) (ts us : List Told) → TakesAll sets saved p ts q → TakesAll sets saved q us r
    → TakesAll sets saved p (ts ++ us) r
takes_both sets saved p q r [] us e later = subst (λ (x : Progress). TakesAll sets saved x us r) e later
takes_both sets saved p q r (t ∷ ts) us (m, one, rest) later = (m, one, takes_both sets saved m q r ts us rest later)

-- one more of a list
pub takes_more : {X : Type 0} (f : X → Told) (sets : Sets) (saved : List Item) (p q r : Progress) (xs : List X) (k : ℕ) (x : X) → k < length xs
    → x ≡ get_or xs k x → TakesAll sets saved p (map f (take k xs)) q → Takes sets saved q (f x) r → TakesAll sets saved p (map f (take (k + 1) xs)) r
takes_more {X} f sets saved p q r xs k x within is before one =
    let more : map f (take (k + 1) xs) ≡ map f (take k xs) ++ f x ∷ [] =
    ap (λ (ys : List X). map f ys) (take_more xs k x within is) ∙ map-append f (take k xs) (x ∷ []) in
    subst (λ (ts : List Told). TakesAll sets saved p ts r) (sym more) (takes_both sets saved p q r (map f (take k xs)) (f x ∷ []) before (r, one, refl))

-- the item of a uuid, with the changes as they are told
pub stands_at : (rows : Rows) (changes others : List Change) (uuid : Bytes) (number : ℕ) (local : LocalItem) → changes ≡ others
    → HasItem (rows_after rows changes) uuid number local → HasItem (rows_after rows others) uuid number local
stands_at rows changes others uuid number local same has = subst (λ (cs : List Change). HasItem (rows_after rows cs) uuid number local) same has

-- a uuid that no item has
pub free_at : (rows : Rows) (changes others : List Change) (uuid : Bytes) → changes ≡ others → IsFree (rows_after rows changes) uuid
    → IsFree (rows_after rows others) uuid
free_at rows changes others uuid same free = subst (λ (cs : List Change). IsFree (rows_after rows cs) uuid) same free

-- ---- meetings

-- a meeting by which the row takes the version
pub meets_left : (sets : Sets) (p : Progress) (number : ℕ) (local : LocalItem) (i : Item) (how : Meeting) (latest : Option RowBody) (q : Progress)
    → how ≢ meeting.Same → how ≢ meeting.Fork → latest ≡ left_by local how → TakesVersion sets p number i latest None q → Meets sets p number local i how q
meets_left sets p number local i (meeting.Own true) latest q a b is takes = subst (λ (l : Option RowBody). TakesVersion sets p number i l None q) is takes
meets_left sets p number local i (meeting.Own false) latest q a b is takes = subst (λ (l : Option RowBody). TakesVersion sets p number i l None q) is takes
meets_left sets p number local i meeting.Same latest q a b is takes = absurd (a refl)
meets_left sets p number local i meeting.Take latest q a b is takes = subst (λ (l : Option RowBody). TakesVersion sets p number i l None q) is takes
meets_left sets p number local i meeting.GiveWay latest q a b is takes = subst (λ (l : Option RowBody). TakesVersion sets p number i l None q) is takes
meets_left sets p number local i meeting.Fork latest q a b is takes = absurd (b refl)

-- ---- what stops

-- the exit of a `?`
pub err_as : {T : Type 0} (r : Result T NotTaken) (e : NotTaken) (Q : NotTaken → Type 0) → IsErrAnd r (λ y. y ≡ e) → Q e → IfErr r Q
err_as (Ok x) e Q is q = absurd is
err_as (Err y) e Q is q = subst Q (sym is) q

pub new_stops : (sets : Sets) (rows : Rows) (taken : Taken) (words : ChaCha) (i : Item) (saved : Bool) (changes : List Change) → changes ≡ taken.changes
    → IsFree (rows_after rows changes) i.uuid → (e : NotTaken)
    → StopsBy (λ why. (i.body ≢ body.Deleted) × ((r : Rows) (w : ChaCha) → IsUsedUp (so_far r taken w) why)) e
    → StopsBy (StopsServer sets (so_far rows taken words) i saved) e
new_stops sets rows taken words i saved changes same free e (inl memory) = inl memory
new_stops sets rows taken words i saved changes same free e (inr (undeleted, used)) =
    inr (inr ((free_at rows changes taken.changes i.uuid same free, undeleted), used rows words))

pub fork_stops : (sets : Sets) (p : Progress) (i : Item) (saved : Bool) → Forks sets p i saved → (e : NotTaken) → StopsBy (StopsCopy p) e
    → StopsBy (StopsServer sets p i saved) e
fork_stops sets p i saved forks e (inl memory) = inl memory
fork_stops sets p i saved forks e (inr stops) = inr (inl (forks, stops))

pub stops_more : (P Q : ClientError → Type 0) (e : NotTaken) → ((why : ClientError) → P why → Q why) → StopsBy P e → StopsBy Q e
stops_more P Q e f (inl memory) = inl memory
stops_more P Q e f (inr stops) = inr (f _ stops)

-- one of a list does
pub runs_out : {X : Type 0} (f : X → Told) (sets : Sets) (saved : List Item) (p q : Progress) (xs : List X) (k : ℕ) (x : X) → k < length xs
    → x ≡ get_or xs k x → TakesAll sets saved p (map f (take k xs)) q → (why : ClientError) → RunsOutAt sets saved q (f x) why
    → RunsOut sets saved p (map f xs) why
runs_out {X} f sets saved p q xs k x within is before why stops = record {
  front = map f (take k xs);
  entry = f x;
  later = map f (drop (suc k) xs);
  split = ap (λ (ys : List X). map f ys)
      (sym (take-append-drop k xs)
      ∙ ap (λ (ys : List X). take k xs ++ ys) (drop-cons xs k x within ∙ ap (λ (y : X). y ∷ drop (suc k) xs) (sym is)))
      ∙ map-append f (take k xs) (x ∷ drop (suc k) xs);
  at = q;
  taken = before;
  stops = stops;
}

-- in the first of two lists
pub out_before : (sets : Sets) (saved : List Item) (p : Progress) (ts us : List Told) (why : ClientError) → RunsOut sets saved p ts why
    → RunsOut sets saved p (ts ++ us) why
out_before sets saved p ts us why out = record {
  front = out.front;
  entry = out.entry;
  later = out.later ++ us;
  split = ap (λ (xs : List Told). xs ++ us) out.split ∙ append_assoc out.front (out.entry ∷ out.later) us;
  at = out.at;
  taken = out.taken;
  stops = out.stops;
}

-- in the second, behind all of the first
pub out_behind : (sets : Sets) (saved : List Item) (p q : Progress) (ts us : List Told) (why : ClientError) → TakesAll sets saved p ts q
    → RunsOut sets saved q us why → RunsOut sets saved p (ts ++ us) why
out_behind sets saved p q ts us why before out = record {
  front = ts ++ out.front;
  entry = out.entry;
  later = out.later;
  split = ap (λ (xs : List Told). ts ++ xs) out.split ∙ sym (append_assoc ts out.front (out.entry ∷ out.later));
  at = out.at;
  taken = takes_both sets saved p q out.at ts out.front before out.taken;
  stops = out.stops;
}

-- ---- at one version

pub server_stops : (sets : Sets) (saved : List Item) (p : Progress) (t : Told) (i : Item) (flag : Bool) → IsServers saved t i flag → (why : ClientError)
    → StopsServer sets p i flag why → RunsOutAt sets saved p t why
server_stops sets saved p t i flag is why (inl (forks, inl used)) = inl ((i, flag, is, inl forks), used.0, used.1)
server_stops sets saved p t i flag is why (inl (forks, inr (room, none))) = inr (inl (i, flag, is, forks), λ needs. room, none)
server_stops sets saved p t i flag is why (inr (new, used)) = inl ((i, flag, is, inr new), used.0, used.1)

-- a conflict of uuids needs no number
pub rename_stops : (sets : Sets) (saved : List Item) (p : Progress) (unsaved : Item) (number : ℕ) (local : LocalItem) → HasItem p.rows unsaved.uuid number local
    → (why : ClientError) → IsReadable sets local × FindsNoFresh p why → RunsOutAt sets saved p (is_conflict (conflict.Uuid unsaved)) why
rename_stops sets saved p unsaved number local has why ((strings, drafted, (text, opens)), none) =
    inr (inr (unsaved, refl, (number, local, strings, text, has, drafted, opens)), λ needs. absurd needs.2, none)

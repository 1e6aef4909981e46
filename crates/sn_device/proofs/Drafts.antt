-- A draft stays but for steps of its own item.
use Rattle.std.proofs.Common.{◌≡◌, ◌≢◌, ◌⊎◌, ◌<◌, ℕ, zero, suc, Bool, true, false, List, [], ◌∷◌, ◌++◌, map, Option, Some, None, refl, sym, ap, ◌∙◌, subst, inl, inr, ⊎_elim, arith}
use Rattle.std.specs.List.{AllZip, Contains}
use Rattle.std.proofs.lemmas.List.{append-nil}
use Rattle.rand_chacha.specs.ChaCha.{ChaCha}
use Rattle.sn_sync.specs.Versions.{conflict_uuids, item_of, uuids}
use Rattle.sn_conflict.specs.declared.meeting.Meeting.{Meeting}
use Rattle.sn_conflict.specs.declared.meeting.Meeting.TheVariants as meeting
use Rattle.sn_rows.specs.Facts.{apart_keys, put_here, put_or_not, row_after-append, spared_stays}
use Rattle.sn_rows.specs.Table.{Rows, Spares, key_of, row_after, rows_after, same_key}
use Rattle.sn_rows.specs.declared.body.RowBody.{RowBody}
use Rattle.sn_rows.specs.declared.body.RowBody.TheVariants as row
use Rattle.sn_rows.specs.declared.change.Change.{Change}
use Rattle.sn_rows.specs.declared.device_rows.LocalItem.{LocalItem}
use Rattle.sn_rows.specs.declared.key.Key.{Key}
use Rattle.sn_rows.specs.declared.key.Key.TheVariants as key
use Rattle.sn_rows.specs.declared.key.Slot.TheVariants.{Asked, Older}
use Rattle.sn_rows.specs.declared.value.Value.{Value}
use Rattle.sn_rows.specs.declared.value.Value.TheVariants as value
use Rattle.sn_sets.specs.declared.sets.Sets.{Sets}
use Rattle.sn_string.specs.declared.params.KeySet.{KeySet}
use Rattle.sn_sync.specs.declared.answer.Answer.{Answer}
use Rattle.sn_sync.specs.declared.answer.Answer.TheVariants as answer
use Rattle.sn_sync.specs.declared.answer.Conflict.{Conflict}
use Rattle.sn_sync.specs.declared.answer.Conflict.TheVariants as conflict
use Rattle.sn_sync.specs.declared.item.Body.{Body}
use Rattle.sn_sync.specs.declared.item.Body.TheVariants as body
use Rattle.sn_sync.specs.declared.item.Item.{Item}
use Rattle.sn_sync.specs.declared.request.Request.{Request}
use Rattle.sn_sync.specs.declared.request.Request.TheVariants as request
use Rattle.sn_device.specs.Laws.{HasDraft, IsOfItem, TellsOf}
use Rattle.sn_device.specs.Sending.{Posts}
use Rattle.sn_device.specs.States.{Bytes, Columns, HasItem, HasLocal, IsSound}
use Rattle.sn_device.specs.Steps.{Applies, AppliesAnswer, AppliesTo, Deletes, PutsNew, Renews, Retires, Step, What, adopts, applies, asks, begins, deletes, edits, forgets, posts, puts, renews, start}
use Rattle.sn_device.specs.Taking.{Copies, MakesRow, Meets, Progress, Renames, Takes, TakesAll, TakesBody, TakesConflict, TakesOwn, TakesServer, TakesUnsaved, Told, changed, is_conflict, is_retrieved, is_saved, made, told_by, with_words}

-- ---- one change

-- a change of another row leaves a row as it was
off : (c : Change) (at other : Key) → key_of c ≡ at → at ≢ other → (found : Option Value) → row_after found other (c ∷ []) ≡ found
off c at other named apart found =
    spared_stays found other (c ∷ []) (ap (λ (k : Key). same_key k other) named ∙ apart_keys at other apart, tt)

-- one number has one row
pub same_row : (rows : Rows) (number : ℕ) (a b : LocalItem) → HasLocal rows number a → HasLocal rows number b → a ≡ b
same_row rows number a b h k = cc

-- the row of another uuid has another number
other_number : (rows : Rows) (uuid : Bytes) (number mine : ℕ) (other local : LocalItem) → HasItem rows uuid number other → HasLocal rows mine local
    → uuid ≢ local.uuid → key.Local number ≢ key.Local mine
other_number rows uuid number mine other local h found apart same =
    let there : HasLocal rows number local = ap rows same ∙ found in
    let is : other ≡ local = same_row rows number other local h.0 there in
    apart (sym h.1 ∙ ap (λ (l : LocalItem). l.uuid) is)

-- a number below the next isn't the next
pub new_number : (number next : ℕ) → number < next → key.Local next ≢ key.Local number
new_number number next below same = let is : next ≡ number = cc in omega (arith, is, below)

-- ---- one version

-- the row is in the rows as they are now, and where this holds in those that the changes leave
pub record Stays (S : Type 0) (rows : Rows) (mine : ℕ) (local : LocalItem) (p : Progress) : Type 0 where
  pub there : HasLocal p.rows mine local
  pub since : S → HasLocal (rows_after rows p.changes) mine local
  pub below : mine < p.next

pub past_change : (S : Type 0) (rows : Rows) (mine : ℕ) (local : LocalItem) (p : Progress) (c : Change) (at : Key) → key_of c ≡ at → at ≢ key.Local mine
    → Stays S rows mine local p → Stays S rows mine local (changed p c)
past_change S rows mine local p c at named apart s = record {
  there = off c at (key.Local mine) named apart (p.rows (key.Local mine)) ∙ s.there;
  since = λ holds. row_after-append (rows (key.Local mine)) (key.Local mine) p.changes (c ∷ [])
      ∙ off c at (key.Local mine) named apart (rows_after rows p.changes (key.Local mine)) ∙ s.since holds;
  below = s.below;
}

pub past_made : (S : Type 0) (rows : Rows) (mine : ℕ) (local : LocalItem) (p : Progress) (c : Change) → key_of c ≡ key.Local p.next
    → Stays S rows mine local p → Stays S rows mine local (made p c)
past_made S rows mine local p c named s =
    let q : Stays S rows mine local (changed p c) = past_change S rows mine local p c (key.Local p.next) named (new_number mine p.next s.below) s in
    record { there = q.there; since = q.since; below = omega (arith, s.below) }

pub past_words : (S : Type 0) (rows : Rows) (mine : ℕ) (local : LocalItem) (p : Progress) (words : ChaCha) → Stays S rows mine local p
    → Stays S rows mine local (with_words p words)
past_words S rows mine local p words s = record { there = s.there; since = s.since; below = s.below }

-- to what is left by an equation
pub past_to : (S : Type 0) (rows : Rows) (mine : ℕ) (local : LocalItem) (p q : Progress) → q ≡ p → Stays S rows mine local p → Stays S rows mine local q
past_to S rows mine local p q e s = subst (Stays S rows mine local) (sym e) s

pub past_body : (S : Type 0) (rows : Rows) (mine : ℕ) (local : LocalItem) (sets : Sets) (p : Progress) (number : ℕ) (i : Item) (b : Body) (latest posted : Option RowBody)
    (q : Progress) → key.Local number ≢ key.Local mine → TakesBody sets p number i b latest posted q → Stays S rows mine local p → Stays S rows mine local q
past_body S rows mine local sets p number i body.Deleted latest posted q apart (c, removes, e) s =
    past_to S rows mine local (changed p c) q e (past_change S rows mine local p c (key.Local number) removes.key_is apart s)
past_body S rows mine local sets p number i (body.Strings content enc) latest posted q apart (columns, left, c, stands, put, e) s =
    past_to S rows mine local (with_words (changed p c) left) q e
    (past_words S rows mine local (changed p c) left (past_change S rows mine local p c (key.Local number) put.puts.key_is apart s))

pub past_copy : (S : Type 0) (rows : Rows) (mine : ℕ) (local : LocalItem) (sets : Sets) (p : Progress) (other : LocalItem) (q : Progress) → Copies sets p other q
    → Stays S rows mine local p → Stays S rows mine local q
past_copy S rows mine local sets p other q copy s =
    past_to S rows mine local (with_words (made p copy.change) copy.left) q copy.gives
    (past_words S rows mine local (made p copy.change) copy.left (past_made S rows mine local p copy.change copy.puts.puts.key_is s))

pub past_meeting : (S : Type 0) (rows : Rows) (mine : ℕ) (local : LocalItem) (sets : Sets) (p : Progress) (number : ℕ) (other : LocalItem) (i : Item) (how : Meeting)
    (q : Progress) → key.Local number ≢ key.Local mine → Meets sets p number other i how q → Stays S rows mine local p → Stays S rows mine local q
past_meeting S rows mine local sets p number other i meeting.Same q apart m s = past_to S rows mine local p q m s
past_meeting S rows mine local sets p number other i meeting.Take q apart m s = past_body S rows mine local sets p number i i.body None None q apart m s
past_meeting S rows mine local sets p number other i (meeting.Own true) q apart m s =
    past_body S rows mine local sets p number i i.body None None q apart m s
past_meeting S rows mine local sets p number other i (meeting.Own false) q apart m s =
    past_body S rows mine local sets p number i i.body other.latest None q apart m s
past_meeting S rows mine local sets p number other i meeting.GiveWay q apart m s = past_body S rows mine local sets p number i i.body None None q apart m s
past_meeting S rows mine local sets p number other i meeting.Fork q apart (r, copy, takes) s =
    past_body S rows mine local sets r number i i.body None None q apart takes (past_copy S rows mine local sets p other r copy s)

pub past_new : (S : Type 0) (rows : Rows) (mine : ℕ) (local : LocalItem) (sets : Sets) (p : Progress) (i : Item) (b : Body) (q : Progress) → MakesRow sets p i b q
    → Stays S rows mine local p → Stays S rows mine local q
past_new S rows mine local sets p i body.Deleted q m s = past_to S rows mine local p q m s
past_new S rows mine local sets p i (body.Strings content enc) q (room, columns, left, c, stands, put, e) s =
    past_to S rows mine local (with_words (made p c) left) q e
    (past_words S rows mine local (made p c) left (past_made S rows mine local p c put.puts.key_is s))

pub past_server : (S : Type 0) (rows : Rows) (mine : ℕ) (local : LocalItem) (sets : Sets) (p : Progress) (i : Item) (saved : Bool) (q : Progress) → i.uuid ≢ local.uuid
    → TakesServer sets p i saved q → Stays S rows mine local p → Stays S rows mine local q
past_server S rows mine local sets p i saved q apart (inl (number, other, how, stands, meets, does)) s =
    past_meeting S rows mine local sets p number other i how q (other_number p.rows i.uuid number mine other local stands s.there apart) does s
past_server S rows mine local sets p i saved q apart (inr (free, makes)) s = past_new S rows mine local sets p i i.body q makes s

pub past_rename : (S : Type 0) (rows : Rows) (mine : ℕ) (local : LocalItem) (sets : Sets) (p : Progress) (number : ℕ) (other : LocalItem) (latest : Option RowBody)
    (q : Progress) → key.Local number ≢ key.Local mine → Renames sets p number other latest q → Stays S rows mine local p → Stays S rows mine local q
past_rename S rows mine local sets p number other None q apart m s = past_to S rows mine local p q m s
past_rename S rows mine local sets p number other (Some row.Deleted) q apart (c, removes, e) s =
    past_to S rows mine local (changed p c) q e (past_change S rows mine local p c (key.Local number) removes.key_is apart s)
past_rename S rows mine local sets p number other (Some (row.Sealed strings)) q apart (inl (closed, e)) s = past_to S rows mine local p q e s
past_rename S rows mine local sets p number other (Some (row.Sealed strings)) q apart
    (inr (text, uuid, rest, again, left, c, opens, fresh, seals, put, e)) s =
    past_to S rows mine local (with_words (changed p c) left) q e
    (past_words S rows mine local (changed p c) left (past_change S rows mine local p c (key.Local number) put.puts.key_is apart s))

pub past_unsaved : (S : Type 0) (rows : Rows) (mine : ℕ) (local : LocalItem) (sets : Sets) (p : Progress) (number : ℕ) (other : LocalItem) (k : Conflict)
    (q : Progress) → key.Local number ≢ key.Local mine → TakesUnsaved sets p number other k q → Stays S rows mine local p → Stays S rows mine local q
past_unsaved S rows mine local sets p number other (conflict.Sync server) q apart m s = absurd m
past_unsaved S rows mine local sets p number other (conflict.Uuid unsaved) q apart m s = past_rename S rows mine local sets p number other other.latest q apart m s
past_unsaved S rows mine local sets p number other (conflict.Content unsaved) q apart (c, put, e) s =
    past_to S rows mine local (changed p c) q e (past_change S rows mine local p c (key.Local number) put.puts.key_is apart s)

pub past_own : (S : Type 0) (rows : Rows) (mine : ℕ) (local : LocalItem) (sets : Sets) (p : Progress) (uuid : Bytes) (k : Conflict) (q : Progress)
    → uuid ≢ local.uuid → TakesOwn sets p uuid k q → Stays S rows mine local p → Stays S rows mine local q
past_own S rows mine local sets p uuid k q apart (inl (number, other, stands, does)) s =
    past_unsaved S rows mine local sets p number other k q (other_number p.rows uuid number mine other local stands s.there apart) does s
past_own S rows mine local sets p uuid k q apart (inr (free, e)) s = past_to S rows mine local p q e s

pub past_conflict : (S : Type 0) (rows : Rows) (mine : ℕ) (local : LocalItem) (sets : Sets) (p : Progress) (k : Conflict) (q : Progress) → (item_of k).uuid ≢ local.uuid
    → TakesConflict sets p k q → Stays S rows mine local p → Stays S rows mine local q
past_conflict S rows mine local sets p (conflict.Sync server) q apart m s = past_server S rows mine local sets p server false q apart m s
past_conflict S rows mine local sets p (conflict.Uuid unsaved) q apart m s =
    past_own S rows mine local sets p unsaved.uuid (conflict.Uuid unsaved) q apart m s
past_conflict S rows mine local sets p (conflict.Content unsaved) q apart m s =
    past_own S rows mine local sets p unsaved.uuid (conflict.Content unsaved) q apart m s

-- ---- all that an answer tells

abbrev uuid_of : Told → Bytes
uuid_of (is_saved i) = i.uuid
uuid_of (is_conflict k) = (item_of k).uuid
uuid_of (is_retrieved i) = i.uuid

pub past_told : (S : Type 0) (rows : Rows) (mine : ℕ) (local : LocalItem) (sets : Sets) (saved : List Item) (p : Progress) (t : Told) (q : Progress)
    → uuid_of t ≢ local.uuid → Takes sets saved p t q → Stays S rows mine local p → Stays S rows mine local q
past_told S rows mine local sets saved p (is_saved i) q apart m s = past_server S rows mine local sets p i true q apart m s
past_told S rows mine local sets saved p (is_conflict k) q apart m s = past_conflict S rows mine local sets p k q apart m s
past_told S rows mine local sets saved p (is_retrieved i) q apart (inl (again, e)) s = past_to S rows mine local p q e s
past_told S rows mine local sets saved p (is_retrieved i) q apart (inr (first, m)) s = past_server S rows mine local sets p i false q apart m s

-- none of them is of this uuid
abbrev Apart : Bytes → List Told → Type 0
Apart uuid [] = Unit {0}
Apart uuid (t ∷ ts) = (uuid_of t ≢ uuid) × Apart uuid ts

pub past_all : (S : Type 0) (rows : Rows) (mine : ℕ) (local : LocalItem) (sets : Sets) (saved : List Item) (p : Progress) (ts : List Told) (q : Progress)
    → Apart local.uuid ts → TakesAll sets saved p ts q → Stays S rows mine local p → Stays S rows mine local q
past_all S rows mine local sets saved p [] q apart e s = past_to S rows mine local p q e s
past_all S rows mine local sets saved p (t ∷ ts) q apart (r, takes, later) s =
    past_all S rows mine local sets saved r ts q apart.1 later (past_told S rows mine local sets saved p t r apart.0 takes s)

contains_here : {X : Type 0} (x : X) (xs : List X) → Contains (x ∷ xs) x
contains_here x xs = (zero, omega arith, refl)

contains_later : {X : Type 0} (x : X) (xs : List X) (y : X) → Contains xs y → Contains (x ∷ xs) y
contains_later x xs y (k, less, at) = (suc k, omega (arith, less), at)

apart_map : {X : Type 0} (f : X → Told) (g : X → Bytes) → ((x : X) → uuid_of (f x) ≡ g x) → (uuid : Bytes) (xs : List X) (later : List Told)
    → ¬ (Contains (map g xs) uuid) → Apart uuid later → Apart uuid (map f xs ++ later)
apart_map f g same uuid [] later none h = h
apart_map f g same uuid (x ∷ xs) later none h = (
  λ e. none (subst (λ (u : Bytes). Contains (g x ∷ map g xs) u) (sym (same x) ∙ e) (contains_here (g x) (map g xs))),
  apart_map f g same uuid xs later (λ c. none (contains_later (g x) (map g xs) uuid c)) h,
)

apart_told : (saved : List Item) (conflicts : List Conflict) (retrieved : List Item) (uuid : Bytes)
    → ¬ (Contains (uuids saved) uuid ⊎ (Contains (conflict_uuids conflicts) uuid ⊎ Contains (uuids retrieved) uuid))
    → Apart uuid (told_by saved conflicts retrieved)
apart_told saved conflicts retrieved uuid none =
    let last : Apart uuid (map is_retrieved retrieved) =
    subst (Apart uuid) (append-nil (map is_retrieved retrieved))
    (apart_map is_retrieved (λ i. i.uuid) (λ i. refl) uuid retrieved [] (λ c. none (inr (inr c))) tt) in
    apart_map is_saved (λ i. i.uuid) (λ i. refl) uuid saved (map is_conflict conflicts ++ map is_retrieved retrieved) (λ c. none (inl c))
    (apart_map is_conflict (λ k. (item_of k).uuid) (λ k. refl) uuid conflicts (map is_retrieved retrieved) (λ c. none (inr (inl c))) last)

-- ---- changes of other rows

spares_one : (c : Change) (at other : Key) → key_of c ≡ at → at ≢ other → Spares other (c ∷ [])
spares_one c at other named apart = (ap (λ (k : Key). same_key k other) named ∙ apart_keys at other apart, tt)

kept_by : (rows : Rows) (changes : List Change) (uuid : Bytes) (number : ℕ) (latest : RowBody) → Spares (key.Local number) changes
    → HasDraft rows uuid number latest → HasDraft (rows_after rows changes) uuid number latest
kept_by rows changes uuid number latest s d = record {
  local = d.local;
  stands = (spared_stays (rows (key.Local number)) (key.Local number) changes s ∙ d.stands.0, d.stands.1);
  drafted = d.drafted;
}

-- ---- each step

kept_renewed : (rows : Rows) (token : Bytes) (changes : List Change) (uuid : Bytes) (number : ℕ) (latest : RowBody) → Renews rows token changes
    → HasDraft rows uuid number latest → HasDraft (rows_after rows changes) uuid number latest
kept_renewed rows token changes uuid number latest r d =
    kept_by rows changes uuid number latest
    (subst (Spares (key.Local number)) (sym r.changes_are) (spares_one r.change key.Owner (key.Local number) r.renewed.puts_it.key_is (λ e. cc))) d

kept_put : (rows : Rows) (words left : ChaCha) (of kind text : Bytes) (changes : List Change) (uuid : Bytes) (number : ℕ) (latest : RowBody)
    → IsSound rows → PutsNew rows words of kind text changes left
    → HasDraft rows uuid number latest → HasDraft (rows_after rows changes) uuid number latest
kept_put rows words left of kind text changes uuid number latest sound r d =
    let below = sound.locals.numbered r.owner number d.local r.holds.owned d.stands.0 in
    let first = spares_one r.item (key.Local r.owner.next) (key.Local number) r.item_is.puts.key_is (new_number number r.owner.next below) in
    let second = spares_one r.counted key.Owner (key.Local number) r.counted_is.puts_it.key_is (λ e. cc) in
    kept_by rows changes uuid number latest (subst (Spares (key.Local number)) (sym r.changes_are) (first.0, second)) d

kept_of_other : (rows : Rows) (of : Bytes) (at : ℕ) (other : LocalItem) (c : Change) (changes : List Change) (uuid : Bytes) (number : ℕ)
    (latest : RowBody) → HasItem rows of at other → key_of c ≡ key.Local at → changes ≡ c ∷ [] → of ≢ uuid
    → HasDraft rows uuid number latest → HasDraft (rows_after rows changes) uuid number latest
kept_of_other rows of at other c changes uuid number latest stands named is apart d =
    let off_row = other_number rows of at number other d.local stands d.stands.0 (λ e. apart (e ∙ d.stands.1)) in
    kept_by rows changes uuid number latest
    (subst (Spares (key.Local number)) (sym is) (spares_one c (key.Local at) (key.Local number) named off_row)) d

-- the change is of the row that is deleted
deleted_key : (rows : Rows) (of : Bytes) (changes : List Change) → (r : Deletes rows of changes) → key_of r.change ≡ key.Local r.number
deleted_key rows of changes r = ⊎_elim (λ h. h.1.key_is) (λ h. h.1.puts.key_is) r.change_is

-- ---- posting

posted_row : (rows r : Rows) (at : ℕ) (c : Change) (uuid : Bytes) (number : ℕ) (latest : RowBody) → (p : Posts rows at c)
    → HasDraft rows uuid number latest → HasDraft r uuid number latest
    → ((key.Local at ≡ key.Local number) ⊎ (rows_after r (c ∷ []) (key.Local number) ≡ r (key.Local number)))
    → HasDraft (rows_after r (c ∷ [])) uuid number latest
posted_row rows r at c uuid number latest p first d (inl same) =
    let there : HasLocal rows number p.local = ap rows (sym same) ∙ p.stands in
    let is : p.local ≡ first.local = same_row rows number p.local first.local there first.stands.0 in
    record {
      local = p.puts.local;
      stands = (
        ap (rows_after r (c ∷ [])) (sym same) ∙ put_here r c (key.Local at) (value.Local p.puts.local) p.puts.puts,
        ap (λ (x : Columns). x.uuid) p.puts.columns_are ∙ ap (λ (l : LocalItem). l.uuid) is ∙ first.stands.1,
      );
      drafted = ap (λ (x : Columns). x.latest) p.puts.columns_are ∙ ap (λ (l : LocalItem). l.latest) is ∙ first.drafted;
    }
posted_row rows r at c uuid number latest p first d (inr past) = record {
  local = d.local;
  stands = (past ∙ d.stands.0, d.stands.1);
  drafted = d.drafted;
}

kept_posted : (rows r : Rows) (numbers : List ℕ) (changes : List Change) (uuid : Bytes) (number : ℕ) (latest : RowBody)
    → HasDraft rows uuid number latest → HasDraft r uuid number latest → AllZip (Posts rows) numbers changes
    → HasDraft (rows_after r changes) uuid number latest
kept_posted rows r [] [] uuid number latest first d h = d
kept_posted rows r [] (c ∷ changes) uuid number latest first d h = absurd h
kept_posted rows r (at ∷ numbers) [] uuid number latest first d h = absurd h
kept_posted rows r (at ∷ numbers) (c ∷ changes) uuid number latest first d h =
    let p : Posts rows at c = h.0 in
    let one = posted_row rows r at c uuid number latest p first d
    (put_or_not r c (key.Local at) (value.Local p.puts.local) p.puts.puts (key.Local number)) in
    kept_posted rows (rows_after r (c ∷ [])) numbers changes uuid number latest first one h.1

-- ---- an answer

spares_retired : (rows : Rows) (cursor : Option Bytes) (older : Option KeySet) (changes : List Change) (number : ℕ) → Retires rows cursor older changes
    → Spares (key.Local number) changes
spares_retired rows cursor None changes number e = subst (Spares (key.Local number)) (sym e) tt
spares_retired rows cursor (Some set) changes number (inl (may, (c, removes, e))) =
    subst (Spares (key.Local number)) (sym e) (spares_one c (key.Set Older) (key.Local number) removes.key_is (λ same. cc))
spares_retired rows cursor (Some set) changes number (inr (not, e)) = subst (Spares (key.Local number)) (sym e) tt

kept_applied : (rows : Rows) (words left : ChaCha) (sent : List Item) (conflicts : List Conflict) (cursor : Option Bytes) (retrieved saved : List Item)
    (token : Bytes) (changes : List Change) (uuid : Bytes) (number : ℕ) (latest : RowBody) → IsSound rows
    → Applies rows words sent conflicts cursor retrieved saved token changes left
    → ¬ (Contains (uuids saved) uuid ⊎ (Contains (conflict_uuids conflicts) uuid ⊎ Contains (uuids retrieved) uuid))
    → HasDraft rows uuid number latest → HasDraft (rows_after rows changes) uuid number latest
kept_applied rows words left sent conflicts cursor retrieved saved token changes uuid number latest sound a none d =
    let below = sound.locals.numbered a.owner number d.local a.holds.owned d.stands.0 in
    let before : Stays (Unit {0}) rows number d.local (start rows a.owner words) = record { there = d.stands.0; since = λ holds. d.stands.0; below = below } in
    let apart = subst (λ (u : Bytes). Apart u (told_by saved conflicts retrieved)) (sym d.stands.1) (apart_told saved conflicts retrieved uuid none) in
    let after = past_all (Unit {0}) rows number d.local a.sets saved (start rows a.owner words) (told_by saved conflicts retrieved) a.end apart a.taken before in
    let own = spares_one a.counted key.Owner (key.Local number) a.counted_is.puts_it.key_is (λ e. cc) in
    let rest = spares_retired a.end.rows cursor a.sets.older a.retired number a.retires in
    let found : HasLocal (rows_after rows (a.end.changes ++ a.counted ∷ a.retired)) number d.local =
    row_after-append (rows (key.Local number)) (key.Local number) a.end.changes (a.counted ∷ a.retired)
    ∙ spared_stays (rows_after rows a.end.changes (key.Local number)) (key.Local number) (a.counted ∷ a.retired) (own.0, rest) ∙ after.since tt in
    subst (λ (cs : List Change). HasDraft (rows_after rows cs) uuid number latest) (sym a.changes_are)
    (record { local = d.local; stands = (found, d.stands.1); drafted = d.drafted })

kept_answered : (rows : Rows) (words left : ChaCha) (sent : List Item) (given : Answer) (changes : List Change) (uuid : Bytes) (number : ℕ)
    (latest : RowBody) → IsSound rows → AppliesAnswer rows words sent given changes left → ¬ (TellsOf given uuid)
    → HasDraft rows uuid number latest → HasDraft (rows_after rows changes) uuid number latest
kept_answered rows words left sent (answer.Sync conflicts cursor retrieved saved token) changes uuid number latest sound a none d =
    kept_applied rows words left sent conflicts cursor retrieved saved token changes uuid number latest sound a none d
kept_answered rows words left sent (answer.Account token identifier account) changes uuid number latest sound a none d = absurd a
kept_answered rows words left sent (answer.Params params) changes uuid number latest sound a none d = absurd a
kept_answered rows words left sent (answer.Refused status tag more) changes uuid number latest sound a none d = absurd a

kept_told : (rows : Rows) (words left : ChaCha) (r : Request) (given : Answer) (changes : List Change) (uuid : Bytes) (number : ℕ)
    (latest : RowBody) → IsSound rows → AppliesTo rows words r given changes left → ¬ (TellsOf given uuid)
    → HasDraft rows uuid number latest → HasDraft (rows_after rows changes) uuid number latest
kept_told rows words left (request.Sync token items limit sync_token cursor_token) given changes uuid number latest sound a none d =
    kept_answered rows words left items given changes uuid number latest sound a none d
kept_told rows words left (request.Register params pw) given changes uuid number latest sound a none d = absurd a
kept_told rows words left (request.Params identifier) given changes uuid number latest sound a none d = absurd a
kept_told rows words left (request.SignIn identifier pw) given changes uuid number latest sound a none d = absurd a
kept_told rows words left (request.ChangePw token current pw cost nonce) given changes uuid number latest sound a none d = absurd a

-- ---- a set that is asked for

kept_asked : (rows : Rows) (c : Change) (changes : List Change) (uuid : Bytes) (number : ℕ) (latest : RowBody) → key_of c ≡ key.Set Asked
    → changes ≡ c ∷ [] → HasDraft rows uuid number latest → HasDraft (rows_after rows changes) uuid number latest
kept_asked rows c changes uuid number latest named is d =
    kept_by rows changes uuid number latest
    (subst (Spares (key.Local number)) (sym is) (spares_one c (key.Set Asked) (key.Local number) named (λ e. cc))) d

-- ---- all steps

pub draft_stays : (rows : Rows) (words left : ChaCha) (what : What) (changes : List Change) (uuid : Bytes) (number : ℕ) (latest : RowBody)
    → IsSound rows → Step rows words what changes left → ¬ (IsOfItem what uuid)
    → HasDraft rows uuid number latest → HasDraft (rows_after rows changes) uuid number latest
draft_stays rows words left (begins set account token) changes uuid number latest sound step none d =
    let empty : rows (key.Local number) ≡ None = step.0 (key.Local number) in
    let there = d.stands.0 in
    absurd cc
draft_stays rows words left (renews token) changes uuid number latest sound step none d =
    kept_renewed rows token changes uuid number latest step.0 d
draft_stays rows words left (puts of kind text) changes uuid number latest sound step none d =
    kept_put rows words left of kind text changes uuid number latest sound step d
draft_stays rows words left (edits of text) changes uuid number latest sound step none d =
    kept_of_other rows of step.number step.local step.change changes uuid number latest step.stands step.change_is.puts.key_is step.changes_are none d
draft_stays rows words left (deletes of) changes uuid number latest sound step none d =
    let r : Deletes rows of changes = step.0 in
    kept_of_other rows of r.number r.local r.change changes uuid number latest r.stands (deleted_key rows of changes r) r.changes_are none d
draft_stays rows words left (posts numbers) changes uuid number latest sound step none d =
    kept_posted rows rows numbers changes uuid number latest d d step.0
draft_stays rows words left (applies r given) changes uuid number latest sound step none d =
    kept_told rows words left r given changes uuid number latest sound step none d
draft_stays rows words left (asks set) changes uuid number latest sound step none d =
    kept_asked rows step.0.change changes uuid number latest step.0.put.puts.key_is step.0.changes_are d
draft_stays rows words left (adopts set token) changes uuid number latest sound step none d = absurd (none tt)
draft_stays rows words left forgets changes uuid number latest sound step none d =
    kept_asked rows step.0.change changes uuid number latest step.0.removes.key_is step.0.changes_are d

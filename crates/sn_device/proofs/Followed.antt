-- A draft, over all that an answer tells.
use Rattle.std.proofs.Common.{arith, append_assoc, ◌≤◌, ◌≡◌, ◌≢◌, ◌⊎◌, ℕ, true, false, List, [], ◌∷◌, ◌++◌, All, Option, Some, refl, sym, ap, ◌∙◌, subst, inl, inr}
use Rattle.std.specs.Str.{bytes_eq}
use Rattle.std.proofs.lemmas.Bool.{cases_Bool}
use Rattle.std.proofs.lemmas.List.Elements.{All-head, All-nil, All-tail}
use Rattle.std.proofs.lemmas.Slice.Eq.{bytes_eq-Decides}
use Rattle.rand_chacha.specs.ChaCha.{ChaCha}
use Rattle.sn_notes.specs.Copies.{copy_of}
use Rattle.sn_rows.specs.Table.{Rows, no_rows, rows_after}
use Rattle.sn_rows.specs.declared.body.RowBody.{RowBody}
use Rattle.sn_rows.specs.declared.body.RowBody.TheVariants as row
use Rattle.sn_rows.specs.declared.body.RowStrings.{RowStrings}
use Rattle.sn_rows.specs.declared.change.Change.{Change}
use Rattle.sn_rows.specs.declared.device_rows.LocalItem.{LocalItem}
use Rattle.sn_rows.specs.declared.device_rows.OwnerRow.{OwnerRow}
use Rattle.sn_rows.specs.declared.key.Key.TheVariants as key
use Rattle.sn_sets.specs.Sets.{OpensHeld, sealed_of}
use Rattle.sn_sets.specs.declared.sets.Sets.{Sets}
use Rattle.sn_sets.proofs.Facts.{one_held}
use Rattle.sn_sync.specs.declared.answer.Answer.{Answer}
use Rattle.sn_sync.specs.declared.answer.Answer.TheVariants as answer
use Rattle.sn_sync.specs.declared.answer.Conflict.{Conflict}
use Rattle.sn_sync.specs.declared.item.Item.{Item}
use Rattle.sn_sync.specs.declared.request.Request.TheVariants as request
use Rattle.sn_sets.specs.Seals.{Seals}
use Rattle.sn_device.specs.Laws.{AreWell, DraftKeptByAnswer, GoesOnAs, IsAnswered, IsCarried, IsChecked, IsStillOf, copied}
use Rattle.sn_device.specs.States.{Bytes, HasLocal, HasSets, IsSoundDevice}
use Rattle.sn_device.specs.Steps.{AppliesAnswer, start}
use Rattle.sn_device.specs.Taking.{Progress, Takes, TakesAll, Told, is_conflict, is_retrieved, is_saved, told_by}
use Rattle.sn_device.proofs.Carried.{Becomes, HasIt, Succeeds, becomes, told_uuid}
use Rattle.sn_device.proofs.DeviceSteps.{one_sets}
use Rattle.sn_device.proofs.Drafts.{Stays, past_told}
use Rattle.sn_device.proofs.Frames.{item_kept, one_owner}
use Rattle.sn_device.proofs.Leading.{IsOfItems, Leads, lead_told}
use Rattle.sn_device.proofs.StepStands.{all_checked, applied_leads, apply_parts}
use Rattle.sn_device.proofs.Well.{stay_well}

-- ---- one draft carries another on

copied_more : (text : Bytes) (copies : List Bytes) (uuid : Bytes) → copied text (copies ++ uuid ∷ []) ≡ copy_of (copied text copies) uuid
copied_more text [] uuid = refl
copied_more text (first ∷ copies) uuid = copied_more (copy_of text first) copies uuid

-- the draft, or one as which it goes on
abbrev pub Carries : Sets → ℕ → ℕ → LocalItem → RowBody → ℕ → LocalItem → RowBody → Type 0
Carries sets next number was latest at local again = IsStillOf number was latest at local again ⊎ GoesOnAs sets next number was latest at local again

-- the row has other columns
pub still_carries : (sets : Sets) (next number : ℕ) (was : LocalItem) (latest : RowBody) (at : ℕ) (local now : LocalItem) (again : RowBody)
    → now.uuid ≡ local.uuid → now.kind ≡ local.kind → Carries sets next number was latest at local again
    → Carries sets next number was latest at now again
still_carries sets next number was latest at local now again named kind (inl s) =
    inl (record { number_is = s.number_is; uuid_is = named ∙ s.uuid_is; kind_is = kind ∙ s.kind_is; draft_is = s.draft_is })
still_carries sets next number was latest at local now again named kind (inr g) = inr (record {
  place = g.place;
  kind_is = kind ∙ g.kind_is;
  strings = g.strings;
  was_sealed = g.was_sealed;
  text = g.text;
  opened = g.opened;
  copies = g.copies;
  anew = g.anew;
  is_sealed = g.is_sealed;
  before = g.before;
  left = g.left;
  seals = subst (λ (u : Bytes). Seals g.before sets.present u (copied g.text g.copies) g.anew g.left) (sym named) g.seals;
})

-- the draft goes on once more: its content again, or the copy of it
abbrev more_copies : (text content : Bytes) (uuid : Bytes) → List Bytes → ((content ≡ text) ⊎ (content ≡ copy_of text uuid)) → List Bytes
more_copies text content uuid copies (inl same) = copies
more_copies text content uuid copies (inr copy) = copies ++ uuid ∷ []

more_copied : (text middle content : Bytes) (uuid : Bytes) (copies : List Bytes) → middle ≡ copied text copies
    → (is : (content ≡ middle) ⊎ (content ≡ copy_of middle uuid)) → content ≡ copied text (more_copies middle content uuid copies is)
more_copied text middle content uuid copies e (inl same) = same ∙ e
more_copied text middle content uuid copies e (inr copy) = copy ∙ ap (λ (x : Bytes). copy_of x uuid) e ∙ sym (copied_more text copies uuid)

-- a row of its own number, or of one that was new
pub place_of : (next number at over later : ℕ) → ((at ≡ number) ⊎ (next ≤ at)) → ((later ≡ at) ⊎ (over ≤ later)) → next ≤ over
    → (later ≡ number) ⊎ (next ≤ later)
place_of next number at over later (inl own) (inl same) grown = inl (same ∙ own)
place_of next number at over later (inr new) (inl same) grown = inr (omega (arith, same, new))
place_of next number at over later own (inr after) grown = inr (omega (arith, after, grown))

same_or_after : (at over later : ℕ) → ((later ≡ at) ⊎ (later ≡ over)) → (later ≡ at) ⊎ (over ≤ later)
same_or_after at over later (inl same) = inl same
same_or_after at over later (inr new) = inr (omega (arith, new))

-- where the first content, as it has gone on until now, is this text
goes_on : (sets : Sets) (rows : Rows) (next over number : ℕ) (was : LocalItem) (latest : RowBody) (at : ℕ) (local : LocalItem) (again : RowBody)
    (s : Succeeds sets rows at over local again) (strings : RowStrings) (text : Bytes) (copies : List Bytes) → next ≤ over
    → ((at ≡ number) ⊎ (next ≤ at)) → latest ≡ row.Sealed strings → OpensHeld sets was.uuid (sealed_of strings) text → local.kind ≡ was.kind
    → s.text ≡ copied text copies → GoesOnAs sets next number was latest s.number s.now (row.Sealed s.anew)
goes_on sets rows next over number was latest at local again s strings text copies grown place sealed opened kind is = record {
  place = place_of next number at over s.number place (same_or_after at over s.number s.place) grown;
  kind_is = s.kind_is ∙ kind;
  strings = strings;
  was_sealed = sealed;
  text = text;
  opened = opened;
  copies = more_copies s.text s.content local.uuid copies s.content_is;
  anew = s.anew;
  is_sealed = refl;
  before = s.before;
  left = s.left;
  seals = subst (λ (x : Bytes). Seals s.before sets.present s.now.uuid x s.anew s.left) (more_copied text s.text s.content local.uuid copies is s.content_is)
      s.seals;
}

carried_further : (sets : Sets) (rows : Rows) (next over number : ℕ) (was : LocalItem) (latest : RowBody) (at : ℕ) (local : LocalItem) (again : RowBody)
    → next ≤ over → Carries sets next number was latest at local again → (s : Succeeds sets rows at over local again)
    → GoesOnAs sets next number was latest s.number s.now (row.Sealed s.anew)
carried_further sets rows next over number was latest at local again grown (inl still) s =
    goes_on sets rows next over number was latest at local again s s.strings s.text [] grown (inl still.number_is) (sym still.draft_is ∙ s.was)
    (subst (λ (u : Bytes). OpensHeld sets u (sealed_of s.strings) s.text) still.uuid_is s.opened) still.kind_is refl
carried_further sets rows next over number was latest at local again grown (inr g) s =
    let both : row.Sealed s.strings ≡ row.Sealed g.anew = sym s.was ∙ g.is_sealed in
    let same : s.strings ≡ g.anew = cc in
    let opens : OpensHeld sets local.uuid (sealed_of s.strings) (copied g.text g.copies) =
    subst (λ (x : RowStrings). OpensHeld sets local.uuid (sealed_of x) (copied g.text g.copies)) (sym same) (inl g.seals.opens) in
    goes_on sets rows next over number was latest at local again s g.strings g.text g.copies grown g.place g.was_sealed g.opened g.kind_is
    (one_held sets local.uuid (sealed_of s.strings) s.text (copied g.text g.copies) s.opened opens)

-- ---- one version

-- a version of these has the content of the draft, as it is carried on when the version is met
pub record IsTold (sets : Sets) (saved : List Item) (next number : ℕ) (was : LocalItem) (latest : RowBody) (p : Progress) (ts : List Told) : Type 0 where
  pub front : List Told
  pub entry : Told
  pub later : List Told
  pub split : ts ≡ front ++ entry ∷ later
  pub at : Progress
  pub taken : TakesAll sets saved p front at
  pub carried : IsCarried sets next number was latest at.rows
  pub has : HasIt sets saved entry carried.local carried.again

-- the draft is carried on in the rows, or it is a deletion, or one of these has its content
abbrev IsKept : Sets → List Item → ℕ → ℕ → LocalItem → RowBody → Progress → List Told → Rows → Type 0
IsKept sets saved next number was latest p ts rows =
    IsCarried sets next number was latest rows ⊎ ((latest ≡ row.Deleted) ⊎ IsTold sets saved next number was latest p ts)

-- no other version touches a row
unmet : (at : ℕ) (local : LocalItem) (sets : Sets) (saved : List Item) (p : Progress) (t : Told) (q : Progress) → told_uuid t ≢ local.uuid
    → Takes sets saved p t q → Stays ⊥ no_rows at local p → Stays ⊥ no_rows at local q
unmet at local sets saved p (is_saved i) q apart m s = past_told ⊥ no_rows at local sets saved p (is_saved i) q apart m s
unmet at local sets saved p (is_conflict k) q apart m s = past_told ⊥ no_rows at local sets saved p (is_conflict k) q apart m s
unmet at local sets saved p (is_retrieved i) q apart m s = past_told ⊥ no_rows at local sets saved p (is_retrieved i) q apart m s

-- a deletion goes on as nothing else
pub no_deletion : (sets : Sets) (next number : ℕ) (was : LocalItem) (latest : RowBody) (at : ℕ) (local : LocalItem) (again : RowBody)
    → Carries sets next number was latest at local again → again ≡ row.Deleted → latest ≡ row.Deleted
no_deletion sets next number was latest at local again (inl still) gone = sym still.draft_is ∙ gone
no_deletion sets next number was latest at local again (inr g) gone = let both = g.is_sealed in absurd cc

module _ (sets : Sets) (saved : List Item) (next number : ℕ) (was : LocalItem) (latest : RowBody) where
  -- of the item of one that carries it on
  one_met : (p q : Progress) (t : Told) (c : IsCarried sets next number was latest p.rows) → next ≤ p.next
      → Becomes sets saved t p.next c.at c.local c.again q.rows → IsKept sets saved next number was latest p (t ∷ []) q.rows
  one_met p q t c grown (inl stays) = inl (record {
    at = c.at;
    local = stays.now;
    stands = stays.there;
    again = c.again;
    drafted = stays.drafted;
    carries = still_carries sets next number was latest c.at c.local stays.now c.again stays.uuid_is stays.kind_is c.carries;
  })
  one_met p q t c grown (inr (inl has)) =
      inr (inr (record { front = []; entry = t; later = []; split = refl; at = p; taken = refl; carried = c; has = has }))
  one_met p q t c grown (inr (inr (inl gone))) = inr (inl (no_deletion sets next number was latest c.at c.local c.again c.carries gone))
  one_met p q t c grown (inr (inr (inr s))) = inl (record {
    at = s.number;
    local = s.now;
    stands = s.there;
    again = row.Sealed s.anew;
    drafted = s.drafted;
    carries = inr (carried_further sets q.rows next p.next number was latest c.at c.local c.again grown c.carries s);
  })

  one_version : (p q : Progress) (t : Told) → AreWell sets.present p.next p.rows → next ≤ p.next → Takes sets saved p t q
      → (c : IsCarried sets next number was latest p.rows)
      → ((bytes_eq c.local.uuid (told_uuid t) ≡ true) ⊎ (bytes_eq c.local.uuid (told_uuid t) ≡ false))
      → IsKept sets saved next number was latest p (t ∷ []) q.rows
  one_version p q t well grown takes c (inl same) =
      let named : c.local.uuid ≡ told_uuid t = (bytes_eq-Decides c.local.uuid (told_uuid t)).0 same in
      one_met p q t c grown (becomes sets saved t p q c.at c.local c.again c.stands c.drafted well named takes)
  one_version p q t well grown takes c (inr apart) =
      let off : told_uuid t ≢ c.local.uuid = λ e. (let yes = (bytes_eq-Decides c.local.uuid (told_uuid t)).1 (sym e) in cc) in
      let here : Stays ⊥ no_rows c.at c.local p =
      record { there = c.stands; since = λ no. absurd no; below = well.numbered c.at c.local c.stands } in
      let after : Stays ⊥ no_rows c.at c.local q = unmet c.at c.local sets saved p t q off takes here in
      inl (record { at = c.at; local = c.local; stands = after.there; again = c.again; drafted = c.drafted; carries = c.carries })

  -- ---- all of them

  told_more : (p r : Progress) (t : Told) (ts : List Told) → Takes sets saved p t r → IsTold sets saved next number was latest r ts
      → IsTold sets saved next number was latest p (t ∷ ts)
  told_more p r t ts takes found = record {
    front = t ∷ found.front;
    entry = found.entry;
    later = found.later;
    split = ap (λ (xs : List Told). t ∷ xs) found.split;
    at = found.at;
    taken = (r, takes, found.taken);
    carried = found.carried;
    has = found.has;
  }

  told_before : (p : Progress) (xs ys : List Told) → IsTold sets saved next number was latest p xs → IsTold sets saved next number was latest p (xs ++ ys)
  told_before p xs ys found = record {
    front = found.front;
    entry = found.entry;
    later = found.later ++ ys;
    split = ap (λ (zs : List Told). zs ++ ys) found.split ∙ append_assoc found.front (found.entry ∷ found.later) ys;
    at = found.at;
    taken = found.taken;
    carried = found.carried;
    has = found.has;
  }

  kept_later : (p r : Progress) (t : Told) (ts : List Told) (rows : Rows) → Takes sets saved p t r → IsKept sets saved next number was latest r ts rows
      → IsKept sets saved next number was latest p (t ∷ ts) rows
  kept_later p r t ts rows takes (inl c) = inl c
  kept_later p r t ts rows takes (inr (inl gone)) = inr (inl gone)
  kept_later p r t ts rows takes (inr (inr found)) = inr (inr (told_more p r t ts takes found))

  -- what the first one ends needs no other
  kept_then : (p r : Progress) (t : Told) (ts : List Told) (rows : Rows) → Takes sets saved p t r
      → IsKept sets saved next number was latest p (t ∷ []) r.rows
      → (IsCarried sets next number was latest r.rows → IsKept sets saved next number was latest r ts rows)
      → IsKept sets saved next number was latest p (t ∷ ts) rows
  kept_then p r t ts rows takes (inl c) later = kept_later p r t ts rows takes (later c)
  kept_then p r t ts rows takes (inr (inl gone)) later = inr (inl gone)
  kept_then p r t ts rows takes (inr (inr found)) later = inr (inr (told_before p (t ∷ []) ts found))

  pub all_versions : (rows : Rows) (p : Progress) (ts : List Told) (q : Progress) → AreWell sets.present p.next p.rows → Leads rows next p
      → All IsChecked ts → TakesAll sets saved p ts q → IsCarried sets next number was latest p.rows → IsKept sets saved next number was latest p ts q.rows
  all_versions rows p [] q well leads checked e c = inl (subst (λ (z : Progress). IsCarried sets next number was latest z.rows) (sym e) c)
  all_versions rows p (t ∷ ts) q well leads checked (r, takes, later) c =
      let between = stay_well sets saved p r t (All-head IsChecked t ts checked) well takes in
      kept_then p r t ts q.rows takes (one_version p r t well leads.grown takes c (cases_Bool (bytes_eq c.local.uuid (told_uuid t))))
      (all_versions rows r ts q between (lead_told rows next sets saved p t r takes leads) (All-tail IsChecked t ts checked) later)

-- ---- a whole answer

start_well : (rows : Rows) (owner : OwnerRow) (sets : Sets) → IsSoundDevice rows → HasSets rows owner sets → AreWell sets.present owner.next rows
start_well rows owner sets device has = record {
  numbered = λ n l found. device.sound.locals.numbered owner n l has.owned found;
  apart = device.sound.locals.apart;
  items = device.sound.locals.items;
  drafts = λ n l found. device.drafts owner sets n l has found;
}

-- a draft that stands carries itself on
pub own_carried : (sets : Sets) (rows : Rows) (next number : ℕ) (local : LocalItem) (latest : RowBody) → HasLocal rows number local
    → local.latest ≡ Some latest → IsCarried sets next number local latest rows
own_carried sets rows next number local latest there drafted = record {
  at = number;
  local = local;
  stands = there;
  again = latest;
  drafted = drafted;
  carries = inl (record { number_is = refl; uuid_is = refl; kind_is = refl; draft_is = refl });
}

moved : (sets : Sets) (next number : ℕ) (was : LocalItem) (latest : RowBody) (end after : Rows)
    → ((n : ℕ) (l : LocalItem) → HasLocal end n l → HasLocal after n l) → IsCarried sets next number was latest end
    → IsCarried sets next number was latest after
moved sets next number was latest end after there c =
    record { at = c.at; local = c.local; stands = there c.at c.local c.stands; again = c.again; drafted = c.drafted; carries = c.carries }

-- what becomes of it by this answer
abbrev IsKeptBy : Sets → Rows → OwnerRow → ChaCha → ℕ → LocalItem → RowBody → Answer → Rows → Type 0
IsKeptBy sets rows owner words number local latest given after =
    IsCarried sets owner.next number local latest after ⊎ ((latest ≡ row.Deleted) ⊎ IsAnswered sets rows owner words number local latest given)

answered_so : (sets : Sets) (rows : Rows) (owner : OwnerRow) (words : ChaCha) (conflicts : List Conflict) (cursor : Option Bytes)
    (retrieved saved : List Item) (token : Bytes) (number : ℕ) (local : LocalItem) (latest : RowBody) (end after : Rows)
    → ((n : ℕ) (l : LocalItem) → HasLocal end n l → HasLocal after n l)
    → IsKept sets saved owner.next number local latest (start rows owner words) (told_by saved conflicts retrieved) end
    → IsKeptBy sets rows owner words number local latest (answer.Sync conflicts cursor retrieved saved token) after
answered_so sets rows owner words conflicts cursor retrieved saved token number local latest end after there (inl c) =
    inl (moved sets owner.next number local latest end after there c)
answered_so sets rows owner words conflicts cursor retrieved saved token number local latest end after there (inr (inl gone)) = inr (inl gone)
answered_so sets rows owner words conflicts cursor retrieved saved token number local latest end after there (inr (inr found)) = inr (inr (record {
  met = found.at.rows;
  carried = found.carried;
  item = found.has.item;
  flag = found.has.flag;
  meets = record {
    front = found.front;
    entry = found.entry;
    later = found.later;
    split = found.split;
    at = found.at;
    taken = found.taken;
    rows_are = refl;
    is = found.has.is;
  };
  named = found.has.named;
  same = found.has.same;
}))

answer_keeps : (rows : Rows) (words left : ChaCha) (sent : List Item) (given : Answer) (changes : List Change) (owner : OwnerRow) (sets : Sets) (number : ℕ)
    (local : LocalItem) (latest : RowBody) → IsSoundDevice rows → HasSets rows owner sets → AppliesAnswer rows words sent given changes left
    → HasLocal rows number local → local.latest ≡ Some latest → IsKeptBy sets rows owner words number local latest given (rows_after rows changes)
answer_keeps rows words left sent (answer.Sync conflicts cursor retrieved saved token) changes owner sets number local latest device has s there drafted =
    let sets_are : s.sets ≡ sets = one_sets rows s.owner owner s.sets sets s.holds has in
    let owner_is : s.owner ≡ owner = one_owner rows s.owner owner s.holds.owned has.owned in
    let x = apply_parts rows words left sent conflicts cursor retrieved saved token changes s in
    let leads = applied_leads rows words left sent conflicts cursor retrieved saved token changes s in
    let begun : Progress = start rows s.owner words in
    let told = told_by saved conflicts retrieved in
    let first : Leads rows s.owner.next begun = record { rows_are = refl; of_items = All-nil IsOfItems; grown = omega arith } in
    let kept : IsKept s.sets saved s.owner.next number local latest begun told s.end.rows =
    all_versions s.sets saved s.owner.next number local latest rows begun told s.end (start_well rows s.owner s.sets device s.holds) first
    (all_checked sent saved conflicts retrieved cursor s.passes) s.taken (own_carried s.sets rows s.owner.next number local latest there drafted) in
    subst (λ (o : OwnerRow). IsKeptBy sets rows o words number local latest (answer.Sync conflicts cursor retrieved saved token) (rows_after rows changes))
    owner_is
    (subst (λ (z : Sets). IsKeptBy z rows s.owner words number local latest (answer.Sync conflicts cursor retrieved saved token) (rows_after rows changes))
    sets_are
    (answered_so s.sets rows s.owner words conflicts cursor retrieved saved token number local latest s.end.rows (rows_after rows changes)
    (λ n l found. item_kept rows changes x n l (ap (λ (r : Rows). r (key.Local n)) (sym leads.rows_are) ∙ found)) kept))
answer_keeps rows words left sent (answer.Account token identifier account) changes owner sets number local latest device has s there drafted = absurd s
answer_keeps rows words left sent (answer.Params params) changes owner sets number local latest device has s there drafted = absurd s
answer_keeps rows words left sent (answer.Refused status tag more) changes owner sets number local latest device has s there drafted = absurd s

pub draft_kept_by_answer : DraftKeptByAnswer
draft_kept_by_answer rows words left (request.Sync token items limit sync_token cursor_token) given changes owner sets number local latest device has s there
    drafted = answer_keeps rows words left items given changes owner sets number local latest device has s there drafted
draft_kept_by_answer rows words left (request.Register params pw) given changes owner sets number local latest device has s there drafted = absurd s
draft_kept_by_answer rows words left (request.Params identifier) given changes owner sets number local latest device has s there drafted = absurd s
draft_kept_by_answer rows words left (request.SignIn identifier pw) given changes owner sets number local latest device has s there drafted = absurd s
draft_kept_by_answer rows words left (request.ChangePw token current pw cost nonce) given changes owner sets number local latest device has s there drafted =
    absurd s

-- The items that are chosen to be sent, one after another.
use Rattle.std.specs.Borrow.{Bor}
use Rattle.std.specs.Prelude.{◌≡◌, ◌≢◌, ◌⊎◌, ◌+◌, ◌<◌, ◌≤◌, ◌^◌, ◌-◌, ℕ, suc, Bool, true, List, [], ◌∷◌, ◌++◌, length, min, sum_by, All, Option, Some, None, IfSome, IfNone, IsSome}
use Rattle.std.specs.List.{AllByRecursion, AllZip}
use Rattle.std.proofs.Common.{arith, inl, inr, refl, sym, ap, subst, ◌∙◌, append_assoc, length-append}
use Rattle.std.proofs.lemmas.List.Elements.{All-from_recursion}
use Rattle.std.proofs.lemmas.List.Sums.{sum_by-append}
use Rattle.std.proofs.lemmas.Slice.Zip.{AllZip-long}
use Rattle.sn_journal.specs.declared.owner.Owner.TheVariants.{Device as DeviceOwner}
use Rattle.sn_rows.specs.Kinds.{key_kind}
use Rattle.sn_rows.specs.Table.{Rows, rows_after}
use Rattle.sn_rows.specs.declared.body.RowBody.{RowBody}
use Rattle.sn_rows.specs.declared.change.Change.{Change}
use Rattle.sn_rows.specs.declared.device_rows.LocalItem.{LocalItem}
use Rattle.sn_rows.specs.declared.device_rows.OwnerRow.{OwnerRow}
use Rattle.sn_rows.specs.declared.key.Key.{Key}
use Rattle.sn_string.specs.Bounds.{most_bytes}
use Rattle.sn_sync.specs.declared.item.Item.{Item}
use Rattle.sn_sync.specs.declared.request.Request.{Request}
use Rattle.sn_table.specs.Batches.{IsOf, owner_of_kind}
use Rattle.sn_sending.specs.Chosen.{AreTaken, PostsNone, PostsOne, TakesOne, counted}
use Rattle.sn_local.specs.Index.{IsNextWaiting, NoneWaitsBehind}
use Rattle.sn_device.specs.Runs.{Sends}
use Rattle.sn_device.specs.Sending.{AreChosen, AreSentAs, AreUnsent, FitsSending, IsSentAs, IsSyncOf, IsUnsent, IsWaiting, NoneWaits, Numbered, Posts, PostsAll, first_some, most_sent, sent_of, weight_of}
use Rattle.sn_device.specs.States.{HasLocal, HasOwner, IsSoundItem, columns}
use Rattle.sn_sending.specs.declared.sending.Chosen.{Chosen}
use Rattle.sn_sending.proofs.WaitLemmas.{AreWaitingFrom, GoesOnBy, all_waiting, first_from, none_from, there_are}

-- ---- one item more

zip_push : {A B : Type 0} (R : A → B → Type 0) (xs : List A) (ys : List B) (x : A) (y : B) → AllZip R xs ys → R x y
    → AllZip R (xs ++ x ∷ []) (ys ++ y ∷ [])
zip_push R [] [] x y zip here = (here, tt)
zip_push R [] (b ∷ ys) x y zip here = absurd zip
zip_push R (a ∷ xs) [] x y zip here = absurd zip
zip_push R (a ∷ xs) (b ∷ ys) x y (first, later) here = (first, zip_push R xs ys x y later here)

unsent_more : (chosen : List Numbered) (w : Numbered) (numbers : List ℕ) → AreUnsent chosen numbers → IsUnsent w.1
    → AreUnsent (chosen ++ w ∷ []) (numbers ++ w.0 ∷ [])
unsent_more [] w numbers are unsent = inl (unsent, ([], ap (λ (l : List ℕ). l ++ w.0 ∷ []) are, refl))
unsent_more (v ∷ chosen) w numbers (inl (u, (later, is, rest))) unsent =
    inl (u, (later ++ w.0 ∷ [], ap (λ (l : List ℕ). l ++ w.0 ∷ []) is, unsent_more chosen w later rest unsent))
unsent_more (v ∷ chosen) w numbers (inr (not, rest)) unsent = inr (not, unsent_more chosen w numbers rest unsent)

sent_more : (chosen : List Numbered) (w : Numbered) (numbers : List ℕ) → AreUnsent chosen numbers → ¬ (IsUnsent w.1)
    → AreUnsent (chosen ++ w ∷ []) numbers
sent_more [] w numbers are sent = inr (sent, are)
sent_more (v ∷ chosen) w numbers (inl (u, (later, is, rest))) sent = inl (u, (later, is, sent_more chosen w later rest sent))
sent_more (v ∷ chosen) w numbers (inr (not, rest)) sent = inr (not, sent_more chosen w numbers rest sent)

abbrev weights : List Numbered → ℕ
weights chosen = sum_by (λ w. weight_of (sent_of w.1)) chosen

weights_more : (chosen : List Numbered) (w : Numbered) → weights (chosen ++ w ∷ []) ≡ weights chosen + weight_of (sent_of w.1)
weights_more chosen w =
    sum_by-append (λ (v : Numbered). weight_of (sent_of v.1)) chosen (w ∷ [])
    ∙ (let one : weights (w ∷ []) ≡ weight_of (sent_of w.1) = omega arith in ap (λ (n : ℕ). weights chosen + n) one)

weighed_more : (chosen : List Numbered) (w : Numbered) (before after : ℕ) → before ≡ counted (weights chosen)
    → after ≡ counted (before + weight_of (sent_of w.1)) → after ≡ counted (weights (chosen ++ w ∷ []))
weighed_more chosen w before after was is =
    let more : weights (chosen ++ w ∷ []) ≡ weights chosen + weight_of (sent_of w.1) = weights_more chosen w in
    omega arith

-- with an item more they are taken
pub taken_more : (rows : Rows) (chosen : List Numbered) (number : ℕ) (local : LocalItem) (before after : Chosen) → AreTaken rows chosen before
    → HasLocal rows number local → TakesOne number local before after → AreTaken rows (chosen ++ (number, local) ∷ []) after
taken_more rows chosen number local before after taken stands one =
    let sent : AreSentAs (chosen ++ (number, local) ∷ []) after.items.items =
    subst (λ (l : List Item). AreSentAs (chosen ++ (number, local) ∷ []) l) (sym one.items)
    (zip_push (λ (w : Numbered) (i : Item). IsSentAs w.1 i) chosen before.items.items (number, local) one.item taken.sent one.is_sent) in
    let weighed = weighed_more chosen (number, local) before.bytes after.bytes taken.weighed one.weighed in
    elim one.posts [
      | inl posts ↦ record {
        unsent = subst (λ (l : List ℕ). AreUnsent (chosen ++ (number, local) ∷ []) l) (sym posts.numbers)
            (unsent_more chosen (number, local) before.numbers.items taken.unsent posts.unsent);
        posted = subst (λ (l : List ℕ). PostsAll rows l after.changes.items) (sym posts.numbers)
            (subst (λ (l : List Change). PostsAll rows (before.numbers.items ++ number ∷ []) l) (sym posts.changes)
            (zip_push (Posts rows) before.numbers.items before.changes.items number posts.change taken.posted
            (record { local = local; stands = stands; unsent = posts.unsent; puts = posts.puts })));
        sent = sent;
        weighed = weighed;
      }
      | inr none ↦ record {
        unsent = subst (λ (l : List ℕ). AreUnsent (chosen ++ (number, local) ∷ []) l) (sym none.numbers)
            (sent_more chosen (number, local) before.numbers.items taken.unsent none.sent_before);
        posted = subst (λ (l : List ℕ). PostsAll rows l after.changes.items) (sym none.numbers)
            (subst (λ (l : List Change). PostsAll rows before.numbers.items l) (sym none.changes) taken.posted);
        sent = sent;
        weighed = weighed;
      }
    ]

posts_on : (number : ℕ) (local : LocalItem) (before middle after : Chosen) → PostsOne number local before middle ⊎ PostsNone local before middle
    → after.numbers.items ≡ middle.numbers.items → after.changes.items ≡ middle.changes.items
    → PostsOne number local before after ⊎ PostsNone local before after
posts_on number local before middle after (inl one) numbers changes =
    inl (record { unsent = one.unsent; change = one.change; puts = one.puts; numbers = numbers ∙ one.numbers; changes = changes ∙ one.changes })
posts_on number local before middle after (inr none) numbers changes =
    inr (record { sent_before = none.sent_before; numbers = numbers ∙ none.numbers; changes = changes ∙ none.changes })

-- an item is taken: posted or not, and then put behind the others
pub takes_one : (number : ℕ) (local : LocalItem) (before middle after : Chosen) (item : Item) → PostsOne number local before middle ⊎ PostsNone local before middle
    → middle.items.items ≡ before.items.items → middle.bytes ≡ before.bytes → IsSentAs local item
    → after.numbers.items ≡ middle.numbers.items → after.changes.items ≡ middle.changes.items → after.items.items ≡ middle.items.items ++ item ∷ []
    → after.bytes ≡ min (middle.bytes + counted (weight_of (sent_of local))) (2 ^ 64 - 1) → TakesOne number local before after
takes_one number local before middle after item posts items bytes sent numbers changes more weighed = record {
  posts = posts_on number local before middle after posts numbers changes;
  item = item;
  is_sent = sent;
  items = more ∙ ap (λ (l : List Item). l ++ item ∷ []) items;
  weighed = omega arith;
}

-- ---- from item to item

some_of : (posted latest body : Option RowBody) (base : Option ℕ) (stale : Bool) → IsSome latest ⊎ (stale ≡ true) → (stale ≡ true → IsSome base)
    → (IsSome base → IsSome body) → IsSome (first_some posted (first_some latest body))
some_of (Some version) latest body base stale waits again based = refl
some_of None (Some version) body base stale waits again based = refl
some_of None None body base stale waits again based = elim waits [ inl some ↦ absurd cc | inr is ↦ based (again is) ]

-- something is sent of an item that waits
pub is_sendable : (local : LocalItem) → IsSoundItem (columns local) → IsWaiting local → IsSome (sent_of local)
is_sendable local sound waits = some_of local.posted local.latest local.body local.base local.stale waits sound.again sound.based.0

-- the item that a step lends
abbrev pub lent_item : Option (ℕ × Bor LocalItem) → Option Numbered
lent_item None = None
lent_item (Some found) = Some (found.0, found.1.now)

-- nothing is left, or this item is the first of what is
abbrev pub BeginsBy : Rows → ℕ → List Numbered → Option Numbered → Type 0
BeginsBy rows top left None = left ≡ []
BeginsBy rows top left (Some found) = HasLocal rows found.0 found.1 × IsWaiting found.1 × GoesOnBy rows top left found

-- these were chosen, and this item is the next
pub record IsAt (rows : Rows) (top : ℕ) (next : Option Numbered) (taken : Chosen) : Type 0 where
  pub chosen : List Numbered
  pub left : List Numbered
  pub all : AreWaitingFrom rows 0 top (chosen ++ left)
  pub goes : BeginsBy rows top left next
  pub fits : FitsSending chosen ⊎ (length chosen ≡ 1)
  pub are : AreTaken rows chosen taken

abbrev pub AllBelow : Rows → ℕ → Type 0
AllBelow rows top = (n : ℕ) (local : LocalItem) → HasLocal rows n local → n < top

begins_first : (rows : Rows) (top : ℕ) (all : List Numbered) (next : Option (ℕ × Bor LocalItem)) → AllBelow rows top → AreWaitingFrom rows 0 top all
    → IfSome next (λ found. IsNextWaiting rows None (found.0, found.1.now)) → IfNone next (NoneWaits rows) → BeginsBy rows top all (lent_item next)
begins_first rows top all None below are some none = none_from rows 0 top all are (λ n local low has. none n local has)
begins_first rows top all (Some found) below are some none =
    let least : (n : ℕ) (local : LocalItem) → 0 ≤ n → HasLocal rows n local → IsWaiting local → found.0 ≤ n = λ n local low has waits. some.least n local tt has waits in (
      some.stands,
      some.waits,
      first_from rows 0 top top all (found.0, found.1.now) are (omega arith) (omega arith)
          (below found.0 found.1.now some.stands) some.stands some.waits least,
    )

pub at_first : (rows : Rows) (top : ℕ) (next : Option (ℕ × Bor LocalItem)) (taken : Chosen) → AllBelow rows top → AreTaken rows [] taken
    → IfSome next (λ found. IsNextWaiting rows None (found.0, found.1.now)) → IfNone next (NoneWaits rows) → IsAt rows top (lent_item next) taken
at_first rows top next taken below are some none =
    let all = there_are rows 0 top in
    record {
      chosen = [];
      left = all.0;
      all = all.1;
      goes = begins_first rows top all.0 next below all.1 some none;
      fits = inl (omega arith, omega arith);
      are = are;
    }

begins_next : (rows : Rows) (top number count : ℕ) (rest : List Numbered) (next : Option (ℕ × Bor LocalItem)) → AllBelow rows top
    → AreWaitingFrom rows (suc number) count rest → suc number + count ≡ top
    → IfSome next (λ found. IsNextWaiting rows (Some number) (found.0, found.1.now)) → IfNone next (NoneWaitsBehind rows (Some number))
    → BeginsBy rows top rest (lent_item next)
begins_next rows top number count rest None below are ends some none =
    none_from rows (suc number) count rest are (λ n local low has. none n local (omega arith) has)
begins_next rows top number count rest (Some found) below are ends some none =
    let later : number < found.0 = some.later in
    let least : (n : ℕ) (local : LocalItem) → suc number ≤ n → HasLocal rows n local → IsWaiting local → found.0 ≤ n =
    λ n local low has waits. some.least n local (omega arith) has waits in (
      some.stands,
      some.waits,
      first_from rows (suc number) count top rest (found.0, found.1.now) are ends (omega arith)
          (below found.0 found.1.now some.stands) some.stands some.waits least,
    )

-- there is room for an item more
abbrev pub HasRoom : Chosen → LocalItem → Type 0
HasRoom taken local = (length taken.items.items ≡ 0) ⊎ ((length taken.items.items < most_sent) × (taken.bytes + weight_of (sent_of local) ≤ most_bytes))

fits_more : (rows : Rows) (chosen : List Numbered) (number : ℕ) (local : LocalItem) (taken : Chosen) → AreTaken rows chosen taken → HasRoom taken local
    → FitsSending (chosen ++ (number, local) ∷ []) ⊎ (length (chosen ++ (number, local) ∷ []) ≡ 1)
fits_more rows chosen number local taken are room =
    let long : length taken.items.items ≡ length chosen = AllZip-long (λ (w : Numbered) (i : Item). IsSentAs w.1 i) chosen taken.items.items are.sent in
    let more : weights (chosen ++ (number, local) ∷ []) ≡ weights chosen + weight_of (sent_of local) = weights_more chosen (number, local) in
    let longer : length (chosen ++ (number, local) ∷ []) ≡ length chosen + 1 = length-append chosen ((number, local) ∷ []) in
    let weighed : taken.bytes ≡ counted (weights chosen) = are.weighed in
    elim room [
      | inl none ↦ inr (omega arith)
      | inr fits ↦ inl (omega (arith, fits.0), omega (arith, fits.1))
    ]

pub at_next : (rows : Rows) (top number : ℕ) (item : Bor LocalItem) (next : Option (ℕ × Bor LocalItem)) (taken after : Chosen) → AllBelow rows top
    → IsAt rows top (lent_item (Some (number, item))) taken → HasRoom taken item.now → TakesOne number item.now taken after
    → IfSome next (λ found. IsNextWaiting rows (Some number) (found.0, found.1.now)) → IfNone next (NoneWaitsBehind rows (Some number))
    → IsAt rows top (lent_item next) after
at_next rows top number item next taken after below at room one some none =
    let go = at.goes.2 in
    let moved : (at.chosen ++ (number, item.now) ∷ []) ++ go.0 ≡ at.chosen ++ at.left =
    append_assoc at.chosen ((number, item.now) ∷ []) go.0 ∙ ap (λ (l : List Numbered). at.chosen ++ l) (sym go.2) in
    record {
      chosen = at.chosen ++ (number, item.now) ∷ [];
      left = go.0;
      all = subst (λ (l : List Numbered). AreWaitingFrom rows 0 top l) (sym moved) at.all;
      goes = begins_next rows top number go.1 go.0 next below go.4 go.3 some none;
      fits = fits_more rows at.chosen number item.now taken at.are room;
      are = taken_more rows at.chosen number item.now taken after at.are at.goes.0 one;
    }

-- fewer items may still come
pub takes_less : (number : ℕ) (local : LocalItem) (before after : Chosen) → HasRoom before local → TakesOne number local before after
    → most_sent - length after.items.items < most_sent - length before.items.items
takes_less number local before after room one =
    let longer : length after.items.items ≡ length before.items.items + 1 =
    ap (λ (l : List Item). length l) one.items ∙ length-append before.items.items (one.item ∷ []) in
    elim room [ inl none ↦ omega arith | inr fits ↦ omega (arith, fits.0) ]

-- these are chosen
abbrev pub AreAllChosen : Rows → Chosen → Type 0
AreAllChosen rows taken = (chosen : List Numbered) × (later : List Numbered) × AreChosen rows chosen later × AreTaken rows chosen taken

pub ends_all : (rows : Rows) (top : ℕ) (taken : Chosen) → AllBelow rows top → IsAt rows top None taken → AreAllChosen rows taken
ends_all rows top taken below at = (
  at.chosen,
  at.left,
  record {
    all = all_waiting rows top (at.chosen ++ at.left) below at.all;
    fits = at.fits;
    longest = λ next others is. let none : at.left ≡ [] = at.goes in absurd cc;
  },
  at.are,
)

no_longer : (rows : Rows) (chosen : List Numbered) (found : Numbered) (taken : Chosen) → AreTaken rows chosen taken → ¬ (HasRoom taken found.1)
    → (chosen ≢ []) × ¬ (FitsSending (chosen ++ found ∷ []))
no_longer rows chosen found taken are full =
    let long : length taken.items.items ≡ length chosen = AllZip-long (λ (w : Numbered) (i : Item). IsSentAs w.1 i) chosen taken.items.items are.sent in
    let more : weights (chosen ++ found ∷ []) ≡ weights chosen + weight_of (sent_of found.1) = weights_more chosen found in
    let longer : length (chosen ++ found ∷ []) ≡ length chosen + 1 = length-append chosen (found ∷ []) in
    let weighed : taken.bytes ≡ counted (weights chosen) = are.weighed in (
      λ empty. let zero_long : length chosen ≡ 0 = ap (λ (l : List Numbered). length l) empty in full (inl (omega arith)),
      λ fits. let few : length (chosen ++ found ∷ []) ≤ most_sent = fits.0 in let light : weights (chosen ++ found ∷ []) ≤ most_bytes = fits.1 in
          full (inr (omega arith, omega arith)),
    )

pub ends_full : (rows : Rows) (top number : ℕ) (item : Bor LocalItem) (taken : Chosen) → AllBelow rows top
    → IsAt rows top (lent_item (Some (number, item))) taken → ¬ (HasRoom taken item.now) → AreAllChosen rows taken
ends_full rows top number item taken below at full =
    let go = at.goes.2 in
    let begins : at.left ≡ (number, item.now) ∷ go.0 = go.2 in (
      at.chosen,
      at.left,
      record {
        all = all_waiting rows top (at.chosen ++ at.left) below at.all;
        fits = at.fits;
        longest = λ next others is.
            let first : (number, item.now) ≡ next = cc in
            subst (λ (w : Numbered). (at.chosen ≢ []) × ¬ (FitsSending (at.chosen ++ w ∷ []))) first
            (no_longer rows at.chosen (number, item.now) taken at.are full);
      },
      at.are,
    )

-- ---- what is sent of them

pub sends_them : (rows : Rows) (account : OwnerRow) (taken : Chosen) (r : Request) → HasOwner rows account → AreAllChosen rows taken
    → ((chosen : List Numbered) → AreSentAs chosen taken.items.items → IsSyncOf account chosen r)
    → (ready : Rows) × Sends rows taken.numbers.items taken.changes.items r ready
sends_them rows account taken r owned (chosen, later, are, made) request = (
  rows_after rows taken.changes.items,
  record {
    owner = account;
    owned = owned;
    chosen = chosen;
    later = later;
    chosen_are = are;
    unsent = made.unsent;
    posts_them = made.posted;
    request_is = request chosen made.sent;
    ready_is = refl;
  },
)

posts_own : (rows : Rows) (numbers : List ℕ) (changes : List Change) → AllZip (Posts rows) numbers changes → AllByRecursion (IsOf DeviceOwner) changes
posts_own rows [] [] zip = tt
posts_own rows [] (c ∷ changes) zip = absurd zip
posts_own rows (n ∷ numbers) [] zip = absurd zip
posts_own rows (n ∷ numbers) (c ∷ changes) (posts, later) =
    (ap (λ (k : Key). owner_of_kind (key_kind k)) posts.puts.puts.key_is, posts_own rows numbers changes later)

-- the changes are of a device's rows
pub posts_owned : (rows : Rows) (taken : Chosen) → AreAllChosen rows taken → All (IsOf DeviceOwner) taken.changes.items
posts_owned rows taken (chosen, later, are, made) =
    All-from_recursion (IsOf DeviceOwner) taken.changes.items (posts_own rows taken.numbers.items taken.changes.items made.posted)

-- ---- whether something is left

pub left_some : (rows : Rows) (next : Option (ℕ × Bor LocalItem)) → IfSome next (λ found. IsNextWaiting rows None (found.0, found.1.now)) → IsSome next
    → (number : ℕ) × (local : LocalItem) × HasLocal rows number local × IsWaiting local
left_some rows None some is = absurd cc
left_some rows (Some found) some is = (found.0, found.1.now, some.stands, some.waits)

pub left_none : (rows : Rows) (next : Option (ℕ × Bor LocalItem)) → IfNone next (NoneWaits rows) → ¬ (IsSome next) → NoneWaits rows
left_none rows None none is = none
left_none rows (Some found) none is = absurd (is refl)

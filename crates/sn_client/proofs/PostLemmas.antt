-- Posting drafts: what that leaves of the items that are sent.
use Rattle.std.specs.List.{AllByRecursion, AllZip, Contains}
use Rattle.std.specs.Prelude.{◌==◌, IsSome}
use Rattle.std.proofs.Common.{arith, rules, ◌≡◌, ◌≢◌, ◌⊎◌, ℕ, true, false, length, List, [], ◌∷◌, Option, Some, None, refl, sym, ap, ◌∙◌, subst, inl, inr}
use Rattle.std.proofs.lemmas.List.{nil_from_length}
use Rattle.std.proofs.lemmas.List.Elements.{All-from_recursion, Contains-append_left, Contains-append_right, Contains-push}
use Rattle.sn_rows.specs.Facts.{put_here, put_or_not}
use Rattle.sn_rows.specs.Table.{Rows, rows_after}
use Rattle.sn_rows.specs.declared.body.RowBody.{RowBody}
use Rattle.sn_rows.specs.declared.change.Change.{Change}
use Rattle.sn_rows.specs.declared.device_rows.LocalItem.{LocalItem}
use Rattle.sn_rows.specs.declared.key.Key.TheVariants as key
use Rattle.sn_rows.specs.declared.value.Value.TheVariants as value
use Rattle.sn_sync.specs.declared.item.Item.{Item}
use Rattle.sn_sync.specs.declared.request.Request.{Request}
use Rattle.sn_device.specs.Runs.{IsBatch, Sends}
use Rattle.sn_device.specs.Sending.{IsSentAs, IsUnsent, Numbered, Posts, PostsAll, SaysBase, as_posted, first_some, sent_of}
use Rattle.sn_device.specs.States.{Columns, HasLocal, columns}
use Rattle.sn_client.specs.Syncing.{IsSyncFrom}
use Rattle.sn_device.proofs.Facts.{same_row}

-- ---- a row behind a posting

-- the row of this number is the same, or has what is sent of its draft
abbrev IsReady : Rows → ℕ → LocalItem → Type 0
IsReady r number local = (l : LocalItem) × HasLocal r number l
    × ((columns l ≡ columns local) ⊎ (IsUnsent local × (columns l ≡ as_posted (columns local))))

ready_one : (rows r : Rows) (at : ℕ) (c : Change) (p : Posts rows at c) (number : ℕ) (local : LocalItem) → HasLocal rows number local
    → IsReady r number local → ((key.Local at ≡ key.Local number) ⊎ (rows_after r (c ∷ []) (key.Local number) ≡ r (key.Local number)))
    → IsReady (rows_after r (c ∷ [])) number local
ready_one rows r at c p number local found ready (inl here) =
    let there : HasLocal rows number p.local = ap rows (sym here) ∙ p.stands in
    let is : p.local ≡ local = same_row rows number p.local local there found in (
      p.puts.local,
      ap (rows_after r (c ∷ [])) (sym here) ∙ put_here r c (key.Local at) (value.Local p.puts.local) p.puts.puts,
      inr (subst IsUnsent is p.unsent, p.puts.columns_are ∙ ap (λ (x : LocalItem). as_posted (columns x)) is),
    )
ready_one rows r at c p number local found (l, has, so) (inr past) = (l, past ∙ has, so)

ready_all : (rows r : Rows) (numbers : List ℕ) (changes : List Change) (number : ℕ) (local : LocalItem) → HasLocal rows number local
    → IsReady r number local → AllZip (Posts rows) numbers changes → IsReady (rows_after r changes) number local
ready_all rows r [] [] number local found ready all = ready
ready_all rows r [] (c ∷ changes) number local found ready all = absurd all
ready_all rows r (at ∷ numbers) [] number local found ready all = absurd all
ready_all rows r (at ∷ numbers) (c ∷ changes) number local found ready all =
    let p : Posts rows at c = all.0 in
    ready_all rows (rows_after r (c ∷ [])) numbers changes number local found
    (ready_one rows r at c p number local found ready (put_or_not r c (key.Local at) (value.Local p.puts.local) p.puts.puts (key.Local number))) all.1

-- ---- what is sent stays the same

sent_posted : (posted latest body : Option RowBody) → IsSome latest → posted ≡ None
    → first_some latest (first_some latest body) ≡ first_some posted (first_some latest body)
sent_posted None (Some version) body some none = refl
sent_posted None None body some none = absurd cc
sent_posted (Some version) latest body some none = absurd cc

abbrev sent_of_columns : Columns → Option RowBody
sent_of_columns c = first_some c.posted (first_some c.latest c.body)

sent_alike : (l local : LocalItem) → ((columns l ≡ columns local) ⊎ (IsUnsent local × (columns l ≡ as_posted (columns local))))
    → sent_of l ≡ sent_of local
sent_alike l local (inl same) = ap sent_of_columns same
sent_alike l local (inr (unsent, is)) = ap sent_of_columns is ∙ sent_posted local.posted local.latest local.body unsent.0 unsent.1

abbrev IsAlike : Columns → Columns → Type 0
IsAlike c d = (c.uuid ≡ d.uuid) × (c.kind ≡ d.kind) × (c.base ≡ d.base)

alike : (l local : LocalItem) → ((columns l ≡ columns local) ⊎ (IsUnsent local × (columns l ≡ as_posted (columns local))))
    → IsAlike (columns l) (columns local)
alike l local (inl same) = (ap (λ (c : Columns). c.uuid) same, ap (λ (c : Columns). c.kind) same, ap (λ (c : Columns). c.base) same)
alike l local (inr (unsent, is)) = (ap (λ (c : Columns). c.uuid) is, ap (λ (c : Columns). c.kind) is, ap (λ (c : Columns). c.base) is)

sent_ready : (l local : LocalItem) (i : Item) → ((columns l ≡ columns local) ⊎ (IsUnsent local × (columns l ≡ as_posted (columns local))))
    → IsSentAs local i → IsSentAs l i
sent_ready l local i so is =
    let same : IsAlike (columns l) (columns local) = alike l local so in
    record {
      uuid_is = is.uuid_is ∙ sym same.0;
      kind_is = is.kind_is ∙ sym same.1;
      created_is = is.created_is;
      replaces = subst (λ (b : Option ℕ). SaysBase b i.updated_at) (sym same.2) is.replaces;
      version = is.version;
      sent = sent_alike l local so ∙ is.sent;
      body_is = is.body_is;
    }

-- ---- the request's items

abbrev IsOfRow : Rows → Item → Type 0
IsOfRow rows i = (number : ℕ) × (local : LocalItem) × HasLocal rows number local × IsSentAs local i

of_ready : (rows : Rows) (numbers : List ℕ) (posted : List Change) (number : ℕ) (local : LocalItem) (i : Item) → PostsAll rows numbers posted
    → HasLocal rows number local → IsSentAs local i → IsOfRow (rows_after rows posted) i
of_ready rows numbers posted number local i all found is =
    let (l, has, so) = ready_all rows rows numbers posted number local found (local, found, inl refl) all in
    (number, l, has, sent_ready l local i so is)

abbrev AllStand : Rows → List Numbered → Type 0
AllStand rows chosen = (w : Numbered) → Contains chosen w → HasLocal rows w.0 w.1

stand_later : (rows : Rows) (w : Numbered) (chosen : List Numbered) → AllStand rows (w ∷ chosen) → AllStand rows chosen
stand_later rows w chosen all v in_it = all v (Contains-append_right (w ∷ []) chosen v in_it)

stand_first : (rows : Rows) (w : Numbered) (chosen : List Numbered) → AllStand rows (w ∷ chosen) → HasLocal rows w.0 w.1
stand_first rows w chosen all = all w (Contains-append_left (w ∷ []) chosen w (Contains-push [] w))

items_ready : (rows : Rows) (numbers : List ℕ) (posted : List Change) (chosen : List Numbered) (items : List Item) → PostsAll rows numbers posted
    → AllStand rows chosen → AllZip (λ (w : Numbered) (i : Item). IsSentAs w.1 i) chosen items
    → AllByRecursion (IsOfRow (rows_after rows posted)) items
items_ready rows numbers posted [] [] all stand zip = tt
items_ready rows numbers posted [] (i ∷ items) all stand zip = absurd zip
items_ready rows numbers posted (w ∷ chosen) [] all stand zip = absurd zip
items_ready rows numbers posted (w ∷ chosen) (i ∷ items) all stand (is, later) = (
  of_ready rows numbers posted w.0 w.1 i all (stand_first rows w chosen stand) is,
  items_ready rows numbers posted chosen items all (stand_later rows w chosen stand) later,
)

-- behind the posting the request is a sync of items that were sent of the rows
pub sync_from : (rows : Rows) (numbers : List ℕ) (posted : List Change) (r : Request) (ready : Rows) → Sends rows numbers posted r ready
    → IsSyncFrom (rows_after rows posted) r
sync_from rows numbers posted r ready sends = record {
  token = _;
  items = sends.request_is.items;
  limit = _;
  sync_token = _;
  cursor_token = _;
  is = sends.request_is.request_is;
  of_rows = All-from_recursion (IsOfRow (rows_after rows posted)) sends.request_is.items
      (items_ready rows numbers posted sends.chosen sends.request_is.items sends.posts_them
      (λ w in_it. ((sends.chosen_are.all.whole w.0 w.1).0 (Contains-append_left sends.chosen sends.later w in_it)).0) sends.request_is.items_are);
}

pub is_none : (n : ℕ) (xs : List ℕ) → true ≡ (n == 0) → n ≡ length xs → xs ≡ []
is_none n xs e long = let zero : n ≡ 0 = search (rules, e) in nil_from_length xs (omega arith)

pub is_some : (n : ℕ) (xs : List ℕ) → false ≡ (n == 0) → n ≡ length xs → xs ≢ []
is_some n xs e long none =
    let zero : n ≡ 0 = long ∙ ap (λ (l : List ℕ). length l) none in
    search (rules, e, zero)

-- nothing is posted where no number is given
pub none_posted : (rows : Rows) (numbers : List ℕ) (posted : List Change) → PostsAll rows numbers posted → numbers ≡ [] → posted ≡ []
none_posted rows [] [] all none = refl
none_posted rows [] (c ∷ posted) all none = absurd all
none_posted rows (number ∷ numbers) posted all none = absurd cc

pub none_fits : (rows : Rows) (numbers : List ℕ) (posted : List Change) → PostsAll rows numbers posted → numbers ≡ [] → IsBatch posted
none_fits rows numbers posted all none = let empty : IsBatch [] = omega arith in subst IsBatch (sym (none_posted rows numbers posted all none)) empty

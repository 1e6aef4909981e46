-- One exchange of a pull: what it asks for, and what its answer leaves.
use Rattle.std.proofs.Common.{◌≡◌, ◌⊎◌, ◌<◌, ◌≤◌, ℕ, true, false, List, [], ◌∷◌, ◌++◌, length, map, Option, Some, None, refl, sym, ap, ◌∙◌, subst, ⊎_elim, inl, inr, arith}
use Rattle.std.specs.Prelude.{IsSome}
use Rattle.std.specs.List.{AllZip, Contains}
use Rattle.std.proofs.lemmas.List.Elements.{All-nil}
use Rattle.std.proofs.lemmas.Bool.{cases_lt}
use Rattle.rand_chacha.specs.ChaCha.{ChaCha}
use Rattle.sn_account.specs.Pages.{AreGiven, Found, IsGreatest, IsPage}
use Rattle.sn_account.specs.Rule.{Rule}
use Rattle.sn_account.specs.Sessions.{IsSession}
use Rattle.sn_account.specs.Sound.{IsSound as IsSoundServer}
use Rattle.sn_account.specs.Syncs.{AreTokens, IsStampOf, above_of, is_first}
use Rattle.sn_device.specs.Asking.{Reply, lost, said, unheard}
use Rattle.sn_device.specs.Runs.{IsBatch, Sends}
use Rattle.sn_device.specs.Sending.{AreChosen, AreSentAs, AreUnsent, NoneWaits, Numbered, PostsAll}
use Rattle.sn_device.specs.States.{Bytes, HasLocal, HasOwner, IsInSlot, OwnerColumns, owner_columns, text_of_token, token_of}
use Rattle.sn_device.specs.Steps.{Applies, PutsOwner, Retires, start, with_tokens}
use Rattle.sn_device.specs.Taking.{Progress, TakesAll, is_retrieved}
use Rattle.sn_conflict.specs.Checks.{most_retrieved}
use Rattle.sn_pull.specs.Laws.{PagesAnswer}
use Rattle.sn_pull.specs.Pages.{IsPageAnswer}
use Rattle.sn_pull.specs.Pulls.{BeginsAbove, BeginsFirst, Has, IsOfAccount, IsPulled, IsTokenGiven}
use Rattle.sn_pull.specs.Serving.{IsServed}
use Rattle.sn_pull.proofs.CheckLemmas.{token_some}
use Rattle.sn_pull.proofs.ListLemmas.{at_head}
use Rattle.sn_pull.proofs.RowLemmas.{after_append, one_owner}
use Rattle.sn_pull.proofs.PageLemmas.{PageTells, page_tells}
use Rattle.sn_pull.proofs.SizeLemmas.{IsSmall, owner_small, page_fits}
use Rattle.sn_pull.proofs.TakeLemmas.{AllTook, Going, IsClean, IsTold, took_all}
use Rattle.sn_rows.specs.Facts.{put_apart, put_here}
use Rattle.sn_rows.specs.Table.{Rows, rows_after}
use Rattle.sn_rows.specs.declared.body.RowBody.{RowBody}
use Rattle.sn_rows.specs.declared.change.Change.{Change}
use Rattle.sn_rows.specs.declared.device_rows.LocalItem.{LocalItem}
use Rattle.sn_rows.specs.declared.device_rows.OwnerRow.{OwnerRow}
use Rattle.sn_rows.specs.declared.key.Key.TheVariants as key
use Rattle.sn_rows.specs.declared.key.Slot.{Slot}
use Rattle.sn_rows.specs.declared.key.Slot.TheVariants.{Older}
use Rattle.sn_rows.specs.declared.server_rows.ItemRow.{ItemRow}
use Rattle.sn_rows.specs.declared.server_rows.StoreRow.{StoreRow}
use Rattle.sn_rows.specs.declared.value.Value.TheVariants as value
use Rattle.sn_string.specs.declared.params.KeySet.{KeySet}
use Rattle.sn_sync.specs.Laws.{HasOneStamp, HasOneToken}
use Rattle.sn_sync.specs.Tokens.{IsToken}
use Rattle.sn_sync.specs.declared.answer.Answer.{Answer}
use Rattle.sn_sync.specs.declared.answer.Answer.TheVariants as answer
use Rattle.sn_sync.specs.declared.item.Item.{Item}
use Rattle.sn_sync.specs.declared.request.Request.{Request}
use Rattle.sn_sync.specs.declared.request.Request.TheVariants as request

-- ---- between two pages

-- columns with the tokens of a sync and the next local number of a row
abbrev pub with_own : OwnerRow → OwnerColumns → OwnerColumns
with_own owner c = record c { sync_token = owner.sync_token; cursor_token = owner.cursor_token; next = owner.next }

-- the page that it asks for: above a stamp up to which it has what the account has
pub record Asks (server rows : Rows) (n : ℕ) (owner : OwnerRow) : Type 0 where
  pub from : Option ℕ
  pub cursor : Option ℕ
  pub from_is : IsStampOf (token_of owner.sync_token) from
  pub cursor_is : IsStampOf (token_of owner.cursor_token) cursor
  pub of_account : (number : ℕ) (local : LocalItem) → HasLocal rows number local → IsOfAccount server n local
  pub pulled : (uuid : Bytes) (version : ItemRow) → Has server n uuid version
      → (version.updated ≤ above_of from cursor) ⊎ ((version.deleted ≡ true) × (is_first from cursor ≡ true)) → IsPulled rows uuid version

module _ (server rows : Rows) (n : ℕ) (owner : OwnerRow) where
  asks_first : IsSoundServer server → BeginsFirst rows owner → Asks server rows n owner
  asks_first sound b = record {
    from = None;
    cursor = None;
    from_is = subst (λ (text : Bytes). IsStampOf (token_of text) None) (sym b.no_token) refl;
    cursor_is = subst (λ (text : Bytes). IsStampOf (token_of text) None) (sym b.no_cursor) refl;
    of_account = λ number local has. absurd (b.no_items number local has);
    pulled = λ uuid version has which. ⊎_elim
        (λ (low : version.updated ≤ 0). absurd (let item = sound.items uuid version has.0 in let a = item.first in let l = item.later in omega arith))
        (λ gone. inl (gone.0, λ m l h. b.no_items m l h.0)) which;
  }

  module _ (b : BeginsAbove server rows n owner) where
    some_from : IsStampOf (token_of owner.sync_token) (Some b.stamp)
    some_from = subst (λ (o : Option Bytes). IsStampOf o (Some b.stamp)) (sym (token_some owner.sync_token b.stamp b.token_is)) b.token_is

    asks_from : (cursor : Option ℕ) → IsStampOf (token_of owner.cursor_token) cursor → above_of (Some b.stamp) cursor ≡ b.stamp
        → is_first (Some b.stamp) cursor ≡ false → Asks server rows n owner
    asks_from cursor cursor_is above later = record {
      from = Some b.stamp;
      cursor = cursor;
      from_is = some_from;
      cursor_is = cursor_is;
      of_account = b.of_account;
      pulled = λ uuid version has which. ⊎_elim
          (λ (low : version.updated ≤ above_of (Some b.stamp) cursor). b.pulled uuid version has (omega arith))
          (λ gone. (let e = sym later ∙ gone.1 in absurd cc)) which;
    }

    asks_above : (owner.cursor_token ≡ []) ⊎ (owner.cursor_token ≡ owner.sync_token) → Asks server rows n owner
    asks_above (inl none) = asks_from None (subst (λ (text : Bytes). IsStampOf (token_of text) None) (sym none) refl) refl refl
    asks_above (inr same) =
        asks_from (Some b.stamp) (subst (λ (text : Bytes). IsStampOf (token_of text) (Some b.stamp)) (sym same) some_from) refl refl

  pub asks_of : IsSoundServer server → BeginsFirst rows owner ⊎ BeginsAbove server rows n owner → Asks server rows n owner
  asks_of sound (inl b) = asks_first sound b
  asks_of sound (inr b) = asks_above b b.cursor_is

-- where a device stands that had this own row and these rows before its first page
pub record Stands (server first : Rows) (n : ℕ) (before : OwnerRow) (rows : Rows) : Type 0 where
  pub owner : OwnerRow
  pub owned : HasOwner rows owner
  pub columns_are : owner_columns owner ≡ with_own owner (owner_columns before)
  pub rises : before.next ≤ owner.next
  pub sets_stay : (slot : Slot) → rows (key.Set slot) ≡ first (key.Set slot)
  pub numbered : (number : ℕ) (local : LocalItem) → HasLocal rows number local → number < owner.next
  pub apart : (number other : ℕ) (local twin : LocalItem) → HasLocal rows number local → HasLocal rows other twin → local.uuid ≡ twin.uuid → number ≡ other
  pub clean : (number : ℕ) (local : LocalItem) → HasLocal rows number local → IsClean local
  pub begins : BeginsFirst rows owner ⊎ BeginsAbove server rows n owner
  pub asks : Asks server rows n owner
  pub given : IsTokenGiven server before → IsTokenGiven server owner

-- the last page was given
pub record Finished (server : Rows) (n : ℕ) (rows : Rows) (owner : OwnerRow) : Type 0 where
  pub no_cursor : owner.cursor_token ≡ []
  pub stamp : ℕ
  pub token_is : IsToken owner.sync_token stamp
  pub greatest : IsGreatest server n stamp
  pub pulled : (uuid : Bytes) (version : ItemRow) → Has server n uuid version → IsPulled rows uuid version

abbrev pub IsFinished : Rows → ℕ → Rows → Type 0
IsFinished server n rows = (owner : OwnerRow) × HasOwner rows owner × Finished server n rows owner

-- the answer to a pull's request
pub record IsPageOfSync (given : Answer) (cursor : Option Bytes) : Type 0 where
  pub retrieved : List Item
  pub token : Bytes
  pub is : given ≡ answer.Sync [] cursor retrieved [] token

-- columns of equal parts
pub with_parts : (c : OwnerColumns) (a b x y : Bytes) (m j : ℕ) → a ≡ b → x ≡ y → m ≡ j
    → record c { sync_token = a; cursor_token = x; next = m } ≡ record c { sync_token = b; cursor_token = y; next = j }
with_parts c a b x y m j tokens cursors numbers =
    ap (λ (t : Bytes). record c { sync_token = t; cursor_token = x; next = m }) tokens
    ∙ ap (λ (t : Bytes). record c { sync_token = b; cursor_token = t; next = m }) cursors
    ∙ ap (λ (t : ℕ). record c { sync_token = b; cursor_token = y; next = t }) numbers

no_some : (o : Option RowBody) → o ≡ None → IsSome o → ⊥
no_some None e some = cc
no_some (Some b) e some = cc

-- ---- what is sent: nothing

none_chosen : (rows : Rows) (chosen later : List Numbered) → NoneWaits rows → AreChosen rows chosen later → chosen ≡ []
none_chosen rows [] later none are = refl
none_chosen rows (w ∷ chosen) later none are =
    let waits = (are.all.whole w.0 w.1).0 (at_head w (chosen ++ later)) in
    absurd (none w.0 w.1 waits.0 waits.1)

none_unsent : (chosen : List Numbered) (numbers : List ℕ) → chosen ≡ [] → AreUnsent chosen numbers → numbers ≡ []
none_unsent chosen numbers e unsent = subst (λ (c : List Numbered). AreUnsent c numbers) e unsent

none_posted : (rows : Rows) (numbers : List ℕ) (posted : List Change) → numbers ≡ [] → PostsAll rows numbers posted → posted ≡ []
none_posted rows [] [] e posts = refl
none_posted rows [] (c ∷ posted) e posts = absurd posts
none_posted rows (k ∷ numbers) posted e posts = absurd cc

none_sent : (chosen : List Numbered) (items : List Item) → chosen ≡ [] → AreSentAs chosen items → items ≡ []
none_sent [] [] e sent = refl
none_sent [] (i ∷ items) e sent = absurd sent
none_sent (w ∷ chosen) items e sent = absurd cc

-- a request of a device without anything to send
pub record AsksPage (rows : Rows) (owner : OwnerRow) (numbers : List ℕ) (posted : List Change) (r : Request) (ready : Rows) : Type 0 where
  pub no_numbers : numbers ≡ []
  pub no_changes : posted ≡ []
  pub request_is : r ≡ request.Sync owner.token [] most_retrieved (token_of owner.sync_token) (token_of owner.cursor_token)
  pub ready_is : ready ≡ rows

pub asks_page : (rows : Rows) (owner : OwnerRow) (numbers : List ℕ) (posted : List Change) (r : Request) (ready : Rows) → NoneWaits rows
    → HasOwner rows owner → Sends rows numbers posted r ready → AsksPage rows owner numbers posted r ready
asks_page rows owner numbers posted r ready none owned s =
    let chosen : s.chosen ≡ [] = none_chosen rows s.chosen s.later none s.chosen_are in
    let unsent : numbers ≡ [] = none_unsent s.chosen numbers chosen s.unsent in
    let changes : posted ≡ [] = none_posted rows numbers posted unsent s.posts_them in
    let items : s.request_is.items ≡ [] = none_sent s.chosen s.request_is.items chosen s.request_is.items_are in
    let same : s.owner ≡ owner = one_owner rows s.owner owner s.owned owned in
    record {
      no_numbers = unsent;
      no_changes = changes;
      request_is = s.request_is.request_is
          ∙ ap (λ (is : List Item). request.Sync s.owner.token is most_retrieved (token_of s.owner.sync_token) (token_of s.owner.cursor_token)) items
          ∙ ap (λ (o : OwnerRow). request.Sync o.token [] most_retrieved (token_of o.sync_token) (token_of o.cursor_token)) same;
      ready_is = s.ready_is ∙ ap (rows_after rows) changes;
    }

-- ---- the laws of the crates below, the server and the account

pub record Known (server first : Rows) (n : ℕ) (before : OwnerRow) : Type 0 where
  pub stamps : HasOneStamp
  pub tokens : HasOneToken
  pub answers : PagesAnswer
  pub sound : IsSoundServer server
  pub session : IsSession server before.token n
  pub account : length before.account ≡ 16
  pub no_older : first (key.Set Older) ≡ None

pub older_none : (rows : Rows) (identifier : Bytes) (o : Option KeySet) → rows (key.Set Older) ≡ None → IsInSlot rows identifier Older o → o ≡ None
older_none rows identifier None none is = refl
older_none rows identifier (Some set) none is = absurd (let has = is.1 in cc)

module _ (server first : Rows) (n : ℕ) (before : OwnerRow) (k : Known server first n before) where
  abbrev At : Rows → Type 0
  At rows = Stands server first n before rows

  pub none_waits : (rows : Rows) → At rows → NoneWaits rows
  none_waits rows st number local has (inl some) = absurd (no_some local.latest (st.clean number local has).0 some)
  none_waits rows st number local has (inr stale) = (let not = (st.clean number local has).2 in absurd cc)

  same_token : (rows : Rows) → (st : At rows) → IsSession server st.owner.token n
  same_token rows st =
      subst (λ (t : Bytes). IsSession server t n) (sym (ap (λ (c : OwnerColumns). c.token) st.columns_are)) k.session

  -- ---- a request and its answer

  -- the page that a device asks for comes back, or bytes that aren't read, or nothing
  abbrev pub Comes : (rows : Rows) → At rows → Reply → Type 0
  Comes rows st reply = ((given : Answer) × (reply ≡ said given)
      × IsPageAnswer server n (above_of st.asks.from st.asks.cursor) (is_first st.asks.from st.asks.cursor) most_retrieved given)
      ⊎ ((reply ≡ unheard) ⊎ (reply ≡ lost))

  -- the server's rows stay
  pub served_page : (rows : Rows) → (st : At rows) → (r : Request) (reply : Reply) (after : Rows)
      → r ≡ request.Sync st.owner.token [] most_retrieved (token_of st.owner.sync_token) (token_of st.owner.cursor_token) → IsServed server r reply after
      → (after ≡ server) × Comes rows st reply
  served_page rows st r reply after is (inr (none, same)) = (same, inr (inr none))
  served_page rows st r reply after is (inl s) =
      let rule = subst (λ (q : Request). Rule server q s.now s.changes s.given) is s.rule in
      let page = k.answers server st.owner.token n most_retrieved (token_of st.owner.sync_token) (token_of st.owner.cursor_token) st.asks.from st.asks.cursor s.now
      s.changes s.given k.sound (same_token rows st) st.asks.from_is st.asks.cursor_is rule in
      (s.after_is ∙ ap (rows_after server) page.0, ⊎_elim (λ same. inl (s.given, same, page.1)) (λ none. inr none) s.comes)

  -- ---- what an answer leaves

  pub page_told : (page : List Found) (retrieved : List Item) → AreGiven page retrieved → AllZip IsTold page (map is_retrieved retrieved)
  page_told [] [] given = tt
  page_told [] (i ∷ retrieved) given = absurd given
  page_told (f ∷ page) [] given = absurd given
  page_told (f ∷ page) (i ∷ retrieved) given = ((i, refl, given.0), page_told page retrieved given.1)

  module _ (rows : Rows) (st : At rows) (words : ChaCha) where
    pub going_first : Going server rows n st.owner.next words (start rows st.owner words)
    going_first = record {
      numbered = st.numbered;
      apart = st.apart;
      clean = st.clean;
      of_account = st.asks.of_account;
      rows_are = refl;
      others = λ at beside. refl;
      small = All-nil IsSmall;
      rises = omega arith;
      words_are = refl;
    }

    -- the commit of a page
    pub record Commits (cursor : Option Bytes) (token : Bytes) (changes : List Change) (left : ChaCha) (page : List Found) : Type 0 where
      pub end : Progress
      pub took : AllTook server rows n st.owner.next words (start rows st.owner words) end page
      pub counted : Change
      pub counted_is : PutsOwner counted (with_tokens end.next token cursor (owner_columns st.owner))
      pub changes_are : changes ≡ end.changes ++ counted ∷ []
      pub left_is : left ≡ words

    module _ (page rest : List Found) (retrieved : List Item) (cursor : Option Bytes) (token : Bytes)
        (is_page : IsPage server n (above_of st.asks.from st.asks.cursor) (is_first st.asks.from st.asks.cursor) most_retrieved page rest) (given : AreGiven page retrieved)
        (tokens : AreTokens server n page rest cursor token) where
      pub tells : PageTells server n (above_of st.asks.from st.asks.cursor) (is_first st.asks.from st.asks.cursor) page cursor token
      tells = page_tells server n (above_of st.asks.from st.asks.cursor) (is_first st.asks.from st.asks.cursor) most_retrieved page rest cursor token is_page tokens

      pub of_page : (f : Found) → Contains page f → Has server n f.0 f.1 × (length f.0 ≡ 16)
      of_page f among = let has = tells.own f among in (has, (k.sound.named f.0 f.1 has.0).0)

      pub commits_page : (changes : List Change) (left : ChaCha) → Applies rows words [] [] cursor retrieved [] token changes left
          → Commits cursor token changes left page
      commits_page changes left a =
          let same : a.owner ≡ st.owner = one_owner rows a.owner st.owner a.holds.owned st.owned in
          let alone : a.sets.older ≡ None = older_none rows a.owner.identifier a.sets.older (st.sets_stay Older ∙ k.no_older) a.holds.before in
          let taken : TakesAll a.sets [] (start rows st.owner words) (map is_retrieved retrieved) a.end =
          subst (λ (o : OwnerRow). TakesAll a.sets [] (start rows o words) (map is_retrieved retrieved) a.end) same a.taken in
          let took = took_all k.stamps server rows n st.owner.next words a.sets alone page (map is_retrieved retrieved) (start rows st.owner words) a.end of_page
          (page_told page retrieved given) going_first taken in
          let retired : a.retired ≡ [] = subst (λ (o : Option KeySet). Retires a.end.rows cursor o a.retired) alone a.retires in
          record {
            end = a.end;
            took = took;
            counted = a.counted;
            counted_is = subst (λ (o : OwnerRow). PutsOwner a.counted (with_tokens a.end.next token cursor (owner_columns o))) same a.counted_is;
            changes_are = a.changes_are ∙ ap (λ (cs : List Change). a.end.changes ++ a.counted ∷ cs) retired;
            left_is = a.left_is ∙ took.going.words_are;
          }

      -- it is no longer than a batch
      pub commits_fit : (changes : List Change) (left : ChaCha) → Commits cursor token changes left page → IsBatch changes
      commits_fit changes left c =
          let account : length st.owner.account ≡ 16 = ap (λ (o : OwnerColumns). length o.account) st.columns_are ∙ k.account in
          let own = owner_small c.counted (with_tokens c.end.next token cursor (owner_columns st.owner)) c.counted_is account in
          let few : length c.end.changes ≤ 150 = (let more = c.took.more in
          let size : length page ≤ 150 = ⊎_elim (λ fits. fits.0) (λ (one : length page ≡ 1). omega arith) is_page.fits in omega arith) in
          subst IsBatch (sym c.changes_are) (page_fits c.end.changes c.counted c.took.going.small few own)

      module _ (changes : List Change) (left : ChaCha) (c : Commits cursor token changes left page) where
        abbrev behind : Rows
        behind = rows_after rows changes

        behind_is : behind ≡ rows_after c.end.rows (c.counted ∷ [])
        behind_is = ap (rows_after rows) c.changes_are ∙ after_append rows c.end.changes (c.counted ∷ [])
            ∙ ap (λ (r : Rows). rows_after r (c.counted ∷ [])) (sym c.took.going.rows_are)

        local_same : (m : ℕ) → behind (key.Local m) ≡ c.end.rows (key.Local m)
        local_same m = ap (λ (r : Rows). r (key.Local m)) behind_is
            ∙ put_apart c.end.rows c.counted key.Owner (key.Local m) (value.Owner c.counted_is.owner) c.counted_is.puts_it refl

        back : (m : ℕ) (l : LocalItem) → HasLocal behind m l → HasLocal c.end.rows m l
        back m l h = sym (local_same m) ∙ h

        forth : (uuid : Bytes) (version : ItemRow) → IsPulled c.end.rows uuid version → IsPulled behind uuid version
        forth uuid version (inl (gone, free)) = inl (gone, λ m l h. free m l (back m l h.0, h.1))
        forth uuid version (inr (m, l, item, stands)) = inr (m, l, (local_same m ∙ item.0, item.1), stands)

        abbrev owner_then : OwnerRow
        owner_then = c.counted_is.owner

        token_then : owner_then.sync_token ≡ token
        token_then = ap (λ (o : OwnerColumns). o.sync_token) c.counted_is.columns_are

        cursor_then : owner_then.cursor_token ≡ text_of_token cursor
        cursor_then = ap (λ (o : OwnerColumns). o.cursor_token) c.counted_is.columns_are

        next_then : owner_then.next ≡ c.end.next
        next_then = ap (λ (o : OwnerColumns). o.next) c.counted_is.columns_are

        -- what is above the stamp before and not above the page's is told
        pulled_then : (uuid : Bytes) (version : ItemRow) → Has server n uuid version → version.updated ≤ tells.stamp → IsPulled behind uuid version
        pulled_then uuid version has upto =
            forth uuid version (c.took.kept uuid version has (⊎_elim
            (λ (over : above_of st.asks.from st.asks.cursor < version.updated). ⊎_elim (λ among. inr among) (λ gone. inl (st.asks.pulled uuid version has (inr gone)))
            (tells.told uuid version has over upto))
            (λ (old : version.updated ≤ above_of st.asks.from st.asks.cursor). inl (st.asks.pulled uuid version has (inl old)))
            (cases_lt (above_of st.asks.from st.asks.cursor) version.updated)))

        cursor_so : (cursor ≡ None) ⊎ (cursor ≡ Some token) → (owner_then.cursor_token ≡ []) ⊎ (owner_then.cursor_token ≡ owner_then.sync_token)
        cursor_so (inl none) = inl (cursor_then ∙ ap text_of_token none)
        cursor_so (inr some) = inr (cursor_then ∙ ap text_of_token some ∙ sym token_then)

        begins_then : BeginsAbove server behind n owner_then
        begins_then = record {
          stamp = tells.stamp;
          token_is = subst (λ (text : Bytes). IsToken text tells.stamp) (sym token_then) tells.token_is;
          cursor_is = cursor_so tells.cursor_is;
          pulled = pulled_then;
          of_account = λ m l h. c.took.going.of_account m l (back m l h);
        }

        owned_then : HasOwner behind owner_then
        owned_then = ap (λ (r : Rows). r key.Owner) behind_is ∙ put_here c.end.rows c.counted key.Owner (value.Owner owner_then) c.counted_is.puts_it

        given_then : IsTokenGiven server owner_then
        given_then store stamp has token_is =
            let one : stamp ≡ tells.stamp =
            k.tokens token stamp tells.stamp (subst (λ (text : Bytes). IsToken text stamp) token_then token_is) tells.token_is in
            let same : k.sound.store ≡ store = (let here = k.sound.stands in cc) in
            let last : k.sound.store.last ≡ store.last = ap (λ (s : StoreRow). s.last) same in
            ⊎_elim
            (λ (zero : tells.stamp ≡ 0). omega arith)
            (λ (at : (u : Bytes) × (v : ItemRow) × Has server n u v × (v.updated ≡ tells.stamp)).
            (let below = (k.sound.items at.0 at.1 at.2.0).given in let is = at.3 in omega arith)) tells.reached

        pub stands_then : At behind
        stands_then =
            let set_beside = λ (slot : Slot). ap (λ (r : Rows). r (key.Set slot)) behind_is
            ∙ put_apart c.end.rows c.counted key.Owner (key.Set slot) (value.Owner owner_then) c.counted_is.puts_it refl
            ∙ c.took.going.others (key.Set slot) (λ e. cc) in
            record {
              owner = owner_then;
              owned = owned_then;
              columns_are = columns_then;
              rises = (let a = st.rises in let b = c.took.going.rises in omega (arith, a, b, next_then));
              sets_stay = λ slot. set_beside slot ∙ st.sets_stay slot;
              numbered = λ m l h. (let less = c.took.going.numbered m l (back m l h) in omega (arith, less, next_then));
              apart = λ m j l i h g same. c.took.going.apart m j l i (back m l h) (back j i g) same;
              clean = λ m l h. c.took.going.clean m l (back m l h);
              begins = inr begins_then;
              asks = asks_of server behind n owner_then k.sound (inr begins_then);
              given = λ before_given. given_then;
            }
          where
            columns_then : owner_columns owner_then ≡ with_own owner_then (owner_columns before)
            columns_then =
                let was : with_tokens c.end.next token cursor (owner_columns st.owner) ≡ with_tokens c.end.next token cursor (owner_columns before) =
                ap (with_tokens c.end.next token cursor) st.columns_are in
                let now : with_tokens c.end.next token cursor (owner_columns before) ≡ with_own owner_then (owner_columns before) =
                with_parts (owner_columns before) token owner_then.sync_token (text_of_token cursor) owner_then.cursor_token c.end.next owner_then.next
                (sym token_then) (sym cursor_then) (sym next_then) in
                c.counted_is.columns_are ∙ was ∙ now

        pub finished_then : cursor ≡ None → IsFinished server n behind
        finished_then none =
            let greatest = tells.greatest none in (
              owner_then,
              owned_then,
              record {
                no_cursor = cursor_then ∙ ap text_of_token none;
                stamp = tells.stamp;
                token_is = subst (λ (text : Bytes). IsToken text tells.stamp) (sym token_then) tells.token_is;
                greatest = greatest;
                pulled = λ uuid version has. pulled_then uuid version has (greatest.0 uuid version has.0 has.1);
              },
            )

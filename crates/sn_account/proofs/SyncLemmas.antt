-- A sync that is served.
use Rattle.std.proofs.Common.{◌≡◌, ◌≢◌, ◌∙◌, ℕ, ◌≤◌, List, [], ◌∷◌, ◌++◌, length, Bool, true, false, Option, Some, None, Result, Ok, Err, IfNone, IfOk, IfSome, inl, inr, refl, sym, ap, subst, arith}
use Rattle.std.specs.Prelude.{◌↔◌, if◌then◌else◌}
use Rattle.std.proofs.lemmas.Bool.{false_from_ne_true}
use Rattle.sn_rows.specs.Facts.{put_here, put_or_not}
use Rattle.sn_rows.specs.Table.{Rows, rows_after}
use Rattle.sn_rows.specs.declared.change.Change.{Change}
use Rattle.sn_rows.specs.declared.key.Key.TheVariants as key
use Rattle.sn_rows.specs.declared.server_rows.ItemRow.{ItemRow}
use Rattle.sn_rows.specs.declared.server_rows.StoreRow.{StoreRow}
use Rattle.sn_rows.specs.declared.value.Value.TheVariants as value
use Rattle.sn_string.specs.declared.params.Params.{Params}
use Rattle.sn_sync.specs.Laws.{FitsAnswer, FitsRequest}
use Rattle.sn_sync.specs.Requests.{route_of}
use Rattle.sn_sync.specs.Tokens.{IsToken}
use Rattle.sn_sync.specs.declared.answer.Answer.{Answer}
use Rattle.sn_sync.specs.declared.item.Item.{Item}
use Rattle.sn_sync.specs.declared.request.Request.{Request}
use Rattle.sn_account.specs.Incoming.{PutsVersion, Progress, Takes, TakesAll, stamp_of}
use Rattle.sn_account.specs.Lookups.{Bytes, HasItem, HasStore}
use Rattle.sn_account.specs.Pages.{Found, IsGreatest, IsLastOf, IsPageOf}
use Rattle.sn_account.specs.Replies.{IsReply, greatest_after}
use Rattle.sn_account.specs.Rules.{IsPresent}
use Rattle.sn_account.specs.Sound.{IsSound}
use Rattle.sn_account.specs.Rule.{Rule, RuleOf}
use Rattle.sn_account.specs.RuleLaws.{ActsFor, SparesAccount, status_of}
use Rattle.sn_account.specs.Sessions.{IsSession}
use Rattle.sn_account.specs.Syncs.{AreTokens, IsStampOf, NoneLong, Serves, ServesBounded, Syncs, above_of, is_first, most_items, start}
use Rattle.sn_account.specs.Taking.{progress}
use Rattle.sn_account.specs.declared.accounts.Ruled.{Ruled}
use Rattle.sn_account.specs.declared.page.Page.{Page}
use Rattle.sn_account.specs.declared.taken.Taken.{Taken}
use Rattle.sn_account.proofs.RuleFits.{answers_fit}
use Rattle.sn_account.proofs.RuleSound.{stays_sound}
use Rattle.sn_account.proofs.RuleSpares.{spares_every_other}

-- the store's row is one
pub same_store : (rows : Rows) (a b : StoreRow) → HasStore rows a → HasStore rows b → a ≡ b
same_store rows a b has had = let both : Some (value.Store a) ≡ Some (value.Store b) = sym has ∙ had in cc

-- ---- the greatest stamp

-- no item has a stamp past the last; where something was changed, an item of the account has that one
pub record Grown (rows : Rows) (n : ℕ) (p : Progress) : Type 0 where
  pub upper : (u : Bytes) (i : ItemRow) → HasItem p.rows u i → i.updated ≤ p.last
  pub unchanged : p.changes ≡ [] → p.rows ≡ rows
  pub reached : p.changes ≢ [] → (u : Bytes) × (i : ItemRow) × HasItem p.rows u i × (i.account ≡ n) × (i.updated ≡ p.last)

pub grown_first : (rows : Rows) (store : StoreRow) (n : ℕ) → IsSound rows → HasStore rows store → Grown rows n (start rows store)
grown_first rows store n sound has =
    let same : sound.store ≡ store = same_store rows sound.store store sound.stands has in
    let last : sound.store.last ≡ store.last = ap (λ (s : StoreRow). s.last) same in
    record {
      upper = λ u i item. (let given = (sound.items u i item).given in omega arith);
      unchanged = λ none. refl;
      reached = λ some. absurd (some refl);
    }

-- the same rows, stamp and changes
grown_kept : (rows : Rows) (n : ℕ) (p q : Progress) → q.rows ≡ p.rows → q.last ≡ p.last → q.changes ≡ p.changes → Grown rows n p → Grown rows n q
grown_kept rows n p q same last changes g = record {
  upper = λ u i item. (let low = g.upper u i (sym (ap (λ (r : Rows). r (key.Item u)) same) ∙ item) in omega arith);
  unchanged = λ none. same ∙ g.unchanged (sym changes ∙ none);
  reached = λ some. (let at = g.reached (λ none. some (changes ∙ none)) in
      (at.0, at.1, ap (λ (r : Rows). r (key.Item at.0)) same ∙ at.2, at.3, at.4 ∙ sym last));
}

some_more : (changes : List Change) (change : Change) → changes ++ change ∷ [] ≢ []
some_more [] change none = cc
some_more (c ∷ changes) change none = cc

grown_upper : (n now : ℕ) (p q : Progress) (i : Item) (row : ItemRow) (change : Change) → PutsVersion p n (stamp_of now p.last) i row change
    → q.rows ≡ rows_after p.rows (change ∷ []) → q.last ≡ stamp_of now p.last
    → ((u : Bytes) (j : ItemRow) → HasItem p.rows u j → j.updated ≤ p.last) → (u : Bytes) (j : ItemRow) → HasItem q.rows u j → j.updated ≤ q.last
grown_upper n now p q i row change puts same last upper u j item =
    let now_is : rows_after p.rows (change ∷ []) (key.Item u) ≡ Some (value.Item j) = sym (ap (λ (r : Rows). r (key.Item u)) same) ∙ item in
    elim (put_or_not p.rows change (key.Item i.uuid) (value.Item row) puts.puts (key.Item u)) [
      | inl here ↦ (let own : rows_after p.rows (change ∷ []) (key.Item u) ≡ Some (value.Item row)
          = ap (rows_after p.rows (change ∷ [])) (sym here) ∙ put_here p.rows change (key.Item i.uuid) (value.Item row) puts.puts in
          let row_is : row ≡ j = (let both : Some (value.Item row) ≡ Some (value.Item j) = sym own ∙ now_is in cc) in
          let stamp : row.updated ≡ j.updated = ap (λ (r : ItemRow). r.updated) row_is in
          let at = puts.updated in omega arith)
      | inr there ↦ (let low = upper u j (sym there ∙ now_is) in omega arith)
    ]

grown_new : (rows : Rows) (n now : ℕ) (p q : Progress) (i : Item) (row : ItemRow) (change : Change) → PutsVersion p n (stamp_of now p.last) i row change
    → q.rows ≡ rows_after p.rows (change ∷ []) → q.last ≡ stamp_of now p.last → q.changes ≡ p.changes ++ change ∷ [] → Grown rows n p → Grown rows n q
grown_new rows n now p q i row change puts same last changes g = record {
  upper = λ u j item. grown_upper n now p q i row change puts same last (g.upper) u j item;
  unchanged = λ none. absurd (some_more p.changes change (sym changes ∙ none));
  reached = λ some. (
    i.uuid,
    row,
    ap (λ (r : Rows). r (key.Item i.uuid)) same ∙ put_here p.rows change (key.Item i.uuid) (value.Item row) puts.puts,
    puts.account,
    puts.updated ∙ sym last,
  );
}

-- q is p with other answers
same_as : (rows : Rows) (n : ℕ) (p q r : Progress) → q ≡ r → r.rows ≡ p.rows → r.last ≡ p.last → r.changes ≡ p.changes → Grown rows n p → Grown rows n q
same_as rows n p q r is same last changes g = subst (λ (x : Progress). Grown rows n x) (sym is) (grown_kept rows n p r same last changes g)

grown_takes : (rows : Rows) (present : Params) (now n : ℕ) (p q : Progress) (i : Item) → Takes present now n p i q → Grown rows n p → Grown rows n q
grown_takes rows present now n p q i (inl t) g = same_as rows n p q _ t.1 refl refl refl g
grown_takes rows present now n p q i (inr (inl t)) g = same_as rows n p q _ t.5 refl refl refl g
grown_takes rows present now n p q i (inr (inr (inl t))) g = same_as rows n p q _ t.6 refl refl refl g
grown_takes rows present now n p q i (inr (inr (inr (inl t)))) g = same_as rows n p q _ t.2 refl refl refl g
grown_takes rows present now n p q i (inr (inr (inr (inr t)))) g =
    subst (λ (x : Progress). Grown rows n x) (sym t.2.5) (grown_new rows n now p _ i t.2.0 t.2.1 t.2.3 refl refl refl g)

pub grown_all : (rows : Rows) (present : Params) (now n : ℕ) (p q : Progress) (items : List Item) → TakesAll present now n p items q → Grown rows n p → Grown rows n q
grown_all rows present now n p q [] is g = subst (λ (x : Progress). Grown rows n x) (sym is) g
grown_all rows present now n p q (i ∷ is) (inl t) g = subst (λ (x : Progress). Grown rows n x) (sym t.1) g
grown_all rows present now n p q (i ∷ is) (inr t) g =
    grown_all rows present now n t.1.0 q is t.1.2 (grown_takes rows present now n p t.1.0 i t.1.1 g)

greatest_of : (rows : Rows) (n g : ℕ) (q : Progress) (changes : List Change) → q.changes ≡ changes → Grown rows n q → IsGreatest rows n g
    → IsGreatest q.rows n (greatest_after changes g q.last)
greatest_of rows n g q [] is grown greatest = subst (λ (r : Rows). IsGreatest r n g) (sym (grown.unchanged is)) greatest
greatest_of rows n g q (c ∷ cs) is grown greatest =
    let at = grown.reached (λ none. (let e = sym is ∙ none in cc)) in
    (λ u i item own. grown.upper u i item, inr at)

-- the account's greatest stamp after the items
greatest_then : (rows : Rows) (store : StoreRow) (present : Params) (now n g : ℕ) (items : List Item) (q : Progress) → IsSound rows → HasStore rows store
    → TakesAll present now n (start rows store) items q → IsGreatest rows n g → IsGreatest q.rows n (greatest_after q.changes g q.last)
greatest_then rows store present now n g items q sound has taken greatest =
    greatest_of rows n g q q.changes refl (grown_all rows present now n (start rows store) q items taken (grown_first rows store n sound has)) greatest

-- ---- the answer

tokens_of : (after : Rows) (n : ℕ) (page left : List Found) (p : Page) (before last : ℕ) (changes : List Change) (cursor : Option Bytes) (token : Bytes)
    → ((p.more ≡ true) ↔ (left ≢ [])) → (p.more ≡ true → IsLastOf page p.last) → IsGreatest after n (greatest_after changes before last)
    → IsToken token (if p.more then p.last else greatest_after changes before last) → cursor ≡ (if p.more then Some token else None)
    → AreTokens after n page left cursor token
tokens_of after n page [] p before last changes cursor token more last_is greatest told cursor_is =
    let none : p.more ≡ false = false_from_ne_true p.more (λ t. more.0 t refl) in (
      cursor_is ∙ ap (λ (b : Bool). if b then Some token else None) none,
      (greatest_after changes before last, greatest, subst (IsToken token) (ap (λ (b : Bool). if b then p.last else greatest_after changes before last) none) told),
    )
tokens_of after n page (f ∷ left) p before last changes cursor token more last_is greatest told cursor_is =
    let some : p.more ≡ true = more.1 (λ none. cc) in (
      cursor_is ∙ ap (λ (b : Bool). if b then Some token else None) some,
      (p.last, last_is some, subst (IsToken token) (ap (λ (b : Bool). if b then p.last else greatest_after changes before last) some) told),
    )

serves : (rows : Rows) (store : StoreRow) (n : ℕ) (present : Params) (items : List Item) (limit : ℕ) (sync cursor : Option ℕ) (now : ℕ) (t : Taken) (p : Page)
    (r : Ruled) → IsSound rows → HasStore rows store → IsPresent rows n present → TakesAll present now n (start rows store) items (progress rows t)
    → IsPageOf rows n (above_of sync cursor) (is_first sync cursor) limit p → IsReply store t p r
    → Serves rows store n items limit sync cursor now r.changes r.answer
serves rows store n present items limit sync cursor now t p r sound has is taken page reply = (
  present,
  is,
  inr (record {
    page = page.page;
    left = page.left;
    is_page = page.is;
    retrieved = p.items;
    retrieved_are = page.items;
    end = progress rows t;
    taken = taken;
    changes_are = reply.changes;
    cursor_token = reply.cursor_token;
    sync_token = reply.sync_token;
    tokens = tokens_of (rows_after rows t.changes) n page.page page.left p p.greatest t.last t.changes reply.cursor_token reply.sync_token page.more page.last
        (greatest_then rows store present now n p.greatest items (progress rows t) sound has taken page.greatest) reply.token reply.cursor;
    answers = reply.answers;
  }),
)

pub serves_ok : {E : Type 0} (rows : Rows) (store : StoreRow) (n : ℕ) (present : Params) (items : List Item) (limit : ℕ) (sync cursor : Option ℕ) (now : ℕ)
    (t : Taken) (p : Page) (outcome : Result Ruled E) → IsSound rows → HasStore rows store → IsPresent rows n present
    → TakesAll present now n (start rows store) items (progress rows t)
    → IsPageOf rows n (above_of sync cursor) (is_first sync cursor) limit p → IfOk outcome (IsReply store t p)
    → IfOk outcome (λ r. Serves rows store n items limit sync cursor now r.changes r.answer)
serves_ok rows store n present items limit sync cursor now t p (Ok r) sound has is taken page reply =
    serves rows store n present items limit sync cursor now t p r sound has is taken page reply
serves_ok rows store n present items limit sync cursor now t p (Err e) sound has is taken page reply = tt

-- what is found is as said, and what is said of nothing
pub some_found : {A E : Type 0} (r : Result (Option A) E) (P Q : A → Type 0) → ((a : A) → P a → Q a) → IfOk r (λ found. IfSome found P) → IfOk r (λ found. IfSome found Q)
some_found (Ok (Some a)) P Q f h = f a h
some_found (Ok None) P Q f h = h
some_found (Err e) P Q f h = h

pub none_found : {A E : Type 0} (r : Result (Option A) E) (P Q : Type 0) → (P → Q) → IfOk r (λ found. IfNone found P) → IfOk r (λ found. IfNone found Q)
none_found (Ok (Some a)) P Q f h = h
none_found (Ok None) P Q f h = f h
none_found (Err e) P Q f h = h

-- ---- the order of refusals

pub bounded_ok : {E : Type 0} (rows : Rows) (store : StoreRow) (n : ℕ) (items : List Item) (limit : ℕ) (sync cursor : Option ℕ) (now : ℕ)
    (outcome : Result Ruled E) → length items ≤ most_items → NoneLong items
    → IfOk outcome (λ r. Serves rows store n items limit sync cursor now r.changes r.answer)
    → IfOk outcome (λ r. ServesBounded rows store n items limit sync cursor now r.changes r.answer)
bounded_ok rows store n items limit sync cursor now (Ok r) few short serves = inr (inr (few, short, serves))
bounded_ok rows store n items limit sync cursor now (Err e) few short serves = tt

pub syncs_ok : {E : Type 0} (rows : Rows) (store : StoreRow) (token : Bytes) (n : ℕ) (items : List Item) (limit : ℕ) (sync_token cursor_token : Option Bytes)
    (sync cursor : Option ℕ) (now : ℕ) (outcome : Result Ruled E) → IsSession rows token n → IsStampOf sync_token sync → IsStampOf cursor_token cursor
    → IfOk outcome (λ r. ServesBounded rows store n items limit sync cursor now r.changes r.answer)
    → IfOk outcome (λ r. Syncs rows store token items limit sync_token cursor_token now r.changes r.answer)
syncs_ok rows store token n items limit sync_token cursor_token sync cursor now (Ok r) session is at serves =
    inr (n, session, inr (inr (sync, cursor, is, at, serves)))
syncs_ok rows store token n items limit sync_token cursor_token sync cursor now (Err e) session is at serves = tt

-- ---- every route

pub rule_at : (rows : Rows) (store : StoreRow) (request other : Request) (now : ℕ) (changes : List Change) (given : Answer) → HasStore rows store
    → request ≡ other → RuleOf rows store other now changes given → Rule rows request now changes given
rule_at rows store request other now changes given has is rule =
    subst (λ (r : Request). Rule rows r now changes given) (sym is) (store, has, rule)

pub rule_ok : {E : Type 0} (rows : Rows) (store : StoreRow) (request other : Request) (now : ℕ) (outcome : Result Ruled E) → HasStore rows store
    → request ≡ other → IfOk outcome (λ r. RuleOf rows store other now r.changes r.answer)
    → IfOk outcome (λ r. Rule rows request now r.changes r.answer)
rule_ok rows store request other now (Ok r) has is rule = rule_at rows store request other now r.changes r.answer has is rule
rule_ok rows store request other now (Err e) has is rule = tt

-- sound rows stay sound
pub sound_ok : {E : Type 0} (rows : Rows) (request : Request) (now : ℕ) (outcome : Result Ruled E) → IsSound rows → FitsRequest request
    → IfOk outcome (λ r. Rule rows request now r.changes r.answer) → IfOk outcome (λ r. IsSound (rows_after rows r.changes))
sound_ok rows request now (Ok r) sound fits rule = stays_sound rows request now r.changes r.answer sound fits rule
sound_ok rows request now (Err e) sound fits rule = tt

-- every account that the request doesn't act for is as it was
pub spares_ok : {E : Type 0} (rows : Rows) (request : Request) (now : ℕ) (outcome : Result Ruled E) → IsSound rows → FitsRequest request
    → IfOk outcome (λ r. Rule rows request now r.changes r.answer)
    → IfOk outcome (λ r. (m : ℕ) → ((n : ℕ) → ActsFor rows request n → m ≢ n) → SparesAccount rows (rows_after rows r.changes) m)
spares_ok rows request now (Ok r) sound fits rule = λ m other. spares_every_other rows request now r.changes r.answer sound fits rule m other
spares_ok rows request now (Err e) sound fits rule = tt

-- what is answered by the rule is within the bounds of an answer
pub within_ok : {E : Type 0} (rows : Rows) (request : Request) (now : ℕ) (outcome : Result Ruled E) → IsSound rows → FitsRequest request
    → IfOk outcome (λ r. Rule rows request now r.changes r.answer) → IfOk outcome (λ r. FitsAnswer (route_of request) (status_of r.answer) r.answer)
within_ok rows request now (Ok r) sound fits rule = answers_fit rows request now r.changes r.answer sound fits rule
within_ok rows request now (Err e) sound fits rule = tt

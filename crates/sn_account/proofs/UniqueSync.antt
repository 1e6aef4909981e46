-- A sync has one answer, and changes the rows in one way.
use Rattle.std.proofs.Common.{◌≡◌, ◌⊎◌, ℕ, List, [], ◌∷◌, ◌++◌, length, Option, Some, None, All, codes, refl, sym, ap, ◌∙◌, subst, inl, inr, arith}
use Rattle.std.proofs.lemmas.List.Elements.{All-head, All-tail}
use Rattle.sn_rows.specs.Table.{Rows}
use Rattle.sn_rows.specs.declared.change.Change.{Change}
use Rattle.sn_rows.specs.declared.key.Key.TheVariants as key
use Rattle.sn_rows.specs.declared.server_rows.AccountRow.{AccountRow}
use Rattle.sn_rows.specs.declared.server_rows.GenerationRow.{GenerationRow}
use Rattle.sn_rows.specs.declared.server_rows.StoreRow.{StoreRow}
use Rattle.sn_rows.specs.declared.value.Value.TheVariants as value
use Rattle.sn_string.proofs.Facts.{same_params}
use Rattle.sn_string.specs.declared.params.Params.{Params}
use Rattle.sn_sync.proofs.Facts.{one_token}
use Rattle.sn_sync.specs.declared.answer.Answer.{Answer}
use Rattle.sn_sync.specs.declared.answer.Answer.TheVariants as answer
use Rattle.sn_sync.specs.declared.answer.More.{More}
use Rattle.sn_sync.specs.declared.answer.More.TheVariants as more
use Rattle.sn_sync.specs.declared.item.Item.{Item}
use Rattle.sn_account.specs.Incoming.{Progress, RunsOut}
use Rattle.sn_account.specs.Lookups.{Bytes, HasGeneration}
use Rattle.sn_account.specs.Pages.{AreGiven, Found}
use Rattle.sn_account.specs.Rules.{IsPresent, Refuses}
use Rattle.sn_account.specs.Sound.{IsSound}
use Rattle.sn_account.specs.Syncs.{AreChanges, AreShort, AreTokens, IsFirstLong, IsFirstLongIn, IsShort, IsStampOf, NoneLong, Serves, ServesBounded, ServesFrom, Synced, Syncs, start, strings_in}
use Rattle.sn_account.proofs.NamedLemmas.{one_account}
use Rattle.sn_account.proofs.SessionTokens as session
use Rattle.sn_account.proofs.UniqueItems.{one_end, out_or_all}
use Rattle.sn_account.proofs.UniquePages.{one_page, one_pair, one_retrieved}
use Rattle.sn_account.proofs.UniqueRows.{one_put, store_same}

-- the same is changed and answered
abbrev pub Same : List Change → Answer → List Change → Answer → Type 0
Same changes given others other = (changes ≡ others) × (given ≡ other)

-- two refusals that say the same
pub refused_same : (status : ℕ) (tag : Bytes) (further also : More) (changes others : List Change) (given other : Answer) → further ≡ also
    → Refuses status tag further changes given → Refuses status tag also others other → Same changes given others other
refused_same status tag further also changes others given other same a b =
    (a.0 ∙ sym b.0, a.1 ∙ ap (λ (m : More). answer.Refused status tag m) same ∙ sym b.1)

-- an account has one set of present parameters
pub one_present : (rows : Rows) (n : ℕ) (p q : Params) → IsPresent rows n p → IsPresent rows n q → p ≡ q
one_present rows n p q a b =
    let accounts : a.account ≡ b.account = one_account rows n a.account b.account a.there b.there in
    let first : HasGeneration rows n a.account.generation a.generation = a.stands in
    let second : HasGeneration rows n b.account.generation b.generation = b.stands in
    let numbers : a.account.generation ≡ b.account.generation = ap (λ (x : AccountRow). x.generation) accounts in
    let generations : a.generation ≡ b.generation = one_of n a.account.generation b.account.generation a.generation b.generation numbers first second in
    same_params p q (a.identifier ∙ ap (λ (x : AccountRow). x.identifier) accounts ∙ sym b.identifier) (a.cost ∙ ap (λ (x : GenerationRow). x.pw_cost) generations ∙ sym b.cost)
    (a.nonce ∙ ap (λ (x : GenerationRow). x.pw_nonce) generations ∙ sym b.nonce)
  where
    one_of : (n g h : ℕ) (r s : GenerationRow) → g ≡ h → HasGeneration rows n g r → HasGeneration rows n h s → r ≡ s
    one_of n g h r s e has had = cc

-- ---- the first string that is too long

-- the first element that isn't so
first_unlike : {A : Type 0} (Q : A → Type 0) (front others : List A) (a b : A) (left later : List A) → front ++ a ∷ left ≡ others ++ b ∷ later
    → All Q front → All Q others → ¬ (Q a) → ¬ (Q b) → a ≡ b
first_unlike Q [] [] a b left later e before earlier off away = cc
first_unlike Q [] (y ∷ others) a b left later e before earlier off away = absurd (off (subst Q (sym (let f : a ≡ y = cc in f)) (All-head Q y others earlier)))
first_unlike Q (x ∷ front) [] a b left later e before earlier off away = absurd (away (subst Q (let f : x ≡ b = cc in f) (All-head Q x front before)))
first_unlike Q (x ∷ front) (y ∷ others) a b left later e before earlier off away =
    first_unlike Q front others a b left later (cc) (All-tail Q x front before) (All-tail Q y others earlier) off away

one_long_in : (strings : List Bytes) (a b : ℕ) → IsFirstLongIn strings a → IsFirstLongIn strings b → a ≡ b
one_long_in strings a b x y =
    let off : ¬ (IsShort x.long) = (λ (short : IsShort x.long). let past = x.past in absurd (omega arith)) in
    let away : ¬ (IsShort y.long) = (λ (short : IsShort y.long). let past = y.past in absurd (omega arith)) in
    let same : x.long ≡ y.long = first_unlike IsShort x.short y.short x.long y.long x.others y.others (sym x.split ∙ y.split) x.before y.before off away in
    x.size_is ∙ ap length same ∙ sym y.size_is

-- strings of which one is too long aren't all short
not_all_short : (strings : List Bytes) (size : ℕ) → IsFirstLongIn strings size → ¬ (AreShort strings)
not_all_short strings size x short =
    let whole : All IsShort (x.short ++ x.long ∷ x.others) = subst (λ (l : List Bytes). All IsShort l) x.split short in
    let one : IsShort x.long = at_long x.short x.long x.others whole in
    let past = x.past in absurd (omega arith)
  where
    at_long : (front : List Bytes) (long : Bytes) (others : List Bytes) → All IsShort (front ++ long ∷ others) → IsShort long
    at_long [] long others all = All-head IsShort long others all
    at_long (s ∷ front) long others all = at_long front long others (All-tail IsShort s (front ++ long ∷ others) all)

one_long : (items : List Item) (uuid other : Bytes) (size also : ℕ) → IsFirstLong items uuid size → IsFirstLong items other also → (uuid ≡ other) × (size ≡ also)
one_long items uuid other size also x y =
    let Short : Item → Type 0 = λ i. AreShort (strings_in i.body) in
    let off : ¬ (Short x.item) = not_all_short (strings_in x.item.body) size x.long in
    let away : ¬ (Short y.item) = not_all_short (strings_in y.item.body) also y.long in
    let same : x.item ≡ y.item = first_unlike Short x.front y.front x.item y.item x.later y.later (sym x.split ∙ y.split) x.before y.before off away in
    let long : IsFirstLongIn (strings_in y.item.body) size = subst (λ (i : Item). IsFirstLongIn (strings_in i.body) size) same x.long in
    (x.uuid_is ∙ ap (λ (i : Item). i.uuid) same ∙ sym y.uuid_is, one_long_in (strings_in y.item.body) size also long y.long)

none_or_first : (items : List Item) (uuid : Bytes) (size : ℕ) → IsFirstLong items uuid size → NoneLong items → ⊥
none_or_first items uuid size x none =
    let Short : Item → Type 0 = λ i. AreShort (strings_in i.body) in
    not_all_short (strings_in x.item.body) size x.long
    (at_item x.front x.item x.later (subst (λ (is : List Item). NoneLong is) x.split none))
  where
    at_item : (front : List Item) (item : Item) (later : List Item) → NoneLong (front ++ item ∷ later) → AreShort (strings_in item.body)
    at_item [] item later all = All-head (λ (i : Item). AreShort (strings_in i.body)) item later all
    at_item (i ∷ front) item later all = at_item front item later (All-tail (λ (j : Item). AreShort (strings_in j.body)) i (front ++ item ∷ later) all)

-- ---- what is changed

one_change_list : (store : StoreRow) (made : List Change) (last : ℕ) (changes others : List Change) → AreChanges store made last changes
    → AreChanges store made last others → changes ≡ others
one_change_list store made last changes others (inl (none, e)) (inl (too, f)) = e ∙ sym f
one_change_list store made last changes others (inl (none, e)) (inr (some, f)) = absurd (some none)
one_change_list store made last changes others (inr (some, e)) (inl (none, f)) = absurd (some none)
one_change_list store made last changes others (inr (some, (end, row, puts, secret, accounts, last_is, e))) (inr (too, (also, other, put, hidden, counted, is, f))) =
    let rows : row ≡ other = store_same row other (secret ∙ sym hidden) (last_is ∙ sym is) (accounts ∙ sym counted) in
    let ends : end ≡ also = one_put end also key.Store (value.Store row) (value.Store other) (ap value.Store rows) puts put in
    e ∙ ap (λ (c : Change). made ++ c ∷ []) ends ∙ sym f

-- ---- a sync that is served

module _ (rows : Rows) (store : StoreRow) (n : ℕ) (items : List Item) (limit : ℕ) (now : ℕ) (changes others : List Change) (given other : Answer) where
  synced_same : (present : Params) (sync cursor : Option ℕ) → Synced rows store n present items limit sync cursor now changes given
      → Synced rows store n present items limit sync cursor now others other → Same changes given others other
  synced_same present sync cursor a b =
      let ends : a.end ≡ b.end = one_end present now n (start rows store) items a.end b.end a.taken b.taken in
      let pages : (a.page ≡ b.page) × (a.left ≡ b.left) = one_page rows n _ _ limit a.page a.left b.page b.left a.is_page b.is_page in
      let gives : a.retrieved ≡ b.retrieved = one_retrieved b.page a.retrieved b.retrieved
      (subst (λ (p : List Found). AreGiven p a.retrieved) pages.0 a.retrieved_are) b.retrieved_are in
      let own : AreTokens b.end.rows n a.page a.left a.cursor_token a.sync_token =
      subst (λ (q : Progress). AreTokens q.rows n a.page a.left a.cursor_token a.sync_token) ends a.tokens in
      let at_page : AreTokens b.end.rows n b.page a.left a.cursor_token a.sync_token =
      subst (λ (p : List Found). AreTokens b.end.rows n p a.left a.cursor_token a.sync_token) pages.0 own in
      let at_left : AreTokens b.end.rows n b.page b.left a.cursor_token a.sync_token =
      subst (λ (l : List Found). AreTokens b.end.rows n b.page l a.cursor_token a.sync_token) pages.1 at_page in
      let tokens : (a.cursor_token ≡ b.cursor_token) × (a.sync_token ≡ b.sync_token) =
      one_pair b.end.rows n b.page b.left a.cursor_token b.cursor_token a.sync_token b.sync_token at_left b.tokens in
      let made : AreChanges store b.end.changes b.end.last changes =
      subst (λ (q : Progress). AreChanges store q.changes q.last changes) ends a.changes_are in
      let conflicts : a.end.conflicts ≡ b.end.conflicts = ap (λ (q : Progress). q.conflicts) ends in
      let saved : a.end.saved ≡ b.end.saved = ap (λ (q : Progress). q.saved) ends in
      let cursors : a.cursor_token ≡ b.cursor_token = tokens.0 in
      let nexts : a.sync_token ≡ b.sync_token = tokens.1 in
      let answers : answer.Sync a.end.conflicts a.cursor_token a.retrieved a.end.saved a.sync_token
      ≡ answer.Sync b.end.conflicts b.cursor_token b.retrieved b.end.saved b.sync_token = cc in
      (one_change_list store b.end.changes b.end.last changes others made b.changes_are, a.answers ∙ answers ∙ sym b.answers)

  served_same : (present : Params) (sync cursor : Option ℕ)
      → (RunsOut present now n (start rows store) items × Refuses 409 (codes "stamps-used") (more.Number store.last) changes given)
      ⊎ Synced rows store n present items limit sync cursor now changes given
      → (RunsOut present now n (start rows store) items × Refuses 409 (codes "stamps-used") (more.Number store.last) others other)
      ⊎ Synced rows store n present items limit sync cursor now others other
      → Same changes given others other
  served_same present sync cursor (inl (out, r)) (inl (too, s)) = refused_same 409 _ _ _ changes others given other refl r s
  served_same present sync cursor (inl (out, r)) (inr b) = absurd (out_or_all present now n (start rows store) items b.end out b.taken)
  served_same present sync cursor (inr a) (inl (out, s)) = absurd (out_or_all present now n (start rows store) items a.end out a.taken)
  served_same present sync cursor (inr a) (inr b) = synced_same present sync cursor a b

  serves_same : (sync cursor : Option ℕ) → Serves rows store n items limit sync cursor now changes given
      → Serves rows store n items limit sync cursor now others other → Same changes given others other
  serves_same sync cursor (present, is, a) (also, too, b) =
      let same : also ≡ present = one_present rows n also present too is in
      served_same present sync cursor a
      (subst (λ (p : Params). (RunsOut p now n (start rows store) items × Refuses 409 (codes "stamps-used") (more.Number store.last) others other)
      ⊎ Synced rows store n p items limit sync cursor now others other) same b)

  bounded_same : (sync cursor : Option ℕ) → ServesBounded rows store n items limit sync cursor now changes given
      → ServesBounded rows store n items limit sync cursor now others other → Same changes given others other
  bounded_same sync cursor (inl (wide, r)) (inl (too, s)) = refused_same 413 _ _ _ changes others given other refl r s
  bounded_same sync cursor (inl (wide, r)) (inr (inl (few, uuid, size, long, s))) = absurd (omega arith)
  bounded_same sync cursor (inl (wide, r)) (inr (inr (few, none, b))) = absurd (omega arith)
  bounded_same sync cursor (inr (inl (few, uuid, size, long, r))) (inl (wide, s)) = absurd (omega arith)
  bounded_same sync cursor (inr (inl (few, uuid, size, long, r))) (inr (inl (too, also, other_size, first, s))) =
      let one : (uuid ≡ also) × (size ≡ other_size) = one_long items uuid also size other_size long first in
      let uuids : uuid ≡ also = one.0 in
      let sizes : size ≡ other_size = one.1 in
      let same : more.Both size uuid ≡ more.Both other_size also = cc in
      refused_same 413 _ _ _ changes others given other same r s
  bounded_same sync cursor (inr (inl (few, uuid, size, long, r))) (inr (inr (too, none, b))) = absurd (none_or_first items uuid size long none)
  bounded_same sync cursor (inr (inr (few, none, a))) (inl (wide, s)) = absurd (omega arith)
  bounded_same sync cursor (inr (inr (few, none, a))) (inr (inl (too, uuid, size, long, s))) = absurd (none_or_first items uuid size long none)
  bounded_same sync cursor (inr (inr (few, none, a))) (inr (inr (too, also, b))) = serves_same sync cursor a b

-- ---- tokens

one_stamp_of : (given : Option Bytes) (a b : Option ℕ) → IsStampOf given a → IsStampOf given b → a ≡ b
one_stamp_of None a b x y = x ∙ sym y
one_stamp_of (Some text) None b x y = absurd x
one_stamp_of (Some text) (Some s) None x y = absurd y
one_stamp_of (Some text) (Some s) (Some t) x y = ap Some (one_token text s t x y)

module _ (rows : Rows) (store : StoreRow) (items : List Item) (limit : ℕ) (sync_token cursor_token : Option Bytes) (now : ℕ) (changes others : List Change)
    (given other : Answer) where
  from_same : (n : ℕ) → ServesFrom rows store n items limit sync_token cursor_token now changes given
      → ServesFrom rows store n items limit sync_token cursor_token now others other → Same changes given others other
  from_same n (inl (bad, r)) (inl (too, s)) = refused_same 400 _ _ _ changes others given other refl r s
  from_same n (inl (bad, r)) (inr (inl (sync, is, worse, s))) = absurd (bad sync is)
  from_same n (inl (bad, r)) (inr (inr (sync, cursor, is, at, b))) = absurd (bad sync is)
  from_same n (inr (inl (sync, is, bad, r))) (inl (worse, s)) = absurd (worse sync is)
  from_same n (inr (inl (sync, is, bad, r))) (inr (inl (also, too, worse, s))) = refused_same 400 _ _ _ changes others given other refl r s
  from_same n (inr (inl (sync, is, bad, r))) (inr (inr (also, cursor, too, at, b))) = absurd (bad cursor at)
  from_same n (inr (inr (sync, cursor, is, at, a))) (inl (bad, s)) = absurd (bad sync is)
  from_same n (inr (inr (sync, cursor, is, at, a))) (inr (inl (also, too, bad, s))) = absurd (bad cursor at)
  from_same n (inr (inr (sync, cursor, is, at, a))) (inr (inr (also, other_cursor, too, on, b))) =
      let syncs : also ≡ sync = one_stamp_of sync_token also sync too is in
      let cursors : other_cursor ≡ cursor = one_stamp_of cursor_token other_cursor cursor on at in
      let first = subst (λ (x : Option ℕ). ServesBounded rows store n items limit x other_cursor now others other) syncs b in
      bounded_same rows store n items limit now changes others given other sync cursor a
      (subst (λ (x : Option ℕ). ServesBounded rows store n items limit sync x now others other) cursors first)

  pub syncs_same : (token : Bytes) → IsSound rows → Syncs rows store token items limit sync_token cursor_token now changes given
      → Syncs rows store token items limit sync_token cursor_token now others other → Same changes given others other
  syncs_same token sound (inl (none, r)) (inl (too, s)) = refused_same 401 _ _ _ changes others given other refl r s
  syncs_same token sound (inl (none, r)) (inr (n, is, b)) = absurd (none n is)
  syncs_same token sound (inr (n, is, a)) (inl (none, s)) = absurd (none n is)
  syncs_same token sound (inr (n, is, a)) (inr (m, too, b)) =
      let same : m ≡ n = session.one_account rows token m n sound too is in
      from_same n a (subst (λ (k : ℕ). ServesFrom rows store k items limit sync_token cursor_token now others other) same b)

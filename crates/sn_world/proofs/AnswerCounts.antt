-- The honest server refuses a device's sync for want of stamps alone, and answers each item of it once at most.
use Rattle.std.proofs.Common.{◌≡◌, ◌⊎◌, ◌+◌, ◌≤◌, ℕ, List, [], ◌∷◌, ◌++◌, length, Option, codes, sym, ap, subst, inl, inr, arith}
use Rattle.std.specs.List.{Contains}
use Rattle.std.proofs.lemmas.List.{length-append}
use Rattle.std.proofs.lemmas.List.Elements.{All-contains}
use Rattle.sn_account.specs.Incoming.{Progress, RunsOut, Takes, TakesAll}
use Rattle.sn_account.specs.Lookups.{HasStore}
use Rattle.sn_account.specs.Rule.{Rule}
use Rattle.sn_account.specs.Rules.{IsPresent}
use Rattle.sn_account.specs.Sessions.{IsSession}
use Rattle.sn_account.specs.Syncs.{IsFirstLong, IsFirstLongIn, IsStampOf, Synced, start}
use Rattle.sn_laws.specs.Lookups.{Bytes}
use Rattle.sn_rows.specs.Table.{Rows}
use Rattle.sn_rows.specs.declared.change.Change.{Change}
use Rattle.sn_rows.specs.declared.server_rows.StoreRow.{StoreRow}
use Rattle.sn_string.specs.declared.params.Params.{Params}
use Rattle.sn_sync.specs.Versions.{AreShort, IsShort, strings_in}
use Rattle.sn_sync.specs.declared.answer.Answer.{Answer}
use Rattle.sn_sync.specs.declared.answer.Answer.TheVariants as answer
use Rattle.sn_sync.specs.declared.answer.Conflict.TheVariants as conflict
use Rattle.sn_sync.specs.declared.answer.More.TheVariants as more
use Rattle.sn_sync.specs.declared.item.Item.{Item}
use Rattle.sn_sync.specs.declared.request.Request.TheVariants as request
use Rattle.sn_world.proofs.AnswerLists.{at_head, behind_head}

-- ---- each item is saved or conflicts once at most

abbrev told_count : Progress → ℕ
told_count p = length p.saved + length p.conflicts

one_more : {A : Type 0} (xs : List A) (x : A) → length (xs ++ x ∷ []) ≡ length xs + 1
one_more xs x = length-append xs (x ∷ [])

one_told : (present : Params) (now n : ℕ) (p : Progress) (i : Item) (q : Progress) → Takes present now n p i q → told_count q ≡ told_count p + 1
one_told present now n p i q (inl (foreign, is)) = let more = ap told_count is in let one = one_more p.conflicts (conflict.Uuid i) in omega arith
one_told present now n p i q (inr (inl (row, given, held, same, is, q_is))) = let more = ap told_count q_is in let one = one_more p.saved given in omega arith
one_told present now n p i q (inr (inr (inl (row, given, held, other, unnamed, is, q_is)))) =
    let more = ap told_count q_is in let one = one_more p.conflicts (conflict.Sync given) in omega arith
one_told present now n p i q (inr (inr (inr (inl (news, unread, q_is))))) = let more = ap told_count q_is in let one = one_more p.conflicts (conflict.Content i) in omega arith
one_told present now n p i q (inr (inr (inr (inr (free, within, (row, change, given, puts, is, q_is)))))) =
    let more = ap told_count q_is in let one = one_more p.saved given in omega arith

pub all_told_count : (present : Params) (now n : ℕ) (p : Progress) (items : List Item) (q : Progress) → TakesAll present now n p items q
    → length q.saved + length q.conflicts ≤ length p.saved + length p.conflicts + length items
all_told_count present now n p [] q is = let same = ap told_count is in omega arith
all_told_count present now n p (i ∷ items) q (inl (past, is)) = let same = ap told_count is in omega arith
all_told_count present now n p (i ∷ items) q (inr (looked, (r, one, rest))) =
    let first = one_told present now n p i r one in
    let others = all_told_count present now n r items q rest in
    omega arith

-- ---- no string is too long

none_long_in : (strings : List Bytes) (size : ℕ) → AreShort strings → IsFirstLongIn strings size → ⊥
none_long_in strings size short is = at is.short strings is.split short
  where
    at : (front all : List Bytes) → all ≡ front ++ is.long ∷ is.others → AreShort all → ⊥
    at front all e fit =
        let long = is.past in
        let within : IsShort is.long = All-contains IsShort all is.long fit (subst (λ (xs : List Bytes). Contains xs is.long) (sym e) (among front)) in
        absurd (omega arith)
      where
        among : (before : List Bytes) → Contains (before ++ is.long ∷ is.others) is.long
        among [] = at_head is.long is.others
        among (b ∷ before) = behind_head b (before ++ is.long ∷ is.others) is.long (among before)

pub none_long : (items : List Item) (uuid : Bytes) (size : ℕ) → ((i : Item) → Contains items i → AreShort (strings_in i.body)) → IsFirstLong items uuid size → ⊥
none_long items uuid size short is =
    none_long_in (strings_in is.item.body) size (short is.item (subst (λ (xs : List Item). Contains xs is.item) (sym is.split) (among is.front))) is.long
  where
    among : (before : List Item) → Contains (before ++ is.item ∷ is.later) is.item
    among [] = at_head is.item is.later
    among (b ∷ before) = behind_head b (before ++ is.item ∷ is.later) is.item (among before)

-- ---- how a sync is answered

-- an item of the sync would be accepted with a stamp past the last
pub record OutOfStamps (server : Rows) (token : Bytes) (items : List Item) (now : ℕ) (changes : List Change) (given : Answer) : Type 0 where
  pub store : StoreRow
  pub stands : HasStore server store
  pub n : ℕ
  pub session : IsSession server token n
  pub present : Params
  pub present_is : IsPresent server n present
  pub out : RunsOut present now n (start server store) items
  pub none : changes ≡ []
  pub given_is : given ≡ answer.Refused 409 (codes "stamps-used") (more.Number store.last)

-- it is served
pub record IsSynced (server : Rows) (token : Bytes) (items : List Item) (limit now : ℕ) (changes : List Change) (given : Answer) : Type 0 where
  pub store : StoreRow
  pub stands : HasStore server store
  pub n : ℕ
  pub session : IsSession server token n
  pub present : Params
  pub sync : Option ℕ
  pub cursor : Option ℕ
  pub synced : Synced server store n present items limit sync cursor now changes given

-- of an account's present session token, with tokens of stamps, at most 500 items and no string that is too long
module _ (server : Rows) (token : Bytes) (n : ℕ) (session : IsSession server token n) (items : List Item) (limit : ℕ) (st ct : Option Bytes)
    (from at : Option ℕ) (st_is : IsStampOf st from) (ct_is : IsStampOf ct at) (few : length items ≤ 500)
    (short : (i : Item) → Contains items i → AreShort (strings_in i.body)) (now : ℕ) (changes : List Change) (given : Answer) where
  pub rule_answers : Rule server (request.Sync token items limit st ct) now changes given
      → OutOfStamps server token items now changes given ⊎ IsSynced server token items limit now changes given
  rule_answers (store, stands, inl refused) = absurd (refused.0 n session)
  rule_answers (store, stands, inr (m, own, inl refused)) = absurd (refused.0 from st_is)
  rule_answers (store, stands, inr (m, own, inr (inl refused))) = absurd (refused.2 at ct_is)
  rule_answers (store, stands, inr (m, own, inr (inr (sync, cursor, is, at_is, inl refused)))) = absurd (let many = refused.0 in omega arith)
  rule_answers (store, stands, inr (m, own, inr (inr (sync, cursor, is, at_is, inr (inl (within, uuid, size, long, refused)))))) =
      absurd (none_long items uuid size short long)
  rule_answers (store, stands, inr (m, own, inr (inr (sync, cursor, is, at_is, inr (inr (within, none, (present, present_is, inl refused))))))) =
      inl (record {
        store = store;
        stands = stands;
        n = m;
        session = own;
        present = present;
        present_is = present_is;
        out = refused.0;
        none = refused.1.0;
        given_is = refused.1.1;
      })
  rule_answers (store, stands, inr (m, own, inr (inr (sync, cursor, is, at_is, inr (inr (within, none, (present, present_is, inr synced))))))) =
      inr (record {
        store = store;
        stands = stands;
        n = m;
        session = own;
        present = present;
        sync = sync;
        cursor = cursor;
        synced = synced;
      })

-- What is answered is within the bounds of an answer.
use Rattle.std.proofs.Common.{arith, ◌≡◌, ◌≢◌, ◌≤◌, ◌++◌, ℕ, List, [], ◌∷◌, Option, Bool, true, false, All, length, refl, sym, subst, inl, inr}
use Rattle.std.specs.Prelude.{if◌then◌else◌}
use Rattle.std.specs.List.{Contains}
use Rattle.std.proofs.lemmas.List.Elements.{All-append, All-cons, All-contains, All-head, All-nil, All-tail, Contains-append_left, Contains-append_right, Contains-push}
use Rattle.sn_rows.specs.Table.{Rows}
use Rattle.sn_rows.specs.declared.change.Change.{Change}
use Rattle.sn_rows.specs.declared.server_rows.AccountRow.{AccountRow}
use Rattle.sn_rows.specs.declared.server_rows.ItemRow.{ItemRow}
use Rattle.sn_rows.specs.declared.server_rows.StoreRow.{StoreRow}
use Rattle.sn_string.specs.Bounds.{IsIdentifier}
use Rattle.sn_string.specs.declared.params.Params.{Params}
use Rattle.sn_sync.specs.Laws.{AreBytes, FitsAnswer, FitsConflict, FitsKind, FitsMore, FitsSent, FitsStored}
use Rattle.sn_sync.specs.declared.answer.Answer.{Answer}
use Rattle.sn_sync.specs.declared.answer.Answer.TheVariants as answer
use Rattle.sn_sync.specs.declared.answer.Conflict.{Conflict}
use Rattle.sn_sync.specs.declared.answer.Conflict.TheVariants as conflict
use Rattle.sn_sync.specs.declared.answer.More.{More}
use Rattle.sn_sync.specs.declared.item.Body.{Body}
use Rattle.sn_sync.specs.declared.item.Body.TheVariants as body
use Rattle.sn_sync.specs.declared.item.Item.{Item}
use Rattle.sn_sync.specs.declared.request.Request.TheVariants as request
use Rattle.sn_sync.specs.declared.request.Route.{Route}
use Rattle.sn_sync.specs.declared.request.Route.TheVariants as route
use Rattle.sn_account.specs.Incoming.{Progress, Takes, TakesAll}
use Rattle.sn_account.specs.Lookups.{Bytes}
use Rattle.sn_account.specs.Pages.{AreGiven, Found}
use Rattle.sn_account.specs.RuleLaws.{AnswersFit, status_of}
use Rattle.sn_account.specs.Rules.{ChangesKeys, ChangesPassword, Registers, SignsIn, TellsParams}
use Rattle.sn_account.specs.Sessions.{account_uuid, session_token}
use Rattle.sn_account.specs.Sound.{IsSound}
use Rattle.sn_account.specs.Stored.{IsGiven, body_of}
use Rattle.sn_account.specs.Syncs.{IsFirstLong, Serves, ServesBounded, ServesFrom, Synced, Syncs, start}
use Rattle.sn_account.proofs.PresentLemmas.{lengths}
use Rattle.sn_account.proofs.TokenFits.{token_fits, uuid_fits}

abbrev Fits : Route → Answer → Type 0
Fits on given = FitsAnswer on (status_of given) given

refused_fits : (on : Route) (status : ℕ) (tag : Bytes) (further : More) (given : Answer) → status ≢ 200 → FitsMore further
    → given ≡ answer.Refused status tag further → Fits on given
refused_fits on status tag further given off fits e = subst (Fits on) (sym e) (refl, off, fits)

account_fits : (on : Route) (secret : Bytes) (n g : ℕ) (identifier : Bytes) (given : Answer) → on ≢ route.Params → on ≢ route.Sync → IsIdentifier identifier
    → given ≡ answer.Account (session_token secret n g) identifier (account_uuid n) → Fits on given
account_fits on secret n g identifier given no_params no_sync fits e =
    subst (Fits on) (sym e) (no_params, no_sync, refl, token_fits secret n g, fits, uuid_fits n)

-- ---- accounts

registers_fit : (rows : Rows) (store : StoreRow) (params : Params) (pw : Bytes) (changes : List Change) (given : Answer)
    → Registers rows store params pw changes given → Fits route.Register given
registers_fit rows store params pw changes given (inl (taken, refused)) = refused_fits route.Register 409 _ _ given (λ e. absurd (omega arith)) tt refused.1
registers_fit rows store params pw changes given (inr (inl (unknown, full, refused))) = refused_fits route.Register 409 _ _ given (λ e. absurd (omega arith)) tt refused.1
registers_fit rows store params pw changes given (inr (inr (unknown, less, b))) =
    account_fits route.Register _ _ _ params.identifier given (λ e. cc) (λ e. cc) params.identifier_fits b.answers

tells_fit : (rows : Rows) (identifier : Bytes) (given : Answer) → TellsParams rows identifier given → Fits route.Params given
tells_fit rows identifier given (inl (unknown, e)) = refused_fits route.Params 404 _ _ given (λ e. absurd (omega arith)) tt e
tells_fit rows identifier given (inr t) = subst (Fits route.Params) (sym t.answers) (refl, refl)

own_identifier : (a : AccountRow) (identifier : Bytes) → a.identifier ≡ identifier → IsIdentifier identifier
own_identifier a identifier e = subst IsIdentifier e (lengths 1 254 a.identifier a.identifier_fits)

signs_fit : (rows : Rows) (store : StoreRow) (identifier pw : Bytes) (given : Answer) → SignsIn rows store identifier pw given → Fits route.SignIn given
signs_fit rows store identifier pw given (inl (unknown, e)) = refused_fits route.SignIn 404 _ _ given (λ e. absurd (omega arith)) tt e
signs_fit rows store identifier pw given (inr (inl (wrong, e))) = refused_fits route.SignIn 401 _ _ given (λ e. absurd (omega arith)) tt e
signs_fit rows store identifier pw given (inr (inr x)) =
    account_fits route.SignIn _ _ _ identifier given (λ e. cc) (λ e. cc) (own_identifier x.account identifier x.named) x.answers

keys_fit : (rows : Rows) (s : IsSound rows) (store : StoreRow) (n : ℕ) (a : AccountRow) (present : Params) (pw : Bytes) (cost : ℕ) (nonce : Bytes) (changes : List Change) (given : Answer)
    → ChangesKeys rows store n a present pw cost nonce changes given → Fits route.ChangePw given
keys_fit rows s store n a present pw cost nonce changes given (inl (uuid, least, refused)) =
    refused_fits route.ChangePw 409 _ _ given (λ e. absurd (omega arith)) (s.named uuid least.behind.item least.behind.there) refused.1
keys_fit rows s store n a present pw cost nonce changes given (inr (inl (none, used, refused))) =
    refused_fits route.ChangePw 409 _ _ given (λ e. absurd (omega arith)) tt refused.1
keys_fit rows s store n a present pw cost nonce changes given (inr (inr (inl (none, unused, full, refused)))) =
    refused_fits route.ChangePw 409 _ _ given (λ e. absurd (omega arith)) tt refused.1
keys_fit rows s store n a present pw cost nonce changes given (inr (inr (inr (none, unused, less, r)))) =
    account_fits route.ChangePw _ _ _ a.identifier given (λ e. cc) (λ e. cc) (own_identifier a a.identifier refl) r.answers

changes_fit : (rows : Rows) (s : IsSound rows) (store : StoreRow) (token current pw : Bytes) (cost : ℕ) (nonce : Bytes) (changes : List Change) (given : Answer)
    → ChangesPassword rows store token current pw cost nonce changes given → Fits route.ChangePw given
changes_fit rows s store token current pw cost nonce changes given (inl (bad, refused)) =
    refused_fits route.ChangePw 401 _ _ given (λ e. absurd (omega arith)) tt refused.1
changes_fit rows s store token current pw cost nonce changes given (inr (inl (n, a, session, there, wrong, refused))) =
    refused_fits route.ChangePw 401 _ _ given (λ e. absurd (omega arith)) tt refused.1
changes_fit rows s store token current pw cost nonce changes given (inr (inr (n, a, present, session, there, right, is, keys))) =
    keys_fit rows s store n a present pw cost nonce changes given keys

-- ---- items

kind_fits : (row : ItemRow) → FitsKind (body_of row) row.kind
kind_fits row = by row.deleted refl
  where
    bounds : (0 ≤ length row.kind) × (length row.kind ≤ 255)
    bounds = lengths 0 255 row.kind row.kind_fits

    by : (b : Bool) → row.deleted ≡ b → FitsKind (body_of row) row.kind
    by true e = subst (λ (x : Bool). FitsKind (if x then body.Deleted else body.Strings row.content row.enc) row.kind) (sym e) bounds.1
    by false e = subst (λ (x : Bool). FitsKind (if x then body.Deleted else body.Strings row.content row.enc) row.kind) (sym e) (row.kind_stands e, bounds.1)

given_fits : (uuid : Bytes) (row : ItemRow) (given : Item) → AreBytes 16 uuid → IsGiven uuid row given → FitsStored given
given_fits uuid row given sized is = record {
  uuid = subst (AreBytes 16) (sym is.uuid_is) sized;
  kind = subst (λ (b : Body). FitsKind b given.kind) (sym is.body) (subst (λ (k : Bytes). FitsKind (body_of row) k) (sym is.kind) (kind_fits row));
  first = row.created;
  created = is.created;
  text = is.stamp;
  updated_at = is.updated;
  last = row.updated;
  stamped = is.spelled;
}

-- what is saved and what is in conflict so far
abbrev BothFit : Progress → Type 0
BothFit p = All FitsStored p.saved × All FitsConflict p.conflicts

stored_more : (items : List Item) (i : Item) → All FitsStored items → FitsStored i → All FitsStored (items ++ i ∷ [])
stored_more items i h fits = All-append FitsStored items (i ∷ []) h (All-cons FitsStored i [] fits (All-nil FitsStored))

conflicts_more : (conflicts : List Conflict) (c : Conflict) → All FitsConflict conflicts → FitsConflict c → All FitsConflict (conflicts ++ c ∷ [])
conflicts_more conflicts c h fits = All-append FitsConflict conflicts (c ∷ []) h (All-cons FitsConflict c [] fits (All-nil FitsConflict))

one_fits : (present : Params) (now n : ℕ) (p q : Progress) (i : Item) → FitsSent i → BothFit p → Takes present now n p i q → BothFit q
one_fits present now n p q i sent h (inl (foreign, e)) = subst BothFit (sym e) (h.0, conflicts_more p.conflicts (conflict.Uuid i) h.1 sent)
one_fits present now n p q i sent h (inr (inl (row, given, held, same, is, e))) =
    subst BothFit (sym e) (stored_more p.saved given h.0 (given_fits i.uuid row given sent.uuid is), h.1)
one_fits present now n p q i sent h (inr (inr (inl (row, given, held, differs, other, is, e)))) =
    subst BothFit (sym e) (h.0, conflicts_more p.conflicts (conflict.Sync given) h.1 (given_fits i.uuid row given sent.uuid is))
one_fits present now n p q i sent h (inr (inr (inr (inl (news, unread, e))))) = subst BothFit (sym e) (h.0, conflicts_more p.conflicts (conflict.Content i) h.1 sent)
one_fits present now n p q i sent h (inr (inr (inr (inr (free, within, (row, change, given, puts, is, e)))))) =
    subst BothFit (sym e) (stored_more p.saved given h.0 (given_fits i.uuid row given sent.uuid is), h.1)

all_fit : (present : Params) (now n : ℕ) (p : Progress) (items : List Item) (q : Progress) → All FitsSent items → BothFit p → TakesAll present now n p items q → BothFit q
all_fit present now n p [] q sent h e = subst BothFit (sym e) h
all_fit present now n p (i ∷ is) q sent h (inl (past, e)) = subst BothFit (sym e) h
all_fit present now n p (i ∷ is) q sent h (inr (within, (r, takes, rest))) =
    all_fit present now n r is q (All-tail FitsSent i is sent) (one_fits present now n p r i (All-head FitsSent i is sent) h takes) rest

page_fits : (page : List Found) (retrieved : List Item) → ((u : Bytes) (i : ItemRow) → Contains page (u, i) → AreBytes 16 u) → AreGiven page retrieved → All FitsStored retrieved
page_fits [] [] sized are = All-nil FitsStored
page_fits [] (i ∷ is) sized are = absurd are
page_fits (f ∷ fs) [] sized are = absurd are
page_fits (f ∷ fs) (i ∷ is) sized (is_given, rest) =
    All-cons FitsStored i is
    (given_fits f.0 f.1 i (sized f.0 f.1 (Contains-append_left (f ∷ []) fs f (Contains-push [] f))) is_given)
    (page_fits fs is (λ u row there. sized u row (Contains-append_right (f ∷ []) fs (u, row) there)) rest)

synced_fits : (rows : Rows) (s : IsSound rows) (store : StoreRow) (n : ℕ) (present : Params) (items : List Item) (limit : ℕ) (sync cursor : Option ℕ) (now : ℕ)
    (changes : List Change) (given : Answer) → All FitsSent items → Synced rows store n present items limit sync cursor now changes given → Fits route.Sync given
synced_fits rows s store n present items limit sync cursor now changes given sent y =
    let both : BothFit y.end = all_fit present now n (start rows store) items y.end sent (All-nil FitsStored, All-nil FitsConflict) y.taken in
    subst (Fits route.Sync) (sym y.answers) (refl, refl, both.1, page_fits y.page y.retrieved sized y.retrieved_are, both.0)
  where
    sized : (u : Bytes) (i : ItemRow) → Contains y.page (u, i) → AreBytes 16 u
    sized u i there = s.named u i ((y.is_page.all.whole u i).0 (Contains-append_left y.page y.left (u, i) there)).0

-- ---- a sync

long_fits : (items : List Item) (uuid : Bytes) (size : ℕ) → All FitsSent items → IsFirstLong items uuid size → AreBytes 16 uuid
long_fits items uuid size sent l =
    let there : Contains items l.item =
    subst (λ (xs : List Item). Contains xs l.item) (sym l.split)
    (Contains-append_right l.front (l.item ∷ l.later) l.item (Contains-append_left (l.item ∷ []) l.later l.item (Contains-push [] l.item))) in
    subst (AreBytes 16) (sym l.uuid_is) (All-contains FitsSent items l.item sent there).uuid

module _ (rows : Rows) (s : IsSound rows) (store : StoreRow) (token : Bytes) (items : List Item) (limit now : ℕ) (changes : List Change) (given : Answer)
    (sent : All FitsSent items) where
  serves_fit : (n : ℕ) (sync cursor : Option ℕ) → Serves rows store n items limit sync cursor now changes given → Fits route.Sync given
  serves_fit n sync cursor (present, is, inl (out, refused)) = refused_fits route.Sync 409 _ _ given (λ e. absurd (omega arith)) tt refused.1
  serves_fit n sync cursor (present, is, inr synced) = synced_fits rows s store n present items limit sync cursor now changes given sent synced

  bounded_fits : (n : ℕ) (sync cursor : Option ℕ) → ServesBounded rows store n items limit sync cursor now changes given → Fits route.Sync given
  bounded_fits n sync cursor (inl (wide, refused)) = refused_fits route.Sync 413 _ _ given (λ e. absurd (omega arith)) tt refused.1
  bounded_fits n sync cursor (inr (inl (few, uuid, size, long, refused))) =
      refused_fits route.Sync 413 _ _ given (λ e. absurd (omega arith)) (long_fits items uuid size sent long) refused.1
  bounded_fits n sync cursor (inr (inr (few, short, serves))) = serves_fit n sync cursor serves

  from_fits : (n : ℕ) (sync_token cursor_token : Option Bytes) → ServesFrom rows store n items limit sync_token cursor_token now changes given → Fits route.Sync given
  from_fits n sync_token cursor_token (inl (bad, refused)) = refused_fits route.Sync 400 _ _ given (λ e. absurd (omega arith)) tt refused.1
  from_fits n sync_token cursor_token (inr (inl (sync, is, bad, refused))) = refused_fits route.Sync 400 _ _ given (λ e. absurd (omega arith)) tt refused.1
  from_fits n sync_token cursor_token (inr (inr (sync, cursor, is, is_too, serves))) = bounded_fits n sync cursor serves

  syncs_fit : (sync_token cursor_token : Option Bytes) → Syncs rows store token items limit sync_token cursor_token now changes given → Fits route.Sync given
  syncs_fit sync_token cursor_token (inl (bad, refused)) = refused_fits route.Sync 401 _ _ given (λ e. absurd (omega arith)) tt refused.1
  syncs_fit sync_token cursor_token (inr (n, session, serves)) = from_fits n sync_token cursor_token serves

pub answers_fit : AnswersFit
answers_fit rows (request.Register params pw) now changes given s fits (store, has, ruled) = registers_fit rows store params pw changes given ruled
answers_fit rows (request.Params identifier) now changes given s fits (store, has, ruled) = tells_fit rows identifier given ruled.1
answers_fit rows (request.SignIn identifier pw) now changes given s fits (store, has, ruled) = signs_fit rows store identifier pw given ruled.1
answers_fit rows (request.ChangePw token current pw cost nonce) now changes given s fits (store, has, ruled) =
    changes_fit rows s store token current pw cost nonce changes given ruled
answers_fit rows (request.Sync token items limit sync_token cursor_token) now changes given s (sent, low, high) (store, has, ruled) =
    syncs_fit rows s store token items limit now changes given sent sync_token cursor_token ruled

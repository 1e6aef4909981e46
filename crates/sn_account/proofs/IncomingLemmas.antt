-- The five cases of one item, as the code finds them.
use Rattle.std.proofs.Common.{◌≡◌, ◌≢◌, ◌∙◌, ℕ, ◌+◌, ◌≤◌, List, [], ◌∷◌, ◌++◌, Bool, true, false, Option, Some, None, Result, Ok, Err, IfOk, IsTrue, ◌↔◌, ◌⊎◌, inl, inr, refl, sym, ap, subst, arith}
use Rattle.std.specs.Prelude.{IsSome, is_some, length}
use Rattle.sn_rows.specs.Bounds.{HasLength}
use Rattle.sn_rows.specs.Table.{Puts, Rows, rows_after}
use Rattle.sn_rows.specs.declared.change.Change.{Change}
use Rattle.std.specs.Option.{unwrap_or}
use Rattle.sn_rows.specs.declared.key.Key.TheVariants as key
use Rattle.sn_rows.specs.declared.server_rows.ItemRow.{ItemRow}
use Rattle.sn_rows.specs.declared.value.Value.TheVariants as value
use Rattle.sn_string.specs.Grammar.{Is003, Reading}
use Rattle.sn_string.specs.Uuids.{IsUuidText, uuid_text}
use Rattle.sn_string.specs.declared.params.Params.{Params}
use Rattle.sn_sync.specs.Laws.{AreBytes, FitsKind}
use Rattle.sn_sync.specs.Stamps.{last_stamp}
use Rattle.sn_sync.specs.declared.answer.Conflict.TheVariants as conflict
use Rattle.sn_sync.specs.declared.item.Body.{Body}
use Rattle.sn_sync.specs.declared.item.Body.TheVariants as body
use Rattle.sn_sync.specs.declared.item.Item.{Item}
use Rattle.sn_account.specs.Incoming.{IsAbsent, IsNews, IsOwnBody, IsOwnString, Names, Progress, PutsVersion, SameVersion, Takes, TakesNew, stamp_of}
use Rattle.sn_account.specs.Lookups.{Bytes, HasItem}
use Rattle.sn_account.specs.Pages.{weight}
use Rattle.sn_account.specs.Sound.{NamesItem}
use Rattle.sn_account.specs.Stored.{IsGiven}
use Rattle.sn_account.specs.Syncs.{AreShort, IsShort, strings_in}
use Rattle.sn_account.specs.Taking.{IsAcceptance, IsAcceptedRow, IsEffect, IsFirstStamp, after, content_in, enc_in, is_deleted, progress}
use Rattle.sn_account.specs.declared.taken.Effect.{Effect}
use Rattle.sn_account.specs.declared.taken.Effect.TheVariants as effect
use Rattle.sn_account.specs.declared.taken.Taken.{Taken}
use Rattle.sn_account.proofs.TakenLemmas.{rows_after-more}

-- ---- strings

-- the text of a uuid is one that spells it
spells : (part uuid : Bytes) → AreBytes 16 uuid → part ≡ uuid_text uuid → IsUuidText part uuid
spells part uuid are is = record { count = are.0; fit = are.1; spelled = is }

-- a string that names the uuid under the parameters is its own
pub own_string : {E : Type 0} (text uuid : Bytes) (present : Params) (own : Result Bool E) → AreBytes 16 uuid
    → IfOk own (λ b. IsTrue b ↔ ((r : Reading) × Is003 text r × IsUuidText r.uuid uuid × (r.params ≡ present)))
    → IfOk own (λ b. IsTrue b ↔ IsOwnString uuid present text)
own_string text uuid present (Ok b) are test = (
  λ holds. let own = test.0 holds in (own.0, own.1, own.2.spelled, own.3),
  λ is. test.1 (is.0, is.1, spells is.0.uuid uuid are is.2, is.3),
)
own_string text uuid present (Err e) are test = tt

-- and one that names it is of its item
pub item_string : {E : Type 0} (text uuid : Bytes) (named : Result Bool E) → AreBytes 16 uuid
    → IfOk named (λ b. IsTrue b ↔ ((r : Reading) × Is003 text r × IsUuidText r.uuid uuid)) → IfOk named (λ b. IsTrue b ↔ NamesItem text uuid)
item_string text uuid (Ok b) are test = (
  λ holds. let own = test.0 holds in (own.0, own.1, own.2.spelled),
  λ is. test.1 (is.0, is.1, spells is.0.uuid uuid are is.2),
)
item_string text uuid (Err e) are test = tt

-- where the first string isn't its own, the body isn't
pub own_not_first : (uuid : Bytes) (present : Params) (b : Body) (content enc : Bytes) (first : Bool) → b ≡ body.Strings content enc
    → (IsTrue first ↔ IsOwnString uuid present content) → first ≡ false → (IsTrue false ↔ IsOwnBody uuid present b)
own_not_first uuid present b content enc first is test not =
    let P : Body → Type 0 = λ c. IsTrue false ↔ IsOwnBody uuid present c in
    subst P (sym is) (λ holds. absurd cc, λ own. sym not ∙ test.1 own.0)

-- and else it goes by the second
pub own_second : {E : Type 0} (uuid : Bytes) (present : Params) (b : Body) (content enc : Bytes) (first : Bool) (second : Result Bool E)
    → b ≡ body.Strings content enc → (IsTrue first ↔ IsOwnString uuid present content) → first ≡ true
    → IfOk second (λ own. IsTrue own ↔ IsOwnString uuid present enc) → IfOk second (λ own. IsTrue own ↔ IsOwnBody uuid present b)
own_second uuid present b content enc first (Ok second) is test own other =
    let P : Body → Type 0 = λ c. IsTrue second ↔ IsOwnBody uuid present c in
    subst P (sym is) (λ holds. (test.0 own, other.0 holds), λ both. other.1 both.1)
own_second uuid present b content enc first (Err e) is test own other = tt

-- ---- cases

-- a test that fails
pub not_holds : {A : Type 0} (b : Bool) → (IsTrue b ↔ A) → b ≡ false → ¬ A
not_holds b test is = λ a. (let e : b ≡ true = test.1 a in absurd (let f = sym is ∙ e in cc))

pub takes_foreign : (present : Params) (now n : ℕ) (p : Progress) (i copy : Item) (row : ItemRow) → HasItem p.rows i.uuid row → row.account ≢ n
    → copy ≡ i → Takes present now n p i (after p (effect.Unsaved (conflict.Uuid copy)))
takes_foreign present now n p i copy row has other is =
    inl ((row, has, other), ap (λ (j : Item). record p { conflicts = p.conflicts ++ conflict.Uuid j ∷ [] }) is)

pub takes_same : (present : Params) (now n : ℕ) (p : Progress) (i given : Item) (row : ItemRow) → HasItem p.rows i.uuid row → row.account ≡ n
    → SameVersion row i → IsGiven i.uuid row given → Takes present now n p i (after p (effect.Saved given))
takes_same present now n p i given row has own same gives = inr (inl (row, given, (has, own), same, gives, refl))

pub takes_other : (present : Params) (now n : ℕ) (p : Progress) (i given : Item) (row : ItemRow) (bytes : ℕ) → HasItem p.rows i.uuid row
    → row.account ≡ n → ¬ (SameVersion row i) → ¬ (Names i row) → IsGiven i.uuid row given → bytes ≡ weight row
    → Takes present now n p i (after p (effect.Other given bytes))
takes_other present now n p i given row bytes has own differs unnamed gives is =
    inr (inr (inl (
      row,
      given,
      (has, own),
      differs,
      unnamed,
      gives,
      ap (λ (w : ℕ). record p { conflicts = p.conflicts ++ conflict.Sync given ∷ []; bytes = p.bytes + w }) is,
    )))

pub takes_unread : (present : Params) (now n : ℕ) (p : Progress) (i copy : Item) → IsNews p n i → ¬ (IsOwnBody i.uuid present i.body)
    → copy ≡ i → Takes present now n p i (after p (effect.Unsaved (conflict.Content copy)))
takes_unread present now n p i copy news not is =
    inr (inr (inr (inl (news, not, ap (λ (j : Item). record p { conflicts = p.conflicts ++ conflict.Content j ∷ [] }) is))))

-- the first stamp of an accepted item
first_of : (rows : Rows) (uuid : Bytes) (row : ItemRow) (created stamp : ℕ) (found : Option ℕ) → row.created ≡ created → IsFirstStamp rows uuid found
    → created ≡ unwrap_or found stamp
    → ((old : ItemRow) × HasItem rows uuid old × (row.created ≡ old.created)) ⊎ (IsAbsent rows uuid × (row.created ≡ stamp))
first_of rows uuid row created stamp None row_is first is = inr (first, row_is ∙ is)
first_of rows uuid row created stamp (Some c) row_is first is = inl (first.0, first.1, row_is ∙ is ∙ first.2)

-- its row is its version's
puts_version : (p : Progress) (n created stamp : ℕ) (i : Item) (row : ItemRow) (change : Change) (found : Option ℕ) → IsAcceptedRow n created stamp i row
    → Puts change (key.Item i.uuid) (value.Item row) → IsFirstStamp p.rows i.uuid found → created ≡ unwrap_or found stamp
    → PutsVersion p n stamp i row change
puts_version p n created stamp i row change found row_is puts first is = record {
  puts = puts;
  account = row_is.account;
  kind = row_is.kind;
  updated = row_is.updated;
  body = row_is.body;
  gone = row_is.gone;
  first = first_of p.rows i.uuid row created stamp found row_is.first first is;
}

takes_at : (present : Params) (now n : ℕ) (p : Progress) (i : Item) (created stamp : ℕ) (found : Option ℕ) (e : Effect) → IsNews p n i
    → IsOwnBody i.uuid present i.body → stamp ≡ stamp_of now p.last → stamp ≤ last_stamp → IsFirstStamp p.rows i.uuid found
    → created ≡ unwrap_or found stamp → (a : IsAcceptance n created stamp i e)
    → TakesNew present now n p i (after p (effect.Accepted a.change a.given stamp))
takes_at present now n p i created stamp found e news own is bound first created_is a =
    let P : ℕ → Type 0 = λ s. PutsVersion p n s i a.row a.change in
    let puts : PutsVersion p n stamp i a.row a.change = puts_version p n created stamp i a.row a.change found a.accepted a.puts first created_is in (
      (news, own),
      subst (λ (s : ℕ). s ≤ last_stamp) is bound,
      (a.row, a.change, a.given, subst P is puts, a.given_is, ap (λ (s : ℕ). after p (effect.Accepted a.change a.given s)) is),
    )

pub takes_new : (present : Params) (now n : ℕ) (p : Progress) (i : Item) (created stamp : ℕ) (found : Option ℕ) (e : Effect) → IsNews p n i
    → IsOwnBody i.uuid present i.body → stamp ≡ stamp_of now p.last → stamp ≤ last_stamp → IsFirstStamp p.rows i.uuid found
    → created ≡ unwrap_or found stamp → IsAcceptance n created stamp i e → IsEffect present now n p i e
takes_new present now n p i created stamp found e news own is bound first created_is a =
    let E : Effect → Type 0 = λ d. IsEffect present now n p i d in
    subst E (sym a.is) (inr (inr (inr (inr (takes_at present now n p i created stamp found e news own is bound first created_is a)))))

-- in whatever case it isn't the last
pub takes_new_ok : {E : Type 0} (present : Params) (now n : ℕ) (p : Progress) (i : Item) (created stamp : ℕ) (found : Option ℕ) (outcome : Result Effect E)
    → IsNews p n i → IsOwnBody i.uuid present i.body → stamp ≡ stamp_of now p.last → stamp ≤ last_stamp → IsFirstStamp p.rows i.uuid found
    → created ≡ unwrap_or found stamp → IfOk outcome (IsAcceptance n created stamp i) → IfOk outcome (IsEffect present now n p i)
takes_new_ok present now n p i created stamp found (Ok e) news own is bound first created_is a =
    takes_new present now n p i created stamp found e news own is bound first created_is a
takes_new_ok present now n p i created stamp found (Err e) news own is bound first created_is a = tt

-- ---- what they leave

abbrev made : Rows → Taken → List Change → List Item → ℕ → Progress
made rows t changes saved stamp =
    record { rows = rows_after rows changes; last = stamp; changes = changes; saved = saved; conflicts = t.conflicts; bytes = t.bytes }

pub accepted_added : (rows : Rows) (t : Taken) (change : Change) (given : Item) (stamp : ℕ) (changes : List Change) (saved : List Item) (e : Effect)
    → changes ≡ t.changes ++ change ∷ [] → saved ≡ t.saved ++ given ∷ [] → e ≡ effect.Accepted change given stamp
    → made rows t changes saved stamp ≡ after (progress rows t) e
accepted_added rows t change given stamp changes saved e changed saves is =
    let r : rows_after rows changes ≡ rows_after (rows_after rows t.changes) (change ∷ []) = ap (rows_after rows) changed ∙ rows_after-more rows t.changes change in
    let E : Effect → Type 0 = λ d. made rows t changes saved stamp ≡ after (progress rows t) d in
    subst E (sym is) cc

-- an effect other than the last is one of the cases
pub takes_effect : (present : Params) (now n : ℕ) (p q : Progress) (i : Item) (e : Effect) → IsEffect present now n p i e → e ≢ effect.PastLast
    → q ≡ after p e → Takes present now n p i q
takes_effect present now n p q i (effect.Unsaved c) is not left = subst (λ (r : Progress). Takes present now n p i r) (sym left) is
takes_effect present now n p q i (effect.Saved given) is not left = subst (λ (r : Progress). Takes present now n p i r) (sym left) is
takes_effect present now n p q i (effect.Other given bytes) is not left = subst (λ (r : Progress). Takes present now n p i r) (sym left) is
takes_effect present now n p q i (effect.Accepted change given stamp) is not left = subst (λ (r : Progress). Takes present now n p i r) (sym left) is
takes_effect present now n p q i effect.PastLast is not left = absurd (not refl)

-- ---- the row of an accepted item is within its bounds

no_strings : (text : Bytes) → text ≡ [] → HasLength 0 1048576 text
no_strings text none = (omega arith, (let size : length text ≡ 0 = ap length none in omega arith))

short_string : (text string : Bytes) → text ≡ string → IsShort string → HasLength 0 1048576 text
short_string text string is short = (omega arith, (let size : length text ≡ length string = ap length is in omega arith))

pub fits_row : (b : Body) (sent kind content enc : Bytes) (deleted : Bool) → FitsKind b sent → AreShort (strings_in b) → kind ≡ sent
    → deleted ≡ is_deleted b → content ≡ content_in b → enc ≡ enc_in b
    → HasLength 0 255 kind × (deleted ≡ false → 1 ≤ length kind) × HasLength 0 1048576 content × HasLength 0 1048576 enc
fits_row body.Deleted sent kind content enc deleted fits short same gone no_content no_enc =
    let size : length kind ≡ length sent = ap length same in
    ((omega arith, omega arith), λ live. (let wrong : true ≡ false = sym gone ∙ live in cc), no_strings content no_content, no_strings enc no_enc)
fits_row (body.Strings text key) sent kind content enc deleted fits short same kept has_content has_enc =
    let size : length kind ≡ length sent = ap length same in (
      (omega arith, omega arith),
      λ _. omega arith,
      short_string content text has_content (short 0 [] (omega arith)),
      short_string enc key has_enc (short 1 [] (omega arith)),
    )

-- so it can be made
pub no_row : {R A : Type 0} (made : Option R) → made ≡ None → IsSome made ↔ A → A → ⊥
no_row made none when fits = let some : is_some made ≡ true = when.1 fits in let not : is_some made ≡ false = ap is_some none in cc

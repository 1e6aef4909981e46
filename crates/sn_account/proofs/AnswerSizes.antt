-- The answer to a sync of few items with few bytes is short.
use Rattle.std.proofs.Common.{◌≡◌, ◌⊎◌, ℕ, suc, ◌+◌, ◌^◌, ◌<◌, ◌≤◌, Bool, true, false, List, [], ◌∷◌, ◌++◌, length, get_or, Option, Some, None, All, codes, sum_by, refl, sym, ap, ◌∙◌, subst, inl, inr, ⊎_elim, arith, length-append}
use Rattle.std.specs.Prelude.{if◌then◌else◌}
use Rattle.std.proofs.lemmas.Fmt.{length-decimal-le}
use Rattle.std.specs.List.{Contains}
use Rattle.std.proofs.lemmas.List.Elements.{All-append, All-cons, All-contains_itself, All-head, All-nil, All-tail, Contains-append_left}
use Rattle.std.proofs.lemmas.List.Sums.{sum_by-append, sum_by-cons}
use Rattle.serde_json.specs.Data.{Data, Items, Members, array, member, no_members, number, string, unsigned}
use Rattle.serde_json.specs.Written.{compact_text}
use Rattle.sn_rows.specs.Facts.{put_here, put_or_not}
use Rattle.sn_rows.specs.Table.{Rows, rows_after}
use Rattle.sn_rows.specs.declared.change.Change.{Change}
use Rattle.sn_rows.specs.declared.key.Key.TheVariants as key
use Rattle.sn_rows.specs.declared.server_rows.ItemRow.{ItemRow}
use Rattle.sn_rows.specs.declared.server_rows.StoreRow.{StoreRow}
use Rattle.sn_rows.specs.declared.value.Value.TheVariants as value
use Rattle.sn_string.specs.declared.params.Params.{Params}
use Rattle.sn_sync.proofs.Facts.{length-token-le}
use Rattle.sn_sync.specs.Fits.{FitsKind, FitsSent}
use Rattle.sn_sync.specs.Stamps.{last_stamp}
use Rattle.sn_sync.specs.Tokens.{IsToken}
use Rattle.sn_sync.specs.Written.{WritesAnswer, error_data, optional_data, synced_data, uuid_data}
use Rattle.sn_sync.specs.declared.answer.Answer.{Answer}
use Rattle.sn_sync.specs.declared.answer.Answer.TheVariants as answer
use Rattle.sn_sync.specs.declared.answer.Conflict.{Conflict}
use Rattle.sn_sync.specs.declared.answer.Conflict.TheVariants as conflict
use Rattle.sn_sync.specs.declared.answer.More.{More}
use Rattle.sn_sync.specs.declared.answer.More.TheVariants as more
use Rattle.sn_sync.specs.declared.item.Body.{Body}
use Rattle.sn_sync.specs.declared.item.Body.TheVariants as body
use Rattle.sn_sync.specs.declared.item.Item.{Item}
use Rattle.sn_account.specs.AnswerSize.{AnswersAreShort, AreUnescaped, IsModest, NamesShortly, strings_size}
use Rattle.sn_account.specs.Incoming.{Progress, PutsVersion, Takes, TakesAll, stamp_of}
use Rattle.sn_account.specs.Lookups.{Bytes, HasItem, HasStore}
use Rattle.sn_account.specs.Pages.{AreGiven, FitsPage, Found, IsPage, most_bytes, weight}
use Rattle.sn_account.specs.Sound.{IsSound}
use Rattle.sn_account.specs.Stored.{IsGiven, body_of}
use Rattle.sn_account.specs.Syncs.{AreTokens, IsFirstLong, Serves, ServesBounded, Synced, Syncs, start, strings_in}
use Rattle.sn_account.proofs.AnswerTexts.{IsSlim, IsSlimConflict, conflict_size, item_size, length-conflicts, length-items, length-member, length-quoted, length-stamp, length-uuid}
use Rattle.sn_account.proofs.PresentLemmas.{lengths}
use Rattle.sn_account.proofs.UnescapedTexts.{sealed_are_unescaped}

-- ---- stored items

-- the strings of each stored item stand in JSON as they are
abbrev AreStoredPlain : Rows → Type 0
AreStoredPlain rows = (u : Bytes) (row : ItemRow) → HasItem rows u row → All AreUnescaped (strings_in (body_of row))

stored_plain : (rows : Rows) → IsSound rows → AreStoredPlain rows
stored_plain rows sound u row has = by_deletion row.deleted refl
  where
    by_deletion : (b : Bool) → row.deleted ≡ b → All AreUnescaped (strings_in (body_of row))
    by_deletion true gone =
        subst (λ (b : Bool). All AreUnescaped (strings_in (if b then body.Deleted else body.Strings row.content row.enc))) (sym gone) (All-nil AreUnescaped)
    by_deletion false live =
        let sealed = (sound.items u row has).sealed live in
        subst (λ (b : Bool). All AreUnescaped (strings_in (if b then body.Deleted else body.Strings row.content row.enc))) (sym live)
        (All-cons AreUnescaped row.content (row.enc ∷ []) (sealed_are_unescaped row.content sealed.0.0 sealed.0.1)
        (All-cons AreUnescaped row.enc [] (sealed_are_unescaped row.enc sealed.1.0 sealed.1.1) (All-nil AreUnescaped)))

-- the strings that are given of a row are at most those that it has
size_of_row : (row : ItemRow) → strings_size (body_of row) ≤ weight row
size_of_row row = by_deletion row.deleted refl
  where
    by_deletion : (b : Bool) → row.deleted ≡ b → strings_size (body_of row) ≤ weight row
    by_deletion true gone = (let e = ap (λ (b : Bool). strings_size (if b then body.Deleted else body.Strings row.content row.enc)) gone in omega arith)
    by_deletion false live = (let e = ap (λ (b : Bool). strings_size (if b then body.Deleted else body.Strings row.content row.enc)) live in omega arith)

-- a row has at most so many
weight_of_row : (row : ItemRow) → weight row ≤ 2097152
weight_of_row row =
    let content = lengths 0 1048576 row.content row.content_fits in
    let enc = lengths 0 1048576 row.enc row.enc_fits in
    omega arith

slim_given : (u : Bytes) (row : ItemRow) (i : Item) → IsGiven u row i → All AreUnescaped (strings_in (body_of row)) → IsSlim i
slim_given u row i given plain =
    let long = lengths 0 255 row.kind row.kind_fits in
    let kinds = ap length given.kind in
    let stamp = length-stamp given.stamp row.updated given.spelled in
    let short : NamesShortly (Some given.stamp) = omega arith in
    record {
      kind = omega arith;
      named = subst NamesShortly (sym given.updated) short;
      unescaped = subst (λ (b : Body). All AreUnescaped (strings_in b)) (sym given.body) plain;
    }

-- ---- sent items

fits_kind : (b : Body) (kind : Bytes) → FitsKind b kind → length kind ≤ 255
fits_kind body.Deleted kind fits = fits
fits_kind (body.Strings content enc) kind fits = fits.1

-- an item that was sent: it is slim
slim_sent : (i : Item) → FitsSent i → All AreUnescaped (strings_in i.body) → NamesShortly i.updated_at → IsSlim i
slim_sent i fits plain named = record { kind = fits_kind i.body i.kind fits.kind; named = named; unescaped = plain }

-- ---- what was dealt with

-- so many items, whose strings have so many bytes
record Weighed (p : Progress) (count size : ℕ) : Type 0 where
  many : length p.saved + length p.conflicts ≤ count
  light : sum_by item_size p.saved + sum_by conflict_size p.conflicts ≤ size + p.bytes
  bounded : p.bytes ≤ 6291456
  saved : All IsSlim p.saved
  conflicts : All IsSlimConflict p.conflicts
  plain : AreStoredPlain p.rows

-- one more is saved
more_saved : (p : Progress) (i : Item) (count size more : ℕ) (rows : Rows) (last : ℕ) (changes : List Change) → item_size i ≤ more → IsSlim i → AreStoredPlain rows
    → Weighed p count size
    → Weighed (record p { rows = rows; last = last; changes = changes; saved = p.saved ++ i ∷ [] }) (count + 1) (size + more)
more_saved p i count size more rows last changes within slim plain w =
    let many = w.many in
    let light = w.light in
    let sizes = sum_by-append item_size p.saved (i ∷ []) in
    let places = length-append p.saved (i ∷ []) in
    record {
      many = omega arith;
      light = omega arith;
      bounded = w.bounded;
      saved = All-append IsSlim p.saved (i ∷ []) w.saved (All-cons IsSlim i [] slim (All-nil IsSlim));
      conflicts = w.conflicts;
      plain = plain;
    }

-- one more conflicts, of which so many bytes are counted
more_conflicts : (p : Progress) (c : Conflict) (count size more bytes : ℕ) → conflict_size c ≤ more + bytes → p.bytes + bytes ≤ 6291456 → IsSlimConflict c
    → Weighed p count size → Weighed (record p { conflicts = p.conflicts ++ c ∷ []; bytes = p.bytes + bytes }) (count + 1) (size + more)
more_conflicts p c count size more bytes within low slim w =
    let many = w.many in
    let light = w.light in
    let sizes = sum_by-append conflict_size p.conflicts (c ∷ []) in
    let places = length-append p.conflicts (c ∷ []) in
    record {
      many = omega arith;
      light = omega arith;
      bounded = low;
      saved = w.saved;
      conflicts = All-append IsSlimConflict p.conflicts (c ∷ []) w.conflicts (All-cons IsSlimConflict c [] slim (All-nil IsSlimConflict));
      plain = w.plain;
    }

-- likewise, of which none is counted
more_unsaved : (p : Progress) (c : Conflict) (count size more : ℕ) → conflict_size c ≤ more → IsSlimConflict c
    → Weighed p count size → Weighed (record p { conflicts = p.conflicts ++ c ∷ [] }) (count + 1) (size + more)
more_unsaved p c count size more within slim w =
    let many = w.many in
    let light = w.light in
    let sizes = sum_by-append conflict_size p.conflicts (c ∷ []) in
    let places = length-append p.conflicts (c ∷ []) in
    record {
      many = omega arith;
      light = omega arith;
      bounded = w.bounded;
      saved = w.saved;
      conflicts = All-append IsSlimConflict p.conflicts (c ∷ []) w.conflicts (All-cons IsSlimConflict c [] slim (All-nil IsSlimConflict));
      plain = w.plain;
    }

module _ (present : Params) (now n : ℕ) where
  -- an accepted item's strings stand as they are
  plain_after : (p : Progress) (i : Item) (row : ItemRow) (change : Change) → PutsVersion p n (stamp_of now p.last) i row change
      → All AreUnescaped (strings_in i.body) → AreStoredPlain p.rows → AreStoredPlain (rows_after p.rows (change ∷ []))
  plain_after p i row change puts plain stored u other has =
      elim (put_or_not p.rows change (key.Item i.uuid) (value.Item row) puts.puts (key.Item u)) [
        | inl same ↦ (let own = ap (rows_after p.rows (change ∷ [])) (sym same) ∙ put_here p.rows change (key.Item i.uuid) (value.Item row) puts.puts in
            let one : other ≡ row = cc in
            subst (λ (b : Body). All AreUnescaped (strings_in b)) (sym (ap body_of one ∙ puts.body)) plain)
        | inr old ↦ stored u other (sym old ∙ has)
      ]

  weighed_one : (p q : Progress) (i : Item) (count size : ℕ) → p.bytes ≤ most_bytes → IsSlim i → Takes present now n p i q → Weighed p count size
      → Weighed q (count + 1) (size + item_size i)
  weighed_one p q i count size looked slim (inl (foreign, e)) w =
      subst (λ (x : Progress). Weighed x (count + 1) (size + item_size i)) (sym e)
      (more_unsaved p (conflict.Uuid i) count size (item_size i) (omega arith) slim w)
  weighed_one p q i count size looked slim (inr (inl (row, given, held, same, gives, e))) w =
      let sizes = ap strings_size (gives.body ∙ same.0) in
      subst (λ (x : Progress). Weighed x (count + 1) (size + item_size i)) (sym e)
      (more_saved p given count size (item_size i) p.rows p.last p.changes (omega arith) (slim_given i.uuid row given gives (w.plain i.uuid row held.0)) w.plain w)
  weighed_one p q i count size looked slim (inr (inr (inl (row, given, held, apart, unnamed, gives, e)))) w =
      let sizes = ap strings_size gives.body in
      let within = size_of_row row in
      let heavy = weight_of_row row in
      subst (λ (x : Progress). Weighed x (count + 1) (size + item_size i)) (sym e)
      (more_conflicts p (conflict.Sync given) count size (item_size i) (weight row) (omega arith) (omega arith)
      (slim_given i.uuid row given gives (w.plain i.uuid row held.0)) w)
  weighed_one p q i count size looked slim (inr (inr (inr (inl (news, unread, e))))) w =
      subst (λ (x : Progress). Weighed x (count + 1) (size + item_size i)) (sym e)
      (more_unsaved p (conflict.Content i) count size (item_size i) (omega arith) slim w)
  weighed_one p q i count size looked slim (inr (inr (inr (inr (free, low, (row, change, given, puts, gives, e)))))) w =
      let sizes = ap strings_size (gives.body ∙ puts.body) in
      let plain = subst (λ (b : Body). All AreUnescaped (strings_in b)) (sym puts.body) slim.unescaped in
      subst (λ (x : Progress). Weighed x (count + 1) (size + item_size i)) (sym e)
      (more_saved p given count size (item_size i) (rows_after p.rows (change ∷ [])) (stamp_of now p.last) (p.changes ++ change ∷ []) (omega arith)
      (slim_given i.uuid row given gives plain) (plain_after p i row change puts slim.unescaped w.plain) w)

  weighed_more : (p : Progress) (count size more larger : ℕ) → count ≤ more → size ≤ larger → Weighed p count size → Weighed p more larger
  weighed_more p count size more larger up over w =
      let many = w.many in
      let light = w.light in
      record { many = omega arith; light = omega arith; bounded = w.bounded; saved = w.saved; conflicts = w.conflicts; plain = w.plain }

  weighed_all : (p q : Progress) (items : List Item) (count size : ℕ) → All IsSlim items → TakesAll present now n p items q → Weighed p count size
      → Weighed q (count + length items) (size + sum_by item_size items)
  weighed_all p q [] count size slim e w =
      weighed_more q count size (count + 0) (size + 0) (omega arith) (omega arith) (subst (λ (x : Progress). Weighed x count size) (sym e) w)
  weighed_all p q (i ∷ is) count size slim (inl (past, e)) w =
      weighed_more q count size _ _ (omega arith) (omega arith) (subst (λ (x : Progress). Weighed x count size) (sym e) w)
  weighed_all p q (i ∷ is) count size slim (inr (looked, (mid, takes, others))) w =
      let sizes = sum_by-cons item_size i is in
      weighed_more q ((count + 1) + length is) ((size + item_size i) + sum_by item_size is) _ _ (omega arith) (omega arith)
      (weighed_all mid q is (count + 1) (size + item_size i) (All-tail IsSlim i is slim) others
      (weighed_one p mid i count size looked (All-head IsSlim i is slim) takes w))

-- ---- the page

abbrev IsPlainFound : Found → Type 0
IsPlainFound f = All AreUnescaped (strings_in (body_of f.1))

-- what is given of a page: as many items, with at most its bytes
record Paged (page : List Found) (items : List Item) : Type 0 where
  many : length items ≡ length page
  light : sum_by item_size items ≤ sum_by (λ (f : Found). weight f.1) page
  slim : All IsSlim items

paged : (page : List Found) (items : List Item) → All IsPlainFound page → AreGiven page items → Paged page items
paged [] [] plain given = record { many = refl; light = omega arith; slim = All-nil IsSlim }
paged [] (i ∷ items) plain given = absurd given
paged (f ∷ page) [] plain given = absurd given
paged (f ∷ page) (i ∷ items) plain given =
    let others : Paged page items = paged page items (All-tail IsPlainFound f page plain) given.1 in
    let light = others.light in
    let sizes = ap strings_size given.0.body in
    let within = size_of_row f.1 in
    let given_sizes = sum_by-cons item_size i items in
    let page_sizes = sum_by-cons (λ (g : Found). weight g.1) f page in
    record {
      many = ap suc others.many;
      light = omega arith;
      slim = All-cons IsSlim i items (slim_given f.0 f.1 i given.0 (All-head IsPlainFound f page plain)) others.slim;
    }

page_plain : (rows : Rows) (n above : ℕ) (first : Bool) (limit : ℕ) (page left : List Found) → AreStoredPlain rows → IsPage rows n above first limit page left
    → All IsPlainFound page
page_plain rows n above first limit page left plain is k d within =
    let f : Found = get_or page k d in
    let has : Contains (page ++ left) f = Contains-append_left page left f (All-contains_itself page k d within) in
    plain f.0 f.1 ((is.all.whole f.0 f.1).0 has).0

-- a page of at most 500 items has at most so many, and so many bytes
record IsLight (page : List Found) : Type 0 where
  few : length page ≤ 500
  light : sum_by (λ (f : Found). weight f.1) page ≤ 4194304

single_light : (page : List Found) → length page ≡ 1 → IsLight page
single_light [] one = absurd (omega arith)
single_light (f ∷ []) one = (let heavy = weight_of_row f.1 in record { few = omega arith; light = omega arith })
single_light (f ∷ g ∷ page) one = absurd (omega arith)

page_light : (rows : Rows) (n above : ℕ) (first : Bool) (limit : ℕ) (page left : List Found) → limit ≤ 500 → IsPage rows n above first limit page left → IsLight page
page_light rows n above first limit page left low is =
    ⊎_elim
    (λ (fits : FitsPage limit page). (let few = fits.0 in let light = fits.1 in record { few = omega arith; light = omega arith }))
    (λ (one : length page ≡ 1). single_light page one)
    is.fits

-- ---- the texts

length-token : (token : Bytes) (stamp : ℕ) → IsToken token stamp → length (compact_text (string token)) ≤ 170
length-token token stamp is =
    let few = length-token-le token stamp is in
    let long = length-quoted token in
    omega arith

length-cursor : (cursor : Option Bytes) (token : Bytes) (stamp : ℕ) → IsToken token stamp → (cursor ≡ None) ⊎ (cursor ≡ Some token)
    → length (compact_text (optional_data cursor)) ≤ 170
length-cursor cursor token stamp is (inl none) = (let e = ap (λ (o : Option Bytes). length (compact_text (optional_data o))) none in omega arith)
length-cursor cursor token stamp is (inr some) =
    let e = ap (λ (o : Option Bytes). length (compact_text (optional_data o))) some in
    let size = length-token token stamp is in
    omega arith

-- both tokens are short
record AreShortTokens (cursor : Option Bytes) (token : Bytes) : Type 0 where
  cursor_short : length (compact_text (optional_data cursor)) ≤ 170
  token_short : length (compact_text (string token)) ≤ 170

short_tokens : (rows : Rows) (n : ℕ) (page left : List Found) (cursor : Option Bytes) (token : Bytes) → AreTokens rows n page left cursor token
    → AreShortTokens cursor token
short_tokens rows n page [] cursor token (none, (stamp, is, spells)) =
    record { cursor_short = length-cursor cursor token stamp spells (inl none); token_short = length-token token stamp spells }
short_tokens rows n page (f ∷ left) cursor token (some, (stamp, is, spells)) =
    record { cursor_short = length-cursor cursor token stamp spells (inr some); token_short = length-token token stamp spells }

length-synced : (cs gs ss : Items) (cursor : Option Bytes) (token : Bytes)
    → length (compact_text (synced_data cs cursor gs ss token))
    ≤ 400 + length (compact_text (array cs)) + length (compact_text (optional_data cursor)) + length (compact_text (array gs))
    + length (compact_text (array ss)) + length (compact_text (string token))
length-synced cs gs ss cursor token =
    let fifth : Members = member (codes "sync_token") (string token) no_members in
    let fourth : Members = member (codes "saved_items") (array ss) fifth in
    let third : Members = member (codes "retrieved_items") (array gs) fourth in
    let second : Members = member (codes "cursor_token") (optional_data cursor) third in
    let a = length-member false (codes "conflicts") (array cs) second in
    let b = length-member true (codes "cursor_token") (optional_data cursor) third in
    let c = length-member true (codes "retrieved_items") (array gs) fourth in
    let d = length-member true (codes "saved_items") (array ss) fifth in
    let e = length-member true (codes "sync_token") (string token) no_members in
    omega arith

-- ---- a sync that is served

module _ (rows : Rows) (sound : IsSound rows) (store : StoreRow) (n : ℕ) (present : Params) (items : List Item) (limit : ℕ) (low : limit ≤ 500)
    (sync cursor : Option ℕ) (now : ℕ) (changes : List Change) (given : Answer) (fits : All FitsSent items) (modest : IsModest items) where
  slim_all : All IsSlim items
  slim_all k d within =
      slim_sent (get_or items k d) (fits k d within) (modest.unescaped k d within) (modest.named k d within)

  first_weighed : Weighed (start rows store) 0 0
  first_weighed = record {
    many = omega arith;
    light = omega arith;
    bounded = omega arith;
    saved = All-nil IsSlim;
    conflicts = All-nil IsSlimConflict;
    plain = stored_plain rows sound;
  }

  synced_short : (text : Bytes) → (s : Synced rows store n present items limit sync cursor now changes given)
      → WritesAnswer (answer.Sync s.end.conflicts s.cursor_token s.retrieved s.end.saved s.sync_token) text → length text ≤ 33554432
  synced_short text s (d, (cs, gs, ss, are_conflicts, are_retrieved, are_saved, is), json) =
      let w : Weighed s.end (0 + length items) (0 + sum_by item_size items) =
      weighed_all present now n (start rows store) s.end items 0 0 slim_all s.taken first_weighed in
      let p : Paged s.page s.retrieved = paged s.page s.retrieved (page_plain rows n _ _ limit s.page s.left (stored_plain rows sound) s.is_page) s.retrieved_are in
      let l : IsLight s.page = page_light rows n _ _ limit s.page s.left low s.is_page in
      let t : AreShortTokens s.cursor_token s.sync_token = short_tokens s.end.rows n s.page s.left s.cursor_token s.sync_token s.tokens in
      let conflicts = length-conflicts false s.end.conflicts cs are_conflicts w.conflicts in
      let retrieved = length-items false s.retrieved gs are_retrieved p.slim in
      let saved = length-items false s.end.saved ss are_saved w.saved in
      let whole = length-synced cs gs ss s.cursor_token s.sync_token in
      let size = ap length json.compact ∙ ap (λ (x : Data). length (compact_text x)) is in
      let few = modest.few in
      let light = modest.light in
      let places = w.many in
      let bytes = w.light in
      let bounded = w.bounded in
      let given_places = p.many in
      let given_bytes = p.light in
      let page_places = l.few in
      let page_bytes = l.light in
      let cursor_size = t.cursor_short in
      let token_size = t.token_short in
      omega arith

-- ---- refusals

-- a refusal's further members are short
abbrev IsShortMore : More → Type 0
IsShortMore more.Nothing = Unit {0}
IsShortMore (more.Name name) = length name ≤ 255
IsShortMore (more.Number n) = n < 10 ^ 18
IsShortMore (more.Uuid uuid) = Unit {0}
IsShortMore (more.Both n uuid) = n < 10 ^ 18

length-number : (n : ℕ) → n < 10 ^ 18 → length (compact_text (number (unsigned n))) ≤ 18
length-number n low = length-decimal-le 18 n (omega arith) low (omega arith)

length-error : (tag : Bytes) (further : More) → length tag ≤ 255 → IsShortMore further → length (compact_text (error_data tag further)) ≤ 4000
length-error tag more.Nothing short is =
    let a = length-member false (codes "tag") (string tag) no_members in
    let size = length-quoted tag in
    omega arith
length-error tag (more.Name name) short is =
    let a = length-member false (codes "name") (string name) (member (codes "tag") (string tag) no_members) in
    let b = length-member true (codes "tag") (string tag) no_members in
    let size = length-quoted tag in
    let other = length-quoted name in
    omega arith
length-error tag (more.Number n) short is =
    let a = length-member false (codes "number") (number (unsigned n)) (member (codes "tag") (string tag) no_members) in
    let b = length-member true (codes "tag") (string tag) no_members in
    let size = length-quoted tag in
    let digits = length-number n is in
    omega arith
length-error tag (more.Uuid uuid) short is =
    let a = length-member false (codes "tag") (string tag) (member (codes "uuid") (uuid_data uuid) no_members) in
    let b = length-member true (codes "uuid") (uuid_data uuid) no_members in
    let size = length-quoted tag in
    let other = length-uuid uuid in
    omega arith
length-error tag (more.Both n uuid) short is =
    let a = length-member false (codes "number") (number (unsigned n)) (member (codes "tag") (string tag) (member (codes "uuid") (uuid_data uuid) no_members)) in
    let b = length-member true (codes "tag") (string tag) (member (codes "uuid") (uuid_data uuid) no_members) in
    let c = length-member true (codes "uuid") (uuid_data uuid) no_members in
    let size = length-quoted tag in
    let digits = length-number n is in
    let other = length-uuid uuid in
    omega arith

refused_short : (status : ℕ) (tag : Bytes) (further : More) (given : Answer) (text : Bytes) → length tag ≤ 255 → IsShortMore further
    → given ≡ answer.Refused status tag further → WritesAnswer given text → length text ≤ 33554432
refused_short status tag further given text short is e writes =
    let own : WritesAnswer (answer.Refused status tag further) text = subst (λ (a : Answer). WritesAnswer a text) e writes in
    let size = ap length own.2.compact ∙ ap (λ (x : Data). length (compact_text x)) own.1 in
    let whole = length-member false (codes "error") (error_data tag further) no_members in
    let inner = length-error tag further short is in
    omega arith

-- ---- all

-- a string that is too long has no more bytes than all of them
long_within : (items : List Item) (uuid : Bytes) (size : ℕ) → IsFirstLong items uuid size → size ≤ sum_by item_size items
long_within items uuid size x =
    let parts = ap (sum_by item_size) x.split ∙ sum_by-append item_size x.front (x.item ∷ x.later) in
    let strings = sum_of x.item.body in
    let inner = ap (sum_by (λ (s : Bytes). length s)) x.long.split ∙ sum_by-append (λ (s : Bytes). length s) x.long.short (x.long.long ∷ x.long.others) in
    let is = x.long.size_is in
    let own = sum_by-cons item_size x.item x.later in
    let long = sum_by-cons (λ (s : Bytes). length s) x.long.long x.long.others in
    omega arith
  where
    sum_of : (b : Body) → sum_by (λ (s : Bytes). length s) (strings_in b) ≡ strings_size b
    sum_of body.Deleted = refl
    sum_of (body.Strings content enc) = omega arith

module _ (rows : Rows) (sound : IsSound rows) (store : StoreRow) (has : HasStore rows store) (items : List Item) (limit : ℕ) (low : limit ≤ 500) (now : ℕ)
    (changes : List Change) (given : Answer) (fits : All FitsSent items) (modest : IsModest items) (text : Bytes) (writes : WritesAnswer given text) where
  serves_short : (n : ℕ) (sync cursor : Option ℕ) → Serves rows store n items limit sync cursor now changes given → length text ≤ 33554432
  serves_short n sync cursor (present, is, inl (out, r)) =
      let last : store.last ≤ last_stamp = store.last_fits in
      refused_short 409 (codes "stamps-used") (more.Number store.last) given text (omega arith) (omega arith) r.1 writes
  serves_short n sync cursor (present, is, inr s) =
      synced_short rows sound store n present items limit low sync cursor now changes given fits modest text s
      (subst (λ (a : Answer). WritesAnswer a text) s.answers writes)

  bounded_short : (n : ℕ) (sync cursor : Option ℕ) → ServesBounded rows store n items limit sync cursor now changes given → length text ≤ 33554432
  bounded_short n sync cursor (inl (wide, r)) = (let few = modest.few in absurd (omega arith))
  bounded_short n sync cursor (inr (inl (few, uuid, size, long, r))) =
      let within = long_within items uuid size long in
      let light = modest.light in
      refused_short 413 (codes "long") (more.Both size uuid) given text (omega arith) (omega arith) r.1 writes
  bounded_short n sync cursor (inr (inr (few, short, serves))) = serves_short n sync cursor serves

  syncs_short : (token : Bytes) (sync_token cursor_token : Option Bytes) → Syncs rows store token items limit sync_token cursor_token now changes given
      → length text ≤ 33554432
  syncs_short token sync_token cursor_token (inl (none, r)) = refused_short 401 (codes "bad-auth") more.Nothing given text (omega arith) tt r.1 writes
  syncs_short token sync_token cursor_token (inr (n, is, inl (bad, r))) =
      refused_short 400 (codes "bad-token") (more.Name (codes "sync_token")) given text (omega arith) (omega arith) r.1 writes
  syncs_short token sync_token cursor_token (inr (n, is, inr (inl (sync, at, bad, r)))) =
      refused_short 400 (codes "bad-token") (more.Name (codes "cursor_token")) given text (omega arith) (omega arith) r.1 writes
  syncs_short token sync_token cursor_token (inr (n, is, inr (inr (sync, cursor, at, too, serves)))) = bounded_short n sync cursor serves

pub answers_are_short : AnswersAreShort
answers_are_short rows token items limit sync_token cursor_token now changes given text sound (fits, least, most) modest (store, has, rule) writes =
    syncs_short rows sound store has items limit most now changes given fits modest text writes token sync_token cursor_token rule

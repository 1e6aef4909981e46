-- Changes with equal columns are equal; so what is spelled is what is read.
use Rattle.std.proofs.Common.{◌≡◌, ◌≢◌, ◌⊎◌, inl, inr, ℕ, Bool, false, List, [], ◌∷◌, length, Option, Some, None, Result, Ok, Err, refl, sym, ap, subst, ◌∙◌, ◌≤◌}
use Rattle.std.specs.Prelude.{IfOk, IfErr, MatchResult, IsTrue}
use Rattle.std.specs.Option.{ForSome}
use Rattle.std.proofs.Props.{props}
use Rattle.sn_rows.specs.Bounds.{is_device_string, is_identifier, is_nonce, is_type, is_type_or_empty, is_server_string, is_token, is_sync_token, last_stamp}
use Rattle.sn_rows.specs.Kinds.{key_kind, value_kind}
use Rattle.sn_rows.specs.Columns.{key_cells, value_cells, body_of}
use Rattle.sn_rows.specs.Spelling.{Entry, entry_of, entries_of, spelled, AreInForm}
use Rattle.sn_rows.specs.Laws.{Spells, IsAnswer}
use Rattle.sn_rows.specs.Faults.{IsRefusal}
use Rattle.sn_rows.specs.Reading.{payload_at, Fails, Gives}
use Rattle.sn_rows.specs.declared.key.Key.{Key}
use Rattle.sn_rows.specs.declared.key.Key.TheVariants as key
use Rattle.sn_rows.specs.declared.body.RowBody.{RowBody}
use Rattle.sn_rows.specs.declared.body.RowBody.TheVariants.{Deleted, Sealed}
use Rattle.sn_rows.specs.declared.body.RowStrings.{RowStrings}
use Rattle.sn_rows.specs.declared.server_rows.StoreRow.{StoreRow}
use Rattle.sn_rows.specs.declared.server_rows.AccountRow.{AccountRow}
use Rattle.sn_rows.specs.declared.server_rows.GenerationRow.{GenerationRow}
use Rattle.sn_rows.specs.declared.server_rows.ItemRow.{ItemRow}
use Rattle.sn_rows.specs.declared.device_rows.OwnerRow.{OwnerRow}
use Rattle.sn_rows.specs.declared.device_rows.SetRow.{SetRow}
use Rattle.sn_rows.specs.declared.device_rows.LocalItem.{LocalItem}
use Rattle.sn_rows.specs.declared.value.Value.{Value}
use Rattle.sn_rows.specs.declared.value.Value.TheVariants as value
use Rattle.sn_rows.specs.declared.change.Row.{Row}
use Rattle.sn_rows.specs.declared.change.Change.{Change}
use Rattle.sn_rows.specs.declared.change.Change.TheVariants.{Put, Remove}
use Rattle.sn_rows.specs.declared.error.RowError.{RowError}
use Rattle.sn_rows.specs.declared.error.RowError.TheVariants as error
use Rattle.sn_rows.proofs.FieldLemmas.{IsBytes, ok_is}
use Rattle.sn_rows.proofs.ColumnLemmas.{payload_takes, payload_again}
use Rattle.sn_rows.proofs.FaultAgain.{refusal_so}
use Rattle.sn_rows.proofs.FaultChanges.{refused_so}

strings_same : (a b : RowStrings) → a.content ≡ b.content → a.enc ≡ b.enc → a ≡ b
strings_same a b e0 e1 =
    let P : (List ℕ × List ℕ) → Type 0 = λ t. (g0 : IsTrue (is_device_string t.0)) → (g1 : IsTrue (is_device_string t.1)) → a ≡ record { content = t.0; enc = t.1; content_fits = g0; enc_fits = g1 } in
    let p0 : IsProp (IsTrue (is_device_string a.content)) = hlevel props in
    let p1 : IsProp (IsTrue (is_device_string a.enc)) = hlevel props in
    let same : (a.content, a.enc) ≡ (b.content, b.enc) = cc in
    subst P same (λ g0 g1. λ i. record { content = a.content; enc = a.enc; content_fits = p0 a.content_fits g0 i; enc_fits = p1 a.enc_fits g1 i }) b.content_fits b.enc_fits

store_same : (a b : StoreRow) → a.secret ≡ b.secret → a.last ≡ b.last → a.accounts ≡ b.accounts → a ≡ b
store_same a b e0 e1 e2 =
    let P : (List ℕ × ℕ × ℕ) → Type 0 = λ t. (g0 : t.1 ≤ last_stamp) → a ≡ record { secret = t.0; last = t.1; accounts = t.2; last_fits = g0 } in
    let p0 : IsProp (a.last ≤ last_stamp) = hlevel props in
    let same : (a.secret, a.last, a.accounts) ≡ (b.secret, b.last, b.accounts) = cc in
    subst P same (λ g0. λ i. record { secret = a.secret; last = a.last; accounts = a.accounts; last_fits = p0 a.last_fits g0 i }) b.last_fits

account_same : (a b : AccountRow) → a.identifier ≡ b.identifier → a.generation ≡ b.generation → a.check ≡ b.check → a ≡ b
account_same a b e0 e1 e2 =
    let P : (List ℕ × ℕ × List ℕ) → Type 0 = λ t. (g0 : IsTrue (is_identifier t.0)) → a ≡ record { identifier = t.0; generation = t.1; check = t.2; identifier_fits = g0 } in
    let p0 : IsProp (IsTrue (is_identifier a.identifier)) = hlevel props in
    let same : (a.identifier, a.generation, a.check) ≡ (b.identifier, b.generation, b.check) = cc in
    subst P same (λ g0. λ i. record { identifier = a.identifier; generation = a.generation; check = a.check; identifier_fits = p0 a.identifier_fits g0 i }) b.identifier_fits

generation_same : (a b : GenerationRow) → a.pw_cost ≡ b.pw_cost → a.pw_nonce ≡ b.pw_nonce → a ≡ b
generation_same a b e0 e1 =
    let P : (ℕ × List ℕ) → Type 0 = λ t. (g0 : 1 ≤ t.0) → (g1 : IsTrue (is_nonce t.1)) → (g2 : t.0 ≤ 4294967295) → a ≡ record { pw_cost = t.0; pw_nonce = t.1; cost_fits = g0; nonce_fits = g1; cost_bounded = g2 } in
    let p0 : IsProp (1 ≤ a.pw_cost) = hlevel props in
    let p1 : IsProp (IsTrue (is_nonce a.pw_nonce)) = hlevel props in
    let p2 : IsProp (a.pw_cost ≤ 4294967295) = hlevel props in
    let same : (a.pw_cost, a.pw_nonce) ≡ (b.pw_cost, b.pw_nonce) = cc in
    subst P same (λ g0 g1 g2. λ i. record { pw_cost = a.pw_cost; pw_nonce = a.pw_nonce; cost_fits = p0 a.cost_fits g0 i; nonce_fits = p1 a.nonce_fits g1 i; cost_bounded = p2 a.cost_bounded g2 i }) b.cost_fits b.nonce_fits b.cost_bounded

pub item_same : (a b : ItemRow) → a.account ≡ b.account → a.kind ≡ b.kind → a.created ≡ b.created → a.updated ≡ b.updated → a.deleted ≡ b.deleted → a.content ≡ b.content → a.enc ≡ b.enc → a ≡ b
item_same a b e0 e1 e2 e3 e4 e5 e6 =
    let P : (ℕ × List ℕ × ℕ × ℕ × Bool × List ℕ × List ℕ) → Type 0 = λ t. (g0 : IsTrue (is_type_or_empty t.1)) → (g1 : (t.4 ≡ false → 1 ≤ length t.1)) → (g2 : t.2 ≤ last_stamp) → (g3 : t.3 ≤ last_stamp) → (g4 : IsTrue (is_server_string t.5)) → (g5 : IsTrue (is_server_string t.6)) → a ≡ record { account = t.0; kind = t.1; created = t.2; updated = t.3; deleted = t.4; content = t.5; enc = t.6; kind_fits = g0; kind_stands = g1; created_fits = g2; updated_fits = g3; content_fits = g4; enc_fits = g5 } in
    let p0 : IsProp (IsTrue (is_type_or_empty a.kind)) = hlevel props in
    let p1 : IsProp ((a.deleted ≡ false → 1 ≤ length a.kind)) = hlevel props in
    let p2 : IsProp (a.created ≤ last_stamp) = hlevel props in
    let p3 : IsProp (a.updated ≤ last_stamp) = hlevel props in
    let p4 : IsProp (IsTrue (is_server_string a.content)) = hlevel props in
    let p5 : IsProp (IsTrue (is_server_string a.enc)) = hlevel props in
    let same : (a.account, a.kind, a.created, a.updated, a.deleted, a.content, a.enc) ≡ (b.account, b.kind, b.created, b.updated, b.deleted, b.content, b.enc) = cc in
    subst P same (λ g0 g1 g2 g3 g4 g5. λ i. record { account = a.account; kind = a.kind; created = a.created; updated = a.updated; deleted = a.deleted; content = a.content; enc = a.enc; kind_fits = p0 a.kind_fits g0 i; kind_stands = p1 a.kind_stands g1 i; created_fits = p2 a.created_fits g2 i; updated_fits = p3 a.updated_fits g3 i; content_fits = p4 a.content_fits g4 i; enc_fits = p5 a.enc_fits g5 i }) b.kind_fits b.kind_stands b.created_fits b.updated_fits b.content_fits b.enc_fits

owner_same : (a b : OwnerRow) → a.identifier ≡ b.identifier → a.account ≡ b.account → a.token ≡ b.token → a.sync_token ≡ b.sync_token → a.cursor_token ≡ b.cursor_token → a.next ≡ b.next → a ≡ b
owner_same a b e0 e1 e2 e3 e4 e5 =
    let P : (List ℕ × List ℕ × List ℕ × List ℕ × List ℕ × ℕ) → Type 0 = λ t. (g0 : IsTrue (is_identifier t.0)) → (g1 : IsTrue (is_token t.2)) → (g2 : IsTrue (is_sync_token t.3)) → (g3 : IsTrue (is_sync_token t.4)) → a ≡ record { identifier = t.0; account = t.1; token = t.2; sync_token = t.3; cursor_token = t.4; next = t.5; identifier_fits = g0; token_fits = g1; sync_token_fits = g2; cursor_token_fits = g3 } in
    let p0 : IsProp (IsTrue (is_identifier a.identifier)) = hlevel props in
    let p1 : IsProp (IsTrue (is_token a.token)) = hlevel props in
    let p2 : IsProp (IsTrue (is_sync_token a.sync_token)) = hlevel props in
    let p3 : IsProp (IsTrue (is_sync_token a.cursor_token)) = hlevel props in
    let same : (a.identifier, a.account, a.token, a.sync_token, a.cursor_token, a.next) ≡ (b.identifier, b.account, b.token, b.sync_token, b.cursor_token, b.next) = cc in
    subst P same (λ g0 g1 g2 g3. λ i. record { identifier = a.identifier; account = a.account; token = a.token; sync_token = a.sync_token; cursor_token = a.cursor_token; next = a.next; identifier_fits = p0 a.identifier_fits g0 i; token_fits = p1 a.token_fits g1 i; sync_token_fits = p2 a.sync_token_fits g2 i; cursor_token_fits = p3 a.cursor_token_fits g3 i }) b.identifier_fits b.token_fits b.sync_token_fits b.cursor_token_fits

set_same : (a b : SetRow) → a.pw_cost ≡ b.pw_cost → a.pw_nonce ≡ b.pw_nonce → a.pw ≡ b.pw → a.mk ≡ b.mk → a.ak ≡ b.ak → a ≡ b
set_same a b e0 e1 e2 e3 e4 =
    let P : (ℕ × List ℕ × List ℕ × List ℕ × List ℕ) → Type 0 = λ t. (g0 : 1 ≤ t.0) → (g1 : IsTrue (is_nonce t.1)) → (g2 : t.0 ≤ 4294967295) → a ≡ record { pw_cost = t.0; pw_nonce = t.1; pw = t.2; mk = t.3; ak = t.4; cost_fits = g0; nonce_fits = g1; cost_bounded = g2 } in
    let p0 : IsProp (1 ≤ a.pw_cost) = hlevel props in
    let p1 : IsProp (IsTrue (is_nonce a.pw_nonce)) = hlevel props in
    let p2 : IsProp (a.pw_cost ≤ 4294967295) = hlevel props in
    let same : (a.pw_cost, a.pw_nonce, a.pw, a.mk, a.ak) ≡ (b.pw_cost, b.pw_nonce, b.pw, b.mk, b.ak) = cc in
    subst P same (λ g0 g1 g2. λ i. record { pw_cost = a.pw_cost; pw_nonce = a.pw_nonce; pw = a.pw; mk = a.mk; ak = a.ak; cost_fits = p0 a.cost_fits g0 i; nonce_fits = p1 a.nonce_fits g1 i; cost_bounded = p2 a.cost_bounded g2 i }) b.cost_fits b.nonce_fits b.cost_bounded

local_same : (a b : LocalItem) → a.uuid ≡ b.uuid → a.kind ≡ b.kind → a.base ≡ b.base → a.stale ≡ b.stale → a.body ≡ b.body → a.latest ≡ b.latest → a.posted ≡ b.posted → a ≡ b
local_same a b e0 e1 e2 e3 e4 e5 e6 =
    let P : (List ℕ × List ℕ × Option ℕ × Bool × Option RowBody × Option RowBody × Option RowBody) → Type 0 = λ t. (g0 : IsTrue (is_type t.1)) → (g1 : ForSome t.2 (λ stamp. stamp ≤ last_stamp)) → a ≡ record { uuid = t.0; kind = t.1; base = t.2; stale = t.3; body = t.4; latest = t.5; posted = t.6; kind_fits = g0; base_fits = g1 } in
    let p0 : IsProp (IsTrue (is_type a.kind)) = hlevel props in
    let p1 : IsProp (ForSome a.base (λ stamp. stamp ≤ last_stamp)) = hlevel props in
    let same : (a.uuid, a.kind, a.base, a.stale, a.body, a.latest, a.posted) ≡ (b.uuid, b.kind, b.base, b.stale, b.body, b.latest, b.posted) = cc in
    subst P same (λ g0 g1. λ i. record { uuid = a.uuid; kind = a.kind; base = a.base; stale = a.stale; body = a.body; latest = a.latest; posted = a.posted; kind_fits = p0 a.kind_fits g0 i; base_fits = p1 a.base_fits g1 i }) b.kind_fits b.base_fits

body_same : (x y : Option RowBody) → body_of x ≡ body_of y → x ≡ y
body_same None None e = refl
body_same (Some Deleted) (Some Deleted) e = refl
body_same (Some (Sealed s)) (Some (Sealed t)) e =
    let pairs : (s.content, s.enc) ≡ (t.content, t.enc) = cc in
    ap (λ (z : RowStrings). Some (Sealed z)) (strings_same s t (ap (λ (q : List ℕ × List ℕ). q.0) pairs) (ap (λ (q : List ℕ × List ℕ). q.1) pairs))
body_same None (Some Deleted) e = absurd cc
body_same None (Some (Sealed t)) e = absurd cc
body_same (Some Deleted) None e = absurd cc
body_same (Some (Sealed s)) None e = absurd cc
body_same (Some Deleted) (Some (Sealed t)) e = absurd cc
body_same (Some (Sealed s)) (Some Deleted) e = absurd cc

key_same : (a b : Key) → key_kind a ≡ key_kind b → key_cells a ≡ key_cells b → a ≡ b
key_same key.Store key.Store k e = refl
key_same (key.Account n) (key.Account m) k e = ap key.Account cc
key_same (key.Generation n g) (key.Generation m h) k e = (let f : n ≡ m = cc in let d : g ≡ h = cc in cc)
key_same (key.Item u) (key.Item w) k e = ap key.Item cc
key_same key.Owner key.Owner k e = refl
key_same (key.Set s) (key.Set t) k e = ap key.Set cc
key_same (key.Local n) (key.Local m) k e = ap key.Local cc
key_same a b k e = absurd cc

value_same : (a b : Value) → value_kind a ≡ value_kind b → value_cells a ≡ value_cells b → a ≡ b
value_same (value.Store a) (value.Store b) k e = ap value.Store (store_same a b (cc) (cc) (cc))
value_same (value.Account a) (value.Account b) k e = ap value.Account (account_same a b (cc) (cc) (cc))
value_same (value.Generation a) (value.Generation b) k e = ap value.Generation (generation_same a b (cc) (cc))
value_same (value.Item a) (value.Item b) k e = ap value.Item (item_same a b (cc) (cc) (cc) (cc) (cc) (cc) (cc))
value_same (value.Owner a) (value.Owner b) k e = ap value.Owner (owner_same a b (cc) (cc) (cc) (cc) (cc) (cc))
value_same (value.Set a) (value.Set b) k e = ap value.Set (set_same a b (cc) (cc) (cc) (cc) (cc))
value_same (value.Local a) (value.Local b) k e = ap value.Local (local_same a b (cc) (cc) (cc) (cc) (body_same a.body b.body (cc)) (body_same a.latest b.latest (cc)) (body_same a.posted b.posted (cc)))
value_same a b k e = absurd cc

row_same : (a b : Row) → a.key ≡ b.key → a.value ≡ b.value → a ≡ b
row_same a b e0 e1 =
    let P : (Key × Value) → Type 0 = λ t. (g0 : key_kind t.0 ≡ value_kind t.1) → a ≡ record { key = t.0; value = t.1; one_kind = g0 } in
    let p0 : IsProp (key_kind a.key ≡ value_kind a.value) = hlevel props in
    let same : (a.key, a.value) ≡ (b.key, b.value) = cc in
    subst P same (λ g0. λ i. record { key = a.key; value = a.value; one_kind = p0 a.one_kind g0 i }) b.one_kind

change_same : (a b : Change) → entry_of a ≡ entry_of b → a ≡ b
change_same (Put r) (Put s) e =
    let kinds : key_kind r.key ≡ key_kind s.key = cc in
    let keys : r.key ≡ s.key = key_same r.key s.key kinds (cc) in
    let values : r.value ≡ s.value = value_same r.value s.value (sym r.one_kind ∙ kinds ∙ s.one_kind) (cc) in
    ap Put (row_same r s keys values)
change_same (Remove k) (Remove l) e = ap Remove (key_same k l (cc) (cc))
change_same a b e = absurd cc

changes_same : (a b : List Change) → entries_of a ≡ entries_of b → a ≡ b
changes_same [] [] e = refl
changes_same (x ∷ xs) (y ∷ ys) e =
    let first : x ≡ y = change_same x y (cc) in
    let others : xs ≡ ys = changes_same xs ys cc in
    cc
changes_same a b e = absurd cc

pub is_found : (bytes : List ℕ) (r : Result (List Change) RowError) → IsBytes bytes → Gives (λ found. entries_of found) r (payload_at bytes) → IfOk r (λ found. (bytes ≡ spelled found) × AreInForm found)
is_found bytes (Ok found) fits given = payload_takes bytes (entries_of found) fits given
is_found bytes (Err e) fits given = tt

fails_so : (e : RowError) (r : Result (List Entry) RowError) → Fails e r → (e ≡ error.Memory) ⊎ (r ≡ Err e)
fails_so error.Memory r f = inl refl
fails_so (error.Short p) r f = inr f
fails_so (error.Kind p) r f = inr f
fails_so (error.Range p) r f = inr f
fails_so (error.Extra p) r f = inr f

pub is_refused : (bytes : List ℕ) (r : Result (List Change) RowError) → IsBytes bytes → Gives (λ found. entries_of found) r (payload_at bytes) → IfErr r (λ e. IsRefusal bytes e)
is_refused bytes (Ok found) fits given = tt
is_refused bytes (Err e) fits given = refused_so bytes e fits (fails_so e (payload_at bytes) given)

must_be_memory : (e : RowError) (r : Result (List Entry) RowError) (es : List Entry) → r ≡ Ok es → Fails e r → e ≡ error.Memory
must_be_memory error.Memory r es is f = refl
must_be_memory (error.Short p) r es is f = absurd cc
must_be_memory (error.Kind p) r es is f = absurd cc
must_be_memory (error.Range p) r es is f = absurd cc
must_be_memory (error.Extra p) r es is f = absurd cc

pub is_only : (bytes : List ℕ) (changes : List Change) (r : Result (List Change) RowError) → AreInForm changes → bytes ≡ spelled changes → Gives (λ found. entries_of found) r (payload_at bytes) → MatchResult r (λ found. found ≡ changes) (λ e. e ≡ error.Memory)
is_only bytes changes (Ok found) form e given =
    changes_same found changes (ok_is (entries_of found) (entries_of changes) (sym given ∙ ap payload_at e ∙ payload_again (entries_of changes) form))
is_only bytes changes (Err e') form e given = must_be_memory e' (payload_at bytes) (entries_of changes) (ap payload_at e ∙ payload_again (entries_of changes) form) given

pub one_reading : (bytes : List ℕ) (a b : List Change) → Spells bytes a → Spells bytes b → a ≡ b
one_reading bytes a b x y =
    changes_same a b (ok_is (entries_of a) (entries_of b) (sym (payload_again (entries_of a) x.1) ∙ ap payload_at (sym x.0 ∙ y.0) ∙ payload_again (entries_of b) y.1))

pub read_back : (changes : List Change) (bytes : List ℕ) → Spells bytes changes → (answer : Result (List Change) RowError) → IsAnswer bytes answer
    → MatchResult answer (λ found. found ≡ changes) (λ e. e ≡ error.Memory)
read_back changes bytes x (Ok found) is = one_reading bytes found changes is x
read_back changes bytes x (Err e) is =
    elim (refusal_so bytes e is) [
      | inl memory ↦ memory
      | inr other ↦ (
          let read : payload_at bytes ≡ Ok (entries_of changes) = ap payload_at x.0 ∙ payload_again (entries_of changes) x.1 in
          absurd (let never = sym other ∙ read in cc))
    ]

pub one_refusal : (bytes : List ℕ) (a b : RowError) → a ≢ error.Memory → b ≢ error.Memory → IsRefusal bytes a → IsRefusal bytes b → a ≡ b
one_refusal bytes a b not_a not_b x y =
    elim (refusal_so bytes a x) [
      | inl memory ↦ absurd (not_a memory)
      | inr first ↦ elim (refusal_so bytes b y) [
        | inl memory ↦ absurd (not_b memory)
        | inr second ↦ (let same = sym first ∙ second in cc)
      ]
    ]

-- The bytes that spell what a request changes are few enough for one batch.
use Rattle.std.proofs.Common.{◌≡◌, ℕ, suc, ◌+◌, ◌*◌, ◌≤◌, List, [], ◌∷◌, ◌++◌, length, Option, Some, None, Result, Ok, Err, IfOk, All, sym, ap, ◌∙◌, subst, inl, inr, arith, length-append}
use Rattle.std.specs.Int.{to_be_bytes, w32}
use Rattle.std.specs.List.{AllByRecursion}
use Rattle.std.proofs.lemmas.List.Concat.{flat_map-cons}
use Rattle.std.proofs.lemmas.List.Elements.{All-append, All-cons, All-from_recursion, All-head, All-nil, All-tail}
use Rattle.sn_rows.specs.Cells.{cells_bytes, counted}
use Rattle.sn_rows.specs.Columns.{key_cells, value_cells}
use Rattle.sn_rows.specs.Kinds.{key_kind}
use Rattle.sn_rows.specs.Spelling.{Entry, EntryInForm, entries_of, entry_bytes, entry_of, put, spelled}
use Rattle.sn_rows.specs.Table.{Puts, Rows, key_of}
use Rattle.sn_rows.specs.declared.change.Change.{Change}
use Rattle.sn_rows.specs.declared.change.Change.TheVariants.{Put, Remove}
use Rattle.sn_rows.specs.declared.key.Key.{Key}
use Rattle.sn_rows.specs.declared.key.Key.TheVariants as key
use Rattle.sn_rows.specs.declared.server_rows.AccountRow.{AccountRow}
use Rattle.sn_rows.specs.declared.server_rows.GenerationRow.{GenerationRow}
use Rattle.sn_rows.specs.declared.server_rows.ItemRow.{ItemRow}
use Rattle.sn_rows.specs.declared.server_rows.StoreRow.{StoreRow}
use Rattle.sn_rows.specs.declared.value.Value.{Value}
use Rattle.sn_rows.specs.declared.value.Value.TheVariants as value
use Rattle.sn_string.specs.declared.params.Params.{Params}
use Rattle.sha2.proofs.Facts256.{length-sha256}
use Rattle.sn_keys.specs.Keys.{check_value}
use Rattle.sn_sync.specs.Laws.{FitsRequest, FitsSent}
use Rattle.sn_sync.specs.declared.answer.Answer.{Answer}
use Rattle.sn_sync.specs.declared.item.Item.{Item}
use Rattle.sn_sync.specs.declared.request.Request.{Request}
use Rattle.sn_sync.specs.declared.request.Request.TheVariants as request
use Rattle.sn_account.specs.declared.accounts.Ruled.{Ruled}
use Rattle.sn_account.specs.Incoming.{Progress, Takes, TakesAll}
use Rattle.sn_account.specs.Lookups.{Bytes, HasStore}
use Rattle.sn_account.specs.Rule.{Rule, RuleOf}
use Rattle.sn_account.specs.RuleBatch.{BatchesFit, IsServerBatch, IsServerKind}
use Rattle.sn_account.specs.Rules.{BeginsAccount, ChangesKeys, ChangesPassword, Registers}
use Rattle.sn_account.specs.Syncs.{AreChanges, Serves, ServesBounded, Synced, Syncs, most_items, start}
use Rattle.sn_account.proofs.PresentLemmas.{lengths}

-- the most bytes that spell one change of a server's row
abbrev most_entry : ℕ
most_entry = 2097500

-- what is known of a change as it stands in the bytes
abbrev Known : Type 1
Known = Entry → Type 0

-- nothing
abbrev Anything : Known
Anything e = Unit {0}

-- a change of a server's row, which isn't long where this is known of it
record IsSmall (F : Known) (c : Change) : Type 0 where
  kind : IsServerKind (key_kind (key_of c))
  few : F (entry_of c) → length (entry_bytes (entry_of c)) ≤ most_entry

-- where it is known, secret and uuids have their bytes
abbrev put_row : Key → Value → Entry
put_row at v = put (key_kind at) (key_cells at) (value_cells v)

abbrev HasSecret : Known → Bytes → Type 0
HasSecret F secret = (row : StoreRow) → row.secret ≡ secret → F (put_row key.Store (value.Store row)) → length row.secret ≡ 32

abbrev HasUuid : Known → Bytes → Type 0
HasUuid F uuid = (row : ItemRow) → F (put_row (key.Item uuid) (value.Item row)) → length uuid ≡ 16

-- ---- one change

length-counted : (bytes : Bytes) → length (counted bytes) ≡ 4 + length bytes
length-counted bytes = omega (arith, length-append (to_be_bytes w32 (length bytes)) bytes)

-- a put as it stands in the bytes
entry_is : (c : Change) (at : Key) (v : Value) → Puts c at v → entry_of c ≡ put_row at v
entry_is (Put r) at v p =
    let keys : r.key ≡ at = p.key_is in
    let values : Some r.value ≡ Some v = p.value_is in
    let same : r.value ≡ v = cc in
    cc
entry_is (Remove k) at v p = absurd (let e : None ≡ Some v = p.value_is in cc)

-- so many bytes where key and value have so many
length-put : (at : Key) (v : Value) → length (entry_bytes (put_row at v)) ≡ 10 + length (cells_bytes (key_cells at)) + length (cells_bytes (value_cells v))
length-put at v =
    omega (arith, length-append (counted (cells_bytes (key_cells at))) (counted (cells_bytes (value_cells v))))

small : (F : Known) (c : Change) (at : Key) (v : Value) → Puts c at v → IsServerKind (key_kind at)
    → (F (put_row at v) → length (cells_bytes (key_cells at)) + length (cells_bytes (value_cells v)) ≤ 2097490)
    → IsSmall F c
small F c at v p own few =
    let is = entry_is c at v p in
    let short : F (put_row at v) → length (entry_bytes (put_row at v)) ≤ most_entry =
    λ form. (let size = length-put at v in let both = few form in omega arith) in
    record {
      kind = subst (λ (k : Key). IsServerKind (key_kind k)) (sym p.key_is) own;
      few = subst (λ (e : Entry). F e → length (entry_bytes e) ≤ most_entry) (sym is) short;
    }

small_store : (F : Known) (c : Change) (row : StoreRow) (secret : Bytes) → HasSecret F secret → row.secret ≡ secret
    → Puts c key.Store (value.Store row) → IsSmall F c
small_store F c row secret has same p =
    small F c key.Store (value.Store row) p tt
    (λ form. let long : length row.secret ≡ 32 = has row same form in
    let size : length (cells_bytes (value_cells (value.Store row))) ≡ length row.secret + 16 = length-append row.secret _ in omega arith)

small_account : (F : Known) (c : Change) (n : ℕ) (row : AccountRow) (pw : Bytes) → row.check ≡ check_value pw → Puts c (key.Account n) (value.Account row)
    → IsSmall F c
small_account F c n row pw check p =
    small F c (key.Account n) (value.Account row) p tt
    (λ form. let whole : length row.check ≡ 32 = ap length check ∙ length-sha256 _ in
    let long = lengths 1 254 row.identifier row.identifier_fits in
    simp (length-append, length-counted) (omega arith))

small_generation : (F : Known) (c : Change) (n g : ℕ) (row : GenerationRow) → Puts c (key.Generation n g) (value.Generation row) → IsSmall F c
small_generation F c n g row p =
    small F c (key.Generation n g) (value.Generation row) p tt
    (λ form. let long = lengths 1 256 row.pw_nonce row.nonce_fits in
    simp (length-append, length-counted) (omega arith))

small_item : (F : Known) (c : Change) (u : Bytes) (row : ItemRow) → HasUuid F u → Puts c (key.Item u) (value.Item row) → IsSmall F c
small_item F c u row has p =
    small F c (key.Item u) (value.Item row) p tt
    (λ form. let uuid : length u ≡ 16 = has row form in
    let kind = lengths 0 255 row.kind row.kind_fits in
    let content = lengths 0 1048576 row.content row.content_fits in
    let enc = lengths 0 1048576 row.enc row.enc_fits in
    simp (length-append, length-counted) (omega arith))

-- ---- all changes

-- so many bytes for each
spelled_within : (F : Known) (changes : List Change) → All (IsSmall F) changes → AllByRecursion F (entries_of changes)
    → length (spelled changes) ≤ length changes * most_entry
spelled_within F [] small known = omega arith
spelled_within F (c ∷ cs) small known =
    let one = (All-head (IsSmall F) c cs small).few known.0 in
    let others = spelled_within F cs (All-tail (IsSmall F) c cs small) known.1 in
    let parts : spelled (c ∷ cs) ≡ entry_bytes (entry_of c) ++ spelled cs = flat_map-cons entry_bytes (entry_of c) (entries_of cs) in
    let size = ap length parts ∙ length-append (entry_bytes (entry_of c)) (spelled cs) in
    omega arith

kinds_of : (F : Known) (changes : List Change) → All (IsSmall F) changes → All (λ c. IsServerKind (key_kind (key_of c))) changes
kinds_of F [] small = All-nil (λ c. IsServerKind (key_kind (key_of c)))
kinds_of F (c ∷ cs) small =
    All-cons (λ c. IsServerKind (key_kind (key_of c))) c cs (All-head (IsSmall F) c cs small).kind (kinds_of F cs (All-tail (IsSmall F) c cs small))

-- at most so many, each of them small
record AreFew (F : Known) (changes : List Change) : Type 0 where
  small : All (IsSmall F) changes
  few : length changes ≤ 501

few_taken : (F : Known) (changes : List Change) → AreFew F changes → AllByRecursion F (entries_of changes) → IsServerBatch changes
few_taken F changes are known =
    let within = spelled_within F changes are.small known in
    let few = are.few in
    (kinds_of F changes are.small, omega arith)

few_none : (F : Known) (changes : List Change) → changes ≡ [] → AreFew F changes
few_none F changes e = subst (AreFew F) (sym e) (record { small = All-nil (IsSmall F); few = omega arith })

-- ---- by route

begins_few : (F : Known) (store : StoreRow) (params : Params) (pw : Bytes) (changes : List Change) (given : Answer) → HasSecret F store.secret
    → BeginsAccount store params pw changes given → AreFew F changes
begins_few F store params pw changes given has b =
    subst (AreFew F) (sym b.changes_are)
    (record {
      small = All-from_recursion (IsSmall F) (b.account ∷ b.generation ∷ b.count ∷ []) (
        small_account F b.account (suc store.accounts) b.account_puts.row pw b.account_puts.check_is b.account_puts.puts,
        (
          small_generation F b.generation (suc store.accounts) 1 b.generation_puts.row b.generation_puts.puts,
          (small_store F b.count b.count_puts.row store.secret has b.count_puts.secret b.count_puts.puts, tt),
        ),
      );
      few = omega arith;
    })

registers_few : (F : Known) (rows : Rows) (store : StoreRow) (params : Params) (pw : Bytes) (changes : List Change) (given : Answer) → HasSecret F store.secret
    → Registers rows store params pw changes given → AreFew F changes
registers_few F rows store params pw changes given has (inl (named, r)) = few_none F changes r.0
registers_few F rows store params pw changes given has (inr (inl (unknown, full, r))) = few_none F changes r.0
registers_few F rows store params pw changes given has (inr (inr (unknown, less, b))) = begins_few F store params pw changes given has b

keys_few : (F : Known) (rows : Rows) (store : StoreRow) (n : ℕ) (a : AccountRow) (present : Params) (pw : Bytes) (cost : ℕ) (nonce : Bytes) (changes : List Change)
    (given : Answer) → ChangesKeys rows store n a present pw cost nonce changes given → AreFew F changes
keys_few F rows store n a present pw cost nonce changes given (inl (u, least, r)) = few_none F changes r.0
keys_few F rows store n a present pw cost nonce changes given (inr (inl (none, used, r))) = few_none F changes r.0
keys_few F rows store n a present pw cost nonce changes given (inr (inr (inl (none, fresh, full, r)))) = few_none F changes r.0
keys_few F rows store n a present pw cost nonce changes given (inr (inr (inr (none, fresh, less, x)))) =
    subst (AreFew F) (sym x.changes_are)
    (record {
      small = All-from_recursion (IsSmall F) (x.account ∷ x.generation ∷ []) (
        small_account F x.account n x.account_puts.row pw x.account_puts.check_is x.account_puts.puts,
        (small_generation F x.generation n (suc a.generation) x.generation_puts.row x.generation_puts.puts, tt),
      );
      few = omega arith;
    })

changes_few : (F : Known) (rows : Rows) (store : StoreRow) (token current pw : Bytes) (cost : ℕ) (nonce : Bytes) (changes : List Change) (given : Answer)
    → ChangesPassword rows store token current pw cost nonce changes given → AreFew F changes
changes_few F rows store token current pw cost nonce changes given (inl (none, r)) = few_none F changes r.0
changes_few F rows store token current pw cost nonce changes given (inr (inl (n, a, is, has, wrong, r))) = few_none F changes r.0
changes_few F rows store token current pw cost nonce changes given (inr (inr (n, a, present, is, has, right, stands, keys))) =
    keys_few F rows store n a present pw cost nonce changes given keys

-- ---- a sync

-- one change at most for each item
record Made (F : Known) (p : Progress) (count : ℕ) : Type 0 where
  small : All (IsSmall F) p.changes
  few : length p.changes ≤ count

made_same : (F : Known) (p q : Progress) (count : ℕ) → q.changes ≡ p.changes → Made F p count → Made F q (suc count)
made_same F p q count e m =
    let few = m.few in
    let size = ap length e in
    record { small = subst (All (IsSmall F)) (sym e) m.small; few = omega arith }

made_one : (F : Known) (present : Params) (now n : ℕ) (p q : Progress) (i : Item) (count : ℕ) → HasUuid F i.uuid → Takes present now n p i q → Made F p count
    → Made F q (suc count)
made_one F present now n p q i count has (inl (foreign, e)) m = made_same F p q count (ap (λ (x : Progress). x.changes) e) m
made_one F present now n p q i count has (inr (inl (row, given, held, same, gives, e))) m = made_same F p q count (ap (λ (x : Progress). x.changes) e) m
made_one F present now n p q i count has (inr (inr (inl (row, given, held, apart, unnamed, gives, e)))) m =
    made_same F p q count (ap (λ (x : Progress). x.changes) e) m
made_one F present now n p q i count has (inr (inr (inr (inl (news, unread, e))))) m = made_same F p q count (ap (λ (x : Progress). x.changes) e) m
made_one F present now n p q i count has (inr (inr (inr (inr (free, low, (row, change, given, puts, gives, e)))))) m =
    let lists : q.changes ≡ p.changes ++ change ∷ [] = ap (λ (x : Progress). x.changes) e in
    let size = ap length lists ∙ length-append p.changes (change ∷ []) in
    let few = m.few in
    record {
      small = subst (All (IsSmall F)) (sym lists)
          (All-append (IsSmall F) p.changes (change ∷ []) m.small
          (All-cons (IsSmall F) change [] (small_item F change i.uuid row has puts.puts) (All-nil (IsSmall F))));
      few = omega arith;
    }

made_more : (F : Known) (p : Progress) (count more : ℕ) → count ≤ more → Made F p count → Made F p more
made_more F p count more up m = (let few = m.few in record { small = m.small; few = omega arith })

-- each item's uuid has its bytes
abbrev HasUuids : Known → List Item → Type 0
HasUuids F items = All (λ (i : Item). HasUuid F i.uuid) items

made_all : (F : Known) (present : Params) (now n : ℕ) (p q : Progress) (items : List Item) (count : ℕ) → HasUuids F items
    → TakesAll present now n p items q → Made F p count → Made F q (count + length items)
made_all F present now n p q [] count has e m = made_more F q count _ (omega arith) (subst (λ (x : Progress). Made F x count) (sym e) m)
made_all F present now n p q (i ∷ is) count has (inl (past, e)) m = made_more F q count _ (omega arith) (subst (λ (x : Progress). Made F x count) (sym e) m)
made_all F present now n p q (i ∷ is) count has (inr (within, (mid, takes, rest))) m =
    let first = All-head (λ (i : Item). HasUuid F i.uuid) i is has in
    let others = All-tail (λ (i : Item). HasUuid F i.uuid) i is has in
    made_more F q (suc count + length is) _ (omega arith)
    (made_all F present now n mid q is (suc count) others rest (made_one F present now n p mid i count first takes m))

-- secret and uuids have their bytes
record HasBytes (F : Known) (store : StoreRow) (items : List Item) : Type 0 where
  secret : HasSecret F store.secret
  uuids : HasUuids F items

synced_few : (F : Known) (rows : Rows) (store : StoreRow) (n : ℕ) (present : Params) (items : List Item) (limit : ℕ) (sync cursor : Option ℕ) (now : ℕ)
    (changes : List Change) (given : Answer) → HasBytes F store items → length items ≤ most_items
    → Synced rows store n present items limit sync cursor now changes given → AreFew F changes
synced_few F rows store n present items limit sync cursor now changes given has few s = by_changes s.changes_are
  where
    made : Made F s.end (0 + length items)
    made = made_all F present now n (start rows store) s.end items 0 has.uuids s.taken (record { small = All-nil (IsSmall F); few = omega arith })

    by_changes : AreChanges store s.end.changes s.end.last changes → AreFew F changes
    by_changes (inl (none, e)) = few_none F changes e
    by_changes (inr (some, (end, row, puts, secret, accounts, last, e))) =
        let count = made.few in
        let size = length-append s.end.changes (end ∷ []) in
        subst (AreFew F) (sym e)
        (record {
          small = All-append (IsSmall F) s.end.changes (end ∷ []) made.small
              (All-cons (IsSmall F) end [] (small_store F end row store.secret has.secret secret puts) (All-nil (IsSmall F)));
          few = omega arith;
        })

serves_few : (F : Known) (rows : Rows) (store : StoreRow) (n : ℕ) (items : List Item) (limit : ℕ) (sync cursor : Option ℕ) (now : ℕ) (changes : List Change)
    (given : Answer) → HasBytes F store items → length items ≤ most_items → Serves rows store n items limit sync cursor now changes given → AreFew F changes
serves_few F rows store n items limit sync cursor now changes given has few (present, is, inl (out, r)) = few_none F changes r.0
serves_few F rows store n items limit sync cursor now changes given has few (present, is, inr s) =
    synced_few F rows store n present items limit sync cursor now changes given has few s

bounded_few : (F : Known) (rows : Rows) (store : StoreRow) (n : ℕ) (items : List Item) (limit : ℕ) (sync cursor : Option ℕ) (now : ℕ) (changes : List Change)
    (given : Answer) → HasBytes F store items → ServesBounded rows store n items limit sync cursor now changes given → AreFew F changes
bounded_few F rows store n items limit sync cursor now changes given has (inl (wide, r)) = few_none F changes r.0
bounded_few F rows store n items limit sync cursor now changes given has (inr (inl (few, uuid, size, long, r))) = few_none F changes r.0
bounded_few F rows store n items limit sync cursor now changes given has (inr (inr (few, short, serves))) =
    serves_few F rows store n items limit sync cursor now changes given has few serves

syncs_few : (F : Known) (rows : Rows) (store : StoreRow) (token : Bytes) (items : List Item) (limit : ℕ) (sync_token cursor_token : Option Bytes) (now : ℕ)
    (changes : List Change) (given : Answer) → HasBytes F store items → Syncs rows store token items limit sync_token cursor_token now changes given
    → AreFew F changes
syncs_few F rows store token items limit sync_token cursor_token now changes given has (inl (none, r)) = few_none F changes r.0
syncs_few F rows store token items limit sync_token cursor_token now changes given has (inr (n, is, inl (bad, r))) = few_none F changes r.0
syncs_few F rows store token items limit sync_token cursor_token now changes given has (inr (n, is, inr (inl (sync, at, bad, r)))) = few_none F changes r.0
syncs_few F rows store token items limit sync_token cursor_token now changes given has (inr (n, is, inr (inr (sync, cursor, at, too, serves)))) =
    bounded_few F rows store n items limit sync cursor now changes given has serves

-- secret and, in a sync, uuids have their bytes
abbrev HasBytesOf : Known → StoreRow → Request → Type 0
HasBytesOf F store (request.Register params pw) = HasSecret F store.secret
HasBytesOf F store (request.Params identifier) = Unit {0}
HasBytesOf F store (request.SignIn identifier pw) = Unit {0}
HasBytesOf F store (request.ChangePw token current pw cost nonce) = Unit {0}
HasBytesOf F store (request.Sync token items limit sync_token cursor_token) = HasBytes F store items

rule_few : (F : Known) (rows : Rows) (store : StoreRow) (r : Request) (now : ℕ) (changes : List Change) (given : Answer) → HasBytesOf F store r
    → RuleOf rows store r now changes given → AreFew F changes
rule_few F rows store (request.Register params pw) now changes given has rule = registers_few F rows store params pw changes given has rule
rule_few F rows store (request.Params identifier) now changes given has rule = few_none F changes rule.0
rule_few F rows store (request.SignIn identifier pw) now changes given has rule = few_none F changes rule.0
rule_few F rows store (request.ChangePw token current pw cost nonce) now changes given has rule =
    changes_few F rows store token current pw cost nonce changes given rule
rule_few F rows store (request.Sync token items limit sync_token cursor_token) now changes given has rule =
    syncs_few F rows store token items limit sync_token cursor_token now changes given has rule

-- ---- changes in form

secret_in_form : (secret : Bytes) → HasSecret EntryInForm secret
secret_in_form secret row same form = form.1.each.0

uuid_in_form : (uuid : Bytes) → HasUuid EntryInForm uuid
uuid_in_form uuid row form = form.0.each.0

uuids_in_form : (items : List Item) → HasUuids EntryInForm items
uuids_in_form [] = All-nil (λ (i : Item). HasUuid EntryInForm i.uuid)
uuids_in_form (i ∷ is) = All-cons (λ (i : Item). HasUuid EntryInForm i.uuid) i is (uuid_in_form i.uuid) (uuids_in_form is)

bytes_in_form : (store : StoreRow) (r : Request) → HasBytesOf EntryInForm store r
bytes_in_form store (request.Register params pw) = secret_in_form store.secret
bytes_in_form store (request.Params identifier) = tt
bytes_in_form store (request.SignIn identifier pw) = tt
bytes_in_form store (request.ChangePw token current pw cost nonce) = tt
bytes_in_form store (request.Sync token items limit sync_token cursor_token) =
    record { secret = secret_in_form store.secret; uuids = uuids_in_form items }

pub batches_fit : BatchesFit
batches_fit rows r now changes given bytes (store, has, rule) spells =
    let taken = few_taken EntryInForm changes (rule_few EntryInForm rows store r now changes given (bytes_in_form store r) rule) spells.1 in
    let within = taken.1 in
    let size = ap length spells.0 in
    (taken.0, omega arith)

-- ---- changes for a request within its bounds, where the secret has its bytes

secret_sized : (secret : Bytes) → length secret ≡ 32 → HasSecret Anything secret
secret_sized secret size row same known = ap length same ∙ size

uuids_sized : (items : List Item) → All FitsSent items → HasUuids Anything items
uuids_sized [] fits = All-nil (λ (i : Item). HasUuid Anything i.uuid)
uuids_sized (i ∷ is) fits =
    All-cons (λ (i : Item). HasUuid Anything i.uuid) i is (λ row known. (All-head FitsSent i is fits).uuid.0) (uuids_sized is (All-tail FitsSent i is fits))

bytes_sized : (store : StoreRow) (r : Request) → length store.secret ≡ 32 → FitsRequest r → HasBytesOf Anything store r
bytes_sized store (request.Register params pw) size fits = secret_sized store.secret size
bytes_sized store (request.Params identifier) size fits = tt
bytes_sized store (request.SignIn identifier pw) size fits = tt
bytes_sized store (request.ChangePw token current pw cost nonce) size fits = tt
bytes_sized store (request.Sync token items limit sync_token cursor_token) size fits =
    record { secret = secret_sized store.secret size; uuids = uuids_sized items fits.0 }

all_known : (entries : List Entry) → AllByRecursion Anything entries
all_known [] = tt
all_known (e ∷ es) = (tt, all_known es)

-- the row is the store's that the rule names
one_store : (rows : Rows) (a b : StoreRow) → HasStore rows a → HasStore rows b → a ≡ b
one_store rows a b has other = (let e : Some (value.Store a) ≡ Some (value.Store b) = sym has ∙ other in cc)

rule_taken : (rows : Rows) (store : StoreRow) (r : Request) (now : ℕ) (changes : List Change) (given : Answer) → HasStore rows store → length store.secret ≡ 32
    → FitsRequest r → Rule rows r now changes given → IsServerBatch changes
rule_taken rows store r now changes given has size fits (own, there, rule) =
    let long : length own.secret ≡ 32 = ap (λ (s : StoreRow). length s.secret) (one_store rows own store there has) ∙ size in
    few_taken Anything changes (rule_few Anything rows own r now changes given (bytes_sized own r long fits) rule) (all_known (entries_of changes))

pub batch_ok : {E : Type 0} (rows : Rows) (store : StoreRow) (request : Request) (now : ℕ) (outcome : Result Ruled E) → HasStore rows store
    → length store.secret ≡ 32 → FitsRequest request → IfOk outcome (λ r. Rule rows request now r.changes r.answer)
    → IfOk outcome (λ r. IsServerBatch r.changes)
batch_ok rows store request now (Ok r) has size fits rule = rule_taken rows store request now r.changes r.answer has size fits rule
batch_ok rows store request now (Err e) has size fits rule = tt

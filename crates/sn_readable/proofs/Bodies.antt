-- How long the body of a request is at most.
use Rattle.std.proofs.Common.{ℕ, ◌+◌, ◌^◌, ◌<◌, ◌≤◌, true, false, List, length, Option, Some, None, All, codes, sum_by, ap, ◌∙◌, arith}
use Rattle.std.proofs.lemmas.Fmt.{length-decimal-le}
use Rattle.hex.specs.Hex.{encode_lower, lower_digits}
use Rattle.hex.proofs.HexLemmas.{length-encode_with}
use Rattle.serde_json.specs.Data.{Data, Items, Members, array, member, no_members, number, string, unsigned}
use Rattle.serde_json.specs.Written.{compact_text}
use Rattle.sn_account.proofs.Facts.{IsSlim, item_size, length-items, length-member, length-quoted}
use Rattle.sn_string.specs.Bounds.{IsCost, IsIdentifier, IsNonce}
use Rattle.sn_string.specs.declared.params.Params.{Params}
use Rattle.sn_sync.specs.Fits.{AreBytes}
use Rattle.sn_sync.specs.Members.{Bytes}
use Rattle.sn_sync.specs.Requests.{api_version}
use Rattle.sn_sync.specs.Written.{WritesRequest, hash_data, optional_data, sync_data}
use Rattle.sn_sync.specs.declared.item.Item.{Item}
use Rattle.sn_sync.specs.declared.request.Request.TheVariants as request
use Rattle.sn_readable.proofs.Tokens.{IsShortToken}

-- ---- registration, sign-in and a change of password

length-hash : (bytes : Bytes) → AreBytes 32 bytes → length (compact_text (hash_data bytes)) ≤ 390
length-hash bytes fits =
    let digits = length-encode_with lower_digits bytes in
    let long = length-quoted (encode_lower bytes) in
    let count = fits.0 in
    omega arith

length-number : (k n : ℕ) → 0 < k → n < 10 ^ k → n < 2 ^ 64 → length (compact_text (number (unsigned n))) ≤ k
length-number k n some few low = length-decimal-le k n some few low

pub register_short : (params : Params) (pw text : Bytes) → AreBytes 32 pw → WritesRequest (request.Register params pw) text → length text ≤ 8388608
register_short params pw text fits (body, is, json) =
    let fifth : Members = member (codes "version") (string (codes "003")) no_members in
    let fourth : Members = member (codes "pw_nonce") (string params.pw_nonce) fifth in
    let third : Members = member (codes "pw_cost") (number (unsigned params.pw_cost)) fourth in
    let second : Members = member (codes "password") (hash_data pw) third in
    let a = length-member true (codes "version") (string (codes "003")) no_members in
    let b = length-member true (codes "pw_nonce") (string params.pw_nonce) fifth in
    let c = length-member true (codes "pw_cost") (number (unsigned params.pw_cost)) fourth in
    let d = length-member true (codes "password") (hash_data pw) third in
    let e = length-member false (codes "email") (string params.identifier) second in
    let last = length-quoted (codes "003") in
    let hash = length-hash pw fits in
    let identifier = length-quoted params.identifier in
    let named = params.identifier_fits.1 in
    let nonce = length-quoted params.pw_nonce in
    let drawn = params.nonce_fits.1 in
    let dear = params.cost_fits.1 in
    let cost = length-number 10 params.pw_cost (omega arith) (omega arith) (omega arith) in
    let size = ap length json.compact ∙ ap (λ (x : Data). length (compact_text x)) is in
    omega arith

pub sign_in_short : (identifier pw text : Bytes) → IsIdentifier identifier → AreBytes 32 pw → WritesRequest (request.SignIn identifier pw) text
    → length text ≤ 8388608
sign_in_short identifier pw text named fits (body, is, json) =
    let second : Members = member (codes "password") (hash_data pw) no_members in
    let a = length-member true (codes "password") (hash_data pw) no_members in
    let b = length-member false (codes "email") (string identifier) second in
    let hash = length-hash pw fits in
    let long = length-quoted identifier in
    let short = named.1 in
    let size = ap length json.compact ∙ ap (λ (x : Data). length (compact_text x)) is in
    omega arith

pub change_short : (token current pw : Bytes) (dear : ℕ) (nonce text : Bytes) → AreBytes 32 current → AreBytes 32 pw → IsCost dear → IsNonce nonce
    → WritesRequest (request.ChangePw token current pw dear nonce) text → length text ≤ 8388608
change_short token current pw dear nonce text was fits bounded drawn (body, is, json) =
    let fifth : Members = member (codes "version") (string (codes "003")) no_members in
    let fourth : Members = member (codes "pw_nonce") (string nonce) fifth in
    let third : Members = member (codes "pw_cost") (number (unsigned dear)) fourth in
    let second : Members = member (codes "new_password") (hash_data pw) third in
    let a = length-member true (codes "version") (string (codes "003")) no_members in
    let b = length-member true (codes "pw_nonce") (string nonce) fifth in
    let c = length-member true (codes "pw_cost") (number (unsigned dear)) fourth in
    let d = length-member true (codes "new_password") (hash_data pw) third in
    let e = length-member false (codes "current_password") (hash_data current) second in
    let last = length-quoted (codes "003") in
    let hash = length-hash pw fits in
    let before = length-hash current was in
    let long = length-quoted nonce in
    let short = drawn.1 in
    let most = bounded.1 in
    let cost = length-number 10 dear (omega arith) (omega arith) (omega arith) in
    let size = ap length json.compact ∙ ap (λ (x : Data). length (compact_text x)) is in
    omega arith

-- ---- a sync

length-token : (o : Option Bytes) → IsShortToken o → length (compact_text (optional_data o)) ≤ 6200
length-token None short = omega arith
length-token (Some text) short = (let long = length-quoted text in omega arith)

length-sync : (ds : Items) (limit : ℕ) (sync_token cursor_token : Option Bytes) → limit ≤ 500
    → length (compact_text (sync_data ds limit sync_token cursor_token))
    ≤ 600 + length (compact_text (array ds)) + length (compact_text (optional_data sync_token)) + length (compact_text (optional_data cursor_token))
length-sync ds limit sync_token cursor_token few =
    let fifth : Members = member (codes "sync_token") (optional_data sync_token) no_members in
    let fourth : Members = member (codes "limit") (number (unsigned limit)) fifth in
    let third : Members = member (codes "items") (array ds) fourth in
    let second : Members = member (codes "cursor_token") (optional_data cursor_token) third in
    let a = length-member true (codes "sync_token") (optional_data sync_token) no_members in
    let b = length-member true (codes "limit") (number (unsigned limit)) fifth in
    let c = length-member true (codes "items") (array ds) fourth in
    let d = length-member true (codes "cursor_token") (optional_data cursor_token) third in
    let e = length-member false (codes "api") (string api_version) second in
    let version = length-quoted api_version in
    let digits = length-number 3 limit (omega arith) (omega arith) (omega arith) in
    omega arith

-- of at most 150 items, whose strings have at most 4 MiB
pub sync_short : (token : Bytes) (items : List Item) (limit : ℕ) (sync_token cursor_token : Option Bytes) (text : Bytes) → All IsSlim items
    → length items ≤ 150 → sum_by item_size items ≤ 4194304 → limit ≤ 500 → IsShortToken sync_token → IsShortToken cursor_token
    → WritesRequest (request.Sync token items limit sync_token cursor_token) text → length text ≤ 8388608
sync_short token items limit sync_token cursor_token text slim few light low synced page (body, (ds, are, is), json) =
    let inner = length-items false items ds are slim in
    let whole = length-sync ds limit sync_token cursor_token low in
    let first = length-token sync_token synced in
    let second = length-token cursor_token page in
    let size = ap length json.compact ∙ ap (λ (x : Data). length (compact_text x)) is in
    omega arith

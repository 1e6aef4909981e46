-- The statuses of answers by the rule have three digits.
use Rattle.std.proofs.Common.{arith, ◌≡◌, ◌≤◌, ℕ, List, Option, inl, inr, sym, subst}
use Rattle.sn_rows.specs.Table.{Rows}
use Rattle.sn_rows.specs.declared.change.Change.{Change}
use Rattle.sn_rows.specs.declared.server_rows.AccountRow.{AccountRow}
use Rattle.sn_rows.specs.declared.server_rows.StoreRow.{StoreRow}
use Rattle.sn_string.specs.declared.params.Params.{Params}
use Rattle.sn_sync.specs.declared.answer.Answer.{Answer}
use Rattle.sn_sync.specs.declared.answer.Answer.TheVariants as answer
use Rattle.sn_sync.specs.declared.answer.More.{More}
use Rattle.sn_sync.specs.declared.item.Item.{Item}
use Rattle.sn_sync.specs.declared.request.Request.{Request}
use Rattle.sn_sync.specs.declared.request.Request.TheVariants as request
use Rattle.sn_account.specs.Lookups.{Bytes}
use Rattle.sn_account.specs.Rule.{Rule}
use Rattle.sn_account.specs.RuleLaws.{status_of}
use Rattle.sn_account.specs.Rules.{ChangesKeys, ChangesPassword, Registers, SignsIn, TellsParams}
use Rattle.sn_account.specs.Syncs.{Serves, ServesBounded, ServesFrom, Syncs}

abbrev pub HasThreeDigits : Answer → Type 0
HasThreeDigits given = (100 ≤ status_of given) × (status_of given ≤ 999)

refused_three : (status : ℕ) (tag : Bytes) (further : More) (given : Answer) → 100 ≤ status → status ≤ 999 → given ≡ answer.Refused status tag further → HasThreeDigits given
refused_three status tag further given low high e = subst HasThreeDigits (sym e) (low, high)

account_three : (token identifier uuid : Bytes) (given : Answer) → given ≡ answer.Account token identifier uuid → HasThreeDigits given
account_three token identifier uuid given e = subst HasThreeDigits (sym e) (omega arith, omega arith)

registers_three : (rows : Rows) (store : StoreRow) (params : Params) (pw : Bytes) (changes : List Change) (given : Answer)
    → Registers rows store params pw changes given → HasThreeDigits given
registers_three rows store params pw changes given (inl (taken, refused)) = refused_three 409 _ _ given (omega arith) (omega arith) refused.1
registers_three rows store params pw changes given (inr (inl (unknown, full, refused))) = refused_three 409 _ _ given (omega arith) (omega arith) refused.1
registers_three rows store params pw changes given (inr (inr (unknown, less, b))) = account_three _ _ _ given b.answers

tells_three : (rows : Rows) (identifier : Bytes) (given : Answer) → TellsParams rows identifier given → HasThreeDigits given
tells_three rows identifier given (inl (unknown, e)) = refused_three 404 _ _ given (omega arith) (omega arith) e
tells_three rows identifier given (inr t) = subst HasThreeDigits (sym t.answers) (omega arith, omega arith)

signs_three : (rows : Rows) (store : StoreRow) (identifier pw : Bytes) (given : Answer) → SignsIn rows store identifier pw given → HasThreeDigits given
signs_three rows store identifier pw given (inl (unknown, e)) = refused_three 404 _ _ given (omega arith) (omega arith) e
signs_three rows store identifier pw given (inr (inl (wrong, e))) = refused_three 401 _ _ given (omega arith) (omega arith) e
signs_three rows store identifier pw given (inr (inr x)) = account_three _ _ _ given x.answers

keys_three : (rows : Rows) (store : StoreRow) (n : ℕ) (a : AccountRow) (present : Params) (pw : Bytes) (cost : ℕ) (nonce : Bytes) (changes : List Change) (given : Answer)
    → ChangesKeys rows store n a present pw cost nonce changes given → HasThreeDigits given
keys_three rows store n a present pw cost nonce changes given (inl (uuid, least, refused)) = refused_three 409 _ _ given (omega arith) (omega arith) refused.1
keys_three rows store n a present pw cost nonce changes given (inr (inl (none, used, refused))) = refused_three 409 _ _ given (omega arith) (omega arith) refused.1
keys_three rows store n a present pw cost nonce changes given (inr (inr (inl (none, unused, full, refused)))) = refused_three 409 _ _ given (omega arith) (omega arith) refused.1
keys_three rows store n a present pw cost nonce changes given (inr (inr (inr (none, unused, less, r)))) = account_three _ _ _ given r.answers

changes_three : (rows : Rows) (store : StoreRow) (token current pw : Bytes) (cost : ℕ) (nonce : Bytes) (changes : List Change) (given : Answer)
    → ChangesPassword rows store token current pw cost nonce changes given → HasThreeDigits given
changes_three rows store token current pw cost nonce changes given (inl (bad, refused)) = refused_three 401 _ _ given (omega arith) (omega arith) refused.1
changes_three rows store token current pw cost nonce changes given (inr (inl (n, a, session, there, wrong, refused))) =
    refused_three 401 _ _ given (omega arith) (omega arith) refused.1
changes_three rows store token current pw cost nonce changes given (inr (inr (n, a, present, session, there, right, is, keys))) =
    keys_three rows store n a present pw cost nonce changes given keys

module _ (rows : Rows) (store : StoreRow) (token : Bytes) (items : List Item) (limit now : ℕ) (changes : List Change) (given : Answer) where
  serves_three : (n : ℕ) (sync cursor : Option ℕ) → Serves rows store n items limit sync cursor now changes given → HasThreeDigits given
  serves_three n sync cursor (present, is, inl (out, refused)) = refused_three 409 _ _ given (omega arith) (omega arith) refused.1
  serves_three n sync cursor (present, is, inr synced) = subst HasThreeDigits (sym synced.answers) (omega arith, omega arith)

  bounded_three : (n : ℕ) (sync cursor : Option ℕ) → ServesBounded rows store n items limit sync cursor now changes given → HasThreeDigits given
  bounded_three n sync cursor (inl (wide, refused)) = refused_three 413 _ _ given (omega arith) (omega arith) refused.1
  bounded_three n sync cursor (inr (inl (few, uuid, size, long, refused))) = refused_three 413 _ _ given (omega arith) (omega arith) refused.1
  bounded_three n sync cursor (inr (inr (few, short, serves))) = serves_three n sync cursor serves

  from_three : (n : ℕ) (sync_token cursor_token : Option Bytes) → ServesFrom rows store n items limit sync_token cursor_token now changes given → HasThreeDigits given
  from_three n sync_token cursor_token (inl (bad, refused)) = refused_three 400 _ _ given (omega arith) (omega arith) refused.1
  from_three n sync_token cursor_token (inr (inl (sync, is, bad, refused))) = refused_three 400 _ _ given (omega arith) (omega arith) refused.1
  from_three n sync_token cursor_token (inr (inr (sync, cursor, is, is_too, serves))) = bounded_three n sync cursor serves

  syncs_three : (sync_token cursor_token : Option Bytes) → Syncs rows store token items limit sync_token cursor_token now changes given → HasThreeDigits given
  syncs_three sync_token cursor_token (inl (bad, refused)) = refused_three 401 _ _ given (omega arith) (omega arith) refused.1
  syncs_three sync_token cursor_token (inr (n, session, serves)) = from_three n sync_token cursor_token serves

pub rule_three : (rows : Rows) (r : Request) (now : ℕ) (changes : List Change) (given : Answer) → Rule rows r now changes given → HasThreeDigits given
rule_three rows (request.Register params pw) now changes given (store, has, ruled) = registers_three rows store params pw changes given ruled
rule_three rows (request.Params identifier) now changes given (store, has, ruled) = tells_three rows identifier given ruled.1
rule_three rows (request.SignIn identifier pw) now changes given (store, has, ruled) = signs_three rows store identifier pw given ruled.1
rule_three rows (request.ChangePw token current pw cost nonce) now changes given (store, has, ruled) =
    changes_three rows store token current pw cost nonce changes given ruled
rule_three rows (request.Sync token items limit sync_token cursor_token) now changes given (store, has, ruled) =
    syncs_three rows store token items limit now changes given sync_token cursor_token ruled

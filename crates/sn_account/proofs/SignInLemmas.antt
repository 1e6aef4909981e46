-- Sign-in to an account that has the identifier.
use Rattle.std.proofs.Common.{ap, inl, inr, ◌≡◌, ◌∙◌, ◌↔◌, ℕ, Bool, true, false, IsTrue, Result, IfOk}
use Rattle.std.proofs.lemmas.Result.{IfOk-weaker}
use Rattle.std.specs.Prelude.{◌≢◌, codes}
use Rattle.sn_keys.specs.Keys.{check_value}
use Rattle.sn_rows.specs.Table.{Rows}
use Rattle.sn_rows.specs.declared.server_rows.AccountRow.{AccountRow}
use Rattle.sn_rows.specs.declared.server_rows.StoreRow.{StoreRow}
use Rattle.sn_sync.specs.declared.answer.Answer.{Answer}
use Rattle.sn_sync.specs.declared.answer.Answer.TheVariants as answer
use Rattle.sn_sync.specs.declared.answer.More.TheVariants as more
use Rattle.sn_account.specs.Lookups.{Bytes, HasAccount, HasStore, IsNamed}
use Rattle.sn_account.specs.Rules.{Admits, Rejects, SignsIn}
use Rattle.sn_account.specs.Sessions.{account_uuid, session_token}
use Rattle.sn_account.proofs.NamedLemmas.{one_account, one_store}

-- the account of a number that has the identifier has it
is_named : (rows : Rows) (identifier : Bytes) (n : ℕ) (account : AccountRow) → IsNamed rows identifier n → HasAccount rows n account
    → account.identifier ≡ identifier
is_named rows identifier n account named has = ap (λ (a : AccountRow). a.identifier) (one_account rows n account named.0 has named.1) ∙ named.2

-- another check value
pub rejects : (rows : Rows) (store : StoreRow) (identifier pw : Bytes) (n : ℕ) (account : AccountRow) (same : Bool) (given : Answer)
    → IsNamed rows identifier n → HasAccount rows n account → IsTrue same ↔ (account.check ≡ check_value pw) → same ≡ false
    → given ≡ answer.Refused 401 (codes "bad-auth") more.Nothing → SignsIn rows store identifier pw given
rejects rows store identifier pw n account same given named has tells not refused =
    let apart : account.check ≢ check_value pw = λ is. (let wrong : same ≡ true = tells.1 is in cc) in
    let why : Rejects rows identifier pw = record {
      n = n;
      account = account;
      there = has;
      named = is_named rows identifier n account named has;
      check = apart;
    } in
    inr (inl (why, refused))

-- the account's
pub admits : {E : Type 0} (rows : Rows) (store row : StoreRow) (identifier pw : Bytes) (n : ℕ) (account : AccountRow) (same : Bool) (result : Result Answer E)
    → HasStore rows store → HasStore rows row → IsNamed rows identifier n → HasAccount rows n account
    → IsTrue same ↔ (account.check ≡ check_value pw) → same ≡ true
    → IfOk result (λ given. given ≡ answer.Account (session_token row.secret n account.generation) account.identifier (account_uuid n))
    → IfOk result (SignsIn rows store identifier pw)
admits rows store row identifier pw n account same result stands has_row named has tells is_same admitted =
    let own = is_named rows identifier n account named has in
    let one = one_store rows row store has_row stands in
    let Given : Answer → Type 0 = λ given. given ≡ answer.Account (session_token row.secret n account.generation) account.identifier (account_uuid n) in
    let is : (given : Answer) → Given given → Admits rows store identifier pw given = λ given answers. record {
      n = n;
      account = account;
      there = has;
      named = own;
      check = tells.0 is_same;
      answers = answers
          ∙ ap (λ (r : StoreRow). answer.Account (session_token r.secret n account.generation) account.identifier (account_uuid n)) one
          ∙ ap (λ (i : Bytes). answer.Account (session_token store.secret n account.generation) i (account_uuid n)) own;
    } in
    IfOk-weaker result Given (SignsIn rows store identifier pw) (λ given answers. inr (inr (is given answers))) admitted

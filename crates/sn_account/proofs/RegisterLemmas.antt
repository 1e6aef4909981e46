-- What a registration gives.
use Rattle.std.proofs.Common.{arith, refl, ap, subst, sym, inl, inr, ◌≡◌, ℕ, ◌<◌, ◌≤◌, List, [], Option, Some, None, Result, true, false, IfOk, IfSome, IfNone, MatchOption}
use Rattle.std.specs.Prelude.{is_some, codes}
use Rattle.std.proofs.lemmas.Result.{IfOk-weaker}
use Rattle.sn_rows.specs.Table.{Rows}
use Rattle.sn_rows.specs.declared.change.Change.{Change}
use Rattle.sn_rows.specs.declared.server_rows.StoreRow.{StoreRow}
use Rattle.sn_string.specs.declared.params.Params.{Params}
use Rattle.sn_sync.specs.declared.answer.Answer.{Answer}
use Rattle.sn_sync.specs.declared.answer.Answer.TheVariants as answer
use Rattle.sn_sync.specs.declared.answer.More.TheVariants as more
use Rattle.sn_account.specs.Lookups.{Bytes, HasStore, IsNamed, IsUnknown}
use Rattle.sn_account.specs.Rules.{BeginsAccount, Registers}
use Rattle.sn_account.specs.Sound.{IsSound, most_accounts}
use Rattle.sn_account.specs.declared.accounts.Ruled.{Ruled}
use Rattle.sn_account.proofs.NamedLemmas.{found_named, none_found, one_store}

-- the identifier is some account's
pub taken : (rows : Rows) (store : StoreRow) (params : Params) (text pw : Bytes) (found : Option ℕ) (given : Answer)
    → text ≡ params.identifier → IfSome found (IsNamed rows text) → is_some found ≡ true
    → given ≡ answer.Refused 409 (codes "taken") more.Nothing → Registers rows store params pw [] given
taken rows store params text pw found given is named there answers =
    let P : Bytes → Type 0 = λ identifier. (n : ℕ) × IsNamed rows identifier n in
    inl (subst P is (found_named rows text found named there), (refl, answers))

-- the identifier is no account's
pub free : (rows : Rows) (params : Params) (text : Bytes) (found : Option ℕ)
    → text ≡ params.identifier → IfNone found (IsUnknown rows text) → is_some found ≡ false → IsUnknown rows params.identifier
free rows params text found is unknown gone =
    let P : Bytes → Type 0 = λ identifier. IsUnknown rows identifier in
    subst P is (none_found rows text found unknown gone)

-- no account more has room
pub full : (rows : Rows) (store row : StoreRow) (params : Params) (pw : Bytes) (given : Answer)
    → IsSound rows → HasStore rows store → HasStore rows row → IsUnknown rows params.identifier → most_accounts ≤ row.accounts
    → given ≡ answer.Refused 409 (codes "full") (more.Number most_accounts) → Registers rows store params pw [] given
full rows store row params pw given sound stands has unknown many answers =
    let same : row.accounts ≡ store.accounts = ap (λ (r : StoreRow). r.accounts) (one_store rows row store has stands) in
    let own : sound.store.accounts ≡ store.accounts = ap (λ (r : StoreRow). r.accounts) (one_store rows sound.store store sound.stands stands) in
    let all : store.accounts ≡ most_accounts = omega (arith, sound.bound) in
    inr (inl (unknown, all, (refl, answers)))

-- one account more has
pub room : (rows : Rows) (store row : StoreRow) → HasStore rows store → HasStore rows row → row.accounts < most_accounts
    → store.accounts < most_accounts
room rows store row stands has few =
    let same : row.accounts ≡ store.accounts = ap (λ (r : StoreRow). r.accounts) (one_store rows row store has stands) in
    omega arith

-- what the search for a refusal gives
abbrev pub IsCause : Rows → StoreRow → Params → Option Answer → Type 0
IsCause rows store params found = MatchOption found (IsUnknown rows params.identifier × (store.accounts < most_accounts))
    (λ given. (pw : Bytes) → Registers rows store params pw [] given)

-- one of the two
pub full_or_room : (rows : Rows) (store row : StoreRow) (params : Params) (found : Option Answer)
    → IsSound rows → HasStore rows store → HasStore rows row → IsUnknown rows params.identifier
    → IfSome found (λ given. (most_accounts ≤ row.accounts) × (given ≡ answer.Refused 409 (codes "full") (more.Number most_accounts)))
    → IfNone found (row.accounts < most_accounts) → IsCause rows store params found
full_or_room rows store row params (Some given) sound stands has unknown many few =
    λ pw. full rows store row params pw given sound stands has unknown many.0 many.1
full_or_room rows store row params None sound stands has unknown many few = (unknown, room rows store row stands has few)

-- a refusal that was found changes nothing
pub refuses : (rows : Rows) (store : StoreRow) (params : Params) (pw : Bytes) (found : Option Answer) (given : Answer) (changes : List Change)
    → IsCause rows store params found → found ≡ Some given → changes ≡ [] → Registers rows store params pw changes given
refuses rows store params pw found given changes cause is none =
    let why : (p : Bytes) → Registers rows store params p [] given = subst (IsCause rows store params) is cause in
    let P : List Change → Type 0 = λ made. Registers rows store params pw made given in
    subst P (sym none) (why pw)

-- without one the account begins
pub may_begin : (rows : Rows) (store : StoreRow) (params : Params) (found : Option Answer) → IsCause rows store params found → found ≡ None
    → IsUnknown rows params.identifier × (store.accounts < most_accounts)
may_begin rows store params found cause is = subst (IsCause rows store params) is cause

-- and has done what is asked
pub begins : {E : Type 0} (rows : Rows) (store row : StoreRow) (params : Params) (pw : Bytes) (result : Result Ruled E)
    → HasStore rows store → HasStore rows row → IsUnknown rows params.identifier × (store.accounts < most_accounts)
    → IfOk result (λ ruled. BeginsAccount row params pw ruled.changes ruled.answer)
    → IfOk result (λ ruled. Registers rows store params pw ruled.changes ruled.answer)
begins rows store row params pw result stands has may begun =
    let Of : StoreRow → Type 0 = λ r. IfOk result (λ (ruled : Ruled). BeginsAccount r params pw ruled.changes ruled.answer) in
    let own : Of store = subst Of (one_store rows row store has stands) begun in
    IfOk-weaker result (λ (ruled : Ruled). BeginsAccount store params pw ruled.changes ruled.answer)
    (λ (ruled : Ruled). Registers rows store params pw ruled.changes ruled.answer) (λ ruled is. inr (inr (may.0, may.1, is))) own

-- What holds of the rules, by the definitions alone.
use Rattle.std.specs.Prelude.{◌≡◌, ℕ, List}
use Rattle.sn_rows.specs.Table.{Rows, rows_after}
use Rattle.sn_rows.specs.declared.change.Change.{Change}
use Rattle.sn_rows.specs.declared.server_rows.StoreRow.{StoreRow}
use Rattle.sn_string.specs.declared.params.Params.{Params}
use Rattle.sn_sync.specs.declared.answer.Answer.{Answer}
use Rattle.sn_account.specs.Lookups.{Bytes, HasStore}
use Rattle.sn_account.specs.Rules.{ChangesPassword, Registers}
use Rattle.sn_account.specs.Sessions.{IsSession}
use Rattle.sn_account.specs.Sound.{IsSound}
use Rattle.sn_rows.specs.declared.key.Key.TheVariants as key

-- sound rows are sound after a registration
abbrev pub StaysSoundRegistering : Type 0
StaysSoundRegistering = (rows : Rows) (store : StoreRow) (params : Params) (pw : Bytes) (changes : List Change) (given : Answer)
    → IsSound rows → HasStore rows store → Registers rows store params pw changes given → IsSound (rows_after rows changes)

-- and after a change of password
abbrev pub StaysSoundChanging : Type 0
StaysSoundChanging = (rows : Rows) (store : StoreRow) (token current pw : Bytes) (cost : ℕ) (nonce : Bytes) (changes : List Change) (given : Answer)
    → IsSound rows → HasStore rows store → ChangesPassword rows store token current pw cost nonce changes given → IsSound (rows_after rows changes)

-- a token is one account's at most
abbrev pub HasOneAccount : Type 0
HasOneAccount = (rows : Rows) (token : Bytes) (n m : ℕ) → IsSound rows → IsSession rows token n → IsSession rows token m → n ≡ m

-- a change of password leaves the rows of other accounts, and all items, as they are
abbrev pub SparesOthers : Type 0
SparesOthers = (rows : Rows) (store : StoreRow) (token current pw : Bytes) (cost : ℕ) (nonce : Bytes) (changes : List Change) (given : Answer)
    → IsSound rows → ChangesPassword rows store token current pw cost nonce changes given
    → ((u : Bytes) → rows_after rows changes (key.Item u) ≡ rows (key.Item u))
    × ((n m : ℕ) → IsSession rows token n → ¬ (m ≡ n)
    → (rows_after rows changes (key.Account m) ≡ rows (key.Account m))
    × ((g : ℕ) → rows_after rows changes (key.Generation m g) ≡ rows (key.Generation m g)))

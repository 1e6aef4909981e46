-- A change of password leaves the rows of other accounts, and all items, as they are.
use Rattle.std.proofs.Common.{◌≡◌, ◌≢◌, ℕ, List, [], ◌∷◌, refl, sym, ◌∙◌, subst, inl, inr}
use Rattle.sn_rows.specs.Table.{Rows, rows_after}
use Rattle.sn_rows.specs.declared.change.Change.{Change}
use Rattle.sn_rows.specs.declared.key.Key.TheVariants as key
use Rattle.sn_rows.specs.declared.server_rows.AccountRow.{AccountRow}
use Rattle.sn_rows.specs.declared.server_rows.StoreRow.{StoreRow}
use Rattle.sn_string.specs.declared.params.Params.{Params}
use Rattle.sn_sync.specs.declared.answer.Answer.{Answer}
use Rattle.sn_account.specs.Laws.{HasOneAccount, SparesOthers}
use Rattle.sn_account.specs.Lookups.{Bytes}
use Rattle.sn_account.specs.Rules.{ChangesKeys, Replaces}
use Rattle.sn_account.specs.Sound.{IsSound}
use Rattle.sn_account.proofs.SoundChanging.{replaces_steps}
use Rattle.sn_account.proofs.SoundSteps.{Steps, item_was, other_account, other_generation}

-- the rows differ at most in those of the account of this number
record SparesBut (rows now : Rows) (n : ℕ) : Type 0 where
  items : (u : Bytes) → now (key.Item u) ≡ rows (key.Item u)
  account : (m : ℕ) → m ≢ n → now (key.Account m) ≡ rows (key.Account m)
  generations : (m : ℕ) → m ≢ n → (g : ℕ) → now (key.Generation m g) ≡ rows (key.Generation m g)

spared_unchanged : (rows : Rows) (changes : List Change) (n : ℕ) → changes ≡ [] → SparesBut rows (rows_after rows changes) n
spared_unchanged rows changes n e =
    subst (λ (cs : List Change). SparesBut rows (rows_after rows cs) n) (sym e)
    (record { items = λ u. refl; account = λ m apart. refl; generations = λ m apart g. refl })

spared_replaced : (rows : Rows) (store : StoreRow) (n : ℕ) (a : AccountRow) (pw : Bytes) (cost : ℕ) (nonce : Bytes) (changes : List Change) (given : Answer)
    → IsSound rows → Replaces store n a pw cost nonce changes given → SparesBut rows (rows_after rows changes) n
spared_replaced rows store n a pw cost nonce changes given s r =
    let now : Rows = rows_after rows (r.account ∷ r.generation ∷ []) in
    let t : Steps rows now s.store n r.account_puts.row r.generation_puts.row = replaces_steps rows s store n a pw cost nonce changes given r in
    subst (λ (cs : List Change). SparesBut rows (rows_after rows cs) n) (sym r.changes_are)
    (record {
      items = item_was rows now s.store n r.account_puts.row r.generation_puts.row t;
      account = other_account rows now s.store n r.account_puts.row r.generation_puts.row t;
      generations = λ m apart g. other_generation rows now s.store n r.account_puts.row r.generation_puts.row t m g apart;
    })

spared_keys : (rows : Rows) (store : StoreRow) (n : ℕ) (a : AccountRow) (present : Params) (pw : Bytes) (cost : ℕ) (nonce : Bytes) (changes : List Change) (given : Answer)
    → IsSound rows → ChangesKeys rows store n a present pw cost nonce changes given → SparesBut rows (rows_after rows changes) n
spared_keys rows store n a present pw cost nonce changes given s (inl behind) = spared_unchanged rows changes n behind.2.0
spared_keys rows store n a present pw cost nonce changes given s (inr (inl used)) = spared_unchanged rows changes n used.2.0
spared_keys rows store n a present pw cost nonce changes given s (inr (inr (inl full))) = spared_unchanged rows changes n full.3.0
spared_keys rows store n a present pw cost nonce changes given s (inr (inr (inr next))) = spared_replaced rows store n a pw cost nonce changes given s next.3

-- the account whose rows change is the one that the token is of, whichever number is given for it
pub spares_others : HasOneAccount → SparesOthers
spares_others one rows store token current pw cost nonce changes given s (inl none) =
    let spared : (n : ℕ) → SparesBut rows (rows_after rows changes) n = λ n. spared_unchanged rows changes n none.1.0 in
    ((spared 0).items, λ n m session apart. ((spared n).account m apart, (spared n).generations m apart))
spares_others one rows store token current pw cost nonce changes given s (inr (inl wrong)) =
    let spared : (n : ℕ) → SparesBut rows (rows_after rows changes) n = λ n. spared_unchanged rows changes n wrong.5.0 in
    ((spared 0).items, λ n m session apart. ((spared n).account m apart, (spared n).generations m apart))
spares_others one rows store token current pw cost nonce changes given s (inr (inr ruled)) =
    let spared : SparesBut rows (rows_after rows changes) ruled.0 =
    spared_keys rows store ruled.0 ruled.1 ruled.2 pw cost nonce changes given s ruled.7 in (
      spared.items,
      λ n m session apart.
          let other : m ≢ ruled.0 = λ e. apart (e ∙ one rows token ruled.0 n s ruled.3 session) in
          (spared.account m other, spared.generations m other),
    )

-- Rows that are there, or aren't.
use Rattle.std.proofs.Common.{◌≡◌, ◌⊎◌, ℕ, suc, ◌<◌, ◌≤◌, ◌&&◌, nat_le, length, Option, Some, None, refl, ap, ◌∙◌, inl, inr, arith}
use Rattle.std.specs.Prelude.{IsTrue}
use Rattle.std.specs.Str.{IsUtf8, is_utf8}
use Rattle.std.proofs.lemmas.Bool.{and_from}
use Rattle.std.proofs.lemmas.Bool.Decides.{nat_tests}
use Rattle.std.proofs.lemmas.Str.{is_utf8-from_IsUtf8}
use Rattle.sn_rows.specs.Bounds.{is_text_of}
use Rattle.sn_rows.specs.Kinds.{key_kind, value_kind}
use Rattle.sn_rows.specs.Table.{Puts, Rows}
use Rattle.sn_rows.specs.declared.change.Change.{Change}
use Rattle.sn_rows.specs.declared.change.Change.TheVariants.{Put}
use Rattle.sn_rows.specs.declared.key.Key.{Key}
use Rattle.sn_rows.specs.declared.key.Key.TheVariants as key
use Rattle.sn_rows.specs.declared.server_rows.AccountRow.{AccountRow}
use Rattle.sn_rows.specs.declared.server_rows.GenerationRow.{GenerationRow}
use Rattle.sn_rows.specs.declared.server_rows.ItemRow.{ItemRow}
use Rattle.sn_rows.specs.declared.server_rows.StoreRow.{StoreRow}
use Rattle.sn_rows.specs.declared.value.Value.{Value}
use Rattle.sn_rows.specs.declared.value.Value.TheVariants as value
use Rattle.sn_string.specs.declared.params.Params.{Params}
use Rattle.sn_account.specs.Lookups.{Bytes, HasAccount, HasGeneration, HasItem, IsNamed, IsUnknown}
use Rattle.sn_account.specs.RuleTotal.{HaveCosts}
use Rattle.sn_account.specs.Rules.{IsPresent}
use Rattle.sn_account.specs.Sessions.{IsNoSession, IsSession, session_token}
use Rattle.sn_account.specs.Sound.{IsSound}
use Rattle.sn_account.proofs.Deciding.{Decided, below_or_none, decided_so, same_list}
use Rattle.sn_account.proofs.NamedLemmas.{one_account, one_store}
use Rattle.sn_account.proofs.PresentLemmas.{lengths, stands_present}

-- a text within its bounds, by its test
pub text_fits : (least most : ℕ) (text : Bytes) → IsUtf8 text → least ≤ length text → length text ≤ most → IsTrue (is_text_of least most text)
text_fits least most text utf8 low high =
    and_from (is_utf8 text) (nat_le least (length text) && nat_le (length text) most) (is_utf8-from_IsUtf8 text utf8)
    (and_from (nat_le least (length text)) (nat_le (length text) most) (grind (arith, nat_tests)) (grind (arith, nat_tests)))

-- the change that puts a value of a key's kind
pub put_of : (at : Key) (v : Value) → key_kind at ≡ value_kind v → (c : Change) × Puts c at v
put_of at v same = (Put (record { key = at; value = v; one_kind = same }), record { key_is = refl; value_is = refl })

-- ---- items

pub stored_or_not : (rows : Rows) → ((u : Bytes) (v : Value) → rows (key.Item u) ≡ Some v → key_kind (key.Item u) ≡ value_kind v) → (u : Bytes)
    → ((row : ItemRow) × HasItem rows u row) ⊎ ((row : ItemRow) → HasItem rows u row → ⊥)
stored_or_not rows kinds u = by_value (rows (key.Item u)) refl
  where
    by_value : (o : Option Value) → rows (key.Item u) ≡ o → ((row : ItemRow) × HasItem rows u row) ⊎ ((row : ItemRow) → HasItem rows u row → ⊥)
    by_value None e = inr (λ row has. absurd cc)
    by_value (Some (value.Item row)) e = inl (row, e)
    by_value (Some (value.Store r)) e = (let k = kinds u (value.Store r) e in absurd cc)
    by_value (Some (value.Account r)) e = (let k = kinds u (value.Account r) e in absurd cc)
    by_value (Some (value.Generation r)) e = (let k = kinds u (value.Generation r) e in absurd cc)
    by_value (Some (value.Owner r)) e = (let k = kinds u (value.Owner r) e in absurd cc)
    by_value (Some (value.Set r)) e = (let k = kinds u (value.Set r) e in absurd cc)
    by_value (Some (value.Local r)) e = (let k = kinds u (value.Local r) e in absurd cc)

-- ---- accounts

module _ (rows : Rows) (sound : IsSound rows) where
  pub account_or_not : (n : ℕ) → ((a : AccountRow) × HasAccount rows n a) ⊎ ((a : AccountRow) → HasAccount rows n a → ⊥)
  account_or_not n = by_value (rows (key.Account n)) refl
    where
      by_value : (o : Option Value) → rows (key.Account n) ≡ o → ((a : AccountRow) × HasAccount rows n a) ⊎ ((a : AccountRow) → HasAccount rows n a → ⊥)
      by_value None e = inr (λ a has. absurd cc)
      by_value (Some (value.Account a)) e = inl (a, e)
      by_value (Some (value.Store r)) e = (let k = sound.kinds (key.Account n) (value.Store r) e in absurd cc)
      by_value (Some (value.Item r)) e = (let k = sound.kinds (key.Account n) (value.Item r) e in absurd cc)
      by_value (Some (value.Generation r)) e = (let k = sound.kinds (key.Account n) (value.Generation r) e in absurd cc)
      by_value (Some (value.Owner r)) e = (let k = sound.kinds (key.Account n) (value.Owner r) e in absurd cc)
      by_value (Some (value.Set r)) e = (let k = sound.kinds (key.Account n) (value.Set r) e in absurd cc)
      by_value (Some (value.Local r)) e = (let k = sound.kinds (key.Account n) (value.Local r) e in absurd cc)

  generation_or_not : (n g : ℕ) → ((r : GenerationRow) × HasGeneration rows n g r) ⊎ ((r : GenerationRow) → HasGeneration rows n g r → ⊥)
  generation_or_not n g = by_value (rows (key.Generation n g)) refl
    where
      by_value : (o : Option Value) → rows (key.Generation n g) ≡ o
          → ((r : GenerationRow) × HasGeneration rows n g r) ⊎ ((r : GenerationRow) → HasGeneration rows n g r → ⊥)
      by_value None e = inr (λ r has. absurd cc)
      by_value (Some (value.Generation r)) e = inl (r, e)
      by_value (Some (value.Store r)) e = (let k = sound.kinds (key.Generation n g) (value.Store r) e in absurd cc)
      by_value (Some (value.Item r)) e = (let k = sound.kinds (key.Generation n g) (value.Item r) e in absurd cc)
      by_value (Some (value.Account r)) e = (let k = sound.kinds (key.Generation n g) (value.Account r) e in absurd cc)
      by_value (Some (value.Owner r)) e = (let k = sound.kinds (key.Generation n g) (value.Owner r) e in absurd cc)
      by_value (Some (value.Set r)) e = (let k = sound.kinds (key.Generation n g) (value.Set r) e in absurd cc)
      by_value (Some (value.Local r)) e = (let k = sound.kinds (key.Generation n g) (value.Local r) e in absurd cc)

  -- the number of an account that is there
  number_low : (n : ℕ) (a : AccountRow) → HasAccount rows n a → n < suc sound.store.accounts
  number_low n a has = (let counted = sound.numbered n (value.Account a) has in omega arith)

  named_at : (identifier : Bytes) (n : ℕ) → Decided (IsNamed rows identifier n)
  named_at identifier n = by_account (account_or_not n)
    where
      by_account : ((a : AccountRow) × HasAccount rows n a) ⊎ ((a : AccountRow) → HasAccount rows n a → ⊥) → Decided (IsNamed rows identifier n)
      by_account (inl (a, has)) =
          decided_so (λ e. (a, has, e)) (λ named. ap (λ (r : AccountRow). r.identifier) (one_account rows n a named.0 has named.1) ∙ named.2)
          (same_list a.identifier identifier)
      by_account (inr none) = inr (λ named. none named.0 named.1)

  pub named_or_unknown : (identifier : Bytes) → ((n : ℕ) × IsNamed rows identifier n) ⊎ IsUnknown rows identifier
  named_or_unknown identifier = by_search (below_or_none (IsNamed rows identifier) (named_at identifier) (suc sound.store.accounts))
    where
      by_search : ((n : ℕ) × (n < suc sound.store.accounts) × IsNamed rows identifier n)
          ⊎ ((n : ℕ) → n < suc sound.store.accounts → IsNamed rows identifier n → ⊥) → ((n : ℕ) × IsNamed rows identifier n) ⊎ IsUnknown rows identifier
      by_search (inl (n, low, named)) = inl (n, named)
      by_search (inr none) = inr (λ n named. none n (number_low n named.0 named.1) named)

  session_at : (token : Bytes) (n : ℕ) → Decided (IsSession rows token n)
  session_at token n = by_account (account_or_not n)
    where
      by_account : ((a : AccountRow) × HasAccount rows n a) ⊎ ((a : AccountRow) → HasAccount rows n a → ⊥) → Decided (IsSession rows token n)
      by_account (inl (a, has)) =
          decided_so (λ e. record { store = sound.store; stands = sound.stands; account = a; there = has; is = e })
          (λ s. (let accounts : s.account ≡ a = one_account rows n s.account a s.there has in
          let stores : s.store ≡ sound.store = one_store rows s.store sound.store s.stands sound.stands in
          s.is ∙ ap (λ (x : StoreRow). session_token x.secret n s.account.generation) stores
          ∙ ap (λ (x : AccountRow). session_token sound.store.secret n x.generation) accounts))
          (same_list token (session_token sound.store.secret n a.generation))
      by_account (inr none) = inr (λ s. none s.account s.there)

  pub session_or_not : (token : Bytes) → ((n : ℕ) × IsSession rows token n) ⊎ IsNoSession rows token
  session_or_not token = by_search (below_or_none (IsSession rows token) (session_at token) (suc sound.store.accounts))
    where
      by_search : ((n : ℕ) × (n < suc sound.store.accounts) × IsSession rows token n)
          ⊎ ((n : ℕ) → n < suc sound.store.accounts → IsSession rows token n → ⊥) → ((n : ℕ) × IsSession rows token n) ⊎ IsNoSession rows token
      by_search (inl (n, low, is)) = inl (n, is)
      by_search (inr none) = inr (λ n is. none n (number_low n is.account is.there) is)

  -- the parameters of an account's present keys
  pub has_present : HaveCosts rows → (n : ℕ) (a : AccountRow) → HasAccount rows n a → (p : Params) × IsPresent rows n p
  has_present costs n a has =
      let stands : (r : GenerationRow) × HasGeneration rows n a.generation r = stands_present rows n a sound has in (
        record {
          identifier = a.identifier;
          pw_cost = stands.0.pw_cost;
          pw_nonce = stands.0.pw_nonce;
          identifier_fits = lengths 1 254 a.identifier a.identifier_fits;
          cost_fits = (stands.0.cost_fits, costs n a.generation stands.0 stands.1);
          nonce_fits = lengths 1 256 stands.0.pw_nonce stands.0.nonce_fits;
        },
        record { account = a; there = has; generation = stands.0; stands = stands.1; identifier = refl; cost = refl; nonce = refl },
      )

  -- a nonce that the account had in some generation
  pub used_or_not : (n : ℕ) (a : AccountRow) → HasAccount rows n a → (nonce : Bytes)
      → Decided ((g : ℕ) × ((r : GenerationRow) × HasGeneration rows n g r × (r.pw_nonce ≡ nonce)))
  used_or_not n a has nonce = by_search (below_or_none Used used_at (suc a.generation))
    where
      Used : ℕ → Type 0
      Used g = (r : GenerationRow) × HasGeneration rows n g r × (r.pw_nonce ≡ nonce)

      used_at : (g : ℕ) → Decided ((r : GenerationRow) × HasGeneration rows n g r × (r.pw_nonce ≡ nonce))
      used_at g = by_row (generation_or_not n g)
        where
          by_row : ((r : GenerationRow) × HasGeneration rows n g r) ⊎ ((r : GenerationRow) → HasGeneration rows n g r → ⊥)
              → Decided ((r : GenerationRow) × HasGeneration rows n g r × (r.pw_nonce ≡ nonce))
          by_row (inl (r, there)) =
              decided_so (λ e. (r, there, e)) (λ used. (let same : r ≡ used.0 = (let x = there in let y = used.1 in cc) in ap (λ (x : GenerationRow). x.pw_nonce) same ∙ used.2))
              (same_list r.pw_nonce nonce)
          by_row (inr none) = inr (λ used. none used.0 used.1)

      by_search : ((g : ℕ) × (g < suc a.generation) × Used g) ⊎ ((g : ℕ) → g < suc a.generation → Used g → ⊥)
          → Decided ((g : ℕ) × ((r : GenerationRow) × HasGeneration rows n g r × (r.pw_nonce ≡ nonce)))
      by_search (inl (g, low, used)) = inl (g, used)
      by_search (inr none) =
          inr (λ found. (let bound = sound.no_more n found.0 (value.Generation found.1.0) found.1.1 in
          let same : bound.0 ≡ a = one_account rows n bound.0 a bound.1 has in
          let generations = ap (λ (r : AccountRow). r.generation) same in
          none found.0 (let low = bound.3 in omega arith) found.1))

-- The rows after a change of one account: its row, the parameters of its present keys and the store's row are put, the others stay.
use Rattle.std.proofs.Common.{◌≡◌, ◌≢◌, ◌⊎◌, ℕ, [], ◌∷◌, Some, sym, ap, ◌∙◌, subst, inl, inr}
use Rattle.std.proofs.lemmas.Bool.{cases_Bool, cases_eq, iff_false}
use Rattle.sn_rows.specs.Table.{Puts, Rows, rows_after, same_key}
use Rattle.sn_rows.specs.declared.change.Change.{Change}
use Rattle.sn_rows.specs.declared.key.Key.{Key}
use Rattle.sn_rows.specs.declared.key.Key.TheVariants as key
use Rattle.sn_rows.specs.declared.server_rows.AccountRow.{AccountRow}
use Rattle.sn_rows.specs.declared.server_rows.GenerationRow.{GenerationRow}
use Rattle.sn_rows.specs.declared.server_rows.StoreRow.{StoreRow}
use Rattle.sn_rows.specs.declared.value.Value.{Value}
use Rattle.sn_rows.specs.declared.value.Value.TheVariants as value
use Rattle.sn_rows.specs.Facts.{keys_compare, put_elsewhere, put_here}
use Rattle.sn_account.specs.Lookups.{Bytes, HasAccount, HasGeneration, HasStore}

-- what the rows are then
pub record Steps (rows now : Rows) (store : StoreRow) (n : ℕ) (row : AccountRow) (made : GenerationRow) : Type 0 where
  pub store_is : HasStore now store
  pub account_is : HasAccount now n row
  pub generation_is : HasGeneration now n row.generation made
  pub others : (k : Key) → key.Account n ≢ k → key.Generation n row.generation ≢ k → key.Store ≢ k → now k ≡ rows k

-- after the puts of the account and of the generation
pub put_both : (rows : Rows) (store : StoreRow) (n : ℕ) (row : AccountRow) (made : GenerationRow) (account generation : Change)
    → Puts account (key.Account n) (value.Account row) → Puts generation (key.Generation n row.generation) (value.Generation made) → HasStore rows store
    → Steps rows (rows_after rows (account ∷ generation ∷ [])) store n row made
put_both rows store n row made account generation p q stands =
    record {
      store_is = past key.Store (λ e. cc) (λ e. cc) ∙ stands;
      account_is = put_elsewhere (rows_after rows (account ∷ [])) generation (key.Generation n row.generation) (key.Account n) (value.Generation made) q (λ e. cc)
          ∙ put_here rows account (key.Account n) (value.Account row) p;
      generation_is = put_here (rows_after rows (account ∷ [])) generation (key.Generation n row.generation) (value.Generation made) q;
      others = λ k off off_too no_store. past k off off_too;
    }
  where
    past : (k : Key) → key.Account n ≢ k → key.Generation n row.generation ≢ k → rows_after rows (account ∷ generation ∷ []) k ≡ rows k
    past k off off_too =
        put_elsewhere (rows_after rows (account ∷ [])) generation (key.Generation n row.generation) k (value.Generation made) q off_too
        ∙ put_elsewhere rows account (key.Account n) k (value.Account row) p off

-- and then that of the store's row
pub put_count : (rows mid : Rows) (store new : StoreRow) (n : ℕ) (row : AccountRow) (made : GenerationRow) (count : Change)
    → Puts count key.Store (value.Store new) → Steps rows mid store n row made → Steps rows (rows_after mid (count ∷ [])) new n row made
put_count rows mid store new n row made count p t =
    record {
      store_is = put_here mid count key.Store (value.Store new) p;
      account_is = past (key.Account n) (λ e. cc) ∙ t.account_is;
      generation_is = past (key.Generation n row.generation) (λ e. cc) ∙ t.generation_is;
      others = λ k off off_too no_store. past k no_store ∙ t.others k off off_too no_store;
    }
  where
    past : (k : Key) → key.Store ≢ k → rows_after mid (count ∷ []) k ≡ mid k
    past k off = put_elsewhere mid count key.Store k (value.Store new) p off

-- where each row is from
module _ (rows now : Rows) (store : StoreRow) (n : ℕ) (row : AccountRow) (made : GenerationRow) (t : Steps rows now store n row made) where
  pub item_was : (u : Bytes) → now (key.Item u) ≡ rows (key.Item u)
  item_was u = t.others (key.Item u) (λ e. cc) (λ e. cc) (λ e. cc)

  pub other_account : (m : ℕ) → m ≢ n → now (key.Account m) ≡ rows (key.Account m)
  other_account m apart = t.others (key.Account m) (λ e. apart (cc)) (λ e. cc) (λ e. cc)

  pub other_generation : (m g : ℕ) → m ≢ n → now (key.Generation m g) ≡ rows (key.Generation m g)
  other_generation m g apart = t.others (key.Generation m g) (λ e. cc) (λ e. apart (cc)) (λ e. cc)

  pub earlier_generation : (g : ℕ) → g ≢ row.generation → now (key.Generation n g) ≡ rows (key.Generation n g)
  earlier_generation g apart = t.others (key.Generation n g) (λ e. cc) (λ e. apart (cc)) (λ e. cc)

  pub own_account : (m : ℕ) → m ≡ n → HasAccount now m row
  own_account m e = subst (λ (k : ℕ). HasAccount now k row) (sym e) t.account_is

  pub account_was : (m : ℕ) (v : Value) → now (key.Account m) ≡ Some v
      → ((m ≡ n) × (v ≡ value.Account row)) ⊎ ((m ≢ n) × (rows (key.Account m) ≡ Some v))
  account_was m v h =
      elim (cases_eq m n) [
        | inl same ↦ inl (same, (let own : HasAccount now m row = own_account m same in cc))
        | inr apart ↦ inr (apart, sym (other_account m apart) ∙ h)
      ]

  -- the same of a row of the kind
  pub account_row : (m : ℕ) (a : AccountRow) → HasAccount now m a → ((m ≡ n) × (a ≡ row)) ⊎ ((m ≢ n) × HasAccount rows m a)
  account_row m a h =
      elim (account_was m (value.Account a) h) [
        | inl own ↦ inl (own.0, (let e : value.Account a ≡ value.Account row = own.1 in cc))
        | inr old ↦ inr old
      ]

  pub generation_was : (m g : ℕ) (v : Value) → now (key.Generation m g) ≡ Some v
      → ((m ≡ n) × (g ≡ row.generation) × (v ≡ value.Generation made)) ⊎ (rows (key.Generation m g) ≡ Some v)
  generation_was m g v h =
      elim (cases_Bool (same_key (key.Generation n row.generation) (key.Generation m g))) [
        | inl same ↦ inl (its ((keys_compare (key.Generation n row.generation) (key.Generation m g)).0 same))
        | inr other ↦ inr (sym (t.others (key.Generation m g) (λ e. cc) (iff_false (keys_compare (key.Generation n row.generation) (key.Generation m g)) other) (λ e. cc)) ∙ h)
      ]
    where
      its : key.Generation n row.generation ≡ key.Generation m g → (m ≡ n) × (g ≡ row.generation) × (v ≡ value.Generation made)
      its e = let own : now (key.Generation m g) ≡ Some (value.Generation made) = ap now (sym e) ∙ t.generation_is in (cc, cc, cc)

-- Sound rows are sound after a change of one account, where the account that is put fits among them.
use Rattle.std.proofs.Common.{◌≡◌, ◌≢◌, ◌<◌, ◌≤◌, ℕ, Some, refl, sym, ap, ◌∙◌, subst, inl, inr, arith}
use Rattle.std.proofs.lemmas.Bool.{cases_Bool, cases_eq, iff_false}
use Rattle.sn_rows.specs.Kinds.{key_kind, value_kind}
use Rattle.sn_rows.specs.Table.{Rows, same_key}
use Rattle.sn_rows.specs.declared.key.Key.{Key}
use Rattle.sn_rows.specs.declared.key.Key.TheVariants as key
use Rattle.sn_rows.specs.declared.server_rows.AccountRow.{AccountRow}
use Rattle.sn_rows.specs.declared.server_rows.GenerationRow.{GenerationRow}
use Rattle.sn_rows.specs.declared.server_rows.ItemRow.{ItemRow}
use Rattle.sn_rows.specs.declared.server_rows.StoreRow.{StoreRow}
use Rattle.sn_rows.specs.declared.value.Value.{Value}
use Rattle.sn_rows.specs.declared.value.Value.TheVariants as value
use Rattle.sn_rows.specs.Facts.{keys_compare}
use Rattle.sn_sync.specs.Laws.{AreBytes}
use Rattle.sn_account.specs.Lookups.{Bytes, HasAccount, HasGeneration, HasItem}
use Rattle.sn_account.specs.Sound.{IsSound, IsSoundItem, most_accounts, most_generations}
use Rattle.sn_account.proofs.SoundSteps.{Steps, account_row, account_was, earlier_generation, generation_was, item_was, other_account, other_generation, own_account}

-- what the rules see to, of an account that is there already or is the next
pub record Fits (rows : Rows) (old store : StoreRow) (n : ℕ) (row : AccountRow) (made : GenerationRow) : Type 0 where
  pub last : store.last ≡ old.last
  pub bound : store.accounts ≤ most_accounts
  pub grows : old.accounts ≤ store.accounts
  pub known : (m : ℕ) → m ≤ store.accounts → m ≢ n → m ≤ old.accounts
  pub low : 1 ≤ n
  pub high : n ≤ store.accounts
  pub first : 1 ≤ row.generation
  pub most : row.generation ≤ most_generations
  pub alone : (m : ℕ) (b : AccountRow) → HasAccount rows m b → b.identifier ≡ row.identifier → m ≡ n
  pub earlier : (g : ℕ) → 1 ≤ g → g < row.generation → (r : GenerationRow) × HasGeneration rows n g r
  pub below : (g : ℕ) (v : Value) → rows (key.Generation n g) ≡ Some v → (1 ≤ g) × (g < row.generation)
  pub unused : (g : ℕ) (r : GenerationRow) → HasGeneration rows n g r → r.pw_nonce ≢ made.pw_nonce

module _ (rows now : Rows) (s : IsSound rows) (store : StoreRow) (n : ℕ) (row : AccountRow) (made : GenerationRow) (t : Steps rows now store n row made)
    (f : Fits rows s.store store n row made) where
  kinds_kept : (k : Key) (v : Value) → now k ≡ Some v → key_kind k ≡ value_kind v
  kinds_kept k v h =
      elim (cases_Bool (same_key (key.Account n) k)) [
        | inl same ↦ of_put (key.Account n) (value.Account row) t.account_is refl ((keys_compare (key.Account n) k).0 same)
        | inr no_account ↦ elim (cases_Bool (same_key (key.Generation n row.generation) k)) [
          | inl same ↦ of_put (key.Generation n row.generation) (value.Generation made) t.generation_is refl ((keys_compare (key.Generation n row.generation) k).0 same)
          | inr no_generation ↦ elim (cases_Bool (same_key key.Store k)) [
            | inl same ↦ of_put key.Store (value.Store store) t.store_is refl ((keys_compare key.Store k).0 same)
            | inr no_store ↦ s.kinds k v (sym (t.others k (iff_false (keys_compare (key.Account n) k) no_account)
                (iff_false (keys_compare (key.Generation n row.generation) k) no_generation) (iff_false (keys_compare key.Store k) no_store)) ∙ h)
          ]
        ]
      ]
    where
      of_put : (at : Key) (w : Value) → now at ≡ Some w → key_kind at ≡ value_kind w → at ≡ k → key_kind k ≡ value_kind v
      of_put at w there kind same =
          let found : now k ≡ Some w = ap now (sym same) ∙ there in
          let one : w ≡ v = cc in
          sym (ap key_kind same) ∙ kind ∙ ap value_kind one

  still_there : (m : ℕ) (a : AccountRow) → HasAccount rows m a → (b : AccountRow) × HasAccount now m b
  still_there m a h =
      elim (cases_eq m n) [
        | inl same ↦ (row, own_account rows now store n row made t m same)
        | inr apart ↦ (a, other_account rows now store n row made t m apart ∙ h)
      ]

  accounts_kept : (m : ℕ) → 1 ≤ m → m ≤ store.accounts → (a : AccountRow) × HasAccount now m a
  accounts_kept m low high =
      elim (cases_eq m n) [
        | inl same ↦ (row, own_account rows now store n row made t m same)
        | inr apart ↦
            let old : (a : AccountRow) × HasAccount rows m a = s.accounts m low (f.known m high apart) in
            (old.0, other_account rows now store n row made t m apart ∙ old.1)
      ]

  numbered_kept : (m : ℕ) (v : Value) → now (key.Account m) ≡ Some v → (1 ≤ m) × (m ≤ store.accounts)
  numbered_kept m v h =
      elim (account_was rows now store n row made t m v h) [
        | inl own ↦ subst (λ (k : ℕ). (1 ≤ k) × (k ≤ store.accounts)) (sym own.0) (f.low, f.high)
        | inr old ↦
            let within : (1 ≤ m) × (m ≤ s.store.accounts) = s.numbered m v old.1 in
            let grows : s.store.accounts ≤ store.accounts = f.grows in
            (within.0, omega arith)
      ]

  generation_kept : (m : ℕ) (a : AccountRow) → HasAccount now m a → (1 ≤ a.generation) × (a.generation ≤ most_generations)
  generation_kept m a h =
      elim (account_row rows now store n row made t m a h) [
        | inl own ↦ subst (λ (b : AccountRow). (1 ≤ b.generation) × (b.generation ≤ most_generations)) (sym own.1) (f.first, f.most)
        | inr old ↦ s.generation m a old.1
      ]

  apart_kept : (m p : ℕ) (a b : AccountRow) → HasAccount now m a → HasAccount now p b → a.identifier ≡ b.identifier → m ≡ p
  apart_kept m p a b h k e =
      elim (account_row rows now store n row made t m a h) [
        | inl own ↦ elim (account_row rows now store n row made t p b k) [
          | inl own_too ↦ own.0 ∙ sym own_too.0
          | inr old ↦ own.0 ∙ sym (f.alone p b old.1 (sym e ∙ ap (λ (x : AccountRow). x.identifier) own.1))
        ]
        | inr old ↦ elim (account_row rows now store n row made t p b k) [
          | inl own ↦ f.alone m a old.1 (e ∙ ap (λ (x : AccountRow). x.identifier) own.1) ∙ sym own.0
          | inr old_too ↦ s.apart m p a b old.1 old_too.1 e
        ]
      ]

  own_params : (g : ℕ) → 1 ≤ g → g ≤ row.generation → (r : GenerationRow) × HasGeneration now n g r
  own_params g low high =
      elim (cases_eq g row.generation) [
        | inl same ↦ (made, subst (λ (h : ℕ). HasGeneration now n h made) (sym same) t.generation_is)
        | inr apart ↦
            let old : (r : GenerationRow) × HasGeneration rows n g r = f.earlier g low (omega arith) in
            (old.0, earlier_generation rows now store n row made t g apart ∙ old.1)
      ]

  params_kept : (m g : ℕ) (a : AccountRow) → HasAccount now m a → 1 ≤ g → g ≤ a.generation → (r : GenerationRow) × HasGeneration now m g r
  params_kept m g a h low high =
      elim (account_row rows now store n row made t m a h) [
        | inl own ↦ subst (λ (k : ℕ). (r : GenerationRow) × HasGeneration now k g r) (sym own.0)
            (own_params g low (subst (λ (b : AccountRow). g ≤ b.generation) own.1 high))
        | inr old ↦
            let found : (r : GenerationRow) × HasGeneration rows m g r = s.params m g a old.1 low high in
            (found.0, other_generation rows now store n row made t m g old.0 ∙ found.1)
      ]

  no_more_kept : (m g : ℕ) (v : Value) → now (key.Generation m g) ≡ Some v → (a : AccountRow) × HasAccount now m a × (1 ≤ g) × (g ≤ a.generation)
  no_more_kept m g v h =
      elim (generation_was rows now store n row made t m g v h) [
        | inl own ↦ of_own own.0 (subst (λ (x : ℕ). 1 ≤ x) (sym own.1) f.first) (let same : g ≡ row.generation = own.1 in omega arith)
        | inr old ↦ elim (cases_eq m n) [
          | inl same ↦
              let within : (1 ≤ g) × (g < row.generation) = f.below g v (subst (λ (k : ℕ). rows (key.Generation k g) ≡ Some v) same old) in
              of_own same within.0 (omega arith)
          | inr apart ↦
              let found : (a : AccountRow) × HasAccount rows m a × (1 ≤ g) × (g ≤ a.generation) = s.no_more m g v old in
              (found.0, other_account rows now store n row made t m apart ∙ found.1, found.2, found.3)
        ]
      ]
    where
      of_own : m ≡ n → 1 ≤ g → g ≤ row.generation → (a : AccountRow) × HasAccount now m a × (1 ≤ g) × (g ≤ a.generation)
      of_own same low high = (row, own_account rows now store n row made t m same, low, high)

  -- no earlier generation of the account has the nonce
  one_new : (m g : ℕ) (r made_too : GenerationRow) → m ≡ n → value.Generation made_too ≡ value.Generation made → HasGeneration rows m g r → r.pw_nonce ≢ made_too.pw_nonce
  one_new m g r made_too same is h e =
      let one : made_too ≡ made = cc in
      f.unused g r (subst (λ (k : ℕ). HasGeneration rows k g r) same h) (e ∙ ap (λ (x : GenerationRow). x.pw_nonce) one)

  fresh_kept : (m g h : ℕ) (r q : GenerationRow) → HasGeneration now m g r → HasGeneration now m h q → r.pw_nonce ≡ q.pw_nonce → g ≡ h
  fresh_kept m g h r q x y e =
      elim (generation_was rows now store n row made t m g (value.Generation r) x) [
        | inl own ↦ elim (generation_was rows now store n row made t m h (value.Generation q) y) [
          | inl own_too ↦ own.1 ∙ sym own_too.1
          | inr old ↦ absurd (one_new m h q r own.0 own.2 old (sym e))
        ]
        | inr old ↦ elim (generation_was rows now store n row made t m h (value.Generation q) y) [
          | inl own ↦ absurd (one_new m g r q own.0 own.2 old e)
          | inr old_too ↦ s.fresh m g h r q old old_too e
        ]
      ]

  old_item : (u : Bytes) (i : ItemRow) → HasItem now u i → HasItem rows u i
  old_item u i h = sym (item_was rows now store n row made t u) ∙ h

  named_kept : (u : Bytes) (i : ItemRow) → HasItem now u i → AreBytes 16 u
  named_kept u i h = s.named u i (old_item u i h)

  owned_kept : (u : Bytes) (i : ItemRow) → HasItem now u i → (a : AccountRow) × HasAccount now i.account a
  owned_kept u i h =
      let old : (a : AccountRow) × HasAccount rows i.account a = s.owned u i (old_item u i h) in
      still_there i.account old.0 old.1

  items_kept : (u : Bytes) (i : ItemRow) → HasItem now u i → IsSoundItem store.last u i
  items_kept u i h =
      let old : IsSoundItem s.store.last u i = s.items u i (old_item u i h) in
      record {
        first = old.first;
        later = old.later;
        given = subst (λ (x : ℕ). i.updated ≤ x) (sym f.last) old.given;
        gone = old.gone;
        sealed = old.sealed;
      }

  stamps_kept : (u w : Bytes) (i j : ItemRow) → HasItem now u i → HasItem now w j → i.updated ≡ j.updated → u ≡ w
  stamps_kept u w i j h k e = s.stamps u w i j (old_item u i h) (old_item w j k) e

  pub stays_sound : IsSound now
  stays_sound = record {
    kinds = kinds_kept;
    store = store;
    stands = t.store_is;
    bound = f.bound;
    accounts = accounts_kept;
    numbered = numbered_kept;
    generation = generation_kept;
    apart = apart_kept;
    params = params_kept;
    no_more = no_more_kept;
    fresh = fresh_kept;
    named = named_kept;
    owned = owned_kept;
    items = items_kept;
    stamps = stamps_kept;
  }

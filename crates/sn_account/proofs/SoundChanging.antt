-- Sound rows are sound after a change of password.
use Rattle.std.proofs.Common.{◌≡◌, ◌<◌, ◌≤◌, ℕ, suc, List, [], ◌∷◌, Some, refl, sym, ◌∙◌, subst, inl, inr, arith}
use Rattle.sn_rows.specs.Table.{Puts, Rows, rows_after}
use Rattle.sn_rows.specs.declared.change.Change.{Change}
use Rattle.sn_rows.specs.declared.key.Key.TheVariants as key
use Rattle.sn_rows.specs.declared.server_rows.AccountRow.{AccountRow}
use Rattle.sn_rows.specs.declared.server_rows.StoreRow.{StoreRow}
use Rattle.sn_rows.specs.declared.value.Value.{Value}
use Rattle.sn_rows.specs.declared.value.Value.TheVariants as value
use Rattle.sn_string.specs.declared.params.Params.{Params}
use Rattle.sn_sync.specs.declared.answer.Answer.{Answer}
use Rattle.sn_account.specs.Laws.{StaysSoundChanging}
use Rattle.sn_account.specs.Lookups.{Bytes, HasAccount}
use Rattle.sn_account.specs.Rules.{ChangesKeys, IsUsed, Replaces}
use Rattle.sn_account.specs.Sound.{IsSound, most_generations}
use Rattle.sn_account.proofs.SoundFields.{Fits, stays_sound}
use Rattle.sn_account.proofs.SoundRegistering.{sound_unchanged}
use Rattle.sn_account.proofs.SoundSteps.{Steps, put_both}

-- a table has one row of an account
one_account : (rows : Rows) (n : ℕ) (a b : AccountRow) → HasAccount rows n a → HasAccount rows n b → a ≡ b
one_account rows n a b h k = cc

module _ (rows : Rows) (s : IsSound rows) (store : StoreRow) (n : ℕ) (a : AccountRow) (pw : Bytes) (cost : ℕ) (nonce : Bytes) (changes : List Change) (given : Answer)
    (r : Replaces store n a pw cost nonce changes given) where
  pub replaces_steps : Steps rows (rows_after rows (r.account ∷ r.generation ∷ [])) s.store n r.account_puts.row r.generation_puts.row
  replaces_steps =
      put_both rows s.store n r.account_puts.row r.generation_puts.row r.account r.generation r.account_puts.puts
      (subst (λ (g : ℕ). Puts r.generation (key.Generation n g) (value.Generation r.generation_puts.row)) (sym r.account_puts.generation_is) r.generation_puts.puts)
      s.stands

  replaces_fits : HasAccount rows n a → ¬ (IsUsed rows n nonce) → a.generation < most_generations
      → Fits rows s.store s.store n r.account_puts.row r.generation_puts.row
  replaces_fits there unused less =
      let next : r.account_puts.row.generation ≡ suc a.generation = r.account_puts.generation_is in
      let within : (1 ≤ n) × (n ≤ s.store.accounts) = s.numbered n (value.Account a) there in
      record {
        last = refl;
        bound = s.bound;
        grows = omega arith;
        known = λ m high apart. high;
        low = within.0;
        high = within.1;
        first = omega arith;
        most = omega arith;
        alone = λ m b h e. s.apart m n b a h there (e ∙ r.account_puts.identifier_is);
        earlier = λ g low below. s.params n g a there low (omega arith);
        below = under;
        unused = λ g q h e. unused (g, (q, h, e ∙ r.generation_puts.nonce_is));
      }
    where
      under : (g : ℕ) (v : Value) → rows (key.Generation n g) ≡ Some v → (1 ≤ g) × (g < r.account_puts.row.generation)
      under g v h =
          let found : (b : AccountRow) × HasAccount rows n b × (1 ≤ g) × (g ≤ b.generation) = s.no_more n g v h in
          let present : g ≤ a.generation = subst (λ (b : AccountRow). g ≤ b.generation) (one_account rows n found.0 a found.1 there) found.3 in
          let next : r.account_puts.row.generation ≡ suc a.generation = r.account_puts.generation_is in
          (found.2, omega arith)

  replaced_sound : HasAccount rows n a → ¬ (IsUsed rows n nonce) → a.generation < most_generations → IsSound (rows_after rows changes)
  replaced_sound there unused less =
      subst (λ (cs : List Change). IsSound (rows_after rows cs)) (sym r.changes_are)
      (stays_sound rows (rows_after rows (r.account ∷ r.generation ∷ [])) s s.store n r.account_puts.row r.generation_puts.row
      replaces_steps (replaces_fits there unused less))

keys_soundly : (rows : Rows) (store : StoreRow) (n : ℕ) (a : AccountRow) (present : Params) (pw : Bytes) (cost : ℕ) (nonce : Bytes) (changes : List Change) (given : Answer)
    → IsSound rows → HasAccount rows n a → ChangesKeys rows store n a present pw cost nonce changes given → IsSound (rows_after rows changes)
keys_soundly rows store n a present pw cost nonce changes given s there (inl behind) = sound_unchanged rows changes s behind.2.0
keys_soundly rows store n a present pw cost nonce changes given s there (inr (inl used)) = sound_unchanged rows changes s used.2.0
keys_soundly rows store n a present pw cost nonce changes given s there (inr (inr (inl full))) = sound_unchanged rows changes s full.3.0
keys_soundly rows store n a present pw cost nonce changes given s there (inr (inr (inr next))) =
    replaced_sound rows s store n a pw cost nonce changes given next.3 there next.1 next.2

pub changes_soundly : StaysSoundChanging
changes_soundly rows store token current pw cost nonce changes given s has (inl none) = sound_unchanged rows changes s none.1.0
changes_soundly rows store token current pw cost nonce changes given s has (inr (inl wrong)) = sound_unchanged rows changes s wrong.5.0
changes_soundly rows store token current pw cost nonce changes given s has (inr (inr ruled)) =
    keys_soundly rows store ruled.0 ruled.1 ruled.2 pw cost nonce changes given s ruled.4 ruled.7

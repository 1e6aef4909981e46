-- Sound rows are sound after a registration.
use Rattle.std.proofs.Common.{◌≡◌, ◌<◌, ◌≤◌, ℕ, suc, List, [], ◌∷◌, Some, sym, ◌∙◌, subst, inl, inr, arith}
use Rattle.sn_rows.specs.Table.{Puts, Rows, rows_after}
use Rattle.sn_rows.specs.declared.change.Change.{Change}
use Rattle.sn_rows.specs.declared.key.Key.TheVariants as key
use Rattle.sn_rows.specs.declared.server_rows.AccountRow.{AccountRow}
use Rattle.sn_rows.specs.declared.server_rows.StoreRow.{StoreRow}
use Rattle.sn_rows.specs.declared.value.Value.{Value}
use Rattle.sn_rows.specs.declared.value.Value.TheVariants as value
use Rattle.sn_string.specs.declared.params.Params.{Params}
use Rattle.sn_sync.specs.declared.answer.Answer.{Answer}
use Rattle.sn_account.specs.Laws.{StaysSoundRegistering}
use Rattle.sn_account.specs.Lookups.{Bytes, HasAccount, HasStore, IsUnknown}
use Rattle.sn_account.specs.Rules.{BeginsAccount}
use Rattle.sn_account.specs.Sound.{IsSound, most_accounts}
use Rattle.sn_account.proofs.SoundFields.{Fits, stays_sound}
use Rattle.sn_account.proofs.SoundSteps.{Steps, put_both, put_count}

-- a table has one row of the store
pub one_store : (rows : Rows) (a b : StoreRow) → HasStore rows a → HasStore rows b → a ≡ b
one_store rows a b h k = cc

module _ (rows : Rows) (s : IsSound rows) (params : Params) (pw : Bytes) (changes : List Change) (given : Answer) (b : BeginsAccount s.store params pw changes given) where
  abbrev next : ℕ
  next = suc s.store.accounts

  pub begins_steps : Steps rows (rows_after rows (b.account ∷ b.generation ∷ b.count ∷ [])) b.count_puts.row next b.account_puts.row b.generation_puts.row
  begins_steps =
      put_count rows (rows_after rows (b.account ∷ b.generation ∷ [])) s.store b.count_puts.row next b.account_puts.row b.generation_puts.row b.count b.count_puts.puts
      (put_both rows s.store next b.account_puts.row b.generation_puts.row b.account b.generation b.account_puts.puts
      (subst (λ (g : ℕ). Puts b.generation (key.Generation next g) (value.Generation b.generation_puts.row)) (sym b.account_puts.generation_is) b.generation_puts.puts)
      s.stands)

  -- no generation of the next number was there
  none_before : (g : ℕ) (v : Value) → rows (key.Generation next g) ≡ Some v → ⊥
  none_before g v h =
      let found : (a : AccountRow) × HasAccount rows next a × (1 ≤ g) × (g ≤ a.generation) = s.no_more next g v h in
      let within : (1 ≤ next) × (next ≤ s.store.accounts) = s.numbered next (value.Account found.0) found.1 in
      omega arith

  begins_fits : IsUnknown rows params.identifier → s.store.accounts < most_accounts
      → Fits rows s.store b.count_puts.row next b.account_puts.row b.generation_puts.row
  begins_fits unknown less =
      let one : b.account_puts.row.generation ≡ 1 = b.account_puts.generation_is in
      let count : b.count_puts.row.accounts ≡ next = b.count_puts.accounts in
      record {
        last = b.count_puts.last;
        bound = omega arith;
        grows = omega arith;
        known = λ m high apart. omega arith;
        low = omega arith;
        high = omega arith;
        first = omega arith;
        most = omega arith;
        alone = λ m a h e. absurd (unknown m (a, h, e ∙ b.account_puts.identifier_is));
        earlier = λ g low below. absurd (omega arith);
        below = λ g v h. absurd (none_before g v h);
        unused = λ g r h e. none_before g (value.Generation r) h;
      }

  begun_sound : IsUnknown rows params.identifier → s.store.accounts < most_accounts → IsSound (rows_after rows changes)
  begun_sound unknown less =
      subst (λ (cs : List Change). IsSound (rows_after rows cs)) (sym b.changes_are)
      (stays_sound rows (rows_after rows (b.account ∷ b.generation ∷ b.count ∷ [])) s b.count_puts.row next b.account_puts.row b.generation_puts.row
      begins_steps (begins_fits unknown less))

-- nothing is changed
pub sound_unchanged : (rows : Rows) (changes : List Change) → IsSound rows → changes ≡ [] → IsSound (rows_after rows changes)
sound_unchanged rows changes s e = subst (λ (cs : List Change). IsSound (rows_after rows cs)) (sym e) s

pub registers_soundly : StaysSoundRegistering
registers_soundly rows store params pw changes given s has (inl taken) = sound_unchanged rows changes s taken.1.0
registers_soundly rows store params pw changes given s has (inr (inl full)) = sound_unchanged rows changes s full.2.0
registers_soundly rows store params pw changes given s has (inr (inr begun)) =
    let same : store ≡ s.store = one_store rows store s.store has s.stands in
    begun_sound rows s params pw changes given (subst (λ (x : StoreRow). BeginsAccount x params pw changes given) same begun.2) begun.0
    (subst (λ (x : StoreRow). x.accounts < most_accounts) same begun.1)

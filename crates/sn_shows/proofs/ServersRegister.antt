-- The rows that are put of a new account show it beside those that were shown.
use Rattle.std.proofs.Common.{◌≡◌, ◌≢◌, ◌<◌, ℕ, zero, suc, ◌+◌, List, [], ◌∷◌, ◌++◌, length, Option, Some, None, refl, sym, subst, ⊎_elim, arith}
use Rattle.std.specs.Prelude.{IsSome}
use Rattle.sn_laws.specs.declared.ideal.Account.{Account}
use Rattle.sn_laws.specs.declared.ideal.Ideal.{Ideal}
use Rattle.sn_laws.specs.declared.ideal.Version.{Version}
use Rattle.sn_laws.specs.declared.moves.Move.TheVariants.{Register}
use Rattle.sn_laws.specs.Lookups.{Bytes}
use Rattle.sn_laws.specs.Moves.{after, registered}
use Rattle.sn_rows.specs.Table.{Rows, rows_after}
use Rattle.sn_rows.specs.declared.change.Change.{Change}
use Rattle.sn_rows.specs.declared.key.Key.{Key}
use Rattle.sn_rows.specs.declared.key.Key.TheVariants as key
use Rattle.sn_rows.specs.declared.value.Value.TheVariants as value
use Rattle.sn_rows.specs.Facts.{first_put, neither_put, second_put}
use Rattle.sn_string.specs.declared.params.KeySet.{KeySet}
use Rattle.sn_shows.specs.Sets.{set_at}
use Rattle.sn_shows.specs.Servers.{StandsForSome, ShowsAccount, ShowsAccounts, ShowsGeneration, account_at}
use Rattle.sn_shows.specs.Laws.{PutsAccount}
use Rattle.sn_shows.proofs.ServersLists.{account_before, account_cases, account_last, number_within}
use Rattle.sn_shows.proofs.ServersRows.{Continues, cause_after, cause_continues, keep_account}

abbrev pub new_account : Bytes → KeySet → Account
new_account identifier set = record { identifier = identifier; sets = set ∷ []; versions = [] }

-- an account's only set
only_set : (set other : KeySet) (generation : ℕ) → set_at generation (set ∷ []) ≡ Some other → (generation ≡ 1) × (set ≡ other)
only_set set other zero h = absurd (cc)
only_set set other (suc zero) h = (refl, cc)
only_set set other (suc (suc n)) h = absurd (cc)

-- the rows after both changes
abbrev both : Rows → Change → Change → Rows
both rows account generation = rows_after rows (account ∷ generation ∷ [])

-- the rows of the new account
shows_new : (rows : Rows) (identifier : Bytes) (set : KeySet) (account generation : Change) (number : ℕ) → PutsAccount account generation number identifier set
    → ShowsAccount (rows_after rows (account ∷ generation ∷ [])) number (new_account identifier set)
shows_new rows identifier set account generation number p =
    record {
      identity = record {
        row = p.row;
        stands = first_put rows account generation (key.Account number) (key.Generation number 1) (value.Account p.row) (value.Generation p.params)
            p.account_puts p.generation_puts (λ e. cc);
        identifier = p.identifier_is;
        generation = p.first;
        last = set;
        last_is = refl;
        check = p.check;
      };
      generations = λ n other at. its_set n other (only_set set other n at);
      items = λ uuid v last. absurd (none_last v last);
    }
  where
    first_set : ShowsGeneration (both rows account generation) number (new_account identifier set) 1 set
    first_set = record {
      row = p.params;
      stands = second_put rows account generation (key.Generation number 1) (value.Generation p.params) p.generation_puts;
      cost = p.cost;
      nonce = p.nonce;
      identifier = p.own;
    }

    its_set : (n : ℕ) (other : KeySet) → (n ≡ 1) × (set ≡ other) → ShowsGeneration (both rows account generation) number (new_account identifier set) n other
    its_set n other e =
        subst (λ (m : ℕ). ShowsGeneration (both rows account generation) number (new_account identifier set) m other) (sym e.0)
        (subst (λ (x : KeySet). ShowsGeneration (both rows account generation) number (new_account identifier set) 1 x) e.1 first_set)

    none_last : (v : Version) → None ≡ Some v → ⊥
    none_last v e = cc

-- the rows of an account that was there are not put
shows_old : (rows : Rows) (identifier : Bytes) (set : KeySet) (account generation : Change) (number other : ℕ) (a : Account)
    → PutsAccount account generation number identifier set → number ≢ other → ShowsAccount rows other a
    → ShowsAccount (rows_after rows (account ∷ generation ∷ [])) other a
shows_old rows identifier set account generation number other a p apart h =
    keep_account rows (rows_after rows (account ∷ generation ∷ [])) other a
    (same (key.Account other) (λ e. apart (cc)) (λ e. cc))
    (λ n. same (key.Generation other n) (λ e. cc) (λ e. apart (cc)))
    (λ uuid v last. same (key.Item uuid) (λ e. cc) (λ e. cc)) h
  where
    same : (at : Key) → key.Account number ≢ at → key.Generation number 1 ≢ at
        → rows_after rows (account ∷ generation ∷ []) at ≡ rows at
    same at off off_too =
        neither_put rows account generation (key.Account number) (key.Generation number 1) at (value.Account p.row) (value.Generation p.params)
        p.account_puts p.generation_puts off off_too

continues : (accounts : List Account) (new : Account) (number : ℕ) (a : Account) → account_at number accounts ≡ Some a
    → Continues accounts (accounts ++ new ∷ []) number a
continues accounts new number a at =
    record {
      account = a;
      at = account_before accounts new number a at;
      sets = λ generation set e. e;
      items = λ uuid v last. record { version = v; last = last };
    }

pub registered_shows : (rows : Rows) (s : Ideal) (identifier : Bytes) (set : KeySet) (account generation : Change)
    → ShowsAccounts rows s.accounts → PutsAccount account generation (length s.accounts + 1) identifier set
    → ShowsAccounts (rows_after rows (account ∷ generation ∷ [])) (after s (Register identifier set)).accounts
registered_shows rows s identifier set account generation h p =
    record {
      each = λ other a at.
          ⊎_elim
          (λ (old : account_at other s.accounts ≡ Some a).
          let within : other < length s.accounts + 1 = number_within s.accounts other a old in
          let apart : length s.accounts + 1 ≢ other = omega arith in
          shows_old rows identifier set account generation (length s.accounts + 1) other a p apart (h.each other a old))
          (λ (last : (other ≡ length s.accounts + 1) × (new_account identifier set ≡ a)).
          subst (λ (n : ℕ). ShowsAccount (both rows account generation) n a) (sym last.0)
          (subst (λ (x : Account). ShowsAccount (both rows account generation) (length s.accounts + 1) x) last.1
          (shows_new rows identifier set account generation (length s.accounts + 1) p)))
          (account_cases s.accounts (new_account identifier set) other a at);
      no_other = cause_after (rows_after rows (account ∷ [])) (registered s.accounts identifier set) generation (key.Generation (length s.accounts + 1) 1) (value.Generation p.params)
          p.generation_puts its_generation
          (cause_after rows (registered s.accounts identifier set) account (key.Account (length s.accounts + 1)) (value.Account p.row) p.account_puts its_account
          (λ at some. cause_continues s.accounts (registered s.accounts identifier set) (continues s.accounts (new_account identifier set)) at (h.no_other at some)));
    }
  where
    its_generation : StandsForSome (registered s.accounts identifier set) (key.Generation (length s.accounts + 1) 1)
    its_generation = record {
      account = new_account identifier set;
      at = account_last s.accounts (new_account identifier set);
      set = set;
      set_is = refl;
    }

    its_account : StandsForSome (registered s.accounts identifier set) (key.Account (length s.accounts + 1))
    its_account = subst (λ (o : Option Account). IsSome o) (sym (account_last s.accounts (new_account identifier set))) refl

-- The rows that are put of an account's new set show the accounts with it.
use Rattle.std.proofs.Common.{◌≡◌, ◌≢◌, ◌<◌, ℕ, ◌+◌, List, [], ◌∷◌, ◌++◌, length, Option, Some, Bool, true, false, refl, sym, ◌∙◌, subst, ⊎_elim, arith, length-append}
use Rattle.std.specs.Prelude.{IsSome, if◌then◌else◌}
use Rattle.sn_items.specs.declared.sealed.Sealed.{Sealed}
use Rattle.sn_laws.specs.declared.ideal.Account.{Account}
use Rattle.sn_laws.specs.declared.ideal.Body.{Body}
use Rattle.sn_laws.specs.declared.ideal.Body.TheVariants.{Under, Gone}
use Rattle.sn_laws.specs.declared.ideal.Ideal.{Ideal}
use Rattle.sn_laws.specs.declared.ideal.Version.{Version}
use Rattle.sn_laws.specs.declared.moves.Move.TheVariants as move
use Rattle.sn_laws.specs.Lookups.{Bytes, is_account, last_of}
use Rattle.sn_laws.specs.Moves.{after, changed_where}
use Rattle.sn_rows.specs.Table.{Rows, rows_after}
use Rattle.sn_rows.specs.declared.change.Change.{Change}
use Rattle.sn_rows.specs.declared.key.Key.{Key}
use Rattle.sn_rows.specs.declared.key.Key.TheVariants as key
use Rattle.sn_rows.specs.declared.server_rows.ItemRow.{ItemRow}
use Rattle.sn_rows.specs.declared.value.Value.TheVariants as value
use Rattle.sn_rows.specs.Facts.{first_put, neither_put, second_put}
use Rattle.sn_string.specs.declared.params.KeySet.{KeySet}
use Rattle.sn_shows.specs.Sets.{OpensUnder, set_at}
use Rattle.sn_shows.specs.Servers.{StandsForSome, ShowsAccount, ShowsAccounts, ShowsGeneration, ShowsIdentity, ShowsItem, ShowsStrings, account_at}
use Rattle.sn_shows.specs.Laws.{AreApart}
use Rattle.sn_shows.specs.Rekeying.{PutsGeneration}
use Rattle.sn_shows.proofs.ServersGrown.{each_shows, own_changed}
use Rattle.sn_shows.proofs.ServersLists.{change_account, more_sets, set_before, set_cases, set_last, set_within}
use Rattle.sn_shows.proofs.ServersRows.{Continues, cause_after, cause_continues, keep_account}

-- what opens under a set still opens under the set of that number

opens_before : (sets : List KeySet) (set : KeySet) (number : ℕ) (uuid : Bytes) (sealed : Sealed) (text : Bytes) → OpensUnder sets number uuid sealed text
    → OpensUnder (sets ++ set ∷ []) number uuid sealed text
opens_before sets set number uuid sealed text h =
    record { set = h.set; at = set_before sets set number h.set h.at; opens = h.opens }

strings_before : (sets : List KeySet) (set : KeySet) (uuid : Bytes) (row : ItemRow) (body : Body) → ShowsStrings sets uuid row body
    → ShowsStrings (sets ++ set ∷ []) uuid row body
strings_before sets set uuid row (Under text number) h =
    (h.0, opens_before sets set number uuid (record { content = row.content; enc = row.enc }) text h.1)
strings_before sets set uuid row Gone h = h

-- the rows of the account, with the set
module _ (rows : Rows) (number : ℕ) (a : Account) (set : KeySet) (account generation : Change) (p : PutsGeneration account generation number a set) where
  abbrev now : Rows
  now = rows_after rows (account ∷ generation ∷ [])

  abbrev own_key : Key
  own_key = key.Account number

  abbrev set_key : Key
  set_key = key.Generation number (length a.sets + 1)

  same_row : (at : Key) → own_key ≢ at → set_key ≢ at → now at ≡ rows at
  same_row at off off_too =
      neither_put rows account generation own_key set_key at (value.Account p.row) (value.Generation p.params) p.account_puts p.generation_puts off off_too

  count : length (a.sets ++ set ∷ []) ≡ length a.sets + 1
  count = length-append a.sets (set ∷ [])

  shows_identity : ShowsIdentity now number (more_sets set a)
  shows_identity = record {
    row = p.row;
    stands = first_put rows account generation own_key set_key (value.Account p.row) (value.Generation p.params) p.account_puts p.generation_puts (λ e. cc);
    identifier = p.identifier_is;
    generation = p.next ∙ sym count;
    last = set;
    last_is = subst (λ (n : ℕ). set_at n (a.sets ++ set ∷ []) ≡ Some set) (sym count) (set_last a.sets set);
    check = p.check;
  }

  shows_set : ShowsGeneration now number (more_sets set a) (length a.sets + 1) set
  shows_set = record {
    row = p.params;
    stands = second_put rows account generation set_key (value.Generation p.params) p.generation_puts;
    cost = p.cost;
    nonce = p.nonce;
    identifier = p.own;
  }

  -- an earlier set stands as it did
  shows_earlier : (n : ℕ) (k : KeySet) → n < length a.sets + 1 → ShowsGeneration rows number a n k → ShowsGeneration now number (more_sets set a) n k
  shows_earlier n k within h =
      let apart : length a.sets + 1 ≢ n = omega arith in
      record {
        row = h.row;
        stands = same_row (key.Generation number n) (λ e. cc) (λ e. apart (cc)) ∙ h.stands;
        cost = h.cost;
        nonce = h.nonce;
        identifier = h.identifier;
      }

  shows_each : ShowsAccount rows number a → (n : ℕ) (k : KeySet) → set_at n (a.sets ++ set ∷ []) ≡ Some k
      → ShowsGeneration now number (more_sets set a) n k
  shows_each h n k at =
      ⊎_elim (λ (old : set_at n a.sets ≡ Some k). shows_earlier n k (set_within a.sets n k old) (h.generations n k old))
      (λ (last : (n ≡ length a.sets + 1) × (set ≡ k)).
      subst (λ (m : ℕ). ShowsGeneration now number (more_sets set a) m k) (sym last.0)
      (subst (λ (x : KeySet). ShowsGeneration now number (more_sets set a) (length a.sets + 1) x) last.1 shows_set)) (set_cases a.sets set n k at)

  -- and so do the items
  shows_item : (uuid : Bytes) (v : Version) → ShowsItem rows number a uuid v → ShowsItem now number (more_sets set a) uuid v
  shows_item uuid v h =
      record {
        row = h.row;
        stands = same_row (key.Item uuid) (λ e. cc) (λ e. cc) ∙ h.stands;
        account = h.account;
        kind = h.kind;
        updated = h.updated;
        first = h.first;
        first_is = h.first_is;
        created = h.created;
        strings = strings_before a.sets set uuid h.row v.body h.strings;
      }

  shows_own : ShowsAccount rows number a → ShowsAccount now number (more_sets set a)
  shows_own h =
      record { identity = shows_identity; generations = shows_each h; items = λ uuid v last. shows_item uuid v (h.items uuid v last) }

  -- another account has the rows that it had
  shows_other : (other : ℕ) (b : Account) → number ≢ other → ShowsAccount rows other b → ShowsAccount now other b
  shows_other other b apart h =
      keep_account rows now other b (same_row (key.Account other) (λ e. apart (cc)) (λ e. cc))
      (λ n. same_row (key.Generation other n) (λ e. cc) (λ e. apart (cc))) (λ uuid v last. same_row (key.Item uuid) (λ e. cc) (λ e. cc)) h

-- each account is there, with the sets that it had and with its versions
continues : (accounts : List Account) (p : Account → Bool) (set : KeySet) (number : ℕ) (b : Account) → account_at number accounts ≡ Some b
    → Continues accounts (changed_where p (more_sets set) accounts) number b
continues accounts p set number b at =
    record {
      account = if p b then more_sets set b else b;
      at = change_account p (more_sets set) accounts number b at;
      sets = λ n k is. same_sets n k (p b) is;
      items = λ uuid v last. record { version = v; last = same_last uuid v (p b) last };
    }
  where
    same_sets : (n : ℕ) (k : KeySet) (q : Bool) → set_at n b.sets ≡ Some k → set_at n (if q then more_sets set b else b).sets ≡ Some k
    same_sets n k true e = set_before b.sets set n k e
    same_sets n k false e = e

    same_last : (uuid : Bytes) (v : Version) (q : Bool) → last_of uuid b.versions ≡ Some v
        → last_of uuid (if q then more_sets set b else b).versions ≡ Some v
    same_last uuid v true e = e
    same_last uuid v false e = e

-- the accounts, of which one has the set more
abbrev renewed : List Account → Account → KeySet → List Account
renewed accounts a set = changed_where (is_account a.identifier) (more_sets set) accounts

pub changed_shows : (rows : Rows) (s : Ideal) (number : ℕ) (a : Account) (set : KeySet) (account generation : Change)
    → ShowsAccounts rows s.accounts → AreApart s.accounts → account_at number s.accounts ≡ Some a
    → PutsGeneration account generation number a set
    → ShowsAccounts (rows_after rows (account ∷ generation ∷ [])) (after s (move.Change a.identifier (length a.sets + 1) set)).accounts
changed_shows rows s number a set account generation h apart at p =
    record {
      each = each_shows (rows_after rows (account ∷ generation ∷ [])) s.accounts number a (more_sets set) apart at
          (shows_own rows number a set account generation p (h.each number a at))
          (λ other c at_c differs. shows_other rows number a set account generation p other c differs (h.each other c at_c));
      no_other = cause_after (rows_after rows (account ∷ [])) (renewed s.accounts a set) generation (key.Generation number (length a.sets + 1)) (value.Generation p.params)
          p.generation_puts its_set
          (cause_after rows (renewed s.accounts a set) account (key.Account number) (value.Account p.row) p.account_puts its_account
          (λ k some. cause_continues s.accounts (renewed s.accounts a set) (continues s.accounts (is_account a.identifier) set) k (h.no_other k some)));
    }
  where
    its_at : account_at number (renewed s.accounts a set) ≡ Some (more_sets set a)
    its_at = own_changed (more_sets set) s.accounts number a at

    its_set : StandsForSome (renewed s.accounts a set) (key.Generation number (length a.sets + 1))
    its_set = record { account = more_sets set a; at = its_at; set = set; set_is = set_last a.sets set }

    its_account : StandsForSome (renewed s.accounts a set) (key.Account number)
    its_account = subst (λ (o : Option Account). IsSome o) (sym its_at) refl

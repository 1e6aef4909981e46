-- What rows show of an account where they are the same, and why there is a row after a change.
use Rattle.std.proofs.Common.{◌≡◌, ℕ, List, [], ◌∷◌, Option, Some, None, refl, ◌∙◌, subst, inl, inr}
use Rattle.std.specs.Prelude.{IsSome}
use Rattle.std.proofs.lemmas.Bool.{cases_Bool}
use Rattle.sn_laws.specs.declared.ideal.Account.{Account}
use Rattle.sn_laws.specs.declared.ideal.Version.{Version}
use Rattle.sn_laws.specs.Lookups.{Bytes, last_of}
use Rattle.sn_rows.specs.Table.{Puts, Rows, rows_after, same_key}
use Rattle.sn_rows.specs.declared.change.Change.{Change}
use Rattle.sn_rows.specs.declared.key.Key.{Key}
use Rattle.sn_rows.specs.declared.key.Key.TheVariants as key
use Rattle.sn_rows.specs.declared.value.Value.{Value}
use Rattle.sn_rows.specs.Facts.{keys_compare, put_apart}
use Rattle.sn_string.specs.declared.params.KeySet.{KeySet}
use Rattle.sn_shows.specs.Sets.{set_at}
use Rattle.sn_shows.specs.Servers.{StandsForSome, ShowsAccount, ShowsGeneration, ShowsIdentity, ShowsItem, account_at}

-- an account's rows, where they are the same as before

-- the account may have other versions
pub keep_identity : (rows now : Rows) (number : ℕ) (a : Account) (versions : List Version) → now (key.Account number) ≡ rows (key.Account number)
    → ShowsIdentity rows number a → ShowsIdentity now number (record a { versions = versions })
keep_identity rows now number a versions same h =
    record {
      row = h.row;
      stands = same ∙ h.stands;
      identifier = h.identifier;
      generation = h.generation;
      last = h.last;
      last_is = h.last_is;
      check = h.check;
    }

pub keep_generation : (rows now : Rows) (number : ℕ) (a : Account) (versions : List Version) (generation : ℕ) (set : KeySet)
    → now (key.Generation number generation) ≡ rows (key.Generation number generation)
    → ShowsGeneration rows number a generation set → ShowsGeneration now number (record a { versions = versions }) generation set
keep_generation rows now number a versions generation set same h =
    record { row = h.row; stands = same ∙ h.stands; cost = h.cost; nonce = h.nonce; identifier = h.identifier }

pub keep_item : (rows now : Rows) (number : ℕ) (a : Account) (uuid : Bytes) (v : Version) → now (key.Item uuid) ≡ rows (key.Item uuid)
    → ShowsItem rows number a uuid v → ShowsItem now number a uuid v
keep_item rows now number a uuid v same h =
    record {
      row = h.row;
      stands = same ∙ h.stands;
      account = h.account;
      kind = h.kind;
      updated = h.updated;
      first = h.first;
      first_is = h.first_is;
      created = h.created;
      strings = h.strings;
    }

pub keep_account : (rows now : Rows) (number : ℕ) (a : Account) → now (key.Account number) ≡ rows (key.Account number)
    → ((generation : ℕ) → now (key.Generation number generation) ≡ rows (key.Generation number generation))
    → ((uuid : Bytes) (v : Version) → last_of uuid a.versions ≡ Some v → now (key.Item uuid) ≡ rows (key.Item uuid))
    → ShowsAccount rows number a → ShowsAccount now number a
keep_account rows now number a identity generations items h =
    record {
      identity = keep_identity rows now number a a.versions identity h.identity;
      generations = λ generation set at. keep_generation rows now number a a.versions generation set (generations generation) (h.generations generation set at);
      items = λ uuid v last. keep_item rows now number a uuid v (items uuid v last) (h.items uuid v last);
    }

-- why there is a row

-- of an item that had a last version, the other account has one
pub record HasSuch (a : Account) (uuid : Bytes) : Type 0 where
  pub version : Version
  pub last : last_of uuid a.versions ≡ Some version

-- each account is still there, with its sets under their numbers, and with a last version of each item that had one
pub record Continues (accounts now : List Account) (number : ℕ) (a : Account) : Type 0 where
  pub account : Account
  pub at : account_at number now ≡ Some account
  pub sets : (generation : ℕ) (set : KeySet) → set_at generation a.sets ≡ Some set → set_at generation account.sets ≡ Some set
  pub items : (uuid : Bytes) (v : Version) → last_of uuid a.versions ≡ Some v → HasSuch account uuid

some_there : {A : Type 0} (o : Option A) → IsSome o → (x : A) × (o ≡ Some x)
some_there None h = absurd (cc)
some_there (Some x) h = (x, refl)

is_there : {A : Type 0} (o : Option A) (x : A) → o ≡ Some x → IsSome o
is_there None x h = absurd (cc)
is_there (Some y) x h = refl

-- what causes a row still does
pub cause_continues : (accounts now : List Account) → ((number : ℕ) (a : Account) → account_at number accounts ≡ Some a → Continues accounts now number a)
    → (at : Key) → StandsForSome accounts at → StandsForSome now at
cause_continues accounts now each key.Store h = tt
cause_continues accounts now each (key.Account number) h =
    let there = some_there (account_at number accounts) h in
    let next = each number there.0 there.1 in
    is_there (account_at number now) next.account next.at
cause_continues accounts now each (key.Generation number generation) h =
    let next = each number h.account h.at in
    record { account = next.account; at = next.at; set = h.set; set_is = next.sets generation h.set h.set_is }
cause_continues accounts now each (key.Item uuid) h =
    let next = each h.number h.account h.at in
    let such = next.items uuid h.version h.last in
    record { number = h.number; account = next.account; at = next.at; version = such.version; last = such.last }
cause_continues accounts now each key.Owner h = h
cause_continues accounts now each (key.Set slot) h = h
cause_continues accounts now each (key.Local number) h = h

-- a row that is put has a cause, and the others had theirs
pub cause_after : (rows : Rows) (accounts : List Account) (change : Change) (at : Key) (v : Value) → Puts change at v → StandsForSome accounts at
    → ((other : Key) → IsSome (rows other) → StandsForSome accounts other)
    → (other : Key) → IsSome (rows_after rows (change ∷ []) other) → StandsForSome accounts other
cause_after rows accounts change at v puts cause before other some =
    elim (cases_Bool (same_key at other)) [
      | inl same ↦ subst (λ (k : Key). StandsForSome accounts k) ((keys_compare at other).0 same) cause
      | inr apart ↦ before other (subst (λ (o : Option Value). IsSome o) (put_apart rows change at other v puts apart) some)
    ]

-- The row that is put of an account's next version shows the accounts with it.
use Rattle.std.proofs.Common.{◌≡◌, ◌≢◌, ℕ, List, [], ◌∷◌, ◌++◌, Option, Some, None, Bool, true, false, refl, sym, ap, ◌∙◌, subst, inl, inr}
use Rattle.std.specs.Prelude.{if◌then◌else◌}
use Rattle.std.specs.Str.{bytes_eq}
use Rattle.std.proofs.lemmas.Bool.{cases_Bool}
use Rattle.sn_laws.specs.declared.ideal.Account.{Account}
use Rattle.sn_laws.specs.declared.ideal.Version.{Version}
use Rattle.sn_laws.specs.Lookups.{Bytes, is_account, last_of}
use Rattle.sn_laws.specs.Moves.{changed_where}
use Rattle.sn_laws.proofs.Facts.{clash, one_there, same_text, text_same}
use Rattle.sn_rows.specs.Table.{Puts, Rows, rows_after, same_key}
use Rattle.sn_rows.specs.declared.change.Change.{Change}
use Rattle.sn_rows.specs.declared.key.Key.{Key}
use Rattle.sn_rows.specs.declared.key.Key.TheVariants as key
use Rattle.sn_rows.specs.declared.server_rows.ItemRow.{ItemRow}
use Rattle.sn_rows.specs.declared.value.Value.{Value}
use Rattle.sn_rows.specs.declared.value.Value.TheVariants as value
use Rattle.sn_rows.specs.Facts.{put_apart, put_here}
use Rattle.sn_string.specs.declared.params.KeySet.{KeySet}
use Rattle.sn_shows.specs.Sets.{set_at}
use Rattle.sn_shows.specs.Servers.{StandsForSome, ShowsAccount, ShowsAccounts, ShowsItem, ShowsStrings, account_at, first_of}
use Rattle.sn_shows.specs.Laws.{AreApart, created_of}
use Rattle.sn_shows.proofs.ServersLists.{account_changed, change_account, first_new, first_stays, last_other, last_own, more}
use Rattle.sn_shows.proofs.ServersRows.{Continues, HasSuch, cause_after, cause_continues, keep_account, keep_generation, keep_identity}

-- the change puts the row of this version, which is the next one of the account of this number
pub record PutsNext (change : Change) (number : ℕ) (a : Account) (w : Version) : Type 0 where
  pub row : ItemRow
  pub puts : Puts change (key.Item w.uuid) (value.Item row)
  pub account : row.account ≡ number
  pub kind : row.kind ≡ w.kind
  pub updated : row.updated ≡ w.stamp
  pub created : row.created ≡ created_of (first_of w.uuid a.versions) w.stamp
  pub strings : ShowsStrings a.sets w.uuid row w.body

-- the first version of an item that gets one more, and when it was accepted
record FirstAfter (versions : List Version) (w : Version) (before : Option Version) : Type 0 where
  first : Version
  is : first_of w.uuid (versions ++ w ∷ []) ≡ Some first
  stamp : created_of before w.stamp ≡ first.stamp

first_after : (versions : List Version) (w : Version) (before : Option Version) → first_of w.uuid versions ≡ before → FirstAfter versions w before
first_after versions w None h = record { first = w; is = first_new w.uuid versions w h refl; stamp = refl }
first_after versions w (Some first) h = record { first = first; is = first_stays w.uuid versions w first h; stamp = refl }

-- the rows of the account, with the version
module _ (rows : Rows) (number : ℕ) (a : Account) (w : Version) (change : Change) (p : PutsNext change number a w) where
  abbrev now : Rows
  now = rows_after rows (change ∷ [])

  same_row : (at : Key) → same_key (key.Item w.uuid) at ≡ false → now at ≡ rows at
  same_row at off = put_apart rows change (key.Item w.uuid) at (value.Item p.row) p.puts off

  -- the item's last version is the new one
  shows_version : (v : Version) → last_of w.uuid (a.versions ++ w ∷ []) ≡ Some v → ShowsItem now number (more w a) w.uuid v
  shows_version v last =
      let same : w ≡ v = one_there w v (last_of w.uuid (a.versions ++ w ∷ [])) (last_own w.uuid a.versions w refl) last in
      let first : FirstAfter a.versions w (first_of w.uuid a.versions) = first_after a.versions w (first_of w.uuid a.versions) refl in
      subst (λ (x : Version). ShowsItem now number (more w a) w.uuid x) same
      (record {
        row = p.row;
        stands = put_here rows change (key.Item w.uuid) (value.Item p.row) p.puts;
        account = p.account;
        kind = p.kind;
        updated = p.updated;
        first = first.first;
        first_is = first.is;
        created = p.created ∙ first.stamp;
        strings = p.strings;
      })

  -- other items stand as they did
  shows_other : (uuid : Bytes) (v : Version) → bytes_eq w.uuid uuid ≡ false → ShowsItem rows number a uuid v
      → ShowsItem now number (more w a) uuid v
  shows_other uuid v off h =
      record {
        row = h.row;
        stands = same_row (key.Item uuid) off ∙ h.stands;
        account = h.account;
        kind = h.kind;
        updated = h.updated;
        first = h.first;
        first_is = first_stays uuid a.versions w h.first h.first_is;
        created = h.created;
        strings = h.strings;
      }

  shows_item : ShowsAccount rows number a → (uuid : Bytes) (v : Version) → last_of uuid (a.versions ++ w ∷ []) ≡ Some v
      → ShowsItem now number (more w a) uuid v
  shows_item h uuid v last =
      elim (cases_Bool (bytes_eq w.uuid uuid)) [
        | inl same ↦ (let is : w.uuid ≡ uuid = same_text w.uuid uuid same in
            subst (λ (u : Bytes). ShowsItem now number (more w a) u v) is
            (shows_version v (subst (λ (u : Bytes). last_of u (a.versions ++ w ∷ []) ≡ Some v) (sym is) last)))
        | inr off ↦ (let apart : w.uuid ≢ uuid = λ e. clash (bytes_eq w.uuid uuid) (text_same w.uuid uuid e) off in
            shows_other uuid v off (h.items uuid v (sym (last_other uuid a.versions w apart) ∙ last)))
      ]

  shows_own : ShowsAccount rows number a → ShowsAccount now number (more w a)
  shows_own h =
      record {
        identity = keep_identity rows now number a (a.versions ++ w ∷ []) (same_row (key.Account number) refl) h.identity;
        generations = λ generation set at.
            keep_generation rows now number a (a.versions ++ w ∷ []) generation set (same_row (key.Generation number generation) refl)
            (h.generations generation set at);
        items = shows_item h;
      }

  -- an account without the item has the rows that it had
  shows_apart : (other : ℕ) (b : Account) → ((v : Version) → last_of w.uuid b.versions ≡ Some v → ⊥) → ShowsAccount rows other b
      → ShowsAccount now other b
  shows_apart other b none h =
      keep_account rows now other b (same_row (key.Account other) refl) (λ generation. same_row (key.Generation other generation) refl)
      (λ uuid v last. same_row (key.Item uuid) (not_its uuid v last (bytes_eq w.uuid uuid) refl)) h
    where
      not_its : (uuid : Bytes) (v : Version) → last_of uuid b.versions ≡ Some v → (q : Bool) → bytes_eq w.uuid uuid ≡ q → q ≡ false
      not_its uuid v last true e =
          absurd (none v (subst (λ (u : Bytes). last_of u b.versions ≡ Some v) (sym (same_text w.uuid uuid e)) last))
      not_its uuid v last false e = refl

-- a row is one account's: of two accounts with versions of an item each is the other
pub one_owner : (rows : Rows) (accounts : List Account) (number other : ℕ) (a b : Account) (uuid : Bytes) (v w : Version) → ShowsAccounts rows accounts
    → account_at number accounts ≡ Some a → account_at other accounts ≡ Some b → last_of uuid a.versions ≡ Some v → last_of uuid b.versions ≡ Some w
    → number ≡ other
one_owner rows accounts number other a b uuid v w h at at_other last last_there =
    let its : ShowsItem rows number a uuid v = (h.each number a at).items uuid v last in
    let others : ShowsItem rows other b uuid w = (h.each other b at_other).items uuid w last_there in
    let same : its.row ≡ others.row = one_row its.row others.row (rows (key.Item uuid)) its.stands others.stands in
    sym its.account ∙ ap (λ (r : ItemRow). r.account) same ∙ others.account
  where
    one_row : (r q : ItemRow) (found : Option Value) → found ≡ Some (value.Item r) → found ≡ Some (value.Item q) → r ≡ q
    one_row r q found e k = cc

-- each account is there, with a last version of each item that had one
continues : (accounts : List Account) (p : Account → Bool) (w : Version) (number : ℕ) (b : Account) → account_at number accounts ≡ Some b
    → Continues accounts (changed_where p (more w) accounts) number b
continues accounts p w number b at =
    record {
      account = if p b then more w b else b;
      at = change_account p (more w) accounts number b at;
      sets = λ generation set is. same_sets generation set (p b) is;
      items = λ uuid v last. has_such (p b) uuid v last;
    }
  where
    same_sets : (generation : ℕ) (set : KeySet) (q : Bool) → set_at generation b.sets ≡ Some set
        → set_at generation (if q then more w b else b).sets ≡ Some set
    same_sets generation set true e = e
    same_sets generation set false e = e

    has_such : (q : Bool) (uuid : Bytes) (v : Version) → last_of uuid b.versions ≡ Some v → HasSuch (if q then more w b else b) uuid
    has_such false uuid v last = record { version = v; last = last }
    has_such true uuid v last =
        elim (cases_Bool (bytes_eq w.uuid uuid)) [
          | inl same ↦ record { version = w; last = last_own uuid b.versions w (same_text w.uuid uuid same) }
          | inr off ↦ record {
            version = v;
            last = last_other uuid b.versions w (λ e. clash (bytes_eq w.uuid uuid) (text_same w.uuid uuid e) off) ∙ last;
          }
        ]

-- an account of the identifier is the one with the number
the_account : (accounts : List Account) (number other : ℕ) (a b : Account) → AreApart accounts → account_at number accounts ≡ Some a
    → account_at other accounts ≡ Some b → b.identifier ≡ a.identifier → (number ≡ other) × (a ≡ b)
the_account accounts number other a b apart at at_other e =
    let same : number ≡ other = apart number other a b at at_other (sym e) in (
      same,
      one_there a b (account_at other accounts) (subst (λ (n : ℕ). account_at n accounts ≡ Some a) same at) at_other,
    )

-- an account of another identifier has another number
other_number : (accounts : List Account) (number other : ℕ) (a b : Account) → account_at number accounts ≡ Some a
    → account_at other accounts ≡ Some b → is_account a.identifier b ≡ false → number ≢ other
other_number accounts number other a b at at_other off same =
    let is : a ≡ b = one_there a b (account_at other accounts) (subst (λ (n : ℕ). account_at n accounts ≡ Some a) same at) at_other in
    clash (is_account a.identifier b) (text_same b.identifier a.identifier (ap (λ (x : Account). x.identifier) (sym is))) off

-- where the rows show one account as it is after a change, and the others as they were, they show each account after it
pub each_shows : (later : Rows) (accounts : List Account) (number : ℕ) (a : Account) (f : Account → Account) → AreApart accounts
    → account_at number accounts ≡ Some a → ShowsAccount later number (f a)
    → ((other : ℕ) (c : Account) → account_at other accounts ≡ Some c → number ≢ other → ShowsAccount later other c)
    → (other : ℕ) (b : Account) → account_at other (changed_where (is_account a.identifier) f accounts) ≡ Some b → ShowsAccount later other b
each_shows later accounts number a f apart at own others other b at_other =
    let before = account_changed (is_account a.identifier) f accounts other b at_other in
    shows_one before.account before.at (is_account a.identifier before.account) refl before.is
  where
    shows_one : (c : Account) → account_at other accounts ≡ Some c → (q : Bool) → is_account a.identifier c ≡ q → (if q then f c else c) ≡ b
        → ShowsAccount later other b
    shows_one c at_c true e is =
        let its = the_account accounts number other a c apart at at_c (same_text c.identifier a.identifier e) in
        subst (λ (x : Account). ShowsAccount later other x) is
        (subst (λ (x : Account). ShowsAccount later other (f x)) its.1 (subst (λ (n : ℕ). ShowsAccount later n (f a)) its.0 own))
    shows_one c at_c false e is =
        subst (λ (x : Account). ShowsAccount later other x) is (others other c at_c (other_number accounts number other a c at at_c e))

-- the account is changed
pub own_changed : (f : Account → Account) (accounts : List Account) (number : ℕ) (a : Account) → account_at number accounts ≡ Some a
    → account_at number (changed_where (is_account a.identifier) f accounts) ≡ Some (f a)
own_changed f accounts number a at =
    change_account (is_account a.identifier) f accounts number a at
    ∙ ap (λ (q : Bool). Some (if q then f a else a)) (text_same a.identifier a.identifier refl)

-- the accounts, of which one has the version more
abbrev grown : List Account → Account → Version → List Account
grown accounts a w = changed_where (is_account a.identifier) (more w) accounts

-- the rows of all accounts, of which the one with the number has the version more, and no other a version of its item
pub shows_grown : (rows : Rows) (accounts : List Account) (number : ℕ) (a : Account) (w : Version) (change : Change) → PutsNext change number a w
    → ShowsAccounts rows accounts → AreApart accounts → account_at number accounts ≡ Some a
    → ((other : ℕ) (b : Account) (v : Version) → account_at other accounts ≡ Some b → number ≢ other → last_of w.uuid b.versions ≡ Some v → ⊥)
    → ShowsAccounts (rows_after rows (change ∷ [])) (changed_where (is_account a.identifier) (more w) accounts)
shows_grown rows accounts number a w change p h apart at none =
    record {
      each = each_shows (rows_after rows (change ∷ [])) accounts number a (more w) apart at (shows_own rows number a w change p (h.each number a at))
          (λ other c at_c differs. shows_apart rows number a w change p other c (λ v last. none other c v at_c differs last) (h.each other c at_c));
      no_other = cause_after rows (grown accounts a w) change (key.Item w.uuid) (value.Item p.row) p.puts its_cause
          (λ k some. cause_continues accounts (grown accounts a w) (continues accounts (is_account a.identifier) w) k (h.no_other k some));
    }
  where
    its_cause : StandsForSome (grown accounts a w) (key.Item w.uuid)
    its_cause = record {
      number = number;
      account = more w a;
      at = own_changed (more w) accounts number a at;
      version = w;
      last = last_own w.uuid a.versions w refl;
    }

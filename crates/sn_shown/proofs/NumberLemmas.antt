-- The numbers of accounts by their identifiers, and those of an account's sets by their nonces.
use Rattle.std.proofs.Common.{◌≡◌, ◌≢◌, ◌+◌, ◌<◌, ◌≤◌, ℕ, zero, suc, List, [], ◌∷◌, ◌++◌, length, map, Option, Some, None, Bool, true, false, refl, sym, ap, ◌∙◌, subst, arith, add-one}
use Rattle.std.specs.Prelude.{◌==◌, String, slice_get, if◌then◌else◌}
use Rattle.std.specs.BTreeMap.{BTreeMap, get_by_text}
use Rattle.std.specs.Str.{bytes_eq}
use Rattle.std.proofs.lemmas.List.{length-append}
use Rattle.std.proofs.lemmas.Option.{slice_get_within}
use Rattle.sn_laws.proofs.Facts.{clash, is_false, same_number, same_text, text_same}
use Rattle.sn_laws.specs.Each.{Each}
use Rattle.sn_laws.specs.Lookups.{Bytes}
use Rattle.sn_laws.specs.Reached.{AllDiffer, NoncesApart}
use Rattle.sn_laws.specs.declared.ideal.Account.{Account}
use Rattle.sn_laws.specs.declared.ideal.Ideal.{Ideal}
use Rattle.sn_rows.specs.Table.{Rows}
use Rattle.sn_rows.specs.declared.key.Key.TheVariants as key
use Rattle.sn_rows.specs.declared.server_rows.GenerationRow.{GenerationRow}
use Rattle.sn_rows.specs.declared.value.Value.{Value}
use Rattle.sn_shows.specs.Servers.{ShowsGeneration, ShowsIdentity, ShowsStore, account_at}
use Rattle.sn_shows.specs.Sets.{set_at}
use Rattle.sn_shows.proofs.Facts.{one_at}
use Rattle.sn_string.specs.declared.params.KeySet.{KeySet}
use Rattle.sn_shown.specs.Held.{AddsNumber, AreAccountNumbers, AreNumbers, AreSetNumbers, HasSetNumbers, HaveSetNumbers, IsServed}
use Rattle.sn_shown.specs.Rows.{account_in, count_in, generation_in, last_set_in}
use Rattle.sn_shown.specs.declared.numbers.Numbers.{Numbers}
use Rattle.sn_shown.proofs.Finds.{each_one, never, one_found}
use Rattle.sn_shown.proofs.PlaceLemmas.{at_place}

-- ---- numbers by names that differ

module _ {A : Type 0} (at : ℕ → Option A) (name : A → Bytes) where
  -- those of the first ones, up to this number
  abbrev pub AreNumbersTo : (Bytes → Option ℕ) → ℕ → Type 0
  AreNumbersTo found index = (n : ℕ) (a : A) → n ≤ index → at n ≡ Some a → found (name a) ≡ Some n

  -- one more
  pub one_numbered : (before after : Bytes → Option ℕ) (index : ℕ) (b : A)
      → ((n m : ℕ) (x y : A) → at n ≡ Some x → at m ≡ Some y → name x ≡ name y → n ≡ m) → at (index + 1) ≡ Some b
      → AddsNumber before after (name b) (index + 1) → AreNumbersTo before index → AreNumbersTo after (index + 1)
  one_numbered before after index b apart here adds was n a le at_n = by (n == index + 1) refl
    where
      number_is : n ≡ index + 1 → (n == index + 1) ≡ true
      number_is same = grind (arith, same)

      by : (x : Bool) → (n == index + 1) ≡ x → after (name a) ≡ Some n
      by true e =
          let number : n ≡ index + 1 = same_number n (index + 1) e in
          let same : a ≡ b = one_found (at (index + 1)) a b (ap at (sym number) ∙ at_n) here in
          adds (name a)
          ∙ ap (λ (x : Bool). if x then Some (index + 1) else before (name a)) (text_same (name b) (name a) (ap name (sym same)))
          ∙ ap (λ (m : ℕ). Some m) (sym number)
      by false e =
          let other : n ≢ index + 1 = λ same. clash (n == index + 1) (number_is same) e in
          let differ : bytes_eq (name b) (name a) ≡ false =
          is_false (bytes_eq (name b) (name a)) (λ k. other (apart n (index + 1) a b at_n here (sym (same_text (name b) (name a) k)))) in
          adds (name a)
          ∙ ap (λ (x : Bool). if x then Some (index + 1) else before (name a)) differ
          ∙ was n a (omega (arith, le, other)) at_n

-- ---- accounts

abbrev pub identifier_of : Account → Bytes
identifier_of a = a.identifier

abbrev pub Accounts : List Account → ℕ → Option Account
Accounts accounts n = account_at n accounts

pub no_account_numbered : (found : Bytes → Option ℕ) (accounts : List Account) (index : ℕ) → index ≡ 0
    → AreNumbersTo (Accounts accounts) identifier_of found index
no_account_numbered found accounts index e zero a le at = absurd (cc)
no_account_numbered found accounts index e (suc n) a le at = absurd (omega (arith, le, e))

pub account_there : (accounts : List Account) (index : ℕ) → index < length accounts → (a : Account) × (account_at (index + 1) accounts ≡ Some a)
account_there accounts index lt =
    let found = at_place accounts index lt in
    (found.0, ap (λ (n : ℕ). account_at n accounts) (add-one index) ∙ found.1)

pub accounts_numbered : (found : Bytes → Option ℕ) (accounts : List Account) (index : ℕ) → length accounts ≤ index
    → AreNumbersTo (Accounts accounts) identifier_of found index → AreAccountNumbers found accounts
accounts_numbered found accounts index all are n a at = are n a (within n at) at
  where
    within : (m : ℕ) → account_at m accounts ≡ Some a → m ≤ index
    within zero e = absurd (cc)
    within (suc m) e = let lt : m < length accounts = slice_get_within accounts m a e in omega (arith, lt, all)

pub counted : (found : Option Value) (accounts : List Account) → ShowsStore found accounts → count_in found ≡ length accounts
counted None accounts none = ap length (sym none)
counted (Some v) accounts stands = ap (λ (x : Value). count_in (Some x)) stands.1 ∙ stands.3

-- ---- sets

nonce_apart : (sets : List KeySet) (n : ℕ) (k : KeySet) (nonce : Bytes)
    → Each (λ (y : Bytes). y ≢ nonce) (map (λ (x : KeySet). x.params.pw_nonce) sets) → slice_get sets n ≡ Some k → k.params.pw_nonce ≢ nonce
nonce_apart [] n k nonce each h = absurd (cc)
nonce_apart (x ∷ xs) zero k nonce each h = let same : x ≡ k = cc in λ e. each.0 (ap (λ (y : KeySet). y.params.pw_nonce) same ∙ e)
nonce_apart (x ∷ xs) (suc n) k nonce each h = nonce_apart xs n k nonce each.1 h

one_nonce : (sets : List KeySet) (n m : ℕ) (k l : KeySet) → AllDiffer (map (λ (x : KeySet). x.params.pw_nonce) sets) → slice_get sets n ≡ Some k
    → slice_get sets m ≡ Some l → k.params.pw_nonce ≡ l.params.pw_nonce → n ≡ m
one_nonce [] n m k l differ h e same = absurd (cc)
one_nonce (x ∷ xs) zero zero k l differ h e same = refl
one_nonce (x ∷ xs) zero (suc m) k l differ h e same =
    let first : x ≡ k = cc in
    absurd (nonce_apart xs m l x.params.pw_nonce differ.0 e (sym same ∙ ap (λ (y : KeySet). y.params.pw_nonce) (sym first)))
one_nonce (x ∷ xs) (suc n) zero k l differ h e same =
    let first : x ≡ l = cc in
    absurd (nonce_apart xs n k x.params.pw_nonce differ.0 h (same ∙ ap (λ (y : KeySet). y.params.pw_nonce) (sym first)))
one_nonce (x ∷ xs) (suc n) (suc m) k l differ h e same = ap suc (one_nonce xs n m k l differ.1 h e same)

one_set : (sets : List KeySet) (n m : ℕ) (k l : KeySet) → AllDiffer (map (λ (x : KeySet). x.params.pw_nonce) sets) → set_at n sets ≡ Some k
    → set_at m sets ≡ Some l → k.params.pw_nonce ≡ l.params.pw_nonce → n ≡ m
one_set sets zero m k l differ h e same = absurd (cc)
one_set sets (suc n) zero k l differ h e same = absurd (cc)
one_set sets (suc n) (suc m) k l differ h e same = ap suc (one_nonce sets n m k l differ h e same)

abbrev pub nonce_of : KeySet → Bytes
nonce_of k = k.params.pw_nonce

abbrev pub SetsOf : Account → ℕ → Option KeySet
SetsOf a n = set_at n a.sets

pub no_set_numbered : (found : Bytes → Option ℕ) (a : Account) (index : ℕ) → index ≡ 0 → AreNumbersTo (SetsOf a) nonce_of found index
no_set_numbered found a index e zero k le at = absurd (cc)
no_set_numbered found a index e (suc n) k le at = absurd (omega (arith, le, e))

pub set_there : (sets : List KeySet) (index : ℕ) → index < length sets → (k : KeySet) × (set_at (index + 1) sets ≡ Some k)
set_there sets index lt =
    let found = at_place sets index lt in
    (found.0, ap (λ (n : ℕ). set_at n sets) (add-one index) ∙ found.1)

pub sets_numbered : (found : Bytes → Option ℕ) (a : Account) (index : ℕ) → length a.sets ≤ index → AreNumbersTo (SetsOf a) nonce_of found index
    → AreSetNumbers found a
sets_numbered found a index all are n k at = are n k (within n at) at
  where
    within : (m : ℕ) → set_at m a.sets ≡ Some k → m ≤ index
    within zero e = absurd (cc)
    within (suc m) e = let lt : m < length a.sets = slice_get_within a.sets m k e in omega (arith, lt, all)

module _ (server : Rows) (s : Ideal) (account : ℕ) (a : Account) (served : IsServed server s) (at : account_at account s.accounts ≡ Some a) where
  pub nonces_apart : (n m : ℕ) (k l : KeySet) → set_at n a.sets ≡ Some k → set_at m a.sets ≡ Some l → nonce_of k ≡ nonce_of l → n ≡ m
  nonces_apart n m k l e h same =
      one_set a.sets n m k l (each_one NoncesApart s.accounts a served.regular.nonces (one_at s.accounts account a at)) e h same

  pub sets_counted : last_set_in (account_in (server (key.Account account))) ≡ length a.sets
  sets_counted =
      let identity : ShowsIdentity server account a = (served.accounts.all.each account a at).identity in
      ap (λ (found : Option Value). last_set_in (account_in found)) identity.stands ∙ identity.generation

  module _ (number : ℕ) (set : KeySet) (is : set_at number a.sets ≡ Some set) where
    shown : ShowsGeneration server account a number set
    shown = (served.accounts.all.each account a at).generations number set is

    pub own_nonce : (row : GenerationRow) → generation_in (server (key.Generation account number)) ≡ Some row → row.pw_nonce ≡ set.params.pw_nonce
    own_nonce row found =
        let same : row ≡ shown.row =
        one_found (generation_in (server (key.Generation account number))) row shown.row found (ap generation_in shown.stands) in
        ap (λ (r : GenerationRow). r.pw_nonce) same ∙ shown.nonce

    pub no_nonce : {A : Type 0} → generation_in (server (key.Generation account number)) ≡ None → A
    no_nonce none = never (generation_in (server (key.Generation account number))) shown.row (ap generation_in shown.stands) none

-- ---- the sets of all accounts

-- a list with one more behind it

get_before : {A : Type 0} (xs : List A) (y : A) (n : ℕ) → n < length xs → slice_get (xs ++ y ∷ []) n ≡ slice_get xs n
get_before [] y n lt = absurd (omega (arith, lt))
get_before (x ∷ xs) y zero lt = refl
get_before (x ∷ xs) y (suc n) lt = get_before xs y n (omega (arith, lt))

get_last : {A : Type 0} (xs : List A) (y : A) (n : ℕ) → n ≡ length xs → slice_get (xs ++ y ∷ []) n ≡ Some y
get_last [] y zero e = refl
get_last [] y (suc n) e = absurd (omega (arith, e))
get_last (x ∷ xs) y zero e = absurd (omega (arith, e))
get_last (x ∷ xs) y (suc n) e = get_last xs y n (omega (arith, e))

-- the maps of the first accounts
pub record AreMaps {A : Type 0} (maps : List (BTreeMap (String A) ℕ)) (accounts : List Account) (index : ℕ) : Type 0 where
  pub count : length maps ≡ index
  pub each : (place : ℕ) (a : Account) → place < index → slice_get accounts place ≡ Some a → HasSetNumbers (slice_get maps place) a

pub no_maps : {A : Type 0} (maps : List (BTreeMap (String A) ℕ)) (accounts : List Account) (index : ℕ) → maps ≡ [] → index ≡ 0
    → AreMaps maps accounts index
no_maps maps accounts index e k =
    record { count = ap length e ∙ sym k; each = λ place a lt at. absurd (omega (arith, lt, k)) }

pub one_map : {A : Type 0} (maps : List (BTreeMap (String A) ℕ)) (m : BTreeMap (String A) ℕ) (accounts : List Account) (index : ℕ)
    → ((a : Account) → account_at (index + 1) accounts ≡ Some a → AreSetNumbers (get_by_text m) a) → AreMaps maps accounts index
    → AreMaps (maps ++ m ∷ []) accounts (index + 1)
one_map {A = A} maps m accounts index here are =
    record { count = grind (arith, length-append maps (m ∷ []), are.count); each = each }
  where
    each : (place : ℕ) (a : Account) → place < index + 1 → slice_get accounts place ≡ Some a → HasSetNumbers (slice_get (maps ++ m ∷ []) place) a
    each place a lt at = by (place == index) refl
      where
        number_is : place ≡ index → (place == index) ≡ true
        number_is same = grind (arith, same)

        by : (x : Bool) → (place == index) ≡ x → HasSetNumbers (slice_get (maps ++ m ∷ []) place) a
        by true e =
            let same : place ≡ index = same_number place index e in
            let number : account_at (index + 1) accounts ≡ Some a =
            ap (λ (n : ℕ). account_at n accounts) (add-one index) ∙ ap (slice_get accounts) (sym same) ∙ at in
            subst (λ (o : Option (BTreeMap (String A) ℕ)). HasSetNumbers o a) (sym (get_last maps m place (same ∙ sym are.count))) (here a number)
        by false e =
            let other : place ≢ index = λ same. clash (place == index) (number_is same) e in
            let less : place < index = omega (arith, lt, other) in
            subst (λ (o : Option (BTreeMap (String A) ℕ)). HasSetNumbers o a)
            (sym (get_before maps m place (omega (arith, less, are.count)))) (are.each place a less at)

pub all_maps : {A : Type 0} (maps : List (BTreeMap (String A) ℕ)) (accounts : List Account) (index : ℕ) → length accounts ≤ index
    → AreMaps maps accounts index → HaveSetNumbers maps accounts
all_maps maps accounts index all are place a at =
    let lt : place < length accounts = slice_get_within accounts place a at in
    are.each place a (omega (arith, lt, all)) at

-- ---- a set by its account and nonce

module _ (numbers : Numbers) (accounts : List Account) (a : Account) (account number : ℕ) (set : KeySet) (are : AreNumbers numbers accounts)
    (at : account_at account accounts ≡ Some a) (is : set_at number a.sets ≡ Some set) where
  -- the account has a place
  pub place_of_account : (place : ℕ) × (account ≡ place + 1) × HasSetNumbers (slice_get numbers.sets.items place) a
  place_of_account = by account refl at
    where
      by : (n : ℕ) → account ≡ n → account_at n accounts ≡ Some a → (place : ℕ) × (account ≡ place + 1) × HasSetNumbers (slice_get numbers.sets.items place) a
      by zero e found = absurd (cc)
      by (suc place) e found = (place, e ∙ sym (add-one place), are.sets_are place a found)

  pub number_found : {A : Type 0} (m : BTreeMap (String A) ℕ) (found : Option (BTreeMap (String A) ℕ)) (nonce : Bytes) → found ≡ Some m
      → HasSetNumbers found a → nonce ≡ set.params.pw_nonce → get_by_text m nonce ≡ Some number
  number_found {A = A} m found nonce e has nonce_is =
      let own : AreSetNumbers (get_by_text m) a = subst (λ (o : Option (BTreeMap (String A) ℕ)). HasSetNumbers o a) e has in
      ap (get_by_text m) nonce_is ∙ own number set is

  pub none_found : {A B : Type 0} (found : Option (BTreeMap (String A) ℕ)) → found ≡ None → HasSetNumbers found a → B
  none_found {A = A} found e has = absurd (subst (λ (o : Option (BTreeMap (String A) ℕ)). HasSetNumbers o a) e has)

-- Accounts and sets by their numbers, and an item's first and last versions, in lists that grow.
use Rattle.std.proofs.Common.{◌≡◌, ◌≢◌, ◌⊎◌, ◌<◌, ℕ, zero, suc, ◌+◌, List, [], ◌∷◌, ◌++◌, length, Option, Some, None, Bool, refl, sym, ap, ◌∙◌, inl, inr, ⊎_elim, arith, add-one}
use Rattle.std.specs.Prelude.{cond, if◌then◌else◌, find, reverse, slice_get}
use Rattle.std.specs.Option.{option_map, option_or}
use Rattle.std.specs.Str.{bytes_eq}
use Rattle.std.proofs.lemmas.List.Folds.{find-append}
use Rattle.std.proofs.lemmas.List.{reverse-append}
use Rattle.std.proofs.lemmas.Option.{slice_get-map, slice_get_within}
use Rattle.sn_laws.specs.declared.ideal.Version.{Version}
use Rattle.sn_laws.specs.declared.ideal.Account.{Account}
use Rattle.sn_laws.specs.Each.{One}
use Rattle.sn_laws.specs.Lookups.{Bytes, is_of, last_of}
use Rattle.sn_laws.specs.Moves.{changed_where}
use Rattle.sn_laws.proofs.Facts.{is_false, same_text, text_same}
use Rattle.sn_shows.specs.Servers.{account_at, first_of}
use Rattle.sn_shows.specs.Sets.{set_at}
use Rattle.sn_string.specs.declared.params.KeySet.{KeySet}

-- a list with one element more

get_front : {A : Type 0} (xs ys : List A) (n : ℕ) (a : A) → slice_get xs n ≡ Some a → slice_get (xs ++ ys) n ≡ Some a
get_front [] ys n a h = absurd (cc)
get_front (x ∷ xs) ys zero a h = h
get_front (x ∷ xs) ys (suc n) a h = get_front xs ys n a h

get_end : {A : Type 0} (xs : List A) (y : A) → slice_get (xs ++ y ∷ []) (length xs) ≡ Some y
get_end [] y = refl
get_end (x ∷ xs) y = get_end xs y

get_cases : {A : Type 0} (xs : List A) (y : A) (n : ℕ) (a : A) → slice_get (xs ++ y ∷ []) n ≡ Some a
    → (slice_get xs n ≡ Some a) ⊎ ((n ≡ length xs) × (y ≡ a))
get_cases [] y zero a h = inr (refl, cc)
get_cases [] y (suc n) a h = absurd (cc)
get_cases (x ∷ xs) y zero a h = inl h
get_cases (x ∷ xs) y (suc n) a h = ⊎_elim (λ e. inl e) (λ e. inr (ap suc e.0, e.1)) (get_cases xs y n a h)

pub account_before : (accounts : List Account) (new : Account) (number : ℕ) (a : Account) → account_at number accounts ≡ Some a
    → account_at number (accounts ++ new ∷ []) ≡ Some a
account_before accounts new zero a h = absurd (cc)
account_before accounts new (suc n) a h = get_front accounts (new ∷ []) n a h

pub account_last : (accounts : List Account) (new : Account) → account_at (length accounts + 1) (accounts ++ new ∷ []) ≡ Some new
account_last accounts new = rw (add-one (length accounts)) (get_end accounts new)

pub account_cases : (accounts : List Account) (new : Account) (number : ℕ) (a : Account) → account_at number (accounts ++ new ∷ []) ≡ Some a
    → (account_at number accounts ≡ Some a) ⊎ ((number ≡ length accounts + 1) × (new ≡ a))
account_cases accounts new zero a h = absurd (cc)
account_cases accounts new (suc n) a h =
    ⊎_elim (λ e. inl e) (λ e. inr (ap suc e.0 ∙ sym (add-one (length accounts)), e.1)) (get_cases accounts new n a h)

-- no account has the number that comes next
pub number_within : (accounts : List Account) (number : ℕ) (a : Account) → account_at number accounts ≡ Some a → number < length accounts + 1
number_within accounts zero a h = absurd (cc)
number_within accounts (suc n) a h = let within : n < length accounts = slice_get_within accounts n a h in omega arith

-- the sets of an account that gets one more

pub set_before : (sets : List KeySet) (new : KeySet) (number : ℕ) (set : KeySet) → set_at number sets ≡ Some set
    → set_at number (sets ++ new ∷ []) ≡ Some set
set_before sets new zero set h = absurd (cc)
set_before sets new (suc n) set h = get_front sets (new ∷ []) n set h

pub set_last : (sets : List KeySet) (new : KeySet) → set_at (length sets + 1) (sets ++ new ∷ []) ≡ Some new
set_last sets new = rw (add-one (length sets)) (get_end sets new)

pub set_cases : (sets : List KeySet) (new : KeySet) (number : ℕ) (set : KeySet) → set_at number (sets ++ new ∷ []) ≡ Some set
    → (set_at number sets ≡ Some set) ⊎ ((number ≡ length sets + 1) × (new ≡ set))
set_cases sets new zero set h = absurd (cc)
set_cases sets new (suc n) set h =
    ⊎_elim (λ e. inl e) (λ e. inr (ap suc e.0 ∙ sym (add-one (length sets)), e.1)) (get_cases sets new n set h)

-- no set has the number that comes next
pub set_within : (sets : List KeySet) (number : ℕ) (set : KeySet) → set_at number sets ≡ Some set → number < length sets + 1
set_within sets zero set h = absurd (cc)
set_within sets (suc n) set h = let within : n < length sets = slice_get_within sets n set h in omega arith

-- an account with one set more
abbrev pub more_sets : KeySet → Account → Account
more_sets set b = record b { sets = b.sets ++ set ∷ [] }

-- an account that is one of the accounts has a number

got_one : (accounts : List Account) (a : Account) → One (λ (x : Account). x ≡ a) accounts → (n : ℕ) × (slice_get accounts n ≡ Some a)
got_one [] a one = absurd one
got_one (x ∷ xs) a one = ⊎_elim (λ (e : x ≡ a). (zero, ap Some e)) (λ rest. let got = got_one xs a rest in (suc got.0, got.1)) one

pub number_of : (accounts : List Account) (a : Account) → One (λ (x : Account). x ≡ a) accounts → (n : ℕ) × (account_at n accounts ≡ Some a)
number_of accounts a one = let got = got_one accounts a one in (suc got.0, got.1)

-- a list some of whose elements are changed

pub record ChangedFrom (p : Account → Bool) (f : Account → Account) (accounts : List Account) (number : ℕ) (b : Account) : Type 0 where
  pub account : Account
  pub at : account_at number accounts ≡ Some account
  pub is : (if p account then f account else account) ≡ b

mapped : (f : Account → Account) (o : Option Account) (b : Account) → option_map f o ≡ Some b → (a : Account) × (o ≡ Some a) × (f a ≡ b)
mapped f None b h = absurd (cc)
mapped f (Some a) b h = (a, refl, cc)

pub account_changed : (p : Account → Bool) (f : Account → Account) (accounts : List Account) (number : ℕ) (b : Account)
    → account_at number (changed_where p f accounts) ≡ Some b → ChangedFrom p f accounts number b
account_changed p f accounts zero b h = absurd (cc)
account_changed p f accounts (suc n) b h =
    let from = mapped (λ x. if p x then f x else x) (slice_get accounts n) b (sym (slice_get-map (λ x. if p x then f x else x) accounts n) ∙ h) in
    record { account = from.0; at = from.1; is = from.2 }

pub change_account : (p : Account → Bool) (f : Account → Account) (accounts : List Account) (number : ℕ) (a : Account)
    → account_at number accounts ≡ Some a → account_at number (changed_where p f accounts) ≡ Some (if p a then f a else a)
change_account p f accounts zero a h = absurd (cc)
change_account p f accounts (suc n) a h =
    slice_get-map (λ x. if p x then f x else x) accounts n ∙ ap (option_map (λ (x : Account). if p x then f x else x)) h

-- an account with one version more
abbrev pub more : Version → Account → Account
more w b = record b { versions = b.versions ++ w ∷ [] }

pub last_own : (uuid : Bytes) (versions : List Version) (w : Version) → w.uuid ≡ uuid → last_of uuid (versions ++ w ∷ []) ≡ Some w
last_own uuid versions w e =
    ap (find (is_of uuid)) (reverse-append versions (w ∷ []))
    ∙ ap (λ (b : Bool). cond b (Some w) (find (is_of uuid) (reverse versions))) (text_same w.uuid uuid e)

pub last_other : (uuid : Bytes) (versions : List Version) (w : Version) → w.uuid ≢ uuid → last_of uuid (versions ++ w ∷ []) ≡ last_of uuid versions
last_other uuid versions w e =
    ap (find (is_of uuid)) (reverse-append versions (w ∷ []))
    ∙ ap (λ (b : Bool). cond b (Some w) (find (is_of uuid) (reverse versions))) (is_false (bytes_eq w.uuid uuid) (λ k. e (same_text w.uuid uuid k)))

or_left : (found : Option Version) (first : Version) (more : Option Version) → found ≡ Some first → option_or found more ≡ Some first
or_left None first rest h = absurd (cc)
or_left (Some v) first rest h = h

-- an item's first version stays the first
pub first_stays : (uuid : Bytes) (versions : List Version) (w first : Version) → first_of uuid versions ≡ Some first
    → first_of uuid (versions ++ w ∷ []) ≡ Some first
first_stays uuid versions w first h =
    find-append (is_of uuid) versions (w ∷ []) ∙ or_left (find (is_of uuid) versions) first (find (is_of uuid) (w ∷ [])) h

-- and where there was none, the item's new version is its first
pub first_new : (uuid : Bytes) (versions : List Version) (w : Version) → first_of uuid versions ≡ None → w.uuid ≡ uuid
    → first_of uuid (versions ++ w ∷ []) ≡ Some w
first_new uuid versions w none e =
    find-append (is_of uuid) versions (w ∷ []) ∙ ap (λ (o : Option Version). option_or o (find (is_of uuid) (w ∷ []))) none
    ∙ ap (λ (b : Bool). cond b (Some w) None) (text_same w.uuid uuid e)

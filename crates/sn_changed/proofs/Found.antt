-- Accounts that are found by what they have, last versions, and the greatest of all stamps.
use Rattle.std.proofs.Common.{◌≡◌, ◌≢◌, ◌⊎◌, ◌<◌, ◌≤◌, ℕ, zero, suc, List, [], ◌∷◌, ◌++◌, Option, Some, None, Bool, true, false, refl, sym, ap, ◌∙◌, subst, inl, inr, ⊎_elim, arith}
use Rattle.std.specs.Prelude.{◌==◌, IsSome, cond, find, map, reverse, slice_get}
use Rattle.std.specs.Str.{bytes_eq}
use Rattle.std.specs.List.{list_any}
use Rattle.std.specs.Option.{option_or}
use Rattle.std.proofs.lemmas.List.Concat.{flat_map-cons}
use Rattle.std.proofs.lemmas.List.Folds.{find-append}
use mathlib.Core.List.{reverse-cons}
use Rattle.sn_laws.proofs.Facts.{clash, each_back, each_front, found_passes, greatest_above, last_among, number_same, one_from, one_there, or_left, or_right, same_number, same_text, text_same}
use Rattle.sn_laws.specs.Each.{Each, One}
use Rattle.sn_laws.specs.Lookups.{Bytes, account_with, greatest, has_item, is_of, last_of}
use Rattle.sn_laws.specs.declared.ideal.Account.{Account}
use Rattle.sn_laws.specs.declared.ideal.Version.{Version}
use Rattle.sn_rows.specs.Table.{Rows}
use Rattle.sn_rows.specs.declared.key.Key.TheVariants as key
use Rattle.sn_rows.specs.declared.server_rows.ItemRow.{ItemRow}
use Rattle.sn_rows.specs.declared.value.Value.{Value}
use Rattle.sn_rows.specs.declared.value.Value.TheVariants as value
use Rattle.sn_shows.proofs.Facts.{one_at}
use Rattle.sn_shows.specs.Servers.{ShowsAccounts, ShowsItem, account_at, stamps_in}

-- what holds of each element by its place
pub each_got : {A : Type 0} (P : A → Type 0) (xs : List A) → ((n : ℕ) (x : A) → slice_get xs n ≡ Some x → P x) → Each P xs
each_got P [] h = tt
each_got P (x ∷ xs) h = (h 0 x refl, each_got P xs (λ n y e. h (suc n) y e))

-- and of one of them
pub at_place : {A : Type 0} (P : A → Type 0) (xs : List A) (n : ℕ) (x : A) → Each P xs → slice_get xs n ≡ Some x → P x
at_place P [] n x each h = absurd (cc)
at_place P (y ∷ ys) zero x each h = let same : y ≡ x = cc in subst P same each.0
at_place P (y ∷ ys) (suc n) x each h = at_place P ys n x each.1 h

pub there_is : {A : Type 0} (found : Option A) → IsSome found → (x : A) × (found ≡ Some x)
there_is None h = absurd (cc)
there_is (Some x) h = (x, refl)

never : {A : Type 0} (found : Option A) (x : A) → found ≡ None → found ≡ Some x → ⊥
never found x e k = cc

pub one_item : (r q : ItemRow) (found : Option Value) → found ≡ Some (value.Item r) → found ≡ Some (value.Item q) → r ≡ q
one_item r q found e k = cc

pub apart_numbers : (n m : ℕ) → (n ≡ m) ⊎ (n ≢ m)
apart_numbers n m = at (n == m) refl
  where
    at : (b : Bool) → (n == m) ≡ b → (n ≡ m) ⊎ (n ≢ m)
    at true e = inl (same_number n m e)
    at false e = inr (λ same. clash (n == m) (number_same n m same) e)

pub apart_texts : (a b : Bytes) → (a ≡ b) ⊎ (a ≢ b)
apart_texts a b = at (bytes_eq a b) refl
  where
    at : (q : Bool) → bytes_eq a b ≡ q → (a ≡ b) ⊎ (a ≢ b)
    at true e = inl (same_text a b e)
    at false e = inr (λ same. clash (bytes_eq a b) (text_same a b same) e)

-- ---- accounts

none_found : (p : Account → Bool) (xs : List Account) (a : Account) → One (λ (x : Account). x ≡ a) xs → p a ≡ true → find p xs ≡ None → ⊥
none_found p [] a one passes none = one
none_found p (x ∷ xs) a one passes none = at (λ rest e. none_found p xs a rest passes e) (p x) refl none
  where
    at : (One (λ (y : Account). y ≡ a) xs → find p xs ≡ None → ⊥) → (b : Bool) → p x ≡ b → cond b (Some x) (find p xs) ≡ None → ⊥
    at later true e k = absurd (cc)
    at later false e k = ⊎_elim (λ (same : x ≡ a). clash (p a) passes (ap p (sym same) ∙ e)) (λ rest. later rest k) one

number_of : (p : Account → Bool) (xs : List Account) (a : Account) → find p xs ≡ Some a → (n : ℕ) × (account_at n xs ≡ Some a)
number_of p xs a h = let k = place xs h in (suc k.0, k.1)
  where
    place : (ys : List Account) → find p ys ≡ Some a → (k : ℕ) × (slice_get ys k ≡ Some a)
    place [] e = absurd (cc)
    place (y ∷ ys) e = at (λ k. place ys k) (p y) e
      where
        at : (find p ys ≡ Some a → (k : ℕ) × (slice_get ys k ≡ Some a)) → (b : Bool) → cond b (Some y) (find p ys) ≡ Some a
            → (k : ℕ) × (slice_get (y ∷ ys) k ≡ Some a)
        at rest true f = (0, f)
        at rest false f = let k = rest f in (suc k.0, k.1)

-- an account that passes is found, where no other does
pub found_at : (p : Account → Bool) (accounts : List Account) (n : ℕ) (a : Account) → account_at n accounts ≡ Some a → p a ≡ true
    → ((m : ℕ) (b : Account) → account_at m accounts ≡ Some b → p b ≡ true → m ≡ n) → find p accounts ≡ Some a
found_at p accounts n a at passes one = by (find p accounts) refl
  where
    by : (found : Option Account) → find p accounts ≡ found → find p accounts ≡ Some a
    by None e = absurd (none_found p accounts a (one_at accounts n a at) passes e)
    by (Some b) e =
        let k = number_of p accounts b e in
        let same : k.0 ≡ n = one k.0 b k.1 (found_passes p accounts b e).0 in
        let is : b ≡ a = one_there b a (account_at n accounts) (subst (λ (m : ℕ). account_at m accounts ≡ Some b) same k.1) at in
        e ∙ ap Some is

-- ---- the last version of an item

last_cons : (uuid : Bytes) (v : Version) (vs : List Version) → last_of uuid (v ∷ vs) ≡ option_or (last_of uuid vs) (find (is_of uuid) (v ∷ []))
last_cons uuid v vs = ap (find (is_of uuid)) (reverse-cons v vs) ∙ find-append (is_of uuid) (reverse vs) (v ∷ [])

-- an item that has a version has a last one
pub has_last : (uuid : Bytes) (vs : List Version) → One (λ (v : Version). v.uuid ≡ uuid) vs → (w : Version) × (last_of uuid vs ≡ Some w)
has_last uuid [] one = absurd one
has_last uuid (v ∷ vs) one = at (λ rest. has_last uuid vs rest) (last_of uuid vs) refl one
  where
    at : (One (λ (w : Version). w.uuid ≡ uuid) vs → (w : Version) × (last_of uuid vs ≡ Some w)) → (found : Option Version) → last_of uuid vs ≡ found
        → One (λ (w : Version). w.uuid ≡ uuid) (v ∷ vs) → (w : Version) × (last_of uuid (v ∷ vs) ≡ Some w)
    at later (Some w) e h = (w, last_cons uuid v vs ∙ ap (λ (o : Option Version). option_or o (find (is_of uuid) (v ∷ []))) e)
    at later None e (inl is) = (
      v,
      last_cons uuid v vs ∙ ap (λ (o : Option Version). option_or o (find (is_of uuid) (v ∷ []))) e
          ∙ ap (λ (b : Bool). cond b (Some v) None) (text_same v.uuid uuid is),
    )
    at later None e (inr rest) = let w = later rest in absurd (never (last_of uuid vs) w.0 e w.1)

any_one : {A : Type 0} (p : A → Bool) (xs : List A) (x : A) → One (λ (y : A). y ≡ x) xs → p x ≡ true → list_any p xs ≡ true
any_one p [] x one passes = absurd one
any_one p (y ∷ ys) x one passes =
    ⊎_elim (λ (e : y ≡ x). or_left (p y) (list_any p ys) (ap p e ∙ passes)) (λ rest. or_right (p y) (list_any p ys) (any_one p ys x rest passes)) one

-- of two accounts with versions of an item each is the other
one_owner : (rows : Rows) (accounts : List Account) (n m : ℕ) (a b : Account) (uuid : Bytes) (v w : Version) → ShowsAccounts rows accounts
    → account_at n accounts ≡ Some a → account_at m accounts ≡ Some b → last_of uuid a.versions ≡ Some v → last_of uuid b.versions ≡ Some w → m ≡ n
one_owner rows accounts n m a b uuid v w h at there last found =
    let its : ShowsItem rows n a uuid v = (h.each n a at).items uuid v last in
    let others : ShowsItem rows m b uuid w = (h.each m b there).items uuid w found in
    sym others.account ∙ ap (λ (r : ItemRow). r.account) (one_item others.row its.row (rows (key.Item uuid)) others.stands its.stands) ∙ its.account

-- the account that has the item is the one with its last version
pub owner_of : (rows : Rows) (accounts : List Account) (n : ℕ) (a : Account) (uuid : Bytes) (v : Version) → ShowsAccounts rows accounts
    → account_at n accounts ≡ Some a → last_of uuid a.versions ≡ Some v → account_with accounts uuid ≡ Some a
owner_of rows accounts n a uuid v h at last = found_at (has_item uuid) accounts n a at has only
  where
    has : has_item uuid a ≡ true
    has =
        let is = last_among uuid a.versions v last in
        any_one (is_of uuid) a.versions v is.0 (text_same v.uuid uuid is.1)

    only : (m : ℕ) (b : Account) → account_at m accounts ≡ Some b → has_item uuid b ≡ true → m ≡ n
    only m b there passes =
        let w = has_last uuid b.versions (one_from (is_of uuid) (λ (x : Version). x.uuid ≡ uuid) (λ x e. same_text x.uuid uuid e) b.versions passes) in
        one_owner rows accounts n m a b uuid v w.0 h at there last w.1

-- ---- the greatest of all stamps

each_version : (P : ℕ → Type 0) (vs : List Version) → Each P (map (λ (v : Version). v.stamp) vs) → Each (λ (v : Version). P v.stamp) vs
each_version P [] h = tt
each_version P (v ∷ vs) h = (h.0, each_version P vs h.1)

each_out : (P : ℕ → Type 0) (accounts : List Account) → Each P (stamps_in accounts) → Each (λ (a : Account). Each (λ (v : Version). P v.stamp) a.versions) accounts
each_out P [] h = tt
each_out P (a ∷ rest) h =
    let both : Each P (map (λ (v : Version). v.stamp) a.versions ++ stamps_in rest) =
    subst (λ (ns : List ℕ). Each P ns) (flat_map-cons (λ (x : Account). map (λ (v : Version). v.stamp) x.versions) a rest) h in (
      each_version P a.versions (each_front P (map (λ (v : Version). v.stamp) a.versions) (stamps_in rest) both),
      each_out P rest (each_back P (map (λ (v : Version). v.stamp) a.versions) (stamps_in rest) both),
    )

each_below : (greatest_is stamp : ℕ) → greatest_is < stamp → (ns : List ℕ) → Each (λ n. n ≤ greatest_is) ns → Each (λ n. n < stamp) ns
each_below most stamp h [] each = tt
each_below most stamp h (n ∷ ns) each = (let within : n ≤ most = each.0 in omega arith, each_below most stamp h ns each.1)

-- a stamp above the greatest is above all
pub above_all : (accounts : List Account) (stamp : ℕ) → greatest 0 (stamps_in accounts) < stamp
    → Each (λ (a : Account). Each (λ (v : Version). v.stamp < stamp) a.versions) accounts
above_all accounts stamp h =
    each_out (λ n. n < stamp) accounts
    (each_below (greatest 0 (stamps_in accounts)) stamp h (stamps_in accounts) (greatest_above 0 (stamps_in accounts)))

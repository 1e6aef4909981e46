-- An account has one page from a stamp on, and it is given in one way.
use Rattle.std.proofs.Common.{◌≡◌, ◌≢◌, ℕ, ◌+◌, ◌≤◌, Bool, List, [], ◌∷◌, ◌++◌, length, Option, Some, refl, sym, ap, ◌∙◌, subst, inl, inr, ⊎_elim, arith, append_assoc, length-append}
use Rattle.std.specs.List.{Contains}
use Rattle.std.proofs.lemmas.List.Sums.{sum_by-append}
use Rattle.sn_rows.specs.Table.{Rows}
use Rattle.sn_sync.specs.Tokens.{IsToken}
use Rattle.sn_sync.specs.declared.item.Item.{Item}
use Rattle.sn_account.specs.Lookups.{Bytes}
use Rattle.sn_account.specs.Pages.{AreAbove, AreGiven, FitsPage, Found, IsGreatest, IsLastOf, IsPage, weight}
use Rattle.sn_account.specs.Syncs.{AreTokens}
use Rattle.sn_account.proofs.RisingLists.{one_rising, rises_so}
use Rattle.sn_account.proofs.UniqueItems.{one_given}

-- ---- all candidates

-- those of the one list are in the other
above_both : (rows : Rows) (n above : ℕ) (first : Bool) (xs ys : List Found) → AreAbove rows n above first xs → AreAbove rows n above first ys
    → (f : Found) → Contains xs f → Contains ys f
above_both rows n above first xs ys a b (u, i) has = (b.whole u i).1 ((a.whole u i).0 has)

one_above : (rows : Rows) (n above : ℕ) (first : Bool) (xs ys : List Found) → AreAbove rows n above first xs → AreAbove rows n above first ys → xs ≡ ys
one_above rows n above first xs ys a b =
    one_rising (λ (f : Found). f.1.updated) xs ys (rises_so (λ (f : Found). f.1.updated) xs a.rising) (rises_so (λ (f : Found). f.1.updated) ys b.rising)
    (above_both rows n above first xs ys a b) (above_both rows n above first ys xs b a)

-- ---- the longest front that fits

-- a front of a page that fits does too
fits_front : (limit : ℕ) (front others : List Found) → FitsPage limit (front ++ others) → FitsPage limit front
fits_front limit front others (few, light) =
    let size : length (front ++ others) ≡ length front + length others = length-append front others in
    let bytes = sum_by-append (λ (f : Found). weight f.1) front others in
    (omega arith, omega arith)

-- what both lists begin with, of which the one is the longer
data Fronts (xs left ys others : List Found) : Type 0 where
  same : xs ≡ ys → left ≡ others → Fronts xs left ys others
  shorter : (next : Found) (more : List Found) → ys ≡ xs ++ next ∷ more → left ≡ next ∷ more ++ others → Fronts xs left ys others
  longer : (next : Found) (more : List Found) → xs ≡ ys ++ next ∷ more → others ≡ next ∷ more ++ left → Fronts xs left ys others

behind_same : (x y : Found) (xs left ys others : List Found) → x ≡ y → Fronts xs left ys others → Fronts (x ∷ xs) left (y ∷ ys) others
behind_same x y xs left ys others e (same f g) = same (cc) g
behind_same x y xs left ys others e (shorter next more f g) = shorter next more (cc) g
behind_same x y xs left ys others e (longer next more f g) = longer next more (cc) g

fronts : (xs left ys others : List Found) → xs ++ left ≡ ys ++ others → Fronts xs left ys others
fronts [] left [] others e = same refl e
fronts [] left (y ∷ ys) others e = shorter y ys refl e
fronts (x ∷ xs) left [] others e = longer x xs refl (sym e)
fronts (x ∷ xs) left (y ∷ ys) others e =
    let heads : x ≡ y = cc in
    let tails : xs ++ left ≡ ys ++ others = cc in
    behind_same x y xs left ys others heads (fronts xs left ys others tails)

-- a page isn't a front of another one of these candidates
not_shorter : (rows : Rows) (n above : ℕ) (first : Bool) (limit : ℕ) (page left other others : List Found) → IsPage rows n above first limit page left
    → IsPage rows n above first limit other others → (next : Found) (more : List Found) → other ≡ page ++ next ∷ more → left ≡ next ∷ more ++ others → ⊥
not_shorter rows n above first limit page left other others a b next more e f =
    let past : (page ≢ []) × ¬ (FitsPage limit (page ++ next ∷ [])) = a.longest next (more ++ others) f in
    let parts : other ≡ (page ++ next ∷ []) ++ more = e ∙ sym (append_assoc page (next ∷ []) more) in
    ⊎_elim
    (λ (fits : FitsPage limit other). past.1 (fits_front limit (page ++ next ∷ []) more (subst (FitsPage limit) parts fits)))
    (λ (single : length other ≡ 1). past.0 (none_in_front page next more (sym (ap length e) ∙ single)))
    b.fits
  where
    none_in_front : (xs : List Found) (x : Found) (ys : List Found) → length (xs ++ x ∷ ys) ≡ 1 → xs ≡ []
    none_in_front [] x ys one = refl
    none_in_front (w ∷ xs) x ys one = (let size = length-append xs (x ∷ ys) in absurd (omega arith))

pub one_page : (rows : Rows) (n above : ℕ) (first : Bool) (limit : ℕ) (page left other others : List Found) → IsPage rows n above first limit page left
    → IsPage rows n above first limit other others → (page ≡ other) × (left ≡ others)
one_page rows n above first limit page left other others a b =
    by_fronts (fronts page left other others (one_above rows n above first (page ++ left) (other ++ others) a.all b.all))
  where
    by_fronts : Fronts page left other others → (page ≡ other) × (left ≡ others)
    by_fronts (same e f) = (e, f)
    by_fronts (shorter next more e f) = absurd (not_shorter rows n above first limit page left other others a b next more e f)
    by_fronts (longer next more e f) = absurd (not_shorter rows n above first limit other others page left b a next more e f)

-- ---- what is given of it

pub one_retrieved : (page : List Found) (xs ys : List Item) → AreGiven page xs → AreGiven page ys → xs ≡ ys
one_retrieved [] [] [] a b = refl
one_retrieved [] [] (y ∷ ys) a b = absurd b
one_retrieved [] (x ∷ xs) ys a b = absurd a
one_retrieved (f ∷ page) [] ys a b = absurd a
one_retrieved (f ∷ page) (x ∷ xs) [] a b = absurd b
one_retrieved (f ∷ page) (x ∷ xs) (y ∷ ys) a b =
    let heads : x ≡ y = one_given f.0 f.1 x y a.0 b.0 in
    let tails : xs ≡ ys = one_retrieved page xs ys a.1 b.1 in
    cc

-- ---- tokens

one_last_of : (xs ys : List Found) (x y : Found) → xs ++ x ∷ [] ≡ ys ++ y ∷ [] → x ≡ y
one_last_of [] [] x y e = cc
one_last_of [] (w ∷ ys) x y e = (let size = ap length e in let parts = length-append ys (y ∷ []) in absurd (omega arith))
one_last_of (w ∷ xs) [] x y e = (let size = ap length e in let parts = length-append xs (x ∷ []) in absurd (omega arith))
one_last_of (w ∷ xs) (z ∷ ys) x y e = one_last_of xs ys x y cc

one_last_stamp : (page : List Found) (a b : ℕ) → IsLastOf page a → IsLastOf page b → a ≡ b
one_last_stamp page a b x y =
    let last : x.last ≡ y.last = one_last_of x.front y.front x.last y.last (sym x.split ∙ y.split) in
    x.is ∙ ap (λ (f : Found). f.1.updated) last ∙ sym y.is

not_above : (rows : Rows) (n a b : ℕ) → IsGreatest rows n a → IsGreatest rows n b → a ≤ b
not_above rows n a b (upper, inl zero) other = omega arith
not_above rows n a b (upper, inr (u, i, has, own, is)) other = (let low : i.updated ≤ b = other.0 u i has own in omega arith)

one_greatest : (rows : Rows) (n a b : ℕ) → IsGreatest rows n a → IsGreatest rows n b → a ≡ b
one_greatest rows n a b x y = (let up = not_above rows n a b x y in let down = not_above rows n b a y x in omega arith)

-- a stamp has one token
pub token_same : (a b : Bytes) (s t : ℕ) → s ≡ t → IsToken a s → IsToken b t → a ≡ b
token_same a b s t e x y = x.spelled ∙ sym (subst (λ (k : ℕ). IsToken b k) (sym e) y).spelled

pub one_pair : (rows : Rows) (n : ℕ) (page left : List Found) (cursor other : Option Bytes) (token next : Bytes) → AreTokens rows n page left cursor token
    → AreTokens rows n page left other next → (cursor ≡ other) × (token ≡ next)
one_pair rows n page [] cursor other token next (none, (s, is, spells)) (also, (t, too, tells)) =
    (none ∙ sym also, token_same token next s t (one_greatest rows n s t is too) spells tells)
one_pair rows n page (f ∷ left) cursor other token next (some, (s, is, spells)) (also, (t, too, tells)) =
    let tokens : token ≡ next = token_same token next s t (one_last_stamp page s t is too) spells tells in
    (some ∙ ap Some tokens ∙ sym also, tokens)

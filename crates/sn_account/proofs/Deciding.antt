-- What can be told of numbers, lists and uuids: whether it is so.
use Rattle.std.proofs.Common.{◌≡◌, ◌⊎◌, ℕ, zero, suc, ◌<◌, ◌≤◌, ◌==◌, Bool, true, false, List, [], ◌∷◌, Equal, Greater, refl, sym, ap, ◌∙◌, subst, inl, inr, ⊎_elim, arith}
use Rattle.std.specs.Cmp.{nat_cmp_is}
use Rattle.std.specs.Cmp.Lexicographic.{slice_cmp}
use Rattle.std.specs.List.{All}
use Rattle.std.specs.Ordering.{nat_cmp, ordering_then}
use Rattle.std.specs.Str.{bytes_eq}
use Rattle.std.proofs.Math.Nat.{eq-or-lt_of_le}
use Rattle.std.proofs.lemmas.Bool.{cases_lt, eqb-false, eqb-true}
use Rattle.std.proofs.lemmas.List.Elements.{All-cons, All-head, All-nil, All-tail}
use Rattle.std.proofs.lemmas.Slice.Eq.{bytes_eq-Decides}
use Rattle.sn_sync.specs.Fits.{AreBytes}
use Rattle.sn_account.specs.Lookups.{Bytes}
use Rattle.sn_account.specs.Rules.{IsBefore}

-- it is so, or it isn't
abbrev pub Decided : Type 0 → Type 0
Decided P = P ⊎ (P → ⊥)

pub both : {P Q : Type 0} → Decided P → Decided Q → Decided (P × Q)
both (inl p) (inl q) = inl (p, q)
both (inl p) (inr off) = inr (λ pq. off pq.1)
both (inr off) q = inr (λ pq. off pq.0)

-- likewise of what is so in the same cases
pub decided_so : {P Q : Type 0} → (P → Q) → (Q → P) → Decided P → Decided Q
decided_so over back (inl p) = inl (over p)
decided_so over back (inr off) = inr (λ q. off (back q))

-- ---- numbers and lists

pub same_list : (a b : List ℕ) → Decided (a ≡ b)
same_list a b = by_test (bytes_eq a b) refl
  where
    by_test : (t : Bool) → bytes_eq a b ≡ t → Decided (a ≡ b)
    by_test true e = inl ((bytes_eq-Decides a b).0 e)
    by_test false e = inr (λ same. (let f : bytes_eq a b ≡ true = (bytes_eq-Decides a b).1 same in absurd cc))

pub same_number : (a b : ℕ) → Decided (a ≡ b)
same_number a b = by_test (a == b) refl
  where
    by_test : (t : Bool) → (a == b) ≡ t → Decided (a ≡ b)
    by_test true e = inl (eqb-true a b e)
    by_test false e = inr (eqb-false a b e)

pub at_most : (a b : ℕ) → Decided (a ≤ b)
at_most a b = ⊎_elim (λ (below : b < a). inr (λ (low : a ≤ b). absurd (omega arith))) (λ (low : a ≤ b). inl low) (cases_lt b a)

pub same_bool : (a b : Bool) → Decided (a ≡ b)
same_bool true true = inl refl
same_bool false false = inl refl
same_bool true false = inr (λ e. absurd cc)
same_bool false true = inr (λ e. absurd cc)

-- each element of a list
pub each : {A : Type 0} (P : A → Type 0) → ((x : A) → Decided (P x)) → (xs : List A) → Decided (All P xs)
each P decide [] = inl (All-nil P)
each P decide (x ∷ xs) =
    decided_so (λ pq. All-cons P x xs pq.0 pq.1) (λ all. (All-head P x xs all, All-tail P x xs all)) (both (decide x) (each P decide xs))

-- a number below a bound
pub below_or_none : (P : ℕ → Type 0) → ((n : ℕ) → Decided (P n)) → (k : ℕ) → ((n : ℕ) × (n < k) × P n) ⊎ ((n : ℕ) → n < k → P n → ⊥)
below_or_none P decide zero = inr (λ n low is. absurd (omega arith))
below_or_none P decide (suc k) = by_both (below_or_none P decide k) (decide k)
  where
    by_both : ((n : ℕ) × (n < k) × P n) ⊎ ((n : ℕ) → n < k → P n → ⊥) → Decided (P k)
        → ((n : ℕ) × (n < suc k) × P n) ⊎ ((n : ℕ) → n < suc k → P n → ⊥)
    by_both (inl (n, low, is)) here = inl (n, omega arith, is)
    by_both (inr none) (inl is) = inl (k, omega arith, is)
    by_both (inr none) (inr off) =
        inr (λ n low is. ⊎_elim (λ (below : n < k). none n below is)
        (λ (over : k ≤ n). (let same : n ≡ k = omega arith in off (subst P same is))) (cases_lt n k))

-- ---- the least list of bytes

pub record IsLeast (P : Bytes → Type 0) (width : ℕ) (u : Bytes) : Type 0 where
  pub sized : AreBytes width u
  pub is : P u
  pub least : (w : Bytes) → AreBytes width w → P w → IsBefore w u → ⊥

-- no list of these bytes, of which the first is below a bound
abbrev NoneBelow : (Bytes → Type 0) → ℕ → ℕ → Type 0
NoneBelow P width k = (b : ℕ) → b < k → (v : Bytes) → AreBytes width v → P (b ∷ v) → ⊥

-- the least head below a bound, with the least list behind it
record HasHead (P : Bytes → Type 0) (width k : ℕ) : Type 0 where
  head : ℕ
  low : head < k
  behind : Bytes
  least : IsLeast (λ v. P (head ∷ v)) width behind
  none : NoneBelow P width head

heads : (P : Bytes → Type 0) (width : ℕ) → ((b : ℕ) → ((v : Bytes) × IsLeast (λ v. P (b ∷ v)) width v) ⊎ ((v : Bytes) → AreBytes width v → P (b ∷ v) → ⊥))
    → (k : ℕ) → HasHead P width k ⊎ NoneBelow P width k
heads P width at zero = inr (λ b low v sized is. absurd (omega arith))
heads P width at (suc k) = by_both (heads P width at k) (at k)
  where
    by_both : HasHead P width k ⊎ NoneBelow P width k
        → ((v : Bytes) × IsLeast (λ v. P (k ∷ v)) width v) ⊎ ((v : Bytes) → AreBytes width v → P (k ∷ v) → ⊥)
        → HasHead P width (suc k) ⊎ NoneBelow P width (suc k)
    by_both (inl h) here =
        let low = h.low in
        inl (record { head = h.head; low = omega arith; behind = h.behind; least = h.least; none = h.none })
    by_both (inr none) (inl (v, least)) = inl (record { head = k; low = omega arith; behind = v; least = least; none = none })
    by_both (inr none) (inr off) =
        inr (λ b low v sized is. ⊎_elim (λ (below : b < k). none b below v sized is)
        (λ (over : k ≤ b). (let same : b ≡ k = omega arith in off v sized (subst (λ (x : ℕ). P (x ∷ v)) same is))) (cases_lt b k))

-- of two lists the one before the other has the lesser head, or the same and comes before it behind that
before_head : (c b : ℕ) (v u : Bytes) → IsBefore (c ∷ v) (b ∷ u) → (c < b) ⊎ ((c ≡ b) × IsBefore v u)
before_head c b v u before =
    ⊎_elim (λ (below : c < b). inl below)
    (λ (over : b ≤ c). ⊎_elim
    (λ (same : b ≡ c). inr (sym same, ap (λ o. ordering_then o (slice_cmp nat_cmp v u)) (nat_cmp_is c b Equal (sym same)) ∙ before))
    (λ (above : b < c). (let e = ap (λ o. ordering_then o (slice_cmp nat_cmp v u)) (nat_cmp_is c b Greater above) ∙ before in absurd cc))
    (eq-or-lt_of_le over))
    (cases_lt c b)

tail_bytes : (width b : ℕ) (v : Bytes) → AreBytes (suc width) (b ∷ v) → AreBytes width v
tail_bytes width b v sized = (let size = sized.0 in (omega arith, All-tail (λ x. x < 256) b v sized.1))

more_bytes : (width b : ℕ) (v : Bytes) → b < 256 → AreBytes width v → AreBytes (suc width) (b ∷ v)
more_bytes width b v low sized = (let size = sized.0 in (omega arith, All-cons (λ x. x < 256) b v low sized.1))

least_of_head : (P : Bytes → Type 0) (width : ℕ) → (h : HasHead P width 256) → IsLeast P (suc width) (h.head ∷ h.behind)
least_of_head P width h = record {
  sized = more_bytes width h.head h.behind h.low h.least.sized;
  is = h.least.is;
  least = least;
}
  where
    least : (w : Bytes) → AreBytes (suc width) w → P w → IsBefore w (h.head ∷ h.behind) → ⊥
    least [] sized is before = (let size = sized.0 in absurd (omega arith))
    least (c ∷ v) sized is before =
        ⊎_elim
        (λ (below : c < h.head). h.none c below v (tail_bytes width c v sized) is)
        (λ (same : (c ≡ h.head) × IsBefore v h.behind). h.least.least v (tail_bytes width c v sized) (subst (λ (x : ℕ). P (x ∷ v)) same.0 is) same.1)
        (before_head c h.head v h.behind before)

pub least_or_none : (width : ℕ) (P : Bytes → Type 0) → ((u : Bytes) → Decided (P u))
    → ((u : Bytes) × IsLeast P width u) ⊎ ((u : Bytes) → AreBytes width u → P u → ⊥)
least_or_none zero P decide = by_empty (decide [])
  where
    by_empty : Decided (P []) → ((u : Bytes) × IsLeast P zero u) ⊎ ((u : Bytes) → AreBytes zero u → P u → ⊥)
    by_empty (inl is) = inl ([], record { sized = (refl, All-nil (λ x. x < 256)); is = is; least = least })
      where
        least : (w : Bytes) → AreBytes zero w → P w → IsBefore w [] → ⊥
        least [] sized here before = absurd cc
        least (c ∷ v) sized here before = (let size = sized.0 in absurd (omega arith))
    by_empty (inr off) = inr none
      where
        none : (u : Bytes) → AreBytes zero u → P u → ⊥
        none [] sized is = off is
        none (c ∷ v) sized is = (let size = sized.0 in absurd (omega arith))
least_or_none (suc width) P decide =
    by_heads (heads P width (λ b. least_or_none width (λ v. P (b ∷ v)) (λ v. decide (b ∷ v))) 256)
  where
    by_heads : HasHead P width 256 ⊎ NoneBelow P width 256 → ((u : Bytes) × IsLeast P (suc width) u) ⊎ ((u : Bytes) → AreBytes (suc width) u → P u → ⊥)
    by_heads (inl h) = inl (h.head ∷ h.behind, least_of_head P width h)
    by_heads (inr none) = inr no_list
      where
        no_list : (u : Bytes) → AreBytes (suc width) u → P u → ⊥
        no_list [] sized is = (let size = sized.0 in absurd (omega arith))
        no_list (b ∷ v) sized is = none b (All-head (λ x. x < 256) b v sized.1) v (tail_bytes width b v sized) is

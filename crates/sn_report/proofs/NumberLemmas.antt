-- The numbers of labels, and what one more label makes of them.
use Rattle.std.proofs.Common.{◌≡◌, ℕ, zero, suc, ◌+◌, [], ◌∷◌, ◌++◌, length, Option, Some, None, Bool, true, false, refl, sym, ap, ◌∙◌, arith}
use Rattle.std.specs.Prelude.{◌||◌, cond, if◌then◌else◌, All}
use Rattle.std.specs.BTreeMap.{BTreeMap, get, is_at}
use Rattle.std.specs.Cmp.Lexicographic.{slice_cmp}
use Rattle.std.specs.Ordering.{nat_cmp}
use Rattle.std.specs.Str.{bytes_eq}
use Rattle.std.proofs.lemmas.List.Elements.{All-append}
use Rattle.std.proofs.lemmas.Map.Text.{is_eq-slice_cmp}
use Rattle.std.proofs.lemmas.Slice.Eq.{bytes_eq-Decides}
use Rattle.sn_laws.specs.Lookups.{Bytes}
use Rattle.sn_report.specs.Labels.{Labels, is_labelled, label_from}
use Rattle.sn_report.specs.Numbers.{IsUuidBytes, AreNumbers, number_of}

pub same_bytes : (a b : Bytes) → bytes_eq a b ≡ true → a ≡ b
same_bytes a b h = (bytes_eq-Decides a b).0 h

pub bytes_same : (a b : Bytes) → a ≡ b → bytes_eq a b ≡ true
bytes_same a b h = (bytes_eq-Decides a b).1 h

past : (b r : Bool) (n m k : ℕ) → (b || r) ≡ false → (r ≡ false → m ≡ k) → cond b n m ≡ k
past true r n m k h f = absurd (cc)
past false r n m k h f = f h

-- an item without a label would have the next
pub next_label : (n : ℕ) (labels : Labels) (uuid : Bytes) → is_labelled labels uuid ≡ false → label_from n labels uuid ≡ n + length labels
next_label n [] uuid h = omega arith
next_label n (l ∷ ls) uuid h =
    past (bytes_eq l uuid) (is_labelled ls uuid) n (label_from (n + 1) ls uuid) (n + length (l ∷ ls)) h
    (λ r. let e : label_from (n + 1) ls uuid ≡ n + 1 + length ls = next_label (n + 1) ls uuid r in omega (arith, e))

none_of : (b : Bool) (n : ℕ) → None ≡ cond b (Some n) None → b ≡ false
none_of true n h = absurd (cc)
none_of false n h = refl

some_of : (b : Bool) (n k : ℕ) → Some k ≡ cond b (Some n) None → (b ≡ true) × (k ≡ n)
some_of true n k h = (refl, cc)
some_of false n k h = absurd (cc)

pub unlabelled : (labels : Labels) (uuid : Bytes) → None ≡ number_of labels uuid → is_labelled labels uuid ≡ false
unlabelled labels uuid h = none_of (is_labelled labels uuid) (label_from 1 labels uuid) h

pub numbered : (labels : Labels) (uuid : Bytes) (number : ℕ) → Some number ≡ number_of labels uuid
    → (is_labelled labels uuid ≡ true) × (number ≡ label_from 1 labels uuid)
numbered labels uuid number h = some_of (is_labelled labels uuid) (label_from 1 labels uuid) number h

-- the number of an item's label, counted from this one
abbrev number_from : ℕ → Labels → Bytes → Option ℕ
number_from n labels uuid = if is_labelled labels uuid then Some (label_from n labels uuid) else None

first : (b r : Bool) (n m : ℕ) → cond (b || r) (Some (cond b n m)) None ≡ cond b (Some n) (cond r (Some m) None)
first true r n m = refl
first false r n m = refl

number_cons : (n : ℕ) (l : Bytes) (ls : Labels) (q : Bytes) → number_from n (l ∷ ls) q ≡ (if bytes_eq l q then Some n else number_from (n + 1) ls q)
number_cons n l ls q = first (bytes_eq l q) (is_labelled ls q) n (label_from (n + 1) ls q)

-- an item that is another than one that was found
swapped : (b c : Bool) (x y z : Option ℕ) → (b ≡ true → c ≡ true → ⊥) → cond b x (cond c y z) ≡ cond c y (cond b x z)
swapped true true x y z h = absurd (h refl refl)
swapped true false x y z h = refl
swapped false c x y z h = refl

or_false : (b r : Bool) → (b || r) ≡ false → (b ≡ false) × (r ≡ false)
or_false true r h = absurd (cc)
or_false false r h = (refl, h)

number_snoc : (n : ℕ) (labels : Labels) (uuid q : Bytes) → is_labelled labels uuid ≡ false
    → number_from n (labels ++ uuid ∷ []) q ≡ (if bytes_eq uuid q then Some (n + length labels) else number_from n labels q)
number_snoc n [] uuid q h = number_cons n uuid [] q ∙ ap (λ (k : ℕ). if bytes_eq uuid q then Some k else None) (let e : n ≡ n + 0 = omega arith in e)
number_snoc n (l ∷ ls) uuid q h =
    let parts = or_false (bytes_eq l uuid) (is_labelled ls uuid) h in
    let more : number_from (n + 1) (ls ++ uuid ∷ []) q ≡ (if bytes_eq uuid q then Some (n + 1 + length ls) else number_from (n + 1) ls q) = number_snoc (n + 1) ls uuid q parts.1 in
    let count : n + 1 + length ls ≡ n + length (l ∷ ls) = omega arith in
    let other : bytes_eq l q ≡ true → bytes_eq uuid q ≡ true → ⊥ =
    λ e k. let same : bytes_eq l uuid ≡ true = bytes_same l uuid (same_bytes l q e ∙ sym (same_bytes uuid q k)) in let no : bytes_eq l uuid ≡ false = parts.0 in absurd (cc) in
    number_cons n l (ls ++ uuid ∷ []) q
    ∙ ap (λ (o : Option ℕ). cond (bytes_eq l q) (Some n) o) more
    ∙ swapped (bytes_eq l q) (bytes_eq uuid q) (Some n) (Some (n + 1 + length ls)) (number_from (n + 1) ls q) other
    ∙ ap (λ (k : ℕ). cond (bytes_eq uuid q) (Some k) (cond (bytes_eq l q) (Some n) (number_from (n + 1) ls q))) count
    ∙ ap (λ (o : Option ℕ). cond (bytes_eq uuid q) (Some (n + length (l ∷ ls))) o) (sym (number_cons n l ls q))

all_one : (P : Bytes → Type 0) (u : Bytes) → P u → All P (u ∷ [])
all_one P u is zero d i = is
all_one P u is (suc k) d i = absurd (omega arith)

-- one more label
pub numbers_more : (labels : Labels) (old new : BTreeMap Bytes ℕ) (uuid : Bytes) (number : ℕ)
    → AreNumbers labels old → is_labelled labels uuid ≡ false → IsUuidBytes uuid → number ≡ length labels + 1
    → ((q : Bytes) → get (slice_cmp nat_cmp) new q ≡ cond (is_at (slice_cmp nat_cmp uuid) q) (Some number) (get (slice_cmp nat_cmp) old q))
    → AreNumbers (labels ++ uuid ∷ []) new
numbers_more labels old new uuid number are none is count updates = record {
  uuids = All-append IsUuidBytes labels (uuid ∷ []) are.uuids (all_one IsUuidBytes uuid is);
  found = λ q.
      let next : number ≡ 1 + length labels = omega (arith, count) in
      updates q
      ∙ ap (λ (b : Bool). cond b (Some number) (get (slice_cmp nat_cmp) old q)) (is_eq-slice_cmp uuid q)
      ∙ ap (λ (o : Option ℕ). cond (bytes_eq uuid q) (Some number) o) (are.found q)
      ∙ ap (λ (k : ℕ). cond (bytes_eq uuid q) (Some k) (number_of labels q)) next
      ∙ sym (number_snoc 1 labels uuid q none);
}

-- one more label of an item that has one

passes : (b : Bool) (x y : Option ℕ) → b ≡ false → cond b x y ≡ y
passes true x y h = absurd (cc)
passes false x y h = refl

not_true : (b : Bool) → (b ≡ true → ⊥) → b ≡ false
not_true true h = absurd (h refl)
not_true false h = refl

left_true : (b r : Bool) → (b || r) ≡ true → r ≡ false → b ≡ true
left_true true r h none = refl
left_true false r h none = absurd (cc)

behind_same : (b : Bool) (x y z : Option ℕ) → (b ≡ false → y ≡ z) → cond b x y ≡ cond b x z
behind_same true x y z h = refl
behind_same false x y z h = h refl

rest_again : (n : ℕ) (l : Bytes) (ls : Labels) (uuid q : Bytes) (r : Bool) → is_labelled ls uuid ≡ r → (bytes_eq l uuid || r) ≡ true
    → (is_labelled ls uuid ≡ true → number_from n (ls ++ uuid ∷ []) q ≡ number_from n ls q) → bytes_eq l q ≡ false
    → number_from n (ls ++ uuid ∷ []) q ≡ number_from n ls q
rest_again n l ls uuid q true e h again other = again e
rest_again n l ls uuid q false e h again other =
    let first : l ≡ uuid = same_bytes l uuid (left_true (bytes_eq l uuid) false h refl) in
    let apart : bytes_eq uuid q ≡ true → ⊥ =
    λ k. let same : bytes_eq l q ≡ true = bytes_same l q (first ∙ same_bytes uuid q k) in absurd (cc) in
    number_snoc n ls uuid q e ∙ passes (bytes_eq uuid q) (Some (n + length ls)) (number_from n ls q) (not_true (bytes_eq uuid q) apart)

number_again : (n : ℕ) (labels : Labels) (uuid q : Bytes) → is_labelled labels uuid ≡ true
    → number_from n (labels ++ uuid ∷ []) q ≡ number_from n labels q
number_again n [] uuid q h = absurd (cc)
number_again n (l ∷ ls) uuid q h =
    number_cons n l (ls ++ uuid ∷ []) q
    ∙ behind_same (bytes_eq l q) (Some n) (number_from (n + 1) (ls ++ uuid ∷ []) q) (number_from (n + 1) ls q)
    (rest_again (n + 1) l ls uuid q (is_labelled ls uuid) refl h (number_again (n + 1) ls uuid q))
    ∙ sym (number_cons n l ls q)

pub numbers_again : (labels : Labels) (numbers : BTreeMap Bytes ℕ) (uuid : Bytes) → AreNumbers labels numbers → is_labelled labels uuid ≡ true
    → IsUuidBytes uuid → AreNumbers (labels ++ uuid ∷ []) numbers
numbers_again labels numbers uuid are known is = record {
  uuids = All-append IsUuidBytes labels (uuid ∷ []) are.uuids (all_one IsUuidBytes uuid is);
  found = λ q. are.found q ∙ sym (number_again 1 labels uuid q known);
}

-- The labelled items, each once.
use Rattle.std.proofs.Common.{rules, ◌≡◌, ℕ, zero, suc, ◌+◌, ◌<◌, ◌≤◌, List, [], ◌∷◌, ◌++◌, length, take, drop, get_or, Bool, true, false, refl, sym, ap, ◌∙◌, arith, append-nil, add-one}
use Rattle.std.specs.Prelude.{◌||◌, cond, not, if◌then◌else◌, filter}
use Rattle.std.specs.Str.{bytes_eq}
use Rattle.std.proofs.lemmas.List.Elements.{filter-append}
use Rattle.std.proofs.Math.Seq.{split_at, take-suc}
use Rattle.sn_laws.specs.Lookups.{Bytes}
use Rattle.sn_report.specs.Labels.{Labels, is_labelled, items_of, label_from}
use Rattle.sn_report.proofs.NumberLemmas.{bytes_same}

-- one more label adds its item, where the item had none

single : (b : Bool) (u : Bytes) (p : Bytes → Bool) → p u ≡ b → filter p (u ∷ []) ≡ cond b (u ∷ []) []
single b u p e = ap (λ (t : Bool). cond t (u ∷ []) []) e

added : (b r : Bool) (l u : Bytes) (xs : List Bytes) (p : Bytes → Bool) → p u ≡ not b
    → l ∷ filter p (if r then xs else xs ++ u ∷ []) ≡ (if b || r then l ∷ filter p xs else (l ∷ filter p xs) ++ u ∷ [])
added true true l u xs p e = refl
added false true l u xs p e = refl
added true false l u xs p e =
    ap (λ (ys : List Bytes). l ∷ ys) (filter-append p xs (u ∷ []) ∙ ap (λ (ys : List Bytes). filter p xs ++ ys) (single false u p e)
    ∙ append-nil (filter p xs))
added false false l u xs p e =
    ap (λ (ys : List Bytes). l ∷ ys) (filter-append p xs (u ∷ []) ∙ ap (λ (ys : List Bytes). filter p xs ++ ys) (single true u p e))

items_more : (labels : Labels) (u : Bytes)
    → items_of (labels ++ u ∷ []) ≡ (if is_labelled labels u then items_of labels else items_of labels ++ u ∷ [])
items_more [] u = refl
items_more (l ∷ ls) u =
    ap (λ (ys : List Bytes). l ∷ filter (λ other. not (bytes_eq l other)) ys) (items_more ls u)
    ∙ added (bytes_eq l u) (is_labelled ls u) l u (items_of ls) (λ other. not (bytes_eq l other)) refl

-- the least label of an item that stands at some place

at_end : (n k : ℕ) (b : Bool) (m : ℕ) → k ≡ n → b ≡ true → cond b n m ≡ k
at_end n k true m e h = sym e
at_end n k false m e h = absurd (cc)

least : (b r : Bool) (n m k l : ℕ) → l ≡ cond r m k → cond b n l ≡ cond (b || r) (cond b n m) k
least true r n m k l e = refl
least false r n m k l e = e

least_at : (n : ℕ) (xs ys : Labels) (u : Bytes) → label_from n (xs ++ u ∷ ys) u ≡ (if is_labelled xs u then label_from n xs u else n + length xs)
least_at n [] ys u = at_end n (n + 0) (bytes_eq u u) (label_from (n + 1) ys u) (omega arith) (bytes_same u u refl)
least_at n (l ∷ xs) ys u =
    let more : label_from (n + 1) (xs ++ u ∷ ys) u ≡ (if is_labelled xs u then label_from (n + 1) xs u else n + 1 + length xs) = least_at (n + 1) xs ys u in
    let count : n + 1 + length xs ≡ n + length (l ∷ xs) = omega arith in
    least (bytes_eq l u) (is_labelled xs u) n (label_from (n + 1) xs u) (n + length (l ∷ xs)) (label_from (n + 1) (xs ++ u ∷ ys) u)
    (more ∙ ap (λ (k : ℕ). cond (is_labelled xs u) (label_from (n + 1) xs u) k) count)

smaller : (b r : Bool) (n m k : ℕ) → (b || r) ≡ true → n < k → (r ≡ true → m < k) → cond b n m < k
smaller true r n m k h first later = first
smaller false r n m k h first later = later h

below_end : (n : ℕ) (xs : Labels) (u : Bytes) → is_labelled xs u ≡ true → label_from n xs u < n + length xs
below_end n [] u h = absurd (cc)
below_end n (l ∷ xs) u h =
    smaller (bytes_eq l u) (is_labelled xs u) n (label_from (n + 1) xs u) (n + length (l ∷ xs)) h (omega arith)
    (λ r. let e : label_from (n + 1) xs u < n + 1 + length xs = below_end (n + 1) xs u r in omega (arith, e))

chosen : (r : Bool) (m k l : ℕ) → l ≡ cond r m k → (r ≡ true → m < k) → (l ≡ k → r ≡ false) × ((l ≡ k → ⊥) → r ≡ true)
chosen true m k l e h = let less : m < k = h refl in (λ same. absurd (omega (arith, same, e, less)), λ other. refl)
chosen false m k l e h = (λ same. refl, λ other. absurd (other e))

-- whether an item at a place had a label before

front_length : (k : ℕ) (xs : Labels) → k ≤ length xs → length (take k xs) ≡ k
front_length zero xs h = refl
front_length (suc k) [] h = absurd (omega (arith, h))
front_length (suc k) (x ∷ xs) h = ap suc (front_length k xs (omega (arith, h)))

first_here : (made : Labels) (k : ℕ) (u : Bytes) → k < length made → u ≡ get_or made k u
    → (label_from 1 made u ≡ k + 1 → is_labelled (take k made) u ≡ false) × ((label_from 1 made u ≡ k + 1 → ⊥) → is_labelled (take k made) u ≡ true)
first_here made k u h is =
    let all : made ≡ take k made ++ u ∷ drop (suc k) made =
    split_at made k u h ∙ ap (λ (x : Bytes). take k made ++ x ∷ drop (suc k) made) (sym is) in
    let count : length (take k made) ≡ k = front_length k made (omega (arith, h)) in
    let end : 1 + length (take k made) ≡ k + 1 = omega (arith, count) in
    chosen (is_labelled (take k made) u) (label_from 1 (take k made) u) (k + 1) (label_from 1 made u)
    (ap (λ (ls : Labels). label_from 1 ls u) all ∙ least_at 1 (take k made) (drop (suc k) made) u
    ∙ ap (λ (n : ℕ). cond (is_labelled (take k made) u) (label_from 1 (take k made) u) n) end)
    (λ r. let e : label_from 1 (take k made) u < 1 + length (take k made) = below_end 1 (take k made) u r in omega (arith, e, end))

one_more : (made : Labels) (k : ℕ) (u : Bytes) → k < length made → u ≡ get_or made k u
    → items_of (take (k + 1) made) ≡ (if is_labelled (take k made) u then items_of (take k made) else items_of (take k made) ++ u ∷ [])
one_more made k u h is =
    ap (λ (n : ℕ). items_of (take n made)) (add-one k) ∙ ap items_of (take-suc made k u h)
    ∙ ap (λ (x : Bytes). items_of (take k made ++ x ∷ [])) (sym is) ∙ items_more (take k made) u

pub item_new : (made : Labels) (items next : List Bytes) (k : ℕ) (u : Bytes) → k < length made → u ≡ get_or made k u → label_from 1 made u ≡ k + 1
    → items ≡ items_of (take k made) → next ≡ items ++ u ∷ [] → next ≡ items_of (take (k + 1) made)
item_new made items next k u h is least so_far e =
    let none : is_labelled (take k made) u ≡ false = (first_here made k u h is).0 least in
    e ∙ ap (λ (xs : List Bytes). xs ++ u ∷ []) so_far
    ∙ sym (one_more made k u h is ∙ ap (λ (r : Bool). if r then items_of (take k made) else items_of (take k made) ++ u ∷ []) none)

pub item_known : (made : Labels) (items : List Bytes) (k : ℕ) (u : Bytes) → k < length made → u ≡ get_or made k u → (label_from 1 made u ≡ k + 1 → ⊥)
    → items ≡ items_of (take k made) → items ≡ items_of (take (k + 1) made)
item_known made items k u h is other so_far =
    let known : is_labelled (take k made) u ≡ true = (first_here made k u h is).1 other in
    so_far ∙ sym (one_more made k u h is ∙ ap (λ (r : Bool). if r then items_of (take k made) else items_of (take k made) ++ u ∷ []) known)

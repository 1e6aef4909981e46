-- The lines of a map by label, in the order of the labels.
use Rattle.std.proofs.Common.{◌≡◌, ◌≢◌, ℕ, ◌+◌, ◌<◌, ◌≤◌, List, [], ◌∷◌, ◌++◌, Option, Some, None, Bool, true, false, refl, sym, ap, ◌∙◌, arith}
use Rattle.std.specs.Prelude.{◌==◌, cond, filter, nat_lt, not}
use Rattle.std.specs.BTreeMap.{is_at}
use Rattle.std.specs.List.{AllByRecursion, flat_map}
use Rattle.std.specs.List.Sorted.{IsStrictlySortedBy}
use Rattle.std.specs.Map.{keys_of, lookup, values_of}
use Rattle.std.specs.Ordering.{is_eq, nat_cmp}
use Rattle.std.specs.Str.{bytes_eq}
use Rattle.std.specs.declared.cmp.Ordering.TheVariants.{Less, Equal, Greater}
use Rattle.std.proofs.lemmas.Map.Keys.{sorted_head, sorted_tail}
use Rattle.sn_laws.proofs.Facts.{below, clash, is_false, number_same, same_number}
use Rattle.sn_laws.specs.Lookups.{Bytes}
use Rattle.sn_report.specs.Labels.{Labels, items_of}
use Rattle.sn_shown.proofs.LabelPlaces.{line_at, lines, lines_without, none_below, without}

abbrev pub Entries : Type 0
Entries = List (ℕ × Bytes)

abbrev at_key : Entries → ℕ → Option Bytes
at_key es q = lookup (is_at (nat_cmp q)) es

-- the comparison of numbers, as a test

pub same_key : (a b : ℕ) → is_at (nat_cmp a) b ≡ (a == b)
same_key a b = at (nat_lt a b) (a == b) refl refl
  where
    at : (x y : Bool) → nat_lt a b ≡ x → (a == b) ≡ y → is_eq (cond x Less (cond y Equal Greater)) ≡ y
    at true true e k = let lt : a < b = below a b e in let same : a ≡ b = same_number a b k in absurd (omega (arith, lt, same))
    at true false e k = refl
    at false true e k = refl
    at false false e k = refl

pub no_key : (a b : ℕ) → a ≢ b → is_at (nat_cmp a) b ≡ false
no_key a b ne = same_key a b ∙ is_false (a == b) (λ e. ne (same_number a b e))

pub own_key : (a b : ℕ) → a ≡ b → is_at (nat_cmp a) b ≡ true
own_key a b e = same_key a b ∙ number_same a b e

less : (a b : ℕ) → nat_cmp a b ≡ Less → a < b
less a b h = at (nat_lt a b) (a == b) refl h
  where
    at : (x y : Bool) → nat_lt a b ≡ x → cond x Less (cond y Equal Greater) ≡ Less → a < b
    at true y e k = below a b e
    at false true e k = absurd (cc)
    at false false e k = absurd (cc)

-- nothing is found at a key that is not beyond one below all
none_before : (es : Entries) (k q : ℕ) → q ≤ k → AllByRecursion (λ y. nat_cmp k y ≡ Less) (keys_of es) → at_key es q ≡ None
none_before [] k q le h = refl
none_before (e ∷ es) k q le h =
    let lt : k < e.0 = less k e.0 h.0 in
    let apart : is_at (nat_cmp q) e.0 ≡ false = no_key q e.0 (λ same. absurd (omega (arith, same, lt, le))) in
    ap (λ (b : Bool). cond b (Some e.1) (at_key es q)) apart ∙ none_before es k q le h.1

-- entries whose keys rise and which have the lines of the labels from n on
abbrev Has : (Bytes → Option Bytes) → ℕ → Labels → Entries → Type 0
Has f n ls es = IsStrictlySortedBy nat_cmp (keys_of es) × ((q : ℕ) → at_key es q ≡ line_at f n ls q)

first_found : (e : ℕ × Bytes) (es : Entries) → at_key (e ∷ es) e.0 ≡ Some e.1
first_found e es = ap (λ (b : Bool). cond b (Some e.1) (at_key es e.0)) (own_key e.0 e.0 refl)

module _ (f : Bytes → Option Bytes) (n : ℕ) (l : Bytes) (ls : Labels) where
  skipped : (q : ℕ) → f l ≡ None → line_at f n (l ∷ ls) q ≡ line_at (without l f) (n + 1) ls q
  skipped q none = at (n == q) refl
    where
      at : (b : Bool) → (n == q) ≡ b → cond b (f l) (line_at (without l f) (n + 1) ls q) ≡ line_at (without l f) (n + 1) ls q
      at true e =
          let same : n ≡ q = same_number n q e in
          none ∙ sym (none_below (without l f) (n + 1) ls q (omega (arith, same)))
      at false e = refl

  module _ (e : ℕ × Bytes) (es : Entries) (line : Bytes) (is : f l ≡ Some line) (h : Has f n (l ∷ ls) (e ∷ es)) where
    head : AllByRecursion (λ y. nat_cmp e.0 y ≡ Less) (keys_of es)
    head = sorted_head nat_cmp e.0 (keys_of es) h.0

    own_line : line_at f n (l ∷ ls) n ≡ Some line
    own_line = ap (λ (b : Bool). cond b (f l) (line_at (without l f) (n + 1) ls n)) (number_same n n refl) ∙ is

    not_below : ¬ (e.0 < n)
    not_below lt =
        let found : at_key (e ∷ es) e.0 ≡ Some e.1 = first_found e es in
        let none : line_at f n (l ∷ ls) e.0 ≡ None = none_below f n (l ∷ ls) e.0 lt in
        let both : at_key (e ∷ es) e.0 ≡ line_at f n (l ∷ ls) e.0 = h.1 e.0 in
        absurd (cc)

    not_above : ¬ (n < e.0)
    not_above lt =
        let apart : is_at (nat_cmp n) e.0 ≡ false = no_key n e.0 (λ same. absurd (omega (arith, same, lt))) in
        let none : at_key (e ∷ es) n ≡ None = ap (λ (b : Bool). cond b (Some e.1) (at_key es n)) apart ∙ none_before es e.0 n (omega (arith, lt)) head in
        let both : at_key (e ∷ es) n ≡ line_at f n (l ∷ ls) n = h.1 n in
        absurd (cc (own_line, none, both))

    key_is : n ≡ e.0
    key_is = omega (arith, not_below, not_above)

    line_is : e.1 ≡ line
    line_is =
        let found : at_key (e ∷ es) e.0 ≡ Some e.1 = first_found e es in
        let both : at_key (e ∷ es) e.0 ≡ line_at f n (l ∷ ls) e.0 = h.1 e.0 in
        let own : line_at f n (l ∷ ls) e.0 ≡ Some line = ap (λ (q : ℕ). line_at f n (l ∷ ls) q) (sym key_is) ∙ own_line in
        cc

    rest : (q : ℕ) → at_key es q ≡ line_at (without l f) (n + 1) ls q
    rest q = at (n == q) refl
      where
        at : (b : Bool) → (n == q) ≡ b → at_key es q ≡ line_at (without l f) (n + 1) ls q
        at true k =
            let same : n ≡ q = same_number n q k in
            none_before es e.0 q (omega (arith, same, key_is)) head ∙ sym (none_below (without l f) (n + 1) ls q (omega (arith, same)))
        at false k =
            let apart : is_at (nat_cmp q) e.0 ≡ false = no_key q e.0 (λ same. clash (n == q) (number_same n q (key_is ∙ sym same)) k) in
            let here : at_key (e ∷ es) q ≡ at_key es q = ap (λ (b : Bool). cond b (Some e.1) (at_key es q)) apart in
            let there : line_at f n (l ∷ ls) q ≡ line_at (without l f) (n + 1) ls q = ap (λ (b : Bool). cond b (f l) (line_at (without l f) (n + 1) ls q)) k in
            sym here ∙ h.1 q ∙ there

    tail : Has (without l f) (n + 1) ls es
    tail = (sorted_tail nat_cmp e.0 (keys_of es) h.0, rest)

-- the lines of the items other than the first
abbrev others : (Bytes → Option Bytes) → Bytes → Labels → List Bytes
others f l ls = flat_map (λ u. lines (f u)) (filter (λ u. not (bytes_eq l u)) (items_of ls))

pub in_order : (f : Bytes → Option Bytes) (n : ℕ) (ls : Labels) (es : Entries) → Has f n ls es → values_of es ≡ flat_map (λ u. lines (f u)) (items_of ls)
in_order f n [] [] h = refl
in_order f n [] (e ∷ es) h =
    let found : at_key (e ∷ es) e.0 ≡ Some e.1 = first_found e es in
    let none : at_key (e ∷ es) e.0 ≡ None = h.1 e.0 in
    absurd (cc)
in_order f n (l ∷ ls) es h = at (f l) refl (λ xs k. in_order (without l f) (n + 1) ls xs k ∙ lines_without f l (items_of ls))
  where
    at_some : (line : Bytes) (es : Entries) → f l ≡ Some line → Has f n (l ∷ ls) es → ((xs : Entries) → Has (without l f) (n + 1) ls xs → values_of xs ≡ others f l ls)
        → values_of es ≡ line ∷ others f l ls
    at_some line [] is h later =
        let own : line_at f n (l ∷ ls) n ≡ Some line = ap (λ (b : Bool). cond b (f l) (line_at (without l f) (n + 1) ls n)) (number_same n n refl) ∙ is in
        let none : None ≡ line_at f n (l ∷ ls) n = h.1 n in
        absurd (cc)
    at_some line (e ∷ es) is h later =
        ap (λ (x : Bytes). x ∷ values_of es) (line_is f n l ls e es line is h)
        ∙ ap (λ (xs : List Bytes). line ∷ xs) (later es (tail f n l ls e es line is h))

    at : (o : Option Bytes) → f l ≡ o → ((xs : Entries) → Has (without l f) (n + 1) ls xs → values_of xs ≡ others f l ls)
        → values_of es ≡ flat_map (λ u. lines (f u)) (items_of (l ∷ ls))
    at None e later =
        later es (h.0, λ q. h.1 q ∙ skipped f n l ls q e)
        ∙ ap (λ (o : Option Bytes). lines o ++ others f l ls) (sym e)
    at (Some line) e later = at_some line es e h later ∙ ap (λ (o : Option Bytes). lines o ++ others f l ls) (sym e)

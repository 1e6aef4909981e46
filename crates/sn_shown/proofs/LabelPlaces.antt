-- What stands at the place of a label: an item's line at its least label, and nothing at a later one.
use Rattle.std.proofs.Common.{◌≡◌, ℕ, ◌+◌, ◌<◌, ◌≤◌, List, [], ◌∷◌, ◌++◌, Option, Some, None, Bool, true, false, refl, ap, ◌∙◌, arith}
use Rattle.std.specs.Prelude.{◌||◌, ◌==◌, cond, filter, not}
use Rattle.std.specs.List.{flat_map}
use Rattle.std.specs.Str.{bytes_eq}
use Rattle.sn_laws.proofs.Facts.{is_false, number_same, or_left, or_right, same_number, same_text, text_same}
use Rattle.sn_laws.specs.Lookups.{Bytes}
use Rattle.sn_report.specs.Labels.{Labels, is_labelled, label_from}

-- the value of an optional line
abbrev pub lines : Option Bytes → List Bytes
lines None = []
lines (Some line) = line ∷ []

-- what f has of other items
abbrev pub without : Bytes → (Bytes → Option Bytes) → Bytes → Option Bytes
without l f uuid = cond (bytes_eq l uuid) None (f uuid)

-- what f has of the item whose least label this is, where the first in the list is number n
abbrev pub line_at : (Bytes → Option Bytes) → ℕ → Labels → ℕ → Option Bytes
line_at f n [] q = None
line_at f n (l ∷ ls) q = cond (n == q) (f l) (line_at (without l f) (n + 1) ls q)

unequal : (a b : ℕ) → a < b → (b == a) ≡ false
unequal a b lt = is_false (b == a) (λ e. let same : b ≡ a = same_number b a e in absurd (omega (arith, same)))

-- no label is less than the first
pub none_below : (f : Bytes → Option Bytes) (n : ℕ) (ls : Labels) (q : ℕ) → q < n → line_at f n ls q ≡ None
none_below f n [] q lt = refl
none_below f n (l ∷ ls) q lt =
    ap (λ (b : Bool). cond b (f l) (line_at (without l f) (n + 1) ls q)) (unequal q n lt) ∙ none_below (without l f) (n + 1) ls q (omega (arith, lt))

pub label_low : (n : ℕ) (ls : Labels) (uuid : Bytes) → n ≤ label_from n ls uuid
label_low n [] uuid = omega arith
label_low n (l ∷ ls) uuid = at (bytes_eq l uuid) (label_low (n + 1) ls uuid)
  where
    at : (b : Bool) → n + 1 ≤ label_from (n + 1) ls uuid → n ≤ cond b n (label_from (n + 1) ls uuid)
    at true h = omega arith
    at false h = omega (arith, h)

-- an item with a label stands at its least label
pub at_label : (f : Bytes → Option Bytes) (n : ℕ) (ls : Labels) (uuid : Bytes) → is_labelled ls uuid ≡ true
    → line_at f n ls (label_from n ls uuid) ≡ f uuid
at_label f n [] uuid h = absurd (cc)
at_label f n (l ∷ ls) uuid h = at (bytes_eq l uuid) refl h (λ k. at_label (without l f) (n + 1) ls uuid k)
  where
    other : bytes_eq l uuid ≡ false → without l f uuid ≡ f uuid
    other e = ap (λ (b : Bool). cond b None (f uuid)) e

    later : line_at (without l f) (n + 1) ls (label_from (n + 1) ls uuid) ≡ f uuid
        → cond (n == label_from (n + 1) ls uuid) (f l) (line_at (without l f) (n + 1) ls (label_from (n + 1) ls uuid)) ≡ f uuid
    later found =
        let low : n + 1 ≤ label_from (n + 1) ls uuid = label_low (n + 1) ls uuid in
        let apart : (n == label_from (n + 1) ls uuid) ≡ false =
        is_false (n == label_from (n + 1) ls uuid) (λ e. let same : n ≡ label_from (n + 1) ls uuid = same_number n (label_from (n + 1) ls uuid) e in absurd (omega (arith, same, low))) in
        ap (λ (b : Bool). cond b (f l) (line_at (without l f) (n + 1) ls (label_from (n + 1) ls uuid))) apart ∙ found

    at : (b : Bool) → bytes_eq l uuid ≡ b → (b || is_labelled ls uuid) ≡ true
        → (is_labelled ls uuid ≡ true → line_at (without l f) (n + 1) ls (label_from (n + 1) ls uuid) ≡ without l f uuid)
        → cond (n == cond b n (label_from (n + 1) ls uuid)) (f l) (line_at (without l f) (n + 1) ls (cond b n (label_from (n + 1) ls uuid))) ≡ f uuid
    at true e h found = ap (λ (b : Bool). cond b (f l) (line_at (without l f) (n + 1) ls n)) (number_same n n refl) ∙ ap f (same_text l uuid e)
    at false e h found = later (found h ∙ other e)

-- items with one label are one
pub one_label : (n : ℕ) (ls : Labels) (a b : Bytes) → is_labelled ls a ≡ true → is_labelled ls b ≡ true
    → label_from n ls a ≡ label_from n ls b → a ≡ b
one_label n ls a b ha hb e =
    let own : line_at (λ u. Some u) n ls (label_from n ls a) ≡ Some a = at_label (λ u. Some u) n ls a ha in
    let other : line_at (λ u. Some u) n ls (label_from n ls b) ≡ Some b = at_label (λ u. Some u) n ls b hb in
    let moved : line_at (λ u. Some u) n ls (label_from n ls a) ≡ line_at (λ u. Some u) n ls (label_from n ls b) = ap (λ (q : ℕ). line_at (λ u. Some u) n ls q) e in
    cc

-- the item at a place
pub record HasLabel (f : Bytes → Option Bytes) (n : ℕ) (ls : Labels) (q : ℕ) (line : Bytes) : Type 0 where
  pub uuid : Bytes
  pub line_is : f uuid ≡ Some line
  pub there : is_labelled ls uuid ≡ true
  pub at : label_from n ls uuid ≡ q

another : (f : Bytes → Option Bytes) (l uuid line : Bytes) → without l f uuid ≡ Some line → (bytes_eq l uuid ≡ false) × (f uuid ≡ Some line)
another f l uuid line h = at (bytes_eq l uuid) refl h
  where
    at : (b : Bool) → bytes_eq l uuid ≡ b → cond b None (f uuid) ≡ Some line → (bytes_eq l uuid ≡ false) × (f uuid ≡ Some line)
    at true e k = absurd (cc)
    at false e k = (e, k)

pub label_of : (f : Bytes → Option Bytes) (n : ℕ) (ls : Labels) (q : ℕ) (line : Bytes) → line_at f n ls q ≡ Some line → HasLabel f n ls q line
label_of f n [] q line h = absurd (cc)
label_of f n (l ∷ ls) q line h = at (n == q) refl h (λ k. label_of (without l f) (n + 1) ls q line k)
  where
    own : n ≡ q → f l ≡ Some line → HasLabel f n (l ∷ ls) q line
    own e k =
        let self : bytes_eq l l ≡ true = text_same l l refl in
        record {
          uuid = l;
          line_is = k;
          there = or_left (bytes_eq l l) (is_labelled ls l) self;
          at = ap (λ (b : Bool). cond b n (label_from (n + 1) ls l)) self ∙ e;
        }

    later : HasLabel (without l f) (n + 1) ls q line → HasLabel f n (l ∷ ls) q line
    later has =
        let apart = another f l has.uuid line has.line_is in
        record {
          uuid = has.uuid;
          line_is = apart.1;
          there = or_right (bytes_eq l has.uuid) (is_labelled ls has.uuid) has.there;
          at = ap (λ (b : Bool). cond b n (label_from (n + 1) ls has.uuid)) apart.0 ∙ has.at;
        }

    at : (b : Bool) → (n == q) ≡ b → cond b (f l) (line_at (without l f) (n + 1) ls q) ≡ Some line
        → (line_at (without l f) (n + 1) ls q ≡ Some line → HasLabel (without l f) (n + 1) ls q line) → HasLabel f n (l ∷ ls) q line
    at true e k found = own (same_number n q e) k
    at false e k found = later (found k)

-- the lines of all others are those of the rest of a list
pub lines_without : (f : Bytes → Option Bytes) (l : Bytes) (ls : List Bytes)
    → flat_map (λ u. lines (without l f u)) ls ≡ flat_map (λ u. lines (f u)) (filter (λ u. not (bytes_eq l u)) ls)
lines_without f l [] = refl
lines_without f l (x ∷ ls) = at (bytes_eq l x) (lines_without f l ls)
  where
    at : (b : Bool) → flat_map (λ u. lines (without l f u)) ls ≡ flat_map (λ u. lines (f u)) (filter (λ u. not (bytes_eq l u)) ls)
        → lines (cond b None (f x)) ++ flat_map (λ u. lines (without l f u)) ls
        ≡ flat_map (λ u. lines (f u)) (cond (not b) (x ∷ filter (λ u. not (bytes_eq l u)) ls) (filter (λ u. not (bytes_eq l u)) ls))
    at true h = h
    at false h = ap (λ (xs : List Bytes). lines (f x) ++ xs) h

-- Which one a word says.
use Rattle.std.proofs.Common.{◌≡◌, ◌<◌, ◌^◌, ◌+◌, ℕ, List, [], ◌∷◌, ◌++◌, length, drop, Some, None, Option, ap, sym, ◌∙◌, subst, refl, inl, inr}
use Rattle.std.specs.Fmt.{decimal}
use Rattle.std.specs.Option.{MatchOption}
use Rattle.std.specs.Str.Pattern.{FindsTextPrefix}
use Rattle.std.proofs.lemmas.Fmt.{decimal_injective}
use Rattle.std.proofs.lemmas.List.{append_cancel_left, nil_from_length}
use denote.Ref.{Bor}
use Rattle.sn_script.specs.Grammar.{Word, IsCount, IsLabel, IsNamed, IsNumber, IsOrdinal}
use Rattle.sn_script.specs.declared.script.Ordinal.{Ordinal}
use Rattle.sn_script.specs.declared.script.Ordinal.TheVariants as ordinal

-- what is found by one relation is found by another that is the same
pub carried : {X : Type 0} (A B : X → Type 0) (r : Option X) → ((x : X) → A x → B x) → ((x : X) → B x → A x)
    → MatchOption r ((x : X) → ¬ (A x)) A → MatchOption r ((x : X) → ¬ (B x)) B
carried A B None to from h = λ x b. h x (from x b)
carried A B (Some x) to from h = to x h

-- what was found, where it is known which

pub absent : {X : Type 0} (A : X → Type 0) (r : Option X) → MatchOption r ((x : X) → ¬ (A x)) A → ((x : X) → r ≡ Some x → ⊥) → (x : X) → ¬ (A x)
absent A None h never = h
absent A (Some x) h never = absurd (never x refl)

pub missing : {X : Type 0} (N : Type 0) (A : X → Type 0) (r : Option X) → MatchOption r N A → r ≡ None → N
missing {X = X} N A r h e = let M : Option X → Type 0 = λ o. MatchOption o N A in subst M e h

pub present : {X : Type 0} (N : Type 0) (A : X → Type 0) (r : Option X) (x : X) → MatchOption r N A → r ≡ Some x → A x
present {X = X} N A r x h e = let M : Option X → Type 0 = λ o. MatchOption o N A in subst M e h

-- numbers

pub one_ordinal : (w : Word) (a b : Ordinal) → IsOrdinal w a → IsOrdinal w b → a ≡ b
one_ordinal w (ordinal.Nth n) (ordinal.Nth m) (e, small) (e', small') =
    ap ordinal.Nth (decimal_injective n m small small' (sym e ∙ e'))
one_ordinal w (ordinal.Nth n) ordinal.Beyond (e, small) (is, never) = absurd (never n small e)
one_ordinal w ordinal.Beyond (ordinal.Nth m) (is, never) (e, small) = absurd (never m small e)
one_ordinal w ordinal.Beyond ordinal.Beyond a b = refl

pub no_ordinal : (w : Word) → ((n : ℕ) → n < 2 ^ 64 → ¬ (w ≡ decimal n)) → (IsNumber w → ⊥) → (which : Ordinal) → ¬ (IsOrdinal w which)
no_ordinal w never not (ordinal.Nth n) (e, small) = never n small e
no_ordinal w never not ordinal.Beyond (is, none) = not is

-- labels

pub label_read : (w number : Word) (r : Option Ordinal) → w ≡ 35 ∷ number
    → MatchOption r ((which : Ordinal) → ¬ (IsOrdinal number which)) (IsOrdinal number)
    → MatchOption r ((which : Ordinal) → ¬ (IsLabel w which)) (IsLabel w)
label_read w number r e h =
    carried (IsOrdinal number) (IsLabel w) r (λ which is. (number, e, is))
    (λ which (other, e', is). let same : other ≡ number = cc in subst (λ t. IsOrdinal t which) same is) h

pub no_label : (w : Word) → ((rest : List ℕ) → w ≡ 35 ∷ rest → ⊥) → (which : Ordinal) → ¬ (IsLabel w which)
no_label w never which (number, e, is) = never number e

pub one_label : (w : Word) (a b : Ordinal) → IsLabel w a → IsLabel w b → a ≡ b
one_label w a b (number, e, is) (other, e', is') =
    let same : other ≡ number = cc in one_ordinal number a b is (subst (λ t. IsOrdinal t b) same is')

-- behind names

pub first_count : (w : Word) → length w ≡ 0 → IsCount w (ordinal.Nth 1)
first_count w none = inl (nil_from_length w none, refl)

only_number : (w number : Word) (which : Ordinal) → w ≡ 61 ∷ number → IsCount w which → IsOrdinal number which
only_number w number which e (inl (none, first)) = absurd (let h : [] ≡ 61 ∷ number = sym none ∙ e in cc)
only_number w number which e (inr (other, e', is)) = let same : other ≡ number = cc in subst (λ t. IsOrdinal t which) same is

pub count_read : (w number : Word) (r : Option Ordinal) → w ≡ 61 ∷ number
    → MatchOption r ((which : Ordinal) → ¬ (IsOrdinal number which)) (IsOrdinal number)
    → MatchOption r ((which : Ordinal) → ¬ (IsCount w which)) (IsCount w)
count_read w number r e h =
    carried (IsOrdinal number) (IsCount w) r (λ which is. inr (number, e, is)) (λ which is. only_number w number which e is) h

pub no_count : (w : Word) → (length w ≡ 0 → ⊥) → ((rest : List ℕ) → w ≡ 61 ∷ rest → ⊥) → (which : Ordinal) → ¬ (IsCount w which)
no_count w some never which (inl (none, first)) = some (ap length none)
no_count w some never which (inr (number, e, is)) = never number e

pub one_count : (w : Word) (a b : Ordinal) → IsCount w a → IsCount w b → a ≡ b
one_count w a b (inl (none, first)) (inl (none', first')) = first ∙ sym first'
one_count w a b (inl (none, first)) (inr (number, e, is)) = absurd (let h : [] ≡ 61 ∷ number = sym none ∙ e in cc)
one_count w a b (inr (number, e, is)) other = one_ordinal number a b is (only_number w number b e other)

pub stripped_text : (n s : List ℕ) (r : Option (Bor (List ℕ)))
    → MatchOption r (FindsTextPrefix n s None) (λ x. (k : ℕ) × FindsTextPrefix n s (Some k) × (x.now ≡ drop k s) × (length x.now + k ≡ length s))
    → MatchOption r ((rest : List ℕ) → s ≡ n ++ rest → ⊥) (λ x. s ≡ n ++ x.now)
stripped_text n s None h = h
stripped_text n s (Some x) (k, found, is, long) = found.1 ∙ ap (λ (t : List ℕ). n ++ t) (sym is)

pub named_read : (w name rest : Word) (r : Option Ordinal) → w ≡ name ++ rest
    → MatchOption r ((which : Ordinal) → ¬ (IsCount rest which)) (IsCount rest)
    → MatchOption r ((which : Ordinal) → ¬ (IsNamed name (λ t. IsCount t which) w)) (λ which. IsNamed name (λ t. IsCount t which) w)
named_read w name rest r e h =
    carried (IsCount rest) (λ which. IsNamed name (λ t. IsCount t which) w) r (λ which is. (rest, e, is))
    (λ which (other, e', is). subst (λ t. IsCount t which) (append_cancel_left name other rest (sym e' ∙ e)) is) h

pub not_named : (w name : Word) → ((rest : List ℕ) → w ≡ name ++ rest → ⊥) → (which : Ordinal) → ¬ (IsNamed name (λ t. IsCount t which) w)
not_named w name never which (rest, e, is) = never rest e

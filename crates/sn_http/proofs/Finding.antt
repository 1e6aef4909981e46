-- Heads in a front of an input.
use Rattle.std.specs.Prelude.{◌≡◌, ◌≢◌, ℕ, suc, min, ◌+◌, ◌-◌, ◌<◌, ◌≤◌, List, [], ◌∷◌, ◌++◌, length, take, drop, true, Some, None}
use Rattle.std.specs.declared.option.Option.{Option}
use Rattle.std.specs.Io.KnownBytes.{prepend_known, IsAtEnd}
use Rattle.std.proofs.lemmas.Bool.{cases_lt, false≢true}
use Rattle.std.proofs.Common.{inl, inr, ⊎_elim, refl, sym, ◌∙◌, ap, subst, append_assoc, append-nil, arith, get_or, length-append, length-take}
use Rattle.std.proofs.lemmas.List.{take_all, take_at, take-append-drop, take-append-le, take-take, get_or-take, get_or_at, get_or_append_left}
use Rattle.httparse.specs.Grammar.{RequestHead, print_request, IsToken, is_token_byte, print_blank, print_version, print_end, print_section}
use Rattle.httparse.proofs.GrammarLemmas.{print_request-append}
use Rattle.sn_http.specs.Blanks.{IsLineEnd, IsBlank}
use Rattle.sn_http.specs.Ends.{EndsWithin}
use Rattle.sn_http.specs.Heads.{IsHead, HasNoHead, NeverHasHead}
use Rattle.sn_http.specs.Messages.{IsHeadless, OfTold}
use Rattle.std.proofs.Math.Seq.{take-append-add}
use Rattle.sn_http.proofs.Ends.{head_ends}

pub take-append-more : (front rest : List ℕ) (k : ℕ) → length front ≤ k → take k (front ++ rest) ≡ front ++ take (k - length front) rest
take-append-more front rest k le =
    let total : k ≡ length front + (k - length front) = omega (arith, le) in
    ap (λ (n : ℕ). take n (front ++ rest)) total ∙ take-append-add front rest (k - length front)

-- a head that ends within the first k bytes stands in them
pub fewer : (bytes : List ℕ) (h : RequestHead) (rest : List ℕ) (k : ℕ) → IsHead bytes h rest → length (print_request h) ≤ k → IsHead (take k bytes) h (take (k - length (print_request h)) rest)
fewer bytes h rest k x le = record {
  reads = (x.reads.0, ap (λ (l : List ℕ). take k l) x.reads.1 ∙ take-append-more (print_request h) rest k le);
  few = x.few;
  short = x.short;
}

pub no_more : (bytes : List ℕ) (seen : ℕ) → HasNoHead (take seen bytes) → EndsWithin seen bytes → HasNoHead bytes
no_more bytes seen none within = λ h rest x. none h _ (fewer bytes h rest seen x (within h rest x.reads))

-- no head stands in the first 16,384 bytes
pub none_in_front : (bytes more : List ℕ) → 16384 ≤ length bytes → HasNoHead (take 16384 bytes) → HasNoHead (bytes ++ more)
none_in_front bytes more long none = λ h rest x. none h _ (subst (λ (l : List ℕ). IsHead l h (take (16384 - length (print_request h)) rest)) (take-append-le 16384 bytes more long) (fewer (bytes ++ more) h rest 16384 x x.short))

pub never_behind : (bytes more : List ℕ) → NeverHasHead (take 16384 bytes) → HasNoHead (bytes ++ more)
never_behind bytes more never = subst HasNoHead (sym (append_assoc (take 16384 bytes) (drop 16384 bytes) more) ∙ ap (λ (l : List ℕ). l ++ more) (take-append-drop 16384 bytes)) (never (drop 16384 bytes ++ more))

not_empty : (bytes more : List ℕ) → 0 < length bytes → (bytes ++ more) ≢ []
not_empty [] more lt = λ is. omega (arith, lt)
not_empty (x ∷ xs) more lt = λ is. omega (arith, ap length is)

pub headless : (bytes : List ℕ) (left : Option (List ℕ)) → 0 < length bytes → ((more : List ℕ) → HasNoHead (bytes ++ more)) → OfTold (prepend_known bytes left) IsHeadless
headless bytes None lt none = tt
headless bytes (Some more) lt none = record { some = not_empty bytes more lt; none = none more }

pub headless_at_end : (bytes : List ℕ) (left : Option (List ℕ)) → 0 < length bytes → IsAtEnd left → HasNoHead bytes → OfTold (prepend_known bytes left) IsHeadless
headless_at_end bytes None lt end none = tt
headless_at_end bytes (Some more) lt end none = record { some = not_empty bytes more lt; none = subst HasNoHead (sym (ap (λ (l : List ℕ). bytes ++ l) end ∙ append-nil bytes)) none }

pub none_in_nothing : (bytes : List ℕ) → HasNoHead (take 0 bytes)
none_in_nothing bytes = λ h rest x. ⊎_elim (some h rest x) (some_crlf h rest x) (head_ends h)
  where
    some : (h : RequestHead) (rest : List ℕ) → IsHead [] h rest → ((front : List ℕ) × (print_request h ≡ front ++ 10 ∷ 10 ∷ [])) → ⊥
    some h rest x end = omega (arith, ap length x.reads.1, length-append (print_request h) rest, ap length end.1, length-append end.0 (10 ∷ 10 ∷ []))

    some_crlf : (h : RequestHead) (rest : List ℕ) → IsHead [] h rest → ((front : List ℕ) × (print_request h ≡ front ++ 10 ∷ 13 ∷ 10 ∷ [])) → ⊥
    some_crlf h rest x end = omega (arith, ap length x.reads.1, length-append (print_request h) rest, ap length end.1, length-append end.0 (10 ∷ 13 ∷ 10 ∷ []))

pub front_length : (bytes front : List ℕ) → front ≡ take 16384 bytes → length front ≡ min 16384 (length bytes)
front_length bytes front is = ap length is ∙ length-take 16384 bytes

-- a front that isn't full is all
pub front_whole : (bytes front : List ℕ) → front ≡ take 16384 bytes → length front < 16384 → front ≡ bytes
front_whole bytes front is lt = is ∙ take_all 16384 bytes (omega (arith, front_length bytes front is, lt))

pub seen_in_front : (bytes front : List ℕ) (seen : ℕ) → front ≡ take 16384 bytes → seen ≤ 16384 → HasNoHead (take seen bytes) → HasNoHead (take seen front)
seen_in_front bytes front seen is le none = subst HasNoHead (sym (ap (λ (l : List ℕ). take seen l) is ∙ take-take seen 16384 bytes le)) none

-- more bytes came behind a front that had no head
pub seen_on : (old new got front : List ℕ) → front ≡ take 16384 old → length front < 16384 → new ≡ old ++ got → HasNoHead front → HasNoHead (take (length front) new)
seen_on old new got front is lt grown none =
    let whole = front_whole old front is lt in
    subst HasNoHead (sym (ap (λ (l : List ℕ). take (length front) l) grown ∙ take_at old got (length front) (sym (ap length whole)) ∙ sym whole)) none

pub not_full : (front bytes : List ℕ) → length front ≢ 16384 → front ≡ take 16384 bytes → length front < 16384
not_full front bytes ne at =
    elim (cases_lt (length front) 16384) [
      | inl lt ↦ lt
      | inr ge ↦ absurd (ne (omega (arith, ge, front_length bytes front at)))
    ]

nothing : (got : List ℕ) → length got ≡ 0 → got ≡ []
nothing [] is = refl
nothing (x ∷ xs) is = absurd (suc≢0 is)
  where
    suc≢0 : suc (length xs) ≡ 0 → ⊥
    suc≢0 e = omega (arith, e)

-- the input is over, and the front that was seen is all of it
pub headless_over : (old new got front : List ℕ) (after : Option (List ℕ)) → new ≡ old ++ got → length got ≡ 0 → IsAtEnd after → 0 < length front → front ≡ old → HasNoHead front → OfTold (prepend_known new after) IsHeadless
headless_over old new got front after grown none end lt whole no_head =
    let same : new ≡ old = grown ∙ ap (λ (l : List ℕ). old ++ l) (nothing got none) ∙ append-nil old in
    subst (λ (l : List ℕ). OfTold (prepend_known l after) IsHeadless) (sym same)
    (headless_at_end old after (subst (λ (l : List ℕ). 0 < length l) whole lt) end (subst HasNoHead whole no_head))

pub positive : (n : ℕ) → n ≢ 0 → 0 < n
positive n ne =
    elim (cases_lt 0 n) [
      | inl lt ↦ lt
      | inr ge ↦ absurd (ne (omega (arith, ge)))
    ]

-- a head that wasn't in the first bytes is longer
pub longer : (bytes front : List ℕ) (seen : ℕ) (h : RequestHead) (rest : List ℕ) → front ≡ take 16384 bytes → seen < 16384 → HasNoHead (take seen bytes) → IsHead front h rest → seen < length (print_request h)
longer bytes front seen h rest is few none x = elim (cases_lt seen (length (print_request h))) [
  | inl lt ↦ lt
  | inr ge ↦ absurd (seen_in_front bytes front seen is (omega (arith, few)) none h _ (fewer front h rest seen x ge))
]

pub no_less : (k : ℕ) → k < 0 → ⊥
no_less k lt = omega (arith, lt)

pub blank_front : (bytes front : List ℕ) (n : ℕ) → front ≡ take 16384 bytes → n ≤ 16384 → IsBlank n bytes → IsBlank n front
blank_front bytes front n is le blank = λ k lt. subst IsLineEnd (sym (ap (λ (l : List ℕ). get_or l k 0) is ∙ get_or-take 16384 bytes k 0 (omega (arith, lt, le)))) (blank k lt)

pub blank_on : (old new got front : List ℕ) (n : ℕ) → front ≡ old → new ≡ old ++ got → n ≤ length front → IsBlank n front → IsBlank n new
blank_on old new got front n whole grown le blank = λ k lt. subst IsLineEnd
    (ap (λ (l : List ℕ). get_or l k 0) whole ∙ sym (get_or_append_left old got 0 k (omega (arith, lt, le, ap length whole))) ∙ ap (λ (l : List ℕ). get_or l k 0) (sym grown)) (blank k lt)

-- a line end is no byte of a method
no_token : (byte : ℕ) → IsLineEnd byte → is_token_byte byte ≡ true → ⊥
unfolding is_token_byte
no_token byte (inl is) token = false≢true (subst (λ (b : ℕ). is_token_byte b ≡ true) is token)
no_token byte (inr is) token = false≢true (subst (λ (b : ℕ). is_token_byte b ≡ true) is token)

-- line ends alone are no head
pub none_in_blank : (front : List ℕ) (n : ℕ) → n ≡ length front → IsBlank n front → HasNoHead front
none_in_blank front n all blank = λ h rest x. in_method h rest x.reads.1 h.method refl x.reads.0.method
  where
    in_method : (h : RequestHead) (rest : List ℕ) → front ≡ print_request h ++ rest → (method : List ℕ) → method ≡ h.method → IsToken h.method → ⊥
    in_method h rest is [] same token = omega (arith, token.0, ap length same)
    in_method h rest is (m ∷ ms) same token =
        let tail = 32 ∷ (h.target ++ 32 ∷ (print_version h.minor ++ (print_end h.line_end ++ (print_section h.fields h.last ++ rest)))) in
        let whole : front ≡ print_blank h.blank ++ (m ∷ (ms ++ tail)) = is ∙ print_request-append h rest ∙ ap (λ (l : List ℕ). print_blank h.blank ++ (l ++ tail)) (sym same) in
        let at = length (print_blank h.blank) in
        let byte : get_or front at 0 ≡ m = ap (λ (l : List ℕ). get_or l at 0) whole ∙ get_or_at (print_blank h.blank) m (ms ++ tail) 0 at refl in
        let first : is_token_byte m ≡ true = subst (λ (l : List ℕ). is_token_byte (get_or l 0 0) ≡ true) (sym same) (token.1 0 0 token.0) in
        no_token m (subst IsLineEnd byte (blank at (omega (arith, all, ap length whole, length-append (print_blank h.blank) (m ∷ (ms ++ tail)))))) first

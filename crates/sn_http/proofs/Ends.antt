-- How a head ends.
use Rattle.std.specs.Prelude.{◌≡◌, ℕ, ◌+◌, ◌≤◌, List, [], ◌∷◌, ◌++◌, length, take}
use Rattle.std.specs.List.{flat_map}
use Rattle.std.proofs.Common.{inl, inr, refl, sym, ◌∙◌, ap, subst, append_assoc, append-nil, arith}
use Rattle.std.proofs.lemmas.List.{take_at}
use Rattle.httparse.specs.Grammar.{LineEnd, crlf, lf, print_end, Field, print_field, RequestHead, ReadsRequest, print_request, print_version}
use Rattle.httparse.specs.Grammar.{print_blank}
use Rattle.httparse.proofs.GrammarLemmas.{cons-append}
use Rattle.std.proofs.lemmas.Bool.{cases_lt}
use Rattle.sn_http.specs.Ends.{EndsBlank}

-- a line's end stands at the end
abbrev pub EndsLine : List ℕ → Type 0
EndsLine bytes = (front : List ℕ) × (bytes ≡ front ++ 10 ∷ [])

end_ends : (e : LineEnd) → EndsLine (print_end e)
end_ends crlf = (13 ∷ [], refl)
end_ends lf = ([], refl)

behind : (front bytes : List ℕ) → EndsLine bytes → EndsLine (front ++ bytes)
behind front bytes x = (front ++ x.0, ap (λ (l : List ℕ). front ++ l) x.1 ∙ sym (append_assoc front x.0 (10 ∷ [])))

lines_end : (front : List ℕ) (fields : List Field) → EndsLine front → EndsLine (front ++ flat_map print_field fields)
lines_end front [] x = (x.0, append-nil front ∙ x.1)
lines_end front (f ∷ fs) x =
    let field : EndsLine (print_field f) = behind (f.name ++ 58 ∷ f.raw) (print_end f.end) (end_ends f.end) in
    let more = lines_end (front ++ print_field f) fs (behind front (print_field f) field) in
    (more.0, sym (append_assoc front (print_field f) (flat_map print_field fs)) ∙ more.1)

blank_behind : (front : List ℕ) (e : LineEnd) → EndsLine front → EndsBlank (front ++ print_end e)
blank_behind front lf x = inl (x.0, ap (λ (l : List ℕ). l ++ 10 ∷ []) x.1 ∙ append_assoc x.0 (10 ∷ []) (10 ∷ []))
blank_behind front crlf x = inr (x.0, ap (λ (l : List ℕ). l ++ 13 ∷ 10 ∷ []) x.1 ∙ append_assoc x.0 (10 ∷ []) (13 ∷ 10 ∷ []))

regroup : (a b c d e f g : List ℕ) → ((a ++ b ++ 32 ∷ c ++ 32 ∷ d) ++ e ++ f) ++ g ≡ a ++ b ++ 32 ∷ c ++ 32 ∷ d ++ e ++ (f ++ g)
regroup a b c d e f g = simp (append_assoc, cons-append)

-- each head ends in an empty line, behind another line's end
pub head_ends : (h : RequestHead) → EndsBlank (print_request h)
unfolding print_request
head_ends h =
    let line = print_blank h.blank ++ h.method ++ 32 ∷ h.target ++ 32 ∷ print_version h.minor in
    let started : EndsLine (line ++ print_end h.line_end) = behind line (print_end h.line_end) (end_ends h.line_end) in
    subst EndsBlank (regroup (print_blank h.blank) h.method h.target (print_version h.minor) (print_end h.line_end) (flat_map print_field h.fields) (print_end h.last))
    (blank_behind (line ++ print_end h.line_end ++ flat_map print_field h.fields) h.last (lines_end (line ++ print_end h.line_end) h.fields started))

-- no head ends behind the first of these counts of bytes and within the second
abbrev pub NoneEnds : ℕ → ℕ → List ℕ → Type 0
NoneEnds seen at bytes = (head : RequestHead) (rest : List ℕ) → ReadsRequest bytes head rest → length (print_request head) ≤ at → length (print_request head) ≤ seen

-- no head ends where no empty line does
pub none_ends_on : (bytes : List ℕ) (seen at : ℕ) → NoneEnds seen at bytes → ¬ (EndsBlank (take (at + 1) bytes)) → NoneEnds seen (at + 1) bytes
none_ends_on bytes seen at none unended = λ h rest x le. elim (cases_lt at (length (print_request h))) [
  | inl lt ↦ let same : length (print_request h) ≡ at + 1 = omega (arith, lt, le) in
      absurd (unended (subst EndsBlank (sym (ap (λ (l : List ℕ). take (at + 1) l) x.1 ∙ take_at (print_request h) rest (at + 1) same)) (head_ends h)))
  | inr ge ↦ none h rest x ge
]

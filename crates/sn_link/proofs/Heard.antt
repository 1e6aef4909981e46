-- What is heard of an answer that was written: its status and its body, and what that says.
use Rattle.std.specs.Prelude.{◌≡◌, ℕ, zero, suc, ◌==◌, ◌^◌, ◌<◌, ◌≤◌, Bool, true, false, List, [], ◌∷◌, ◌++◌, length, codes, decimal, Option, None, Some, Result, Ok, Err, ◌⊎◌, if◌then◌else◌}
use Rattle.std.specs.List.{list_all}
use Rattle.std.specs.Char.{is_ascii_digit}
use Rattle.std.proofs.Common.{inl, inr, refl, sym, ◌∙◌, ap, subst, arith, append_assoc, length-append}
use Rattle.std.proofs.lemmas.Bool.{cases_lt, le-leb, lt-leb}
use Rattle.std.proofs.lemmas.Fmt.{decimal_is_IsNumeral, length-decimal-le}
use Rattle.std.proofs.lemmas.Int.Digits.{digits_value-lt}
use Rattle.std.proofs.lemmas.List.Sums.{AllPass-from_list_all}
use Rattle.httparse.specs.Grammar.{crlf, ResponseHead, IsResponseHead, ReadsResponse, print_response, is_value_byte, status_code}
use Rattle.httparse.proofs.GrammarLemmas.{cons-append, print_response-append, response_unique}
use Rattle.sn_http.specs.Fields.{Fields, fields_of, first_of, values_of}
use Rattle.sn_http.specs.Framing.{bounded, said_by}
use Rattle.sn_http.specs.Lines.{section}
use Rattle.sn_http.specs.Answers.{phrase, status_line, answer, answer_head, answer_size, IsAnswer}
use Rattle.sn_http.proofs.Facts.{all_written, answer_with, answer_written, digits_ascii, fields_valid, lines_same}

abbrev the_size : Result ℕ ℕ → ℕ
the_size (Ok n) = n
the_size (Err n) = 0

abbrev the_response : ℕ → Fields → ResponseHead
the_response status fields = record { blank = []; minor = 1; digits = decimal status; reason = Some (phrase status); line_end = crlf; fields = all_written fields; last = crlf }

response_printed : (status : ℕ) (fields : Fields) (body : List ℕ) → (status_line status ++ section fields) ++ body ≡ print_response (the_response status fields) ++ body
response_printed status fields body =
    regroup (codes "HTTP/1.1") (decimal status) (phrase status) (codes "\r\n") (section fields) body
    ∙ ap (λ (l : List ℕ). codes "HTTP/1.1" ++ 32 ∷ (decimal status ++ (32 ∷ phrase status ++ (codes "\r\n" ++ ((l ++ codes "\r\n") ++ body))))) (sym (lines_same fields))
    ∙ sym (print_response-append (the_response status fields) body)
  where
    regroup : (v d p e f r : List ℕ) → ((v ++ 32 ∷ (d ++ (32 ∷ [] ++ (p ++ e)))) ++ f) ++ r ≡ v ++ 32 ∷ (d ++ ((32 ∷ p) ++ (e ++ (f ++ r))))
    regroup v d p e f r = simp (append_assoc, cons-append)

passes_if : (b : Bool) (x y : List ℕ) → list_all is_value_byte x ≡ true → list_all is_value_byte y ≡ true → list_all is_value_byte (if b then x else y) ≡ true
passes_if true x y p q = p
passes_if false x y p q = q

phrase_passes : (status : ℕ) → list_all is_value_byte (phrase status) ≡ true
phrase_passes status =
    passes_if (status == 200) (codes "OK") _ refl
    (passes_if (status == 400) (codes "Bad Request") _ refl
    (passes_if (status == 401) (codes "Unauthorized") _ refl
    (passes_if (status == 404) (codes "Not Found") _ refl
    (passes_if (status == 405) (codes "Method Not Allowed") _ refl
    (passes_if (status == 409) (codes "Conflict") _ refl
    (passes_if (status == 411) (codes "Length Required") _ refl
    (passes_if (status == 413) (codes "Content Too Large") _ refl
    (passes_if (status == 501) (codes "Not Implemented") _ refl
    (passes_if (status == 503) (codes "Service Unavailable") _ refl refl)))))))))

-- from 100 to 999 a number has three digits
three_digits : (status : ℕ) → 100 ≤ status → status ≤ 999 → length (decimal status) ≡ 3
three_digits status low high =
    let fits : status < 2 ^ 64 = omega (arith, high) in
    let numeral = decimal_is_IsNumeral status fits in
    let most = length-decimal-le 3 status (omega arith) (omega (arith, high)) fits in
    let value : status < 10 ^ length (decimal status) = subst (λ (n : ℕ). n < 10 ^ length (decimal status)) numeral.1 (digits_value-lt 10 (decimal status) numeral.0.1) in
    exact (length (decimal status)) most value
  where
    exact : (n : ℕ) → n ≤ 3 → status < 10 ^ n → n ≡ 3
    exact zero le lt = omega (arith, low, lt)
    exact (suc zero) le lt = omega (arith, low, lt)
    exact (suc (suc zero)) le lt = omega (arith, low, lt)
    exact (suc (suc (suc n))) le lt = omega (arith, le)

size_bounded : (most : ℕ) (said : Option ℕ) (n : ℕ) → bounded most said ≡ Ok n → n ≤ most
size_bounded most None n is = absurd (let impossible : ⊥ = cc in impossible)
size_bounded most (Some size) n is = told (cases_lt most size)
  where
    told : (most < size) ⊎ (size ≤ most) → n ≤ most
    told (inr le) =
        let same : the_size (Ok size) ≡ the_size (Ok n) = ap the_size (sym (ap (λ (b : Bool). if b then Ok size else Err 413) (le-leb size most le)) ∙ is) in
        omega (arith, le, same)
    told (inl lt) = absurd (let same : Err 413 ≡ Ok n = ap (λ (b : Bool). if b then Ok size else Err 413) (sym (lt-leb size most lt)) ∙ is in let impossible : ⊥ = cc in impossible)

-- the body of an answer that is read is within its bound
heard_short : (bytes : List ℕ) (status : ℕ) (body : List ℕ) → IsAnswer bytes status body → length body ≤ 33554432
unfolding answer_size
heard_short bytes status body x =
    let sizes = values_of (codes "content-length") (fields_of x.head.fields) in
    size_bounded 33554432 (said_by sizes (first_of sizes)) (length body) x.sized

-- what was read of an answer that was written is its status and its body, however long that is
pub heard_is : (status : ℕ) (closing : Bool) (body : List ℕ) (other : ℕ) (text : List ℕ) → 100 ≤ status → status ≤ 999
    → IsAnswer (answer status [] closing body) other text → (other ≡ status) × (text ≡ body)
heard_is status closing body other text low high x =
    let unauthorized = status == 401 in
    let size = length body in
    let split = ap length x.begins.reads.1 in
    let fits : size < 2 ^ 64 = omega (arith, split, length-append (answer_head status [] closing size) body, length-append (print_response x.head) text, x.begins.short, heard_short _ other text x) in
    let small : status < 2 ^ 64 = omega (arith, high) in
    let numeral = decimal_is_IsNumeral status small in
    let fields = answer_with size [] unauthorized closing in
    let head = the_response status fields in
    let whole = answer_written size [] unauthorized closing refl fits in
    let printed = response_printed status fields body in
    let valid : IsResponseHead head = record {
      minor = omega arith;
      digits = (three_digits status low high, AllPass-from_list_all is_ascii_digit (decimal status) (digits_ascii (decimal status) numeral.0.1));
      reason = AllPass-from_list_all is_value_byte (phrase status) (phrase_passes status);
      fields = fields_valid fields whole;
    } in
    let reads : ReadsResponse (answer status [] closing body) head body = (valid, printed) in
    let same = response_unique (answer status [] closing body) head x.head body text reads x.begins.reads in
    (x.status_is ∙ ap status_code (sym same.0) ∙ numeral.1, sym same.1)

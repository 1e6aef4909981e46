-- What is written is read back.
use Rattle.std.specs.Prelude.{◌≡◌, ℕ, zero, suc, ◌==◌, ◌^◌, ◌<◌, ◌≤◌, Bool, true, false, List, [], ◌∷◌, ◌++◌, length, codes, decimal, Some, Ok, if◌then◌else◌}
use Rattle.std.specs.List.{list_all}
use Rattle.std.specs.Str.{bytes_eq}
use Rattle.std.specs.Char.{is_ascii_digit}
use Rattle.std.proofs.Common.{refl, sym, ◌∙◌, ap, subst, arith, append_assoc, length-append}
use Rattle.std.proofs.lemmas.Fmt.{decimal_is_IsNumeral, length-decimal-le}
use Rattle.std.proofs.lemmas.Int.Digits.{digits_value-lt}
use Rattle.std.proofs.lemmas.List.Sums.{AllPass-from_list_all, list_all-from_AllPass}
use Rattle.httparse.specs.Grammar.{crlf, RequestHead, IsRequestHead, print_request, ResponseHead, IsResponseHead, print_response, is_value_byte}
use Rattle.httparse.proofs.GrammarLemmas.{cons-append, print_request-append, print_response-append}
use Rattle.sn_http.specs.Fields.{Fields}
use Rattle.sn_http.specs.Framing.{framing}
use Rattle.sn_http.specs.Options.{is_visible, token_of, closes}
use Rattle.sn_http.specs.Heads.{IsHead}
use Rattle.sn_http.specs.Lines.{section}
use Rattle.sn_http.specs.Requests.{request_line, request}
use Rattle.sn_http.specs.Answers.{phrase, status_line, answer_size}
use Rattle.sn_http.specs.Laws.{RequestReadsBack, AnswerReadsBack}
use Rattle.sn_http.proofs.Trims.{all_written, fields_back, fields_valid, lines_same, digits_ascii}
use Rattle.sn_http.proofs.WrittenFields.{request_with, request_written, request_count, framing_is, token_is, closing_is, answer_with, answer_written, answer_count, answer_size_is}

abbrev the_request : List ℕ → List ℕ → Fields → RequestHead
the_request method target fields = record { blank = []; method = method; target = target; minor = 1; line_end = crlf; fields = all_written fields; last = crlf }

abbrev the_response : ℕ → Fields → ResponseHead
the_response status fields = record { blank = []; minor = 1; digits = decimal status; reason = Some (phrase status); line_end = crlf; fields = all_written fields; last = crlf }

request_printed : (method target : List ℕ) (fields : Fields) (body : List ℕ) → (request_line method target ++ section fields) ++ body ≡ print_request (the_request method target fields) ++ body
request_printed method target fields body =
    regroup method target (codes "HTTP/1.1") (codes "\r\n") (section fields) body
    ∙ ap (λ (l : List ℕ). method ++ 32 ∷ (target ++ 32 ∷ (codes "HTTP/1.1" ++ (codes "\r\n" ++ ((l ++ codes "\r\n") ++ body))))) (sym (lines_same fields))
    ∙ sym (print_request-append (the_request method target fields) body)
  where
    regroup : (m t v e f r : List ℕ) → ((m ++ (32 ∷ [] ++ (t ++ 32 ∷ (v ++ e)))) ++ f) ++ r ≡ m ++ 32 ∷ (t ++ 32 ∷ (v ++ (e ++ (f ++ r))))
    regroup m t v e f r = simp (append_assoc, cons-append)

response_printed : (status : ℕ) (fields : Fields) (body : List ℕ) → (status_line status ++ section fields) ++ body ≡ print_response (the_response status fields) ++ body
response_printed status fields body =
    regroup (codes "HTTP/1.1") (decimal status) (phrase status) (codes "\r\n") (section fields) body
    ∙ ap (λ (l : List ℕ). codes "HTTP/1.1" ++ 32 ∷ (decimal status ++ (32 ∷ phrase status ++ (codes "\r\n" ++ ((l ++ codes "\r\n") ++ body))))) (sym (lines_same fields))
    ∙ sym (print_response-append (the_response status fields) body)
  where
    regroup : (v d p e f r : List ℕ) → ((v ++ 32 ∷ (d ++ (32 ∷ [] ++ (p ++ e)))) ++ f) ++ r ≡ v ++ 32 ∷ (d ++ ((32 ∷ p) ++ (e ++ (f ++ r))))
    regroup v d p e f r = simp (append_assoc, cons-append)

same_length : (a b body : List ℕ) → a ++ body ≡ b ++ body → length b ≡ length a
same_length a b body is = omega (arith, ap length is, length-append a body, length-append b body)

count_written : (fields : Fields) → length (all_written fields) ≡ length fields
count_written [] = refl
count_written (field ∷ fields) = omega (arith, count_written fields)

pub request_reads_back : RequestReadsBack
request_reads_back method target host token body message x y =
    let post = bytes_eq method (codes "POST") in
    let size = length body in
    let fits : size < 2 ^ 64 = omega (arith, x.body_short) in
    let fields = request_with host post token size in
    let head = the_request method target fields in
    let whole = request_written host post token size (list_all-from_AllPass is_visible host x.host_form) x.token_form fits in
    let back = fields_back fields whole in
    let printed = request_printed method target fields body in
    let len = same_length (request_line method target ++ section fields) (print_request head) body printed in
    let valid : IsRequestHead head = record { method = x.method_form; target = x.target_form; target_text = x.target_text; minor = omega arith; fields = fields_valid fields whole } in
    let begins : IsHead (request method target host token body) head body = record {
      reads = (valid, printed);
      few = omega (arith, count_written fields, request_count host post token size);
      short = omega (arith, len, x.head_short);
    } in
    record {
      head = head;
      begins = subst (λ (l : List ℕ). IsHead (request method target host token body) head l) (sym y.body_is) begins;
      framed = ap (λ (l : Fields). framing method l) back ∙ framing_is method host post token size x.body_short ∙ ap Ok (sym (ap length y.body_is));
      method = y.method_is;
      target = y.target_is;
      token = y.token_is ∙ sym (ap token_of back ∙ token_is host post token size x.token_form);
      closing = y.closes ∙ sym (ap (λ (l : Fields). closes 1 l) back ∙ closing_is host post token size);
    }

passes_if : (b : Bool) (x y : List ℕ) → list_all is_value_byte x ≡ true → list_all is_value_byte y ≡ true → list_all is_value_byte (if b then x else y) ≡ true
passes_if true x y p q = p
passes_if false x y p q = q

phrase_passes : (status : ℕ) → list_all is_value_byte (phrase status) ≡ true
phrase_passes status =
    passes_if (status == 200) (codes "OK") _ refl
    (passes_if (status == 400) (codes "Bad Request") _ refl
    (passes_if (status == 401) (codes "Unauthorized") _ refl
    (passes_if (status == 404) (codes "Not Found") _ refl
    (passes_if (status == 405) (codes "Method Not Allowed") _ refl
    (passes_if (status == 409) (codes "Conflict") _ refl
    (passes_if (status == 411) (codes "Length Required") _ refl
    (passes_if (status == 413) (codes "Content Too Large") _ refl
    (passes_if (status == 501) (codes "Not Implemented") _ refl
    (passes_if (status == 503) (codes "Service Unavailable") _ refl refl)))))))))

-- from 100 to 999 a number has three digits
three_digits : (status : ℕ) → 100 ≤ status → status ≤ 999 → length (decimal status) ≡ 3
three_digits status low high =
    let fits : status < 2 ^ 64 = omega (arith, high) in
    let numeral = decimal_is_IsNumeral status fits in
    let most = length-decimal-le 3 status (omega arith) (omega (arith, high)) fits in
    let value : status < 10 ^ length (decimal status) = subst (λ (n : ℕ). n < 10 ^ length (decimal status)) numeral.1 (digits_value-lt 10 (decimal status) numeral.0.1) in
    exact (length (decimal status)) most value
  where
    exact : (n : ℕ) → n ≤ 3 → status < 10 ^ n → n ≡ 3
    exact zero le lt = omega (arith, low, lt)
    exact (suc zero) le lt = omega (arith, low, lt)
    exact (suc (suc zero)) le lt = omega (arith, low, lt)
    exact (suc (suc (suc n))) le lt = omega (arith, le)

pub answer_reads_back : AnswerReadsBack
answer_reads_back status allow closing body low high visible head_short body_short =
    let unauthorized = status == 401 in
    let size = length body in
    let fits : size < 2 ^ 64 = omega (arith, body_short) in
    let small : status < 2 ^ 64 = omega (arith, high) in
    let numeral = decimal_is_IsNumeral status small in
    let fields = answer_with size allow unauthorized closing in
    let head = the_response status fields in
    let whole = answer_written size allow unauthorized closing (list_all-from_AllPass is_visible allow visible) fits in
    let back = fields_back fields whole in
    let printed = response_printed status fields body in
    let len = same_length (status_line status ++ section fields) (print_response head) body printed in
    let valid : IsResponseHead head = record {
      minor = omega arith;
      digits = (three_digits status low high, AllPass-from_list_all is_ascii_digit (decimal status) (digits_ascii (decimal status) numeral.0.1));
      reason = AllPass-from_list_all is_value_byte (phrase status) (phrase_passes status);
      fields = fields_valid fields whole;
    } in
    record {
      head = head;
      begins = record {
        reads = (valid, printed);
        few = omega (arith, count_written fields, answer_count size allow unauthorized closing);
        short = omega (arith, len, head_short);
      };
      status_is = sym numeral.1;
      sized = ap answer_size back ∙ answer_size_is size allow unauthorized closing body_short;
    }

-- The one answer that some bytes are.
use Rattle.std.specs.Prelude.{◌≡◌, ◌≢◌, ℕ, ◌-◌, ◌≤◌, List, ◌++◌, length, take, drop, Ok, Err}
use Rattle.std.proofs.Common.{sym, ◌∙◌, ap, subst, arith, length-append, length-drop}
use Rattle.std.proofs.lemmas.List.{take-append-drop, drop-append-le}
use Rattle.httparse.specs.Grammar.{ResponseHead, print_response}
use Rattle.httparse.proofs.GrammarLemmas.{ReadsResponse-append, response_unique}
use Rattle.sn_http.specs.Fields.{fields_of}
use Rattle.sn_http.specs.Answers.{IsAnswerHead, IsAnswer, answer_size}
use Rattle.sn_http.specs.AnswerHeads.{IsAnswerHeadAt, HasNoAnswerHead}
use Rattle.sn_http.specs.declared.answer_head.AnswerHead.{AnswerHead}
use Rattle.sn_http.proofs.Finding.{take-append-more}
use Rattle.sn_http.proofs.Unique.{ok_inj, not_both}

answer_more : (bytes more : List ℕ) (found : AnswerHead) → IsAnswerHeadAt bytes found → IsAnswerHeadAt (bytes ++ more) found
answer_more bytes more found x = record {
  head = x.head;
  begins = subst (IsAnswerHead (bytes ++ more) x.head) (sym (drop-append-le found.len bytes more x.fits))
      (record { reads = ReadsResponse-append bytes x.head (drop found.len bytes) more x.begins.reads; few = x.begins.few; short = x.begins.short });
  len = x.len;
  fits = omega (arith, x.fits, length-append bytes more);
  status = x.status;
  size = x.size;
}

pub answer_whole : (bytes : List ℕ) (found : AnswerHead) (k : ℕ) → IsAnswerHeadAt (take k bytes) found → IsAnswerHeadAt bytes found
answer_whole bytes found k x = subst (λ (l : List ℕ). IsAnswerHeadAt l found) (take-append-drop k bytes) (answer_more (take k bytes) (drop k bytes) found x)

pub is_answer : (bytes : List ℕ) (found : AnswerHead) (size : ℕ) → IsAnswerHeadAt bytes found → found.size ≡ Ok size → size ≡ length bytes - found.len → IsAnswer bytes found.status (drop found.len bytes)
is_answer bytes found size x is same = record {
  head = x.head;
  begins = x.begins;
  status_is = x.status;
  sized = sym x.size ∙ is ∙ ap Ok (same ∙ sym (length-drop found.len bytes));
}

-- an answer has the head that was found, and the bytes behind it
found_size : (bytes : List ℕ) (found : AnswerHead) (status : ℕ) (body : List ℕ) → IsAnswerHeadAt bytes found → IsAnswer bytes status body → found.size ≡ Ok (length bytes - found.len)
found_size bytes found status body x y =
    let same = response_unique bytes x.head y.head (drop found.len bytes) body x.begins.reads y.begins.reads in
    x.size ∙ ap (λ (h : ResponseHead). answer_size (fields_of h.fields)) same.0 ∙ y.sized ∙ ap Ok (ap length (sym same.1) ∙ length-drop found.len bytes)

pub no_answer : (bytes : List ℕ) (found : AnswerHead) (status : ℕ) (body : List ℕ) (error : ℕ) → IsAnswerHeadAt bytes found → found.size ≡ Err error → IsAnswer bytes status body → ⊥
no_answer bytes found status body error x is y = not_both (sym (found_size bytes found status body x y) ∙ is)

pub other_size : (bytes : List ℕ) (found : AnswerHead) (status : ℕ) (body : List ℕ) (size : ℕ) → IsAnswerHeadAt bytes found → found.size ≡ Ok size → size ≢ length bytes - found.len → IsAnswer bytes status body → ⊥
other_size bytes found status body size x is other y = other (ok_inj (sym is ∙ found_size bytes found status body x y))

pub no_head : (bytes : List ℕ) (status : ℕ) (body : List ℕ) → HasNoAnswerHead (take 16384 bytes) → IsAnswer bytes status body → ⊥
no_head bytes status body none y =
    let le : length (print_response y.head) ≤ 16384 = y.begins.short in
    none y.head (take (16384 - length (print_response y.head)) body) (record {
      reads = (y.begins.reads.0, ap (λ (l : List ℕ). take 16384 l) y.begins.reads.1 ∙ take-append-more (print_response y.head) body 16384 le);
      few = y.begins.few;
      short = y.begins.short;
    })

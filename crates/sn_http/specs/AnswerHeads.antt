-- The head of an answer that was found at the front of some bytes.
use Rattle.std.specs.Prelude.{◌≡◌, ℕ, ◌≤◌, List, drop, length}
use Rattle.httparse.specs.Grammar.{ResponseHead, print_response, status_code}
use Rattle.sn_http.specs.Fields.{fields_of}
use Rattle.sn_http.specs.Answers.{IsAnswerHead, answer_size}
use Rattle.sn_http.specs.declared.answer_head.AnswerHead.{AnswerHead}

pub record IsAnswerHeadAt (bytes : List ℕ) (found : AnswerHead) : Type 0 where
  pub head : ResponseHead
  pub begins : IsAnswerHead bytes head (drop found.len bytes)
  pub len : found.len ≡ length (print_response head)
  pub fits : found.len ≤ length bytes
  pub status : found.status ≡ status_code head
  pub size : found.size ≡ answer_size (fields_of head.fields)

-- the bytes begin with no head within the bounds
abbrev pub HasNoAnswerHead : List ℕ → Type 0
HasNoAnswerHead bytes = (head : ResponseHead) (rest : List ℕ) → ¬ (IsAnswerHead bytes head rest)

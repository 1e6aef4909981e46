use Rattle.std.proofs.Common.{◌-◌, List, ℕ, drop, length, subst, sym, arith, length-drop}
use Rattle.std.proofs.lemmas.List.{take_all}
use Rattle.sn_http.specs.Answers.{IsAnswer}
use Rattle.sn_http.specs.AnswerHeads.{IsAnswerHeadAt, HasNoAnswerHead}
use Rattle.sn_http.proofs.Answering.{answer_whole, is_answer, no_answer, other_size, no_head}
use Rattle.sn_http.proofs.answer.read_answer.Goals as goal

pub returns-in_default-clause-err : goal.returns-in_default-clause-err
returns-in_default-clause-err c = λ status body y.
    no_head c.args.bytes.now status body (subst (λ (l : List ℕ). HasNoAnswerHead l) c.first_bytes.ensures.is c.in_default.ensures.none) y

pub returns-in_default-size-clause-err : goal.returns-in_default-size-clause-err
returns-in_default-size-clause-err c = λ status body y.
    let x = answer_whole c.args.bytes.now c.in-Some.head 16384 (subst (λ (l : List ℕ). IsAnswerHeadAt l c.in-Some.head) c.first_bytes.ensures.is c.in-Some.ensures.some) in
    no_answer c.args.bytes.now c.in-Some.head status body _ x c.in_default-size.is y

pub returns-then-size-bytes-clause-err : goal.returns-then-size-bytes-clause-err
returns-then-size-bytes-clause-err c = λ status body y.
    let x = answer_whole c.args.bytes.now c.in-Some.head 16384 (subst (λ (l : List ℕ). IsAnswerHeadAt l c.in-Some.head) c.first_bytes.ensures.is c.in-Some.ensures.some) in
    other_size c.args.bytes.now c.in-Some.head status body c.in-Ok.size x c.in-Ok.is c.if-size-bytes.true y

pub returns-clause-ok : goal.returns-clause-ok
returns-clause-ok c =
    let bytes = c.args.bytes.now in
    let len = c.in-Some.head.len in
    let x = answer_whole bytes c.in-Some.head 16384 (subst (λ (l : List ℕ). IsAnswerHeadAt l c.in-Some.head) c.first_bytes.ensures.is c.in-Some.ensures.some) in
    subst (λ (l : List ℕ). IsAnswer bytes c.in-Some.head.status l) (sym (take_all (length bytes - len) (drop len bytes) (omega (arith, length-drop len bytes))))
    (is_answer bytes c.in-Some.head c.in-Ok.size x c.in-Ok.is c.if-size-bytes.false)

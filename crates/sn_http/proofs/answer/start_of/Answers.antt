use Rattle.std.proofs.Common.{List, ℕ, ◌++◌, codes, decimal, sym, ap, ◌∙◌, append-nil}
use Rattle.sn_http.specs.Lines.{line}
use Rattle.sn_http.specs.Answers.{status_line}
use Rattle.sn_http.proofs.Writing.{pushed}
use Rattle.sn_http.proofs.answer.start_of.Goals as goal

pub returns : goal.returns
returns c =
    let start = status_line c.args.status in
    let type = line (codes "Content-Type", codes "application/json") in
    let size = line (codes "Content-Length", c.as_bytes.result.now) in
    pushed c.status_line-block.result c.push_line.new.self c.push_line-2.new.self type size c.push_line.ensures c.push_line-2.ensures
    ∙ ap (λ (l : List ℕ). l ++ (type ++ size)) c.status_line-block.ensures.is
    ∙ ap (λ (l : List ℕ). start ++ (type ++ line (codes "Content-Length", l))) (c.as_bytes.ensures.value ∙ c.format.ensures.text)
    ∙ ap (λ (l : List ℕ). start ++ (type ++ l)) (sym (append-nil (line (codes "Content-Length", decimal c.args.size))))

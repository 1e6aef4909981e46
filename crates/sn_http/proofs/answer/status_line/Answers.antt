use Rattle.std.proofs.Common.{List, ℕ, ◌++◌, codes, decimal, ap, ◌∙◌}
use Rattle.sn_http.proofs.Writing.{pushed}
use Rattle.sn_http.proofs.answer.status_line.Goals as goal

pub returns-clause-is : goal.returns-clause-is
returns-clause-is c =
    let zero = c.new-block.result in
    let one = c.push.new.self in
    let two = c.push-2.new.self in
    let three = c.push-3.new.self in
    let four = c.push-4.new.self in
    let five = c.push-5.new.self in
    let digits = c.as_bytes.result.now in
    let reason = c.as_bytes-2.result.now in
    let end = codes "\r\n" in
    let e = pushed three four five reason end c.push-4.ensures c.push-5.ensures in
    let d = pushed two three five (codes " ") (reason ++ end) c.push-3.ensures e in
    let b = pushed one two five digits (codes " " ++ (reason ++ end)) c.push-2.ensures d in
    let a = pushed zero one five (codes "HTTP/1.1 ") (digits ++ (codes " " ++ (reason ++ end))) c.push.ensures b in
    a ∙ ap (λ (l : List ℕ). l ++ (codes "HTTP/1.1 " ++ (digits ++ (codes " " ++ (reason ++ end))))) c.new-block.ensures
    ∙ ap (λ (l : List ℕ). codes "HTTP/1.1 " ++ (l ++ (codes " " ++ (reason ++ end)))) (c.as_bytes.ensures.value ∙ c.format.ensures.text)
    ∙ ap (λ (l : List ℕ). codes "HTTP/1.1 " ++ (decimal c.args.status ++ (codes " " ++ (l ++ end)))) (c.as_bytes-2.ensures.value ∙ c.phrase.ensures.is)

use Rattle.std.proofs.Common.{List, ℕ, ◌++◌, codes, ap, ◌∙◌}
use Rattle.sn_http.proofs.Writing.{pushed}
use Rattle.sn_http.proofs.request.push_request_line.Goals as goal

pub returns : goal.returns
returns c =
    let start = c.args.out.now.items in
    let one = c.extend_from_slice.new.self.items in
    let two = c.extend_from_slice-2.new.self.items in
    let three = c.extend_from_slice-3.new.self.items in
    let four = c.extend_from_slice-4.new.self.items in
    let end = codes " HTTP/1.1\r\n" in
    let last = pushed two three four c.as_bytes-2.result.now end c.in_ok-extend_from_slice-3.ensures.items c.in_ok-extend_from_slice-4.ensures.items in
    let later = pushed one two four (codes " ") (c.as_bytes-2.result.now ++ end) c.in_ok-extend_from_slice-2.ensures.items last in
    pushed start one four c.as_bytes.result.now (codes " " ++ (c.as_bytes-2.result.now ++ end)) c.in_ok-extend_from_slice.ensures.items later
    ∙ ap (λ (l : List ℕ). start ++ (l ++ (codes " " ++ (c.as_bytes-2.result.now ++ end)))) c.as_bytes.ensures.value
    ∙ ap (λ (l : List ℕ). start ++ (c.args.method.now ++ (codes " " ++ (l ++ end)))) c.as_bytes-2.ensures.value

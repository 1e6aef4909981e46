use Rattle.std.proofs.Common.{List, ℕ, ◌++◌, codes, length, ap, ◌∙◌}
use Rattle.std.specs.List.{flat_map}
use Rattle.std.specs.Str.{bytes_eq}
use Rattle.sn_http.specs.Lines.{line, content_type, content_length, only_if}
use Rattle.sn_http.specs.Requests.{credentials, request_line}
use Rattle.sn_http.proofs.Writing.{pushed, request_pieces}
use Rattle.sn_http.proofs.request.write_request.Goals as goal

pub returns : goal.returns
returns c =
    let start = request_line c.args.method.now c.args.target.now in
    let host = line (codes "Host", c.as_bytes.result.now) in
    let type = flat_map line (only_if (bytes_eq c.args.method.now (codes "POST")) content_type) in
    let token = flat_map line (credentials c.args.token.now) in
    let size = flat_map line (content_length (length c.args.body.now)) in
    let close = line (codes "Connection", codes "close") in
    let end = codes "\r\n" in
    let body = c.args.body.now in
    let zero = c.new-out.result.items in
    let one = c.push_request_line.new.out.items in
    let two = c.push_line.new.out.items in
    let three = c.push_type.new.out.items in
    let four = c.push_credentials.new.out.items in
    let five = c.push_length.new.out.items in
    let six = c.push_line-2.new.out.items in
    let seven = c.extend_from_slice.new.self.items in
    let all = c.extend_from_slice-2.new.self.items in
    let h = pushed six seven all end body c.in_ok-extend_from_slice.ensures.items c.in_ok-extend_from_slice-2.ensures.items in
    let g = pushed five six all close (end ++ body) c.in_ok-push_line-2.ensures h in
    let f = pushed four five all size (close ++ (end ++ body)) c.in_ok-push_length.ensures g in
    let e = pushed three four all token (size ++ (close ++ (end ++ body))) c.in_ok-push_credentials.ensures f in
    let d = pushed two three all type (token ++ (size ++ (close ++ (end ++ body)))) c.in_ok-push_type.ensures e in
    let b = pushed one two all host (type ++ (token ++ (size ++ (close ++ (end ++ body))))) c.in_ok-push_line.ensures d in
    let a = pushed zero one all start (host ++ (type ++ (token ++ (size ++ (close ++ (end ++ body)))))) c.in_ok-push_request_line.ensures b in
    a ∙ ap (λ (l : List ℕ). l ++ (start ++ (host ++ (type ++ (token ++ (size ++ (close ++ (end ++ body)))))))) c.new-out.ensures.items
    ∙ ap (λ (l : List ℕ). start ++ (line (codes "Host", l) ++ (type ++ (token ++ (size ++ (close ++ (end ++ body))))))) c.as_bytes.ensures.value
    ∙ request_pieces c.args.method.now c.args.target.now c.args.host.now c.args.token.now body (bytes_eq c.args.method.now (codes "POST"))

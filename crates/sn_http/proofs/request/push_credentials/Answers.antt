use Rattle.std.proofs.Common.{◌<◌, List, ℕ, ◌++◌, codes, length, sym, ap, ◌∙◌, arith}
use Rattle.sn_http.proofs.Writing.{pushed, credentials_line}
use Rattle.sn_http.proofs.request.push_credentials.Goals as goal

pub returns : goal.returns
returns c =
    let some : 0 < length c.args.token.now = grind arith in
    let start = c.args.out.now.items in
    let one = c.extend_from_slice.new.self.items in
    let two = c.extend_from_slice-2.new.self.items in
    let three = c.extend_from_slice-3.new.self.items in
    let last = pushed one two three c.args.token.now (codes "\r\n") c.in_ok-extend_from_slice-2.ensures.items c.in_ok-extend_from_slice-3.ensures.items in
    pushed start one three (codes "Authorization: Bearer ") (c.args.token.now ++ codes "\r\n") c.in_ok-extend_from_slice.ensures.items last
    ∙ ap (λ (l : List ℕ). start ++ l) (sym (credentials_line c.args.token.now some))

use Rattle.std.proofs.Common.{rules, ◌≡◌, ◌↔◌, ap, IsTrue}
use Rattle.sn_string.specs.Lent.{lent_params}
use Rattle.sn_string.specs.declared.params.Params.{Params}
use Rattle.sn_string.proofs.Unique.{same_params}
use Rattle.sn_string.proofs.lent.LentParams.are.Goals as goal

pub returns-then-eq : goal.returns-then-eq
returns-then-eq c =
    let p : Params = lent_params c.args.self.now in
    let q : Params = c.args.params.now in
    let cost : p.pw_cost ≡ q.pw_cost = search rules in
    let identifier : p.identifier ≡ q.identifier = search rules in
    let test : IsTrue c.eq-then-eq.result ↔ (p.pw_nonce ≡ q.pw_nonce) = search rules in
    (λ holds. same_params p q identifier cost (test.0 holds), λ same. test.1 (ap (λ (r : Params). r.pw_nonce) same))

use Rattle.std.proofs.Common.{ℕ, ◌∙◌, ap, take}
use Rattle.std.proofs.lemmas.List.{take_min}
use Rattle.sn_http.proofs.carry.first_bytes.Goals as goal

pub returns-clause-is : goal.returns-clause-is
returns-clause-is c = ap (λ (n : ℕ). take n c.args.bytes.now) c.min.ensures ∙ take_min 16384 c.args.bytes.now

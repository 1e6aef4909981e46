use Rattle.std.proofs.Common.{inr}
use Rattle.sn_joining.specs.Signing.{RefusesKeys}
use Rattle.sn_joining.proofs.KeyLemmas.{refused_for}
use Rattle.sn_joining.proofs.signing.ask_keys.Goals as goal

pub returns-in_err-check_params-clause-err : goal.returns-in_err-check_params-clause-err
returns-in_err-check_params-clause-err g c =
    refused_for c.from_residual-in_err-check_params.result c.in_err-check_params.field-0.0
    (RefusesKeys (g.L.Link.asks c.args.link.now c.ask_params.new.link) (g.L.Link.aimed c.args.link.now) c.args.least c.args.identifier.now)
    c.from_residual-in_err-check_params.ensures.1 (inr (c.in_ok-params.params, c.in_ok-params.ensures.gives, c.in_err-check_params.ensures.err))

pub returns-in-Ok-clause-keys : goal.returns-in-Ok-clause-keys
returns-in-Ok-clause-keys g c = record {
  params = c.in_ok-params.params;
  once = c.in_ok-params.ensures.gives;
  named = c.in_ok-check_params.ensures.ok.0;
  taken = c.in_ok-check_params.ensures.ok.1;
  keys = c.in-Ok.ensures;
}

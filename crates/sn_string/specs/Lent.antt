-- Parameters whose texts are lent.
use Rattle.sn_string.specs.declared.params.Params.{Params}
use Rattle.sn_string.specs.declared.lent.LentParams.{LentParams}

-- the parameters that these are
abbrev pub lent_params : LentParams → Params
lent_params lent = record {
  identifier = lent.identifier.now;
  pw_cost = lent.pw_cost;
  pw_nonce = lent.pw_nonce.now;
  identifier_fits = lent.identifier_fits;
  cost_fits = lent.cost_fits;
  nonce_fits = lent.nonce_fits;
}

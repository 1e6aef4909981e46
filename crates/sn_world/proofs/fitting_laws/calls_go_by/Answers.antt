use Rattle.sn_world.proofs.FittingGoes.{calls_go_by}
use Rattle.sn_world.proofs.fitting_laws.calls_go_by.Goals as goal

pub returns : goal.returns
returns c = calls_go_by c.calls_fit.ensures (record {
  quiet = c.calls_go.ensures;
  syncs = c.syncs_go.ensures;
  registers = c.registers_go.ensures;
  sign_ins = c.sign_ins_go.ensures;
})

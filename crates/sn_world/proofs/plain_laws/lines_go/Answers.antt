use Rattle.sn_world.proofs.Sessions.{lines_go}
use Rattle.sn_world.proofs.plain_laws.lines_go.Goals as goal

pub returns : goal.returns
returns c = lines_go (record {
  quiet = c.calls_go.ensures;
  syncs = c.syncs_go.ensures;
  registers = c.registers_go.ensures;
  sign_ins = c.sign_ins_go.ensures;
}) c.says_some.ensures c.keeps_plain.ensures

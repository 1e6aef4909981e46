use Rattle.sn_lines.proofs.LinesGo.{each_leads}
use Rattle.sn_lines.proofs.laws.each_leads.Goals as goal

pub returns : goal.returns
returns c = each_leads (record {
  quiet = c.calls_go.ensures;
  registers = c.registers_go.ensures;
  sign_ins = c.sign_ins_go.ensures;
  syncs = c.every_sync_goes.ensures;
  passwds = c.passwds_go.ensures;
}) c.again_leads.ensures

use Rattle.sn_lines.proofs.FitsAlong.{all_go_by}
use Rattle.sn_lines.proofs.laws.all_go_by.Goals as goal

pub returns : goal.returns
returns c = all_go_by c.requests_fit.ensures c.each_fits.ensures c.each_leads.ensures c.each_keeps.ensures

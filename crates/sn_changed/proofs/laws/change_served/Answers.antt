use Rattle.sn_changed.proofs.Served.{change_served}
use Rattle.sn_changed.proofs.laws.change_served.Goals as goal

pub returns : goal.returns
returns c = change_served c.changes_soundly.ensures c.changed_server.ensures c.one_reading.ensures

use Rattle.sn_world.proofs.FittingWorlds.{lines_go_by}
use Rattle.sn_world.proofs.fitting_laws.lines_go_by.Goals as goal

pub returns : goal.returns
returns c = lines_go_by c.steps_fit_uuids.ensures c.steps_stay_sound.ensures c.keeps_plain.ensures c.traces_fit.ensures c.lines_go.ensures

use Rattle.std.proofs.Common.{IfOk, subst}
use Rattle.sn_course.specs.Lines.{fates_of}
use Rattle.sn_course.specs.Settings.{words_of}
use Rattle.sn_events.specs.Events.{CallCame}
use Rattle.sn_laws.specs.Runs.{end}
use Rattle.sn_replay.specs.Lines.{setting_at}
use Rattle.sn_replay.proofs.Calling.{has_along}
use Rattle.sn_replay.proofs.told.heard.Goals as goal

pub returns-in_ok-came_of-in-Ok : goal.returns-in_ok-came_of-in-Ok
returns-in_ok-came_of-in-Ok g c =
    λ script secret stage settings asks call old one words left setting gives differ is_at of_line named drew set_so came.
    c.told.ensures script secret stage settings asks call old differ is_at of_line
    (has_along secret stage.world (end stage.moves) call old c.in_ok-came_of-in-Ok.field-0 one c.args.name.now words (words_of settings c.args.number)
    setting (setting_at settings (fates_of asks)) named drew set_so
    (c.in_ok-came_of-in-Ok.ensures secret stage.world (end stage.moves) one call words left setting gives old
    (subst (λ r. IfOk r (CallCame secret stage.world (end stage.moves) one call words left setting gives old)) c.in-Ok.is came)))

use Rattle.sn_course.specs.Headline.{shelf_slots}
use Rattle.sn_replay.proofs.Played.{carries_all}
use Rattle.sn_replay.proofs.run.replay.Goals as goal

pub returns-clause-carries : goal.returns-clause-carries
returns-clause-carries c =
    carries_all c.carried_of_moves.ensures c.args.script.now (shelf_slots c.put_away.new.shelf) c.in_ok-played.played c.in_ok-played.ensures.played c.in_ok-put_away.ensures

use Rattle.sn_laws.specs.Lookups.{Bytes}
use Rattle.sn_replay.proofs.Telling.{tells}
use Rattle.sn_replay.proofs.told.told.Goals as goal

pub returns : goal.returns
returns c =
    let name : Bytes = c.args.name.now in
    let told = c.in_ok-moves.ensures.told in
    λ script secret stage settings asks call old differ at l x.
    tells c.calls_tell.ensures c.each_fits.ensures c.keeps.ensures c.keeps_held.ensures c.steps_stay_sound.ensures script secret differ stage
    (record { number = c.args.number; settings = settings; asks = asks }) name call
    c.args.calling.now old c.args.seen c.see.new.seen c.args.came c.in_ok-moves.moves told.0 c.in_ok-event.event at l x
    told.1 c.in_ok-moves.ensures.others c.in_ok-moves.ensures.labels c.in_ok-moves.ensures.names told.2 c.in_ok-moves.ensures.requests
    (c.in_ok-event.ensures secret x.leads.next _ x.stands)

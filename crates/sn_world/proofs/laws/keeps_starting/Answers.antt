use Rattle.sn_world.proofs.Started.{started}
use Rattle.sn_world.proofs.laws.keeps_starting.Goals as goal

pub returns : goal.returns
returns c secret w next s changes h x = started c.one_token.ensures c.store_shows.ensures secret w next s changes h x

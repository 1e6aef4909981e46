use Rattle.sn_course.proofs.CarriedLemmas.{carried_of_moves}
use Rattle.sn_course.proofs.laws.carried_of_moves.Goals as goal

pub returns : goal.returns
returns c = carried_of_moves (record {
  keeps = c.keeps_versions.ensures;
  prefixes = c.prefixes_legal.ensures;
  follows = c.follows_last.ensures;
  rewraps = c.rewraps_last.ensures;
  edits = c.edits_kept.ensures;
  two = c.carries_two.ensures;
  hold = c.devices_hold.ensures;
  finished = c.finished_carries.ensures;
  once = c.posted_once.ensures;
  rewrapped = c.rewrapped_once.ensures;
  identifiers = c.identifiers_differ.ensures;
  nonces = c.nonces_differ.ensures;
})

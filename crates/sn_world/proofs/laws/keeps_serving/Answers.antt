use Rattle.sn_world.proofs.Served.{keeps_serving}
use Rattle.sn_world.proofs.laws.keeps_serving.Goals as goal

pub returns : goal.returns
returns c = keeps_serving (record {
  shows = c.accepted_shows.ensures;
  last = c.accepted_last.ensures;
  keeps = c.accept_keeps.ensures;
  apart = c.accounts_apart.ensures;
  one_stamp = c.one_stamp.ensures;
  one_token = c.one_token.ensures;
  store = c.store_shows.ensures;
  rewrapped = c.rewrap_taken.ensures;
  rewrap_leaves = c.rewrap_leaves.ensures;
  rewrap_keeps = c.rewrap_keeps.ensures;
  owner = c.item_owner.ensures;
  version_lasts = c.version_lasts.ensures;
  version_on_last = c.version_on_last.ensures;
  changed = c.change_served.ensures;
  change_leaves = c.change_leaves.ensures;
  change_lasts = c.change_lasts.ensures;
  change_on_last = c.change_on_last.ensures;
  change_sessions = c.change_sessions.ensures;
  change_spares = c.change_spares.ensures;
  change_keeps = c.change_keeps.ensures;
  changed_last = c.changed_last.ensures;
}) c.stays_sound.ensures c.registered_shows.ensures c.register_keeps.ensures

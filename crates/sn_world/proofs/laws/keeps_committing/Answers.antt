use Rattle.sn_world.proofs.Committed.{keeps_committing}
use Rattle.sn_world.proofs.laws.keeps_committing.Goals as goal

pub returns : goal.returns
returns c = keeps_committing (record {
  apart = c.accounts_apart.ensures;
  joined = c.joined_shows.ensures;
  join_keeps = c.join_keeps.ensures;
  tokens = c.tokens_show.ensures;
  edited = c.edited_shows.ensures;
  edit_keeps = c.edit_keeps.ensures;
  posted = c.posted_shows.ensures;
  post_keeps = c.post_keeps.ensures;
  sound = c.steps_stay_sound.ensures;
  numbers = c.numbers_held.ensures;
  taking = record {
    one_stamp = c.one_stamp.ensures;
    one_token = c.one_token.ensures;
    rise = c.versions_rise.ensures;
    apart = c.accounts_apart.ensures;
    one_text = c.one_content.ensures;
    settled = c.settled_shows.ensures;
    deletions = c.deletions_stay.ensures;
    live = c.applies_live.ensures;
    keeps = c.settle_keeps.ensures;
    standing = c.stay_standing.ensures;
  };
})

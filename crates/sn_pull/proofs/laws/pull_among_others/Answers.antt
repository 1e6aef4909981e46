use Rattle.sn_pull.proofs.AmongLemmas.{pull_among_others}
use Rattle.sn_pull.proofs.laws.pull_among_others.Goals as goal

pub returns : goal.returns
returns c = pull_among_others c.one_stamp.ensures c.one_token.ensures c.one_account.ensures c.stays_sound.ensures

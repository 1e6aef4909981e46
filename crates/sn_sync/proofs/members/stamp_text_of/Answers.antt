use Rattle.sn_sync.proofs.OneValue.{no_stamp_text}
use Rattle.sn_sync.proofs.members.stamp_text_of.Goals as goal

pub returns-in-Err-clause-none : goal.returns-in-Err-clause-none
returns-in-Err-clause-none c = no_stamp_text _ c.in_ok-text.text.now c.in_ok-text.ensures.some c.in-Err.ensures.err

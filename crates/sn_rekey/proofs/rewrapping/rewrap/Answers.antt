use Rattle.sn_rekey.proofs.RewrapLemmas.{later_one}
use Rattle.sn_rekey.proofs.rewrapping.rewrap.Goals as goal

pub returns-in-Ok-clause-ok : goal.returns-in-Ok-clause-ok
returns-in-Ok-clause-ok c =
    let item = c.in_ok-check_opens.ensures.ok in
    record { text = item.0; opens = item.1; rewraps = c.in-Ok.ensures.ok item.0 item.1 }

pub returns-in-Ok-clause-words : goal.returns-in-Ok-clause-words
returns-in-Ok-clause-words c = later_one c.args.words.now c.sealed_again.new.words c.sealed_again.ensures.words

pub returns-in-Err-clause-words : goal.returns-in-Err-clause-words
returns-in-Err-clause-words c = later_one c.args.words.now c.sealed_again.new.words c.sealed_again.ensures.words

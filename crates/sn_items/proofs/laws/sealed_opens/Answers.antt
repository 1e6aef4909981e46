use Rattle.sn_items.proofs.OpenLemmas.{only_answer}
use Rattle.sn_items.proofs.laws.sealed_opens.Goals as goal

pub returns : goal.returns
returns c text uuid encryption_key authentication_key plain answer small opens ok err =
    only_answer text uuid encryption_key authentication_key plain answer small opens ok err

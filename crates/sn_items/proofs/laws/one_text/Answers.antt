use Rattle.sn_items.proofs.OpenLemmas.{opens_once}
use Rattle.sn_items.proofs.laws.one_text.Goals as goal

pub returns : goal.returns
returns c text uuid encryption_key authentication_key plain other plain_small other_small first second =
    opens_once text uuid encryption_key authentication_key plain other plain_small other_small first second

use Rattle.std.proofs.Common.{take}
use Rattle.sn_string.proofs.PartFacts.{lent_part}
use Rattle.sn_string.proofs.plain_params.plain_params.Goals as goal

pub returns : goal.returns
returns c =
    lent_part c.args.part.now (take c.in_ok-count.count c.decode_short.new.room) c.plain_json.result c.in_ok-count.ensures.short c.in_ok-count.ensures.encoded
    c.plain_json.ensures

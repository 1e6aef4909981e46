use Rattle.std.proofs.Common.{arith}
use Rattle.sn_http.proofs.Taking.{message_map, head_whole, takes_kept, check_kept, stays_kept}
use Rattle.sn_http.proofs.message.read_message.Goals as goal

pub read_rest-requires : goal.read_rest-requires
read_rest-requires g c = head_whole c.read_head.new.carry.bytes c.in-Ok.head 16384 c.in-Ok.ensures.head

pub returns-in-Ok-clause-message : goal.returns-in-Ok-clause-message
returns-in-Ok-clause-message g c = takes_kept _ _ _ _ _ _ c.read_rest.result c.read_head.ensures.kept c.read_head.ensures.place c.read_rest.ensures.message

pub returns-in-Ok-clause-check : goal.returns-in-Ok-clause-check
returns-in-Ok-clause-check g c = check_kept _ _ _ _ c.read_rest.result c.read_head.ensures.kept c.read_head.ensures.place c.read_rest.ensures.check

pub returns-in-Ok-clause-stays : goal.returns-in-Ok-clause-stays
returns-in-Ok-clause-stays g c = stays_kept _ _ _ _ _ _ c.read_rest.result c.read_head.ensures.kept c.read_head.ensures.place c.read_rest.ensures.stays

pub returns-in-Ok-clause-ahead : goal.returns-in-Ok-clause-ahead
returns-in-Ok-clause-ahead g c = message_map c.read_rest.result _ _ (λ message ahead.
    omega (arith, ahead, c.in-Ok.ensures.ahead)) c.read_rest.ensures.ahead

use Rattle.std.proofs.Common.{◌≡◌, Some}
use Rattle.sn_moves.specs.Foreign.{foreign_in}
use Rattle.sn_sync.specs.declared.error.SyncError.TheVariants as error
use Rattle.sn_telling.specs.Walking.{HasForeign}
use Rattle.sn_telling.proofs.ReadForeign.{if_ok, none_by_head, none_by_refused, told_by_read}
use Rattle.sn_telling.proofs.reading.foreign_read.Goals as goal

pub returns-in_default : goal.returns-in_default
returns-in_default c = none_by_head c.args.bytes.now c.new.result c.in_default.ensures.err

pub returns-in-Ok-read_answer : goal.returns-in-Ok-read_answer
returns-in-Ok-read_answer c =
    if_ok c.foreign_in.result (λ uuids. uuids ≡ foreign_in c.in-Ok-read_answer.answer) (HasForeign (Some c.args.bytes.now))
    (λ uuids is. told_by_read c.one_answer.ensures c.args.bytes.now c.in-Ok.status c.in-Ok.body.now c.in-Ok-read_answer.answer uuids c.in-Ok.ensures.ok
    c.in-Ok-read_answer.ensures.ok is) c.foreign_in.ensures

pub returns-in-Err : goal.returns-in-Err
returns-in-Err c =
    if_ok c.none_read.result (λ uuids. c.in-Err.error ≡ error.Memory → ⊥) (HasForeign (Some c.args.bytes.now))
    (λ uuids other. none_by_refused c.answers_not_refused.ensures c.args.bytes.now c.in-Ok.status c.in-Ok.body.now c.in-Err.error uuids c.in-Ok.ensures.ok other
    c.in-Err.ensures.err) c.none_read.ensures

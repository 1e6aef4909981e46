use Rattle.std.proofs.Common.{◌+◌, length, ap, subst, arith, length-drop}
use Rattle.sn_http.specs.Messages.{FillsTo}
use Rattle.sn_http.proofs.Taking.{message_map, taken_told, told_kept, cut_short}
use Rattle.sn_http.proofs.message.read_rest.Goals as goal

pub returns-in-Whole-clause-message : goal.returns-in-Whole-clause-message
returns-in-Whole-clause-message g c = taken_told _ _ c.args.carry.now c.fill_to.new.carry c.take_message.new.carry c.take_message.result c.fill_to.ensures.kept c.fill_to.ensures.place c.take_message.ensures.message

pub returns-in-Ok-fill_to-clause-check : goal.returns-in-Ok-fill_to-clause-check
returns-in-Ok-fill_to-clause-check g c =
    let over = subst (FillsTo (c.args.head.len + c.in-Ok.size) c.fill_to.new.carry.bytes (g.S.Source.left c.fill_to.new.source)) c.in-Over.is c.in-Ok-fill_to.ensures.ends in (
      c.place-place.ensures,
      told_kept _ _ _ c.fill_to.ensures.kept
          (cut_short c.args.carry.now.bytes c.fill_to.new.carry.bytes c.fill_to.ensures.grown.0 _ c.args.head c.in-Ok.size c.requires c.in-Ok.is c.fill_to.ensures.grown.1 over.0 over.1),
    )

pub returns-in-Whole-clause-ahead : goal.returns-in-Whole-clause-ahead
returns-in-Whole-clause-ahead g c = message_map c.take_message.result _ _ (λ message left.
    omega (arith, ap length left, length-drop (c.args.head.len + c.in-Ok.size) c.fill_to.new.carry.bytes, c.fill_to.ensures.ahead)) c.take_message.ensures.left

use Rattle.std.proofs.lemmas.Result.{IfOk-weaker}
use Rattle.sn_row_map.specs.RowMaps.{row_in}
use Rattle.sn_saying.specs.Joined.{IsJoining}
use Rattle.sn_saying.proofs.JoinedLemmas.{joined_so, not_joined}
use Rattle.sn_saying.proofs.joining.joined.Goals as goal

pub returns-in_default : goal.returns-in_default
returns-in_default c = not_joined (row_in c.args.server.now) c.args.name.now c.args.identifier.now _ c.in_default.ensures.none

pub returns : goal.returns
returns c =
    IfOk-weaker c.joining.result _ (IsJoining (row_in c.args.server.now) c.args.name.now c.args.identifier.now)
    (λ moves is. joined_so (row_in c.args.server.now) c.args.name.now c.args.identifier.now c.in-Some.field-0-0 c.in-Some.generation moves c.in-Some.ensures.some is)
    c.joining.ensures

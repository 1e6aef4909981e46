use Rattle.sn_server.specs.Stores.{IsOpen, MayHave}
use Rattle.sn_server.proofs.Running.{one_ends}
use Rattle.sn_server.proofs.Tokens.{token_utf8}
use Rattle.sn_server.proofs.server.Server.serve_next.Goals as goal

pub serve_message-requires-clause-utf8 : goal.serve_message-requires-clause-utf8
serve_message-requires-clause-utf8 g c = token_utf8 c.in-Message.ensures.message.bytes c.in-Message.message c.in-Message.ensures.message.is

pub returns-in-Message-clause-ends : goal.returns-in-Message-clause-ends
returns-in-Message-clause-ends g c = λ kept stands.
    let takes = c.in-Message.ensures.message in
    one_ends IsOpen (MayHave g.D.Disk.told g.D.Disk.may_leave) kept c.in-Message.message _ _ c.serve_message.result
    (record { bytes = takes.bytes; is = takes.is; taken = takes.taken }) takes.next_is c.read_message.ensures.later c.serve_message.ensures.writes (c.serve_message.ensures.ends kept stands)

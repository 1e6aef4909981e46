use Rattle.std.proofs.Common.{inr, [], sym, subst}
use Rattle.sn_server.specs.Stores.{Kept, IsOpen, MayHave}
use Rattle.sn_server.proofs.Handles.{served_replies, turned_replies, after_none}
use Rattle.sn_server.proofs.server.Server.reply_to.Goals as goal

pub returns-in-Ok-clause-replied : goal.returns-in-Ok-clause-replied
returns-in-Ok-clause-replied g c = λ kept stands.
    served_replies IsOpen (MayHave g.D.Disk.told g.D.Disk.may_leave) kept c.args.message c.in-Ok.request c.args.now c.serve.result c.in-Ok.ensures.ok (c.serve.ensures.served kept stands)

pub returns-clause-replied : goal.returns-clause-replied
returns-clause-replied g c = λ kept stands.
    ([], inr (turned_replies c.args.message c.in-Err.turned c.turned_away-reply.result c.in-Err.ensures.err c.turned_away-reply.ensures), subst (λ (k : Kept). IsOpen c.args.self k) (sym (after_none kept)) stands)

use Rattle.sn_saying.proofs.SentLemmas.{local_sent}
use Rattle.sn_saying.proofs.sent.is_sent_at.Goals as goal

pub returns-in-Local-Local : goal.returns-in-Local-Local
returns-in-Local-Local c =
    let number = c.in-Local-Local.field-0-0 in
    let local = c.in-Local-Local.local in
    let sent = rw c.get.ensures at c.has_sent.ensures in (
      λ so. (number, local, c.in-Local-Local.is-0, c.in-Local-Local.is-1, sent.0 so),
      λ at. sent.1 (local_sent c.args.base c.args.uuid c.args.row.now c.args.key.now c.args.value.now local c.in-Local-Local.is-1 at),
    )

use Rattle.sn_sync.proofs.Appending.{◌>>◌, Appends-one, ends_with}
use Rattle.sn_sync.proofs.member_writer.text_member.Goals as goal

pub returns : goal.returns
returns c =
    let last = rw c.as_str.ensures at c.string.ensures in
    ends_with last (λ end. Appends-one c.in_ok-key.ensures >> end)

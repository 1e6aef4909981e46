use Rattle.sn_sync.proofs.Appending.{◌>>◌, Appends-one, ends_with}
use Rattle.sn_sync.proofs.member_writer.null_member.Goals as goal

pub returns : goal.returns
returns c = ends_with c.null.ensures (λ end. Appends-one c.in_ok-key.ensures >> end)

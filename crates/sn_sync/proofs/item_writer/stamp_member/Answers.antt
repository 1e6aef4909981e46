use Rattle.sn_sync.proofs.Appending.{◌>>◌, Appends-one, ends_with}
use Rattle.sn_sync.proofs.item_writer.stamp_member.Goals as goal

pub spelled-requires : goal.spelled-requires
spelled-requires c = (c.args.stamp, c.bytes-bytes.ensures)

pub returns : goal.returns
returns c =
    let last = rw c.spelled.ensures at c.string.ensures in
    ends_with last (λ end. (c.bytes-bytes.result, c.bytes-bytes.ensures, Appends-one c.in_ok-key.ensures >> end))

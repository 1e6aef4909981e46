use Rattle.sn_sync.proofs.Appending.{◌>>◌, Appends-one, ends_with}
use Rattle.sn_sync.proofs.request_writer.write_sync.Goals as goal

pub returns : goal.returns
returns c =
    let items = c.in_ok-write_items.ensures in
    let limit = rw c.from.ensures at c.in_ok-u64.ensures in
    ends_with c.end_object.ensures (λ end. (
      items.0,
      items.1,
      Appends-one c.in_ok-begin_object.ensures
          >> Appends-one c.in_ok-key.ensures
          >> Appends-one c.in_ok-string.ensures
          >> c.in_ok-optional_member.ensures
          >> Appends-one c.in_ok-key-2.ensures
          >> items.2
          >> Appends-one c.in_ok-key-3.ensures
          >> Appends-one limit
          >> c.in_ok-optional_member-2.ensures
          >> end,
    ))

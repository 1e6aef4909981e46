use Rattle.sn_sync.proofs.Appending.{◌>>◌, Appends-one, ends_with}
use Rattle.sn_sync.proofs.item_writer.write_kept.Goals as goal

pub returns : goal.returns
returns c =
    let created = c.in_ok-created_member.ensures in
    ends_with c.end_object.ensures (λ end. (
      created.0,
      created.1,
      Appends-one c.in_ok-begin_object.ensures
          >> c.in_ok-text_member.ensures
          >> c.in_ok-text_member-2.ensures
          >> created.2
          >> Appends-one c.in_ok-key.ensures
          >> Appends-one c.in_ok-boolean.ensures
          >> c.in_ok-text_member-3.ensures
          >> c.in_ok-optional_member.ensures
          >> c.in_ok-uuid_member.ensures
          >> end,
    ))

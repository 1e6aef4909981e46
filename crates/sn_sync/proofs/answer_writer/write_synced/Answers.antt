use Rattle.sn_sync.proofs.Appending.{◌>>◌, Appends-one, ends_with}
use Rattle.sn_sync.proofs.answer_writer.write_synced.Goals as goal

pub returns : goal.returns
returns c =
    let conflicts = c.in_ok-write_conflicts.ensures in
    let retrieved = c.in_ok-write_items.ensures in
    let saved = c.in_ok-write_items-2.ensures in
    ends_with c.end_object.ensures (λ end. (
      conflicts.0,
      retrieved.0,
      saved.0,
      conflicts.1,
      retrieved.1,
      saved.1,
      Appends-one c.in_ok-begin_object.ensures
          >> Appends-one c.in_ok-key.ensures
          >> conflicts.2
          >> c.in_ok-optional_member.ensures
          >> Appends-one c.in_ok-key-2.ensures
          >> retrieved.2
          >> Appends-one c.in_ok-key-3.ensures
          >> saved.2
          >> c.in_ok-text_member.ensures
          >> end,
    ))

use Rattle.sn_sync.proofs.Appending.{◌>>◌, Appends-one, ends_with}
use Rattle.sn_sync.proofs.answer_writer.write_sync_conflict.Goals as goal

pub returns : goal.returns
returns c =
    let inner = c.in_ok-write_item.ensures in
    ends_with c.end_object.ensures (λ end. (
      inner.0,
      inner.1,
      Appends-one c.in_ok-begin_object.ensures
          >> Appends-one c.in_ok-key.ensures
          >> inner.2
          >> Appends-one c.in_ok-key-2.ensures
          >> Appends-one c.in_ok-string.ensures
          >> end,
    ))

use Rattle.sn_sync.proofs.stamp.Stamp.text.Goals as goal

pub spelled-requires : goal.spelled-requires
spelled-requires c = (c.args.stamp, c.bytes-bytes.ensures)

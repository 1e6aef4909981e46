use Rattle.std.proofs.Common.{sym, subst, refl, ◌++◌, ◌/◌, ◌%◌}
use Rattle.sn_sync.specs.StampParts.{BeginsWithDate, IsTimeOfDay}
use Rattle.sn_sync.proofs.Halves.{in_back, joined}
use Rattle.sn_sync.proofs.stamp.Stamp.bytes.Goals as goal

pub returns : goal.returns
returns c =
    let date = c.copy_from_slice.new.self in
    let time = c.copy_from_slice-2.new.self in
    joined _ date time c.args.stamp (in_back date _ time 11 16 c.copy_from_slice.ensures.len refl)
    (λ rest. subst (λ d. BeginsWithDate (d ++ rest) (c.args.stamp / 86400000000) rest) (sym c.copy_from_slice.ensures.after) (c.date_bytes.ensures rest))
    (subst (λ t. IsTimeOfDay t (c.args.stamp % 86400000000)) (sym c.copy_from_slice-2.ensures.after) c.time_bytes.ensures)

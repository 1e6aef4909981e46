use Rattle.std.proofs.Common.{reverse, subst, sym}
use Rattle.sn_disk.specs.Steps.{Leaves}
use Rattle.sn_disk.specs.MemDisk.{disk_told}
use Rattle.sn_disk.proofs.Records.{if_ok_then, image_reached}
use Rattle.sn_disk.proofs.memory.MemDisk.image.Goals as goal

pub returns-clause-left : goal.returns-clause-left
returns-clause-left c =
    let told = disk_told c.args.self.now in
    if_ok_then c.image.result _ _ (λ bytes is. subst (Leaves told) (sym is) (image_reached c.args.image told.start (reverse told.steps))) c.image.ensures

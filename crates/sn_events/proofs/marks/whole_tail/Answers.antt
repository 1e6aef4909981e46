use Rattle.std.proofs.Common.{[], sym, subst}
use Rattle.sn_disk.specs.MemDisk.{disk_told}
use Rattle.sn_disk.specs.declared.memory.MemDisk.{MemDisk}
use Rattle.sn_journal.specs.declared.owner.Owner.TheVariants.{Server as ServerOwner}
use Rattle.sn_table.specs.Batches.{IsStore}
use Rattle.sn_events.proofs.marks.whole_tail.Goals as goal

pub returns-in-Ok : goal.returns-in-Ok
returns-in-Ok c = λ kept is_open.
    c.in-Ok.ensures.behind [] kept.batches (subst (λ (disk : MemDisk). IsStore ServerOwner (disk_told disk).bytes kept.batches) (sym c.disk.ensures) (c.server_stands.ensures.store kept is_open))
    (c.first_place.ensures ServerOwner)

use Rattle.std.proofs.Common.{⊎_elim}
use Rattle.sn_disk.specs.Moments.{weaker}
use Rattle.sn_table.specs.Batches.{IsStore, IsAllOrNothing}
use Rattle.sn_table.proofs.TableLemmas.{same_store, same_either, same_found, either_found}
use Rattle.sn_table.proofs.opening.load_log.Goals as goal

pub returns-clause-same : goal.returns-clause-same
returns-clause-same g c = λ told batches images.
    let file = g.D.Disk.seen c.args.disk in
    let store : IsStore c.args.owner file batches = images file (g.met.D.Disk.seen_may_stay told c.args.disk) in (
      same_found c.args.owner file batches c.open_log.result (c.open_log.ensures.loaded told) store,
      weaker g.D.Disk.moment g.D.Disk.left_since c.args.disk _ _ _ (c.open_log.ensures.any_moment told) (λ f left. ⊎_elim (images f) (same_store c.args.owner file f batches store) left),
    )

pub returns-clause-either : goal.returns-clause-either
returns-clause-either g c = λ told batches changes images.
    let file = g.D.Disk.seen c.args.disk in
    let store : IsAllOrNothing c.args.owner batches changes file = images file (g.met.D.Disk.seen_may_stay told c.args.disk) in (
      either_found c.args.owner file batches changes c.open_log.result (c.open_log.ensures.loaded told) store,
      weaker g.D.Disk.moment g.D.Disk.left_since c.args.disk _ _ _ (c.open_log.ensures.any_moment told) (λ f left. ⊎_elim (images f) (same_either c.args.owner file f batches changes store) left),
    )

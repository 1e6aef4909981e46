use Rattle.std.proofs.Common.{⊎_elim, subst, sym}
use Rattle.sn_disk.specs.Disk.{LeavesOnly}
use Rattle.sn_disk.specs.Moments.{weaker}
use Rattle.sn_journal.specs.Image.{IsImage, IsBeforeOrAfter}
use Rattle.sn_journal.specs.Findings.{same_shown, either_shown}
use Rattle.sn_journal.proofs.Resting.{loaded_of, same_read, either_read}
use Rattle.sn_journal.proofs.loading.load.Goals as goal

pub returns-in-Ok-clause-loaded : goal.returns-in-Ok-clause-loaded
returns-in-Ok-clause-loaded g c = λ told.
    loaded_of c.args.owner c.opened-journal.result c.args.disk c.open.new.disk c.in-Ok.opened (c.in-Ok.ensures.opened told)
    c.opened-journal.ensures.disk c.opened-journal.ensures.owner c.opened-journal.ensures.gate c.opened-journal.ensures.count

pub returns-in-Ok-clause-same : goal.returns-in-Ok-clause-same
returns-in-Ok-clause-same g c = λ told payloads images.
    let file = g.D.Disk.seen c.args.disk in
    let image : IsImage c.args.owner file payloads = images file (g.met.D.Disk.seen_may_stay told c.args.disk) in
    let loaded = loaded_of c.args.owner c.opened-journal.result c.args.disk c.open.new.disk c.in-Ok.opened (c.in-Ok.ensures.opened told)
    c.opened-journal.ensures.disk c.opened-journal.ensures.owner c.opened-journal.ensures.gate c.opened-journal.ensures.count in (
      same_read c.args.owner file c.opened-journal.result c.in-Ok.opened.batches payloads loaded image,
      subst (λ (disk : _). LeavesOnly g.D.Disk.moment g.D.Disk.left_since c.args.disk disk (λ f. IsImage c.args.owner f payloads)) (sym c.opened-journal.ensures.disk)
          (weaker g.D.Disk.moment g.D.Disk.left_since c.args.disk c.open.new.disk _ _ (c.open.ensures.any_moment told) (λ f left. ⊎_elim (images f) (same_shown c.args.owner file f payloads image) left)),
    )

pub returns-in-Err-clause-same : goal.returns-in-Err-clause-same
returns-in-Err-clause-same g c = λ told payloads images.
    let file = g.D.Disk.seen c.args.disk in
    let image : IsImage c.args.owner file payloads = images file (g.met.D.Disk.seen_may_stay told c.args.disk) in (
      tt,
      weaker g.D.Disk.moment g.D.Disk.left_since c.args.disk c.open.new.disk _ _ (c.open.ensures.any_moment told) (λ f left. ⊎_elim (images f) (same_shown c.args.owner file f payloads image) left),
    )

pub returns-in-Ok-clause-either : goal.returns-in-Ok-clause-either
returns-in-Ok-clause-either g c = λ told payloads payload images.
    let file = g.D.Disk.seen c.args.disk in
    let image : IsBeforeOrAfter c.args.owner payloads payload file = images file (g.met.D.Disk.seen_may_stay told c.args.disk) in
    let loaded = loaded_of c.args.owner c.opened-journal.result c.args.disk c.open.new.disk c.in-Ok.opened (c.in-Ok.ensures.opened told)
    c.opened-journal.ensures.disk c.opened-journal.ensures.owner c.opened-journal.ensures.gate c.opened-journal.ensures.count in (
      either_read c.args.owner file c.opened-journal.result c.in-Ok.opened.batches payloads payload loaded image,
      subst (λ (disk : _). LeavesOnly g.D.Disk.moment g.D.Disk.left_since c.args.disk disk (IsBeforeOrAfter c.args.owner payloads payload)) (sym c.opened-journal.ensures.disk)
          (weaker g.D.Disk.moment g.D.Disk.left_since c.args.disk c.open.new.disk _ _ (c.open.ensures.any_moment told) (λ f left. ⊎_elim (images f) (either_shown c.args.owner file f payloads payload image) left)),
    )

pub returns-in-Err-clause-either : goal.returns-in-Err-clause-either
returns-in-Err-clause-either g c = λ told payloads payload images.
    let file = g.D.Disk.seen c.args.disk in
    let image : IsBeforeOrAfter c.args.owner payloads payload file = images file (g.met.D.Disk.seen_may_stay told c.args.disk) in (
      tt,
      weaker g.D.Disk.moment g.D.Disk.left_since c.args.disk c.open.new.disk _ _ (c.open.ensures.any_moment told) (λ f left. ⊎_elim (images f) (either_shown c.args.owner file f payloads payload image) left),
    )

use Rattle.std.proofs.Common.{◌∙◌, map}
use Rattle.sn_disk.specs.Moments.{weaker}
use Rattle.sn_rows.specs.Spelling.{spelled}
use Rattle.sn_table.proofs.TableLemmas.{all_or_nothing, stands_more}
use Rattle.sn_table.proofs.log.Log.commit.Goals as goal

pub returns-in-Ok-append-clause-done : goal.returns-in-Ok-append-clause-done
returns-in-Ok-append-clause-done g c = λ told batches o.
    rw c.opened.ensures (
    stands_more _ _ batches c.args.changes.now c.deref.result.now o (c.in-Ok-append.ensures.done told (map spelled batches) o.durably)
    (c.deref.ensures.value ∙ c.in-Ok.ensures.spelled) c.in-Ok-append.ensures.owner
    (record { owned = c.requires; in_form = c.in-Ok.ensures.form })
    )

pub returns-in-Ok-append-clause-any_moment : goal.returns-in-Ok-append-clause-any_moment
returns-in-Ok-append-clause-any_moment g c = λ told batches o.
    rw c.opened.ensures (
    weaker g.D.Disk.moment g.D.Disk.left_since _ _ _ _ (c.in-Ok-append.ensures.any_moment told (map spelled batches) o.durably)
    (λ file left. all_or_nothing _ file batches c.args.changes.now c.deref.result.now o.each (record { owned = c.requires; in_form = c.in-Ok.ensures.form })
    (c.deref.ensures.value ∙ c.in-Ok.ensures.spelled) left)
    )

pub returns-in-Ok-append-clause-crash : goal.returns-in-Ok-append-clause-crash
returns-in-Ok-append-clause-crash g c = λ told batches o.
    rw c.opened.ensures (λ f left.
    let run = c.in-Ok-append.ensures.any_moment told (map spelled batches) o.durably in
    all_or_nothing _ f batches c.args.changes.now c.deref.result.now o.each (record { owned = c.requires; in_form = c.in-Ok.ensures.form })
    (c.deref.ensures.value ∙ c.in-Ok.ensures.spelled) (run.each f (g.met.D.Disk.counts_now told _ _ f run.later left))
    )

pub returns-in-Err-TooLarge-clause-any_moment : goal.returns-in-Err-TooLarge-clause-any_moment
returns-in-Err-TooLarge-clause-any_moment g c = λ told batches o.
    rw c.opened-log.ensures (
    weaker g.D.Disk.moment g.D.Disk.left_since _ _ _ _ (rw c.in-Err-TooLarge.field-0-is at (c.in-Err-TooLarge.ensures.any_moment told (map spelled batches) o.durably))
    (λ file left. all_or_nothing _ file batches c.args.changes.now c.deref.result.now o.each (record { owned = c.requires; in_form = c.in-Ok.ensures.form })
    (c.deref.ensures.value ∙ c.in-Ok.ensures.spelled) left)
    )

pub returns-in-Err-Memory-clause-any_moment : goal.returns-in-Err-Memory-clause-any_moment
returns-in-Err-Memory-clause-any_moment g c = λ told batches o.
    rw c.opened-in-Err-Memory.ensures (
    weaker g.D.Disk.moment g.D.Disk.left_since _ _ _ _ (rw c.in-Err-Memory.field-0-is at (c.in-Err-Memory.ensures.any_moment told (map spelled batches) o.durably))
    (λ file left. all_or_nothing _ file batches c.args.changes.now c.deref.result.now o.each (record { owned = c.requires; in_form = c.in-Ok.ensures.form })
    (c.deref.ensures.value ∙ c.in-Ok.ensures.spelled) left)
    )

pub returns-clause-any_moment : goal.returns-clause-any_moment
returns-clause-any_moment g c = λ told batches o.
    weaker g.D.Disk.moment g.D.Disk.left_since _ _ _ _ (rw c.in-Err-DiskFault.field-0-is at (c.in-Err-DiskFault.ensures.any_moment told (map spelled batches) o.durably))
    (λ file left. all_or_nothing _ file batches c.args.changes.now c.deref.result.now o.each (record { owned = c.requires; in_form = c.in-Ok.ensures.form })
    (c.deref.ensures.value ∙ c.in-Ok.ensures.spelled) left)

pub returns-clause-crash : goal.returns-clause-crash
returns-clause-crash g c = λ told batches o f left.
    let run = rw c.in-Err-DiskFault.field-0-is at (c.in-Err-DiskFault.ensures.any_moment told (map spelled batches) o.durably) in
    all_or_nothing _ f batches c.args.changes.now c.deref.result.now o.each (record { owned = c.requires; in_form = c.in-Ok.ensures.form })
    (c.deref.ensures.value ∙ c.in-Ok.ensures.spelled) (run.each f (g.met.D.Disk.counts_now told _ _ f run.later left))

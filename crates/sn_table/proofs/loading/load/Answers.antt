use Rattle.sn_table.proofs.loading.load.Goals as goal

pub returns-in-Ok-clause-same : goal.returns-in-Ok-clause-same
returns-in-Ok-clause-same g c = λ told batches images. rw (c.opened.ensures.log, c.opened.ensures.rows) (c.in-Ok.ensures.same told batches images)

pub returns-in-Ok-clause-either : goal.returns-in-Ok-clause-either
returns-in-Ok-clause-either g c = λ told batches changes images. rw (c.opened.ensures.log, c.opened.ensures.rows) (c.in-Ok.ensures.either told batches changes images)

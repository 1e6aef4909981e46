use Rattle.sn_table.proofs.TableLemmas.{loaded_of}
use Rattle.sn_table.proofs.opening.open_log.Goals as goal

pub returns-in-Ok-rows_of-clause-loaded : goal.returns-in-Ok-rows_of-clause-loaded
returns-in-Ok-rows_of-clause-loaded g c = λ told.
    loaded_of c.args.owner (g.D.Disk.seen c.args.disk) c.args.alloc c.in-Ok.found.0 c.in-Ok.found.1 c.in-Ok-rows_of.rows c.opened.result (c.in-Ok.ensures.loaded told) c.in-Ok.ensures.owner c.in-Ok-rows_of.ensures.read c.opened.ensures

use Rattle.std.proofs.Common.{sym, subst, rules}
use Rattle.sn_disk.specs.Disk.{Follows}
use Rattle.sn_disk.specs.Record.{step_of}
use Rattle.sn_disk.specs.Steps.{Told, Leaves, StepLeaves}
use Rattle.sn_disk.proofs.Records.{follows_same, follows_stop}
use Rattle.sn_disk.specs.Growth.{grows_stopping, grows_wanting}
use Rattle.sn_disk.proofs.memory.MemDisk.stop_in.Goals as goal

pub returns-in_default-clause-crash : goal.returns-in_default-clause-crash
returns-in_default-clause-crash c = follows_same c.args.self.now.history (step_of c.args.call) c.requires.call

pub returns-in-Ok-stop-clause-crash : goal.returns-in-Ok-stop-clause-crash
returns-in-Ok-stop-clause-crash c =
    let old = c.args.self.now.history in
    let step = step_of c.args.call in
    subst (λ (told : Told). Follows (StepLeaves step) (Leaves old) (Leaves told)) (sym c.in-Ok-stop.ensures.ok) (follows_stop c.args.image old step c.in-Ok.left.items c.in-Ok.ensures)

pub returns-in-Err-clause-crash : goal.returns-in-Err-clause-crash
returns-in-Err-clause-crash c =
    let old = c.args.self.now.history in
    let step = step_of c.args.call in
    subst (λ (told : Told). Follows (StepLeaves step) (Leaves old) (Leaves told)) (sym c.in-Err.ensures.err) (follows_same old step c.requires.call)

pub returns-in_default-clause-grows : goal.returns-in_default-clause-grows
returns-in_default-clause-grows c = grows_wanting c.args.self.now _ c.args.self.now.small.1 (search rules)

pub returns-in-Ok-stop-clause-grows : goal.returns-in-Ok-stop-clause-grows
returns-in-Ok-stop-clause-grows c = grows_stopping c.args.self.now _ (step_of c.args.call) c.requires.call (search rules)

pub returns-in-Err-clause-grows : goal.returns-in-Err-clause-grows
returns-in-Err-clause-grows c = grows_wanting c.args.self.now _ c.args.self.now.small.1 (search rules)

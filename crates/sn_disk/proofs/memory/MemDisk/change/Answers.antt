use Rattle.std.proofs.Common.{sym, subst, refl, rules}
use Rattle.sn_disk.specs.Disk.{Follows}
use Rattle.sn_disk.specs.Record.{step_of}
use Rattle.sn_disk.specs.Steps.{Told, Leaves, StepLeaves}
use Rattle.sn_disk.proofs.Records.{follows_same, follows_more}
use Rattle.sn_disk.specs.Growth.{grows_doing, grows_wanting}
use Rattle.sn_disk.proofs.memory.MemDisk.change.Goals as goal

pub returns-in-Ok-clause-crash : goal.returns-in-Ok-clause-crash
returns-in-Ok-clause-crash c =
    let old = c.args.self.now.history in
    let step = step_of c.args.call in
    subst (λ (told : Told). Follows (StepLeaves step) (Leaves old) (Leaves told)) (sym c.in-Ok.ensures.ok) (follows_more old step)

pub returns-in-Err-clause-crash : goal.returns-in-Err-clause-crash
returns-in-Err-clause-crash c =
    let old = c.args.self.now.history in
    let step = step_of c.args.call in
    subst (λ (told : Told). Follows (StepLeaves step) (Leaves old) (Leaves told)) (sym c.in-Err.ensures.err) (follows_same old step c.requires.call)

pub returns-in-Ok-clause-grows : goal.returns-in-Ok-clause-grows
returns-in-Ok-clause-grows c = grows_doing c.args.self.now _ (step_of c.args.call) c.requires.call (search rules) refl

pub returns-in-Err-clause-grows : goal.returns-in-Err-clause-grows
returns-in-Err-clause-grows c = grows_wanting c.args.self.now _ c.args.self.now.small.1 (search rules)

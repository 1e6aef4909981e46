use Rattle.std.proofs.Common.{◌++◌, List, ℕ, subst, sym}
use Rattle.sn_table.specs.Batches.{IsStore}
use Rattle.sn_tail.proofs.Walks.{HasBehindAt, stood, stood_either}
use Rattle.sn_tail.proofs.marks.tail_of.Goals as goal

-- the disk's bytes are those that were read
behind : (c : goal.After-batches_behind) → HasBehindAt c.args.owner c.args.disk.now c.args.place c.batches_behind.result
behind c = λ before later store at. c.batches_behind.ensures.behind before later (subst (λ (file : List ℕ). IsStore c.args.owner file (before ++ later)) (sym c.bytes.ensures) store) at

pub returns-clause-stood : goal.returns-clause-stood
returns-clause-stood c = λ before has at. stood c.args.owner c.args.disk.now c.args.place c.batches_behind.result (behind c) before has at

pub returns-clause-either : goal.returns-clause-either
returns-clause-either c = λ before later changes one either at. stood_either c.args.owner c.args.disk.now c.args.place c.batches_behind.result (behind c) before later changes one either at

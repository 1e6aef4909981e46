use Rattle.sn_summary.specs.Walks.{AddsKey, TakesKey}
use Rattle.sn_summary.proofs.DraftLemmas.{on_ok}
use Rattle.sn_summary.proofs.drafts.take.Goals as goal

pub returns : goal.returns
returns c =
    let old = c.args.drafts.now in
    let between = c.remove.new.drafts in
    let new = c.add.new.drafts in
    on_ok c.add.result (AddsKey between new c.args.device.now c.args.other.now)
    (TakesKey old new c.args.device.now c.args.uuid.now c.args.other.now)
    (λ a. record { between = between; removes = c.in_ok-remove.ensures; adds = a }) c.add.ensures

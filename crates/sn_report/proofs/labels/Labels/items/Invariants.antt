use Rattle.std.proofs.Common.{◌≡◌, take}
use Rattle.sn_report.specs.Labels.{items_of}
use Rattle.sn_report.proofs.labels.Labels.items.Given as goal

abbrev pub invariant-loop-place : goal.invariant-loop-place
invariant-loop-place l = l.items.items ≡ items_of (take l.place l.made)

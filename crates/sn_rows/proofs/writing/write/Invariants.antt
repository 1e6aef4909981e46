use Rattle.std.proofs.Common.{◌≡◌, take}
use Rattle.sn_rows.specs.Spelling.{spelled, AreInForm}
use Rattle.sn_rows.proofs.writing.write.Given as goal

abbrev pub invariant-loop-change : goal.invariant-loop-change
invariant-loop-change l = record {
  told : l.out.items ≡ spelled (take l.change-index l.changes);
  form : AreInForm (take l.change-index l.changes);
}

use Rattle.std.proofs.Common.{◌≡◌, take}
use Rattle.sn_laws.specs.Lookups.{is_draft}
use Rattle.sn_laws.specs.Moves.{without}
use Rattle.sn_laws.proofs.effects.without_draft.Given as goal

abbrev pub invariant-loop-draft : goal.invariant-loop-draft
invariant-loop-draft l = l.next ≡ without (is_draft l.device l.uuid) (take l.draft-index l.drafts)

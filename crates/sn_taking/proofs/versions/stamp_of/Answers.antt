use Rattle.std.proofs.Common.{◌≡◌, List, ℕ, subst}
use Rattle.sn_sync.specs.Stamps.{IsStampText}
use Rattle.sn_taking.proofs.versions.stamp_of.Goals as goal

pub unreachable-requires-in-Err : goal.unreachable-requires-in-Err
unreachable-requires-in-Err c =
    let same : c.requires.text ≡ c.as_str.result.now = cc in
    c.in-Err.ensures.err c.requires.last (subst (λ (t : List ℕ). IsStampText t c.requires.last) same c.requires.stamped)

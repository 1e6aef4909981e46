use Rattle.std.proofs.Common.{List, ℕ, sym, subst, arith}
use Rattle.std.specs.String.Boundary.{IsSplitPoint}
use Rattle.sn_string.proofs.writer.framed.Goals as goal

pub insert_str-requires : goal.insert_str-requires
insert_str-requires c =
    subst (λ (b : List ℕ). IsSplitPoint b 3) (sym c.requires.1) (omega arith, λ some within high. absurd (omega (arith, high)))

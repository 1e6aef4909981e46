-- Legal moves behind legal ones.
use Rattle.std.proofs.Common.{List, [], ◌∷◌, ◌++◌, sym, ap, ◌∙◌, subst}
use Rattle.sn_laws.proofs.Facts.{end_from-append}
use Rattle.sn_laws.specs.Lookups.{empty}
use Rattle.sn_laws.specs.Moves.{after}
use Rattle.sn_laws.specs.Runs.{LegalFrom, end_from}
use Rattle.sn_laws.specs.declared.ideal.Ideal.{Ideal}
use Rattle.sn_laws.specs.declared.moves.Move.{Move}
use Rattle.sn_world.specs.Holds.{Reached}

pub legal_joined : (s : Ideal) (xs ys : List Move) → LegalFrom s xs → LegalFrom (end_from s xs) ys → LegalFrom s (xs ++ ys)
legal_joined s [] ys h k = k
legal_joined s (x ∷ xs) ys h k = (h.0, legal_joined (after s x) xs ys h.1 k)

-- a state that legal moves lead to from one that comes of legal moves does
pub reached_after : (s : Ideal) (ms : List Move) → Reached s → LegalFrom s ms → Reached (end_from s ms)
reached_after s ms r legal = record {
  moves = r.moves ++ ms;
  legal = legal_joined empty r.moves ms r.legal (subst (λ (t : Ideal). LegalFrom t ms) r.is legal);
  is = ap (λ (t : Ideal). end_from t ms) r.is ∙ sym (end_from-append empty r.moves ms);
}

-- What stays at each legal move, over lists of them.
use Rattle.std.proofs.Common.{◌≡◌, List, [], ◌∷◌, ◌++◌, sym, subst, append_assoc}
use Rattle.std.proofs.lemmas.List.{append-nil}
use Rattle.std.specs.Prelude.{IsTrue, map}
use Rattle.sn_laws.proofs.Facts.{end_from-append, identifiers_differ, legal_after, legal_before}
use Rattle.sn_laws.specs.Each.{Each}
use Rattle.sn_laws.specs.Lookups.{empty}
use Rattle.sn_laws.specs.Moves.{after, allows}
use Rattle.sn_laws.specs.Reached.{AllDiffer}
use Rattle.sn_laws.specs.Runs.{Legal, end}
use Rattle.sn_laws.specs.declared.ideal.Account.{Account}
use Rattle.sn_laws.specs.declared.ideal.Ideal.{Ideal}
use Rattle.sn_laws.specs.declared.moves.Move.{Move}

-- no two accounts have one identifier
abbrev pub Differ : Ideal → Type 0
Differ s = AllDiffer (map (λ (a : Account). a.identifier) s.accounts)

-- each allowed move of some leaves what holds
abbrev pub Stays : (Move → Type 0) → (Ideal → Type 0) → Type 0
Stays Q P = (s : Ideal) (m : Move) → Differ s → Q m → IsTrue (allows s m) → P s → P (after s m)

-- it then holds after a legal list of them
pub walk : (Q : Move → Type 0) (P : Ideal → Type 0) → Stays Q P → (before later : List Move) → Each Q later → Legal (before ++ later) → P (end before)
    → P (end (before ++ later))
walk Q P stays before [] each legal h = subst (λ (ms : List Move). P (end ms)) (sym (append-nil before)) h
walk Q P stays before (m ∷ later) each legal h =
    let whole : (before ++ m ∷ []) ++ later ≡ before ++ m ∷ later = append_assoc before (m ∷ []) later in
    let allowed : IsTrue (allows (end before) m) = (legal_after empty before (m ∷ later) legal).0 in
    let next : P (after (end before) m) = stays (end before) m (identifiers_differ before (legal_before empty before (m ∷ later) legal)) each.0 allowed h in
    subst (λ (ms : List Move). P (end ms)) whole
    (walk Q P stays (before ++ m ∷ []) later each.1 (subst (λ (ms : List Move). Legal ms) (sym whole) legal)
    (subst P (sym (end_from-append empty before (m ∷ []))) next))

-- and where it holds behind a move, it holds after the later ones
pub walk_behind : (Q : Move → Type 0) (P : Ideal → Type 0) → Stays Q P → (before : List Move) (m : Move) (later : List Move) → Each Q later
    → Legal (before ++ m ∷ later) → P (after (end before) m) → P (end (before ++ m ∷ later))
walk_behind Q P stays before m later each legal h =
    let whole : (before ++ m ∷ []) ++ later ≡ before ++ m ∷ later = append_assoc before (m ∷ []) later in
    subst (λ (ms : List Move). P (end ms)) whole
    (walk Q P stays (before ++ m ∷ []) later each (subst (λ (ms : List Move). Legal ms) (sym whole) legal)
    (subst P (sym (end_from-append empty before (m ∷ []))) h))

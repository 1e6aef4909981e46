-- What legal moves carry, by the laws of the ideal state.
use Rattle.std.proofs.Common.{◌≡◌, List, [], ◌∷◌, ◌++◌, sym, subst, append_assoc}
use Rattle.sn_finished.specs.Laws.{FinishedCarries}
use Rattle.sn_laws.specs.Kept.{EditsKept, IsKept}
use Rattle.sn_laws.specs.Laws.{FollowsLast, Keeps, KeepsVersions, PrefixesLegal, RewrapsLast}
use Rattle.sn_laws.specs.Lookups.{account_named}
use Rattle.sn_laws.specs.Reached.{CarriesTwo, DevicesHold, IdentifiersDiffer, NoncesDiffer, PostedOnce, RewrappedOnce}
use Rattle.sn_laws.specs.Runs.{Legal, end}
use Rattle.sn_laws.specs.declared.moves.Move.{Move}
use Rattle.sn_laws.specs.declared.moves.Move.TheVariants.{Accept, Rewrap}
use Rattle.sn_course.specs.Headline.{MovesCarry}

-- the laws that it rests on
pub record Laws : Type 0 where
  pub keeps : KeepsVersions
  pub prefixes : PrefixesLegal
  pub follows : FollowsLast
  pub rewraps : RewrapsLast
  pub edits : EditsKept
  pub two : CarriesTwo
  pub hold : DevicesHold
  pub finished : FinishedCarries
  pub once : PostedOnce
  pub rewrapped : RewrappedOnce
  pub identifiers : IdentifiersDiffer
  pub nonces : NoncesDiffer

-- a legal list up to its move
legal_up_to : Laws → (moves before later : List Move) (m : Move) → moves ≡ before ++ m ∷ later → Legal moves → Legal (before ++ m ∷ [])
legal_up_to laws moves before later m parts legal =
    laws.prefixes (before ++ m ∷ []) later
    (subst (λ (ms : List Move). Legal ms) (sym (append_assoc before (m ∷ []) later)) (subst (λ (ms : List Move). Legal ms) parts legal))

pub carried_of_moves : Laws → (moves : List Move) → Legal moves → MovesCarry moves
carried_of_moves laws moves legal =
    record {
      acknowledged = λ before later identifier a parts named.
          subst (λ (ms : List Move). Keeps a (account_named (end ms) identifier)) (sym parts) (laws.keeps before later identifier a named);
      followed = λ before later device uuid stamp under a v parts has last.
          laws.follows before device uuid stamp under a v (legal_up_to laws moves before later (Accept device uuid stamp under) parts legal) has last;
      resealed = λ before later uuid stamp under a v parts with_item last.
          laws.rewraps before uuid stamp under a v (legal_up_to laws moves before later (Rewrap uuid stamp under) parts legal) with_item last;
      kept = λ before later device uuid kind base text parts.
          subst (λ (ms : List Move). IsKept (end ms) device uuid kind text later) (sym parts)
          (laws.edits before later device uuid kind base text (subst (λ (ms : List Move). Legal ms) parts legal));
      carry_two = laws.two moves legal;
      hold_two = λ name d named. laws.hold moves name d legal named;
      finished = laws.finished moves legal;
      posted_once = λ before between later device uuid stamp next under under_next parts.
          laws.once before between device uuid stamp next under under_next
          (laws.prefixes ((before ++ Accept device uuid stamp under ∷ between) ++ Accept device uuid next under_next ∷ []) later
          (subst (λ (ms : List Move). Legal ms) parts legal));
      rewrapped_once = λ before between later uuid stamp next under under_next parts.
          laws.rewrapped before between uuid stamp next under under_next
          (laws.prefixes ((before ++ Rewrap uuid stamp under ∷ between) ++ Rewrap uuid next under_next ∷ []) later
          (subst (λ (ms : List Move). Legal ms) parts legal));
      identifiers = laws.identifiers moves legal;
      nonces = laws.nonces moves legal;
    }

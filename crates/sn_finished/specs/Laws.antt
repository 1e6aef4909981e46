-- What holds of all lists of moves in which a device retires a set.
use Rattle.std.specs.Prelude.{◌≡◌, ◌≢◌, ◌<◌, ℕ, ◌+◌, List, [], ◌∷◌, ◌++◌, length, Some}
use Rattle.sn_finished.specs.Finished.{CarriesLast, CarriesNone, CarriesOne, HasFinished, IsFinishedBy, IsStillFinished, KeepsSets, Retires}
use Rattle.sn_laws.specs.Each.{Each}
use Rattle.sn_laws.specs.Lookups.{Bytes, account_of, device_named, held_by}
use Rattle.sn_laws.specs.Moves.{most_sets}
use Rattle.sn_laws.specs.Relation.{MayChange, MayRetire}
use Rattle.sn_laws.specs.Runs.{Legal, end}
use Rattle.sn_laws.specs.declared.ideal.Account.{Account}
use Rattle.sn_laws.specs.declared.moves.Move.{Move}
use Rattle.sn_laws.specs.declared.moves.Move.TheVariants.{Retire}
use Rattle.sn_string.specs.declared.params.KeySet.{KeySet}

-- a set that a device has retired isn't the last one of the device's account, and no last version of it carries it any more, whatever moves follow
abbrev pub RetiredUnused : Type 0
RetiredUnused = (ms : List Move) (device : Bytes) (number : ℕ) (a : Account) → Legal ms → Retires ms device number → account_of (end ms) device ≡ Some a
    → (number < length a.sets) × CarriesNone number a

-- where a device has retired the set before the last one, each undeleted last version of its account carries the last one
abbrev pub FinishedCarries : Type 0
FinishedCarries = (ms : List Move) → Legal ms → Each (λ a. HasFinished ms a → CarriesLast a) (end ms).accounts

-- so all of them carry one set
abbrev pub FinishedCarriesOne : Type 0
FinishedCarriesOne = (ms : List Move) → Legal ms → Each (λ a. HasFinished ms a → CarriesOne a) (end ms).accounts

-- it stays so, whatever moves follow, but a change of that account
abbrev pub StaysFinished : Type 0
StaysFinished = (ms more : List Move) (a : Account) → Legal (ms ++ more) → Each (KeepsSets a.identifier) more → HasFinished ms a
    → IsStillFinished (ms ++ more) a.identifier

-- the device that finished holds the last set, and no other
abbrev pub FinisherHolds : Type 0
FinisherHolds = (ms : List Move) (a : Account) (device : Bytes) → Legal ms → IsFinishedBy ms a device
    → held_by (device_named (end ms) device) ≡ length a.sets ∷ []

-- where a device retires the set before its account's last one, it has finished
abbrev pub RetiringFinishes : Type 0
RetiringFinishes = (ms : List Move) (device : Bytes) (number : ℕ) (a : Account) → account_of (end ms) device ≡ Some a → number + 1 ≡ length a.sets
    → IsFinishedBy (ms ++ Retire device number ∷ []) a device

-- where each undeleted last version of an account carries the last set, as in one that is finished, each device of it that holds two sets may
-- retire the lesser one
abbrev pub DevicesRetire : Type 0
DevicesRetire = (ms : List Move) (a : Account) (device : Bytes) (lesser greater : ℕ) → Legal ms → CarriesLast a
    → account_of (end ms) device ≡ Some a → held_by (device_named (end ms) device) ≡ lesser ∷ greater ∷ [] → MayRetire (end ms) device lesser

-- a finished account may get one more set, with a fresh nonce
abbrev pub NextChanges : Type 0
NextChanges = (ms : List Move) (a : Account) (set : KeySet) → Legal ms → HasFinished ms a
    → Each (λ (k : KeySet). k.params.pw_nonce ≢ set.params.pw_nonce) a.sets → length a.sets < most_sets
    → MayChange (end ms) a.identifier (length a.sets + 1) set

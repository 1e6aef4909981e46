-- What a device makes of keys, by the sets that it holds.
use Rattle.std.specs.Prelude.{◌≡◌, ◌≢◌, ◌↔◌, Bool, true, false, not, IsTrue, Some, Result, Ok, Err, IfOk, IfErr, IsErrAnd}
use Rattle.std.proofs.Common.{inr, refl, sym, subst, ◌∙◌}
use Rattle.std.proofs.lemmas.Bool.{false≢true}
use Rattle.sn_rows.specs.Table.{Rows}
use Rattle.sn_rows.specs.declared.device_rows.OwnerRow.{OwnerRow}
use Rattle.sn_sets.specs.declared.sets.Sets.{Sets}
use Rattle.sn_string.specs.declared.params.KeySet.{KeySet}
use Rattle.sn_device.specs.Runs.{IsOtherOlder}
use Rattle.sn_joining.specs.Signing.{JoinsAgain, JoinsBy, RefusesAgain, RefusesWith}
use Rattle.sn_device.specs.States.{HasSets}
use Rattle.sn_device.specs.declared.error.ClientError.{ClientError}
use Rattle.sn_joining.specs.declared.signing.Joining.{Joining}

-- a refusal that is handed on
pub refused_for : {T : Type 0} (result : Result T ClientError) (why : ClientError) (P : ClientError → Type 0) → IsErrAnd result (λ e. e ≡ why) → P why → IfErr result P
refused_for (Ok given) why P is holds = tt
refused_for (Err e) why P is holds = subst P (sym is) holds

-- keys of the older set's parameters are others, where they aren't its own
pub other_older : (sets : Sets) (set older : KeySet) (same : Bool) → sets.older ≡ Some older → set.params ≡ older.params → IsTrue same ↔ (set ≡ older)
    → IsTrue (not same) ↔ IsOtherOlder sets set
other_older sets set older true has params says = (
  λ no. absurd (false≢true no),
  λ other.
      let it : sets.older ≡ Some other.0 = other.1 in
      let same : older ≡ other.0 = cc in
      absurd (other.3 (says.0 refl ∙ same)),
)
other_older sets set older false has params says = ((λ yes. (older, has, params, (λ same. false≢true (says.1 same)))), (λ other. refl))

-- under held sets
pub joins_held : (rows : Rows) (owner : OwnerRow) (sets : Sets) (set : KeySet) (result : Result Joining ClientError) → HasSets rows owner sets
    → IfOk result (JoinsAgain sets set) → IfOk result (JoinsBy rows set)
joins_held rows owner sets set (Ok how) has is = inr (owner, sets, has, is)
joins_held rows owner sets set (Err why) has is = tt

pub refuses_held : (rows : Rows) (owner : OwnerRow) (sets : Sets) (set : KeySet) (result : Result Joining ClientError) → HasSets rows owner sets
    → IfErr result (RefusesAgain sets set) → IfErr result (RefusesWith rows set)
refuses_held rows owner sets set (Ok how) has is = tt
refuses_held rows owner sets set (Err why) has is = inr (owner, sets, has, is)

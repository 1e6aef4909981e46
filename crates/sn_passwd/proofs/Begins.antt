-- The sets that the requests of a call would begin: under the session token of the beginning the set that was asked for then, under any other a new one.
use Rattle.std.proofs.Common.{◌≡◌, ◌≢◌, Option, Some, None, Bool, true, false, refl, ap, ◌∙◌, subst}
use Rattle.std.specs.Prelude.{if◌then◌else◌}
use Rattle.std.specs.Str.{bytes_eq}
use Rattle.sn_device.specs.Asking.{session_of}
use Rattle.sn_device.specs.Runs.{change_to}
use Rattle.sn_device.specs.States.{HasSets, IsInSlot}
use Rattle.sn_laws.proofs.Facts.{same_text, text_same}
use Rattle.sn_laws.specs.Lookups.{Bytes}
use Rattle.sn_rows.specs.Table.{Rows}
use Rattle.sn_rows.specs.declared.device_rows.OwnerRow.{OwnerRow}
use Rattle.sn_rows.specs.declared.key.Slot.TheVariants.{Asked}
use Rattle.sn_sets.specs.declared.sets.Sets.{Sets}
use Rattle.sn_string.specs.declared.params.KeySet.{KeySet}
use Rattle.sn_sync.specs.declared.request.Request.{Request}
use Rattle.sn_world.specs.Calls.{IsAskedFor, IsNoneOr}

-- under the session token of the beginning the set that was asked for then, where there is one; under any other token the new one
abbrev pub begins_new : Bytes → Option KeySet → KeySet → Request → Option KeySet
begins_new before None set r = Some set
begins_new before (Some asked) set r = if bytes_eq (session_of r) before then Some asked else Some set

-- where a set was asked for, the token is another than before
abbrev pub IsPast : Option KeySet → Bytes → Bytes → Type 0
IsPast None token before = Unit {0}
IsPast (Some asked) token before = token ≢ before

pub begins_asked : (asked : Option KeySet) (set : KeySet) (owner : OwnerRow) (present old : KeySet) → asked ≡ Some old
    → begins_new owner.token asked set (change_to owner present old) ≡ Some old
begins_asked None set owner present old is = absurd (cc)
begins_asked (Some asked) set owner present old is =
    ap (λ (b : Bool). if b then Some asked else Some set) (text_same owner.token owner.token refl) ∙ is

pub begins_past : (asked : Option KeySet) (set : KeySet) (before : Bytes) (owner : OwnerRow) (present : KeySet) → IsPast asked owner.token before
    → begins_new before asked set (change_to owner present set) ≡ Some set
begins_past None set before owner present past = refl
begins_past (Some asked) set before owner present past = by (bytes_eq owner.token before) refl
  where
    by : (b : Bool) → bytes_eq owner.token before ≡ b → (if bytes_eq owner.token before then Some asked else Some set) ≡ Some set
    by true same = absurd (past (same_text owner.token before same))
    by false off = ap (λ (b : Bool). if b then Some asked else Some set) off

-- a set in the slot is asked for
pub asked_for : (rows : Rows) (owner : OwnerRow) (sets : Sets) (set : KeySet) → HasSets rows owner sets → sets.asked ≡ Some set → IsAskedFor rows set
asked_for rows owner sets set holds is = (owner, holds.owned, subst (λ (o : Option KeySet). IsInSlot rows owner.identifier Asked o) is holds.wanted)

pub none_or : (P : KeySet → Type 0) (found : Option KeySet) → ((set : KeySet) → found ≡ Some set → P set) → IsNoneOr P found
none_or P None so = tt
none_or P (Some set) so = so set refl

-- each set that a change may begin is of its password or was asked for
pub new_or_asked : (P : KeySet → Type 0) (before : Bytes) (asked : Option KeySet) (set : KeySet) → P set → ((old : KeySet) → asked ≡ Some old → P old)
    → (r : Request) → IsNoneOr P (begins_new before asked set r)
new_or_asked P before None set new old r = new
new_or_asked P before (Some asked) set new old r = by (bytes_eq (session_of r) before)
  where
    by : (b : Bool) → IsNoneOr P (if b then Some asked else Some set)
    by true = old asked refl
    by false = new

-- What tests of a params part say.
use Rattle.std.proofs.Common.{arith, ◌≡◌, ◌↔◌, refl, subst, ℕ, ◌≤◌, List, length, Bool, true, false, Option, Some, None, IsTrue}
use Rattle.std.specs.Prelude.{IfSome, IfNone, IsSome}
use Rattle.sn_string.specs.Base64.{IsBase64}
use Rattle.sn_string.specs.Lent.{lent_params}
use Rattle.sn_string.specs.Parameters.{IsParamsJson, IsParamsPart}
use Rattle.sn_string.specs.Refusals.{IsNoParamsPart}
use Rattle.sn_string.specs.declared.lent.LentParams.{LentParams}
use Rattle.sn_string.specs.declared.params.Params.{Params}
use Rattle.sn_string.proofs.Unique.{one_params}

-- lent parameters of the JSON are those of the part
pub lent_part : (part json : List ℕ) (found : Option LentParams) → length part ≤ 512 → IsBase64 part json
    → IfSome found (λ lent. IsParamsJson json (lent_params lent)) → IfSome found (λ lent. IsParamsPart part (lent_params lent))
lent_part part json None few encoded says = tt
lent_part part json (Some lent) few encoded says = record { short = omega (arith, few); json = json; encoded = encoded; says = says }

-- a part with lent parameters stands for some
pub part_lent : (part : List ℕ) (found : Option LentParams) → IfSome found (λ lent. IsParamsPart part (lent_params lent)) → IsSome found
    → IsTrue true ↔ ((p : Params) × IsParamsPart part p)
part_lent part None says some = absurd cc
part_lent part (Some lent) says some = (λ _. (lent_params lent, says), λ _. refl)

-- one that was read does where there was something
pub part_read : (part : List ℕ) (found : Option Params) (is : Bool) → IfSome found (IsParamsPart part) → IfNone found (IsNoParamsPart part)
    → (IsTrue is ↔ IsSome found) → (IsTrue is ↔ ((p : Params) × IsParamsPart part p))
part_read part None is some none test = (λ holds. absurd (let e = test.0 holds in cc), λ has. absurd (none has.0 has.1))
part_read part (Some p) is some none test = (λ _. (p, some), λ _. test.1 refl)

-- a part that stands for parameters stands for others where they are the same
pub part_same : (part : List ℕ) (p q : Params) (is : Bool) → IsParamsPart part p → (IsTrue is ↔ (p ≡ q)) → (IsTrue is ↔ IsParamsPart part q)
part_same part p q is says test = (λ holds. subst (λ r. IsParamsPart part r) (test.0 holds) says, λ has. test.1 (one_params part p q says has))

pub part_none : (part : List ℕ) (q : Params) → IsNoParamsPart part → (IsTrue false ↔ IsParamsPart part q)
part_none part q none = (λ holds. absurd cc, λ has. absurd (none q has))

use Rattle.std.proofs.Common.{◌≡◌, ◌≤◌, ℕ, List, arith}
use Rattle.sn_command.specs.DeviceLines.{GivesDeviceCost}
use Rattle.sn_command.specs.Named.{GivesCost}
use Rattle.sn_command.proofs.OneLine.{one_cost}
use Rattle.sn_command.proofs.device_line.device_cost_option.Goals as goal

-- the words give a device no cost but the one that was found
same_cost : (words : List (List ℕ)) (found cost : ℕ) → found ≤ 4294967295 → GivesCost words found → GivesDeviceCost words cost → found ≡ cost
same_cost words found cost fits given gives =
    let most : cost ≤ 10000000 = gives.most in
    one_cost words found cost fits (omega arith) given gives.given

-- a cost of a device is a cost
cost_of_device : (words : List (List ℕ)) (cost : ℕ) → GivesDeviceCost words cost → (1 ≤ cost) × (cost ≤ 4294967295)
cost_of_device words cost gives =
    let least : 110000 ≤ cost = gives.least in
    let most : cost ≤ 10000000 = gives.most in
    (omega arith, omega arith)

pub returns-else-cost-ge-LEAST_COST-clause-none : goal.returns-else-cost-ge-LEAST_COST-clause-none
returns-else-cost-ge-LEAST_COST-clause-none c words cost given gives =
    let found = c.in_ok-cost.ensures.some in
    let same : c.in_ok-cost.cost ≡ cost = same_cost words c.in_ok-cost.cost cost found.0.1 (found.1 words given) gives in
    let least : 110000 ≤ cost = gives.least in
    let most : cost ≤ 10000000 = gives.most in
    let out = c.else-cost-ge-LEAST_COST.either in
    omega arith

pub returns-in_err-cost-clause-none : goal.returns-in_err-cost-clause-none
returns-in_err-cost-clause-none c = rw c.from_residual.ensures (λ words cost given gives.
    c.in_err-cost.ensures.none words cost given (cost_of_device words cost gives) gives.given)

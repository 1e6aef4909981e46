-- A set of a password.
use Rattle.std.specs.Prelude.{◌≡◌, ◌*◌, ◌≤◌, ℕ, length}
use Rattle.std.proofs.Common.{arith, sym, ap, subst, ◌∙◌}
use Rattle.hex.specs.Hex.{encode_lower, lower_digits}
use Rattle.hex.proofs.HexLemmas.{length-encode_with}
use Rattle.sn_keys.specs.Keys.{AreKeysOf}
use Rattle.sn_string.specs.Bounds.{IsCost, IsIdentifier, IsNonce}
use Rattle.sn_string.specs.declared.params.KeySet.{KeySet}
use Rattle.sn_string.specs.declared.params.Params.{Params}
use Rattle.sn_joining.specs.Accounts.{IsSetWith}
use Rattle.sn_device.specs.States.{Bytes}

-- the parts are within the bounds of parameters
pub params_fit : (identifier nonce bytes : Bytes) (cost : ℕ) → IsIdentifier identifier → 1 ≤ cost → cost ≤ 4294967295 → nonce ≡ encode_lower bytes
    → length bytes ≡ 32 → IsIdentifier identifier × IsCost cost × IsNonce nonce
params_fit identifier nonce bytes cost named least most spelled long =
    let digits : length nonce ≡ 2 * length bytes = ap (λ (l : Bytes). length l) spelled ∙ length-encode_with lower_digits bytes in
    (named, (least, most), (omega arith, omega arith))

pub set_with : (nonce identifier password : Bytes) (cost : ℕ) (params : Params) (set : KeySet)
    → (params.identifier ≡ identifier) × (params.pw_cost ≡ cost) × (params.pw_nonce ≡ encode_lower nonce) → AreKeysOf password params set
    → IsSetWith nonce identifier password cost set
set_with nonce identifier password cost params set parts keys = record {
  identifier_is = ap (λ (p : Params). p.identifier) keys.params ∙ parts.0;
  cost_is = ap (λ (p : Params). p.pw_cost) keys.params ∙ parts.1;
  nonce_is = ap (λ (p : Params). p.pw_nonce) keys.params ∙ parts.2;
  keys = subst (λ (p : Params). AreKeysOf password p set) (sym keys.params) keys;
}

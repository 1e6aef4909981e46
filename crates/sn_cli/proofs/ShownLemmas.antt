-- The bytes of a ciphertext beside the lines that tell their number.
use Rattle.std.proofs.Common.{◌≡◌, ℕ, List, length, Result, Ok, Err, IfOk, String, string_bytes}
use Rattle.std.specs.declared.alloc.AllocError.{AllocError}
use Rattle.std.specs.declared.alloc.Global.{Global}
use Rattle.sn_cli.specs.Shown.{shown_lines}
use Rattle.sn_string.specs.Base64.{IsBase64}
use Rattle.sn_string.specs.Grammar.{Reading}

pub with_bytes : (lines : Result (String Global) AllocError) (part bytes : List ℕ) (reading : Reading) → IsBase64 part bytes
    → IfOk lines (λ text. string_bytes text ≡ shown_lines reading (length bytes))
    → IfOk lines (λ text. (bytes : List ℕ) × IsBase64 part bytes × (string_bytes text ≡ shown_lines reading (length bytes)))
with_bytes (Ok text) part bytes reading stands is = (bytes, stands, is)
with_bytes (Err error) part bytes reading stands is = tt

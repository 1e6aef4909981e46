-- An account's row with another session token.
use Rattle.std.specs.Prelude.{◌≡◌, ◌≤◌, IsTrue, nat_le, [], ◌∷◌}
use Rattle.std.specs.List.{AllByRecursion, list_all}
use Rattle.std.proofs.Common.{arith, refl, sym, subst}
use Rattle.std.proofs.lemmas.Bool.{and_from}
use Rattle.std.proofs.lemmas.Bool.Decides.{nat_tests}
use Rattle.std.proofs.lemmas.List.Elements.{recursion_from_All}
use Rattle.sn_rows.specs.Bounds.{HasLength, IsVisible, is_visible}
use Rattle.sn_rows.specs.declared.device_rows.OwnerRow.{OwnerRow}
use Rattle.sn_sync.specs.Members.{IsSessionToken}
use Rattle.sn_device.specs.States.{Bytes}
use Rattle.sn_device.proofs.Facts.{lengths}

pub visible : (text : Bytes) → AllByRecursion (λ c. (33 ≤ c) × (c ≤ 126)) text → IsTrue (list_all is_visible text)
visible [] all = refl
visible (byte ∷ text) (here, later) =
    let low : IsTrue (nat_le 33 byte) = grind (arith, nat_tests, here.0) in
    let high : IsTrue (nat_le byte 126) = grind (arith, nat_tests, here.1) in
    and_from (is_visible byte) (list_all is_visible text) (and_from (nat_le 33 byte) (nat_le byte 126) low high) (visible text later)

-- an account's row takes another session token
pub renewed_fits : (owner : OwnerRow) (identifier token sync cursor : Bytes) → identifier ≡ owner.identifier → sync ≡ owner.sync_token
    → cursor ≡ owner.cursor_token → IsSessionToken token
    → HasLength 1 254 identifier × HasLength 1 1024 token × IsVisible token × HasLength 0 33554432 sync × HasLength 0 33554432 cursor
renewed_fits owner identifier token sync cursor named synced paged session = (
  subst (λ (t : Bytes). HasLength 1 254 t) (sym named) (lengths 1 254 owner.identifier owner.identifier_fits),
  (session.0, session.1),
  visible token (recursion_from_All (λ c. (33 ≤ c) × (c ≤ 126)) token session.2),
  subst (λ (t : Bytes). HasLength 0 33554432 t) (sym synced) (lengths 0 33554432 owner.sync_token owner.sync_token_fits),
  subst (λ (t : Bytes). HasLength 0 33554432 t) (sym paged) (lengths 0 33554432 owner.cursor_token owner.cursor_token_fits),
)

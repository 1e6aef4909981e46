-- What an account's answer has.
use Rattle.std.specs.Prelude.{◌≡◌, ◌≤◌, length, List, [], Ok}
use Rattle.std.proofs.Common.{arith, inl, inr, ap, subst}
use Rattle.std.proofs.lemmas.List.Elements.{recursion_from_All}
use Rattle.sn_net.specs.Exchanges.{Exchange}
use Rattle.sn_rows.specs.Bounds.{HasLength, IsVisible}
use Rattle.sn_string.specs.Bounds.{IsIdentifier}
use Rattle.sn_sync.specs.Members.{IsSessionToken}
use Rattle.sn_sync.specs.declared.answer.Answer.TheVariants as answer
use Rattle.sn_sync.specs.declared.request.Request.{Request}
use Rattle.sn_exchange.specs.Asked.{AsksOnce, IsAsked}
use Rattle.sn_device.specs.Asking.{Reply}
use Rattle.sn_joining.specs.Accounts.{GivesAccount}
use Rattle.sn_device.specs.States.{Bytes}
use Rattle.sn_local.proofs.Facts.{visible}

-- the answer that came is an account
pub given_account : (asks : List Exchange → Type 0) (host : Bytes) (r : Request) (token identifier uuid : Bytes)
    → IsAsked asks host r (Ok (answer.Account token identifier uuid)) → GivesAccount asks host r uuid token
given_account asks host r token identifier uuid (inl (none, is)) = absurd cc
given_account asks host r token identifier uuid (inr (reply, once, is)) = (identifier, subst (λ (p : Reply). AsksOnce asks host r p) is once)

-- an account's row takes them
pub owner_fits : (identifier token none other : Bytes) → IsIdentifier identifier → IsSessionToken token → none ≡ [] → other ≡ []
    → HasLength 1 254 identifier × HasLength 1 1024 token × IsVisible token × HasLength 0 33554432 none × HasLength 0 33554432 other
owner_fits identifier token none other named session empty too =
    let e : length none ≡ 0 = ap (λ (l : Bytes). length l) empty in
    let f : length other ≡ 0 = ap (λ (l : Bytes). length l) too in
    (named, (session.0, session.1), visible token (recursion_from_All (λ c. (33 ≤ c) × (c ≤ 126)) token session.2), (omega arith, omega arith), (omega arith, omega arith))

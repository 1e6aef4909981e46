-- What is known of a request tells what it is as far as its moves need it.
use Rattle.std.proofs.Common.{◌≡◌, Some, refl}
use Rattle.sn_order.specs.Order.{is_sync}
use Rattle.sn_sync.specs.Requests.{route_of}
use Rattle.sn_sync.specs.declared.request.Request.{Request}
use Rattle.sn_sync.specs.declared.request.Request.TheVariants as request
use Rattle.sn_sync.specs.declared.request.Route.TheVariants as route
use Rattle.sn_telling.specs.Walking.{asks_sync, known_of}
use Rattle.sn_telling.specs.declared.known.Known.TheVariants as known

-- whether it is a sync
pub asks_known : (r : Request) → asks_sync (Some (known_of r)) ≡ is_sync r
asks_known (request.Register params pw) = refl
asks_known (request.Params identifier) = refl
asks_known (request.SignIn identifier pw) = refl
asks_known (request.ChangePw token current pw cost nonce) = refl
asks_known (request.Sync token items limit sync_token cursor_token) = refl

pub sync_known : (r : Request) → route_of r ≡ route.Sync → known_of r ≡ known.Sync
sync_known (request.Register params pw) on = absurd (let impossible : ⊥ = cc in impossible)
sync_known (request.Params identifier) on = absurd (let impossible : ⊥ = cc in impossible)
sync_known (request.SignIn identifier pw) on = absurd (let impossible : ⊥ = cc in impossible)
sync_known (request.ChangePw token current pw cost nonce) on = absurd (let impossible : ⊥ = cc in impossible)
sync_known (request.Sync token items limit sync_token cursor_token) on = refl

pub known_sync : (r : Request) → known_of r ≡ known.Sync → route_of r ≡ route.Sync
known_sync (request.Register params pw) is = absurd (let impossible : ⊥ = cc in impossible)
known_sync (request.Params identifier) is = absurd (let impossible : ⊥ = cc in impossible)
known_sync (request.SignIn identifier pw) is = absurd (let impossible : ⊥ = cc in impossible)
known_sync (request.ChangePw token current pw cost nonce) is = absurd (let impossible : ⊥ = cc in impossible)
known_sync (request.Sync token items limit sync_token cursor_token) is = refl

-- the whole of another
pub known_whole : (r other : Request) → known_of r ≡ known.Other other → other ≡ r
known_whole (request.Register params pw) other is = cc
known_whole (request.Params identifier) other is = cc
known_whole (request.SignIn identifier pw) other is = cc
known_whole (request.ChangePw token current pw cost nonce) other is = cc
known_whole (request.Sync token items limit sync_token cursor_token) other is = absurd (let impossible : ⊥ = cc in impossible)

-- A request whose body was read.
use Rattle.std.proofs.Common.{◌≡◌, inr, Result, IfErr, IfOk}
use Rattle.std.proofs.lemmas.Result.{IfOk-weaker}
use Rattle.serde_json.specs.Data.{Data}
use Rattle.sn_sync.specs.Fits.{FitsRequest}
use Rattle.sn_sync.specs.Members.{Bytes}
use Rattle.sn_sync.specs.Refusals.{Caused}
use Rattle.sn_sync.specs.Requests.{HasBody, HasToken, RefusesBody, Says, SaysBody, route_of}
use Rattle.sn_sync.specs.declared.error.SyncError.{SyncError}
use Rattle.sn_sync.specs.declared.request.Request.{Request}
use Rattle.sn_sync.specs.declared.request.Route.{Route}
use Rattle.sn_sync.proofs.Chains.{IfErr-caused}
use Rattle.sn_sync.proofs.Fits.{says_fits}

module _ (on : Route) (refuses : Data → SyncError → Type 0) (text : Bytes) (d : Data) (r : Result Request SyncError) (body : HasBody text d) where
  pub refused : IfErr r (Caused (refuses d)) → IfErr r (Caused (RefusesBody refuses text))
  refused err = IfErr-caused (refuses d) (RefusesBody refuses text) r (λ e wrong. inr (d, body, wrong)) err

  pub said : IfOk r (λ q. (route_of q ≡ on) × Says d q) → IfOk r (SaysBody on text) × IfOk r FitsRequest
  said ok = (IfOk-weaker r _ (SaysBody on text) (λ q h. (h.0, (d, body, h.1))) ok, IfOk-weaker r _ FitsRequest (λ q h. says_fits d q h.1) ok)

  pub said_with : (token : Bytes) → IfOk r (λ q. (route_of q ≡ on) × Says d q × HasToken token q) → IfOk r (λ q. SaysBody on text q × HasToken token q) × IfOk r FitsRequest
  said_with token ok = (
    IfOk-weaker r _ (λ q. SaysBody on text q × HasToken token q) (λ q h. ((h.0, (d, body, h.1)), h.2)) ok,
    IfOk-weaker r _ FitsRequest (λ q h. says_fits d q h.1) ok,
  )

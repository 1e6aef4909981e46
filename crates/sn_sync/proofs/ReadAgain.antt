-- What was read is written so that it is read again.
use Rattle.std.proofs.Common.{◌≡◌, refl, subst}
use Rattle.sn_sync.specs.Laws.{AnswersReadAgain, RequestsReadAgain, token_of}
use Rattle.sn_sync.specs.Members.{Bytes}
use Rattle.sn_sync.specs.Requests.{IsRequest, SaysQuery, route_of}
use Rattle.sn_sync.specs.Written.{WritesRequest}
use Rattle.sn_sync.specs.declared.request.Request.{Request}
use Rattle.sn_sync.specs.declared.request.Request.TheVariants as request
use Rattle.sn_sync.specs.declared.request.Route.{Route}
use Rattle.sn_sync.specs.declared.request.Route.TheVariants as route
use Rattle.sn_sync.proofs.AnswersBack.{answers_read_back}
use Rattle.sn_sync.proofs.Fits.{answers_fit, requests_fit}
use Rattle.sn_sync.proofs.RequestsBack.{requests_read_back}

-- only a request for parameters is in a query
asks : (text : Bytes) (r : Request) → SaysQuery text r → route_of r ≡ route.Params
asks text (request.Params identifier) h = refl
asks text (request.Register params pw) h = absurd h
asks text (request.SignIn identifier pw) h = absurd h
asks text (request.ChangePw token current pw cost nonce) h = absurd h
asks text (request.Sync token items limit sync_token cursor_token) h = absurd h

-- the text that is written says the request on its own route
again : (on : Route) (token text written : Bytes) (r : Request) → IsRequest on token text r → route_of r ≡ on → WritesRequest r written
    → IsRequest on (token_of r) written r
again on token text written r h is w =
    let P : Route → Type 0 = λ o. IsRequest o (token_of r) written r in
    subst P is (requests_read_back r written (requests_fit on token text r h) w)

pub requests_read_again : RequestsReadAgain
requests_read_again route.Params token text written r h w = again route.Params token text written r h (asks text r h) w
requests_read_again route.Register token text written r h w = again route.Register token text written r h h.0 w
requests_read_again route.SignIn token text written r h w = again route.SignIn token text written r h h.0 w
requests_read_again route.ChangePw token text written r h w = ((again route.ChangePw token text written r h h.0.0 w).0, h.1)
requests_read_again route.Sync token text written r h w = ((again route.Sync token text written r h h.0.0 w).0, h.1)

pub answers_read_again : AnswersReadAgain
answers_read_again on status text written a h w = answers_read_back on status a written (answers_fit on status text a h) w

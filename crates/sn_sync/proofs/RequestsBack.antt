-- The text of a request that is within its bounds says that request.
use Rattle.std.proofs.Common.{rules, ◌∙◌, ap, sym, subst, codes, inl, refl}
use Rattle.serde_json.specs.Data.{Data}
use Rattle.sn_sync.specs.Laws.{token_of}
use Rattle.sn_sync.specs.Fits.{FitsRequest}
use Rattle.sn_sync.specs.Members.{Bytes, IsObject}
use Rattle.sn_sync.specs.Query.{first_value}
use Rattle.sn_sync.specs.Requests.{HasBody, IsRequest, Says, route_of}
use Rattle.sn_sync.specs.Written.{IsJsonOf, IsRequestData, WritesRequest}
use Rattle.sn_sync.specs.declared.request.Request.{Request}
use Rattle.sn_sync.specs.declared.request.Request.TheVariants as request
use Rattle.sn_sync.proofs.ItemsBack.{AreItems-sent, SaysHash-data, SaysOptional-data}
use Rattle.sn_sync.proofs.QueryBack.{first_value-query}

pub HasBody-json : (d : Data) (text : Bytes) → IsObject d → IsJsonOf d text → HasBody text d
HasBody-json d text object h = (h.utf8, h.reads, object)

-- the value of a request says it
says-data : (r : Request) (d : Data) → FitsRequest r → IsRequestData r d → Says d r
says-data (request.Register params pw) d fits is =
    let P : Data → Type 0 = λ x. Says x (request.Register params pw) in
    subst P (sym is) (record {
      email = (refl, params.identifier_fits);
      password = SaysHash-data _ pw fits refl;
      pw_cost = (refl, params.cost_fits);
      pw_nonce = (refl, params.nonce_fits);
      version = (refl, refl);
    })
says-data (request.Params identifier) d fits is = absurd is
says-data (request.SignIn identifier pw) d fits is =
    let P : Data → Type 0 = λ x. Says x (request.SignIn identifier pw) in
    subst P (sym is) (record { email = (refl, fits.0); password = SaysHash-data _ pw fits.1 refl })
says-data (request.ChangePw token current pw cost nonce) d fits is =
    let P : Data → Type 0 = λ x. Says x (request.ChangePw token current pw cost nonce) in
    subst P (sym is) (record {
      current_password = SaysHash-data _ current fits.0 refl;
      new_password = SaysHash-data _ pw fits.1 refl;
      pw_cost = (refl, fits.2);
      pw_nonce = (refl, fits.3);
      version = (refl, refl);
    })
says-data (request.Sync token items limit sync_token cursor_token) d fits is =
    let P : Data → Type 0 = λ x. Says x (request.Sync token items limit sync_token cursor_token) in
    subst P (sym is.2) (record {
      api = (refl, refl);
      cursor = SaysOptional-data _ cursor_token refl;
      incoming = (is.0, refl, AreItems-sent items is.0 fits.0 is.1);
      bound = inl (refl, fits.1, fits.2);
      token = SaysOptional-data _ sync_token refl;
    })

-- and is an object
object-data : (r : Request) (d : Data) → IsRequestData r d → IsObject d
object-data (request.Register params pw) d is = subst IsObject (sym is) (search rules)
object-data (request.Params identifier) d is = absurd is
object-data (request.SignIn identifier pw) d is = subst IsObject (sym is) (search rules)
object-data (request.ChangePw token current pw cost nonce) d is = subst IsObject (sym is) (search rules)
object-data (request.Sync token items limit sync_token cursor_token) d is = subst IsObject (sym is.2) (search rules)

body : (r : Request) (text : Bytes) → FitsRequest r → (d : Data) × IsRequestData r d × IsJsonOf d text → (d : Data) × HasBody text d × Says d r
body r text fits (d, is, h) = (d, HasBody-json d text (object-data r d is) h, says-data r d fits is)

pub requests_read_back : (r : Request) (text : Bytes) → FitsRequest r → WritesRequest r text → IsRequest (route_of r) (token_of r) text r
requests_read_back (request.Register params pw) text fits h = (refl, body (request.Register params pw) text fits h)
requests_read_back (request.Params identifier) text fits h = (ap (first_value (codes "email")) h ∙ first_value-query identifier fits.1, fits.0)
requests_read_back (request.SignIn identifier pw) text fits h = (refl, body (request.SignIn identifier pw) text fits h)
requests_read_back (request.ChangePw token current pw cost nonce) text fits h =
    ((refl, body (request.ChangePw token current pw cost nonce) text fits h), refl)
requests_read_back (request.Sync token items limit sync_token cursor_token) text fits h =
    ((refl, body (request.Sync token items limit sync_token cursor_token) text fits h), refl)

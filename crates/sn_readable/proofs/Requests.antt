-- The requests of registration, sign-in and a change of password are readable.
use Rattle.std.proofs.Common.{ℕ, refl, inl, inr, arith}
use Rattle.sn_device.specs.States.{Bytes}
use Rattle.sn_link.specs.Laws.{IsReadable, ReadableWithin}
use Rattle.sn_string.specs.declared.params.Params.{Params}
use Rattle.sn_sync.specs.Fits.{AreBytes, FitsRequest}
use Rattle.sn_sync.specs.Members.{IsSessionToken}
use Rattle.sn_sync.specs.declared.request.Request.TheVariants as request
use Rattle.sn_readable.proofs.Bodies.{change_short, register_short, sign_in_short}
use Rattle.sn_readable.specs.Laws.{IsHostName}

module _ (within : ReadableWithin) (host : Bytes) (named : IsHostName host) where
  pub register_readable : (params : Params) (pw : Bytes) → AreBytes 32 pw → IsReadable host (request.Register params pw)
  register_readable params pw fits =
      within host (request.Register params pw) fits named.0 named.1 (inl refl) (λ text writes. register_short params pw text fits writes)

  pub params_readable : (identifier : Bytes) → FitsRequest (request.Params identifier) → IsReadable host (request.Params identifier)
  params_readable identifier fits = within host (request.Params identifier) fits named.0 named.1 (inl refl) (λ text writes. omega arith)

  pub sign_in_readable : (identifier pw : Bytes) → FitsRequest (request.SignIn identifier pw) → IsReadable host (request.SignIn identifier pw)
  sign_in_readable identifier pw fits =
      within host (request.SignIn identifier pw) fits named.0 named.1 (inl refl) (λ text writes. sign_in_short identifier pw text fits.0 fits.1 writes)

  pub change_readable : (token current pw : Bytes) (dear : ℕ) (nonce : Bytes) → FitsRequest (request.ChangePw token current pw dear nonce) → IsSessionToken token
      → IsReadable host (request.ChangePw token current pw dear nonce)
  change_readable token current pw dear nonce fits session =
      within host (request.ChangePw token current pw dear nonce) fits named.0 named.1 (inr session)
      (λ text writes. change_short token current pw dear nonce text fits.0 fits.1 fits.2 fits.3 writes)

use Rattle.std.proofs.Common.{sym, subst}
use Rattle.std.proofs.lemmas.Result.{IfOk-weaker}
use Rattle.sn_json.specs.Views.{view}
use Rattle.sn_sync.specs.Fits.{FitsRequest}
use Rattle.sn_sync.specs.Requests.{HasBody, RefusesChange, RefusesRegistration, RefusesSignIn, RefusesSync}
use Rattle.sn_sync.specs.declared.request.Route.TheVariants as route
use Rattle.sn_sync.proofs.Bodies.{refused, said, said_with}
use Rattle.sn_sync.proofs.Fits.{query_fits}
use Rattle.sn_sync.proofs.request_reader.read_request.Goals as goal

pub returns-in-Params-clause-fits : goal.returns-in-Params-clause-fits
returns-in-Params-clause-fits c = IfOk-weaker c.question.result _ FitsRequest (λ r h. query_fits _ r h) c.question.ensures.ok

pub returns-in-Register : goal.returns-in-Register
returns-in-Register c =
    let text = c.args.text.now in
    let d = view c.root-body.result in
    let body : HasBody text d = subst (HasBody text) (sym c.root-body.ensures) c.in_ok-document.ensures.ok in
    let ok = said route.Register RefusesRegistration text d c.registration.result body c.registration.ensures.ok in
    record {
      ok = rw c.in-Register.is ok.0;
      fits = ok.1;
      err = rw c.in-Register.is (refused route.Register RefusesRegistration text d c.registration.result body c.registration.ensures.err);
    }

pub returns-in-SignIn : goal.returns-in-SignIn
returns-in-SignIn c =
    let text = c.args.text.now in
    let d = view c.root-body.result in
    let body : HasBody text d = subst (HasBody text) (sym c.root-body.ensures) c.in_ok-document.ensures.ok in
    let ok = said route.SignIn RefusesSignIn text d c.sign_in.result body c.sign_in.ensures.ok in
    record {
      ok = rw c.in-SignIn.is ok.0;
      fits = ok.1;
      err = rw c.in-SignIn.is (refused route.SignIn RefusesSignIn text d c.sign_in.result body c.sign_in.ensures.err);
    }

pub returns-in-ChangePw : goal.returns-in-ChangePw
returns-in-ChangePw c =
    let text = c.args.text.now in
    let d = view c.root-body.result in
    let body : HasBody text d = subst (HasBody text) (sym c.root-body.ensures) c.in_ok-document.ensures.ok in
    let ok = said_with route.ChangePw RefusesChange text d c.change.result body c.args.token.now c.change.ensures.ok in
    record {
      ok = rw c.in-ChangePw.is ok.0;
      fits = ok.1;
      err = rw c.in-ChangePw.is (refused route.ChangePw RefusesChange text d c.change.result body c.change.ensures.err);
    }

pub returns : goal.returns
returns c =
    let text = c.args.text.now in
    let d = view c.root-body.result in
    let body : HasBody text d = subst (HasBody text) (sym c.root-body.ensures) c.in_ok-document.ensures.ok in
    let ok = said_with route.Sync RefusesSync text d c.sync.result body c.args.token.now c.sync.ensures.ok in
    record {
      ok = rw c.in-Sync.is ok.0;
      fits = ok.1;
      err = rw c.in-Sync.is (refused route.Sync RefusesSync text d c.sync.result body c.sync.ensures.err);
    }

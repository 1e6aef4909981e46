use Rattle.std.proofs.Common.{rules, arith, ◌≡◌, ◌↔◌, ◌∙◌, sym, take, IsTrue}
use Rattle.sn_string.proofs.Base64Facts.{base64_over, fits_then}
use Rattle.sn_string.proofs.plain_params.is_base64_of.Goals as goal

pub returns-in-Ok : goal.returns-in-Ok
returns-in-Ok c = λ yes.
    let test : IsTrue c.eq.result ↔ (take c.in-Ok.count c.encode_slice.new.output ≡ c.args.text.now) = search rules in
    let full = fits_then c.encode_slice.result _ _ c.in-Ok.count _ c.in-Ok.is c.encode_slice.ensures.fits c.encode_slice.ensures.too_small in
    record {
      fit = λ i. let fits = c.type_inv.bytes i in omega arith;
      spelled = sym (test.0 yes) ∙ base64_over c.args.bytes.now _ _ c.in-Ok.count full c.in-Ok.ensures.written;
    }

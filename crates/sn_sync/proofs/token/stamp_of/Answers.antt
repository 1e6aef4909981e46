use Rattle.std.proofs.Common.{arith, ◌≡◌, ◌∙◌, sym, Ok, take, replicate}
use Rattle.base64.specs.Engines.{standard}
use Rattle.base64.specs.GeneralPurpose.{decode_of}
use Rattle.sn_sync.proofs.Cases.{IfNone-weaker, IfSome-weaker}
use Rattle.sn_sync.proofs.TokenFacts.{IsToken-decoded, decoded_into, length-token-le, same_decoded, undecoded}
use Rattle.sn_sync.proofs.token.stamp_of.Goals as goal

pub returns-then-text-gt-MAX_LEN-clause-none : goal.returns-then-text-gt-MAX_LEN-clause-none
returns-then-text-gt-MAX_LEN-clause-none c = λ stamp token. omega (arith, length-token-le c.args.text.now stamp token)

pub returns-in_err-len-clause-none : goal.returns-in_err-len-clause-none
returns-in_err-len-clause-none c = rw c.from_residual.ensures
    (undecoded c.args.text.now c.decode_slice_unchecked.result c.decode_slice_unchecked.ensures.err (sym c.ok.ensures.value ∙ c.in_err-len.was))

pub returns-clause-some : goal.returns-clause-some
returns-clause-some c =
    let decoded : decode_of standard c.args.text.now ≡ Ok (take c.in_ok-len.len c.decode_slice_unchecked.new.output) =
    decoded_into c.args.text.now (replicate 21 0) _ _ c.decode_slice_unchecked.result c.decode_slice_unchecked.ensures.ok (sym c.ok.ensures.value ∙ c.in_ok-len.was) in
    IfSome-weaker c.stamp_in.result _ _ (λ stamp h. IsToken-decoded c.args.text.now _ stamp (λ i. let fits = c.type_inv.text i in omega arith) decoded h.0 h.1) c.stamp_in.ensures.some

pub returns-clause-none : goal.returns-clause-none
returns-clause-none c =
    let decoded : decode_of standard c.args.text.now ≡ Ok (take c.in_ok-len.len c.decode_slice_unchecked.new.output) =
    decoded_into c.args.text.now (replicate 21 0) _ _ c.decode_slice_unchecked.result c.decode_slice_unchecked.ensures.ok (sym c.ok.ensures.value ∙ c.in_ok-len.was) in
    IfNone-weaker c.stamp_in.result _ _ (λ none stamp token. none stamp token.bound (same_decoded c.args.text.now _ stamp decoded token)) c.stamp_in.ensures.none

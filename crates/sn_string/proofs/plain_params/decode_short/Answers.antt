use Rattle.std.proofs.Common.{arith, ◌≡◌, subst, List, ℕ, Ok, take}
use Rattle.base64.specs.Engines.{standard}
use Rattle.base64.specs.GeneralPurpose.{decode_of}
use Rattle.sn_string.proofs.Pieces.{IsBase64-decoded}
use Rattle.sn_string.proofs.plain_params.decode_short.Goals as goal

pub returns-in-Ok-clause-encoded : goal.returns-in-Ok-clause-encoded
returns-in-Ok-clause-encoded c =
    let P : List ℕ → Type 0 = λ t. decode_of standard t ≡ Ok (take c.in-Ok.count c.decode_slice_unchecked.new.output) in
    IsBase64-decoded c.args.text.now c.decode_slice_unchecked.new.output c.in-Ok.count
    (λ i. let fits = c.type_inv.text i in omega arith) (λ i. let fits = c.type_inv.room i in omega arith)
    (subst P c.as_bytes.ensures.value c.in-Ok.ensures.ok.0)

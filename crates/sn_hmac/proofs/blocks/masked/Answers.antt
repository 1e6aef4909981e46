use Rattle.std.proofs.Common.{ℕ, ◌<◌, arith, bit_xor, get_or, length, length-set, ◌∙◌}
use Rattle.std.proofs.lemmas.List.{get_or_default}
use Rattle.std.proofs.lemmas.List.Edits.{map_over_more}
use Rattle.sn_hmac.proofs.blocks.masked.Goals as goal

pub bytes-preserved : goal.bytes-preserved
bytes-preserved g c =
    let i = c.bytes.i in
    let block = c.args.block.now in
    let so_far = c.bytes.masked in
    let x = get_or so_far i 0 in
    let within : i < length so_far = omega arith in (
      length-set so_far i _ ∙ c.bytes.invariant.0,
      map_over_more (λ (b : ℕ). bit_xor b c.args.byte) block so_far i x (omega arith) c.bytes.invariant.1
          (get_or_default so_far i 0 x within),
    )

use Rattle.std.proofs.Common.{arith}
use Rattle.sn_string.proofs.Pieces.{IsCiphertext-counted, counted-IsCiphertext}
use Rattle.sn_string.proofs.ciphertexts.is_ciphertext.Goals as goal

pub returns-then-count-gt0 : goal.returns-then-count-gt0
returns-then-count-gt0 c = (
  λ whole. IsCiphertext-counted c.args.text.now _ c.in-Some.count c.as_bytes.ensures.value c.in-Some.ensures.some c.if-count-gt0.true whole,
  λ h. (counted-IsCiphertext c.args.text.now _ c.in-Some.count c.as_bytes.ensures.value c.in-Some.ensures.some h).1,
)

pub returns-else-count-gt0 : goal.returns-else-count-gt0
returns-else-count-gt0 c = (
  λ some. grind (arith, some, c.if-count-gt0.false),
  λ h. absurd (omega (arith, (counted-IsCiphertext c.args.text.now _ c.in-Some.count c.as_bytes.ensures.value c.in-Some.ensures.some h).0)),
)

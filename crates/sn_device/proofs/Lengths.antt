-- A text's length by its test.
use Rattle.std.proofs.Common.{arith, ℕ, List, IsTrue}
use Rattle.std.proofs.lemmas.Bool.Decides.{nat_tests}
use Rattle.sn_rows.specs.Bounds.{HasLength, is_text_of}

pub lengths : (least most : ℕ) (text : List ℕ) → IsTrue (is_text_of least most text) → HasLength least most text
lengths least most text is = grind (arith, nat_tests)

-- The seed of a line, whose last bytes are written anew.
use Rattle.std.proofs.Common.{arith, ◌≡◌, ◌∙◌, ap, ℕ, List, [], ◌++◌, length, take, drop}
use Rattle.std.specs.Int.{w64, from_be_bytes, to_be_bytes}
use Rattle.std.specs.Int.RustNames.{bit_xor}
use Rattle.std.proofs.lemmas.List.{append-nil, drop_all, length-drop, take_all}
use Rattle.sn_course.specs.Settings.{line_seed}
use borrow.Rule.Slice.PartMut.{put_mid}

pub seed_written : (seed back written : List ℕ) (number : ℕ) → length seed ≡ 32 → back ≡ take 8 (drop 24 seed)
    → written ≡ to_be_bytes w64 (bit_xor (from_be_bytes w64 back) number)
    → put_mid 24 8 seed written ≡ line_seed seed number
seed_written seed back written number long back_is written_is =
    let eight : length (drop 24 seed) ≡ 8 = omega (arith, length-drop 24 seed, long) in
    let none : drop 8 (drop 24 seed) ≡ [] = drop_all 8 (drop 24 seed) (omega (arith, eight)) in
    let all : back ≡ drop 24 seed = back_is ∙ take_all 8 (drop 24 seed) (omega (arith, eight)) in
    let value : written ≡ to_be_bytes w64 (bit_xor (from_be_bytes w64 (drop 24 seed)) number) =
    written_is ∙ ap (λ (b : List ℕ). to_be_bytes w64 (bit_xor (from_be_bytes w64 b) number)) all in
    ap (λ (l : List ℕ). take 24 seed ++ (written ++ l)) none ∙ ap (λ (l : List ℕ). take 24 seed ++ l) (append-nil written ∙ value)

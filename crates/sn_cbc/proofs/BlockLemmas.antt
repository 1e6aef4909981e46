-- One block written into a text.
use Rattle.std.proofs.Common.{◌≡◌, ℕ, ◌+◌, ◌-◌, ◌≤◌, List, ◌++◌, length, take, drop, sym, ap, ◌∙◌, arith}
use Rattle.std.proofs.Math.Seq.{take-append_seam}
use Rattle.std.proofs.lemmas.List.{drop-drop, length-take-le, drop-append-le, take-append-le, take-take, drop-take, drop_at, length-drop}

-- a block of the text before the one that was written
pub before_write : (at k : ℕ) (text rest : List ℕ) → k + 16 ≤ at → at ≤ length text
    → take 16 (drop k (take at text ++ rest)) ≡ take 16 (drop k text)
before_write at k text rest low high =
    let front = length-take-le at text high in
    let start : k ≤ length (take at text) = omega (arith, front, low) in
    let parts : at ≡ k + (at - k) = omega (arith, low) in
    let middle : drop k (take at text) ≡ take (at - k) (drop k text) = ap (λ n. drop k (take n text)) parts ∙ drop-take k (at - k) text in
    let enough : 16 ≤ length (drop k (take at text)) = omega (arith, length-drop k (take at text), front, low) in
    ap (take 16) (drop-append-le k (take at text) rest start)
    ∙ take-append-le 16 (drop k (take at text)) rest enough
    ∙ ap (take 16) middle
    ∙ take-take 16 (at - k) (drop k text) (omega (arith, low))

-- the block that was written
pub at_write : (at : ℕ) (text block rest : List ℕ) → at ≤ length text → length block ≡ 16
    → take 16 (drop at (take at text ++ (block ++ rest))) ≡ block
at_write at text block rest high long =
    ap (take 16) (drop_at (take at text) (block ++ rest) at (length-take-le at text high))
    ∙ ap (λ n. take n (block ++ rest)) (sym long) ∙ take-append_seam block rest

-- the text behind it
pub after_write : (at : ℕ) (text block rest : List ℕ) → at ≤ length text → length block ≡ 16
    → drop (at + 16) (take at text ++ (block ++ rest)) ≡ rest
after_write at text block rest high long =
    sym (drop-drop 16 at (take at text ++ (block ++ rest)))
    ∙ ap (drop 16) (drop_at (take at text) (block ++ rest) at (length-take-le at text high))
    ∙ drop_at block rest 16 long

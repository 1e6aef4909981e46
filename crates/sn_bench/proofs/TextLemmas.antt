-- How the written HMACs grow.
use Rattle.std.proofs.Common.{◌≡◌, ℕ, ◌+◌, ◌*◌, ◌≤◌, List, ◌++◌, length, take, drop, slice_range, refl, ap₂, ◌∙◌, arith, add-one, append_assoc, length-append}
use Rattle.std.proofs.lemmas.List.{take_at, length-take-le}
use Rattle.sn_hmac.specs.Hmac.{hmac_sha256}
use Rattle.sn_bench.specs.Texts.{macs_of}

-- one more HMAC behind those so far
pub macs_more : (key texts before after digest : List ℕ) (i : ℕ) → 32 * i + 32 ≤ length before
    → take (32 * i) before ≡ macs_of key texts i → length digest ≡ 32
    → digest ≡ hmac_sha256 key (slice_range texts (64 * i) (64 * i + 64))
    → after ≡ take (32 * i) before ++ (digest ++ drop (32 * i + 32) before)
    → take (32 * (i + 1)) after ≡ macs_of key texts (i + 1)
macs_more key texts before after digest i room so_far whole is put =
    let front = take (32 * i) before ++ digest in
    let long : length front ≡ 32 * (i + 1) =
    length-append (take (32 * i) before) digest ∙ omega (arith, length-take-le (32 * i) before (omega arith)) in
    let cut : take (32 * (i + 1)) (front ++ drop (32 * i + 32) before) ≡ front =
    take_at front (drop (32 * i + 32) before) (32 * (i + 1)) long in
    let join : List ℕ → List ℕ → List ℕ = λ x y. x ++ y in
    rw (put, ← append_assoc) (cut ∙ ap₂ join so_far is ∙ rw (add-one i) refl)

-- How the list of the seeds that were given grows.
use Rattle.std.proofs.Common.{◌≡◌, ◌⊎◌, ◌<◌, ◌≤◌, ℕ, ◌+◌, ◌-◌, ◌^◌, min, List, [], ◌∷◌, ◌++◌, length, take, sym, ◌∙◌, ap, arith, inl, inr, append-nil, append_assoc, length-append, length-take}
use Rattle.std.proofs.lemmas.Bool.{cases_lt, lt-ltb, le-ltb}
use Rattle.std.proofs.Math.ListN.{replicate}
use Rattle.std.proofs.lemmas.List.{take_more, take_all, replicate_more, length-replicate, get_or_past}
use Rattle.sn_io.specs.Seeds.{seed_at, first_seeds, told_seeds}
use Rattle.sn_io.specs.Streams.{Gains}

longer : (seeds : List (List ℕ)) (n : ℕ) → (n < length seeds) ⊎ (length seeds ≤ n) → first_seeds seeds (n + 1) ≡ first_seeds seeds n ++ seed_at seeds n ∷ []
longer seeds n (inl lt) =
    let none : (n + 1) - length seeds ≡ 0 = omega arith in
    let none_yet : n - length seeds ≡ 0 = omega arith in
    rw (none, none_yet) (append-nil (take (n + 1) seeds) ∙ take_more seeds n (replicate 32 0) lt ∙ ap (λ (l : List (List ℕ)). l ++ seed_at seeds n ∷ []) (sym (append-nil (take n seeds))))
longer seeds n (inr le) =
    let zeros : List ℕ = replicate 32 0 in
    let more : (n + 1) - length seeds ≡ (n - length seeds) + 1 = omega arith in
    ap (λ (l : List (List ℕ)). l ++ replicate ((n + 1) - length seeds) zeros) (take_all (n + 1) seeds (omega arith))
    ∙ ap (λ (k : ℕ). seeds ++ replicate k zeros) more
    ∙ ap (λ (l : List (List ℕ)). seeds ++ l) (sym (replicate_more (n - length seeds) zeros))
    ∙ sym (append_assoc seeds (replicate (n - length seeds) zeros) (zeros ∷ []))
    ∙ ap (λ (l : List (List ℕ)). (l ++ replicate (n - length seeds) zeros) ++ zeros ∷ []) (sym (take_all n seeds le))
    ∙ ap (λ (seed : List ℕ). first_seeds seeds n ++ seed ∷ []) (sym (get_or_past seeds n zeros le))

length-first_seeds : (seeds : List (List ℕ)) (n : ℕ) → length (first_seeds seeds n) ≡ n
length-first_seeds seeds n =
    let zeros : List ℕ = replicate 32 0 in
    omega (arith, length-append (take n seeds) (replicate (n - length seeds) zeros), length-take n seeds, length-replicate (n - length seeds) zeros)

-- the next seed joins those that were given, while their count is told
pub gains : (seeds : List (List ℕ)) (n next : ℕ) (seed : List ℕ) → next ≡ min (n + 1) (2 ^ 64 - 1) → seed ≡ seed_at seeds n → Gains (told_seeds seeds n) (told_seeds seeds next) seed
gains seeds n next seed is seed_is = told (cases_lt n (2 ^ 64 - 1)) (cases_lt next (2 ^ 64 - 1))
  where
    told : (n < 2 ^ 64 - 1) ⊎ (2 ^ 64 - 1 ≤ n) → (next < 2 ^ 64 - 1) ⊎ (2 ^ 64 - 1 ≤ next) → Gains (told_seeds seeds n) (told_seeds seeds next) seed
    told (inr le) later = rw (le-ltb n (2 ^ 64 - 1) le) tt
    told (inl lt) (inr le) = rw (lt-ltb n (2 ^ 64 - 1) lt, le-ltb next (2 ^ 64 - 1) le) (omega (arith, length-first_seeds seeds n))
    told (inl lt) (inl more) =
        let one : next ≡ n + 1 = omega arith in
        rw (lt-ltb n (2 ^ 64 - 1) lt, lt-ltb next (2 ^ 64 - 1) more)
        (ap (λ (k : ℕ). first_seeds seeds k) one ∙ longer seeds n (cases_lt n (length seeds)) ∙ ap (λ (s : List ℕ). first_seeds seeds n ++ s ∷ []) (sym seed_is))

-- How the list of the moments that were given grows.
use Rattle.std.proofs.Common.{◌≡◌, ◌⊎◌, ◌<◌, ◌≤◌, ℕ, ◌+◌, ◌-◌, ◌^◌, min, List, [], ◌∷◌, ◌++◌, length, take, sym, ◌∙◌, ap, arith, inl, inr, append-nil, append_assoc, length-append, length-take}
use Rattle.std.proofs.lemmas.Bool.{cases_lt, lt-ltb, le-ltb}
use Rattle.std.proofs.Math.ListN.{replicate}
use Rattle.std.proofs.lemmas.List.{take_more, take_all, replicate_more, length-replicate, get_or_past}
use Rattle.sn_io.specs.Streams.{Gains}
use Rattle.sn_net.specs.Times.{time_at, first_times, told_times}

longer : (times : List ℕ) (n : ℕ) → (n < length times) ⊎ (length times ≤ n) → first_times times (n + 1) ≡ first_times times n ++ time_at times n ∷ []
longer times n (inl lt) =
    let none : (n + 1) - length times ≡ 0 = omega arith in
    let none_yet : n - length times ≡ 0 = omega arith in
    rw (none, none_yet) (append-nil (take (n + 1) times) ∙ take_more times n 0 lt ∙ ap (λ (l : List ℕ). l ++ time_at times n ∷ []) (sym (append-nil (take n times))))
longer times n (inr le) =
    let more : (n + 1) - length times ≡ (n - length times) + 1 = omega arith in
    ap (λ (l : List ℕ). l ++ replicate ((n + 1) - length times) 0) (take_all (n + 1) times (omega arith))
    ∙ ap (λ (k : ℕ). times ++ replicate k 0) more
    ∙ ap (λ (l : List ℕ). times ++ l) (sym (replicate_more (n - length times) 0))
    ∙ sym (append_assoc times (replicate (n - length times) 0) (0 ∷ []))
    ∙ ap (λ (l : List ℕ). (l ++ replicate (n - length times) 0) ++ 0 ∷ []) (sym (take_all n times le))
    ∙ ap (λ (time : ℕ). first_times times n ++ time ∷ []) (sym (get_or_past times n 0 le))

length-first_times : (times : List ℕ) (n : ℕ) → length (first_times times n) ≡ n
length-first_times times n = omega (arith, length-append (take n times) (replicate (n - length times) 0), length-take n times, length-replicate {A = ℕ} (n - length times) 0)

-- the next moment joins those that were given, while their count is told
pub gains : (times : List ℕ) (n next : ℕ) (time : ℕ) → next ≡ min (n + 1) (2 ^ 64 - 1) → time ≡ time_at times n → Gains (told_times times n) (told_times times next) time
gains times n next time is time_is = told (cases_lt n (2 ^ 64 - 1)) (cases_lt next (2 ^ 64 - 1))
  where
    told : (n < 2 ^ 64 - 1) ⊎ (2 ^ 64 - 1 ≤ n) → (next < 2 ^ 64 - 1) ⊎ (2 ^ 64 - 1 ≤ next) → Gains (told_times times n) (told_times times next) time
    told (inr le) later = rw (le-ltb n (2 ^ 64 - 1) le) tt
    told (inl lt) (inr le) = rw (lt-ltb n (2 ^ 64 - 1) lt, le-ltb next (2 ^ 64 - 1) le) (omega (arith, length-first_times times n))
    told (inl lt) (inl more) =
        let one : next ≡ n + 1 = omega arith in
        rw (lt-ltb n (2 ^ 64 - 1) lt, lt-ltb next (2 ^ 64 - 1) more)
        (ap (λ (k : ℕ). first_times times k) one ∙ longer times n (cases_lt n (length times)) ∙ ap (λ (t : ℕ). first_times times n ++ t ∷ []) (sym time_is))

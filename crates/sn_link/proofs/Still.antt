-- What a clock that stands still has given.
use Rattle.std.proofs.Common.{◌≡◌, ◌⊎◌, ◌<◌, ◌≤◌, ℕ, zero, suc, ◌+◌, ◌-◌, ◌^◌, min, List, [], ◌∷◌, ◌++◌, length, Some, None, sym, ◌∙◌, ap, subst, arith, inl, inr, append-nil, append_assoc, length-append}
use Rattle.std.specs.Prelude.{⊤, if◌then◌else◌}
use Rattle.std.specs.declared.option.Option.{Option}
use Rattle.std.proofs.lemmas.Bool.{cases_lt, lt-ltb, le-ltb}
use Rattle.std.proofs.Math.ListN.{replicate}
use Rattle.std.proofs.lemmas.List.{replicate_more, length-replicate}
use Rattle.sn_io.specs.Streams.{Gains}
use Rattle.sn_server.specs.Steps.{GainsEach}
use Rattle.sn_link.specs.Clocks.{still_times}

-- it gives its moment once more
pub gains_still : (moment n next : ℕ) → next ≡ min (n + 1) (2 ^ 64 - 1) → Gains (still_times moment n) (still_times moment next) moment
gains_still moment n next is = told (cases_lt n (2 ^ 64 - 1)) (cases_lt next (2 ^ 64 - 1))
  where
    told : (n < 2 ^ 64 - 1) ⊎ (2 ^ 64 - 1 ≤ n) → (next < 2 ^ 64 - 1) ⊎ (2 ^ 64 - 1 ≤ next) → Gains (still_times moment n) (still_times moment next) moment
    told (inr le) later = rw (le-ltb n (2 ^ 64 - 1) le) tt
    told (inl lt) (inr le) = rw (lt-ltb n (2 ^ 64 - 1) lt, le-ltb next (2 ^ 64 - 1) le) (omega (arith, length-replicate {A = ℕ} n moment))
    told (inl lt) (inl more) =
        let one : next ≡ n + 1 = omega arith in
        rw (lt-ltb n (2 ^ 64 - 1) lt, lt-ltb next (2 ^ 64 - 1) more)
        (ap (λ (k : ℕ). replicate k moment) one ∙ sym (replicate_more n moment))

-- each of these is this moment
abbrev pub AllAre : ℕ → List ℕ → Type 0
AllAre now [] = ⊤
AllAre now (moment ∷ moments) = (moment ≡ now) × AllAre now moments

all_replicated : (n moment now : ℕ) → moment ≡ now → AllAre now (replicate n moment)
all_replicated zero moment now is = tt
all_replicated (suc n) moment now is = (is, all_replicated n moment now is)

replicated : (n moment now : ℕ) (moments : List ℕ) → replicate n moment ≡ now ∷ moments → AllAre now moments
replicated zero moment now moments is = absurd (omega (arith, ap length is))
replicated (suc n) moment now moments is =
    let first : moment ≡ now = cc in
    let rest : replicate n moment ≡ moments = cc in
    subst (λ (l : List ℕ). AllAre now l) rest (all_replicated n moment now first)

-- what it told first is what it told each time
pub still_all : (moment n now : ℕ) (moments : List ℕ) → still_times moment n ≡ Some (now ∷ moments) → AllAre now moments
still_all moment n now moments is = told (cases_lt n (2 ^ 64 - 1))
  where
    told : (n < 2 ^ 64 - 1) ⊎ (2 ^ 64 - 1 ≤ n) → AllAre now moments
    told (inl lt) =
        let same : Some (replicate n moment) ≡ Some (now ∷ moments) = ap (λ b. if b then Some (replicate n moment) else None) (sym (lt-ltb n (2 ^ 64 - 1) lt)) ∙ is in
        replicated n moment now moments cc
    told (inr le) =
        let same : None ≡ Some (now ∷ moments) = ap (λ b. if b then Some (replicate n moment) else None) (sym (le-ltb n (2 ^ 64 - 1) le)) ∙ is in
        absurd (let impossible : ⊥ = cc in impossible)

-- moments that were given one after another, of so few that they are told, are told in order
pub told_all : (moments given : List ℕ) (last : Option (List ℕ)) → length given + length moments < 2 ^ 64 - 1 → GainsEach (Some given) last moments → last ≡ Some (given ++ moments)
told_all [] given last small is = sym is ∙ ap (λ (l : List ℕ). Some l) (sym (append-nil given))
told_all (v ∷ moments) given last small (None, gains, rest) = absurd (omega (arith, gains, small))
told_all (v ∷ moments) given last small (Some mid, gains, rest) =
    told_all moments mid last (omega (arith, small, ap length gains, length-append given (v ∷ []))) rest
    ∙ ap (λ (l : List ℕ). Some l) (ap (λ (l : List ℕ). l ++ moments) gains ∙ append_assoc given (v ∷ []) moments)

-- so a clock that stands still gave its first moment each time
pub given_still : (moment n now : ℕ) (moments : List ℕ) → 1 + length moments < 2 ^ 64 - 1 → GainsEach (Some (now ∷ [])) (still_times moment n) moments → AllAre now moments
given_still moment n now moments small gains = still_all moment n now moments (told_all moments (now ∷ []) (still_times moment n) (omega (arith, small)) gains)

-- Reading goes on behind what was read.
use Rattle.std.proofs.Common.{◌≡◌, ℕ, zero, suc, ◌+◌, ◌-◌, ◌<◌, ◌≤◌, Bool, true, false, List, [], ◌∷◌, ◌++◌, length, Result, Ok, Err, refl, sym, ap, ◌∙◌, append_assoc, arith}
use Rattle.std.specs.Prelude.{◌==◌}
use Rattle.std.proofs.lemmas.Bool.{ne_eqb, eqb-true}
use Rattle.std.proofs.lemmas.List.{append-nil, map-append}
use Rattle.sn_rows.specs.Spelling.{Entry, entry_of, entries_of}
use Rattle.sn_rows.specs.Reading.{◌>>=◌, Spot, entry_at, entries_at, Fails}
use Rattle.sn_rows.specs.declared.change.Change.{Change}
use Rattle.sn_rows.specs.declared.error.RowError.{RowError}
use Rattle.sn_rows.specs.declared.error.RowError.TheVariants as error

-- these entries, and then what is read
abbrev pub with_front : List Entry → Result (List Entry) RowError → Result (List Entry) RowError
with_front front read = read >>= λ es. Ok (front ++ es)

regroup : (front : List Entry) (e : Entry) (r : Result (List Entry) RowError) → with_front front (r >>= λ es. Ok (e ∷ es)) ≡ with_front (front ++ e ∷ []) r
regroup front e (Ok es) = ap (λ (x : List Entry). Ok x) (sym (append_assoc front (e ∷ []) es))
regroup front e (Err f) = refl

one_step : (n : ℕ) (s : Spot) → (length s.rest ≡ 0 → ⊥) → entries_at (suc n) s ≡ (entry_at s >>= λ e. entries_at n e.1 >>= λ es. Ok (e.0 ∷ es))
unfolding entries_at
one_step n s some = rw (ne_eqb (length s.rest) 0 some) refl

pub goes_on : (front : List Change) (c : Change) (count : ℕ) (s t : Spot) (total : Result (List Entry) RowError) → 0 < length s.rest → length s.rest + length front ≤ count → entry_at s ≡ Ok (entry_of c, t)
    → with_front (entries_of front) (entries_at (count - length front) s) ≡ total → with_front (entries_of (front ++ c ∷ [])) (entries_at (count - (length front + 1)) t) ≡ total
goes_on front c count s t total some fewer h so_far =
    let k : count - length front ≡ suc (count - (length front + 1)) = omega arith in
    let one : entries_at (suc (count - (length front + 1))) s ≡ (entries_at (count - (length front + 1)) t >>= λ es. Ok (entry_of c ∷ es)) =
    one_step (count - (length front + 1)) s (λ z. absurd (omega arith)) ∙ rw h refl in
    let all : with_front (entries_of front) (entries_at (count - length front) s) ≡ with_front (entries_of front ++ entry_of c ∷ []) (entries_at (count - (length front + 1)) t) =
    rw (k, one) (regroup (entries_of front) (entry_of c) (entries_at (count - (length front + 1)) t)) in
    rw (map-append entry_of front (c ∷ [])) (sym all ∙ so_far)

failed : (front : List Entry) (count m : ℕ) (s : Spot) (e : RowError) → 0 < length s.rest → length s.rest + m ≤ count → entry_at s ≡ Err e → with_front front (entries_at (count - m) s) ≡ Err e
failed front count m s e some fewer h =
    let k : count - m ≡ suc (count - (m + 1)) = omega arith in
    let one : entries_at (suc (count - (m + 1))) s ≡ Err e = one_step (count - (m + 1)) s (λ z. absurd (omega arith)) ∙ rw h refl in
    rw (k, one) refl

nothing_left : (count : ℕ) (s : Spot) → length s.rest ≡ 0 → entries_at count s ≡ Ok []
unfolding entries_at
nothing_left zero s none = refl
nothing_left (suc n) s none = rw none refl

pub ends : (e : RowError) (front : List Entry) (count : ℕ) (m : ℕ) (s : Spot) (total : Result (List Entry) RowError) → 0 < length s.rest → length s.rest + m ≤ count → Fails e (entry_at s)
    → with_front front (entries_at (count - m) s) ≡ total → Fails e total
ends error.Memory front count m s total some fewer h so_far = tt
ends (error.Short p) front count m s total some fewer h so_far = sym so_far ∙ failed front count m s (error.Short p) some fewer h
ends (error.Kind p) front count m s total some fewer h so_far = sym so_far ∙ failed front count m s (error.Kind p) some fewer h
ends (error.Range p) front count m s total some fewer h so_far = sym so_far ∙ failed front count m s (error.Range p) some fewer h
ends (error.Extra p) front count m s total some fewer h so_far = sym so_far ∙ failed front count m s (error.Extra p) some fewer h

pub is_done : (front : List Entry) (count : ℕ) (s : Spot) (total : Result (List Entry) RowError) → length s.rest ≡ 0 → with_front front (entries_at count s) ≡ total → total ≡ Ok front
is_done front count s total none so_far = sym so_far ∙ rw (nothing_left count s none) (ap (λ (x : List Entry). Ok x) (append-nil front))

pub none_left : (rest : List ℕ) (b : Bool) → b ≡ (length rest == 0) → b ≡ true → length rest ≡ 0
none_left rest b is same = eqb-true (length rest) 0 (sym is ∙ same)

pub some_left : (rest : List ℕ) (b : Bool) → b ≡ (length rest == 0) → b ≡ false → 0 < length rest
some_left [] b is other = absurd cc
some_left (x ∷ rest) b is other = omega arith

-- The requests of a call one by one, each with the set that it would begin.
use Rattle.std.proofs.Common.{◌≡◌, ℕ, ◌+◌, List, [], ◌∷◌, ◌++◌, drop, length, take, map, Option, Some, None, refl, sym, ap, ◌∙◌, arith, append_assoc}
use Rattle.std.proofs.lemmas.List.{length-append, map-id, take-append-drop}
use Rattle.std.specs.Prelude.{slice_get}
use Rattle.sn_laws.specs.Lookups.{Bytes}
use Rattle.sn_string.specs.declared.params.KeySet.{KeySet}
use Rattle.sn_replay.specs.Keeping.{kept_all}
use Rattle.sn_replay.specs.declared.kept.Kept.{Kept}

-- one more
pub kept_more : (front : List Bytes) (r : Bytes) (begun : List (Option KeySet)) (begins : Option KeySet) → slice_get begun (length front) ≡ Some begins
    → kept_all (front ++ r ∷ []) begun ≡ kept_all front begun ++ record { request = r; begins = begins } ∷ []
kept_more [] r [] begins at = absurd (cc)
kept_more [] r (b ∷ begun) begins at =
    let same : b ≡ begins = cc in
    ap (λ (o : Option KeySet). record { request = r; begins = o } ∷ []) same
kept_more (x ∷ front) r [] begins at = absurd (cc)
kept_more (x ∷ front) r (b ∷ begun) begins at =
    ap (λ (ks : List Kept). record { request = x; begins = b } ∷ ks) (kept_more front r begun begins at)

-- where nothing more is said of sets, no more is kept
pub kept_short : (front later : List Bytes) (begun : List (Option KeySet)) → slice_get begun (length front) ≡ None
    → kept_all (front ++ later) begun ≡ kept_all front begun
kept_short [] [] begun at = refl
kept_short [] (r ∷ later) [] at = refl
kept_short [] (r ∷ later) (b ∷ begun) at = absurd (cc)
kept_short (x ∷ front) later [] at = refl
kept_short (x ∷ front) later (b ∷ begun) at =
    ap (λ (ks : List Kept). record { request = x; begins = b } ∷ ks) (kept_short front later begun at)

-- so what was kept of the first of some is all that is kept of them
pub kept_so_far : (front all : List Bytes) (begun : List (Option KeySet)) → map (λ r. r) front ≡ take (length front) all → slice_get begun (length front) ≡ None
    → kept_all front begun ≡ kept_all all begun
kept_so_far front all begun so_far at =
    let first : front ≡ take (length front) all = sym (map-id front) ∙ so_far in
    sym (kept_short front (drop (length front) all) begun at)
    ∙ ap (λ (rs : List Bytes). kept_all rs begun)
    (ap (λ (rs : List Bytes). rs ++ drop (length front) all) first ∙ take-append-drop (length front) all)

-- behind others
pub kept_next : (old now next : List Kept) (front : List Bytes) (r : Bytes) (begun : List (Option KeySet)) (begins : Option KeySet)
    → now ≡ old ++ kept_all front begun → slice_get begun (length front) ≡ Some begins → next ≡ now ++ record { request = r; begins = begins } ∷ []
    → next ≡ old ++ kept_all (front ++ r ∷ []) begun
kept_next old now next front r begun begins now_is at next_is =
    let one : List Kept = record { request = r; begins = begins } ∷ [] in
    next_is ∙ ap (λ (ks : List Kept). ks ++ one) now_is ∙ append_assoc old (kept_all front begun) one
    ∙ ap (λ (ks : List Kept). old ++ ks) (sym (kept_more front r begun begins at))

pub place_next : (place : ℕ) (front : List Bytes) (r : Bytes) → place ≡ length front → place + 1 ≡ length (front ++ r ∷ [])
place_next place front r is = omega (arith, is, length-append front (r ∷ []))

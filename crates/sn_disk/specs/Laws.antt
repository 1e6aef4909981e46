-- The laws of a disk in memory.
use Rattle.std.specs.Prelude.{◌≡◌, ◌⊎◌, ◌<◌, ◌≤◌, ◌+◌, ◌-◌, ℕ, List, [], ◌∷◌, ◌++◌, length, take, drop, reverse, IsTrue}
use Rattle.std.proofs.Common.{inl, inr, refl, sym, ◌∙◌, ap, subst, arith, length-append, length-take, length-drop, append_assoc}
use Rattle.std.proofs.lemmas.List.{take_all, take_min, take_at, drop_at, drop_all, drop-take}
use Rattle.std.proofs.lemmas.Bool.{cases_lt}
use Rattle.sn_disk.specs.Disk.{overwritten, Torn, Cut, Only}
use Rattle.sn_disk.specs.Steps.{Step, write_step, cut_step, sync_step, stop_step, replayed, Reaches, Told, IsKept, Leaves, LeftSince, ends_in_stop}

rest_whole : (n : ℕ) (front rest old : List ℕ) → rest ≡ drop n old → (n ≤ length old → length front ≡ n) → (length old < n) ⊎ (n ≤ length old) → drop n (take (length old) (front ++ rest)) ≡ drop n old
rest_whole n front rest old is long (inr le) =
    let m = length old - n in
    let total : length old ≡ n + m = omega arith in
    let size : length rest ≡ m = omega (arith, ap length is, length-drop n old) in
    ap (λ (k : ℕ). drop n (take k (front ++ rest))) total ∙ drop-take n m (front ++ rest) ∙ ap (λ (l : List ℕ). take m l) (drop_at front rest n (long le)) ∙ take_all m rest (omega arith) ∙ is
rest_whole n front rest old is long (inl lt) =
    drop_all n (take (length old) (front ++ rest)) (omega (arith, length-take (length old) (front ++ rest))) ∙ sym (drop_all n old (omega arith))

after_whole : (at : ℕ) (bytes old : List ℕ) → drop (at + length bytes) (take (length old) (overwritten old at bytes)) ≡ drop (at + length bytes) old
after_whole at bytes old = rest_whole (at + length bytes) (take at old ++ bytes) (drop (at + length bytes) old) old refl (λ le. omega (arith, length-append (take at old) bytes, length-take at old)) (cases_lt (length old) (at + length bytes))

-- a write that reached the disk whole
pub torn_whole : (at : ℕ) (bytes old : List ℕ) → Torn at (length bytes) old (overwritten old at bytes)
torn_whole at bytes old = record {
  before = ap (λ (l : List ℕ). take (length (take at old)) l) (append_assoc (take at old) bytes (drop (at + length bytes) old)) ∙ take_at (take at old) (bytes ++ drop (at + length bytes) old) (length (take at old)) refl;
  after = after_whole at bytes old;
  no_shorter = omega (arith, length-append (take at old ++ bytes) (drop (at + length bytes) old), length-append (take at old) bytes, length-take at old, length-drop (at + length bytes) old);
  no_longer = omega (arith, length-append (take at old ++ bytes) (drop (at + length bytes) old), length-append (take at old) bytes, length-take at old, length-drop (at + length bytes) old);
}

pub cut_whole : (n : ℕ) (old : List ℕ) → Cut n old (take n old)
cut_whole n old = record { no_shorter = omega arith; front = ap (λ (k : ℕ). take k old) (length-take n old) ∙ take_min n old }

-- what reads give is one of the outcomes
pub stays : (start : List ℕ) (steps : List Step) → Reaches start steps (replayed start steps)
stays start [] = refl
stays start (write_step at bytes ∷ earlier) = (replayed start earlier, stays start earlier, torn_whole at bytes (replayed start earlier))
stays start (cut_step len ∷ earlier) = (replayed start earlier, stays start earlier, cut_whole len (replayed start earlier))
stays start (sync_step ∷ earlier) = refl
stays start (stop_step left ∷ earlier) = refl

pub kept_stays : (told : Told) → IsKept told → Leaves told told.bytes
kept_stays told kept = subst (Reaches told.start (reverse told.steps)) (sym kept) (stays told.start (reverse told.steps))

pub now_counts : (told : Told) (t : ℕ) (c : List ℕ) → t ≤ length told.steps → Leaves told c → LeftSince told t c
now_counts told t c le here = (length told.steps, le, omega arith, subst (λ (l : List Step). Reaches told.start (reverse l) c) (sym (take_all (length told.steps) told.steps (omega arith))) here)

pub now_only : (told : Told) (c : List ℕ) → LeftSince told (length told.steps) c → Leaves told c
now_only told c left = subst (λ (l : List Step). Reaches told.start (reverse l) c) (take_all left.0 told.steps left.1) left.3

-- a disk that stopped last leaves what reads give
pub stop_leaves : (start : List ℕ) (steps : List Step) (c : List ℕ) → IsTrue (ends_in_stop steps) → Reaches start steps c → c ≡ replayed start steps
stop_leaves start [] c ends left = absurd cc
stop_leaves start (write_step at bytes ∷ earlier) c ends left = absurd cc
stop_leaves start (cut_step len ∷ earlier) c ends left = absurd cc
stop_leaves start (sync_step ∷ earlier) c ends left = left
stop_leaves start (stop_step bytes ∷ earlier) c ends left = left

pub stopped_leaves : (told : Told) → IsKept told → IsTrue (ends_in_stop (reverse told.steps)) → Only told.bytes (Leaves told)
stopped_leaves told kept ends = λ c left. stop_leaves told.start (reverse told.steps) c ends left ∙ sym kept

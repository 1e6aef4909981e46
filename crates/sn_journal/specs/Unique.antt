-- A file has one reading.
use Rattle.std.proofs.Common.{◌≡◌, ◌⊎◌, inl, inr, ℕ, suc, ◌<◌, ◌+◌, List, [], ◌∷◌, ◌++◌, length, take, drop, slice_index, All, refl, sym, ◌∙◌, ap, subst, arith, append_assoc, length-append}
use Rattle.std.specs.List.{flat_map, AllByRecursion}
use Rattle.std.specs.Int.{w32, to_be_bytes, from_be_bytes}
use Rattle.std.proofs.lemmas.Nat.{from_be_bytes-to_be_bytes_4}
use Rattle.std.proofs.lemmas.List.{take_at, drop_at}
use Rattle.std.proofs.lemmas.List.Elements.{recursion_from_All}
use Rattle.sn_journal.specs.Image.{counted, batch, IsClosed, IsBounded}
use Rattle.sn_journal.specs.Reading.{IsBroken, AreIn}

-- the size that a counted payload tells
pub told_size : (payload later : List ℕ) → IsBounded payload → from_be_bytes w32 (take 4 (counted payload ++ later)) ≡ length payload
unfolding counted
told_size payload later short =
    let digits = to_be_bytes w32 (length payload) in
    ap (λ (l : List ℕ). from_be_bytes w32 (take 4 l)) (append_assoc digits payload later)
    ∙ ap (λ (l : List ℕ). from_be_bytes w32 l) (take_at digits (payload ++ later) 4 refl)
    ∙ from_be_bytes-to_be_bytes_4 (length payload) (omega (arith, short))

behind_size : (payload later : List ℕ) → drop 4 (counted payload ++ later) ≡ payload ++ later
unfolding counted
behind_size payload later =
    let digits = to_be_bytes w32 (length payload) in
    ap (λ (l : List ℕ). drop 4 l) (append_assoc digits payload later) ∙ drop_at digits (payload ++ later) 4 refl

long_counted : (payload later : List ℕ) → length (counted payload ++ later) ≡ 4 + length payload + length later
unfolding counted
long_counted payload later = omega (arith, length-append (to_be_bytes w32 (length payload) ++ payload) later, length-append (to_be_bytes w32 (length payload)) payload)

pub closed_end : (rest payload later : List ℕ) → IsClosed rest → IsBounded payload → rest ≡ batch payload ++ later → ⊥
closed_end [] payload later closed short is = closed
closed_end (gate ∷ tail) payload later closed short is = closed (ap (λ (l : List ℕ). slice_index l 0) is)

pub broken_end : (rest payload later : List ℕ) → IsBroken rest → IsBounded payload → rest ≡ batch payload ++ later → ⊥
broken_end rest payload later (inl none) short is = omega (arith, ap length (sym none ∙ is), long_counted payload later)
broken_end rest payload later (inr (gate, inl few)) short is = omega (arith, ap length is, long_counted payload later, few)
broken_end rest payload later (inr (gate, inr (inl large))) short is =
    let size : from_be_bytes w32 (take 4 (drop 1 rest)) ≡ length payload = ap (λ (l : List ℕ). from_be_bytes w32 (take 4 (drop 1 l))) is ∙ told_size payload later short in
    omega (arith, large, size, short)
broken_end rest payload later (inr (gate, inr (inr passes))) short is =
    let size : from_be_bytes w32 (take 4 (drop 1 rest)) ≡ length payload = ap (λ (l : List ℕ). from_be_bytes w32 (take 4 (drop 1 l))) is ∙ told_size payload later short in
    omega (arith, passes, size, ap length is, long_counted payload later)

-- the payload and what stands behind it
one_payload : (p q x y : List ℕ) → IsBounded p → IsBounded q → batch p ++ x ≡ batch q ++ y → (p ≡ q) × (x ≡ y)
one_payload p q x y short_p short_q is =
    let inner : counted p ++ x ≡ counted q ++ y = ap (λ (l : List ℕ). drop 1 l) is in
    let size : length p ≡ length q = sym (told_size p x short_p) ∙ ap (λ (l : List ℕ). from_be_bytes w32 (take 4 l)) inner ∙ told_size q y short_q in
    let rest : p ++ x ≡ q ++ y = sym (behind_size p x) ∙ ap (λ (l : List ℕ). drop 4 l) inner ∙ behind_size q y in (
      sym (take_at p x (length q) size) ∙ ap (λ (l : List ℕ). take (length q) l) rest ∙ take_at q y (length q) refl,
      sym (drop_at p x (length q) size) ∙ ap (λ (l : List ℕ). drop (length q) l) rest ∙ drop_at q y (length q) refl,
    )

-- two readings up to ends are one
same_batches : (ps qs : List (List ℕ)) (r s : List ℕ) → AllByRecursion IsBounded ps → AllByRecursion IsBounded qs
    → ((p l : List ℕ) → IsBounded p → r ≡ batch p ++ l → ⊥) → ((p l : List ℕ) → IsBounded p → s ≡ batch p ++ l → ⊥)
    → flat_map batch ps ++ r ≡ flat_map batch qs ++ s → (ps ≡ qs) × (r ≡ s)
same_batches [] [] r s bp bq er es is = (refl, is)
same_batches [] (q ∷ qs) r s bp bq er es is = absurd (er q (flat_map batch qs ++ s) bq.0 (is ∙ append_assoc (batch q) (flat_map batch qs) s))
same_batches (p ∷ ps) [] r s bp bq er es is = absurd (es p (flat_map batch ps ++ r) bp.0 (sym is ∙ append_assoc (batch p) (flat_map batch ps) r))
same_batches (p ∷ ps) (q ∷ qs) r s bp bq er es is =
    let one = one_payload p q (flat_map batch ps ++ r) (flat_map batch qs ++ s) bp.0 bq.0 (sym (append_assoc (batch p) (flat_map batch ps) r) ∙ is ∙ append_assoc (batch q) (flat_map batch qs) s) in
    let later = same_batches ps qs r s bp.1 bq.1 er es one.1 in
    (ap (λ (x : List ℕ). x ∷ ps) one.0 ∙ ap (λ (l : List (List ℕ)). q ∷ l) later.0, later.1)

pub one_reading : (ps qs : List (List ℕ)) (r s : List ℕ) → All IsBounded ps → All IsBounded qs → IsClosed r ⊎ IsBroken r → IsClosed s ⊎ IsBroken s
    → flat_map batch ps ++ r ≡ flat_map batch qs ++ s → (ps ≡ qs) × (r ≡ s)
one_reading ps qs r s bp bq end_r end_s is = same_batches ps qs r s (recursion_from_All IsBounded ps bp) (recursion_from_All IsBounded qs bq) (ends r end_r) (ends s end_s) is
  where
    ends : (r : List ℕ) → IsClosed r ⊎ IsBroken r → (p l : List ℕ) → IsBounded p → r ≡ batch p ++ l → ⊥
    ends r (inl closed) p l short eq = closed_end r p l closed short eq
    ends r (inr broken) p l short eq = broken_end r p l broken short eq

-- a closed gate isn't an open one, nor a missing one
pub closed_whole : (rest : List ℕ) → IsClosed rest → IsBroken rest → ⊥
closed_whole [] closed broken = closed
closed_whole (gate ∷ tail) closed (inl none) = omega (arith, ap length none)
closed_whole (gate ∷ tail) closed (inr broken) = closed broken.0

-- the first of the payloads, and those behind it
pub first_read : (bytes payload left : List ℕ) (payloads : List (List ℕ)) → AreIn bytes payloads → bytes ≡ batch payload ++ left → IsBounded payload → (later : List (List ℕ)) × (payloads ≡ payload ∷ later) × AreIn left later
first_read bytes payload left [] are is short = absurd (elim are.over [ inl closed ↦ closed_end are.rest payload left closed short (sym are.split ∙ is) | inr broken ↦ broken_end are.rest payload left broken short (sym are.split ∙ is) ])
first_read bytes payload left (first ∷ later) are is short =
    let one = one_payload first payload (flat_map batch later ++ are.rest) left (are.bounded 0 [] (omega arith)) short (sym (append_assoc (batch first) (flat_map batch later) are.rest) ∙ sym are.split ∙ is) in
    (later, ap (λ (p : List ℕ). p ∷ later) one.0, record { rest = are.rest; split = sym one.1; over = are.over; bounded = λ k d below. are.bounded (suc k) d (omega (arith, below)) })

-- the payloads behind those that were read
pub behind_read : (passed payloads : List (List ℕ)) (bytes rest : List ℕ) → AreIn bytes payloads → bytes ≡ flat_map batch passed ++ rest → AllByRecursion IsBounded passed → (later : List (List ℕ)) × (payloads ≡ passed ++ later) × AreIn rest later
behind_read [] payloads bytes rest are is bounded = (payloads, refl, subst (λ (l : List ℕ). AreIn l payloads) is are)
behind_read (payload ∷ passed) payloads bytes rest are is bounded =
    let one = first_read bytes payload (flat_map batch passed ++ rest) payloads are (is ∙ append_assoc (batch payload) (flat_map batch passed) rest) bounded.0 in
    let more = behind_read passed one.0 (flat_map batch passed ++ rest) rest one.2 refl bounded.1 in
    (more.0, one.1 ∙ ap (λ (l : List (List ℕ)). payload ∷ l) more.1, more.2)

-- where no whole batch stands there are no payloads
pub none_read : (bytes : List ℕ) (payloads : List (List ℕ)) → AreIn bytes payloads → IsClosed bytes ⊎ IsBroken bytes → payloads ≡ []
none_read bytes [] are over = refl
none_read bytes (first ∷ later) are over = absurd (elim over [
  | inl closed ↦ closed_end bytes first (flat_map batch later ++ are.rest) closed (are.bounded 0 [] (omega arith)) (are.split ∙ append_assoc (batch first) (flat_map batch later) are.rest)
  | inr broken ↦ broken_end bytes first (flat_map batch later ++ are.rest) broken (are.bounded 0 [] (omega arith)) (are.split ∙ append_assoc (batch first) (flat_map batch later) are.rest)
])

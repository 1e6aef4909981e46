-- What a crash makes of the two writes of an append.
use Rattle.std.proofs.Common.{◌≡◌, ◌≢◌, inl, inr, zero, suc, slice_index_or, ◌≤◌, ◌<◌, ◌^◌, ℕ, ◌+◌, List, [], ◌∷◌, ◌++◌, length, get_or, take, drop, All, refl, sym, ◌∙◌, ap, subst, arith, append_assoc, length-append, length-take, length-drop, take-append-drop}
use Rattle.std.specs.List.{flat_map}
use Rattle.std.proofs.lemmas.List.{take_at, drop_at, drop_more, take_all, append-nil}
use Rattle.std.proofs.lemmas.List.Concat.{flat_map-append}
use Rattle.std.proofs.lemmas.List.Elements.{All-append}
use Rattle.std.proofs.lemmas.Bool.{cases_eq}
use Rattle.std.specs.Int.{w32, to_be_bytes}
use Rattle.sn_disk.specs.Disk.{overwritten, Torn}
use Rattle.sn_journal.specs.Image.{header_of, counted, batch, front, IsClosed, IsBounded, IsChain, IsBeforeOrAfter}
use Rattle.sn_journal.specs.Facts.{length-counted, front_more, length-front_more}
use Rattle.sn_journal.specs.declared.owner.Owner.{Owner}

-- bytes with a known front
front_of : (c front : List ℕ) (n : ℕ) → take n c ≡ front → c ≡ front ++ drop n c
front_of c front n is = sym (take-append-drop n c) ∙ ap (λ (l : List ℕ). l ++ drop n c) is

-- the first n bytes of a torn write that begins at n or later
before_torn : (at n : ℕ) (old c : List ℕ) → at ≤ length old → Torn at n old c → take at c ≡ take at old
before_torn at n old c le torn =
    let same : length (take at old) ≡ at = omega (arith, length-take at old) in
    subst (λ (k : ℕ). take k c ≡ take at old) same torn.before

module _ (F tail : List ℕ) (gate : ℕ) where
  -- the gate stands in each outcome of a write behind it
  pub behind_torn : (n : ℕ) (c : List ℕ) → Torn (length F + 1) n (F ++ gate ∷ tail) c → (more : List ℕ) × (c ≡ F ++ gate ∷ more)
  behind_torn n c torn =
      let E = length F + 1 in
      let old = F ++ gate ∷ tail in
      let split : old ≡ (F ++ gate ∷ []) ++ tail = sym (append_assoc F (gate ∷ []) tail) in
      let size : length (F ++ gate ∷ []) ≡ E = omega (arith, length-append F (gate ∷ [])) in
      let stands : take E old ≡ F ++ gate ∷ [] = ap (λ (l : List ℕ). take E l) split ∙ take_at (F ++ gate ∷ []) tail E size in
      let whole : c ≡ (F ++ gate ∷ []) ++ drop E c = front_of c (F ++ gate ∷ []) E (before_torn E n old c (omega (arith, length-append F (gate ∷ tail))) torn ∙ stands) in
      (drop E c, whole ∙ append_assoc F (gate ∷ []) (drop E c))

  -- what a write behind the gate leaves
  pub behind_written : (bytes : List ℕ) → overwritten (F ++ gate ∷ tail) (length F + 1) bytes ≡ F ++ gate ∷ (bytes ++ drop (length F + 1 + length bytes) (F ++ gate ∷ tail))
  behind_written bytes =
      let E = length F + 1 in
      let old = F ++ gate ∷ tail in
      let end = drop (E + length bytes) old in
      let split : old ≡ (F ++ gate ∷ []) ++ tail = sym (append_assoc F (gate ∷ []) tail) in
      let size : length (F ++ gate ∷ []) ≡ E = omega (arith, length-append F (gate ∷ [])) in
      let stands : take E old ≡ F ++ gate ∷ [] = ap (λ (l : List ℕ). take E l) split ∙ take_at (F ++ gate ∷ []) tail E size in
      ap (λ (l : List ℕ). l ++ bytes ++ end) stands ∙ append_assoc (F ++ gate ∷ []) bytes end ∙ append_assoc F (gate ∷ []) (bytes ++ end)

  -- all but the gate stands in each outcome of a write of the gate
  pub gate_torn : (c : List ℕ) → Torn (length F) 1 (F ++ gate ∷ tail) c → (other : ℕ) × (c ≡ F ++ other ∷ tail)
  gate_torn c torn =
      let E = length F in
      let old = F ++ gate ∷ tail in
      let long : length old ≡ E + 1 + length tail = omega (arith, length-append F (gate ∷ tail)) in
      let same : length c ≡ length old = omega (arith, torn.no_shorter, torn.no_longer) in
      let split : old ≡ (F ++ gate ∷ []) ++ tail = sym (append_assoc F (gate ∷ []) tail) in
      let size : length (F ++ gate ∷ []) ≡ E + 1 = omega (arith, length-append F (gate ∷ [])) in
      let begins : take E c ≡ F = before_torn E 1 old c (omega arith) torn ∙ take_at F (gate ∷ tail) E refl in
      let ends : drop (E + 1) c ≡ tail =
      ap (λ (l : List ℕ). drop (E + 1) l) (sym (take_all (length old) c (omega arith))) ∙ torn.after ∙ ap (λ (l : List ℕ). drop (E + 1) l) split ∙ drop_at (F ++ gate ∷ []) tail (E + 1) size in
      let other = get_or c E 0 in
      let rest : drop E c ≡ other ∷ tail = drop_more c E 0 (omega arith) ∙ ap (λ (l : List ℕ). other ∷ l) ends in
      (other, front_of c F E begins ∙ ap (λ (l : List ℕ). F ++ l) rest)

  pub gate_written : (other : ℕ) → overwritten (F ++ gate ∷ tail) (length F) (other ∷ []) ≡ F ++ other ∷ tail
  gate_written other =
      let E = length F in
      let split : F ++ gate ∷ tail ≡ (F ++ gate ∷ []) ++ tail = sym (append_assoc F (gate ∷ []) tail) in
      let size : length (F ++ gate ∷ []) ≡ E + 1 = omega (arith, length-append F (gate ∷ [])) in
      let begins : take E (F ++ gate ∷ tail) ≡ F = take_at F (gate ∷ tail) E refl in
      let ends : drop (E + 1) (F ++ gate ∷ tail) ≡ tail = ap (λ (l : List ℕ). drop (E + 1) l) split ∙ drop_at (F ++ gate ∷ []) tail (E + 1) size in
      ap (λ (l : List ℕ). l ++ (other ∷ []) ++ drop (E + 1) (F ++ gate ∷ tail)) begins ∙ append_assoc F (other ∷ []) (drop (E + 1) (F ++ gate ∷ tail)) ∙ ap (λ (l : List ℕ). F ++ other ∷ l) ends

-- a batch behind a gate that isn't open
pub record Staged (owner : Owner) (payloads : List (List ℕ)) (payload file : List ℕ) : Type 0 where
  pub gate : ℕ
  pub tail : List ℕ
  pub split : file ≡ front owner payloads ++ gate ∷ (counted payload ++ 0 ∷ tail)
  pub shut : gate ≢ 1
  pub bounded : All IsBounded payloads

first_torn : (owner : Owner) (payloads : List (List ℕ)) (rest file c : List ℕ) (at n : ℕ) → IsClosed rest → All IsBounded payloads → file ≡ front owner payloads ++ rest → at ≡ length (front owner payloads) + 1
    → Torn at n file c → IsChain owner c payloads
first_torn owner payloads [] file c at n closed bounded split place torn = absurd closed
first_torn owner payloads (gate ∷ tail) file c at n closed bounded split place torn =
    let F = front owner payloads in
    let here = subst (λ (k : ℕ). Torn k n (F ++ gate ∷ tail) c) place (subst (λ (f : List ℕ). Torn at n f c) split torn) in
    let stands = behind_torn F tail gate n c here in
    record { rest = gate ∷ stands.0; split = stands.1; closed = closed; bounded = bounded }

-- a crash in the first write leaves the batches
pub chain_torn : (owner : Owner) (payloads : List (List ℕ)) (file c : List ℕ) (at n : ℕ) → IsChain owner file payloads → at ≡ length (front owner payloads) + 1 → Torn at n file c → IsChain owner c payloads
chain_torn owner payloads file c at n chain place torn = first_torn owner payloads chain.rest file c at n chain.closed chain.bounded chain.split place torn

first_written : (owner : Owner) (payloads : List (List ℕ)) (payload rest file new : List ℕ) (at : ℕ) → IsClosed rest → All IsBounded payloads → file ≡ front owner payloads ++ rest → at ≡ length (front owner payloads) + 1
    → new ≡ overwritten file at (counted payload ++ 0 ∷ []) → Staged owner payloads payload new
first_written owner payloads payload [] file new at closed bounded split place is = absurd closed
first_written owner payloads payload (gate ∷ tail) file new at closed bounded split place is =
    let F = front owner payloads in
    let bytes = counted payload ++ 0 ∷ [] in
    let end = drop (length F + 1 + length bytes) (F ++ gate ∷ tail) in
    record {
      gate = gate;
      tail = end;
      split = is ∙ ap (λ (f : List ℕ). overwritten f at bytes) split ∙ ap (λ (k : ℕ). overwritten (F ++ gate ∷ tail) k bytes) place
          ∙ behind_written F tail gate bytes ∙ ap (λ (l : List ℕ). F ++ gate ∷ l) (append_assoc (counted payload) (0 ∷ []) end);
      shut = closed;
      bounded = bounded;
    }

pub chain_staged : (owner : Owner) (payloads : List (List ℕ)) (payload file new : List ℕ) (at : ℕ) → IsChain owner file payloads → at ≡ length (front owner payloads) + 1 → new ≡ overwritten file at (counted payload ++ 0 ∷ []) → Staged owner payloads payload new
chain_staged owner payloads payload file new at chain place is = first_written owner payloads payload chain.rest file new at chain.closed chain.bounded chain.split place is

lone_bounded : (payload : List ℕ) → length payload ≤ 2 ^ 30 → (k : ℕ) (d : List ℕ) → k < 1 → IsBounded (slice_index_or (payload ∷ []) k d)
lone_bounded payload short zero d below = short
lone_bounded payload short (suc k) d below = absurd (omega arith)

-- the batch counts, whatever stands behind its closed gate
opened : (owner : Owner) (payloads : List (List ℕ)) (payload tail c : List ℕ) → All IsBounded payloads → length payload ≤ 2 ^ 30 → c ≡ front owner payloads ++ 1 ∷ (counted payload ++ 0 ∷ tail) → IsChain owner c (payloads ++ payload ∷ [])
opened owner payloads payload tail c bounded short is = record {
  rest = 0 ∷ tail;
  split = is ∙ front_more owner payloads payload (0 ∷ tail);
  closed = omega arith;
  bounded = All-append IsBounded payloads (payload ∷ []) bounded (lone_bounded payload short);
}

-- a crash in the write of the gate leaves the batches, with the new one or without it
pub staged_torn : (owner : Owner) (payloads : List (List ℕ)) (payload file c : List ℕ) (at : ℕ) → Staged owner payloads payload file → at ≡ length (front owner payloads) → length payload ≤ 2 ^ 30 → Torn at 1 file c → IsBeforeOrAfter owner payloads payload c
staged_torn owner payloads payload file c at staged place short torn =
    let F = front owner payloads in
    let behind = counted payload ++ 0 ∷ staged.tail in
    let here = subst (λ (k : ℕ). Torn k 1 (F ++ staged.gate ∷ behind) c) place (subst (λ (f : List ℕ). Torn at 1 f c) staged.split torn) in
    let stands = gate_torn F behind staged.gate c here in
    elim (cases_eq stands.0 1) [
      | inl open_gate ↦ inr (inl (opened owner payloads payload staged.tail c staged.bounded short (stands.1 ∙ ap (λ (gate : ℕ). F ++ gate ∷ behind) open_gate)))
      | inr shut ↦ inl (inl (record { rest = stands.0 ∷ behind; split = stands.1; closed = shut; bounded = staged.bounded }))
    ]

pub staged_opened : (owner : Owner) (payloads : List (List ℕ)) (payload file new : List ℕ) (at : ℕ) → Staged owner payloads payload file → at ≡ length (front owner payloads) → length payload ≤ 2 ^ 30 → new ≡ overwritten file at (1 ∷ []) → IsChain owner new (payloads ++ payload ∷ [])
staged_opened owner payloads payload file new at staged place short is =
    let F = front owner payloads in
    let behind = counted payload ++ 0 ∷ staged.tail in
    opened owner payloads payload staged.tail new staged.bounded short (
    is ∙ ap (λ (f : List ℕ). overwritten f at (1 ∷ [])) staged.split ∙ ap (λ (k : ℕ). overwritten (F ++ staged.gate ∷ behind) k (1 ∷ [])) place ∙ gate_written F behind staged.gate 1
    )

length-overwritten : (old : List ℕ) (at : ℕ) (bytes : List ℕ) → at ≤ length old → (at + length bytes ≤ length (overwritten old at bytes)) × (length old ≤ length (overwritten old at bytes))
length-overwritten old at bytes le =
    let rest = drop (at + length bytes) old in
    let long : length (overwritten old at bytes) ≡ at + length bytes + length rest = omega (arith, length-append (take at old ++ bytes) rest, length-append (take at old) bytes, length-take at old) in
    (omega (arith, long), omega (arith, long, length-drop (at + length bytes) old))

-- the next gate lies in the file
pub long_after : (payload old mid new : List ℕ) (gate at : ℕ) → gate < length old → at ≡ gate + 1 → mid ≡ overwritten old at (counted payload ++ 0 ∷ []) → new ≡ overwritten mid gate (1 ∷ [])
    → gate + (length payload + 5) < length new
long_after payload old mid new gate at within place is_mid is_new =
    let first = length-overwritten old at (counted payload ++ 0 ∷ []) (omega (arith, within, place)) in
    let behind : length (counted payload ++ 0 ∷ []) ≡ length payload + 5 = omega (arith, length-append (counted payload) (0 ∷ []), length-counted payload) in
    let second = length-overwritten mid gate (1 ∷ []) (omega (arith, ap length is_mid, first.1, within)) in
    omega (arith, ap length is_mid, ap length is_new, first.0, second.1, behind, place)

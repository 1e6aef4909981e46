-- What loading finds.
use Rattle.std.proofs.Common.{◌≡◌, ◌≢◌, ◌⊎◌, inl, inr, ℕ, ◌+◌, ◌-◌, ◌<◌, ◌≤◌, ◌==◌, if◌then◌else◌, slice_index, List, [], ◌∷◌, ◌++◌, length, take, drop, refl, sym, ◌∙◌, ap, subst, arith, append-nil, append_assoc, length-append, take-append-drop}
use Rattle.std.specs.List.{flat_map}
use Rattle.std.proofs.lemmas.Bool.{eqb-true, false_from_ne_true}
use Rattle.std.proofs.lemmas.List.{drop_at}
use Rattle.sn_disk.specs.Disk.{LeavesOnly}
use Rattle.sn_disk.specs.Moments.{joined}
use Rattle.sn_journal.specs.Image.{header_of, batch, front, IsChain, IsStart, IsImage, SameBatches, missing_writes}
use Rattle.sn_journal.specs.Reading.{AreIn, IsBatches}
use Rattle.sn_journal.specs.Loading.{IsStartAt, writes_of}
use Rattle.sn_journal.specs.declared.beginning.Start.{Start}
use Rattle.sn_journal.specs.declared.beginning.Start.TheVariants.{Fresh, NoHeader, NoFirstByte}
use Rattle.sn_journal.specs.declared.owner.Owner.{Owner}
use Rattle.sn_journal.specs.Facts.{header_split, length-header}

pub is_start : (owner : Owner) (bytes : List ℕ) (start : Start) → IsStartAt owner bytes start → IsStart owner bytes
is_start owner bytes Fresh at = inl at
is_start owner bytes NoHeader at = inr (inl (at.1, at.2))
is_start owner bytes NoFirstByte at = inr (inr at.0)

pub start_image : (owner : Owner) (bytes file : List ℕ) (start : Start) → bytes ≡ file → IsStartAt owner bytes start → IsImage owner file []
start_image owner bytes file start is at = inr (is_start owner file start (subst (λ (f : List ℕ). IsStartAt owner f start) is at), refl)

-- a file of a header and a closed gate
pub made_chain : (owner : Owner) (file : List ℕ) → file ≡ header_of owner ++ 0 ∷ [] → IsChain owner file [] × (16 ≡ length (front owner []))
made_chain owner file is = (
  record { rest = 0 ∷ []; split = is ∙ ap (λ (h : List ℕ). h ++ 0 ∷ []) (sym (append-nil (header_of owner))); closed = omega arith; bounded = λ k d below. absurd (omega arith) },
  omega (arith, length-append (header_of owner) [], length-header owner),
)

-- no bytes read as no batches
pub none_read : AreIn [] []
none_read = record { rest = []; split = refl; over = inr (inl refl); bounded = λ k d below. absurd (omega arith) }

-- a file of the header and batches
pub read_chain : (owner : Owner) (file : List ℕ) (payloads : List (List ℕ)) → take 16 file ≡ header_of owner → IsBatches (drop 16 file) payloads → IsChain owner file payloads
read_chain owner file payloads header batches = record {
  rest = batches.rest;
  split = sym (take-append-drop 16 file) ∙ ap (λ (h : List ℕ). h ++ drop 16 file) header
      ∙ ap (λ (l : List ℕ). header_of owner ++ l) batches.split
      ∙ sym (append_assoc (header_of owner) (flat_map batch payloads) batches.rest);
  closed = batches.closed;
  bounded = batches.bounded;
}

chain_file : (owner : Owner) (file : List ℕ) (payloads : List (List ℕ)) (chain : IsChain owner file payloads) → file ≡ header_of owner ++ (flat_map batch payloads ++ chain.rest)
chain_file owner file payloads chain = chain.split ∙ append_assoc (header_of owner) (flat_map batch payloads) chain.rest

pub chain_long : (owner : Owner) (file : List ℕ) (payloads : List (List ℕ)) → IsChain owner file payloads → 16 ≤ length file
chain_long owner file payloads chain = omega (arith, ap length (chain_file owner file payloads chain), length-append (header_of owner) (flat_map batch payloads ++ chain.rest), length-header owner)

-- what stands behind the header reads as the batches
pub chain_read : (owner : Owner) (file : List ℕ) (payloads : List (List ℕ)) → IsChain owner file payloads → AreIn (drop 16 file) payloads
chain_read owner file payloads chain = record {
  rest = chain.rest;
  split = ap (λ (l : List ℕ). drop 16 l) (chain_file owner file payloads chain) ∙ drop_at (header_of owner) (flat_map batch payloads ++ chain.rest) 16 (length-header owner);
  over = inl chain.closed;
  bounded = chain.bounded;
}

first_whole : (file : List ℕ) → 1 < length file → slice_index file 0 ≡ 83 → missing_writes file ≡ 0
first_whole [] long is = absurd (omega arith)
first_whole (first ∷ []) long is = absurd (omega arith)
first_whole (first ∷ second ∷ rest) long is = ap (λ (b : ℕ). if b == 0 then 2 else (if b == 83 then 0 else 1)) is

-- no write is missing of a header
pub none_missing : (owner : Owner) (file : List ℕ) (payloads : List (List ℕ)) → IsChain owner file payloads → missing_writes file ≡ 0
none_missing owner file payloads chain =
    first_whole file (omega (arith, chain_long owner file payloads chain)) (ap (λ (l : List ℕ). slice_index l 0) (chain_file owner file payloads chain ∙ ap (λ (h : List ℕ). h ++ (flat_map batch payloads ++ chain.rest)) (header_split owner)))

missing_two : (file : List ℕ) → 1 < length file → slice_index file 0 ≡ 0 → missing_writes file ≡ 2
missing_two [] long is = absurd (omega arith)
missing_two (first ∷ []) long is = absurd (omega arith)
missing_two (first ∷ second ∷ rest) long is = ap (λ (b : ℕ). if b == 0 then 2 else (if b == 83 then 0 else 1)) is

missing_one : (file : List ℕ) → 1 < length file → slice_index file 0 ≢ 0 → slice_index file 0 ≢ 83 → missing_writes file ≡ 1
missing_one [] long some other = absurd (omega arith)
missing_one (first ∷ []) long some other = absurd (omega arith)
missing_one (first ∷ second ∷ rest) long some other =
    rw (false_from_ne_true (first == 0) (λ is. some (eqb-true first 0 is)), false_from_ne_true (first == 83) (λ is. other (eqb-true first 83 is))) refl

missing_three : (file : List ℕ) → length file ≤ 1 → missing_writes file ≡ 3
missing_three [] few = refl
missing_three (first ∷ []) few = refl
missing_three (first ∷ second ∷ rest) few = absurd (omega arith)

-- what a start lacks is missing
pub start_missing : (owner : Owner) (file : List ℕ) (start : Start) → IsStartAt owner file start → missing_writes file ≡ writes_of start
start_missing owner file Fresh at = missing_three file at
start_missing owner file NoHeader at = missing_two file at.0 at.2
start_missing owner file NoFirstByte at = missing_one file (omega (arith, at.0.long)) at.1 at.0.other

-- loading that goes on to make a journal
pub made_moments : {D : Type 0} (moment : D → ℕ) (left_since : D → ℕ → List ℕ → Type 0) (old mid new : D) (may_leave : List ℕ → Type 0) (owner : Owner) (file : List ℕ)
    → LeavesOnly moment left_since old mid may_leave → LeavesOnly moment left_since mid new (λ c. IsImage owner c []) → IsImage owner file []
    → LeavesOnly moment left_since old new (λ c. may_leave c ⊎ SameBatches owner file c)
made_moments moment left_since old mid new may_leave owner file first second empty =
    joined moment left_since old mid new _ _ _ first second (λ c left. inl left) (λ c image. inr ([], empty, image))

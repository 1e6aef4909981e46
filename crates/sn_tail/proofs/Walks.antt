-- Going from gate to gate.
use Rattle.std.proofs.Common.{◌≡◌, ◌⊎◌, inl, inr, ◌≤◌, ◌<◌, ℕ, ◌+◌, List, [], ◌∷◌, ◌++◌, length, drop, map, All, Result, Ok, Err, IfOk, IfErr, refl, sym, ◌∙◌, ap, subst, arith, append_assoc, append-nil, length-append, length-drop}
use Rattle.std.specs.Prelude.{MatchResult}
use Rattle.std.specs.List.{flat_map}
use Rattle.std.proofs.lemmas.List.{map-append}
use Rattle.std.proofs.lemmas.List.Concat.{flat_map-append}
use Rattle.std.proofs.lemmas.List.Elements.{All-head, All-nil, All-push, All-tail, recursion_from_All}
use Rattle.sn_disk.specs.Disk.{Only}
use Rattle.sn_disk.specs.MemDisk.{disk_told}
use Rattle.sn_disk.specs.Steps.{Leaves}
use Rattle.sn_disk.specs.declared.memory.MemDisk.{MemDisk}
use Rattle.sn_journal.specs.Facts.{length-counted}
use Rattle.sn_journal.specs.Image.{IsBounded, IsClosed, batch}
use Rattle.sn_journal.specs.Reading.{IsBroken}
use Rattle.sn_journal.specs.Unique.{behind_read, first_read, one_reading}
use Rattle.sn_journal.specs.declared.owner.Owner.{Owner}
use Rattle.sn_rows.specs.Spelling.{spelled}
use Rattle.sn_rows.specs.declared.change.Change.{Change}
use Rattle.sn_table.specs.Batches.{IsBatch, IsNoBatch, IsStore}
use Rattle.sn_tail.specs.Facts.{all_later, behind_are, one_tail, place_later, one_of_two, so_one, store_now}
use Rattle.sn_tail.specs.Added.{IsAdded}
use Rattle.sn_tail.specs.Marks.{HasOneFile, StoodAt, StoodAtEither, mark_of}
use Rattle.sn_tail.specs.Places.{place_behind}
use Rattle.sn_tail.specs.Tails.{AreBefore, ArePassed, HasNoBatchAt, IsEnd, IsNotAdded, IsTail, IsTailError}
use Rattle.sn_tail.specs.declared.tails.Tail.{Tail}
use Rattle.sn_tail.specs.declared.tails.TailError.{TailError}
use Rattle.sn_tail.specs.declared.tails.TailError.TheVariants.{Damaged, Memory}

flat_more : (payloads : List (List ℕ)) (payload : List ℕ) → flat_map batch (payloads ++ payload ∷ []) ≡ flat_map batch payloads ++ batch payload
flat_more payloads payload = flat_map-append batch payloads (payload ∷ []) ∙ ap (λ (l : List ℕ). flat_map batch payloads ++ l) (append-nil (batch payload))

split_more : (bytes rest payload left : List ℕ) (payloads : List (List ℕ)) → bytes ≡ flat_map batch payloads ++ rest → rest ≡ batch payload ++ left → bytes ≡ flat_map batch (payloads ++ payload ∷ []) ++ left
split_more bytes rest payload left payloads split is =
    split ∙ ap (λ (l : List ℕ). flat_map batch payloads ++ l) is ∙ sym (append_assoc (flat_map batch payloads) (batch payload) left) ∙ ap (λ (l : List ℕ). l ++ left) (sym (flat_more payloads payload))

length_more : (payloads : List (List ℕ)) (payload : List ℕ) → length (flat_map batch (payloads ++ payload ∷ [])) ≡ length (flat_map batch payloads) + (5 + length payload)
length_more payloads payload = omega (arith, ap length (flat_more payloads payload), length-append (flat_map batch payloads) (batch payload), length-counted payload)

pub passed_none : (bytes : List ℕ) (place : ℕ) (rest : List ℕ) → rest ≡ drop place bytes → ArePassed bytes place place rest
passed_none bytes place rest is = record { payloads = []; split = sym is; bounded = All-nil IsBounded; gate_is = omega arith }

pub passed_more : (bytes : List ℕ) (place gate next : ℕ) (rest payload left : List ℕ) → ArePassed bytes place gate rest → rest ≡ batch payload ++ left → IsBounded payload → next ≡ gate + (5 + length payload) → ArePassed bytes place next left
passed_more bytes place gate next rest payload left passed is short at = record {
  payloads = passed.payloads ++ payload ∷ [];
  split = split_more (drop place bytes) rest payload left passed.payloads passed.split is;
  bounded = All-push IsBounded passed.payloads payload passed.bounded short;
  gate_is = omega (arith, at, passed.gate_is, length_more passed.payloads payload);
}

-- a gate behind a whole batch lies within the bytes
pub next_within : (bytes : List ℕ) (place gate : ℕ) (rest payload left : List ℕ) → ArePassed bytes place gate rest → rest ≡ batch payload ++ left → gate + (5 + length payload) ≤ length bytes
next_within bytes place gate rest payload left passed is =
    omega (arith, passed.gate_is, length-drop place bytes, ap length passed.split, length-append (flat_map batch passed.payloads) rest, ap length is, length-append (batch payload) left, length-counted payload)

passed_before : (owner : Owner) (bytes : List ℕ) (place gate : ℕ) (batches : List (List Change)) (rest : List ℕ) → AreBefore owner bytes place batches gate rest → ArePassed bytes place gate rest
passed_before owner bytes place gate batches rest before = record { payloads = map spelled batches; split = before.split; bounded = before.bounded; gate_is = before.gate_is }

pub next_before : (owner : Owner) (bytes : List ℕ) (place gate : ℕ) (batches : List (List Change)) (rest payload left : List ℕ) → AreBefore owner bytes place batches gate rest → rest ≡ batch payload ++ left → gate + (5 + length payload) ≤ length bytes
next_before owner bytes place gate batches rest payload left before is = next_within bytes place gate rest payload left (passed_before owner bytes place gate batches rest before) is

-- what is left gets shorter
pub shorter : (rest payload left : List ℕ) → rest ≡ batch payload ++ left → length left < length rest
shorter rest payload left is = omega (arith, ap length is, length-append (batch payload) left)

-- the place where all passed ones end is that behind all
pub all_passed : (owner : Owner) (bytes : List ℕ) (place gate : ℕ) (rest : List ℕ) (before later : List (List Change)) → ArePassed bytes place gate rest → IsClosed rest ⊎ IsBroken rest
    → IsStore owner bytes (before ++ later) → place ≡ place_behind owner before → gate ≡ place_behind owner (before ++ later)
all_passed owner bytes place gate rest before later passed over store at =
    let are = behind_are owner bytes before later place store at in
    let one = one_reading passed.payloads (map spelled later) rest are.rest passed.bounded are.bounded over are.over (sym passed.split ∙ are.split) in
    omega (arith, passed.gate_is, at, place_later owner before later, ap (λ (ps : List (List ℕ)). length (flat_map batch ps)) one.0)

pub end_passed : (bytes : List ℕ) (place gate : ℕ) (rest : List ℕ) → ArePassed bytes place gate rest → IsClosed rest ⊎ IsBroken rest → IsEnd bytes place gate
end_passed bytes place gate rest passed over = record {
  payloads = passed.payloads;
  read = record { rest = rest; split = passed.split; over = over; bounded = passed.bounded };
  gate_is = passed.gate_is;
}

pub before_none : (owner : Owner) (bytes : List ℕ) (place : ℕ) (rest : List ℕ) → rest ≡ drop place bytes → AreBefore owner bytes place [] place rest
before_none owner bytes place rest is = record { split = sym is; bounded = All-nil IsBounded; each = All-nil (IsBatch owner); gate_is = omega arith }

pub before_more : (owner : Owner) (bytes : List ℕ) (place gate next : ℕ) (batches : List (List Change)) (rest payload left : List ℕ) (changes : List Change) → AreBefore owner bytes place batches gate rest
    → rest ≡ batch payload ++ left → IsBounded payload → payload ≡ spelled changes → IsBatch owner changes → next ≡ gate + (5 + length payload) → AreBefore owner bytes place (batches ++ changes ∷ []) next left
before_more owner bytes place gate next batches rest payload left changes before is short spells own at =
    let more : map spelled (batches ++ changes ∷ []) ≡ map spelled batches ++ payload ∷ [] = map-append spelled batches (changes ∷ []) ∙ ap (λ (p : List ℕ). map spelled batches ++ p ∷ []) (sym spells) in
    record {
      split = split_more (drop place bytes) rest payload left (map spelled batches) before.split is ∙ ap (λ (ps : List (List ℕ)). flat_map batch ps ++ left) (sym more);
      bounded = subst (All IsBounded) (sym more) (All-push IsBounded (map spelled batches) payload before.bounded short);
      each = All-push (IsBatch owner) batches changes before.each own;
      gate_is = omega (arith, at, before.gate_is, length_more (map spelled batches) payload, ap (λ (ps : List (List ℕ)). length (flat_map batch ps)) more);
    }

-- no whole batch stands behind them
pub tail_before : (owner : Owner) (bytes : List ℕ) (place gate : ℕ) (batches : List (List Change)) (rest : List ℕ) → AreBefore owner bytes place batches gate rest → IsClosed rest ⊎ IsBroken rest → IsTail owner bytes place batches gate
tail_before owner bytes place gate batches rest before over = record {
  read = record { rest = rest; split = before.split; over = over; bounded = before.bounded };
  each = before.each;
  gate_is = before.gate_is;
}

pub not_added : (owner : Owner) (bytes : List ℕ) (place gate : ℕ) (batches : List (List Change)) (rest payload left : List ℕ) (e : TailError) → AreBefore owner bytes place batches gate rest
    → rest ≡ batch payload ++ left → IsBounded payload → IsNotAdded owner payload gate e → IsTailError owner bytes place e
not_added owner bytes place gate batches rest payload left (Damaged at) before is short refused = record {
  batches = batches;
  payload = payload;
  later = left;
  before = record { split = before.split ∙ ap (λ (l : List ℕ). flat_map batch (map spelled batches) ++ l) is; bounded = before.bounded; each = before.each; gate_is = refused.0 ∙ before.gate_is };
  short = short;
  no_batch = refused.1;
}
not_added owner bytes place gate batches rest payload left Memory before is short refused = tt

-- each of these payloads spells a batch
spells_one : (owner : Owner) (batches : List (List Change)) (before later : List (List ℕ)) (payload : List ℕ) → map spelled batches ≡ before ++ payload ∷ later → All (IsBatch owner) batches → IsNoBatch owner payload → ⊥
spells_one owner [] [] later payload is each none = absurd cc
spells_one owner [] (p ∷ ps) later payload is each none = absurd cc
spells_one owner (b ∷ bs) [] later payload is each none = let first : payload ≡ spelled b = cc in none b (All-head (IsBatch owner) b bs each) first
spells_one owner (b ∷ bs) (p ∷ ps) later payload is each none = let others : map spelled bs ≡ ps ++ payload ∷ later = cc in spells_one owner bs ps later payload others (All-tail (IsBatch owner) b bs each) none

no_damage : (owner : Owner) (bytes : List ℕ) (place gate : ℕ) (before later : List (List Change)) → IsStore owner bytes (before ++ later) → place ≡ place_behind owner before → HasNoBatchAt owner bytes place gate → ⊥
no_damage owner bytes place gate before later store at has =
    let are = behind_are owner bytes before later place store at in
    let passed = map spelled has.batches in
    let behind = behind_read passed (map spelled later) (drop place bytes) (batch has.payload ++ has.later) are has.before.split (recursion_from_All IsBounded passed has.before.bounded) in
    let first = first_read (batch has.payload ++ has.later) has.payload has.later behind.0 behind.2 refl has.short in
    spells_one owner later passed first.0 has.payload (behind.1 ∙ ap (λ (l : List (List ℕ)). passed ++ l) first.1) (all_later (IsBatch owner) before later store.each) has.no_batch

pub answered : (owner : Owner) (bytes : List ℕ) (place : ℕ) (before later : List (List Change)) (result : Result Tail TailError) → IsStore owner bytes (before ++ later) → place ≡ place_behind owner before
    → IfOk result (λ tail. IsTail owner bytes place tail.batches tail.gate) → IfErr result (IsTailError owner bytes place)
    → MatchResult result (λ tail. (tail.batches ≡ later) × (tail.gate ≡ place_behind owner (before ++ later))) (λ error. error ≡ Memory)
answered owner bytes place before later (Ok tail) store at read refused = one_tail owner bytes before later place tail.batches tail.gate store at read
answered owner bytes place before later (Err (Damaged gate)) store at read refused = absurd (no_damage owner bytes place gate before later store at refused)
answered owner bytes place before later (Err Memory) store at read refused = refl

-- more is known of a tail
with_tail : (result : Result Tail TailError) (P Q : Tail → Type 0) (E : TailError → Type 0) → ((tail : Tail) → P tail → Q tail) → MatchResult result P E → MatchResult result Q E
with_tail (Ok tail) P Q E more found = more tail found
with_tail (Err e) P Q E more found = found

-- the tail has the batches that stand behind a place of the disk's bytes
abbrev pub HasBehindAt : Owner → MemDisk → ℕ → Result Tail TailError → Type 0
HasBehindAt owner disk place result = (before later : List (List Change)) → IsStore owner (disk_told disk).bytes (before ++ later) → place ≡ place_behind owner before
    → MatchResult result (λ tail. (tail.batches ≡ later) × (tail.gate ≡ place_behind owner (before ++ later))) (λ error. error ≡ Memory)

is_added : (owner : Owner) (disk : MemDisk) (before later : List (List Change)) (tail : Tail) → Only (disk_told disk).bytes (Leaves (disk_told disk)) → IsStore owner (disk_told disk).bytes (before ++ later)
    → (tail.batches ≡ later) × (tail.gate ≡ place_behind owner (before ++ later)) → IsAdded disk owner before tail
is_added owner disk before later tail one store found =
    let same : before ++ later ≡ before ++ tail.batches = ap (λ (bs : List (List Change)). before ++ bs) (sym found.0) in
    record {
      stands = subst (λ (bs : List (List Change)). StoodAt disk (mark_of disk) owner bs) same (so_one disk (λ file. IsStore owner file (before ++ later)) one store);
      gate_is = found.1 ∙ ap (λ (bs : List (List Change)). place_behind owner bs) same;
    }

pub stood : (owner : Owner) (disk : MemDisk) (place : ℕ) (result : Result Tail TailError) → HasBehindAt owner disk place result → (before : List (List Change)) → HasOneFile disk owner before → place ≡ place_behind owner before
    → MatchResult result (IsAdded disk owner before) (λ error. error ≡ Memory)
stood owner disk place result behind before has at =
    with_tail result (λ tail. (tail.batches ≡ has.later) × (tail.gate ≡ place_behind owner (before ++ has.later))) (IsAdded disk owner before) (λ error. error ≡ Memory)
    (λ tail found. is_added owner disk before has.later tail has.one has.store found)
    (behind before has.later has.store at)

-- the tail has the last batch, or not
abbrev IsEither : Owner → MemDisk → List (List Change) → List (List Change) → List Change → Tail → Type 0
IsEither owner disk before later changes tail = ((tail.batches ≡ later) ⊎ (tail.batches ≡ later ++ changes ∷ [])) × IsAdded disk owner before tail

pub stood_either : (owner : Owner) (disk : MemDisk) (place : ℕ) (result : Result Tail TailError) → HasBehindAt owner disk place result → (before later : List (List Change)) (changes : List Change)
    → Only (disk_told disk).bytes (Leaves (disk_told disk)) → StoodAtEither disk (mark_of disk) owner (before ++ later) changes → place ≡ place_behind owner before
    → MatchResult result (IsEither owner disk before later changes) (λ error. error ≡ Memory)
stood_either owner disk place result behind before later changes one either at = elim (one_of_two disk owner (before ++ later) changes one either) [
  | inl without ↦ (let store = store_now disk owner (before ++ later) one without in
      with_tail result (λ tail. (tail.batches ≡ later) × (tail.gate ≡ place_behind owner (before ++ later))) (IsEither owner disk before later changes) (λ error. error ≡ Memory)
      (λ tail found. (inl found.0, is_added owner disk before later tail one store found))
      (behind before later store at))
  | inr with_one ↦ (let whole = later ++ changes ∷ [] in
      let store = store_now disk owner (before ++ whole) one (subst (λ (bs : List (List Change)). StoodAt disk (mark_of disk) owner bs) (append_assoc before later (changes ∷ [])) with_one) in
      with_tail result (λ tail. (tail.batches ≡ whole) × (tail.gate ≡ place_behind owner (before ++ whole))) (IsEither owner disk before later changes) (λ error. error ≡ Memory)
      (λ tail found. (inr found.0, is_added owner disk before whole tail one store found))
      (behind before whole store at))
]

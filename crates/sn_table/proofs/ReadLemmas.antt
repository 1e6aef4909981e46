-- Payloads that are read one after the other.
use Rattle.std.proofs.Common.{◌≡◌, ◌⊎◌, ℕ, ◌+◌, ◌-◌, ◌<◌, ◌≤◌, ◌^◌, List, [], ◌∷◌, ◌++◌, length, refl, sym, ap, subst, ◌∙◌, arith, length-append, append_assoc, append-nil, All}
use Rattle.std.specs.Prelude.{map, min, Bool, true, false, Option, Some, None, if◌then◌else◌}
use Rattle.std.specs.List.{flat_map}
use Rattle.std.proofs.lemmas.List.{map-append}
use Rattle.std.proofs.lemmas.List.Elements.{All-append, All-head, All-nil, All-push, All-tail, recursion_from_All}
use Rattle.std.proofs.lemmas.List.Concat.{flat_map-append, flat_map-cons}
use Rattle.sn_journal.specs.Facts.{length-header, length-front_more}
use Rattle.sn_journal.specs.Image.{batch, front, header_of, IsBounded, IsClosed}
use Rattle.sn_journal.specs.Reading.{AreIn, IsBroken}
use Rattle.sn_journal.specs.Unique.{behind_read, first_read, one_reading}
use Rattle.sn_journal.specs.declared.owner.Owner.{Owner}
use Rattle.sn_row_map.specs.RowMaps.{row_in}
use Rattle.sn_row_map.specs.declared.row_map.RowMap.{RowMap}
use Rattle.sn_rows.specs.Facts.{batch_follows, keys_compare}
use Rattle.sn_rows.specs.Kinds.{key_kind}
use Rattle.sn_rows.specs.Spelling.{spelled}
use Rattle.sn_rows.specs.Table.{changed, key_of, row_after, same_key, value_of}
use Rattle.sn_rows.specs.declared.change.Change.{Change}
use Rattle.sn_rows.specs.declared.key.Key.{Key}
use Rattle.sn_rows.specs.declared.value.Value.{Value}
use Rattle.sn_table.specs.Batches.{IsBatch, IsNoBatch, IsOf, owner_of_kind}
use Rattle.sn_rows.specs.Facts.{kind_after}
use Rattle.sn_table.specs.Logs.{HasKinds, HasOwned}
use Rattle.sn_table.specs.Reading.{IsAdded, AreRead, AreTaken, IsUnread, IsAddError, IsReadError}
use Rattle.sn_table.specs.declared.reading.Unread.{Unread}
use Rattle.sn_table.specs.declared.reading.Unread.TheVariants.{Memory, NoBatch}

-- before the first payload
pub taken_none : (owner : Owner) (bytes : List ℕ) (rows : RowMap) → ((key : Key) → row_in rows key ≡ None) → AreTaken owner bytes bytes rows 16
taken_none owner bytes rows none = record {
  batches = [];
  split = refl;
  bounded = λ k d below. absurd (omega arith);
  each = All-nil (IsBatch owner);
  rows = none;
  gate_is = omega (arith, length-append (header_of owner) [], length-header owner);
}

-- one payload more
pub taken_more : (owner : Owner) (bytes rest payload left : List ℕ) (old new : RowMap) (gate mid next size : ℕ) → AreTaken owner bytes rest old gate → rest ≡ batch payload ++ left → IsBounded payload → IsAdded owner payload old new
    → mid ≡ min (gate + 5) (2 ^ 64 - 1) → next ≡ min (mid + size) (2 ^ 64 - 1) → size ≡ length payload → AreTaken owner bytes left new next
taken_more owner bytes rest payload left old new gate mid next size taken is short added first second size_is =
    let before = map spelled taken.batches in
    let more : map spelled (taken.batches ++ added.changes ∷ []) ≡ before ++ payload ∷ [] = map-append spelled taken.batches (added.changes ∷ []) ∙ ap (λ (p : List ℕ). before ++ p ∷ []) (sym added.is) in
    let longer = length-front_more owner before payload in
    record {
      batches = taken.batches ++ added.changes ∷ [];
      split = taken.split ∙ ap (λ (l : List ℕ). flat_map batch before ++ l) is ∙ sym (append_assoc (flat_map batch before) (batch payload) left)
          ∙ ap (λ (l : List ℕ). l ++ left) (sym (ap (λ (ps : List (List ℕ)). flat_map batch ps) more ∙ flat_map-append batch before (payload ∷ []) ∙ ap (λ (l : List ℕ). flat_map batch before ++ l) (append-nil (batch payload))));
      bounded = subst (All IsBounded) (sym more) (All-push IsBounded before payload taken.bounded short);
      each = All-push (IsBatch owner) taken.batches added.changes taken.each added.batch;
      rows = λ key. added.rows key ∙ ap (λ found. row_after found key added.changes) (taken.rows key) ∙ sym (batch_follows taken.batches added.changes key);
      gate_is = omega (arith, first, second, size_is, taken.gate_is, longer, ap (λ (ps : List (List ℕ)). length (front owner ps)) more);
    }

-- all were read
pub all_taken : (owner : Owner) (bytes rest : List ℕ) (rows : RowMap) (gate : ℕ) (payloads : List (List ℕ)) → AreTaken owner bytes rest rows gate → IsClosed rest ⊎ IsBroken rest → AreIn bytes payloads → AreRead owner payloads rows
all_taken owner bytes rest rows gate payloads taken over are =
    let one = one_reading (map spelled taken.batches) payloads rest are.rest taken.bounded are.bounded over are.over (sym taken.split ∙ are.split) in
    record { batches = taken.batches; are = sym one.0; each = taken.each; rows = taken.rows }

-- the rows that were read are of their keys' kinds
pub taken_kinds : (owner : Owner) (bytes rest : List ℕ) (rows : RowMap) (gate : ℕ) → AreTaken owner bytes rest rows gate → HasKinds rows
taken_kinds owner bytes rest rows gate taken key value is = kind_after None key (flat_map (λ (b : List Change). b) taken.batches) (λ v none. absurd cc) value (sym (taken.rows key) ∙ is)

-- a row of this key is of this owner's
abbrev IsOwn : Owner → Key → Option Value → Type 0
IsOwn owner key found = (value : Value) → found ≡ Some value → owner_of_kind (key_kind key) ≡ owner

changed_own : (owner : Owner) (found : Option Value) (key : Key) (change : Change) → IsOf owner change → IsOwn owner key found → IsOwn owner key (changed found key change)
changed_own owner found key change own had = go (same_key (key_of change) key) refl
  where
    go : (b : Bool) → same_key (key_of change) key ≡ b → IsOwn owner key (if b then value_of change else found)
    go true e = λ value is. subst (λ (k : Key). owner_of_kind (key_kind k) ≡ owner) ((keys_compare (key_of change) key).0 e) own
    go false e = had

row_own : (owner : Owner) (found : Option Value) (key : Key) (changes : List Change) → All (IsOf owner) changes → IsOwn owner key found → IsOwn owner key (row_after found key changes)
row_own owner found key [] all had = had
row_own owner found key (c ∷ cs) all had =
    row_own owner (changed found key c) key cs (All-tail (IsOf owner) c cs all) (changed_own owner found key c (All-head (IsOf owner) c cs all) had)

batches_own : (owner : Owner) (batches : List (List Change)) → All (IsBatch owner) batches → All (IsOf owner) (flat_map (λ (b : List Change). b) batches)
batches_own owner [] all = All-nil (IsOf owner)
batches_own owner (b ∷ bs) all =
    subst (All (IsOf owner)) (sym (flat_map-cons (λ (l : List Change). l) b bs))
    (All-append (IsOf owner) b (flat_map (λ (l : List Change). l) bs) (All-head (IsBatch owner) b bs all).owned (batches_own owner bs (All-tail (IsBatch owner) b bs all)))

-- the rows that were read are of the owner's
pub taken_owned : (owner : Owner) (bytes rest : List ℕ) (rows : RowMap) (gate : ℕ) → AreTaken owner bytes rest rows gate → HasOwned owner rows
taken_owned owner bytes rest rows gate taken key value is =
    row_own owner None key (flat_map (λ (b : List Change). b) taken.batches) (batches_own owner taken.batches taken.each) (λ v none. absurd cc) value (sym (taken.rows key) ∙ is)

front_short : (owner : Owner) (first later : List (List ℕ)) → length (front owner first) ≤ length (front owner (first ++ later))
front_short owner first later = omega (arith, length-append (header_of owner) (flat_map batch first), length-append (header_of owner) (flat_map batch (first ++ later)), ap length (flat_map-append batch first later), length-append (flat_map batch first) (flat_map batch later))

-- the payload that was read last spells no batch
unread_last : (owner : Owner) (bytes rest payload left : List ℕ) (rows : RowMap) (gate place : ℕ) (payloads : List (List ℕ)) → AreTaken owner bytes rest rows gate → rest ≡ batch payload ++ left → IsBounded payload → place ≡ gate → IsNoBatch owner payload
    → AreIn bytes payloads → length (front owner payloads) < 2 ^ 64 → IsUnread owner payloads place
unread_last owner bytes rest payload left rows gate place payloads taken is short at spells_none are fits =
    let before = map spelled taken.batches in
    let behind = behind_read before payloads bytes rest are taken.split (recursion_from_All IsBounded before taken.bounded) in
    let first = first_read rest payload left behind.0 behind.2 is short in
    record {
      batches = taken.batches;
      payload = payload;
      later = first.0;
      split = behind.1 ∙ ap (λ (l : List (List ℕ)). before ++ l) first.1;
      each = taken.each;
      place_is = omega (arith, at, taken.gate_is, fits, front_short owner before behind.0, ap (λ (ps : List (List ℕ)). length (front owner ps)) behind.1);
      no_batch = spells_none;
    }

pub not_taken : (owner : Owner) (bytes rest payload left : List ℕ) (rows : RowMap) (gate : ℕ) (e : Unread) (payloads : List (List ℕ)) → AreTaken owner bytes rest rows gate → rest ≡ batch payload ++ left → IsBounded payload → IsAddError owner payload gate e
    → AreIn bytes payloads → length (front owner payloads) < 2 ^ 64 → IsReadError owner payloads e
not_taken owner bytes rest payload left rows gate Memory payloads taken is short refused are fits = tt
not_taken owner bytes rest payload left rows gate (NoBatch place) payloads taken is short refused are fits = unread_last owner bytes rest payload left rows gate place payloads taken is short refused.0 refused.1 are fits

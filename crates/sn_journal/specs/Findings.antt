-- What loading finds in a file is one thing.
use Rattle.std.proofs.Common.{◌≡◌, ◌≢◌, ◌⊎◌, inl, inr, ◌≤◌, ◌<◌, ℕ, List, [], ◌∷◌, ◌++◌, length, take, drop, slice_index, sym, ◌∙◌, ap, subst, arith, append_assoc, length-append, take-append-drop}
use Rattle.std.specs.List.{flat_map}
use Rattle.std.proofs.lemmas.Bool.{cases_lt}
use Rattle.std.proofs.lemmas.List.{take_at, drop_at, get_or-take}
use Rattle.sn_journal.specs.Image.{header_of, batch, IsClosed, IsChain, IsStart, IsImage, IsBeforeOrAfter, SameBatches}
use Rattle.sn_journal.specs.Reading.{IsBroken}
use Rattle.sn_journal.specs.Loading.{IsCommonFront, IsForeign, IsDamaged}
use Rattle.sn_journal.specs.Laws.{batches, foreign, damaged, HasOneFinding, IsSameAfterCrashedLoads}
use Rattle.sn_journal.specs.declared.owner.Owner.{Owner}
use Rattle.sn_journal.specs.Facts.{length-header, header_split}
use Rattle.sn_journal.specs.Unique.{one_reading, closed_whole}

-- a file begins with the header
begins : (owner : Owner) (file rest : List ℕ) → file ≡ header_of owner ++ rest → (take 16 file ≡ header_of owner) × (drop 16 file ≡ rest) × (16 ≤ length file) × (slice_index file 0 ≡ 83)
begins owner file rest is = (
  ap (λ (l : List ℕ). take 16 l) is ∙ take_at (header_of owner) rest 16 (length-header owner),
  ap (λ (l : List ℕ). drop 16 l) is ∙ drop_at (header_of owner) rest 16 (length-header owner),
  omega (arith, ap length is, length-append (header_of owner) rest, length-header owner),
  ap (λ (l : List ℕ). slice_index l 0) (is ∙ ap (λ (h : List ℕ). h ++ rest) (header_split owner)),
)

-- the same, for a file of which only the first bytes are known
header_file : (owner : Owner) (file : List ℕ) → take 16 file ≡ header_of owner → file ≡ header_of owner ++ drop 16 file
header_file owner file is = sym (take-append-drop 16 file) ∙ ap (λ (l : List ℕ). l ++ drop 16 file) is

chain_file : (owner : Owner) (file : List ℕ) (payloads : List (List ℕ)) (chain : IsChain owner file payloads) → file ≡ header_of owner ++ (flat_map batch payloads ++ chain.rest)
chain_file owner file payloads chain = chain.split ∙ append_assoc (header_of owner) (flat_map batch payloads) chain.rest

closed_long : (rest : List ℕ) → IsClosed rest → 1 ≤ length rest
closed_long [] closed = absurd closed
closed_long (gate ∷ rest) closed = omega arith

-- a start doesn't begin with the header, or has it alone
start_no_header : (owner : Owner) (file rest : List ℕ) → IsStart owner file → file ≡ header_of owner ++ rest → ⊥
start_no_header owner file rest (inl few) is = omega (arith, few, (begins owner file rest is).2)
start_no_header owner file rest (inr (inl zero_first)) is = omega (arith, zero_first.1, (begins owner file rest is).3)
start_no_header owner file rest (inr (inr lacks)) is = lacks.other (begins owner file rest is).3

one_list : (owner : Owner) (file : List ℕ) (ps qs : List (List ℕ)) → IsImage owner file ps → IsImage owner file qs → ps ≡ qs
one_list owner file ps qs (inl one) (inl other) =
    (one_reading ps qs one.rest other.rest one.bounded other.bounded (inl one.closed) (inl other.closed)
    (sym (begins owner file _ (chain_file owner file ps one)).1 ∙ (begins owner file _ (chain_file owner file qs other)).1)).0
one_list owner file ps qs (inl one) (inr start) = absurd (start_no_header owner file _ start.0 (chain_file owner file ps one))
one_list owner file ps qs (inr start) (inl other) = absurd (start_no_header owner file _ start.0 (chain_file owner file qs other))
one_list owner file ps qs (inr start) (inr other) = start.1 ∙ sym other.1

pub one_image : (owner : Owner) (file : List ℕ) (ps qs : List (List ℕ)) → IsImage owner file ps → IsImage owner file qs → ps ≡ qs
one_image = one_list

-- what a common front says of a place in it
same_at : (file header : List ℕ) (n place : ℕ) → take n file ≡ take n header → place < n → slice_index file place ≡ slice_index header place
same_at file header n place is below = sym (get_or-take n file place 0 below) ∙ ap (λ (l : List ℕ). slice_index l place) is ∙ get_or-take n header place 0 below

-- a shorter common front has its difference inside a longer one
not_shorter : (file header : List ℕ) (one other : ℕ) → IsCommonFront file header one → IsCommonFront file header other → one < other → ⊥
not_shorter file header one other first second less = differ first.differs
  where
    differ : (one ≡ length file) ⊎ ((one ≡ length header) ⊎ (slice_index file one ≢ slice_index header one)) → ⊥
    differ (inl ends) = omega (arith, ends, less, second.within)
    differ (inr (inl ends)) = omega (arith, ends, less, second.within_other)
    differ (inr (inr unlike)) = unlike (same_at file header other one second.same less)

one_front : (file header : List ℕ) (one other : ℕ) → IsCommonFront file header one → IsCommonFront file header other → one ≡ other
one_front file header one other first second = elim (cases_lt one other) [
  | inl less ↦ absurd (not_shorter file header one other first second less)
  | inr no_less ↦ elim (cases_lt other one) [
    | inl less ↦ absurd (not_shorter file header other one second first less)
    | inr equal ↦ omega (arith, no_less, equal)
  ]
]

-- a foreign file doesn't begin with the header
foreign_no_header : (owner : Owner) (file rest : List ℕ) (place : ℕ) → IsForeign owner file place → file ≡ header_of owner ++ rest → ⊥
foreign_no_header owner file rest place is_foreign is = differ is_foreign.front.differs
  where
    found : (take 16 file ≡ header_of owner) × (drop 16 file ≡ rest) × (16 ≤ length file) × (slice_index file 0 ≡ 83)
    found = begins owner file rest is

    at : slice_index file place ≡ slice_index (header_of owner) place
    at = sym (get_or-take 16 file place 0 is_foreign.below) ∙ ap (λ (l : List ℕ). slice_index l place) found.0

    differ : (place ≡ length file) ⊎ ((place ≡ length (header_of owner)) ⊎ (slice_index file place ≢ slice_index (header_of owner) place)) → ⊥
    differ (inl ends) = omega (arith, ends, is_foreign.below, found.2)
    differ (inr (inl ends)) = omega (arith, ends, is_foreign.below, length-header owner)
    differ (inr (inr unlike)) = unlike at

image_not_foreign : (owner : Owner) (file : List ℕ) (payloads : List (List ℕ)) (place : ℕ) → IsImage owner file payloads → IsForeign owner file place → ⊥
image_not_foreign owner file payloads place (inl chain) is_foreign = foreign_no_header owner file _ place is_foreign (chain_file owner file payloads chain)
image_not_foreign owner file payloads place (inr start) is_foreign = is_foreign.no_start start.0

image_not_damaged : (owner : Owner) (file : List ℕ) (payloads : List (List ℕ)) (place : ℕ) → IsImage owner file payloads → IsDamaged owner file place → ⊥
image_not_damaged owner file payloads place (inr start) is_damaged = start_no_header owner file _ start.0 (header_file owner file is_damaged.header)
image_not_damaged owner file payloads place (inl chain) is_damaged =
    let broken = is_damaged.broken in
    let one = one_reading payloads broken.payloads chain.rest broken.rest chain.bounded broken.bounded (inl chain.closed) (inr broken.broken)
    (sym (begins owner file _ (chain_file owner file payloads chain)).1 ∙ broken.split) in
    closed_whole chain.rest chain.closed (subst IsBroken (sym one.1) broken.broken)

foreign_not_damaged : (owner : Owner) (file : List ℕ) (place other : ℕ) → IsForeign owner file place → IsDamaged owner file other → ⊥
foreign_not_damaged owner file place other is_foreign is_damaged = foreign_no_header owner file _ place is_foreign (header_file owner file is_damaged.header)

one_damage : (owner : Owner) (file : List ℕ) (place other : ℕ) → IsDamaged owner file place → IsDamaged owner file other → place ≡ other
one_damage owner file place other first second =
    let one = first.broken in
    let two = second.broken in
    let same = one_reading one.payloads two.payloads one.rest two.rest one.bounded two.bounded (inr one.broken) (inr two.broken) (sym one.split ∙ two.split) in
    omega (arith, first.place_is, second.place_is, one.place_is, two.place_is, ap (λ (ps : List (List ℕ)). length (flat_map batch ps)) same.0)

pub one_finding : HasOneFinding
one_finding owner file (batches ps) (batches qs) one other = ap batches (one_image owner file ps qs one other)
one_finding owner file (batches ps) (foreign q) one other = absurd (image_not_foreign owner file ps q one other)
one_finding owner file (batches ps) (damaged q) one other = absurd (image_not_damaged owner file ps q one other)
one_finding owner file (foreign p) (batches qs) one other = absurd (image_not_foreign owner file qs p other one)
one_finding owner file (foreign p) (foreign q) one other = ap foreign (one_front file (header_of owner) p q one.front other.front)
one_finding owner file (foreign p) (damaged q) one other = absurd (foreign_not_damaged owner file p q one other)
one_finding owner file (damaged p) (batches qs) one other = absurd (image_not_damaged owner file qs p other one)
one_finding owner file (damaged p) (foreign q) one other = absurd (foreign_not_damaged owner file q p other one)
one_finding owner file (damaged p) (damaged q) one other = ap damaged (one_damage owner file p q one other)

-- a file with the same batches as one whose batches are known
pub same_shown : (owner : Owner) (file other : List ℕ) (payloads : List (List ℕ)) → IsImage owner file payloads → SameBatches owner file other → IsImage owner other payloads
same_shown owner file other payloads image same = subst (IsImage owner other) (one_image owner file same.0 payloads same.1 image) same.2

pub crashed_loads : IsSameAfterCrashedLoads
crashed_loads owner payloads file [] image loads = tt
crashed_loads owner payloads file (next ∷ later) image (inl same, loads) =
    let here = subst (λ (f : List ℕ). IsImage owner f payloads) (sym same) image in
    (here, crashed_loads owner payloads next later here loads)
crashed_loads owner payloads file (next ∷ later) image (inr same, loads) =
    let here = same_shown owner file next payloads image same in
    (here, crashed_loads owner payloads next later here loads)

-- one of two lists is shown, and nothing else
pub either_list : (owner : Owner) (file : List ℕ) (payloads found : List (List ℕ)) (payload : List ℕ) → IsBeforeOrAfter owner payloads payload file → IsImage owner file found → (found ≡ payloads) ⊎ (found ≡ payloads ++ payload ∷ [])
either_list owner file payloads found payload (inl before) image = inl (one_image owner file found payloads image before)
either_list owner file payloads found payload (inr after) image = inr (one_image owner file found (payloads ++ payload ∷ []) image after)

pub either_shown : (owner : Owner) (file other : List ℕ) (payloads : List (List ℕ)) (payload : List ℕ) → IsBeforeOrAfter owner payloads payload file → SameBatches owner file other → IsBeforeOrAfter owner payloads payload other
either_shown owner file other payloads payload (inl before) same = inl (same_shown owner file other payloads before same)
either_shown owner file other payloads payload (inr after) same = inr (same_shown owner file other (payloads ++ payload ∷ []) after same)

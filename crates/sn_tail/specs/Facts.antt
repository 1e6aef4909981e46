-- Facts on places, tails and marks, for the crates above.
use Rattle.std.proofs.Common.{◌≡◌, ◌⊎◌, inl, inr, ⊎_elim, ◌≤◌, ℕ, ◌+◌, List, [], ◌∷◌, ◌++◌, length, take, drop, reverse, map, All, refl, sym, ◌∙◌, ap, subst, arith, append_assoc, append-nil, length-append, length-drop}
use Rattle.std.specs.List.{flat_map}
use Rattle.std.proofs.lemmas.Bool.{cases_eq}
use Rattle.std.proofs.lemmas.List.{drop_at, map-append, take-append-le, take_all}
use Rattle.std.proofs.lemmas.List.Concat.{flat_map-append}
use Rattle.std.proofs.lemmas.List.Elements.{All-drop, All-nil}
use Rattle.sn_disk.specs.Courses.{DiskState}
use Rattle.sn_disk.specs.Disk.{Only}
use Rattle.sn_disk.specs.Growth.{Longer, runs_longer}
use Rattle.sn_disk.specs.Laws.{stays}
use Rattle.sn_disk.specs.MemDisk.{Grows, HasStopSet, disk_state, disk_told}
use Rattle.sn_disk.specs.MemShelf.{shelf_slot}
use Rattle.sn_disk.specs.Shelf.{Slot, holds, out, unknown}
use Rattle.sn_disk.specs.Steps.{LeftAt, Leaves, Reaches, Step, Told, replayed}
use Rattle.sn_disk.specs.declared.images.Stop.{Stop}
use Rattle.sn_disk.specs.declared.mem_shelf.MemShelf.{MemShelf}
use Rattle.sn_disk.specs.declared.memory.MemDisk.{MemDisk}
use Rattle.sn_journal.specs.Facts.{length-header}
use Rattle.sn_journal.specs.Image.{IsBounded, IsChain, IsClosed, IsStart, batch, front, header_of}
use Rattle.sn_journal.specs.Reading.{AreIn, IsBroken}
use Rattle.sn_journal.specs.Unique.{one_reading}
use Rattle.sn_journal.specs.declared.owner.Owner.{Owner}
use Rattle.sn_rows.specs.Spelling.{spelled}
use Rattle.sn_rows.specs.Table.{Rows, no_rows, rows_of_batches}
use Rattle.sn_rows.specs.declared.change.Change.{Change}
use Rattle.sn_table.specs.Batches.{IsBatch, IsStore}
use Rattle.sn_table.specs.Facts.{batches_once, one_store}
use Rattle.sn_tail.specs.Marks.{HasBehind, HasOneFile, StoodAt, StoodAtEither, WasSo, mark_of, seen_at}
use Rattle.sn_tail.specs.Places.{place_behind}
use Rattle.sn_tail.specs.Shelves.{ReadsAs, SlotGrows, SlotReads, SlotStood}
use Rattle.sn_tail.specs.Tails.{IsTail, size_of}

-- no batches end at the first gate
pub first_gate : (owner : Owner) → place_behind owner [] ≡ 16
first_gate owner = omega (arith, length-append (header_of owner) [], length-header owner)

flat_later : (before later : List (List Change)) → flat_map batch (map spelled (before ++ later)) ≡ flat_map batch (map spelled before) ++ flat_map batch (map spelled later)
flat_later before later = ap (λ (ps : List (List ℕ)). flat_map batch ps) (map-append spelled before later) ∙ flat_map-append batch (map spelled before) (map spelled later)

-- more batches end later
pub place_later : (owner : Owner) (before later : List (List Change)) → place_behind owner (before ++ later) ≡ place_behind owner before + size_of later
place_later owner before later =
    let B = flat_map batch (map spelled before) in
    let L = flat_map batch (map spelled later) in
    omega (arith, length-append (header_of owner) (flat_map batch (map spelled (before ++ later))), length-append (header_of owner) B, ap length (flat_later before later), length-append B L)

pub all_later : {X : Type 0} (P : X → Type 0) (before later : List X) → All P (before ++ later) → All P later
all_later P before later all = subst (All P) (drop_at before later (length before) refl) (All-drop P (length before) (before ++ later) all)

-- in one byte stands no whole batch
few_over : (rest : List ℕ) → length rest ≤ 1 → IsClosed rest ⊎ IsBroken rest
few_over [] few = inr (inl refl)
few_over (gate ∷ []) few = elim (cases_eq gate 1) [ inl open_gate ↦ inr (inr (open_gate, inl (omega arith))) | inr other ↦ inl other ]
few_over (gate ∷ next ∷ rest) few = absurd (omega arith)

short_start : (owner : Owner) (file : List ℕ) → IsStart owner file → length file ≤ 17
short_start owner file (inl few) = omega (arith, few)
short_start owner file (inr (inl zero_first)) = zero_first.0
short_start owner file (inr (inr lacks)) = omega (arith, lacks.long)

chain_behind : (owner : Owner) (file : List ℕ) (before later : List (List Change)) (place : ℕ) → IsChain owner file (map spelled (before ++ later)) → place ≡ place_behind owner before
    → AreIn (drop place file) (map spelled later)
chain_behind owner file before later place chain at =
    let F = front owner (map spelled before) in
    let B = flat_map batch (map spelled before) in
    let L = flat_map batch (map spelled later) in
    let whole : file ≡ F ++ (L ++ chain.rest) = chain.split
    ∙ ap (λ (l : List ℕ). l ++ chain.rest) (ap (λ (l : List ℕ). header_of owner ++ l) (flat_later before later) ∙ sym (append_assoc (header_of owner) B L))
    ∙ append_assoc F L chain.rest in
    record {
      rest = chain.rest;
      split = ap (λ (l : List ℕ). drop place l) whole ∙ drop_at F (L ++ chain.rest) place (sym at);
      over = inl chain.closed;
      bounded = all_later IsBounded (map spelled before) (map spelled later) (subst (All IsBounded) (map-append spelled before later) chain.bounded);
    }

start_behind : (owner : Owner) (file : List ℕ) (before later : List (List Change)) (place : ℕ) → IsStart owner file → map spelled (before ++ later) ≡ [] → place ≡ place_behind owner before
    → AreIn (drop place file) (map spelled later)
start_behind owner file [] [] place start none at = record {
  rest = drop place file;
  split = refl;
  over = few_over (drop place file) (omega (arith, length-drop place file, short_start owner file start, at, first_gate owner));
  bounded = All-nil IsBounded;
}
start_behind owner file [] (b ∷ bs) place start none at = absurd cc
start_behind owner file (b ∷ bs) later place start none at = absurd cc

-- the batches that stand behind the place where some of a store's end
pub behind_are : (owner : Owner) (file : List ℕ) (before later : List (List Change)) (place : ℕ) → IsStore owner file (before ++ later) → place ≡ place_behind owner before
    → AreIn (drop place file) (map spelled later)
behind_are owner file before later place store at =
    ⊎_elim (λ chain. chain_behind owner file before later place chain at) (λ start. start_behind owner file before later place start.0 start.1 at) store.image

-- the one tail behind a place of a store
pub one_tail : (owner : Owner) (file : List ℕ) (before later : List (List Change)) (place : ℕ) (batches : List (List Change)) (gate : ℕ) → IsStore owner file (before ++ later) → place ≡ place_behind owner before
    → IsTail owner file place batches gate → (batches ≡ later) × (gate ≡ place_behind owner (before ++ later))
one_tail owner file before later place batches gate store at tail =
    let are = behind_are owner file before later place store at in
    let one = one_reading (map spelled batches) (map spelled later) tail.read.rest are.rest tail.read.bounded are.bounded tail.read.over are.over (sym tail.read.split ∙ are.split) in
    let same = batches_once owner batches later tail.each (all_later (IsBatch owner) before later store.each) one.0 in
    (same, omega (arith, tail.gate_is, at, place_later owner before later, ap size_of same))

-- what a crash leaves now it left at the last moment of the record
left_now : (disk : MemDisk) (file : List ℕ) → LeftAt (disk_told disk) (mark_of disk) file → Leaves (disk_told disk) file
left_now disk file left = subst (λ (l : List Step). Reaches (disk_told disk).start (reverse l) file) (take_all (mark_of disk) (disk_told disk).steps (omega arith)) left

-- what reads gave at a moment is one of the outcomes of a crash then
seen_left : (disk : MemDisk) (mark : ℕ) → LeftAt (disk_told disk) mark (seen_at disk mark)
seen_left disk mark = stays (disk_told disk).start (reverse (take mark (disk_told disk).steps))

pub so_now : (disk : MemDisk) (so : List ℕ → Type 0) → ((file : List ℕ) → Leaves (disk_told disk) file → so file) → WasSo disk (mark_of disk) so
so_now disk so each = record {
  within = omega arith;
  read = each (seen_at disk (mark_of disk)) (left_now disk (seen_at disk (mark_of disk)) (seen_left disk (mark_of disk)));
  each = λ file left. each file (left_now disk file left);
}

pub so_then : (old new : MemDisk) → Longer (disk_told old) (disk_told new) → (mark : ℕ) (so : List ℕ → Type 0) → WasSo old mark so → WasSo new mark so
so_then old new longer mark so was =
    let before = (disk_told old).steps in
    let now = (disk_told new).steps in
    let front_same : take mark now ≡ take mark before = ap (λ (l : List Step). take mark l) longer.steps ∙ take-append-le mark before longer.more was.within in
    let seen : seen_at new mark ≡ seen_at old mark = ap (λ (s : List ℕ). replayed s (reverse (take mark now))) longer.start ∙ ap (λ (l : List Step). replayed (disk_told old).start (reverse l)) front_same in
    record {
      within = omega (arith, was.within, ap length longer.steps, length-append before longer.more);
      read = subst so (sym seen) was.read;
      each = λ file left. was.each file (subst (λ (l : List Step). Reaches (disk_told old).start (reverse l) file) front_same (subst (λ (s : List ℕ). Reaches s (reverse (take mark now)) file) longer.start left));
    }

empty_store : (owner : Owner) (file : List ℕ) → file ≡ [] → IsStore owner file []
empty_store owner file is = record { image = inr (inl (omega (arith, ap length is)), refl); each = All-nil (IsBatch owner) }

-- a disk without bytes stood for no batches when it was made
pub so_fresh : (disk : MemDisk) (owner : Owner) → (disk_told disk).start ≡ [] → StoodAt disk 0 owner []
so_fresh disk owner is = record {
  within = omega arith;
  read = empty_store owner (seen_at disk 0) is;
  each = λ file left. empty_store owner file (left ∙ is);
}

pub longer_set : (stop : Stop) (old new : MemDisk) → HasStopSet stop old new → Longer (disk_told old) (disk_told new)
longer_set stop old new set = record { start = ap (λ (t : Told). t.start) set.told; more = []; steps = ap (λ (t : Told). t.steps) set.told ∙ sym (append-nil (disk_told old).steps) }

pub longer_copied : (old new : MemDisk) → disk_state new ≡ disk_state old → Longer (disk_told old) (disk_told new)
longer_copied old new same = record { start = ap (λ (c : DiskState). c.told.start) same; more = []; steps = ap (λ (c : DiskState). c.told.steps) same ∙ sym (append-nil (disk_told old).steps) }

pub longer_calls : (old new : MemDisk) → Grows old new → Longer (disk_told old) (disk_told new)
longer_calls old new grows = runs_longer (disk_state old) grows.calls (disk_state new) grows.runs

pub longer_on : (a b c : Told) → Longer a b → Longer b c → Longer a c
longer_on a b c x y = record {
  start = y.start ∙ x.start;
  more = x.more ++ y.more;
  steps = y.steps ∙ ap (λ (l : List Step). l ++ y.more) x.steps ∙ append_assoc a.steps x.more y.more;
}

pub later_mark : (old new : MemDisk) → Longer (disk_told old) (disk_told new) → mark_of old ≤ mark_of new
later_mark old new longer = omega (arith, ap length longer.steps, length-append (disk_told old).steps longer.more)

-- where a crash leaves just what reads give, that is the only file
pub so_one : (disk : MemDisk) (so : List ℕ → Type 0) → Only (disk_told disk).bytes (Leaves (disk_told disk)) → so (disk_told disk).bytes → WasSo disk (mark_of disk) so
so_one disk so one here = so_now disk so (λ file left. subst so (sym (one file left)) here)

seen_now : (disk : MemDisk) → Only (disk_told disk).bytes (Leaves (disk_told disk)) → seen_at disk (mark_of disk) ≡ (disk_told disk).bytes
seen_now disk one = one (seen_at disk (mark_of disk)) (left_now disk (seen_at disk (mark_of disk)) (seen_left disk (mark_of disk)))

pub one_of_two : (disk : MemDisk) (owner : Owner) (batches : List (List Change)) (changes : List Change) → Only (disk_told disk).bytes (Leaves (disk_told disk)) → StoodAtEither disk (mark_of disk) owner batches changes
    → StoodAt disk (mark_of disk) owner batches ⊎ StoodAt disk (mark_of disk) owner (batches ++ changes ∷ [])
one_of_two disk owner batches changes one either =
    let seen = seen_now disk one in
    let So : List (List Change) → List ℕ → Type 0 = λ bs file. IsStore owner file bs in
    ⊎_elim
    (λ (before : IsStore owner (seen_at disk (mark_of disk)) batches). inl (so_one disk (So batches) one (subst (So batches) seen before)))
    (λ (after : IsStore owner (seen_at disk (mark_of disk)) (batches ++ changes ∷ [])). inr (so_one disk (So (batches ++ changes ∷ [])) one (subst (So (batches ++ changes ∷ [])) seen after)))
    either.read

-- where a crash leaves just one file, what is so of each file that is left is so of that one
pub found_one : (disk : MemDisk) (owner : Owner) (before : List (List Change)) → Only (disk_told disk).bytes (Leaves (disk_told disk)) → WasSo disk (mark_of disk) (HasBehind owner before) → HasOneFile disk owner before
found_one disk owner before one was =
    let here : HasBehind owner before (disk_told disk).bytes = subst (HasBehind owner before) (seen_now disk one) was.read in
    record { one = one; later = here.0; store = here.1 }

-- the one file stands for the batches of the present mark
pub store_now : (disk : MemDisk) (owner : Owner) (batches : List (List Change)) → Only (disk_told disk).bytes (Leaves (disk_told disk)) → StoodAt disk (mark_of disk) owner batches → IsStore owner (disk_told disk).bytes batches
store_now disk owner batches one at = subst (λ (file : List ℕ). IsStore owner file batches) (seen_now disk one) at.read

pub found_list : (disk : MemDisk) (owner : Owner) (before later : List (List Change)) → Only (disk_told disk).bytes (Leaves (disk_told disk)) → StoodAt disk (mark_of disk) owner (before ++ later) → HasOneFile disk owner before
found_list disk owner before later one at = record { one = one; later = later; store = store_now disk owner (before ++ later) one at }

pub found_either : (disk : MemDisk) (owner : Owner) (before later : List (List Change)) (changes : List Change) → Only (disk_told disk).bytes (Leaves (disk_told disk)) → StoodAtEither disk (mark_of disk) owner (before ++ later) changes
    → HasOneFile disk owner before
found_either disk owner before later changes one either = ⊎_elim
    (found_list disk owner before later one)
    (λ (after : StoodAt disk (mark_of disk) owner ((before ++ later) ++ changes ∷ [])). found_list disk owner before (later ++ changes ∷ []) one (subst (λ (bs : List (List Change)). StoodAt disk (mark_of disk) owner bs) (append_assoc before later (changes ∷ [])) after))
    (one_of_two disk owner (before ++ later) changes one either)

pub one_list : (disk : MemDisk) (mark : ℕ) (owner : Owner) (one other : List (List Change)) → StoodAt disk mark owner one → StoodAt disk mark owner other → one ≡ other
one_list disk mark owner one other x y = one_store owner (seen_at disk mark) one other x.read y.read

-- what a slot's store stood for stays as the slot grows
pub slot_then : (old new : Slot MemDisk) (owner : Owner) (mark : ℕ) (batches : List (List Change)) → SlotGrows old new → SlotStood old owner mark batches → SlotStood new owner mark batches
slot_then unknown unknown owner mark batches grows stood = stood
slot_then unknown out owner mark batches grows stood = absurd grows
slot_then unknown (holds new) owner mark batches grows stood =
    subst (λ (m : ℕ). StoodAt new m owner batches) (sym stood.0) (subst (λ (bs : List (List Change)). StoodAt new 0 owner bs) (sym stood.1) (so_fresh new owner grows))
slot_then out new owner mark batches grows stood = absurd stood
slot_then (holds old) unknown owner mark batches grows stood = absurd grows
slot_then (holds old) out owner mark batches grows stood = absurd grows
slot_then (holds old) (holds new) owner mark batches grows stood = so_then old new grows mark (λ file. IsStore owner file batches) stood

slot_once : (slot : Slot MemDisk) (owner : Owner) (mark : ℕ) (one other : List (List Change)) → SlotStood slot owner mark one → SlotStood slot owner mark other → one ≡ other
slot_once unknown owner mark one other x y = x.1 ∙ sym y.1
slot_once out owner mark one other x y = absurd x
slot_once (holds disk) owner mark one other x y = one_list disk mark owner one other x y

pub slot_on : (a b c : Slot MemDisk) → SlotGrows a b → SlotGrows b c → SlotGrows a c
slot_on unknown unknown c x y = y
slot_on unknown out c x y = absurd x
slot_on unknown (holds b) unknown x y = absurd y
slot_on unknown (holds b) out x y = absurd y
slot_on unknown (holds b) (holds c) x y = y.start ∙ x
slot_on out b c x y = absurd x
slot_on (holds a) unknown c x y = absurd x
slot_on (holds a) out c x y = absurd x
slot_on (holds a) (holds b) unknown x y = absurd y
slot_on (holds a) (holds b) out x y = absurd y
slot_on (holds a) (holds b) (holds c) x y = longer_on (disk_told a) (disk_told b) (disk_told c) x y

pub reads_later : (old new : Slot MemDisk) → SlotGrows old new → (owner : Owner) (mark : ℕ) (rows : Rows) → SlotReads old owner mark rows → SlotReads new owner mark rows
reads_later old new grows owner mark rows reads = record { batches = reads.batches; stood = slot_then old new owner mark reads.batches grows reads.stood; rows_are = reads.rows_are }

pub one_reads : (slot : Slot MemDisk) (owner : Owner) (mark : ℕ) (one other : Rows) → SlotReads slot owner mark one → SlotReads slot owner mark other → one ≡ other
one_reads slot owner mark one other x y =
    x.rows_are ∙ ap (λ (bs : List (List Change)). rows_of_batches bs) (slot_once slot owner mark x.batches y.batches x.stood y.stood) ∙ sym y.rows_are

pub reads_disk : (shelf : MemShelf) (name : List ℕ) (disk : MemDisk) → shelf_slot shelf name ≡ holds disk → (mark : ℕ) (owner : Owner) (batches : List (List Change)) → StoodAt disk mark owner batches
    → ReadsAs shelf name owner mark (rows_of_batches batches)
reads_disk shelf name disk held mark owner batches stood = record { batches = batches; stood = subst (λ (s : Slot MemDisk). SlotStood s owner mark batches) (sym held) stood; rows_are = refl }

pub reads_none : (shelf : MemShelf) (name : List ℕ) (owner : Owner) → shelf_slot shelf name ≡ unknown → ReadsAs shelf name owner 0 no_rows
reads_none shelf name owner none = record { batches = []; stood = subst (λ (s : Slot MemDisk). SlotStood s owner 0 []) (sym none) (refl, refl); rows_are = refl }

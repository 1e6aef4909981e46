-- How long a journal is.
use Rattle.std.specs.Prelude.{◌≡◌, ◌≤◌, ◌+◌, ℕ, List, [], ◌∷◌, ◌++◌, length, drop}
use Rattle.std.proofs.Common.{refl, sym, ◌∙◌, ap, arith, append_assoc, append-nil, length-append}
use Rattle.std.specs.List.{flat_map}
use Rattle.std.specs.Int.{w32, to_be_bytes}
use Rattle.std.proofs.lemmas.List.Concat.{flat_map-append}
use Rattle.sn_journal.specs.Image.{header_of, counted, batch, front}
use Rattle.sn_journal.specs.declared.owner.Owner.{Owner}
use Rattle.sn_journal.specs.declared.owner.Owner.TheVariants.{Server, Device}

pub header_split : (owner : Owner) → header_of owner ≡ 83 ∷ drop 1 (header_of owner)
unfolding header_of
header_split Server = refl
header_split Device = refl

pub length-header : (owner : Owner) → length (header_of owner) ≡ 16
unfolding header_of
length-header Server = refl
length-header Device = refl

pub length-counted : (payload : List ℕ) → length (counted payload) ≡ length payload + 4
unfolding counted
length-counted payload = omega (arith, length-append (to_be_bytes w32 (length payload)) payload)

-- the front with one batch more
pub front_more : (owner : Owner) (payloads : List (List ℕ)) (payload rest : List ℕ) → front owner payloads ++ 1 ∷ (counted payload ++ rest) ≡ front owner (payloads ++ payload ∷ []) ++ rest
front_more owner payloads payload rest =
    let H = header_of owner in
    let more : flat_map batch (payloads ++ payload ∷ []) ≡ flat_map batch payloads ++ batch payload = flat_map-append batch payloads (payload ∷ []) ∙ ap (λ (l : List ℕ). flat_map batch payloads ++ l) (append-nil (batch payload)) in
    sym (
    ap (λ (l : List ℕ). (H ++ l) ++ rest) more
    ∙ ap (λ (l : List ℕ). l ++ rest) (sym (append_assoc H (flat_map batch payloads) (batch payload)))
    ∙ append_assoc (front owner payloads) (batch payload) rest
    )

-- the place of the next gate
pub length-front_more : (owner : Owner) (payloads : List (List ℕ)) (payload : List ℕ) → length (front owner (payloads ++ payload ∷ [])) ≡ length (front owner payloads) + (length payload + 5)
length-front_more owner payloads payload =
    let more : front owner payloads ++ 1 ∷ (counted payload ++ []) ≡ front owner (payloads ++ payload ∷ []) ++ [] = front_more owner payloads payload [] in
    omega (arith, ap length more, length-append (front owner payloads) (1 ∷ (counted payload ++ [])), length-append (front owner (payloads ++ payload ∷ [])) [], length-append (counted payload) [], length-counted payload)

-- a payload takes more than a byte
pub few_batches : (payloads : List (List ℕ)) → length payloads ≤ length (flat_map batch payloads)
few_batches [] = omega arith
few_batches (payload ∷ later) = omega (arith, few_batches later, length-append (batch payload) (flat_map batch later), length-counted payload)

pub few_payloads : (owner : Owner) (payloads : List (List ℕ)) → length payloads ≤ length (front owner payloads)
few_payloads owner payloads = omega (arith, few_batches payloads, length-append (header_of owner) (flat_map batch payloads))

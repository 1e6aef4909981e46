-- Batches that were read one after the other.
use Rattle.std.proofs.Common.{◌≡◌, ◌≤◌, ◌+◌, ◌^◌, ℕ, zero, suc, List, [], ◌∷◌, ◌++◌, length, All, get_or, sym, ◌∙◌, ap, arith, append_assoc, append-nil, length-append}
use Rattle.std.specs.List.{flat_map}
use Rattle.std.proofs.lemmas.List.Concat.{flat_map-append}
use Rattle.std.proofs.lemmas.List.Elements.{All-append}
use Rattle.sn_journal.specs.Image.{batch, IsBounded}
use Rattle.sn_journal.specs.Reading.{ArePassed}

lone_bounded : (payload : List ℕ) → IsBounded payload → All IsBounded (payload ∷ [])
lone_bounded payload short zero d below = short
lone_bounded payload short (suc k) d below = absurd (omega arith)

-- one batch more was read
pub one_passed : (bytes rest left payload : List ℕ) (count : ℕ) → ArePassed bytes rest count → rest ≡ batch payload ++ left → IsBounded payload → ArePassed bytes left (count + 1)
one_passed bytes rest left payload count passed next short =
    let more : flat_map batch (passed.payloads ++ payload ∷ []) ≡ flat_map batch passed.payloads ++ batch payload = flat_map-append batch passed.payloads (payload ∷ []) ∙ ap (λ (l : List ℕ). flat_map batch passed.payloads ++ l) (append-nil (batch payload)) in
    record {
      payloads = passed.payloads ++ payload ∷ [];
      split = passed.split ∙ ap (λ (l : List ℕ). flat_map batch passed.payloads ++ l) next
          ∙ sym (append_assoc (flat_map batch passed.payloads) (batch payload) left)
          ∙ ap (λ (l : List ℕ). l ++ left) (sym more);
      bounded = All-append IsBounded passed.payloads (payload ∷ []) passed.bounded (lone_bounded payload short);
      count_is = omega (arith, passed.count_is, length-append passed.payloads (payload ∷ []));
    }

-- Two keys compare equal where they are the same.
use Rattle.std.proofs.Common.{◌≡◌, ℕ, Bool, refl, ap, ◌∙◌, arith}
use Rattle.std.specs.Prelude.{◌==◌, ◌&&◌}
use Rattle.std.specs.Ordering.{nat_cmp, is_eq, ordering_then}
use Rattle.std.specs.declared.cmp.Ordering.{Ordering}
use Rattle.std.specs.declared.cmp.Ordering.TheVariants.{Less, Equal, Greater}
use Rattle.std.proofs.lemmas.Bool.Decides.{nat_tests}
use Rattle.std.proofs.lemmas.Map.Text.{is_eq-slice_cmp}
use Rattle.sn_rows.specs.contracts.key.SlotOrd.TheImpl as slot_order
use Rattle.sn_rows.specs.declared.key.Slot.{Slot}
use Rattle.sn_rows.specs.declared.key.Slot.TheVariants.{Present, Older, Asked}
use Rattle.sn_rows.specs.declared.key.Key.{Key}
use Rattle.sn_rows.specs.declared.key.Key.TheVariants as key
use Rattle.sn_rows.specs.Table.{same_slot, same_key}
use Rattle.sn_row_map.specs.Keys.{key_cmp}

nat_tie : (n m : ℕ) → is_eq (nat_cmp n m) ≡ (n == m)
nat_tie n m = grind (arith, nat_tests)

then_tie : (p q : Ordering) → is_eq (ordering_then p q) ≡ (is_eq p && is_eq q)
then_tie Less q = refl
then_tie Equal q = refl
then_tie Greater q = refl

slot_tie : (s t : Slot) → is_eq (slot_order.ghosts.cmp s t) ≡ same_slot s t
slot_tie Present Present = refl
slot_tie Older Older = refl
slot_tie Asked Asked = refl
slot_tie s t = refl

pub key_tie : (a b : Key) → is_eq (key_cmp a b) ≡ same_key a b
key_tie key.Store key.Store = refl
key_tie (key.Account n) (key.Account m) = nat_tie n m
key_tie (key.Generation n g) (key.Generation m h) =
    then_tie (nat_cmp n m) (nat_cmp g h)
    ∙ ap (λ (b : Bool). b && is_eq (nat_cmp g h)) (nat_tie n m)
    ∙ ap (λ (b : Bool). (n == m) && b) (nat_tie g h)
key_tie (key.Item u) (key.Item w) = is_eq-slice_cmp u w
key_tie key.Owner key.Owner = refl
key_tie (key.Set s) (key.Set t) = slot_tie s t
key_tie (key.Local n) (key.Local m) = nat_tie n m
key_tie a b = refl

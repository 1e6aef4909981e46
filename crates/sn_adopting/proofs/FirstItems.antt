-- The first item of a device of which something holds: a walk from item to item, by rising local number, up to it.
use Rattle.std.proofs.Common.{arith, ◌≡◌, ◌<◌, ◌≤◌, ◌⊎◌, ◌∙◌, ℕ, Option, Some, None, IfSome, refl, sym, ap, subst, inl, inr}
use Rattle.std.specs.Prelude.{IsSome}
use Rattle.std.specs.Cmp.{nat_cmp_is}
use Rattle.std.specs.Ordering.{nat_cmp}
use Rattle.std.specs.declared.cmp.Ordering.TheVariants.{Equal, Greater, Less}
use Rattle.std.proofs.Math.Nat.{eq-or-lt_of_le}
use Rattle.std.proofs.lemmas.Bool.{cases_lt}
use Rattle.sn_row_map.specs.RowMaps.{row_in}
use Rattle.sn_row_map.specs.Steps.{IsFirst, IsNext}
use Rattle.sn_row_map.specs.declared.row_map.RowMap.{RowMap}
use Rattle.sn_rows.specs.Kinds.{key_kind}
use Rattle.sn_rows.specs.Order.{ComesBefore}
use Rattle.sn_rows.specs.declared.device_rows.LocalItem.{LocalItem}
use Rattle.sn_rows.specs.declared.key.Key.{Key}
use Rattle.sn_rows.specs.declared.key.Key.TheVariants as key
use Rattle.sn_rows.specs.declared.kind.RowKind.TheVariants as kind
use Rattle.sn_rows.specs.declared.value.Value.{Value}
use Rattle.sn_rows.specs.declared.value.Value.TheVariants as value
use Rattle.sn_table.specs.Logs.{HasKinds}
use Rattle.sn_device.specs.Changing.{IsFirstItem}
use Rattle.sn_device.specs.States.{HasLocal}
use Rattle.sn_local.proofs.Facts.{local_key, local_value}

abbrev Rowed : Type 0
Rowed = Key × Value

pub not_some : {T : Type 0} (found : Option T) → ¬ (IsSome found) → found ≡ None
not_some None not = refl
not_some (Some x) not = absurd (not refl)

-- ---- the order of local numbers

less : (n m : ℕ) → nat_cmp n m ≡ Less → n < m
less n m is = elim (cases_lt n m) [
  | inl below ↦ below
  | inr above ↦ elim (eq-or-lt_of_le above) [
    | inl same ↦ (let e = nat_cmp_is n m Equal (sym same) in absurd cc)
    | inr over ↦ (let e = nat_cmp_is n m Greater over in absurd cc)
  ]
]

same_number : (n m : ℕ) → key.Local n ≡ key.Local m → n ≡ m
same_number n m same = cc

-- the key of a local number is at another number, or comes before it: the number is no greater
at_most : (k : Key) (n m : ℕ) → k ≡ key.Local m → (k ≡ key.Local n) ⊎ ComesBefore k (key.Local n) → m ≤ n
at_most k n m named (inl same) = let is : m ≡ n = same_number m n (sym named ∙ same) in omega (arith, is)
at_most k n m named (inr before) =
    let below : m < n = less m n (subst (λ (x : Key). ComesBefore x (key.Local n)) named before) in omega (arith, below)

comes_before : (k : Key) (n m : ℕ) → k ≡ key.Local m → m < n → ComesBefore k (key.Local n)
comes_before k n m named below = subst (λ (x : Key). ComesBefore x (key.Local n)) (sym named) (sym (nat_cmp_is m n Less below))

-- ---- a walk

-- an item of this number was passed: the row that is found is of a greater one
abbrev IsPassed : Option Rowed → ℕ → Type 0
IsPassed None n = Unit {0}
IsPassed (Some r) n = (m : ℕ) × (r.0 ≡ key.Local m) × (n < m)

-- it holds of no item that was passed
pub record NoneBefore (map : RowMap) (P : LocalItem → Type 0) (found : Option Rowed) : Type 0 where
  pub none : (n : ℕ) (local : LocalItem) → HasLocal (row_in map) n local → IsPassed found n → ¬ (P local)
  pub found_is : IfSome found (λ r. (key_kind r.0 ≡ kind.Local) × (row_in map r.0 ≡ Some r.1))

module _ (map : RowMap) (P : LocalItem → Type 0) where
  pub none_first : (found : Option Rowed) → IsFirst map kind.Local found → NoneBefore map P found
  none_first None first = record {
    none = λ n local has past p. (let none : row_in map (key.Local n) ≡ None = first (key.Local n) refl in cc);
    found_is = tt;
  }
  none_first (Some r) first = record {
    none = λ n local has past p.
        (let most : past.0 ≤ n = at_most r.0 n past.0 past.1 (first.least (key.Local n) (value.Local local) refl has) in
        let below : n < past.0 = past.2 in omega (arith, most, below));
    found_is = (first.passes, first.stands);
  }

  module _ (found : Option Rowed) (k : Key) (v : Value) (so : NoneBefore map P found) (here : found ≡ Some (k, v)) where
    was : NoneBefore map P (Some (k, v))
    was = subst (NoneBefore map P) here so

    -- what is found is an item
    pub found_local : HasKinds map → (local : LocalItem) × (v ≡ value.Local local)
    found_local kinds = local_value v (sym (kinds k v was.found_is.1) ∙ was.found_is.0)

    module _ (local : LocalItem) (valued : v ≡ value.Local local) where
      number : (m : ℕ) × (k ≡ key.Local m)
      number = local_key k was.found_is.0

      stands : HasLocal (row_in map) number.0 local
      stands = ap (row_in map) (sym number.1) ∙ was.found_is.1 ∙ ap (λ (x : Value). Some x) valued

      -- it is the first of which it holds
      pub found_first : P local → IsFirstItem (row_in map) P local.uuid
      found_first p = record {
        number = number.0;
        local = local;
        stands = (stands, refl);
        so = p;
        first = λ other twin has q. elim (cases_lt other number.0) [
          | inl below ↦ absurd (was.none other twin has (number.0, number.1, below) q)
          | inr above ↦ above
        ];
      }

      -- the item of this number, or one behind it
      ends_here : (n : ℕ) (other : LocalItem) → HasLocal (row_in map) n other → n ≡ number.0 → ¬ (P local) → ¬ (P other)
      ends_here n other has same not p =
          let its : HasLocal (row_in map) n local = subst (λ (m : ℕ). HasLocal (row_in map) m local) (sym same) stands in
          let is : other ≡ local = one_local (row_in map (key.Local n)) other local has its in
          not (subst P is p)
        where
          one_local : (o : Option Value) (a b : LocalItem) → o ≡ Some (value.Local a) → o ≡ Some (value.Local b) → a ≡ b
          one_local o a b h i = cc

      lies_behind : (after : Option Rowed) → IsNext map k after → (n : ℕ) (other : LocalItem) → HasLocal (row_in map) n other → number.0 < n
          → IsPassed after n → ⊥
      lies_behind None next n other has below past =
          let none : row_in map (key.Local n) ≡ None = next (key.Local n) (sym was.found_is.0, comes_before k n number.0 number.1 below) in cc
      lies_behind (Some r) next n other has below past =
          let most : past.0 ≤ n =
          at_most r.0 n past.0 past.1
          (next.least (key.Local n) (value.Local other) (sym was.found_is.0, comes_before k n number.0 number.1 below) has) in
          let under : n < past.0 = past.2 in
          omega (arith, most, under)

      next_is : (after : Option Rowed) → IsNext map k after → IfSome after (λ r. (key_kind r.0 ≡ kind.Local) × (row_in map r.0 ≡ Some r.1))
      next_is None next = tt
      next_is (Some r) next = (next.passes.0 ∙ was.found_is.0, next.stands)

      -- it doesn't hold of it: so on to the next one
      pub none_next : (after : Option Rowed) → ¬ (P local) → IsNext map k after → NoneBefore map P after
      none_next after not next = record {
        none = λ n other has past. elim (cases_lt n number.0) [
          | inl below ↦ was.none n other has (number.0, number.1, below)
          | inr above ↦ elim (eq-or-lt_of_le above) [
            | inl same ↦ ends_here n other has (sym same) not
            | inr over ↦ (λ p. lies_behind after next n other has over past)
          ]
        ];
        found_is = next_is after next;
      }

  -- at the end it holds of none
  pub none_at_all : (found : Option Rowed) → NoneBefore map P found → found ≡ None → (n : ℕ) (local : LocalItem) → HasLocal (row_in map) n local → ¬ (P local)
  none_at_all found so end n local has = let over : NoneBefore map P None = subst (NoneBefore map P) end so in over.none n local has tt

-- The items that a walk over places finds.
use Rattle.std.proofs.Common.{◌≡◌, ◌⊎◌, ◌<◌, ◌≤◌, ◌∙◌, ℕ, suc, Bool, true, false, List, [], ◌∷◌, ◌++◌, map, Option, Some, None, Less, refl, sym, ap, subst, ⊎_elim, inl, inr, arith, append_assoc}
use Rattle.std.specs.BTreeMap.Range.{IsInRange}
use Rattle.std.specs.BTreeSet.{IsOrdered, keys_between}
use Rattle.std.specs.Cmp.Lexicographic.{slice_cmp}
use Rattle.std.specs.List.{Contains}
use Rattle.std.specs.List.Sorted.{IsStrictlySortedBy}
use Rattle.std.specs.Ordering.{nat_cmp}
use Rattle.std.specs.declared.ops.Bound.{Bound}
use Rattle.std.proofs.lemmas.Cmp.{nat_list_cmp_total, tied_itself}
use Rattle.std.proofs.lemmas.List.{append-nil}
use Rattle.std.proofs.lemmas.List.Elements.{All-contains, All-from_recursion, Contains-push, Contains-push_cases}
use Rattle.std.proofs.lemmas.Map.Keys.{IsStrictlyIncreasing-from_sorted, sorted_head, sorted_tail}
use Rattle.sn_row_map.specs.RowMaps.{row_in}
use Rattle.sn_rows.specs.Table.{Rows}
use Rattle.sn_rows.specs.declared.key.Key.TheVariants as key
use Rattle.sn_rows.specs.declared.server_rows.ItemRow.{ItemRow}
use Rattle.sn_rows.specs.declared.value.Value.{Value}
use Rattle.sn_rows.specs.declared.value.Value.TheVariants as value
use Rattle.sn_sync.specs.Stamps.{last_stamp}
use Rattle.sn_account.specs.Lookups.{Bytes, HasItem}
use Rattle.sn_account.specs.Pages.{AreAbove, Found, IsCandidate, IsGreatest}
use Rattle.sn_account.specs.Places.{IsAt, place_cmp, place_of}
use Rattle.sn_account.specs.Sound.{IsSound}
use Rattle.sn_account.specs.States.{IsUnmarked, state_rows}
use Rattle.sn_account.specs.Taking.{item_in}
use Rattle.sn_account.specs.declared.place.Place.{Place}
use Rattle.sn_account.specs.declared.state.State.{State}
use Rattle.sn_account.proofs.BehindLemmas.{unmarked_rows}
use Rattle.sn_account.proofs.Deciding.{Decided, at_most, both, decided_so, same_bool, same_number}
use Rattle.sn_account.proofs.PlaceLemmas.{in_walk, later_stamp, walk_in_order}
use Rattle.sn_account.proofs.RisingLists.{Rises, at_head, behind_head, below_last, head_or_behind, none_of, none_rise, rises_cons, rises_so}

pub candidate_or_not : (n above : ℕ) (first : Bool) (i : ItemRow) → Decided (IsCandidate n above first i)
candidate_or_not n above first i =
    decided_so (λ p. (p.0, p.1.0, p.1.1)) (λ c. (c.0, (c.1, c.2))) (both (same_number i.account n) (both (at_most (suc above) i.updated) (by_first first refl)))
  where
    by_first : (b : Bool) → first ≡ b → Decided (first ≡ true → i.deleted ≡ false)
    by_first false e = inl (λ whole. absurd cc)
    by_first true e = decided_so (λ live whole. live) (λ over. over e) (same_bool i.deleted false)

-- the item stands at the place, and is one that a page may give
abbrev pub IsFoundAt : ℕ → ℕ → Bool → Place → ItemRow → Type 0
IsFoundAt n above first p i = IsAt p i × IsCandidate n above first i

-- no item of the place's uuid is
abbrev pub NoneAt : Rows → ℕ → ℕ → Bool → Place → Type 0
NoneAt rows n above first p = (i : ItemRow) → HasItem rows p.uuid i → ¬ (IsFoundAt n above first p i)

pub found_or_not : (n above : ℕ) (first : Bool) (p : Place) (i : ItemRow) → Decided (IsFoundAt n above first p i)
found_or_not n above first p i = both (both (same_number i.account p.account) (same_number i.updated p.stamp)) (candidate_or_not n above first i)

abbrev pub found_if : (n above : ℕ) (first : Bool) (p : Place) (i : ItemRow) → Decided (IsFoundAt n above first p i) → List Found
found_if n above first p i (inl is) = (p.uuid, i) ∷ []
found_if n above first p i (inr off) = []

abbrev pub found_in : ℕ → ℕ → Bool → Place → Option ItemRow → List Found
found_in n above first p None = []
found_in n above first p (Some i) = found_if n above first p i (found_or_not n above first p i)

-- what is found at places, in their order
abbrev pub found_of : Rows → ℕ → ℕ → Bool → List Place → List Found
found_of rows n above first [] = []
found_of rows n above first (p ∷ ps) = found_in n above first p (item_in (rows (key.Item p.uuid))) ++ found_of rows n above first ps

module _ (rows : Rows) (n above : ℕ) (first : Bool) where
  abbrev found : List Place → List Found
  found ps = found_of rows n above first ps

  found_is : (p : Place) (i : ItemRow) (d : Decided (IsFoundAt n above first p i)) → IsFoundAt n above first p i
      → found_if n above first p i d ≡ (p.uuid, i) ∷ []
  found_is p i (inl is) at = refl
  found_is p i (inr off) at = absurd (off at)

  found_not : (p : Place) (i : ItemRow) (d : Decided (IsFoundAt n above first p i)) → ¬ (IsFoundAt n above first p i)
      → found_if n above first p i d ≡ []
  found_not p i (inl is) off = absurd (off is)
  found_not p i (inr other) off = refl

  -- an item that is found comes first
  pub found_one : (p : Place) (ps : List Place) (i : ItemRow) → HasItem rows p.uuid i → IsFoundAt n above first p i
      → found_of rows n above first (p ∷ ps) ≡ (p.uuid, i) ∷ found_of rows n above first ps
  found_one p ps i has at =
      ap (λ (o : Option Value). found_in n above first p (item_in o) ++ found ps) has
      ∙ ap (λ (fs : List Found). fs ++ found ps) (found_is p i (found_or_not n above first p i) at)

  -- a place at which none is adds nothing
  pub found_no : (p : Place) (ps : List Place) → NoneAt rows n above first p → found_of rows n above first (p ∷ ps) ≡ found_of rows n above first ps
  found_no p ps none = ap (λ (fs : List Found). fs ++ found ps) (by_row (rows (key.Item p.uuid)) refl)
    where
      by_row : (o : Option Value) → rows (key.Item p.uuid) ≡ o → found_in n above first p (item_in o) ≡ []
      by_row (Some (value.Item i)) e = found_not p i (found_or_not n above first p i) (none i e)
      by_row o e = refl

  abbrev OneOrNone : Place → List Place → Type 0
  OneOrNone p ps = ((i : ItemRow) × HasItem rows p.uuid i × IsFoundAt n above first p i × (found (p ∷ ps) ≡ (p.uuid, i) ∷ found ps))
      ⊎ (found (p ∷ ps) ≡ found ps)

  one_or_none : (p : Place) (ps : List Place) → OneOrNone p ps
  one_or_none p ps = by_row (rows (key.Item p.uuid)) refl
    where
      by_test : (i : ItemRow) → HasItem rows p.uuid i → Decided (IsFoundAt n above first p i) → OneOrNone p ps
      by_test i has (inl at) = inl (i, has, at, found_one p ps i has at)
      by_test i has (inr off) =
          inr (ap (λ (o : Option Value). found_in n above first p (item_in o) ++ found ps) has
          ∙ ap (λ (fs : List Found). fs ++ found ps) (found_not p i (found_or_not n above first p i) off))

      by_row : (o : Option Value) → rows (key.Item p.uuid) ≡ o → OneOrNone p ps
      by_row (Some (value.Item i)) e = by_test i e (found_or_not n above first p i)
      by_row o e = inr (ap (λ (q : Option Value). found_in n above first p (item_in q) ++ found ps) e)

  pub found-append : (ps qs : List Place) → found_of rows n above first (ps ++ qs) ≡ found_of rows n above first ps ++ found_of rows n above first qs
  found-append [] qs = refl
  found-append (p ∷ ps) qs =
      let here : List Found = found_in n above first p (item_in (rows (key.Item p.uuid))) in
      ap (λ (fs : List Found). here ++ fs) (found-append ps qs) ∙ sym (append_assoc here (found ps) (found qs))

  -- the item stands at one of the places
  abbrev Stands : List Place → Bytes → ItemRow → Type 0
  Stands ps u i = (p : Place) × Contains ps p × (p.uuid ≡ u) × HasItem rows u i × IsFoundAt n above first p i

  -- what is found does
  found_stands : (ps : List Place) (u : Bytes) (i : ItemRow) → Contains (found ps) (u, i) → Stands ps u i
  found_stands [] u i has = absurd (none_of (u, i) has)
  found_stands (p ∷ ps) u i has = by_case (one_or_none p ps) (λ behind. found_stands ps u i behind)
    where
      later : Stands ps u i → Stands (p ∷ ps) u i
      later at = (at.0, behind_head p ps at.0 at.1, at.2, at.3, at.4)

      here : (j : ItemRow) → HasItem rows p.uuid j → IsFoundAt n above first p j → p.uuid ≡ u → j ≡ i → Stands (p ∷ ps) u i
      here j own at named same =
          (p, at_head p ps, named, rw (← named, ← same) own, subst (λ (r : ItemRow). IsFoundAt n above first p r) same at)

      by_case : OneOrNone p ps → (Contains (found ps) (u, i) → Stands ps u i) → Stands (p ∷ ps) u i
      by_case (inl (j, own, at, is)) more =
          ⊎_elim
          (λ (same : (p.uuid, j) ≡ (u, i)). here j own at (ap (λ (f : Found). f.0) same) (ap (λ (f : Found). f.1) same))
          (λ behind. later (more behind))
          (head_or_behind (p.uuid, j) (found ps) (u, i) (subst (λ (fs : List Found). Contains fs (u, i)) is has))
      by_case (inr is) more = later (more (subst (λ (fs : List Found). Contains fs (u, i)) is has))

  -- an item that stands at one of them is found
  is_found : (ps : List Place) (p : Place) (i : ItemRow) → Contains ps p → HasItem rows p.uuid i → IsFoundAt n above first p i
      → Contains (found ps) (p.uuid, i)
  is_found [] p i has own at = absurd (none_of p has)
  is_found (q ∷ ps) p i has own at = by_place (head_or_behind q ps p has) (λ behind. is_found ps p i behind own at)
    where
      by_place : (q ≡ p) ⊎ Contains ps p → (Contains ps p → Contains (found ps) (p.uuid, i)) → Contains (found (q ∷ ps)) (p.uuid, i)
      by_place (inl same) more =
          subst (λ (r : Place). Contains (found (r ∷ ps)) (p.uuid, i)) (sym same)
          (subst (λ (fs : List Found). Contains fs (p.uuid, i)) (sym (found_one p ps i own at)) (at_head (p.uuid, i) (found ps)))
      by_place (inr behind) more =
          ⊎_elim
          (λ (one : (j : ItemRow) × HasItem rows q.uuid j × IsFoundAt n above first q j × (found (q ∷ ps) ≡ (q.uuid, j) ∷ found ps)).
          subst (λ (fs : List Found). Contains fs (p.uuid, i)) (sym one.3) (behind_head (q.uuid, one.0) (found ps) (p.uuid, i) (more behind)))
          (λ (none : found (q ∷ ps) ≡ found ps). subst (λ (fs : List Found). Contains fs (p.uuid, i)) (sym none) (more behind))
          (one_or_none q ps)

  -- ---- places in order

  module _ (sound : IsSound rows) where
    -- of two places in order, the items' stamps rise
    stamps_rise : (p q : Place) (i j : ItemRow) → place_cmp p q ≡ Less → HasItem rows p.uuid i → IsFoundAt n above first p i
        → HasItem rows q.uuid j → IsFoundAt n above first q j → i.updated < j.updated
    stamps_rise p q i j less own at also there =
        let account : p.account ≡ q.account = sym at.0.0 ∙ at.1.0 ∙ sym there.1.0 ∙ there.0.0 in
        let stamp : i.updated ≡ p.stamp = at.0.1 in
        let other : j.updated ≡ q.stamp = there.0.1 in
        elim (later_stamp p q account less) [
          | inl below ↦ omega (arith, below)
          | inr tie ↦ (let uuids : p.uuid ≡ q.uuid = sound.stamps p.uuid q.uuid i j own also (stamp ∙ tie.0 ∙ sym other) in
              let no : slice_cmp nat_cmp q.uuid q.uuid ≡ Less = ap (λ (u : Bytes). slice_cmp nat_cmp u q.uuid) (sym uuids) ∙ tie.1 in
              let e = tied_itself nat_list_cmp_total q.uuid in absurd cc)
        ]

    found_rise : (ps : List Place) → IsStrictlySortedBy place_cmp ps → Rises (λ (f : Found). f.1.updated) (found ps)
    found_rise [] sorted = none_rise (λ (f : Found). f.1.updated)
    found_rise (p ∷ ps) sorted = by_case (one_or_none p ps) (found_rise ps (sorted_tail place_cmp p ps sorted))
      where
        above_it : (i : ItemRow) → HasItem rows p.uuid i → IsFoundAt n above first p i → (f : Found) → Contains (found ps) f → i.updated < f.1.updated
        above_it i own at (w, j) has =
            let there = found_stands ps w j has in
            let less : place_cmp p there.0 ≡ Less = All-contains (λ (q : Place). place_cmp p q ≡ Less) ps there.0
            (All-from_recursion (λ (q : Place). place_cmp p q ≡ Less) ps (sorted_head place_cmp p ps sorted)) there.1 in
            stamps_rise p there.0 i j less own at (rw there.2 there.3) there.4

        by_case : OneOrNone p ps → Rises (λ (f : Found). f.1.updated) (found ps) → Rises (λ (f : Found). f.1.updated) (found (p ∷ ps))
        by_case (inl (i, own, at, is)) rise =
            subst (Rises (λ (f : Found). f.1.updated)) (sym is)
            (rises_cons (λ (f : Found). f.1.updated) (p.uuid, i) (found ps) (above_it i own at) rise)
        by_case (inr is) rise = subst (Rises (λ (f : Found). f.1.updated)) (sym is) rise

    -- all items that a page may give, if each of them has its place there
    pub are_above : (ps : List Place) → IsStrictlySortedBy place_cmp ps
        → ((u : Bytes) (i : ItemRow) → HasItem rows u i → IsCandidate n above first i → Contains ps (place_of u i))
        → AreAbove rows n above first (found_of rows n above first ps)
    are_above ps sorted whole = record {
      rising = IsStrictlyIncreasing-from_sorted (map (λ (f : Found). f.1.updated) (found ps)) (found_rise ps sorted);
      whole = λ u i. (
        λ has. (let at = found_stands ps u i has in (at.3, at.4.1)),
        λ own. is_found ps (place_of u i) i (whole u i own.0 own.1) own.0 ((refl, refl), own.1),
      );
    }

  -- ---- from the back

  -- a last place at which none is
  pub back_no : (left ps : List Place) (p : Place) → left ≡ ps ++ p ∷ [] → NoneAt rows n above first p
      → found_of rows n above first left ≡ found_of rows n above first ps
  back_no left ps p is none =
      ap (found_of rows n above first) is ∙ found-append ps (p ∷ []) ∙ ap (λ (fs : List Found). found ps ++ fs) (found_no p [] none) ∙ append-nil (found ps)

  -- and one at which an item is
  pub back_one : (left ps : List Place) (p : Place) (i : ItemRow) → left ≡ ps ++ p ∷ [] → HasItem rows p.uuid i → IsFoundAt n above first p i
      → found_of rows n above first left ≡ found_of rows n above first ps ++ (p.uuid, i) ∷ []
  back_one left ps p i is own at =
      ap (found_of rows n above first) is ∙ found-append ps (p ∷ []) ∙ ap (λ (fs : List Found). found ps ++ fs) (found_one p [] i own at)

-- a walk over the places of an account above a stamp finds all items that a page may give
pub walk_above : (state : State) → IsUnmarked state → IsSound (state_rows state) → (n above : ℕ) (first : Bool) (lo hi : Bound Place) (walk : List Place)
    → walk ≡ keys_between place_cmp lo hi state.places.entries → IsOrdered place_cmp state.places.entries
    → ((stamp : ℕ) (uuid : Bytes) → above < stamp → stamp ≤ last_stamp → IsInRange place_cmp lo hi (record { account = n; stamp = stamp; uuid = uuid }))
    → AreAbove (state_rows state) n above first (found_of (state_rows state) n above first walk)
walk_above state unmarked sound n above first lo hi walk is ordered inside =
    are_above (state_rows state) n above first sound walk (walk_in_order state.places.entries lo hi walk is ordered)
    (λ u i has can.
    let there : row_in state.rows (key.Item u) ≡ Some (value.Item i) = sym (unmarked_rows state unmarked (key.Item u)) ∙ has in
    in_walk state.places.entries lo hi walk is (place_of u i) (state.placed u i there)
    (subst (λ (m : ℕ). IsInRange place_cmp lo hi (record { account = m; stamp = i.updated; uuid = u })) (sym can.0)
    (inside i.updated u can.1 i.updated_fits)))

-- ---- the greatest stamp

module _ (rows : Rows) (n : ℕ) (sound : IsSound rows) where
  -- each item has a stamp past 0
  is_candidate : (u : Bytes) (i : ItemRow) → HasItem rows u i → i.account ≡ n → IsCandidate n 0 false i
  is_candidate u i has own = let is = sound.items u i has in let one = is.first in let more = is.later in (own, omega arith, λ whole. absurd cc)

  pub greatest_none : (fs : List Found) → AreAbove rows n 0 false fs → fs ≡ [] → IsGreatest rows n 0
  greatest_none fs all none = (
    λ u i has own. absurd (none_of (u, i) (subst (λ (gs : List Found). Contains gs (u, i)) none ((all.whole u i).1 (has, is_candidate u i has own)))),
    inl refl,
  )

  pub greatest_last : (fs : List Found) (front : List Found) (u : Bytes) (i : ItemRow) (stamp : ℕ) → AreAbove rows n 0 false fs
      → fs ≡ front ++ (u, i) ∷ [] → i.updated ≡ stamp → IsGreatest rows n stamp
  greatest_last fs front u i stamp all is at =
      let whole : AreAbove rows n 0 false (front ++ (u, i) ∷ []) = subst (AreAbove rows n 0 false) is all in
      let own = (whole.whole u i).0 (Contains-push front (u, i)) in
      let rise : Rises (λ (f : Found). f.1.updated) (front ++ (u, i) ∷ []) = rises_so (λ (f : Found). f.1.updated) (front ++ (u, i) ∷ []) whole.rising in (
        λ w j has mine. ⊎_elim
            (λ (before : Contains front (w, j)). (let low = below_last (λ (f : Found). f.1.updated) front (u, i) (w, j) rise before in omega (arith, low, at)))
            (λ (same : (u, i) ≡ (w, j)). (let e : i.updated ≡ j.updated = ap (λ (f : Found). f.1.updated) same in omega (arith, e, at)))
            (Contains-push_cases front (u, i) (w, j) ((whole.whole w j).1 (has, is_candidate w j has mine))),
        inr (u, i, own.0, own.1.0, at),
      )

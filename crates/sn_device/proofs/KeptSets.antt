-- The sets that a device holds, behind a commit: the present one stays, and the older one stays or goes; or another set is adopted.
use Rattle.std.proofs.Common.{arith, ◌≡◌, ◌⊎◌, ◌≤◌, ℕ, List, [], ◌∷◌, Option, Some, None, refl, sym, ap, ◌∙◌, subst, inl, inr}
use Rattle.rand_chacha.specs.ChaCha.{ChaCha}
use Rattle.sn_items.specs.Items.{OpensItem}
use Rattle.sn_items.specs.declared.sealed.Sealed.{Sealed}
use Rattle.sn_rows.specs.Facts.{put_here, removed_here}
use Rattle.sn_rows.specs.Table.{Rows, key_of, rows_after}
use Rattle.sn_rows.specs.declared.change.Change.{Change}
use Rattle.sn_rows.specs.declared.device_rows.OwnerRow.{OwnerRow}
use Rattle.sn_rows.specs.declared.key.Key.TheVariants as key
use Rattle.sn_rows.specs.declared.key.Slot.TheVariants.{Asked, Older, Present}
use Rattle.sn_rows.specs.declared.value.Value.TheVariants as value
use Rattle.sn_sets.specs.Sets.{OpensHeld, OpensNot, OpensOlder}
use Rattle.sn_sets.specs.declared.sets.Sets.{Sets}
use Rattle.sn_string.specs.declared.params.KeySet.{KeySet}
use Rattle.sn_device.specs.States.{Bytes, HasSets, IsInSlot, OwnerColumns}
use Rattle.sn_device.specs.Steps.{Adopts, Asks, Forgets}
use Rattle.sn_device.proofs.AdoptRows.{Adopted, adopted, adopted_sets, sets_adopted}
use Rattle.sn_device.proofs.AdoptSound.{past_asked}
use Rattle.sn_device.proofs.DeviceSteps.{one_sets, slot_back}
use Rattle.sn_device.proofs.Frames.{Keeps, Parts, one_owner, parts_keep}

-- ---- sets that are held later

-- the present set is the same, and the older one, unless that has gone
pub record IsLater (sets held : Sets) : Type 0 where
  pub present_is : held.present ≡ sets.present
  pub older_is : (held.older ≡ sets.older) ⊎ (held.older ≡ None)

pub later_same : (sets : Sets) → IsLater sets sets
later_same sets = record { present_is = refl; older_is = inl refl }

older_then : (a b c : Option KeySet) → ((b ≡ a) ⊎ (b ≡ None)) → ((c ≡ b) ⊎ (c ≡ None)) → (c ≡ a) ⊎ (c ≡ None)
older_then a b c first (inr gone) = inr gone
older_then a b c (inl same) (inl too) = inl (too ∙ same)
older_then a b c (inr gone) (inl too) = inr (too ∙ gone)

pub later_then : (sets held after : Sets) → IsLater sets held → IsLater held after → IsLater sets after
later_then sets held after l m =
    record { present_is = m.present_is ∙ l.present_is; older_is = older_then sets.older held.older after.older l.older_is m.older_is }

-- what opens later opened before
older_before : (sets held : Sets) (uuid : Bytes) (sealed : Sealed) (text : Bytes) → held.present ≡ sets.present
    → ((held.older ≡ sets.older) ⊎ (held.older ≡ None)) → OpensOlder held uuid sealed text → OpensHeld sets uuid sealed text
older_before sets held uuid sealed text present (inl same) o = inr (record {
  not_present = subst (λ (s : KeySet). OpensNot s uuid sealed) present o.not_present;
  set = o.set;
  held = sym same ∙ o.held;
  opens = o.opens;
})
older_before sets held uuid sealed text present (inr none) o = let some = o.held in absurd cc

pub opens_before : (sets held : Sets) (uuid : Bytes) (sealed : Sealed) (text : Bytes) → IsLater sets held → OpensHeld held uuid sealed text
    → OpensHeld sets uuid sealed text
opens_before sets held uuid sealed text l (inl opens) = inl (subst (λ (s : KeySet). OpensItem sealed uuid s text) l.present_is opens)
opens_before sets held uuid sealed text l (inr o) = older_before sets held uuid sealed text l.present_is l.older_is o

-- ---- an account with its sets

-- the rows have an account with sets, whose next local number isn't below this
pub record Holding (rows : Rows) (next : ℕ) : Type 0 where
  pub holder : OwnerRow
  pub held : Sets
  pub holds : HasSets rows holder held
  pub grown : next ≤ holder.next

-- behind a commit they are later ones
pub record HoldsLater (rows : Rows) (next : ℕ) (held : Sets) : Type 0 where
  pub now : Holding rows next
  pub later : IsLater held now.held

-- ---- a commit that changes no set, but for an older one that may go

older_kept : (rows after : Rows) (from to : Bytes) (found : Option KeySet) → from ≡ to → IsInSlot rows from Older found
    → ((after (key.Set Older) ≡ rows (key.Set Older)) ⊎ (after (key.Set Older) ≡ None))
    → (o : Option KeySet) × IsInSlot after to Older o × ((o ≡ found) ⊎ (o ≡ None))
older_kept rows after from to found named has (inl same) = (found, slot_back after rows Older from to found (sym same) named has, inl refl)
older_kept rows after from to found named has (inr none) = (None, none, inr refl)

keeps_holding : (rows after : Rows) (next : ℕ) (x : Holding rows next) (later : OwnerRow) → Keeps rows after x.holder later → next ≤ later.next
    → HoldsLater after next x.held
keeps_holding rows after next x later keeps grown =
    let named : x.holder.identifier ≡ later.identifier = sym keeps.identified in
    let older = older_kept rows after x.holder.identifier later.identifier x.held.older named x.holds.before keeps.older in
    record {
      now = record {
        holder = later;
        held = record { present = x.held.present; older = older.0; asked = x.held.asked };
        holds = record {
          owned = keeps.owned;
          in_use = slot_back after rows Present x.holder.identifier later.identifier (Some x.held.present) (sym keeps.present) named x.holds.in_use;
          before = older.1;
          wanted = slot_back after rows Asked x.holder.identifier later.identifier x.held.asked (sym keeps.asked) named x.holds.wanted;
        };
        grown = grown;
      };
      later = record { present_is = refl; older_is = older.2 };
    }

pub parts_holding : (rows : Rows) (changes : List Change) (next : ℕ) (x : Holding rows next) (parts : Parts rows changes) → parts.owner.next ≤ parts.next
    → HoldsLater (rows_after rows changes) next x.held
parts_holding rows changes next x parts up =
    let same : parts.owner ≡ x.holder = one_owner rows parts.owner x.holder parts.owned x.holds.owned in
    let keeps : Keeps rows (rows_after rows changes) x.holder parts.ends.later =
    subst (λ (o : OwnerRow). Keeps rows (rows_after rows changes) o parts.ends.later) same (parts_keep rows changes parts) in
    let over : x.holder.next ≤ parts.next = subst (λ (o : OwnerRow). o.next ≤ parts.next) same up in
    keeps_holding rows (rows_after rows changes) next x parts.ends.later keeps
    (let low = x.grown in let is = parts.ends.counted in omega (arith, low, over, is))

-- ---- a commit of the set that is asked for

asked_holding : (rows : Rows) (next : ℕ) (x : Holding rows next) (c : Change) (asked : Option KeySet) → key_of c ≡ key.Set Asked
    → IsInSlot (rows_after rows (c ∷ [])) x.holder.identifier Asked asked → HoldsLater (rows_after rows (c ∷ [])) next x.held
asked_holding rows next x c asked named is = record {
  now = record {
    holder = x.holder;
    held = record { present = x.held.present; older = x.held.older; asked = asked };
    holds = record {
      owned = past_asked rows c key.Owner named (λ e. cc) ∙ x.holds.owned;
      in_use = slot_back (rows_after rows (c ∷ [])) rows Present x.holder.identifier x.holder.identifier (Some x.held.present)
          (sym (past_asked rows c (key.Set Present) named (λ e. cc))) refl x.holds.in_use;
      before = slot_back (rows_after rows (c ∷ [])) rows Older x.holder.identifier x.holder.identifier x.held.older
          (sym (past_asked rows c (key.Set Older) named (λ e. cc))) refl x.holds.before;
      wanted = is;
    };
    grown = x.grown;
  };
  later = record { present_is = refl; older_is = inl refl };
}

pub asks_holding : (rows : Rows) (set : KeySet) (changes : List Change) (next : ℕ) (x : Holding rows next) → Asks rows set changes
    → HoldsLater (rows_after rows changes) next x.held
asks_holding rows set changes next x s =
    let same : s.owner ≡ x.holder = one_owner rows s.owner x.holder s.holds.owned x.holds.owned in
    let stands : IsInSlot (rows_after rows (s.change ∷ [])) s.owner.identifier Asked (Some set) =
    (s.put.keys, put_here rows s.change (key.Set Asked) (value.Set s.put.keys) s.put.puts, s.put.keys_are) in
    subst (λ (cs : List Change). HoldsLater (rows_after rows cs) next x.held) (sym s.changes_are)
    (asked_holding rows next x s.change (Some set) s.put.puts.key_is
    (subst (λ (o : OwnerRow). IsInSlot (rows_after rows (s.change ∷ [])) o.identifier Asked (Some set)) same stands))

pub forgets_holding : (rows : Rows) (changes : List Change) (next : ℕ) (x : Holding rows next) → Forgets rows changes
    → HoldsLater (rows_after rows changes) next x.held
forgets_holding rows changes next x s =
    subst (λ (cs : List Change). HoldsLater (rows_after rows cs) next x.held) (sym s.changes_are)
    (asked_holding rows next x s.change None s.removes.key_is (removed_here rows s.change (key.Set Asked) s.removes))

-- ---- an adoption

-- behind it the adopted set is the present one
pub record HoldsAdopted (rows : Rows) (next : ℕ) (set : KeySet) : Type 0 where
  pub now : Holding rows next
  pub present_is : now.held.present ≡ set

pub adopts_holding : (rows : Rows) (words left : ChaCha) (set : KeySet) (token : Bytes) (changes : List Change) (next : ℕ) (x : Holding rows next)
    → Adopts rows words set token changes left → HoldsAdopted (rows_after rows changes) next set
adopts_holding rows words left set token changes next x a =
    let d : Adopted rows a.sets set token a.owner (rows_after rows changes) = adopted rows words left set token changes a in
    let same : a.owner ≡ x.holder = one_owner rows a.owner x.holder a.holds.owned x.holds.owned in
    let counted : d.later.next ≡ a.owner.next = ap (λ (c : OwnerColumns). c.next) d.columns_are in
    let is : a.owner.next ≡ x.holder.next = ap (λ (o : OwnerRow). o.next) same in
    record {
      now = record {
        holder = d.later;
        held = sets_adopted a.sets set;
        holds = adopted_sets rows a.sets set token a.owner (rows_after rows changes) d;
        grown = (let low = x.grown in omega (arith, low, counted, is));
      };
      present_is = refl;
    }

-- the sets that were held are those of the account
pub adopts_sets : (rows : Rows) (words left : ChaCha) (set : KeySet) (token : Bytes) (changes : List Change) (next : ℕ) (x : Holding rows next)
    → (a : Adopts rows words set token changes left) → a.sets ≡ x.held
adopts_sets rows words left set token changes next x a = one_sets rows a.owner x.holder a.sets x.held a.holds x.holds

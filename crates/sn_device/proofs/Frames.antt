-- What a commit leaves of a device's account and sets, and when it leaves the rows sound.
use Rattle.std.proofs.Common.{◌≡◌, ◌≢◌, ◌⊎◌, ◌<◌, ℕ, true, false, List, [], ◌∷◌, ◌++◌, All, Option, Some, None, refl, sym, ap, ◌∙◌, subst, inl, inr}
use Rattle.std.proofs.lemmas.Bool.{cases_Bool}
use Rattle.std.proofs.lemmas.List.Elements.{All-append, All-cons, All-head, All-nil, All-tail, All-weaker}
use Rattle.sn_journal.specs.declared.owner.Owner.TheVariants.{Device}
use Rattle.sn_rows.specs.Facts.{apart_keys, keys_compare, kind_after, put_apart, put_here, removed_elsewhere, removed_here, spared_stays}
use Rattle.sn_rows.specs.Kinds.{key_kind}
use Rattle.sn_rows.specs.Table.{Removes, Rows, Spares, key_of, row_after, rows_after, same_key}
use Rattle.sn_rows.specs.Table.{changed as row_changed}
use Rattle.sn_rows.specs.declared.change.Change.{Change}
use Rattle.sn_rows.specs.declared.device_rows.LocalItem.{LocalItem}
use Rattle.sn_rows.specs.declared.device_rows.OwnerRow.{OwnerRow}
use Rattle.sn_rows.specs.declared.device_rows.SetRow.{SetRow}
use Rattle.sn_rows.specs.declared.key.Key.{Key}
use Rattle.sn_rows.specs.declared.key.Key.TheVariants as key
use Rattle.sn_rows.specs.declared.key.Slot.TheVariants.{Asked, Older, Present}
use Rattle.sn_rows.specs.declared.kind.RowKind.TheVariants as kind
use Rattle.sn_rows.specs.declared.value.Value.{Value}
use Rattle.sn_rows.specs.declared.value.Value.TheVariants as value
use Rattle.sn_table.specs.Batches.{IsOf, owner_of_kind}
use Rattle.sn_device.specs.States.{AreOfDevice, AreSoundLocals, AreSoundSets, HasLocal, HasOwner, HasSet, IsSound, IsSoundItem, OwnerColumns}
use Rattle.sn_device.specs.Steps.{PutsOwner}
use Rattle.sn_device.proofs.Leading.{IsOfItems, after_append}
use Rattle.sn_device.proofs.Standing.{Stand}

-- ---- rows of a device

device_items : (c : Change) → IsOfItems c → IsOf Device c
device_items c of = ap owner_of_kind of

pub items_of_device : (changes : List Change) → All IsOfItems changes → All (IsOf Device) changes
items_of_device changes all = All-weaker IsOfItems (IsOf Device) device_items changes all

pub one_of_device : (c : Change) (at : Key) → owner_of_kind (key_kind at) ≡ Device → key_of c ≡ at → IsOf Device c
one_of_device c at own named = ap (λ (k : Key). owner_of_kind (key_kind k)) named ∙ own

-- a row that stands here is a device's
abbrev OwnsRow : Key → Option Value → Type 0
OwnsRow at found = (v : Value) → found ≡ Some v → owner_of_kind (key_kind at) ≡ Device

own_changed : (found : Option Value) (at : Key) (c : Change) → IsOf Device c → OwnsRow at found
    → ((same_key (key_of c) at ≡ true) ⊎ (same_key (key_of c) at ≡ false)) → OwnsRow at (row_changed found at c)
own_changed found at c of own (inl same) v is = ap (λ (k : Key). owner_of_kind (key_kind k)) (sym ((keys_compare (key_of c) at).0 same)) ∙ of
own_changed found at c of own (inr apart) v is = let past : row_changed found at c ≡ found = rw apart refl in own v (sym past ∙ is)

own_after : (found : Option Value) (at : Key) (changes : List Change) → All (IsOf Device) changes → OwnsRow at found → OwnsRow at (row_after found at changes)
own_after found at [] all own = own
own_after found at (c ∷ cs) all own =
    own_after (row_changed found at c) at cs (All-tail (IsOf Device) c cs all)
    (own_changed found at c (All-head (IsOf Device) c cs all) own (cases_Bool (same_key (key_of c) at)))

pub device_after : (rows : Rows) (changes : List Change) → All (IsOf Device) changes → AreOfDevice rows → AreOfDevice (rows_after rows changes)
device_after rows changes all device = record {
  own = λ at. own_after (rows at) at changes all (device.own at);
  kinds = λ at. kind_after (rows at) at changes (device.kinds at);
}

-- ---- rows beside the items

spares_beside : (at : Key) (changes : List Change) → key_kind at ≢ kind.Local → All IsOfItems changes → Spares at changes
spares_beside at [] other all = tt
spares_beside at (c ∷ cs) other all = (
  apart_keys (key_of c) at (λ e. other (sym (ap key_kind e) ∙ All-head IsOfItems c cs all)),
  spares_beside at cs other (All-tail IsOfItems c cs all),
)

-- changes of items leave them
pub beside : (rows : Rows) (changes : List Change) (at : Key) → All IsOfItems changes → key_kind at ≢ kind.Local → rows_after rows changes at ≡ rows at
beside rows changes at all other = spared_stays (rows at) at changes (spares_beside at changes other all)

-- ---- the end of a commit

-- an older set may be retired
abbrev pub RetiresOlder : List Change → Type 0
RetiresOlder changes = (changes ≡ []) ⊎ ((c : Change) × Removes c (key.Set Older) × (changes ≡ c ∷ []))

-- what these changes, which follow those of items, leave of the rest
pub record Ends (mid : Rows) (owner : OwnerRow) (others : List Change) (next : ℕ) : Type 0 where
  pub later : OwnerRow
  pub owned : HasOwner (rows_after mid others) later
  pub identified : later.identifier ≡ owner.identifier
  pub counted : later.next ≡ next
  pub device : All (IsOf Device) others
  pub items : (n : ℕ) → rows_after mid others (key.Local n) ≡ mid (key.Local n)
  pub present : rows_after mid others (key.Set Present) ≡ mid (key.Set Present)
  pub asked : rows_after mid others (key.Set Asked) ≡ mid (key.Set Asked)
  pub older : (rows_after mid others (key.Set Older) ≡ mid (key.Set Older)) ⊎ (rows_after mid others (key.Set Older) ≡ None)

pub ends_none : (mid : Rows) (owner : OwnerRow) → HasOwner mid owner → Ends mid owner [] owner.next
ends_none mid owner owned = record {
  later = owner;
  owned = owned;
  identified = refl;
  counted = refl;
  device = All-nil (IsOf Device);
  items = λ n. refl;
  present = refl;
  asked = refl;
  older = inl refl;
}

ends_counted : (mid : Rows) (owner : OwnerRow) (c : Change) (cs : OwnerColumns) → PutsOwner c cs → cs.identifier ≡ owner.identifier
    → Ends mid owner (c ∷ []) cs.next
ends_counted mid owner c cs put same = record {
  later = put.owner;
  owned = put_here mid c key.Owner (value.Owner put.owner) put.puts_it;
  identified = ap (λ (x : OwnerColumns). x.identifier) put.columns_are ∙ same;
  counted = ap (λ (x : OwnerColumns). x.next) put.columns_are;
  device = All-cons (IsOf Device) c [] (one_of_device c key.Owner refl put.puts_it.key_is) (All-nil (IsOf Device));
  items = λ n. put_apart mid c key.Owner (key.Local n) (value.Owner put.owner) put.puts_it refl;
  present = put_apart mid c key.Owner (key.Set Present) (value.Owner put.owner) put.puts_it refl;
  asked = put_apart mid c key.Owner (key.Set Asked) (value.Owner put.owner) put.puts_it refl;
  older = inl (put_apart mid c key.Owner (key.Set Older) (value.Owner put.owner) put.puts_it refl);
}

ends_retired : (mid : Rows) (owner : OwnerRow) (c d : Change) (next : ℕ) → Removes d (key.Set Older) → Ends mid owner (c ∷ []) next
    → Ends mid owner (c ∷ d ∷ []) next
ends_retired mid owner c d next removes ends =
    let past : (at : Key) → key.Set Older ≢ at → rows_after mid (c ∷ d ∷ []) at ≡ rows_after mid (c ∷ []) at =
    λ at apart. removed_elsewhere (rows_after mid (c ∷ [])) d (key.Set Older) at removes apart in
    record {
      later = ends.later;
      owned = past key.Owner (λ e. cc) ∙ ends.owned;
      identified = ends.identified;
      counted = ends.counted;
      device = All-append (IsOf Device) (c ∷ []) (d ∷ []) ends.device
          (All-cons (IsOf Device) d [] (one_of_device d (key.Set Older) refl removes.key_is) (All-nil (IsOf Device)));
      items = λ n. past (key.Local n) (λ e. cc) ∙ ends.items n;
      present = past (key.Set Present) (λ e. cc) ∙ ends.present;
      asked = past (key.Set Asked) (λ e. cc) ∙ ends.asked;
      older = inr (removed_here (rows_after mid (c ∷ [])) d (key.Set Older) removes);
    }

pub ends_put : (mid : Rows) (owner : OwnerRow) (c : Change) (cs : OwnerColumns) (retired : List Change) → PutsOwner c cs
    → cs.identifier ≡ owner.identifier → RetiresOlder retired → Ends mid owner (c ∷ retired) cs.next
ends_put mid owner c cs retired put same (inl none) =
    subst (λ (x : List Change). Ends mid owner (c ∷ x) cs.next) (sym none) (ends_counted mid owner c cs put same)
ends_put mid owner c cs retired put same (inr (d, removes, is)) =
    subst (λ (x : List Change). Ends mid owner (c ∷ x) cs.next) (sym is)
    (ends_retired mid owner c d cs.next removes (ends_counted mid owner c cs put same))

-- ---- a commit of a device that has an account

-- changes of items, and then others; the next local number after them
pub record Parts (rows : Rows) (changes : List Change) : Type 0 where
  pub owner : OwnerRow
  pub owned : HasOwner rows owner
  pub items : List Change
  pub of_items : All IsOfItems items
  pub others : List Change
  pub next : ℕ
  pub ends : Ends (rows_after rows items) owner others next
  pub changes_are : changes ≡ items ++ others

parts_rows : (rows : Rows) (changes : List Change) → (x : Parts rows changes) → rows_after rows changes ≡ rows_after (rows_after rows x.items) x.others
parts_rows rows changes x = ap (rows_after rows) x.changes_are ∙ after_append rows x.items x.others

-- each row of an item was left by the changes of items
pub item_after : (rows : Rows) (changes : List Change) → (x : Parts rows changes) → (n : ℕ) (l : LocalItem) → HasLocal (rows_after rows changes) n l
    → HasLocal (rows_after rows x.items) n l
item_after rows changes x n l found = sym (x.ends.items n) ∙ ap (λ (r : Rows). r (key.Local n)) (sym (parts_rows rows changes x)) ∙ found

pub item_kept : (rows : Rows) (changes : List Change) → (x : Parts rows changes) → (n : ℕ) (l : LocalItem) → HasLocal (rows_after rows x.items) n l
    → HasLocal (rows_after rows changes) n l
item_kept rows changes x n l found = ap (λ (r : Rows). r (key.Local n)) (parts_rows rows changes x) ∙ x.ends.items n ∙ found

-- the account, the present and the asked set stay, and the older one stays or goes
pub record Keeps (rows after : Rows) (owner later : OwnerRow) : Type 0 where
  pub owned : HasOwner after later
  pub identified : later.identifier ≡ owner.identifier
  pub present : after (key.Set Present) ≡ rows (key.Set Present)
  pub asked : after (key.Set Asked) ≡ rows (key.Set Asked)
  pub older : (after (key.Set Older) ≡ rows (key.Set Older)) ⊎ (after (key.Set Older) ≡ None)

pub parts_keep : (rows : Rows) (changes : List Change) → (x : Parts rows changes) → Keeps rows (rows_after rows changes) x.owner x.ends.later
parts_keep rows changes x =
    let all = parts_rows rows changes x in
    let set_stays = λ (at : Key) (other : key_kind at ≢ kind.Local). beside rows x.items at x.of_items other in
    record {
      owned = ap (λ (r : Rows). r key.Owner) all ∙ x.ends.owned;
      identified = x.ends.identified;
      present = ap (λ (r : Rows). r (key.Set Present)) all ∙ x.ends.present ∙ set_stays (key.Set Present) (λ e. cc);
      asked = ap (λ (r : Rows). r (key.Set Asked)) all ∙ x.ends.asked ∙ set_stays (key.Set Asked) (λ e. cc);
      older = elim x.ends.older [
        | inl same ↦ inl (ap (λ (r : Rows). r (key.Set Older)) all ∙ same ∙ set_stays (key.Set Older) (λ e. cc))
        | inr none ↦ inr (ap (λ (r : Rows). r (key.Set Older)) all ∙ none)
      ];
    }

-- ---- sound rows

alone_after : (rows after : Rows) (owner later : OwnerRow) → Keeps rows after owner later → AreSoundSets rows → (asked older : SetRow)
    → HasSet after Asked asked → HasSet after Older older
    → ((after (key.Set Older) ≡ rows (key.Set Older)) ⊎ (after (key.Set Older) ≡ None)) → ⊥
alone_after rows after owner later keeps sets asked older has had (inl same) = sets.asked_alone asked older (sym keeps.asked ∙ has) (sym same ∙ had)
alone_after rows after owner later keeps sets asked older has had (inr none) = cc

sets_after : (rows after : Rows) (owner later : OwnerRow) → HasOwner rows owner → Keeps rows after owner later → AreSoundSets rows → AreSoundSets after
sets_after rows after owner later owned keeps sets = record {
  present = λ any has. ((sets.present owner owned).0, keeps.present ∙ (sets.present owner owned).1);
  asked_alone = λ asked older has had. alone_after rows after owner later keeps sets asked older has had keeps.older;
}

pub one_owner : (rows : Rows) (a b : OwnerRow) → HasOwner rows a → HasOwner rows b → a ≡ b
one_owner rows a b h k = cc

pub locals_after : (rows after mid : Rows) (later : OwnerRow) (next : ℕ) → HasOwner after later → later.next ≡ next
    → ((n : ℕ) (l : LocalItem) → HasLocal after n l → HasLocal mid n l) → Stand IsSoundItem next mid → AreSoundLocals after
locals_after rows after mid later next owned counted from stand = record {
  numbered = λ any n l has found.
      (let same : any.next ≡ next = ap (λ (o : OwnerRow). o.next) (one_owner after any later has owned) ∙ counted in
      let below = stand.numbered n l (from n l found) in
      subst (λ (k : ℕ). n < k) (sym same) below);
  apart = λ n m l k found too same. stand.apart n m l k (from n l found) (from m k too) same;
  items = λ n l found. stand.items n l (from n l found);
}

-- the items of sound rows stand
pub sound_stands : (rows : Rows) (owner : OwnerRow) → IsSound rows → HasOwner rows owner → Stand IsSoundItem owner.next rows
sound_stands rows owner sound owned = record {
  numbered = λ n l found. sound.locals.numbered owner n l owned found;
  apart = sound.locals.apart;
  items = sound.locals.items;
}

-- a commit of which this holds leaves sound rows sound
pub sound_after : (rows : Rows) (changes : List Change) → IsSound rows → (x : Parts rows changes) → Stand IsSoundItem x.next (rows_after rows x.items)
    → IsSound (rows_after rows changes)
sound_after rows changes sound x stand =
    let keeps = parts_keep rows changes x in
    let all : All (IsOf Device) changes = subst (All (IsOf Device)) (sym x.changes_are)
    (All-append (IsOf Device) x.items x.others (items_of_device x.items x.of_items) x.ends.device) in
    record {
      device = device_after rows changes all sound.device;
      owner = λ at v is. (x.ends.later, keeps.owned);
      sets = sets_after rows (rows_after rows changes) x.owner x.ends.later x.owned keeps sound.sets;
      locals = locals_after rows (rows_after rows changes) (rows_after rows x.items) x.ends.later x.next keeps.owned x.ends.counted
          (item_after rows changes x) stand;
    }

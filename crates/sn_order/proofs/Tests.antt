-- Which of the tests of a kind a list of changes passes.
use Rattle.std.proofs.Common.{◌≡◌, ◌≢◌, ◌||◌, Bool, false, List, [], ◌∷◌, ◌++◌, All, if◌then◌else◌, refl, sym, ap, ◌∙◌}
use Rattle.std.proofs.lemmas.List.Elements.{All-head, All-tail}
use Rattle.std.specs.List.{list_any}
use Rattle.sn_device.proofs.Facts.{IsOfItems}
use Rattle.sn_rows.specs.Facts.{apart_keys}
use Rattle.sn_rows.specs.Kinds.{key_kind}
use Rattle.sn_rows.specs.Table.{Puts, Removes, same_key}
use Rattle.sn_rows.specs.declared.change.Change.{Change}
use Rattle.sn_rows.specs.declared.change.Change.TheVariants.{Put, Remove}
use Rattle.sn_rows.specs.declared.key.Key.{Key}
use Rattle.sn_rows.specs.declared.key.Key.TheVariants as key
use Rattle.sn_rows.specs.declared.key.Slot.{Slot}
use Rattle.sn_rows.specs.declared.key.Slot.TheVariants.{Asked, Present}
use Rattle.sn_rows.specs.declared.kind.RowKind.TheVariants as row_kind
use Rattle.sn_rows.specs.declared.value.Value.{Value}
use Rattle.sn_order.specs.Kinds.{drops_set, kind_of, puts_owner, puts_set}
use Rattle.sn_order.specs.declared.kind.Kind.{Kind}
use Rattle.sn_order.specs.declared.kind.Kind.TheVariants as kind

-- ---- one change that puts a row

put_puts : (slot : Slot) (c : Change) (at : Key) (v : Value) → Puts c at v → puts_set slot c ≡ same_key at (key.Set slot)
put_puts slot (Put row) at v put = ap (λ (k : Key). same_key k (key.Set slot)) put.key_is
put_puts slot (Remove k) at v put = absurd (let impossible : ⊥ = cc in impossible)

put_drops : (slot : Slot) (c : Change) (at : Key) (v : Value) → Puts c at v → drops_set slot c ≡ false
put_drops slot (Put row) at v put = refl
put_drops slot (Remove k) at v put = absurd (let impossible : ⊥ = cc in impossible)

put_owner : (c : Change) (at : Key) (v : Value) → Puts c at v → puts_owner c ≡ same_key at key.Owner
put_owner (Put row) at v put = ap (λ (k : Key). same_key k key.Owner) put.key_is
put_owner (Remove k) at v put = absurd (let impossible : ⊥ = cc in impossible)

-- ---- one that takes a row away

gone_puts : (slot : Slot) (c : Change) (at : Key) → Removes c at → puts_set slot c ≡ false
gone_puts slot (Put row) at gone = absurd (let impossible : ⊥ = cc in impossible)
gone_puts slot (Remove k) at gone = refl

gone_drops : (slot : Slot) (c : Change) (at : Key) → Removes c at → drops_set slot c ≡ same_key at (key.Set slot)
gone_drops slot (Put row) at gone = absurd (let impossible : ⊥ = cc in impossible)
gone_drops slot (Remove k) at gone = ap (λ (k : Key). same_key k (key.Set slot)) gone.key_is

gone_owner : (c : Change) (at : Key) → Removes c at → puts_owner c ≡ false
gone_owner (Put row) at gone = absurd (let impossible : ⊥ = cc in impossible)
gone_owner (Remove k) at gone = refl

-- ---- one of an item's row

apart : (k at : Key) → key_kind k ≡ row_kind.Local → key_kind at ≢ row_kind.Local → same_key k at ≡ false
apart k at local other = apart_keys k at (λ e. other (sym (ap key_kind e) ∙ local))

item_puts : (slot : Slot) (c : Change) → IsOfItems c → puts_set slot c ≡ false
item_puts slot (Put row) of = apart row.key (key.Set slot) of (λ e. cc)
item_puts slot (Remove k) of = refl

item_drops : (slot : Slot) (c : Change) → IsOfItems c → drops_set slot c ≡ false
item_drops slot (Put row) of = refl
item_drops slot (Remove k) of = apart k (key.Set slot) of (λ e. cc)

item_owner : (c : Change) → IsOfItems c → puts_owner c ≡ false
item_owner (Put row) of = apart row.key key.Owner of (λ e. cc)
item_owner (Remove k) of = refl

-- ---- lists of changes

-- whether one of them puts a set that is asked for, puts a present one, drops the one that was asked for, and puts the device's own row
pub record Passes (changes : List Change) (asks joins forgets counts : Bool) : Type 0 where
  pub asks_is : list_any (puts_set Asked) changes ≡ asks
  pub joins_is : list_any (puts_set Present) changes ≡ joins
  pub forgets_is : list_any (drops_set Asked) changes ≡ forgets
  pub counts_is : list_any puts_owner changes ≡ counts

pub passes_none : Passes [] false false false false
passes_none = record { asks_is = refl; joins_is = refl; forgets_is = refl; counts_is = refl }

-- one more that doesn't pass a test, or passes it where this is so
one_more : (test : Change → Bool) (c : Change) (later : List Change) (here there : Bool) → test c ≡ here → list_any test later ≡ there
    → list_any test (c ∷ later) ≡ (here || there)
one_more test c later here there is rest = ap (λ (b : Bool). b || list_any test later) is ∙ ap (λ (b : Bool). here || b) rest

pub passes_put : (c : Change) (at : Key) (v : Value) (later : List Change) (asks joins forgets counts : Bool) → Puts c at v
    → Passes later asks joins forgets counts
    → Passes (c ∷ later) (same_key at (key.Set Asked) || asks) (same_key at (key.Set Present) || joins) forgets (same_key at key.Owner || counts)
passes_put c at v later asks joins forgets counts put rest = record {
  asks_is = one_more (puts_set Asked) c later (same_key at (key.Set Asked)) asks (put_puts Asked c at v put) rest.asks_is;
  joins_is = one_more (puts_set Present) c later (same_key at (key.Set Present)) joins (put_puts Present c at v put) rest.joins_is;
  forgets_is = one_more (drops_set Asked) c later false forgets (put_drops Asked c at v put) rest.forgets_is;
  counts_is = one_more puts_owner c later (same_key at key.Owner) counts (put_owner c at v put) rest.counts_is;
}

pub passes_gone : (c : Change) (at : Key) (later : List Change) (asks joins forgets counts : Bool) → Removes c at → Passes later asks joins forgets counts
    → Passes (c ∷ later) asks joins (same_key at (key.Set Asked) || forgets) counts
passes_gone c at later asks joins forgets counts gone rest = record {
  asks_is = one_more (puts_set Asked) c later false asks (gone_puts Asked c at gone) rest.asks_is;
  joins_is = one_more (puts_set Present) c later false joins (gone_puts Present c at gone) rest.joins_is;
  forgets_is = one_more (drops_set Asked) c later (same_key at (key.Set Asked)) forgets (gone_drops Asked c at gone) rest.forgets_is;
  counts_is = one_more puts_owner c later false counts (gone_owner c at gone) rest.counts_is;
}

-- changes of items pass none
pub passes_items : (items later : List Change) (asks joins forgets counts : Bool) → All IsOfItems items → Passes later asks joins forgets counts
    → Passes (items ++ later) asks joins forgets counts
passes_items [] later asks joins forgets counts all rest = rest
passes_items (c ∷ items) later asks joins forgets counts all rest =
    let of : IsOfItems c = All-head IsOfItems c items all in
    let behind : Passes (items ++ later) asks joins forgets counts =
    passes_items items later asks joins forgets counts (All-tail IsOfItems c items all) rest in
    record {
      asks_is = one_more (puts_set Asked) c (items ++ later) false asks (item_puts Asked c of) behind.asks_is;
      joins_is = one_more (puts_set Present) c (items ++ later) false joins (item_puts Present c of) behind.joins_is;
      forgets_is = one_more (drops_set Asked) c (items ++ later) false forgets (item_drops Asked c of) behind.forgets_is;
      counts_is = one_more puts_owner c (items ++ later) false counts (item_owner c of) behind.counts_is;
    }

-- ---- their kind

abbrev pub kind_by_tests : Bool → Bool → Bool → Bool → Kind
kind_by_tests asks joins forgets counts =
    if asks then kind.Asks
    else (if joins then kind.Joins
    else (if forgets then kind.Forgets
    else (if counts then kind.Counts else kind.Drafts)))

pub passes_kind : (changes : List Change) (asks joins forgets counts : Bool) → Passes changes asks joins forgets counts
    → kind_of changes ≡ kind_by_tests asks joins forgets counts
passes_kind changes asks joins forgets counts x =
    rw (x.asks_is, x.joins_is, x.forgets_is, x.counts_is) refl

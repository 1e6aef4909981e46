-- What the items of a sync leave of the rows: accepted ones are put, each at a stamp above the last, and every other row stays.
use Rattle.std.proofs.Common.{◌≡◌, ◌≢◌, ◌⊎◌, ◌<◌, ◌≤◌, ℕ, List, [], ◌∷◌, ◌++◌, Option, Some, false, All, refl, sym, ap, ◌∙◌, subst, inl, inr, arith, append_assoc}
use Rattle.std.specs.Prelude.{Bool, if◌then◌else◌}
use Rattle.std.proofs.lemmas.List.{append-nil}
use Rattle.std.proofs.lemmas.List.Elements.{All-head, All-tail}
use Rattle.sn_rows.specs.Facts.{put_elsewhere, put_here, put_or_not, row_after-append}
use Rattle.sn_rows.specs.Kinds.{key_kind, value_kind}
use Rattle.sn_rows.specs.Table.{Rows, row_after, rows_after}
use Rattle.sn_rows.specs.declared.change.Change.{Change}
use Rattle.sn_rows.specs.declared.key.Key.{Key}
use Rattle.sn_rows.specs.declared.key.Key.TheVariants as key
use Rattle.sn_rows.specs.declared.kind.RowKind.TheVariants as kind
use Rattle.sn_rows.specs.declared.server_rows.AccountRow.{AccountRow}
use Rattle.sn_rows.specs.declared.server_rows.ItemRow.{ItemRow}
use Rattle.sn_rows.specs.declared.value.Value.{Value}
use Rattle.sn_rows.specs.declared.value.Value.TheVariants as value
use Rattle.sn_string.specs.declared.params.Params.{Params}
use Rattle.sn_sync.specs.Laws.{AreBytes, FitsSent}
use Rattle.sn_sync.specs.declared.item.Body.{Body}
use Rattle.sn_sync.specs.declared.item.Body.TheVariants as body
use Rattle.sn_sync.specs.declared.item.Item.{Item}
use Rattle.sn_account.specs.Incoming.{IsFree, IsNews, IsOwnBody, IsOwnString, Progress, PutsVersion, Takes, TakesAll, stamp_of}
use Rattle.sn_account.specs.Lookups.{Bytes, HasAccount, HasItem}
use Rattle.sn_account.specs.Sound.{IsSoundItem, NamesItem}

-- a table has one row of an item
pub one_item : (rows : Rows) (u : Bytes) (i j : ItemRow) → HasItem rows u i → HasItem rows u j → i ≡ j
one_item rows u i j h k = cc

-- the items among sound rows, where this is the last stamp, and account n is there
pub record Items (rows : Rows) (last n : ℕ) : Type 0 where
  pub here : (a : AccountRow) × HasAccount rows n a
  pub kinds : (u : Bytes) (v : Value) → rows (key.Item u) ≡ Some v → key_kind (key.Item u) ≡ value_kind v
  pub named : (u : Bytes) (i : ItemRow) → HasItem rows u i → AreBytes 16 u
  pub owned : (u : Bytes) (i : ItemRow) → HasItem rows u i → (a : AccountRow) × HasAccount rows i.account a
  pub sound : (u : Bytes) (i : ItemRow) → HasItem rows u i → IsSoundItem last u i
  pub stamps : (u w : Bytes) (i j : ItemRow) → HasItem rows u i → HasItem rows w j → i.updated ≡ j.updated → u ≡ w

-- from one moment of a sync of account n to a later one
pub record Ran (n : ℕ) (p q : Progress) : Type 0 where
  pub made : List Change
  pub changes : q.changes ≡ p.changes ++ made
  pub rows : (k : Key) → q.rows k ≡ rows_after p.rows made k
  pub later : p.last ≤ q.last
  pub spares : (k : Key) → key_kind k ≢ kind.Item → q.rows k ≡ p.rows k
  pub others : (u : Bytes) (j : ItemRow) → j.account ≢ n → (HasItem q.rows u j → HasItem p.rows u j) × (HasItem p.rows u j → HasItem q.rows u j)
  pub items : Items q.rows q.last n

-- nothing of the rows changed
pub ran_none : (n : ℕ) (p : Progress) → Items p.rows p.last n → Ran n p p
ran_none n p h = record {
  made = [];
  changes = sym (append-nil p.changes);
  rows = λ k. refl;
  later = omega arith;
  spares = λ k off. refl;
  others = λ u j off. (λ x. x, λ x. x);
  items = h;
}

-- the same at a later moment with these rows, last stamp and changes
unmoved : (n : ℕ) (p : Progress) → Items p.rows p.last n → (q : Progress) → q.rows ≡ p.rows → q.last ≡ p.last → q.changes ≡ p.changes → Ran n p q
unmoved n p h q rows_are last_is changes_are = record {
  made = [];
  changes = changes_are ∙ sym (append-nil p.changes);
  rows = λ k. ap (λ (r : Rows). r k) rows_are;
  later = omega arith;
  spares = λ k off. ap (λ (r : Rows). r k) rows_are;
  others = λ u j off. (λ x. subst (λ (r : Rows). HasItem r u j) rows_are x, λ x. subst (λ (r : Rows). HasItem r u j) (sym rows_are) x);
  items = subst (λ (r : Rows). Items r q.last n) (sym rows_are) (subst (λ (l : ℕ). Items p.rows l n) (sym last_is) h);
}

pub then_ran : (n : ℕ) (p q r : Progress) → Ran n p q → Ran n q r → Ran n p r
then_ran n p q r a b =
    let first : p.last ≤ q.last = a.later in
    let second : q.last ≤ r.last = b.later in
    record {
      made = a.made ++ b.made;
      changes = b.changes ∙ ap (λ (l : List Change). l ++ b.made) a.changes ∙ append_assoc p.changes a.made b.made;
      rows = λ k. b.rows k ∙ ap (λ (o : Option Value). row_after o k b.made) (a.rows k) ∙ sym (row_after-append (p.rows k) k a.made b.made);
      later = omega arith;
      spares = λ k off. b.spares k off ∙ a.spares k off;
      others = λ u j off. (λ x. (a.others u j off).0 ((b.others u j off).0 x), λ x. (b.others u j off).1 ((a.others u j off).1 x));
      items = b.items;
    }

-- ---- an accepted item

names_item : (uuid : Bytes) (present : Params) (text : Bytes) → IsOwnString uuid present text → NamesItem text uuid
names_item uuid present text (reading, is, named, carries) = (reading, is, named)

both_name : (uuid : Bytes) (present : Params) (content enc : Bytes) → IsOwnBody uuid present (body.Strings content enc)
    → NamesItem content uuid × NamesItem enc uuid
both_name uuid present content enc (first, second) = (names_item uuid present content first, names_item uuid present enc second)

module _ (n now : ℕ) (present : Params) (p : Progress) (i : Item) (free : IsFree p n present i) (row : ItemRow) (change : Change)
    (puts : PutsVersion p n (stamp_of now p.last) i row change) (sized : AreBytes 16 i.uuid) (h : Items p.rows p.last n) where
  abbrev next : Rows
  next = rows_after p.rows (change ∷ [])

  above : p.last < stamp_of now p.last
  above = omega arith

  value_was : (u : Bytes) (v : Value) → next (key.Item u) ≡ Some v → ((u ≡ i.uuid) × (v ≡ value.Item row)) ⊎ (p.rows (key.Item u) ≡ Some v)
  value_was u v found =
      elim (put_or_not p.rows change (key.Item i.uuid) (value.Item row) puts.puts (key.Item u)) [
        | inl same ↦ inl (its same)
        | inr old ↦ inr (sym old ∙ found)
      ]
    where
      its : key.Item i.uuid ≡ key.Item u → (u ≡ i.uuid) × (v ≡ value.Item row)
      its e =
          let own : next (key.Item u) ≡ Some (value.Item row) = ap next (sym e) ∙ put_here p.rows change (key.Item i.uuid) (value.Item row) puts.puts in
          (cc, cc)

  item_was : (u : Bytes) (j : ItemRow) → HasItem next u j → ((u ≡ i.uuid) × (j ≡ row)) ⊎ HasItem p.rows u j
  item_was u j found =
      elim (value_was u (value.Item j) found) [
        | inl own ↦ inl (own.0, (let e : value.Item j ≡ value.Item row = own.1 in cc))
        | inr old ↦ inr old
      ]

  elsewhere : (k : Key) → key_kind k ≢ kind.Item → next k ≡ p.rows k
  elsewhere k off = put_elsewhere p.rows change (key.Item i.uuid) k (value.Item row) puts.puts (λ e. off (ap key_kind (sym e)))

  -- the item was the account's own, or new
  not_another : (j : ItemRow) → j.account ≢ n → IsNews p n i → HasItem p.rows i.uuid j → ⊥
  not_another j off (inl absent) there = absent j there
  not_another j off (inr (old, held, differs, names)) there =
      off (ap (λ (r : ItemRow). r.account) (one_item p.rows i.uuid j old there held.0) ∙ held.1)

  kept : (u : Bytes) (j : ItemRow) → j.account ≢ n → HasItem p.rows u j → HasItem next u j
  kept u j off there =
      elim (put_or_not p.rows change (key.Item i.uuid) (value.Item row) puts.puts (key.Item u)) [
        | inl same ↦ absurd (not_another j off free.0 (ap p.rows same ∙ there))
        | inr old ↦ old ∙ there
      ]

  was_there : (u : Bytes) (j : ItemRow) → j.account ≢ n → HasItem next u j → HasItem p.rows u j
  was_there u j off there =
      elim (item_was u j there) [
        | inl own ↦ absurd (off (ap (λ (r : ItemRow). r.account) own.1 ∙ puts.account))
        | inr old ↦ old
      ]

  -- the first stamp
  first_fits : (stamp : ℕ) → row.updated ≡ stamp → p.last < stamp
      → ((old : ItemRow) × HasItem p.rows i.uuid old × (row.created ≡ old.created)) ⊎ ((j : ItemRow) → ¬ (HasItem p.rows i.uuid j)) × (row.created ≡ stamp)
      → (1 ≤ row.created) × (row.created ≤ row.updated)
  first_fits stamp updated past (inl (old, there, e)) =
      let was : IsSoundItem p.last i.uuid old = h.sound i.uuid old there in
      let low : 1 ≤ old.created = was.first in
      let mid : old.created ≤ old.updated = was.later in
      let high : old.updated ≤ p.last = was.given in
      (omega arith, omega arith)
  first_fits stamp updated past (inr (absent, e)) = (omega arith, omega arith)

  row_sound : IsSoundItem (stamp_of now p.last) i.uuid row
  row_sound =
      let created : (1 ≤ row.created) × (row.created ≤ row.updated) = first_fits (stamp_of now p.last) puts.updated above puts.first in
      let updated : row.updated ≡ stamp_of now p.last = puts.updated in
      record {
        first = created.0;
        later = created.1;
        given = omega arith;
        gone = puts.gone;
        sealed = strings;
      }
    where
      strings : row.deleted ≡ false → NamesItem row.content i.uuid × NamesItem row.enc i.uuid
      strings stays =
          let is : body.Strings row.content row.enc ≡ i.body =
          sym (ap (λ (b : Bool). if b then body.Deleted else body.Strings row.content row.enc) stays) ∙ puts.body in
          both_name i.uuid present row.content row.enc (subst (λ (b : Body). IsOwnBody i.uuid present b) (sym is) free.1)

  accepted_items : Items next (stamp_of now p.last) n
  accepted_items = record {
    here = (h.here.0, elsewhere (key.Account n) (λ e. cc) ∙ h.here.1);
    kinds = λ u v found. elim (value_was u v found) [
      | inl own ↦ sym (ap value_kind own.1)
      | inr old ↦ h.kinds u v old
    ];
    named = λ u j found. elim (item_was u j found) [
      | inl own ↦ subst (λ (w : Bytes). AreBytes 16 w) (sym own.0) sized
      | inr old ↦ h.named u j old
    ];
    owned = λ u j found. elim (item_was u j found) [
      | inl own ↦ its_account j own.1
      | inr old ↦ still_there j.account (h.owned u j old)
    ];
    sound = λ u j found. elim (item_was u j found) [
      | inl own ↦ subst (λ (w : Bytes). IsSoundItem (stamp_of now p.last) w j) (sym own.0) (subst (λ (r : ItemRow). IsSoundItem (stamp_of now p.last) i.uuid r) (sym own.1) row_sound)
      | inr old ↦ still_sound u j (h.sound u j old)
    ];
    stamps = apart;
  }
    where
      still_there : (m : ℕ) → (a : AccountRow) × HasAccount p.rows m a → (a : AccountRow) × HasAccount next m a
      still_there m found = (found.0, elsewhere (key.Account m) (λ e. cc) ∙ found.1)

      its_account : (j : ItemRow) → j ≡ row → (a : AccountRow) × HasAccount next j.account a
      its_account j e =
          subst (λ (m : ℕ). (a : AccountRow) × HasAccount next m a) (sym (ap (λ (r : ItemRow). r.account) e ∙ puts.account)) (still_there n h.here)

      still_sound : (u : Bytes) (j : ItemRow) → IsSoundItem p.last u j → IsSoundItem (stamp_of now p.last) u j
      still_sound u j was =
          let high : j.updated ≤ p.last = was.given in
          record { first = was.first; later = was.later; given = omega arith; gone = was.gone; sealed = was.sealed }

      -- the new stamp is above each of before
      not_new : (u : Bytes) (j k : ItemRow) → HasItem p.rows u j → k ≡ row → j.updated ≡ k.updated → ⊥
      not_new u j k there e same =
          let high : j.updated ≤ p.last = (h.sound u j there).given in
          let new : k.updated ≡ stamp_of now p.last = ap (λ (r : ItemRow). r.updated) e ∙ puts.updated in
          omega arith

      apart : (u w : Bytes) (j k : ItemRow) → HasItem next u j → HasItem next w k → j.updated ≡ k.updated → u ≡ w
      apart u w j k x y same =
          elim (item_was u j x) [
            | inl own ↦ elim (item_was w k y) [
              | inl own_too ↦ own.0 ∙ sym own_too.0
              | inr old ↦ absurd (not_new w k j old own.1 (sym same))
            ]
            | inr old ↦ elim (item_was w k y) [
              | inl own ↦ absurd (not_new u j k old own.1 same)
              | inr old_too ↦ h.stamps u w j k old old_too same
            ]
          ]

  pub ran_new : (saved : List Item) → Ran n p (record p { rows = next; last = stamp_of now p.last; changes = p.changes ++ change ∷ []; saved = saved })
  ran_new saved = record {
    made = change ∷ [];
    changes = refl;
    rows = λ k. refl;
    later = omega arith;
    spares = elsewhere;
    others = λ u j off. (was_there u j off, kept u j off);
    items = accepted_items;
  }

-- ---- the items in order

pub ran_one : (n now : ℕ) (present : Params) (p q : Progress) (i : Item) → AreBytes 16 i.uuid → Items p.rows p.last n → Takes present now n p i q → Ran n p q
ran_one n now present p q i sized h (inl (foreign, e)) = unmoved n p h q (ap (λ (x : Progress). x.rows) e) (ap (λ (x : Progress). x.last) e) (ap (λ (x : Progress). x.changes) e)
ran_one n now present p q i sized h (inr (inl (row, given, held, same, is, e))) = unmoved n p h q (ap (λ (x : Progress). x.rows) e) (ap (λ (x : Progress). x.last) e) (ap (λ (x : Progress). x.changes) e)
ran_one n now present p q i sized h (inr (inr (inl (row, given, held, differs, other, is, e)))) = unmoved n p h q (ap (λ (x : Progress). x.rows) e) (ap (λ (x : Progress). x.last) e) (ap (λ (x : Progress). x.changes) e)
ran_one n now present p q i sized h (inr (inr (inr (inl (news, unread, e))))) = unmoved n p h q (ap (λ (x : Progress). x.rows) e) (ap (λ (x : Progress). x.last) e) (ap (λ (x : Progress). x.changes) e)
ran_one n now present p q i sized h (inr (inr (inr (inr (free, within, (row, change, given, puts, is, e)))))) =
    subst (Ran n p) (sym e) (ran_new n now present p i free row change puts sized h (p.saved ++ given ∷ []))

pub ran_all : (n now : ℕ) (present : Params) (p : Progress) (items : List Item) (q : Progress) → All FitsSent items → Items p.rows p.last n
    → TakesAll present now n p items q → Ran n p q
ran_all n now present p [] q sized h e = subst (Ran n p) (sym e) (ran_none n p h)
ran_all n now present p (i ∷ is) q sized h (inl (past, e)) = subst (Ran n p) (sym e) (ran_none n p h)
ran_all n now present p (i ∷ is) q sized h (inr (within, (r, takes, rest))) =
    let one : Ran n p r = ran_one n now present p r i (All-head FitsSent i is sized).uuid h takes in
    then_ran n p r q one (ran_all n now present r is q (All-tail FitsSent i is sized) one.items rest)

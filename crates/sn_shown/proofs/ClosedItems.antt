-- Under which set an item's row is closed.
use Rattle.std.proofs.Common.{◌≡◌, ◌⊎◌, ℕ, List, [], ◌∷◌, Option, Some, None, Bool, true, false, refl, sym, ap, subst, inl, inr, ⊎_elim}
use Rattle.std.specs.Prelude.{◌==◌, IsSome, is_some}
use Rattle.sn_laws.proofs.Facts.{clash, number_same, same_number}
use Rattle.sn_laws.specs.Each.{One}
use Rattle.sn_laws.specs.Lookups.{Bytes}
use Rattle.sn_laws.specs.Reached.{NoncesApart}
use Rattle.sn_laws.specs.declared.ideal.Account.{Account}
use Rattle.sn_rows.specs.declared.body.RowBody.{RowBody}
use Rattle.sn_rows.specs.declared.body.RowBody.TheVariants as body
use Rattle.sn_rows.specs.declared.body.RowStrings.{RowStrings}
use Rattle.sn_rows.specs.declared.device_rows.LocalItem.{LocalItem}
use Rattle.sn_sets.specs.Sets.{sealed_of}
use Rattle.sn_shows.proofs.Facts.{one_set}
use Rattle.sn_shows.specs.Devices.{OpensBase, ShowsBase}
use Rattle.sn_shows.specs.Sets.{OpensUnder}
use Rattle.sn_string.specs.declared.params.KeySet.{KeySet}
use Rattle.sn_shown.specs.Closed.{IsItemClosed, IsItemClosedAs, ShowsClosedItem}
use Rattle.sn_shown.specs.Held.{numbers_of}
use Rattle.sn_shown.specs.Rows.{strings_in}
use Rattle.sn_shown.specs.declared.holding.Holding.{Holding}
use Rattle.sn_shown.specs.declared.numbers.Numbers.{Numbers}
use Rattle.sn_shown.proofs.Finds.{never, one_found, some_found}

-- ---- the strings of a row without a draft

-- they open under a set of the account
pub record IsOpenItem (a : Account) (item : LocalItem) : Type 0 where
  pub strings : RowStrings
  pub body_is : item.body ≡ Some (body.Sealed strings)
  pub number : ℕ
  pub text : Bytes
  pub opens : OpensUnder a.sets number item.uuid (sealed_of strings) text

opens_base : (sets : List KeySet) (number under : ℕ) (uuid : Bytes) (strings : RowStrings) (text : Bytes) (stale : Bool)
    → OpensBase sets number under uuid strings text stale → (k : ℕ) × OpensUnder sets k uuid (sealed_of strings) text
opens_base sets number under uuid strings text false opens = (under, opens)
opens_base sets number under uuid strings text true opens = (number, opens.1)

pub open_item : (a : Account) (number : ℕ) (item : LocalItem) → ShowsBase a number item item.base → item.latest ≡ None → IsOpenItem a item
open_item a number item base undrafted = by item.base base
  where
    by : (found : Option ℕ) → ShowsBase a number item found → IsOpenItem a item
    by None h = let some = some_found item.latest h.1 in never item.latest some.0 some.1 undrafted
    by (Some stamp) h =
        let open_under = opens_base a.sets number h.listed.number item.uuid h.listed.strings h.listed.text item.stale h.opens in
        record {
          strings = h.listed.strings;
          body_is = h.listed.body_is;
          number = open_under.0;
          text = h.listed.text;
          opens = open_under.1;
        }

-- a row has two strings at most
pub own_strings : (item : LocalItem) (strings other : RowStrings) → strings_in item.body ≡ Some strings → item.body ≡ Some (body.Sealed other)
    → other ≡ strings
own_strings item strings other sealed is = one_found (strings_in item.body) other strings (ap strings_in is) sealed

pub moved_strings : (a : Account) (k : ℕ) (uuid : Bytes) (other strings : RowStrings) (text : Bytes) → other ≡ strings
    → OpensUnder a.sets k uuid (sealed_of other) text → OpensUnder a.sets k uuid (sealed_of strings) text
moved_strings a k uuid other strings text same opens = subst (λ (x : RowStrings). OpensUnder a.sets k uuid (sealed_of x) text) same opens

moved_number : (held : List ℕ) (n m : ℕ) → n ≡ m → One (λ (x : ℕ). x ≡ n) held → One (λ (x : ℕ). x ≡ m) held
moved_number held n m same one = subst (λ (k : ℕ). One (λ (x : ℕ). x ≡ k) held) same one

pub none_there : (found : Option RowBody) → is_some found ≡ false → found ≡ None
none_there None e = refl
none_there (Some x) e = absurd (cc)

-- ---- what is found of a row

module _ (numbers : Numbers) (h : Holding) (item : LocalItem) (under : Option ℕ) (shows : ShowsClosedItem numbers h item under) where
  -- a row that can't be closed isn't
  not_closed : ((u : ℕ) → IsItemClosed shows.account (numbers_of h) item u → ⊥) → None ≡ under
  not_closed never_so = by under shows.closed
    where
      by : (o : Option ℕ) → IsItemClosedAs shows.account (numbers_of h) item o → None ≡ o
      by None c = refl
      by (Some u) c = absurd (never_so u c)

  pub drafted_none : IsSome item.latest → None ≡ under
  drafted_none some =
      not_closed (λ u c.
      let found = some_found item.latest some in
      never item.latest found.0 found.1 c.undrafted)

  pub unsealed_none : strings_in item.body ≡ None → None ≡ under
  unsealed_none none = not_closed (λ u c. never (strings_in item.body) c.strings (ap strings_in c.body_is) none)

  module _ (strings : RowStrings) (sealed : strings_in item.body ≡ Some strings) where
    abbrev Opens : ℕ → Bytes → Type 0
    Opens k text = OpensUnder shows.account.sets k item.uuid (sealed_of strings) text

    closed_opens : (u : ℕ) (c : IsItemClosed shows.account (numbers_of h) item u) → Opens u c.text
    closed_opens u c = moved_strings shows.account u item.uuid c.strings strings c.text (own_strings item strings c.strings sealed c.body_is) c.opens

    pub unread_none : ((k : ℕ) (text : Bytes) → Opens k text → ⊥) → None ≡ under
    unread_none never_so = not_closed (λ u c. never_so u c.text (closed_opens u c))

    -- the number of the set under which they open was found
    module _ (number : ℕ) (found : (k : ℕ) (text : Bytes) → Opens k text → number ≡ k) where
      pub held_none : One (λ (n : ℕ). n ≡ number) (numbers_of h) → None ≡ under
      held_none one = not_closed (λ u c. c.not_held (moved_number (numbers_of h) number u (found u c.text (closed_opens u c)) one))

      pub not_held_closed : item.latest ≡ None → ¬ (One (λ (n : ℕ). n ≡ number) (numbers_of h)) → Some number ≡ under
      not_held_closed undrafted not_held = by under shows.closed
        where
          own : IsOpenItem shows.account item
          own = open_item shows.account shows.greatest item shows.base undrafted

          own_number : number ≡ own.number
          own_number =
              found own.number own.text
              (moved_strings shows.account own.number item.uuid own.strings strings own.text (own_strings item strings own.strings sealed own.body_is) own.opens)

          own_closed : IsItemClosed shows.account (numbers_of h) item own.number
          own_closed =
              record {
                undrafted = undrafted;
                strings = own.strings;
                body_is = own.body_is;
                text = own.text;
                opens = own.opens;
                not_held = λ one. not_held (moved_number (numbers_of h) own.number number (sym own_number) one);
              }

          by : (o : Option ℕ) → IsItemClosedAs shows.account (numbers_of h) item o → Some number ≡ o
          by None c = absurd (c own.number own_closed)
          by (Some u) c = ap (λ (n : ℕ). Some n) (found u c.text (closed_opens u c))

-- ---- it can be told of each row

held_or_not : (held : List ℕ) (k : ℕ) → One (λ (n : ℕ). n ≡ k) held ⊎ (¬ (One (λ (n : ℕ). n ≡ k) held))
held_or_not [] k = inr (λ one. one)
held_or_not (n ∷ ns) k = by (n == k) refl (held_or_not ns k)
  where
    by : (b : Bool) → (n == k) ≡ b → One (λ (m : ℕ). m ≡ k) ns ⊎ (¬ (One (λ (m : ℕ). m ≡ k) ns))
        → One (λ (m : ℕ). m ≡ k) (n ∷ ns) ⊎ (¬ (One (λ (m : ℕ). m ≡ k) (n ∷ ns)))
    by true e later = inl (inl (same_number n k e))
    by false e (inl one) = inl (inr one)
    by false e (inr none) =
        inr (λ one. ⊎_elim (λ (same : n ≡ k). clash (n == k) (number_same n k same) e) (λ (one : One (λ (m : ℕ). m ≡ k) ns). none one) one)

pub one_item : (a : Account) (held : List ℕ) (item : LocalItem) (u w : ℕ) → NoncesApart a → IsItemClosed a held item u → IsItemClosed a held item w → u ≡ w
one_item a held item u w apart h r =
    one_set a u w item.uuid (sealed_of h.strings) h.text r.text apart h.opens
    (moved_strings a w item.uuid r.strings h.strings r.text (own_strings item h.strings r.strings (ap strings_in h.body_is) r.body_is) r.opens)

pub item_closed : (a : Account) (held : List ℕ) (greatest : ℕ) (item : LocalItem) → NoncesApart a → ShowsBase a greatest item item.base
    → (o : Option ℕ) × IsItemClosedAs a held item o
item_closed a held greatest item apart base = by item.latest refl
  where
    same : (own : IsOpenItem a item) (u : ℕ) → IsItemClosed a held item u → own.number ≡ u
    same own u c =
        one_set a own.number u item.uuid (sealed_of own.strings) own.text c.text apart own.opens
        (moved_strings a u item.uuid c.strings own.strings c.text (own_strings item own.strings c.strings (ap strings_in own.body_is) c.body_is) c.opens)

    chosen : item.latest ≡ None → (own : IsOpenItem a item)
        → One (λ (n : ℕ). n ≡ own.number) held ⊎ (¬ (One (λ (n : ℕ). n ≡ own.number) held)) → (o : Option ℕ) × IsItemClosedAs a held item o
    chosen undrafted own (inl one) = (None, λ u c. c.not_held (moved_number held own.number u (same own u c) one))
    chosen undrafted own (inr not_held) = (
      Some own.number,
      record { undrafted = undrafted; strings = own.strings; body_is = own.body_is; text = own.text; opens = own.opens; not_held = not_held },
    )

    by : (found : Option RowBody) → item.latest ≡ found → (o : Option ℕ) × IsItemClosedAs a held item o
    by (Some latest) e = (None, λ u c. never item.latest latest e c.undrafted)
    by None e = let own = open_item a greatest item base e in chosen e own (held_or_not held own.number)

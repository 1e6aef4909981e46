-- What the server makes of items that name its own last versions, and are sealed under its account's present parameters: each is saved, and none conflicts.
use Rattle.std.proofs.Common.{◌≡◌, ◌≢◌, ◌≤◌, ℕ, List, [], ◌∷◌, ◌++◌, Option, Some, sym, ap, ◌∙◌, subst, inl, inr, append_assoc, arith}
use Rattle.std.proofs.lemmas.List.{append-nil}
use Rattle.std.specs.List.{AllZip}
use Rattle.sn_account.specs.Incoming.{IsOwnBody, Names, Progress, Takes, TakesAll}
use Rattle.sn_account.specs.Lookups.{Bytes, HasItem}
use Rattle.sn_account.specs.Pages.{most_bytes}
use Rattle.sn_laws.specs.Each.{Each}
use Rattle.sn_rows.specs.Table.{Rows}
use Rattle.sn_rows.specs.declared.key.Key.TheVariants as key
use Rattle.sn_rows.specs.declared.server_rows.ItemRow.{ItemRow}
use Rattle.sn_rows.specs.declared.value.Value.{Value}
use Rattle.sn_rows.specs.declared.value.Value.TheVariants as value
use Rattle.sn_string.specs.declared.params.Params.{Params}
use Rattle.sn_sync.specs.Versions.{AreApart, uuids}
use Rattle.sn_sync.specs.declared.item.Item.{Item}
use Rattle.sn_world.proofs.DeviceRows.{past_key}
use Rattle.sn_world.proofs.Lists.{each_apart}

-- the account of this number has the item at the stamp that it names, and the item is sealed under these parameters
pub record NamesLast (rows : Rows) (n : ℕ) (present : Params) (i : Item) : Type 0 where
  pub row : ItemRow
  pub held : HasItem rows i.uuid row
  pub own : row.account ≡ n
  pub names : Names i row
  pub sealed : IsOwnBody i.uuid present i.body

-- an answer's item is the one that was sent
abbrev pub IsAsSent : Item → Item → Type 0
IsAsSent sent i = (i.uuid ≡ sent.uuid) × (i.body ≡ sent.body)

-- ---- one item

record IsTakenIn (p : Progress) (i : Item) (q : Progress) : Type 0 where
  given : Item
  as_sent : IsAsSent i given
  saved_is : q.saved ≡ p.saved ++ given ∷ []
  conflicts_is : q.conflicts ≡ p.conflicts
  bytes_is : q.bytes ≡ p.bytes
  others : (u : Bytes) → u ≢ i.uuid → q.rows (key.Item u) ≡ p.rows (key.Item u)

one_row : (r q : ItemRow) (found : Option Value) → found ≡ Some (value.Item r) → found ≡ Some (value.Item q) → r ≡ q
one_row r q found e k = cc

one_taken : (present : Params) (now n : ℕ) (p : Progress) (i : Item) (q : Progress) → NamesLast p.rows n present i → Takes present now n p i q
    → IsTakenIn p i q
one_taken present now n p i q x (inl ((row, there, other), is)) =
    absurd (other (ap (λ (r : ItemRow). r.account) (one_row row x.row (p.rows (key.Item i.uuid)) there x.held) ∙ x.own))
one_taken present now n p i q x (inr (inl (row, given, held, same, given_is, is))) = record {
  given = given;
  as_sent = (given_is.uuid_is, given_is.body ∙ same.0);
  saved_is = ap (λ (z : Progress). z.saved) is;
  conflicts_is = ap (λ (z : Progress). z.conflicts) is;
  bytes_is = ap (λ (z : Progress). z.bytes) is;
  others = λ u apart. ap (λ (z : Progress). z.rows (key.Item u)) is;
}
one_taken present now n p i q x (inr (inr (inl (row, given, held, other, unnamed, given_is, is)))) =
    absurd (unnamed (subst (λ (r : ItemRow). Names i r) (one_row x.row row (p.rows (key.Item i.uuid)) x.held held.0) x.names))
one_taken present now n p i q x (inr (inr (inr (inl (news, unread, is))))) = absurd (unread x.sealed)
one_taken present now n p i q x (inr (inr (inr (inr (free, within, (row, change, given, puts, given_is, is)))))) = record {
  given = given;
  as_sent = (given_is.uuid_is, given_is.body ∙ puts.body);
  saved_is = ap (λ (z : Progress). z.saved) is;
  conflicts_is = ap (λ (z : Progress). z.conflicts) is;
  bytes_is = ap (λ (z : Progress). z.bytes) is;
  others = λ u apart.
      ap (λ (z : Progress). z.rows (key.Item u)) is ∙ past_key p.rows change (key.Item i.uuid) (key.Item u) puts.puts.key_is (λ e. apart (cc));
}

-- ---- all of them

names_past : (rows after : Rows) (n : ℕ) (present : Params) (uuid : Bytes) → ((u : Bytes) → u ≢ uuid → after (key.Item u) ≡ rows (key.Item u))
    → (items : List Item) → Each (λ (i : Item). i.uuid ≢ uuid) items → Each (NamesLast rows n present) items → Each (NamesLast after n present) items
names_past rows after n present uuid past [] apart named = tt
names_past rows after n present uuid past (i ∷ items) apart named = (
  record {
    row = named.0.row;
    held = past i.uuid apart.0 ∙ named.0.held;
    own = named.0.own;
    names = named.0.names;
    sealed = named.0.sealed;
  },
  names_past rows after n present uuid past items apart.1 named.1,
)

pub record AreSaved (p : Progress) (items : List Item) (q : Progress) : Type 0 where
  pub saved : List Item
  pub saved_is : q.saved ≡ p.saved ++ saved
  pub as_sent : AllZip IsAsSent items saved
  pub no_more : q.conflicts ≡ p.conflicts

pub all_saved : (present : Params) (now n : ℕ) (items : List Item) (p q : Progress) → AreApart (uuids items) → Each (NamesLast p.rows n present) items
    → p.bytes ≤ most_bytes → TakesAll present now n p items q → AreSaved p items q
all_saved present now n [] p q apart named light is = record {
  saved = [];
  saved_is = ap (λ (z : Progress). z.saved) is ∙ sym (append-nil p.saved);
  as_sent = tt;
  no_more = ap (λ (z : Progress). z.conflicts) is;
}
all_saved present now n (i ∷ items) p q apart named light (inl (heavy, is)) = absurd (omega arith)
all_saved present now n (i ∷ items) p q apart named light (inr (looked, (r, one, rest))) =
    let first = one_taken present now n p i r named.0 one in
    let later =
    all_saved present now n items r q apart.1
    (names_past p.rows r.rows n present i.uuid first.others items (each_apart (λ (j : Item). j.uuid) i.uuid items apart.0) named.1)
    (subst (λ (b : ℕ). b ≤ most_bytes) (sym first.bytes_is) light) rest in
    record {
      saved = first.given ∷ later.saved;
      saved_is = later.saved_is ∙ ap (λ (xs : List Item). xs ++ later.saved) first.saved_is ∙ append_assoc p.saved (first.given ∷ []) later.saved;
      as_sent = (first.as_sent, later.as_sent);
      no_more = later.no_more ∙ first.conflicts_is;
    }

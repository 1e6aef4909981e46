-- When a device may pull: from its first rows on, and again after whichever first acts of a pull.
use Rattle.std.proofs.Common.{◌≡◌, ◌≢◌, ℕ, List, [], ◌∷◌, length, Option, Some, None, refl, sym, ap, ◌∙◌, subst, inl, inr}
use Rattle.std.specs.Prelude.{IsSome}
use Rattle.sn_account.specs.Sessions.{IsSession}
use Rattle.sn_device.specs.Sending.{NoneWaits}
use Rattle.sn_device.specs.States.{Bytes, HasLocal, HasSets, IsFresh, IsInSlot, IsSetOf, OwnerColumns, owner_columns}
use Rattle.sn_device.specs.Steps.{BeginsDevice, first_owner}
use Rattle.sn_pull.specs.Laws.{BegunMayPull, MayPullAgain}
use Rattle.sn_pull.specs.Pulls.{IsTokenGiven, MayPull}
use Rattle.sn_pull.proofs.CheckLemmas.{no_token}
use Rattle.sn_pull.proofs.RoundLemmas.{Stands}
use Rattle.sn_rows.specs.Facts.{first_put, neither_put, second_put}
use Rattle.sn_rows.specs.Table.{Rows, rows_after}
use Rattle.sn_rows.specs.declared.body.RowBody.{RowBody}
use Rattle.sn_rows.specs.declared.change.Change.{Change}
use Rattle.sn_rows.specs.declared.device_rows.LocalItem.{LocalItem}
use Rattle.sn_rows.specs.declared.device_rows.OwnerRow.{OwnerRow}
use Rattle.sn_rows.specs.declared.key.Key.{Key}
use Rattle.sn_rows.specs.declared.key.Key.TheVariants as key
use Rattle.sn_rows.specs.declared.key.Slot.{Slot}
use Rattle.sn_rows.specs.declared.key.Slot.TheVariants.{Asked, Older, Present}
use Rattle.sn_rows.specs.declared.value.Value.TheVariants as value
use Rattle.sn_sets.specs.declared.sets.Sets.{Sets}
use Rattle.sn_string.specs.declared.params.KeySet.{KeySet}
use Rattle.sn_sync.specs.Tokens.{IsToken}

-- ---- sets of other rows

slot_stays : (rows after : Rows) (identifier : Bytes) (slot : Slot) (o : Option KeySet) → after (key.Set slot) ≡ rows (key.Set slot)
    → IsInSlot rows identifier slot o → IsInSlot after identifier slot o
slot_stays rows after identifier slot None e is = e ∙ is
slot_stays rows after identifier slot (Some set) e (keys, has, of) = (keys, e ∙ has, of)

-- a device's own row and sets behind pages
pub holds_then : (server first : Rows) (n : ℕ) (before : OwnerRow) (sets : Sets) (rows : Rows) → HasSets first before sets
    → (st : Stands server first n before rows) → HasSets rows st.owner sets
holds_then server first n before sets rows holds st = record {
  owned = st.owned;
  in_use = slot Present (Some sets.present) holds.in_use;
  before = slot Older sets.older holds.before;
  wanted = slot Asked sets.asked holds.wanted;
}
  where
    slot : (s : Slot) (o : Option KeySet) → IsInSlot first before.identifier s o → IsInSlot rows st.owner.identifier s o
    slot s o is =
        let same : st.owner.identifier ≡ before.identifier = ap (λ (c : OwnerColumns). c.identifier) st.columns_are in
        subst (λ (i : Bytes). IsInSlot rows i s o) (sym same) (slot_stays first rows before.identifier s o (st.sets_stay s) is)

no_some : (o : Option RowBody) → o ≡ None → IsSome o → ⊥
no_some None e some = cc
no_some (Some b) e some = cc

-- nothing waits among rows that stand so
pub stands_quiet : (server first : Rows) (n : ℕ) (before : OwnerRow) (rows : Rows) → Stands server first n before rows → NoneWaits rows
stands_quiet server first n before rows st number local has (inl some) = absurd (no_some local.latest (st.clean number local has).0 some)
stands_quiet server first n before rows st number local has (inr stale) = (let not = (st.clean number local has).2 in absurd cc)

-- ---- a device behind pages may pull

pub may_again : (server first : Rows) (n : ℕ) (before : OwnerRow) (sets : Sets) (rows : Rows) → MayPull server first n before sets
    → Stands server first n before rows → MayPullAgain server rows n before sets
may_again server first n before sets rows may st = (
  st.owner,
  record {
    holds = holds_then server first n before sets rows may.holds st;
    session = subst (λ (t : Bytes). IsSession server t n) (sym (ap (λ (c : OwnerColumns). c.token) st.columns_are)) may.session;
    no_older = may.no_older;
    no_asked = may.no_asked;
    none_waits = stands_quiet server first n before rows st;
    account_fits = ap (λ (c : OwnerColumns). length c.account) st.columns_are ∙ may.account_fits;
    begins = st.begins;
  },
  st.given,
)

-- ---- a device that has begun may pull

module _ (server rows : Rows) (n : ℕ) (set : KeySet) (account token : Bytes) (changes : List Change) (fresh : IsFresh rows)
    (b : BeginsDevice set account token changes) (fits : length account ≡ 16) (session : IsSession server token n) where
  abbrev own_row : OwnerRow
  own_row = b.owner_is.owner

  abbrev begun : Rows
  begun = rows_after rows (b.owner ∷ b.present ∷ [])

  own_columns : owner_columns own_row ≡ first_owner set account token
  own_columns = b.owner_is.columns_are

  identifier : own_row.identifier ≡ set.params.identifier
  identifier = ap (λ (c : OwnerColumns). c.identifier) own_columns

  -- each other row is none
  other : (at : Key) → key.Owner ≢ at → key.Set Present ≢ at → begun at ≡ None
  other at owner_no set_no =
      neither_put rows b.owner b.present key.Owner (key.Set Present) at (value.Owner own_row) (value.Set b.keys) b.owner_is.puts_it b.present_is owner_no set_no
      ∙ fresh at

  no_item : (number : ℕ) (local : LocalItem) → ¬ (HasLocal begun number local)
  no_item number local has = let none = other (key.Local number) (λ e. cc) (λ e. cc) in cc

  begun_pulls : MayPull server begun n own_row (record { present = set; older = None; asked = None })
  begun_pulls = record {
    holds = record {
      owned = first_put rows b.owner b.present key.Owner (key.Set Present) (value.Owner own_row) (value.Set b.keys) b.owner_is.puts_it b.present_is (λ e. cc);
      in_use = (
        b.keys,
        second_put rows b.owner b.present (key.Set Present) (value.Set b.keys) b.present_is,
        subst (λ (i : Bytes). IsSetOf i b.keys set) (sym identifier) b.keys_are,
      );
      before = other (key.Set Older) (λ e. cc) (λ e. cc);
      wanted = other (key.Set Asked) (λ e. cc) (λ e. cc);
    };
    session = subst (λ (t : Bytes). IsSession server t n) (sym (ap (λ (c : OwnerColumns). c.token) own_columns)) session;
    no_older = refl;
    no_asked = refl;
    none_waits = λ number local has waits. no_item number local has;
    account_fits = ap (λ (c : OwnerColumns). length c.account) own_columns ∙ fits;
    begins = inl (record {
      no_items = no_item;
      no_token = ap (λ (c : OwnerColumns). c.sync_token) own_columns;
      no_cursor = ap (λ (c : OwnerColumns). c.cursor_token) own_columns;
    });
  }

pub begun_may_pull : BegunMayPull
begun_may_pull server rows n words left set account token changes (fresh, b, same) fits session =
    let one_set : Sets = record { present = set; older = None; asked = None } in
    subst (λ (cs : List Change). (o : OwnerRow) × MayPull server (rows_after rows cs) n o one_set × IsTokenGiven server o) (sym b.changes_are) (
      b.owner_is.owner,
      begun_pulls server rows n set account token changes fresh b fits session,
      λ store stamp has is. absurd (no_token stamp
          (subst (λ (text : Bytes). IsToken text stamp) (ap (λ (c : OwnerColumns). c.sync_token) b.owner_is.columns_are) is)),
    )

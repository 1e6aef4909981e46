-- What one version of an answer makes of a device's rows and of the ideal state.
use Rattle.std.proofs.Common.{◌≡◌, ◌≢◌, ℕ, List, [], ◌∷◌, ◌++◌, Option, Some, None, Bool, true, false, refl, sym, ap, ◌∙◌, subst, ⊎_elim, append_assoc}
use mathlib.Core.Path.{fun_ext}
use Rattle.std.proofs.lemmas.List.{append-nil}
use Rattle.std.specs.Prelude.{IsSome}
use Rattle.sn_device.specs.Laws.{AreStanding}
use Rattle.sn_device.specs.States.{Columns, HasItem, HasLocal, HasSets, IsInSlot, IsSoundItem}
use Rattle.sn_device.specs.Taking.{Progress}
use Rattle.sn_laws.specs.Lookups.{Bytes}
use Rattle.sn_laws.specs.Runs.{LegalFrom, end_from}
use Rattle.sn_laws.specs.declared.ideal.Account.{Account}
use Rattle.sn_laws.specs.declared.ideal.Device.{Device}
use Rattle.sn_laws.specs.declared.ideal.Ideal.{Ideal}
use Rattle.sn_laws.specs.declared.moves.Move.{Move}
use Rattle.sn_rows.specs.Facts.{IsOfKind, kind_after}
use Rattle.sn_rows.specs.Table.{Rows, rows_after}
use Rattle.sn_rows.specs.declared.change.Change.{Change}
use Rattle.sn_rows.specs.declared.device_rows.LocalItem.{LocalItem}
use Rattle.sn_rows.specs.declared.device_rows.OwnerRow.{OwnerRow}
use Rattle.sn_rows.specs.declared.key.Key.{Key}
use Rattle.sn_rows.specs.declared.key.Key.TheVariants as key
use Rattle.sn_rows.specs.declared.value.Value.TheVariants as value
use Rattle.sn_sets.specs.declared.sets.Sets.{Sets}
use Rattle.sn_shows.specs.Devices.{ShowsDevice}
use Rattle.sn_shows.specs.Laws.{HasAccount}
use Rattle.sn_shows.specs.Servers.{ShowsAccounts, account_at}
use Rattle.sn_sync.specs.declared.item.Item.{Item}
use Rattle.sn_world.specs.Holds.{NumbersOf, Reached}
use Rattle.std.specs.Prelude.{find}
use Rattle.sn_laws.proofs.Facts.{end_from-append}
use Rattle.sn_laws.specs.Lookups.{is_account, is_device}
use Rattle.sn_laws.specs.declared.ideal.Draft.{Draft}
use Rattle.sn_rows.specs.Facts.{keys_compare, put_here, put_or_not, removed_elsewhere, removed_here, row_after-append}
use Rattle.sn_rows.specs.Table.{Puts, Removes, key_of, same_key}
use Rattle.sn_rows.specs.declared.body.RowBody.{RowBody}
use Rattle.sn_rows.specs.declared.key.Slot.{Slot}
use Rattle.sn_rows.specs.declared.key.Slot.TheVariants.{Asked, Older, Present}
use Rattle.sn_rows.specs.declared.value.Value.{Value}
use Rattle.sn_shows.specs.Devices.{ShowsDrafted}
use Rattle.sn_string.specs.declared.params.KeySet.{KeySet}
use Rattle.sn_world.proofs.DeviceRows.{one_local, past_key}
use Rattle.sn_world.proofs.DeviceSets.{local_of_kind}
use Rattle.sn_world.proofs.Frames.{KeepsPosted}
use Rattle.sn_world.proofs.LegalMoves.{legal_joined}
use Rattle.sn_world.specs.Live.{LiveItem}

-- where the applying of an answer stands: the invariant of one device's rows, and of the ideal state
pub record Along (server : Rows) (name : Bytes) (n : ℕ) (a : Account) (d : Device) (owner : OwnerRow) (sets : Sets) (p : Progress) (s : Ideal) : Type 0 where
  pub reached : Reached s
  pub accounts : ShowsAccounts server s.accounts
  pub at : account_at n s.accounts ≡ Some a
  pub has : HasAccount s name d a
  pub shows : ShowsDevice p.rows s name
  pub holds : HasSets p.rows owner sets
  pub standing : AreStanding p.next p.rows
  pub kinds : (k : Key) → IsOfKind k (p.rows k)
  pub numbers : (other : Bytes) → NumbersOf s other

-- what some versions made of it: moves that are legal, and all that is left
pub record Took (server : Rows) (name : Bytes) (n : ℕ) (a : Account) (d : Device) (owner : OwnerRow) (sets : Sets) (p q : Progress) (s : Ideal) (moves : List Move)
    : Type 0 where
  pub legal : LegalFrom s moves
  pub along : Along server name n a d owner sets q (end_from s moves)
  pub accounts : (end_from s moves).accounts ≡ s.accounts
  pub devices : (end_from s moves).devices ≡ s.devices
  pub others : (at : Rows) (other : Bytes) → other ≢ name → ShowsDevice at s other → ShowsDevice at (end_from s moves) other
  pub made : List Change
  pub changes : q.changes ≡ p.changes ++ made
  pub rows : q.rows ≡ rows_after p.rows made
  pub live : (j : Item) → LiveItem (server (key.Item j.uuid)) p.rows s.accounts n j → LiveItem (server (key.Item j.uuid)) q.rows s.accounts n j

-- changes of two rows may be made in either order
pub changes_commute : (rows : Rows) (c d : Change) → key_of c ≢ key_of d
    → rows_after (rows_after rows (c ∷ [])) (d ∷ []) ≡ rows_after (rows_after rows (d ∷ [])) (c ∷ [])
changes_commute rows c d apart = fun_ext (λ k. by k (same_key (key_of c) k) refl (same_key (key_of d) k) refl)
  where
    by : (k : Key) (b : Bool) → same_key (key_of c) k ≡ b → (e : Bool) → same_key (key_of d) k ≡ e
        → rows_after (rows_after rows (c ∷ [])) (d ∷ []) k ≡ rows_after (rows_after rows (d ∷ [])) (c ∷ []) k
    by k true x true y = absurd (apart ((keys_compare (key_of c) k).0 x ∙ sym ((keys_compare (key_of d) k).0 y)))
    by k true x false y = rw (x, y) refl
    by k false x true y = rw (x, y) refl
    by k false x false y = rw (x, y) refl

-- a local number below which all items are is free
pub number_free : (rows : Rows) (number : ℕ) → ((k : Key) → IsOfKind k (rows k)) → ((local : LocalItem) → HasLocal rows number local → ⊥)
    → rows (key.Local number) ≡ None
number_free rows number kinds nobody = by (rows (key.Local number)) refl
  where
    by : (found : Option Value) → rows (key.Local number) ≡ found → rows (key.Local number) ≡ None
    by None e = e
    by (Some v) e = let local = local_of_kind v (kinds (key.Local number) v e) in absurd (nobody local.0 (e ∙ ap Some local.1))

module _ (server : Rows) (name : Bytes) (n : ℕ) (a : Account) (d : Device) (owner : OwnerRow) (sets : Sets) where
  abbrev AlongHere : Progress → Ideal → Type 0
  AlongHere p s = Along server name n a d owner sets p s

  abbrev TookHere : Progress → Progress → Ideal → List Move → Type 0
  TookHere p q s moves = Took server name n a d owner sets p q s moves

  -- nothing is changed
  pub took_nothing : (p q : Progress) (s : Ideal) → AlongHere p s → q ≡ p → TookHere p q s []
  took_nothing p q s h same = subst (λ (r : Progress). TookHere p r s []) (sym same) (record {
    legal = tt;
    along = h;
    accounts = refl;
    devices = refl;
    others = λ at other off k. k;
    made = [];
    changes = sym (append-nil p.changes);
    rows = refl;
    live = λ j k. k;
  })

  -- some and then others
  pub took_both : (p q r : Progress) (s : Ideal) (first later : List Move) → TookHere p q s first → TookHere q r (end_from s first) later
      → TookHere p r s (first ++ later)
  took_both p q r s first later x y =
      let joined : end_from s (first ++ later) ≡ end_from (end_from s first) later = end_from-append s first later in
      record {
        legal = legal_joined s first later x.legal y.legal;
        along = subst (λ (t : Ideal). AlongHere r t) (sym joined) y.along;
        accounts = subst (λ (t : Ideal). t.accounts ≡ s.accounts) (sym joined) (y.accounts ∙ x.accounts);
        devices = subst (λ (t : Ideal). t.devices ≡ s.devices) (sym joined) (y.devices ∙ x.devices);
        others = λ at other off k. subst (λ (t : Ideal). ShowsDevice at t other) (sym joined) (y.others at other off (x.others at other off k));
        made = x.made ++ y.made;
        changes = y.changes ∙ ap (λ (c : List Change). c ++ y.made) x.changes ∙ append_assoc p.changes x.made y.made;
        rows = y.rows ∙ ap (λ (o : Rows). rows_after o y.made) x.rows ∙ fun_ext (λ k. sym (row_after-append (p.rows k) k x.made y.made));
        live = λ j k.
            subst (λ (xs : List Account). LiveItem (server (key.Item j.uuid)) r.rows xs n j) x.accounts
            (y.live j (subst (λ (xs : List Account). LiveItem (server (key.Item j.uuid)) q.rows xs n j) (sym x.accounts) (x.live j k)));
      }

  -- ---- one change of an item's row

  pub sets_after : (rows : Rows) (change : Change) (number : ℕ) → key_of change ≡ key.Local number → HasSets rows owner sets
      → HasSets (rows_after rows (change ∷ [])) owner sets
  sets_after rows change number of h = record {
    owned = past_key rows change (key.Local number) key.Owner of (λ e. cc) ∙ h.owned;
    in_use = slot Present (Some sets.present) h.in_use;
    before = slot Older sets.older h.before;
    wanted = slot Asked sets.asked h.wanted;
  }
    where
      slot : (at : Slot) (found : Option KeySet) → IsInSlot rows owner.identifier at found → IsInSlot (rows_after rows (change ∷ [])) owner.identifier at found
      slot at None k = past_key rows change (key.Local number) (key.Set at) of (λ e. cc) ∙ k
      slot at (Some set) k = (k.0, past_key rows change (key.Local number) (key.Set at) of (λ e. cc) ∙ k.1, k.2)

  -- the changes, with the moves that they say
  pub took_changes : (p q : Progress) (s : Ideal) (moves : List Move) (made : List Change) → AlongHere p s
      → q.rows ≡ rows_after p.rows made → q.changes ≡ p.changes ++ made → AreStanding q.next q.rows → HasSets (rows_after p.rows made) owner sets
      → LegalFrom s moves → Reached (end_from s moves) → (end_from s moves).accounts ≡ s.accounts
      → (end_from s moves).devices ≡ s.devices → ShowsDevice (rows_after p.rows made) (end_from s moves) name
      → ((at : Rows) (other : Bytes) → other ≢ name → ShowsDevice at s other → ShowsDevice at (end_from s moves) other)
      → ((other : Bytes) → NumbersOf (end_from s moves) other)
      → ((j : Item) → LiveItem (server (key.Item j.uuid)) p.rows s.accounts n j → LiveItem (server (key.Item j.uuid)) (rows_after p.rows made) s.accounts n j)
      → TookHere p q s moves
  took_changes p q s moves made h rows changes standing holds legal reached accounts devices shows others numbers live = record {
    legal = legal;
    along = record {
      reached = reached;
      accounts = subst (λ (xs : List Account). ShowsAccounts server xs) (sym accounts) h.accounts;
      at = ap (account_at n) accounts ∙ h.at;
      has = record {
        device = ap (find (is_device name)) devices ∙ h.has.device;
        account = ap (find (is_account d.account)) accounts ∙ h.has.account;
      };
      shows = subst (λ (r : Rows). ShowsDevice r (end_from s moves) name) (sym rows) shows;
      holds = subst (λ (r : Rows). HasSets r owner sets) (sym rows) holds;
      standing = standing;
      kinds = λ k. subst (λ (r : Rows). IsOfKind k (r k)) (sym rows) (kind_after (p.rows k) k made (h.kinds k));
      numbers = numbers;
    };
    accounts = accounts;
    devices = devices;
    others = others;
    made = made;
    changes = changes;
    rows = rows;
    live = λ j k. subst (λ (r : Rows). LiveItem (server (key.Item j.uuid)) r s.accounts n j) (sym rows) (live j k);
  }

  -- the change
  pub took_one : (p q : Progress) (s : Ideal) (moves : List Move) (change : Change) (number : ℕ) → AlongHere p s → key_of change ≡ key.Local number
      → q.rows ≡ rows_after p.rows (change ∷ []) → q.changes ≡ p.changes ++ change ∷ [] → AreStanding q.next q.rows
      → LegalFrom s moves → Reached (end_from s moves) → (end_from s moves).accounts ≡ s.accounts
      → (end_from s moves).devices ≡ s.devices → ShowsDevice (rows_after p.rows (change ∷ [])) (end_from s moves) name
      → ((at : Rows) (other : Bytes) → other ≢ name → ShowsDevice at s other → ShowsDevice at (end_from s moves) other)
      → ((other : Bytes) → NumbersOf (end_from s moves) other)
      → ((j : Item) → LiveItem (server (key.Item j.uuid)) p.rows s.accounts n j
      → LiveItem (server (key.Item j.uuid)) (rows_after p.rows (change ∷ [])) s.accounts n j)
      → TookHere p q s moves
  took_one p q s moves change number h of rows changes standing legal reached accounts devices shows others numbers live =
      took_changes p q s moves (change ∷ []) h rows changes standing
      (sets_after p.rows change number of h.holds) legal reached accounts devices shows others numbers live

  -- where the drafts are as they were
  pub took_clean : (p q : Progress) (s : Ideal) (change : Change) (number : ℕ) → AlongHere p s → key_of change ≡ key.Local number
      → q.rows ≡ rows_after p.rows (change ∷ []) → q.changes ≡ p.changes ++ change ∷ [] → AreStanding q.next q.rows
      → ShowsDevice (rows_after p.rows (change ∷ [])) s name
      → ((j : Item) → LiveItem (server (key.Item j.uuid)) p.rows s.accounts n j
      → LiveItem (server (key.Item j.uuid)) (rows_after p.rows (change ∷ [])) s.accounts n j)
      → TookHere p q s []
  took_clean p q s change number h of rows changes standing shows live =
      took_one p q s [] change number h of rows changes standing tt h.reached refl refl shows (λ at other off k. k) h.numbers live

-- ---- a row of which nothing was posted

pub posted_removed : (rows : Rows) (change : Change) (number : ℕ) (local : LocalItem) → HasLocal rows number local → local.posted ≡ None
    → Removes change (key.Local number) → KeepsPosted rows (rows_after rows (change ∷ []))
posted_removed rows change number local stands none gone at l there some =
    (l, removed_elsewhere rows change (key.Local number) (key.Local at) gone off ∙ there, (refl, refl, refl, refl))
  where
    off : key.Local number ≢ key.Local at
    off e =
        let same : l ≡ local = one_local l local (rows (key.Local number)) (ap rows e ∙ there) stands in
        some (ap (λ (x : LocalItem). x.posted) same ∙ none)

-- a row without a draft has sent nothing
pub unsent : (c : Columns) → IsSoundItem c → c.latest ≡ None → c.posted ≡ None
unsent c sound none = by c.posted refl
  where
    by : (found : Option RowBody) → c.posted ≡ found → c.posted ≡ None
    by None e = e
    by (Some b) e =
        let some : IsSome c.latest = sound.sent (subst (λ (o : Option RowBody). IsSome o) (sym e) refl) in
        let no : IsSome {T = RowBody} None = subst (λ (o : Option RowBody). IsSome o) none some in
        absurd (cc)

pub undrafted : (sets : List KeySet) (number : ℕ) (local : LocalItem) (found : Option Draft) → local.latest ≡ None → ShowsDrafted sets number local found → found ≡ None
undrafted sets number local None none h = refl
undrafted sets number local (Some draft) none h = let some : local.latest ≡ Some h.latest = h.latest_is in absurd (cc)

-- ---- what stays of other items

-- a row of another item is as it was
abbrev pub Past : Rows → Rows → Bytes → Type 0
Past rows later uuid = (v : Bytes) (number : ℕ) (local : LocalItem) → v ≢ uuid → HasItem later v number local → HasItem rows v number local

pub past_put : (rows : Rows) (change : Change) (number : ℕ) (new : LocalItem) (uuid : Bytes) → Puts change (key.Local number) (value.Local new) → new.uuid ≡ uuid
    → Past rows (rows_after rows (change ∷ [])) uuid
past_put rows change number new uuid puts own v at local apart there =
    ⊎_elim
    (λ (same : key.Local number ≡ key.Local at).
    let is : local ≡ new = one_local local new (rows_after rows (change ∷ []) (key.Local at)) there.0
    (ap (rows_after rows (change ∷ [])) (sym same) ∙ put_here rows change (key.Local number) (value.Local new) puts) in
    absurd (apart (sym there.1 ∙ ap (λ (l : LocalItem). l.uuid) is ∙ own)))
    (λ (past : rows_after rows (change ∷ []) (key.Local at) ≡ rows (key.Local at)). (sym past ∙ there.0, there.1))
    (put_or_not rows change (key.Local number) (value.Local new) puts (key.Local at))

pub past_removed : (rows : Rows) (change : Change) (number : ℕ) (uuid : Bytes) → Removes change (key.Local number) → Past rows (rows_after rows (change ∷ [])) uuid
past_removed rows change number uuid gone v at local apart there =
    (sym (removed_elsewhere rows change (key.Local number) (key.Local at) gone off) ∙ there.0, there.1)
  where
    off : key.Local number ≢ key.Local at
    off e =
        let none : rows_after rows (change ∷ []) (key.Local at) ≡ None = ap (rows_after rows (change ∷ [])) (sym e) ∙ removed_here rows change (key.Local number) gone in
        let some : rows_after rows (change ∷ []) (key.Local at) ≡ Some (value.Local local) = there.0 in
        cc

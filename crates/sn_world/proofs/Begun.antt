-- The first rows of a device keep the invariant.
use Rattle.std.proofs.Common.{◌≡◌, ◌≢◌, ℕ, zero, suc, List, [], ◌∷◌, ◌++◌, length, Option, Some, None, Bool, true, false, inl, refl, sym, ap, ◌∙◌, subst, arith}
use Rattle.std.specs.Prelude.{IsTrue, cond, find, if◌then◌else◌, slice_get}
use Rattle.std.specs.Str.{bytes_eq}
use Rattle.sn_account.specs.Sessions.{session_token}
use Rattle.sn_adopted.specs.Moves.{OlderStale}
use Rattle.sn_laws.proofs.Facts.{allowed_to, clash, is_below, one_there, same_text, text_same}
use Rattle.sn_laws.specs.Lookups.{Bytes, account_named, device_named, draft_at, greatest, is_account, is_device}
use Rattle.sn_laws.specs.Moves.{after, allows, joined}
use Rattle.sn_laws.specs.Relation.{IsOnLast}
use Rattle.sn_laws.specs.declared.ideal.Account.{Account}
use Rattle.sn_laws.specs.declared.ideal.Device.{Device}
use Rattle.sn_laws.specs.declared.ideal.Ideal.{Ideal}
use Rattle.sn_laws.specs.declared.moves.Move.{Move}
use Rattle.sn_laws.specs.declared.moves.Move.TheVariants.{Join}
use Rattle.sn_rows.specs.Facts.{first_put, neither_put}
use Rattle.sn_rows.specs.Table.{Rows, rows_after}
use Rattle.sn_rows.specs.declared.change.Change.{Change}
use Rattle.sn_rows.specs.declared.device_rows.OwnerRow.{OwnerRow}
use Rattle.sn_rows.specs.declared.key.Key.TheVariants as key
use Rattle.sn_rows.specs.declared.key.Slot.TheVariants.{Present}
use Rattle.sn_rows.specs.declared.value.Value.TheVariants as value
use Rattle.sn_shows.proofs.Facts.{find_new, find_past_new, not_device}
use Rattle.sn_shows.specs.Devices.{ShowsDevice, ShowsDeviceAs, ShowsNothing}
use Rattle.sn_shows.specs.Laws.{AccountsApart, AreApart, JoinKeeps, JoinedShows}
use Rattle.sn_shows.specs.Servers.{account_at}
use Rattle.sn_string.specs.declared.params.KeySet.{KeySet}
use Rattle.sn_device.specs.States.{token_of, IsFresh, IsSound, OwnerColumns}
use Rattle.sn_shows.specs.Servers.{stamps_in}
use Rattle.sn_world.proofs.DeviceRows.{one_owner}
use Rattle.sn_world.specs.Holds.{IsTokenBelow}
use Rattle.sn_world.proofs.Frames.{DeviceFrame, device_kept}
use Rattle.sn_world.proofs.Steps.{reached_more}
use Rattle.sn_world.proofs.Tokens.{apart_of, named_at, named_identifier}
use Rattle.sn_world.specs.Committing.{MayBegin, SaysJoin}
use Rattle.sn_world.specs.Holds.{DeviceToken, Holds, NumbersOf}
use Rattle.sn_world.specs.Laws.{KeptBy}
use Rattle.sn_device.specs.Steps.{BeginsDevice}
use Rattle.sn_world.specs.World.{OnDevice, World}

-- an account that has a number is found by its identifier

got_found : (p : Account → Bool) (xs : List Account) (k : ℕ) (a : Account) → slice_get xs k ≡ Some a → p a ≡ true → find p xs ≡ None → ⊥
got_found p [] k a got passes none = cc
got_found p (x ∷ xs) zero a got passes none =
    let is : x ≡ a = cc in
    let found : cond true (Some x) (find p xs) ≡ None = subst (λ (b : Bool). cond b (Some x) (find p xs) ≡ None) (ap p is ∙ passes) none in
    cc
got_found p (x ∷ xs) (suc k) a got passes none = by (λ rest. got_found p xs k a got passes rest) (p x) refl
  where
    by : (find p xs ≡ None → ⊥) → (b : Bool) → p x ≡ b → ⊥
    by behind true e = let found : cond true (Some x) (find p xs) ≡ None = subst (λ (b : Bool). cond b (Some x) (find p xs) ≡ None) e none in cc
    by behind false e = behind (subst (λ (b : Bool). cond b (Some x) (find p xs) ≡ None) e none)

at_found : (s : Ideal) (n : ℕ) (a : Account) → account_at n s.accounts ≡ Some a → account_named s a.identifier ≡ None → ⊥
at_found s zero a at none = absurd (cc)
at_found s (suc k) a at none = got_found (is_account a.identifier) s.accounts k a at (text_same a.identifier a.identifier refl) none

pub at_named : (s : Ideal) (n : ℕ) (a : Account) → AreApart s.accounts → account_at n s.accounts ≡ Some a → account_named s a.identifier ≡ Some a
at_named s n a apart at = by (account_named s a.identifier) refl
  where
    by : (found : Option Account) → account_named s a.identifier ≡ found → account_named s a.identifier ≡ Some a
    by None e = absurd (at_found s n a at e)
    by (Some b) e =
        let k = named_at s a.identifier b e in
        let same : k.0 ≡ n = apart k.0 n b a k.1 at (named_identifier s a.identifier b e) in
        e ∙ ap Some (one_there b a (account_at n s.accounts) (subst (λ (j : ℕ). account_at j s.accounts ≡ Some b) same k.1) at)

only_greatest : (n : ℕ) → greatest 0 (n ∷ []) ≡ n
only_greatest zero = refl
only_greatest (suc n) = ap (λ (b : Bool). if b then suc n else 0) (is_below 0 (suc n) (omega arith))

-- a device without rows has no account
fresh_none : (rows : Rows) (s : Ideal) (name : Bytes) → IsFresh rows → ShowsDevice rows s name → device_named s name ≡ None
fresh_none rows s name fresh shows = by (device_named s name) refl shows
  where
    by : (found : Option Device) → device_named s name ≡ found → ShowsDeviceAs rows s name found → device_named s name ≡ None
    by None e k = e
    by (Some d) e k =
        let stands : rows key.Owner ≡ Some (value.Owner k.2.owner.owner) = k.2.owner.stands in
        let none : rows key.Owner ≡ None = fresh key.Owner in
        absurd (cc)

module _ (apart : AccountsApart) (law : JoinedShows) (keeps : JoinKeeps) (secret : Bytes) (w next : World) (s : Ideal) (h : Holds secret w s) (name : Bytes)
    (set : KeySet) (uuid token : Bytes) (changes : List Change) (fresh : IsFresh (w.devices name)) (x : BeginsDevice set uuid token changes)
    (may : MayBegin secret s set uuid token) (sound : IsSound (rows_after (w.devices name) (x.owner ∷ x.present ∷ []))) (on : OnDevice w next name changes) where
  abbrev rows : Rows
  rows = rows_after (w.devices name) (x.owner ∷ x.present ∷ [])

  abbrev a : Account
  a = may.account

  abbrev number : ℕ
  number = length a.sets

  abbrev identifier : Bytes
  identifier = set.params.identifier

  abbrev later : Ideal
  later = after s (Join name identifier number)

  abbrev new : OwnerRow
  new = x.owner_is.owner

  none : device_named s name ≡ None
  none = fresh_none (w.devices name) s name fresh (h.devices name)

  -- the set is of the account's identifier
  identifier_is : identifier ≡ a.identifier
  identifier_is = ((h.server.all.each may.number a may.at).generations number set may.last).identifier

  named : account_named s identifier ≡ Some a
  named = subst (λ (t : Bytes). account_named s t ≡ Some a) (sym identifier_is) (at_named s may.number a (apart_of apart s h.reached) may.at)

  pub legal : IsTrue (allows s (Join name identifier number))
  legal = allowed_to s (Join name identifier number) (record { account = a; named = named; last = refl; before = λ d e. let empty : device_named s name ≡ None = none in absurd (cc) })

  abbrev device : Device
  device = record { name = name; account = identifier; held = number ∷ [] }

  devices_are : later.devices ≡ s.devices ++ device ∷ []
  devices_are = ap (joined s.devices name identifier number) none

  own_device : device_named later name ≡ Some device
  own_device = ap (find (is_device name)) devices_are ∙ find_new (is_device name) s.devices device none (text_same name name refl)

  others : (other : Bytes) → other ≢ name → device_named later other ≡ device_named s other
  others other off = ap (find (is_device other)) devices_are ∙ find_past_new (is_device other) s.devices device (not_device name other device off refl)

  here : rows key.Owner ≡ Some (value.Owner new)
  here = first_put (w.devices name) x.owner x.present key.Owner (key.Set Present) (value.Owner new) (value.Set x.keys) x.owner_is.puts_it x.present_is (λ e. cc)

  on_same : (b : Account) (item : Bytes) (base : Option ℕ) → IsOnLast later b item base → IsOnLast s b item base
  on_same b item None last = last
  on_same b item (Some stamp) last = last

  no_draft : (item : Bytes) → draft_at s name item ≡ None
  no_draft item =
      let nothing : ShowsNothing (w.devices name) s name = subst (λ (found : Option Device). ShowsDeviceAs (w.devices name) s name found) none (h.devices name) in
      nothing.no_draft item

  numbers : (other : Bytes) → NumbersOf later other
  numbers other d b has item draft at p is = by (bytes_eq other name) refl
    where
      by : (q : Bool) → bytes_eq other name ≡ q → (k : ℕ) × (p.set ≡ Some k) × (IsOnLast later b draft.uuid draft.base → k ≡ greatest 0 d.held)
      by true same =
          let empty : draft_at s other item ≡ None = subst (λ (o : Bytes). draft_at s o item ≡ None) (sym (same_text other name same)) (no_draft item) in
          let there : draft_at s other item ≡ Some draft = at in
          absurd (cc)
      by false off =
          let distinct : other ≢ name = λ e. clash (bytes_eq other name) (text_same other name e) off in
          let its = h.numbers other d b (record { device = sym (others other distinct) ∙ has.device; account = has.account }) item draft at p is in
          (its.0, its.1, λ last. its.2 (on_same b draft.uuid draft.base last))

  token_after : (d : Device) → device_named later name ≡ Some d → DeviceToken secret rows s.accounts d
  token_after d is =
      let same : device ≡ d = one_there device d (device_named later name) own_device is in
      subst (λ (e : Device). DeviceToken secret rows s.accounts e) same
      (record {
        owner = new;
        has = here;
        number = may.number;
        account = a;
        at = may.at;
        own = sym identifier_is;
        uuid_is = ap (λ (c : OwnerColumns). c.account) x.owner_is.columns_are ∙ may.uuid_is;
        is = ap (λ (c : OwnerColumns). c.token) x.owner_is.columns_are ∙ may.token_is ∙ ap (λ (k : ℕ). session_token secret may.number k) (sym (only_greatest number));
      })

  no_local : (at : ℕ) → rows (key.Local at) ≡ None
  no_local at =
      neither_put (w.devices name) x.owner x.present key.Owner (key.Set Present) (key.Local at) (value.Owner new) (value.Set x.keys) x.owner_is.puts_it x.present_is
      (λ e. cc) (λ e. cc) ∙ fresh (key.Local at)

  frame : DeviceFrame secret w rows s later name
  frame = record {
    reached = reached_more s (Join name identifier number) h.reached legal;
    accounts = refl;
    others = others;
    shows = law (w.devices name) s name identifier number a x.owner x.present (h.devices name) none named (record {
      row = new;
      owner_puts = x.owner_is.puts_it;
      identifier = ap (λ (c : OwnerColumns). c.identifier) x.owner_is.columns_are ∙ identifier_is;
      set = x.keys;
      present_puts = x.present_is;
      set_is = record {
        set = set;
        at = may.last;
        identifier = identifier_is;
        cost = sym x.keys_are.cost;
        nonce = sym x.keys_are.nonce;
        pw = sym x.keys_are.pw;
        mk = sym x.keys_are.mk;
        ak = sym x.keys_are.ak;
      };
    });
    shows_others = λ at other off k. keeps at s name other identifier number off k;
    sound = sound;
    older_stale = λ d b of.
        subst (λ (e : Device). OlderStale rows b e.held) (one_there device d (device_named later name) own_device of.device) tt;
    numbers = numbers;
    own_token = token_after;
    pulls = (
      λ owner has none item at local there. let nothing : rows (key.Local at) ≡ None = no_local at in let some : rows (key.Local at) ≡ Some (value.Local local) = there.0 in absurd (cc),
      λ d n b owner text stamp named_so at own has token is.
          let same : owner ≡ new = one_owner owner new (rows key.Owner) has here in
          let empty : owner.sync_token ≡ [] = ap (λ (o : OwnerRow). o.sync_token) same ∙ ap (λ (c : OwnerColumns). c.sync_token) x.owner_is.columns_are in
          let none : None ≡ Some text = sym (ap token_of empty) ∙ token in
          absurd (cc),
    );
    sync_tokens = λ owner has.
        let is : owner ≡ new = one_owner owner new (rows key.Owner) has here in
        let sync : [] ≡ owner.sync_token = sym (ap (λ (o : OwnerRow). o.sync_token) is ∙ ap (λ (c : OwnerColumns). c.sync_token) x.owner_is.columns_are) in
        let cursor : [] ≡ owner.cursor_token = sym (ap (λ (o : OwnerRow). o.cursor_token) is ∙ ap (λ (c : OwnerColumns). c.cursor_token) x.owner_is.columns_are) in
        (subst (λ (t : Bytes). IsTokenBelow (token_of t) (greatest 0 (stamps_in s.accounts))) sync tt, inl (subst (λ (t : Bytes). token_of t ≡ None) cursor refl));
    tokens = λ t tok. let there : device_named s name ≡ Some tok.device = tok.named in let empty : device_named s name ≡ None = none in absurd (cc);
    live = λ t n tok session i k. let there : device_named s name ≡ Some tok.device = tok.named in let empty : device_named s name ≡ None = none in absurd (cc);
  }

  begun : KeptBy secret next s (Join name identifier number ∷ [])
  begun = (
    (legal, tt),
    device_kept secret w next s later name (x.owner ∷ x.present ∷ []) h (subst (λ (c : List Change). OnDevice w next name c) x.changes_are on) frame,
  )

  pub begun_so : (moves : List Move) → SaysJoin s name identifier moves → KeptBy secret next s moves
  begun_so moves (b, found, is) =
      let same : a ≡ b = one_there a b (account_named s identifier) named found in
      subst (λ (ms : List Move). KeptBy secret next s ms)
      (ap (λ (c : Account). Join name identifier (length c.sets) ∷ []) same ∙ sym is) begun

-- A saved item that is applied to its row keeps the invariant.
use Rattle.std.proofs.Common.{◌≡◌, ◌≢◌, ℕ, [], ◌∷◌, Option, Some, None, Bool, true, false, refl, sym, ap, ◌∙◌, subst, inl}
use Rattle.std.specs.Prelude.{IsTrue}
use Rattle.std.specs.Str.{bytes_eq}
use Rattle.sn_account.specs.Sessions.{IsSession}
use Rattle.sn_laws.proofs.Facts.{clash, one_there, same_text, text_same}
use Rattle.sn_laws.specs.Lookups.{Bytes, device_named, draft_at, is_draft, greatest}
use Rattle.sn_laws.specs.Moves.{after, allows}
use Rattle.sn_laws.specs.Relation.{IsOnLast}
use Rattle.sn_laws.specs.declared.ideal.Account.{Account}
use Rattle.sn_laws.specs.declared.ideal.Device.{Device}
use Rattle.sn_laws.specs.declared.ideal.Draft.{Draft}
use Rattle.sn_laws.specs.declared.ideal.Ideal.{Ideal}
use Rattle.sn_laws.specs.declared.moves.Move.TheVariants.{Settle}
use Rattle.sn_rows.specs.Table.{Rows, rows_after}
use Rattle.sn_rows.specs.declared.change.Change.{Change}
use Rattle.sn_rows.specs.declared.device_rows.LocalItem.{LocalItem}
use Rattle.sn_rows.specs.declared.key.Key.TheVariants as key
use Rattle.sn_rows.specs.declared.value.Value.TheVariants as value
use Rattle.sn_shows.specs.Devices.{ShowsDevice}
use Rattle.sn_shows.specs.Laws.{AccountsApart, HasAccount, SettleKeeps}
use Rattle.sn_sync.specs.declared.item.Item.{Item}
use Rattle.sn_laws.specs.Lookups.{greatest}
use Rattle.sn_device.specs.States.{Columns}
use Rattle.sn_shows.specs.Servers.{account_at, stamps_in}
use Rattle.sn_world.proofs.DeviceRows.{one_local, owner_past, sync_tokens_same, token_same}
use Rattle.sn_world.proofs.Frames.{DeviceFrame, HasPulled, device_kept}
use Rattle.sn_world.proofs.Pulls.{StaysAt, stays_on, stays_put}
use Rattle.sn_world.proofs.ShowsLemmas.{draft_is, find_past_without, find_without, not_of_device, not_of_item}
use Rattle.sn_world.proofs.StaleRows.{stale_takes}
use Rattle.sn_world.proofs.Steps.{reached_more}
use Rattle.sn_world.proofs.Tokens.{apart_of, named_identifier, token_session}
use Rattle.sn_world.specs.Holds.{HasToken, Holds, TokensDiffer}
use Rattle.sn_world.specs.Laws.{KeepsSettling, KeptBy, Settles}
use Rattle.sn_world.specs.Live.{LiveItem}
use Rattle.sn_world.specs.Pulled.{PulledAt, PulledTo}
use Rattle.sn_world.specs.Settling.{AppliesLive, SettlesOwn}
use Rattle.sn_world.specs.World.{World}

-- a move of drafts leaves what stands on last versions
pub on_same : (s : Ideal) (name uuid other : Bytes) (a : Account) (base : Option ℕ) → IsOnLast (after s (Settle name uuid)) a other base → IsOnLast s a other base
on_same s name uuid other a None on = on
on_same s name uuid other a (Some stamp) on = on

-- a draft that is left was there
pub draft_before : (s : Ideal) (name uuid other item : Bytes) (e : Draft) → draft_at (after s (Settle name uuid)) other item ≡ Some e → draft_at s other item ≡ Some e
draft_before s name uuid other item e h = by (bytes_eq other name) refl (bytes_eq item uuid) refl
  where
    by : (p : Bool) → bytes_eq other name ≡ p → (q : Bool) → bytes_eq item uuid ≡ q → draft_at s other item ≡ Some e
    by false off q k =
        sym (find_past_without (is_draft other item) (is_draft name uuid)
        (λ x t. not_of_device name other item x (λ same. clash (bytes_eq other name) (text_same other name same) off) (draft_is name uuid x t).0) s.drafts) ∙ h
    by true same false off =
        subst (λ (o : Bytes). draft_at s o item ≡ Some e) (sym (same_text other name same))
        (sym (find_past_without (is_draft name item) (is_draft name uuid)
        (λ x t. not_of_item name uuid item x (λ is. clash (bytes_eq item uuid) (text_same item uuid is) off) (draft_is name uuid x t).1) s.drafts)
        ∙ subst (λ (o : Bytes). draft_at (after s (Settle name uuid)) o item ≡ Some e) (same_text other name same) h)
    by true same true is =
        let none : draft_at (after s (Settle name uuid)) name uuid ≡ None = find_without (is_draft name uuid) s.drafts in
        let at : draft_at (after s (Settle name uuid)) name uuid ≡ Some e =
        subst (λ (o : Bytes). draft_at (after s (Settle name uuid)) o uuid ≡ Some e) (same_text other name same)
        (subst (λ (u : Bytes). draft_at (after s (Settle name uuid)) other u ≡ Some e) (same_text item uuid is) h) in
        absurd (cc)

module _ (apart : AccountsApart) (own_law : SettlesOwn) (live_law : AppliesLive) (keeps : SettleKeeps) (secret : Bytes) (w next : World) (s : Ideal) (name : Bytes)
    (change : Change) (local : LocalItem) (i : Item) (differ : TokensDiffer secret) (h : Holds secret w s) (x : Settles w next s name change local i) where
  abbrev later : Ideal
  later = after s (Settle name i.uuid)

  abbrev rows : Rows
  rows = rows_after (w.devices name) (change ∷ [])

  own : IsTrue (allows s (Settle name i.uuid)) × ShowsDevice rows later name × ((upto : ℕ) → PulledAt rows x.account upto i.uuid)
  own = own_law w.server (w.devices name) s name x.n x.number x.account x.device local i change x.meets x.takes

  -- a request of this device that is alive is of its account
  number_is : (token : Bytes) (k : ℕ) → HasToken secret s.accounts (device_named s name) token → IsSession w.server token k → x.n ≡ k
  number_is token k tok session =
      let number : tok.number ≡ k = (token_session apart secret w s h differ name token tok k session).0 in
      let device : tok.device ≡ x.device = one_there tok.device x.device (device_named s name) tok.named x.meets.meets.has.device in
      let names : x.account.identifier ≡ tok.account.identifier =
      named_identifier s x.device.account x.account x.meets.meets.has.account ∙ sym (tok.own ∙ ap (λ (z : Device). z.account) device) in
      apart_of apart s h.reached x.n tok.number x.account tok.account x.meets.meets.at tok.at names ∙ number

  live : (token : Bytes) (k : ℕ) → HasToken secret s.accounts (device_named s name) token → IsSession w.server token k → (j : Item)
      → LiveItem (w.server (key.Item j.uuid)) (w.devices name) s.accounts k j → LiveItem (w.server (key.Item j.uuid)) rows s.accounts k j
  live token k tok session j was =
      let same : x.n ≡ k = number_is token k tok session in
      subst (λ (o : ℕ). LiveItem (w.server (key.Item j.uuid)) rows s.accounts o j) same
      (live_law w.server (w.devices name) s.accounts x.n x.number local x.sent i j change x.meets.meets.stands.0 (inl x.sends) x.meets.meets.stored x.saved
      x.takes.puts.puts.key_is (subst (λ (o : ℕ). LiveItem (w.server (key.Item j.uuid)) (w.devices name) s.accounts o j) (sym same) was))

  owner_same : rows key.Owner ≡ w.devices name key.Owner
  owner_same = owner_past (w.devices name) change x.number (value.Local x.takes.puts.local) x.takes.puts.puts

  -- each other row stays
  other_stays : (uuid : Bytes) → uuid ≢ i.uuid → StaysAt (w.devices name) rows uuid
  other_stays uuid off =
      stays_put (w.devices name) change x.number x.takes.puts.local uuid x.takes.puts.puts
      (λ was there is.
      let same : was ≡ local = one_local was local (w.devices name (key.Local x.number)) there x.meets.meets.stands.0 in
      absurd (off (sym is ∙ ap (λ (l : LocalItem). l.uuid) same ∙ x.meets.meets.stands.1)))
      (λ is. absurd (off (sym is ∙ ap (λ (c : Columns). c.uuid) x.takes.puts.columns_are ∙ x.takes.stands_on.uuid_is)))

  pulls : HasPulled rows s.accounts (device_named s name)
  pulls = (λ owner there none. absurd (x.synced owner (sym owner_same ∙ there) none), pulled)
    where
      pulled : PulledTo rows s.accounts (device_named s name)
      pulled d number a owner text stamp named at names there token is uuid = by (bytes_eq uuid i.uuid) refl
        where
          same_account : x.account ≡ a
          same_account =
              let device : x.device ≡ d = one_there x.device d (device_named s name) x.meets.meets.has.device named in
              let own_name : x.account.identifier ≡ a.identifier =
              named_identifier s x.device.account x.account x.meets.meets.has.account ∙ ap (λ (z : Device). z.account) device ∙ sym names in
              let number_same : x.n ≡ number = apart_of apart s h.reached x.n number x.account a x.meets.meets.at at own_name in
              one_there x.account a (account_at number s.accounts) (subst (λ (k : ℕ). account_at k s.accounts ≡ Some x.account) number_same x.meets.meets.at) at

          by : (b : Bool) → bytes_eq uuid i.uuid ≡ b → PulledAt rows a stamp uuid
          by true same =
              subst (λ (u : Bytes). PulledAt rows a stamp u) (sym (same_text uuid i.uuid same)) (subst (λ (b : Account). PulledAt rows b stamp i.uuid) same_account (own.2 stamp))
          by false off =
              stays_on (w.devices name) rows a stamp uuid (other_stays uuid (λ e. clash (bytes_eq uuid i.uuid) (text_same uuid i.uuid e) off))
              (h.pulled name d number a owner text stamp named at names (sym owner_same ∙ there) token is uuid)

  frame : DeviceFrame secret w rows s later name
  frame = record {
    pulls = pulls;
    reached = reached_more s (Settle name i.uuid) h.reached own.0;
    accounts = refl;
    others = λ other off. refl;
    shows = own.1;
    shows_others = λ at other off k. keeps at s name other i.uuid off k;
    sound = x.sound;
    older_stale = λ e b has.
        let was : HasAccount s name e b = record { device = has.device; account = has.account } in
        stale_takes (w.devices name) s name e b x.meets.meets.owner x.meets.meets.sets h.reached
        (h.devices name) was x.meets.meets.holds change x.number i None x.takes
        (h.older_stale name e b was);
    numbers = λ other e b has item draft at p is.
        let its = h.numbers other e b (record { device = has.device; account = has.account }) item draft (draft_before s name i.uuid other item draft at) p is in
        (its.0, its.1, λ last. its.2 (on_same s name i.uuid draft.uuid b draft.base last));
    own_token = λ e named.
        token_same secret (w.devices name) rows s.accounts e (owner_past (w.devices name) change x.number (value.Local x.takes.puts.local) x.takes.puts.puts)
        (h.own_tokens name e named);
    sync_tokens = sync_tokens_same (w.devices name) rows (greatest 0 (stamps_in s.accounts))
        (owner_past (w.devices name) change x.number (value.Local x.takes.puts.local) x.takes.puts.puts) (h.sync_tokens name);
    tokens = λ t k. k;
    live = live;
  }

  pub settled_so : KeptBy secret next s (Settle name i.uuid ∷ [])
  settled_so = ((own.0, tt), device_kept secret w next s later name (change ∷ []) h x.on frame)

pub keeps_settling : AccountsApart → SettlesOwn → AppliesLive → SettleKeeps → KeepsSettling
keeps_settling apart own_law live_law keeps secret w next s name change local i differ h x =
    settled_so apart own_law live_law keeps secret w next s name change local i differ h x

-- An item that is edited or deleted keeps the invariant.
use Rattle.std.proofs.Common.{◌≡◌, ◌≢◌, ℕ, List, [], ◌∷◌, ◌++◌, Option, Some, None, Bool, true, false, refl, sym, ap, ◌∙◌, subst, inl, inr, ⊎_elim}
use Rattle.std.specs.Prelude.{IsSome, IsTrue, find}
use Rattle.std.specs.Str.{bytes_eq}
use Rattle.sn_laws.proofs.Facts.{allowed_to, clash, one_there, same_text, text_same}
use Rattle.sn_laws.specs.Each.{One}
use Rattle.sn_laws.specs.Lookups.{Bytes, device_named, draft_at, greatest, is_draft}
use Rattle.sn_laws.specs.Moves.{after, allows, changed_where, edited}
use Rattle.sn_laws.specs.Relation.{HasLive, IsAllowed, IsLive, IsLiveAt, IsOnLast}
use Rattle.sn_laws.specs.declared.ideal.Account.{Account}
use Rattle.sn_laws.specs.declared.ideal.Body.{Body}
use Rattle.sn_laws.specs.declared.ideal.Content.{Content}
use Rattle.sn_laws.specs.declared.ideal.Device.{Device}
use Rattle.sn_laws.specs.declared.ideal.Draft.{Draft}
use Rattle.sn_laws.specs.declared.ideal.Ideal.{Ideal}
use Rattle.sn_laws.specs.declared.ideal.Posted.{Posted}
use Rattle.sn_laws.specs.declared.ideal.Version.{Version}
use Rattle.sn_laws.specs.declared.moves.Move.{Move}
use Rattle.sn_laws.specs.declared.moves.Move.TheVariants.{Edit}
use Rattle.sn_rows.specs.Table.{Rows, rows_after}
use Rattle.sn_rows.specs.declared.body.RowBody.{RowBody}
use Rattle.sn_rows.specs.declared.change.Change.{Change}
use Rattle.sn_rows.specs.declared.device_rows.LocalItem.{LocalItem}
use Rattle.sn_rows.specs.declared.key.Key.TheVariants as key
use Rattle.sn_rows.specs.declared.value.Value.TheVariants as value
use Rattle.sn_shows.proofs.Facts.{find_new, find_past_new, holder_of}
use Rattle.sn_shows.specs.Devices.{IsBase, ListsBase, OpensBase, ShowsBase, ShowsContent, ShowsDevice, ShowsDrafted, ShowsHolder, ShowsLocal, ShowsPosted}
use Rattle.sn_shows.specs.Laws.{HasAccount}
use Rattle.sn_shows.specs.Servers.{stamps_in}
use Rattle.sn_world.proofs.DeviceRows.{one_local, owner_past, posted_put, sync_tokens_same, token_same}
use Rattle.sn_world.proofs.Frames.{DeviceFrame, device_kept, live_kept}
use Rattle.sn_world.proofs.Pulls.{alike_row, pulls_kept}
use Rattle.sn_world.proofs.ShowsLemmas.{IsPut, draft_is, draft_passes, find_changed, find_past_changed, holder_from, not_of_device, not_of_item, put_holder, shows_alike, shows_of}
use Rattle.sn_world.proofs.Steps.{reached_more}
use Rattle.sn_world.specs.Holds.{Holds, NumbersOf, StaleOf}
use Rattle.sn_world.specs.Laws.{KeptBy}
use Rattle.sn_device.specs.Sending.{PutsColumns}
use Rattle.sn_device.specs.States.{Columns, HasLocal, IsSound, columns}
use Rattle.sn_device.specs.Steps.{drafted}
use Rattle.sn_world.specs.World.{OnDevice, World}

-- ---- the drafts after an edit

abbrev pub with_latest : Content → Draft → Draft
with_latest latest e = record e { latest = latest }

module _ (s : Ideal) (name uuid kind : Bytes) (base : Option ℕ) (latest : Content) where
  abbrev later : Ideal
  later = after s (Edit name uuid kind base latest)

  abbrev new_draft : Draft
  new_draft = record { device = name; uuid = uuid; kind = kind; base = base; latest = latest; posted = None }

  found_none : draft_at s name uuid ≡ None → (other item : Bytes) → draft_at later other item ≡ find (is_draft other item) (s.drafts ++ new_draft ∷ [])
  found_none none other item = ap (λ (found : Option Draft). find (is_draft other item) (edited s.drafts name uuid kind base latest found)) none

  found_some : (was : Draft) → draft_at s name uuid ≡ Some was → (other item : Bytes)
      → draft_at later other item ≡ find (is_draft other item) (changed_where (is_draft name uuid) (with_latest latest) s.drafts)
  found_some was some other item = ap (λ (found : Option Draft). find (is_draft other item) (edited s.drafts name uuid kind base latest found)) some

  -- the item's own draft
  pub own_new : draft_at s name uuid ≡ None → draft_at later name uuid ≡ Some new_draft
  own_new none = found_none none name uuid ∙ find_new (is_draft name uuid) s.drafts new_draft none (draft_passes name uuid new_draft refl refl)

  pub own_was : (was : Draft) → draft_at s name uuid ≡ Some was → draft_at later name uuid ≡ Some (with_latest latest was)
  own_was was some = found_some was some name uuid ∙ find_changed (is_draft name uuid) (with_latest latest) (λ x. refl) s.drafts was some

  -- every other one
  pub off_device : (other : Bytes) → other ≢ name → (item : Bytes) → draft_at later other item ≡ draft_at s other item
  off_device other apart item = by (draft_at s name uuid) refl
    where
      by : (found : Option Draft) → draft_at s name uuid ≡ found → draft_at later other item ≡ draft_at s other item
      by None e = found_none e other item ∙ find_past_new (is_draft other item) s.drafts new_draft (not_of_device name other item new_draft apart refl)
      by (Some was) e =
          found_some was e other item
          ∙ find_past_changed (is_draft other item) (is_draft name uuid) (with_latest latest)
          (λ x t. not_of_device name other item x apart (draft_is name uuid x t).0)
          (λ x t. not_of_device name other item (with_latest latest x) apart (draft_is name uuid x t).0) s.drafts

  pub off_item : (item : Bytes) → item ≢ uuid → draft_at later name item ≡ draft_at s name item
  off_item item apart = by (draft_at s name uuid) refl
    where
      by : (found : Option Draft) → draft_at s name uuid ≡ found → draft_at later name item ≡ draft_at s name item
      by None e = found_none e name item ∙ find_past_new (is_draft name item) s.drafts new_draft (not_of_item name uuid item new_draft apart refl)
      by (Some was) e =
          found_some was e name item
          ∙ find_past_changed (is_draft name item) (is_draft name uuid) (with_latest latest)
          (λ x t. not_of_item name uuid item x apart (draft_is name uuid x t).1)
          (λ x t. not_of_item name uuid item (with_latest latest x) apart (draft_is name uuid x t).1) s.drafts

  -- a draft that was sent is as it was sent
  pub sent_before : (other item : Bytes) (e : Draft) (p : Posted) → draft_at later other item ≡ Some e → e.posted ≡ Some p
      → (was : Draft) × (draft_at s other item ≡ Some was) × (was.posted ≡ Some p) × (was.uuid ≡ e.uuid) × (was.base ≡ e.base)
  sent_before other item e p at sent = by (bytes_eq other name) refl (bytes_eq item uuid) refl
    where
      as_was : (draft_at later other item ≡ draft_at s other item)
          → (was : Draft) × (draft_at s other item ≡ Some was) × (was.posted ≡ Some p) × (was.uuid ≡ e.uuid) × (was.base ≡ e.base)
      as_was same = (e, sym same ∙ at, sent, refl, refl)

      own : draft_at later name uuid ≡ Some e → (found : Option Draft) → draft_at s name uuid ≡ found
          → (was : Draft) × (draft_at s name uuid ≡ Some was) × (was.posted ≡ Some p) × (was.uuid ≡ e.uuid) × (was.base ≡ e.base)
      own here None none =
          let same : new_draft ≡ e = one_there new_draft e (draft_at later name uuid) (own_new none) here in
          let unsent : None ≡ Some p = ap (λ (z : Draft). z.posted) same ∙ sent in
          absurd (cc)
      own here (Some was) some =
          let same : with_latest latest was ≡ e = one_there (with_latest latest was) e (draft_at later name uuid) (own_was was some) here in
          (was, some, ap (λ (z : Draft). z.posted) same ∙ sent, ap (λ (z : Draft). z.uuid) same, ap (λ (z : Draft). z.base) same)

      by : (q : Bool) → bytes_eq other name ≡ q → (r : Bool) → bytes_eq item uuid ≡ r
          → (was : Draft) × (draft_at s other item ≡ Some was) × (was.posted ≡ Some p) × (was.uuid ≡ e.uuid) × (was.base ≡ e.base)
      by false off r k = as_was (off_device other (λ same. clash (bytes_eq other name) (text_same other name same) off) item)
      by true same false off =
          let name_is : other ≡ name = same_text other name same in
          let apart : item ≢ uuid = λ is. clash (bytes_eq item uuid) (text_same item uuid is) off in
          as_was (subst (λ (o : Bytes). draft_at later o item ≡ draft_at s o item) (sym name_is) (off_item item apart))
      by true same true is =
          let name_is : other ≡ name = same_text other name same in
          let item_is : item ≡ uuid = same_text item uuid is in
          let here : draft_at later name uuid ≡ Some e =
          subst (λ (o : Bytes). draft_at later o uuid ≡ Some e) name_is (subst (λ (u : Bytes). draft_at later other u ≡ Some e) item_is at) in
          let found = own here (draft_at s name uuid) refl in
          (found.0, ap (λ (o : Bytes). draft_at s o item) name_is ∙ ap (λ (u : Bytes). draft_at s name u) item_is ∙ found.1, found.2, found.3, found.4)

  pub on_same : (b : Account) (item : Bytes) (on : Option ℕ) → IsOnLast later b item on → IsOnLast s b item on
  on_same b item None last = last
  on_same b item (Some stamp) last = last

-- ---- a row with another draft

-- it stands on what it stood on
base_again : (a : Account) (g : ℕ) (local new : LocalItem) (base : Option ℕ) (latest : RowBody) → new.uuid ≡ local.uuid → new.kind ≡ local.kind
    → new.body ≡ local.body → new.stale ≡ local.stale → new.latest ≡ Some latest → ShowsBase a g local base → ShowsBase a g new base
base_again a g local new None latest uuid kind same stale is h = (same ∙ h.0, subst (λ (o : Option RowBody). IsSome o) (sym is) refl)
base_again a g local new (Some stamp) latest uuid kind same stale is h =
    let l : ListsBase a local stamp = h.listed in
    record {
      listed = record {
        version = l.version;
        among = l.among;
        item_is = l.item_is ∙ sym uuid;
        kind_is = l.kind_is ∙ sym kind;
        stamp_is = l.stamp_is;
        strings = l.strings;
        body_is = same ∙ l.body_is;
        text = l.text;
        number = l.number;
        live = l.live;
      };
      opens = subst (λ (b : Bool). OpensBase a.sets g l.number new.uuid l.strings l.text b) (sym stale)
          (subst (λ (u : Bytes). OpensBase a.sets g l.number u l.strings l.text local.stale) (sym uuid) h.opens);
    }

one_live : (uuid kind : Bytes) (stamp : ℕ) (v : Version) (vs : List Version) → One (λ (x : Version). x ≡ v) vs → IsLiveAt uuid kind stamp v
    → One (IsLiveAt uuid kind stamp) vs
one_live uuid kind stamp v [] one is = one
one_live uuid kind stamp v (x ∷ vs) one is =
    ⊎_elim (λ (e : x ≡ v). inl (subst (λ (y : Version). IsLiveAt uuid kind stamp y) (sym e) is)) (λ rest. inr (one_live uuid kind stamp v vs rest is)) one

-- what a row stands on is an undeleted version of its item and type
pub has_live : (a : Account) (g : ℕ) (local : LocalItem) (stamp : ℕ) → IsBase a g local stamp → HasLive a local.uuid local.kind stamp
has_live a g local stamp h =
    let l : ListsBase a local stamp = h.listed in
    one_live local.uuid local.kind stamp l.version a.versions l.among
    (record { item = l.item_is; kind_is = l.kind_is; stamp_is = l.stamp_is; live = subst (λ (b : Body). IsLive b) (sym l.live) tt })

module _ (secret : Bytes) (w next : World) (s : Ideal) (h : Holds secret w s) (name : Bytes) (number : ℕ) (local : LocalItem)
    (stands : HasLocal (w.devices name) number local) (latest : RowBody) (text : Content) (change : Change)
    (puts : PutsColumns change number (drafted (Some latest) (columns local))) where
  abbrev rows : Rows
  rows = rows_after (w.devices name) (change ∷ [])

  abbrev new : LocalItem
  new = puts.local

  own : (d : Device) × (a : Account) × HasAccount s name d a
  own = holder_from (w.devices name) s name (key.Local number) (value.Local local) (h.devices name) stands

  abbrev d : Device
  d = own.0

  abbrev a : Account
  a = own.1

  abbrev has : HasAccount s name d a
  has = own.2

  abbrev move : Move
  move = Edit name local.uuid local.kind local.base text

  abbrev then : Ideal
  then = after s move

  holder : ShowsHolder (w.devices name) s name d a
  holder = holder_of (w.devices name) s name d a (h.devices name) has

  shown : ShowsLocal s name (greatest 0 d.held) a local
  shown = holder.locals number local stands

  uuid_is : new.uuid ≡ local.uuid
  uuid_is = ap (λ (c : Columns). c.uuid) puts.columns_are

  kind_is : new.kind ≡ local.kind
  kind_is = ap (λ (c : Columns). c.kind) puts.columns_are

  base_is : new.base ≡ local.base
  base_is = ap (λ (c : Columns). c.base) puts.columns_are

  body_is : new.body ≡ local.body
  body_is = ap (λ (c : Columns). c.body) puts.columns_are

  stale_is : new.stale ≡ local.stale
  stale_is = ap (λ (c : Columns). c.stale) puts.columns_are

  latest_is : new.latest ≡ Some latest
  latest_is = ap (λ (c : Columns). c.latest) puts.columns_are

  posted_is : new.posted ≡ local.posted
  posted_is = ap (λ (c : Columns). c.posted) puts.columns_are

  module _ (content_is : ShowsContent a.sets (greatest 0 d.held) local.uuid latest text) (allowed : IsAllowed s move) (sound : IsSound rows)
      (older : StaleOf rows s name) (on : OnDevice w next name (change ∷ [])) where
    legal : IsTrue (allows s move)
    legal = allowed_to s move allowed

    content_new : ShowsContent a.sets (greatest 0 d.held) new.uuid latest text
    content_new = subst (λ (u : Bytes). ShowsContent a.sets (greatest 0 d.held) u latest text) (sym uuid_is) content_is

    new_drafted : (found : Option Draft) → draft_at s name local.uuid ≡ found → ShowsDrafted a.sets (greatest 0 d.held) local found
        → ShowsDrafted a.sets (greatest 0 d.held) new (draft_at then name local.uuid)
    new_drafted None e k =
        subst (λ (o : Option Draft). ShowsDrafted a.sets (greatest 0 d.held) new o) (sym (own_new s name local.uuid local.kind local.base text e))
        (record {
          kind = kind_is;
          base = base_is;
          latest = latest;
          latest_is = latest_is;
          content = content_new;
          posted = subst (λ (o : Option RowBody). ShowsPosted a.sets (greatest 0 d.held) new.uuid o None) (sym (posted_is ∙ k.1)) tt;
        })
    new_drafted (Some was) e k =
        subst (λ (o : Option Draft). ShowsDrafted a.sets (greatest 0 d.held) new o) (sym (own_was s name local.uuid local.kind local.base text was e))
        (record {
          kind = kind_is ∙ k.kind;
          base = base_is ∙ k.base;
          latest = latest;
          latest_is = latest_is;
          content = content_new;
          posted = subst (λ (o : Option RowBody). ShowsPosted a.sets (greatest 0 d.held) new.uuid o was.posted) (sym posted_is)
              (subst (λ (u : Bytes). ShowsPosted a.sets (greatest 0 d.held) u local.posted was.posted) (sym uuid_is) k.posted);
        })

    is_put : IsPut (w.devices name) s then name (greatest 0 d.held) a change number new
    is_put = record {
      puts = puts.puts;
      shown = record {
        draft = subst (λ (u : Bytes). ShowsDrafted a.sets (greatest 0 d.held) new (draft_at then name u)) (sym uuid_is)
            (new_drafted (draft_at s name local.uuid) refl shown.draft);
        base = subst (λ (b : Option ℕ). ShowsBase a (greatest 0 d.held) new b) (sym base_is)
            (base_again a (greatest 0 d.held) local new local.base latest uuid_is kind_is body_is stale_is latest_is shown.base);
      };
      own = λ was e. ap (λ (l : LocalItem). l.uuid) (one_local was local (w.devices name (key.Local number)) e stands) ∙ sym uuid_is;
      apart = λ other it e differs same. differs (holder.once number other local it stands e (sym (same ∙ uuid_is)));
      others = λ item apart. off_item s name local.uuid local.kind local.base text item (λ e. apart (e ∙ sym uuid_is));
    }

    shows : ShowsDevice rows then name
    shows =
        shows_of rows then name d a (record { device = has.device; account = has.account })
        (put_holder (w.devices name) s then name d a change number new is_put holder)

    numbers : (other : Bytes) → NumbersOf then other
    numbers other e b of item draft at p is =
        let was = sent_before s name local.uuid local.kind local.base text other item draft p at is in
        let its = h.numbers other e b (record { device = of.device; account = of.account }) item was.0 was.1 p was.2 in (
          its.0,
          its.1,
          λ last. its.2 (on_same s name local.uuid local.kind local.base text b was.0.uuid was.0.base
              (subst (λ (u : Bytes). IsOnLast then b u was.0.base) (sym was.3) (subst (λ (o : Option ℕ). IsOnLast then b draft.uuid o) (sym was.4) last))),
        )

    frame : DeviceFrame secret w rows s then name
    frame = record {
      pulls = pulls_kept (w.devices name) rows s.accounts (device_named s name)
          (alike_row (w.devices name) change number local new stands puts.puts uuid_is base_is) (h.bases_pulled name) (h.pulled name);
      reached = reached_more s move h.reached legal;
      accounts = refl;
      others = λ other off. refl;
      shows = shows;
      shows_others = λ at other off k. shows_alike at s then other refl (λ identifier. refl) (off_device s name local.uuid local.kind local.base text other off) k;
      sound = sound;
      older_stale = λ e b of. older e b (record { device = of.device; account = of.account });
      numbers = numbers;
      sync_tokens = sync_tokens_same (w.devices name) rows (greatest 0 (stamps_in s.accounts)) (owner_past (w.devices name) change number (value.Local new) puts.puts) (h.sync_tokens name);
      own_token = λ e named. token_same secret (w.devices name) rows s.accounts e (owner_past (w.devices name) change number (value.Local new) puts.puts) (h.own_tokens name e named);
      tokens = λ t k. k;
      live = λ t n tok session i k.
          live_kept (w.devices name) rows
          (posted_put (w.devices name) change number new puts.puts
          (λ was there some.
          let same : was ≡ local = one_local was local (w.devices name (key.Local number)) there stands in
          subst (λ (l : LocalItem). (new.uuid ≡ l.uuid) × (new.kind ≡ l.kind) × (new.base ≡ l.base) × (new.posted ≡ l.posted)) (sym same)
          (uuid_is, kind_is, base_is, posted_is)))
          (w.server (key.Item i.uuid)) s.accounts n i k;
    }

    edited_so : KeptBy secret next s (move ∷ [])
    edited_so = ((legal, tt), device_kept secret w next s then name (change ∷ []) h on frame)

-- where the content is the row's, and the move is allowed
pub edit_kept : (secret : Bytes) (w next : World) (s : Ideal) → Holds secret w s → (name : Bytes) (number : ℕ) (local : LocalItem)
    → HasLocal (w.devices name) number local → (latest : RowBody) (text : Content) (change : Change) → PutsColumns change number (drafted (Some latest) (columns local))
    → IsSound (rows_after (w.devices name) (change ∷ [])) → StaleOf (rows_after (w.devices name) (change ∷ [])) s name → OnDevice w next name (change ∷ [])
    → ((d : Device) (a : Account) → HasAccount s name d a → ShowsLocal s name (greatest 0 d.held) a local
    → ShowsContent a.sets (greatest 0 d.held) local.uuid latest text × IsAllowed s (Edit name local.uuid local.kind local.base text))
    → KeptBy secret next s (Edit name local.uuid local.kind local.base text ∷ [])
edit_kept secret w next s h name number local stands latest text change puts sound older on f =
    let of = own secret w next s h name number local stands latest text change puts in
    let both = f of.0 of.1 of.2 (shown secret w next s h name number local stands latest text change puts) in
    edited_so secret w next s h name number local stands latest text change puts both.0 both.1 sound older on

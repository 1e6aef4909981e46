-- A new item that is put keeps the invariant.
use Rattle.std.proofs.Common.{◌≡◌, ℕ, List, [], ◌∷◌, ◌++◌, Option, Some, None, Bool, true, false, refl, sym, ap, ◌∙◌, subst}
use Rattle.std.specs.Prelude.{◌&&◌, IsTrue, find}
use Rattle.std.specs.Str.{bytes_eq}
use Rattle.rand_chacha.specs.ChaCha.{ChaCha}
use Rattle.sn_laws.proofs.Facts.{allowed_to, one_there, same_text}
use Rattle.sn_laws.specs.Lookups.{Bytes, device_named, draft_at, is_draft, greatest}
use Rattle.sn_laws.specs.Moves.{after, allows, edited}
use Rattle.sn_laws.specs.Relation.{IsOnLast}
use Rattle.sn_laws.specs.declared.ideal.Account.{Account}
use Rattle.sn_laws.specs.declared.ideal.Content.TheVariants as content
use Rattle.sn_laws.specs.declared.ideal.Device.{Device}
use Rattle.sn_laws.specs.declared.ideal.Draft.{Draft}
use Rattle.sn_laws.specs.declared.ideal.Ideal.{Ideal}
use Rattle.sn_laws.specs.declared.ideal.Posted.{Posted}
use Rattle.sn_laws.specs.declared.moves.Move.TheVariants.{Edit}
use Rattle.sn_rows.specs.Facts.{second_put}
use Rattle.sn_rows.specs.Table.{Rows, rows_after}
use Rattle.sn_rows.specs.declared.change.Change.{Change}
use Rattle.sn_rows.specs.declared.device_rows.LocalItem.{LocalItem}
use Rattle.sn_rows.specs.declared.device_rows.OwnerRow.{OwnerRow}
use Rattle.sn_rows.specs.declared.key.Key.TheVariants as key
use Rattle.sn_rows.specs.declared.value.Value.TheVariants as value
use Rattle.sn_shows.proofs.Facts.{find_new, find_past_new, holder_of}
use Rattle.sn_shows.specs.Devices.{ShowsDevice, ShowsHolder}
use Rattle.sn_shows.specs.Laws.{EditKeeps, EditedShows, HasAccount, TokensShow}
use Rattle.sn_shows.specs.Servers.{stamps_in}
use Rattle.sn_world.proofs.DeviceRows.{local_past, one_owner, posted_both, posted_put, posted_same, puts_new, sync_tokens_kept}
use Rattle.sn_world.proofs.DeviceSets.{account_is, free_undrafted, identifier_of, next_is_free, present_at}
use Rattle.sn_world.proofs.Frames.{DeviceFrame, KeepsPosted, device_kept, live_kept}
use Rattle.sn_world.proofs.Pulls.{alike_put, pulls_kept, stays_both, stays_put, stays_same}
use Rattle.sn_world.proofs.ShowsLemmas.{holder_from}
use Rattle.sn_world.proofs.Steps.{reached_more}
use Rattle.sn_world.specs.Holds.{DeviceToken, Holds, NumbersOf, StaleOf}
use Rattle.sn_world.specs.Laws.{KeptBy}
use Rattle.sn_device.specs.States.{Columns, IsSound, OwnerColumns}
use Rattle.sn_device.specs.Steps.{PutsNew}
use Rattle.sn_world.specs.World.{OnDevice, World}

pub and_true : (a b : Bool) → (a && b) ≡ true → (a ≡ true) × (b ≡ true)
and_true true b e = (refl, e)
and_true false b e = absurd (cc)

no_stamp : (stamp : ℕ) → None ≡ Some stamp → ⊥
no_stamp stamp e = cc

undrafted : (found : Option Draft) (draft : Draft) → found ≡ None → found ≡ Some draft → ⊥
undrafted found draft e k = cc

module _ (edit_law : EditedShows) (tokens_law : TokensShow) (keeps : EditKeeps) (secret : Bytes) (w next : World) (s : Ideal) (h : Holds secret w s) (name : Bytes)
    (words left : ChaCha) (uuid kind text : Bytes) (changes : List Change) (x : PutsNew (w.devices name) words uuid kind text changes left)
    (sound : IsSound (rows_after (w.devices name) (x.item ∷ x.counted ∷ []))) (older : StaleOf (rows_after (w.devices name) (x.item ∷ x.counted ∷ [])) s name)
    (on : OnDevice w next name changes) where
  abbrev before : Rows
  before = w.devices name

  abbrev mid : Rows
  mid = rows_after before (x.item ∷ [])

  abbrev rows : Rows
  rows = rows_after before (x.item ∷ x.counted ∷ [])

  abbrev later : Ideal
  later = after s (Edit name uuid kind None (content.Plain text))

  abbrev local : LocalItem
  local = x.item_is.local

  abbrev new : OwnerRow
  new = x.counted_is.owner

  own : (d : Device) × (a : Account) × HasAccount s name d a
  own = holder_from before s name key.Owner (value.Owner x.owner) (h.devices name) x.holds.owned

  abbrev d : Device
  d = own.0

  abbrev a : Account
  a = own.1

  abbrev has : HasAccount s name d a
  has = own.2

  holder : ShowsHolder before s name d a
  holder = holder_of before s name d a (h.devices name) has

  none : draft_at s name uuid ≡ None
  none = free_undrafted before s name d a uuid holder x.fresh.fresh

  pub legal : IsTrue (allows s (Edit name uuid kind None (content.Plain text)))
  legal =
      allowed_to s (Edit name uuid kind None (content.Plain text))
      (record {
        account = a;
        has = account_is s name d a has;
        short = x.content.0;
        object = x.content.1;
        new = λ e stamp is. absurd (no_stamp stamp is);
        there = λ draft e. absurd (undrafted (draft_at s name uuid) draft none e);
      })

  item_shown : ShowsDevice mid later name
  item_shown =
      edit_law before s name uuid kind text x.owner.next d a x.item (h.devices name) has
      (record {
        free = next_is_free before x.owner (h.sound name) x.holds.owned;
        other = λ number item stands is. x.fresh.fresh number item (stands, is);
      })
      (puts_new x.item x.owner.next a.sets (greatest 0 d.held) uuid kind text x.strings x.item_is
      (record { set = x.sets.present; at = present_at before s name d a x.owner x.sets holder x.holds; opens = x.seals.opens }))

  shown : ShowsDevice rows later name
  shown =
      tokens_law mid later name d a x.counted item_shown (record { device = has.device; account = has.account })
      (record {
        row = new;
        puts = x.counted_is.puts_it;
        identifier = ap (λ (c : OwnerColumns). c.identifier) x.counted_is.columns_are ∙ identifier_of before s name d a x.owner holder x.holds.owned;
      })

  abbrev draft : Draft
  draft = record { device = name; uuid = uuid; kind = kind; base = None; latest = content.Plain text; posted = None }

  found_is : (other item : Bytes) → draft_at later other item ≡ find (is_draft other item) (s.drafts ++ draft ∷ [])
  found_is other item =
      ap (λ (found : Option Draft). find (is_draft other item) (edited s.drafts name uuid kind None (content.Plain text) found)) none

  on_same : (b : Account) (item : Bytes) (base : Option ℕ) → IsOnLast later b item base → IsOnLast s b item base
  on_same b item None last = last
  on_same b item (Some stamp) last = last

  -- a draft that was sent was there before
  sent_before : (other item : Bytes) (e : Draft) (p : Posted) → draft_at later other item ≡ Some e → e.posted ≡ Some p → draft_at s other item ≡ Some e
  sent_before other item e p at is = by (is_draft other item draft) refl
    where
      by : (b : Bool) → is_draft other item draft ≡ b → draft_at s other item ≡ Some e
      by false off = sym (find_past_new (is_draft other item) s.drafts draft off) ∙ sym (found_is other item) ∙ at
      by true passes =
          let first = and_true (bytes_eq name other) (bytes_eq uuid item) passes in
          let other_is : name ≡ other = same_text name other first.0 in
          let item_is : uuid ≡ item = same_text uuid item first.1 in
          let empty : find (is_draft other item) s.drafts ≡ None =
          subst (λ (o : Bytes). draft_at s o item ≡ None) other_is (subst (λ (u : Bytes). draft_at s name u ≡ None) item_is none) in
          let same : draft ≡ e = one_there draft e (draft_at later other item)
          (found_is other item ∙ find_new (is_draft other item) s.drafts draft empty passes) at in
          let unsent : e.posted ≡ None = ap (λ (z : Draft). z.posted) (sym same) in
          absurd (cc)

  numbers : (other : Bytes) → NumbersOf later other
  numbers other e b of item dr at p is =
      let its = h.numbers other e b (record { device = of.device; account = of.account }) item dr (sent_before other item dr p at is) p is in
      (its.0, its.1, λ last. its.2 (on_same b dr.uuid dr.base last))

  here : rows key.Owner ≡ Some (value.Owner new)
  here = second_put before x.item x.counted key.Owner (value.Owner new) x.counted_is.puts_it

  keeps_posted : KeepsPosted before rows
  keeps_posted =
      posted_both before mid rows
      (posted_put before x.item x.owner.next local x.item_is.puts
      (λ was stands some. let free = next_is_free before x.owner (h.sound name) x.holds.owned in absurd (cc)))
      (posted_same mid rows (local_past mid x.counted (value.Owner new) x.counted_is.puts_it))

  token_after : (e : Device) → device_named later name ≡ Some e → DeviceToken secret rows s.accounts e
  token_after e named =
      let was = h.own_tokens name e named in
      let same : x.owner ≡ was.owner = one_owner x.owner was.owner (before key.Owner) x.holds.owned was.has in
      record {
        owner = new;
        has = here;
        number = was.number;
        account = was.account;
        at = was.at;
        own = was.own;
        uuid_is = ap (λ (c : OwnerColumns). c.account) x.counted_is.columns_are ∙ ap (λ (o : OwnerRow). o.account) same ∙ was.uuid_is;
        is = ap (λ (c : OwnerColumns). c.token) x.counted_is.columns_are ∙ ap (λ (o : OwnerRow). o.token) same ∙ was.is;
      }

  frame : DeviceFrame secret w rows s later name
  frame = record {
    pulls = pulls_kept before rows s.accounts (device_named s name)
        (record {
          stays = λ item.
              stays_both before mid rows item
              (stays_put before x.item x.owner.next local item x.item_is.puts
              (λ was stands own. let free = next_is_free before x.owner (h.sound name) x.holds.owned in absurd (cc))
              (λ own none. ap (λ (c : Columns). c.base) x.item_is.columns_are))
              (stays_same mid rows (local_past mid x.counted (value.Owner new) x.counted_is.puts_it) item);
          token = alike_put before rows x.owner new x.holds.owned here (ap (λ (c : OwnerColumns). c.sync_token) x.counted_is.columns_are);
        }) (h.bases_pulled name) (h.pulled name);
    reached = reached_more s (Edit name uuid kind None (content.Plain text)) h.reached legal;
    accounts = refl;
    others = λ other off. refl;
    shows = shown;
    shows_others = λ at other off k. keeps at s name other uuid kind text off none k;
    sound = sound;
    older_stale = λ e b of. older e b (record { device = of.device; account = of.account });
    numbers = numbers;
    own_token = token_after;
    sync_tokens = sync_tokens_kept before rows (greatest 0 (stamps_in s.accounts)) x.owner new x.holds.owned here
        (ap (λ (c : OwnerColumns). c.sync_token) x.counted_is.columns_are) (ap (λ (c : OwnerColumns). c.cursor_token) x.counted_is.columns_are) (h.sync_tokens name);
    tokens = λ t k. k;
    live = λ t n tok session i k. live_kept before rows keeps_posted (w.server (key.Item i.uuid)) s.accounts n i k;
  }

  pub put_so : KeptBy secret next s (Edit name uuid kind None (content.Plain text) ∷ [])
  put_so = (
    (legal, tt),
    device_kept secret w next s later name (x.item ∷ x.counted ∷ []) h (subst (λ (c : List Change). OnDevice w next name c) x.changes_are on) frame,
  )

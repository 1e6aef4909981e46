-- An item's row put new, as sent, and without its draft.
use Rattle.std.proofs.Common.{◌≡◌, ◌≢◌, ℕ, List, [], ◌∷◌, ◌++◌, Option, Some, None, Bool, true, refl, sym, ap, ◌∙◌, subst}
use Rattle.std.specs.Prelude.{IsSome, find}
use Rattle.sn_laws.specs.Lookups.{Bytes, device_named, draft_at, greatest, held_by, is_draft}
use Rattle.sn_laws.specs.Moves.{after, edited, posted_under, sent_content}
use Rattle.sn_laws.specs.declared.ideal.Account.{Account}
use Rattle.sn_laws.specs.declared.ideal.Content.TheVariants.{Plain}
use Rattle.sn_laws.specs.declared.ideal.Device.{Device}
use Rattle.sn_laws.specs.declared.ideal.Draft.{Draft}
use Rattle.sn_laws.specs.declared.ideal.Ideal.{Ideal}
use Rattle.sn_laws.specs.declared.ideal.Posted.{Posted}
use Rattle.sn_laws.specs.declared.moves.Move.TheVariants.{Edit, Post, Settle}
use Rattle.sn_rows.specs.Table.{Rows, rows_after}
use Rattle.sn_rows.specs.declared.body.RowBody.{RowBody}
use Rattle.sn_rows.specs.declared.body.RowBody.TheVariants as body
use Rattle.sn_rows.specs.declared.change.Change.{Change}
use Rattle.sn_rows.specs.declared.device_rows.LocalItem.{LocalItem}
use Rattle.sn_rows.specs.declared.key.Key.TheVariants as key
use Rattle.sn_rows.specs.declared.value.Value.TheVariants as value
use Rattle.sn_sets.specs.Sets.{sealed_of}
use Rattle.sn_string.specs.declared.params.KeySet.{KeySet}
use Rattle.sn_shows.specs.Sets.{OpensUnder}
use Rattle.sn_shows.specs.Devices.{HasRow, ListsBase, OpensBase, ShowsBase, ShowsContent, ShowsDevice, ShowsDraft, ShowsDrafted, ShowsHolder, ShowsLocal, ShowsPosted}
use Rattle.sn_shows.specs.Laws.{EditedShows, HasAccount, IsNewAt, PostedShows, PutsItem, PutsPosted, PutsSettled, SettledShows}
use Rattle.sn_shows.proofs.DeviceItems.{IsPut, put_holder}
use Rattle.sn_shows.proofs.DeviceLookups.{find_changed, find_new, find_past_changed, find_past_new, find_past_without, find_without}
use Rattle.sn_shows.proofs.DeviceStates.{draft_is, draft_passes, holder_from, holder_of, not_of_item, shows_of}

-- a new item

no_draft : (rows : Rows) (s : Ideal) (name uuid : Bytes) (local : ℕ) (d : Device) (a : Account) → ShowsHolder rows s name d a → IsNewAt rows local uuid
    → draft_at s name uuid ≡ None
no_draft rows s name uuid local d a h new = at (draft_at s name uuid) refl
  where
    at : (found : Option Draft) → draft_at s name uuid ≡ found → found ≡ None
    at None e = refl
    at (Some draft) e = let row : HasRow rows uuid = h.drafts uuid draft e in absurd (new.other row.number row.item row.stands row.item_is)

module _ (rows : Rows) (s : Ideal) (name uuid kind text : Bytes) (local : ℕ) (d : Device) (a : Account) (change : Change) where
  abbrev edit_next : Ideal
  edit_next = after s (Edit name uuid kind None (Plain text))

  abbrev new_draft : Draft
  new_draft = record { device = name; uuid = uuid; kind = kind; base = None; latest = Plain text; posted = None }

  edit_found : (other : Bytes) → draft_at s name uuid ≡ None → draft_at edit_next name other ≡ find (is_draft name other) (s.drafts ++ new_draft ∷ [])
  edit_found other none = ap (λ (found : Option Draft). find (is_draft name other) (edited s.drafts name uuid kind None (Plain text) found)) none

  new_local : draft_at s name uuid ≡ None → (p : PutsItem change local a.sets (greatest 0 d.held) uuid kind text)
      → ShowsLocal edit_next name (greatest 0 d.held) a p.item
  new_local none p =
      let passes : is_draft name p.item.uuid new_draft ≡ true = draft_passes name p.item.uuid new_draft refl (sym p.uuid_is) in
      let before : find (is_draft name p.item.uuid) s.drafts ≡ None = subst (λ (u : Bytes). draft_at s name u ≡ None) (sym p.uuid_is) none in
      let found : draft_at edit_next name p.item.uuid ≡ Some new_draft =
      edit_found p.item.uuid none ∙ find_new (is_draft name p.item.uuid) s.drafts new_draft before passes in
      let shown : ShowsDraft a.sets (greatest 0 d.held) p.item new_draft =
      record {
        kind = p.kind_is;
        base = p.base;
        latest = body.Sealed p.strings;
        latest_is = p.latest;
        content = subst (λ (u : Bytes). OpensUnder a.sets (greatest 0 d.held) u (sealed_of p.strings) text) (sym p.uuid_is) p.opens;
        posted = subst (λ (o : Option RowBody). ShowsPosted a.sets (greatest 0 d.held) p.item.uuid o None) (sym p.posted) tt;
      } in
      let has : IsSome p.item.latest = subst (λ (o : Option RowBody). IsSome o) (sym p.latest) refl in
      record {
        draft = subst (λ (o : Option Draft). ShowsDrafted a.sets (greatest 0 d.held) p.item o) (sym found) shown;
        base = subst (λ (o : Option ℕ). ShowsBase a (greatest 0 d.held) p.item o) (sym p.base) (p.no_body, has);
      }

  new_put : draft_at s name uuid ≡ None → IsNewAt rows local uuid → (p : PutsItem change local a.sets (greatest 0 d.held) uuid kind text)
      → IsPut rows s edit_next name (greatest 0 d.held) a change local p.item
  new_put none new p =
      record {
        puts = p.puts;
        shown = new_local none p;
        own = λ was e. let free : rows (key.Local local) ≡ None = new.free in absurd (cc);
        apart = λ other it e differs same. new.other other it e (same ∙ p.uuid_is);
        others = λ other differs.
            edit_found other none
            ∙ find_past_new (is_draft name other) s.drafts new_draft (not_of_item name uuid other new_draft (λ e. differs (e ∙ sym p.uuid_is)) refl);
      }

  edited_so : ShowsDevice rows s name → HasAccount s name d a → IsNewAt rows local uuid → PutsItem change local a.sets (greatest 0 d.held) uuid kind text
      → ShowsDevice (rows_after rows (change ∷ [])) edit_next name
  edited_so h has new p =
      let holder : ShowsHolder rows s name d a = holder_of rows s name d a h has in
      let none : draft_at s name uuid ≡ None = no_draft rows s name uuid local d a holder new in
      shows_of (rows_after rows (change ∷ [])) edit_next name d a (record { device = has.device; account = has.account })
      (put_holder rows s edit_next name d a change local p.item (new_put none new p) holder)

pub edited_shows : EditedShows
edited_shows = edited_so

-- a row put again under its number is of the same item

pub own_again : (rows : Rows) (local : ℕ) (item again : LocalItem) → rows (key.Local local) ≡ Some (value.Local item) → again.uuid ≡ item.uuid
    → (was : LocalItem) → rows (key.Local local) ≡ Some (value.Local was) → was.uuid ≡ again.uuid
own_again rows local item again stands same was e =
    let is : was ≡ item = cc in
    ap (λ (x : LocalItem). x.uuid) is ∙ sym same

pub apart_again : (rows : Rows) (s : Ideal) (name : Bytes) (d : Device) (a : Account) (local : ℕ) (item again : LocalItem) → ShowsHolder rows s name d a
    → rows (key.Local local) ≡ Some (value.Local item) → again.uuid ≡ item.uuid
    → (other : ℕ) (it : LocalItem) → rows (key.Local other) ≡ Some (value.Local it) → local ≢ other → it.uuid ≢ again.uuid
apart_again rows s name d a local item again h stands same other it e differs is =
    differs (h.once local other item it stands e (sym (is ∙ same)))

-- a row as sent

none_sent : (sets : List KeySet) (number : ℕ) (uuid : Bytes) (found : Option RowBody) (posted : Option Posted) → found ≡ None
    → ShowsPosted sets number uuid found posted → posted ≡ None
none_sent sets number uuid None None e h = refl
none_sent sets number uuid None (Some p) e h = absurd h
none_sent sets number uuid (Some b) posted e h = absurd (cc)

-- what a row stands on lies in its uuid, type, body, latest content and whether it was sealed anew
base_again : (a : Account) (number : ℕ) (item again : LocalItem) (base : Option ℕ) → again.uuid ≡ item.uuid → again.kind ≡ item.kind
    → again.body ≡ item.body → again.stale ≡ item.stale → again.latest ≡ item.latest → ShowsBase a number item base → ShowsBase a number again base
base_again a number item again None uuid kind same stale latest h =
    (same ∙ h.0, subst (λ (o : Option RowBody). IsSome o) (sym latest) h.1)
base_again a number item again (Some stamp) uuid kind same stale latest h =
    let l : ListsBase a item stamp = h.listed in
    record {
      listed = record {
        version = l.version;
        among = l.among;
        item_is = l.item_is ∙ sym uuid;
        kind_is = l.kind_is ∙ sym kind;
        stamp_is = l.stamp_is;
        strings = l.strings;
        body_is = same ∙ l.body_is;
        text = l.text;
        number = l.number;
        live = l.live;
      };
      opens = subst (λ (b : Bool). OpensBase a.sets number l.number again.uuid l.strings l.text b) (sym stale)
          (subst (λ (u : Bytes). OpensBase a.sets number l.number u l.strings l.text item.stale) (sym uuid) h.opens);
    }

module _ (rows : Rows) (s : Ideal) (name : Bytes) (local : ℕ) (item : LocalItem) (change : Change) (d : Device) (a : Account) where
  abbrev under : ℕ
  under = greatest 0 (held_by (device_named s name))

  abbrev post_next : Ideal
  post_next = after s (Post name item.uuid)

  sent_draft : (p : PutsPosted change local item) (draft : Draft) → item.posted ≡ None → ShowsDraft a.sets (greatest 0 d.held) item draft
      → ShowsDraft a.sets (greatest 0 d.held) p.sent (posted_under under draft)
  sent_draft p draft unsent h =
      let none : draft.posted ≡ None = none_sent a.sets (greatest 0 d.held) item.uuid item.posted draft.posted unsent h.posted in
      let content : ShowsContent a.sets (greatest 0 d.held) p.sent.uuid h.latest draft.latest =
      subst (λ (u : Bytes). ShowsContent a.sets (greatest 0 d.held) u h.latest draft.latest) (sym p.uuid_is) h.content in
      let shown : ShowsContent a.sets (greatest 0 d.held) p.sent.uuid h.latest (sent_content draft.latest draft.posted) =
      subst (λ (o : Option Posted). ShowsContent a.sets (greatest 0 d.held) p.sent.uuid h.latest (sent_content draft.latest o)) (sym none) content in
      record {
        kind = p.kind_is ∙ h.kind;
        base = p.base ∙ h.base;
        latest = h.latest;
        latest_is = p.latest ∙ h.latest_is;
        content = content;
        posted = subst (λ (o : Option RowBody). ShowsPosted a.sets (greatest 0 d.held) p.sent.uuid o (posted_under under draft).posted)
            (sym (p.posted ∙ h.latest_is)) shown;
      }

  sent_found : (draft : Draft) → draft_at s name item.uuid ≡ Some draft → draft_at post_next name item.uuid ≡ Some (posted_under under draft)
  sent_found draft e = find_changed (is_draft name item.uuid) (posted_under under) (λ x. refl) s.drafts draft e

  sent_drafted : (p : PutsPosted change local item) → item.latest ≢ None → item.posted ≡ None → (found : Option Draft) → draft_at s name item.uuid ≡ found
      → ShowsDrafted a.sets (greatest 0 d.held) item found → ShowsDrafted a.sets (greatest 0 d.held) p.sent (draft_at post_next name p.sent.uuid)
  sent_drafted p some unsent None e h = absurd (some h.0)
  sent_drafted p some unsent (Some draft) e h =
      let found : draft_at post_next name p.sent.uuid ≡ Some (posted_under under draft) =
      subst (λ (u : Bytes). draft_at post_next name u ≡ Some (posted_under under draft)) (sym p.uuid_is) (sent_found draft e) in
      subst (λ (o : Option Draft). ShowsDrafted a.sets (greatest 0 d.held) p.sent o) (sym found) (sent_draft p draft unsent h)

  sent_put : ShowsHolder rows s name d a → rows (key.Local local) ≡ Some (value.Local item) → item.latest ≢ None → item.posted ≡ None
      → (p : PutsPosted change local item) → IsPut rows s post_next name (greatest 0 d.held) a change local p.sent
  sent_put h stands some unsent p =
      let local_shown : ShowsLocal s name (greatest 0 d.held) a item = h.locals local item stands in
      record {
        puts = p.puts;
        shown = record {
          draft = sent_drafted p some unsent (draft_at s name item.uuid) refl local_shown.draft;
          base = subst (λ (o : Option ℕ). ShowsBase a (greatest 0 d.held) p.sent o) (sym p.base)
              (base_again a (greatest 0 d.held) item p.sent item.base p.uuid_is p.kind_is p.same_body p.stale p.latest local_shown.base);
        };
        own = own_again rows local item p.sent stands p.uuid_is;
        apart = apart_again rows s name d a local item p.sent h stands p.uuid_is;
        others = λ other differs.
            find_past_changed (is_draft name other) (is_draft name item.uuid) (posted_under under)
            (λ x e. not_of_item name item.uuid other x (λ k. differs (k ∙ sym p.uuid_is)) (draft_is name item.uuid x e).1)
            (λ x e. not_of_item name item.uuid other (posted_under under x) (λ k. differs (k ∙ sym p.uuid_is)) (draft_is name item.uuid x e).1)
            s.drafts;
      }

  posted_so : ShowsDevice rows s name → HasAccount s name d a → rows (key.Local local) ≡ Some (value.Local item) → item.latest ≢ None → item.posted ≡ None
      → PutsPosted change local item → ShowsDevice (rows_after rows (change ∷ [])) post_next name
  posted_so h has stands some unsent p =
      let holder : ShowsHolder rows s name d a = holder_of rows s name d a h has in
      shows_of (rows_after rows (change ∷ [])) post_next name d a (record { device = has.device; account = has.account })
      (put_holder rows s post_next name d a change local p.sent (sent_put holder stands some unsent p) holder)

pub posted_shows : PostedShows
posted_shows rows s name local item change h stands some unsent p =
    let owned = holder_from rows s name (key.Local local) (value.Local item) h stands in
    posted_so rows s name local item change owned.0 owned.1 h owned.2 stands some unsent p

-- a row without its draft

settled_put : (rows : Rows) (s : Ideal) (name : Bytes) (local : ℕ) (item : LocalItem) (stamp : ℕ) (d : Device) (a : Account) (change : Change)
    → ShowsHolder rows s name d a → rows (key.Local local) ≡ Some (value.Local item) → (p : PutsSettled change local a (greatest 0 d.held) item.uuid stamp)
    → IsPut rows s (after s (Settle name item.uuid)) name (greatest 0 d.held) a change local p.item
settled_put rows s name local item stamp d a change h stands p =
    let gone : draft_at (after s (Settle name item.uuid)) name p.item.uuid ≡ None =
    subst (λ (u : Bytes). draft_at (after s (Settle name item.uuid)) name u ≡ None) (sym p.uuid_is) (find_without (is_draft name item.uuid) s.drafts) in
    record {
      puts = p.puts;
      shown = record {
        draft = subst (λ (o : Option Draft). ShowsDrafted a.sets (greatest 0 d.held) p.item o) (sym gone) (p.latest, p.posted);
        base = subst (λ (o : Option ℕ). ShowsBase a (greatest 0 d.held) p.item o) (sym p.base) p.on;
      };
      own = own_again rows local item p.item stands p.uuid_is;
      apart = apart_again rows s name d a local item p.item h stands p.uuid_is;
      others = λ other differs.
          find_past_without (is_draft name other) (is_draft name item.uuid)
          (λ x e. not_of_item name item.uuid other x (λ k. differs (k ∙ sym p.uuid_is)) (draft_is name item.uuid x e).1) s.drafts;
    }

pub settled_shows : SettledShows
settled_shows rows s name local item stamp d a change h has stands p =
    let holder : ShowsHolder rows s name d a = holder_of rows s name d a h has in
    shows_of (rows_after rows (change ∷ [])) (after s (Settle name item.uuid)) name d a (record { device = has.device; account = has.account })
    (put_holder rows s (after s (Settle name item.uuid)) name d a change local p.item (settled_put rows s name local item stamp d a change holder stands p) holder)

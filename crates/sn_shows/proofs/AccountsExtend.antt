-- What a device's rows show of its account they show of one that extends it: with the same identifier, the sets under their numbers, and all versions.
use Rattle.std.proofs.Common.{◌≡◌, ℕ, List, [], ◌∷◌, ◌++◌, Option, Some, None, Bool, true, false, refl, sym, ap, ◌∙◌, subst, inl, inr, ⊎_elim}
use Rattle.std.specs.Prelude.{cond, find, if◌then◌else◌}
use Rattle.std.specs.Str.{bytes_eq}
use Rattle.sn_items.specs.declared.sealed.Sealed.{Sealed}
use Rattle.sn_laws.specs.Each.{One}
use Rattle.sn_laws.specs.declared.ideal.Account.{Account}
use Rattle.sn_laws.specs.declared.ideal.Content.{Content}
use Rattle.sn_laws.specs.declared.ideal.Content.TheVariants as content
use Rattle.sn_laws.specs.declared.ideal.Device.{Device}
use Rattle.sn_laws.specs.declared.ideal.Draft.{Draft}
use Rattle.sn_laws.specs.declared.ideal.Ideal.{Ideal}
use Rattle.sn_laws.specs.declared.ideal.Posted.{Posted}
use Rattle.sn_laws.specs.declared.ideal.Version.{Version}
use Rattle.sn_laws.specs.Lookups.{Bytes, account_named, draft_at, greatest, is_account}
use Rattle.sn_laws.specs.Moves.{changed_where}
use Rattle.sn_rows.specs.Table.{Rows}
use Rattle.sn_rows.specs.declared.body.RowBody.{RowBody}
use Rattle.sn_rows.specs.declared.body.RowBody.TheVariants as body
use Rattle.sn_rows.specs.declared.body.RowStrings.{RowStrings}
use Rattle.sn_rows.specs.declared.device_rows.LocalItem.{LocalItem}
use Rattle.sn_rows.specs.declared.device_rows.SetRow.{SetRow}
use Rattle.sn_rows.specs.declared.key.Key.TheVariants as key
use Rattle.sn_rows.specs.declared.key.Slot.TheVariants.{Older}
use Rattle.sn_rows.specs.declared.value.Value.{Value}
use Rattle.sn_sets.specs.Sets.{sealed_of}
use Rattle.sn_string.specs.declared.params.KeySet.{KeySet}
use Rattle.sn_shows.specs.Sets.{OpensUnder, set_at}
use Rattle.sn_shows.specs.Devices.{IsBase, IsSetRow, ListsBase, OpensBase, ShowsBase, ShowsContent, ShowsDeviceAs, ShowsDrafted, ShowsHolder, ShowsLocal, ShowsOlder, ShowsPosted}
use Rattle.sn_shows.proofs.ServersLists.{more_sets, set_before}

-- the account `now` has what the account `a` has
pub record Extends (now a : Account) : Type 0 where
  pub same : now.identifier ≡ a.identifier
  pub sets : (number : ℕ) (set : KeySet) → set_at number a.sets ≡ Some set → set_at number now.sets ≡ Some set
  pub versions : (v : Version) → One (λ w. w ≡ v) a.versions → One (λ w. w ≡ v) now.versions

pub extends_self : (a : Account) → Extends a a
extends_self a = record { same = refl; sets = λ number set e. e; versions = λ v one. one }

among_front : (v : Version) (xs ys : List Version) → One (λ (x : Version). x ≡ v) xs → One (λ (x : Version). x ≡ v) (xs ++ ys)
among_front v [] ys one = absurd one
among_front v (x ∷ xs) ys one = ⊎_elim (λ e. inl e) (λ rest. inr (among_front v xs ys rest)) one

pub more_versions : (versions : List Version) (a : Account) → Extends (record a { versions = a.versions ++ versions }) a
more_versions versions a = record { same = refl; sets = λ number set e. e; versions = λ v one. among_front v a.versions versions one }

pub one_more_set : (set : KeySet) (a : Account) → Extends (more_sets set a) a
one_more_set set a = record { same = refl; sets = λ number k e. set_before a.sets set number k e; versions = λ v one. one }

-- what a device's rows show

module _ (now a : Account) (x : Extends now a) where
  opens_kept : (number : ℕ) (uuid : Bytes) (sealed : Sealed) (text : Bytes) → OpensUnder a.sets number uuid sealed text
      → OpensUnder now.sets number uuid sealed text
  opens_kept number uuid sealed text h = record { set = h.set; at = x.sets number h.set h.at; opens = h.opens }

  content_kept : (number : ℕ) (uuid : Bytes) (b : RowBody) (c : Content) → ShowsContent a.sets number uuid b c → ShowsContent now.sets number uuid b c
  content_kept number uuid (body.Sealed strings) (content.Plain text) h = opens_kept number uuid (sealed_of strings) text h
  content_kept number uuid (body.Sealed strings) content.Deleted h = h
  content_kept number uuid body.Deleted (content.Plain text) h = h
  content_kept number uuid body.Deleted content.Deleted h = h

  posted_kept : (number : ℕ) (uuid : Bytes) (b : Option RowBody) (p : Option Posted) → ShowsPosted a.sets number uuid b p
      → ShowsPosted now.sets number uuid b p
  posted_kept number uuid None None h = h
  posted_kept number uuid None (Some p) h = h
  posted_kept number uuid (Some b) None h = h
  posted_kept number uuid (Some b) (Some p) h = content_kept number uuid b p.content h

  drafted_kept : (number : ℕ) (item : LocalItem) (d : Option Draft) → ShowsDrafted a.sets number item d → ShowsDrafted now.sets number item d
  drafted_kept number item None h = h
  drafted_kept number item (Some d) h =
      record {
        kind = h.kind;
        base = h.base;
        latest = h.latest;
        latest_is = h.latest_is;
        content = content_kept number item.uuid h.latest d.latest h.content;
        posted = posted_kept number item.uuid item.posted d.posted h.posted;
      }

  open_kept : (number under : ℕ) (uuid : Bytes) (strings : RowStrings) (text : Bytes) (stale : Bool) → OpensBase a.sets number under uuid strings text stale
      → OpensBase now.sets number under uuid strings text stale
  open_kept number under uuid strings text false h = opens_kept under uuid (sealed_of strings) text h
  open_kept number under uuid strings text true h = (h.0, opens_kept number uuid (sealed_of strings) text h.1)

  base_kept : (number : ℕ) (item : LocalItem) (stamp : ℕ) → IsBase a number item stamp → IsBase now number item stamp
  base_kept number item stamp h =
      let l : ListsBase a item stamp = h.listed in
      record {
        listed = record {
          version = l.version;
          among = x.versions l.version l.among;
          item_is = l.item_is;
          kind_is = l.kind_is;
          stamp_is = l.stamp_is;
          strings = l.strings;
          body_is = l.body_is;
          text = l.text;
          number = l.number;
          live = l.live;
        };
        opens = open_kept number l.number item.uuid l.strings l.text item.stale h.opens;
      }

  stands_kept : (number : ℕ) (item : LocalItem) (base : Option ℕ) → ShowsBase a number item base → ShowsBase now number item base
  stands_kept number item None h = h
  stands_kept number item (Some stamp) h = base_kept number item stamp h

  set_kept : (number : ℕ) (row : SetRow) → IsSetRow a number row → IsSetRow now number row
  set_kept number row h =
      record {
        set = h.set;
        at = x.sets number h.set h.at;
        identifier = h.identifier ∙ sym x.same;
        cost = h.cost;
        nonce = h.nonce;
        pw = h.pw;
        mk = h.mk;
        ak = h.ak;
      }

  older_kept : (found : Option Value) (held : List ℕ) → ShowsOlder a found held → ShowsOlder now found held
  older_kept found [] h = h
  older_kept found (one ∷ []) h = h
  older_kept found (older ∷ present ∷ []) h = (h.0, h.1, set_kept older h.0 h.2)
  older_kept found (one ∷ two ∷ three ∷ rest) h = h

  -- the rows show as much in a state of other accounts
  holder_kept : (rows : Rows) (s : Ideal) (accounts : List Account) (name : Bytes) (d : Device) → ShowsHolder rows s name d a
      → ShowsHolder rows (record s { accounts = accounts }) name d now
  holder_kept rows s accounts name d h =
      record {
        owner = record { owner = h.owner.owner; stands = h.owner.stands; identifier = h.owner.identifier ∙ sym x.same };
        present = record { row = h.present.row; stands = h.present.stands; is = set_kept (greatest 0 d.held) h.present.row h.present.is };
        older = older_kept (rows (key.Set Older)) d.held h.older;
        locals = λ number item at.
            let shown : ShowsLocal s name (greatest 0 d.held) a item = h.locals number item at in
            record {
              draft = drafted_kept (greatest 0 d.held) item (draft_at s name item.uuid) shown.draft;
              base = stands_kept (greatest 0 d.held) item item.base shown.base;
            };
        once = h.once;
        drafts = h.drafts;
        no_other = h.no_other;
      }

-- of each account that is found, one is found that extends it
pub record Found (found : Option Account) (a : Account) : Type 0 where
  pub now : Account
  pub is : found ≡ Some now
  pub grows : Extends now a

pub found_same : (found : Option Account) (a : Account) → found ≡ Some a → Found found a
found_same found a e = record { now = a; is = e; grows = extends_self a }

pub device_kept : (rows : Rows) (s : Ideal) (accounts : List Account) (name : Bytes) (d : Option Device)
    → ((identifier : Bytes) (a : Account) → account_named s identifier ≡ Some a → Found (find (is_account identifier) accounts) a)
    → ShowsDeviceAs rows s name d → ShowsDeviceAs rows (record s { accounts = accounts }) name d
device_kept rows s accounts name None found h = record { none = h.none; no_draft = h.no_draft }
device_kept rows s accounts name (Some d) found h =
    let next : Found (find (is_account d.account) accounts) h.0 = found d.account h.0 h.1 in
    (next.now, next.is, holder_kept next.now h.0 next.grows rows s accounts name d h.2)

-- where some accounts are changed, each so that it extends what it was

found_one : (f : Account → Account) → ((a : Account) → Extends (f a) a) → (q : Bool) (a : Account) → Found (Some (if q then f a else a)) a
found_one f grows true a = record { now = f a; is = refl; grows = grows a }
found_one f grows false a = found_same (Some a) a refl

pub found_changed : (p : Account → Bool) (f : Account → Account) → ((a : Account) → Extends (f a) a) → (identifier : Bytes) (xs : List Account) (a : Account)
    → find (is_account identifier) xs ≡ Some a → Found (find (is_account identifier) (changed_where p f xs)) a
found_changed p f grows identifier [] a h = absurd (cc)
found_changed p f grows identifier (x ∷ xs) a h =
    subst (λ (q : Bool). Found (cond q (Some (if p x then f x else x)) (find (is_account identifier) (changed_where p f xs))) a)
    (sym (named (p x))) (at (λ e. found_changed p f grows identifier xs a e) (is_account identifier x) h)
  where
    named : (q : Bool) → is_account identifier (if q then f x else x) ≡ is_account identifier x
    named true = ap (λ (i : Bytes). bytes_eq i identifier) (grows x).same
    named false = refl

    at : (find (is_account identifier) xs ≡ Some a → Found (find (is_account identifier) (changed_where p f xs)) a)
        → (q : Bool) → cond q (Some x) (find (is_account identifier) xs) ≡ Some a
        → Found (cond q (Some (if p x then f x else x)) (find (is_account identifier) (changed_where p f xs))) a
    at rest true e =
        let same : x ≡ a = cc in
        subst (λ (y : Account). Found (Some (if p x then f x else x)) y) same (found_one f grows (p x) x)
    at rest false e = rest e

-- What the honest server answers passes each of a device's checks, and its tokens are short, also where rows are sent that are sealed again.
use Rattle.std.proofs.Common.{◌≡◌, ◌⊎◌, ◌<◌, ◌≤◌, ℕ, List, length, map, Option, Some, None, true, refl, sym, ap, ◌∙◌, subst, inl, inr, ⊎_elim, arith}
use Rattle.std.specs.List.{Contains}
use Rattle.sn_account.specs.Lookups.{HasItem}
use Rattle.sn_account.specs.Sound.{IsSound as IsSoundServer}
use Rattle.sn_account.specs.Tells.{IsOthers, IsSavedOf, TellsConflict}
use Rattle.sn_device.specs.Runs.{HasLongToken}
use Rattle.sn_device.specs.Sending.{SaysBase, first_some, message_body, IsSentAs}
use Rattle.sn_device.specs.States.{HasLocal}
use Rattle.sn_conflict.specs.Checks.{AreStringsOf, HasConflictOf, HasItsStrings, IsConflict, IsNew, IsRetrieved, IsSaved, MayGoOn, Passes}
use Rattle.sn_conflict.specs.Lists.{AllRight}
use Rattle.sn_items.specs.Items.{OpensItem}
use Rattle.sn_items.specs.declared.sealed.Sealed.{Sealed}
use Rattle.sn_laws.specs.Each.{Each}
use Rattle.sn_laws.specs.Laws.{Rises, VersionsRise}
use Rattle.sn_laws.specs.Lookups.{Bytes, greatest}
use Rattle.sn_laws.specs.declared.ideal.Account.{Account}
use Rattle.sn_laws.specs.declared.ideal.Device.{Device}
use Rattle.sn_laws.specs.declared.ideal.Ideal.{Ideal}
use Rattle.sn_laws.specs.declared.ideal.Version.{Version}
use Rattle.sn_rows.specs.Table.{Rows}
use Rattle.sn_rows.specs.declared.body.RowBody.{RowBody}
use Rattle.sn_rows.specs.declared.body.RowBody.TheVariants as row
use Rattle.sn_rows.specs.declared.device_rows.LocalItem.{LocalItem}
use Rattle.sn_rows.specs.declared.key.Key.TheVariants as key
use Rattle.sn_rows.specs.declared.server_rows.ItemRow.{ItemRow}
use Rattle.sn_rows.specs.declared.value.Value.{Value}
use Rattle.sn_rows.specs.declared.value.Value.TheVariants as value
use Rattle.sn_sets.specs.Sets.{sealed_of}
use Rattle.sn_shows.proofs.Facts.{holder_of}
use Rattle.sn_shows.specs.Devices.{IsBase, ShowsBase, ShowsHolder}
use Rattle.sn_shows.specs.Laws.{AccountsApart, HasAccount}
use Rattle.sn_string.specs.declared.params.KeySet.{KeySet}
use Rattle.sn_sync.specs.Laws.{HasOneStamp}
use Rattle.sn_sync.specs.Stamps.{IsStampText}
use Rattle.sn_sync.specs.Versions.{NamesStamp, item_of}
use Rattle.sn_sync.specs.declared.answer.Conflict.{Conflict}
use Rattle.sn_sync.specs.declared.answer.Conflict.TheVariants as conflict
use Rattle.sn_sync.specs.declared.item.Body.{Body}
use Rattle.sn_sync.specs.declared.item.Body.TheVariants as body
use Rattle.sn_sync.specs.declared.item.Item.{Item}
use Rattle.sn_world.proofs.AnswerLists.{apart_before, contains_at, image, of_map}
use Rattle.sn_world.proofs.AnswerPage.{names_it, stored_strings, token_length}
use Rattle.sn_world.proofs.AtLast.{rises_last}
use Rattle.sn_world.proofs.Lasts.{has_last}
use Rattle.sn_world.proofs.Lists.{of_each}
use Rattle.sn_world.proofs.OneHeld.{store_at}
use Rattle.sn_world.proofs.ShortTexts.{short_item}
use Rattle.sn_world.proofs.ShowsLemmas.{each_at}
use Rattle.sn_world.proofs.Standing.{its_last}
use Rattle.sn_world.proofs.Tokens.{device_account}
use Rattle.sn_world.specs.Applying.{Tells}
use Rattle.sn_world.specs.Holds.{Holds}
use Rattle.sn_world.proofs.AnswerPasses.{posted_strings}
use Rattle.sn_world.proofs.Tokens.{named_at}
use Rattle.sn_world.proofs.Lists.{this_one}
use Rattle.sn_world.proofs.ShortTexts.{longest_draft}
use Rattle.sn_ready.proofs.ShortVersions.{AreShortVersions, IsShortBody, versions_short}
use Rattle.sn_laws.specs.declared.ideal.Body.{Body as Versions}
use Rattle.sn_shows.specs.Devices.{OpensBase}
use Rattle.sn_shows.specs.Sets.{OpensUnder}
use Rattle.std.specs.Prelude.{Bool}
use Rattle.sn_world.specs.Making.{IsSentBy, IsSentOf, SendsAgain}
use Rattle.sn_world.specs.World.{World}

-- ---- what is sent

sealed_strings : (sealed : Sealed) (uuid : Bytes) (set : KeySet) (text : Bytes) → OpensItem sealed uuid set text → length text ≤ longest_draft
    → AreStringsOf uuid (body.Strings sealed.content sealed.enc)
sealed_strings sealed uuid set text o short =
    let both = short_item sealed uuid text set o short in
    ((both.0, (o.opens.reading, o.opens.authentic.names)), (both.1, (o.enc.opens.reading, o.enc.opens.authentic.names)))

-- it is sent of the row, however
pub sent_as : (local : LocalItem) (i : Item) → IsSentBy local i → IsSentAs local i
sent_as local i (inl sends) = sends.0
sent_as local i (inr again) = again.0

module _ (secret : Bytes) (w : World) (s : Ideal) (h : Holds secret w s) (name : Bytes) (d : Device) (a : Account) (has : HasAccount s name d a) where
  abbrev its : ShowsHolder (w.devices name) s name d a
  its = holder_of (w.devices name) s name d a (h.devices name) has

  short_texts : AreShortVersions a
  short_texts = let at = named_at s d.account a has.account in versions_short s h.reached at.0 a at.1

  -- of a row that was sealed again
  based_strings : (local : LocalItem) (stamp : ℕ) (b : RowBody) → IsBase a (greatest 0 d.held) local stamp → local.stale ≡ true → local.body ≡ Some b
      → AreStringsOf local.uuid (message_body b)
  based_strings local stamp b base stale is =
      let listed = base.listed in
      let same : row.Sealed listed.strings ≡ b = let there = listed.body_is in cc in
      let opens : (listed.number < greatest 0 d.held) × OpensUnder a.sets (greatest 0 d.held) local.uuid (sealed_of listed.strings) listed.text =
      subst (λ (flag : Bool). OpensBase a.sets (greatest 0 d.held) listed.number local.uuid listed.strings listed.text flag) stale base.opens in
      let short : length listed.text ≤ longest_draft =
      subst (λ (v : Versions). IsShortBody v) listed.live
      (this_one (λ (v : Version). IsShortBody v.body) a.versions listed.version short_texts listed.among) in
      subst (λ (z : RowBody). AreStringsOf local.uuid (message_body z)) same
      (sealed_strings (sealed_of listed.strings) local.uuid opens.1.set listed.text opens.1.opens short)

  again_strings : (number : ℕ) (local : LocalItem) (i : Item) → HasLocal (w.devices name) number local → SendsAgain local i → HasItsStrings i
  again_strings number local i stands (sends, stale, undrafted, unposted) =
      let body_is : local.body ≡ Some sends.version =
      sym (ap (λ (o : Option RowBody). first_some o (first_some local.latest local.body)) unposted
      ∙ ap (λ (o : Option RowBody). first_some o local.body) undrafted) ∙ sends.sent in
      subst (λ (u : Bytes). AreStringsOf u i.body) (sym sends.uuid_is)
      (subst (λ (z : Body). AreStringsOf local.uuid z) (sym sends.body_is) (at body_is local.base (its.locals number local stands).base))
    where
      at : local.body ≡ Some sends.version → (found : Option ℕ) → ShowsBase a (greatest 0 d.held) local found
          → AreStringsOf local.uuid (message_body sends.version)
      at is None shows = absurd (let none : local.body ≡ None = shows.0 in cc)
      at is (Some stamp) shows = based_strings local stamp sends.version shows stale is

  -- what a device sends has short strings that name it
  pub sent_strings : (i : Item) → IsSentOf (w.devices name) i → HasItsStrings i
  sent_strings i (number, local, stands, inl sends) = posted_strings secret w s h name d a its i (number, local, stands, sends)
  sent_strings i (number, local, stands, inr again) = again_strings number local i stands again

-- ---- what is answered

same_account : (r q : ItemRow) (n : ℕ) (found : Option Value) → found ≡ Some (value.Item r) → found ≡ Some (value.Item q) → r.account ≡ n → q.account ≡ n
same_account r q n found e k own = let same : r ≡ q = cc in subst (λ (z : ItemRow). z.account ≡ n) same own

module _ (apart : AccountsApart) (rise : VersionsRise) (one_stamp : HasOneStamp) (secret : Bytes) (w : World) (s : Ideal) (h : Holds secret w s) (name : Bytes)
    (sent : List Item) (conflicts : List Conflict) (cursor : Option Bytes) (retrieved saved : List Item) (token : Bytes)
    (may : Tells w.server (w.devices name) s name sent conflicts cursor retrieved saved token) where
  abbrev rows : Rows
  rows = w.devices name

  abbrev n : ℕ
  n = may.number

  abbrev a : Account
  a = may.account

  abbrev d : Device
  d = may.device

  has : HasAccount s name d a
  has = device_account apart secret w s h name n a d may.at may.named may.own

  holder : ShowsHolder rows s name d a
  holder = holder_of rows s name d a (h.devices name) has

  sound : IsSoundServer w.server
  sound = let store = store_at secret w s h name holder.owner.owner n a may.at in h.server_sound store.0 store.1

  rising : Rises (map (λ (v : Version). v.stamp) a.versions)
  rising =
      each_at (λ (b : Account). Rises (map (λ (v : Version). v.stamp) b.versions)) s.accounts n a
      (subst (λ (t : Ideal). Each (λ (b : Account). Rises (map (λ (v : Version). v.stamp) b.versions)) t.accounts) (sym h.reached.is)
      (rise h.reached.moves h.reached.legal)) may.at

  sent_one : (p : Item) → Contains sent p → IsSentOf rows p
  sent_one p among = of_each (IsSentOf rows) sent may.sent_of p among

  its_strings : (p : Item) → Contains sent p → HasItsStrings p
  its_strings p among = sent_strings secret w s h name d a has p (sent_one p among)

  -- ---- the version that a sent item names

  record Names (p : Item) (base : ℕ) : Type 0 where
    local : LocalItem
    named : p.uuid ≡ local.uuid
    stands : IsBase a (greatest 0 d.held) local base

  names_base : (p : Item) → IsSentOf rows p → (base : ℕ) → NamesStamp p base → Names p base
  names_base p (number, local, stands, sends) base names = at local.base refl (sent_as local p sends).replaces
    where
      at : (found : Option ℕ) → local.base ≡ found → SaysBase found p.updated_at → Names p base
      at None e none = absurd (let some = names.2 in cc)
      at (Some b) e (text, spelled, is) =
          let both : Some text ≡ Some names.0 = sym is ∙ names.2 in
          let it : text ≡ names.0 = cc in
          let same : b ≡ base = one_stamp names.0 b base (subst (λ (x : Bytes). IsStampText x b) it spelled) names.1 in
          let on : IsBase a (greatest 0 d.held) local b = subst (λ (o : Option ℕ). ShowsBase a (greatest 0 d.held) local o) e (holder.locals number local stands).base in
          record { local = local; named = (sent_as local p sends).uuid_is; stands = subst (λ (k : ℕ). IsBase a (greatest 0 d.held) local k) same on }

  -- isn't after the one that the account has
  not_after : (p : Item) → IsSentOf rows p → (base : ℕ) → NamesStamp p base → (stored : ItemRow) → HasItem w.server p.uuid stored → stored.account ≡ n
      → base ≤ stored.updated
  not_after p posted base names stored there own =
      let b = names_base p posted base names in
      let listed = b.stands.listed in
      let its = its_last w.server s.accounts n a p.uuid stored h.server.all may.at there own in
      let stamp : listed.version.stamp ≡ base = listed.stamp_is in
      let updated : stored.updated ≡ its.0.stamp = its.3 in
      ⊎_elim
      (λ (same : listed.version ≡ its.0). (let e : listed.version.stamp ≡ its.0.stamp = ap (λ (v : Version). v.stamp) same in omega arith))
      (λ (less : listed.version.stamp < its.0.stamp). omega arith)
      (rises_last p.uuid a.versions listed.version its.0 rising listed.among (listed.item_is ∙ sym b.named) its.1)

  -- and there is none where another account has the item
  is_new : (p : Item) → IsSentOf rows p → IsOthers w.server n p.uuid → IsNew p
  is_new p posted (stored, there, other) base names =
      let b = names_base p posted base names in
      let listed = b.stands.listed in
      let last = has_last p.uuid a.versions listed.version listed.among (listed.item_is ∙ sym b.named) in
      let its = (h.server.all.each n a may.at).items p.uuid last.0 last.1 in
      other (same_account its.row stored n (w.server (key.Item p.uuid)) its.stands there its.account)

  -- ---- the checks

  saved_right : AllRight (IsSaved sent) saved
  saved_right k x less at =
      let told = may.tells.saved_are x (contains_at saved k x at) in
      let stored : ItemRow = told.0.0 in
      let p : Item = told.1.0 in
      let of : IsSavedOf p x = told.1.2 in
      record {
        first = apart_before (λ (i : Item). i.uuid) saved k x may.tells.saved_apart at;
        saves = (
          p,
          told.1.1,
          record {
            is_of = sym of.uuid;
            body = of.body;
            stamp = stored.updated;
            stamped = names_it x.uuid stored x told.0.3;
            later = λ base names.
                not_after p (sent_one p told.1.1) base names stored (subst (λ (u : Bytes). HasItem w.server u stored) of.uuid told.0.1) told.0.2;
          },
        );
        strings = stored_strings w.server sound x.uuid stored x told.0.1 told.0.3;
      }

  conflict_of : (c : Conflict) → TellsConflict w.server n may.present sent c → HasConflictOf sent c
  conflict_of (conflict.Sync i) told =
      let p = of_map (λ (j : Item). j.uuid) sent i.uuid told.1 in
      (p.0, p.1, record { is_of = p.2; may = tt })
  conflict_of (conflict.Uuid i) told = (i, told.0, record { is_of = refl; may = is_new i (sent_one i told.0) told.1 })
  conflict_of (conflict.Content i) told = (i, told.0, record { is_of = refl; may = tt })

  conflict_strings : (c : Conflict) → TellsConflict w.server n may.present sent c → HasItsStrings (item_of c)
  conflict_strings (conflict.Sync i) told = stored_strings w.server sound i.uuid told.0.0 i told.0.1 told.0.3
  conflict_strings (conflict.Uuid i) told = its_strings i told.0
  conflict_strings (conflict.Content i) told = its_strings i told.0

  conflicts_right : AllRight (IsConflict sent saved) conflicts
  conflicts_right k c less at =
      let among = contains_at conflicts k c at in
      let told = may.tells.conflicts_are c among in
      record {
        unsaved = λ has. may.tells.disjoint (item_of c).uuid has (image (λ (x : Conflict). (item_of x).uuid) conflicts c among);
        first = apart_before (λ (x : Conflict). (item_of x).uuid) conflicts k c may.tells.conflicts_apart at;
        sent_one = conflict_of c told;
        strings = conflict_strings c told;
      }

  pub answer_passes : AllRight IsRetrieved retrieved → MayGoOn cursor retrieved → Passes sent saved conflicts retrieved cursor
  answer_passes page goes_on = record {
    lists = record { named = record { saved_are = saved_right; conflicts_are = conflicts_right }; retrieved_are = page };
    goes_on = goes_on;
  }

  pub never_long : (word : Bytes) → HasLongToken cursor token word → ⊥
  never_long word long = at cursor may.tells.cursor_is long
    where
      at : (found : Option Bytes) → ((found ≡ None) ⊎ (found ≡ Some token)) → HasLongToken found token word → ⊥
      at None which past = let short = token_length token may.tells.stamp may.tells.token_is in let over = past.0 in absurd (omega arith)
      at (Some text) (inl none) past = absurd (cc)
      at (Some text) (inr same) (inl past) =
          let it : text ≡ token = cc in
          let e = ap length it in
          let short = token_length token may.tells.stamp may.tells.token_is in
          let over = past.0 in
          absurd (omega arith)
      at (Some text) (inr same) (inr past) = let short = token_length token may.tells.stamp may.tells.token_is in let over = past.1 in absurd (omega arith)

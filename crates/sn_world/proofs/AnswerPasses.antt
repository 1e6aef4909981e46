-- What the honest server answers passes each of a device's checks, and its tokens are short.
use Rattle.std.proofs.Common.{◌≡◌, ◌⊎◌, ◌<◌, ◌≤◌, ℕ, List, [], ◌∷◌, length, map, Option, Some, None, true, false, refl, sym, ap, ◌∙◌, subst, inl, inr, ⊎_elim, arith}
use Rattle.std.specs.List.{Contains}
use Rattle.std.proofs.lemmas.List.Elements.{All-from_recursion}
use Rattle.std.proofs.lemmas.Option.{slice_get_within}
use Rattle.sn_account.specs.Lookups.{HasItem}
use Rattle.sn_account.specs.Sound.{IsSound as IsSoundServer}
use Rattle.sn_account.specs.Tells.{IsOthers, IsSavedOf, TellsConflict}
use Rattle.sn_device.specs.Runs.{HasLongToken, IsCheckPlace}
use Rattle.sn_device.specs.Sending.{SaysBase, first_some, message_body}
use Rattle.sn_device.specs.States.{HasLocal}
use Rattle.sn_device.specs.declared.error.Place.{Place}
use Rattle.sn_conflict.specs.Checks.{AreStringsOf, FailsAt, HasConflictOf, HasItsStrings, IsConflict, IsNew, IsRetrieved, IsSaved, MayGoOn, Passes}
use Rattle.sn_conflict.specs.Lists.{AllRight, IsFirstWrong}
use Rattle.sn_conflict.specs.declared.error.CheckError.{CheckError}
use Rattle.sn_conflict.specs.declared.error.CheckError.TheVariants as wrong
use Rattle.sn_items.specs.Items.{OpensItem}
use Rattle.sn_items.specs.declared.sealed.Sealed.{Sealed}
use Rattle.sn_laws.specs.Each.{Each}
use Rattle.sn_laws.specs.Laws.{Rises, VersionsRise}
use Rattle.sn_laws.specs.Lookups.{Bytes, draft_at, greatest}
use Rattle.sn_laws.specs.declared.ideal.Account.{Account}
use Rattle.sn_laws.specs.declared.ideal.Content.{Content}
use Rattle.sn_laws.specs.declared.ideal.Content.TheVariants as content
use Rattle.sn_laws.specs.declared.ideal.Device.{Device}
use Rattle.sn_laws.specs.declared.ideal.Draft.{Draft}
use Rattle.sn_laws.specs.declared.ideal.Ideal.{Ideal}
use Rattle.sn_laws.specs.declared.ideal.Posted.{Posted}
use Rattle.sn_laws.specs.declared.ideal.Version.{Version}
use Rattle.sn_rows.specs.Table.{Rows}
use Rattle.sn_rows.specs.declared.body.RowBody.{RowBody}
use Rattle.sn_rows.specs.declared.body.RowBody.TheVariants as row
use Rattle.sn_rows.specs.declared.device_rows.LocalItem.{LocalItem}
use Rattle.sn_rows.specs.declared.key.Key.TheVariants as key
use Rattle.sn_rows.specs.declared.server_rows.ItemRow.{ItemRow}
use Rattle.sn_rows.specs.declared.value.Value.{Value}
use Rattle.sn_rows.specs.declared.value.Value.TheVariants as value
use Rattle.sn_sets.specs.Sets.{sealed_of}
use Rattle.sn_shows.proofs.Facts.{holder_of}
use Rattle.sn_shows.specs.Devices.{IsBase, ShowsBase, ShowsContent, ShowsDrafted, ShowsHolder, ShowsPosted}
use Rattle.sn_shows.specs.Laws.{AccountsApart, HasAccount}
use Rattle.sn_string.specs.declared.params.KeySet.{KeySet}
use Rattle.sn_sync.specs.Laws.{HasOneStamp}
use Rattle.sn_sync.specs.Stamps.{IsStampText}
use Rattle.sn_sync.specs.Versions.{AreShort, IsShort, NamesStamp, item_of, strings_in}
use Rattle.sn_sync.specs.declared.answer.Conflict.{Conflict}
use Rattle.sn_sync.specs.declared.answer.Conflict.TheVariants as conflict
use Rattle.sn_sync.specs.declared.item.Body.{Body}
use Rattle.sn_sync.specs.declared.item.Body.TheVariants as body
use Rattle.sn_sync.specs.declared.item.Item.{Item}
use Rattle.sn_world.proofs.AnswerLists.{apart_before, contains_at, image, of_map}
use Rattle.sn_world.proofs.AnswerPage.{names_it, stored_strings, token_length}
use Rattle.sn_world.proofs.AtLast.{rises_last}
use Rattle.sn_world.proofs.Lasts.{has_last}
use Rattle.sn_world.proofs.Lists.{of_each}
use Rattle.sn_world.proofs.Making.{sends_it}
use Rattle.sn_world.proofs.OneHeld.{store_at}
use Rattle.sn_world.proofs.ShortDrafts.{IsShortContent, IsShortPosted, drafts_short}
use Rattle.sn_world.proofs.ShortTexts.{short_item}
use Rattle.sn_world.proofs.ShowsLemmas.{each_at}
use Rattle.sn_world.proofs.Standing.{its_last}
use Rattle.sn_world.proofs.Tokens.{device_account}
use Rattle.sn_world.specs.Applying.{Tells}
use Rattle.sn_world.specs.Holds.{Holds}
use Rattle.sn_world.specs.Making.{IsSentOf, SendsPosted}
use Rattle.sn_world.specs.World.{World}

-- ---- what is sent

-- no row is to be sealed again
abbrev pub NoneStale : Rows → Type 0
NoneStale rows = (number : ℕ) (local : LocalItem) → HasLocal rows number local → local.stale ≡ false

-- it is sent of some row, as what was posted of that
abbrev pub IsPostedOf : Rows → Item → Type 0
IsPostedOf rows i = (number : ℕ) × (local : LocalItem) × HasLocal rows number local × SendsPosted local i

pub as_posted : (rows : Rows) → NoneStale rows → (i : Item) → IsSentOf rows i → IsPostedOf rows i
as_posted rows fresh i (number, local, stands, inl sends) = (number, local, stands, sends)
as_posted rows fresh i (number, local, stands, inr again) =
    let no : local.stale ≡ false = fresh number local stands in
    let yes : local.stale ≡ true = again.1 in
    absurd (cc)

sealed_strings : (sealed : Sealed) (uuid : Bytes) (set : KeySet) (text : Bytes) → OpensItem sealed uuid set text → IsShortContent (content.Plain text)
    → AreStringsOf uuid (body.Strings sealed.content sealed.enc)
sealed_strings sealed uuid set text o short =
    let both = short_item sealed uuid text set o short in
    ((both.0, (o.opens.reading, o.opens.authentic.names)), (both.1, (o.enc.opens.reading, o.enc.opens.authentic.names)))

module _ (secret : Bytes) (w : World) (s : Ideal) (h : Holds secret w s) (name : Bytes) (d : Device) (a : Account)
    (holder : ShowsHolder (w.devices name) s name d a) where
  abbrev g : ℕ
  g = greatest 0 d.held

  of_content : (uuid : Bytes) (b : RowBody) (c : Content) → ShowsContent a.sets g uuid b c → IsShortContent c → AreStringsOf uuid (message_body b)
  of_content uuid row.Deleted c shows short = tt
  of_content uuid (row.Sealed strings) content.Deleted shows short = absurd shows
  of_content uuid (row.Sealed strings) (content.Plain text) shows short = sealed_strings (sealed_of strings) uuid shows.set text shows.opens short

  of_posted : (uuid : Bytes) (found : Option RowBody) (o : Option Posted) (b : RowBody) → found ≡ Some b → ShowsPosted a.sets g uuid found o → IsShortPosted o
      → AreStringsOf uuid (message_body b)
  of_posted uuid None o b e shows short = absurd (cc)
  of_posted uuid (Some c) None b e shows short = absurd shows
  of_posted uuid (Some c) (Some p) b e shows short =
      let same : c ≡ b = cc in
      of_content uuid b p.content (subst (λ (z : RowBody). ShowsContent a.sets g uuid z p.content) same shows) short

  of_drafted : (local : LocalItem) (found : Option Draft) (b : RowBody) → draft_at s name local.uuid ≡ found → local.posted ≡ Some b
      → ShowsDrafted a.sets g local found → AreStringsOf local.uuid (message_body b)
  of_drafted local None b at e shows = let none : local.posted ≡ None = shows.1 in absurd (cc)
  of_drafted local (Some draft) b at e shows =
      of_posted local.uuid local.posted draft.posted b e shows.posted (drafts_short s h.reached name local.uuid draft at).posted

  -- a device's posted items have short strings that name them
  pub posted_strings : (i : Item) → IsPostedOf (w.devices name) i → HasItsStrings i
  posted_strings i (number, local, stands, sends) =
      let posted : local.posted ≡ Some sends.0.version = sends_it local.posted (first_some local.latest local.body) sends.0.version sends.1 sends.0.sent in
      subst (λ (u : Bytes). AreStringsOf u i.body) (sym sends.0.uuid_is)
      (subst (λ (z : Body). AreStringsOf local.uuid z) (sym sends.0.body_is)
      (of_drafted local (draft_at s name local.uuid) sends.0.version refl posted (holder.locals number local stands).draft))

pub short_strings : (i : Item) → HasItsStrings i → AreShort (strings_in i.body)
short_strings i its = at i.body its
  where
    at : (b : Body) → AreStringsOf i.uuid b → AreShort (strings_in b)
    at body.Deleted own = All-from_recursion IsShort [] tt
    at (body.Strings content enc) own = All-from_recursion IsShort (content ∷ enc ∷ []) (own.0.0, (own.1.0, tt))

-- ---- what is answered

same_account : (r q : ItemRow) (n : ℕ) (found : Option Value) → found ≡ Some (value.Item r) → found ≡ Some (value.Item q) → r.account ≡ n → q.account ≡ n
same_account r q n found e k own = let same : r ≡ q = cc in subst (λ (z : ItemRow). z.account ≡ n) same own

module _ (apart : AccountsApart) (rise : VersionsRise) (one_stamp : HasOneStamp) (secret : Bytes) (w : World) (s : Ideal) (h : Holds secret w s) (name : Bytes)
    (sent : List Item) (conflicts : List Conflict) (cursor : Option Bytes) (retrieved saved : List Item) (token : Bytes)
    (fresh : NoneStale (w.devices name)) (may : Tells w.server (w.devices name) s name sent conflicts cursor retrieved saved token) where
  abbrev rows : Rows
  rows = w.devices name

  abbrev n : ℕ
  n = may.number

  abbrev a : Account
  a = may.account

  abbrev d : Device
  d = may.device

  has : HasAccount s name d a
  has = device_account apart secret w s h name n a d may.at may.named may.own

  holder : ShowsHolder rows s name d a
  holder = holder_of rows s name d a (h.devices name) has

  sound : IsSoundServer w.server
  sound = let store = store_at secret w s h name holder.owner.owner n a may.at in h.server_sound store.0 store.1

  rising : Rises (map (λ (v : Version). v.stamp) a.versions)
  rising =
      each_at (λ (b : Account). Rises (map (λ (v : Version). v.stamp) b.versions)) s.accounts n a
      (subst (λ (t : Ideal). Each (λ (b : Account). Rises (map (λ (v : Version). v.stamp) b.versions)) t.accounts) (sym h.reached.is)
      (rise h.reached.moves h.reached.legal)) may.at

  posted_one : (p : Item) → Contains sent p → IsPostedOf rows p
  posted_one p among = as_posted rows fresh p (of_each (IsSentOf rows) sent may.sent_of p among)

  sent_strings : (p : Item) → Contains sent p → HasItsStrings p
  sent_strings p among = posted_strings secret w s h name d a holder p (posted_one p among)

  -- ---- the version that a sent item names

  record Names (p : Item) (base : ℕ) : Type 0 where
    local : LocalItem
    named : p.uuid ≡ local.uuid
    stands : IsBase a (greatest 0 d.held) local base

  names_base : (p : Item) → IsPostedOf rows p → (base : ℕ) → NamesStamp p base → Names p base
  names_base p (number, local, stands, sends) base names = at local.base refl sends.0.replaces
    where
      at : (found : Option ℕ) → local.base ≡ found → SaysBase found p.updated_at → Names p base
      at None e none = absurd (let some = names.2 in cc)
      at (Some b) e (text, spelled, is) =
          let both : Some text ≡ Some names.0 = sym is ∙ names.2 in
          let it : text ≡ names.0 = cc in
          let same : b ≡ base = one_stamp names.0 b base (subst (λ (x : Bytes). IsStampText x b) it spelled) names.1 in
          let on : IsBase a (greatest 0 d.held) local b = subst (λ (o : Option ℕ). ShowsBase a (greatest 0 d.held) local o) e (holder.locals number local stands).base in
          record { local = local; named = sends.0.uuid_is; stands = subst (λ (k : ℕ). IsBase a (greatest 0 d.held) local k) same on }

  -- isn't after the one that the account has
  not_after : (p : Item) → IsPostedOf rows p → (base : ℕ) → NamesStamp p base → (stored : ItemRow) → HasItem w.server p.uuid stored → stored.account ≡ n
      → base ≤ stored.updated
  not_after p posted base names stored there own =
      let b = names_base p posted base names in
      let listed = b.stands.listed in
      let its = its_last w.server s.accounts n a p.uuid stored h.server.all may.at there own in
      let stamp : listed.version.stamp ≡ base = listed.stamp_is in
      let updated : stored.updated ≡ its.0.stamp = its.3 in
      ⊎_elim
      (λ (same : listed.version ≡ its.0). (let e : listed.version.stamp ≡ its.0.stamp = ap (λ (v : Version). v.stamp) same in omega arith))
      (λ (less : listed.version.stamp < its.0.stamp). omega arith)
      (rises_last p.uuid a.versions listed.version its.0 rising listed.among (listed.item_is ∙ sym b.named) its.1)

  -- and there is none where another account has the item
  is_new : (p : Item) → IsPostedOf rows p → IsOthers w.server n p.uuid → IsNew p
  is_new p posted (stored, there, other) base names =
      let b = names_base p posted base names in
      let listed = b.stands.listed in
      let last = has_last p.uuid a.versions listed.version listed.among (listed.item_is ∙ sym b.named) in
      let its = (h.server.all.each n a may.at).items p.uuid last.0 last.1 in
      other (same_account its.row stored n (w.server (key.Item p.uuid)) its.stands there its.account)

  -- ---- the checks

  saved_right : AllRight (IsSaved sent) saved
  saved_right k x less at =
      let told = may.tells.saved_are x (contains_at saved k x at) in
      let stored : ItemRow = told.0.0 in
      let p : Item = told.1.0 in
      let of : IsSavedOf p x = told.1.2 in
      record {
        first = apart_before (λ (i : Item). i.uuid) saved k x may.tells.saved_apart at;
        saves = (
          p,
          told.1.1,
          record {
            is_of = sym of.uuid;
            body = of.body;
            stamp = stored.updated;
            stamped = names_it x.uuid stored x told.0.3;
            later = λ base names.
                not_after p (posted_one p told.1.1) base names stored (subst (λ (u : Bytes). HasItem w.server u stored) of.uuid told.0.1) told.0.2;
          },
        );
        strings = stored_strings w.server sound x.uuid stored x told.0.1 told.0.3;
      }

  conflict_of : (c : Conflict) → TellsConflict w.server n may.present sent c → HasConflictOf sent c
  conflict_of (conflict.Sync i) told =
      let p = of_map (λ (j : Item). j.uuid) sent i.uuid told.1 in
      (p.0, p.1, record { is_of = p.2; may = tt })
  conflict_of (conflict.Uuid i) told = (i, told.0, record { is_of = refl; may = is_new i (posted_one i told.0) told.1 })
  conflict_of (conflict.Content i) told = (i, told.0, record { is_of = refl; may = tt })

  conflict_strings : (c : Conflict) → TellsConflict w.server n may.present sent c → HasItsStrings (item_of c)
  conflict_strings (conflict.Sync i) told = stored_strings w.server sound i.uuid told.0.0 i told.0.1 told.0.3
  conflict_strings (conflict.Uuid i) told = sent_strings i told.0
  conflict_strings (conflict.Content i) told = sent_strings i told.0

  conflicts_right : AllRight (IsConflict sent saved) conflicts
  conflicts_right k c less at =
      let among = contains_at conflicts k c at in
      let told = may.tells.conflicts_are c among in
      record {
        unsaved = λ has. may.tells.disjoint (item_of c).uuid has (image (λ (x : Conflict). (item_of x).uuid) conflicts c among);
        first = apart_before (λ (x : Conflict). (item_of x).uuid) conflicts k c may.tells.conflicts_apart at;
        sent_one = conflict_of c told;
        strings = conflict_strings c told;
      }

  pub answer_passes : AllRight IsRetrieved retrieved → MayGoOn cursor retrieved → Passes sent saved conflicts retrieved cursor
  answer_passes page goes_on = record {
    lists = record { named = record { saved_are = saved_right; conflicts_are = conflicts_right }; retrieved_are = page };
    goes_on = goes_on;
  }

  pub never_long : (word : Bytes) → HasLongToken cursor token word → ⊥
  never_long word long = at cursor may.tells.cursor_is long
    where
      at : (found : Option Bytes) → ((found ≡ None) ⊎ (found ≡ Some token)) → HasLongToken found token word → ⊥
      at None which past = let short = token_length token may.tells.stamp may.tells.token_is in let over = past.0 in absurd (omega arith)
      at (Some text) (inl none) past = absurd (cc)
      at (Some text) (inr same) (inl past) =
          let it : text ≡ token = cc in
          let e = ap length it in
          let short = token_length token may.tells.stamp may.tells.token_is in
          let over = past.0 in
          absurd (omega arith)
      at (Some text) (inr same) (inr past) = let short = token_length token may.tells.stamp may.tells.token_is in let over = past.1 in absurd (omega arith)

-- ---- what passes fails nowhere

right_there : {X : Type 0} (Right : List X → X → Type 0) (xs : List X) (k : ℕ) → AllRight Right xs → IsFirstWrong Right xs k → ⊥
right_there Right xs k all (x, at, before, not) = not (all k x (slice_get_within xs k x at) at)

pub fails_not : (sent saved : List Item) (conflicts : List Conflict) (retrieved : List Item) (cursor : Option Bytes) (e : CheckError) (at : Place)
    → Passes sent saved conflicts retrieved cursor → FailsAt sent saved conflicts retrieved cursor e → IsCheckPlace e at → ⊥
fails_not sent saved conflicts retrieved cursor (wrong.Saved k) at passes fails place = right_there (IsSaved sent) saved k passes.lists.named.saved_are fails
fails_not sent saved conflicts retrieved cursor (wrong.Conflict k) at passes fails place =
    right_there (IsConflict sent saved) conflicts k passes.lists.named.conflicts_are fails.1
fails_not sent saved conflicts retrieved cursor (wrong.Retrieved k) at passes fails place =
    right_there IsRetrieved retrieved k passes.lists.retrieved_are fails.1
fails_not sent saved conflicts retrieved cursor wrong.Cursor at passes fails place = fails.1 passes.goes_on
fails_not sent saved conflicts retrieved cursor wrong.Memory at passes fails place = place

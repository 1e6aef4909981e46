-- A set that is adopted keeps the invariant.
use Rattle.std.proofs.Common.{◌≡◌, ◌≢◌, ◌⊎◌, ◌<◌, ◌≤◌, ℕ, List, [], ◌∷◌, length, Option, Some, None, Bool, true, false, refl, sym, ap, ◌∙◌, subst, inl, inr, ⊎_elim, arith}
use Rattle.std.specs.List.{Contains}
use Rattle.std.specs.Prelude.{IsTrue, find}
use Rattle.std.specs.Str.{bytes_eq}
use Rattle.rand_chacha.specs.ChaCha.{ChaCha}
use Rattle.sn_account.specs.Sessions.{IsSession, session_token}
use Rattle.sn_adopted.proofs.Facts.{adopt_holds, adopt_shows, reposts_allowed, reposts_move, reposts_show}
use Rattle.sn_adopted.specs.Laws.{HoldsAdopted}
use Rattle.sn_adopted.specs.Moves.{AreReposted, OlderStale, WasSent, adopting, reposting, sent_again}
use Rattle.sn_device.proofs.Facts.{Adopted, adopted as rows_adopted}
use Rattle.sn_device.specs.Sending.{Numbered}
use Rattle.sn_device.specs.States.{HasLocal, IsSound, OwnerColumns, HasNoneAsked}
use Rattle.sn_device.specs.Steps.{Adopts}
use Rattle.sn_laws.proofs.Facts.{allowed_to, clash, draft_is, end_from-append, found_passes, last_item, one_there, same_text, text_same}
use Rattle.sn_laws.specs.Each.{Each, One}
use Rattle.sn_laws.specs.Lookups.{Bytes, account_for, account_named, account_of, device_named, draft_at, greatest, held_by, is_account, is_device, is_draft, last_of}
use Rattle.sn_laws.specs.Moves.{allows}
use Rattle.sn_laws.specs.Reached.{AllDiffer, IsOneOrTwo, NumbersHeld}
use Rattle.sn_laws.specs.Relation.{IsBased, IsOnLast}
use Rattle.sn_laws.specs.Runs.{LegalFrom, end_from}
use Rattle.sn_laws.specs.declared.ideal.Account.{Account}
use Rattle.sn_laws.specs.declared.ideal.Device.{Device}
use Rattle.sn_laws.specs.declared.ideal.Draft.{Draft}
use Rattle.sn_laws.specs.declared.ideal.Ideal.{Ideal}
use Rattle.sn_laws.specs.declared.ideal.Posted.{Posted}
use Rattle.sn_laws.specs.declared.ideal.Version.{Version}
use Rattle.sn_laws.specs.declared.moves.Move.{Move}
use Rattle.sn_laws.specs.declared.moves.Move.TheVariants.{Unpost}
use Rattle.sn_rows.specs.Table.{Rows, rows_after}
use Rattle.sn_rows.specs.declared.body.RowBody.{RowBody}
use Rattle.sn_rows.specs.declared.change.Change.{Change}
use Rattle.sn_rows.specs.declared.device_rows.LocalItem.{LocalItem}
use Rattle.sn_rows.specs.declared.device_rows.OwnerRow.{OwnerRow}
use Rattle.sn_rows.specs.declared.key.Key.TheVariants as key
use Rattle.sn_shows.proofs.Facts.{greatest_of_two, holder_of}
use Rattle.sn_shows.specs.Devices.{HasRow, ShowsDevice, ShowsDraft, ShowsDrafted, ShowsHolder, ShowsPosted}
use Rattle.sn_shows.specs.Laws.{AccountsApart, HasAccount}
use Rattle.sn_shows.specs.Servers.{stamps_in}
use Rattle.sn_shows.specs.Sets.{set_at}
use Rattle.sn_string.specs.declared.params.KeySet.{KeySet}
use Rattle.sn_world.proofs.Adopting.{IsAdopting, adopted, adopts_so}
use Rattle.sn_world.proofs.AnswerLists.{rises_so}
use Rattle.sn_world.proofs.DeviceRows.{one_owner, sync_tokens_kept}
use Rattle.sn_world.proofs.Frames.{DeviceFrame, HasPulled, device_kept}
use Rattle.sn_world.proofs.HeldSets.{held_sets, nonces_apart}
use Rattle.sn_world.proofs.LegalMoves.{legal_joined, reached_after}
use Rattle.sn_world.proofs.Lists.{each_contained, this_one}
use Rattle.sn_world.proofs.Pulls.{StaysAt, alike_put, pulls_kept}
use Rattle.sn_world.proofs.Reposted.{each_reposted, reposted_differ, reposted_one, reposting_accounts, reposting_devices}
use Rattle.sn_world.proofs.ShowsLemmas.{each_at, shows_alike}
use Rattle.sn_world.proofs.Tokens.{alive_last, apart_of, device_account, named_at}
use Rattle.sn_world.specs.Committing.{MayAdopt, IsReposted, SaysAdoption}
use Rattle.sn_world.specs.Holds.{DeviceToken, HasToken, Holds, NumbersOf, Reached, TokensDiffer}
use Rattle.sn_world.specs.Laws.{KeptBy}
use Rattle.sn_world.specs.World.{OnDevice, World}

-- ---- lists

parts_of : (w : Numbered) → w ≡ (w.0, w.1)
parts_of (number, local) = refl

none_one : {A : Type 0} (P : A → Type 0) (xs : List A) → Each (λ (x : A). ¬ (P x)) xs → One P xs → ⊥
none_one P [] each one = one
none_one P (x ∷ xs) each one = ⊎_elim (λ (here : P x). each.0 here) (λ rest. none_one P xs each.1 rest) one

one_or_not : (uuids : List Bytes) (uuid : Bytes) → One (λ (u : Bytes). u ≡ uuid) uuids ⊎ ¬ (One (λ (u : Bytes). u ≡ uuid) uuids)
one_or_not [] uuid = inr (λ one. one)
one_or_not (x ∷ xs) uuid = by (bytes_eq x uuid) refl (one_or_not xs uuid)
  where
    by : (b : Bool) → bytes_eq x uuid ≡ b → One (λ (u : Bytes). u ≡ uuid) xs ⊎ ¬ (One (λ (u : Bytes). u ≡ uuid) xs)
        → One (λ (u : Bytes). u ≡ uuid) (x ∷ xs) ⊎ ¬ (One (λ (u : Bytes). u ≡ uuid) (x ∷ xs))
    by true same rest = inl (inl (same_text x uuid same))
    by false off (inl one) = inl (inr one)
    by false off (inr none) = inr (λ one. ⊎_elim (λ (e : x ≡ uuid). clash (bytes_eq x uuid) (text_same x uuid e) off) (λ rest. none rest) one)

-- ---- what was sent of a draft

posted_some : (sets : List KeySet) (number : ℕ) (uuid : Bytes) (found : Option RowBody) (o : Option Posted) → ShowsPosted sets number uuid found o → found ≢ None
    → (p : Posted) × (o ≡ Some p)
posted_some sets number uuid None o h some = absurd (some refl)
posted_some sets number uuid (Some b) None h some = absurd h
posted_some sets number uuid (Some b) (Some p) h some = (p, refl)

row_posted : (sets : List KeySet) (number : ℕ) (uuid : Bytes) (found : Option RowBody) (o : Option Posted) (p : Posted) → ShowsPosted sets number uuid found o
    → o ≡ Some p → found ≢ None
row_posted sets number uuid None None p h e = absurd (cc)
row_posted sets number uuid None (Some q) p h e = absurd h
row_posted sets number uuid (Some b) o p h e = λ none. absurd (cc)

-- the draft of a row of which something was sent
record SentDraft (s : Ideal) (name : Bytes) (local : LocalItem) : Type 0 where
  draft : Draft
  at : draft_at s name local.uuid ≡ Some draft
  posted : Posted
  sent : draft.posted ≡ Some posted
  uuid_is : draft.uuid ≡ local.uuid
  base_is : draft.base ≡ local.base

-- of a draft that is sent again under this number
again_set : (number : ℕ) (was : Draft) (sent : Posted) (draft : Draft) (p : Posted) → sent_again number was sent ≡ draft → draft.posted ≡ Some p → p.set ≡ Some number
again_set number was sent draft p e is =
    let same : (sent_again number was sent).posted ≡ Some p = ap (λ (x : Draft). x.posted) e ∙ is in
    let parts : Some (record sent { set = Some number }) ≡ Some p = same in
    sym (ap (λ (x : Posted). x.set) (one_there (record sent { set = Some number }) p (Some (record sent { set = Some number })) refl parts))

-- ---- the commit

module _ (apart : AccountsApart) (numbers_held : NumbersHeld) (secret : Bytes) (w next : World) (s : Ideal) (differ : TokensDiffer secret)
    (h : Holds secret w s) (name : Bytes) (words left : ChaCha) (set : KeySet) (token : Bytes) (changes : List Change) (moves : List Move)
    (x : Adopts (w.devices name) words set token changes left)
    (may : MayAdopt secret s name set token) (says : SaysAdoption (w.devices name) s name moves) (sound : IsSound (rows_after (w.devices name) changes))
    (on : OnDevice w next name changes) where
  abbrev before : Rows
  before = w.devices name

  abbrev now : Rows
  now = rows_after before changes

  abbrev d : Device
  d = says.device

  abbrev a : Account
  a = says.account

  abbrev has : HasAccount s name d a
  has = says.has

  abbrev number : ℕ
  number = length a.sets

  abbrev first_moves : List Move
  first_moves = adopting name a.identifier number d.held

  abbrev second_moves : List Move
  second_moves = reposting name says.uuids

  abbrev mid : Ideal
  mid = end_from s first_moves

  abbrev later : Ideal
  later = end_from mid second_moves

  -- ---- the set

  same_device : may.device ≡ d
  same_device = one_there may.device d (device_named s name) may.named has.device

  same_account : may.account ≡ a
  same_account =
      let its = device_account apart secret w s h name may.number may.account may.device may.at may.named may.own in
      one_there may.account a (account_named s d.account)
      (subst (λ (e : Device). account_named s e.account ≡ Some may.account) same_device its.account) has.account

  above : greatest 0 d.held < number
  above =
      subst (λ (b : Account). greatest 0 d.held < length b.sets) same_account
      (subst (λ (e : Device). greatest 0 e.held < length may.account.sets) same_device may.above)

  last : set_at number a.sets ≡ Some set
  last = subst (λ (b : Account). set_at (length b.sets) b.sets ≡ Some set) same_account may.last

  held : IsOneOrTwo number d.held
  held = held_sets s h.reached name d a has

  most : greatest 0 (adopted number d).held ≡ number
  most = greatest_of_two (greatest 0 d.held) number above

  holder : ShowsHolder before s name d a
  holder = holder_of before s name d a (h.devices name) has

  -- ---- the moves of the set

  first : LegalFrom s first_moves × IsAdopting s mid name d number
  first = adopts_so s h.reached name d a has above held

  its : IsAdopting s mid name d number
  its = first.1

  draft_mid : (device uuid : Bytes) → draft_at mid device uuid ≡ draft_at s device uuid
  draft_mid device uuid = ap (λ (ds : List Draft). find (is_draft device uuid) ds) its.drafts

  account_mid : account_of mid name ≡ Some a
  account_mid =
      ap (λ (xs : List Account). account_for xs (device_named mid name)) its.accounts ∙ ap (λ (found : Option Device). account_for s.accounts found) its.own
      ∙ has.account

  adopted_shown : ShowsDevice now mid name × OlderStale now a (greatest 0 d.held ∷ number ∷ []) × HasNoneAsked now
  adopted_shown =
      adopt_shows before words left set token number changes s name d a (h.devices name) has held (h.older_stale name d a has)
      (nonces_apart s h.reached d.account a has.account) last above x

  -- ---- the items that are sent again

  row : (item : Numbered) → Contains says.items item → HasLocal before item.0 item.1
  row item there = (says.items_are.whole item.0 item.1).0 (subst (λ (y : Numbered). Contains says.items y) (parts_of item) there)

  own_uuid : (uuid : Bytes) (draft : Draft) → draft_at s name uuid ≡ Some draft → draft.uuid ≡ uuid
  own_uuid uuid draft at = (draft_is name uuid draft (found_passes (is_draft name uuid) s.drafts draft at).0).1

  sent_draft : (at : ℕ) (local : LocalItem) → HasLocal before at local → local.posted ≢ None → SentDraft s name local
  sent_draft at local stands some = by (draft_at s name local.uuid) refl (holder.locals at local stands).draft
    where
      by : (found : Option Draft) → draft_at s name local.uuid ≡ found → ShowsDrafted a.sets (greatest 0 d.held) local found → SentDraft s name local
      by None e k = absurd (some k.1)
      by (Some draft) e k =
          let p = posted_some a.sets (greatest 0 d.held) local.uuid local.posted draft.posted k.posted some in
          record { draft = draft; at = e; posted = p.0; sent = p.1; uuid_is = own_uuid local.uuid draft e; base_is = sym k.base }

  -- what was sent was sent under no set above those that were held
  sent_within : (uuid : Bytes) (draft : Draft) (p : Posted) (k : ℕ) → draft_at s name uuid ≡ Some draft → draft.posted ≡ Some p → p.set ≡ Some k
      → k ≤ greatest 0 d.held
  sent_within uuid draft p k at sent number_is =
      subst (λ (found : Option Device). k ≤ greatest 0 (held_by found)) has.device
      (subst (λ (t : Ideal). draft_at t name uuid ≡ Some draft → k ≤ greatest 0 (held_by (device_named t name))) (sym h.reached.is)
      (λ found. numbers_held h.reached.moves name uuid draft p k h.reached.legal found sent number_is) at)

  unpost_allowed : (at : ℕ) (local : LocalItem) → HasLocal before at local → IsReposted a local → IsTrue (allows mid (Unpost name local.uuid))
  unpost_allowed at local stands is =
      let sent : SentDraft s name local = sent_draft at local stands is.0 in
      let k = h.numbers name d a has local.uuid sent.draft sent.at sent.posted sent.sent in
      let most_is : k.0 ≤ greatest 0 d.held = sent_within local.uuid sent.draft sent.posted k.0 sent.at sent.sent k.1 in
      let lower : greatest 0 d.held < number = above in
      allowed_to mid (Unpost name local.uuid)
      (record {
        account = a;
        draft = sent.draft;
        is = record { has = account_mid; at = draft_mid name local.uuid ∙ sent.at };
        posted = sent.posted;
        sent = sent.sent;
        number = k.0;
        number_is = k.1;
        before = λ e. absurd (omega arith);
        based = subst (λ (o : Option ℕ). IsBased o (last_of local.uuid a.versions)) (sym sent.base_is) is.1;
      })

  was_sent : (at : ℕ) (local : LocalItem) → HasLocal before at local → IsReposted a local → WasSent mid name local.uuid
  was_sent at local stands is =
      let sent : SentDraft s name local = sent_draft at local stands is.0 in
      record { draft = sent.draft; at = draft_mid name local.uuid ∙ sent.at; posted = sent.posted; sent = sent.sent }

  all_allowed : Each (λ (uuid : Bytes). IsTrue (allows mid (Unpost name uuid))) says.uuids
  all_allowed =
      each_reposted a (λ (uuid : Bytes). IsTrue (allows mid (Unpost name uuid))) says.items says.uuids says.reposted
      (each_contained (λ (item : Numbered). IsReposted a item.1 → IsTrue (allows mid (Unpost name item.1.uuid))) says.items
      (λ item there is. unpost_allowed item.0 item.1 (row item there) is))

  all_sent : Each (WasSent mid name) says.uuids
  all_sent =
      each_reposted a (WasSent mid name) says.items says.uuids says.reposted
      (each_contained (λ (item : Numbered). IsReposted a item.1 → WasSent mid name item.1.uuid) says.items
      (λ item there is. was_sent item.0 item.1 (row item there) is))

  all_differ : AllDiffer says.uuids
  all_differ =
      reposted_differ a says.items says.uuids says.reposted (rises_so (λ (item : Numbered). item.0) says.items says.items_are.rising)
      (λ one other here there same. holder.once one.0 other.0 one.1 other.1 (row one here) (row other there) same)

  legal_second : LegalFrom mid second_moves
  legal_second = reposts_allowed mid name says.uuids all_differ all_allowed

  reached : Reached later
  reached = reached_after mid second_moves (reached_after s first_moves h.reached first.0) legal_second

  moved : AreReposted mid later name says.uuids
  moved = reposts_move mid name says.uuids

  -- ---- the state after them

  accounts : later.accounts ≡ s.accounts
  accounts = reposting_accounts mid name says.uuids ∙ its.accounts

  device_later : (other : Bytes) → device_named later other ≡ device_named mid other
  device_later other = ap (λ (ds : List Device). find (is_device other) ds) (reposting_devices mid name says.uuids)

  own_device : device_named later name ≡ Some (adopted number d)
  own_device = device_later name ∙ its.own

  others : (other : Bytes) → other ≢ name → device_named later other ≡ device_named s other
  others other off = device_later other ∙ its.others other off

  other_draft : (other uuid : Bytes) → other ≢ name → draft_at later other uuid ≡ draft_at s other uuid
  other_draft other uuid off = moved.others other uuid (λ e. off e.0) ∙ draft_mid other uuid

  of_own : (e : Device) (b : Account) → HasAccount later name e b → (adopted number d ≡ e) × (a ≡ b)
  of_own e b of =
      let same : adopted number d ≡ e = one_there (adopted number d) e (device_named later name) own_device of.device in
      let at : account_named s d.account ≡ Some b =
      ap (λ (xs : List Account). find (is_account d.account) xs) (sym accounts) ∙ ap (λ (z : Device). account_named later z.account) same ∙ of.account in
      (same, one_there a b (account_named s d.account) has.account at)

  -- ---- the numbers of what was sent

  on_before : (b : Account) (uuid : Bytes) (base : Option ℕ) → IsOnLast later b uuid base → IsOnLast s b uuid base
  on_before b uuid None stands = subst (λ (xs : List Account). Each (λ (c : Account). Each (λ (v : Version). v.uuid ≢ uuid) c.versions) xs) accounts stands
  on_before b uuid (Some stamp) stands = stands

  abbrev IsNumbered : Draft → Posted → Type 0
  IsNumbered draft p = (k : ℕ) × (p.set ≡ Some k) × (IsOnLast s a draft.uuid draft.base → k ≡ number)

  -- what could be accepted is sent again
  based_of : (uuid : Bytes) (base : Option ℕ) → IsOnLast s a uuid base → IsBased base (last_of uuid a.versions)
  based_of uuid (Some stamp) stands = stands
  based_of uuid None stands = by (last_of uuid a.versions) refl
    where
      none : Each (λ (v : Version). v.uuid ≢ uuid) a.versions
      none =
          let at = named_at s d.account a has.account in
          each_at (λ (b : Account). Each (λ (v : Version). v.uuid ≢ uuid) b.versions) s.accounts at.0 a stands at.1

      by : (found : Option Version) → last_of uuid a.versions ≡ found → last_of uuid a.versions ≡ None
      by None e = e
      by (Some v) e = absurd (none_one (λ (y : Version). y.uuid ≡ uuid) a.versions none (last_item uuid a.versions v e))

  -- one that isn't sent again doesn't stand on its item's last version
  left_number : (uuid : Bytes) (draft : Draft) (p : Posted) → draft_at s name uuid ≡ Some draft → draft.posted ≡ Some p
      → ¬ (One (λ (u : Bytes). u ≡ uuid) says.uuids) → IsNumbered draft p
  left_number uuid draft p at is off =
      let k = h.numbers name d a has uuid draft at p is in
      (k.0, k.1, λ stands. absurd (off (found stands)))
    where
      stood : HasRow before uuid
      stood = holder.drafts uuid draft at

      there : draft_at s name stood.item.uuid ≡ Some draft
      there = ap (λ (u : Bytes). draft_at s name u) stood.item_is ∙ at

      shown : ShowsDraft a.sets (greatest 0 d.held) stood.item draft
      shown =
          subst (λ (o : Option Draft). ShowsDrafted a.sets (greatest 0 d.held) stood.item o) there
          (holder.locals stood.number stood.item stood.stands).draft

      found : IsOnLast s a draft.uuid draft.base → One (λ (u : Bytes). u ≡ uuid) says.uuids
      found stands =
          subst (λ (v : Bytes). One (λ (u : Bytes). u ≡ v) says.uuids) stood.item_is
          (reposted_one a says.items says.uuids says.reposted (stood.number, stood.item) ((says.items_are.whole stood.number stood.item).1 stood.stands) (
            row_posted a.sets (greatest 0 d.held) stood.item.uuid stood.item.posted draft.posted p shown.posted is,
            based_of stood.item.uuid stood.item.base
                (subst (λ (u : Bytes). IsOnLast s a u stood.item.base) (own_uuid uuid draft at ∙ sym stood.item_is)
                (subst (λ (o : Option ℕ). IsOnLast s a draft.uuid o) (sym shown.base) stands)),
          ))

  again_number : (uuid : Bytes) (draft : Draft) (p : Posted) → draft_at later name uuid ≡ Some draft → draft.posted ≡ Some p
      → One (λ (u : Bytes). u ≡ uuid) says.uuids → IsNumbered draft p
  again_number uuid draft p at is one =
      let was : WasSent mid name uuid = this_one (WasSent mid name) says.uuids uuid all_sent one in
      let now_is : draft_at later name uuid ≡ Some (sent_again (greatest 0 (held_by (device_named mid name))) was.draft was.posted) =
      moved.own uuid was.draft was.posted one was.at was.sent in
      let same : sent_again (greatest 0 (held_by (device_named mid name))) was.draft was.posted ≡ draft =
      one_there (sent_again (greatest 0 (held_by (device_named mid name))) was.draft was.posted) draft (draft_at later name uuid) now_is at in
      let number_is : greatest 0 (held_by (device_named mid name)) ≡ number = ap (λ (found : Option Device). greatest 0 (held_by found)) its.own ∙ most in (
        number,
        again_set (greatest 0 (held_by (device_named mid name))) was.draft was.posted draft p same is ∙ ap Some number_is,
        λ stands. refl,
      )

  own_number : (uuid : Bytes) (draft : Draft) (p : Posted) → draft_at later name uuid ≡ Some draft → draft.posted ≡ Some p → IsNumbered draft p
  own_number uuid draft p at is =
      ⊎_elim (λ (one : One (λ (u : Bytes). u ≡ uuid) says.uuids). again_number uuid draft p at is one)
      (λ (off : ¬ (One (λ (u : Bytes). u ≡ uuid) says.uuids)).
      left_number uuid draft p (sym (draft_mid name uuid) ∙ sym (moved.others name uuid (λ e. off e.1)) ∙ at) is off) (one_or_not says.uuids uuid)

  numbers : (other : Bytes) → NumbersOf later other
  numbers other e b of uuid draft at p is = by (bytes_eq other name) refl
    where
      by : (q : Bool) → bytes_eq other name ≡ q → (k : ℕ) × (p.set ≡ Some k) × (IsOnLast later b draft.uuid draft.base → k ≡ greatest 0 e.held)
      by true same =
          let name_is : other ≡ name = same_text other name same in
          let own = of_own e b (subst (λ (o : Bytes). HasAccount later o e b) name_is of) in
          let k = own_number uuid draft p (subst (λ (o : Bytes). draft_at later o uuid ≡ Some draft) name_is at) is in (
            k.0,
            k.1,
            λ stands. k.2 (subst (λ (c : Account). IsOnLast s c draft.uuid draft.base) (sym own.1) (on_before b draft.uuid draft.base stands)) ∙ sym most
                ∙ ap (λ (z : Device). greatest 0 z.held) own.0,
          )
      by false off =
          let distinct : other ≢ name = λ e. clash (bytes_eq other name) (text_same other name e) off in
          let k =
          h.numbers other e b
          (record {
            device = sym (others other distinct) ∙ of.device;
            account = ap (λ (xs : List Account). find (is_account e.account) xs) (sym accounts) ∙ of.account;
          }) uuid draft (sym (other_draft other uuid distinct) ∙ at) p is in
          (k.0, k.1, λ stands. k.2 (on_before b draft.uuid draft.base stands))

  -- ---- its own row

  holds : HoldsAdopted now x.owner x.sets set token
  holds = adopt_holds before words left set token changes x

  token_after : (e : Device) → device_named later name ≡ Some e → DeviceToken secret now s.accounts e
  token_after e named =
      let same : adopted number d ≡ e = one_there (adopted number d) e (device_named later name) own_device named in
      let was = h.own_tokens name d has.device in
      let owner_is : x.owner ≡ was.owner = one_owner x.owner was.owner (before key.Owner) x.holds.owned was.has in
      let numbered : may.number ≡ was.number =
      apart_of apart s h.reached may.number was.number may.account was.account may.at was.at
      (may.own ∙ ap (λ (z : Device). z.account) same_device ∙ sym was.own) in
      subst (λ (z : Device). DeviceToken secret now s.accounts z) same
      (record {
        owner = holds.later;
        has = holds.holds.owned;
        number = was.number;
        account = was.account;
        at = was.at;
        own = was.own;
        uuid_is = ap (λ (c : OwnerColumns). c.account) holds.columns_are ∙ ap (λ (o : OwnerRow). o.account) owner_is ∙ was.uuid_is;
        is = ap (λ (c : OwnerColumns). c.token) holds.columns_are ∙ may.token_is
            ∙ ap (λ (b : Account). session_token secret may.number (length b.sets)) same_account
            ∙ ap (λ (k : ℕ). session_token secret may.number k) (sym most)
            ∙ ap (λ (k : ℕ). session_token secret k (greatest 0 (adopted number d).held)) numbered;
      })

  -- ---- how far it has pulled

  again : Adopted before x.sets set token x.owner now
  again = rows_adopted before words left set token changes x

  stays : (uuid : Bytes) → StaysAt before now uuid
  stays uuid = record {
    kept = λ stamp k. let now_is = again.there k.0 k.1 k.2.0 in (k.0, now_is.0, (now_is.1, now_is.2.rekeys.uuid_is ∙ k.2.1), now_is.2.rekeys.base_is ∙ k.3);
    none = λ k at local there.
        let was = again.items at local there.0 in
        was.2.rekeys.base_is ∙ k at was.0 (was.1, sym was.2.rekeys.uuid_is ∙ there.1);
  }

  pulls : HasPulled now s.accounts (device_named later name)
  pulls =
      let kept : HasPulled now s.accounts (device_named s name) =
      pulls_kept before now s.accounts (device_named s name)
      (record {
        stays = stays;
        token = alike_put before now x.owner holds.later x.holds.owned holds.holds.owned (ap (λ (c : OwnerColumns). c.sync_token) holds.columns_are);
      }) (h.bases_pulled name) (h.pulled name) in (
        kept.0,
        λ e n b owner text stamp named at own there spelled is uuid.
            let same : adopted number d ≡ e = one_there (adopted number d) e (device_named later name) own_device named in
            kept.1 d n b owner text stamp has.device at (own ∙ sym (ap (λ (z : Device). z.account) same)) there spelled is uuid,
      )

  -- ---- what was sent under the sets before is dead

  token_still : (t : Bytes) → HasToken secret s.accounts (device_named s name) t → HasToken secret s.accounts (device_named later name) t
  token_still t k =
      let same : k.device ≡ d = one_there k.device d (device_named s name) k.named has.device in
      let below : k.generation ≤ greatest 0 d.held = subst (λ (e : Device). k.generation ≤ greatest 0 e.held) same k.held in
      let lower : greatest 0 d.held < number = above in
      let within : k.generation ≤ number = omega arith in
      record {
        number = k.number;
        account = k.account;
        at = k.at;
        device = adopted number d;
        named = own_device;
        own = k.own ∙ ap (λ (e : Device). e.account) same;
        generation = k.generation;
        held = subst (λ (n : ℕ). k.generation ≤ n) (sym most) within;
        is = k.is;
      }

  dead : (t : Bytes) (n : ℕ) → HasToken secret s.accounts (device_named s name) t → IsSession w.server t n → ⊥
  dead t n k session =
      let same : k.device ≡ d = one_there k.device d (device_named s name) k.named has.device in
      let own = device_account apart secret w s h name k.number k.account k.device k.at k.named k.own in
      let its_account : k.account ≡ a =
      one_there k.account a (account_named s d.account) (subst (λ (e : Device). account_named s e.account ≡ Some k.account) same own.account) has.account in
      let greatest_is : greatest 0 k.device.held ≡ length k.account.sets = alive_last apart secret w s h differ name t k n session in
      let is : greatest 0 d.held ≡ number =
      ap (λ (e : Device). greatest 0 e.held) (sym same) ∙ greatest_is ∙ ap (λ (b : Account). length b.sets) its_account in
      let lower : greatest 0 d.held < number = above in
      absurd (omega arith)

  -- ---- all of it

  frame : DeviceFrame secret w now s later name
  frame = record {
    reached = reached;
    accounts = accounts;
    others = others;
    shows = reposts_show now mid name says.uuids adopted_shown.0 all_sent;
    shows_others = λ at other off k.
        shows_alike at s later other (others other off) (λ identifier. ap (λ (xs : List Account). find (is_account identifier) xs) accounts)
        (λ uuid. other_draft other uuid off) k;
    sound = sound;
    older_stale = λ e b of.
        let own = of_own e b of in
        subst (λ (z : Device). OlderStale now b z.held) own.0
        (subst (λ (c : Account). OlderStale now c (greatest 0 d.held ∷ number ∷ [])) own.1 adopted_shown.1);
    numbers = numbers;
    sync_tokens = sync_tokens_kept before now (greatest 0 (stamps_in s.accounts)) x.owner holds.later x.holds.owned holds.holds.owned
        (ap (λ (c : OwnerColumns). c.sync_token) holds.columns_are) (ap (λ (c : OwnerColumns). c.cursor_token) holds.columns_are) (h.sync_tokens name);
    pulls = pulls;
    own_token = token_after;
    tokens = token_still;
    live = λ t n tok session i k. absurd (dead t n tok session);
  }

  pub adopted_so : KeptBy secret next s moves
  adopted_so =
      subst (λ (ms : List Move). KeptBy secret next s ms) (sym says.moves_are) (
        legal_joined s first_moves second_moves first.0 legal_second,
        subst (λ (t : Ideal). Holds secret next t) (sym (end_from-append s first_moves second_moves)) (device_kept secret w next s later name changes h on frame),
      )

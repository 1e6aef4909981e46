-- An answer to a sync that is applied keeps the invariant.
use Rattle.std.proofs.Common.{◌≡◌, ◌⊎◌, ℕ, List, [], ◌∷◌, ◌++◌, map, Option, Some, sym, ap, ◌∙◌, subst, None, refl, inl, inr}
use mathlib.Core.Path.{fun_ext}
use Rattle.std.specs.List.{Contains}
use Rattle.std.proofs.lemmas.List.{append-nil}
use Rattle.std.specs.Prelude.{IsTrue, find, length}
use Rattle.rand_chacha.specs.ChaCha.{ChaCha}
use Rattle.sn_adopted.proofs.Facts.{stale_stays}
use Rattle.sn_adopted.specs.Moves.{IsRetiring, OlderStale}
use Rattle.sn_account.specs.Sessions.{IsSession}
use Rattle.sn_account.specs.Tells.{AreApart, IsStored}
use Rattle.sn_device.specs.Laws.{AreStanding}
use Rattle.sn_device.specs.States.{HasLocal, HasOwner, IsSound, OwnerColumns, text_of_token, token_of}
use Rattle.sn_device.specs.Steps.{Applies, MayRetire, Retires, applies, start}
use Rattle.sn_device.specs.Taking.{Progress, Told, is_conflict, is_retrieved, is_saved, told_by}
use Rattle.sn_conflict.specs.Checks.{HasItsStrings, IsConflict, IsRetrieved, IsSaved}
use Rattle.sn_laws.proofs.Facts.{end_from-append, one_there}
use Rattle.sn_laws.specs.Each.{Each}
use Rattle.sn_laws.specs.Lookups.{Bytes, device_named, held_by, is_account, is_device, last_of}
use Rattle.sn_laws.specs.Moves.{after, allows}
use Rattle.sn_laws.specs.Reached.{IsOneOrTwo}
use Rattle.sn_laws.specs.Relation.{IsLive}
use Rattle.sn_laws.specs.Runs.{end_from}
use Rattle.sn_laws.specs.declared.ideal.Account.{Account}
use Rattle.sn_laws.specs.declared.ideal.Device.{Device}
use Rattle.sn_laws.specs.declared.ideal.Ideal.{Ideal}
use Rattle.sn_laws.specs.declared.ideal.Version.{Version}
use Rattle.sn_laws.specs.declared.moves.Move.{Move}
use Rattle.sn_laws.specs.declared.moves.Move.TheVariants.{Retire}
use Rattle.sn_rows.specs.Facts.{put_here, removed_elsewhere, row_after-append}
use Rattle.sn_rows.specs.Table.{Removes, Rows, rows_after}
use Rattle.sn_rows.specs.declared.change.Change.{Change}
use Rattle.sn_rows.specs.declared.device_rows.LocalItem.{LocalItem}
use Rattle.sn_rows.specs.declared.device_rows.OwnerRow.{OwnerRow}
use Rattle.sn_rows.specs.declared.key.Key.TheVariants as key
use Rattle.sn_rows.specs.declared.key.Slot.TheVariants.{Older}
use Rattle.sn_rows.specs.declared.value.Value.TheVariants as value
use Rattle.sn_shows.proofs.Facts.{holder_of}
use Rattle.sn_shows.specs.Laws.{HasAccount, TokensShow}
use Rattle.sn_string.specs.declared.params.KeySet.{KeySet}
use Rattle.sn_sync.specs.Versions.{item_of, uuids}
use Rattle.sn_sync.specs.declared.answer.Answer.TheVariants as answer
use Rattle.sn_sync.specs.declared.answer.Conflict.{Conflict}
use Rattle.sn_sync.specs.declared.answer.Conflict.TheVariants as conflict
use Rattle.sn_sync.specs.declared.item.Item.{Item}
use Rattle.sn_sync.specs.declared.request.Request.TheVariants as request
use Rattle.sn_world.proofs.DeviceRows.{local_past, one_local, one_owner, posted_same}
use Rattle.sn_world.proofs.DeviceSets.{identifier_of}
use Rattle.sn_world.proofs.Frames.{HasPulled, device_kept, live_kept}
use Rattle.sn_world.proofs.HeldSets.{held_sets}
use Rattle.sn_world.proofs.LegalMoves.{legal_joined}
use Rattle.sn_world.proofs.AccountSets.{nonces_apart}
use Rattle.sn_world.proofs.Retired.{Leaves, framed, leaves_retired, stale_retired}
use Rattle.sn_world.proofs.Unused.{retire_legal}
use Rattle.sn_laws.proofs.Facts.{each_back, each_front}
use Rattle.sn_world.proofs.AppliedPulled.{pulled_up, token_some}
use Rattle.sn_world.proofs.Lists.{each_apart, each_both, each_contained, each_map, each_right, each_unmap, of_each}
use Rattle.sn_world.proofs.PulledAll.{Keeps, MetAt, all_pulled}
use Rattle.sn_world.proofs.Pulls.{stays_on, stays_same}
use Rattle.sn_world.specs.Pulled.{HasBase, PulledAt, PulledTo}
use Rattle.sn_world.proofs.TakenAll.{Good, LinkedAt, NoneSaved, NotSaved, ToldApart, all_told}
use Rattle.sn_world.proofs.TakenFrames.{Along, Took}
use Rattle.sn_world.proofs.TakenMet.{TakingLaws}
use Rattle.sn_laws.specs.Lookups.{greatest}
use Rattle.sn_rows.specs.declared.value.Value.{Value}
use Rattle.sn_shows.specs.Servers.{ShowsItem, ShowsStore, account_at, stamps_in}
use Rattle.sn_sync.specs.Tokens.{IsToken}
use Rattle.sn_world.proofs.Started.{nobody}
use Rattle.sn_world.specs.Holds.{IsTokenBelow, TokensBelow}
use Rattle.std.proofs.Common.{◌<◌, ◌≤◌}
use Rattle.sn_world.proofs.Tokens.{apart_of, device_account, token_session}
use Rattle.sn_world.specs.Applying.{SaysApplied, Tells}
use Rattle.sn_world.specs.Holds.{DeviceToken, HasToken, Holds, StaleOf, TokensDiffer}
use Rattle.sn_world.specs.Laws.{KeptBy}
use Rattle.sn_world.specs.Live.{LiveItem}
use Rattle.sn_world.specs.Making.{IsSentBy, IsSentOf}
use Rattle.sn_world.specs.World.{OnDevice, World}

-- of those that aren't saved
each_unsaved : (P : Told → Type 0) → ((t : Told) → NoneSaved t → P t) → (conflicts : List Conflict) (retrieved : List Item)
    → Each P (map is_conflict conflicts ++ map is_retrieved retrieved)
each_unsaved P f [] [] = tt
each_unsaved P f [] (i ∷ is) = (f (is_retrieved i) tt, each_unsaved P f [] is)
each_unsaved P f (c ∷ cs) retrieved = (f (is_conflict c) tt, each_unsaved P f cs retrieved)

not_saved : (uuid : Bytes) (t : Told) → NoneSaved t → NotSaved uuid t
not_saved uuid (is_saved i) none = absurd none
not_saved uuid (is_conflict c) none = tt
not_saved uuid (is_retrieved i) none = tt

rest_apart : (conflicts : List Conflict) (retrieved : List Item) → ToldApart (map is_conflict conflicts ++ map is_retrieved retrieved)
rest_apart (c ∷ cs) retrieved = (each_unsaved NoneSaved (λ t none. none) cs retrieved, rest_apart cs retrieved)
rest_apart [] [] = tt
rest_apart [] (i ∷ is) = (each_unsaved NoneSaved (λ t none. none) [] is, rest_apart [] is)

told_apart : (saved : List Item) (conflicts : List Conflict) (retrieved : List Item) → AreApart (uuids saved) → ToldApart (told_by saved conflicts retrieved)
told_apart [] conflicts retrieved apart = rest_apart conflicts retrieved
told_apart (i ∷ is) conflicts retrieved apart = (
  each_both (NotSaved i.uuid) (map is_saved is) (map is_conflict conflicts ++ map is_retrieved retrieved)
      (each_map is_saved (NotSaved i.uuid) is (each_apart (λ (j : Item). j.uuid) i.uuid is apart.0))
      (each_unsaved (NotSaved i.uuid) (not_saved i.uuid) conflicts retrieved),
  told_apart is conflicts retrieved apart.1,
)

-- what is sent of a row has its uuid
sent_uuid : (local : LocalItem) (i : Item) → IsSentBy local i → i.uuid ≡ local.uuid
sent_uuid local i (inl posted) = posted.0.uuid_is
sent_uuid local i (inr again) = again.0.uuid_is

each_two : {A : Type 0} (P Q R : A → Type 0) → ((x : A) → P x → Q x → R x) → (xs : List A) → Each P xs → Each Q xs → Each R xs
each_two P Q R f [] h k = tt
each_two P Q R f (x ∷ xs) h k = (f x h.0 k.0, each_two P Q R f xs h.1 k.1)

module _ (laws : TakingLaws) (tokens_law : TokensShow) (secret : Bytes) (w next : World) (s : Ideal) (differ : TokensDiffer secret)
    (h : Holds secret w s) (name : Bytes) (words left : ChaCha) (sent : List Item) (conflicts : List Conflict) (cursor : Option Bytes)
    (retrieved saved : List Item) (token : Bytes) (changes : List Change) (moves : List Move)
    (x : Applies (w.devices name) words sent conflicts cursor retrieved saved token changes left)
    (may : Tells w.server (w.devices name) s name sent conflicts cursor retrieved saved token)
    (says : SaysApplied (w.devices name) (held_by (device_named s name)) name conflicts cursor retrieved saved token changes moves)
    (sound : IsSound (rows_after (w.devices name) changes)) (on : OnDevice w next name changes) where
  abbrev rows : Rows
  rows = w.devices name

  abbrev n : ℕ
  n = may.number

  abbrev a : Account
  a = may.account

  abbrev d : Device
  d = may.device

  has : HasAccount s name d a
  has = device_account laws.apart secret w s h name n a d may.at may.named may.own

  abbrev p : Progress
  p = start rows says.owner says.words

  -- ---- what is known of each entry

  linked : (i : Item) → Contains saved i → LinkedAt rows i
  linked i among number local stands =
      let is = (may.tells.saved_are i among).1 in
      let row : IsSentOf rows is.0 = of_each (IsSentOf rows) sent may.sent_of is.0 is.1 in
      let same_number : row.0 ≡ number = (h.sound name).locals.apart row.0 number row.1 local row.2 stands.0
      (sym (sent_uuid row.1 is.0 row.3) ∙ sym is.2.uuid ∙ sym stands.1) in
      let same : row.1 ≡ local = one_local row.1 local (rows (key.Local number)) (subst (λ (k : ℕ). HasLocal rows k row.1) same_number row.2) stands.0 in
      (is.0, subst (λ (l : LocalItem). IsSentBy l is.0) same row.3, is.2)

  saved_good : Each (λ (i : Item). Good w.server n saved rows (is_saved i)) saved
  saved_good =
      each_two HasItsStrings (λ (i : Item). IsStored w.server n i × LinkedAt rows i) (λ (i : Item). Good w.server n saved rows (is_saved i))
      (λ i strings k. (k.0, strings, k.1)) saved
      (each_right (IsSaved sent) HasItsStrings (λ before i r. r.strings) saved x.passes.lists.named.saved_are)
      (each_contained (λ (i : Item). IsStored w.server n i × LinkedAt rows i) saved (λ i among. ((may.tells.saved_are i among).0, linked i among)))

  conflict_good : (c : Conflict) → HasItsStrings (item_of c) → Contains conflicts c → Good w.server n saved rows (is_conflict c)
  conflict_good (conflict.Sync i) strings among = ((may.tells.conflicts_are (conflict.Sync i) among).0, strings)
  conflict_good (conflict.Uuid i) strings among = ((may.tells.conflicts_are (conflict.Uuid i) among).1, strings)
  conflict_good (conflict.Content i) strings among = strings

  conflicts_good : Each (λ (c : Conflict). Good w.server n saved rows (is_conflict c)) conflicts
  conflicts_good =
      each_two (λ (c : Conflict). HasItsStrings (item_of c)) (λ (c : Conflict). Contains conflicts c) (λ (c : Conflict). Good w.server n saved rows (is_conflict c))
      (λ c strings among. conflict_good c strings among) conflicts
      (each_right (IsConflict sent saved) (λ (c : Conflict). HasItsStrings (item_of c)) (λ before c r. r.strings) conflicts x.passes.lists.named.conflicts_are)
      (each_contained (λ (c : Conflict). Contains conflicts c) conflicts (λ c among. among))

  retrieved_good : Each (λ (i : Item). Good w.server n saved rows (is_retrieved i)) retrieved
  retrieved_good =
      each_two HasItsStrings (λ (i : Item). IsStored w.server n i ⊎ Contains (uuids saved) i.uuid) (λ (i : Item). Good w.server n saved rows (is_retrieved i))
      (λ i strings k. (k, strings)) retrieved
      (each_right IsRetrieved HasItsStrings (λ before i r. r.strings) retrieved x.passes.lists.retrieved_are)
      (each_contained (λ (i : Item). IsStored w.server n i ⊎ Contains (uuids saved) i.uuid) retrieved may.tells.retrieved_are)

  all_good : Each (Good w.server n saved rows) (told_by saved conflicts retrieved)
  all_good =
      each_both (Good w.server n saved rows) (map is_saved saved) (map is_conflict conflicts ++ map is_retrieved retrieved)
      (each_map is_saved (Good w.server n saved rows) saved saved_good)
      (each_both (Good w.server n saved rows) (map is_conflict conflicts) (map is_retrieved retrieved)
      (each_map is_conflict (Good w.server n saved rows) conflicts conflicts_good) (each_map is_retrieved (Good w.server n saved rows) retrieved retrieved_good))

  -- ---- all of them

  standing : AreStanding says.owner.next rows
  standing = record {
    numbered = λ number local there. (h.sound name).locals.numbered says.owner number local says.holds.owned there;
    apart = (h.sound name).locals.apart;
    items = (h.sound name).locals.items;
  }

  along : Along w.server name n a d says.owner says.sets p s
  along = record {
    reached = h.reached;
    accounts = h.server.all;
    at = may.at;
    has = has;
    shows = h.devices name;
    holds = says.holds;
    standing = standing;
    kinds = λ k v e. (h.sound name).device.kinds k v e;
    numbers = h.numbers;
  }

  took : Took w.server name n a d says.owner says.sets p says.end s says.first
  took =
      all_told laws w.server name n a d says.owner says.sets saved (told_by saved conflicts retrieved) p says.end s says.first along
      all_good (told_apart saved conflicts retrieved may.tells.saved_apart) says.told

  -- ---- and the device's own row behind them

  abbrev later : Ideal
  later = end_from s says.first

  abbrev mid : Rows
  mid = says.end.rows

  abbrev new : OwnerRow
  new = says.counted_is.owner

  after_is : rows_after rows changes ≡ rows_after (rows_after mid (says.counted ∷ [])) says.retired
  after_is =
      ap (rows_after rows) (says.changes_are ∙ ap (λ (c : List Change). c ++ says.counted ∷ says.retired) took.changes)
      ∙ fun_ext (λ k. row_after-append (rows k) k took.made (says.counted ∷ says.retired))
      ∙ ap (λ (r : Rows). rows_after r (says.counted ∷ says.retired)) (sym took.rows)

  same_device : (other : Bytes) → device_named later other ≡ device_named s other
  same_device other = ap (find (is_device other)) took.devices

  here : rows_after mid (says.counted ∷ []) key.Owner ≡ Some (value.Owner new)
  here = put_here mid says.counted key.Owner (value.Owner new) says.counted_is.puts_it

  token_after : (e : Device) → device_named later name ≡ Some e → DeviceToken secret (rows_after mid (says.counted ∷ [])) s.accounts e
  token_after e named =
      let was = h.own_tokens name e (sym (same_device name) ∙ named) in
      let same : says.owner ≡ was.owner = one_owner says.owner was.owner (rows key.Owner) says.holds.owned was.has in
      record {
        owner = new;
        has = here;
        number = was.number;
        account = was.account;
        at = was.at;
        own = was.own;
        uuid_is = ap (λ (c : OwnerColumns). c.account) says.counted_is.columns_are ∙ ap (λ (o : OwnerRow). o.account) same ∙ was.uuid_is;
        is = ap (λ (c : OwnerColumns). c.token) says.counted_is.columns_are ∙ ap (λ (o : OwnerRow). o.token) same ∙ was.is;
      }

  -- the answer's tokens are of a stamp that was given
  stamp_given : may.tells.stamp ≤ greatest 0 (stamps_in s.accounts)
  stamp_given = by (w.server key.Store) refl h.server.store
    where
      by : (found : Option Value) → w.server key.Store ≡ found → ShowsStore found s.accounts → may.tells.stamp ≤ greatest 0 (stamps_in s.accounts)
      by None e none = absurd (nobody n s.accounts a none may.at)
      by (Some v) e shown =
          let within : may.tells.stamp ≤ shown.0.last = may.tells.given shown.0 (e ∙ ap Some shown.1) in
          subst (λ (k : ℕ). may.tells.stamp ≤ k) shown.2 within

  below : (text : Bytes) → IsToken text may.tells.stamp → IsTokenBelow (token_of text) (greatest 0 (stamps_in s.accounts))
  below [] is = tt
  below (byte ∷ bytes) is = (may.tells.stamp, is, stamp_given)

  cursor_same : (found : Option Bytes) → (found ≡ None) ⊎ (found ≡ Some token) → (token_of (text_of_token found) ≡ None) ⊎ (token_of (text_of_token found) ≡ token_of token)
  cursor_same found (inl none) = inl (ap (λ (o : Option Bytes). token_of (text_of_token o)) none)
  cursor_same found (inr same) = inr (ap (λ (o : Option Bytes). token_of (text_of_token o)) same)

  tokens_after : TokensBelow (rows_after mid (says.counted ∷ [])) (greatest 0 (stamps_in s.accounts))
  tokens_after holder has_owner =
      let is : holder ≡ new = one_owner holder new (rows_after mid (says.counted ∷ []) key.Owner) has_owner here in
      let sync : token ≡ holder.sync_token = sym (ap (λ (o : OwnerRow). o.sync_token) is ∙ ap (λ (c : OwnerColumns). c.sync_token) says.counted_is.columns_are) in
      let page : text_of_token cursor ≡ holder.cursor_token =
      sym (ap (λ (o : OwnerRow). o.cursor_token) is ∙ ap (λ (c : OwnerColumns). c.cursor_token) says.counted_is.columns_are) in (
        subst (λ (t : Bytes). IsTokenBelow (token_of t) (greatest 0 (stamps_in s.accounts))) sync (below token may.tells.token_is),
        subst (λ (t : Bytes). (token_of holder.cursor_token ≡ None) ⊎ (token_of holder.cursor_token ≡ token_of t)) sync
            (subst (λ (c : Bytes). (token_of c ≡ None) ⊎ (token_of c ≡ token_of token)) page (cursor_same cursor may.tells.cursor_is)),
      )

  -- ---- how far it has pulled

  pulled_all : Keeps a rows mid × Each (MetAt mid a saved) (told_by saved conflicts retrieved)
  pulled_all =
      all_pulled laws w.server name n a d says.owner says.sets saved (told_by saved conflicts retrieved) p says.end s says.first along
      all_good (told_apart saved conflicts retrieved may.tells.saved_apart) says.told

  pulled_mid : (uuid : Bytes) → PulledAt mid a may.tells.stamp uuid
  pulled_mid =
      pulled_up secret w s h name sent conflicts cursor retrieved saved token may says.owner says.holds.owned mid pulled_all.0
      (each_unmap is_saved (MetAt mid a saved) saved (each_front (MetAt mid a saved) (map is_saved saved) (map is_conflict conflicts ++ map is_retrieved retrieved) pulled_all.1))
      (each_unmap is_retrieved (MetAt mid a saved) retrieved
      (each_back (MetAt mid a saved) (map is_conflict conflicts) (map is_retrieved retrieved)
      (each_back (MetAt mid a saved) (map is_saved saved) (map is_conflict conflicts ++ map is_retrieved retrieved) pulled_all.1)))

  token_now : (holder : OwnerRow) → HasOwner (rows_after mid (says.counted ∷ [])) holder → token_of holder.sync_token ≡ Some token
  token_now holder has_owner =
      let is : holder ≡ new = one_owner holder new (rows_after mid (says.counted ∷ []) key.Owner) has_owner here in
      ap token_of (ap (λ (o : OwnerRow). o.sync_token) is ∙ ap (λ (c : OwnerColumns). c.sync_token) says.counted_is.columns_are)
      ∙ token_some token may.tells.stamp may.tells.token_is

  pulls : HasPulled (rows_after mid (says.counted ∷ [])) s.accounts (device_named later name)
  pulls = (λ holder has_owner none uuid. let some : token_of holder.sync_token ≡ Some token = token_now holder has_owner in absurd (cc), pulled)
    where
      pulled : PulledTo (rows_after mid (says.counted ∷ [])) s.accounts (device_named later name)
      pulled e number b holder text stamp named at own has_owner is spelled uuid =
          let device : d ≡ e = one_there d e (device_named s name) may.named (sym (same_device name) ∙ named) in
          let number_same : n ≡ number =
          apart_of laws.apart s h.reached n number a b may.at at (may.own ∙ ap (λ (z : Device). z.account) device ∙ sym own) in
          let account : a ≡ b = one_there a b (account_at number s.accounts) (subst (λ (k : ℕ). account_at k s.accounts ≡ Some a) number_same may.at) at in
          let same : token ≡ text = one_there token text (token_of holder.sync_token) (token_now holder has_owner) is in
          let stamp_is : may.tells.stamp ≡ stamp =
          laws.one_token text may.tells.stamp stamp (subst (λ (t : Bytes). IsToken t may.tells.stamp) same may.tells.token_is) spelled in
          stays_on mid (rows_after mid (says.counted ∷ [])) b stamp uuid
          (stays_same mid (rows_after mid (says.counted ∷ [])) (local_past mid says.counted (value.Owner new) says.counted_is.puts_it) uuid)
          (subst (λ (k : ℕ). PulledAt mid b k uuid) stamp_is (subst (λ (c : Account). PulledAt mid c may.tells.stamp uuid) account (pulled_mid uuid)))

  -- a request of this device that is alive is of its account
  number_is : (t : Bytes) (k : ℕ) → HasToken secret s.accounts (device_named s name) t → IsSession w.server t k → n ≡ k
  number_is t k tok session =
      let number : tok.number ≡ k = (token_session laws.apart secret w s h differ name t tok k session).0 in
      let device : tok.device ≡ d = one_there tok.device d (device_named s name) tok.named may.named in
      apart_of laws.apart s h.reached n tok.number a tok.account may.at tok.at (may.own ∙ sym (tok.own ∙ ap (λ (z : Device). z.account) device)) ∙ number

  frame : Leaves secret w (rows_after mid (says.counted ∷ [])) s later name
  frame = record {
    reached = took.along.reached;
    accounts = took.accounts;
    others = λ other off. same_device other;
    shows = tokens_law mid later name d a says.counted took.along.shows took.along.has (record {
      row = new;
      puts = says.counted_is.puts_it;
      identifier = ap (λ (c : OwnerColumns). c.identifier) says.counted_is.columns_are
          ∙ identifier_of rows s name d a says.owner (holder_of rows s name d a (h.devices name) has) says.holds.owned;
    });
    shows_others = took.others;
    numbers = took.along.numbers;
    own_token = token_after;
    sync_tokens = tokens_after;
    pulls = pulls;
    tokens = λ t k. subst (λ (o : Option Device). HasToken secret s.accounts o t) (sym (same_device name)) k;
    live = λ t k tok session i was.
        let same : n ≡ k = number_is t k tok session in
        live_kept mid (rows_after mid (says.counted ∷ [])) (posted_same mid (rows_after mid (says.counted ∷ [])) (local_past mid says.counted (value.Owner new) says.counted_is.puts_it))
        (w.server (key.Item i.uuid)) s.accounts k i
        (subst (λ (m : ℕ). LiveItem (w.server (key.Item i.uuid)) mid s.accounts m i) same
        (took.live i (subst (λ (m : ℕ). LiveItem (w.server (key.Item i.uuid)) rows s.accounts m i) (sym same) was)));
  }

  -- ---- rows of an older set

  held : IsOneOrTwo (length a.sets) d.held
  held = held_sets s h.reached name d a has

  -- rows of which the server's version is of the older set are to be sent again
  stale : OlderStale (rows_after rows changes) a d.held
  stale =
      stale_stays rows words left (applies (request.Sync [] sent 0 None None) (answer.Sync conflicts cursor retrieved saved token)) changes s name d a
      (h.sound name)
      (h.devices name) has held (nonces_apart s h.reached n a may.at) (h.older_stale name d a has) tt x

  kept_none : says.retired ≡ [] → says.later ≡ [] → KeptBy secret next s moves
  kept_none none unsaid = subst (λ (ms : List Move). KeptBy secret next s ms) (sym (moves_are ∙ append-nil says.first)) (took.legal, holds)
    where
      moves_are : moves ≡ says.first ++ []
      moves_are = says.moves_are ∙ ap (λ (ms : List Move). says.first ++ ms) unsaid

      rows_are : rows_after rows changes ≡ rows_after mid (says.counted ∷ [])
      rows_are = after_is ∙ ap (rows_after (rows_after mid (says.counted ∷ []))) none

      stale_now : StaleOf (rows_after rows changes) later name
      stale_now e b own =
          let device : d ≡ e = one_there d e (device_named later name) took.along.has.device own.device in
          let account : a ≡ b = one_there a b (find (is_account e.account) later.accounts)
          (subst (λ (z : Device). find (is_account z.account) later.accounts ≡ Some a) device took.along.has.account) own.account in
          subst (λ (z : Account). OlderStale (rows_after rows changes) z e.held) account
          (subst (λ (z : Device). OlderStale (rows_after rows changes) a z.held) device stale)

      holds : Holds secret next later
      holds =
          device_kept secret w next s later name changes h on
          (framed secret w (rows_after rows changes) s later name (subst (λ (r : Rows). Leaves secret w r s later name) (sym rows_are) frame) sound stale_now)

  -- ---- the older set goes

  -- a row is as it was before that
  mid_local : (change : Change) → Removes change (key.Set Older) → says.retired ≡ change ∷ [] → (number : ℕ)
      → rows_after rows changes (key.Local number) ≡ mid (key.Local number)
  mid_local change gone is number =
      ap (λ (r : Rows). r (key.Local number)) (after_is ∙ ap (rows_after (rows_after mid (says.counted ∷ []))) is)
      ∙ removed_elsewhere (rows_after mid (says.counted ∷ [])) change (key.Set Older) (key.Local number) gone (λ e. cc)
      ∙ local_past mid says.counted (value.Owner new) says.counted_is.puts_it number

  kept_retired : (set : KeySet) → MayRetire mid cursor set → (change : Change) → Removes change (key.Set Older) → says.retired ≡ change ∷ []
      → (older present : ℕ)
      → held_by (device_named s name) ≡ older ∷ present ∷ [] → says.later ≡ Retire name older ∷ [] → KeptBy secret next s moves
  kept_retired set may_go change gone is older present held_is said =
      subst (λ (ms : List Move). KeptBy secret next s ms) (sym (says.moves_are ∙ ap (λ (ms : List Move). says.first ++ ms) said)) (
        legal_joined s says.first (Retire name older ∷ []) took.legal (legal, tt),
        subst (λ (t : Ideal). Holds secret next t) (sym (end_from-append s says.first (Retire name older ∷ []))) holds,
      )
    where
      two : d.held ≡ older ∷ present ∷ []
      two = sym (ap held_by may.named) ∙ held_is

      less : older < present
      less = (subst (IsOneOrTwo (length a.sets)) two held).1

      rows_are : rows_after rows changes ≡ rows_after (rows_after mid (says.counted ∷ [])) (change ∷ [])
      rows_are = after_is ∙ ap (rows_after (rows_after mid (says.counted ∷ []))) is

      stale_mid : OlderStale mid a (older ∷ present ∷ [])
      stale_mid local item strings text there is_body opens =
          (subst (λ (ns : List ℕ). OlderStale (rows_after rows changes) a ns) two stale) local item strings text
          (mid_local change gone is local ∙ there) is_body opens

      -- each undeleted last version is the base of a row, since no page is left
      whole : (uuid : Bytes) (v : Version) → last_of uuid a.versions ≡ Some v → IsLive v.body → HasBase mid uuid v.stamp
      whole uuid v last alive =
          let its : ShowsItem w.server n a uuid v = (h.server.all.each n a may.at).items uuid v last in
          (pulled_mid uuid).live v last
          (subst (λ (k : ℕ). k ≤ may.tells.stamp) its.updated (may.tells.whole may_go.0 uuid its.row its.stands its.account)) alive

      legal : IsTrue (allows later (Retire name older))
      legal =
          retire_legal laws.rise mid later name n a d took.along.reached took.along.at took.along.shows took.along.has older present
          two less stale_mid set may_go.1 whole

      gone_frame : Leaves secret w (rows_after (rows_after mid (says.counted ∷ [])) (change ∷ [])) s (after later (Retire name older)) name
      gone_frame =
          leaves_retired secret w (rows_after mid (says.counted ∷ [])) s later name frame d a took.along.has older present two less change gone legal

      gone_stale : StaleOf (rows_after (rows_after mid (says.counted ∷ [])) (change ∷ [])) (after later (Retire name older)) name
      gone_stale =
          stale_retired secret w (rows_after mid (says.counted ∷ [])) s later name frame d a took.along.has older present two less change gone legal

      holds : Holds secret next (after later (Retire name older))
      holds =
          device_kept secret w next s (after later (Retire name older)) name changes h on
          (framed secret w (rows_after rows changes) s (after later (Retire name older)) name
          (subst (λ (r : Rows). Leaves secret w r s (after later (Retire name older)) name) (sym rows_are) gone_frame) sound
          (subst (λ (r : Rows). StaleOf r (after later (Retire name older)) name) (sym rows_are) gone_stale))

  pub applied_so : KeptBy secret next s moves
  applied_so = by says.sets.older says.retires says.retiring
    where
      by : (older : Option KeySet) → Retires mid cursor older says.retired → IsRetiring mid cursor older name (held_by (device_named s name)) says.later
          → KeptBy secret next s moves
      by None none unsaid = kept_none none unsaid
      by (Some set) (inl (may_go, (change, gone, is))) (inl (goes, (older, present, held_is, said))) =
          kept_retired set may_go change gone is older present held_is said
      by (Some set) (inl (may_go, removed)) (inr (may_not, unsaid)) = absurd (may_not may_go)
      by (Some set) (inr (may_not, none)) (inl (may_go, said)) = absurd (may_not may_go)
      by (Some set) (inr (may_not, none)) (inr (stays, unsaid)) = kept_none none unsaid

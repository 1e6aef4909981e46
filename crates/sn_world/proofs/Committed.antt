-- A commit of a device, of any kind, keeps the invariant.
use Rattle.std.proofs.Common.{◌≡◌, ◌≢◌, ◌⊎◌, ℕ, List, [], ◌∷◌, Option, Some, None, refl, sym, ap, ◌∙◌, subst, inl, inr, ⊎_elim}
use Rattle.std.specs.Prelude.{IsSome}
use Rattle.rand_chacha.specs.ChaCha.{ChaCha}
use Rattle.sn_laws.specs.Lookups.{Bytes, device_named, greatest, held_by}
use Rattle.sn_laws.specs.Reached.{NumbersHeld}
use Rattle.sn_laws.specs.Relation.{HasLive, IsPlain, MayDelete as DeletionAllowed, MayWrite}
use Rattle.sn_laws.specs.declared.ideal.Account.{Account}
use Rattle.sn_laws.specs.declared.ideal.Content.{Content}
use Rattle.sn_laws.specs.declared.ideal.Content.TheVariants as content
use Rattle.sn_laws.specs.declared.ideal.Draft.{Draft}
use Rattle.sn_laws.specs.declared.ideal.Ideal.{Ideal}
use Rattle.sn_laws.specs.declared.ideal.Posted.{Posted}
use Rattle.sn_laws.specs.declared.moves.Move.{Move}
use Rattle.sn_laws.specs.declared.moves.Move.TheVariants.{Drop, Edit}
use Rattle.sn_rows.specs.Table.{Removes, rows_after}
use Rattle.sn_rows.specs.declared.body.RowBody.{RowBody}
use Rattle.sn_rows.specs.declared.body.RowBody.TheVariants as row
use Rattle.sn_rows.specs.declared.change.Change.{Change}
use Rattle.sn_rows.specs.declared.device_rows.LocalItem.{LocalItem}
use Rattle.sn_rows.specs.declared.key.Key.TheVariants as key
use Rattle.sn_shows.proofs.Facts.{holder_of}
use Rattle.sn_shows.specs.Devices.{ShowsBase, ShowsContent, ShowsDraft, ShowsDrafted, ShowsLocal, ShowsPosted}
use Rattle.sn_items.specs.Items.{OpensItem}
use Rattle.sn_sets.specs.Sets.{sealed_of}
use Rattle.sn_laws.specs.declared.ideal.Device.{Device}
use Rattle.sn_device.specs.Sending.{PutsColumns}
use Rattle.sn_shows.specs.Laws.{AccountsApart, EditKeeps, EditedShows, HasAccount, JoinKeeps, JoinedShows, PostKeeps, PostedShows, TokensShow}
use Rattle.sn_string.specs.declared.params.KeySet.{KeySet}
use Rattle.sn_sync.specs.declared.answer.Answer.{Answer}
use Rattle.sn_sync.specs.declared.answer.Answer.TheVariants as answer
use Rattle.sn_sync.specs.declared.request.Request.{Request}
use Rattle.sn_sync.specs.declared.request.Request.TheVariants as request
use Rattle.sn_world.proofs.Adopted.{adopted_so}
use Rattle.sn_world.proofs.AppliedAnswer.{applied_so}
use Rattle.sn_world.proofs.Asked.{asked_so, forgot_so}
use Rattle.sn_world.proofs.Begun.{begun_so}
use Rattle.sn_world.proofs.TakenMet.{TakingLaws}
use Rattle.sn_world.specs.Applying.{MayApply, SaysAnswer}
use Rattle.sn_world.proofs.DeviceRows.{one_local}
use Rattle.sn_world.proofs.DeviceSets.{account_is, present_at}
use Rattle.sn_world.proofs.Dropped.{dropped_so}
use Rattle.sn_world.proofs.Edited.{edit_kept, has_live}
use Rattle.sn_world.proofs.HeldSets.{stale_kept}
use Rattle.sn_world.proofs.Posted.{posts_all}
use Rattle.sn_world.proofs.PutNew.{put_so}
use Rattle.sn_world.proofs.Renewed.{renewed}
use Rattle.sn_world.specs.Committing.{MayCommit, SaysCommit, SaysDeletion, SaysEdit}
use Rattle.sn_world.specs.Holds.{Holds, StaleOf, TokensDiffer}
use Rattle.sn_world.specs.Laws.{KeepsCommitting, KeptBy}
use Rattle.sn_device.specs.Laws.{StepsStaySound}
use Rattle.sn_device.specs.States.{HasItem, HasLocal, IsSound, columns}
use Rattle.sn_device.specs.Steps.{AppliesTo, Deletes, Edits, IsContent, IsUnknown, Step, What, adopts, applies, asks, begins, deletes, drafted, edits, forgets, posts, puts, renews}
use Rattle.sn_world.specs.World.{OnDevice, World}

-- the laws of the crates below that speak of a device's rows, and of what it sent
pub record DeviceLaws : Type 0 where
  pub apart : AccountsApart
  pub joined : JoinedShows
  pub join_keeps : JoinKeeps
  pub tokens : TokensShow
  pub edited : EditedShows
  pub edit_keeps : EditKeeps
  pub posted : PostedShows
  pub post_keeps : PostKeeps
  pub sound : StepsStaySound
  pub numbers : NumbersHeld
  pub taking : TakingLaws

-- a draft that isn't deleted in its row isn't in the ideal state
plain_of : (sets : List KeySet) (number : ℕ) (uuid : Bytes) (b : RowBody) (c : Content) → b ≢ row.Deleted → ShowsContent sets number uuid b c → IsPlain c
plain_of sets number uuid (row.Sealed strings) (content.Plain text) some h = tt
plain_of sets number uuid (row.Sealed strings) content.Deleted some h = h
plain_of sets number uuid row.Deleted c some h = absurd (some refl)

-- something was sent of the row, where something was sent of the draft
posted_both : (sets : List KeySet) (number : ℕ) (uuid : Bytes) (found : Option RowBody) (o : Option Posted) → ShowsPosted sets number uuid found o → found ≢ None → o ≢ None
posted_both sets number uuid None o h some e = some refl
posted_both sets number uuid (Some b) None h some e = h
posted_both sets number uuid (Some b) (Some p) h some e = cc

base_live : (a : Account) (g : ℕ) (local : LocalItem) (base : Option ℕ) → ShowsBase a g local base → (stamp : ℕ) → base ≡ Some stamp → HasLive a local.uuid local.kind stamp
base_live a g local None h stamp e = absurd (cc)
base_live a g local (Some base) h stamp e = let same : base ≡ stamp = cc in subst (λ (k : ℕ). HasLive a local.uuid local.kind k) same (has_live a g local base h)

nothing : IsSome {T = RowBody} None → ⊥
nothing h = absurd (cc)

-- a row without a draft stands on a version
base_some : (a : Account) (g : ℕ) (local : LocalItem) (base : Option ℕ) → ShowsBase a g local base → local.latest ≡ None → (stamp : ℕ) × (base ≡ Some stamp)
base_some a g local None h none = absurd (nothing (subst (λ (o : Option RowBody). IsSome o) none h.1))
base_some a g local (Some stamp) h none = (stamp, refl)

-- an edit to a text is allowed
text_allowed : (s : Ideal) (name : Bytes) (d : Device) (acc : Account) (local : LocalItem) (text : Bytes) → HasAccount s name d acc
    → ShowsLocal s name (greatest 0 d.held) acc local → IsContent text → local.latest ≢ Some row.Deleted
    → MayWrite s name local.uuid local.kind local.base text
text_allowed s name d acc local text has shown is some = record {
  account = acc;
  has = account_is s name d acc has;
  short = is.0;
  object = is.1;
  new = λ none stamp e. base_live acc (greatest 0 d.held) local local.base shown.base stamp e;
  there = λ draft at. of draft (subst (λ (o : Option Draft). ShowsDrafted acc.sets (greatest 0 d.held) local o) at shown.draft);
}
  where
    of : (draft : Draft) → ShowsDraft acc.sets (greatest 0 d.held) local draft → (draft.kind ≡ local.kind) × (draft.base ≡ local.base) × IsPlain draft.latest
    of draft k = (
      sym k.kind,
      sym k.base,
      plain_of acc.sets (greatest 0 d.held) local.uuid k.latest draft.latest (λ e. some (k.latest_is ∙ ap Some e)) k.content,
    )

-- and one to a deletion, of an item that a server may know
deletion_allowed : (s : Ideal) (name : Bytes) (d : Device) (acc : Account) (local : LocalItem) → HasAccount s name d acc
    → ShowsLocal s name (greatest 0 d.held) acc local → ¬ (IsUnknown local) → DeletionAllowed s name local.uuid local.kind local.base
deletion_allowed s name d acc local has shown known = record {
  account = acc;
  has = account_is s name d acc has;
  new = λ none.
      let drafted : ShowsDrafted acc.sets (greatest 0 d.held) local None = subst (λ (o : Option Draft). ShowsDrafted acc.sets (greatest 0 d.held) local o) none shown.draft in
      let base = base_some acc (greatest 0 d.held) local local.base shown.base drafted.0 in
      (base.0, base.1, base_live acc (greatest 0 d.held) local local.base shown.base base.0 base.1);
  there = λ draft at. of draft (subst (λ (o : Option Draft). ShowsDrafted acc.sets (greatest 0 d.held) local o) at shown.draft);
}
  where
    known_so : (draft : Draft) → ShowsDraft acc.sets (greatest 0 d.held) local draft → (base : Option ℕ) → draft.base ≡ base
        → (draft.base ≢ None) ⊎ (draft.posted ≢ None)
    known_so draft k (Some stamp) e = inl (λ none. cc)
    known_so draft k None e =
        inr (posted_both acc.sets (greatest 0 d.held) local.uuid local.posted draft.posted k.posted (λ unsent. known (k.base ∙ e, unsent)))

    of : (draft : Draft) → ShowsDraft acc.sets (greatest 0 d.held) local draft
        → (draft.kind ≡ local.kind) × (draft.base ≡ local.base) × ((draft.base ≢ None) ⊎ (draft.posted ≢ None))
    of draft k = (sym k.kind, sym k.base, known_so draft k draft.base refl)

module _ (laws : DeviceLaws) (secret : Bytes) (w next : World) (s : Ideal) (h : Holds secret w s) (name : Bytes) where
  -- the row of the item is this
  one_row : (uuid : Bytes) (number other : ℕ) (local twin : LocalItem) → HasItem (w.devices name) uuid number local → HasItem (w.devices name) uuid other twin
      → local ≡ twin
  one_row uuid number other local twin stands there =
      let same : number ≡ other = (h.sound name).locals.apart number other local twin stands.0 there.0 (stands.1 ∙ sym there.1) in
      one_local local twin (w.devices name (key.Local other)) (subst (λ (k : ℕ). HasLocal (w.devices name) k local) same stands.0) there.0

  -- the row that the move speaks of is the one that is changed
  said_edit : (uuid : Bytes) (number : ℕ) (local : LocalItem) → HasItem (w.devices name) uuid number local → (text : Content) (moves : List Move)
      → SaysEdit (w.devices name) name uuid text moves → Edit name local.uuid local.kind local.base text ∷ [] ≡ moves
  said_edit uuid number local stands text moves (other, twin, there, is) =
      let same : local ≡ twin = one_row uuid number other local twin stands there in
      ap (λ (u : Bytes). Edit name u local.kind local.base text ∷ []) stands.1 ∙ ap (λ (l : LocalItem). Edit name uuid l.kind l.base text ∷ []) same ∙ sym is

  edited_by : (words left : ChaCha) (uuid text : Bytes) (changes : List Change) (moves : List Move) (x : Edits (w.devices name) words uuid text changes left)
      → IsSound (rows_after (w.devices name) changes) → StaleOf (rows_after (w.devices name) changes) s name → OnDevice w next name changes
      → SaysEdit (w.devices name) name uuid (content.Plain text) moves → KeptBy secret next s moves
  edited_by words left uuid text changes moves x sound older on says =
      subst (λ (ms : List Move). KeptBy secret next s ms) (said_edit uuid x.number x.local x.stands (content.Plain text) moves says)
      (edit_kept secret w next s h name x.number x.local x.stands.0 (row.Sealed x.strings) (content.Plain text) x.change x.change_is
      (subst (λ (c : List Change). IsSound (rows_after (w.devices name) c)) x.changes_are sound)
      (subst (λ (c : List Change). StaleOf (rows_after (w.devices name) c) s name) x.changes_are older)
      (subst (λ (c : List Change). OnDevice w next name c) x.changes_are on)
      (λ d acc has shown. (
        record {
          set = x.sets.present;
          at = present_at (w.devices name) s name d acc x.owner x.sets (holder_of (w.devices name) s name d acc (h.devices name) has) x.holds;
          opens = subst (λ (u : Bytes). OpensItem (sealed_of x.strings) u x.sets.present text) (sym x.stands.1) x.seals.opens;
        },
        text_allowed s name d acc x.local text has shown x.content x.undeleted,
      )))

  deleted_by : (uuid : Bytes) (changes : List Change) (moves : List Move) (x : Deletes (w.devices name) uuid changes)
      → IsSound (rows_after (w.devices name) changes) → StaleOf (rows_after (w.devices name) changes) s name → OnDevice w next name changes
      → SaysDeletion (w.devices name) name uuid moves → KeptBy secret next s moves
  deleted_by uuid changes moves x sound older on (other, twin, there, inl (unknown, said)) =
      let same : x.local ≡ twin = one_row uuid x.number other x.local twin x.stands there in
      ⊎_elim
      (λ (gone : IsUnknown x.local × Removes x.change (key.Local x.number)).
      subst (λ (ms : List Move). KeptBy secret next s ms) (ap (λ (l : LocalItem). Drop name l.uuid ∷ []) same ∙ sym said)
      (dropped_so laws.taking.keeps secret w next s h name x.number x.local x.stands.0 gone.0 x.change gone.1
      (subst (λ (c : List Change). IsSound (rows_after (w.devices name) c)) x.changes_are sound)
      (subst (λ (c : List Change). StaleOf (rows_after (w.devices name) c) s name) x.changes_are older)
      (subst (λ (c : List Change). OnDevice w next name c) x.changes_are on)))
      (λ (kept : ¬ (IsUnknown x.local) × PutsColumns x.change x.number (drafted (Some row.Deleted) (columns x.local))).
      absurd (kept.0 (subst (λ (l : LocalItem). IsUnknown l) (sym same) unknown))) x.change_is
  deleted_by uuid changes moves x sound older on (other, twin, there, inr (known, said)) =
      let same : x.local ≡ twin = one_row uuid x.number other x.local twin x.stands there in
      ⊎_elim
      (λ (gone : IsUnknown x.local × Removes x.change (key.Local x.number)). absurd (known (subst (λ (l : LocalItem). IsUnknown l) same gone.0)))
      (λ (kept : ¬ (IsUnknown x.local) × PutsColumns x.change x.number (drafted (Some row.Deleted) (columns x.local))).
      subst (λ (ms : List Move). KeptBy secret next s ms) (said_edit uuid x.number x.local x.stands content.Deleted moves (other, twin, there, said))
      (edit_kept secret w next s h name x.number x.local x.stands.0 row.Deleted content.Deleted x.change kept.1
      (subst (λ (c : List Change). IsSound (rows_after (w.devices name) c)) x.changes_are sound)
      (subst (λ (c : List Change). StaleOf (rows_after (w.devices name) c) s name) x.changes_are older)
      (subst (λ (c : List Change). OnDevice w next name c) x.changes_are on)
      (λ d acc has shown. (tt, deletion_allowed s name d acc x.local has shown kept.0)))) x.change_is

  applied_by : TokensDiffer secret → (words left : ChaCha) (r : Request) (given : Answer) (changes : List Change) (moves : List Move)
      → AppliesTo (w.devices name) words r given changes left → IsSound (rows_after (w.devices name) changes) → OnDevice w next name changes
      → MayApply w.server (w.devices name) s name r given
      → SaysAnswer (w.devices name) (held_by (device_named s name)) name given changes moves → KeptBy secret next s moves
  applied_by differ words left (request.Sync token items limit sync_token cursor_token) (answer.Sync conflicts cursor retrieved saved next_token) changes moves step sound on may
      says =
      applied_so laws.taking laws.tokens secret w next s differ h name words left items conflicts cursor retrieved saved next_token changes moves step may says
      sound on
  applied_by differ words left (request.Sync token items limit sync_token cursor_token) (answer.Account other identifier uuid) changes moves step sound on may says = absurd step
  applied_by differ words left (request.Sync token items limit sync_token cursor_token) (answer.Params params) changes moves step sound on may says = absurd step
  applied_by differ words left (request.Sync token items limit sync_token cursor_token) (answer.Refused status tag more) changes moves step sound on may says = absurd step
  applied_by differ words left (request.Register params pw) given changes moves step sound on may says = absurd step
  applied_by differ words left (request.Params identifier) given changes moves step sound on may says = absurd step
  applied_by differ words left (request.SignIn identifier pw) given changes moves step sound on may says = absurd step
  applied_by differ words left (request.ChangePw token current pw cost nonce) given changes moves step sound on may says = absurd step

  by_kind : TokensDiffer secret → (words left : ChaCha) (what : What) (changes : List Change) (moves : List Move) → Step (w.devices name) words what changes left
      → IsSound (rows_after (w.devices name) changes) → OnDevice w next name changes → MayCommit secret w.server (w.devices name) s name what
      → SaysCommit (w.devices name) s name what changes moves → KeptBy secret next s moves
  by_kind differ words left (begins set uuid token) changes moves step sound on may says =
      begun_so laws.apart laws.joined laws.join_keeps secret w next s h name set uuid token changes step.0 step.1 may
      (subst (λ (c : List Change). IsSound (rows_after (w.devices name) c)) step.1.changes_are sound) on moves says
  by_kind differ words left (renews token) changes moves step sound on may says =
      subst (λ (ms : List Move). KeptBy secret next s ms) (sym says)
      (renewed laws.apart laws.tokens secret w next s h name token changes step.0 may
      (subst (λ (c : List Change). IsSound (rows_after (w.devices name) c)) step.0.changes_are sound)
      (subst (λ (c : List Change). StaleOf (rows_after (w.devices name) c) s name) step.0.changes_are
      (stale_kept secret w s h name words left (renews token) changes tt step)) on)
  by_kind differ words left (puts uuid kind text) changes moves step sound on may says =
      subst (λ (ms : List Move). KeptBy secret next s ms) (sym says)
      (put_so laws.edited laws.tokens laws.edit_keeps secret w next s h name words left uuid kind text changes step
      (subst (λ (c : List Change). IsSound (rows_after (w.devices name) c)) step.changes_are sound)
      (subst (λ (c : List Change). StaleOf (rows_after (w.devices name) c) s name) step.changes_are
      (stale_kept secret w s h name words left (puts uuid kind text) changes tt step)) on)
  by_kind differ words left (edits uuid text) changes moves step sound on may says =
      edited_by words left uuid text changes moves step sound (stale_kept secret w s h name words left (edits uuid text) changes tt step) on says
  by_kind differ words left (deletes uuid) changes moves step sound on may says =
      deleted_by uuid changes moves step.0 sound (stale_kept secret w s h name words left (deletes uuid) changes tt step) on says
  by_kind differ words left (posts numbers) changes moves step sound on may says =
      posts_all laws.posted laws.post_keeps laws.sound secret words numbers changes moves w next s name h step.0 may says on
  by_kind differ words left (applies r given) changes moves step sound on may says = applied_by differ words left r given changes moves step sound on may says
  by_kind differ words left (asks set) changes moves step sound on may says =
      subst (λ (ms : List Move). KeptBy secret next s ms) (sym says)
      (asked_so secret w next s h name changes sound (stale_kept secret w s h name words left (asks set) changes tt step) on set step.0)
  by_kind differ words left (adopts set token) changes moves step sound on may says =
      adopted_so laws.apart laws.numbers secret w next s differ h name words left set token changes moves step may says sound on
  by_kind differ words left forgets changes moves step sound on may says =
      subst (λ (ms : List Move). KeptBy secret next s ms) (sym says)
      (forgot_so secret w next s h name changes sound (stale_kept secret w s h name words left forgets changes tt step) on step.0)

pub keeps_committing : DeviceLaws → KeepsCommitting
keeps_committing laws secret w next s name what changes moves differ h x may says =
    by_kind laws secret w next s h name differ x.words x.left what changes moves x.step (laws.sound (w.devices name) x.words x.left what changes (h.sound name) x.step) x.on may says

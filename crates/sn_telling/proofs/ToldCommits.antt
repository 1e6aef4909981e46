-- What is said of a batch of a device is what its commit says.
use Rattle.std.proofs.Common.{◌≡◌, ◌++◌, ℕ, List, [], ◌∷◌, Option, Some, None, refl, sym, ap, ◌∙◌, subst, length}
use Rattle.rand_chacha.specs.ChaCha.{ChaCha}
use Rattle.sn_device.specs.Asking.{IsReply, said}
use Rattle.sn_device.specs.States.{Columns}
use Rattle.sn_device.specs.Steps.{PutsNew, Step, What, adopts, applies, asks, begins, deletes, edits, forgets, posts, puts, renews}
use Rattle.sn_laws.specs.Lookups.{Bytes, account_named, device_named, held_by}
use Rattle.sn_laws.specs.Reached.{DeletionsStay}
use Rattle.sn_laws.specs.declared.ideal.Account.{Account}
use Rattle.sn_laws.specs.declared.ideal.Device.{Device}
use Rattle.sn_laws.specs.declared.ideal.Ideal.{Ideal}
use Rattle.sn_laws.specs.declared.moves.Move.{Move}
use Rattle.sn_laws.specs.declared.moves.Move.TheVariants.{Join}
use Rattle.sn_moves.proofs.Facts.{keeps_deletions}
use Rattle.sn_moves.specs.Commits.{moves_of}
use Rattle.sn_moves.specs.Drafts.{item_at}
use Rattle.sn_moves.specs.Foreign.{foreign_in}
use Rattle.sn_moves.specs.Laws.{IsDone, IsPlainly, KeepsDeletions, SaysAnswered, SaysPlainly}
use Rattle.sn_moves.specs.declared.done.Done.{Done}
use Rattle.sn_moves.specs.declared.done.Done.TheVariants as done
use Rattle.sn_order.specs.Kinds.{kind_of}
use Rattle.sn_order.specs.Laws.{KindsTell}
use Rattle.sn_order.specs.declared.kind.Kind.{Kind}
use Rattle.sn_order.specs.declared.kind.Kind.TheVariants as kind
use Rattle.sn_rows.specs.Table.{Puts, Rows, key_of, value_of}
use Rattle.sn_rows.specs.declared.change.Change.{Change}
use Rattle.sn_rows.specs.declared.device_rows.LocalItem.{LocalItem}
use Rattle.sn_rows.specs.declared.key.Key.{Key}
use Rattle.sn_rows.specs.declared.key.Key.TheVariants as key
use Rattle.sn_rows.specs.declared.value.Value.{Value}
use Rattle.sn_rows.specs.declared.value.Value.TheVariants as value
use Rattle.sn_saying.specs.Adopted.{IsAdoption}
use Rattle.sn_saying.specs.Joined.{IsJoining}
use Rattle.sn_saying.specs.Retired.{IsRetirement}
use Rattle.sn_shows.specs.Devices.{ShowsDeviceAs}
use Rattle.sn_shows.specs.Laws.{HasAccount}
use Rattle.sn_sync.specs.Requests.{route_of}
use Rattle.sn_sync.specs.declared.answer.Answer.{Answer}
use Rattle.sn_sync.specs.declared.answer.Answer.TheVariants as answer
use Rattle.sn_sync.specs.declared.answer.Conflict.{Conflict}
use Rattle.sn_sync.specs.declared.item.Item.{Item}
use Rattle.sn_sync.specs.declared.request.Request.{Request}
use Rattle.sn_sync.specs.declared.request.Request.TheVariants as request
use Rattle.sn_world.specs.Applying.{SaysApplied}
use Rattle.sn_world.specs.Committing.{Commits, MayCommit, SaysAdoption, SaysCommit, SaysJoin}
use Rattle.sn_world.specs.Holds.{Holds}
use Rattle.sn_world.specs.World.{World}
use Rattle.sn_telling.specs.Walking.{IsDoing, IsForeign, IsSynced, SaysBatch, SaysDoing, first_item, joined_or_renewed, put_done, signed_in}
use Rattle.sn_telling.specs.declared.calling.Calling.{Calling}
use Rattle.sn_telling.specs.declared.calling.Calling.TheVariants as calling
use Rattle.sn_telling.specs.declared.doing.Doing.{Doing}
use Rattle.sn_telling.specs.declared.doing.Doing.TheVariants as doing
use Rattle.sn_telling.proofs.StepsActs.{Last}
use Rattle.sn_telling.proofs.StepsCalls.{BeginsAs, EditsAs, IsDeletion, IsDoneIn, PutsAs, SignsAs, SyncsAs}
use Rattle.sn_telling.proofs.ToldAdopted.{one_adoption}
use Rattle.sn_telling.proofs.ToldForeign.{moves_same}

-- the bytes that came back last are those of the last reply
abbrev pub Came : Last → Option Bytes → Type 0
Came None answer = Unit {0}
Came (Some asked) answer = IsReply (route_of asked.0) answer asked.1

-- a new item has the uuid of the row that is put
put_item : (change : Change) (number : ℕ) (local : LocalItem) → Puts change (key.Local number) (value.Local local)
    → item_at (key_of change) (value_of change) ≡ Some local
put_item change number local x =
    ap (λ (k : Key). item_at k (value_of change)) x.key_is ∙ ap (λ (v : Option Value). item_at (key.Local number) v) x.value_is

put_is : (rows : Rows) (words : ChaCha) (uuid kind text : Bytes) (changes : List Change) (left : ChaCha) → PutsNew rows words uuid kind text changes left
    → put_done kind text (first_item changes) ≡ done.Puts uuid kind text
put_is rows words uuid kind text changes left new =
    ap (put_done kind text) (ap first_item new.changes_are ∙ put_item new.item new.owner.next new.item_is.local new.item_is.puts)
    ∙ ap (λ (u : Bytes). done.Puts u kind text) (ap (λ (c : Columns). c.uuid) new.item_is.columns_are)

-- an answer is applied of whatever sets are said to be held
retired_so : (rows : Rows) (name : Bytes) (changes : List Change) (conflicts : List Conflict) (cursor : Option Bytes) (retrieved saved : List Item) (token : Bytes)
    (said_so later : List Move) (held : List ℕ) (numbers : List ℕ) → held ≡ numbers
    → ((says : SaysApplied rows numbers name conflicts cursor retrieved saved token changes said_so) → says.later ≡ later)
    → (says : SaysApplied rows held name conflicts cursor retrieved saved token changes said_so) → says.later ≡ later
retired_so rows name changes conflicts cursor retrieved saved token said_so later held numbers same so =
    subst (λ (ns : List ℕ). (says : SaysApplied rows ns name conflicts cursor retrieved saved token changes said_so) → says.later ≡ later) (sym same) so

module _ (law : DeletionsStay) (answers : SaysAnswered) (plainly : SaysPlainly) (kinds : KindsTell) (secret : Bytes) (w : World) (s : Ideal) (h : Holds secret w s)
    (name : Bytes) where
  abbrev Before : Rows
  Before = w.devices name

  keeps_so : KeepsDeletions Before
  keeps_so = keeps_deletions law (w.devices name) s h.reached name (h.devices name)

  -- ---- an account is begun, a set is adopted

  joined_told : (identifier other : Bytes) (moves said_so : List Move) → other ≡ identifier → IsJoining w.server name identifier moves
      → SaysJoin s name other said_so → moves ≡ said_so
  joined_told identifier other moves said_so same says (a, named, is) =
      says s a h.reached h.server (subst (λ (i : Bytes). account_named s i ≡ Some a) same named)
      ∙ ap (λ (i : Bytes). Join name i (length a.sets) ∷ []) (sym same) ∙ sym is

  adopted_told : (moves said_so : List Move) → IsAdoption w.server Before name moves → SaysAdoption Before s name said_so → moves ≡ said_so
  adopted_told moves said_so says x =
      one_adoption Before s name moves said_so (says s x.device x.account h.reached h.server (h.devices name) x.has) x

  -- ---- an answer is applied

  -- a device that is told something has an account
  has_account : (d : Device) → device_named s name ≡ Some d → (a : Account) × HasAccount s name d a
  has_account d named =
      let shown = subst (ShowsDeviceAs Before s name) named (h.devices name) in
      (shown.0, record { device = named; account = shown.1 })

  ended_told : (d : Device) (a : Account) (changes : List Change) (later : List Move) → HasAccount s name d a → IsRetirement w.server Before name changes later
      → (conflicts : List Conflict) (cursor : Option Bytes) (retrieved saved : List Item) (token : Bytes) (said_so : List Move)
      → (says : SaysApplied Before (held_by (device_named s name)) name conflicts cursor retrieved saved token changes said_so) → says.later ≡ later
  ended_told d a changes later has ends conflicts cursor retrieved saved token said_so =
      retired_so Before name changes conflicts cursor retrieved saved token said_so later (held_by (device_named s name)) d.held (ap held_by has.device)
      (ends s d a h.reached h.server (h.devices name) has conflicts cursor retrieved saved token said_so)

  applied_told : (words left : ChaCha) (r : Request) (given : Answer) (changes : List Change) (came : Option Bytes) (foreign : List Bytes)
      (later moves said_so : List Move) → Step Before words (applies r given) changes left → MayCommit secret w.server Before s name (applies r given)
      → SaysCommit Before s name (applies r given) changes said_so → IsReply (route_of r) came (said given) → IsForeign came changes foreign
      → IsRetirement w.server Before name changes later → moves ≡ moves_of Before name (done.Applies foreign) changes ++ later → moves ≡ said_so
  applied_told words left (request.Sync token items limit sync_token cursor_token) (answer.Sync conflicts cursor retrieved saved next) changes came foreign later
      moves said_so step may says heard is_foreign ends is =
      let given : Answer = answer.Sync conflicts cursor retrieved saved next in
      let has = has_account may.device may.named in
      let first : says.first ≡ moves_of Before name (done.Applies (foreign_in given)) changes =
      answers Before words left (request.Sync token items limit sync_token cursor_token) (held_by (device_named s name)) name conflicts cursor retrieved saved next
      changes said_so (h.sound name).locals keeps_so step says in
      is ∙ ap (λ (m : List Move). m ++ later) (moves_same name foreign (foreign_in given) Before changes (λ takes. is_foreign takes given heard))
      ∙ ap (λ (m : List Move). m ++ later) (sym first)
      ∙ ap (λ (m : List Move). says.first ++ m)
      (sym (ended_told may.device has.0 changes later has.1 ends conflicts cursor retrieved saved next said_so says))
      ∙ sym says.moves_are
  applied_told words left (request.Sync token items limit sync_token cursor_token) (answer.Account session identifier uuid) changes came foreign later moves said_so step
      may says heard is_foreign ends is = absurd may
  applied_told words left (request.Sync token items limit sync_token cursor_token) (answer.Params params) changes came foreign later moves said_so step may says heard
      is_foreign ends is = absurd may
  applied_told words left (request.Sync token items limit sync_token cursor_token) (answer.Refused status tag more) changes came foreign later moves said_so step may says
      heard is_foreign ends is = absurd may
  applied_told words left (request.Register params pw) given changes came foreign later moves said_so step may says heard is_foreign ends is = absurd may
  applied_told words left (request.Params identifier) given changes came foreign later moves said_so step may says heard is_foreign ends is = absurd may
  applied_told words left (request.SignIn identifier pw) given changes came foreign later moves said_so step may says heard is_foreign ends is = absurd may
  applied_told words left (request.ChangePw token current pw cost nonce) given changes came foreign later moves said_so step may says heard is_foreign ends is =
      absurd may

  -- ---- by the call

  module _ (words left : ChaCha) (changes : List Change) (moves said_so : List Move) where
    abbrev Steps : What → Type 0
    Steps what = Step Before words what changes left

    abbrev Told : Doing → Type 0
    Told did = SaysDoing w.server Before name did changes moves

    -- what is told of what was done, however that is written
    same_told : (did other : Doing) → did ≡ other → Told did → Told other
    same_told did other is says = subst Told is says

    plain_told : (what : What) (did : Done) → IsPlainly what → IsDone s what did → Steps what → SaysCommit Before s name what changes said_so
        → moves ≡ moves_of Before name did changes → moves ≡ said_so
    plain_told what did plain is_done step says is =
        is ∙ sym (plainly Before s name words left what changes said_so did (h.sound name).locals plain is_done step says)

    of_register : (identifier : Bytes) (what : What) (did : Doing) → BeginsAs identifier what → Steps what → SaysCommit Before s name what changes said_so
        → did ≡ doing.Begins identifier → Told did → moves ≡ said_so
    of_register identifier (begins set uuid token) did of step says is told =
        joined_told identifier set.params.identifier moves said_so of (same_told did (doing.Begins identifier) is told) says
    of_register identifier what did of step says is told = absurd of

    of_sign_in : (identifier : Bytes) (what : What) (did : Doing) → SignsAs identifier what → Steps what → SaysCommit Before s name what changes said_so
        → did ≡ signed_in identifier (kind_of changes) (Before key.Owner) → Told did → moves ≡ said_so
    of_sign_in identifier (begins set uuid token) did of step says is told =
        joined_told identifier set.params.identifier moves said_so of
        (same_told did (doing.Begins identifier) (is ∙ ap (signed_in identifier (kind_of changes)) (step.0 key.Owner)) told) says
    of_sign_in identifier (renews token) did of step says is told =
        let kind_so : kind_of changes ≡ kind.Counts = kinds Before words left (renews token) changes step in
        same_told did (doing.Other done.Renews)
        (is ∙ ap (signed_in identifier (kind_of changes)) step.0.owned ∙ ap joined_or_renewed kind_so) told ∙ sym says
    of_sign_in identifier (adopts set token) did of step says is told =
        let kind_so : kind_of changes ≡ kind.Joins = kinds Before words left (adopts set token) changes step in
        adopted_told moves said_so
        (same_told did doing.Adopts (is ∙ ap (signed_in identifier (kind_of changes)) step.holds.owned ∙ ap joined_or_renewed kind_so) told) says
    of_sign_in identifier what did of step says is told = absurd of

    of_put : (kind text : Bytes) (what : What) (did : Doing) → PutsAs kind text what → Steps what → SaysCommit Before s name what changes said_so
        → did ≡ doing.Other (put_done kind text (first_item changes)) → Told did → moves ≡ said_so
    of_put kind text (puts uuid type object) did (same_kind, same_text) step says is told =
        let as_put : put_done kind text (first_item changes) ≡ done.Puts uuid type object =
        ap (λ (k : Bytes). put_done k text (first_item changes)) (sym same_kind)
        ∙ ap (λ (t : Bytes). put_done type t (first_item changes)) (sym same_text)
        ∙ put_is Before words uuid type object changes left step in
        plain_told (puts uuid type object) (done.Puts uuid type object) tt refl step says
        (same_told did (doing.Other (done.Puts uuid type object)) (is ∙ ap doing.Other as_put) told)
    of_put kind text what did of step says is told = absurd of

    of_edit : (text : Bytes) (what : What) (did : Doing) → EditsAs text what → Steps what → SaysCommit Before s name what changes said_so
        → did ≡ doing.Other (done.Edits text) → Told did → moves ≡ said_so
    of_edit text (edits uuid object) did of step says is told =
        plain_told (edits uuid object) (done.Edits object) tt refl step says
        (same_told did (doing.Other (done.Edits object)) (is ∙ ap (λ (t : Bytes). doing.Other (done.Edits t)) (sym of)) told)
    of_edit text what did of step says is told = absurd of

    of_delete : (what : What) (did : Doing) → IsDeletion what → Steps what → SaysCommit Before s name what changes said_so
        → did ≡ doing.Other done.Deletes → Told did → moves ≡ said_so
    of_delete (deletes uuid) did of step says is told =
        plain_told (deletes uuid) done.Deletes tt refl step says (same_told did (doing.Other done.Deletes) is told)
    of_delete what did of step says is told = absurd of

    -- a sync, or a change of password
    kind_synced : (came : Option Bytes) (did : Doing) (of : Kind) → kind_of changes ≡ of → IsSynced (kind_of changes) came changes did
        → IsSynced of came changes did
    kind_synced came did of is synced = subst (λ (k : Kind). IsSynced k came changes did) is synced

    of_sync : (last : Last) (came : Option Bytes) (what : What) (did : Doing) → SyncsAs last what → Came last came → Steps what
        → MayCommit secret w.server Before s name what → SaysCommit Before s name what changes said_so → IsSynced (kind_of changes) came changes did → Told did
        → moves ≡ said_so
    of_sync last came (posts numbers) did of heard step may says synced told =
        plain_told (posts numbers) done.Posts tt refl step says
        (same_told did (doing.Other done.Posts) (kind_synced came did kind.Drafts (kinds Before words left (posts numbers) changes step) synced) told)
    of_sync last came (applies r given) did of heard step may says synced told =
        let applied = kind_synced came did kind.Counts (kinds Before words left (applies r given) changes step) synced in
        let ends = same_told did (doing.Applies applied.0) applied.2 told in
        applied_told words left r given changes came applied.0 ends.0 moves said_so step may says (subst (λ (l : Last). Came l came) of heard) applied.1 ends.1 ends.2
    of_sync last came (asks set) did of heard step may says synced told =
        same_told did (doing.Other done.Renews) (kind_synced came did kind.Asks (kinds Before words left (asks set) changes step) synced) told ∙ sym says
    of_sync last came (adopts set token) did of heard step may says synced told =
        adopted_told moves said_so
        (same_told did doing.Adopts (kind_synced came did kind.Joins (kinds Before words left (adopts set token) changes step) synced) told) says
    of_sync last came forgets did of heard step may says synced told =
        same_told did (doing.Other done.Renews) (kind_synced came did kind.Forgets (kinds Before words left forgets changes step) synced) told ∙ sym says
    of_sync last came what did of heard step may says synced told = absurd of

    of_doing : (call : Calling) (last : Last) (came : Option Bytes) (what : What) (did : Doing) → IsDoneIn call last what → Came last came → Steps what
        → MayCommit secret w.server Before s name what → SaysCommit Before s name what changes said_so → IsDoing call came Before changes did → Told did
        → moves ≡ said_so
    of_doing (calling.Register identifier set) last came what did of heard step may says is told = of_register identifier what did of step says is told
    of_doing (calling.SignIn identifier) last came what did of heard step may says is told = of_sign_in identifier what did of step says is told
    of_doing (calling.Put kind text) last came what did of heard step may says is told = of_put kind text what did of step says is told
    of_doing (calling.Edit text) last came what did of heard step may says is told = of_edit text what did of step says is told
    of_doing calling.Delete last came what did of heard step may says is told = of_delete what did of step says is told
    of_doing calling.Sync last came what did of heard step may says is told = of_sync last came what did of heard step may says is told
    of_doing calling.Passwd last came what did of heard step may says is told = of_sync last came what did of heard step may says is told

  pub commit_told : (next : World) (call : Calling) (last : Last) (came : Option Bytes) (what : What) (changes : List Change) (moves said_so : List Move)
      → IsDoneIn call last what → Came last came → Commits w next name what changes → MayCommit secret w.server (w.devices name) s name what
      → SaysCommit (w.devices name) s name what changes said_so → SaysBatch call w.server (w.devices name) name came changes moves → moves ≡ said_so
  commit_told next call last came what changes moves said_so of heard x may says (did, is, told) =
      of_doing x.words x.left changes moves said_so call last came what did of heard x.step may says is told

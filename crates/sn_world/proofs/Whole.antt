-- An answer without a cursor that is applied leaves the device with all versions of its account.
use Rattle.std.proofs.Common.{◌≡◌, ◌⊎◌, ◌≤◌, ℕ, List, [], ◌∷◌, ◌++◌, Option, Some, None, Bool, true, false, refl, sym, ap, ◌∙◌, subst, inl, inr}
use Rattle.std.specs.Prelude.{find}
use Rattle.sn_adopted.specs.Moves.{IsRetiring}
use Rattle.sn_device.specs.Steps.{Retires}
use Rattle.sn_device.specs.States.{HasOwner, OwnerColumns, token_of}
use Rattle.sn_device.specs.Taking.{Progress, Renames, Told, is_conflict, is_retrieved, is_saved}
use Rattle.sn_conflict.specs.declared.meeting.Meeting.{Meeting}
use Rattle.sn_conflict.specs.declared.meeting.Meeting.TheVariants as meeting
use Rattle.sn_laws.proofs.Facts.{end_from-append, one_there, retired}
use Rattle.sn_laws.specs.Each.{Each}
use Rattle.sn_laws.specs.Lookups.{Bytes, account_named, device_named, held_by, is_account, is_device, last_of}
use Rattle.sn_laws.specs.Moves.{after}
use Rattle.sn_laws.specs.Runs.{end_from}
use Rattle.sn_laws.specs.declared.ideal.Account.{Account}
use Rattle.sn_laws.specs.declared.ideal.Device.{Device}
use Rattle.sn_laws.specs.declared.ideal.Ideal.{Ideal}
use Rattle.sn_laws.specs.declared.ideal.Version.{Version}
use Rattle.sn_laws.specs.declared.moves.Move.{Move}
use Rattle.sn_laws.specs.declared.moves.Move.TheVariants.{Retire}
use Rattle.sn_rows.specs.Facts.{put_here, removed_elsewhere, row_after-append}
use Rattle.sn_rows.specs.Table.{Rows, rows_after}
use Rattle.sn_rows.specs.declared.body.RowBody.{RowBody}
use Rattle.sn_rows.specs.declared.body.RowBody.TheVariants as row
use Rattle.sn_rows.specs.declared.change.Change.{Change}
use Rattle.sn_rows.specs.declared.device_rows.LocalItem.{LocalItem}
use Rattle.sn_rows.specs.declared.device_rows.OwnerRow.{OwnerRow}
use Rattle.sn_rows.specs.declared.key.Key.TheVariants as key
use Rattle.sn_rows.specs.declared.key.Slot.TheVariants.{Older}
use Rattle.sn_rows.specs.declared.value.Value.TheVariants as value
use Rattle.sn_sets.specs.declared.sets.Sets.{Sets}
use Rattle.sn_shows.proofs.Facts.{find_changed}
use Rattle.sn_shows.specs.Laws.{AccountsApart, HasAccount}
use Rattle.sn_shows.specs.Servers.{ShowsItem, account_at}
use Rattle.sn_string.specs.declared.params.KeySet.{KeySet}
use Rattle.sn_sync.specs.declared.answer.Conflict.{Conflict}
use Rattle.sn_sync.specs.declared.answer.Conflict.TheVariants as conflict
use Rattle.sn_sync.specs.declared.item.Item.{Item}
use Rattle.sn_sync.specs.declared.request.Request.TheVariants as request
use Rattle.sn_world.proofs.AppliedPulled.{token_some}
use Rattle.sn_world.proofs.Lists.{each_both}
use Rattle.sn_world.proofs.Tokens.{device_account}
use Rattle.sn_world.specs.Applying.{SaysAllTold, SaysApplied, SaysForeign, SaysMeets, SaysServer, SaysTold, Tells, renaming}
use Rattle.sn_world.specs.Holds.{Holds}
use Rattle.sn_world.specs.Laws.{AppliedWhole}
use Rattle.sn_world.specs.Pulled.{HasAll}
use Rattle.sn_world.specs.World.{OnDevice, World}

-- ---- what an answer says leaves accounts and devices

abbrev LeavesBoth : Move → Type 0
LeavesBoth m = (s : Ideal) → ((after s m).accounts ≡ s.accounts) × ((after s m).devices ≡ s.devices)

abbrev AllLeave : List Move → Type 0
AllLeave moves = Each LeavesBoth moves

as_said : (said moves : List Move) → moves ≡ said → AllLeave said → AllLeave moves
as_said said moves is all = subst AllLeave (sym is) all

meets_leave : (name : Bytes) (sets : Sets) (p q : Progress) (number : ℕ) (local : LocalItem) (i : Item) (how : Meeting) (moves : List Move)
    → SaysMeets name sets p number local i how q moves → AllLeave moves
meets_leave name sets p q number local i meeting.Same moves says = as_said [] moves says.1 tt
meets_leave name sets p q number local i meeting.Take moves says = as_said [] moves says.1 tt
meets_leave name sets p q number local i (meeting.Own true) moves says = as_said _ moves says.1 ((λ s. (refl, refl)), tt)
meets_leave name sets p q number local i (meeting.Own false) moves (does, (stamp, named, said)) = as_said _ moves said ((λ s. (refl, refl)), tt)
meets_leave name sets p q number local i meeting.GiveWay moves says = as_said _ moves says.1 ((λ s. (refl, refl)), tt)
meets_leave name sets p q number local i meeting.Fork moves (r, copies, takes, said) = as_said _ moves said ((λ s. (refl, refl)), tt)

server_leaves : (name : Bytes) (sets : Sets) (p q : Progress) (i : Item) (saved : Bool) (moves : List Move) → SaysServer name sets p i saved q moves → AllLeave moves
server_leaves name sets p q i saved moves (inl (number, local, how, stands, met, says)) = meets_leave name sets p q number local i how moves says
server_leaves name sets p q i saved moves (inr (free, makes, none)) = as_said [] moves none tt

renaming_leaves : (name : Bytes) (sets : Sets) (p q : Progress) (number : ℕ) (local : LocalItem) (latest : Option RowBody) (how : Renames sets p number local latest q)
    → AllLeave (renaming name sets p number local latest q how)
renaming_leaves name sets p q number local None same = tt
renaming_leaves name sets p q number local (Some row.Deleted) gone = ((λ s. (refl, refl)), tt)
renaming_leaves name sets p q number local (Some (row.Sealed strings)) (inl closed) = tt
renaming_leaves name sets p q number local (Some (row.Sealed strings)) (inr anew) = ((λ s. (refl, refl)), tt)

foreign_leaves : (name : Bytes) (sets : Sets) (p q : Progress) (uuid : Bytes) (moves : List Move) → SaysForeign name sets p uuid q moves → AllLeave moves
foreign_leaves name sets p q uuid moves (inl (number, local, stands, how, said)) =
    as_said _ moves said (renaming_leaves name sets p q number local local.latest how)
foreign_leaves name sets p q uuid moves (inr (free, same, none)) = as_said [] moves none tt

told_leaves : (name : Bytes) (sets : Sets) (saved : List Item) (p q : Progress) (t : Told) (moves : List Move) → SaysTold name sets saved p t q moves → AllLeave moves
told_leaves name sets saved p q (is_saved i) moves says = server_leaves name sets p q i true moves says
told_leaves name sets saved p q (is_conflict (conflict.Sync i)) moves says = server_leaves name sets p q i false moves says
told_leaves name sets saved p q (is_conflict (conflict.Uuid i)) moves says = foreign_leaves name sets p q i.uuid moves says
told_leaves name sets saved p q (is_conflict (conflict.Content i)) moves says = absurd says
told_leaves name sets saved p q (is_retrieved i) moves (inl (has, same, none)) = as_said [] moves none tt
told_leaves name sets saved p q (is_retrieved i) moves (inr (apart, says)) = server_leaves name sets p q i false moves says

all_leave : (name : Bytes) (sets : Sets) (saved : List Item) (p q : Progress) (ts : List Told) (moves : List Move) → SaysAllTold name sets saved p ts q moves → AllLeave moves
all_leave name sets saved p q [] moves (same, none) = as_said [] moves none tt
all_leave name sets saved p q (t ∷ ts) moves (r, first, later, says, rest, is) =
    as_said (first ++ later) moves is
    (each_both LeavesBoth first later (told_leaves name sets saved p r t first says) (all_leave name sets saved r q ts later rest))

left_by : (s : Ideal) (moves : List Move) → AllLeave moves → ((end_from s moves).accounts ≡ s.accounts) × ((end_from s moves).devices ≡ s.devices)
left_by s [] all = (refl, refl)
left_by s (m ∷ moves) all =
    let rest = left_by (after s m) moves all.1 in
    (rest.0 ∙ (all.0 s).0, rest.1 ∙ (all.0 s).1)

-- ---- the older set ends, or stays

retires_as : (told : Rows) (cursor : Option Bytes) (found : Option KeySet) (name : Bytes) (held : List ℕ) (moves : List Move)
    → IsRetiring told cursor found name held moves → (moves ≡ []) ⊎ ((older : ℕ) × (moves ≡ Retire name older ∷ []))
retires_as told cursor None name held moves none = inl none
retires_as told cursor (Some set) name held moves (inl (may_go, (older, present, held_is, said))) = inr (older, said)
retires_as told cursor (Some set) name held moves (inr stays) = inl stays.1

-- which leaves the accounts, and the device is its account's
pub record StaysOwn (t now : Ideal) (name : Bytes) (e : Device) : Type 0 where
  pub accounts : now.accounts ≡ t.accounts
  pub device : Device
  pub named : device_named now name ≡ Some device
  pub account : device.account ≡ e.account

stays_own : (t : Ideal) (name : Bytes) (e : Device) (moves : List Move) → device_named t name ≡ Some e
    → (moves ≡ []) ⊎ ((older : ℕ) × (moves ≡ Retire name older ∷ [])) → StaysOwn t (end_from t moves) name e
stays_own t name e moves named (inl none) =
    subst (λ (ms : List Move). StaysOwn t (end_from t ms) name e) (sym none) (record { accounts = refl; device = e; named = named; account = refl })
stays_own t name e moves named (inr (older, said)) =
    subst (λ (ms : List Move). StaysOwn t (end_from t ms) name e) (sym said)
    (record {
      accounts = refl;
      device = retired older e;
      named = find_changed (is_device name) (retired older) (λ x. refl) t.devices e named;
      account = refl;
    })

-- the device's own row stays
owner_stays : (told now : Rows) (cursor : Option Bytes) (found : Option KeySet) (changes : List Change) → Retires told cursor found changes
    → rows_after now changes key.Owner ≡ now key.Owner
owner_stays told now cursor None changes none = ap (λ (c : List Change). rows_after now c key.Owner) none
owner_stays told now cursor (Some set) changes (inl (may, (change, gone, is))) =
    ap (λ (c : List Change). rows_after now c key.Owner) is ∙ removed_elsewhere now change (key.Set Older) key.Owner gone (λ e. cc)
owner_stays told now cursor (Some set) changes (inr stays) = ap (λ (c : List Change). rows_after now c key.Owner) stays.1

-- ---- the device's row

module _ (apart : AccountsApart) (secret : Bytes) (w next : World) (s : Ideal) (h : Holds secret w s) (name : Bytes) (sent : List Item) (conflicts : List Conflict)
    (retrieved saved : List Item) (token : Bytes) (changes : List Change) (moves : List Move)
    (may : Tells w.server (w.devices name) s name sent conflicts None retrieved saved token)
    (says : SaysApplied (w.devices name) (held_by (device_named s name)) name conflicts None retrieved saved token changes moves)
    (on : OnDevice w next name changes) where
  abbrev new : OwnerRow
  new = says.counted_is.owner

  here : HasOwner (next.devices name) new
  here =
      ap (λ (r : Rows). r key.Owner) on.own ∙ ap (λ (c : List Change). rows_after (w.devices name) c key.Owner) says.changes_are
      ∙ row_after-append (w.devices name key.Owner) key.Owner says.end.changes (says.counted ∷ says.retired)
      ∙ owner_stays says.end.rows (rows_after (rows_after (w.devices name) says.end.changes) (says.counted ∷ [])) None says.sets.older says.retired says.retires
      ∙ put_here (rows_after (w.devices name) says.end.changes) says.counted key.Owner (value.Owner new) says.counted_is.puts_it

  abbrev later : Ideal
  later = end_from s moves

  abbrev mid : Ideal
  mid = end_from s says.first

  left : (mid.accounts ≡ s.accounts) × (mid.devices ≡ s.devices)
  left = left_by s says.first (all_leave name says.sets saved _ says.end _ says.first says.told)

  stays : StaysOwn mid later name may.device
  stays =
      subst (λ (t : Ideal). StaysOwn mid t name may.device)
      (sym (end_from-append s says.first says.later) ∙ ap (end_from s) (sym says.moves_are))
      (stays_own mid name may.device says.later (ap (find (is_device name)) left.1 ∙ may.named)
      (retires_as says.end.rows None says.sets.older name (held_by (device_named s name)) says.later says.retiring))

  up_to : (d : Device) (a : Account) (uuid : Bytes) (v : Version) → HasAccount later name d a → last_of uuid a.versions ≡ Some v → v.stamp ≤ may.tells.stamp
  up_to d a uuid v has last =
      let own : HasAccount s name may.device may.account = device_account apart secret w s h name may.number may.account may.device may.at may.named may.own in
      let device : stays.device ≡ d = one_there stays.device d (device_named later name) stays.named has.device in
      let names : may.device.account ≡ d.account = sym stays.account ∙ ap (λ (e : Device). e.account) device in
      let account : may.account ≡ a =
      one_there may.account a (account_named s d.account) (subst (λ (k : Bytes). account_named s k ≡ Some may.account) names own.account)
      (ap (find (is_account d.account)) (sym (stays.accounts ∙ left.0)) ∙ has.account) in
      let its : ShowsItem w.server may.number a uuid v =
      (h.server.all.each may.number a (subst (λ (b : Account). account_at may.number s.accounts ≡ Some b) account may.at)).items uuid v last in
      subst (λ (k : ℕ). k ≤ may.tells.stamp) its.updated (may.tells.whole refl uuid its.row its.stands its.account)

  whole : HasAll (next.devices name) later name
  whole = record {
    owner = new;
    has = here;
    text = token;
    token = ap (λ (c : OwnerColumns). token_of c.sync_token) says.counted_is.columns_are ∙ token_some token may.tells.stamp may.tells.token_is;
    stamp = may.tells.stamp;
    is = may.tells.token_is;
    all = up_to;
  }

pub applied_whole : AccountsApart → AppliedWhole
applied_whole apart secret w next s name (request.Sync session items limit sync_token cursor_token) conflicts retrieved saved token changes moves h x may says =
    whole apart secret w next s h name items conflicts retrieved saved token changes moves may says x.on
applied_whole apart secret w next s name (request.Register params pw) conflicts retrieved saved token changes moves h x may says = absurd may
applied_whole apart secret w next s name (request.Params identifier) conflicts retrieved saved token changes moves h x may says = absurd may
applied_whole apart secret w next s name (request.SignIn identifier pw) conflicts retrieved saved token changes moves h x may says = absurd may
applied_whole apart secret w next s name (request.ChangePw session current pw cost nonce) conflicts retrieved saved token changes moves h x may says = absurd may

-- An answer that a device applies says its moves.
use Rattle.std.proofs.Common.{◌≡◌, ◌⊎◌, ℕ, List, [], ◌∷◌, ◌++◌, length, map, Option, Some, Bool, true, false, refl, sym, ap, subst, inl, inr}
use Rattle.std.specs.List.{Contains}
use Rattle.rand_chacha.specs.ChaCha.{ChaCha}
use Rattle.sn_account.specs.Incoming.{IsOwnBody}
use Rattle.sn_account.specs.Tells.{IsStored}
use Rattle.sn_adopted.proofs.Facts.{retire_shows}
use Rattle.sn_adopted.specs.Moves.{IsRetiring}
use Rattle.sn_device.specs.Steps.{Applies, AppliesTo, start}
use Rattle.sn_device.specs.Taking.{Meets, Progress, Takes, TakesAll, TakesOwn, TakesServer, Told, is_conflict, is_retrieved, is_saved, told_by}
use Rattle.sn_conflict.specs.declared.meeting.Meeting.{Meeting}
use Rattle.sn_conflict.specs.declared.meeting.Meeting.TheVariants as meeting
use Rattle.sn_laws.specs.Each.{Each}
use Rattle.sn_laws.specs.Lookups.{Bytes, device_named, greatest, held_by}
use Rattle.sn_laws.specs.declared.ideal.Account.{Account}
use Rattle.sn_laws.specs.declared.ideal.Device.{Device}
use Rattle.sn_laws.specs.declared.ideal.Ideal.{Ideal}
use Rattle.sn_laws.specs.declared.moves.Move.{Move}
use Rattle.sn_rows.specs.Table.{Rows}
use Rattle.sn_rows.specs.declared.change.Change.{Change}
use Rattle.sn_rows.specs.declared.device_rows.LocalItem.{LocalItem}
use Rattle.sn_sets.specs.declared.sets.Sets.{Sets}
use Rattle.sn_shows.proofs.Facts.{holder_of}
use Rattle.sn_shows.specs.Devices.{ShowsHolder}
use Rattle.sn_shows.specs.Laws.{AccountsApart, HasAccount}
use Rattle.sn_shows.specs.Sets.{set_at}
use Rattle.sn_string.specs.declared.params.KeySet.{KeySet}
use Rattle.sn_string.specs.declared.params.Params.{Params}
use Rattle.sn_sync.specs.Versions.{NamesStamp, uuids}
use Rattle.sn_sync.specs.declared.answer.Answer.{Answer}
use Rattle.sn_sync.specs.declared.answer.Answer.TheVariants as answer
use Rattle.sn_sync.specs.declared.answer.Conflict.{Conflict}
use Rattle.sn_sync.specs.declared.answer.Conflict.TheVariants as conflict
use Rattle.sn_sync.specs.declared.item.Item.{Item}
use Rattle.sn_sync.specs.declared.request.Request.{Request}
use Rattle.sn_sync.specs.declared.request.Request.TheVariants as request
use Rattle.sn_world.proofs.Lists.{each_both, each_contained, each_map, of_each}
use Rattle.sn_world.proofs.HeldSets.{held_sets}
use Rattle.sn_world.proofs.OwnStrings.{sent_by_own}
use Rattle.sn_world.proofs.Tokens.{device_account}
use Rattle.sn_world.specs.Applying.{MayApply, SaysAllTold, SaysAnswer, SaysApplied, SaysForeign, SaysMeets, SaysServer, SaysTold, Tells}
use Rattle.sn_world.specs.Holds.{Holds}
use Rattle.sn_world.specs.Making.{IsSentOf}
use Rattle.sn_world.specs.World.{World}

-- ---- each meeting

meets_said : (name : Bytes) (sets : Sets) (p q : Progress) (number : ℕ) (local : LocalItem) (i : Item) (how : Meeting) → ((stamp : ℕ) × NamesStamp i stamp)
    → Meets sets p number local i how q → (moves : List Move) × SaysMeets name sets p number local i how q moves
meets_said name sets p q number local i meeting.Same stamp does = (_, (does, refl))
meets_said name sets p q number local i meeting.Take stamp does = (_, (does, refl))
meets_said name sets p q number local i (meeting.Own true) stamp does = (_, (does, refl))
meets_said name sets p q number local i (meeting.Own false) stamp does = (_, (does, (stamp.0, stamp.1, refl)))
meets_said name sets p q number local i meeting.GiveWay stamp does = (_, (does, refl))
meets_said name sets p q number local i meeting.Fork stamp (r, copies, takes) = (_, (r, copies, takes, refl))

stamped : (server : Rows) (n : ℕ) (i : Item) → IsStored server n i → (stamp : ℕ) × NamesStamp i stamp
stamped server n i stored = (stored.0.updated, (stored.3.stamp, stored.3.spelled, stored.3.updated))

server_said : (name : Bytes) (sets : Sets) (p q : Progress) (i : Item) (flag : Bool) → ((stamp : ℕ) × NamesStamp i stamp) → TakesServer sets p i flag q
    → (moves : List Move) × SaysServer name sets p i flag q moves
server_said name sets p q i flag stamp (inl (number, local, how, stands, met, does)) =
    let m = meets_said name sets p q number local i how stamp does in
    (m.0, inl (number, local, how, stands, met, m.1))
server_said name sets p q i flag stamp (inr (nobody, makes)) = (_, inr (nobody, makes, refl))

foreign_said : (name : Bytes) (sets : Sets) (p q : Progress) (i : Item) → TakesOwn sets p i.uuid (conflict.Uuid i) q
    → (moves : List Move) × SaysForeign name sets p i.uuid q moves
foreign_said name sets p q i (inl (number, local, stands, how)) = (_, inl (number, local, stands, how, refl))
foreign_said name sets p q i (inr (nobody, same)) = (_, inr (nobody, same, refl))

-- ---- all of them

-- it is the server's, and no string is of another set
abbrev Sayable : Rows → ℕ → List Item → Told → Type 0
Sayable server n saved (is_saved i) = IsStored server n i
Sayable server n saved (is_conflict (conflict.Sync i)) = IsStored server n i
Sayable server n saved (is_conflict (conflict.Uuid i)) = Unit {0}
Sayable server n saved (is_conflict (conflict.Content i)) = ⊥
Sayable server n saved (is_retrieved i) = IsStored server n i ⊎ Contains (uuids saved) i.uuid

told_said : (server : Rows) (n : ℕ) (name : Bytes) (sets : Sets) (saved : List Item) (p q : Progress) (t : Told) → Sayable server n saved t → Takes sets saved p t q
    → (moves : List Move) × SaysTold name sets saved p t q moves
told_said server n name sets saved p q (is_saved i) stored takes = server_said name sets p q i true (stamped server n i stored) takes
told_said server n name sets saved p q (is_conflict (conflict.Sync i)) stored takes = server_said name sets p q i false (stamped server n i stored) takes
told_said server n name sets saved p q (is_conflict (conflict.Uuid i)) is takes = foreign_said name sets p q i takes
told_said server n name sets saved p q (is_conflict (conflict.Content i)) is takes = absurd is
told_said server n name sets saved p q (is_retrieved i) is (inl (has, same)) = (_, inl (has, same, refl))
told_said server n name sets saved p q (is_retrieved i) (inl stored) (inr (apart, takes)) =
    let m = server_said name sets p q i false (stamped server n i stored) takes in
    (m.0, inr (apart, m.1))
told_said server n name sets saved p q (is_retrieved i) (inr has) (inr (apart, takes)) = absurd (apart has)

all_said : (server : Rows) (n : ℕ) (name : Bytes) (sets : Sets) (saved : List Item) (ts : List Told) (p q : Progress) → Each (Sayable server n saved) ts
    → TakesAll sets saved p ts q → (moves : List Move) × SaysAllTold name sets saved p ts q moves
all_said server n name sets saved [] p q all same = (_, (same, refl))
all_said server n name sets saved (t ∷ ts) p q all (r, takes, rest) =
    let first = told_said server n name sets saved p r t all.0 takes in
    let later = all_said server n name sets saved ts r q all.1 rest in
    (_, (r, first.0, later.0, first.1, later.1, refl))

module _ (apart : AccountsApart) (secret : Bytes) (w : World) (s : Ideal) (h : Holds secret w s) (name : Bytes) (words left : ChaCha) (sent : List Item)
    (conflicts : List Conflict) (cursor : Option Bytes) (retrieved saved : List Item) (token : Bytes) (changes : List Change)
    (x : Applies (w.devices name) words sent conflicts cursor retrieved saved token changes left)
    (may : Tells w.server (w.devices name) s name sent conflicts cursor retrieved saved token) where
  abbrev rows : Rows
  rows = w.devices name

  abbrev n : ℕ
  n = may.number

  abbrev a : Account
  a = may.account

  abbrev d : Device
  d = may.device

  has : HasAccount s name d a
  has = device_account apart secret w s h name n a d may.at may.named may.own

  holder : ShowsHolder rows s name d a
  holder = holder_of rows s name d a (h.devices name) has

  -- what was sent is of the present set
  own : (unsaved : Item) → Contains sent unsaved → IsOwnBody unsaved.uuid may.present unsaved.body
  own unsaved among =
      let row : IsSentOf rows unsaved = of_each (IsSentOf rows) sent may.sent_of unsaved among in
      let last : KeySet = holder.present.is.set in
      let g : set_at (greatest 0 d.held) a.sets ≡ Some last = holder.present.is.at in
      let number : greatest 0 d.held ≡ length a.sets = may.greatest_is in
      let params : may.present ≡ last.params = may.params_are last (subst (λ (k : ℕ). set_at k a.sets ≡ Some last) number g) in
      subst (λ (p : Params). IsOwnBody unsaved.uuid p unsaved.body) (sym params) (sent_by_own rows s name d a holder last g row.0 row.1 unsaved row.2 row.3)

  conflict_sayable : (c : Conflict) → Contains conflicts c → Sayable w.server n saved (is_conflict c)
  conflict_sayable (conflict.Sync i) among = (may.tells.conflicts_are (conflict.Sync i) among).0
  conflict_sayable (conflict.Uuid i) among = tt
  conflict_sayable (conflict.Content i) among =
      let told = may.tells.conflicts_are (conflict.Content i) among in
      told.1 (own i told.0)

  sayable : Each (Sayable w.server n saved) (told_by saved conflicts retrieved)
  sayable =
      each_both (Sayable w.server n saved) (map is_saved saved) (map is_conflict conflicts ++ map is_retrieved retrieved)
      (each_map is_saved (Sayable w.server n saved) saved
      (each_contained (λ (i : Item). Sayable w.server n saved (is_saved i)) saved (λ i among. (may.tells.saved_are i among).0)))
      (each_both (Sayable w.server n saved) (map is_conflict conflicts) (map is_retrieved retrieved)
      (each_map is_conflict (Sayable w.server n saved) conflicts
      (each_contained (λ (c : Conflict). Sayable w.server n saved (is_conflict c)) conflicts conflict_sayable))
      (each_map is_retrieved (Sayable w.server n saved) retrieved
      (each_contained (λ (i : Item). Sayable w.server n saved (is_retrieved i)) retrieved may.tells.retrieved_are)))

  -- the older set ends, or stays
  retiring : (moves : List Move) × IsRetiring x.end.rows cursor x.sets.older name (held_by (device_named s name)) moves
  retiring =
      let its = retire_shows x.end.rows rows cursor x.sets.older x.retired s name x.owner.identifier d a (h.devices name) has
      (held_sets s h.reached name d a has)
      x.holds.before x.retires in
      (its.0, subst (λ (ns : List ℕ). IsRetiring x.end.rows cursor x.sets.older name ns its.0) (sym (ap held_by has.device)) its.1)

  pub applied_said : (moves : List Move) × SaysApplied rows (held_by (device_named s name)) name conflicts cursor retrieved saved token changes moves
  applied_said =
      let all = all_said w.server n name x.sets saved (told_by saved conflicts retrieved) (start rows x.owner words) x.end sayable x.taken in (
        all.0 ++ retiring.0,
        record {
          owner = x.owner;
          sets = x.sets;
          holds = x.holds;
          words = words;
          end = x.end;
          first = all.0;
          told = all.1;
          counted = x.counted;
          counted_is = x.counted_is;
          retired = x.retired;
          retires = x.retires;
          changes_are = x.changes_are;
          later = retiring.0;
          retiring = retiring.1;
          moves_are = refl;
        },
      )

-- by the request that is answered
pub answer_said : AccountsApart → (secret : Bytes) (w : World) (s : Ideal) → Holds secret w s → (name : Bytes) (words left : ChaCha) (r : Request) (given : Answer)
    (changes : List Change) → AppliesTo (w.devices name) words r given changes left → MayApply w.server (w.devices name) s name r given
    → (moves : List Move) × SaysAnswer (w.devices name) (held_by (device_named s name)) name given changes moves
answer_said apart secret w s h name words left (request.Sync token items limit sync_token cursor_token) (answer.Sync conflicts cursor retrieved saved next_token) changes step may =
    applied_said apart secret w s h name words left items conflicts cursor retrieved saved next_token changes step may
answer_said apart secret w s h name words left (request.Sync token items limit sync_token cursor_token) (answer.Account other identifier uuid) changes step may = absurd step
answer_said apart secret w s h name words left (request.Sync token items limit sync_token cursor_token) (answer.Params params) changes step may = absurd step
answer_said apart secret w s h name words left (request.Sync token items limit sync_token cursor_token) (answer.Refused status tag more) changes step may = absurd step
answer_said apart secret w s h name words left (request.Register params pw) given changes step may = absurd step
answer_said apart secret w s h name words left (request.Params identifier) given changes step may = absurd step
answer_said apart secret w s h name words left (request.SignIn identifier pw) given changes step may = absurd step
answer_said apart secret w s h name words left (request.ChangePw token current pw cost nonce) given changes step may = absurd step

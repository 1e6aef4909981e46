-- The sets that the commits of a call keep: the keys of the password that it is given, or one that was asked for before.
use Rattle.std.proofs.Common.{◌≡◌, ◌⊎◌, ℕ, List, Some, sym, subst, inl, inr}
use Rattle.rand_chacha.specs.ChaCha.{ChaCha}
use Rattle.sn_device.specs.Runs.{Act, Call, ChangesPassword, ChangesTo, CommitsOnce, DeletesItem, GivesText, Halt, ListsItems, PutsItem, Run, RunsRegister, RunsSignIn, SignsInAgain, SignsInBy, SignsInUnder, SignsInWith, SyncsItems, SyncsUnder, WithContent, WithItem, a_uuid, begun, content, delete, edit, lines, list, nothing, passwd, put, register, sign_in, sync}
use Rattle.sn_device.specs.States.{Bytes, HasSets, IsInSlot}
use Rattle.sn_device.specs.Steps.{What, adopts, applies, asks, begins, deletes, edits, forgets, posts, puts, renews}
use Rattle.sn_device.specs.declared.error.ClientError.TheVariants as refusal
use Rattle.sn_keys.specs.Keys.{AreKeysOf}
use Rattle.sn_lines.proofs.RunSets.{IsAllOf, account_so, answers_so, asks_so, changes_have, content_so, item_so, nothing_so, once_so, owner_so, refuses_so, syncs_have}
use Rattle.sn_rows.specs.Table.{Rows}
use Rattle.sn_rows.specs.declared.device_rows.OwnerRow.{OwnerRow}
use Rattle.sn_rows.specs.declared.key.Slot.TheVariants.{Asked}
use Rattle.sn_sets.specs.declared.sets.Sets.{Sets}
use Rattle.sn_string.specs.declared.params.KeySet.{KeySet}
use Rattle.sn_string.specs.declared.params.Params.{Params}
use Rattle.sn_sync.specs.declared.request.Request.TheVariants as request
use Rattle.sn_world.specs.Calls.{IsAskedFor}

-- a set that the call may keep as present
abbrev pub IsSetBy : Rows → Call → KeySet → Type 0
IsSetBy device (register identifier password cost) set = AreKeysOf password set.params set
IsSetBy device (sign_in identifier password) set = AreKeysOf password set.params set
IsSetBy device (put kind text) set = ⊥
IsSetBy device (edit uuid text) set = ⊥
IsSetBy device (delete uuid) set = ⊥
IsSetBy device list set = ⊥
IsSetBy device (content uuid) set = ⊥
IsSetBy device sync set = IsAskedFor device set
IsSetBy device (passwd password cost) set = AreKeysOf password set.params set ⊎ IsAskedFor device set

-- and one that it may ask for
abbrev pub IsNewBy : Call → KeySet → Type 0
IsNewBy (register identifier password cost) set = ⊥
IsNewBy (sign_in identifier password) set = ⊥
IsNewBy (put kind text) set = ⊥
IsNewBy (edit uuid text) set = ⊥
IsNewBy (delete uuid) set = ⊥
IsNewBy list set = ⊥
IsNewBy (content uuid) set = ⊥
IsNewBy sync set = ⊥
IsNewBy (passwd password cost) set = AreKeysOf password set.params set

abbrev pub IsWhatBy : Rows → Call → What → Type 0
IsWhatBy device call (begins set account token) = IsSetBy device call set
IsWhatBy device call (renews token) = Unit {0}
IsWhatBy device call (puts uuid kind text) = Unit {0}
IsWhatBy device call (edits uuid text) = Unit {0}
IsWhatBy device call (deletes uuid) = Unit {0}
IsWhatBy device call (posts numbers) = Unit {0}
IsWhatBy device call (applies request given) = Unit {0}
IsWhatBy device call (asks set) = IsNewBy call set
IsWhatBy device call (adopts set token) = IsSetBy device call set
IsWhatBy device call forgets = Unit {0}

-- of a call of these rows
module _ (device : Rows) (call : Call) where
  abbrev Of : What → Type 0
  Of what = IsWhatBy device call what

  -- where a set is begun and adopted that is the call's
  module _ (set : KeySet) (of : IsSetBy device call set) where
    again_by : (rows : Rows) (words : ChaCha) (identifier : Bytes) (sets : Sets) (acts : List Act) (halt : Halt)
        → SignsInAgain rows words identifier sets set acts halt → IsAllOf Of acts halt
    again_by rows words identifier sets acts halt (inl (same, differs, refuses)) = refuses_so Of acts halt refusal.WrongPassword refuses
    again_by rows words identifier sets acts halt (inr (inl (same, asking))) =
        owner_so Of rows words (request.SignIn identifier set.pw) (λ uuid token. renews token) acts halt (λ uuid token. tt) asking
    again_by rows words identifier sets acts halt (inr (inr (other, inl (older, refuses)))) = refuses_so Of acts halt refusal.WrongPassword refuses
    again_by rows words identifier sets acts halt (inr (inr (other, inr (not, asking)))) =
        owner_so Of rows words (request.SignIn identifier set.pw) (λ uuid token. adopts set token) acts halt (λ uuid token. of) asking

    with_by : (rows : Rows) (words : ChaCha) (identifier : Bytes) (acts : List Act) (halt : Halt) → SignsInWith rows words identifier set acts halt
        → IsAllOf Of acts halt
    with_by rows words identifier acts halt (inl (none, asking)) =
        owner_so Of rows words (request.SignIn identifier set.pw) (begins set) acts halt (λ uuid token. of) asking
    with_by rows words identifier acts halt (inr (owner, sets, holds, again)) = again_by rows words identifier sets acts halt again

  put_by : (rows : Rows) (words : ChaCha) (owner : OwnerRow) (kind text : Bytes) (acts : List Act) (halt : Halt)
      → PutsItem rows words owner kind text acts halt → IsAllOf Of acts halt
  put_by rows words owner kind text acts halt (inl (used, refuses)) = refuses_so Of acts halt (refusal.NumbersUsed owner.next) refuses
  put_by rows words owner kind text acts halt (inr (room, inl (drawn, none, refuses))) = refuses_so Of acts halt (refusal.NoFreshUuid drawn) refuses
  put_by rows words owner kind text acts halt (inr (room, inr (uuid, once))) =
      once_so Of rows words (puts uuid kind text) (a_uuid uuid) acts halt tt once

  delete_by : (uuid : Bytes) (rows : Rows) (words : ChaCha) (acts : List Act) (halt : Halt) (owner : OwnerRow) (sets : Sets)
      → DeletesItem uuid rows words owner sets acts halt → IsAllOf Of acts halt
  delete_by uuid rows words acts halt owner sets (inl (free, refuses)) = refuses_so Of acts halt (refusal.NoItem uuid) refuses
  delete_by uuid rows words acts halt owner sets (inr (used, once)) = once_so Of rows words (deletes uuid) nothing acts halt tt once

-- ---- registration and sign-in

register_by : (device : Rows) (least : ℕ) (identifier password : Bytes) (cost : ℕ) (words : ChaCha) (acts : List Act) (halt : Halt)
    → RunsRegister least identifier password cost device words acts halt → IsAllOf (IsWhatBy device (register identifier password cost)) acts halt
register_by device least identifier password cost words acts halt (inl (owner, has, refuses)) =
    refuses_so (IsWhatBy device (register identifier password cost)) acts halt (refusal.HasAccount owner.identifier) refuses
register_by device least identifier password cost words acts halt (inr (none, inl (bad, refuses))) =
    refuses_so (IsWhatBy device (register identifier password cost)) acts halt (refusal.Cost cost) refuses
register_by device least identifier password cost words acts halt (inr (none, inr (good, (set, left, new, asking)))) =
    owner_so (IsWhatBy device (register identifier password cost)) device left (request.Register set.params set.pw) (begins set) acts halt
    (λ uuid token. new.keys) asking

module _ (device : Rows) (identifier password : Bytes) where
  abbrev Signing : What → Type 0
  Signing what = IsWhatBy device (sign_in identifier password) what

  under_by : (least : ℕ) (words : ChaCha) (params : Params) (acts : List Act) (halt : Halt)
      → SignsInUnder least device words identifier password params acts halt → IsAllOf Signing acts halt
  under_by least words params acts halt (inl (other, refuses)) = refuses_so Signing acts halt _ refuses
  under_by least words params acts halt (inr (same, inl (bad, refuses))) = refuses_so Signing acts halt (refusal.Cost params.pw_cost) refuses
  under_by least words params acts halt (inr (same, inr (good, (set, keys, signs)))) =
      with_by device (sign_in identifier password) set (subst (λ (p : Params). AreKeysOf password p set) (sym keys.params) keys) device words identifier acts halt
      signs

  sign_in_by : (least : ℕ) (words : ChaCha) (acts : List Act) (halt : Halt) → RunsSignIn least identifier password device words acts halt
      → IsAllOf Signing acts halt
  sign_in_by least words acts halt (inl (owner, has, differs, refuses)) = refuses_so Signing acts halt (refusal.OtherAccount owner.identifier) refuses
  sign_in_by least words acts halt (inr (may, asking)) =
      asks_so Signing (request.Params identifier) (SignsInBy least device words identifier password) acts halt
      (λ given later q. under_by least words q.0 later halt q.2) asking

-- ---- sync, and a change of password

asked_for : (rows : Rows) (owner : OwnerRow) (sets : Sets) (set : KeySet) → HasSets rows owner sets → sets.asked ≡ Some set → IsAskedFor rows set
asked_for rows owner sets set holds some = (owner, holds.owned, subst (IsInSlot rows owner.identifier Asked) some holds.wanted)

sync_by : (device : Rows) (words : ChaCha) (acts : List Act) (halt : Halt) (owner : OwnerRow) (sets : Sets) → HasSets device owner sets
    → SyncsItems device words owner sets acts halt → IsAllOf (IsWhatBy device sync) acts halt
sync_by device words acts halt owner sets holds syncs =
    nothing_so (IsWhatBy device sync) (SyncsUnder owner sets)
    (syncs_have (IsWhatBy device sync) (λ numbers. tt) (λ r given. tt) tt owner sets (λ set token some. asked_for device owner sets set holds some))
    (begun device words) acts halt syncs

change_by : (device : Rows) (least : ℕ) (password : Bytes) (cost : ℕ) (words : ChaCha) (acts : List Act) (halt : Halt) (owner : OwnerRow) (sets : Sets)
    → HasSets device owner sets → ChangesPassword least password cost device words owner sets acts halt
    → IsAllOf (IsWhatBy device (passwd password cost)) acts halt
change_by device least password cost words acts halt owner sets holds (inl (bad, refuses)) =
    refuses_so (IsWhatBy device (passwd password cost)) acts halt (refusal.Cost cost) refuses
change_by device least password cost words acts halt owner sets holds (inr (taken, changes)) =
    nothing_so (IsWhatBy device (passwd password cost)) (ChangesTo password cost owner sets)
    (changes_have (IsWhatBy device (passwd password cost)) (λ numbers. tt) (λ r given. tt) tt password cost (λ set keys. (keys, λ token. inl keys)) owner sets
    (λ set token some. inr (asked_for device owner sets set holds some)))
    (begun device words) acts halt changes

-- ---- each call

pub run_by : (device : Rows) (least : ℕ) (call : Call) (words : ChaCha) (acts : List Act) (halt : Halt) → Run least call device words acts halt
    → IsAllOf (IsWhatBy device call) acts halt
run_by device least call words acts halt (inl wants) = refuses_so (IsWhatBy device call) acts halt refusal.Memory wants
run_by device least (register identifier password cost) words acts halt (inr runs) = register_by device least identifier password cost words acts halt runs
run_by device least (sign_in identifier password) words acts halt (inr runs) = sign_in_by device identifier password least words acts halt runs
run_by device least (put kind text) words acts halt (inr runs) =
    account_so (IsWhatBy device (put kind text)) device (λ owner sets. WithContent text (PutsItem device words owner kind text)) acts halt
    (λ owner sets holds q. content_so (IsWhatBy device (put kind text)) text (PutsItem device words owner kind text) acts halt
    (put_by device (put kind text) device words owner kind text acts halt) q) runs
run_by device least (edit uuid text) words acts halt (inr runs) =
    account_so (IsWhatBy device (edit uuid text)) device
    (λ owner sets. WithItem device sets uuid (λ shown. WithContent text (CommitsOnce device words (edits uuid text) nothing))) acts halt
    (λ owner sets holds q. item_so (IsWhatBy device (edit uuid text)) device sets uuid
    (λ shown. WithContent text (CommitsOnce device words (edits uuid text) nothing)) acts halt
    (λ shown r. content_so (IsWhatBy device (edit uuid text)) text (CommitsOnce device words (edits uuid text) nothing) acts halt
    (once_so (IsWhatBy device (edit uuid text)) device words (edits uuid text) nothing acts halt tt) r) q) runs
run_by device least (delete uuid) words acts halt (inr runs) =
    account_so (IsWhatBy device (delete uuid)) device (DeletesItem uuid device words) acts halt
    (λ owner sets holds q. delete_by device (delete uuid) uuid device words acts halt owner sets q) runs
run_by device least list words acts halt (inr runs) =
    account_so (IsWhatBy device list) device (ListsItems device words) acts halt
    (λ owner sets holds q. answers_so (IsWhatBy device list) acts halt (lines q.0) words q.2 q.3) runs
run_by device least (content uuid) words acts halt (inr runs) =
    account_so (IsWhatBy device (content uuid)) device (λ owner sets. WithItem device sets uuid (GivesText words)) acts halt
    (λ owner sets holds q. item_so (IsWhatBy device (content uuid)) device sets uuid (GivesText words) acts halt
    (λ shown r. answers_so (IsWhatBy device (content uuid)) acts halt _ words r.0 r.1) q) runs
run_by device least sync words acts halt (inr runs) =
    account_so (IsWhatBy device sync) device (SyncsItems device words) acts halt (sync_by device words acts halt) runs
run_by device least (passwd password cost) words acts halt (inr runs) =
    account_so (IsWhatBy device (passwd password cost)) device (ChangesPassword least password cost device words) acts halt
    (change_by device least password cost words acts halt) runs

-- What each call does: its commits, behind what came right before each, and the parameters that it registers.
use Rattle.std.proofs.Common.{◌≡◌, ℕ, List, Option, Some, refl, ap, ◌∙◌, inl, inr}
use Rattle.rand_chacha.specs.ChaCha.{ChaCha}
use Rattle.sn_device.specs.Asking.{said}
use Rattle.sn_device.specs.Runs.{Act, AsksAccount, Call, ChangesPassword, ChangesTo, CommitsOnce, DeletesItem, Halt, PutsItem, Run, RunsRegister, RunsSignIn, SignsInAgain, SignsInBy, SignsInUnder, SignsInWith, SyncsItems, SyncsUnder, WithContent, WithItem, a_uuid, begun, content, delete, edit, list, nothing, passwd, put, register, sign_in, sync}
use Rattle.sn_device.specs.States.{Bytes}
use Rattle.sn_device.specs.Steps.{What, adopts, applies, asks, begins, deletes, edits, forgets, posts, puts, renews}
use Rattle.sn_keys.specs.Keys.{AreKeysOf}
use Rattle.sn_rows.specs.Table.{Rows}
use Rattle.sn_rows.specs.declared.device_rows.OwnerRow.{OwnerRow}
use Rattle.sn_sets.specs.declared.sets.Sets.{Sets}
use Rattle.sn_string.specs.declared.params.KeySet.{KeySet}
use Rattle.sn_string.specs.declared.params.Params.{Params}
use Rattle.sn_sync.specs.declared.request.Request.TheVariants as request
use Rattle.sn_telling.specs.Calling.{IsCallingOf}
use Rattle.sn_telling.specs.Walking.{set_given}
use Rattle.sn_telling.specs.declared.calling.Calling.{Calling}
use Rattle.sn_telling.specs.declared.calling.Calling.TheVariants as calling
use Rattle.sn_telling.proofs.StepsActs.{Always, AreFrom, Last, account_from, asks_from, changes_have, content_from, item_from, none_from, nothing_from, once_from, owner_from, syncs_have}

-- ---- what is committed

-- an account of this identifier is begun
abbrev pub BeginsAs : Bytes → What → Type 0
BeginsAs identifier (begins set uuid token) = set.params.identifier ≡ identifier
BeginsAs identifier what = ⊥

-- that, or a device that has an account renews its token or adopts a set
abbrev pub SignsAs : Bytes → What → Type 0
SignsAs identifier (begins set uuid token) = set.params.identifier ≡ identifier
SignsAs identifier (renews token) = Unit {0}
SignsAs identifier (adopts set token) = Unit {0}
SignsAs identifier what = ⊥

abbrev pub PutsAs : Bytes → Bytes → What → Type 0
PutsAs kind text (puts uuid type object) = (type ≡ kind) × (object ≡ text)
PutsAs kind text what = ⊥

abbrev pub EditsAs : Bytes → What → Type 0
EditsAs text (edits uuid object) = object ≡ text
EditsAs text what = ⊥

abbrev pub IsDeletion : What → Type 0
IsDeletion (deletes uuid) = Unit {0}
IsDeletion what = ⊥

-- drafts are posted; the answer to the request right before is applied; or a set is asked for, adopted or dropped
abbrev pub SyncsAs : Last → What → Type 0
SyncsAs last (posts numbers) = Unit {0}
SyncsAs last (applies r given) = last ≡ Some (r, said given)
SyncsAs last (asks set) = Unit {0}
SyncsAs last (adopts set token) = Unit {0}
SyncsAs last forgets = Unit {0}
SyncsAs last what = ⊥

abbrev pub IsDoneIn : Calling → Last → What → Type 0
IsDoneIn (calling.Register identifier set) last what = BeginsAs identifier what
IsDoneIn (calling.SignIn identifier) last what = SignsAs identifier what
IsDoneIn (calling.Put kind text) last what = PutsAs kind text what
IsDoneIn (calling.Edit text) last what = EditsAs text what
IsDoneIn calling.Delete last what = IsDeletion what
IsDoneIn calling.Sync last what = SyncsAs last what
IsDoneIn calling.Passwd last what = SyncsAs last what

-- ---- what is registered

-- the parameters of the call's set, which is the keys of the password
abbrev pub IsRegistered : Bytes → Option KeySet → Params → Type 0
IsRegistered password given params = (new : KeySet) × (given ≡ Some new) × (params ≡ new.params) × AreKeysOf password new.params new

-- no other call registers
abbrev pub RegistersBy : Call → Calling → Params → Type 0
RegistersBy (register identifier password cost) what params = IsRegistered password (set_given what) params
RegistersBy (sign_in identifier password) what params = ⊥
RegistersBy (put kind text) what params = ⊥
RegistersBy (edit uuid text) what params = ⊥
RegistersBy (delete uuid) what params = ⊥
RegistersBy list what params = ⊥
RegistersBy (content uuid) what params = ⊥
RegistersBy sync what params = ⊥
RegistersBy (passwd password cost) what params = ⊥

-- the acts of a call are so
abbrev pub AreActsOf : Call → Calling → List Act → Type 0
AreActsOf call what acts = AreFrom (IsDoneIn what) (RegistersBy call what) acts

-- ---- a registration

of_register : (least : ℕ) (identifier password : Bytes) (cost : ℕ) (name : Bytes) (set : Option KeySet) (rows : Rows) (words : ChaCha) (acts : List Act)
    (halt : Halt) → IsCallingOf words (register identifier password cost) (calling.Register name set)
    → RunsRegister least identifier password cost rows words acts halt → AreActsOf (register identifier password cost) (calling.Register name set) acts
of_register least identifier password cost name set rows words acts halt of (inl (owner, has, refuses)) =
    none_from (IsDoneIn (calling.Register name set)) (RegistersBy (register identifier password cost) (calling.Register name set)) acts refuses.0
of_register least identifier password cost name set rows words acts halt of (inr (none, inl (bad, refuses))) =
    none_from (IsDoneIn (calling.Register name set)) (RegistersBy (register identifier password cost) (calling.Register name set)) acts refuses.0
of_register least identifier password cost name set rows words acts halt (same, given) (inr (none, inr (good, (new, left, is_new, asking)))) =
    owner_from (IsDoneIn (calling.Register name set)) (RegistersBy (register identifier password cost) (calling.Register name set)) rows left
    (request.Register new.params new.pw) (begins new) acts halt (new, given new left is_new, refl, is_new.keys)
    (λ uuid token last. is_new.identifier_is ∙ same) asking

-- ---- a sign-in

module _ (rows : Rows) (words : ChaCha) (identifier password name : Bytes) (same : identifier ≡ name) (halt : Halt) where
  abbrev Done : Last → What → Type 0
  Done last what = IsDoneIn (calling.SignIn name) last what

  abbrev Registers : Params → Type 0
  Registers params = RegistersBy (sign_in identifier password) (calling.SignIn name) params

  abbrev Signs : List Act → Type 0
  Signs acts = AreActsOf (sign_in identifier password) (calling.SignIn name) acts

  signs_account : (set : KeySet) (what : Bytes → Bytes → What) (acts : List Act) → ((uuid token : Bytes) → Always Done Registers (what uuid token))
      → AsksAccount rows words (request.SignIn identifier set.pw) what acts halt → Signs acts
  signs_account set what acts so asking = owner_from Done Registers rows words (request.SignIn identifier set.pw) what acts halt tt so asking

  signs_again : (sets : Sets) (set : KeySet) (acts : List Act) → SignsInAgain rows words identifier sets set acts halt → Signs acts
  signs_again sets set acts (inl (params, other, refuses)) = none_from Done Registers acts refuses.0
  signs_again sets set acts (inr (inl (held, asking))) = signs_account set (λ uuid token. renews token) acts (λ uuid token last. tt) asking
  signs_again sets set acts (inr (inr (params, inl (older, refuses)))) = none_from Done Registers acts refuses.0
  signs_again sets set acts (inr (inr (params, inr (unheld, asking)))) = signs_account set (λ uuid token. adopts set token) acts (λ uuid token last. tt) asking

  signs_with : (set : KeySet) (acts : List Act) → set.params.identifier ≡ identifier → SignsInWith rows words identifier set acts halt → Signs acts
  signs_with set acts own (inl (none, asking)) = signs_account set (begins set) acts (λ uuid token last. own ∙ same) asking
  signs_with set acts own (inr (owner, sets, holds, again)) = signs_again sets set acts again

  signs_under : (least : ℕ) (params : Params) (acts : List Act) → SignsInUnder least rows words identifier password params acts halt → Signs acts
  signs_under least params acts (inl (other, refuses)) = none_from Done Registers acts refuses.0
  signs_under least params acts (inr (own, inl (bad, refuses))) = none_from Done Registers acts refuses.0
  signs_under least params acts (inr (own, inr (good, (set, keys, signs)))) =
      signs_with set acts (ap (λ (p : Params). p.identifier) keys.params ∙ own) signs

  of_sign_in : (least : ℕ) (acts : List Act) → RunsSignIn least identifier password rows words acts halt → Signs acts
  of_sign_in least acts (inl (owner, has, other, refuses)) = none_from Done Registers acts refuses.0
  of_sign_in least acts (inr (may, asking)) =
      asks_from Done Registers (request.Params identifier) (SignsInBy least rows words identifier password) acts halt tt
      (λ given later signs. signs_under least signs.0 later signs.2) asking

-- ---- the user's changes

of_put : (kind text type object : Bytes) (rows : Rows) (words : ChaCha) (acts : List Act) (halt : Halt) (owner : OwnerRow) → kind ≡ type → text ≡ object
    → PutsItem rows words owner kind text acts halt → AreActsOf (put kind text) (calling.Put type object) acts
of_put kind text type object rows words acts halt owner same_kind same_text (inl (used, refuses)) =
    none_from (IsDoneIn (calling.Put type object)) (RegistersBy (put kind text) (calling.Put type object)) acts refuses.0
of_put kind text type object rows words acts halt owner same_kind same_text (inr (room, inl (drawn, none, refuses))) =
    none_from (IsDoneIn (calling.Put type object)) (RegistersBy (put kind text) (calling.Put type object)) acts refuses.0
of_put kind text type object rows words acts halt owner same_kind same_text (inr (room, inr (uuid, once))) =
    once_from (IsDoneIn (calling.Put type object)) (RegistersBy (put kind text) (calling.Put type object)) rows words (puts uuid kind text) (a_uuid uuid) acts halt
    (λ last. (same_kind, same_text)) once

of_delete : (uuid : Bytes) (rows : Rows) (words : ChaCha) (acts : List Act) (halt : Halt) (owner : OwnerRow) (sets : Sets)
    → DeletesItem uuid rows words owner sets acts halt → AreActsOf (delete uuid) calling.Delete acts
of_delete uuid rows words acts halt owner sets (inl (free, refuses)) =
    none_from (IsDoneIn calling.Delete) (RegistersBy (delete uuid) calling.Delete) acts refuses.0
of_delete uuid rows words acts halt owner sets (inr (used, once)) =
    once_from (IsDoneIn calling.Delete) (RegistersBy (delete uuid) calling.Delete) rows words (deletes uuid) nothing acts halt (λ last. tt) once

-- ---- a sync, and a change of password

of_sync : (rows : Rows) (words : ChaCha) (acts : List Act) (halt : Halt) (owner : OwnerRow) (sets : Sets) → SyncsItems rows words owner sets acts halt
    → AreActsOf sync calling.Sync acts
of_sync rows words acts halt owner sets syncs =
    nothing_from (IsDoneIn calling.Sync) (RegistersBy sync calling.Sync) (SyncsUnder owner sets)
    (syncs_have (IsDoneIn calling.Sync) (RegistersBy sync calling.Sync) (λ numbers last. tt) (λ r given. refl) (λ last. tt) (λ set token last. tt) owner sets)
    (begun rows words) acts halt syncs

of_passwd : (least : ℕ) (password : Bytes) (cost : ℕ) (rows : Rows) (words : ChaCha) (acts : List Act) (halt : Halt) (owner : OwnerRow) (sets : Sets)
    → ChangesPassword least password cost rows words owner sets acts halt → AreActsOf (passwd password cost) calling.Passwd acts
of_passwd least password cost rows words acts halt owner sets (inl (bad, refuses)) =
    none_from (IsDoneIn calling.Passwd) (RegistersBy (passwd password cost) calling.Passwd) acts refuses.0
of_passwd least password cost rows words acts halt owner sets (inr (taken, changes)) =
    nothing_from (IsDoneIn calling.Passwd) (RegistersBy (passwd password cost) calling.Passwd) (ChangesTo password cost owner sets)
    (changes_have (IsDoneIn calling.Passwd) (RegistersBy (passwd password cost) calling.Passwd) (λ numbers last. tt) (λ r given. refl) (λ last. tt)
    (λ set token last. tt) (λ set last. tt) password cost owner sets)
    (begun rows words) acts halt changes

-- ---- each call

of_call : (least : ℕ) (call : Call) (what : Calling) (rows : Rows) (words : ChaCha) (acts : List Act) (halt : Halt) → IsCallingOf words call what
    → Run least call rows words acts halt → AreActsOf call what acts
of_call least call what rows words acts halt of (inl wants) = none_from (IsDoneIn what) (RegistersBy call what) acts wants.0
of_call least (register identifier password cost) (calling.Register name set) rows words acts halt of (inr runs) =
    of_register least identifier password cost name set rows words acts halt of runs
of_call least (sign_in identifier password) (calling.SignIn name) rows words acts halt of (inr runs) =
    of_sign_in rows words identifier password name of halt least acts runs
of_call least (put kind text) (calling.Put type object) rows words acts halt of (inr runs) =
    account_from (IsDoneIn (calling.Put type object)) (RegistersBy (put kind text) (calling.Put type object)) rows
    (λ owner sets. WithContent text (PutsItem rows words owner kind text)) acts halt
    (λ owner sets q. content_from (IsDoneIn (calling.Put type object)) (RegistersBy (put kind text) (calling.Put type object)) text
    (PutsItem rows words owner kind text) acts halt (λ p. of_put kind text type object rows words acts halt owner of.0 of.1 p) q) runs
of_call least (edit uuid text) (calling.Edit object) rows words acts halt of (inr runs) =
    account_from (IsDoneIn (calling.Edit object)) (RegistersBy (edit uuid text) (calling.Edit object)) rows
    (λ owner sets. WithItem rows sets uuid (λ shown. WithContent text (CommitsOnce rows words (edits uuid text) nothing))) acts halt
    (λ owner sets q. item_from (IsDoneIn (calling.Edit object)) (RegistersBy (edit uuid text) (calling.Edit object)) rows sets uuid
    (λ shown. WithContent text (CommitsOnce rows words (edits uuid text) nothing)) acts halt
    (λ shown p. content_from (IsDoneIn (calling.Edit object)) (RegistersBy (edit uuid text) (calling.Edit object)) text
    (CommitsOnce rows words (edits uuid text) nothing) acts halt
    (λ once. once_from (IsDoneIn (calling.Edit object)) (RegistersBy (edit uuid text) (calling.Edit object)) rows words (edits uuid text) nothing acts halt
    (λ last. of) once) p) q) runs
of_call least (delete uuid) calling.Delete rows words acts halt of (inr runs) =
    account_from (IsDoneIn calling.Delete) (RegistersBy (delete uuid) calling.Delete) rows (DeletesItem uuid rows words) acts halt
    (λ owner sets p. of_delete uuid rows words acts halt owner sets p) runs
of_call least sync calling.Sync rows words acts halt of (inr runs) =
    account_from (IsDoneIn calling.Sync) (RegistersBy sync calling.Sync) rows (SyncsItems rows words) acts halt
    (λ owner sets p. of_sync rows words acts halt owner sets p) runs
of_call least (passwd password cost) calling.Passwd rows words acts halt of (inr runs) =
    account_from (IsDoneIn calling.Passwd) (RegistersBy (passwd password cost) calling.Passwd) rows (ChangesPassword least password cost rows words) acts halt
    (λ owner sets p. of_passwd least password cost rows words acts halt owner sets p) runs
of_call least call what rows words acts halt of runs = absurd of

pub run_acts : (least : ℕ) (call : Call) (what : Calling) (rows : Rows) (words : ChaCha) (acts : List Act) (halt : Halt) → IsCallingOf words call what
    → Run least call rows words acts halt → AreActsOf call what acts
run_acts = of_call

-- Each request of a call is readable, where those before it were answered as the server answers.
use Rattle.std.proofs.Common.{ℕ, List, sym, subst, inl, inr}
use Rattle.std.specs.Str.{IsUtf8}
use Rattle.rand_chacha.specs.ChaCha.{ChaCha}
use Rattle.sn_device.specs.Runs.{Act, AsksAccount, AsksFirst, AsksParams, Call, ChangesPassword, CommitsOnce, DeletesItem, Given, GivesText, Halt, KeepsAccount, ListsItems, PutsItem, Run, RunsRegister, RunsSignIn, SignsInAgain, SignsInBy, SignsInUnder, SignsInWith, SyncsItems, WithAccount, WithContent, WithItem, a_uuid, content, delete, edit, list, nothing, passwd, put, register, sign_in, sync}
use Rattle.sn_device.specs.States.{Bytes, HasSets}
use Rattle.sn_device.specs.Steps.{What, adopts, begins, deletes, edits, puts, renews}
use Rattle.sn_link.specs.Laws.{IsReadable, ReadableWithin}
use Rattle.sn_rows.specs.Table.{Rows}
use Rattle.sn_rows.specs.declared.device_rows.OwnerRow.{OwnerRow}
use Rattle.sn_sets.specs.declared.sets.Sets.{Sets}
use Rattle.sn_string.specs.Bounds.{IsIdentifier}
use Rattle.sn_string.specs.declared.params.KeySet.{KeySet}
use Rattle.sn_string.specs.declared.params.Params.{Params}
use Rattle.sn_sync.specs.Fits.{AreBytes}
use Rattle.sn_sync.specs.declared.answer.Answer.{Answer}
use Rattle.sn_sync.specs.declared.request.Request.{Request}
use Rattle.sn_sync.specs.declared.request.Request.TheVariants as request
use Rattle.sn_world.proofs.Facts.{password_fits}
use Rattle.sn_world.specs.Fitting.{FitsCall, StepsFit}
use Rattle.sn_readable.proofs.Changes.{changes_readable, syncs_readable}
use Rattle.sn_readable.proofs.Pieces.{AreReadableAnyhow, asked_readable, none_readable}
use Rattle.sn_readable.proofs.Ready.{IsReady}
use Rattle.sn_readable.proofs.Requests.{params_readable, register_readable, sign_in_readable}
use Rattle.sn_readable.proofs.Tokens.{below_are_short}
use Rattle.sn_readable.specs.Laws.{IsHostName, RunsReadable}

module _ (within : ReadableWithin) (host : Bytes) (named : IsHostName host) where
  abbrev Good : List Act → Type 0
  Good acts = AreReadableAnyhow host acts

  -- ---- one commit, or one request

  commit_readable : (rows : Rows) (words : ChaCha) (what : What) (given : Given) (acts : List Act) (halt : Halt) → CommitsOnce rows words what given acts halt
      → Good acts
  commit_readable rows words what given acts halt (changes, left, step, inl (batch, e, ends)) = subst Good (sym e) (λ server. tt)
  commit_readable rows words what given acts halt (changes, left, step, inr (e, stops)) = none_readable host acts e

  ask_readable : (r : Request) (P : Answer → List Act → Halt → Type 0) (acts : List Act) (halt : Halt) → IsReadable host r
      → ((given : Answer) (later : List Act) → P given later halt → Good later) → AsksFirst r P acts halt → Good acts
  ask_readable r P acts halt one so (reply, later, e, inl (why, fails, refuses)) =
      subst Good (sym e) (asked_readable host r reply later one (none_readable host later refuses.0))
  ask_readable r P acts halt one so (reply, later, e, inr (inl wants)) =
      subst Good (sym e) (asked_readable host r reply later one (none_readable host later wants.0))
  ask_readable r P acts halt one so (reply, later, e, inr (inr (given, is, p))) =
      subst Good (sym e) (asked_readable host r reply later one (so given later p))

  account_readable : (rows : Rows) (P : OwnerRow → Sets → List Act → Halt → Type 0) (acts : List Act) (halt : Halt)
      → ((owner : OwnerRow) (sets : Sets) → HasSets rows owner sets → P owner sets acts halt → Good acts) → WithAccount rows P acts halt → Good acts
  account_readable rows P acts halt so (inl (none, refuses)) = none_readable host acts refuses.0
  account_readable rows P acts halt so (inr (owner, sets, holds, p)) = so owner sets holds p

  content_readable : (text : Bytes) (P : List Act → Halt → Type 0) (acts : List Act) (halt : Halt) → (P acts halt → Good acts)
      → WithContent text P acts halt → Good acts
  content_readable text P acts halt so (inl (long, refuses)) = none_readable host acts refuses.0
  content_readable text P acts halt so (inr (short, inl (other, refuses))) = none_readable host acts refuses.0
  content_readable text P acts halt so (inr (short, inr (object, p))) = so p

  item_readable : (rows : Rows) (sets : Sets) (uuid : Bytes) (P : Bytes → List Act → Halt → Type 0) (acts : List Act) (halt : Halt)
      → ((shown : Bytes) → P shown acts halt → Good acts) → WithItem rows sets uuid P acts halt → Good acts
  item_readable rows sets uuid P acts halt so (inl (gone, refuses)) = none_readable host acts refuses.0
  item_readable rows sets uuid P acts halt so (inr (number, local, stands, undeleted, inl (nonce, closed, refuses))) = none_readable host acts refuses.0
  item_readable rows sets uuid P acts halt so (inr (number, local, stands, undeleted, inr (shown, shows, p))) = so shown p

  -- ---- registration and sign-in

  owner_readable : (rows : Rows) (words : ChaCha) (r : Request) (what : Bytes → Bytes → What) (acts : List Act) (halt : Halt) → IsReadable host r
      → AsksAccount rows words r what acts halt → Good acts
  owner_readable rows words r what acts halt one asks =
      ask_readable r (KeepsAccount rows words what) acts halt one
      (λ given later p. commit_readable rows words (what p.2 p.0) nothing later halt p.4) asks

  registers_readable : (least : ℕ) (identifier password : Bytes) (cost : ℕ) (rows : Rows) (words : ChaCha) (acts : List Act) (halt : Halt)
      → RunsRegister least identifier password cost rows words acts halt → Good acts
  registers_readable least identifier password cost rows words acts halt (inl (owner, has, refuses)) = none_readable host acts refuses.0
  registers_readable least identifier password cost rows words acts halt (inr (none, inl (bad, refuses))) = none_readable host acts refuses.0
  registers_readable least identifier password cost rows words acts halt (inr (none, inr (good, (set, left, new, asks)))) =
      owner_readable rows left (request.Register set.params set.pw) (begins set) acts halt
      (register_readable within host named set.params set.pw (password_fits password set.params set new.keys)) asks

  module _ (identifier : Bytes) (long : IsIdentifier identifier) (utf8 : IsUtf8 identifier) where
    again_readable : (set : KeySet) → AreBytes 32 set.pw → (rows : Rows) (words : ChaCha) (sets : Sets) (acts : List Act) (halt : Halt)
        → SignsInAgain rows words identifier sets set acts halt → Good acts
    again_readable set pw rows words sets acts halt (inl (same, differs, refuses)) = none_readable host acts refuses.0
    again_readable set pw rows words sets acts halt (inr (inl (same, asks))) =
        owner_readable rows words (request.SignIn identifier set.pw) (λ uuid token. renews token) acts halt
        (sign_in_readable within host named identifier set.pw (long, pw)) asks
    again_readable set pw rows words sets acts halt (inr (inr (other, inl (older, refuses)))) = none_readable host acts refuses.0
    again_readable set pw rows words sets acts halt (inr (inr (other, inr (not, asks)))) =
        owner_readable rows words (request.SignIn identifier set.pw) (λ uuid token. adopts set token) acts halt
        (sign_in_readable within host named identifier set.pw (long, pw)) asks

    with_readable : (set : KeySet) → AreBytes 32 set.pw → (rows : Rows) (words : ChaCha) (acts : List Act) (halt : Halt)
        → SignsInWith rows words identifier set acts halt → Good acts
    with_readable set pw rows words acts halt (inl (none, asks)) =
        owner_readable rows words (request.SignIn identifier set.pw) (begins set) acts halt
        (sign_in_readable within host named identifier set.pw (long, pw)) asks
    with_readable set pw rows words acts halt (inr (owner, sets, holds, again)) = again_readable set pw rows words sets acts halt again

    signed_readable : (least : ℕ) (rows : Rows) (words : ChaCha) (password : Bytes) (params : Params) (acts : List Act) (halt : Halt)
        → SignsInUnder least rows words identifier password params acts halt → Good acts
    signed_readable least rows words password params acts halt (inl (other, refuses)) = none_readable host acts refuses.0
    signed_readable least rows words password params acts halt (inr (same, inl (bad, refuses))) = none_readable host acts refuses.0
    signed_readable least rows words password params acts halt (inr (same, inr (good, (set, keys, signs)))) =
        with_readable set (password_fits password params set keys) rows words acts halt signs

    told_readable : (least : ℕ) (rows : Rows) (words : ChaCha) (password : Bytes) (acts : List Act) (halt : Halt)
        → AsksParams least rows words identifier password acts halt → Good acts
    told_readable least rows words password acts halt asks =
        ask_readable (request.Params identifier) (SignsInBy least rows words identifier password) acts halt
        (params_readable within host named identifier (long, utf8))
        (λ given later p. signed_readable least rows words password p.0 later halt p.2) asks

    signs_readable : (least : ℕ) (password : Bytes) (rows : Rows) (words : ChaCha) (acts : List Act) (halt : Halt)
        → RunsSignIn least identifier password rows words acts halt → Good acts
    signs_readable least password rows words acts halt (inl (owner, has, differs, refuses)) = none_readable host acts refuses.0
    signs_readable least password rows words acts halt (inr (may, asks)) = told_readable least rows words password acts halt asks

  -- ---- items

  puts_readable : (rows : Rows) (words : ChaCha) (owner : OwnerRow) (kind text : Bytes) (acts : List Act) (halt : Halt)
      → PutsItem rows words owner kind text acts halt → Good acts
  puts_readable rows words owner kind text acts halt (inl (used, refuses)) = none_readable host acts refuses.0
  puts_readable rows words owner kind text acts halt (inr (room, inl (drawn, none, refuses))) = none_readable host acts refuses.0
  puts_readable rows words owner kind text acts halt (inr (room, inr (uuid, once))) =
      commit_readable rows words (puts uuid kind text) (a_uuid uuid) acts halt once

  deletes_readable : (uuid : Bytes) (rows : Rows) (words : ChaCha) (acts : List Act) (halt : Halt) (owner : OwnerRow) (sets : Sets)
      → DeletesItem uuid rows words owner sets acts halt → Good acts
  deletes_readable uuid rows words acts halt owner sets (inl (free, refuses)) = none_readable host acts refuses.0
  deletes_readable uuid rows words acts halt owner sets (inr (used, once)) = commit_readable rows words (deletes uuid) nothing acts halt once

  -- ---- each call, where this is known of a sync and of a change of password

  run_readable : (least : ℕ) (call : Call) (rows : Rows) (words : ChaCha) (acts : List Act) (halt : Halt) → FitsCall call
      → ((owner : OwnerRow) (sets : Sets) → HasSets rows owner sets → SyncsItems rows words owner sets acts halt → Good acts)
      → ((password : Bytes) (cost : ℕ) (owner : OwnerRow) (sets : Sets) → HasSets rows owner sets
      → ChangesPassword least password cost rows words owner sets acts halt → Good acts) → Run least call rows words acts halt → Good acts
  run_readable least call rows words acts halt fits syncs changes (inl wants) = none_readable host acts wants.0
  run_readable least (register identifier password cost) rows words acts halt fits syncs changes (inr runs) =
      registers_readable least identifier password cost rows words acts halt runs
  run_readable least (sign_in identifier password) rows words acts halt fits syncs changes (inr runs) =
      signs_readable identifier fits.0 fits.1 least password rows words acts halt runs
  run_readable least (put kind text) rows words acts halt fits syncs changes (inr runs) =
      account_readable rows (λ owner sets. WithContent text (PutsItem rows words owner kind text)) acts halt
      (λ owner sets holds p. content_readable text (PutsItem rows words owner kind text) acts halt (puts_readable rows words owner kind text acts halt) p) runs
  run_readable least (edit uuid text) rows words acts halt fits syncs changes (inr runs) =
      account_readable rows (λ owner sets. WithItem rows sets uuid (λ shown. WithContent text (CommitsOnce rows words (edits uuid text) nothing))) acts halt
      (λ owner sets holds p. item_readable rows sets uuid (λ shown. WithContent text (CommitsOnce rows words (edits uuid text) nothing)) acts halt
      (λ shown q. content_readable text (CommitsOnce rows words (edits uuid text) nothing) acts halt
      (commit_readable rows words (edits uuid text) nothing acts halt) q) p) runs
  run_readable least (delete uuid) rows words acts halt fits syncs changes (inr runs) =
      account_readable rows (DeletesItem uuid rows words) acts halt (λ owner sets holds p. deletes_readable uuid rows words acts halt owner sets p) runs
  run_readable least list rows words acts halt fits syncs changes (inr runs) =
      account_readable rows (ListsItems rows words) acts halt (λ owner sets holds p. none_readable host acts p.2) runs
  run_readable least (content uuid) rows words acts halt fits syncs changes (inr runs) =
      account_readable rows (λ owner sets. WithItem rows sets uuid (GivesText words)) acts halt
      (λ owner sets holds p. item_readable rows sets uuid (GivesText words) acts halt (λ shown q. none_readable host acts q.0) p) runs
  run_readable least sync rows words acts halt fits syncs changes (inr runs) = account_readable rows (SyncsItems rows words) acts halt syncs runs
  run_readable least (passwd password cost) rows words acts halt fits syncs changes (inr runs) =
      account_readable rows (ChangesPassword least password cost rows words) acts halt (changes password cost) runs

-- ---- in a world

pub runs_readable : ReadableWithin → StepsFit → RunsReadable
runs_readable within steps host secret w s name least call words acts halt server named h fits known run =
    let rows : Rows = w.devices name in
    let ready : IsReady rows = record { fits = fits; tokens = below_are_short rows _ (h.sync_tokens name) } in
    run_readable within host named least call rows words acts halt known
    (λ owner sets holds syncs. syncs_readable within steps host named rows words owner sets acts halt ready holds syncs)
    (λ password cost owner sets holds changes. changes_readable within steps host named least password cost rows words owner sets acts halt ready holds changes)
    run server

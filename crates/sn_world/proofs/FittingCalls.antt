-- Each request of a whole call is within the bounds of one that is read.
use Rattle.std.proofs.Common.{◌≡◌, ℕ, List, [], ◌∷◌, ◌++◌, refl, sym, subst, inl, inr}
use Rattle.std.specs.Str.{IsUtf8}
use Rattle.rand_chacha.specs.ChaCha.{ChaCha}
use Rattle.sn_device.specs.Laws.{AreSteps, RunsBySteps}
use Rattle.sn_device.specs.Runs.{Act, AsksAccount, AsksFirst, AsksParams, Call, ChangesPassword, ChangesTo, CommitsOnce, DeletesItem, Given, GivesText, Halt, KeepsAccount, ListsItems, PutsItem, Run, RunsRegister, RunsSignIn, SignsInAgain, SignsInBy, SignsInUnder, SignsInWith, SyncsItems, SyncsUnder, WithAccount, WithContent, WithItem, a_uuid, asked, begun, commits, content, delete, edit, list, nothing, passwd, put, register, rows_done, sign_in, sync}
use Rattle.sn_device.specs.States.{Bytes, HasSets}
use Rattle.sn_device.specs.Steps.{What, adopts, begins, deletes, edits, puts, renews}
use Rattle.sn_rows.specs.Table.{Rows, rows_after}
use Rattle.sn_rows.specs.declared.device_rows.OwnerRow.{OwnerRow}
use Rattle.sn_sets.specs.declared.sets.Sets.{Sets}
use Rattle.sn_string.specs.Bounds.{IsIdentifier}
use Rattle.sn_string.specs.declared.params.KeySet.{KeySet}
use Rattle.sn_string.specs.declared.params.Params.{Params}
use Rattle.sn_sync.specs.Fits.{AreBytes, FitsRequest}
use Rattle.sn_sync.specs.declared.answer.Answer.{Answer}
use Rattle.sn_sync.specs.declared.request.Request.{Request}
use Rattle.sn_sync.specs.declared.request.Request.TheVariants as request
use Rattle.sn_world.proofs.FittingPieces.{IsGood, answers_fit, changes_have, front_fits, none_fit, syncs_have}
use Rattle.sn_world.proofs.KeyBytes.{password_fits}
use Rattle.sn_world.specs.Fitting.{AreFitting, FitsCall, FitsRows, FitsWhat, RequestsFit, RunsStayFitting, StepsFit}

-- ---- one commit, or one request

commit_fits : (rows : Rows) (words : ChaCha) (what : What) (given : Given) (acts : List Act) (halt : Halt) → FitsWhat what → CommitsOnce rows words what given acts halt
    → AreFitting acts
commit_fits rows words what given acts halt fits (changes, left, step, inl (batch, e, ends)) = subst AreFitting (sym e) (fits, tt)
commit_fits rows words what given acts halt fits (changes, left, step, inr (e, stops)) = none_fit acts e

ask_fits : (r : Request) (P : Answer → List Act → Halt → Type 0) (acts : List Act) (halt : Halt) → FitsRequest r
    → ((given : Answer) (later : List Act) → P given later halt → AreFitting later) → AsksFirst r P acts halt → AreFitting acts
ask_fits r P acts halt fits so (reply, later, e, inl (why, fails, refuses)) = subst AreFitting (sym e) (fits, none_fit later refuses.0)
ask_fits r P acts halt fits so (reply, later, e, inr (inl wants)) = subst AreFitting (sym e) (fits, none_fit later wants.0)
ask_fits r P acts halt fits so (reply, later, e, inr (inr (given, is, p))) = subst AreFitting (sym e) (fits, so given later p)

account_fits : (rows : Rows) (P : OwnerRow → Sets → List Act → Halt → Type 0) (acts : List Act) (halt : Halt)
    → ((owner : OwnerRow) (sets : Sets) → HasSets rows owner sets → P owner sets acts halt → AreFitting acts) → WithAccount rows P acts halt → AreFitting acts
account_fits rows P acts halt so (inl (none, refuses)) = none_fit acts refuses.0
account_fits rows P acts halt so (inr (owner, sets, holds, p)) = so owner sets holds p

content_fits : (text : Bytes) (P : List Act → Halt → Type 0) (acts : List Act) (halt : Halt) → (P acts halt → AreFitting acts)
    → WithContent text P acts halt → AreFitting acts
content_fits text P acts halt so (inl (long, refuses)) = none_fit acts refuses.0
content_fits text P acts halt so (inr (short, inl (other, refuses))) = none_fit acts refuses.0
content_fits text P acts halt so (inr (short, inr (object, p))) = so p

item_fits : (rows : Rows) (sets : Sets) (uuid : Bytes) (P : Bytes → List Act → Halt → Type 0) (acts : List Act) (halt : Halt)
    → ((shown : Bytes) → P shown acts halt → AreFitting acts) → WithItem rows sets uuid P acts halt → AreFitting acts
item_fits rows sets uuid P acts halt so (inl (gone, refuses)) = none_fit acts refuses.0
item_fits rows sets uuid P acts halt so (inr (number, local, stands, undeleted, inl (nonce, closed, refuses))) = none_fit acts refuses.0
item_fits rows sets uuid P acts halt so (inr (number, local, stands, undeleted, inr (shown, shows, p))) = so shown p

-- ---- registration and sign-in

owner_fits : (rows : Rows) (words : ChaCha) (r : Request) (what : Bytes → Bytes → What) (acts : List Act) (halt : Halt) → FitsRequest r
    → ((uuid token : Bytes) → FitsWhat (what uuid token)) → AsksAccount rows words r what acts halt → AreFitting acts
owner_fits rows words r what acts halt fits kept asks =
    ask_fits r (KeepsAccount rows words what) acts halt fits
    (λ given later p. commit_fits rows words (what p.2 p.0) nothing later halt (kept p.2 p.0) p.4) asks

register_fits : (least : ℕ) (identifier password : Bytes) (cost : ℕ) (rows : Rows) (words : ChaCha) (acts : List Act) (halt : Halt)
    → RunsRegister least identifier password cost rows words acts halt → AreFitting acts
register_fits least identifier password cost rows words acts halt (inl (owner, has, refuses)) = none_fit acts refuses.0
register_fits least identifier password cost rows words acts halt (inr (none, inl (bad, refuses))) = none_fit acts refuses.0
register_fits least identifier password cost rows words acts halt (inr (none, inr (good, (set, left, new, asks)))) =
    let pw : AreBytes 32 set.pw = password_fits password set.params set new.keys in
    owner_fits rows left (request.Register set.params set.pw) (begins set) acts halt pw (λ uuid token. pw) asks

module _ (identifier : Bytes) (named : IsIdentifier identifier) (utf8 : IsUtf8 identifier) (set : KeySet) (pw : AreBytes 32 set.pw) where
  again_fits : (rows : Rows) (words : ChaCha) (sets : Sets) (acts : List Act) (halt : Halt) → SignsInAgain rows words identifier sets set acts halt
      → AreFitting acts
  again_fits rows words sets acts halt (inl (same, differs, refuses)) = none_fit acts refuses.0
  again_fits rows words sets acts halt (inr (inl (same, asks))) =
      owner_fits rows words (request.SignIn identifier set.pw) (λ uuid token. renews token) acts halt (named, pw) (λ uuid token. tt) asks
  again_fits rows words sets acts halt (inr (inr (other, inl (older, refuses)))) = none_fit acts refuses.0
  again_fits rows words sets acts halt (inr (inr (other, inr (not, asks)))) =
      owner_fits rows words (request.SignIn identifier set.pw) (λ uuid token. adopts set token) acts halt (named, pw) (λ uuid token. pw) asks

  with_fits : (rows : Rows) (words : ChaCha) (acts : List Act) (halt : Halt) → SignsInWith rows words identifier set acts halt → AreFitting acts
  with_fits rows words acts halt (inl (none, asks)) =
      owner_fits rows words (request.SignIn identifier set.pw) (begins set) acts halt (named, pw) (λ uuid token. pw) asks
  with_fits rows words acts halt (inr (owner, sets, holds, again)) = again_fits rows words sets acts halt again

under_fits : (least : ℕ) (rows : Rows) (words : ChaCha) (identifier password : Bytes) (params : Params) (acts : List Act) (halt : Halt) → IsIdentifier identifier
    → IsUtf8 identifier → SignsInUnder least rows words identifier password params acts halt → AreFitting acts
under_fits least rows words identifier password params acts halt named utf8 (inl (other, refuses)) = none_fit acts refuses.0
under_fits least rows words identifier password params acts halt named utf8 (inr (same, inl (bad, refuses))) = none_fit acts refuses.0
under_fits least rows words identifier password params acts halt named utf8 (inr (same, inr (good, (set, keys, signs)))) =
    with_fits identifier named utf8 set (password_fits password params set keys) rows words acts halt signs

params_fit : (least : ℕ) (rows : Rows) (words : ChaCha) (identifier password : Bytes) (acts : List Act) (halt : Halt) → IsIdentifier identifier
    → IsUtf8 identifier → AsksParams least rows words identifier password acts halt → AreFitting acts
params_fit least rows words identifier password acts halt named utf8 asks =
    ask_fits (request.Params identifier) (SignsInBy least rows words identifier password) acts halt (named, utf8)
    (λ given later p. under_fits least rows words identifier password p.0 later halt named utf8 p.2) asks

sign_in_fits : (least : ℕ) (identifier password : Bytes) (rows : Rows) (words : ChaCha) (acts : List Act) (halt : Halt) → IsIdentifier identifier
    → IsUtf8 identifier → RunsSignIn least identifier password rows words acts halt → AreFitting acts
sign_in_fits least identifier password rows words acts halt named utf8 (inl (owner, has, differs, refuses)) = none_fit acts refuses.0
sign_in_fits least identifier password rows words acts halt named utf8 (inr (may, asks)) =
    params_fit least rows words identifier password acts halt named utf8 asks

-- ---- put

put_fits : (rows : Rows) (words : ChaCha) (owner : OwnerRow) (kind text : Bytes) (acts : List Act) (halt : Halt)
    → PutsItem rows words owner kind text acts halt → AreFitting acts
put_fits rows words owner kind text acts halt (inl (used, refuses)) = none_fit acts refuses.0
put_fits rows words owner kind text acts halt (inr (room, inl (drawn, none, refuses))) = none_fit acts refuses.0
put_fits rows words owner kind text acts halt (inr (room, inr (uuid, once))) =
    commit_fits rows words (puts uuid kind text) (a_uuid uuid) acts halt tt once

delete_fits : (uuid : Bytes) (rows : Rows) (words : ChaCha) (acts : List Act) (halt : Halt) (owner : OwnerRow) (sets : Sets)
    → DeletesItem uuid rows words owner sets acts halt → AreFitting acts
delete_fits uuid rows words acts halt owner sets (inl (free, refuses)) = none_fit acts refuses.0
delete_fits uuid rows words acts halt owner sets (inr (used, once)) = commit_fits rows words (deletes uuid) nothing acts halt tt once

-- ---- each call, where this is known of a sync and of a change of password

pub run_fits : (least : ℕ) (call : Call) (rows : Rows) (words : ChaCha) (acts : List Act) (halt : Halt) → FitsCall call
    → ((owner : OwnerRow) (sets : Sets) → HasSets rows owner sets → SyncsItems rows words owner sets acts halt → AreFitting acts)
    → ((password : Bytes) (cost : ℕ) (owner : OwnerRow) (sets : Sets) → call ≡ passwd password cost → HasSets rows owner sets
    → ChangesPassword least password cost rows words owner sets acts halt → AreFitting acts)
    → Run least call rows words acts halt → AreFitting acts
run_fits least call rows words acts halt fits syncs changes (inl wants) = none_fit acts wants.0
run_fits least (register identifier password cost) rows words acts halt fits syncs changes (inr runs) =
    register_fits least identifier password cost rows words acts halt runs
run_fits least (sign_in identifier password) rows words acts halt fits syncs changes (inr runs) =
    sign_in_fits least identifier password rows words acts halt fits.0 fits.1 runs
run_fits least (put kind text) rows words acts halt fits syncs changes (inr runs) =
    account_fits rows (λ owner sets. WithContent text (PutsItem rows words owner kind text)) acts halt
    (λ owner sets holds p. content_fits text (PutsItem rows words owner kind text) acts halt (put_fits rows words owner kind text acts halt) p) runs
run_fits least (edit uuid text) rows words acts halt fits syncs changes (inr runs) =
    account_fits rows (λ owner sets. WithItem rows sets uuid (λ shown. WithContent text (CommitsOnce rows words (edits uuid text) nothing))) acts halt
    (λ owner sets holds p. item_fits rows sets uuid (λ shown. WithContent text (CommitsOnce rows words (edits uuid text) nothing)) acts halt
    (λ shown q. content_fits text (CommitsOnce rows words (edits uuid text) nothing) acts halt
    (commit_fits rows words (edits uuid text) nothing acts halt tt) q) p) runs
run_fits least (delete uuid) rows words acts halt fits syncs changes (inr runs) =
    account_fits rows (DeletesItem uuid rows words) acts halt (λ owner sets holds p. delete_fits uuid rows words acts halt owner sets p) runs
run_fits least list rows words acts halt fits syncs changes (inr runs) =
    account_fits rows (ListsItems rows words) acts halt (λ owner sets holds p. none_fit acts p.2) runs
run_fits least (content uuid) rows words acts halt fits syncs changes (inr runs) =
    account_fits rows (λ owner sets. WithItem rows sets uuid (GivesText words)) acts halt
    (λ owner sets holds p. item_fits rows sets uuid (GivesText words) acts halt (λ shown q. none_fit acts q.0) p) runs
run_fits least sync rows words acts halt fits syncs changes (inr runs) = account_fits rows (SyncsItems rows words) acts halt syncs runs
run_fits least (passwd password cost) rows words acts halt fits syncs changes (inr runs) =
    account_fits rows (ChangesPassword least password cost rows words) acts halt (λ owner sets holds p. changes password cost owner sets refl holds p) runs

-- ---- of any server

rows_good : StepsFit → IsGood FitsRows
rows_good steps = record {
  step = λ rows words left what changes fits good step. steps rows words left what changes good fits step;
  uuids = λ rows good. good.uuids;
}

changed_fits : StepsFit → (least : ℕ) (password : Bytes) (cost : ℕ) (rows : Rows) (words : ChaCha) (acts : List Act) (halt : Halt) (owner : OwnerRow) (sets : Sets)
    → FitsRows rows → HasSets rows owner sets → ChangesPassword least password cost rows words owner sets acts halt → AreFitting acts
changed_fits steps least password cost rows words acts halt owner sets good holds (inl (bad, refuses)) = none_fit acts refuses.0
changed_fits steps least password cost rows words acts halt owner sets good holds (inr (taken, changes)) =
    answers_fit FitsRows (rows_good steps) (ChangesTo password cost owner sets)
    (changes_have FitsRows (rows_good steps) (λ r g. g.passwords) password cost rows owner sets good holds) (begun rows words) acts halt good changes

pub requests_fit : StepsFit → RequestsFit
requests_fit steps least call rows words acts halt fits good run =
    run_fits least call rows words acts halt fits
    (λ owner sets holds syncs.
    answers_fit FitsRows (rows_good steps) (SyncsUnder owner sets) (syncs_have FitsRows (rows_good steps) (λ r g. g.passwords) rows owner sets good holds)
    (begun rows words) acts halt good syncs)
    (λ password cost owner sets is holds changes. changed_fits steps least password cost rows words acts halt owner sets good holds changes) run

-- ---- the rows behind first acts

acts_stay : StepsFit → (rows : Rows) (front later : List Act) → AreSteps rows (front ++ later) → AreFitting front → FitsRows rows → FitsRows (rows_done rows front)
acts_stay steps rows [] later by fit good = good
acts_stay steps rows (commits what changes ∷ front) later (words, left, step, by) (fits, fit) good =
    acts_stay steps (rows_after rows changes) front later by fit (steps rows words left what changes good fits step)
acts_stay steps rows (asked r reply ∷ front) later by (fits, fit) good = acts_stay steps rows front later by fit good

pub runs_stay_fitting : RunsBySteps → StepsFit → RequestsFit → RunsStayFitting
runs_stay_fitting by steps fit least call rows words acts halt front later fits good run is =
    acts_stay steps rows front later (subst (AreSteps rows) is (by least call rows words acts halt run))
    (front_fits front later (subst AreFitting is (fit least call rows words acts halt fits good run))) good

-- Each commit of a run is a step.
use Rattle.std.proofs.Common.{◌≡◌, ℕ, List, [], ◌∷◌, ◌++◌, sym, subst, inl, inr}
use Rattle.rand_chacha.specs.ChaCha.{ChaCha}
use Rattle.sn_rows.specs.Table.{Rows, rows_after}
use Rattle.sn_rows.specs.declared.device_rows.OwnerRow.{OwnerRow}
use Rattle.sn_sets.specs.declared.sets.Sets.{Sets}
use Rattle.sn_string.specs.declared.params.KeySet.{KeySet}
use Rattle.sn_string.specs.declared.params.Params.{Params}
use Rattle.sn_sync.specs.declared.answer.Answer.{Answer}
use Rattle.sn_sync.specs.declared.request.Request.{Request}
use Rattle.sn_sync.specs.declared.request.Request.TheVariants as request
use Rattle.sn_device.specs.Laws.{AreSteps, RunsBySteps}
use Rattle.sn_device.specs.Runs.{Act, AsksAccount, AsksFirst, AsksParams, Call, ChangesPassword, ChangesTo, CommitsOnce, DeletesItem, Given, GivesText, Halt, KeepsAccount, ListsItems, PutsItem, RunsCall, RunsRegister, RunsSignIn, SignsInAgain, SignsInBy, SignsInUnder, SignsInWith, SyncsItems, SyncsUnder, WithAccount, WithContent, WithItem, a_uuid, asked, begun, commits, content, delete, edit, list, nothing, passwd, put, register, rows_done, sign_in, sync}
use Rattle.sn_device.specs.States.{Bytes}
use Rattle.sn_device.specs.Steps.{What, adopts, begins, deletes, edits, puts, renews}
use Rattle.sn_device.proofs.Turns.{AllowsResolving, IsOfActs, answers_has, changes_has, syncs_has}

none_done : (rows : Rows) (acts : List Act) → acts ≡ [] → AreSteps rows acts
none_done rows acts e = subst (AreSteps rows) (sym e) tt

commit_steps : (rows : Rows) (words : ChaCha) (what : What) (given : Given) (acts : List Act) (halt : Halt) → CommitsOnce rows words what given acts halt
    → AreSteps rows acts
commit_steps rows words what given acts halt (changes, left, step, inl (batch, e, ends)) = subst (AreSteps rows) (sym e) (words, left, step, tt)
commit_steps rows words what given acts halt (changes, left, step, inr (e, stops)) = none_done rows acts e

ask_steps : (rows : Rows) (r : Request) (P : Answer → List Act → Halt → Type 0) (acts : List Act) (halt : Halt)
    → ((given : Answer) (later : List Act) → P given later halt → AreSteps rows later) → AsksFirst r P acts halt → AreSteps rows acts
ask_steps rows r P acts halt so (reply, later, e, inl (why, fails, refuses)) = subst (AreSteps rows) (sym e) (none_done rows later refuses.0)
ask_steps rows r P acts halt so (reply, later, e, inr (inl wants)) = subst (AreSteps rows) (sym e) (none_done rows later wants.0)
ask_steps rows r P acts halt so (reply, later, e, inr (inr (given, is, p))) = subst (AreSteps rows) (sym e) (so given later p)

account_steps : (rows : Rows) (P : OwnerRow → Sets → List Act → Halt → Type 0) (acts : List Act) (halt : Halt)
    → ((owner : OwnerRow) (sets : Sets) → P owner sets acts halt → AreSteps rows acts) → WithAccount rows P acts halt → AreSteps rows acts
account_steps rows P acts halt so (inl (none, refuses)) = none_done rows acts refuses.0
account_steps rows P acts halt so (inr (owner, sets, holds, p)) = so owner sets p

content_steps : (rows : Rows) (text : Bytes) (P : List Act → Halt → Type 0) (acts : List Act) (halt : Halt) → (P acts halt → AreSteps rows acts)
    → WithContent text P acts halt → AreSteps rows acts
content_steps rows text P acts halt so (inl (long, refuses)) = none_done rows acts refuses.0
content_steps rows text P acts halt so (inr (short, inl (other, refuses))) = none_done rows acts refuses.0
content_steps rows text P acts halt so (inr (short, inr (object, p))) = so p

item_steps : (rows : Rows) (sets : Sets) (uuid : Bytes) (P : Bytes → List Act → Halt → Type 0) (acts : List Act) (halt : Halt)
    → ((shown : Bytes) → P shown acts halt → AreSteps rows acts) → WithItem rows sets uuid P acts halt → AreSteps rows acts
item_steps rows sets uuid P acts halt so (inl (gone, refuses)) = none_done rows acts refuses.0
item_steps rows sets uuid P acts halt so (inr (number, local, stands, undeleted, inl (nonce, closed, refuses))) = none_done rows acts refuses.0
item_steps rows sets uuid P acts halt so (inr (number, local, stands, undeleted, inr (shown, shows, p))) = so shown p

-- ---- registration and sign-in

account_asked : (rows : Rows) (words : ChaCha) (r : Request) (what : Bytes → Bytes → What) (acts : List Act) (halt : Halt)
    → AsksAccount rows words r what acts halt → AreSteps rows acts
account_asked rows words r what acts halt asks =
    ask_steps rows r (KeepsAccount rows words what) acts halt (λ given later p. commit_steps rows words (what p.2 p.0) nothing later halt p.4) asks

register_steps : (least : ℕ) (identifier password : Bytes) (cost : ℕ) (rows : Rows) (words : ChaCha) (acts : List Act) (halt : Halt)
    → RunsRegister least identifier password cost rows words acts halt → AreSteps rows acts
register_steps least identifier password cost rows words acts halt (inl (owner, has, refuses)) = none_done rows acts refuses.0
register_steps least identifier password cost rows words acts halt (inr (none, inl (bad, refuses))) = none_done rows acts refuses.0
register_steps least identifier password cost rows words acts halt (inr (none, inr (good, (set, left, new, asks)))) =
    account_asked rows left (request.Register set.params set.pw) (begins set) acts halt asks

again_steps : (rows : Rows) (words : ChaCha) (identifier : Bytes) (sets : Sets) (set : KeySet) (acts : List Act) (halt : Halt)
    → SignsInAgain rows words identifier sets set acts halt → AreSteps rows acts
again_steps rows words identifier sets set acts halt (inl (same, differs, refuses)) = none_done rows acts refuses.0
again_steps rows words identifier sets set acts halt (inr (inl (same, asks))) =
    account_asked rows words (request.SignIn identifier set.pw) (λ uuid token. renews token) acts halt asks
again_steps rows words identifier sets set acts halt (inr (inr (other, inl (older, refuses)))) = none_done rows acts refuses.0
again_steps rows words identifier sets set acts halt (inr (inr (other, inr (not, asks)))) =
    account_asked rows words (request.SignIn identifier set.pw) (λ uuid token. adopts set token) acts halt asks

with_steps : (rows : Rows) (words : ChaCha) (identifier : Bytes) (set : KeySet) (acts : List Act) (halt : Halt)
    → SignsInWith rows words identifier set acts halt → AreSteps rows acts
with_steps rows words identifier set acts halt (inl (none, asks)) =
    account_asked rows words (request.SignIn identifier set.pw) (begins set) acts halt asks
with_steps rows words identifier set acts halt (inr (owner, sets, holds, again)) = again_steps rows words identifier sets set acts halt again

under_steps : (least : ℕ) (rows : Rows) (words : ChaCha) (identifier password : Bytes) (params : Params) (acts : List Act) (halt : Halt)
    → SignsInUnder least rows words identifier password params acts halt → AreSteps rows acts
under_steps least rows words identifier password params acts halt (inl (other, refuses)) = none_done rows acts refuses.0
under_steps least rows words identifier password params acts halt (inr (same, inl (bad, refuses))) = none_done rows acts refuses.0
under_steps least rows words identifier password params acts halt (inr (same, inr (good, (set, keys, signs)))) =
    with_steps rows words identifier set acts halt signs

params_steps : (least : ℕ) (rows : Rows) (words : ChaCha) (identifier password : Bytes) (acts : List Act) (halt : Halt)
    → AsksParams least rows words identifier password acts halt → AreSteps rows acts
params_steps least rows words identifier password acts halt asks =
    ask_steps rows (request.Params identifier) (SignsInBy least rows words identifier password) acts halt
    (λ given later p. under_steps least rows words identifier password p.0 later halt p.2) asks

sign_in_steps : (least : ℕ) (identifier password : Bytes) (rows : Rows) (words : ChaCha) (acts : List Act) (halt : Halt)
    → RunsSignIn least identifier password rows words acts halt → AreSteps rows acts
sign_in_steps least identifier password rows words acts halt (inl (owner, has, differs, refuses)) = none_done rows acts refuses.0
sign_in_steps least identifier password rows words acts halt (inr (may, asks)) = params_steps least rows words identifier password acts halt asks

-- ---- put

put_steps : (rows : Rows) (words : ChaCha) (owner : OwnerRow) (kind text : Bytes) (acts : List Act) (halt : Halt)
    → PutsItem rows words owner kind text acts halt → AreSteps rows acts
put_steps rows words owner kind text acts halt (inl (used, refuses)) = none_done rows acts refuses.0
put_steps rows words owner kind text acts halt (inr (room, inl (drawn, none, refuses))) = none_done rows acts refuses.0
put_steps rows words owner kind text acts halt (inr (room, inr (uuid, once))) =
    commit_steps rows words (puts uuid kind text) (a_uuid uuid) acts halt once

-- ---- piece by piece

steps_append : (rows : Rows) (front later : List Act) → AreSteps rows front → AreSteps (rows_done rows front) later → AreSteps rows (front ++ later)
steps_append rows [] later steps more = more
steps_append rows (commits what changes ∷ front) later (words, left, step, steps) more =
    (words, left, step, steps_append (rows_after rows changes) front later steps more)
steps_append rows (asked r reply ∷ front) later steps more = steps_append rows front later steps more

-- whatever is committed
abbrev any_what : What → Type 0
any_what what = Unit {0}

steps_of_acts : IsOfActs AreSteps any_what
steps_of_acts = record {
  none = λ rows. tt;
  commit = λ rows words left what changes allowed step. (words, left, step, tt);
  ask = λ rows r reply acts steps. steps;
  append = steps_append;
}

any_allowed : AllowsResolving any_what
any_allowed = record {
  exchanges = record { to_post = λ numbers. tt; to_apply = λ r given. tt };
  to_adopt = λ set token. tt;
  to_forget = tt;
}

synced_steps : (rows : Rows) (words : ChaCha) (acts : List Act) (halt : Halt) (owner : OwnerRow) (sets : Sets) → SyncsItems rows words owner sets acts halt
    → AreSteps rows acts
synced_steps rows words acts halt owner sets syncs =
    answers_has AreSteps any_what steps_of_acts (SyncsUnder owner sets) (syncs_has AreSteps any_what steps_of_acts any_allowed owner sets) (begun rows words)
    acts halt syncs

changed_steps : (least : ℕ) (password : Bytes) (cost : ℕ) (rows : Rows) (words : ChaCha) (acts : List Act) (halt : Halt) (owner : OwnerRow) (sets : Sets)
    → ChangesPassword least password cost rows words owner sets acts halt → AreSteps rows acts
changed_steps least password cost rows words acts halt owner sets (inl (bad, refuses)) = none_done rows acts refuses.0
changed_steps least password cost rows words acts halt owner sets (inr (good, changes)) =
    answers_has AreSteps any_what steps_of_acts (ChangesTo password cost owner sets)
    (changes_has AreSteps any_what steps_of_acts any_allowed (λ set. tt) password cost owner sets) (begun rows words) acts halt changes

-- ---- each call

delete_steps : (uuid : Bytes) (rows : Rows) (words : ChaCha) (acts : List Act) (halt : Halt) (owner : OwnerRow) (sets : Sets)
    → DeletesItem uuid rows words owner sets acts halt → AreSteps rows acts
delete_steps uuid rows words acts halt owner sets (inl (free, refuses)) = none_done rows acts refuses.0
delete_steps uuid rows words acts halt owner sets (inr (used, once)) = commit_steps rows words (deletes uuid) nothing acts halt once

call_steps : (least : ℕ) (call : Call) (rows : Rows) (words : ChaCha) (acts : List Act) (halt : Halt) → RunsCall least call rows words acts halt
    → AreSteps rows acts
call_steps least (register identifier password cost) rows words acts halt runs = register_steps least identifier password cost rows words acts halt runs
call_steps least (sign_in identifier password) rows words acts halt runs = sign_in_steps least identifier password rows words acts halt runs
call_steps least (put kind text) rows words acts halt runs =
    account_steps rows (λ owner sets. WithContent text (PutsItem rows words owner kind text)) acts halt
    (λ owner sets p. content_steps rows text (PutsItem rows words owner kind text) acts halt (put_steps rows words owner kind text acts halt) p) runs
call_steps least (edit uuid text) rows words acts halt runs =
    account_steps rows (λ owner sets. WithItem rows sets uuid (λ shown. WithContent text (CommitsOnce rows words (edits uuid text) nothing))) acts halt
    (λ owner sets p. item_steps rows sets uuid (λ shown. WithContent text (CommitsOnce rows words (edits uuid text) nothing)) acts halt
    (λ shown q. content_steps rows text (CommitsOnce rows words (edits uuid text) nothing) acts halt
    (commit_steps rows words (edits uuid text) nothing acts halt) q) p) runs
call_steps least (delete uuid) rows words acts halt runs =
    account_steps rows (DeletesItem uuid rows words) acts halt (delete_steps uuid rows words acts halt) runs
call_steps least list rows words acts halt runs =
    account_steps rows (ListsItems rows words) acts halt (λ owner sets p. none_done rows acts p.2) runs
call_steps least (content uuid) rows words acts halt runs =
    account_steps rows (λ owner sets. WithItem rows sets uuid (GivesText words)) acts halt
    (λ owner sets p. item_steps rows sets uuid (GivesText words) acts halt (λ shown q. none_done rows acts q.0) p) runs
call_steps least sync rows words acts halt runs =
    account_steps rows (SyncsItems rows words) acts halt (synced_steps rows words acts halt) runs
call_steps least (passwd password cost) rows words acts halt runs =
    account_steps rows (ChangesPassword least password cost rows words) acts halt (changed_steps least password cost rows words acts halt) runs

pub runs_by_steps : RunsBySteps
runs_by_steps least call rows words acts halt (inl wants) = none_done rows acts wants.0
runs_by_steps least call rows words acts halt (inr runs) = call_steps least call rows words acts halt runs

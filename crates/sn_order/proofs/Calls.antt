-- The acts of each call are in order.
use Rattle.std.proofs.Common.{◌≡◌, ℕ, false, List, [], ◌∷◌, refl, sym, subst, inl, inr, append-nil}
use Rattle.rand_chacha.specs.ChaCha.{ChaCha}
use Rattle.sn_device.specs.Asking.{Reply}
use Rattle.sn_device.specs.Runs.{Act, AnswersNothing, AsksAccount, AsksFirst, Call, ChangesPassword, ChangesTo, CommitsOnce, DeletesItem, Given, GivesText, Halt, KeepsAccount, ListsItems, Point, PutsItem, Run, RunsCall, RunsRegister, RunsSignIn, SignsInAgain, SignsInBy, SignsInUnder, SignsInWith, SyncsItems, SyncsUnder, Turn, WithAccount, WithContent, WithItem, a_uuid, asked, begun, content, delete, edit, goes_on, is_over, list, nothing, passwd, put, register, sign_in, sync}
use Rattle.sn_device.specs.States.{Bytes}
use Rattle.sn_device.specs.Steps.{What, adopts, begins, deletes, edits, puts, renews}
use Rattle.sn_rows.specs.Table.{Rows}
use Rattle.sn_rows.specs.declared.device_rows.OwnerRow.{OwnerRow}
use Rattle.sn_sets.specs.declared.sets.Sets.{Sets}
use Rattle.sn_string.specs.declared.params.KeySet.{KeySet}
use Rattle.sn_string.specs.declared.params.Params.{Params}
use Rattle.sn_sync.specs.declared.answer.Answer.{Answer}
use Rattle.sn_sync.specs.declared.request.Request.{Request}
use Rattle.sn_sync.specs.declared.request.Request.TheVariants as request
use Rattle.sn_order.specs.Kinds.{kind_by}
use Rattle.sn_order.specs.Order.{AreInOrder, is_asks, is_sync}
use Rattle.sn_order.proofs.Pieces.{AreAny, IsFollowed}
use Rattle.sn_order.proofs.Plain.{ArePlain, plain_none, plain_order}
use Rattle.sn_order.proofs.Resolving.{changes_followed, syncs_followed}

-- ---- one commit, or one request

once : (rows : Rows) (words : ChaCha) (what : What) (given : Given) (acts : List Act) (halt : Halt) → is_asks (kind_by what) ≡ false
    → CommitsOnce rows words what given acts halt → ArePlain acts
once rows words what given acts halt other (changes, left, step, inl (batch, is, ends)) = subst ArePlain (sym is) (other, refl)
once rows words what given acts halt other (changes, left, step, inr (none, stops)) = plain_none acts none

with_request : (r : Request) (reply : Reply) (later acts : List Act) → acts ≡ asked r reply ∷ later → is_sync r ≡ false → ArePlain later → ArePlain acts
with_request r reply later acts is plain rest = subst ArePlain (sym is) (plain, rest)

asks_first : (r : Request) (P : Answer → List Act → Halt → Type 0) (acts : List Act) (halt : Halt) → is_sync r ≡ false
    → ((given : Answer) (later : List Act) → P given later halt → ArePlain later) → AsksFirst r P acts halt → ArePlain acts
asks_first r P acts halt plain so (reply, later, is, inl (why, fails, refuses)) = with_request r reply later acts is plain (plain_none later refuses.0)
asks_first r P acts halt plain so (reply, later, is, inr (inl wants)) = with_request r reply later acts is plain (plain_none later wants.0)
asks_first r P acts halt plain so (reply, later, is, inr (inr (given, heard, p))) = with_request r reply later acts is plain (so given later p)

-- an account is asked for, and its token is kept
account : (rows : Rows) (words : ChaCha) (r : Request) (what : Bytes → Bytes → What) (acts : List Act) (halt : Halt) → is_sync r ≡ false
    → ((uuid token : Bytes) → is_asks (kind_by (what uuid token)) ≡ false) → AsksAccount rows words r what acts halt → ArePlain acts
account rows words r what acts halt plain other asks =
    asks_first r (KeepsAccount rows words what) acts halt plain
    (λ given later x. once rows words (what x.2 x.0) nothing later halt (other x.2 x.0) x.4) asks

-- ---- registration and sign-in

register_plain : (least : ℕ) (identifier password : Bytes) (cost : ℕ) (rows : Rows) (words : ChaCha) (acts : List Act) (halt : Halt)
    → RunsRegister least identifier password cost rows words acts halt → ArePlain acts
register_plain least identifier password cost rows words acts halt (inl (owner, has, refuses)) = plain_none acts refuses.0
register_plain least identifier password cost rows words acts halt (inr (free, inl (bad, refuses))) = plain_none acts refuses.0
register_plain least identifier password cost rows words acts halt (inr (free, inr (good, (set, left, new, asks)))) =
    account rows left (request.Register set.params set.pw) (begins set) acts halt refl (λ uuid token. refl) asks

module _ (rows : Rows) (words : ChaCha) (identifier : Bytes) (halt : Halt) where
  again_plain : (sets : Sets) (set : KeySet) (acts : List Act) → SignsInAgain rows words identifier sets set acts halt → ArePlain acts
  again_plain sets set acts (inl (same, differs, refuses)) = plain_none acts refuses.0
  again_plain sets set acts (inr (inl (same, asks))) =
      account rows words (request.SignIn identifier set.pw) (λ uuid token. renews token) acts halt refl (λ uuid token. refl) asks
  again_plain sets set acts (inr (inr (other, inl (older, refuses)))) = plain_none acts refuses.0
  again_plain sets set acts (inr (inr (other, inr (unheld, asks)))) =
      account rows words (request.SignIn identifier set.pw) (λ uuid token. adopts set token) acts halt refl (λ uuid token. refl) asks

  with_plain : (set : KeySet) (acts : List Act) → SignsInWith rows words identifier set acts halt → ArePlain acts
  with_plain set acts (inl (free, asks)) = account rows words (request.SignIn identifier set.pw) (begins set) acts halt refl (λ uuid token. refl) asks
  with_plain set acts (inr (owner, sets, holds, again)) = again_plain sets set acts again

  under_plain : (least : ℕ) (password : Bytes) (params : Params) (acts : List Act) → SignsInUnder least rows words identifier password params acts halt
      → ArePlain acts
  under_plain least password params acts (inl (other, refuses)) = plain_none acts refuses.0
  under_plain least password params acts (inr (same, inl (bad, refuses))) = plain_none acts refuses.0
  under_plain least password params acts (inr (same, inr (good, (set, keys, signs)))) = with_plain set acts signs

  sign_in_plain : (least : ℕ) (password : Bytes) (acts : List Act) → RunsSignIn least identifier password rows words acts halt → ArePlain acts
  sign_in_plain least password acts (inl (owner, has, other, refuses)) = plain_none acts refuses.0
  sign_in_plain least password acts (inr (may, asks)) =
      asks_first (request.Params identifier) (SignsInBy least rows words identifier password) acts halt refl
      (λ given later x. under_plain least password x.0 later x.2) asks

-- ---- calls that need an account

none_order : (acts : List Act) → acts ≡ [] → AreInOrder false acts
none_order acts none = plain_order acts (plain_none acts none)

module _ (rows : Rows) (acts : List Act) (halt : Halt) where
  with_account : (P : OwnerRow → Sets → List Act → Halt → Type 0) → ((owner : OwnerRow) (sets : Sets) → P owner sets acts halt → AreInOrder false acts)
      → WithAccount rows P acts halt → AreInOrder false acts
  with_account P so (inl (free, refuses)) = none_order acts refuses.0
  with_account P so (inr (owner, sets, holds, p)) = so owner sets p

  with_content : (text : Bytes) (P : List Act → Halt → Type 0) → (P acts halt → AreInOrder false acts) → WithContent text P acts halt → AreInOrder false acts
  with_content text P so (inl (long, refuses)) = none_order acts refuses.0
  with_content text P so (inr (short, inl (other, refuses))) = none_order acts refuses.0
  with_content text P so (inr (short, inr (object, p))) = so p

  with_item : (sets : Sets) (uuid : Bytes) (P : Bytes → List Act → Halt → Type 0) → ((shown : Bytes) → P shown acts halt → AreInOrder false acts)
      → WithItem rows sets uuid P acts halt → AreInOrder false acts
  with_item sets uuid P so (inl (gone, refuses)) = none_order acts refuses.0
  with_item sets uuid P so (inr (number, local, stands, undeleted, inl (nonce, closed, refuses))) = none_order acts refuses.0
  with_item sets uuid P so (inr (number, local, stands, undeleted, inr (shown, shows, p))) = so shown p

once_order : (rows : Rows) (words : ChaCha) (what : What) (given : Given) (acts : List Act) (halt : Halt) → is_asks (kind_by what) ≡ false
    → CommitsOnce rows words what given acts halt → AreInOrder false acts
once_order rows words what given acts halt other commit = plain_order acts (once rows words what given acts halt other commit)

put_order : (rows : Rows) (words : ChaCha) (owner : OwnerRow) (type text : Bytes) (acts : List Act) (halt : Halt)
    → PutsItem rows words owner type text acts halt → AreInOrder false acts
put_order rows words owner type text acts halt (inl (used, refuses)) = none_order acts refuses.0
put_order rows words owner type text acts halt (inr (room, inl (drawn, spent, refuses))) = none_order acts refuses.0
put_order rows words owner type text acts halt (inr (room, inr (uuid, commit))) =
    once_order rows words (puts uuid type text) (a_uuid uuid) acts halt refl commit

delete_order : (uuid : Bytes) (rows : Rows) (words : ChaCha) (owner : OwnerRow) (sets : Sets) (acts : List Act) (halt : Halt)
    → DeletesItem uuid rows words owner sets acts halt → AreInOrder false acts
delete_order uuid rows words owner sets acts halt (inl (free, refuses)) = none_order acts refuses.0
delete_order uuid rows words owner sets acts halt (inr (used, commit)) = once_order rows words (deletes uuid) nothing acts halt refl commit

-- ---- sync, and a change of password

nothing_order : (piece : Point → List Act → Turn → Type 0) → ((p : Point) (acts : List Act) (turn : Turn) → piece p acts turn → IsFollowed AreAny acts turn)
    → (p : Point) (acts : List Act) (halt : Halt) → AnswersNothing piece p acts halt → AreInOrder false acts
nothing_order piece so p acts halt (inl over) = so p acts (is_over halt) over
nothing_order piece so p acts halt (inr (q, goes, is)) = subst (AreInOrder false) (append-nil acts) (so p acts (goes_on q) goes [] tt tt)

change_order : (least : ℕ) (password : Bytes) (cost : ℕ) (rows : Rows) (words : ChaCha) (owner : OwnerRow) (sets : Sets) (acts : List Act) (halt : Halt)
    → ChangesPassword least password cost rows words owner sets acts halt → AreInOrder false acts
change_order least password cost rows words owner sets acts halt (inl (bad, refuses)) = none_order acts refuses.0
change_order least password cost rows words owner sets acts halt (inr (good, changes)) =
    nothing_order (ChangesTo password cost owner sets) (changes_followed password cost owner sets) (begun rows words) acts halt changes

-- ---- each of them

call_order : (least : ℕ) (call : Call) (rows : Rows) (words : ChaCha) (acts : List Act) (halt : Halt) → RunsCall least call rows words acts halt
    → AreInOrder false acts
call_order least (register identifier password cost) rows words acts halt runs =
    plain_order acts (register_plain least identifier password cost rows words acts halt runs)
call_order least (sign_in identifier password) rows words acts halt runs = plain_order acts (sign_in_plain rows words identifier halt least password acts runs)
call_order least (put type text) rows words acts halt runs =
    with_account rows acts halt (λ owner sets. WithContent text (PutsItem rows words owner type text))
    (λ owner sets p. with_content rows acts halt text (PutsItem rows words owner type text) (put_order rows words owner type text acts halt) p) runs
call_order least (edit uuid text) rows words acts halt runs =
    with_account rows acts halt (λ owner sets. WithItem rows sets uuid (λ shown. WithContent text (CommitsOnce rows words (edits uuid text) nothing)))
    (λ owner sets p. with_item rows acts halt sets uuid (λ shown. WithContent text (CommitsOnce rows words (edits uuid text) nothing))
    (λ shown q. with_content rows acts halt text (CommitsOnce rows words (edits uuid text) nothing)
    (once_order rows words (edits uuid text) nothing acts halt refl) q) p) runs
call_order least (delete uuid) rows words acts halt runs =
    with_account rows acts halt (DeletesItem uuid rows words) (λ owner sets p. delete_order uuid rows words owner sets acts halt p) runs
call_order least list rows words acts halt runs =
    with_account rows acts halt (ListsItems rows words) (λ owner sets p. none_order acts p.2) runs
call_order least (content uuid) rows words acts halt runs =
    with_account rows acts halt (λ owner sets. WithItem rows sets uuid (GivesText words))
    (λ owner sets p. with_item rows acts halt sets uuid (GivesText words) (λ shown q. none_order acts q.0) p) runs
call_order least sync rows words acts halt runs =
    with_account rows acts halt (SyncsItems rows words)
    (λ owner sets p. nothing_order (SyncsUnder owner sets) (syncs_followed owner sets) (begun rows words) acts halt p) runs
call_order least (passwd password cost) rows words acts halt runs =
    with_account rows acts halt (ChangesPassword least password cost rows words)
    (λ owner sets p. change_order least password cost rows words owner sets acts halt p) runs

pub runs_in_order : (least : ℕ) (call : Call) (rows : Rows) (words : ChaCha) (acts : List Act) (halt : Halt) → Run least call rows words acts halt
    → AreInOrder false acts
runs_in_order least call rows words acts halt (inl wants) = none_order acts wants.0
runs_in_order least call rows words acts halt (inr runs) = call_order least call rows words acts halt runs

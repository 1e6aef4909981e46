-- A sync, a change of password and a sign-in make none of the user's changes.
use Rattle.std.proofs.Common.{◌≡◌, ℕ, List, [], ◌∷◌, ◌++◌, sym, subst, inl, inr}
use Rattle.rand_chacha.specs.ChaCha.{ChaCha}
use Rattle.sn_rows.specs.Table.{Rows}
use Rattle.sn_rows.specs.declared.device_rows.OwnerRow.{OwnerRow}
use Rattle.sn_sets.specs.declared.sets.Sets.{Sets}
use Rattle.sn_string.specs.declared.params.KeySet.{KeySet}
use Rattle.sn_string.specs.declared.params.Params.{Params}
use Rattle.sn_sync.specs.declared.answer.Answer.{Answer}
use Rattle.sn_sync.specs.declared.request.Request.{Request}
use Rattle.sn_sync.specs.declared.request.Request.TheVariants as request
use Rattle.sn_device.specs.Runs.{Act, AsksAccount, AsksFirst, ChangesPassword, ChangesTo, CommitsOnce, Given, Halt, KeepsAccount, Run, SignsInAgain, SignsInBy, SignsInUnder, SignsInWith, SyncsItems, SyncsUnder, asked, begun, commits, nothing, passwd, sign_in, sync}
use Rattle.sn_device.specs.States.{Bytes}
use Rattle.sn_device.specs.Steps.{What, adopts, applies, asks, begins, deletes, edits, forgets, posts, puts, renews}
use Rattle.sn_device.proofs.Turns.{AllowsResolving, IsOfActs, answers_has, changes_has, syncs_has}

-- what is done is no edit and no deletion
abbrev pub IsQuiet : What → Type 0
IsQuiet (begins set account token) = Unit {0}
IsQuiet (renews token) = Unit {0}
IsQuiet (puts uuid kind text) = Unit {0}
IsQuiet (edits uuid text) = ⊥
IsQuiet (deletes uuid) = ⊥
IsQuiet (posts numbers) = Unit {0}
IsQuiet (applies request given) = Unit {0}
IsQuiet (asks set) = Unit {0}
IsQuiet (adopts set token) = Unit {0}
IsQuiet forgets = Unit {0}

abbrev pub AreQuiet : List Act → Type 0
AreQuiet [] = Unit {0}
AreQuiet (commits what changes ∷ acts) = IsQuiet what × AreQuiet acts
AreQuiet (asked r reply ∷ acts) = AreQuiet acts

none_quiet : (acts : List Act) → acts ≡ [] → AreQuiet acts
none_quiet acts e = subst AreQuiet (sym e) tt

quiet_append : (xs ys : List Act) → AreQuiet xs → AreQuiet ys → AreQuiet (xs ++ ys)
quiet_append [] ys q r = r
quiet_append (commits what changes ∷ xs) ys q r = (q.0, quiet_append xs ys q.1 r)
quiet_append (asked request reply ∷ xs) ys q r = quiet_append xs ys q r

quiet_front : (xs ys : List Act) → AreQuiet (xs ++ ys) → AreQuiet xs
quiet_front [] ys q = tt
quiet_front (commits what changes ∷ xs) ys q = (q.0, quiet_front xs ys q.1)
quiet_front (asked request reply ∷ xs) ys q = quiet_front xs ys q

-- from whichever rows
abbrev QuietFrom : Rows → List Act → Type 0
QuietFrom rows acts = AreQuiet acts

quiet_of_acts : IsOfActs QuietFrom IsQuiet
quiet_of_acts = record {
  none = λ rows. tt;
  commit = λ rows words left what changes allowed step. (allowed, tt);
  ask = λ rows r reply acts quiet. quiet;
  append = λ rows front later quiet more. quiet_append front later quiet more;
}

quiet_allowed : AllowsResolving IsQuiet
quiet_allowed = record {
  exchanges = record { to_post = λ numbers. tt; to_apply = λ r given. tt };
  to_adopt = λ set token. tt;
  to_forget = tt;
}

synced_quiet : (rows : Rows) (words : ChaCha) (owner : OwnerRow) (sets : Sets) (acts : List Act) (halt : Halt) → SyncsItems rows words owner sets acts halt
    → AreQuiet acts
synced_quiet rows words owner sets acts halt syncs =
    answers_has QuietFrom IsQuiet quiet_of_acts (SyncsUnder owner sets) (syncs_has QuietFrom IsQuiet quiet_of_acts quiet_allowed owner sets)
    (begun rows words) acts halt syncs

sync_quiet : (least : ℕ) (rows : Rows) (words : ChaCha) (acts : List Act) (halt : Halt) → Run least sync rows words acts halt → AreQuiet acts
sync_quiet least rows words acts halt (inl wants) = none_quiet acts wants.0
sync_quiet least rows words acts halt (inr (inl (none, refuses))) = none_quiet acts refuses.0
sync_quiet least rows words acts halt (inr (inr (owner, sets, holds, syncs))) = synced_quiet rows words owner sets acts halt syncs

-- ---- a change of password

changed_quiet : (least : ℕ) (password : Bytes) (cost : ℕ) (rows : Rows) (words : ChaCha) (owner : OwnerRow) (sets : Sets) (acts : List Act) (halt : Halt)
    → ChangesPassword least password cost rows words owner sets acts halt → AreQuiet acts
changed_quiet least password cost rows words owner sets acts halt (inl (bad, refuses)) = none_quiet acts refuses.0
changed_quiet least password cost rows words owner sets acts halt (inr (good, changes)) =
    answers_has QuietFrom IsQuiet quiet_of_acts (ChangesTo password cost owner sets)
    (changes_has QuietFrom IsQuiet quiet_of_acts quiet_allowed (λ set. tt) password cost owner sets) (begun rows words) acts halt changes

passwd_quiet : (least : ℕ) (password : Bytes) (cost : ℕ) (rows : Rows) (words : ChaCha) (acts : List Act) (halt : Halt)
    → Run least (passwd password cost) rows words acts halt → AreQuiet acts
passwd_quiet least password cost rows words acts halt (inl wants) = none_quiet acts wants.0
passwd_quiet least password cost rows words acts halt (inr (inl (none, refuses))) = none_quiet acts refuses.0
passwd_quiet least password cost rows words acts halt (inr (inr (owner, sets, holds, changes))) =
    changed_quiet least password cost rows words owner sets acts halt changes

-- ---- a sign-in

asked_quiet : (r : Request) (P : Answer → List Act → Halt → Type 0) (acts : List Act) (halt : Halt)
    → ((given : Answer) (later : List Act) → P given later halt → AreQuiet later) → AsksFirst r P acts halt → AreQuiet acts
asked_quiet r P acts halt so (reply, later, e, inl (why, fails, refuses)) = subst AreQuiet (sym e) (none_quiet later refuses.0)
asked_quiet r P acts halt so (reply, later, e, inr (inl wants)) = subst AreQuiet (sym e) (none_quiet later wants.0)
asked_quiet r P acts halt so (reply, later, e, inr (inr (given, is, p))) = subst AreQuiet (sym e) (so given later p)

once_quiet : (rows : Rows) (words : ChaCha) (what : What) (given : Given) (acts : List Act) (halt : Halt) → IsQuiet what
    → CommitsOnce rows words what given acts halt → AreQuiet acts
once_quiet rows words what given acts halt quiet (changes, left, step, inl (batch, e, ends)) = subst AreQuiet (sym e) (quiet, tt)
once_quiet rows words what given acts halt quiet (changes, left, step, inr (none, stops)) = none_quiet acts none

account_quiet : (rows : Rows) (words : ChaCha) (r : Request) (what : Bytes → Bytes → What) (acts : List Act) (halt : Halt)
    → ((uuid token : Bytes) → IsQuiet (what uuid token)) → AsksAccount rows words r what acts halt → AreQuiet acts
account_quiet rows words r what acts halt quiet asks_so =
    asked_quiet r (KeepsAccount rows words what) acts halt
    (λ given later p. once_quiet rows words (what p.2 p.0) nothing later halt (quiet p.2 p.0) p.4) asks_so

again_quiet : (rows : Rows) (words : ChaCha) (identifier : Bytes) (sets : Sets) (set : KeySet) (acts : List Act) (halt : Halt)
    → SignsInAgain rows words identifier sets set acts halt → AreQuiet acts
again_quiet rows words identifier sets set acts halt (inl (same, differs, refuses)) = none_quiet acts refuses.0
again_quiet rows words identifier sets set acts halt (inr (inl (same, asks_so))) =
    account_quiet rows words (request.SignIn identifier set.pw) (λ uuid token. renews token) acts halt (λ uuid token. tt) asks_so
again_quiet rows words identifier sets set acts halt (inr (inr (other, inl (older, refuses)))) = none_quiet acts refuses.0
again_quiet rows words identifier sets set acts halt (inr (inr (other, inr (not, asks_so)))) =
    account_quiet rows words (request.SignIn identifier set.pw) (λ uuid token. adopts set token) acts halt (λ uuid token. tt) asks_so

with_quiet : (rows : Rows) (words : ChaCha) (identifier : Bytes) (set : KeySet) (acts : List Act) (halt : Halt)
    → SignsInWith rows words identifier set acts halt → AreQuiet acts
with_quiet rows words identifier set acts halt (inl (none, asks_so)) =
    account_quiet rows words (request.SignIn identifier set.pw) (begins set) acts halt (λ uuid token. tt) asks_so
with_quiet rows words identifier set acts halt (inr (owner, sets, holds, again)) = again_quiet rows words identifier sets set acts halt again

under_quiet : (least : ℕ) (rows : Rows) (words : ChaCha) (identifier password : Bytes) (params : Params) (acts : List Act) (halt : Halt)
    → SignsInUnder least rows words identifier password params acts halt → AreQuiet acts
under_quiet least rows words identifier password params acts halt (inl (other, refuses)) = none_quiet acts refuses.0
under_quiet least rows words identifier password params acts halt (inr (same, inl (bad, refuses))) = none_quiet acts refuses.0
under_quiet least rows words identifier password params acts halt (inr (same, inr (good, (set, keys, signs)))) =
    with_quiet rows words identifier set acts halt signs

sign_in_quiet : (least : ℕ) (identifier password : Bytes) (rows : Rows) (words : ChaCha) (acts : List Act) (halt : Halt)
    → Run least (sign_in identifier password) rows words acts halt → AreQuiet acts
sign_in_quiet least identifier password rows words acts halt (inl wants) = none_quiet acts wants.0
sign_in_quiet least identifier password rows words acts halt (inr (inl (owner, has, differs, refuses))) = none_quiet acts refuses.0
sign_in_quiet least identifier password rows words acts halt (inr (inr (may, asks_so))) =
    asked_quiet (request.Params identifier) (SignsInBy least rows words identifier password) acts halt
    (λ given later p. under_quiet least rows words identifier password p.0 later halt p.2) asks_so

-- ---- first acts

pub sync_front : (least : ℕ) (rows : Rows) (words : ChaCha) (acts : List Act) (halt : Halt) (front later : List Act)
    → Run least sync rows words acts halt → acts ≡ front ++ later → AreQuiet front
sync_front least rows words acts halt front later run is = quiet_front front later (subst AreQuiet is (sync_quiet least rows words acts halt run))

pub passwd_front : (least : ℕ) (password : Bytes) (cost : ℕ) (rows : Rows) (words : ChaCha) (acts : List Act) (halt : Halt) (front later : List Act)
    → Run least (passwd password cost) rows words acts halt → acts ≡ front ++ later → AreQuiet front
passwd_front least password cost rows words acts halt front later run is =
    quiet_front front later (subst AreQuiet is (passwd_quiet least password cost rows words acts halt run))

pub sign_in_front : (least : ℕ) (identifier password : Bytes) (rows : Rows) (words : ChaCha) (acts : List Act) (halt : Halt) (front later : List Act)
    → Run least (sign_in identifier password) rows words acts halt → acts ≡ front ++ later → AreQuiet front
sign_in_front least identifier password rows words acts halt front later run is =
    quiet_front front later (subst AreQuiet is (sign_in_quiet least identifier password rows words acts halt run))

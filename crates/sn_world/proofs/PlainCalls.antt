-- No call but a change of password asks for a set, and none of its requests changes a password, on a device that asks for none.
use Rattle.std.proofs.Common.{◌≡◌, ℕ, List, [], ◌∷◌, sym, subst, inl, inr}
use Rattle.std.specs.List.{flat_map}
use Rattle.std.proofs.lemmas.List.Concat.{flat_map-cons}
use Rattle.rand_chacha.specs.ChaCha.{ChaCha}
use Rattle.sn_device.proofs.Facts.{EndsAlone, ExchangesAlone, synced_alone}
use Rattle.sn_device.specs.Asking.{Reply, said}
use Rattle.sn_device.specs.Runs.{Act, AreRounds, AsksAccount, AsksFirst, Call, CommitsOnce, DeletesItem, EndsBehind, EndsExchange, Given, GivesText, Halt, IsRound, KeepsAccount, ListsItems, PutsItem, Refuses, Round, Run, RunsRegister, RunsSignIn, Sends, SignsInAgain, SignsInBy, SignsInUnder, SignsInWith, Standing, StopsAt, SyncsItems, WithAccount, WithContent, WithItem, a_uuid, acts_of, answered, asked, broken, commits, content, delete, edit, lines, list, nothing, passwd, posting, put, refused, register, sign_in, sync}
use Rattle.sn_device.specs.States.{Bytes, HasSets}
use Rattle.sn_device.specs.Steps.{What, adopts, applies, begins, deletes, edits, posts, puts, renews}
use Rattle.sn_device.specs.declared.error.ClientError.{ClientError}
use Rattle.sn_device.specs.declared.error.ClientError.TheVariants as refusal
use Rattle.sn_laws.specs.Each.{Each}
use Rattle.sn_rows.specs.Table.{Rows}
use Rattle.sn_rows.specs.declared.change.Change.{Change}
use Rattle.sn_rows.specs.declared.device_rows.OwnerRow.{OwnerRow}
use Rattle.sn_sets.specs.declared.sets.Sets.{Sets}
use Rattle.sn_string.specs.declared.params.KeySet.{KeySet}
use Rattle.sn_string.specs.declared.params.Params.{Params}
use Rattle.sn_sync.specs.declared.answer.Answer.{Answer}
use Rattle.sn_sync.specs.declared.request.Request.{Request}
use Rattle.sn_sync.specs.declared.request.Request.TheVariants as request
use Rattle.sn_world.proofs.Lists.{each_both}
use Rattle.sn_world.proofs.PresentSets.{unasked}
use Rattle.sn_world.specs.Delivered.{KeepsPassword}
use Rattle.sn_world.specs.Plain.{AsksNoSet, IsPlainCommit, KeepsSet}

-- ---- acts, and how a call ends

abbrev pub IsPlainAct : Act → Type 0
IsPlainAct (commits what changes) = IsPlainCommit what
IsPlainAct (asked r reply) = KeepsSet r

abbrev pub IsPlainHalt : Halt → Type 0
IsPlainHalt (answered given left) = Unit {0}
IsPlainHalt (refused why) = Unit {0}
IsPlainHalt (broken what changes) = IsPlainCommit what

-- neither asks for a set, and no request changes a password
pub record GoesPlain (acts : List Act) (halt : Halt) : Type 0 where
  pub acts_are : Each IsPlainAct acts
  pub halt_is : IsPlainHalt halt

none_plain : (acts : List Act) → acts ≡ [] → Each IsPlainAct acts
none_plain acts none = subst (Each IsPlainAct) (sym none) tt

refuses_plain : (acts : List Act) (halt : Halt) (why : ClientError) → Refuses acts halt why → GoesPlain acts halt
refuses_plain acts halt why (none, is) = record { acts_are = none_plain acts none; halt_is = subst IsPlainHalt (sym is) tt }

answers_plain : (acts : List Act) (halt : Halt) (given : Given) (left : ChaCha) → acts ≡ [] → halt ≡ answered given left → GoesPlain acts halt
answers_plain acts halt given left none is = record { acts_are = none_plain acts none; halt_is = subst IsPlainHalt (sym is) tt }

stops_plain : (what : What) (changes : List Change) (halt : Halt) → IsPlainCommit what → StopsAt what changes halt → IsPlainHalt halt
stops_plain what changes halt plain (inl (batch, is)) = subst IsPlainHalt (sym is) plain
stops_plain what changes halt plain (inr (inl (large, is))) = subst IsPlainHalt (sym is) tt
stops_plain what changes halt plain (inr (inr is)) = subst IsPlainHalt (sym is) tt

-- ---- one commit, or one request

once_plain : (rows : Rows) (words : ChaCha) (what : What) (given : Given) (acts : List Act) (halt : Halt) → IsPlainCommit what
    → CommitsOnce rows words what given acts halt → GoesPlain acts halt
once_plain rows words what given acts halt plain (changes, left, step, inl (batch, e, ends)) =
    record { acts_are = subst (Each IsPlainAct) (sym e) (plain, tt); halt_is = subst IsPlainHalt (sym ends) tt }
once_plain rows words what given acts halt plain (changes, left, step, inr (none, stops)) =
    record { acts_are = none_plain acts none; halt_is = stops_plain what changes halt plain stops }

behind_request : (r : Request) (reply : Reply) (acts later : List Act) (halt : Halt) → KeepsSet r → acts ≡ asked r reply ∷ later → GoesPlain later halt
    → GoesPlain acts halt
behind_request r reply acts later halt keeps e x =
    record { acts_are = subst (Each IsPlainAct) (sym e) (keeps, x.acts_are); halt_is = x.halt_is }

asks_plain : (r : Request) (P : Answer → List Act → Halt → Type 0) (acts : List Act) (halt : Halt) → KeepsSet r
    → ((given : Answer) (later : List Act) → P given later halt → GoesPlain later halt) → AsksFirst r P acts halt → GoesPlain acts halt
asks_plain r P acts halt keeps so (reply, later, e, inl (why, fails, refuses)) =
    behind_request r reply acts later halt keeps e (refuses_plain later halt why refuses)
asks_plain r P acts halt keeps so (reply, later, e, inr (inl wants)) =
    behind_request r reply acts later halt keeps e (refuses_plain later halt refusal.Memory wants)
asks_plain r P acts halt keeps so (reply, later, e, inr (inr (given, is, p))) = behind_request r reply acts later halt keeps e (so given later p)

-- ---- registration and sign-in

owner_plain : (rows : Rows) (words : ChaCha) (r : Request) (what : Bytes → Bytes → What) (acts : List Act) (halt : Halt) → KeepsSet r
    → ((uuid token : Bytes) → IsPlainCommit (what uuid token)) → AsksAccount rows words r what acts halt → GoesPlain acts halt
owner_plain rows words r what acts halt keeps plain asks =
    asks_plain r (KeepsAccount rows words what) acts halt keeps
    (λ given later p. once_plain rows words (what p.2 p.0) nothing later halt (plain p.2 p.0) p.4) asks

register_plain : (least : ℕ) (identifier password : Bytes) (cost : ℕ) (rows : Rows) (words : ChaCha) (acts : List Act) (halt : Halt)
    → RunsRegister least identifier password cost rows words acts halt → GoesPlain acts halt
register_plain least identifier password cost rows words acts halt (inl (owner, has, refuses)) =
    refuses_plain acts halt (refusal.HasAccount owner.identifier) refuses
register_plain least identifier password cost rows words acts halt (inr (none, inl (bad, refuses))) = refuses_plain acts halt (refusal.Cost cost) refuses
register_plain least identifier password cost rows words acts halt (inr (none, inr (good, (set, left, new, asks)))) =
    owner_plain rows left (request.Register set.params set.pw) (begins set) acts halt tt (λ uuid token. tt) asks

again_plain : (rows : Rows) (words : ChaCha) (identifier : Bytes) (sets : Sets) (set : KeySet) (acts : List Act) (halt : Halt)
    → SignsInAgain rows words identifier sets set acts halt → GoesPlain acts halt
again_plain rows words identifier sets set acts halt (inl (same, differs, refuses)) = refuses_plain acts halt refusal.WrongPassword refuses
again_plain rows words identifier sets set acts halt (inr (inl (same, asks))) =
    owner_plain rows words (request.SignIn identifier set.pw) (λ uuid token. renews token) acts halt tt (λ uuid token. tt) asks
again_plain rows words identifier sets set acts halt (inr (inr (other, inl (older, refuses)))) =
    refuses_plain acts halt refusal.WrongPassword refuses
again_plain rows words identifier sets set acts halt (inr (inr (other, inr (not, asks)))) =
    owner_plain rows words (request.SignIn identifier set.pw) (λ uuid token. adopts set token) acts halt tt (λ uuid token. tt) asks

with_plain : (rows : Rows) (words : ChaCha) (identifier : Bytes) (set : KeySet) (acts : List Act) (halt : Halt)
    → SignsInWith rows words identifier set acts halt → GoesPlain acts halt
with_plain rows words identifier set acts halt (inl (none, asks)) =
    owner_plain rows words (request.SignIn identifier set.pw) (begins set) acts halt tt (λ uuid token. tt) asks
with_plain rows words identifier set acts halt (inr (owner, sets, holds, again)) = again_plain rows words identifier sets set acts halt again

under_plain : (least : ℕ) (rows : Rows) (words : ChaCha) (identifier password : Bytes) (params : Params) (acts : List Act) (halt : Halt)
    → SignsInUnder least rows words identifier password params acts halt → GoesPlain acts halt
under_plain least rows words identifier password params acts halt (inl (other, refuses)) = refuses_plain acts halt _ refuses
under_plain least rows words identifier password params acts halt (inr (same, inl (bad, refuses))) = refuses_plain acts halt (refusal.Cost params.pw_cost) refuses
under_plain least rows words identifier password params acts halt (inr (same, inr (good, (set, keys, signs)))) =
    with_plain rows words identifier set acts halt signs

sign_in_plain : (least : ℕ) (identifier password : Bytes) (rows : Rows) (words : ChaCha) (acts : List Act) (halt : Halt)
    → RunsSignIn least identifier password rows words acts halt → GoesPlain acts halt
sign_in_plain least identifier password rows words acts halt (inl (owner, has, differs, refuses)) =
    refuses_plain acts halt (refusal.OtherAccount owner.identifier) refuses
sign_in_plain least identifier password rows words acts halt (inr (may, asks)) =
    asks_plain (request.Params identifier) (SignsInBy least rows words identifier password) acts halt tt
    (λ given later p. under_plain least rows words identifier password p.0 later halt p.2) asks

-- ---- a device's own items

account_plain : (rows : Rows) (P : OwnerRow → Sets → List Act → Halt → Type 0) (acts : List Act) (halt : Halt)
    → ((owner : OwnerRow) (sets : Sets) → HasSets rows owner sets → P owner sets acts halt → GoesPlain acts halt) → WithAccount rows P acts halt
    → GoesPlain acts halt
account_plain rows P acts halt so (inl (none, refuses)) = refuses_plain acts halt refusal.NoAccount refuses
account_plain rows P acts halt so (inr (owner, sets, holds, p)) = so owner sets holds p

content_plain : (text : Bytes) (P : List Act → Halt → Type 0) (acts : List Act) (halt : Halt) → (P acts halt → GoesPlain acts halt)
    → WithContent text P acts halt → GoesPlain acts halt
content_plain text P acts halt so (inl (long, refuses)) = refuses_plain acts halt _ refuses
content_plain text P acts halt so (inr (short, inl (other, refuses))) = refuses_plain acts halt refusal.NotObject refuses
content_plain text P acts halt so (inr (short, inr (object, p))) = so p

item_plain : (rows : Rows) (sets : Sets) (uuid : Bytes) (P : Bytes → List Act → Halt → Type 0) (acts : List Act) (halt : Halt)
    → ((shown : Bytes) → P shown acts halt → GoesPlain acts halt) → WithItem rows sets uuid P acts halt → GoesPlain acts halt
item_plain rows sets uuid P acts halt so (inl (gone, refuses)) = refuses_plain acts halt (refusal.NoItem uuid) refuses
item_plain rows sets uuid P acts halt so (inr (number, local, stands, undeleted, inl (nonce, closed, refuses))) =
    refuses_plain acts halt (refusal.Closed nonce) refuses
item_plain rows sets uuid P acts halt so (inr (number, local, stands, undeleted, inr (shown, shows, p))) = so shown p

put_plain : (rows : Rows) (words : ChaCha) (owner : OwnerRow) (kind text : Bytes) (acts : List Act) (halt : Halt)
    → PutsItem rows words owner kind text acts halt → GoesPlain acts halt
put_plain rows words owner kind text acts halt (inl (used, refuses)) = refuses_plain acts halt (refusal.NumbersUsed owner.next) refuses
put_plain rows words owner kind text acts halt (inr (room, inl (drawn, none, refuses))) = refuses_plain acts halt (refusal.NoFreshUuid drawn) refuses
put_plain rows words owner kind text acts halt (inr (room, inr (uuid, once))) =
    once_plain rows words (puts uuid kind text) (a_uuid uuid) acts halt tt once

delete_plain : (uuid : Bytes) (rows : Rows) (words : ChaCha) (acts : List Act) (halt : Halt) (owner : OwnerRow) (sets : Sets)
    → DeletesItem uuid rows words owner sets acts halt → GoesPlain acts halt
delete_plain uuid rows words acts halt owner sets (inl (free, refuses)) = refuses_plain acts halt (refusal.NoItem uuid) refuses
delete_plain uuid rows words acts halt owner sets (inr (used, once)) = once_plain rows words (deletes uuid) nothing acts halt tt once

-- ---- a sync of a device that asks for no set

posting_plain : (numbers : List ℕ) (posted : List Change) → Each IsPlainAct (posting numbers posted)
posting_plain [] posted = tt
posting_plain (number ∷ numbers) posted = (tt, tt)

sends_plain : (rows ready : Rows) (numbers : List ℕ) (posted : List Change) (r : Request) → Sends rows numbers posted r ready → KeepsSet r
sends_plain rows ready numbers posted r sends = subst KeepsSet (sym sends.request_is.request_is) tt

behind_plain : (rows : Rows) (words : ChaCha) (r : Request) (reply : Reply) (halt : Halt) → EndsBehind rows words r reply halt → IsPlainHalt halt
behind_plain rows words r reply halt (inl (why, fails, is)) = subst IsPlainHalt (sym is) tt
behind_plain rows words r reply halt (inr (inl is)) = subst IsPlainHalt (sym is) tt
behind_plain rows words r reply halt (inr (inr (given, heard, inl (why, unapplied, is)))) = subst IsPlainHalt (sym is) tt
behind_plain rows words r reply halt (inr (inr (given, heard, inr (changes, left, step, stops)))) =
    stops_plain (applies r given) changes halt tt stops

exchange_plain : (words : ChaCha) (numbers : List ℕ) (posted : List Change) (r : Request) (ready : Rows) (acts : List Act) (halt : Halt) → KeepsSet r
    → EndsExchange words numbers posted r ready acts halt → GoesPlain acts halt
exchange_plain words numbers posted r ready acts halt keeps (inl (some, none, stops)) =
    record { acts_are = none_plain acts none; halt_is = stops_plain (posts numbers) posted halt tt stops }
exchange_plain words numbers posted r ready acts halt keeps (inr (batch, inl (e, is))) =
    record { acts_are = subst (Each IsPlainAct) (sym e) (posting_plain numbers posted); halt_is = subst IsPlainHalt (sym is) tt }
exchange_plain words numbers posted r ready acts halt keeps (inr (batch, inr (reply, e, ends))) = record {
  acts_are = subst (Each IsPlainAct) (sym e)
      (each_both IsPlainAct (posting numbers posted) (asked r reply ∷ []) (posting_plain numbers posted) (keeps, tt));
  halt_is = behind_plain ready words r reply halt ends;
}

round_plain : (at : Standing) (round : Round) (after : Standing) → IsRound at round after → Each IsPlainAct (acts_of round)
round_plain at round after is =
    each_both IsPlainAct (posting round.numbers round.posted) (asked round.request (said round.given) ∷ commits (applies round.request round.given) round.applied ∷ [])
    (posting_plain round.numbers round.posted) (sends_plain at.rows is.ready round.numbers round.posted round.request is.sends, (tt, tt))

rounds_plain : (at : Standing) (rounds : List Round) (after : Standing) → AreRounds at rounds after → Each IsPlainAct (flat_map acts_of rounds)
rounds_plain at [] after went = tt
rounds_plain at (round ∷ rounds) after (between, is, later) =
    subst (Each IsPlainAct) (sym (flat_map-cons acts_of round rounds))
    (each_both IsPlainAct (acts_of round) (flat_map acts_of rounds) (round_plain at round between is) (rounds_plain between rounds after later))

ends_plain : (count : ℕ) (at : Standing) (acts : List Act) (halt : Halt) → EndsAlone count at acts halt → GoesPlain acts halt
ends_plain count at acts halt (inl (done, none, is)) = answers_plain acts halt nothing at.words none is
ends_plain count at acts halt (inr (inl (most, due, refuses))) = refuses_plain acts halt refusal.RoundsUsed refuses
ends_plain count at acts halt (inr (inr (inl (few, ends)))) =
    exchange_plain at.words ends.numbers ends.posted ends.request ends.ready acts halt
    (sends_plain at.rows ends.ready ends.numbers ends.posted ends.request ends.sends) ends.ends_so
ends_plain count at acts halt (inr (inr (inr wants))) = refuses_plain acts halt refusal.Memory wants

alone_plain : (rows : Rows) (words : ChaCha) (acts : List Act) (halt : Halt) → ExchangesAlone rows words acts halt → GoesPlain acts halt
alone_plain rows words acts halt x =
    let end = ends_plain _ x.at x.later halt x.ends in
    record {
      acts_are = subst (Each IsPlainAct) (sym x.acts_are)
          (each_both IsPlainAct (flat_map acts_of x.rounds) x.later (rounds_plain _ x.rounds x.at x.went) end.acts_are);
      halt_is = end.halt_is;
    }

-- ---- each call

pub run_plain : (least : ℕ) (call : Call) (rows : Rows) (words : ChaCha) (acts : List Act) (halt : Halt) → KeepsPassword call → AsksNoSet rows
    → Run least call rows words acts halt → GoesPlain acts halt
run_plain least call rows words acts halt keeps none (inl wants) = refuses_plain acts halt refusal.Memory wants
run_plain least (register identifier password cost) rows words acts halt keeps none (inr runs) =
    register_plain least identifier password cost rows words acts halt runs
run_plain least (sign_in identifier password) rows words acts halt keeps none (inr runs) =
    sign_in_plain least identifier password rows words acts halt runs
run_plain least (put kind text) rows words acts halt keeps none (inr runs) =
    account_plain rows (λ owner sets. WithContent text (PutsItem rows words owner kind text)) acts halt
    (λ owner sets holds p. content_plain text (PutsItem rows words owner kind text) acts halt (put_plain rows words owner kind text acts halt) p) runs
run_plain least (edit uuid text) rows words acts halt keeps none (inr runs) =
    account_plain rows (λ owner sets. WithItem rows sets uuid (λ shown. WithContent text (CommitsOnce rows words (edits uuid text) nothing))) acts halt
    (λ owner sets holds p. item_plain rows sets uuid (λ shown. WithContent text (CommitsOnce rows words (edits uuid text) nothing)) acts halt
    (λ shown q. content_plain text (CommitsOnce rows words (edits uuid text) nothing) acts halt
    (once_plain rows words (edits uuid text) nothing acts halt tt) q) p) runs
run_plain least (delete uuid) rows words acts halt keeps none (inr runs) =
    account_plain rows (DeletesItem uuid rows words) acts halt (λ owner sets holds p. delete_plain uuid rows words acts halt owner sets p) runs
run_plain least list rows words acts halt keeps none (inr runs) =
    account_plain rows (ListsItems rows words) acts halt (λ owner sets holds p. answers_plain acts halt (lines p.0) words p.2 p.3) runs
run_plain least (content uuid) rows words acts halt keeps none (inr runs) =
    account_plain rows (λ owner sets. WithItem rows sets uuid (GivesText words)) acts halt
    (λ owner sets holds p. item_plain rows sets uuid (GivesText words) acts halt (λ shown q. answers_plain acts halt _ words q.0 q.1) p) runs
run_plain least sync rows words acts halt keeps none (inr runs) =
    account_plain rows (SyncsItems rows words) acts halt
    (λ owner sets holds p. alone_plain rows words acts halt (synced_alone rows words owner sets acts halt (unasked rows owner sets none holds) p)) runs
run_plain least (passwd password cost) rows words acts halt keeps none (inr runs) = absurd keeps

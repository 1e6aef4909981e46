-- Where an answer to a sync is applied, the greatest set that the device holds is its account's last, and it is so behind it.
use Rattle.std.proofs.Common.{◌≡◌, ◌≤◌, ℕ, List, [], ◌∷◌, ◌++◌, length, Some, true, sym, ap, ◌∙◌, subst, arith}
use Rattle.sn_account.specs.Sessions.{session_token}
use Rattle.sn_account.specs.Sound.{most_generations}
use Rattle.sn_device.proofs.Facts.{one_owner}
use Rattle.sn_device.specs.Steps.{applies}
use Rattle.sn_laws.specs.Lookups.{Bytes, device_named, greatest}
use Rattle.sn_laws.specs.Runs.{end_from}
use Rattle.sn_laws.specs.declared.ideal.Account.{Account}
use Rattle.sn_laws.specs.declared.ideal.Device.{Device}
use Rattle.sn_laws.specs.declared.ideal.Ideal.{Ideal}
use Rattle.sn_laws.specs.declared.moves.Move.{Move}
use Rattle.sn_passwd.proofs.Points.{HoldsLast}
use Rattle.sn_passwd.proofs.RoundKeys.{KeepsKeys, applied_keeps}
use Rattle.sn_rows.specs.Table.{Rows}
use Rattle.sn_rows.specs.declared.change.Change.{Change}
use Rattle.sn_rows.specs.declared.device_rows.OwnerRow.{OwnerRow}
use Rattle.sn_rows.specs.declared.key.Key.TheVariants as key
use Rattle.sn_rows.specs.declared.server_rows.AccountRow.{AccountRow}
use Rattle.sn_shows.specs.Laws.{AccountsApart, HasAccount}
use Rattle.sn_shows.specs.Servers.{ShowsIdentity, account_at}
use Rattle.sn_sync.specs.declared.answer.Answer.{Answer}
use Rattle.sn_sync.specs.declared.answer.Answer.TheVariants as answer
use Rattle.sn_sync.specs.declared.request.Request.{Request}
use Rattle.sn_sync.specs.declared.request.Request.TheVariants as request
use Rattle.sn_world.proofs.Facts.{apart_of, few_numbers, held_within, named_at, named_identifier, one_account, same_owner, trace_from}
use Rattle.sn_world.specs.Applying.{MayApply}
use Rattle.sn_world.specs.Committing.{Commits}
use Rattle.sn_world.specs.Happens.{Happens, Trace, commits}
use Rattle.sn_world.specs.Holds.{DeviceToken, Holds, TokensDiffer}
use Rattle.sn_world.specs.Laws.{Keeps}
use Rattle.sn_world.specs.World.{World}

-- ---- when it is applied

-- the device has an account, and the greatest set that it holds is the account's last
record IsAtLast (s : Ideal) (name : Bytes) : Type 0 where
  number : ℕ
  account : Account
  at : account_at number s.accounts ≡ Some account
  device : Device
  named : device_named s name ≡ Some device
  own : account.identifier ≡ device.account
  greatest_is : greatest 0 device.held ≡ length account.sets

at_last : (server rows : Rows) (s : Ideal) (name : Bytes) (r : Request) (given : Answer) → MayApply server rows s name r given → IsAtLast s name
at_last server rows s name (request.Sync token items limit sync_token cursor_token) (answer.Sync conflicts cursor retrieved saved next) may = record {
  number = may.number;
  account = may.account;
  at = may.at;
  device = may.device;
  named = may.named;
  own = may.own;
  greatest_is = may.greatest_is;
}
at_last server rows s name (request.Sync token items limit sync_token cursor_token) (answer.Account other identifier uuid) may = absurd may
at_last server rows s name (request.Sync token items limit sync_token cursor_token) (answer.Params params) may = absurd may
at_last server rows s name (request.Sync token items limit sync_token cursor_token) (answer.Refused status tag more) may = absurd may
at_last server rows s name (request.Register params pw) given may = absurd may
at_last server rows s name (request.Params identifier) given may = absurd may
at_last server rows s name (request.SignIn identifier pw) given may = absurd may
at_last server rows s name (request.ChangePw token current pw cost nonce) given may = absurd may

-- ---- behind it

-- the server's rows and the device's session token are the same; so the device's greatest set has the same number, and its account as many sets
module _ (apart : AccountsApart) (secret : Bytes) (differ : TokensDiffer secret) (name : Bytes) (v next : World) (u t : Ideal) (h : Holds secret v u)
    (k : Holds secret next t) (same_server : next.server ≡ v.server) (keeps : KeepsKeys (v.devices name) (next.devices name)) (x : IsAtLast u name)
    (d : Device) (a : Account) (has : HasAccount t name d a) where
  was : DeviceToken secret (v.devices name) u.accounts x.device
  was = h.own_tokens name x.device x.named

  now : DeviceToken secret (next.devices name) t.accounts d
  now = k.own_tokens name d has.device

  there : (n : ℕ) × (account_at n t.accounts ≡ Some a)
  there = named_at t d.account a has.account

  same_token : now.owner.token ≡ was.owner.token
  same_token =
      let o = keeps.owner was.owner was.has in
      ap (λ (z : OwnerRow). z.token) (one_owner (next.devices name) now.owner o.0 now.has o.1) ∙ o.3

  same_number : was.number ≡ now.number
  same_number =
      same_owner secret was.owner.token was.number now.number (greatest 0 x.device.held) (greatest 0 d.held)
      (few_numbers apart secret v u h was.number was.account was.at) (few_numbers apart secret next t k now.number now.account now.at) was.is
      (sym same_token ∙ now.is)

  there_is_now : there.0 ≡ now.number
  there_is_now =
      apart_of apart t k.reached there.0 now.number a now.account there.1 now.at (named_identifier t d.account a has.account ∙ sym now.own)

  was_is_its : was.number ≡ x.number
  was_is_its = apart_of apart u h.reached was.number x.number was.account x.account was.at x.at (was.own ∙ sym x.own)

  there_is_its : there.0 ≡ x.number
  there_is_its = there_is_now ∙ sym same_number ∙ was_is_its

  same_sets : length a.sets ≡ length x.account.sets
  same_sets =
      let own : ShowsIdentity next.server there.0 a = (k.server.all.each there.0 a there.1).identity in
      let its : ShowsIdentity v.server x.number x.account = (h.server.all.each x.number x.account x.at).identity in
      let same_row : v.server (key.Account x.number) ≡ next.server (key.Account there.0) =
      sym (ap (λ (r : Rows). r (key.Account there.0)) same_server ∙ ap (λ (n : ℕ). v.server (key.Account n)) there_is_its) in
      let row : own.row ≡ its.row = one_account own.row its.row (v.server (key.Account x.number)) (same_row ∙ own.stands) its.stands in
      sym own.generation ∙ ap (λ (z : AccountRow). z.generation) row ∙ its.generation

  same_greatest : greatest 0 x.device.held ≡ greatest 0 d.held
  same_greatest =
      let few : length x.account.sets ≤ most_generations = h.few.sets_few x.number x.account x.at in
      let few_now : length a.sets ≤ most_generations = k.few.sets_few there.0 a there.1 in
      let within : greatest 0 d.held ≤ length a.sets = held_within apart secret next t k name d a has in
      let last : greatest 0 x.device.held ≡ length x.account.sets = x.greatest_is in
      let tokens : session_token secret now.number (greatest 0 x.device.held) ≡ session_token secret now.number (greatest 0 d.held) =
      ap (λ (n : ℕ). session_token secret n (greatest 0 x.device.held)) (sym same_number) ∙ sym was.is ∙ sym same_token ∙ now.is in
      differ now.number (greatest 0 x.device.held) (greatest 0 d.held) (few_numbers apart secret next t k now.number now.account now.at) (omega arith)
      (omega arith) tokens

  last_held : greatest 0 d.held ≡ length a.sets
  last_held = sym same_greatest ∙ x.greatest_is ∙ sym same_sets

-- ---- steps whose last one applies an answer

-- the last step, from where those before it lead
pub record Applied (secret name : Bytes) (r : Request) (given : Answer) (applied : List Change) (next : World) : Type 0 where
  pub before : World
  pub state : Ideal
  pub holds : Holds secret before state
  pub commits_so : Commits before next name (applies r given) applied
  pub may : MayApply before.server (before.devices name) state name r given

module _ (keeps : Keeps) (secret : Bytes) (differ : TokensDiffer secret) (name : Bytes) (r : Request) (given : Answer) (applied : List Change) where
  abbrev pub applying : Happens
  applying = commits name (applies r given) applied true

  pub last_applied : (steps : List Happens) (moves : List Move) (w next : World) (s : Ideal) → Holds secret w s → Trace secret w s (steps ++ applying ∷ []) moves next
      → Applied secret name r given applied next
  last_applied [] moves w next s h (mid, first, later, does, says, (none, same), is) = record {
    before = w;
    state = s;
    holds = h;
    commits_so = subst (λ (z : World). Commits w z name (applies r given) applied) (sym same) does.0;
    may = does.1;
  }
  last_applied (step ∷ steps) moves w next s h (mid, first, later, does, says, rest, is) =
      last_applied steps later mid next (end_from s first) (keeps secret w mid s step first differ h does says).1 rest

  pub holds_last : AccountsApart → (steps : List Happens) (moves : List Move) (w next : World) (s : Ideal) → Holds secret w s
      → Trace secret w s (steps ++ applying ∷ []) moves next → HoldsLast (end_from s moves) name
  holds_last apart steps moves w next s h trace d a has =
      let x = last_applied steps moves w next s h trace in
      let k : Holds secret next (end_from s moves) = (trace_from keeps secret differ (steps ++ applying ∷ []) moves w next s h trace).1 in
      let stay : KeepsKeys (x.before.devices name) (next.devices name) =
      subst (λ (rows : Rows). KeepsKeys (x.before.devices name) rows) (sym x.commits_so.on.own)
      (applied_keeps (x.before.devices name) x.commits_so.words x.commits_so.left r given applied x.commits_so.step) in
      last_held apart secret differ name x.before next x.state (end_from s moves) x.holds k x.commits_so.on.server stay
      (at_last x.before.server (x.before.devices name) x.state name r given x.may) d a has

-- Behind an adoption the greatest set that the device holds is its account's last.
use Rattle.std.proofs.Common.{◌≡◌, ◌≤◌, ℕ, length, refl, sym, ap, ◌∙◌, arith}
use Rattle.sn_account.specs.Sessions.{session_token}
use Rattle.sn_account.specs.Sound.{most_accounts, most_generations}
use Rattle.sn_device.specs.States.{HasOwner}
use Rattle.sn_laws.specs.Lookups.{Bytes, greatest}
use Rattle.sn_laws.specs.declared.ideal.Ideal.{Ideal}
use Rattle.sn_ready.specs.Ready.{HoldsLast}
use Rattle.sn_rows.specs.Table.{Rows}
use Rattle.sn_rows.specs.declared.device_rows.OwnerRow.{OwnerRow}
use Rattle.sn_rows.specs.declared.key.Key.TheVariants as key
use Rattle.sn_rows.specs.declared.server_rows.AccountRow.{AccountRow}
use Rattle.sn_shows.specs.Laws.{AccountsApart}
use Rattle.sn_shows.specs.Servers.{ShowsIdentity}
use Rattle.sn_string.specs.declared.params.KeySet.{KeySet}
use Rattle.sn_world.proofs.Facts.{apart_of, few_numbers, held_within, named_at, named_identifier, one_account, one_owner, same_owner}
use Rattle.sn_world.specs.Committing.{MayAdopt}
use Rattle.sn_world.specs.Holds.{DeviceToken, Holds, TokensDiffer}
use Rattle.sn_world.specs.World.{World}

-- its session token says so
module _ (apart : AccountsApart) (secret : Bytes) (differ : TokensDiffer secret) (name : Bytes) (v next : World) (t u : Ideal) (h : Holds secret v t)
    (k : Holds secret next u) (same_server : next.server ≡ v.server) (set : KeySet) (token : Bytes) (may : MayAdopt secret t name set token)
    (later : OwnerRow) (owned : HasOwner (next.devices name) later) (token_is : later.token ≡ token) where
  pub adopted_last : HoldsLast u name
  adopted_last e b has =
      let now : DeviceToken secret (next.devices name) u.accounts e = k.own_tokens name e has.device in
      let there = named_at u e.account b has.account in
      let its : session_token secret now.number (greatest 0 e.held) ≡ session_token secret may.number (length may.account.sets) =
      sym now.is ∙ ap (λ (z : OwnerRow). z.token) (one_owner now.owner later (next.devices name key.Owner) now.has owned) ∙ token_is ∙ may.token_is in
      let few : now.number ≤ most_accounts = few_numbers apart secret next u k now.number now.account now.at in
      let number : now.number ≡ may.number =
      same_owner secret (session_token secret now.number (greatest 0 e.held)) now.number may.number (greatest 0 e.held) (length may.account.sets) few
      (few_numbers apart secret v t h may.number may.account may.at) refl its in
      let there_is : there.0 ≡ may.number =
      apart_of apart u k.reached there.0 now.number b now.account there.1 now.at (named_identifier u e.account b has.account ∙ sym now.own) ∙ number in
      let own : ShowsIdentity next.server there.0 b = (k.server.all.each there.0 b there.1).identity in
      let was : ShowsIdentity v.server may.number may.account = (h.server.all.each may.number may.account may.at).identity in
      let same_row : v.server (key.Account may.number) ≡ next.server (key.Account there.0) =
      sym (ap (λ (r : Rows). r (key.Account there.0)) same_server ∙ ap (λ (n : ℕ). v.server (key.Account n)) there_is) in
      let row : own.row ≡ was.row = one_account own.row was.row (v.server (key.Account may.number)) (same_row ∙ own.stands) was.stands in
      let sets : length b.sets ≡ length may.account.sets =
      sym own.generation ∙ ap (λ (z : AccountRow). z.generation) row ∙ was.generation in
      let within : greatest 0 e.held ≤ length b.sets = held_within apart secret next u k name e b has in
      let most : length b.sets ≤ most_generations = k.few.sets_few there.0 b there.1 in
      differ now.number (greatest 0 e.held) (length b.sets) few (omega arith) most
      (its ∙ ap (λ (n : ℕ). session_token secret n (length may.account.sets)) (sym number) ∙ ap (session_token secret now.number) (sym sets))

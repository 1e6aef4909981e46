-- What a sync and a change of password leave, where they are answered.
use Rattle.std.proofs.Common.{◌≡◌, ℕ, List, [], ◌∷◌, length, Some, false, sym, ◌∙◌, subst, inr}
use Rattle.std.proofs.lemmas.Bool.{false_from_ne_true}
use Rattle.rand_chacha.specs.ChaCha.{ChaCha}
use Rattle.sn_device.specs.Runs.{Act, Call, Given, Point, answered, passwd, rows_done, sync}
use Rattle.sn_device.specs.Sending.{NoneWaits}
use Rattle.sn_device.specs.States.{HasLocal}
use Rattle.sn_finished.specs.Finished.{CarriesLast, HasFinished}
use Rattle.sn_finished.specs.Laws.{FinishedCarries}
use Rattle.sn_laws.specs.Each.{Each}
use Rattle.sn_laws.specs.Lookups.{Bytes}
use Rattle.sn_laws.specs.Runs.{end_from}
use Rattle.sn_laws.specs.declared.ideal.Account.{Account}
use Rattle.sn_laws.specs.declared.ideal.Device.{Device}
use Rattle.sn_laws.specs.declared.ideal.Ideal.{Ideal}
use Rattle.sn_passwd.proofs.Asking.{IsSetFor}
use Rattle.sn_passwd.proofs.Ends.{EndsCall}
use Rattle.sn_passwd.proofs.Going.{passwd_ends, sync_ends}
use Rattle.sn_passwd.proofs.Pieces.{Known}
use Rattle.sn_passwd.proofs.Points.{Brought, HasKeys, last_alone}
use Rattle.sn_passwd.proofs.Together.{AreRenewed, CallLaws, IsBrought, IsBroughtAnew}
use Rattle.sn_passwd.specs.Ends.{EverySyncEnds, HasNewSet, IsAtRest, LeadsAtRest, PasswdsEnd}
use Rattle.sn_rows.specs.Table.{Rows}
use Rattle.sn_rows.specs.declared.device_rows.LocalItem.{LocalItem}
use Rattle.sn_rows.specs.declared.key.Key.TheVariants as key
use Rattle.sn_rows.specs.declared.key.Slot.TheVariants.{Older}
use Rattle.sn_shows.proofs.Facts.{each_at, holder_of}
use Rattle.sn_shows.specs.Devices.{ShowsOlder}
use Rattle.sn_shows.specs.Laws.{HasAccount}
use Rattle.sn_shows.specs.Sets.{set_at}
use Rattle.sn_string.specs.declared.params.KeySet.{KeySet}
use Rattle.sn_world.proofs.Facts.{is_synced, named_at, present_at, trace_from}
use Rattle.sn_world.specs.Calls.{Fate, Leads, call_steps, rows_served}
use Rattle.sn_world.specs.Holds.{Holds, TokensDiffer}
use Rattle.sn_world.specs.Laws.{SyncedRows}
use Rattle.sn_world.specs.Plain.{AsksNoSet}
use Rattle.sn_world.specs.Pulled.{HasAll}
use Rattle.sn_world.specs.Synced.{IsSynced}
use Rattle.sn_world.specs.World.{World}

-- ---- a device that has been brought together with its server

none_stale : (rows : Rows) → NoneWaits rows → (number : ℕ) (local : LocalItem) → HasLocal rows number local → local.stale ≡ false
none_stale rows none number local has = false_from_ne_true local.stale (λ stale. none number local has (inr stale))

at_rest : SyncedRows → (secret : Bytes) (next : World) (t : Ideal) (name identifier token : Bytes) (present : KeySet) (q : Point) → Holds secret next t
    → next.devices name ≡ q.rows → Brought name identifier token present next t q → IsAtRest (next.devices name) t name
at_rest synced secret next t name identifier token present q h is x =
    let none_waits : NoneWaits (next.devices name) = subst (λ (r : Rows). NoneWaits r) (sym is) x.none_waits in
    let whole : HasAll (next.devices name) t name = subst (λ (r : Rows). HasAll r t name) (sym is) x.whole in
    let last : IsSynced (next.devices name) t name = is_synced synced secret next t h name none_waits whole in
    let alone : last.device.held ≡ length last.account.sets ∷ [] = x.alone last.device last.account last.has in
    record {
      synced = last;
      none_stale = none_stale (next.devices name) none_waits;
      none_asked = subst (λ (r : Rows). AsksNoSet r) (sym is) x.none_asked;
      alone = alone;
      none_older = subst (λ (held : List ℕ). ShowsOlder last.account (next.devices name (key.Set Older)) held) alone
          (holder_of (next.devices name) t name last.device last.account (h.devices name) last.has).older;
    }

-- its present set is the account's last, a new one of the password
new_set : FinishedCarries → (secret : Bytes) (next : World) (s t : Ideal) (name identifier token password : Bytes) (cost : ℕ) (present : KeySet) (q : Point)
    → Holds secret next t → next.devices name ≡ q.rows → Brought name identifier token present next t q → IsSetFor password cost present
    → AreRenewed s name t → (d : Device) (a : Account) → HasAccount t name d a → HasNewSet (next.devices name) s a password cost
new_set carries secret next s t name identifier token password cost present q h is x keys renewed d a has =
    let own : HasKeys (next.devices name) identifier token present = subst (λ (r : Rows). HasKeys r identifier token present) (sym is) x.keys in
    let its : IsSetFor password cost own.sets.present = subst (λ (set : KeySet). IsSetFor password cost set) (sym own.present_is) keys in
    let new = renewed d a has in
    let there = named_at t d.account a has.account in
    record {
      owner = own.owner;
      sets = own.sets;
      holds = own.holds;
      keys = its.0;
      cost_is = its.1;
      last = subst (λ (k : ℕ). set_at k a.sets ≡ Some own.sets.present) (last_alone t name x.alone d a has)
          (present_at (next.devices name) t name d a own.owner own.sets (holder_of (next.devices name) t name d a (h.devices name) has) own.holds);
      was = new.was;
      named = new.named;
      more = new.more;
      carries_last = each_at (λ (b : Account). HasFinished new.moves b → CarriesLast b) t.accounts there.0 a
          (subst (λ (u : Ideal). Each (λ (b : Account). HasFinished new.moves b → CarriesLast b) u.accounts) (sym new.is) (carries new.moves new.legal)) there.1
          (name, new.finished);
    }

-- ---- the calls

module _ (laws : CallLaws) (synced : SyncedRows) (secret : Bytes) (differ : TokensDiffer secret) (w : World) (s : Ideal) (h : Holds secret w s) (name : Bytes)
    (call : Call) (acts : List Act) (fates : List Fate) (given : Given) (left : ChaCha) (Q : Known)
    (so : (v : World) (t : Ideal) (p : Point) → Q v t p → IsBrought name v t p) (x : EndsCall secret w s name call acts fates (answered given left) Q) where
  abbrev leads : Leads secret w s name (call_steps name x.begins acts fates) (rows_served w.server fates) (rows_done (w.devices name) acts)
  leads = x.ends.1.0

  abbrev end : Ideal
  end = end_from s leads.moves

  end_rows : leads.next.devices name ≡ x.ends.0.rows
  end_rows = leads.device_is ∙ x.ends.1.1

  is_at_rest : IsAtRest (leads.next.devices name) end name
  is_at_rest =
      let known : IsBrought name leads.next end x.ends.0 = so leads.next end x.ends.0 x.ends.1.2 in
      let there : Holds secret leads.next end =
      (trace_from laws.resolving.keeps secret differ (call_steps name x.begins acts fates) leads.moves w leads.next s h leads.goes).1 in
      at_rest synced secret leads.next end name known.0 known.1 known.2 x.ends.0 there end_rows known.3

  abbrev leads_at_rest : LeadsAtRest secret w s name call acts fates
  leads_at_rest = record { begins = x.begins; of_call = x.of_call; leads = leads; at_rest = is_at_rest }

pub every_sync_ends : CallLaws → SyncedRows → EverySyncEnds
every_sync_ends laws synced secret w s name least words left acts fates given differ h only runs over =
    leads_at_rest laws synced secret differ w s h name sync acts fates given left (IsBrought name) (λ v t p known. known)
    (sync_ends laws secret differ w s h name words acts fates (answered given left) only over least runs)

pub passwds_end : CallLaws → SyncedRows → FinishedCarries → PasswdsEnd
passwds_end laws synced carries secret w s name least password cost words left acts fates given differ h only runs over =
    let call : Call = passwd password cost in
    let less : (v : World) (t : Ideal) (p : Point) → IsBroughtAnew s name password cost v t p → IsBrought name v t p =
    λ v t p known. (known.0, known.1, known.2, known.4) in
    let x : EndsCall secret w s name call acts fates (answered given left) (IsBroughtAnew s name password cost) =
    passwd_ends laws secret differ w s h name words acts fates (answered given left) only over least password cost runs in
    let known = x.ends.1.2 in
    let at : LeadsAtRest secret w s name call acts fates =
    leads_at_rest laws synced secret differ w s h name call acts fates given left (IsBroughtAnew s name password cost) less x in
    let there : Holds secret at.leads.next (end_from s at.leads.moves) =
    (trace_from laws.resolving.keeps secret differ (call_steps name x.begins acts fates) at.leads.moves w at.leads.next s h at.leads.goes).1 in (
      at,
      new_set carries secret at.leads.next s (end_from s at.leads.moves) name known.0 known.1 password cost known.2 x.ends.0 there
          (end_rows laws synced secret differ w s h name call acts fates given left (IsBroughtAnew s name password cost) less x) known.4 known.3 known.5
          at.at_rest.synced.device at.at_rest.synced.account at.at_rest.synced.has,
    )

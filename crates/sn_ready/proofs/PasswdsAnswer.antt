-- A change of password of a device that is ready is answered, or ends by one of the causes that are named.
use Rattle.std.proofs.Common.{◌≡◌, ◌⊎◌, ◌+◌, ℕ, suc, List, ◌++◌, length, None, refl, sym, ap, ◌∙◌, subst, inl, inr, arith}
use Rattle.rand_chacha.specs.ChaCha.{ChaCha}
use Rattle.sn_device.specs.Runs.{Act, AnswersNothing, AsksFor, ChangesTo, Exchanges, Halt, Point, Then, Turn, answered, begun, goes_on, is_over, nothing, RefusesChange}
use Rattle.sn_device.specs.States.{HasSets}
use Rattle.sn_laws.proofs.Facts.{each_back}
use Rattle.sn_laws.specs.Each.{Each}
use Rattle.sn_laws.specs.Laws.{VersionsRise}
use Rattle.sn_laws.specs.Lookups.{Bytes}
use Rattle.sn_laws.specs.Runs.{end_from}
use Rattle.sn_laws.specs.declared.ideal.Ideal.{Ideal}
use Rattle.sn_passwd.proofs.Exchanging.{exchanges_goes}
use Rattle.sn_passwd.proofs.Pieces.{GoesTurn, stands_behind}
use Rattle.sn_passwd.proofs.Points.{Brought, Unasked}
use Rattle.sn_passwd.proofs.Together.{CallLaws}
use Rattle.sn_ready.proofs.AskedChange.{point}
use Rattle.sn_ready.proofs.RowEnds.{Fails, row_stops}
use Rattle.sn_ready.specs.Passwds.{BehindFirst, PasswdEnds, ReadyPasswdsAnswer, RowDone, StopsRow, rows_made}
use Rattle.sn_ready.specs.Ready.{IsReady}
use Rattle.sn_rows.specs.Table.{Rows}
use Rattle.sn_rows.specs.declared.device_rows.OwnerRow.{OwnerRow}
use Rattle.sn_sets.specs.declared.sets.Sets.{Sets}
use Rattle.sn_sync.specs.Laws.{HasOneStamp}
use Rattle.sn_world.proofs.CallFronts.{Split, split}
use Rattle.sn_world.proofs.CallLemmas.{Stands}
use Rattle.sn_world.proofs.PresentSets.{unasked}
use Rattle.sn_world.proofs.Reaching.{requests_of}
use Rattle.sn_world.specs.Answering.{Arrives, requests_in}
use Rattle.sn_world.specs.Calls.{AreServed, Fate, begins_none, rows_served}
use Rattle.sn_world.specs.Delivered.{FitsDevices, TracesFit}
use Rattle.sn_world.specs.Holds.{Holds, TokensDiffer}
use Rattle.sn_world.specs.World.{World}
use Rattle.sn_ready.proofs.ChangeEnds.{EndedOr, Outcome, change_so, ends_done, row_of}
use Rattle.sn_account.specs.Rules.{IsBehind, IsPresent}
use Rattle.sn_account.specs.Sessions.{IsSession}
use Rattle.sn_device.specs.Sending.{NoneWaits}
use Rattle.sn_device.specs.declared.error.ClientError.{ClientError}
use Rattle.sn_finished.specs.Finished.{CarriesLast}
use Rattle.sn_laws.specs.Runs.{LegalFrom}
use Rattle.sn_laws.specs.declared.ideal.Account.{Account}
use Rattle.sn_laws.specs.declared.ideal.Device.{Device}
use Rattle.sn_passwd.proofs.Points.{last_alone}
use Rattle.sn_ready.proofs.NoneRuns.{behind_not, runs_not, still_carries}
use Rattle.sn_ready.specs.Passwds.{IsConflict, IsFinished, RefusesIt}
use Rattle.sn_rows.specs.declared.key.Key.TheVariants as key
use Rattle.sn_rows.specs.declared.value.Value.TheVariants as value
use Rattle.sn_shows.proofs.Facts.{holder_from}
use Rattle.sn_shows.specs.Laws.{HasAccount}
use Rattle.sn_string.specs.declared.params.Params.{Params}
use Rattle.sn_world.proofs.Traced.{trace_from}
use Rattle.sn_world.specs.Laws.{SyncedRows}
use Rattle.sn_world.specs.Pulled.{HasAll}

-- ---- the call

module _ (laws : CallLaws) (rise : VersionsRise) (one_stamp : HasOneStamp) (synced : SyncedRows) (fits_on : TracesFit) (secret : Bytes) (differ : TokensDiffer secret)
    (w : World) (s : Ideal) (h : Holds secret w s) (name : Bytes) (ready : IsReady w s name) (fits : FitsDevices w) (least : ℕ) (password : Bytes) (cost : ℕ)
    (words : ChaCha) (acts : List Act) (fates : List Fate) (over : AreServed w.server acts fates) (arrive : Each Arrives fates) (owner : OwnerRow)
    (sets : Sets) (holds : HasSets (w.devices name) owner sets) where
  abbrev rows : Rows
  rows = w.devices name

  abbrev first : Point
  first = begun rows words

  abbrev PasswdEndsSo : Halt → Type 0
  PasswdEndsSo halt = PasswdEnds s name least password cost w.server rows words acts fates halt

  stands : Stands secret name w s w.server rows
  stands = record { holds = h; server_is = refl; device_is = refl }

  none_asked : sets.asked ≡ None
  none_asked = unasked rows owner sets ready.unasked holds

  pre : Unasked owner.identifier owner.token sets.present w s first
  pre =
      (ready.unasked, record { owner = owner; sets = sets; holds = holds; identifier_is = refl; token_is = refl; present_is = refl })

  failed : (halt : Halt) → Fails halt → PasswdEndsSo halt
  failed halt (inl memory) = inr (inr (inr (inl memory)))
  failed halt (inr disk) = inr (inr (inr (inr disk)))

  first_stops : (halt : Halt) → Exchanges first acts (is_over halt) → PasswdEndsSo halt
  first_stops halt ex =
      by (row_stops laws.rounds laws.resolving.keeps laws.resolving.says rise one_stamp secret differ name w s w.server first acts fates stands ready.last
      (fits name) over arrive halt ex)
    where
      by : StopsRow 0 w.server rows words acts fates halt ⊎ Fails halt → PasswdEndsSo halt
      by (inl stops) = inr (inr (inl stops))
      by (inr fails) = failed halt fails

  module _ (front : List Act) (q : Point) (later : List Act) (ex : Exchanges first front (goes_on q)) (are : acts ≡ front ++ later) where
    parts : Split name begins_none w.server front later fates
    parts = split name begins_none w.server front later fates (subst (λ (xs : List Act). AreServed w.server xs fates) are over)

    went : GoesTurn secret name begins_none w s w.server rows (Brought name owner.identifier owner.token sets.present) front parts.met (goes_on q)
    went =
        exchanges_goes laws.whole laws.rounds laws.resolving.keeps laws.resolving.says secret differ name begins_none owner.identifier owner.token sets.present
        w s w.server first front parts.met (goes_on q) stands pre ex parts.over

    abbrev made : ℕ
    made = 0 + length ex.rounds

    q_is : q ≡ point made ex.at
    q_is = (ends_done (0 + length ex.rounds) ex.at ex.later q ex.ends).2

    abbrev row : RowDone rows words acts
    row = row_of first front later acts q ex are

    abbrev behind : BehindFirst w.server rows words acts fates
    behind = record { first = row; met = parts.met; others = parts.others; fates_are = parts.fates_are }

    count : requests_in acts ≡ length ex.rounds + requests_in later
    count = ap requests_in row.behind.acts_are ∙ requests_of ex.rounds later

    stops_row : (n m : ℕ) → n ≡ m → (server rows : Rows) (words : ChaCha) (acts : List Act) (fates : List Fate) (halt : Halt)
        → StopsRow n server rows words acts fates halt → StopsRow m server rows words acts fates halt
    stops_row n m same server rows words acts fates halt x = subst (λ (k : ℕ). StopsRow k server rows words acts fates halt) same x

    -- ---- the device behind the first row

    abbrev next : World
    next = went.0.next

    abbrev then : Ideal
    then = end_from s went.0.moves

    kept : LegalFrom s went.0.moves × Holds secret next then
    kept = trace_from laws.resolving.keeps secret differ _ went.0.moves w next s h went.0.goes

    rows_are : next.devices name ≡ q.rows
    rows_are = went.0.device_is ∙ went.1

    device : next.devices name ≡ ex.at.rows
    device = rows_are ∙ ap (λ (z : Point). z.rows) q_is

    -- no change of its account's password runs, where none did before
    module _ (finished : IsFinished s name) (one : OwnerRow) (held : Sets) (its : HasSets ex.at.rows one held) where
      here : HasSets (next.devices name) one held
      here = subst (λ (r : Rows). HasSets r one held) (sym device) its

      found : (e : Device) × (b : Account) × HasAccount then name e b
      found = holder_from (next.devices name) then name key.Owner (value.Owner one) (kept.1.devices name) here.owned

      carries : CarriesLast found.1
      carries =
          let was = holder_from rows s name key.Owner (value.Owner owner) (h.devices name) holds.owned in
          still_carries laws.rounds.apart secret differ w next s went.0.moves h kept.0 kept.1 name owner went.2.keys.owner holds.owned
          (ap (λ (r : Rows). r key.Owner) rows_are ∙ went.2.keys.holds.owned) went.2.keys.token_is ready.last (last_alone then name went.2.alone) was.0 was.1 was.2
          found.0 found.1 found.2 (finished was.0 was.1 was.2)

      none_waits : NoneWaits (next.devices name)
      none_waits = subst NoneWaits (sym rows_are) went.2.none_waits

      whole : HasAll (next.devices name) then name
      whole = subst (λ (r : Rows). HasAll r then name) (sym rows_are) went.2.whole

      none_runs : (why : ClientError) → RefusesChange ex.at.rows held why → ⊥
      none_runs why refuses =
          runs_not laws.rounds.apart rise synced secret next then kept.1 name one held here none_waits went.2.alone whole found.0 found.1 found.2 carries why
          (subst (λ (r : Rows). RefusesChange r held why) (sym device) refuses)

      none_behind : (n : ℕ) → IsSession (rows_served w.server parts.met) one.token n → (present : Params)
          → IsPresent (rows_served w.server parts.met) n present → (uuid : Bytes) → IsBehind (rows_served w.server parts.met) n present uuid → ⊥
      none_behind n session present is uuid b =
          behind_not laws.rounds.apart rise synced secret next then kept.1 name one held here none_waits went.2.alone whole found.0 found.1 found.2 carries n
          (subst (λ (r : Rows). IsSession r one.token n) (sym went.0.server_is) session) present
          (subst (λ (r : Rows). IsPresent r n present) (sym went.0.server_is) is) uuid
          (subst (λ (r : Rows). IsBehind r n present uuid) (sym went.0.server_is) b)

    abbrev Refused : Type 0 → Halt → Type 0
    Refused runs halt = RefusesIt runs password cost (rows_served w.server parts.met) ex.at later parts.others halt

    refused_so : (halt : Halt) → Refused (Unit {0}) halt → Refused (¬ (IsFinished s name)) halt
    refused_so halt x = record {
      change = x.change;
      number = x.number;
      session = x.session;
      account = x.account;
      there = x.there;
      present = x.present;
      present_is = x.present_is;
      tag = x.tag;
      further = x.further;
      conflict = by x.conflict;
      given_is = x.given_is;
      now = x.now;
      fates_are = x.fates_are;
      dropped = x.dropped;
      drops = x.drops;
      later_is = x.later_is;
      is = x.is;
    }
      where
        by : IsConflict (Unit {0}) (rows_served w.server parts.met) x.number x.account x.present x.change.set.params.pw_nonce x.tag x.further
            → IsConflict (¬ (IsFinished s name)) (rows_served w.server parts.met) x.number x.account x.present x.change.set.params.pw_nonce x.tag x.further
        by (inl (uuid, unit, least, tag_is, more_is)) =
            inl (
              uuid,
              λ finished. none_behind finished x.change.owner x.change.sets x.change.holds x.number x.session x.present x.present_is uuid least.behind,
              least,
              tag_is,
              more_is,
            )
        by (inr used) = inr used

    ended : (halt : Halt) → EndedOr laws rise one_stamp secret differ name password cost made (rows_served w.server parts.met) ex.at later parts.others halt
        → PasswdEndsSo halt
    ended halt (inl (inl changed)) = inl (record { behind = behind; ends = inl changed })
    ended halt (inl (inr (inl (one, held, its, why, refuses, none)))) =
        inl (record { behind = behind; ends = inr (inl (one, held, its, why, (λ finished. none_runs finished one held its why refuses), refuses, none)) })
    ended halt (inl (inr (inr (inl (all, refuses))))) =
        let none : requests_in later ≡ 0 = ap requests_in refuses.0 in
        let whole = count in
        inl (record { behind = behind; ends = inr (inr (inl (omega arith, refuses))) })
    ended halt (inl (inr (inr (inr (inl refuses))))) =
        inl (record { behind = behind; ends = inr (inr (inr (inl (refused_so halt refuses)))) })
    ended halt (inl (inr (inr (inr (inr (inl large)))))) = inl (record { behind = behind; ends = inr (inr (inr (inr (inl large)))) })
    ended halt (inl (inr (inr (inr (inr (inr x)))))) =
        let same : suc made ≡ length ex.rounds + 1 = omega arith in
        inl (record {
          behind = behind;
          ends = inr (inr (inr (inr (inr (record {
            is_made = x.is_made;
            met = x.met;
            others = x.others;
            fates_are = x.fates_are;
            stops = stops_row (suc made) (length ex.rounds + 1) same (rows_served (rows_served w.server parts.met) x.met) (rows_made ex.at x.is_made)
                x.is_made.makes.left x.is_made.later x.others halt x.stops;
          })))));
        })
    ended halt (inr fails) = failed halt fails

    module _ (turn : Turn) (change : Then (AsksFor password cost) Exchanges q later turn) where
      outcome : Outcome (EndedOr laws rise one_stamp secret differ name password cost made (rows_served w.server parts.met) ex.at later parts.others) turn
      outcome =
          change_so laws rise one_stamp secret differ name password cost fits_on went.0.next (end_from s went.0.moves) (rows_served w.server parts.met) made
          ex.at later parts.others
          (subst (λ (z : Point). Stands secret name went.0.next (end_from s went.0.moves) (rows_served w.server parts.met) z.rows) q_is
          (stands_behind laws.resolving.keeps laws.resolving.says secret differ name begins_none w s w.server first q front parts.met stands went.0 went.1))
          went.2.alone (fits_on secret w went.0.next s _ went.0.moves differ h fits went.0.goes) parts.later_over
          (each_back Arrives parts.met parts.others (subst (λ (fs : List Fate). Each Arrives fs) parts.fates_are arrive)) turn
          (subst (λ (z : Point). Then (AsksFor password cost) Exchanges z later turn) q_is change)

  changes_so : (turn : Turn) → ChangesTo password cost owner sets first acts turn → Outcome PasswdEndsSo turn
  changes_so turn (inl (halt, inl (none, ex), is)) = inl (halt, is, first_stops halt ex)
  changes_so turn (inl (halt, inr (set, asked_is, so), is)) = absurd (let none = none_asked in cc)
  changes_so turn (inr (front, q, later, inl (none, ex), change, are)) = by (outcome front q later ex are turn change)
    where
      by : Outcome (EndedOr laws rise one_stamp secret differ name password cost (made front q later ex are)
          (rows_served w.server (parts front q later ex are).met) ex.at later (parts front q later ex are).others) turn → Outcome PasswdEndsSo turn
      by (inl (halt, is, ends)) = inl (halt, is, ended front q later ex are halt ends)
      by (inr (z, is, ends)) = inr (z, is, ended front q later ex are (answered nothing z.words) ends)
  changes_so turn (inr (front, q, later, inr (set, asked_is, so), change, are)) = absurd (let none = none_asked in cc)

  pub passwd_so : (halt : Halt) → AnswersNothing (ChangesTo password cost owner sets) first acts halt → PasswdEndsSo halt
  passwd_so halt (inl so) = by (changes_so (is_over halt) so)
    where
      by : Outcome PasswdEndsSo (is_over halt) → PasswdEndsSo halt
      by (inl (h, is, ends)) = let same : h ≡ halt = cc in subst PasswdEndsSo same ends
      by (inr (z, is, ends)) = absurd (cc)
  passwd_so halt (inr (q, so, halt_is)) = by (changes_so (goes_on q) so)
    where
      by : Outcome PasswdEndsSo (goes_on q) → PasswdEndsSo halt
      by (inl (h, is, ends)) = absurd (cc)
      by (inr (z, is, ends)) =
          let same : z ≡ q = cc in
          subst PasswdEndsSo (ap (λ (y : Point). answered nothing y.words) same ∙ sym halt_is) ends

pub ready_passwds_answer : CallLaws → VersionsRise → HasOneStamp → SyncedRows → TracesFit → ReadyPasswdsAnswer
ready_passwds_answer laws rise one_stamp synced fits_on secret w s name owner least password cost words acts fates halt differ h ready owned fits (inl none) over
    arrive =
    inr (inr (inr (inl none.1)))
ready_passwds_answer laws rise one_stamp synced fits_on secret w s name owner least password cost words acts fates halt differ h ready owned fits
    (inr (inl (nobody, refuses))) over arrive =
    absurd (cc)
ready_passwds_answer laws rise one_stamp synced fits_on secret w s name owner least password cost words acts fates halt differ h ready owned fits
    (inr (inr (one, sets, holds, inl bad))) over arrive =
    inr (inl bad)
ready_passwds_answer laws rise one_stamp synced fits_on secret w s name owner least password cost words acts fates halt differ h ready owned fits
    (inr (inr (one, sets, holds, inr (good, so)))) over arrive =
    passwd_so laws rise one_stamp synced fits_on secret differ w s h name ready fits least password cost words acts fates over arrive one sets holds halt so

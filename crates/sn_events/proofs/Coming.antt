-- A call is a line of the world.
use Rattle.std.proofs.Common.{◌≡◌, ◌≢◌, ◌⊎◌, ◌++◌, ℕ, List, [], ◌∷◌, None, Some, true, refl, sym, ap, ◌∙◌, subst, inl, inr}
use Rattle.std.specs.declared.option.Option.{Option}
use Rattle.rand_chacha.specs.ChaCha.{ChaCha}
use Rattle.sn_account.specs.RuleLaws.{StaysSound}
use Rattle.sn_account.specs.Sound.{IsSound}
use Rattle.sn_device.specs.Asking.{Reply}
use Rattle.sn_device.specs.Runs.{Act, AreExchanges, Call, Halt, Run, asked, commits, content, delete, edit, list, passwd, put, register, sign_in, sync}
use Rattle.sn_events.proofs.Batches.{IsWhole, whole_asked}
use Rattle.sn_events.proofs.Fating.{AllFated, all_fated}
use Rattle.sn_events.proofs.Hearing.{register_hears, sign_in_hears}
use Rattle.sn_events.proofs.HearingPieces.{passwd_hears, sync_hears}
use Rattle.sn_events.proofs.Quiet.{only_by, only_hears, only_readable, only_served, only_told, quiet_runs}
use Rattle.sn_events.specs.Answers.{IsPlain}
use Rattle.sn_events.specs.Calling.{IsOpenHeld, IsRecording, host}
use Rattle.sn_events.specs.Events.{AreReadableBy}
use Rattle.sn_events.specs.Fates.{AnyAskLost}
use Rattle.sn_events.specs.Laws.{CallsCome, LineCame, QuietCome}
use Rattle.sn_events.specs.Servers.{ServesRows}
use Rattle.sn_events.specs.declared.setting.Setting.{Setting}
use Rattle.sn_io.specs.Causes.{next_count}
use Rattle.sn_journal.specs.declared.owner.Owner.TheVariants.{Server as ServerOwner}
use Rattle.sn_laws.specs.Lookups.{Bytes}
use Rattle.sn_laws.specs.declared.ideal.Ideal.{Ideal}
use Rattle.sn_lines.specs.Lines.{EachKeeps, EachLeads, IsCallOf, MayCall}
use Rattle.sn_link.specs.Deliveries.{Standing, failed, serves}
use Rattle.sn_link.specs.Holdings.{HoldsIn}
use Rattle.sn_link.specs.Laws.{HearsNoWant}
use Rattle.sn_link.specs.Links.{AnyLost, Asks, FailFor, IsFailed, asking, link_faults, link_held, link_losses, link_now, link_number}
use Rattle.sn_link.specs.declared.delivery.Held.{Held}
use Rattle.sn_link.specs.declared.delivery.Held.TheVariants.{Broken, Open}
use Rattle.sn_link.specs.declared.link.ServingLink.{ServingLink}
use Rattle.sn_link.specs.declared.losses.Losses.{Losses}
use Rattle.sn_net.specs.Exchanges.{Exchange}
use Rattle.sn_recorder.specs.Fates.{ExchangesHaveFates}
use Rattle.sn_recorder.specs.Recorded.{AreRecorded, IsPlaceOf, recorded_asked, recorded_link, recorded_place}
use Rattle.sn_recorder.specs.declared.exchanged.Exchanged.{Exchanged}
use Rattle.sn_recorder.specs.declared.recording.RecordingLink.{RecordingLink}
use Rattle.sn_rows.specs.Table.{Rows}
use Rattle.sn_rows.specs.declared.change.Change.{Change}
use Rattle.sn_server.specs.Loads.{kept_of}
use Rattle.sn_server.specs.Stores.{Kept}
use Rattle.sn_sync.specs.declared.request.Request.{Request}
use Rattle.sn_tail.specs.Places.{place_behind}
use Rattle.sn_world.specs.Calls.{AsksNothing}
use Rattle.sn_world.specs.Holds.{Holds, TokensDiffer}
use Rattle.sn_world.specs.Sessions.{LeadsLine, Line, calls}
use Rattle.sn_world.specs.World.{World}

-- ---- no want of memory was heard

hears_any : (call : Call) (rows : Rows) (words : ChaCha) (acts : List Act) (halt : Halt) → IsPlain halt → Run 1 call rows words acts halt → HearsNoWant acts
hears_any (register identifier password cost) rows words acts halt plain runs = register_hears 1 identifier password cost rows words acts halt plain runs
hears_any (sign_in identifier password) rows words acts halt plain runs = sign_in_hears 1 identifier password rows words acts halt plain runs
hears_any (put kind text) rows words acts halt plain runs = only_hears acts (quiet_runs (put kind text) rows words acts halt tt runs).0
hears_any (edit uuid text) rows words acts halt plain runs = only_hears acts (quiet_runs (edit uuid text) rows words acts halt tt runs).0
hears_any (delete uuid) rows words acts halt plain runs = only_hears acts (quiet_runs (delete uuid) rows words acts halt tt runs).0
hears_any list rows words acts halt plain runs = only_hears acts (quiet_runs list rows words acts halt tt runs).0
hears_any (content uuid) rows words acts halt plain runs = only_hears acts (quiet_runs (content uuid) rows words acts halt tt runs).0
hears_any sync rows words acts halt plain runs = sync_hears 1 rows words acts halt plain runs
hears_any (passwd password cost) rows words acts halt plain runs = passwd_hears 1 password cost rows words acts halt plain runs

-- a call that asks for nothing may be made
quiet_may : (s : Ideal) (device : Rows) (call : Call) → AsksNothing call → MayCall s device call
quiet_may s device (register identifier password cost) none = absurd none
quiet_may s device (sign_in identifier password) none = absurd none
quiet_may s device (put kind text) quiet = tt
quiet_may s device (edit uuid text) quiet = tt
quiet_may s device (delete uuid) quiet = tt
quiet_may s device list quiet = tt
quiet_may s device (content uuid) quiet = tt
quiet_may s device sync none = absurd none
quiet_may s device (passwd password cost) none = absurd none

-- ---- the server behind it

pub record OpenServes (held : Option Held) (next : Standing) : Type 0 where
  pub kept : Kept
  pub is : next ≡ serves kept
  pub sound : IsSound kept.rows

pub open_serves : (held : Option Held) (next : Standing) → IsOpenHeld held → HoldsIn held next → OpenServes held next
open_serves None next none holds = absurd none
open_serves (Some (Open server)) (serves kept) sound holds = record { kept = kept; is = refl; sound = subst IsSound holds.rows_are sound }
open_serves (Some (Open server)) (failed had made) sound holds = absurd holds
open_serves (Some (Broken disk)) next none holds = absurd none

abbrev with_rows : List (List Change) → Rows → Kept
with_rows batches rows = record { rows = rows; batches = batches }

whole_is : (kept : Kept) → IsWhole kept → kept ≡ kept_of kept.batches
whole_is kept whole = ap (with_rows kept.batches) whole

pub serves_rows : (held : Option Held) (kept : Kept) (place : ℕ) (rows : Rows) → HoldsIn held (serves kept) → IsWhole kept → IsSound kept.rows → kept.rows ≡ rows
    → place ≡ place_behind ServerOwner kept.batches → ServesRows held place rows
serves_rows held kept place rows holds whole sound is place_is = record {
  batches = kept.batches;
  holds = subst (λ (k : Kept). HoldsIn held (serves k)) (whole_is kept whole) holds;
  rows_are = sym whole ∙ is;
  sound = subst IsSound is sound;
  place_is = place_is;
}

-- the server that a link of its own was begun with
begun_holds : (link : ServingLink) (place : ℕ) (setting : Setting) (recording : RecordingLink) (kept : Kept) → HoldsIn (link_held link) (serves kept)
    → (set : IsRecording link place setting recording) → HoldsIn (link_held set.begun) (serves kept)
begun_holds link place setting recording kept holds set = subst (λ (o : Option Held). HoldsIn o (serves kept)) (sym set.begun_so.held) holds

-- the link that is set and aimed holds what was held
pub set_serves : (link : ServingLink) (place : ℕ) (setting : Setting) (recording : RecordingLink) (rows : Rows) → ServesRows (link_held link) place rows
    → IsRecording link place setting recording → ServesRows (link_held (recorded_link recording)) (recorded_place recording) rows
set_serves link place setting recording rows server set =
    let kept = kept_of server.batches in
    let (next, holds, made, fails) = set.unasked.served (serves kept) (begun_holds link place setting recording kept server.holds set) in
    record {
      batches = server.batches;
      holds = subst (HoldsIn (link_held (recorded_link recording))) made.1 holds;
      rows_are = server.rows_are;
      sound = server.sound;
      place_is = set.place_is ∙ server.place_is;
    }

-- its next exchange is the first
set_number : (link : ServingLink) (place : ℕ) (setting : Setting) (recording : RecordingLink) (rows : Rows) → ServesRows (link_held link) place rows
    → IsRecording link place setting recording → link_number (recorded_link recording) ≡ 1
set_number link place setting recording rows server set =
    let kept = kept_of server.batches in
    let (next, holds, made, fails) = set.unasked.served (serves kept) (begun_holds link place setting recording kept server.holds set) in
    made.0 ∙ set.begun_so.number_is

-- ---- why a link has failed

first_or_later : (losses : Losses) (number : ℕ) (r : Request) (reply : Reply) (acts : List Act) (x : Exchange) (later : List Exchange)
    → (AnyLost losses (next_count number) later → AnyAskLost losses (next_count number) acts) → AnyLost losses number (x ∷ later) → AnyAskLost losses number (asked r reply ∷ acts)
first_or_later losses number r reply acts x later on (inl first) = inl first
first_or_later losses number r reply acts x later on (inr behind) = inr (on behind)

-- something is lost of a request whose exchange is one of which something is lost
any_asked : (at : Bytes) (losses : Losses) (number : ℕ) (acts : List Act) (xs : List Exchange) → AreExchanges at acts xs → AnyLost losses number xs → AnyAskLost losses number acts
any_asked at losses number [] xs none any = subst (AnyLost losses number) none any
any_asked at losses number (commits what changes ∷ acts) xs are any = any_asked at losses number acts xs are any
any_asked at losses number (asked r reply ∷ acts) xs (x, later, is, exchange, are) any =
    first_or_later losses number r reply acts x later (any_asked at losses (next_count number) acts later are) (subst (AnyLost losses number) is any)

-- an open server's disk hasn't failed
open_unfailed : (next : Standing) (kept : Kept) → next ≡ serves kept → IsFailed next → ⊥
open_unfailed next kept is failed_so = let never : ⊥ = subst IsFailed is failed_so in never

fails_lost : (begun new : ServingLink) (xs : List Exchange) (next : Standing) (kept : Kept) → link_faults begun ≡ 0 → link_faults new ≢ 0 → next ≡ serves kept
    → FailFor begun new xs next → AnyLost (link_losses begun) (link_number begun) xs
fails_lost begun new xs next kept none some is (inl same) = absurd (some (same ∙ none))
fails_lost begun new xs next kept none some is (inr (inl any)) = any
fails_lost begun new xs next kept none some is (inr (inr failed_so)) = absurd (open_unfailed next kept is failed_so)

-- the link of a call has failed only where something is lost of its requests
link_lost : (link new : ServingLink) (place : ℕ) (setting : Setting) (recording : RecordingLink) (kept : Kept) (acts : List Act) (xs : List Exchange) → HoldsIn (link_held link) (serves kept)
    → IsRecording link place setting recording → Asks (recorded_link recording) new xs → IsOpenHeld (link_held new) → AreExchanges host acts xs → link_faults new ≢ 0
    → AnyAskLost setting.losses 1 acts
link_lost link new place setting recording kept acts xs there set asks open_held exchanges some =
    let all : Asks set.begun new xs = asking.more set.begun (recorded_link recording) new [] xs set.unasked asks in
    let (next, holds, made, fails) = all.served (serves kept) (begun_holds link place setting recording kept there set) in
    let o = open_serves (link_held new) next open_held holds in
    let any = fails_lost set.begun new xs next o.kept set.begun_so.unfailed some o.is fails in
    any_asked host setting.losses 1 acts xs exchanges
    (subst (λ (l : Losses). AnyLost l 1 xs) set.begun_so.losses_are (subst (λ (n : ℕ). AnyLost (link_losses set.begun) n xs) set.begun_so.number_is any))

-- a link over which nothing was asked has not failed
unasked_unfailed : (link : ServingLink) (place : ℕ) (setting : Setting) (recording : RecordingLink) (kept : Kept) → HoldsIn (link_held link) (serves kept)
    → IsRecording link place setting recording → link_faults (recorded_link recording) ≢ 0 → ⊥
unasked_unfailed link place setting recording kept there set some =
    let (next, holds, made, fails) = set.unasked.served (serves kept) (begun_holds link place setting recording kept there set) in
    let never : ⊥ = fails_lost set.begun (recorded_link recording) [] next kept set.begun_so.unfailed some made.1 fails in
    never

-- ---- the laws

line_comes : EachLeads → EachKeeps → (secret : Bytes) (w : World) (s : Ideal) (name : Bytes) (call : Call) (words : ChaCha) (acts : List Act) (halt : Halt) (setting : Setting) (new : RecordingLink)
    (next : Rows) (f : AllFated host w.server acts setting.losses setting.now 1 new.exchanged next) → TokensDiffer secret → Holds secret w s → MayCall s (w.devices name) call
    → Run 1 call (w.devices name) words acts halt → ServesRows (link_held (recorded_link new)) (recorded_place new) next
    → (link_faults (recorded_link new) ≢ 0 → AnyAskLost setting.losses 1 acts) → LineCame secret w s name call words acts halt setting new
line_comes leads keeps secret w s name call words acts halt setting new next f differ h may runs server lost =
    let called : IsCallOf w s name 1 call words acts f.fates halt = record { may = may; runs = runs; over = f.are } in
    let line : Line = calls name 1 call words acts f.fates halt true in
    let x : LeadsLine secret w s line = leads secret w s line differ h called in
    record {
      fates = f.fates;
      comes = called;
      leads = x;
      keeps = keeps secret w s line differ h x;
      server = subst (ServesRows (link_held (recorded_link new)) (recorded_place new)) (f.rows_are ∙ sym x.server_is) server;
      by_losses = f.by;
      link_lost = lost;
      at = f.at;
      told = f.told;
      readable = f.readable;
    }

-- the records of a link that had none
all_records : (old new : RecordingLink) (more : List Exchanged) → old.exchanged ≡ [] → new.exchanged ≡ old.exchanged ++ more → new.exchanged ≡ more
all_records old new more none is = is ∙ ap (λ (es : List Exchanged). es ++ more) none

pub calls_come : EachLeads → EachKeeps → ExchangesHaveFates → StaysSound → CallsCome
calls_come leads keeps law stays secret w s name call words acts halt xs setting link place old new differ h may runs plain readable exchanges there set records whole open_held =
    let (more, exchanged_are, them) = records.records whole in
    let server = set_serves link place setting old w.server there set in
    let kept = kept_of server.batches in
    let (next, holds_next, place_next, recorded) = them (serves kept) server.holds server.place_is in
    let o = open_serves (link_held (recorded_link new)) next open_held holds_next in
    let last = link_number (recorded_link new) in
    let all_are : new.exchanged ≡ more = all_records old new more set.none exchanged_are in
    let so : AreRecorded setting.losses setting.now 1 (serves kept) xs more last (serves o.kept) =
    subst (λ (l : Losses). AreRecorded l setting.now 1 (serves kept) xs more last (serves o.kept)) (set.unasked.losses_are ∙ set.begun_so.losses_are)
    (subst (λ (n : ℕ). AreRecorded (link_losses (recorded_link old)) n 1 (serves kept) xs more last (serves o.kept)) (set.unasked.now_is ∙ set.begun_so.now_is)
    (subst (λ (n : ℕ). AreRecorded (link_losses (recorded_link old)) (link_now (recorded_link old)) n (serves kept) xs more last (serves o.kept))
    (set_number link place setting old w.server there set)
    (subst (λ (x : Standing). AreRecorded (link_losses (recorded_link old)) (link_now (recorded_link old)) (link_number (recorded_link old)) (serves kept) xs more last x) o.is recorded))) in
    let f = all_fated law stays host acts setting.losses setting.now 1 kept xs more last o.kept
    (subst IsSound (sym server.rows_are) server.sound) (hears_any call (w.devices name) words acts halt plain runs) so exchanges
    (subst (λ (rows : Rows). AreReadableBy host rows acts) (sym server.rows_are) readable) in
    line_comes leads keeps secret w s name call words acts halt setting new o.kept.rows
    (subst (λ (rows : Rows). AllFated host rows acts setting.losses setting.now 1 new.exchanged o.kept.rows) server.rows_are
    (subst (λ (es : List Exchanged). AllFated host kept.rows acts setting.losses setting.now 1 es o.kept.rows) (sym all_are) f)) differ h may runs
    (serves_rows (link_held (recorded_link new)) o.kept (recorded_place new) o.kept.rows (subst (HoldsIn (link_held (recorded_link new))) o.is holds_next)
    (whole_asked setting.losses setting.now 1 kept xs last o.kept (recorded_asked setting.losses setting.now 1 (serves kept) xs more last (serves o.kept) so) refl) o.sound refl
    (subst (IsPlaceOf (recorded_place new)) o.is place_next))
    (link_lost link (recorded_link new) place setting old (kept_of there.batches) acts xs there.holds set records.asks open_held exchanges)

pub quiet_come : EachLeads → EachKeeps → QuietCome
quiet_come leads keeps secret w s name call words acts halt setting link place recording differ h quiet runs plain there set =
    let only = (quiet_runs call (w.devices name) words acts halt quiet runs).0 in
    line_comes leads keeps secret w s name call words acts halt setting recording w.server
    (record {
      fates = [];
      are = only_served w.server acts only;
      by = only_by setting.losses 1 acts only;
      at = tt;
      told = only_told host acts recording.exchanged only set.none;
      readable = only_readable host acts only;
      rows_are = refl;
    }) differ h (quiet_may s (w.devices name) call quiet) runs (set_serves link place setting recording w.server there set)
    (λ some. absurd (unasked_unfailed link place setting recording (kept_of there.batches) there.holds set some))

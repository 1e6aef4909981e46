-- In a world of devices that start from nothing each request that is made is one that is read.
use Rattle.std.proofs.Common.{◌≡◌, ◌⊎◌, ℕ, List, [], ◌∷◌, ◌++◌, Bool, true, false, Option, sym, ap, subst, inl, inr}
use Rattle.std.specs.Str.{bytes_eq}
use Rattle.std.proofs.lemmas.Bool.{cases_Bool}
use Rattle.rand_chacha.specs.ChaCha.{ChaCha}
use Rattle.sn_device.specs.Asking.{Reply, unheard}
use Rattle.sn_device.specs.Laws.{StepsStaySound}
use Rattle.sn_device.specs.Runs.{Act, Call, Halt, Run, SyncsUnder, answered, asked, begun, broken, commits as committed, passwd, refused}
use Rattle.sn_device.specs.States.{IsSound}
use Rattle.sn_device.specs.Steps.{What}
use Rattle.sn_laws.proofs.Facts.{clash, same_text, text_same}
use Rattle.sn_laws.specs.Each.{Each, One}
use Rattle.sn_laws.specs.Lookups.{Bytes, empty}
use Rattle.sn_laws.specs.Runs.{end_from}
use Rattle.sn_laws.specs.declared.ideal.Ideal.{Ideal}
use Rattle.sn_rows.specs.Table.{Rows}
use Rattle.sn_rows.specs.declared.change.Change.{Change}
use Rattle.sn_string.specs.declared.params.KeySet.{KeySet}
use Rattle.sn_sync.specs.Fits.{FitsRequest}
use Rattle.sn_sync.specs.declared.request.Request.{Request}
use Rattle.sn_world.proofs.FittingCalls.{run_fits}
use Rattle.sn_world.proofs.FittingPieces.{IsGood, alone_has, answers_fit, front_fits}
use Rattle.sn_world.proofs.Lists.{each_both}
use Rattle.sn_world.proofs.PlainKept.{trace_plain}
use Rattle.sn_world.proofs.PlainLines.{keeps_password, line_plain}
use Rattle.sn_world.proofs.PresentSets.{unasked}
use Rattle.sn_world.specs.Delivered.{AreServedBy, CallsFit, DevicesFit, FirstFits, FitsDevices, FitsWorld, IsCalledBy, IsServedBy, KeepsPassword, LinesGoBy, LinesKeepBy, MayComeBy, MayFollowBy, TracesFit}
use Rattle.sn_world.specs.Calls.{AreServed, Fate, IsServed, call_steps, crashed, fate_steps, rows_behind, served, undelivered}
use Rattle.sn_world.specs.Committing.{Commits}
use Rattle.sn_world.specs.Fitting.{AreFitting, FitsCall, FitsUuids, StepsFitUuids}
use Rattle.sn_world.specs.Happens.{Happens, commits, makes, serves, starts}
use Rattle.sn_world.specs.Holds.{Holds, TokensDiffer}
use Rattle.sn_world.specs.Laws.{Keeps, KeptBy}
use Rattle.sn_world.specs.Plain.{AsksNoSet, HoldsPlain, KeepsPlain, KeptPlain, PlainFirst}
use Rattle.sn_world.specs.Sessions.{IsCalled, LeadsLine, Line, LinesGo, MayCome, MayFollow, again, calls, line_steps, made_behind, opens, stops, with_end}
use Rattle.sn_world.specs.World.{Made, World, at_first}

-- ---- each request, where all are within their bounds

pub one_served : (server : Rows) (r : Request) (reply : Reply) (fate : Fate) → FitsRequest r → IsServedBy server r reply fate → IsServed server r reply fate
one_served server r reply undelivered fits over = over
one_served server r reply (served now changes given arrives) fits over = (fits, over.0, over.1)
one_served server r reply (crashed now changes given) fits over = (fits, over.0, over.1)

pub all_served : (server : Rows) (acts : List Act) (fates : List Fate) → AreFitting acts → AreServedBy server acts fates → AreServed server acts fates
all_served server [] fates fit over = over
all_served server (committed what changes ∷ acts) fates (kept, fit) over = all_served server acts fates fit over
all_served server (asked r reply ∷ acts) [] fit over = absurd over
all_served server (asked r reply ∷ acts) (fate ∷ fates) (fits, fit) (one, others) =
    (one_served server r reply fate fits one, all_served (rows_behind server fate) acts fates fit others)

-- ---- a call of a device of a world

record HasUuids (rows : Rows) : Type 0 where
  sound : IsSound rows
  uuids : FitsUuids rows

uuids_good : StepsFitUuids → StepsStaySound → IsGood HasUuids
uuids_good steps stay = record {
  step = λ rows words left what changes fits good step. record {
    sound = stay rows words left what changes good.sound step;
    uuids = steps rows words left what changes good.sound good.uuids step;
  };
  uuids = λ rows good. good.uuids;
}

no_passwd : {A : Type 0} (call : Call) (password : Bytes) (cost : ℕ) → KeepsPassword call → call ≡ passwd password cost → A
no_passwd call password cost keeps is = absurd (subst KeepsPassword is keeps)

call_fits : StepsFitUuids → StepsStaySound → (secret : Bytes) (w : World) (s : Ideal) (name : Bytes) (least : ℕ) (call : Call) (words : ChaCha) (acts : List Act)
    (halt : Halt) → Holds secret w s → AsksNoSet (w.devices name) → FitsUuids (w.devices name) → FitsCall call → KeepsPassword call
    → Run least call (w.devices name) words acts halt → AreFitting acts
call_fits steps stay secret w s name least call words acts halt h none uuids fits keeps run =
    let good : HasUuids (w.devices name) = record { sound = h.sound name; uuids = uuids } in
    let is_good : IsGood HasUuids = uuids_good steps stay in
    run_fits least call (w.devices name) words acts halt fits
    (λ owner sets holds syncs.
    answers_fit HasUuids is_good (SyncsUnder owner sets) (alone_has HasUuids is_good owner sets (unasked (w.devices name) owner sets none holds))
    (begun (w.devices name) words) acts halt good syncs)
    (λ password cost owner sets is holds changes. no_passwd call password cost keeps is) run

pub calls_fit : StepsFitUuids → StepsStaySound → CallsFit
calls_fit steps stay secret w s name least call words acts fates halt h none uuids fits keeps run over =
    all_served w.server acts fates (call_fits steps stay secret w s name least call words acts halt h none uuids fits keeps run) over

-- ---- steps of a world

same_devices : (w next : World) → next.devices ≡ w.devices → FitsDevices w → FitsDevices next
same_devices w next same fits name = subst FitsUuids (sym (ap (λ (d : Bytes → Rows). d name) same)) (fits name)

still : (w next : World) → next ≡ w → FitsDevices w → FitsDevices next
still w next same fits = subst FitsDevices (sym same) fits

committed_fits : StepsFitUuids → (secret : Bytes) (w next : World) (s : Ideal) (name : Bytes) (what : What) (changes : List Change) → Holds secret w s
    → FitsDevices w → Commits w next name what changes → FitsUuids (next.devices name)
committed_fits steps secret w next s name what changes h fits does =
    subst FitsUuids (sym does.on.own) (steps (w.devices name) does.words does.left what changes (h.sound name) (fits name) does.step)

-- its own rows, or another's
device_fits : StepsFitUuids → (secret : Bytes) (w next : World) (s : Ideal) (name : Bytes) (what : What) (changes : List Change) → Holds secret w s
    → FitsDevices w → Commits w next name what changes → (other : Bytes) → ((bytes_eq other name ≡ true) ⊎ (bytes_eq other name ≡ false))
    → FitsUuids (next.devices other)
device_fits steps secret w next s name what changes h fits does other (inl same) =
    subst (λ (n : Bytes). FitsUuids (next.devices n)) (sym (same_text other name same)) (committed_fits steps secret w next s name what changes h fits does)
device_fits steps secret w next s name what changes h fits does other (inr off) =
    subst FitsUuids (sym (does.on.others other (λ e. clash (bytes_eq other name) (text_same other name e) off))) (fits other)

pub devices_fit : StepsFitUuids → DevicesFit
devices_fit steps secret w next s (starts changes true) h fits does = same_devices w next does.on.devices fits
devices_fit steps secret w next s (starts changes false) h fits does = still w next does fits
devices_fit steps secret w next s (makes m) h fits does = same_devices w next does.devices fits
devices_fit steps secret w next s (serves m now changes given true) h fits does = same_devices w next does.on.devices fits
devices_fit steps secret w next s (serves m now changes given false) h fits does = still w next does fits
devices_fit steps secret w next s (commits name what changes true) h fits does =
    λ other. device_fits steps secret w next s name what changes h fits does.0 other (cases_Bool (bytes_eq other name))
devices_fit steps secret w next s (commits name what changes false) h fits does = still w next does fits

pub traces_fit : Keeps → DevicesFit → TracesFit
traces_fit keeps fit secret w next s [] moves differ h devices (none, same) = still w next same devices
traces_fit keeps fit secret w next s (step ∷ steps) moves differ h devices (mid, first, later, does, says, rest, is) =
    let one : KeptBy secret mid s first = keeps secret w mid s step first differ h does says in
    traces_fit keeps fit secret mid next (end_from s first) steps later differ one.1 (fit secret w mid s step h devices does) rest

pub first_fits : FirstFits
first_fits = record { devices = λ name n l found. absurd (cc); made = tt }

-- ---- the requests that were made

abbrev pub FitsMade : Made → Type 0
FitsMade m = FitsRequest m.request

abbrev pub FitsMaking : Happens → Type 0
FitsMaking (starts changes stands) = Unit {0}
FitsMaking (makes m) = FitsMade m
FitsMaking (serves m now changes given stands) = Unit {0}
FitsMaking (commits name what changes stands) = Unit {0}

pub made_fit : (made : List Made) (steps : List Happens) → Each FitsMade made → Each FitsMaking steps → Each FitsMade (made_behind made steps)
made_fit made [] fit each = fit
made_fit made (starts changes stands ∷ steps) fit each = made_fit made steps fit each.1
made_fit made (makes m ∷ steps) fit each = made_fit (m ∷ made) steps (each.0, fit) each.1
made_fit made (serves m now changes given stands ∷ steps) fit each = made_fit made steps fit each.1
made_fit made (commits name what changes stands ∷ steps) fit each = made_fit made steps fit each.1

pub call_makes : (name : Bytes) (begins : Request → Option KeySet) (acts : List Act) (fates : List Fate) → AreFitting acts → Each FitsMaking (call_steps name begins acts fates)
call_makes name begins [] fates fit = tt
call_makes name begins (committed what changes ∷ acts) fates (kept, fit) = (tt, call_makes name begins acts fates fit)
call_makes name begins (asked r reply ∷ acts) [] fit = tt
call_makes name begins (asked r reply ∷ acts) (undelivered ∷ fates) (fits, fit) = (fits, call_makes name begins acts fates fit)
call_makes name begins (asked r reply ∷ acts) (served now changes given arrives ∷ fates) (fits, fit) = (fits, (tt, call_makes name begins acts fates fit))
call_makes name begins (asked r reply ∷ acts) (crashed now changes given ∷ fates) (fits, fit) = (fits, (tt, call_makes name begins acts fates fit))

pub end_makes : (name : Bytes) (halt : Halt) (stands : Bool) (steps : List Happens) → Each FitsMaking steps → Each FitsMaking (with_end name halt stands steps)
end_makes name (answered given left) stands steps each = each
end_makes name (refused why) stands steps each = each
end_makes name (broken what changes) stands steps each = each_both FitsMaking steps (commits name what changes stands ∷ []) each (tt, tt)

pub again_makes : (m : Made) (fate : Fate) → Each FitsMaking (fate_steps m fate)
again_makes m undelivered = tt
again_makes m (served now changes given arrives) = (tt, tt)
again_makes m (crashed now changes given) = (tt, tt)

pub one_fits : (ms : List Made) (m : Made) → Each FitsMade ms → One (λ x. x ≡ m) ms → FitsMade m
one_fits [] m each among = absurd among
one_fits (x ∷ ms) m each (inl here) = subst FitsMade here each.0
one_fits (x ∷ ms) m each (inr behind) = one_fits ms m each.1 behind

-- ---- what happens

module _ (steps : StepsFitUuids) (stay : StepsStaySound) (secret : Bytes) where
  -- the acts of the line fit
  abbrev LineFits : Line → Type 0
  LineFits (opens changes stands) = Unit {0}
  LineFits (calls name least call words acts fates halt stands) = AreFitting acts
  LineFits (stops name least call words front met) = AreFitting front
  LineFits (again name r fate) = Unit {0}

  line_fits : (w : World) (s : Ideal) (line : Line) → HoldsPlain secret w s → FitsWorld w → MayComeBy secret w s line → LineFits line
  line_fits w s (opens changes stands) h fits may = tt
  line_fits w s (calls name least call words acts fates halt stands) h fits may =
      call_fits steps stay secret w s name least call words acts halt h.holds (h.plain.unasked name) (fits.devices name) may.fits (keeps_password s call may.may) may.runs
  line_fits w s (stops name least call words front met) h fits may =
      front_fits front may.later
      (call_fits steps stay secret w s name least call words (front ++ may.later) may.halt h.holds (h.plain.unasked name) (fits.devices name) may.called.fits
      (keeps_password s call may.called.may) may.called.runs)
  line_fits w s (again name r fate) h fits may = tt

  called_so : (w : World) (s : Ideal) (name : Bytes) (least : ℕ) (call : Call) (words : ChaCha) (acts : List Act) (fates : List Fate) (halt : Halt)
      → HoldsPlain secret w s → FitsWorld w → IsCalledBy w s name least call words acts fates halt → IsCalled w s name least call words acts fates halt
  called_so w s name least call words acts fates halt h fits may = record {
    may = may.may;
    runs = may.runs;
    over = all_served w.server acts fates (line_fits w s (calls name least call words acts fates halt true) h fits may) may.over;
  }

  may_come : (w : World) (s : Ideal) (line : Line) → HoldsPlain secret w s → FitsWorld w → MayComeBy secret w s line → MayCome secret w s line
  may_come w s (opens changes stands) h fits may = may
  may_come w s (calls name least call words acts fates halt stands) h fits may = called_so w s name least call words acts fates halt h fits may
  may_come w s (stops name least call words front met) h fits may = record {
    later = may.later;
    others = may.others;
    halt = may.halt;
    called = called_so w s name least call words (front ++ may.later) (met ++ may.others) may.halt h fits may.called;
    over = all_served w.server front met (line_fits w s (stops name least call words front met) h fits may) may.over;
  }
  may_come w s (again name r fate) h fits may = record {
    begins = may.begins;
    made = may.made;
    over = one_served w.server r unheard fate (one_fits w.made (record { device = name; request = r; begins = may.begins }) fits.made may.made) may.over;
  }

  line_makes : (begins : Request → Option KeySet) (line : Line) → LineFits line → Each FitsMaking (line_steps begins line)
  line_makes begins (opens changes stands) fit = (tt, tt)
  line_makes begins (calls name least call words acts fates halt stands) fit =
      end_makes name halt stands (call_steps name begins acts fates) (call_makes name begins acts fates fit)
  line_makes begins (stops name least call words front met) fit = call_makes name begins front met fit
  line_makes begins (again name r fate) fit = again_makes (record { device = name; request = r; begins = begins r }) fate

  module _ (keeps : KeepsPlain) (traces : TracesFit) (differ : TokensDiffer secret) where
    behind_fits : (w : World) (s : Ideal) (line : Line) → HoldsPlain secret w s → FitsWorld w → LineFits line → (x : LeadsLine secret w s line) → FitsWorld x.next
    behind_fits w s line h fits fit x = record {
      devices = traces secret w x.next s (line_steps x.begins line) x.moves differ h.holds fits.devices x.goes;
      made = subst (Each FitsMade) (sym x.made_is) (made_fit w.made (line_steps x.begins line) fits.made (line_makes x.begins line fit));
    }

    may_follow : (w : World) (s : Ideal) (lines : List Line) → HoldsPlain secret w s → FitsWorld w → MayFollowBy secret w s lines → MayFollow secret w s lines
    may_follow w s [] h fits may = tt
    may_follow w s (line ∷ lines) h fits (comes, follow) = (
      may_come w s line h fits comes,
      λ x.
          (let plain = line_plain secret w s line x.begins h.plain (may_come w s line h fits comes) in
          let kept : KeptPlain secret x.next s x.moves = trace_plain keeps secret differ (line_steps x.begins line) x.moves w x.next s h plain x.goes in
          may_follow x.next (end_from s x.moves) lines kept.1 (behind_fits w s line h fits (line_fits w s line h fits comes) x) (follow x)),
    )

pub lines_go_by : StepsFitUuids → StepsStaySound → KeepsPlain → TracesFit → LinesGo → LinesGoBy
lines_go_by steps stay keeps traces go secret w s lines differ h fits may =
    go secret w s lines differ h (may_follow steps stay secret keeps traces differ w s lines h fits may)

pub lines_keep_by : PlainFirst → FirstFits → LinesGoBy → LinesKeepBy
lines_keep_by first fits go secret lines differ may =
    let x = go secret at_first empty lines differ (first secret) fits may in
    (x, x.keeps.0, x.keeps.1)

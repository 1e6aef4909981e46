-- Lines over a server that answers by its rule: each request is within its bounds, and so are the next ones.
use Rattle.std.proofs.Common.{◌≡◌, ◌⊎◌, ℕ, List, [], ◌∷◌, ◌++◌, true, false, Option, sym, ap, subst, inl, inr}
use Rattle.std.specs.Str.{bytes_eq}
use Rattle.std.proofs.lemmas.Bool.{cases_Bool}
use Rattle.rand_chacha.specs.ChaCha.{ChaCha}
use Rattle.sn_device.specs.Asking.{unheard}
use Rattle.sn_device.specs.Runs.{Act, Call, Halt, answered, asked, broken, commits as committed, content, delete, edit, list, passwd, put, refused, register, sign_in, sync}
use Rattle.sn_device.specs.Steps.{What, adopts, applies, asks, begins as begun, deletes, edits, forgets, posts, puts, renews}
use Rattle.sn_laws.proofs.Facts.{clash, same_text, text_same}
use Rattle.sn_laws.specs.Each.{Each}
use Rattle.sn_laws.specs.Lookups.{Bytes, empty}
use Rattle.sn_laws.specs.Runs.{end_from}
use Rattle.sn_laws.specs.declared.ideal.Ideal.{Ideal}
use Rattle.sn_laws.specs.declared.moves.Move.{Move}
use Rattle.sn_lines.proofs.LineSteps.{IsDoneOf, IsLineOf, IsStepOf, steps_of}
use Rattle.sn_lines.proofs.LinesGo.{all_lead}
use Rattle.sn_lines.proofs.RunCalls.{IsNewBy, IsSetBy, IsWhatBy, run_by}
use Rattle.sn_lines.proofs.RunSets.{IsHaltOf}
use Rattle.sn_lines.specs.Fits.{AllFitFirst, AllGoBy, AllKeepBy, EachFits, EachServed, FitsAll, FitsLine, IsCallBy, IsRunOf, MayHappenBy}
use Rattle.sn_lines.specs.Lines.{EachKeeps, EachLeads, IsCallOf, MayHappen}
use Rattle.sn_rows.specs.Table.{Rows}
use Rattle.sn_rows.specs.declared.change.Change.{Change}
use Rattle.sn_rows.specs.declared.key.Slot.TheVariants.{Asked}
use Rattle.sn_string.specs.declared.params.KeySet.{KeySet}
use Rattle.sn_sync.specs.Fits.{AreBytes}
use Rattle.sn_sync.specs.declared.request.Request.{Request}
use Rattle.sn_world.proofs.Facts.{FitsMade, all_served, front_fits, one_fits, one_served, password_fits, slot_fits}
use Rattle.sn_world.specs.Calls.{Fate, IsAskedFor}
use Rattle.sn_world.specs.Committing.{Commits}
use Rattle.sn_world.specs.Fitting.{AreFitting, FitsRows, FitsWhat, FreshFits, RequestsFit, StepsFit}
use Rattle.sn_world.specs.Happens.{Does, Happens, Trace, commits, makes, serves, starts}
use Rattle.sn_world.specs.Laws.{HoldsFirst}
use Rattle.sn_world.specs.Sessions.{Line, again, calls, line_steps, opens, stops}
use Rattle.sn_world.specs.World.{World, at_first}

-- ---- each request, where all are within their bounds

pub each_served : RequestsFit → EachServed
each_served requests w name least call words acts fates halt rows fits run over =
    all_served w.server acts fates (requests least call (w.devices name) words acts halt fits rows run) over

-- ---- the sets that commits keep

asked_fits : (device : Rows) (set : KeySet) → FitsRows device → IsAskedFor device set → AreBytes 32 set.pw
asked_fits device set fits (owner, has, slot) = slot_fits device owner.identifier Asked set fits.passwords slot

module _ (device : Rows) (fits : FitsRows device) where
  set_fits : (call : Call) (set : KeySet) → IsSetBy device call set → AreBytes 32 set.pw
  set_fits (register identifier password cost) set keys = password_fits password set.params set keys
  set_fits (sign_in identifier password) set keys = password_fits password set.params set keys
  set_fits (put kind text) set none = absurd none
  set_fits (edit uuid text) set none = absurd none
  set_fits (delete uuid) set none = absurd none
  set_fits list set none = absurd none
  set_fits (content uuid) set none = absurd none
  set_fits sync set was = asked_fits device set fits was
  set_fits (passwd password cost) set (inl keys) = password_fits password set.params set keys
  set_fits (passwd password cost) set (inr was) = asked_fits device set fits was

  new_fits : (call : Call) (set : KeySet) → IsNewBy call set → AreBytes 32 set.pw
  new_fits (register identifier password cost) set none = absurd none
  new_fits (sign_in identifier password) set none = absurd none
  new_fits (put kind text) set none = absurd none
  new_fits (edit uuid text) set none = absurd none
  new_fits (delete uuid) set none = absurd none
  new_fits list set none = absurd none
  new_fits (content uuid) set none = absurd none
  new_fits sync set none = absurd none
  new_fits (passwd password cost) set keys = password_fits password set.params set keys

  what_fits : (call : Call) (what : What) → IsWhatBy device call what → FitsWhat what
  what_fits call (begun set account token) of = set_fits call set of
  what_fits call (renews token) of = tt
  what_fits call (puts uuid kind text) of = tt
  what_fits call (edits uuid text) of = tt
  what_fits call (deletes uuid) of = tt
  what_fits call (posts numbers) of = tt
  what_fits call (applies request given) of = tt
  what_fits call (asks set) of = new_fits call set of
  what_fits call (adopts set token) of = set_fits call set of
  what_fits call forgets of = tt

  halt_fits : (call : Call) (halt : Halt) → IsHaltOf (IsWhatBy device call) halt → IsHaltOf FitsWhat halt
  halt_fits call (answered given left) of = tt
  halt_fits call (refused why) of = tt
  halt_fits call (broken what changes) of = what_fits call what of

-- ---- the steps of a line

acts_fit : (name : Bytes) (begins : Request → Option KeySet) (acts : List Act) → AreFitting acts → Each (IsDoneOf FitsWhat FitsMade name begins) acts
acts_fit name begins [] fit = tt
acts_fit name begins (committed what changes ∷ acts) (kept, fit) = (kept, acts_fit name begins acts fit)
acts_fit name begins (asked r reply ∷ acts) (fits, fit) = (fits, acts_fit name begins acts fit)

line_fits : RequestsFit → (w : World) (line : Line) (begins : Request → Option KeySet) → FitsAll w → FitsLine line → IsRunOf w line → IsLineOf FitsWhat FitsMade begins line
line_fits requests w (opens changes stands) begins fits within run = tt
line_fits requests w (calls name least call words acts fates halt stands) begins fits within run = (
  acts_fit name begins acts (requests least call (w.devices name) words acts halt within (fits.devices name) run),
  halt_fits (w.devices name) (fits.devices name) call halt (run_by (w.devices name) least call words acts halt run).1,
)
line_fits requests w (stops name least call words front met) begins fits within (later, halt, run) =
    acts_fit name begins front (front_fits front later (requests least call (w.devices name) words (front ++ later) halt within (fits.devices name) run))
line_fits requests w (again name r fate) begins fits within run = tt

-- ---- along them

same_fits : (w next : World) → next.devices ≡ w.devices → next.made ≡ w.made → FitsAll w → FitsAll next
same_fits w next devices made fits = record {
  devices = λ name. subst FitsRows (sym (ap (λ (d : Bytes → Rows). d name) devices)) (fits.devices name);
  made = subst (Each FitsMade) (sym made) fits.made;
}

still_fits : (w next : World) → next ≡ w → FitsAll w → FitsAll next
still_fits w next same fits = subst FitsAll (sym same) fits

-- its own rows, or another's
device_fits : StepsFit → (w next : World) (name : Bytes) (what : What) (changes : List Change) → FitsAll w → FitsWhat what → Commits w next name what changes
    → (other : Bytes) → ((bytes_eq other name ≡ true) ⊎ (bytes_eq other name ≡ false)) → FitsRows (next.devices other)
device_fits steps w next name what changes fits kept does other (inl same) =
    subst (λ (n : Bytes). FitsRows (next.devices n)) (sym (same_text other name same))
    (subst FitsRows (sym does.on.own) (steps (w.devices name) does.words does.left what changes (fits.devices name) kept does.step))
device_fits steps w next name what changes fits kept does other (inr off) =
    subst FitsRows (sym (does.on.others other (λ e. clash (bytes_eq other name) (text_same other name e) off))) (fits.devices other)

step_fits : StepsFit → (secret : Bytes) (w next : World) (s : Ideal) (step : Happens) → FitsAll w → IsStepOf FitsWhat FitsMade step → Does secret w s step next
    → FitsAll next
step_fits steps secret w next s (starts changes true) fits of does = same_fits w next does.on.devices does.on.made fits
step_fits steps secret w next s (starts changes false) fits of does = still_fits w next does fits
step_fits steps secret w next s (makes m) fits of does = record {
  devices = λ name. subst FitsRows (sym (ap (λ (d : Bytes → Rows). d name) does.devices)) (fits.devices name);
  made = subst (Each FitsMade) (sym does.made) (of, fits.made);
}
step_fits steps secret w next s (serves m now changes given true) fits of does = same_fits w next does.on.devices does.on.made fits
step_fits steps secret w next s (serves m now changes given false) fits of does = still_fits w next does fits
step_fits steps secret w next s (commits name what changes true) fits of does = record {
  devices = λ other. device_fits steps w next name what changes fits of does.0 other (cases_Bool (bytes_eq other name));
  made = subst (Each FitsMade) (sym does.0.on.made) fits.made;
}
step_fits steps secret w next s (commits name what changes false) fits of does = still_fits w next does fits

fits_along : StepsFit → (secret : Bytes) (steps : List Happens) (moves : List Move) (w next : World) (s : Ideal) → FitsAll w
    → Each (IsStepOf FitsWhat FitsMade) steps → Trace secret w s steps moves next → FitsAll next
fits_along fit secret [] moves w next s fits each (none, same) = still_fits w next same fits
fits_along fit secret (step ∷ steps) moves w next s fits each (mid, first, later, does, says, rest, is) =
    fits_along fit secret steps later mid next (end_from s first) (step_fits fit secret w mid s step fits each.0 does) each.1 rest

pub each_fits : RequestsFit → StepsFit → EachFits
each_fits requests steps secret w s line fits within run x =
    fits_along steps secret (line_steps x.begins line) x.moves w x.next s fits
    (steps_of FitsWhat FitsMade x.begins line (line_fits requests w line x.begins fits within run)) x.goes

pub all_fit_first : FreshFits → AllFitFirst
all_fit_first fresh = record { devices = λ name. fresh; made = tt }

-- ---- what happens

module _ (requests : RequestsFit) (secret : Bytes) where
  call_by : (w : World) (s : Ideal) (name : Bytes) (least : ℕ) (call : Call) (words : ChaCha) (acts : List Act) (fates : List Fate) (halt : Halt) → FitsAll w
      → IsCallBy w s name least call words acts fates halt → IsCallOf w s name least call words acts fates halt
  call_by w s name least call words acts fates halt fits may = record {
    may = may.may;
    runs = may.runs;
    over = each_served requests w name least call words acts fates halt (fits.devices name) may.fits may.runs may.over;
  }

  pub may_happen : (w : World) (s : Ideal) (line : Line) → FitsAll w → MayHappenBy secret w s line → MayHappen secret w s line
  may_happen w s (opens changes stands) fits may = may
  may_happen w s (calls name least call words acts fates halt stands) fits may = call_by w s name least call words acts fates halt fits may
  may_happen w s (stops name least call words front met) fits may = record {
    later = may.later;
    others = may.others;
    halt = may.halt;
    called = call_by w s name least call words (front ++ may.later) (met ++ may.others) may.halt fits may.called;
    over = all_served w.server front met
        (front_fits front may.later
        (requests least call (w.devices name) words (front ++ may.later) may.halt may.called.fits (fits.devices name) may.called.runs)) may.over;
  }
  may_happen w s (again name r fate) fits may = record {
    begins = may.begins;
    made = may.made;
    over = one_served w.server r unheard fate (one_fits w.made (record { device = name; request = r; begins = may.begins }) fits.made may.made) may.over;
  }

  pub words_fit : (w : World) (s : Ideal) (line : Line) → MayHappenBy secret w s line → FitsLine line
  words_fit w s (opens changes stands) may = tt
  words_fit w s (calls name least call words acts fates halt stands) may = may.fits
  words_fit w s (stops name least call words front met) may = may.called.fits
  words_fit w s (again name r fate) may = tt

  pub runs_so : (w : World) (s : Ideal) (line : Line) → MayHappenBy secret w s line → IsRunOf w line
  runs_so w s (opens changes stands) may = tt
  runs_so w s (calls name least call words acts fates halt stands) may = may.runs
  runs_so w s (stops name least call words front met) may = (may.later, may.halt, may.called.runs)
  runs_so w s (again name r fate) may = tt

pub all_go_by : RequestsFit → EachFits → EachLeads → EachKeeps → AllGoBy
all_go_by requests fit leads keeps secret w s lines differ h fits may =
    all_lead secret (λ v t. FitsAll v) (MayHappenBy secret)
    (λ v t line holds q comes. leads secret v t line differ holds (may_happen requests secret v t line q comes))
    (λ v t line holds x. keeps secret v t line differ holds x)
    (λ v t line holds q comes x. fit secret v t line q (words_fit requests secret v t line comes) (runs_so requests secret v t line comes) x)
    w s lines h fits may

pub all_keep_by : HoldsFirst → AllFitFirst → AllGoBy → AllKeepBy
all_keep_by first fits go secret lines differ may =
    let x = go secret at_first empty lines differ (first secret) fits may in
    (x.0, x.1, x.0.keeps.0, x.0.keeps.1)

-- The steps of calls but changes of password, and of lines of these, are such as keep a world so in which no password is changed.
use Rattle.std.proofs.Common.{ℕ, List, [], ◌∷◌, ◌++◌, Bool, Option}
use Rattle.rand_chacha.specs.ChaCha.{ChaCha}
use Rattle.sn_device.specs.Runs.{Act, Call, Halt, Run, answered, asked, broken, commits as committed, content, delete, edit, list, passwd, put, refused, register, sign_in, sync}
use Rattle.sn_laws.proofs.Facts.{each_front}
use Rattle.sn_laws.specs.Each.{Each}
use Rattle.sn_laws.specs.Lookups.{Bytes}
use Rattle.sn_laws.specs.declared.ideal.Ideal.{Ideal}
use Rattle.sn_rows.specs.Table.{Rows}
use Rattle.sn_string.specs.declared.params.KeySet.{KeySet}
use Rattle.sn_sync.specs.declared.request.Request.{Request}
use Rattle.sn_world.proofs.Lists.{each_both}
use Rattle.sn_world.proofs.PlainCalls.{GoesPlain, IsPlainAct, IsPlainHalt, run_plain}
use Rattle.sn_world.specs.Calls.{Fate, call_steps, crashed, fate_steps, served, undelivered}
use Rattle.sn_world.specs.Delivered.{KeepsPassword}
use Rattle.sn_world.specs.Happens.{Happens, commits}
use Rattle.sn_world.specs.Plain.{AsksNoSet, IsPlainStep, IsPlainWorld}
use Rattle.sn_world.specs.Sessions.{Line, MayAsk, MayCome, again, calls, line_steps, opens, stops, with_end}
use Rattle.sn_world.specs.World.{Made, World}

-- a call that may be made yet changes no password
pub keeps_password : (s : Ideal) (call : Call) → MayAsk s call → KeepsPassword call
keeps_password s (register identifier password cost) may = tt
keeps_password s (sign_in identifier password) may = tt
keeps_password s (put kind text) may = tt
keeps_password s (edit uuid text) may = tt
keeps_password s (delete uuid) may = tt
keeps_password s list may = tt
keeps_password s (content uuid) may = tt
keeps_password s sync may = tt
keeps_password s (passwd password cost) may = may

-- ---- steps of acts

pub acts_plain : (name : Bytes) (begins : Request → Option KeySet) (acts : List Act) (fates : List Fate) → Each IsPlainAct acts
    → Each IsPlainStep (call_steps name begins acts fates)
acts_plain name begins [] fates plain = tt
acts_plain name begins (committed what changes ∷ acts) fates (one, plain) = (one, acts_plain name begins acts fates plain)
acts_plain name begins (asked r reply ∷ acts) [] plain = tt
acts_plain name begins (asked r reply ∷ acts) (undelivered ∷ fates) (one, plain) = (one, acts_plain name begins acts fates plain)
acts_plain name begins (asked r reply ∷ acts) (served now changes given arrives ∷ fates) (one, plain) =
    (one, (tt, acts_plain name begins acts fates plain))
acts_plain name begins (asked r reply ∷ acts) (crashed now changes given ∷ fates) (one, plain) =
    (one, (tt, acts_plain name begins acts fates plain))

pub end_plain : (name : Bytes) (halt : Halt) (stands : Bool) (steps : List Happens) → IsPlainHalt halt → Each IsPlainStep steps
    → Each IsPlainStep (with_end name halt stands steps)
end_plain name (answered given left) stands steps plain each = each
end_plain name (refused why) stands steps plain each = each
end_plain name (broken what changes) stands steps plain each = each_both IsPlainStep steps (commits name what changes stands ∷ []) each (plain, tt)

pub again_plain : (m : Made) (fate : Fate) → Each IsPlainStep (fate_steps m fate)
again_plain m undelivered = tt
again_plain m (served now changes given arrives) = (tt, tt)
again_plain m (crashed now changes given) = (tt, tt)

-- ---- a call

-- of a device that asks for no set
pub calls_plain : (name : Bytes) (begins : Request → Option KeySet) (least : ℕ) (call : Call) (rows : Rows) (words : ChaCha) (acts : List Act) (fates : List Fate)
    (halt : Halt) → AsksNoSet rows → KeepsPassword call → Run least call rows words acts halt → Each IsPlainStep (call_steps name begins acts fates)
calls_plain name begins least call rows words acts fates halt unasked keeps run =
    acts_plain name begins acts fates (run_plain least call rows words acts halt keeps unasked run).acts_are

-- with the commit in which its disk fails
pub ended_plain : (name : Bytes) (begins : Request → Option KeySet) (least : ℕ) (call : Call) (rows : Rows) (words : ChaCha) (acts : List Act) (fates : List Fate)
    (halt : Halt) (stands : Bool) → AsksNoSet rows → KeepsPassword call → Run least call rows words acts halt
    → Each IsPlainStep (with_end name halt stands (call_steps name begins acts fates))
ended_plain name begins least call rows words acts fates halt stands unasked keeps run =
    let x : GoesPlain acts halt = run_plain least call rows words acts halt keeps unasked run in
    end_plain name halt stands (call_steps name begins acts fates) x.halt_is (acts_plain name begins acts fates x.acts_are)

-- and of its first acts alone
pub front_plain : (name : Bytes) (begins : Request → Option KeySet) (least : ℕ) (call : Call) (rows : Rows) (words : ChaCha) (front later : List Act) (met : List Fate)
    (halt : Halt) → AsksNoSet rows → KeepsPassword call → Run least call rows words (front ++ later) halt → Each IsPlainStep (call_steps name begins front met)
front_plain name begins least call rows words front later met halt unasked keeps run =
    acts_plain name begins front met (each_front IsPlainAct front later (run_plain least call rows words (front ++ later) halt keeps unasked run).acts_are)

-- ---- any line

pub line_plain : (secret : Bytes) (w : World) (s : Ideal) (line : Line) (begins : Request → Option KeySet) → IsPlainWorld w s → MayCome secret w s line
    → Each IsPlainStep (line_steps begins line)
line_plain secret w s (opens changes stands) begins plain may = (tt, tt)
line_plain secret w s (calls name least call words acts fates halt stands) begins plain may =
    ended_plain name begins least call (w.devices name) words acts fates halt stands (plain.unasked name) (keeps_password s call may.may) may.runs
line_plain secret w s (stops name least call words front met) begins plain may =
    front_plain name begins least call (w.devices name) words front may.later met may.halt (plain.unasked name) (keeps_password s call may.called.may)
    may.called.runs
line_plain secret w s (again name r fate) begins plain may = again_plain (record { device = name; request = r; begins = begins r }) fate

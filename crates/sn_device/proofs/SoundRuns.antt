-- A call leaves sound rows sound, wherever it ends.
use Rattle.std.proofs.Common.{◌≡◌, ℕ, List, [], ◌∷◌, ◌++◌, subst}
use Rattle.rand_chacha.specs.ChaCha.{ChaCha}
use Rattle.sn_rows.specs.Table.{Rows, rows_after}
use Rattle.sn_device.specs.Laws.{AreSteps, RunsStaySound, RunsStaySoundDevice}
use Rattle.sn_device.specs.Runs.{Act, Call, Halt, Run, asked, commits, rows_done}
use Rattle.sn_device.specs.States.{IsSound, IsSoundDevice}
use Rattle.sn_device.proofs.DeviceSteps.{steps_stay_sound_device}
use Rattle.sn_device.proofs.RunSteps.{runs_by_steps}
use Rattle.sn_device.proofs.SoundSteps.{steps_stay_sound}

steps_front : (rows : Rows) (front later : List Act) → AreSteps rows (front ++ later) → AreSteps rows front
steps_front rows [] later steps = tt
steps_front rows (commits what changes ∷ front) later (words, left, step, steps) =
    (words, left, step, steps_front (rows_after rows changes) front later steps)
steps_front rows (asked r reply ∷ front) later steps = steps_front rows front later steps

pub run_front : (least : ℕ) (call : Call) (rows : Rows) (words : ChaCha) (acts : List Act) (halt : Halt) (front later : List Act)
    → Run least call rows words acts halt → acts ≡ front ++ later → AreSteps rows front
run_front least call rows words acts halt front later run is =
    steps_front rows front later (subst (AreSteps rows) is (runs_by_steps least call rows words acts halt run))

acts_sound : (rows : Rows) (acts : List Act) → AreSteps rows acts → IsSound rows → IsSound (rows_done rows acts)
acts_sound rows [] steps sound = sound
acts_sound rows (commits what changes ∷ acts) (words, left, step, steps) sound =
    acts_sound (rows_after rows changes) acts steps (steps_stay_sound rows words left what changes sound step)
acts_sound rows (asked r reply ∷ acts) steps sound = acts_sound rows acts steps sound

acts_device : (rows : Rows) (acts : List Act) → AreSteps rows acts → IsSoundDevice rows → IsSoundDevice (rows_done rows acts)
acts_device rows [] steps device = device
acts_device rows (commits what changes ∷ acts) (words, left, step, steps) device =
    acts_device (rows_after rows changes) acts steps (steps_stay_sound_device rows words left what changes device step)
acts_device rows (asked r reply ∷ acts) steps device = acts_device rows acts steps device

pub runs_stay_sound : RunsStaySound
runs_stay_sound least call rows words acts halt front later run is sound =
    acts_sound rows front (run_front least call rows words acts halt front later run is) sound

pub runs_stay_sound_device : RunsStaySoundDevice
runs_stay_sound_device least call rows words acts halt front later run is device =
    acts_device rows front (run_front least call rows words acts halt front later run is) device

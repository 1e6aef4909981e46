-- How a disk in memory goes on, and comes to its stop.
use Rattle.std.specs.Prelude.{◌≡◌, ◌⊎◌, ◌≤◌, ℕ, Bool, true, false, List, [], ◌∷◌, ◌++◌, length, reverse, Some, None}
use Rattle.sn_disk.specs.Steps.{Told, Step, stop_step, with_step, IsCall}
use Rattle.sn_disk.specs.Images.{left_of, image_of, image_in, due, nearer}
use Rattle.sn_disk.specs.declared.images.CrashImage.{CrashImage}
use Rattle.sn_disk.specs.declared.images.Stop.{Stop}
use Rattle.sn_disk.specs.declared.images.Stop.TheVariants.{Never, After}

-- what a disk tells, when it is to stop, and whether it has stopped
pub record DiskState : Type 0 where
  pub told : Told
  pub stop : Stop
  pub stopped : Bool

-- a changing call is done
abbrev pub after_call : DiskState → Step → DiskState
after_call old call = record { told = with_step old.told call; stop = nearer old.stop; stopped = false }

-- The disk stops in a changing call. From then on it reads as the image, and a crash leaves the image.
abbrev pub after_stop : DiskState → CrashImage → Step → DiskState
after_stop old image call = record { told = with_step old.told (stop_step (image_in image old.told call)); stop = Never; stopped = true }

-- this call is done, and the disk wasn't to stop in it
pub record Does (old : DiskState) (call : Step) (new : DiskState) : Type 0 where
  pub awake : old.stopped ≡ false
  pub going : due old.stop ≡ None
  pub new_is : new ≡ after_call old call

-- the disk was to stop in this call, and stops in it
pub record StopsIn (old : DiskState) (call : Step) (new : DiskState) : Type 0 where
  pub awake : old.stopped ≡ false
  pub image : CrashImage
  pub image_due : due old.stop ≡ Some image
  pub new_is : new ≡ after_stop old image call

-- the calls that were made, done or stopped in, the oldest first
abbrev pub Runs : DiskState → List Step → DiskState → Type 0
Runs old [] new = new ≡ old
Runs old (call ∷ later) new = (mid : DiskState) × IsCall call × (Does old call mid ⊎ StopsIn old call mid) × Runs mid later new

-- All of these calls were done, and a stop that was set wasn't reached.
pub record AreDone (old : DiskState) (calls : List Step) (new : DiskState) : Type 0 where
  pub steps : new.told.steps ≡ old.told.steps ++ calls
  pub awake : new.stopped ≡ false
  pub before : (more : ℕ) (image : CrashImage) → old.stop ≡ After more image → length calls ≤ more

-- The last of these calls came after as many that were done as the stop says, and the disk stopped in it.
pub record AreStopped (old : DiskState) (calls : List Step) (new : DiskState) : Type 0 where
  pub front : List Step
  pub last : Step
  pub image : CrashImage
  pub are : calls ≡ front ++ last ∷ []
  pub stop : old.stop ≡ After (length front) image
  pub steps : new.told.steps ≡ (old.told.steps ++ front) ++ stop_step (left_of image (image_of image old.told.start (reverse (old.told.steps ++ front))) last) ∷ []
  pub stopped : new.stopped ≡ true

-- a stop is reached in the call that it names, and in no other
abbrev pub IsReachedInItsCall : Type 0
IsReachedInItsCall = (old : DiskState) (calls : List Step) (new : DiskState) → old.stopped ≡ false → Runs old calls new → AreDone old calls new ⊎ AreStopped old calls new

-- The bytes that a crash leaves by a choice, and when a disk in memory stops.
use Rattle.std.specs.Prelude.{◌-◌, ◌==◌, ℕ, List, [], ◌∷◌, length, take, replicate, reverse, Some, None, if◌then◌else◌}
use Rattle.std.specs.declared.option.Option.{Option}
use Rattle.sn_disk.specs.Disk.{overwritten}
use Rattle.sn_disk.specs.Steps.{Step, write_step, cut_step, sync_step, stop_step, replayed, Told}
use Rattle.sn_disk.specs.declared.images.CrashImage.{CrashImage}
use Rattle.sn_disk.specs.declared.images.CrashImage.TheVariants.{Old, New, Filled}
use Rattle.sn_disk.specs.declared.images.Stop.{Stop}
use Rattle.sn_disk.specs.declared.images.Stop.TheVariants.{Never, After}

-- what an unsynced step leaves of these bytes: nothing of it, all of it, or all of it with another byte in each
-- place that it wrote
abbrev pub left_of : CrashImage → List ℕ → Step → List ℕ
left_of Old file (write_step at bytes) = file
left_of New file (write_step at bytes) = overwritten file at bytes
left_of (Filled byte) file (write_step at bytes) = overwritten file at (replicate (length bytes) byte)
left_of Old file (cut_step len) = file
left_of New file (cut_step len) = take len file
left_of (Filled byte) file (cut_step len) = take len file
left_of image file sync_step = file
left_of image file (stop_step left) = left

-- what a crash after these steps leaves, the newest first
abbrev pub image_of : CrashImage → List ℕ → List Step → List ℕ
image_of image start [] = start
image_of image start (write_step at bytes ∷ earlier) = left_of image (image_of image start earlier) (write_step at bytes)
image_of image start (cut_step len ∷ earlier) = left_of image (image_of image start earlier) (cut_step len)
image_of image start (sync_step ∷ earlier) = replayed start earlier
image_of image start (stop_step left ∷ earlier) = left

-- what a crash now leaves
abbrev pub image_now : CrashImage → Told → List ℕ
image_now image told = image_of image told.start (reverse told.steps)

-- what a crash in this step leaves
abbrev pub image_in : CrashImage → Told → Step → List ℕ
image_in image told step = left_of image (image_now image told) step

-- the image that is left if the next changing call is the one to stop in
abbrev pub due : Stop → Option CrashImage
due Never = None
due (After calls image) = if calls == 0 then Some image else None

-- one changing call nearer
abbrev pub nearer : Stop → Stop
nearer Never = Never
nearer (After calls image) = After (calls - 1) image

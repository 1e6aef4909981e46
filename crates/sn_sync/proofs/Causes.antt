-- Refusals with their causes.
use Rattle.sn_sync.specs.Refusals.{Caused}
use Rattle.sn_sync.specs.declared.error.SyncError.{SyncError}
use Rattle.sn_sync.specs.declared.error.SyncError.TheVariants as error

-- a cause that follows from another
pub Caused-weaker : (P Q : SyncError → Type 0) (e : SyncError) → ((x : SyncError) → P x → Q x) → Caused P e → Caused Q e
Caused-weaker P Q error.Memory f h = tt
Caused-weaker P Q error.NotJson f h = f error.NotJson h
Caused-weaker P Q (error.Member name) f h = f (error.Member name) h
Caused-weaker P Q (error.Limit name n) f h = f (error.Limit name n) h

-- Refusals along a chain of members.
use Rattle.std.proofs.Common.{◌≡◌, sym, subst, ℕ, Option, Some, None, Result, IfErr}
use Rattle.std.specs.Result.{IsErrAnd}
use Rattle.std.proofs.lemmas.Result.{IfErr-weaker, err_from_is_err_and}
use Rattle.serde_json.specs.Data.{Data}
use Rattle.sn_sync.specs.Items.{SaysCreated, SaysUpdated, stored}
use Rattle.sn_sync.specs.Members.{Bytes, SaysStamp, SaysStampText}
use Rattle.sn_sync.specs.Refusals.{Caused, Lacks}
use Rattle.sn_sync.specs.declared.error.SyncError.{SyncError}
use Rattle.sn_sync.specs.declared.error.SyncError.TheVariants as error

-- what has one cause has another that follows from it
pub Caused-weaker : (P Q : SyncError → Type 0) (e : SyncError) → ((y : SyncError) → P y → Q y) → Caused P e → Caused Q e
Caused-weaker P Q error.Memory follows h = tt
Caused-weaker P Q error.NotJson follows h = follows error.NotJson h
Caused-weaker P Q (error.Member name) follows h = follows (error.Member name) h
Caused-weaker P Q (error.Limit name n) follows h = follows (error.Limit name n) h

pub IfErr-caused : {T : Type 0} (P Q : SyncError → Type 0) (r : Result T SyncError) → ((y : SyncError) → P y → Q y) → IfErr r (Caused P) → IfErr r (Caused Q)
IfErr-caused P Q r follows h = IfErr-weaker r (Caused P) (Caused Q) (λ e. Caused-weaker P Q e follows) h

-- the same at the exit of a `?`
pub IfErr-exit : {T : Type 0} (P Q : SyncError → Type 0) (r : Result T SyncError) (e : SyncError)
    → IsErrAnd r (λ y. y ≡ e) → ((y : SyncError) → P y → Q y) → Caused P e → IfErr r (Caused Q)
IfErr-exit P Q r e exit follows h =
    let p = err_from_is_err_and r exit in
    rw p.1 (subst (Caused Q) (sym p.2) (Caused-weaker P Q e follows h))

-- ---- where an item stands

no_created : (m : Option Data) → ((stamp : ℕ) → ¬ (SaysStamp m stamp)) → (created : Option ℕ) → ¬ (SaysCreated stored m created)
no_created m never None h = h
no_created m never (Some stamp) h = never stamp h

pub Lacks-created : (m : Option Data) (name : Bytes) (e : SyncError) → Lacks (SaysStamp m) name e → Lacks (SaysCreated stored m) name e
Lacks-created m name e h = (no_created m h.0, h.1)

no_updated : (m : Option Data) → ((text : Bytes) → ¬ (SaysStampText m text)) → (updated_at : Option Bytes) → ¬ (SaysUpdated stored m updated_at)
no_updated m never None h = h
no_updated m never (Some text) h = never text h

pub Lacks-updated : (m : Option Data) (name : Bytes) (e : SyncError) → Lacks (SaysStampText m) name e → Lacks (SaysUpdated stored m) name e
Lacks-updated m name e h = (no_updated m h.0, h.1)

-- How the refusals of a message are ordered: by alphabet among the members of an object, by place in a list.
use Rattle.std.specs.Prelude.{◌≡◌, ◌⊎◌, ⊤}
use Rattle.sn_sync.specs.Members.{Bytes}
use Rattle.sn_sync.specs.declared.error.SyncError.{SyncError}
use Rattle.sn_sync.specs.declared.error.SyncError.TheVariants as error

-- want of memory may come anywhere; any other refusal has its cause
abbrev pub Caused : (SyncError → Type 0) → SyncError → Type 0
Caused cause error.Memory = ⊤
Caused cause error.NotJson = cause error.NotJson
Caused cause (error.Member name) = cause (error.Member name)
Caused cause (error.Limit name n) = cause (error.Limit name n)

-- the member of this name says nothing of what it may say
abbrev pub Lacks : {A : Type 0} → (A → Type 0) → Bytes → SyncError → Type 0
Lacks {A = A} says name e = ((a : A) → ¬ (says a)) × (e ≡ error.Member name)

-- refused here, or right here and refused later
abbrev pub Next : Type 0 → (SyncError → Type 0) → (SyncError → Type 0) → SyncError → Type 0
Next right refused later e = refused e ⊎ (right × later e)

-- this member first, and then the later ones
abbrev pub Then : {A : Type 0} → (A → Type 0) → Bytes → (SyncError → Type 0) → SyncError → Type 0
Then {A = A} says name later e = Next ((a : A) × says a) (Lacks says name) later e

-- nothing more is refused
abbrev pub Done : SyncError → Type 0
Done e = ⊥

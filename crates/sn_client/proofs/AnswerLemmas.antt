-- An answer to a sync that is applied, or not, and whether something is left behind it.
use Rattle.std.specs.Prelude.{IsFalse}
use Rattle.std.proofs.Common.{◌≡◌, ◌≢◌, ◌⊎◌, ◌↔◌, Bool, true, false, IsTrue, List, Option, refl, ap, subst, inl, inr}
use Rattle.rand_chacha.specs.ChaCha.{ChaCha}
use Rattle.sn_conflict.specs.Checks.{FailsAt, Passes}
use Rattle.sn_conflict.specs.declared.error.CheckError.{CheckError}
use Rattle.sn_conflict.specs.declared.error.CheckError.TheVariants as wrong
use Rattle.sn_rows.specs.Table.{Rows}
use Rattle.sn_rows.specs.declared.device_rows.OwnerRow.{OwnerRow}
use Rattle.sn_sets.specs.declared.sets.Sets.{Sets}
use Rattle.sn_sync.specs.Fits.{FitsAnswer}
use Rattle.sn_sync.specs.declared.answer.Answer.{Answer}
use Rattle.sn_sync.specs.declared.answer.Answer.TheVariants as answer
use Rattle.sn_sync.specs.declared.answer.Conflict.{Conflict}
use Rattle.sn_sync.specs.declared.item.Item.{Item}
use Rattle.sn_sync.specs.declared.request.Route.TheVariants as route
use Rattle.sn_device.specs.Runs.{HasCursor, IsLeft, IsUnapplied}
use Rattle.sn_device.specs.Sending.{NoneWaits, SomeWaits}
use Rattle.sn_device.specs.States.{Bytes, HasOwner, HasSets}
use Rattle.sn_device.specs.Steps.{start}
use Rattle.sn_client.specs.Syncing.{IsCheckRefusal}
use Rattle.sn_taking.specs.Taken.{StopsBy, refusal_of}
use Rattle.sn_device.specs.Taking.{RunsOut, told_by}
use Rattle.sn_device.specs.declared.error.ClientError.{ClientError}
use Rattle.sn_device.specs.declared.error.ClientError.TheVariants as refusal
use Rattle.sn_taking.specs.declared.taken.NotTaken.{NotTaken}
use Rattle.sn_taking.specs.declared.taken.NotTaken.TheVariants as stop
use Rattle.sn_device.proofs.Facts.{one_owner}

-- ---- what isn't applied

pub held_by : (rows : Rows) (held owner : OwnerRow) (sets : Sets) → HasSets rows held sets → HasOwner rows owner → HasSets rows owner sets
held_by rows held owner sets has owned = subst (λ (o : OwnerRow). HasSets rows o sets) (one_owner rows held owner has.owned owned) has

-- memory is wanting, or the answer isn't applied
abbrev MayNot : Rows → ChaCha → List Item → Answer → ClientError → Type 0
MayNot rows words sent given why = (why ≡ refusal.Memory) ⊎ IsUnapplied rows words sent given why

module _ (rows : Rows) (words : ChaCha) (sent saved : List Item) (conflicts : List Conflict) (retrieved : List Item) (cursor : Option Bytes) (token : Bytes) where
  abbrev given : Answer
  given = answer.Sync conflicts cursor retrieved saved token

  pub check_fails : (e : CheckError) (why : ClientError) → FailsAt sent saved conflicts retrieved cursor e → IsCheckRefusal e why
      → MayNot rows words sent given why
  check_fails wrong.Memory why fails is = inl is
  check_fails (wrong.Saved n) why fails (at, place, is) = inr (inr (inl (wrong.Saved n, at, fails, place, is)))
  check_fails (wrong.Conflict n) why fails (at, place, is) = inr (inr (inl (wrong.Conflict n, at, fails, place, is)))
  check_fails (wrong.Retrieved n) why fails (at, place, is) = inr (inr (inl (wrong.Retrieved n, at, fails, place, is)))
  check_fails wrong.Cursor why fails (at, place, is) = inr (inr (inl (wrong.Cursor, at, fails, place, is)))

  pub runs_out : (owner : OwnerRow) (sets : Sets) (s : NotTaken) → Passes sent saved conflicts retrieved cursor → HasSets rows owner sets
      → StopsBy (RunsOut sets saved (start rows owner words) (told_by saved conflicts retrieved)) s → MayNot rows words sent given (refusal_of s)
  runs_out owner sets s passes has (inl memory) = inl (ap refusal_of memory)
  runs_out owner sets s passes has (inr out) = inr (inr (inr (owner, sets, passes, has, out)))

pub no_link_of : (s : NotTaken) → refusal_of s ≢ refusal.LinkFault
no_link_of (stop.NumbersUsed next) = λ e. cc
no_link_of (stop.NoFreshUuid drawn) = λ e. cc
no_link_of stop.Memory = λ e. cc

-- ---- what is left

pub more_by_cursor : (after : Rows) (given : Answer) (more : Bool) → more ≡ true → HasCursor given → IsTrue more ↔ IsLeft after given
more_by_cursor after (answer.Sync conflicts cursor retrieved saved token) more is has = (λ so. inl has, λ left. is)
more_by_cursor after (answer.Account token identifier uuid) more is has = absurd has
more_by_cursor after (answer.Params params) more is has = absurd has
more_by_cursor after (answer.Refused status tag further) more is has = absurd has

none_left : (after : Rows) (more : Bool) → (IsFalse more → NoneWaits after) → SomeWaits after → IsTrue more
none_left after true none some = refl
none_left after false none (number, local, has, waits) = absurd (none refl number local has waits)

pub more_by_item : (after : Rows) (given : Answer) (more : Bool) → ¬ (HasCursor given) → (IsTrue more → SomeWaits after)
    → (IsFalse more → NoneWaits after) → FitsAnswer route.Sync 200 given → IsTrue more ↔ IsLeft after given
more_by_item after (answer.Sync conflicts cursor retrieved saved token) more not some none fits = (
  λ so. inr (some so),
  λ left. elim left [ inl has ↦ absurd (not has) | inr waits ↦ none_left after more none waits ],
)
more_by_item after (answer.Account token identifier uuid) more not some none fits = absurd (fits.1 refl)
more_by_item after (answer.Params params) more not some none fits = absurd cc
more_by_item after (answer.Refused status tag further) more not some none fits = absurd (fits.1 refl)

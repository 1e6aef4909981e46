-- How what a device tells of its items is found.
use Rattle.std.specs.Prelude.{◌≡◌, ℕ, [], Result, Ok, Err, IsErrAnd}
use Rattle.std.proofs.Common.{inr, refl, sym, subst}
use Rattle.rand_chacha.specs.ChaCha.{ChaCha}
use Rattle.sn_rows.specs.Table.{Rows}
use Rattle.sn_rows.specs.declared.device_rows.LocalItem.{LocalItem}
use Rattle.sn_rows.specs.declared.device_rows.OwnerRow.{OwnerRow}
use Rattle.sn_sets.specs.declared.sets.Sets.{Sets}
use Rattle.sn_drafts.specs.Refusing.{MayRefuse, none_more}
use Rattle.sn_client.specs.Calls.{Tells}
use Rattle.sn_device.specs.Listing.{IsDeleted, Shows}
use Rattle.sn_device.specs.Runs.{Call, Given, GivesText, IsGone, RunsCall, RunsContent, WithAccount, WithItem, a_text, answered}
use Rattle.sn_device.specs.States.{Bytes, HasItem, HasSets}
use Rattle.sn_device.specs.declared.error.ClientError.{ClientError}
use Rattle.sn_device.specs.declared.error.ClientError.TheVariants as refusal
use Rattle.sn_drafts.proofs.Facts.{RefusesShown, of_account, of_closed, of_gone, without_account}

-- a refusal that is handed on
pub tells_exit : {T : Type 0} (least : ℕ) (call : Call) (rows : Rows) (gives : T → Given) (r : Result T ClientError) (why : ClientError) → IsErrAnd r (λ e. e ≡ why)
    → ((words : ChaCha) → MayRefuse (RunsCall least call rows words) why) → Tells least call rows gives r
tells_exit least call rows gives (Ok given) why exit may = absurd exit
tells_exit least call rows gives (Err e) why exit may = λ words. subst (λ (f : ClientError). MayRefuse (RunsCall least call rows words) f) (sym exit) (may words)

pub content_unowned : (rows : Rows) (uuid : Bytes) (why : ClientError) → MayRefuse (WithAccount rows (λ owner sets. none_more)) why
    → (words : ChaCha) → MayRefuse (RunsContent uuid rows words) why
content_unowned rows uuid why may = λ words. without_account rows (λ owner sets. WithItem rows sets uuid (GivesText words)) why may

module _ (rows : Rows) (uuid : Bytes) (owner : OwnerRow) (sets : Sets) (holds : HasSets rows owner sets) where
  pub content_gone : (why : ClientError) → IsGone rows uuid × (why ≡ refusal.NoItem uuid) → (words : ChaCha) → MayRefuse (RunsContent uuid rows words) why
  content_gone why gone = λ words.
      of_account rows (λ o s. WithItem rows s uuid (GivesText words)) owner sets why holds (of_gone rows sets uuid (GivesText words) why gone)

  module _ (number : ℕ) (local : LocalItem) (has : HasItem rows uuid number local) (stands : ¬ (IsDeleted local)) where
    pub content_closed : (why : ClientError) → RefusesShown sets local why → (words : ChaCha) → MayRefuse (RunsContent uuid rows words) why
    content_closed why refuses = λ words.
        of_account rows (λ o s. WithItem rows s uuid (GivesText words)) owner sets why holds
        (of_closed rows sets uuid (GivesText words) number local why has stands refuses)

    pub content_told : (shown : Bytes) → Shows sets local shown → (words : ChaCha) → RunsContent uuid rows words [] (answered (a_text shown) words)
    content_told shown shows = λ words. inr (owner, sets, holds, inr (number, local, has, stands, inr (shown, shows, (refl, refl))))

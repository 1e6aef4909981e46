-- How the call of a list runs.
use Rattle.std.proofs.Common.{List, [], inr, refl}
use Rattle.rand_chacha.specs.ChaCha.{ChaCha}
use Rattle.sn_rows.specs.Table.{Rows}
use Rattle.sn_rows.specs.declared.device_rows.OwnerRow.{OwnerRow}
use Rattle.sn_sets.specs.declared.sets.Sets.{Sets}
use Rattle.sn_drafts.specs.Refusing.{MayRefuse, none_more}
use Rattle.sn_device.specs.Listing.{AreListed}
use Rattle.sn_device.specs.Runs.{ListsItems, RunsList, WithAccount, answered, lines}
use Rattle.sn_device.specs.States.{HasSets}
use Rattle.sn_device.specs.declared.error.ClientError.{ClientError}
use Rattle.sn_device.specs.declared.listed.Listed.{Listed}
use Rattle.sn_drafts.proofs.Facts.{without_account}

pub list_unowned : (rows : Rows) (why : ClientError) → MayRefuse (WithAccount rows (λ owner sets. none_more)) why → (words : ChaCha) → MayRefuse (RunsList rows words) why
list_unowned rows why may = λ words. without_account rows (ListsItems rows words) why may

pub list_told : (rows : Rows) (owner : OwnerRow) (sets : Sets) (listed : List Listed) → HasSets rows owner sets → AreListed rows sets listed
    → (words : ChaCha) → RunsList rows words [] (answered (lines listed) words)
list_told rows owner sets listed holds are = λ words. inr (owner, sets, holds, (listed, are, refl, refl))

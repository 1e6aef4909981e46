-- The moves by which a device goes through a change of password, and what its rows have in common with the account meanwhile.
use Rattle.std.specs.Prelude.{◌≡◌, ◌⊎◌, ℕ, true, List, [], ◌∷◌, Option, Some, None}
use Rattle.sn_device.specs.States.{HasLocal}
use Rattle.sn_device.specs.Steps.{MayRetire, What, adopts}
use Rattle.sn_laws.specs.Each.{One}
use Rattle.sn_laws.specs.Lookups.{Bytes, device_named, draft_at, greatest, held_by}
use Rattle.sn_laws.specs.declared.ideal.Account.{Account}
use Rattle.sn_laws.specs.declared.ideal.Draft.{Draft}
use Rattle.sn_laws.specs.declared.ideal.Ideal.{Ideal}
use Rattle.sn_laws.specs.declared.ideal.Posted.{Posted}
use Rattle.sn_laws.specs.declared.moves.Move.{Move}
use Rattle.sn_laws.specs.declared.moves.Move.TheVariants.{Join, Post, Retire, Unpost}
use Rattle.sn_rows.specs.Table.{Rows}
use Rattle.sn_rows.specs.declared.body.RowBody.TheVariants as body
use Rattle.sn_rows.specs.declared.body.RowStrings.{RowStrings}
use Rattle.sn_rows.specs.declared.device_rows.LocalItem.{LocalItem}
use Rattle.sn_sets.specs.Sets.{sealed_of}
use Rattle.sn_shows.specs.Sets.{OpensUnder}
use Rattle.sn_string.specs.declared.params.KeySet.{KeySet}

-- ---- a set is adopted

-- a device that holds these sets adopts the one of this number: of two that are held the older ends first
abbrev pub adopting : Bytes → Bytes → ℕ → List ℕ → List Move
adopting name identifier number (older ∷ present ∷ []) = Retire name older ∷ Join name identifier number ∷ []
adopting name identifier number held = Join name identifier number ∷ []

-- where two sets are held, a row of which the server's version opens under the older one is stale: it was sealed anew, and is to be sent
abbrev pub OlderStale : Rows → Account → List ℕ → Type 0
OlderStale rows a (older ∷ present ∷ []) = (local : ℕ) (item : LocalItem) (strings : RowStrings) (text : Bytes) → HasLocal rows local item
    → item.body ≡ Some (body.Sealed strings) → OpensUnder a.sets older item.uuid (sealed_of strings) text → item.stale ≡ true
OlderStale rows a held = Unit {0}

-- every commit but an adoption
abbrev pub AdoptsNone : What → Type 0
AdoptsNone (adopts set token) = ⊥
AdoptsNone what = Unit {0}

-- ---- what was sent is sent again

-- it loses its number and gets another, item by item
abbrev pub reposting : Bytes → List Bytes → List Move
reposting name [] = []
reposting name (uuid ∷ uuids) = Unpost name uuid ∷ Post name uuid ∷ reposting name uuids

-- the device sent something of the item's draft
pub record WasSent (s : Ideal) (name uuid : Bytes) : Type 0 where
  pub draft : Draft
  pub at : draft_at s name uuid ≡ Some draft
  pub posted : Posted
  pub sent : draft.posted ≡ Some posted

-- a draft of which this was sent, once it is sent again under the set of this number
abbrev pub sent_again : ℕ → Draft → Posted → Draft
sent_again number d p = record d { posted = Some (record p { set = Some number }) }

-- behind it what was sent of each of these is sent under the greatest set that the device holds, and each other draft is as it was
pub record AreReposted (s later : Ideal) (name : Bytes) (uuids : List Bytes) : Type 0 where
  pub own : (uuid : Bytes) (d : Draft) (p : Posted) → One (λ u. u ≡ uuid) uuids → draft_at s name uuid ≡ Some d → d.posted ≡ Some p
      → draft_at later name uuid ≡ Some (sent_again (greatest 0 (held_by (device_named s name))) d p)
  pub others : (device uuid : Bytes) → ¬ ((device ≡ name) × One (λ u. u ≡ uuid) uuids) → draft_at later device uuid ≡ draft_at s device uuid

-- ---- an older set is retired

-- behind an answer that left these rows the older of two sets ends, where it may go; else nothing does
abbrev pub IsRetiring : Rows → Option Bytes → Option KeySet → Bytes → List ℕ → List Move → Type 0
IsRetiring told cursor None name held moves = moves ≡ []
IsRetiring told cursor (Some set) name held moves =
    (MayRetire told cursor set × ((older : ℕ) × (present : ℕ) × (held ≡ older ∷ present ∷ []) × (moves ≡ Retire name older ∷ [])))
    ⊎ (¬ (MayRetire told cursor set) × (moves ≡ []))

-- Soundness by kinds, and that of a device without rows.
use Rattle.std.proofs.Common.{◌≡◌, Option, Some, None, refl}
use Rattle.std.specs.Prelude.{◌↔◌}
use Rattle.sn_rows.specs.Table.{Rows, no_rows}
use Rattle.sn_rows.specs.declared.kind.RowKind.{RowKind}
use Rattle.sn_rows.specs.declared.kind.RowKind.TheVariants as kind
use Rattle.sn_device.specs.States.{IsFirstUnsound, IsSound, IsSoundDevice}

is_told : (k : RowKind) → Some k ≡ None → ⊥
is_told k none = cc

pub tells_soundness : (rows : Rows) (found : Option RowKind) → IsFirstUnsound rows found → (found ≡ None) ↔ IsSound rows
tells_soundness rows None first = (λ _. first, λ _. refl)
tells_soundness rows (Some kind.Owner) first = (λ none. absurd (is_told kind.Owner none), λ s. absurd (first s.owner))
tells_soundness rows (Some kind.Set) first = (λ none. absurd (is_told kind.Set none), λ s. absurd (first.1 s.sets))
tells_soundness rows (Some kind.Local) first = (λ none. absurd (is_told kind.Local none), λ s. absurd (first.2 s.locals))
tells_soundness rows (Some kind.Store) first = absurd first
tells_soundness rows (Some kind.Account) first = absurd first
tells_soundness rows (Some kind.Generation) first = absurd first
tells_soundness rows (Some kind.Item) first = absurd first

fresh_sound : IsSound no_rows
fresh_sound = record {
  device = record { own = λ at v is. absurd cc; kinds = λ at v is. absurd cc };
  owner = λ at v is. absurd cc;
  sets = record { present = λ owner is. absurd cc; asked_alone = λ asked older is. absurd cc };
  locals = record {
    numbered = λ owner number local is stands. absurd cc;
    apart = λ number other local twin is stands same. absurd cc;
    items = λ number local is. absurd cc;
  };
}

pub fresh_is_sound : IsSoundDevice no_rows
fresh_is_sound = record { sound = fresh_sound; drafts = λ owner sets number local holds stands. absurd cc }

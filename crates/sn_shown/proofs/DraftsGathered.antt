-- The lines of a device's drafts, as they are gathered.
use Rattle.std.proofs.Common.{◌≡◌, [], ◌∷◌, Option, Some, None, refl, sym, ap, ◌∙◌}
use Rattle.std.specs.Str.{bytes_eq}
use Rattle.std.proofs.lemmas.Bool.{and_parts}
use Rattle.sn_laws.specs.Lookups.{Bytes, draft_at, is_draft}
use Rattle.sn_laws.specs.declared.ideal.Draft.{Draft}
use Rattle.sn_laws.specs.declared.ideal.Ideal.{Ideal}
use Rattle.sn_laws.proofs.Facts.{found_passes, same_text}
use Rattle.sn_report.specs.Labels.{Labels}
use Rattle.sn_report.specs.Showing.{draft_lines, latest_text}
use Rattle.sn_rows.specs.Table.{Rows}
use Rattle.sn_shows.specs.Devices.{HasRow}
use Rattle.sn_string.specs.declared.params.KeySet.{KeySet}
use Rattle.sn_shown.specs.Drafts.{ShowsDrafts, line_of}
use Rattle.sn_shown.proofs.LabelPlaces.{lines}

-- the line of an item's draft
abbrev pub draft_of : Labels → Ideal → Bytes → Bytes → Option Bytes
draft_of labels s name uuid = line_of labels name uuid (draft_at s name uuid)

-- an item with one has a row
pub draft_row : (rows : Rows) (labels : Labels) (set : KeySet) (s : Ideal) (name : Bytes) → ShowsDrafts rows set s name → (uuid x : Bytes)
    → draft_of labels s name uuid ≡ Some x → HasRow rows uuid
draft_row rows labels set s name shows uuid x h = at (draft_at s name uuid) refl h
  where
    at : (found : Option Draft) → draft_at s name uuid ≡ found → line_of labels name uuid found ≡ Some x → HasRow rows uuid
    at None e k = absurd (cc)
    at (Some d) e k = shows.rows_of uuid d e

draft_parts : (s : Ideal) (name uuid : Bytes) (d : Draft) → draft_at s name uuid ≡ Some d → (d.device ≡ name) × (d.uuid ≡ uuid)
draft_parts s name uuid d e =
    let both = and_parts (bytes_eq d.device name) (bytes_eq d.uuid uuid) (found_passes (is_draft name uuid) s.drafts d e).0 in
    (same_text d.device name both.0, same_text d.uuid uuid both.1)

pub draft_line : (labels : Labels) (s : Ideal) (name uuid : Bytes) → lines (draft_of labels s name uuid) ≡ draft_lines labels (draft_at s name uuid)
draft_line labels s name uuid = at (draft_at s name uuid) refl
  where
    at : (found : Option Draft) → draft_at s name uuid ≡ found → lines (line_of labels name uuid found) ≡ draft_lines labels found
    at None e = refl
    at (Some d) e =
        let parts = draft_parts s name uuid d e in
        ap (λ (n : Bytes). latest_text labels n uuid d.latest ∷ []) (sym parts.0) ∙ ap (λ (u : Bytes). latest_text labels d.device u d.latest ∷ []) (sym parts.1)

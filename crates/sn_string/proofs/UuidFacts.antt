-- The spelling of a uuid parses to it.
use Rattle.std.proofs.Common.{◌≡◌, ◌∙◌, ap, sym, List, ℕ, Some, inl, refl}
use Rattle.uuid.specs.Text.{lower, parsed}
use Rattle.uuid.proofs.RoundTrips.{parses_hyphenated}
use Rattle.sn_string.specs.Uuids.{IsUuidText}

pub parsed-spelled : (text uuid : List ℕ) → IsUuidText text uuid → Some uuid ≡ parsed text
parsed-spelled text uuid h = parses_hyphenated lower uuid (inl refl) h.count h.fit ∙ ap parsed (sym h.spelled)

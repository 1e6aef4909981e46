-- The one spelling of a uuid (RFC 9562, 4, in lower case).
use Rattle.std.specs.Prelude.{◌≡◌, ℕ, ◌<◌, List, length, All}
use Rattle.uuid.specs.Text.{hyphenated_text, lower}

-- the lower-case digits of a uuid, 8-4-4-4-12 with hyphens between
abbrev pub uuid_text : List ℕ → List ℕ
uuid_text uuid = hyphenated_text lower uuid

-- the text is the spelling of this uuid
pub record IsUuidText (text uuid : List ℕ) : Type 0 where
  pub count : length uuid ≡ 16
  pub fit : All (λ b. b < 256) uuid
  pub spelled : text ≡ uuid_text uuid

-- What is drawn from the words of a seed.
use Rattle.std.specs.Prelude.{ℕ, List}
use Rattle.rand_chacha.specs.ChaCha.{ChaCha, next_word}
use Rattle.rand_core.specs.Steps.{fill_via_u32}
use Rattle.uuid.specs.Parts.{with_version, with_variant}
use Rattle.uuid.specs.declared.Variant.TheVariants.{RFC4122}
use Rattle.uuid.specs.declared.Version.TheVariants.{Random}

-- the next n bytes and the words after them: whole words of the ChaCha20 stream in order, each as four little-endian bytes
abbrev pub drawn : ℕ → ChaCha → List ℕ × ChaCha
drawn n words = fill_via_u32 (next_word 10) n words

-- 16 drawn bytes as a uuid of version 4 (RFC 9562, 5.4)
abbrev pub as_version_4 : List ℕ → List ℕ
as_version_4 bytes = with_version (with_variant bytes RFC4122) Random

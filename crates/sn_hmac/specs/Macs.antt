-- What a contract sees of a Mac256 and a Mac512: the key that it was begun with and the text so far.
use Rattle.std.specs.Prelude.{ℕ, List, ◌++◌}
use Rattle.sha2.specs.Sha256.{sha256}
use Rattle.sha2.specs.Sha512.{sha512}
use Rattle.sha2.specs.Hashers.{Holds256, Holds512}
use Rattle.sn_hmac.specs.Hmac.{block_key, masked}
use Rattle.sn_hmac.specs.declared.mac256.Mac256.{Mac256}
use Rattle.sn_hmac.specs.declared.mac512.Mac512.{Mac512}

-- mac was begun with this key and has taken this text
unfoldable pub HoldsMac256 : Mac256 → List ℕ → List ℕ → Type 0
HoldsMac256 mac key text = Holds256 mac.inner (masked 0x36 (block_key sha256 64 key) ++ text)
    × Holds256 mac.outer (masked 0x5c (block_key sha256 64 key))

-- mac was begun with this key and has taken this text
unfoldable pub HoldsMac512 : Mac512 → List ℕ → List ℕ → Type 0
HoldsMac512 mac key text = Holds512 mac.inner (masked 0x36 (block_key sha512 128 key) ++ text)
    × Holds512 mac.outer (masked 0x5c (block_key sha512 128 key))

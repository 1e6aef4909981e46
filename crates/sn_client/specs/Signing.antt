-- What a sign-in commits.
use Rattle.std.specs.Prelude.{◌≡◌, ◌⊎◌, List}
use Rattle.rand_chacha.specs.ChaCha.{ChaCha}
use Rattle.sn_keys.specs.Keys.{AreKeysOf}
use Rattle.sn_rows.specs.Table.{Rows}
use Rattle.sn_rows.specs.declared.change.Change.{Change}
use Rattle.sn_string.specs.declared.params.KeySet.{KeySet}
use Rattle.sn_device.specs.States.{Bytes}
use Rattle.sn_device.specs.Steps.{Adopts, BeginsDevice, Renews}

-- the first rows, with the keys of the password under some parameters of the account; or a session token; or the adoption of
-- a set of such keys
abbrev pub MadeBySignIn : Rows → ChaCha → Bytes → Bytes → List Change → ChaCha → Type 0
MadeBySignIn rows words identifier password changes left = (uuid : Bytes) × (token : Bytes)
    × (Renews rows token changes
    ⊎ ((set : KeySet) × (set.params.identifier ≡ identifier) × AreKeysOf password set.params set
    × (BeginsDevice set uuid token changes ⊎ Adopts rows words set token changes left)))

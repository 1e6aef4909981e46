-- Accounts' uuids and session tokens.
use Rattle.std.specs.Prelude.{◌≡◌, ℕ, zero, suc, ◌/◌, ◌%◌, [], ◌∷◌, ◌++◌, codes}
use Rattle.std.specs.Fmt.{decimal}
use Rattle.hex.specs.Hex.{encode_lower}
use Rattle.sn_hmac.specs.Hmac.{hmac_sha256}
use Rattle.sn_rows.specs.Table.{Rows}
use Rattle.sn_rows.specs.declared.server_rows.AccountRow.{AccountRow}
use Rattle.sn_rows.specs.declared.server_rows.StoreRow.{StoreRow}
use Rattle.sn_string.specs.Uuids.{uuid_text}
use Rattle.sn_account.specs.Lookups.{Bytes, HasAccount, HasStore}

-- the last so many bytes of a number, the highest first
unfoldable pub big_endian : ℕ → ℕ → Bytes
big_endian zero n = []
big_endian (suc width) n = big_endian width (n / 256) ++ (n % 256) ∷ []

-- 00000000-0000-8000-8000- and the number in 12 hex digits
unfoldable pub account_uuid : ℕ → Bytes
account_uuid n = 0 ∷ 0 ∷ 0 ∷ 0 ∷ 0 ∷ 0 ∷ 128 ∷ 0 ∷ 128 ∷ 0 ∷ big_endian 6 n

-- the uuid, a dot, and the hex of HMAC-SHA-256 over the uuid, a colon and the generation's decimal, under the server's secret: so
-- a new generation has another token
unfoldable pub session_token : Bytes → ℕ → ℕ → Bytes
session_token secret n g = uuid_text (account_uuid n) ++ codes "."
    ++ encode_lower (hmac_sha256 secret (uuid_text (account_uuid n) ++ codes ":" ++ decimal g))

-- the token is the present one of the account of this number
pub record IsSession (rows : Rows) (token : Bytes) (n : ℕ) : Type 0 where
  pub store : StoreRow
  pub stands : HasStore rows store
  pub account : AccountRow
  pub there : HasAccount rows n account
  pub is : token ≡ session_token store.secret n account.generation

abbrev pub IsNoSession : Rows → Bytes → Type 0
IsNoSession rows token = (n : ℕ) → ¬ (IsSession rows token n)

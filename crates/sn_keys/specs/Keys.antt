-- The keys that a password gives under auth parameters (encryption protocol 003).
use Rattle.std.specs.Prelude.{◌≡◌, ℕ, List, [], ◌∷◌, codes, take, drop}
use Rattle.std.specs.Fmt.{decimal}
use Rattle.hex.specs.Hex.{encode_lower}
use Rattle.sha2.specs.Sha256.{sha256}
use Rattle.sn_pbkdf.specs.Pbkdf.{pbkdf2}
use Rattle.sn_string.specs.Grammar.{joined, version}
use Rattle.sn_string.specs.declared.params.KeySet.{KeySet}
use Rattle.sn_string.specs.declared.params.Params.{Params}

-- what the salt is the digest of: `identifier:SF:003:pw_cost:pw_nonce`
abbrev pub salt_text : Params → List ℕ
salt_text p = joined (p.identifier ∷ codes "SF" ∷ version ∷ decimal p.pw_cost ∷ p.pw_nonce ∷ [])

-- the salt: the 64 lower-case hex digits of the SHA-256 of that text
abbrev pub salt : Params → List ℕ
salt p = encode_lower (sha256 (salt_text p))

-- the 96 bytes that PBKDF2 with HMAC-SHA-512 derives from the password with this salt, in as many iterations as
-- the parameters' cost
abbrev pub derived : List ℕ → Params → List ℕ
derived password p = pbkdf2 password (salt p) p.pw_cost 96

-- the 32 bytes from a place on
abbrev pub third : ℕ → List ℕ → List ℕ
third at bytes = take 32 (drop at bytes)

-- the keys of a password: the three parts of the derived bytes, in this order
pub record AreKeysOf (password : List ℕ) (p : Params) (set : KeySet) : Type 0 where
  pub params : set.params ≡ p
  pub pw : set.pw ≡ third 0 (derived password p)
  pub mk : set.mk ≡ third 32 (derived password p)
  pub ak : set.ak ≡ third 64 (derived password p)

-- what a server keeps of its password: the SHA-256 of its 64 lower-case hex digits
abbrev pub check_value : List ℕ → List ℕ
check_value pw = sha256 (encode_lower pw)

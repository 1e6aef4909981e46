-- Tokens: the place in an account's versions up to which a device has them.
use Rattle.std.specs.Prelude.{◌≡◌, ℕ, ◌≤◌, List, ◌++◌, codes}
use Rattle.std.specs.Fmt.{decimal}
use Rattle.sn_string.specs.Base64.{base64_text}
use Rattle.sn_string.specs.Bounds.{last_stamp}

-- the text is the token of this stamp: the base64 of `2:` and its decimal
pub record IsToken (text : List ℕ) (stamp : ℕ) : Type 0 where
  pub bound : stamp ≤ last_stamp
  pub spelled : text ≡ base64_text (codes "2:" ++ decimal stamp)

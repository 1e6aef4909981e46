-- The server of a command line: a name or an address, a colon, and a port's number.
use Rattle.std.specs.Prelude.{◌≡◌, ℕ, ◌≤◌, ◌==◌, List, ◌∷◌, ◌++◌, Bool, ◌&&◌, ◌||◌, IsTrue, length, nat_le}
use Rattle.std.specs.Fmt.{decimal}
use Rattle.std.specs.List.{list_all}

-- a hyphen, a dot, a digit or a letter
abbrev pub is_host_byte : ℕ → Bool
is_host_byte c = (c == 45) || (c == 46) || (nat_le 48 c && nat_le c 57) || (nat_le 65 c && nat_le c 90) || (nat_le 97 c && nat_le c 122)

-- 1 to 253 of them
pub record IsHost (host : List ℕ) : Type 0 where
  pub some : 1 ≤ length host
  pub most : length host ≤ 253
  pub plain : IsTrue (list_all is_host_byte host)

-- a decimal from 1 to 65535
pub record IsPortNumber (text : List ℕ) : Type 0 where
  pub port : ℕ
  pub some : 1 ≤ port
  pub most : port ≤ 65535
  pub spelled : text ≡ decimal port

pub record IsServer (text : List ℕ) : Type 0 where
  pub host : List ℕ
  pub port : List ℕ
  pub spelled : text ≡ host ++ 58 ∷ port
  pub host_fits : IsHost host
  pub port_fits : IsPortNumber port

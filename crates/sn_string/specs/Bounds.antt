-- The bounds of auth parameters, of stamps, and of what a server takes.
use Rattle.std.specs.Prelude.{ℕ, ◌≤◌, List, length}

-- an identifier has 1 to 254 bytes
abbrev pub IsIdentifier : List ℕ → Type 0
IsIdentifier text = (1 ≤ length text) × (length text ≤ 254)

-- a cost is 1 to 4294967295
abbrev pub IsCost : ℕ → Type 0
IsCost cost = (1 ≤ cost) × (cost ≤ 4294967295)

-- a nonce has 1 to 256 bytes
abbrev pub IsNonce : List ℕ → Type 0
IsNonce text = (1 ≤ length text) × (length text ≤ 256)

-- the last stamp: the last microsecond of the year 9999, counted from the first of 1970
abbrev pub last_stamp : ℕ
last_stamp = 253402300799999999

-- a content has 700,000 bytes at most
abbrev pub longest_content : ℕ
longest_content = 700000

-- a string of an item on a server has 1,048,576 bytes at most
abbrev pub most_string : ℕ
most_string = 1048576

-- the strings of a request's items, of a page, and of the stored items of an answer have 4,194,304 bytes at most
abbrev pub most_bytes : ℕ
most_bytes = 4194304

-- a server has 1,000,000 accounts at most
abbrev pub most_accounts : ℕ
most_accounts = 1000000

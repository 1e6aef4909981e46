-- What the timed functions write.
use Rattle.std.specs.Prelude.{ℕ, zero, suc, ◌+◌, ◌-◌, ◌*◌, List, [], ◌++◌, length, drop, slice_range, nat_le, if◌then◌else◌}
use Rattle.sn_hmac.specs.Hmac.{hmac_sha256}

-- the last 16 bytes of a text that has as many, and else what stood there
abbrev pub with_end_of : List ℕ → List ℕ → List ℕ
with_end_of text end = (if nat_le 16 (length text) then drop (length text - 16) text else end)

-- the HMACs of the first n texts of 64 bytes, one after another
abbrev pub macs_of : List ℕ → List ℕ → ℕ → List ℕ
macs_of key texts zero = []
macs_of key texts (suc n) = macs_of key texts n ++ hmac_sha256 key (slice_range texts (64 * n) (64 * n + 64))

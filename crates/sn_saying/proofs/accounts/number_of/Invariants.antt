-- No set so far has the nonce.
use Rattle.std.proofs.Common.{ℕ, ◌<◌, ◌+◌}
use Rattle.sn_row_map.specs.RowMaps.{row_in}
use Rattle.sn_saying.specs.Adopted.{HasNonce}
use Rattle.sn_saying.proofs.accounts.number_of.Given as goal

abbrev pub invariant-generations : goal.invariant-generations
invariant-generations l = (k : ℕ) → k < l.before → ¬ (HasNonce (row_in l.server) l.number (k + 1) l.nonce)

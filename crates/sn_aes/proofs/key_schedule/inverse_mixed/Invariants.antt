use Rattle.std.proofs.Common.{◌≡◌, ◌+◌, ◌<◌, ℕ, length, slice_index}
use Rattle.std.specs.Int.{w32, to_be_bytes}
use Rattle.sn_aes.specs.Inverse.{inverse_mix_bytes}
use Rattle.sn_aes.proofs.key_schedule.inverse_mixed.Given as goal

abbrev pub invariant-inner : goal.invariant-inner
invariant-inner l = record {
  long : length l.words ≡ 60;
  first : (j : ℕ) → j < 4 → slice_index l.words j ≡ slice_index l.keys j;
  done : (j : ℕ) → 4 < j + 1 → j < l.i → to_be_bytes w32 (slice_index l.words j) ≡ inverse_mix_bytes (to_be_bytes w32 (slice_index l.keys j));
  rest : (j : ℕ) → l.i < j + 1 → slice_index l.words j ≡ slice_index l.keys j;
}

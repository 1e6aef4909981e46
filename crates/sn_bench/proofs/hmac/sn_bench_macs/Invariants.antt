use Rattle.std.proofs.Common.{◌≡◌, ◌*◌, take}
use Rattle.sn_bench.specs.Texts.{macs_of}
use Rattle.sn_bench.proofs.hmac.sn_bench_macs.Given as goal

abbrev pub invariant-texts : goal.invariant-texts
invariant-texts l = take (32 * l.i) l.digests ≡ macs_of l.key l.texts l.i

use Rattle.std.proofs.Common.{rules, ◌≡◌, ℕ, List, length, take, drop}
use Rattle.std.specs.Int.{w64, from_be_bytes, to_be_bytes}
use Rattle.std.specs.Int.RustNames.{bit_xor}
use Rattle.sn_replay.proofs.SeedLemmas.{seed_written}
use Rattle.sn_replay.proofs.settings.line_seed.Goals as goal

pub returns : goal.returns
returns c =
    let seed : List ℕ = c.args.seed.now in
    let back : List ℕ = c.copy_from_slice.new.self in
    let written : List ℕ = c.copy_from_slice-2.new.self in
    let long : length seed ≡ 32 = search rules in
    let back_is : back ≡ take 8 (drop 24 seed) = search rules in
    let written_is : written ≡ to_be_bytes w64 (bit_xor (from_be_bytes w64 back) c.args.number) = search rules in
    seed_written seed back written c.args.number long back_is written_is

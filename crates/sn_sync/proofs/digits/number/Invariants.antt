use Rattle.std.proofs.Common.{◌≡◌, ◌^◌, ◌<◌, take}
use Rattle.sn_sync.specs.Stamps.{padded}
use Rattle.sn_sync.proofs.digits.number.Given as goal

abbrev pub invariant-loop-digit : goal.invariant-loop-digit
invariant-loop-digit l =
    record { small : l.number < 10 ^ l.digit-index; spelled : take l.digit-index l.digits ≡ padded l.digit-index l.number }

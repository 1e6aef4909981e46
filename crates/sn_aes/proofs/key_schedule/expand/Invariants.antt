use Rattle.std.proofs.Common.{◌≡◌, ◌-◌, length, take}
use Rattle.sn_aes.specs.Cipher.{key_words, expanded}
use Rattle.sn_aes.proofs.key_schedule.expand.Given as goal

abbrev pub invariant-first : goal.invariant-first
invariant-first l = (length l.words ≡ 60) × (take l.i l.words ≡ key_words l.key l.i)

abbrev pub invariant-next : goal.invariant-next
invariant-next l = (length l.words ≡ 60) × (take l.i l.words ≡ expanded l.key (l.i - 8))

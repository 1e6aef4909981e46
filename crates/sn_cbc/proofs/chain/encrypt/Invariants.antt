use Rattle.sn_aes.specs.Cipher.{four_words}
use Rattle.sn_cbc.proofs.Chains.{Encrypted}
use Rattle.sn_cbc.proofs.chain.encrypt.Given as goal

abbrev pub invariant-texts : goal.invariant-texts
invariant-texts l = Encrypted l.aes l.iv l.initial.text l.text (four_words l.last 0) l.i

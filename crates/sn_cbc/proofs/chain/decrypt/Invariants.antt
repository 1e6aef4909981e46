use Rattle.sn_aes.specs.Cipher.{four_words}
use Rattle.sn_cbc.proofs.Chains.{Decrypted}
use Rattle.sn_cbc.proofs.chain.decrypt.Given as goal

abbrev pub invariant-texts : goal.invariant-texts
invariant-texts l = Decrypted l.aes l.iv l.initial.text l.text (four_words l.last 0) l.i

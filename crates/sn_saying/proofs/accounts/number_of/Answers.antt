use Rattle.sn_saying.proofs.accounts.number_of.Goals as goal

pub returns-then-has_nonce-clause-some : goal.returns-then-has_nonce-clause-some
returns-then-has_nonce-clause-some c = c.has_nonce.ensures.0 c.if-has_nonce.true

use Rattle.std.proofs.Common.{◌≡◌, List, ℕ, []}
use Rattle.sn_hmac.specs.Macs.{HoldsMac512}
use Rattle.sn_pbkdf.specs.Pbkdf.{iterate, key_block}
use Rattle.sn_pbkdf.proofs.key_block.Given as goal

abbrev pub invariant-iterates : goal.invariant-iterates
invariant-iterates l = (password : List ℕ) → HoldsMac512 l.begun password []
    → (l.last ≡ iterate password l.salt l.number l._done) × (l.block ≡ key_block password l.salt l._done l.number)

-- The standard's own examples, so that a wrong constant or step in the definitions does not check.
use Rattle.std.proofs.Common.{◌≡◌, ℕ, zero, suc, ◌==◌, ◌&&◌, Bool, true, [], ◌∷◌, refl}
use Rattle.sn_aes.specs.Field.{product, power, inverse}
use Rattle.sn_aes.specs.Cipher.{sbox, aes256, cipher, rounds, round, key_words, expanded}

-- the test holds of the numbers below n
abbrev pub each_below : (ℕ → Bool) → ℕ → Bool
each_below t zero = true
each_below t (suc n) = t n && each_below t n

-- 4.2: 57 * 83 = c1, 57 * 13 = fe
pub product_example : product 0x57 0x83 ≡ 0xc1
unfolding product
product_example = refl

-- 5.1.1: the S-box of 53 is ed
pub sbox_example : sbox 0x53 ≡ 0xed
unfolding sbox inverse power product
sbox_example = refl

-- each b above 0 times its inverse is 1
pub inverse_is : each_below (λ b. product (suc b) (inverse (suc b)) == 1) 255 ≡ true
unfolding inverse power product
inverse_is = refl

-- appendix C.3
pub aes256_example : aes256
    (0x00 ∷ 0x01 ∷ 0x02 ∷ 0x03 ∷ 0x04 ∷ 0x05 ∷ 0x06 ∷ 0x07 ∷ 0x08 ∷ 0x09 ∷ 0x0a ∷ 0x0b ∷ 0x0c ∷ 0x0d ∷ 0x0e ∷ 0x0f
    ∷ 0x10 ∷ 0x11 ∷ 0x12 ∷ 0x13 ∷ 0x14 ∷ 0x15 ∷ 0x16 ∷ 0x17 ∷ 0x18 ∷ 0x19 ∷ 0x1a ∷ 0x1b ∷ 0x1c ∷ 0x1d ∷ 0x1e ∷ 0x1f ∷ [])
    (0x00 ∷ 0x11 ∷ 0x22 ∷ 0x33 ∷ 0x44 ∷ 0x55 ∷ 0x66 ∷ 0x77 ∷ 0x88 ∷ 0x99 ∷ 0xaa ∷ 0xbb ∷ 0xcc ∷ 0xdd ∷ 0xee ∷ 0xff ∷ [])
    ≡ 0x8e ∷ 0xa2 ∷ 0xb7 ∷ 0xca ∷ 0x51 ∷ 0x67 ∷ 0x45 ∷ 0xbf ∷ 0xea ∷ 0xfc ∷ 0x49 ∷ 0x90 ∷ 0x4b ∷ 0x49 ∷ 0x60 ∷ 0x89 ∷ []
unfolding sbox inverse power product aes256 cipher rounds round key_words expanded
aes256_example = refl

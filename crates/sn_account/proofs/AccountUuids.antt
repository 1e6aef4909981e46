-- An account's uuid gives the account's number back.
use Rattle.std.proofs.Common.{arith, ◌≡◌, ◌∙◌, sym, ap, ℕ, ◌+◌, ◌-◌, ◌*◌, ◌/◌, ◌%◌, ◌^◌, ◌<◌, List, [], ◌∷◌, length, All, bit_and, refl}
use Rattle.std.specs.Int.{from_be_bytes, to_be_bytes, w128}
use Rattle.std.proofs.lemmas.List.Elements.{All-nil, All-cons}
use Rattle.std.proofs.lemmas.Nat.{and_mask}
use Rattle.uuid.proofs.OrderLemmas.{from_be_bytes-to_be_bytes_16}
use Rattle.sn_string.specs.Uuids.{IsUuidText, uuid_text}
use Rattle.sn_account.specs.Sessions.{account_uuid, big_endian}

-- an account's uuid as a number
abbrev pub uuid_number : ℕ → ℕ
uuid_number n = 32768 * 2 ^ 64 + (9223372036854775808 + n)

pub to_be_bytes-account : (n : ℕ) → n < 2 ^ 48 → to_be_bytes w128 (uuid_number n) ≡ account_uuid n
unfolding account_uuid big_endian
to_be_bytes-account n h =
    let b15 : uuid_number n / 1329227995784915872903807060280344576 % 256 ≡ 0 = omega arith in
    let b14 : uuid_number n / 5192296858534827628530496329220096 % 256 ≡ 0 = omega arith in
    let b13 : uuid_number n / 20282409603651670423947251286016 % 256 ≡ 0 = omega arith in
    let b12 : uuid_number n / 79228162514264337593543950336 % 256 ≡ 0 = omega arith in
    let b11 : uuid_number n / 309485009821345068724781056 % 256 ≡ 0 = omega arith in
    let b10 : uuid_number n / 1208925819614629174706176 % 256 ≡ 0 = omega arith in
    let b9 : uuid_number n / 4722366482869645213696 % 256 ≡ 128 = omega arith in
    let b8 : uuid_number n / 18446744073709551616 % 256 ≡ 0 = omega arith in
    let b7 : uuid_number n / 72057594037927936 % 256 ≡ 128 = omega arith in
    let b6 : uuid_number n / 281474976710656 % 256 ≡ 0 = omega arith in
    let b5 : uuid_number n / 1099511627776 % 256 ≡ n / 256 / 256 / 256 / 256 / 256 % 256 = omega arith in
    let b4 : uuid_number n / 4294967296 % 256 ≡ n / 256 / 256 / 256 / 256 % 256 = omega arith in
    let b3 : uuid_number n / 16777216 % 256 ≡ n / 256 / 256 / 256 % 256 = omega arith in
    let b2 : uuid_number n / 65536 % 256 ≡ n / 256 / 256 % 256 = omega arith in
    let b1 : uuid_number n / 256 % 256 ≡ n / 256 % 256 = omega arith in
    let b0 : uuid_number n % 256 ≡ n % 256 = omega arith in
    cc

low_bits : (low whole n : ℕ) → n < 2 ^ 48 → whole ≡ uuid_number n → low ≡ whole % 2 ^ 64 → low % 2 ^ 48 ≡ n
low_bits low whole n h e l = omega arith

-- the number is in the uuid's last 48 bits
pub number-account : (uuid : List ℕ) (low : ℕ) → low ≡ from_be_bytes w128 uuid % 2 ^ 64 → (n : ℕ) → n < 2 ^ 48 → uuid ≡ account_uuid n → bit_and low (2 ^ 48 - 1) ≡ n
number-account uuid low l n h e =
    let whole : from_be_bytes w128 uuid ≡ uuid_number n = ap (from_be_bytes w128) (e ∙ sym (to_be_bytes-account n h)) ∙ from_be_bytes-to_be_bytes_16 (uuid_number n) (omega arith) in
    and_mask low 48 ∙ low_bits low (from_be_bytes w128 uuid) n h whole l

-- so accounts of one uuid are one
pub same_number : (n m : ℕ) → n < 2 ^ 48 → m < 2 ^ 48 → account_uuid n ≡ account_uuid m → n ≡ m
same_number n m hn hm e =
    let low = from_be_bytes w128 (account_uuid n) % 2 ^ 64 in
    sym (number-account (account_uuid n) low refl n hn refl) ∙ number-account (account_uuid n) low refl m hm e

record AreBytes (xs : List ℕ) : Type 0 where
  all : All (λ b. b < 256) xs

nil : AreBytes []
nil = record { all = All-nil (λ b. b < 256) }

cons : {x : ℕ} {xs : List ℕ} → x < 256 → AreBytes xs → AreBytes (x ∷ xs)
cons {x} {xs} one rest = record { all = All-cons (λ b. b < 256) x xs one rest.all }

bytes_fit : (n : ℕ) → AreBytes (account_uuid n)
unfolding account_uuid big_endian
bytes_fit n = cons (omega arith) (cons (omega arith) (cons (omega arith) (cons (omega arith) (cons (omega arith) (cons (omega arith) (cons (omega arith) (cons (omega arith) (cons (omega arith) (cons (omega arith) (cons (omega arith) (cons (omega arith) (cons (omega arith) (cons (omega arith) (cons (omega arith) (cons (omega arith) nil)))))))))))))))

sixteen : (n : ℕ) → length (account_uuid n) ≡ 16
unfolding account_uuid big_endian
sixteen n = refl

pub IsUuidText-account : (n : ℕ) → IsUuidText (uuid_text (account_uuid n)) (account_uuid n)
IsUuidText-account n = record { count = sixteen n; fit = (bytes_fit n).all; spelled = refl }

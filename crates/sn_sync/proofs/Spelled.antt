-- A stamp's text, two digits at a time.
use Rattle.std.proofs.Common.{arith, ◌≡◌, ◌∙◌, ap, refl, ℕ, suc, ◌+◌, ◌/◌, ◌%◌, ◌<◌, List, [], ◌∷◌, ◌++◌}
use Rattle.std.proofs.lemmas.List.{append_assoc}
use Rattle.sn_sync.specs.Stamps.{padded}
use Rattle.sn_sync.specs.StampParts.{BeginsWithDate, IsDayNumber, IsTimeOfDay}

-- two digits, and what stands in front of them
split : (width n : ℕ) → padded (suc (suc width)) n ≡ padded width (n / 100) ++ padded 2 (n % 100)
unfolding padded
split width n =
    let front : n / 10 / 10 ≡ n / 100 = omega arith in
    let tens : n % 100 / 10 % 10 ≡ n / 10 % 10 = omega arith in
    let ones : n % 100 % 10 ≡ n % 10 = omega arith in
    rw (front, tens, ones) (append_assoc (padded width (n / 100)) ((48 + n / 10 % 10) ∷ []) ((48 + n % 10) ∷ []))

pub padded_2 : (n : ℕ) → n < 100 → padded 2 n ≡ (48 + n / 10) ∷ (48 + n % 10) ∷ []
unfolding padded
padded_2 n h = let tens : n / 10 % 10 ≡ n / 10 = omega arith in rw tens refl

pub padded_4 : (n : ℕ) → padded 4 n ≡ padded 2 (n / 100) ++ padded 2 (n % 100)
padded_4 n = split 2 n

pub padded_6 : (n : ℕ) → padded 6 n ≡ padded 2 (n / 10000) ++ (padded 2 (n / 100 % 100) ++ padded 2 (n % 100))
padded_6 n =
    let front : n / 100 / 100 ≡ n / 10000 = omega arith in
    split 4 n ∙ ap (λ text. text ++ padded 2 (n % 100)) (split 2 (n / 100)) ∙ rw front (append_assoc (padded 2 (n / 10000)) (padded 2 (n / 100 % 100)) (padded 2 (n % 100)))

pub date_written : (a b c d e f g h year month day days : ℕ) → padded 2 (year / 100) ≡ a ∷ b ∷ [] → padded 2 (year % 100) ≡ c ∷ d ∷ []
    → padded 2 month ≡ e ∷ f ∷ [] → padded 2 day ≡ g ∷ h ∷ [] → IsDayNumber year month day days
    → (rest : List ℕ) → BeginsWithDate ((a ∷ b ∷ c ∷ d ∷ 45 ∷ e ∷ f ∷ 45 ∷ g ∷ h ∷ 84 ∷ []) ++ rest) days rest
date_written a b c d e f g h year month day days century decade m n is rest =
    record { year = year; month = month; day = day; is = is; spelled = rw (padded_4 year, century, decade, m, n) refl }

pub time_written : (a b c d e f g h i j k l since : ℕ) → since < 86400000000
    → padded 2 (since / 1000000 / 60 / 60) ≡ a ∷ b ∷ [] → padded 2 (since / 1000000 / 60 % 60) ≡ c ∷ d ∷ [] → padded 2 (since / 1000000 % 60) ≡ e ∷ f ∷ []
    → padded 2 (since % 1000000 / 10000) ≡ g ∷ h ∷ [] → padded 2 (since % 1000000 / 100 % 100) ≡ i ∷ j ∷ [] → padded 2 (since % 1000000 % 100) ≡ k ∷ l ∷ []
    → IsTimeOfDay (a ∷ b ∷ 58 ∷ c ∷ d ∷ 58 ∷ e ∷ f ∷ 46 ∷ g ∷ h ∷ i ∷ j ∷ k ∷ l ∷ 90 ∷ []) since
time_written a b c d e f g h i j k l since bound hours minutes seconds first second third = record {
  hour = since / 1000000 / 60 / 60;
  minute = since / 1000000 / 60 % 60;
  second = since / 1000000 % 60;
  micros = since % 1000000;
  hour_in = omega arith;
  minute_in = omega arith;
  second_in = omega arith;
  micros_in = omega arith;
  is = omega arith;
  spelled = rw (hours, minutes, seconds, padded_6 (since % 1000000), first, second, third) refl;
}

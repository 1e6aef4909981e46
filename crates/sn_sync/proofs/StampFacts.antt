-- Stamps' texts, field by field.
use Rattle.std.proofs.Common.{arith, ◌≡◌, ℕ, ◌<◌, List, [], ◌∷◌, ◌++◌, pos}
use Rattle.std.proofs.lemmas.Int.{ints}
use Rattle.jiff_core.proofs.CalendarLemmas.{days_in_month_bounds}
use Rattle.sn_sync.specs.Stamps.{padded}
use Rattle.sn_sync.specs.StampParts.{BeginsWithDate, IsDayNumber, IsTimeOfDay}
use Rattle.sn_sync.proofs.Padded.{behind, one_field}

-- each part of a date has its digits
pub IsDayNumber-small : (year month day days : ℕ) → IsDayNumber year month day days → (year < 10000) × (month < 100) × (day < 100)
IsDayNumber-small year month day days h =
    let low = h.is.0 in
    let long = days_in_month_bounds (pos year) month in
    (omega (arith, ints), omega (arith, h.is.1), omega (arith, h.is.2))

-- behind the fields that were read stand those of the text's date
pub month_behind : (text t1 rest : List ℕ) (year days : ℕ) → text ≡ padded 4 year ++ 45 ∷ t1 → (b : BeginsWithDate text days rest)
    → t1 ≡ padded 2 b.month ++ 45 ∷ (padded 2 b.day ++ 84 ∷ rest)
month_behind text t1 rest year days e b = behind 4 45 year b.year text t1 (padded 2 b.month ++ 45 ∷ (padded 2 b.day ++ 84 ∷ rest)) e b.spelled

pub day_behind : (text t1 t2 rest : List ℕ) (year month days : ℕ) → text ≡ padded 4 year ++ 45 ∷ t1 → t1 ≡ padded 2 month ++ 45 ∷ t2
    → (b : BeginsWithDate text days rest) → t2 ≡ padded 2 b.day ++ 84 ∷ rest
day_behind text t1 t2 rest year month days e f b =
    behind 2 45 month b.month t1 t2 (padded 2 b.day ++ 84 ∷ rest) f (month_behind text t1 rest year days e b)

-- the fields that were read are those of the text's date
pub date_read : (text t1 t2 t3 rest : List ℕ) (year month day days : ℕ) → year < 10000 → month < 100 → day < 100
    → text ≡ padded 4 year ++ 45 ∷ t1 → t1 ≡ padded 2 month ++ 45 ∷ t2 → t2 ≡ padded 2 day ++ 84 ∷ t3 → BeginsWithDate text days rest
    → IsDayNumber year month day days × (t3 ≡ rest)
date_read text t1 t2 t3 rest year month day days y m d e f g b =
    let small = IsDayNumber-small b.year b.month b.day days b.is in
    let first = one_field 4 45 year b.year text t1 (padded 2 b.month ++ 45 ∷ (padded 2 b.day ++ 84 ∷ rest)) y small.0 e b.spelled in
    let second = one_field 2 45 month b.month t1 t2 (padded 2 b.day ++ 84 ∷ rest) m small.1 f first.1 in
    let third = one_field 2 84 day b.day t2 t3 rest d small.2 g second.1 in
    (rw (first.0, second.0, third.0) b.is, third.1)

-- the same of the time of day
pub minute_behind : (text t1 : List ℕ) (hour since : ℕ) → text ≡ padded 2 hour ++ 58 ∷ t1 → (b : IsTimeOfDay text since)
    → t1 ≡ padded 2 b.minute ++ 58 ∷ (padded 2 b.second ++ 46 ∷ (padded 6 b.micros ++ 90 ∷ []))
minute_behind text t1 hour since e b =
    behind 2 58 hour b.hour text t1 (padded 2 b.minute ++ 58 ∷ (padded 2 b.second ++ 46 ∷ (padded 6 b.micros ++ 90 ∷ []))) e b.spelled

pub second_behind : (text t1 t2 : List ℕ) (hour minute since : ℕ) → text ≡ padded 2 hour ++ 58 ∷ t1 → t1 ≡ padded 2 minute ++ 58 ∷ t2
    → (b : IsTimeOfDay text since) → t2 ≡ padded 2 b.second ++ 46 ∷ (padded 6 b.micros ++ 90 ∷ [])
second_behind text t1 t2 hour minute since e f b =
    behind 2 58 minute b.minute t1 t2 (padded 2 b.second ++ 46 ∷ (padded 6 b.micros ++ 90 ∷ [])) f (minute_behind text t1 hour since e b)

pub micros_behind : (text t1 t2 t3 : List ℕ) (hour minute second since : ℕ) → text ≡ padded 2 hour ++ 58 ∷ t1 → t1 ≡ padded 2 minute ++ 58 ∷ t2
    → t2 ≡ padded 2 second ++ 46 ∷ t3 → (b : IsTimeOfDay text since) → t3 ≡ padded 6 b.micros ++ 90 ∷ []
micros_behind text t1 t2 t3 hour minute second since e f g b =
    behind 2 46 second b.second t2 t3 (padded 6 b.micros ++ 90 ∷ []) g (second_behind text t1 t2 hour minute since e f b)

-- the fields that were read are in their bounds where the text is some time, and nothing stands behind them
pub record ReadsTime (hour minute second : ℕ) (t4 : List ℕ) : Type 0 where
  pub hour_in : hour < 24
  pub minute_in : minute < 60
  pub second_in : second < 60
  pub nothing : t4 ≡ []

pub time_read : (text t1 t2 t3 t4 : List ℕ) (hour minute second micros since : ℕ) → hour < 100 → minute < 100 → second < 100 → micros < 1000000
    → text ≡ padded 2 hour ++ 58 ∷ t1 → t1 ≡ padded 2 minute ++ 58 ∷ t2 → t2 ≡ padded 2 second ++ 46 ∷ t3 → t3 ≡ padded 6 micros ++ 90 ∷ t4
    → IsTimeOfDay text since → ReadsTime hour minute second t4
time_read text t1 t2 t3 t4 hour minute second micros since h m s u e f g k b =
    let first = one_field 2 58 hour b.hour text t1 (padded 2 b.minute ++ 58 ∷ (padded 2 b.second ++ 46 ∷ (padded 6 b.micros ++ 90 ∷ []))) h (omega (arith, b.hour_in)) e b.spelled in
    let second_one = one_field 2 58 minute b.minute t1 t2 (padded 2 b.second ++ 46 ∷ (padded 6 b.micros ++ 90 ∷ [])) m (omega (arith, b.minute_in)) f first.1 in
    let third = one_field 2 46 second b.second t2 t3 (padded 6 b.micros ++ 90 ∷ []) s (omega (arith, b.second_in)) g second_one.1 in
    let fourth = one_field 6 90 micros b.micros t3 t4 [] u b.micros_in k third.1 in
    record {
      hour_in = omega (arith, b.hour_in, first.0);
      minute_in = omega (arith, b.minute_in, second_one.0);
      second_in = omega (arith, b.second_in, third.0);
      nothing = fourth.1;
    }

-- A stamp's text is a date and a time of day.
use borrow.Rule.Slice.PartMut.{put_mid}
use Rattle.std.proofs.Common.{arith, ◌≡◌, ◌∙◌, sym, ap, refl, subst, ℕ, ◌+◌, ◌*◌, ◌/◌, ◌%◌, List, [], ◌∷◌, ◌++◌, length, drop}
use Rattle.std.proofs.lemmas.List.{append-nil, append_assoc, drop_all, drop_at, take_at}
use Rattle.sn_sync.specs.Stamps.{IsStampText, Moment, moment_text, padded}
use Rattle.sn_sync.specs.StampParts.{BeginsWithDate, IsTimeOfDay}
use Rattle.sn_sync.proofs.Padded.{behind}
use Rattle.sn_sync.proofs.StampFacts.{day_behind}

pub moment_fields : (m : Moment) → moment_text m ≡ padded 4 m.year ++ 45 ∷ (padded 2 m.month ++ 45 ∷ (padded 2 m.day ++ 84 ∷ (padded 2 m.hour ++ 58 ∷ (padded 2 m.minute ++ 58
    ∷ (padded 2 m.second ++ 46 ∷ (padded 6 m.micros ++ 90 ∷ []))))))
unfolding moment_text
moment_fields m = simp append_assoc

pub whole : (text rest : List ℕ) (days since : ℕ) → BeginsWithDate text days rest → IsTimeOfDay rest since → IsStampText text (days * 86400000000 + since)
whole text rest days since d t =
    let m : Moment = record { year = d.year; month = d.month; day = d.day; hour = t.hour; minute = t.minute; second = t.second; micros = t.micros } in
    record {
      moment = m;
      is = record { date = d.is.is; hour = t.hour_in; minute = t.minute_in; second = t.second_in; micros = t.micros_in };
      days = days;
      date = d.is.date;
      since = ap (λ micros. days * 86400000000 + micros) t.is;
      spelled = d.spelled ∙ ap (λ time. padded 4 d.year ++ 45 ∷ (padded 2 d.month ++ 45 ∷ (padded 2 d.day ++ 84 ∷ time))) t.spelled ∙ sym (moment_fields m);
    }

-- the two halves of a text
pub record Halves (text : List ℕ) (stamp : ℕ) : Type 0 where
  pub days : ℕ
  pub since : ℕ
  pub rest : List ℕ
  pub date : BeginsWithDate text days rest
  pub time : IsTimeOfDay rest since
  pub is : stamp ≡ days * 86400000000 + since

pub halves : (text : List ℕ) (stamp : ℕ) → IsStampText text stamp → Halves text stamp
halves text stamp h =
    let m = h.moment in
    record {
      days = h.days;
      since = ((m.hour * 60 + m.minute) * 60 + m.second) * 1000000 + m.micros;
      rest = padded 2 m.hour ++ 58 ∷ (padded 2 m.minute ++ 58 ∷ (padded 2 m.second ++ 46 ∷ (padded 6 m.micros ++ 90 ∷ [])));
      date = record { year = m.year; month = m.month; day = m.day; is = record { is = h.is.date; date = h.date }; spelled = h.spelled ∙ moment_fields m };
      time = record {
        hour = m.hour;
        minute = m.minute;
        second = m.second;
        micros = m.micros;
        hour_in = h.is.hour;
        minute_in = h.is.minute;
        second_in = h.is.second;
        micros_in = h.is.micros;
        is = refl;
        spelled = refl;
      };
      is = h.since;
    }

-- behind a date stands one thing
pub rest_is : (text r s : List ℕ) (days other : ℕ) → BeginsWithDate text days r → BeginsWithDate text other s → r ≡ s
rest_is text r s days other a b =
    behind 2 84 a.day b.day _ r s refl (day_behind text _ (padded 2 a.day ++ 84 ∷ r) s a.year a.month other a.spelled refl b)

-- what is written into the back of a front of its length
pub in_back : (front zeros back : List ℕ) (a k : ℕ) → length front ≡ a → length zeros ≡ k → put_mid a k (front ++ zeros) back ≡ front ++ back
in_back front zeros back a k long rest =
    let behind : drop k (drop a (front ++ zeros)) ≡ [] = ap (drop k) (drop_at front zeros a long) ∙ drop_all k zeros (omega (arith, rest)) in
    ap (λ t. t ++ (back ++ drop k (drop a (front ++ zeros)))) (take_at front zeros a long) ∙ ap (λ t. front ++ (back ++ t)) behind ∙ ap (λ t. front ++ t) (append-nil back)

-- a date and a time of day one after the other
pub joined : (text date time : List ℕ) (stamp : ℕ) → text ≡ date ++ time → ((rest : List ℕ) → BeginsWithDate (date ++ rest) (stamp / 86400000000) rest)
    → IsTimeOfDay time (stamp % 86400000000) → IsStampText text stamp
joined text date time stamp e begins is =
    let front : BeginsWithDate text (stamp / 86400000000) time = subst (λ t. BeginsWithDate t (stamp / 86400000000) time) (sym e) (begins time) in
    let number : stamp / 86400000000 * 86400000000 + stamp % 86400000000 ≡ stamp = omega arith in
    subst (IsStampText text) number (whole text _ _ _ front is)

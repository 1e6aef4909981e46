-- A stamp's text is text.
use Rattle.std.proofs.Common.{arith, rules, sym, subst, ℕ, List, codes, IsUtf8, ⊎_elim}
use Rattle.std.proofs.lemmas.Bool.{cases_lt}
use Rattle.std.proofs.lemmas.List.{get_or_past}
use Rattle.std.proofs.lemmas.Str.{IsUtf8-append, IsUtf8-from_ascii}
use Rattle.sn_sync.specs.Stamps.{IsStampText, Moment, moment_text, padded}
use Rattle.sn_sync.proofs.Padded.{length-padded, padded_digit}

digits : (width n : ℕ) → IsUtf8 (padded width n)
digits width n = IsUtf8-from_ascii (padded width n) (λ i. ⊎_elim
    (λ within. let digit = padded_digit width n i within in omega arith)
    (λ past. omega (arith, get_or_past (padded width n) i 0 (omega (arith, length-padded width n))))
    (cases_lt i width))

dash : IsUtf8 (codes "-")
dash = IsUtf8-from_ascii (codes "-") (search rules)

clock : IsUtf8 (codes "T")
clock = IsUtf8-from_ascii (codes "T") (search rules)

colon : IsUtf8 (codes ":")
colon = IsUtf8-from_ascii (codes ":") (search rules)

dot : IsUtf8 (codes ".")
dot = IsUtf8-from_ascii (codes ".") (search rules)

zone : IsUtf8 (codes "Z")
zone = IsUtf8-from_ascii (codes "Z") (search rules)

IsUtf8-moment : (m : Moment) → IsUtf8 (moment_text m)
unfolding moment_text
IsUtf8-moment m =
    let year = IsUtf8-append _ _ (digits 4 m.year) dash in
    let month = IsUtf8-append _ _ (IsUtf8-append _ _ year (digits 2 m.month)) dash in
    let date = IsUtf8-append _ _ (IsUtf8-append _ _ month (digits 2 m.day)) clock in
    let hour = IsUtf8-append _ _ (IsUtf8-append _ _ date (digits 2 m.hour)) colon in
    let minute = IsUtf8-append _ _ (IsUtf8-append _ _ hour (digits 2 m.minute)) colon in
    let second = IsUtf8-append _ _ (IsUtf8-append _ _ minute (digits 2 m.second)) dot in
    IsUtf8-append _ _ (IsUtf8-append _ _ second (digits 6 m.micros)) zone

pub IsUtf8-stamp : (text : List ℕ) (stamp : ℕ) → IsStampText text stamp → IsUtf8 text
IsUtf8-stamp text stamp h = subst IsUtf8 (sym h.spelled) (IsUtf8-moment h.moment)

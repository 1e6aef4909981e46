use Rattle.std.proofs.Common.{arith, ap, sym, ◌∙◌, ◌≡◌, to_z, of_z, pos, w16, unsigned_abs}
use Rattle.std.proofs.lemmas.Int.{ints}
use Rattle.sn_sync.specs.StampParts.{IsDayNumber}
use Rattle.sn_sync.proofs.DayFacts.{IsDayNumber-date, year_abs}
use Rattle.sn_sync.proofs.Spelled.{date_written}
use Rattle.sn_sync.proofs.stamp.date_bytes.Goals as goal

pub returns : goal.returns
returns c =
    let date = c.date_of-date.result in
    let year = c.from-year.result in
    let same : to_z w16 (of_z w16 date.year) ≡ date.year = omega (arith, ints) in
    let abs : year ≡ unsigned_abs date.year = c.from-year.ensures ∙ c.unsigned_abs.ensures.value ∙ ap unsigned_abs same in
    let is : IsDayNumber year c.from.result c.from-2.result c.args.days =
    IsDayNumber-date date _ _ _ _ (year_abs date.year c.date_of-date.ensures.year ∙ ap pos (sym abs)) (sym c.from.ensures) (sym c.from-2.ensures) c.date_of-date.ensures.day in
    date_written _ _ _ _ _ _ _ _ year c.from.result c.from-2.result c.args.days
    c.two_digits-a.ensures c.two_digits-c.ensures c.two_digits-e.ensures c.two_digits-g.ensures is

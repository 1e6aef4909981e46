use Rattle.std.proofs.Common.{arith, ◌≡◌, ◌∙◌, sym, pos, to_z, of_z, w8, w16, w32}
use Rattle.std.proofs.lemmas.Int.{ints}
use Rattle.sn_sync.proofs.DayFacts.{day_found, IsYmd-found}
use Rattle.sn_sync.proofs.stamp.day_number.Goals as goal

pub returns-clause-some : goal.returns-clause-some
returns-clause-some c =
    let parts = IsYmd-found c.new.result c.in_ok-date.date _ _ _ c.new.ensures.value (sym c.ok.ensures.value ∙ c.in_ok-date.was) in
    let same : c.to_unix_epoch_day.result ≡ to_z w32 (of_z w32 c.to_unix_epoch_day.result) = omega (arith, ints) in
    let year : to_z w16 c.args.year ≡ pos c.args.year = omega (arith, ints) in
    let month : to_z w8 c.args.month ≡ pos c.args.month = omega (arith, ints) in
    let day : to_z w8 c.args.day ≡ pos c.args.day = omega (arith, ints) in
    rw c.ok-2.ensures.value (day_found c.try_from.result _ c.in_ok-date.date c.args.year c.args.month c.args.day c.try_from.ensures
    (sym same ∙ c.to_unix_epoch_day.ensures.value) (parts.0 ∙ year) (omega (arith, ints, parts.1)) (omega (arith, ints, parts.2)))

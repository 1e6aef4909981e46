use Rattle.std.proofs.Common.{◌≡◌, Some, rules}
use Rattle.sn_rows.specs.declared.body.RowBody.TheVariants as row
use Rattle.sn_rekey.proofs.RekeyLemmas.{place_sealed}
use Rattle.sn_rekey.proofs.rekeying.rewrap_place.Goals as goal

pub returns-in-Some-Sealed-clause-ok : goal.returns-in-Some-Sealed-clause-ok
returns-in-Some-Sealed-clause-ok c =
    let is : c.args.place.now ≡ Some (row.Sealed c.in-Some-Sealed.strings) = search rules in
    place_sealed c.rewrap_held.result c.args.sets.now c.args.set.now c.args.words.now c.args.uuid c.args.place.now c.in-Some-Sealed.strings c.rewrap_held.new.words
    is c.rewrap_held.ensures.some c.rewrap_held.ensures.none

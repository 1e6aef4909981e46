use Rattle.std.proofs.Common.{◌+◌, ◌-◌, length, take, drop, sym, refl}
use Rattle.sn_script.proofs.Lists.{rest_is}
use Rattle.sn_script.proofs.Places.{place_at, no_place_at}
use Rattle.sn_script.proofs.fates.is_place.Goals as goal

pub returns-in-Some : goal.returns-in-Some
returns-in-Some c =
    let word = c.args.word.now in
    let behind = c.in-Some.colon + 1 in
    place_at word (take c.in-Some.colon word) (take (length word - behind) (drop behind word)) c.in-Some.colon
    c.are_number_and_image.result (sym c.in-Some.ensures) refl (rest_is behind word) c.are_number_and_image.ensures

pub returns-in-None : goal.returns-in-None
returns-in-None c = no_place_at c.args.word.now (sym c.in-None.ensures)

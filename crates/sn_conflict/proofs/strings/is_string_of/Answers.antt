use Rattle.std.proofs.Common.{arith, ◌≤◌, length}
use Rattle.sn_conflict.proofs.StringLemmas.{string_short}
use Rattle.sn_string.specs.Bounds.{most_string}
use Rattle.sn_conflict.proofs.strings.is_string_of.Goals as goal

pub returns : goal.returns
returns c =
    let short : length c.args.text.now ≤ most_string = omega arith in
    string_short c.args.uuid c.args.text.now c.names_item.result short c.names_item.ensures

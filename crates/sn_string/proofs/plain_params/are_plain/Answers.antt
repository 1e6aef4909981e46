use Rattle.std.proofs.Common.{arith}
use Rattle.std.proofs.lemmas.Grind.{common_steps}
use Rattle.std.proofs.lemmas.List.Folds.{list_all_more}
use Rattle.sn_string.specs.Parameters.{is_plain}
use Rattle.sn_string.proofs.plain_params.are_plain.Goals as goal

pub bytes-preserved : goal.bytes-preserved
bytes-preserved c =
    let more = list_all_more is_plain c.args.bytes.now c.bytes.byte-index 0 (omega arith) in
    grind (arith, common_steps, more)

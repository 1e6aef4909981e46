use Rattle.std.proofs.Common.{sym}
use Rattle.sn_row_map.specs.RowMaps.{row_in}
use Rattle.sn_rows.specs.declared.key.Key.TheVariants as key
use Rattle.sn_rows.specs.declared.key.Slot.TheVariants.{Older}
use Rattle.sn_saying.proofs.AccountLemmas.{none_older, older_is}
use Rattle.sn_saying.proofs.accounts.older_in.Goals as goal

pub returns-in_default : goal.returns-in_default
returns-in_default c = λ accounts a held shows at size apart older.
    sym (none_older a (row_in c.args.rows.now (key.Set Older)) held older (sym c.in_default.ensures))

pub returns : goal.returns
returns c = λ accounts a held shows at size apart older.
    older_is (row_in c.args.server.now) accounts a c.args.number shows at c.args.generations (row_in c.args.rows.now (key.Set Older)) held
    c.in-Some.nonce.now c.number_of.result size apart older (sym c.in-Some.ensures) c.number_of.ensures.some c.number_of.ensures.none

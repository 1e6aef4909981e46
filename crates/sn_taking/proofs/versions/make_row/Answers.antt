use Rattle.sn_taking.proofs.VersionLemmas.{makes_none, makes_row}
use Rattle.sn_taking.proofs.versions.make_row.Goals as goal

pub returns-in-Deleted-clause-ok : goal.returns-in-Deleted-clause-ok
returns-in-Deleted-clause-ok c = λ rows. makes_none c.args.sets.now rows c.args.taken.now c.args.words.now c.args.item.now c.in-Deleted.is

pub returns-in_ok-put_local-in-Strings-clause-ok : goal.returns-in_ok-put_local-in-Strings-clause-ok
returns-in_ok-put_local-in-Strings-clause-ok c = λ rows.
    makes_row c.args.sets.now rows c.args.taken.now c.args.words.now c.row_of.new.words c.args.item.now c.in-Strings.content c.in-Strings.enc
    c.in_ok-local-in-Strings.local c.in_ok-put_local-in-Strings.field-0 c.if-taken.false c.in-Strings.is c.in_ok-local-in-Strings.ensures.ok
    c.in_ok-put_local-in-Strings.ensures

use Rattle.std.proofs.Common.{refl}
use Rattle.std.proofs.lemmas.Result.{IfOk-weaker}
use Rattle.sn_rows.specs.declared.change.Change.TheVariants.{Remove}
use Rattle.sn_rows.specs.declared.key.Key.TheVariants as key
use Rattle.sn_taking.proofs.VersionLemmas.{takes_deleted, takes_strings}
use Rattle.sn_taking.proofs.versions.take_version.Goals as goal

pub returns-in-Deleted-clause-ok : goal.returns-in-Deleted-clause-ok
returns-in-Deleted-clause-ok c = λ p same.
    takes_deleted c.args.sets.now p c.args.number c.args.item.now c.args.latest (Remove (key.Local c.args.number)) c.args.words.now c.in-Deleted.is
    (record { key_is = refl; value_is = refl }) same

pub returns-in_ok-local-in-Strings-clause-ok : goal.returns-in_ok-local-in-Strings-clause-ok
returns-in_ok-local-in-Strings-clause-ok c =
    IfOk-weaker c.put_local.result _ _
    (λ change puts p same.
    takes_strings c.args.sets.now p c.args.number c.args.item.now c.in-Strings.content c.in-Strings.enc c.args.latest c.in_ok-local-in-Strings.local change
    c.args.words.now c.row_of.new.words c.in-Strings.is same c.in_ok-local-in-Strings.ensures.ok puts)
    c.put_local.ensures

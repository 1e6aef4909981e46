use Rattle.std.proofs.Common.{IfNone, IfSome, Option, inl, refl, subst}
use Rattle.sn_row_map.specs.RowMaps.{row_in}
use Rattle.sn_rows.specs.declared.device_rows.OwnerRow.{OwnerRow}
use Rattle.sn_sets.specs.declared.sets.Sets.{Sets}
use Rattle.sn_table.specs.Tables.{table_rows}
use Rattle.sn_device.specs.States.{HasNoAccount, HasSets}
use Rattle.sn_joining.proofs.KeyLemmas.{joins_held, refuses_held}
use Rattle.sn_joining.proofs.signing.joins_by.Goals as goal

pub returns-in-Some-clause-ok : goal.returns-in-Some-clause-ok
returns-in-Some-clause-ok g c =
    let rows = row_in (table_rows c.args.table.now) in
    let has = subst (λ (o : Option Sets). IfSome o (λ sets. (owner : OwnerRow) × HasSets rows owner sets)) c.in-Some.is c.in-Ok.ensures.some in
    joins_held rows has.0 c.in-Some.sets c.args.set.now c.joins_again.result has.1 c.joins_again.ensures.ok

pub returns-in-Some-clause-err : goal.returns-in-Some-clause-err
returns-in-Some-clause-err g c =
    let rows = row_in (table_rows c.args.table.now) in
    let has = subst (λ (o : Option Sets). IfSome o (λ sets. (owner : OwnerRow) × HasSets rows owner sets)) c.in-Some.is c.in-Ok.ensures.some in
    refuses_held rows has.0 c.in-Some.sets c.args.set.now c.joins_again.result has.1 c.joins_again.ensures.err

pub returns-in-None-clause-ok : goal.returns-in-None-clause-ok
returns-in-None-clause-ok g c =
    let rows = row_in (table_rows c.args.table.now) in
    inl (subst (λ (o : Option Sets). IfNone o (HasNoAccount rows)) c.in-None.is c.in-Ok.ensures.none, refl)

use Rattle.std.specs.Prelude.{List}
use Rattle.std.proofs.Common.{sym, subst}
use Rattle.std.proofs.Math.Path.{fun_ext}
use Rattle.sn_row_map.specs.RowMaps.{row_in}
use Rattle.sn_rows.specs.declared.change.Change.{Change}
use Rattle.sn_server.specs.Loads.{IsFirst}
use Rattle.sn_server.specs.Stores.{server_disk}
use Rattle.sn_table.specs.Logs.{log_disk}
use Rattle.sn_server.proofs.LoadMoments.{begins}
use Rattle.sn_server.proofs.Opening.{begun_sound, rows_with}
use Rattle.sn_server.proofs.server.Server.begin.Goals as goal

pub returns-in-Done-clause-begins : goal.returns-in-Done-clause-begins
returns-in-Done-clause-begins g c = λ batches stands. (
  c.as_slice.result.now,
  subst (λ (l : List Change). IsFirst c.args.secret l) (sym c.as_slice.ensures) c.in-Ok.ensures.first,
  c.in-Done.ensures.done _ (record { rows_are = fun_ext c.in-Ok-of_map.ensures.rows; stands = stands }),
)

pub returns-in-Done-clause-sound : goal.returns-in-Done-clause-sound
returns-in-Done-clause-sound g c =
    begun_sound (row_in c.args.rows) _ _ c.args.secret c.as_slice.result.now c.requires.empty
    (subst (λ (l : List Change). IsFirst c.args.secret l) (sym c.as_slice.ensures) c.in-Ok.ensures.first) (fun_ext c.in-Ok-of_map.ensures.rows) c.in-Done.ensures.rows

pub returns-in-Done-clause-any_moment : goal.returns-in-Done-clause-any_moment
returns-in-Done-clause-any_moment g c = λ told batches stands.
    let kept = rows_with batches (row_in c.args.rows) in
    begins g.D.Disk.moment g.D.Disk.left_since (log_disk c.args.log) (server_disk c.in-Done.server) kept c.args.secret c.as_slice.result.now c.requires.empty
    (subst (λ (l : List Change). IsFirst c.args.secret l) (sym c.as_slice.ensures) c.in-Ok.ensures.first)
    (c.in-Done.ensures.any_moment told kept (record { rows_are = fun_ext c.in-Ok-of_map.ensures.rows; stands = λ t. stands }))

pub returns-clause-any_moment : goal.returns-clause-any_moment
returns-clause-any_moment g c = λ told batches stands.
    let kept = rows_with batches (row_in c.args.rows) in
    begins g.D.Disk.moment g.D.Disk.left_since (log_disk c.args.log) c.in-Broken.disk kept c.args.secret c.as_slice.result.now c.requires.empty
    (subst (λ (l : List Change). IsFirst c.args.secret l) (sym c.as_slice.ensures) c.in-Ok.ensures.first)
    (c.in-Broken.ensures.any_moment told kept (record { rows_are = fun_ext c.in-Ok-of_map.ensures.rows; stands = λ t. stands }))

use Rattle.std.specs.Prelude.{◌++◌, [], ◌∷◌}
use Rattle.std.proofs.Common.{inl, inr, ⊎_elim}
use Rattle.sn_disk.specs.Moments.{weaker}
use Rattle.sn_row_map.specs.RowMaps.{row_in}
use Rattle.sn_table.specs.Logs.{log_disk}
use Rattle.sn_server.specs.Loads.{given_disk, kept_of, secret_of}
use Rattle.sn_server.specs.Stores.{IsOpen, server_disk}
use Rattle.sn_server.proofs.LoadMoments.{either_opened, opened, refused, same_opened, unloaded, with_rows}
use Rattle.sn_server.proofs.Opening.{either_opens, loads, open_errors, same_opens}
use Rattle.sn_server.proofs.server.Server.load.Goals as goal

pub returns-in-Ok-clause-loaded : goal.returns-in-Ok-clause-loaded
returns-in-Ok-clause-loaded g c = λ told.
    let found = c.in-Ok.ensures.loaded told in
    loads IsOpen (g.D.Disk.seen c.args.disk) (row_in c.in-Ok.rows) found.batches c.args.words.now c.open.new.words c.open.result found.store found.has.rows_are (c.open.ensures.opens found.batches (λ t. found.has.log_has))

pub returns-in-Ok-clause-refused : goal.returns-in-Ok-clause-refused
returns-in-Ok-clause-refused g c =
    open_errors g.D.Disk.fault_count g.D.Disk.told (g.D.Disk.seen c.args.disk) (row_in c.in-Ok.rows) _ _ c.open.result c.in-Ok.ensures.quiet
    (λ told. let found = c.in-Ok.ensures.loaded told in (found.batches, found.store, found.has.rows_are)) c.open.ensures.refused

pub returns-in-Ok-clause-any_moment : goal.returns-in-Ok-clause-any_moment
returns-in-Ok-clause-any_moment g c = λ told.
    let found = c.in-Ok.ensures.loaded told in
    let mid = log_disk c.in-Ok.log in
    let new = given_disk server_disk c.open.result in
    let secret = secret_of c.args.words.now in
    opened g.D.Disk.moment g.D.Disk.left_since c.args.disk mid new (g.D.Disk.may_leave c.args.disk) (g.D.Disk.seen c.args.disk) secret found.batches found.store
    (c.in-Ok.ensures.any_moment told)
    (with_rows g.D.Disk.moment g.D.Disk.left_since mid new found.batches (row_in c.in-Ok.rows) secret found.has.rows_are (c.open.ensures.any_moment told found.batches found.has.log_has))

pub returns-in-Ok-clause-stays : goal.returns-in-Ok-clause-stays
returns-in-Ok-clause-stays g c = λ told.
    let found = c.in-Ok.ensures.loaded told in
    let mid = log_disk c.in-Ok.log in
    let new = given_disk server_disk c.open.result in
    let secret = secret_of c.args.words.now in
    refused g.D.Disk.moment g.D.Disk.left_since c.args.disk mid server_disk g.D.Disk.fault_count (row_in c.in-Ok.rows) (g.D.Disk.may_leave c.args.disk) (g.D.Disk.seen c.args.disk) secret _ c.open.result
    c.open.ensures.still c.open.ensures.refused (c.in-Ok.ensures.any_moment told)
    (opened g.D.Disk.moment g.D.Disk.left_since c.args.disk mid new (g.D.Disk.may_leave c.args.disk) (g.D.Disk.seen c.args.disk) secret found.batches found.store
    (c.in-Ok.ensures.any_moment told)
    (with_rows g.D.Disk.moment g.D.Disk.left_since mid new found.batches (row_in c.in-Ok.rows) secret found.has.rows_are (c.open.ensures.any_moment told found.batches found.has.log_has)))

pub returns-in-Ok-clause-same : goal.returns-in-Ok-clause-same
returns-in-Ok-clause-same g c = λ told batches each.
    let (found, leaves) = c.in-Ok.ensures.same told batches each in
    let mid = log_disk c.in-Ok.log in
    let new = given_disk server_disk c.open.result in
    let secret = secret_of c.args.words.now in (
      same_opens IsOpen c.args.words.now c.open.new.words c.open.result batches (row_in c.in-Ok.rows) found.rows_are (c.open.ensures.opens batches (λ t. found.log_has)),
      same_opened g.D.Disk.moment g.D.Disk.left_since c.args.disk mid new secret batches leaves
          (with_rows g.D.Disk.moment g.D.Disk.left_since mid new batches (row_in c.in-Ok.rows) secret found.rows_are (c.open.ensures.any_moment told batches found.log_has)),
    )

pub returns-in-Ok-clause-either : goal.returns-in-Ok-clause-either
returns-in-Ok-clause-either g c = λ told batches changes each.
    let (has, leaves) = c.in-Ok.ensures.either told batches changes each in
    let more = batches ++ changes ∷ [] in
    let mid = log_disk c.in-Ok.log in
    let new = given_disk server_disk c.open.result in
    let secret = secret_of c.args.words.now in (
      either_opens IsOpen c.args.words.now c.open.new.words (kept_of batches) (kept_of more) c.open.result
          (⊎_elim
          (λ found. inl (same_opens IsOpen c.args.words.now c.open.new.words c.open.result batches (row_in c.in-Ok.rows) found.rows_are (c.open.ensures.opens batches (λ t. found.log_has))))
          (λ found. inr (same_opens IsOpen c.args.words.now c.open.new.words c.open.result more (row_in c.in-Ok.rows) found.rows_are (c.open.ensures.opens more (λ t. found.log_has))))
          has),
      either_opened g.D.Disk.moment g.D.Disk.left_since c.args.disk mid new secret batches changes leaves
          (⊎_elim
          (λ found. inl (with_rows g.D.Disk.moment g.D.Disk.left_since mid new batches (row_in c.in-Ok.rows) secret found.rows_are (c.open.ensures.any_moment told batches found.log_has)))
          (λ found. inr (with_rows g.D.Disk.moment g.D.Disk.left_since mid new more (row_in c.in-Ok.rows) secret found.rows_are (c.open.ensures.any_moment told more found.log_has)))
          has),
    )

pub returns-in-Err-clause-any_moment : goal.returns-in-Err-clause-any_moment
returns-in-Err-clause-any_moment g c = λ told.
    weaker g.D.Disk.moment g.D.Disk.left_since c.args.disk c.in-Err.disk _ _ (c.in-Err.ensures.any_moment told) (λ f s. inl s)

pub returns-in-Err-clause-stays : goal.returns-in-Err-clause-stays
returns-in-Err-clause-stays g c = λ told.
    unloaded g.D.Disk.moment g.D.Disk.left_since c.args.disk c.in-Err.disk g.D.Disk.told (g.D.Disk.may_leave c.args.disk) (g.D.Disk.seen c.args.disk) (secret_of c.args.words.now)
    c.in-Err.error c.of_table.result _ _ c.of_table.ensures c.in-Err.ensures.refused told (c.in-Err.ensures.any_moment told)

pub returns-in-Err-clause-same : goal.returns-in-Err-clause-same
returns-in-Err-clause-same g c = λ told batches each.
    (tt, weaker g.D.Disk.moment g.D.Disk.left_since c.args.disk c.in-Err.disk _ _ (c.in-Err.ensures.same told batches each).1 (λ f s. inl s))

pub returns-in-Err-clause-either : goal.returns-in-Err-clause-either
returns-in-Err-clause-either g c = λ told batches changes each. (
  tt,
  weaker g.D.Disk.moment g.D.Disk.left_since c.args.disk c.in-Err.disk _ _ (c.in-Err.ensures.either told batches changes each).1
      (λ f s. ⊎_elim (λ same. inl (inl same)) (λ more. inr (inl more)) s),
)

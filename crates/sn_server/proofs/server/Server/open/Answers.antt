use Rattle.std.specs.Prelude.{List, ℕ}
use Rattle.std.proofs.Common.{ap, subst}
use Rattle.rand_chacha.specs.ChaCha.{ChaCha}
use Rattle.sn_disk.specs.Disk.{LeavesOnly}
use Rattle.sn_row_map.specs.RowMaps.{row_in}
use Rattle.sn_server.specs.Emptiness.{IsEmptyIff}
use Rattle.sn_server.specs.Loads.{StandsOrBegins, given_disk, secret_of}
use Rattle.sn_server.specs.Stores.{IsOpen, server_disk}
use Rattle.sn_table.specs.Logs.{log_disk}
use Rattle.sn_server.proofs.LoadMoments.{log_still}
use Rattle.sn_server.proofs.Opening.{opens_begun, opens_checked, rows_with}
use Rattle.sn_server.proofs.server.Server.open.Goals as goal

pub returns-then-is_empty-clause-opens : goal.returns-then-is_empty-clause-opens
returns-then-is_empty-clause-opens g c = λ batches stands.
    opens_begun IsOpen _ c.args.words.now c.secret-secret.new.self c.secret-secret.result c.begin.result
    (subst (IsEmptyIff (row_in c.args.rows)) c.if-is_empty.true c.is_empty.ensures) c.secret-secret.ensures (c.begin.ensures.begins batches stands)

pub returns-else-is_empty-clause-opens : goal.returns-else-is_empty-clause-opens
returns-else-is_empty-clause-opens g c = λ batches stands.
    opens_checked IsOpen _ c.args.words.now c.check.result (subst (IsEmptyIff (row_in c.args.rows)) c.if-is_empty.false c.is_empty.ensures) (c.check.ensures.opens batches stands)

pub returns-then-is_empty-clause-any_moment : goal.returns-then-is_empty-clause-any_moment
returns-then-is_empty-clause-any_moment g c = λ told batches stands.
    subst (λ (s : List ℕ). LeavesOnly g.D.Disk.moment g.D.Disk.left_since (log_disk c.args.log) (given_disk server_disk c.begin.result) (StandsOrBegins (rows_with batches (row_in c.args.rows)) s))
    (ap (λ (p : List ℕ × ChaCha). p.0) c.secret-secret.ensures) (c.begin.ensures.any_moment told batches stands)

pub returns-else-is_empty-clause-any_moment : goal.returns-else-is_empty-clause-any_moment
returns-else-is_empty-clause-any_moment g c = λ told batches stands.
    log_still c.args.log (given_disk server_disk c.check.result) (rows_with batches (row_in c.args.rows)) (secret_of c.args.words.now) c.requires.owner stands c.check.ensures.still
    (λ f left. g.met.D.Disk.only_now told _ f left)

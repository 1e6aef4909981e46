use Rattle.std.proofs.Common.{ℕ, List, [], Bor, false, ◌||◌, ◌∙◌, ap, ap₂}
use Rattle.clap.specs.Simple.{app_of, with_rule}
use Rattle.sn_command.specs.Rows.{with_option_row}
use Rattle.sn_command.specs.declared.commands.OptionRow.{OptionRow}
use Rattle.sn_command.proofs.RowFolds.{fold_end, fold_next}
use Rattle.sn_command.proofs.syntax.with_options.Goals as goal

pub loop-row-preserved : goal.loop-row-preserved
loop-row-preserved c =
    let text : Bor (List ℕ) = record { ref_ptr = (0, 0); now = [] } in
    let row : OptionRow = record { name = text; value = text; help = text; required = false } in
    let added = c.in_ok-command.ensures in
    let local = c.option.ensures.local in (
      fold_next with_option_row (app_of c.args.start) (app_of c.loop-row.command) (app_of c.in_ok-command.command) c.args.rows.now c.loop-row.row-index
          row c.loop-row-test.true (added.shape local ∙ ap (with_rule (app_of c.loop-row.command)) c.option.ensures.rule) c.loop-row.invariant.0,
      added.globals ∙ ap₂ (λ a b. a || b) c.loop-row.invariant.1 local,
    )

pub returns-clause-app : goal.returns-clause-app
returns-clause-app c =
    fold_end with_option_row (app_of c.args.start) (app_of c.loop-row.command) c.args.rows.now c.loop-row.row-index c.loop-row-test.false
    c.loop-row.invariant.0

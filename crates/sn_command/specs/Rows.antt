-- What the table of commands declares, a row at a time.
use denote.Ref.{Bor}
use Rattle.std.specs.Prelude.{fold}
use Rattle.clap.specs.Simple.{App, Shape, new_app, with_rule, with_subcommand}
use Rattle.sn_command.specs.Syntax.{option_rule}
use Rattle.sn_command.specs.declared.commands.CommandRow.{CommandRow}
use Rattle.sn_command.specs.declared.commands.OptionRow.{OptionRow}

-- with one more option
abbrev pub with_option_row : App → OptionRow → App
with_option_row app row = with_rule app (option_rule row.name.now row.required)

-- a command with its options, in order
abbrev pub shape_of_row : CommandRow → Shape
shape_of_row row = (fold with_option_row (new_app row.name.now) row.options.now).top

-- with one more command
abbrev pub with_command_row : App → Bor CommandRow → App
with_command_row app row = with_subcommand app (shape_of_row row.now)

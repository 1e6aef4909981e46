-- The words of a command with its options.
use denote.Ref.{Bor}
use Rattle.std.specs.Prelude.{ℕ, List, Option, option_map, ⊤}
use Rattle.sn_command.specs.CommandLine.{SealLine, OpenLine, GenLine, ServeLine, IsSealLine, IsOpenLine, IsShowLine, IsReplayLine, IsGenLine, IsServeLine, IsUsage}
use Rattle.sn_command.specs.DeviceLines.{DeviceLine, IsDeviceLine, Task, register, sign_in, put, edit, delete, list, content, sync, change_password}
use Rattle.sn_command.specs.Syntax.{AsksForHelp, AsksForVersion}
use Rattle.sn_command.specs.declared.command_line.ItemOptions.{ItemOptions}
use Rattle.sn_command.specs.declared.command_line.ParamsOptions.{ParamsOptions}
use Rattle.sn_command.specs.declared.command_line.GenOptions.{GenOptions}
use Rattle.sn_command.specs.declared.command_line.ServeOptions.{ServeOptions}
use Rattle.sn_command.specs.declared.command_line.Command.{Command}
use Rattle.sn_command.specs.declared.command_line.Command.TheVariants.{Seal, Open, Show, Replay, Gen, Serve, Device, Help, Version}
use Rattle.sn_command.specs.declared.command_line.LineError.{LineError}
use Rattle.sn_command.specs.declared.device_line.DeviceCommand.{DeviceCommand}
use Rattle.sn_command.specs.declared.device_line.DeviceCommand.TheVariants as device
use Rattle.sn_command.specs.declared.device_line.DeviceOptions.{DeviceOptions}
use Rattle.sn_command.specs.declared.command_line.LineError.TheVariants.{Usage, Memory}

abbrev pub seal_line : ItemOptions → ParamsOptions → SealLine
seal_line item params = record {
  uuid = item.uuid;
  key = item.key;
  identifier = params.identifier.now;
  cost = params.cost;
  nonce = params.nonce.now;
}

abbrev pub open_line : ItemOptions → OpenLine
open_line item = record { uuid = item.uuid; key = item.key }

abbrev pub gen_line : GenOptions → GenLine
gen_line options = record { number = options.number; count = options.count }

abbrev pub serve_line : ServeOptions → ServeLine
serve_line options = record { store = options.store.now; port = options.port; requests = options.requests }

-- the title that an option gives
abbrev pub title_of : Option (Bor (List ℕ)) → Option (List ℕ)
title_of title = option_map (λ text. text.now) title

abbrev pub task_of : DeviceCommand → Task
task_of (device.Register server identifier cost) = register server.now identifier.now cost
task_of (device.SignIn server identifier) = sign_in server.now identifier.now
task_of (device.Put title) = put (title_of title)
task_of (device.Edit uuid) = edit uuid
task_of (device.Delete uuid) = delete uuid
task_of device.List = list
task_of (device.Content uuid) = content uuid
task_of (device.Sync server) = sync server.now
task_of (device.ChangePassword server cost) = change_password server.now cost

abbrev pub device_line : DeviceOptions → DeviceLine
device_line options = record { store = options.store.now; task = task_of options.command }

-- the words spell this command
abbrev pub IsCommand : List (List ℕ) → Command → Type 0
IsCommand words (Seal item params) = IsSealLine words (seal_line item params)
IsCommand words (Open item) = IsOpenLine words (open_line item)
IsCommand words Show = IsShowLine words
IsCommand words Replay = IsReplayLine words
IsCommand words (Gen options) = IsGenLine words (gen_line options)
IsCommand words (Serve options) = IsServeLine words (serve_line options)
IsCommand words (Device options) = IsDeviceLine words (device_line options)
IsCommand words (Help text) = AsksForHelp words
IsCommand words (Version text) = AsksForVersion words

-- the words spell none
abbrev pub IsLineError : List (List ℕ) → LineError → Type 0
IsLineError words Usage = IsUsage words
IsLineError words Memory = ⊤

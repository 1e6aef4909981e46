-- How a replay goes on, line by line.
use Rattle.std.specs.Prelude.{ℕ, zero, suc, List, [], ◌∷◌, ◌++◌, reverse, filter, Option, Some, None, if◌then◌else◌, slice_get}
use Rattle.std.specs.List.{list_any}
use Rattle.std.specs.Str.{bytes_eq}
use Rattle.sn_laws.specs.Lookups.{Bytes}
use Rattle.sn_laws.specs.declared.moves.Move.{Move}
use Rattle.sn_report.specs.Labels.{Labels, labels_of}
use Rattle.sn_report.specs.declared.report.DeviceMark.{DeviceMark}
use Rattle.sn_report.specs.declared.report.Event.{Event}
use Rattle.sn_script.specs.declared.script.Line.{Line}
use Rattle.sn_script.specs.declared.script.Line.TheVariants as line
use Rattle.sn_script.specs.declared.script.Ordinal.{Ordinal}
use Rattle.sn_script.specs.declared.script.Ordinal.TheVariants as ordinal
use Rattle.sn_world.specs.World.{Made, World}
use Rattle.sn_course.specs.Lines.{device_of}
use Rattle.sn_course.specs.Settings.{settings_after}
use Rattle.sn_course.specs.declared.settings.Settings.{Settings}

-- ---- the lines that report

-- a line that is no setting, with its number and the settings that it finds
pub record Reported : Type 0 where
  pub number : ℕ
  pub settings : Settings
  pub asks : Line

abbrev pub reported : ℕ → Settings → Line → List Reported
reported number settings (line.Seed bytes) = []
reported number settings (line.Cost n) = []
reported number settings (line.Clock n) = []
reported number settings other = record { number = number; settings = settings; asks = other } ∷ []

-- those of the lines from this number on
abbrev pub reporting : ℕ → Settings → List Line → List Reported
reporting number settings [] = []
reporting number settings (l ∷ ls) = reported number settings l ++ reporting (suc number) (settings_after settings l) ls

-- ---- a stage of a replay

-- where a replay stands: the devices in the order of their first lines, the labels, the moves so far, how long the record of each disk is, and what both
-- ends have
pub record Stage : Type 0 where
  pub names : List Bytes
  pub labels : Labels
  pub moves : List Move
  pub server_mark : ℕ
  pub marks : Bytes → ℕ
  pub world : World

-- before the first line that reports, with the server as it begins
abbrev pub start : World → Stage
start opened = record { names = []; labels = []; moves = []; server_mark = 0; marks = λ name. 0; world = opened }

-- a device begins with its first line
abbrev pub names_with : List Bytes → Option Bytes → List Bytes
names_with names None = names
names_with names (Some name) = if list_any (λ n. bytes_eq n name) names then names else names ++ name ∷ []

abbrev pub marks_with : (Bytes → ℕ) → Option DeviceMark → Bytes → ℕ
marks_with marks None name = marks name
marks_with marks (Some m) name = if bytes_eq m.name name then m.mark else marks name

-- behind an event
abbrev pub past : Stage → Line → Event → World → Stage
past c l e next = record {
  names = names_with c.names (device_of l);
  labels = labels_of e.puts c.labels e.moves;
  moves = c.moves ++ e.moves;
  server_mark = e.server_mark;
  marks = marks_with c.marks e.device_mark;
  world = next;
}

-- ---- the requests that a device ever made

-- the first of them first
abbrev pub made_by : Bytes → List Made → List Made
made_by name made = reverse (filter (λ m. bytes_eq m.device name) made)

-- the one that a number means, the first being 1
abbrev pub nth_made : Bytes → List Made → Ordinal → Option Made
nth_made name made (ordinal.Nth zero) = None
nth_made name made (ordinal.Nth (suc place)) = slice_get (made_by name made) place
nth_made name made ordinal.Beyond = None

-- What is made of a number: a script, its report, and the summary of that.
use Rattle.std.specs.Prelude.{◌≡◌, ℕ, List}
use Rattle.sn_course.specs.Headline.{CarriesHeadline, IsNotAllowed, PasswordsApart, moves_in, shelf_slots}
use Rattle.sn_disk.specs.declared.mem_shelf.MemShelf.{MemShelf}
use Rattle.sn_generator.specs.Generated.{IsGenerated}
use Rattle.sn_laws.specs.Runs.{Legal}
use Rattle.sn_laws.specs.declared.moves.Move.{Move}
use Rattle.sn_report.specs.declared.report.Report.{Report}
use Rattle.sn_script.specs.declared.script.Script.{Script}
use Rattle.sn_summary.specs.Summaries.{IsSummaryOf, summary_text}
use Rattle.sn_summary.specs.declared.summary.Summary.{Summary}

-- The text is the summary of the report that the script of the number, with so many events, carries over the disks that it leaves on this shelf in memory.
-- That script has one password alone, so of the premises of its report it meets that of passwords, whatever the moves are.
pub record IsSummed (memory_shelf : MemShelf) (number count : ℕ) (text : List ℕ) : Type 0 where
  pub script : Script
  pub generated : IsGenerated number count script
  pub apart : (moves : List Move) → PasswordsApart script moves
  pub report : Report
  pub carries : CarriesHeadline script (shelf_slots memory_shelf) report
  pub summary : Summary
  pub sums : Legal (moves_in report.events) → IsSummaryOf report summary
  pub spelled : text ≡ summary_text summary

-- the line of this number is the first of that script that may not come
abbrev pub IsStopped : (number count line : ℕ) → Type 0
IsStopped number count line = (script : Script) × IsGenerated number count script × IsNotAllowed script line

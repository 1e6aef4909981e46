-- What a report comes to, in five numbers.
use Rattle.std.specs.Prelude.{◌≡◌, ℕ, List, [], ◌∷◌, ◌++◌, length, count_by, codes}
use Rattle.std.specs.Fmt.{decimal}
use Rattle.std.specs.List.{flat_map}
use Rattle.sn_laws.specs.Lookups.{Bytes}
use Rattle.sn_laws.specs.Runs.{end}
use Rattle.sn_laws.specs.declared.moves.Move.{Move}
use Rattle.sn_report.specs.declared.report.Event.{Event}
use Rattle.sn_report.specs.declared.report.Report.{Report}
use Rattle.sn_summary.specs.Items.{AreLiveItems, makes_fork, makes_version}
use Rattle.sn_summary.specs.declared.summary.Summary.{Summary}

-- the moves of events, in order
abbrev pub moves_in : List Event → List Move
moves_in events = flat_map (λ e. e.moves) events

-- how many events there are; how many items on the server that aren't deleted; how many versions were made, and how many forks; and how
-- many drafts are left on the devices
pub record IsSummaryOf (report : Report) (summary : Summary) : Type 0 where
  pub events : summary.events ≡ length report.events
  pub live : List Bytes
  pub are_live : AreLiveItems (end (moves_in report.events)).accounts live
  pub items : summary.items ≡ length live
  pub versions : summary.versions ≡ count_by makes_version (moves_in report.events)
  pub forks : summary.forks ≡ count_by makes_fork (moves_in report.events)
  pub drafts : summary.drafts ≡ length (end (moves_in report.events)).drafts

-- a line of a summary: a word, a blank and a number
abbrev pub number_line : List ℕ → ℕ → List ℕ
number_line word n = word ++ (codes " " ++ (decimal n ++ 10 ∷ []))

abbrev pub summary_text : Summary → List ℕ
summary_text s =
    number_line (codes "events") s.events
    ++ (number_line (codes "items") s.items
    ++ (number_line (codes "versions") s.versions ++ (number_line (codes "forks") s.forks ++ number_line (codes "drafts") s.drafts)))

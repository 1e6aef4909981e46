-- A request has one answer at most, and changes the rows in one way at most.
use Rattle.std.specs.Prelude.{◌≡◌, ℕ, List}
use Rattle.sn_rows.specs.Table.{Rows}
use Rattle.sn_rows.specs.declared.change.Change.{Change}
use Rattle.sn_sync.specs.declared.answer.Answer.{Answer}
use Rattle.sn_sync.specs.declared.request.Request.{Request}
use Rattle.sn_account.specs.Rule.{Rule}
use Rattle.sn_account.specs.Sound.{IsSound}

-- of sound rows, a request and a time
abbrev pub IsAnsweredOnce : Type 0
IsAnsweredOnce = (rows : Rows) (r : Request) (now : ℕ) (changes others : List Change) (given other : Answer)
    → IsSound rows → Rule rows r now changes given → Rule rows r now others other → (changes ≡ others) × (given ≡ other)

-- What a request changes is a batch of a server's rows that a log takes.
use Rattle.std.specs.Prelude.{ℕ, ◌≤◌, List, length, All}
use Rattle.sn_journal.specs.Image.{most_payload}
use Rattle.sn_rows.specs.Kinds.{key_kind}
use Rattle.sn_rows.specs.Laws.{Spells}
use Rattle.sn_rows.specs.Spelling.{spelled}
use Rattle.sn_rows.specs.Table.{Rows, key_of}
use Rattle.sn_rows.specs.declared.change.Change.{Change}
use Rattle.sn_rows.specs.declared.kind.RowKind.{RowKind}
use Rattle.sn_rows.specs.declared.kind.RowKind.TheVariants as kind
use Rattle.sn_sync.specs.declared.answer.Answer.{Answer}
use Rattle.sn_sync.specs.declared.request.Request.{Request}
use Rattle.sn_account.specs.Lookups.{Bytes}
use Rattle.sn_account.specs.Rule.{Rule}

-- the kinds of a server's rows
abbrev pub IsServerKind : RowKind → Type 0
IsServerKind kind.Store = Unit {0}
IsServerKind kind.Account = Unit {0}
IsServerKind kind.Generation = Unit {0}
IsServerKind kind.Item = Unit {0}
IsServerKind kind.Owner = ⊥
IsServerKind kind.Set = ⊥
IsServerKind kind.Local = ⊥

-- a batch that a server's log takes: each change is of a server's row, and the bytes that spell them are few enough
abbrev pub IsServerBatch : List Change → Type 0
IsServerBatch changes = All (λ c. IsServerKind (key_kind (key_of c))) changes × (length (spelled changes) ≤ most_payload)

-- each change is of a server's row, and the bytes that spell them fit in one batch
abbrev pub BatchesFit : Type 0
BatchesFit = (rows : Rows) (r : Request) (now : ℕ) (changes : List Change) (given : Answer) (bytes : Bytes)
    → Rule rows r now changes given → Spells bytes changes → All (λ c. IsServerKind (key_kind (key_of c))) changes × (length bytes ≤ most_payload)

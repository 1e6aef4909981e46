-- What each line calls for, of the text that it reads, or of its values alone: an output, or a refusal.
use Rattle.std.specs.Prelude.{◌≡◌, ℕ, List, [], ◌∷◌, ◌++◌}
use Rattle.rand_chacha.specs.ChaCha.{of_seed}
use Rattle.sn_command.specs.CommandLine.{SealLine, OpenLine, GenLine}
use Rattle.sn_status.specs.Errors.{form_error, item_error}
use Rattle.sn_cli.specs.Inputs.{IsOneLine}
use Rattle.sn_status.specs.declared.refusal.Refusal.{Refusal}
use Rattle.sn_status.specs.declared.refusal.Refusal.TheVariants.{InputLong, InputUtf8, Form, Item, Line, NotAllowed, PasswordLine, Client}
use Rattle.sn_items.specs.Draws.{drawn}
pub use Rattle.sn_items.specs.Items.{authentication_half, encryption_half}
use Rattle.sn_items.specs.Opens.{Opens}
use Rattle.sn_items.specs.Refusals.{HasCause}
use Rattle.sn_items.specs.Seals.{IsSealed}
use Rattle.sn_items.specs.declared.error.ItemError.{ItemError}
use Rattle.sn_course.specs.Headline.{CarriesHeadline, IsNotAllowed, shelf_slots}
use Rattle.sn_disk.specs.declared.mem_shelf.MemShelf.{MemShelf}
use Rattle.sn_gen.specs.Sums.{IsStopped, IsSummed}
use Rattle.sn_report.specs.Text.{report_text}
use Rattle.sn_report.specs.declared.report.Report.{Report}
use Rattle.sn_script.specs.Scripts.{IsScript, IsFirstWrong}
use Rattle.sn_script.specs.declared.script.Script.{Script}
use Rattle.sn_string.specs.Grammar.{parts_of}
use Rattle.sn_string.specs.Refusals.{RefusedFor}
use Rattle.sn_string.specs.declared.params.Params.{Params}

-- the parameters of a line of `seal`
pub record HasParams (line : SealLine) (params : Params) : Type 0 where
  pub identifier : params.identifier ≡ line.identifier
  pub cost : params.pw_cost ≡ line.cost
  pub nonce : params.pw_nonce ≡ line.nonce

-- `seal` calls for the plain text's 003 string and a line feed; the initialization vector is the seed's first four words
pub record SealCallsFor (line : SealLine) (seed plain output : List ℕ) : Type 0 where
  pub params : Params
  pub has_params : HasParams line params
  pub text : List ℕ
  pub sealed : IsSealed plain line.uuid (drawn 16 (of_seed seed)).0 (encryption_half line.key) (authentication_half line.key) params text
  pub ended : output ≡ text ++ 10 ∷ []

-- and refuses no text
abbrev pub SealRefuses : List ℕ → Refusal → Type 0
SealRefuses plain refusal = ⊥

-- `open` calls for just the bytes that the input's one line opens to
pub record OpenCallsFor (line : OpenLine) (input plain : List ℕ) : Type 0 where
  pub text : List ℕ
  pub one_line : IsOneLine input text
  pub opens : Opens text line.uuid (encryption_half line.key) (authentication_half line.key) plain

-- the input's one line doesn't open, for this cause
pub record IsUnopened (line : OpenLine) (input : List ℕ) (error : ItemError) : Type 0 where
  pub text : List ℕ
  pub one_line : IsOneLine input text
  pub cause : HasCause text line.uuid (encryption_half line.key) (authentication_half line.key) error

abbrev pub OpenRefuses : OpenLine → List ℕ → Refusal → Type 0
OpenRefuses line input InputLong = ⊥
OpenRefuses line input (InputUtf8 place) = ⊥
OpenRefuses line input (Form refusal) = ⊥
OpenRefuses line input (Item refusal) = IsUnopened line input (item_error refusal)
OpenRefuses line input (Line number) = ⊥
OpenRefuses line input (NotAllowed number) = ⊥
OpenRefuses line input (PasswordLine length) = ⊥
OpenRefuses line input (Client refusal) = ⊥

-- `show` calls for the lines of a 003 string (`Shown.IsShown`), or the text is none, for this cause
abbrev pub ShowRefuses : List ℕ → Refusal → Type 0
ShowRefuses text InputLong = ⊥
ShowRefuses text (InputUtf8 place) = ⊥
ShowRefuses text (Form refusal) = RefusedFor (parts_of text) (form_error refusal)
ShowRefuses text (Item refusal) = ⊥
ShowRefuses text (Line number) = ⊥
ShowRefuses text (NotAllowed number) = ⊥
ShowRefuses text (PasswordLine length) = ⊥
ShowRefuses text (Client refusal) = ⊥

-- `replay` calls for the report that the text's script carries over the disks that it leaves on this shelf in memory
pub record ReplayCallsFor (memory_shelf : MemShelf) (text output : List ℕ) : Type 0 where
  pub script : Script
  pub is : IsScript text script.lines
  pub report : Report
  pub carries : CarriesHeadline script (shelf_slots memory_shelf) report
  pub spelled : output ≡ report_text report

-- or the text is no script: the number of its first line out of the grammar; or it is one, and the line of this number is the first that may not come
abbrev pub ReplayRefuses : List ℕ → Refusal → Type 0
ReplayRefuses text InputLong = ⊥
ReplayRefuses text (InputUtf8 place) = ⊥
ReplayRefuses text (Form refusal) = ⊥
ReplayRefuses text (Item refusal) = ⊥
ReplayRefuses text (Line number) = IsFirstWrong text number
ReplayRefuses text (NotAllowed number) = (script : Script) × IsScript text script.lines × IsNotAllowed script number
ReplayRefuses text (PasswordLine length) = ⊥
ReplayRefuses text (Client refusal) = ⊥

-- `gen` calls for the summary of the report that the script of its number and its count carries over the disks that it leaves on this shelf in memory
abbrev pub GenCallsFor : (memory_shelf : MemShelf) → GenLine → (output : List ℕ) → Type 0
GenCallsFor memory_shelf line output = IsSummed memory_shelf line.number line.count output

-- or the line of this number is the first of that script that may not come
abbrev pub GenRefuses : GenLine → Refusal → Type 0
GenRefuses line InputLong = ⊥
GenRefuses line (InputUtf8 place) = ⊥
GenRefuses line (Form refusal) = ⊥
GenRefuses line (Item refusal) = ⊥
GenRefuses line (Line number) = ⊥
GenRefuses line (NotAllowed number) = IsStopped line.number line.count number
GenRefuses line (PasswordLine length) = ⊥
GenRefuses line (Client refusal) = ⊥

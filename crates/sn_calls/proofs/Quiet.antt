-- A call that asks no server isn't refused for a fault of the link.
use Rattle.std.specs.Prelude.{Ok, Err, Result}
use Rattle.std.proofs.Common.{◌≡◌, ℕ, List, [], refl, ap, sym, subst, ◌∙◌, inl, inr}
use Rattle.rand_chacha.specs.ChaCha.{ChaCha}
use Rattle.sn_client.specs.Calls.{Calls, IfBroken, IfRefused, IsOpen, MayHave, Tells, called_disk, device_disk, device_rows}
use Rattle.sn_device.specs.Runs.{Act, Call, CommitsOnce, EndsCommit, Given, GivesText, Halt, ListsItems, PutsItem, Refuses, Run, StopsAt, WithAccount, WithContent, WithItem, a_uuid, content, delete, edit, list, nothing, put, refused}
use Rattle.sn_device.specs.States.{Bytes}
use Rattle.sn_device.specs.Steps.{What, deletes, edits, puts}
use Rattle.sn_client.specs.declared.called.Called.{Called}
use Rattle.sn_client.specs.declared.called.Called.TheVariants as called
use Rattle.sn_client.specs.declared.device.Device.{Device}
use Rattle.sn_device.specs.declared.error.ClientError.{ClientError}
use Rattle.sn_device.specs.declared.error.ClientError.TheVariants as refusal
use Rattle.sn_disk.specs.declared.disk.Disk.{Ghosts}
use Rattle.sn_rows.specs.Table.{Rows}
use Rattle.sn_rows.specs.declared.change.Change.{Change}
use Rattle.sn_rows.specs.declared.device_rows.OwnerRow.{OwnerRow}
use Rattle.sn_sets.specs.declared.sets.Sets.{Sets}
use Rattle.sn_table.specs.Kept.{Kept}
use Rattle.sn_calls.specs.Making.{end_called, end_told}
use Rattle.sn_calls.specs.Parts.{IsLinkFault}
use Rattle.sn_calls.specs.declared.ends.Answered.{Answered}
use Rattle.sn_calls.specs.declared.ends.CallEnd.{CallEnd}
use Rattle.sn_calls.specs.declared.ends.CallEnd.TheVariants as end

-- the call doesn't end so
abbrev pub IsQuiet : Halt → Type 0
IsQuiet halt = halt ≡ refused refusal.LinkFault → ⊥

stops : (what : What) (changes : List Change) (halt : Halt) → StopsAt what changes halt → IsQuiet halt
stops what changes halt (inl (fits, is)) e = absurd cc
stops what changes halt (inr (inl (large, is))) e = absurd cc
stops what changes halt (inr (inr is)) e = absurd cc

commits : (what : What) (changes : List Change) (given : Given) (left : ChaCha) (acts : List Act) (halt : Halt) → EndsCommit what changes given left acts halt → IsQuiet halt
commits what changes given left acts halt (inl (fits, are, is)) e = absurd cc
commits what changes given left acts halt (inr (none, ends)) e = stops what changes halt ends e

once : (rows : Rows) (words : ChaCha) (what : What) (given : Given) (acts : List Act) (halt : Halt) → CommitsOnce rows words what given acts halt → IsQuiet halt
once rows words what given acts halt (changes, left, step, ends) = commits what changes given left acts halt ends

module _ (acts : List Act) (halt : Halt) where
  with_account : (rows : Rows) (P : OwnerRow → Sets → List Act → Halt → Type 0) → ((owner : OwnerRow) (sets : Sets) → P owner sets acts halt → IsQuiet halt) → WithAccount rows P acts halt → IsQuiet halt
  with_account rows P goes (inl (none, refuses)) e = let is = refuses.1 in absurd cc
  with_account rows P goes (inr (owner, sets, holds, p)) e = goes owner sets p e

  with_content : (text : Bytes) (P : List Act → Halt → Type 0) → (P acts halt → IsQuiet halt) → WithContent text P acts halt → IsQuiet halt
  with_content text P goes (inl (long, refuses)) e = let is = refuses.1 in absurd cc
  with_content text P goes (inr (short, inl (none, refuses))) e = let is = refuses.1 in absurd cc
  with_content text P goes (inr (short, inr (object, p))) e = goes p e

  with_item : (rows : Rows) (sets : Sets) (uuid : Bytes) (P : Bytes → List Act → Halt → Type 0) → ((shown : Bytes) → P shown acts halt → IsQuiet halt) → WithItem rows sets uuid P acts halt → IsQuiet halt
  with_item rows sets uuid P goes (inl (gone, refuses)) e = let is = refuses.1 in absurd cc
  with_item rows sets uuid P goes (inr (number, local, has, stands, inl (nonce, closed, refuses))) e = let is = refuses.1 in absurd cc
  with_item rows sets uuid P goes (inr (number, local, has, stands, inr (shown, shows, p))) e = goes shown p e

  puts_item : (rows : Rows) (words : ChaCha) (owner : OwnerRow) (kind text : Bytes) → PutsItem rows words owner kind text acts halt → IsQuiet halt
  puts_item rows words owner kind text (inl (used, refuses)) e = let is = refuses.1 in absurd cc
  puts_item rows words owner kind text (inr (some, inl (drawn, none, refuses))) e = let is = refuses.1 in absurd cc
  puts_item rows words owner kind text (inr (some, inr (uuid, ends))) e = once rows words (puts uuid kind text) (a_uuid uuid) acts halt ends e

  module _ (least : ℕ) (rows : Rows) (words : ChaCha) where
    gives : (shown : Bytes) → GivesText words shown acts halt → IsQuiet halt
    gives shown (none, is) e = absurd cc

    lists : (owner : OwnerRow) (sets : Sets) → ListsItems rows words owner sets acts halt → IsQuiet halt
    lists owner sets (listed, are, none, is) e = absurd cc

    pub put_quiet : (kind text : Bytes) → Run least (put kind text) rows words acts halt → IsQuiet halt
    put_quiet kind text (inl wants) e = let is = wants.1 in absurd cc
    put_quiet kind text (inr runs) e =
        with_account rows (λ owner sets. WithContent text (PutsItem rows words owner kind text))
        (λ owner sets p. with_content text (PutsItem rows words owner kind text) (puts_item rows words owner kind text) p) runs e

    pub edit_quiet : (uuid text : Bytes) → Run least (edit uuid text) rows words acts halt → IsQuiet halt
    edit_quiet uuid text (inl wants) e = let is = wants.1 in absurd cc
    edit_quiet uuid text (inr runs) e =
        with_account rows (λ owner sets. WithItem rows sets uuid (λ shown. WithContent text (CommitsOnce rows words (edits uuid text) nothing)))
        (λ owner sets p. with_item rows sets uuid (λ shown. WithContent text (CommitsOnce rows words (edits uuid text) nothing))
        (λ shown q. with_content text (CommitsOnce rows words (edits uuid text) nothing) (once rows words (edits uuid text) nothing acts halt) q) p) runs e

    pub delete_quiet : (uuid : Bytes) → Run least (delete uuid) rows words acts halt → IsQuiet halt
    delete_quiet uuid (inl wants) e = let is = wants.1 in absurd cc
    delete_quiet uuid (inr (inl (none, refuses))) e = let is = refuses.1 in absurd cc
    delete_quiet uuid (inr (inr (owner, sets, holds, inl (free, refuses)))) e = let is = refuses.1 in absurd cc
    delete_quiet uuid (inr (inr (owner, sets, holds, inr (used, ends)))) e = once rows words (deletes uuid) nothing acts halt ends e

    pub list_quiet : Run least list rows words acts halt → IsQuiet halt
    list_quiet (inl wants) e = let is = wants.1 in absurd cc
    list_quiet (inr runs) e = with_account rows (ListsItems rows words) (λ owner sets p. lists owner sets p) runs e

    pub content_quiet : (uuid : Bytes) → Run least (content uuid) rows words acts halt → IsQuiet halt
    content_quiet uuid (inl wants) e = let is = wants.1 in absurd cc
    content_quiet uuid (inr runs) e =
        with_account rows (λ owner sets. WithItem rows sets uuid (GivesText words))
        (λ owner sets p. with_item rows sets uuid (GivesText words) (λ shown q. gives shown q) p) runs e

-- none of a call's runs ends so
abbrev pub IsQuietCall : ℕ → Call → ChaCha → Type 0
IsQuietCall least call words = (rows : Rows) (acts : List Act) (halt : Halt) → Run least call rows words acts halt → IsQuiet halt

module _ {D : Type 0} {g : Ghosts D} (device : Device D g) (opens : g.told → (kept : Kept) × IsOpen device kept) where
  -- a device has something
  pub has_some : ((kept : Kept) → IsOpen device kept → ⊥) → ⊥
  has_some none =
      let untold : g.told → ⊥ = λ told. none (opens told).0 (opens told).1 in
      none (record { rows = device_rows device; batches = [] }) (record { rows_are = refl; stands = λ told. absurd (untold told) })

  pub refused_quiet : {T : Type 0} (gives : T → Given) (says : T → Answered) (least : ℕ) (call : Call) (words left : ChaCha) (result : Called (Device D g) D T) (how : CallEnd) → IsQuietCall least call words
      → ((kept : Kept) → IsOpen device kept → Calls {S = Device D g} {D = D} IsOpen (MayHave g.told g.may_leave) gives least call kept words left result)
      → how ≡ end_called says result → IsLinkFault how → ⊥
  refused_quiet gives says least call words left (called.Done next given) how quiet calls end_is fault = subst IsLinkFault end_is fault
  refused_quiet gives says least call words left (called.Broken disk) how quiet calls end_is fault = subst IsLinkFault end_is fault
  refused_quiet gives says least call words left (called.Refused next why) how quiet calls end_is fault =
      has_some (λ kept is.
      let made = calls kept is in
      let why_is : why ≡ refusal.LinkFault = subst IsLinkFault end_is fault in
      quiet kept.rows made.acts made.halt made.runs (made.ends.0 ∙ ap refused why_is))

pub told_quiet : {T : Type 0} (gives : T → Given) (says : T → Answered) (least : ℕ) (call : Call) (rows : Rows) (result : Result T ClientError) (how : CallEnd) → ((words : ChaCha) → IsQuietCall least call words)
    → Tells least call rows gives result → how ≡ end_told says result → IsLinkFault how → ⊥
told_quiet gives says least call rows (Ok given) how quiet tells end_is fault = subst IsLinkFault end_is fault
told_quiet gives says least call rows (Err why) how quiet tells end_is fault =
    let words : ChaCha = record { key = []; stream = 0; word_pos = 0 } in
    let why_is : why ≡ refusal.LinkFault = subst IsLinkFault end_is fault in
    quiet words rows [] (refused why) (tells words) (ap refused why_is)

module _ {D T : Type 0} {g : Ghosts D} (says : T → Answered) where
  -- a fault of the disk, or of the link, is that of the call
  pub fault_broken : (P : D → Type 0) (result : Called (Device D g) D T) (back : D) (how : CallEnd) → IfBroken result P → back ≡ called_disk device_disk result
      → how ≡ end_called says result → how ≡ end.DiskFault → P back
  fault_broken P (called.Done next given) back how broken back_is end_is fault = absurd cc
  fault_broken P (called.Refused next why) back how broken back_is end_is fault = absurd cc
  fault_broken P (called.Broken disk) back how broken back_is end_is fault = subst P (sym back_is) broken

  pub fault_refused : (P : Type 0) (result : Called (Device D g) D T) (how : CallEnd) → IfRefused result (λ why. why ≡ refusal.LinkFault → P)
      → how ≡ end_called says result → IsLinkFault how → P
  fault_refused P (called.Done next given) how refused_so end_is fault = absurd (subst IsLinkFault end_is fault)
  fault_refused P (called.Refused next why) how refused_so end_is fault = refused_so (subst IsLinkFault end_is fault)
  fault_refused P (called.Broken disk) how refused_so end_is fault = absurd (subst IsLinkFault end_is fault)

pub unfaulted : {T : Type 0} (says : T → Answered) (result : Result T ClientError) (how : CallEnd) → how ≡ end_told says result → how ≡ end.DiskFault → ⊥
unfaulted says (Ok given) how end_is fault = absurd cc
unfaulted says (Err why) how end_is fault = absurd cc

-- What is written for a note.
use Rattle.std.proofs.Common.{arith, ◌≡◌, ◌∙◌, ap, ℕ, ◌≤◌, false, List, Some, IsTrue}
use Rattle.std.specs.Prelude.{is_some, option_and_then}
use Rattle.serde_json.specs.Data.{Data, depth}
use Rattle.serde_json.specs.Find.{as_object}
use Rattle.serde_json.specs.Read.{read, max_depth}
use Rattle.serde_json.specs.Written.{compact_text, has_float}
use Rattle.sn_items.specs.Objects.{is_object}
use Rattle.sn_notes.specs.Notes.{note_data, note_text}

pub note_written : (d : Data) (title text note : List ℕ) → d ≡ note_data title text
    → (has_float d ≡ false → note ≡ compact_text d) → note ≡ note_text title text
unfolding note_text
note_written d title text note same written = written (ap has_float same) ∙ ap compact_text same

pub note_object : (d : Data) (title text note : List ℕ) → d ≡ note_data title text
    → (depth d ≤ max_depth → read note ≡ Some d) → IsTrue (is_object note)
unfolding is_object
note_object d title text note same reads =
    let shallow : depth d ≤ max_depth = rw same (omega arith) in
    ap (λ found. is_some (option_and_then as_object found)) (reads shallow ∙ ap Some same)

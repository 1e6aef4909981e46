-- The content of a note.
use Rattle.std.specs.Prelude.{List, ℕ, codes}
use Rattle.serde_json.specs.Data.{Data, array, member, no_items, no_members, object, string}
use Rattle.serde_json.specs.Written.{compact_text}

-- a note without references: its text and its title
abbrev pub note_data : List ℕ → List ℕ → Data
note_data title text = object (member (codes "references") (array no_items)
    (member (codes "text") (string text)
    (member (codes "title") (string title) no_members)))

-- the compact JSON (RFC 8259) of that
unfoldable pub note_text : List ℕ → List ℕ → List ℕ
note_text title text = compact_text (note_data title text)

-- What the answer says that is given where memory is wanting.
use Rattle.std.specs.Prelude.{◌≡◌, ℕ, List, codes, Some}
use Rattle.std.proofs.Common.{refl, sym}
use Rattle.json.proofs.Printed.Utf8.{IsUtf8-are_ascii}
use Rattle.json.specs.Json.{value}
use Rattle.json.specs.Lex.{punctuate, lex}
use Rattle.json.specs.Print.{escape_byte}
use Rattle.json.specs.Text.{content}
use Rattle.serde_json.specs.Data.{Data, member, no_members, object, string}
use Rattle.serde_json.specs.Read.{read}
use Rattle.serde_json.specs.Written.{compact_text}
use Rattle.sn_server.specs.Replies.{no_memory}
use Rattle.sn_sync.specs.Written.{WritesAnswer}

-- its body
abbrev pub wanting_text : List ℕ
wanting_text = codes "{\"error\":{\"tag\":\"memory\"}}"

abbrev wanting_data : Data
wanting_data = object (member (codes "error") (object (member (codes "tag") (string (codes "memory")) no_members)) no_members)

wanting_reads : read wanting_text ≡ Some wanting_data
unfolding value punctuate lex content
wanting_reads = refl

wanting_compact : compact_text wanting_data ≡ wanting_text
unfolding escape_byte
wanting_compact = refl

-- it is written for the refusal
pub wanting_writes : WritesAnswer no_memory wanting_text
wanting_writes = (wanting_data, refl, record { utf8 = IsUtf8-are_ascii wanting_text refl; compact = sym wanting_compact; reads = wanting_reads })

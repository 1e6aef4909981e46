-- The copy that a conflict makes of a content.
use Rattle.std.specs.Prelude.{ℕ, ◌-◌, ◌==◌, ◌||◌, ◌&&◌, nat_le, List, [], ◌++◌, length, take, slice_index, codes, Bool, cond, Option, Some, None}
use Rattle.std.specs.List.{suffix_len}
use Rattle.sn_items.specs.Objects.{is_object}
use Rattle.sn_string.specs.Bounds.{longest_content}
use Rattle.sn_string.specs.Uuids.{uuid_text}

-- white space (RFC 8259, 2): a space, a tab, a line feed, a carriage return
abbrev pub is_space : ℕ → Bool
is_space b = ((b == 32) || (b == 9)) || ((b == 10) || (b == 13))

-- a text without the white space at its end
unfoldable pub trimmed : List ℕ → List ℕ
trimmed text = take (length text - suffix_len is_space text) text

-- the text's last byte is this one, which isn't 0
abbrev pub ends_with_byte : ℕ → List ℕ → Bool
ends_with_byte b text = slice_index text (length text - 1) == b

-- a text without the brace that closes it and the white space behind that; none where no brace closes it
unfoldable pub opened : List ℕ → Option (List ℕ)
opened text = cond (ends_with_byte 125 (trimmed text)) (Some (take (length (trimmed text) - 1) (trimmed text))) None

-- the comma before one more member, which the first member has none of
unfoldable pub comma : List ℕ → List ℕ
comma front = cond (ends_with_byte 123 (trimmed front)) [] (codes ",")

-- an object's text without its last brace, with one more member: of which item it is the copy
unfoldable pub marked : List ℕ → List ℕ → List ℕ
marked front uuid = front ++ (comma front ++ (codes "\"conflict_of\":\"" ++ (uuid_text uuid ++ codes "\"}")))

-- a text, where it is an object of at most so many bytes before it was marked, else the content itself
abbrev pub marked_or : List ℕ → Option (List ℕ) → List ℕ → List ℕ
marked_or content None uuid = content
marked_or content (Some front) uuid =
    cond (nat_le (length content) longest_content && is_object (marked front uuid)) (marked front uuid) content

-- the copy of a content for the item with this uuid: the content with the member `conflict_of`. A content that is
-- longer than any that is put or edited, or whose copy so made is no object, is its own copy
unfoldable pub copy_of : List ℕ → List ℕ → List ℕ
copy_of content uuid = marked_or content (opened content) uuid

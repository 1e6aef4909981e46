-- The order of keys: by the number of their kind, and in a kind by the columns of the key.
use Rattle.std.specs.Prelude.{◌≡◌}
use Rattle.std.specs.Cmp.Lexicographic.{slice_cmp}
use Rattle.std.specs.Ordering.{nat_cmp, ordering_then}
use Rattle.std.specs.declared.cmp.Ordering.{Ordering}
use Rattle.std.specs.declared.cmp.Ordering.TheVariants.{Less, Equal}
use Rattle.sn_rows.specs.Cells.{slot_byte}
use Rattle.sn_rows.specs.Kinds.{key_kind, kind_number}
use Rattle.sn_rows.specs.contracts.key.KeyOrd.TheImpl as code
use Rattle.sn_rows.specs.declared.key.Key.{Key}
use Rattle.sn_rows.specs.declared.key.Key.TheVariants as key

-- keys of one kind: by the account's number and then the generation's, by the bytes of the uuid from the
-- first on, by the slot's number, by the local number
abbrev pub column_order : Key → Key → Ordering
column_order (key.Account n) (key.Account m) = nat_cmp n m
column_order (key.Generation n g) (key.Generation m h) = ordering_then (nat_cmp n m) (nat_cmp g h)
column_order (key.Item u) (key.Item w) = slice_cmp nat_cmp u w
column_order (key.Set s) (key.Set t) = nat_cmp (slot_byte s) (slot_byte t)
column_order (key.Local n) (key.Local m) = nat_cmp n m
column_order a b = Equal

abbrev pub key_order : Key → Key → Ordering
key_order a b = ordering_then (nat_cmp (kind_number (key_kind a)) (kind_number (key_kind b))) (column_order a b)

-- the key comes before the other
abbrev pub ComesBefore : Key → Key → Type 0
ComesBefore a b = key_order a b ≡ Less

-- how the code compares keys
abbrev pub code_order : Key → Key → Ordering
code_order = code.ghosts.cmp

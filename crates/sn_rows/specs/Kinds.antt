-- The kinds of rows.
use Rattle.std.specs.Prelude.{ℕ, ◌==◌, Option, Some, None, if◌then◌else◌}
use Rattle.sn_rows.specs.declared.kind.RowKind.{RowKind}
use Rattle.sn_rows.specs.declared.kind.RowKind.TheVariants.{Store, Account, Generation, Item, Owner, Set, Local}
use Rattle.sn_rows.specs.declared.key.Key.{Key}
use Rattle.sn_rows.specs.declared.key.Key.TheVariants as key
use Rattle.sn_rows.specs.declared.value.Value.{Value}
use Rattle.sn_rows.specs.declared.value.Value.TheVariants as value

-- the number of a kind in the bytes
abbrev pub kind_number : RowKind → ℕ
kind_number Store = 1
kind_number Account = 2
kind_number Generation = 3
kind_number Item = 4
kind_number Owner = 17
kind_number Set = 18
kind_number Local = 19

-- the kind of a number
abbrev pub kind_of_number : ℕ → Option RowKind
kind_of_number n =
    if n == 1 then Some Store
    else if n == 2 then Some Account
    else if n == 3 then Some Generation
    else if n == 4 then Some Item
    else if n == 17 then Some Owner
    else if n == 18 then Some Set
    else if n == 19 then Some Local
    else None

-- the kind of the rows that a key names
abbrev pub key_kind : Key → RowKind
key_kind key.Store = Store
key_kind (key.Account n) = Account
key_kind (key.Generation n g) = Generation
key_kind (key.Item u) = Item
key_kind key.Owner = Owner
key_kind (key.Set s) = Set
key_kind (key.Local n) = Local

-- the kind of the rows that have a value
abbrev pub value_kind : Value → RowKind
value_kind (value.Store row) = Store
value_kind (value.Account row) = Account
value_kind (value.Generation row) = Generation
value_kind (value.Item row) = Item
value_kind (value.Owner row) = Owner
value_kind (value.Set row) = Set
value_kind (value.Local row) = Local

-- That a map has room for each change of a list has at most one proof, so it may stand as a rule of a struct.
use Rattle.std.specs.Prelude.{List, All, is_some, true}
use Rattle.std.specs.BTreeMap.{get}
use Rattle.std.specs.Coded.{Coded-set, coded_bool, Unit-prop, Π_prop, →_prop}
use Rattle.sn_rows.specs.declared.change.Change.{Change}
use Rattle.sn_rows.specs.declared.change.Change.TheVariants.{Put, Remove}
use Rattle.sn_row_map.specs.Keys.{key_cmp}
use Rattle.sn_row_map.specs.RowMaps.{FitsIn, HasRoom}
use Rattle.sn_row_map.specs.declared.row_map.RowMap.{RowMap}

FitsIn-prop : (map : RowMap) (change : Change) → IsProp (FitsIn map change)
unfolding HasRoom
FitsIn-prop map (Put row) = Coded-set coded_bool (is_some (get key_cmp map.entries row.key)) true
FitsIn-prop map (Remove key) = Unit-prop

pub all_fit-prop : (map : RowMap) (changes : List Change) → IsProp (All (FitsIn map) changes)
all_fit-prop map changes = Π_prop (λ k. Π_prop (λ d. →_prop (FitsIn-prop map _)))

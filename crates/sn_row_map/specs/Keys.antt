-- How the code compares keys, which is by their order.
use Rattle.std.specs.declared.cmp.Ordering.{Ordering}
use Rattle.sn_rows.specs.Order.{code_order}
use Rattle.sn_rows.specs.declared.key.Key.{Key}

abbrev pub key_cmp : Key → Key → Ordering
key_cmp = code_order

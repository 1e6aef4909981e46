-- What a reading says of a text.
use Rattle.std.proofs.Common.{◌≡◌, ◌∙◌, ap, sym, List, ℕ, Bool, false, Option, Some, None}
use Rattle.std.specs.Prelude.{is_some, option_and_then}
use Rattle.serde_json.specs.Data.{Data}
use Rattle.serde_json.specs.Find.{as_object}
use Rattle.serde_json.specs.Read.{read}
use Rattle.sn_items.specs.Objects.{is_object}

pub object_read : (text : List ℕ) (value : Data) → read text ≡ Some value → is_some (as_object value) ≡ is_object text
unfolding is_object
object_read text value reads = ap (λ found. is_some (option_and_then as_object found)) (sym reads)

pub none_read : (text : List ℕ) → read text ≡ None → false ≡ is_object text
unfolding is_object
none_read text reads = ap (λ found. is_some (option_and_then as_object found)) (sym reads)

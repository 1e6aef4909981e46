-- The data that a tree stands for, where each number in it has a value.
use Rattle.std.specs.Prelude.{unwrap_or}
use Rattle.json.specs.Json as json
use Rattle.json.specs.Value.{items_view as trees_view, value_view}
use Rattle.serde_json.specs.Data.{Data, Items, no_items, null}
use Rattle.serde_json.specs.Read.{of_items, of_json}
use Rattle.sn_json.specs.declared.list.Nodes.{Nodes}
use Rattle.sn_json.specs.declared.node.Node.{Node}
use Rattle.sn_json.specs.declared.reading.Document.{Document}

abbrev pub data_of : json.Json → Data
data_of j = unwrap_or (of_json j) null

abbrev pub items_of : json.Items → Items
items_of js = unwrap_or (of_items js) no_items

-- each that is lent has data, so the null and the empty list are never those of a tree without
unfoldable pub view : Node → Data
view node = data_of (value_view node.value.now)

unfoldable pub items_view : Nodes → Items
items_view nodes = items_of (trees_view nodes.values.now)

unfoldable pub document_view : Document → Data
document_view document = data_of (value_view document.tree)

-- One turn of a walk: the batches before an exchange, and the exchange.
use Rattle.std.specs.Prelude.{◌≡◌, ◌++◌, ◌∷◌, [], List, Option}
use Rattle.sn_laws.specs.Lookups.{Bytes}
use Rattle.sn_laws.specs.declared.moves.Move.{Move}
use Rattle.sn_recorder.specs.declared.exchanged.Exchanged.{Exchanged}
use Rattle.sn_rows.specs.Table.{Rows}
use Rattle.sn_rows.specs.declared.change.Change.{Change}
use Rattle.sn_string.specs.declared.params.KeySet.{KeySet}
use Rattle.sn_telling.specs.Walking.{IsBegunIn, IsReadAs, SaysBatches, SaysGained, asks_sync, front, rest, rows_behind_all}
use Rattle.sn_telling.specs.declared.calling.Calling.{Calling}
use Rattle.sn_telling.specs.declared.known.Known.{Known}
use Rattle.sn_telling.specs.declared.telling.Walk.{Walk}

-- what these batches of the device say, and then those by which the server answered its request, and which set that would begin
pub record SaysTurn (call : Calling) (server rows : Rows) (name : Bytes) (answer : Option Bytes) (batches : List (List Change)) (found : Option Known)
    (gained : List (List Change)) (said : List Move) (begins : Option KeySet) (server_now rows_now : Rows) : Type 0 where
  pub first : List Move
  pub served : List Move
  pub first_says : SaysBatches call server rows name answer batches first
  pub would : IsBegunIn call (rows_behind_all rows batches) found begins
  pub served_says : SaysGained server (rows_behind_all rows batches) name begins found gained served
  pub server_is : server_now ≡ rows_behind_all server gained
  pub rows_are : rows_now ≡ rows_behind_all rows batches
  pub said_is : said ≡ first ++ served

-- by an exchange a walk goes on from where it stands to where it stands now
pub record GoesOn (call : Calling) (name : Bytes) (server rows : Rows) (at : Walk) (e : Exchanged) (server_now rows_now : Rows) (now : Walk) : Type 0 where
  pub found : Option Known
  pub said : List Move
  pub begins : Option KeySet
  pub read : IsReadAs e.request found
  pub turn : SaysTurn call server rows name at.answer (front at.heard (asks_sync found) at.left.items) found e.batches said begins server_now rows_now
  pub moves_are : now.told.moves ≡ at.told.moves ++ said
  pub begun_are : now.told.begun ≡ at.told.begun ++ begins ∷ []
  pub requests_are : now.told.requests ≡ at.told.requests ++ e.request ∷ []
  pub heard_is : now.heard ≡ asks_sync found
  pub answer_is : now.answer ≡ e.answer
  pub left_are : now.left.items ≡ rest at.heard (asks_sync found) at.left.items

-- The table of kinds: the columns of each kind's key and value, and what a key or a value has in them.
use Rattle.std.specs.Prelude.{List, [], ◌∷◌, Option, Some, None}
use Rattle.sn_rows.specs.Bounds.{is_identifier, is_nonce, is_server_string, is_sync_token, is_token, is_type}
use Rattle.sn_rows.specs.Cells.{Body, Cell, narrow, wide, plain, text, flag, slot, base, body, Column, number, stamp, cost, fixed, text_that, item_type, yes_or_no, which_set, base_stamp, version}
use Rattle.sn_rows.specs.declared.kind.RowKind.{RowKind}
use Rattle.sn_rows.specs.declared.kind.RowKind.TheVariants.{Store, Account, Generation, Item, Owner, Set, Local}
use Rattle.sn_rows.specs.declared.key.Key.{Key}
use Rattle.sn_rows.specs.declared.key.Key.TheVariants as key
use Rattle.sn_rows.specs.declared.body.RowBody.{RowBody}
use Rattle.sn_rows.specs.declared.body.RowBody.TheVariants.{Deleted, Sealed}
use Rattle.sn_rows.specs.declared.value.Value.{Value}
use Rattle.sn_rows.specs.declared.value.Value.TheVariants as value

abbrev pub key_columns : RowKind → List Column
key_columns Store = []
key_columns Account = number ∷ []
key_columns Generation = number ∷ number ∷ []
key_columns Item = fixed 16 ∷ []
key_columns Owner = []
key_columns Set = which_set ∷ []
key_columns Local = number ∷ []

abbrev pub value_columns : RowKind → List Column
-- secret, last stamp, accounts
value_columns Store = fixed 32 ∷ stamp ∷ number ∷ []
-- identifier, generation, check
value_columns Account = text_that is_identifier ∷ number ∷ fixed 32 ∷ []
-- cost, nonce
value_columns Generation = cost ∷ text_that is_nonce ∷ []
-- account, type, created, updated, deleted, content, item key
value_columns Item = number ∷ item_type ∷ stamp ∷ stamp ∷ yes_or_no ∷ text_that is_server_string ∷ text_that is_server_string ∷ []
-- identifier, account, session token, sync token, cursor token, next local number
value_columns Owner = text_that is_identifier ∷ fixed 16 ∷ text_that is_token ∷ text_that is_sync_token ∷ text_that is_sync_token ∷ number ∷ []
-- cost, nonce, the three keys
value_columns Set = cost ∷ text_that is_nonce ∷ fixed 32 ∷ fixed 32 ∷ fixed 32 ∷ []
-- uuid, type, base, stale, body, latest, posted
value_columns Local = fixed 16 ∷ text_that is_type ∷ base_stamp ∷ yes_or_no ∷ version ∷ version ∷ version ∷ []

abbrev pub key_cells : Key → List Cell
key_cells key.Store = []
key_cells (key.Account n) = wide n ∷ []
key_cells (key.Generation n g) = wide n ∷ wide g ∷ []
key_cells (key.Item uuid) = plain uuid ∷ []
key_cells key.Owner = []
key_cells (key.Set s) = slot s ∷ []
key_cells (key.Local n) = wide n ∷ []

abbrev pub body_of : Option RowBody → Body
body_of None = None
body_of (Some Deleted) = Some None
body_of (Some (Sealed strings)) = Some (Some (strings.content, strings.enc))

abbrev pub value_cells : Value → List Cell
value_cells (value.Store r) = plain r.secret ∷ wide r.last ∷ wide r.accounts ∷ []
value_cells (value.Account r) = text r.identifier ∷ wide r.generation ∷ plain r.check ∷ []
value_cells (value.Generation r) = narrow r.pw_cost ∷ text r.pw_nonce ∷ []
value_cells (value.Item r) = wide r.account ∷ text r.kind ∷ wide r.created ∷ wide r.updated ∷ flag r.deleted ∷ text r.content ∷ text r.enc ∷ []
value_cells (value.Owner r) = text r.identifier ∷ plain r.account ∷ text r.token ∷ text r.sync_token ∷ text r.cursor_token ∷ wide r.next ∷ []
value_cells (value.Set r) = narrow r.pw_cost ∷ text r.pw_nonce ∷ plain r.pw ∷ plain r.mk ∷ plain r.ak ∷ []
value_cells (value.Local r) = plain r.uuid ∷ text r.kind ∷ base r.base ∷ flag r.stale ∷ body (body_of r.body) ∷ body (body_of r.latest) ∷ body (body_of r.posted) ∷ []

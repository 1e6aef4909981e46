-- A batch of the server says one list of moves.
use Rattle.std.proofs.Common.{◌≡◌, List, [], ◌∷◌, ◌++◌, Option, sym, ap, ◌∙◌, inl, inr}
use Rattle.sn_laws.specs.Lookups.{Bytes}
use Rattle.sn_laws.specs.declared.moves.Move.{Move}
use Rattle.sn_rows.specs.Table.{Rows, rows_after}
use Rattle.sn_rows.specs.declared.change.Change.{Change}
use Rattle.sn_rows.specs.declared.change.Change.TheVariants.{Put, Remove}
use Rattle.sn_rows.specs.declared.key.Key.{Key}
use Rattle.sn_rows.specs.declared.key.Key.TheVariants as key
use Rattle.sn_rows.specs.declared.server_rows.ItemRow.{ItemRow}
use Rattle.sn_rows.specs.declared.value.Value.{Value}
use Rattle.sn_rows.specs.declared.value.Value.TheVariants as value
use Rattle.sn_string.specs.declared.params.KeySet.{KeySet}
use Rattle.sn_sync.specs.declared.request.Request.{Request}
use Rattle.sn_sync.specs.declared.request.Request.TheVariants as request
use Rattle.sn_world.specs.Serving.{SaysChange, SaysChanges, SaysItem, SaysRoute, SaysRow}
use Rattle.sn_saying.specs.Laws.{SaidOnce}

one_item : (server device : Rows) (name uuid : Bytes) (row : ItemRow) (ms ns : List Move) → SaysItem server device name uuid row ms
    → SaysItem server device name uuid row ns → ms ≡ ns
one_item server device name uuid row ms ns (inl (sent, is)) (inl (sent_too, is_too)) = is ∙ sym is_too
one_item server device name uuid row ms ns (inl (sent, is)) (inr (unsent, is_too)) = absurd (unsent sent)
one_item server device name uuid row ms ns (inr (unsent, is)) (inl (sent, is_too)) = absurd (unsent sent)
one_item server device name uuid row ms ns (inr (unsent, is)) (inr (unsent_too, is_too)) = is ∙ sym is_too

one_row : (server device : Rows) (name : Bytes) (at : Key) (v : Value) (ms ns : List Move) → SaysRow server device name at v ms
    → SaysRow server device name at v ns → ms ≡ ns
one_row server device name (key.Item uuid) (value.Item row) ms ns h k = one_item server device name uuid row ms ns h k
one_row server device name at v ms ns h k = h ∙ sym k

one_change : (server device : Rows) (name : Bytes) (change : Change) (ms ns : List Move) → SaysChange server device name change ms
    → SaysChange server device name change ns → ms ≡ ns
one_change server device name (Put row) ms ns h k = one_row server device name row.key row.value ms ns h k
one_change server device name (Remove at) ms ns h k = h ∙ sym k

one_batch : (server device : Rows) (name : Bytes) (changes : List Change) (ms ns : List Move) → SaysChanges server device name changes ms
    → SaysChanges server device name changes ns → ms ≡ ns
one_batch server device name [] ms ns h k = h ∙ sym k
one_batch server device name (c ∷ cs) ms ns (first, later, says, rest, is) (first_too, later_too, says_too, rest_too, is_too) =
    is
    ∙ ap (λ (os : List Move). os ++ later) (one_change server device name c first first_too says says_too)
    ∙ ap (λ (os : List Move). first_too ++ os) (one_batch (rows_after server (c ∷ [])) device name cs later later_too rest rest_too)
    ∙ sym is_too

one_route : (server device : Rows) (name : Bytes) (begins : Option KeySet) (r : Request) (changes : List Change) (ms ns : List Move)
    → SaysRoute server device name begins r changes ms → SaysRoute server device name begins r changes ns → ms ≡ ns
one_route server device name begins (request.Register params pw) changes ms ns h k = h ∙ sym k
one_route server device name begins (request.Params identifier) changes ms ns h k = h ∙ sym k
one_route server device name begins (request.SignIn identifier pw) changes ms ns h k = h ∙ sym k
one_route server device name begins (request.ChangePw token current pw cost nonce) changes ms ns h k = h ∙ sym k
one_route server device name begins (request.Sync token items limit sync_token cursor_token) changes ms ns h k =
    one_batch server device name changes ms ns h k

pub said_once : SaidOnce
said_once server device m changes ms ns h k = one_route server device m.device m.begins m.request changes ms ns h k

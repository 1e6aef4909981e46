-- One more change of a batch of the server.
use Rattle.std.proofs.Common.{◌≡◌, List, [], ◌∷◌, ◌++◌, refl, sym, ap, ◌∙◌, subst, append_assoc}
use mathlib.Core.Path.{fun_ext}
use Rattle.sn_laws.specs.Lookups.{Bytes}
use Rattle.sn_laws.specs.declared.moves.Move.{Move}
use Rattle.sn_rows.specs.Facts.{row_after-append}
use Rattle.sn_rows.specs.Table.{Rows, rows_after}
use Rattle.sn_rows.specs.declared.change.Change.{Change}
use Rattle.sn_rows.specs.declared.change.Change.TheVariants.{Put}
use Rattle.sn_rows.specs.declared.change.Row.{Row}
use Rattle.sn_rows.specs.declared.key.Key.{Key}
use Rattle.sn_rows.specs.declared.key.Key.TheVariants as key
use Rattle.sn_rows.specs.declared.server_rows.ItemRow.{ItemRow}
use Rattle.sn_rows.specs.declared.value.Value.{Value}
use Rattle.sn_rows.specs.declared.value.Value.TheVariants as value
use Rattle.sn_world.specs.Serving.{SaysChange, SaysChanges, SaysItem, SaysRow}
use Rattle.sn_saying.specs.Lone.{LoneChange, LoneChanges, LoneRow}

pub after_both : (rows : Rows) (first second : List Change) → rows_after rows (first ++ second) ≡ rows_after (rows_after rows first) second
after_both rows first second = fun_ext (λ at. row_after-append (rows at) at first second)

-- the rows behind one more change
pub rows_more : (rows now next : Rows) (made : List Change) (change : Change) → now ≡ rows_after rows made → next ≡ rows_after now (change ∷ [])
    → next ≡ rows_after rows (made ++ change ∷ [])
rows_more rows now next made change now_is next_is =
    next_is ∙ ap (λ (r : Rows). rows_after r (change ∷ [])) now_is ∙ sym (after_both rows made (change ∷ []))

nothing_behind : (xs : List Move) → xs ++ [] ≡ xs
nothing_behind [] = refl
nothing_behind (x ∷ xs) = ap (λ (ys : List Move). x ∷ ys) (nothing_behind xs)

-- what a change says behind others
one_more : (server device : Rows) (name : Bytes) (changes : List Change) (change : Change) (ms ns : List Move) → SaysChanges server device name changes ms
    → SaysChange (rows_after server changes) device name change ns → SaysChanges server device name (changes ++ change ∷ []) (ms ++ ns)
one_more server device name [] change ms ns h k =
    subst (λ (os : List Move). SaysChanges server device name (change ∷ []) (os ++ ns)) (sym h) (ns, [], k, refl, sym (nothing_behind ns))
one_more server device name (c ∷ cs) change ms ns (first, later, says, rest, is) k = (
  first,
  later ++ ns,
  says,
  one_more (rows_after server (c ∷ [])) device name cs change later ns rest k,
  ap (λ (os : List Move). os ++ ns) is ∙ append_assoc first later ns,
)

-- of a change behind others it is as of them all
pub lone_more : (server device : Rows) (changes : List Change) (change : Change) → LoneChanges server device changes
    → LoneChange (rows_after server changes) device change → LoneChanges server device (changes ++ change ∷ [])
lone_more server device [] change h k = (k, tt)
lone_more server device (c ∷ cs) change h k = (h.0, lone_more (rows_after server (c ∷ [])) device cs change h.1 k)

lone_both : (server device : Rows) (changes : List Change) (change : Change) → LoneChanges server device (changes ++ change ∷ [])
    → LoneChanges server device changes × LoneChange (rows_after server changes) device change
lone_both server device [] change h = (tt, h.0)
lone_both server device (c ∷ cs) change h = let rest = lone_both (rows_after server (c ∷ [])) device cs change h.1 in ((h.0, rest.0), rest.1)

-- where each item of an account with one set is what the device has sent, the moves so far are what the changes so far say
abbrev pub SaysLone : Rows → Rows → Bytes → List Change → List Move → Type 0
SaysLone server device name changes moves = LoneChanges server device changes → SaysChanges server device name changes moves

pub says_more : (server now device : Rows) (name : Bytes) (made : List Change) (change : Change) (ms ns next : List Move) → now ≡ rows_after server made
    → SaysLone server device name made ms → (LoneChange now device change → SaysChange now device name change ns) → next ≡ ms ++ ns
    → SaysLone server device name (made ++ change ∷ []) next
says_more server now device name made change ms ns next now_is so_far says next_is =
    let here : LoneChange (rows_after server made) device change → SaysChange (rows_after server made) device name change ns =
    subst (λ (r : Rows). LoneChange r device change → SaysChange r device name change ns) now_is says in
    subst (λ (os : List Move). SaysLone server device name (made ++ change ∷ []) os) (sym next_is)
    (λ lone. let both = lone_both server device made change lone in one_more server device name made change ms ns (so_far both.0) (here both.1))

-- an item's row that is put says what is said of the item
pub says_put : (server device : Rows) (name : Bytes) (change : Change) (row : Row) (uuid : Bytes) (item : ItemRow) (ms : List Move) → change ≡ Put row
    → row.key ≡ key.Item uuid → row.value ≡ value.Item item
    → (LoneRow server device (key.Item uuid) (value.Item item) → SaysItem server device name uuid item ms)
    → LoneChange server device change → SaysChange server device name change ms
says_put server device name change row uuid item ms change_is key_is value_is says =
    let Said : Key → Value → Type 0 = λ k v. LoneRow server device k v → SaysRow server device name k v ms in
    let named : Said row.key row.value =
    subst (λ (k : Key). Said k row.value) (sym key_is) (subst (λ (v : Value). Said (key.Item uuid) v) (sym value_is) says) in
    subst (λ (c : Change). LoneChange server device c → SaysChange server device name c ms) (sym change_is) named

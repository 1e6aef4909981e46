-- The moves that a server's batch says: those of each change, over the rows that the changes before have left; and there are no others.
use Rattle.std.proofs.Common.{◌≡◌, ℕ, List, [], ◌∷◌, ◌++◌, length, Option, Some, refl, sym, ap, ◌∙◌, subst, inl, inr, append_assoc}
use Rattle.sn_laws.specs.Lookups.{Bytes}
use Rattle.sn_laws.specs.declared.ideal.Account.{Account}
use Rattle.sn_laws.specs.declared.moves.Move.{Move}
use Rattle.sn_rows.specs.Table.{Puts, Rows, rows_after}
use Rattle.sn_rows.specs.declared.change.Change.{Change}
use Rattle.sn_rows.specs.declared.change.Change.TheVariants.{Put, Remove}
use Rattle.sn_rows.specs.declared.key.Key.{Key}
use Rattle.sn_rows.specs.declared.key.Key.TheVariants as key
use Rattle.sn_rows.specs.declared.server_rows.ItemRow.{ItemRow}
use Rattle.sn_rows.specs.declared.value.Value.{Value}
use Rattle.sn_rows.specs.declared.value.Value.TheVariants as value
use Rattle.sn_shows.specs.Servers.{ShowsAccounts, ShowsIdentity, account_at}
use Rattle.sn_world.specs.Serving.{SaysChange, SaysChanges, SaysItem, SaysRow, generation_of}

-- ---- a change that puts a row

pub put_says : (server device : Rows) (name : Bytes) (change : Change) (at : Key) (v : Value) (moves : List Move) → Puts change at v
    → SaysRow server device name at v moves → SaysChange server device name change moves
put_says server device name (Put row) at v moves p h =
    let e : row.value ≡ v = cc in
    subst (λ (k : Key). SaysRow server device name k row.value moves) (sym p.key_is)
    (subst (λ (x : Value). SaysRow server device name at x moves) (sym e) h)
put_says server device name (Remove k) at v moves p h = absurd (cc)

-- ---- a batch

-- of one change
pub one_says : (server device : Rows) (name : Bytes) (change : Change) (moves : List Move) → SaysChange server device name change moves
    → SaysChanges server device name (change ∷ []) moves
one_says server device name change moves h = (moves, [], h, refl, sym (nothing_behind moves))
  where
    nothing_behind : (xs : List Move) → xs ++ [] ≡ xs
    nothing_behind [] = refl
    nothing_behind (x ∷ xs) = ap (λ (ys : List Move). x ∷ ys) (nothing_behind xs)

-- of one behind another
pub both_say : (server device : Rows) (name : Bytes) (xs ys : List Change) (ms ns : List Move) → SaysChanges server device name xs ms
    → SaysChanges (rows_after server xs) device name ys ns → SaysChanges server device name (xs ++ ys) (ms ++ ns)
both_say server device name [] ys ms ns h k = subst (λ (os : List Move). SaysChanges server device name ys (os ++ ns)) (sym h) k
both_say server device name (x ∷ xs) ys ms ns (first, later, says, rest, is) k = (
  first,
  later ++ ns,
  says,
  both_say (rows_after server (x ∷ [])) device name xs ys later ns rest k,
  ap (λ (os : List Move). os ++ ns) is ∙ append_assoc first later ns,
)

-- ---- what a change says is one list of moves

one_item : (server device : Rows) (name uuid : Bytes) (row : ItemRow) (ms ns : List Move) → SaysItem server device name uuid row ms
    → SaysItem server device name uuid row ns → ms ≡ ns
one_item server device name uuid row ms ns (inl (sent, is)) (inl (sent_too, is_too)) = is ∙ sym is_too
one_item server device name uuid row ms ns (inl (sent, is)) (inr (unsent, is_too)) = absurd (unsent sent)
one_item server device name uuid row ms ns (inr (unsent, is)) (inl (sent, is_too)) = absurd (unsent sent)
one_item server device name uuid row ms ns (inr (unsent, is)) (inr (unsent_too, is_too)) = is ∙ sym is_too

one_row : (server device : Rows) (name : Bytes) (at : Key) (v : Value) (ms ns : List Move) → SaysRow server device name at v ms
    → SaysRow server device name at v ns → ms ≡ ns
one_row server device name (key.Item uuid) (value.Item row) ms ns h k = one_item server device name uuid row ms ns h k
one_row server device name at v ms ns h k = h ∙ sym k

one_change : (server device : Rows) (name : Bytes) (change : Change) (ms ns : List Move) → SaysChange server device name change ms
    → SaysChange server device name change ns → ms ≡ ns
one_change server device name (Put row) ms ns h k = one_row server device name row.key row.value ms ns h k
one_change server device name (Remove at) ms ns h k = h ∙ sym k

-- and so is what a batch says
pub one_said : (server device : Rows) (name : Bytes) (changes : List Change) (ms ns : List Move) → SaysChanges server device name changes ms
    → SaysChanges server device name changes ns → ms ≡ ns
one_said server device name [] ms ns h k = h ∙ sym k
one_said server device name (c ∷ cs) ms ns (first, later, says, rest, is) (first_too, later_too, says_too, rest_too, is_too) =
    is
    ∙ ap (λ (os : List Move). os ++ later) (one_change server device name c first first_too says says_too)
    ∙ ap (λ (os : List Move). first_too ++ os) (one_said (rows_after server (c ∷ [])) device name cs later later_too rest rest_too)
    ∙ sym is_too

-- ---- the last set's number, by the account's row

pub last_number : (rows : Rows) (accounts : List Account) (n k : ℕ) (a : Account) → ShowsAccounts rows accounts → account_at n accounts ≡ Some a → k ≡ n
    → generation_of (rows (key.Account k)) ≡ length a.sets
last_number rows accounts n k a h at same =
    let its : ShowsIdentity rows n a = (h.each n a at).identity in
    ap (λ (m : ℕ). generation_of (rows (key.Account m))) same ∙ ap (λ (o : Option Value). generation_of o) its.stands ∙ its.generation

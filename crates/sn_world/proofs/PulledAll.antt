-- What all that an answer tells leaves of how far a device has pulled.
use Rattle.std.proofs.Common.{◌⊎◌, ℕ, List, [], ◌∷◌, Option, Some, None, true, false, sym, ap, ◌∙◌, subst, inl, inr}
use Rattle.std.specs.List.{Contains}
use Rattle.sn_account.specs.Tells.{IsOthers}
use Rattle.sn_device.specs.Laws.{AreStanding}
use Rattle.sn_device.specs.States.{Columns, HasLocal}
use Rattle.sn_device.specs.Taking.{Progress, Renames, Told, is_conflict, is_retrieved, is_saved}
use Rattle.sn_laws.specs.Each.{Each}
use Rattle.sn_laws.specs.Lookups.{Bytes}
use Rattle.sn_laws.specs.Runs.{end_from}
use Rattle.sn_laws.specs.declared.ideal.Account.{Account}
use Rattle.sn_laws.specs.declared.ideal.Device.{Device}
use Rattle.sn_laws.specs.declared.ideal.Ideal.{Ideal}
use Rattle.sn_laws.specs.declared.moves.Move.{Move}
use Rattle.sn_rows.specs.Table.{Rows}
use Rattle.sn_rows.specs.declared.body.RowBody.{RowBody}
use Rattle.sn_rows.specs.declared.body.RowBody.TheVariants as row
use Rattle.sn_rows.specs.declared.device_rows.LocalItem.{LocalItem}
use Rattle.sn_rows.specs.declared.device_rows.OwnerRow.{OwnerRow}
use Rattle.sn_rows.specs.declared.key.Key.TheVariants as key
use Rattle.sn_sets.specs.declared.sets.Sets.{Sets}
use Rattle.sn_sync.specs.Versions.{uuids}
use Rattle.sn_sync.specs.declared.answer.Conflict.TheVariants as conflict
use Rattle.sn_sync.specs.declared.item.Item.{Item}
use Rattle.sn_world.proofs.AtLast.{IsAtLast}
use Rattle.sn_world.proofs.DeviceRows.{one_local}
use Rattle.sn_world.proofs.Pulling.{PullsOne, one_keeps, server_pulled}
use Rattle.sn_world.proofs.Pulls.{StaysAt, stays_on, stays_put, stays_removed, stays_same}
use Rattle.sn_world.proofs.TakenAll.{Good, ToldApart, all_left, checked_of, one_told, server_of, takes_of}
use Rattle.sn_world.proofs.TakenFrames.{Along}
use Rattle.sn_world.proofs.TakenMet.{TakingLaws}
use Rattle.sn_world.proofs.TakenRenamed.{no_base}
use Rattle.sn_world.specs.Applying.{SaysAllTold, SaysForeign, SaysTold}
use Rattle.sn_world.specs.Pulled.{PulledAt}

-- what was pulled up to a stamp is
abbrev pub Keeps : Account → Rows → Rows → Type 0
Keeps a rows later = (uuid : Bytes) (upto : ℕ) → PulledAt rows a upto uuid → PulledAt later a upto uuid

-- the item of a version that is dealt with is at its last one
abbrev pub IsPassed : Rows → Account → List Item → Item → Type 0
IsPassed rows a saved i = Contains (uuids saved) i.uuid ⊎ IsAtLast rows a i.uuid

abbrev pub MetAt : Rows → Account → List Item → Told → Type 0
MetAt rows a saved (is_saved i) = IsAtLast rows a i.uuid
MetAt rows a saved (is_conflict c) = Unit {0}
MetAt rows a saved (is_retrieved i) = IsPassed rows a saved i

met_later : (rows later : Rows) (a : Account) (saved : List Item) (t : Told) → Keeps a rows later → MetAt rows a saved t → MetAt later a saved t
met_later rows later a saved (is_saved i) keeps met = λ upto. keeps i.uuid upto (met upto)
met_later rows later a saved (is_conflict c) keeps met = tt
met_later rows later a saved (is_retrieved i) keeps (inl has) = inl has
met_later rows later a saved (is_retrieved i) keeps (inr met) = inr (λ upto. keeps i.uuid upto (met upto))

module _ (laws : TakingLaws) (server : Rows) (name : Bytes) (n : ℕ) (a : Account) (d : Device) (owner : OwnerRow) (sets : Sets)
    (saved : List Item) where
  abbrev AlongHere : Progress → Ideal → Type 0
  AlongHere p s = Along server name n a d owner sets p s

  -- a row that is named anew, or goes, stood on no version
  renames_stay : (p q : Progress) (s : Ideal) → AlongHere p s → (number : ℕ) (local : LocalItem) → HasLocal p.rows number local → IsOthers server n local.uuid
      → (latest : Option RowBody) → Renames sets p number local latest q → (v : Bytes) → StaysAt p.rows q.rows v
  renames_stay p q s h number local stands theirs None so v = stays_same p.rows q.rows (λ m. ap (λ (r : Progress). r.rows (key.Local m)) so) v
  renames_stay p q s h number local stands theirs (Some row.Deleted) (change, gone, so) v =
      subst (λ (r : Progress). StaysAt p.rows r.rows v) (sym so)
      (stays_removed p.rows change number v gone
      (λ it there is. ap (λ (l : LocalItem). l.base) (one_local it local (p.rows (key.Local number)) there stands)
      ∙ no_base laws server name n a d owner sets p s h number local stands theirs))
  renames_stay p q s h number local stands theirs (Some (row.Sealed strings)) (inl closed) v =
      stays_same p.rows q.rows (λ m. ap (λ (r : Progress). r.rows (key.Local m)) closed.1) v
  renames_stay p q s h number local stands theirs (Some (row.Sealed strings)) (inr (text, uuid, rest, again, left, change, opens, fresh, seals, puts, so)) v =
      subst (λ (r : Progress). StaysAt p.rows r.rows v) (sym so)
      (stays_put p.rows change number puts.local v puts.puts
      (λ it there is. inl (ap (λ (l : LocalItem). l.base) (one_local it local (p.rows (key.Local number)) there stands)
      ∙ no_base laws server name n a d owner sets p s h number local stands theirs))
      (λ is none. ap (λ (c : Columns). c.base) puts.columns_are))

  foreign_keeps : (p q : Progress) (s : Ideal) (uuid : Bytes) (moves : List Move) → AlongHere p s → IsOthers server n uuid → SaysForeign name sets p uuid q moves
      → Keeps a p.rows q.rows
  foreign_keeps p q s uuid moves h theirs (inl (number, local, stands, how, said)) v upto k =
      stays_on p.rows q.rows a upto v
      (renames_stay p q s h number local stands.0 (subst (λ (u : Bytes). IsOthers server n u) (sym stands.1) theirs) local.latest how v) k
  foreign_keeps p q s uuid moves h theirs (inr (nobody, same, none)) v upto k = subst (λ (r : Progress). PulledAt r.rows a upto v) (sym same) k

  pulls_server : (p q : Progress) (s : Ideal) (i : Item) → PullsOne p.rows q.rows a i.uuid → Keeps a p.rows q.rows × IsAtLast q.rows a i.uuid
  pulls_server p q s i x = (one_keeps p.rows q.rows a i.uuid x, x.at)

  one_pulled : (t : Told) (p q : Progress) (s : Ideal) (moves : List Move) → AlongHere p s → Good server n saved p.rows t → SaysTold name sets saved p t q moves
      → Keeps a p.rows q.rows × MetAt q.rows a saved t
  one_pulled (is_saved i) p q s moves h good says =
      pulls_server p q s i (server_pulled laws server name n a d owner sets p s h i good.0 q true (server_of name sets p q i true moves says))
  one_pulled (is_conflict (conflict.Sync i)) p q s moves h good says =
      ((pulls_server p q s i (server_pulled laws server name n a d owner sets p s h i good.0 q false (server_of name sets p q i false moves says))).0, tt)
  one_pulled (is_conflict (conflict.Uuid i)) p q s moves h good says = (foreign_keeps p q s i.uuid moves h good.0 says, tt)
  one_pulled (is_conflict (conflict.Content i)) p q s moves h good says = absurd says
  one_pulled (is_retrieved i) p q s moves h good (inl (has, same, none)) =
      (λ v upto k. subst (λ (r : Progress). PulledAt r.rows a upto v) (sym same) k, inl has)
  one_pulled (is_retrieved i) p q s moves h (inl stored, checked) (inr (apart, says)) =
      let both = pulls_server p q s i (server_pulled laws server name n a d owner sets p s h i stored q false (server_of name sets p q i false moves says)) in
      (both.0, inr both.1)
  one_pulled (is_retrieved i) p q s moves h (inr has, checked) (inr (apart, says)) = absurd (apart has)

  pub all_pulled : (ts : List Told) (p q : Progress) (s : Ideal) (moves : List Move) → AlongHere p s → Each (Good server n saved p.rows) ts → ToldApart ts
      → SaysAllTold name sets saved p ts q moves → Keeps a p.rows q.rows × Each (MetAt q.rows a saved) ts
  all_pulled [] p q s moves h good apart (same, none) = (λ v upto k. subst (λ (r : Progress). PulledAt r.rows a upto v) (sym same) k, tt)
  all_pulled (t ∷ ts) p q s moves h good apart (r, first, later, says, rest, is) =
      let standing : AreStanding r.next r.rows =
      laws.standing sets saved p r t (checked_of server n saved p.rows t good.0) h.standing (takes_of name sets saved p r t first says) in
      let one = one_told laws server name n a d owner sets saved t p r s first h good.0 says standing in
      let x = one_pulled t p r s first h good.0 says in
      let y =
      all_pulled ts r q (end_from s first) later one.0.along (all_left server n saved p.rows r.rows t ts one.1 apart.0 good.1) apart.1 rest in
      (λ v upto k. y.0 v upto (x.0 v upto k), (met_later r.rows q.rows a saved t y.0 x.1, y.1))

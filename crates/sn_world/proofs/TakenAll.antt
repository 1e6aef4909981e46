-- All that an answer tells, one version after another.
use Rattle.std.proofs.Common.{◌≡◌, ◌≢◌, ◌⊎◌, ℕ, List, [], ◌∷◌, Bool, true, false, refl, sym, subst, inl, inr}
use Rattle.std.specs.List.{Contains}
use Rattle.sn_account.specs.Tells.{IsOthers, IsSavedOf, IsStored}
use Rattle.sn_device.specs.Laws.{AreStanding, IsChecked}
use Rattle.sn_device.specs.States.{HasItem}
use Rattle.sn_device.specs.Taking.{Meets, Progress, Takes, TakesOwn, TakesServer, Told, is_conflict, is_retrieved, is_saved}
use Rattle.sn_conflict.specs.Checks.{HasItsStrings}
use Rattle.sn_conflict.specs.declared.meeting.Meeting.{Meeting}
use Rattle.sn_conflict.specs.declared.meeting.Meeting.TheVariants as meeting
use Rattle.sn_laws.specs.Each.{Each}
use Rattle.sn_laws.specs.Lookups.{Bytes}
use Rattle.sn_laws.specs.Runs.{end_from}
use Rattle.sn_laws.specs.declared.ideal.Account.{Account}
use Rattle.sn_laws.specs.declared.ideal.Device.{Device}
use Rattle.sn_laws.specs.declared.ideal.Ideal.{Ideal}
use Rattle.sn_laws.specs.declared.moves.Move.{Move}
use Rattle.sn_rows.specs.Table.{Rows}
use Rattle.sn_rows.specs.declared.device_rows.LocalItem.{LocalItem}
use Rattle.sn_rows.specs.declared.device_rows.OwnerRow.{OwnerRow}
use Rattle.sn_sets.specs.declared.sets.Sets.{Sets}
use Rattle.sn_sync.specs.Versions.{uuids}
use Rattle.sn_sync.specs.declared.answer.Conflict.TheVariants as conflict
use Rattle.sn_sync.specs.declared.item.Item.{Item}
use Rattle.sn_world.proofs.TakenFrames.{Along, Past, Took, took_both, took_nothing}
use Rattle.sn_world.proofs.TakenMet.{TakingLaws}
use Rattle.sn_world.proofs.TakenOne.{takes_server}
use Rattle.sn_world.proofs.TakenRenamed.{takes_foreign}
use Rattle.sn_world.specs.Applying.{SaysAllTold, SaysForeign, SaysMeets, SaysServer, SaysTold}
use Rattle.sn_world.specs.Making.{IsSentBy}

-- ---- what is known of each entry

-- what is saved is what the row of its item sent
abbrev pub LinkedAt : Rows → Item → Type 0
LinkedAt rows i = (number : ℕ) (local : LocalItem) → HasItem rows i.uuid number local → (sent : Item) × IsSentBy local sent × IsSavedOf sent i

-- it is the server's, as it is told
abbrev pub Good : Rows → ℕ → List Item → Rows → Told → Type 0
Good server n saved rows (is_saved i) = IsStored server n i × HasItsStrings i × LinkedAt rows i
Good server n saved rows (is_conflict (conflict.Sync i)) = IsStored server n i × HasItsStrings i
Good server n saved rows (is_conflict (conflict.Uuid i)) = IsOthers server n i.uuid × HasItsStrings i
Good server n saved rows (is_conflict (conflict.Content i)) = HasItsStrings i
Good server n saved rows (is_retrieved i) = (IsStored server n i ⊎ Contains (uuids saved) i.uuid) × HasItsStrings i

-- none of these is a saved item of this uuid
abbrev pub NotSaved : Bytes → Told → Type 0
NotSaved uuid (is_saved i) = i.uuid ≢ uuid
NotSaved uuid (is_conflict c) = Unit {0}
NotSaved uuid (is_retrieved i) = Unit {0}

-- nor is any behind one that isn't saved
abbrev pub NoneSaved : Told → Type 0
NoneSaved (is_saved i) = ⊥
NoneSaved (is_conflict c) = Unit {0}
NoneSaved (is_retrieved i) = Unit {0}

abbrev pub Before : Told → Told → Type 0
Before (is_saved i) t = NotSaved i.uuid t
Before (is_conflict c) t = NoneSaved t
Before (is_retrieved i) t = NoneSaved t

abbrev pub ToldApart : List Told → Type 0
ToldApart [] = Unit {0}
ToldApart (t ∷ ts) = Each (Before t) ts × ToldApart ts

-- what a saved item leaves to those behind it: the rows of other items
abbrev pub Leaves : Told → Rows → Rows → Type 0
Leaves (is_saved i) rows later = Past rows later i.uuid
Leaves (is_conflict c) rows later = Unit {0}
Leaves (is_retrieved i) rows later = Unit {0}

good_past : (server : Rows) (n : ℕ) (saved : List Item) (rows later : Rows) (uuid : Bytes) (t : Told) → Past rows later uuid → NotSaved uuid t
    → Good server n saved rows t → Good server n saved later t
good_past server n saved rows later uuid (is_saved i) past apart g = (g.0, g.1, λ number local there. g.2 number local (past i.uuid number local apart there))
good_past server n saved rows later uuid (is_conflict (conflict.Sync i)) past apart g = g
good_past server n saved rows later uuid (is_conflict (conflict.Uuid i)) past apart g = g
good_past server n saved rows later uuid (is_conflict (conflict.Content i)) past apart g = g
good_past server n saved rows later uuid (is_retrieved i) past apart g = g

good_unsaved : (server : Rows) (n : ℕ) (saved : List Item) (rows later : Rows) (t : Told) → NoneSaved t → Good server n saved rows t → Good server n saved later t
good_unsaved server n saved rows later (is_saved i) none g = absurd none
good_unsaved server n saved rows later (is_conflict (conflict.Sync i)) none g = g
good_unsaved server n saved rows later (is_conflict (conflict.Uuid i)) none g = g
good_unsaved server n saved rows later (is_conflict (conflict.Content i)) none g = g
good_unsaved server n saved rows later (is_retrieved i) none g = g

good_left : (server : Rows) (n : ℕ) (saved : List Item) (rows later : Rows) (t u : Told) → Leaves t rows later → Before t u → Good server n saved rows u
    → Good server n saved later u
good_left server n saved rows later (is_saved i) u past apart g = good_past server n saved rows later i.uuid u past apart g
good_left server n saved rows later (is_conflict c) u past none g = good_unsaved server n saved rows later u none g
good_left server n saved rows later (is_retrieved i) u past none g = good_unsaved server n saved rows later u none g

pub all_left : (server : Rows) (n : ℕ) (saved : List Item) (rows later : Rows) (t : Told) (ts : List Told) → Leaves t rows later → Each (Before t) ts
    → Each (Good server n saved rows) ts → Each (Good server n saved later) ts
all_left server n saved rows later t [] left apart g = tt
all_left server n saved rows later t (u ∷ ts) left apart g =
    (good_left server n saved rows later t u left apart.0 g.0, all_left server n saved rows later t ts left apart.1 g.1)

pub checked_of : (server : Rows) (n : ℕ) (saved : List Item) (rows : Rows) (t : Told) → Good server n saved rows t → IsChecked t
checked_of server n saved rows (is_saved i) g = g.1
checked_of server n saved rows (is_conflict (conflict.Sync i)) g = g.1
checked_of server n saved rows (is_conflict (conflict.Uuid i)) g = g.1
checked_of server n saved rows (is_conflict (conflict.Content i)) g = g
checked_of server n saved rows (is_retrieved i) g = g.1

-- ---- what is said is what is done

met_of : (name : Bytes) (sets : Sets) (p q : Progress) (number : ℕ) (local : LocalItem) (i : Item) (how : Meeting) (moves : List Move)
    → SaysMeets name sets p number local i how q moves → Meets sets p number local i how q
met_of name sets p q number local i meeting.Same moves says = says.0
met_of name sets p q number local i meeting.Take moves says = says.0
met_of name sets p q number local i (meeting.Own true) moves says = says.0
met_of name sets p q number local i (meeting.Own false) moves says = says.0
met_of name sets p q number local i meeting.GiveWay moves says = says.0
met_of name sets p q number local i meeting.Fork moves (r, copies, takes, said) = (r, copies, takes)

pub server_of : (name : Bytes) (sets : Sets) (p q : Progress) (i : Item) (flag : Bool) (moves : List Move) → SaysServer name sets p i flag q moves → TakesServer sets p i flag q
server_of name sets p q i flag moves (inl (number, local, how, stands, met, says)) =
    inl (number, local, how, stands, met, met_of name sets p q number local i how moves says)
server_of name sets p q i flag moves (inr (free, makes, none)) = inr (free, makes)

foreign_of : (name : Bytes) (sets : Sets) (p q : Progress) (i : Item) (moves : List Move) → SaysForeign name sets p i.uuid q moves
    → TakesOwn sets p i.uuid (conflict.Uuid i) q
foreign_of name sets p q i moves (inl (number, local, stands, how, said)) = inl (number, local, stands, how)
foreign_of name sets p q i moves (inr (free, same, none)) = inr (free, same)

pub takes_of : (name : Bytes) (sets : Sets) (saved : List Item) (p q : Progress) (t : Told) (moves : List Move) → SaysTold name sets saved p t q moves → Takes sets saved p t q
takes_of name sets saved p q (is_saved i) moves says = server_of name sets p q i true moves says
takes_of name sets saved p q (is_conflict (conflict.Sync i)) moves says = server_of name sets p q i false moves says
takes_of name sets saved p q (is_conflict (conflict.Uuid i)) moves says = foreign_of name sets p q i moves says
takes_of name sets saved p q (is_conflict (conflict.Content i)) moves says = absurd says
takes_of name sets saved p q (is_retrieved i) moves (inl (has, same, none)) = inl (has, same)
takes_of name sets saved p q (is_retrieved i) moves (inr (apart, says)) = inr (apart, server_of name sets p q i false moves says)

module _ (laws : TakingLaws) (server : Rows) (name : Bytes) (n : ℕ) (a : Account) (d : Device) (owner : OwnerRow) (sets : Sets)
    (saved : List Item) where
  abbrev AlongHere : Progress → Ideal → Type 0
  AlongHere p s = Along server name n a d owner sets p s

  abbrev TookHere : Progress → Progress → Ideal → List Move → Type 0
  TookHere p q s moves = Took server name n a d owner sets p q s moves

  abbrev AppliedTo : Told → Progress → Progress → Ideal → List Move → Type 0
  AppliedTo t p q s moves = TookHere p q s moves × Leaves t p.rows q.rows

  version : (p q : Progress) (s : Ideal) (i : Item) (flag : Bool) (moves : List Move) → AlongHere p s → IsStored server n i → (flag ≡ true → LinkedAt p.rows i)
      → AreStanding q.next q.rows → SaysServer name sets p i flag q moves → TookHere p q s moves × (flag ≡ true → Past p.rows q.rows i.uuid)
  version p q s i flag moves h stored linked standing says =
      takes_server laws server name n a d owner sets p s h i stored q flag moves linked standing says

  nothing : (p q : Progress) (s : Ideal) (moves : List Move) → AlongHere p s → q ≡ p → moves ≡ [] → TookHere p q s moves
  nothing p q s moves h same none = subst (λ (ms : List Move). TookHere p q s ms) (sym none) (took_nothing server name n a d owner sets p q s h same)

  pub one_told : (t : Told) (p q : Progress) (s : Ideal) (moves : List Move) → AlongHere p s → Good server n saved p.rows t → SaysTold name sets saved p t q moves
      → AreStanding q.next q.rows → AppliedTo t p q s moves
  one_told (is_saved i) p q s moves h good says standing =
      let both = version p q s i true moves h good.0 (λ e. good.2) standing says in
      (both.0, both.1 refl)
  one_told (is_conflict (conflict.Sync i)) p q s moves h good says standing = ((version p q s i false moves h good.0 (λ e. absurd (cc)) standing says).0, tt)
  one_told (is_conflict (conflict.Uuid i)) p q s moves h good says standing =
      (takes_foreign laws server name n a d owner sets p q s h i.uuid moves good.0 standing says, tt)
  one_told (is_conflict (conflict.Content i)) p q s moves h good says standing = absurd says
  one_told (is_retrieved i) p q s moves h good (inl (has, same, none)) standing = (nothing p q s moves h same none, tt)
  one_told (is_retrieved i) p q s moves h (inl stored, checked) (inr (apart, says)) standing =
      ((version p q s i false moves h stored (λ e. absurd (cc)) standing says).0, tt)
  one_told (is_retrieved i) p q s moves h (inr has, checked) (inr (apart, says)) standing = absurd (apart has)

  pub all_told : (ts : List Told) (p q : Progress) (s : Ideal) (moves : List Move) → AlongHere p s → Each (Good server n saved p.rows) ts → ToldApart ts
      → SaysAllTold name sets saved p ts q moves → TookHere p q s moves
  all_told [] p q s moves h good apart (same, none) = nothing p q s moves h same none
  all_told (t ∷ ts) p q s moves h good apart (r, first, later, says, rest, is) =
      let standing : AreStanding r.next r.rows =
      laws.standing sets saved p r t (checked_of server n saved p.rows t good.0) h.standing (takes_of name sets saved p r t first says) in
      let one = one_told t p r s first h good.0 says standing in
      let others : TookHere r q (end_from s first) later =
      all_told ts r q (end_from s first) later one.0.along (all_left server n saved p.rows r.rows t ts one.1 apart.0 good.1) apart.1 rest in
      subst (λ (ms : List Move). TookHere p q s ms) (sym is) (took_both server name n a d owner sets p r q s first later one.0 others)

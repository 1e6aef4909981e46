-- What one version of an answer makes of a device's rows and of the ideal state: the cases of its meeting.
use Rattle.std.proofs.Common.{◌≡◌, ℕ, List, [], ◌∷◌, Some, None, Bool, true, false, refl, sym, ap, subst, inl, inr}
use Rattle.sn_account.specs.Tells.{IsSavedOf, IsStored}
use Rattle.sn_device.specs.Laws.{AreStanding}
use Rattle.sn_device.specs.States.{HasItem}
use Rattle.sn_device.specs.Taking.{Copies, Progress, TakesVersion}
use Rattle.sn_conflict.specs.Meetings.{IsKnown, MeetsDeletion, MeetsOwn, MeetsText, PostedHasContent}
use Rattle.sn_conflict.specs.declared.meeting.Meeting.TheVariants as meeting
use Rattle.sn_laws.specs.Lookups.{Bytes}
use Rattle.sn_laws.specs.declared.ideal.Account.{Account}
use Rattle.sn_laws.specs.declared.ideal.Device.{Device}
use Rattle.sn_laws.specs.declared.ideal.Ideal.{Ideal}
use Rattle.sn_laws.specs.declared.moves.Move.{Move}
use Rattle.sn_laws.specs.declared.moves.Move.TheVariants.{Fork, GiveWay, Settle, SettlePosted}
use Rattle.sn_rows.specs.Table.{Rows, key_of, rows_after}
use Rattle.sn_rows.specs.declared.body.RowBody.{RowBody}
use Rattle.sn_rows.specs.declared.body.RowBody.TheVariants as row
use Rattle.sn_rows.specs.declared.change.Change.{Change}
use Rattle.sn_rows.specs.declared.device_rows.LocalItem.{LocalItem}
use Rattle.sn_rows.specs.declared.device_rows.OwnerRow.{OwnerRow}
use Rattle.sn_rows.specs.declared.key.Key.TheVariants as key
use Rattle.sn_sets.specs.declared.sets.Sets.{Sets}
use Rattle.sn_sync.specs.declared.item.Item.{Item}
use Rattle.sn_world.proofs.DraftMet.{away_legal}
use Rattle.sn_world.proofs.Settling.{legal}
use Rattle.sn_world.proofs.TakenClean.{makes_row, takes_clean}
use Rattle.sn_world.proofs.TakenEnded.{takes_ended}
use Rattle.sn_world.proofs.TakenFork.{takes_fork}
use Rattle.sn_world.proofs.TakenFrames.{Along, Past, Took, took_nothing}
use Rattle.sn_world.proofs.TakenLive.{live_past, saved_content}
use Rattle.sn_world.proofs.TakenMet.{TakingLaws, each_held, held, met_of, past_so}
use Rattle.sn_world.proofs.TakenPosted.{takes_posted}
use Rattle.sn_world.specs.Applying.{SaysServer}
use Rattle.sn_world.specs.Live.{LiveItem}
use Rattle.sn_world.specs.Making.{IsSentBy}

module _ (laws : TakingLaws) (server : Rows) (name : Bytes) (n : ℕ) (a : Account) (d : Device) (owner : OwnerRow) (sets : Sets)
    (p : Progress) (s : Ideal) (h : Along server name n a d owner sets p s) (i : Item) (stored : IsStored server n i) where
  abbrev TookSo : Progress → List Move → Type 0
  TookSo q moves = Took server name n a d owner sets p q s moves

  -- what is saved is what the row sent
  abbrev Linked : Type 0
  Linked = (number : ℕ) (local : LocalItem) → HasItem p.rows i.uuid number local → (sent : Item) × IsSentBy local sent × IsSavedOf sent i

  -- and a saved item leaves other items' rows as they are
  abbrev TookPast : Bool → Progress → List Move → Type 0
  TookPast flag q moves = TookSo q moves × (flag ≡ true → Past p.rows q.rows i.uuid)

  always : (flag : Bool) (q : Progress) (moves : List Move) → TookSo q moves × Past p.rows q.rows i.uuid → TookPast flag q moves
  always flag q moves both = (both.0, λ saved. both.1)

  -- what was live of the device is live
  live : (number : ℕ) (local : LocalItem) → HasItem p.rows i.uuid number local → (flag : Bool) → (flag ≡ true → Linked) → ¬ (IsKnown local i flag) → (change : Change)
      → key_of change ≡ key.Local number → (j : Item) → LiveItem (server (key.Item j.uuid)) p.rows s.accounts n j → LiveItem (server (key.Item j.uuid))
      (rows_after p.rows (change ∷ [])) s.accounts n j
  live number local stands true linked news change of j was =
      let sent = linked refl number local stands in
      laws.live server p.rows s.accounts n number local sent.0 i j change stands.0 sent.1 stored sent.2 of was
  live number local stands false linked news change of j was =
      live_past laws.one_stamp server p.rows s.accounts n i stored number local stands news change of j was

  -- no saved item has another content than what was posted of a draft
  unsaved : (number : ℕ) (local : LocalItem) (latest : RowBody) → HasItem p.rows i.uuid number local → local.latest ≡ Some latest → Linked
      → ¬ (PostedHasContent sets local i) → ⊥
  unsaved number local latest stands drafted linked differs = let sent = linked number local stands in by sent.0 sent.1 sent.2
    where
      by : (j : Item) → IsSentBy local j → IsSavedOf j i → ⊥
      by j (inl posted) saved = differs (saved_content sets local j i posted saved)
      by j (inr again) saved = let none : local.latest ≡ None = again.2 in cc

  -- ---- a draft that the version has the content of

  own : (number : ℕ) (local : LocalItem) → HasItem p.rows i.uuid number local → (flag : Bool) → (flag ≡ true → Linked) → MeetsOwn sets local i flag → (q : Progress)
      → AreStanding q.next q.rows → TakesVersion sets p number i None None q → TookPast flag q (Settle name i.uuid ∷ [])
  own number local stands flag linked x q standing takes =
      always flag q (Settle name i.uuid ∷ [])
      (takes_ended laws server name n a d owner sets p s h i stored number local stands x.latest x.meets.drafted (Settle name i.uuid) refl
      (legal server p.rows s name n number a d local i laws.one_stamp laws.one_text
      (met_of server name n a d owner sets p s h i stored number local stands x.latest x.meets.drafted) x.same)
      q standing (live number local stands flag linked x.meets.news) i.body refl takes)

  -- ---- a deletion that gives way

  away : (number : ℕ) (local : LocalItem) → HasItem p.rows i.uuid number local → (flag : Bool) → (flag ≡ true → Linked) → MeetsDeletion sets local i flag → (q : Progress)
      → AreStanding q.next q.rows → TakesVersion sets p number i None None q → TookPast flag q (GiveWay name i.uuid ∷ [])
  away number local stands true linked x q standing takes = absurd (unsaved number local row.Deleted stands x.meets.drafted (linked refl) x.differed)
  away number local stands false linked x q standing takes =
      always false q (GiveWay name i.uuid ∷ [])
      (takes_ended laws server name n a d owner sets p s h i stored number local stands row.Deleted x.meets.drafted (GiveWay name i.uuid) refl
      (away_legal server p.rows s name n number a d local i laws.one_stamp laws.one_text
      (met_of server name n a d owner sets p s h i stored number local stands row.Deleted x.meets.drafted) (held server name n a d owner sets p s h)
      (each_held server name n a d owner sets p s h) refl
      x.meets.news x.differs x.differed)
      q standing (live number local stands false linked x.meets.news) i.body refl takes)

  -- ---- a text that forks

  forks : (number : ℕ) (local : LocalItem) → HasItem p.rows i.uuid number local → (flag : Bool) → (flag ≡ true → Linked) → MeetsText sets local i flag → (q r : Progress)
      → AreStanding q.next q.rows → (copies : Copies sets p local r) → TakesVersion sets r number i None None q → TookPast flag q (Fork name i.uuid copies.uuid ∷ [])
  forks number local stands true linked x q r standing copies takes = absurd
      (unsaved number local (row.Sealed x.strings) stands x.other.meets.drafted (linked refl) x.other.differed)
  forks number local stands false linked x q r standing copies takes =
      (takes_fork laws server name n a d owner sets p s h i stored number local stands x r copies q standing i.body refl takes, λ saved. absurd (cc))

  -- ---- each of them

  pub takes_server : (q : Progress) (flag : Bool) (moves : List Move) → (flag ≡ true → Linked) → AreStanding q.next q.rows → SaysServer name sets p i flag q moves
      → TookPast flag q moves
  takes_server q flag moves linked standing (inr (free, makes, none)) =
      subst (λ (ms : List Move). TookPast flag q ms) (sym none)
      (always flag q [] (makes_row laws.one_stamp server name n a d owner sets p s h i stored q free standing i.body refl makes))
  takes_server q flag moves linked standing (inl (number, local, meeting.Same, stands, met, (same, none))) =
      subst (λ (ms : List Move). TookPast flag q ms) (sym none)
      (took_nothing server name n a d owner sets p q s h same, λ saved. past_so p.rows p.rows q.rows i.uuid (ap (λ (r : Progress). r.rows) same) (λ v at it apart there. there))
  takes_server q flag moves linked standing (inl (number, local, meeting.Take, stands, met, (takes, none))) =
      subst (λ (ms : List Move). TookPast flag q ms) (sym none)
      (always flag q [] (takes_clean laws.one_stamp server name n a d owner sets p s h i stored number local q stands met.clean standing i.body refl takes))
  takes_server q flag moves linked standing (inl (number, local, meeting.Own true, stands, met, (takes, said))) =
      subst (λ (ms : List Move). TookPast flag q ms) (sym said) (own number local stands flag linked met q standing takes)
  takes_server q flag moves linked standing (inl (number, local, meeting.Own false, stands, met, (takes, (stamp, named, said)))) =
      subst (λ (ms : List Move). TookPast flag q ms) (sym said)
      (always flag q (SettlePosted name i.uuid stamp ∷ [])
      (takes_posted laws server name n a d owner sets p s h i stored number local stands flag met stamp named q standing
      (live number local stands flag linked met.meets.news) i.body refl takes))
  takes_server q flag moves linked standing (inl (number, local, meeting.GiveWay, stands, met, (takes, said))) =
      subst (λ (ms : List Move). TookPast flag q ms) (sym said) (away number local stands flag linked met q standing takes)
  takes_server q flag moves linked standing (inl (number, local, meeting.Fork, stands, met, (r, copies, takes, said))) =
      subst (λ (ms : List Move). TookPast flag q ms) (sym said) (forks number local stands flag linked met q r standing copies takes)

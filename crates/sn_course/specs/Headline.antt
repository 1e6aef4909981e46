-- What a replay promises of its report and of the disks of both ends.
use Rattle.std.specs.Prelude.{◌≡◌, ◌≢◌, ◌<◌, ℕ, List, [], ◌∷◌, ◌++◌, map, Option, Some, None, codes, true}
use Rattle.std.specs.List.{flat_map}
use Rattle.rand_chacha.specs.ChaCha.{ChaCha}
use Rattle.sn_disk.specs.MemShelf.{shelf_slot}
use Rattle.sn_disk.specs.Shelf.{Slot}
use Rattle.sn_disk.specs.declared.mem_shelf.MemShelf.{MemShelf}
use Rattle.sn_disk.specs.declared.memory.MemDisk.{MemDisk}
use Rattle.sn_events.specs.Slots.{slot_mark}
use Rattle.sn_finished.specs.Finished.{CarriesLast, HasFinished}
use Rattle.sn_items.specs.Draws.{drawn}
use Rattle.sn_journal.specs.declared.owner.Owner.TheVariants.{Device as DeviceOwner, Server as ServerOwner}
use Rattle.sn_laws.specs.Each.{Each, One}
use Rattle.sn_laws.specs.Kept.{IsKept}
use Rattle.sn_laws.specs.Laws.{Keeps, SealsAgain, StandsOn}
use Rattle.sn_laws.specs.Lookups.{Bytes, account_named, account_of, account_with, device_named, empty, last_of}
use Rattle.sn_laws.specs.Reached.{AllDiffer, CarriesLastTwo, HoldsSets, NoncesApart}
use Rattle.sn_laws.specs.Runs.{Legal, end}
use Rattle.sn_laws.specs.declared.ideal.Account.{Account}
use Rattle.sn_laws.specs.declared.ideal.Content.TheVariants.{Plain}
use Rattle.sn_laws.specs.declared.ideal.Device.{Device}
use Rattle.sn_laws.specs.declared.ideal.Version.{Version}
use Rattle.sn_laws.specs.declared.moves.Move.{Move}
use Rattle.sn_laws.specs.declared.moves.Move.TheVariants.{Accept, Edit, Post, Rewrap}
use Rattle.sn_lines.specs.Lines.{MayHappen}
use Rattle.sn_lines.specs.Passwords.{AreApart, IsParamsIn}
use Rattle.sn_report.specs.declared.report.Event.{Event}
use Rattle.sn_report.specs.declared.report.Report.{Report}
use Rattle.sn_device.specs.States.{HasSet}
use Rattle.sn_rows.specs.declared.change.Change.{Change}
use Rattle.sn_rows.specs.declared.device_rows.SetRow.{SetRow}
use Rattle.sn_rows.specs.declared.key.Slot.TheVariants.{Asked, Older}
use Rattle.sn_shown.specs.Shown.{AreHeld}
use Rattle.sn_script.specs.declared.script.Line.{Line}
use Rattle.sn_script.specs.declared.script.Line.TheVariants as line
use Rattle.sn_script.specs.declared.script.Script.{Script}
use Rattle.sn_shows.specs.Ends.{Shows}
use Rattle.sn_tail.specs.Shelves.{SlotReads}
use Rattle.sn_world.specs.Holds.{TokensDiffer}
use Rattle.sn_world.specs.Sessions.{LeadsLine, opens}
use Rattle.sn_world.specs.World.{World, at_first}
use Rattle.sn_course.specs.Stages.{Stage, Reported, nth_made, past, reporting, start}
use Rattle.sn_course.specs.Fits.{Fits}
use Rattle.sn_course.specs.Lines.{labelled_item, password_of}
use Rattle.sn_course.specs.Settings.{AreFirst, words_of}
use Rattle.sn_course.specs.declared.settings.Settings.{Settings}

-- ---- the disks of both ends

-- the server's, and that of each device by its name
pub record Slots : Type 0 where
  pub server : Slot MemDisk
  pub devices : Bytes → Slot MemDisk

-- as they stand on a shelf
abbrev pub shelf_slots : MemShelf → Slots
shelf_slots shelf = record { server = shelf_slot shelf (codes "server"); devices = λ name. shelf_slot shelf (codes "device-" ++ name) }

-- At a stage the disks stood for batches that leave the rows of both ends, as they read and as any crash at that moment might have left them; and
-- these rows show the state that the moves so far give.
pub record Recovers (slots : Slots) (c : Stage) : Type 0 where
  pub server : SlotReads slots.server ServerOwner c.server_mark c.world.server
  pub devices : (name : Bytes) → SlotReads (slots.devices name) DeviceOwner (c.marks name) (c.world.devices name)
  pub shows : Shows c.world.server c.world.devices (end c.moves)
  -- a device that keeps a set as asked for has no older one: so with its present one it keeps two at most
  pub asked_alone : (name : Bytes) (asked older : SetRow) → HasSet (c.world.devices name) Asked asked → ¬ (HasSet (c.world.devices name) Older older)
  -- each set that an undeleted last version carries is held by a device of the lines so far
  pub held : AreHeld (end c.moves) c.names

-- ---- the events

-- each line that reports has its event, in order; and so the stages follow
abbrev pub Goes : Bytes → Stage → List Reported → List Event → Stage → Type 0
Goes secret c [] [] last = last ≡ c
Goes secret c [] (e ∷ es) last = ⊥
Goes secret c (r ∷ rs) [] last = ⊥
Goes secret c (r ∷ rs) (e ∷ es) last = (next : World) × Fits secret c r e next × Goes secret (past c r.asks e next) rs es last

-- and behind each of them the disks recover
abbrev pub Recounts : Slots → Bytes → Stage → List Reported → List Event → Stage → Type 0
Recounts slots secret c [] [] last = last ≡ c
Recounts slots secret c [] (e ∷ es) last = ⊥
Recounts slots secret c (r ∷ rs) [] last = ⊥
Recounts slots secret c (r ∷ rs) (e ∷ es) last = (next : World) × Fits secret c r e next × Recovers slots (past c r.asks e next)
    × Recounts slots secret (past c r.asks e next) rs es last

-- all moves of events
abbrev pub moves_in : List Event → List Move
moves_in events = flat_map (λ e. e.moves) events

-- ---- how it begins

-- the server begins with the first line that reports: its secret is drawn of that line's words, in its first commit
pub record Opens (secret : Bytes) (words : ChaCha) (opened : World) : Type 0 where
  pub left : ChaCha
  pub drew : (secret, left) ≡ drawn 32 words
  pub changes : List Change
  pub comes : MayHappen secret at_first empty (opens changes true)
  pub leads : LeadsLine secret at_first empty (opens changes true)
  pub no_moves : leads.moves ≡ []
  pub opened_is : opened ≡ leads.next

-- where there is such a line
abbrev pub OpensWith : List Reported → Bytes → World → Type 0
OpensWith [] secret opened = opened ≡ at_first
OpensWith (r ∷ rs) secret opened = Opens secret (words_of r.settings r.number) opened

-- the secret is drawn of the words of the first line that reports; where there is none, no server begins
abbrev pub SecretOf : List Reported → Bytes → Type 0
SecretOf [] secret = secret ≡ []
SecretOf (r ∷ rs) secret = (left : ChaCha) × ((secret, left) ≡ drawn 32 (words_of r.settings r.number))

-- ---- the premises

-- a password with which a line of the script begins an account or signs in to one, or which it gives to one
abbrev pub IsPasswordOf : Script → Bytes → Type 0
IsPasswordOf script password = One (λ l. password_of l ≡ Some password) script.lines

-- no two passwords of the script have, under one parameter set that an account has behind these moves, one check value and different keys
abbrev pub PasswordsApart : Script → List Move → Type 0
PasswordsApart script moves = AreApart (IsPasswordOf script) (IsParamsIn (end moves))

-- so it is behind the events of each run of the first ones of these lines
abbrev pub RunsApart : Script → Bytes → List Reported → Type 0
RunsApart script secret rs = (before later : List Reported) (opened : World) (events : List Event) (last : Stage) → rs ≡ before ++ later
    → OpensWith rs secret opened → Goes secret (start opened) before events last → PasswordsApart script (moves_in events)

-- ---- the headline

-- what legal moves alone carry
pub record MovesCarry (moves : List Move) : Type 0 where
  -- what is accepted stays: wherever the moves are split, an account that those before leave has its versions at the end
  pub acknowledged : (before later : List Move) (identifier : Bytes) (a : Account) → moves ≡ before ++ later
      → account_named (end before) identifier ≡ Some a → Keeps a (account_named (end moves) identifier)
  -- and where its next version is accepted, that stood on the last one
  pub followed : (before later : List Move) (device uuid : Bytes) (stamp : ℕ) (under : Option ℕ) (a : Account) (v : Version)
      → moves ≡ before ++ Accept device uuid stamp under ∷ later → account_of (end before) device ≡ Some a
      → last_of uuid a.versions ≡ Some v → StandsOn (end before) device uuid v.stamp
  -- where it is sealed again that has the type and the text of the last one, under the account's last set
  pub resealed : (before later : List Move) (uuid : Bytes) (stamp under : ℕ) (a : Account) (v : Version)
      → moves ≡ before ++ Rewrap uuid stamp under ∷ later → account_with (end before).accounts uuid ≡ Some a → last_of uuid a.versions ≡ Some v
      → SealsAgain a v stamp under (account_named (end (before ++ Rewrap uuid stamp under ∷ [])) a.identifier)
  -- what is written is kept: it is replaced later, or it, or a copy of it, is a draft's content at the end or is a version
  pub kept : (before later : List Move) (device uuid kind : Bytes) (base : Option ℕ) (text : Bytes)
      → moves ≡ before ++ Edit device uuid kind base (Plain text) ∷ later → IsKept (end moves) device uuid kind text later
  -- at the end live last versions carry the last two sets of their accounts, and each device holds one or two sets of its own
  pub carry_two : Each CarriesLastTwo (end moves).accounts
  pub hold_two : (name : Bytes) (d : Device) → device_named (end moves) name ≡ Some d → HoldsSets (account_of (end moves) name) d
  -- and where one of its devices has retired the set before the last one, they carry the last one
  pub finished : Each (λ a. HasFinished moves a → CarriesLast a) (end moves).accounts
  -- nothing happens twice: what is sent becomes one version at most, an item is sealed again once at most under each set, an identifier is one account's,
  -- a nonce one set's of its account
  pub posted_once : (before between later : List Move) (device uuid : Bytes) (stamp next : ℕ) (under under_next : Option ℕ)
      → moves ≡ ((before ++ Accept device uuid stamp under ∷ between) ++ Accept device uuid next under_next ∷ []) ++ later
      → One (λ m. m ≡ Post device uuid) between
  pub rewrapped_once : (before between later : List Move) (uuid : Bytes) (stamp next under under_next : ℕ)
      → moves ≡ ((before ++ Rewrap uuid stamp under ∷ between) ++ Rewrap uuid next under_next ∷ []) ++ later → under < under_next
  pub identifiers : AllDiffer (map (λ a. a.identifier) (end moves).accounts)
  pub nonces : Each NoncesApart (end moves).accounts

-- the record of each disk has no call behind the last event
pub record IsAccounted (slots : Slots) (c : Stage) : Type 0 where
  pub server : c.server_mark ≡ slot_mark slots.server
  pub devices : (name : Bytes) → c.marks name ≡ slot_mark (slots.devices name)

-- of a replay whose server has this secret
pub record Carried (script : Script) (slots : Slots) (secret : Bytes) (first : Settings) (events : List Event) : Type 0 where
  pub opened : World
  pub opens : OpensWith (reporting 1 first script.lines) secret opened
  pub last : Stage
  -- each line that reports has its event, which fits it, and behind which the disks recover the state that the moves so far give
  pub recounts : Recounts slots secret (start opened) (reporting 1 first script.lines) events last
  -- the whole record is accounted for, where there is an event
  pub accounted : events ≢ [] → IsAccounted slots last
  -- each set that an undeleted last version carries is held by a device of the script
  pub opening : AreHeld (end (moves_in events)) last.names
  -- the moves are legal, and carry what legal moves carry
  pub legal : Legal (moves_in events)
  pub carry : MovesCarry (moves_in events)

-- The headline, of one report: for the secret that the server draws, under which no account has one session token for two generations, and where no two
-- passwords of the script have, under one parameter set that an account has in the run, one check value and different keys.
pub record CarriesHeadline (script : Script) (slots : Slots) (report : Report) : Type 0 where
  pub first : Settings
  pub first_is : AreFirst first
  pub secret : Bytes
  pub secret_is : SecretOf (reporting 1 first script.lines) secret
  pub carried : TokensDiffer secret → PasswordsApart script (moves_in report.events) → Carried script slots secret first report.events

-- ---- a script that isn't allowed

-- a line may come where the item that it names has a label, and the request that it names was made
abbrev pub MayStand : Stage → Line → Type 0
MayStand c (line.Edit device label fates text) = labelled_item c.labels label ≢ None
MayStand c (line.Delete device label fates) = labelled_item c.labels label ≢ None
MayStand c (line.Late device which) = nth_made device c.world.made which ≢ None
MayStand c other = Unit {0}

-- the line of this number is the first that may not come; there is no report, so the passwords are to be apart in each run of the lines
pub record IsNotAllowed (script : Script) (number : ℕ) : Type 0 where
  pub first : Settings
  pub first_is : AreFirst first
  pub secret : Bytes
  pub secret_is : SecretOf (reporting 1 first script.lines) secret
  pub refused : TokensDiffer secret → RunsApart script secret (reporting 1 first script.lines)
      → (opened : World) × OpensWith (reporting 1 first script.lines) secret opened
      × ((before : List Reported) × (r : Reported) × (later : List Reported) × (reporting 1 first script.lines ≡ before ++ r ∷ later) × (r.number ≡ number)
      × ((events : List Event) × (last : Stage) × Goes secret (start opened) before events last × ¬ (MayStand last r.asks)))

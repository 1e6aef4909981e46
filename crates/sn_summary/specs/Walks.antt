-- What is kept on the way through a report's moves.
use Rattle.std.specs.Prelude.{◌≡◌, ◌↔◌, ◌≤◌, ◌+◌, ℕ, suc, List, [], ◌∷◌, ◌++◌, length, count_by, Bool, true, false, cond, find, is_some, string_bytes, IsTrue}
use Rattle.std.specs.BTreeMap.{is_at}
use Rattle.std.specs.BTreeSet.{BTreeSet, btree_set_len, contains}
use Rattle.std.specs.Cmp.Lexicographic.{slice_cmp}
use Rattle.std.specs.Ordering.{nat_cmp}
use Rattle.std.specs.declared.cmp.Ordering.{Ordering}
use Rattle.sn_laws.specs.Lookups.{Bytes, is_draft}
use Rattle.sn_laws.specs.Moves.{after, allows}
use Rattle.sn_laws.specs.Runs.{Legal, end}
use Rattle.sn_laws.specs.declared.ideal.Account.{Account}
use Rattle.sn_laws.specs.declared.ideal.Draft.{Draft}
use Rattle.sn_laws.specs.declared.ideal.Ideal.{Ideal}
use Rattle.sn_laws.specs.declared.moves.Move.{Move}
use Rattle.sn_summary.specs.Items.{IsLiveItem, makes_fork, makes_version}
use Rattle.sn_summary.specs.contracts.drafts.DraftKeyOrd.TheImpl as code
use Rattle.sn_summary.specs.declared.drafts.DraftKey.{DraftKey}
use Rattle.sn_summary.specs.declared.walk.Walk.{Walk}

-- ---- items

-- how the code compares uuids
abbrev pub uuid_cmp : Bytes → Bytes → Ordering
uuid_cmp = slice_cmp nat_cmp

-- the set has just the items that aren't deleted
abbrev pub HoldsLive : BTreeSet Bytes → List Account → Type 0
HoldsLive live accounts = (uuid : Bytes) → IsTrue (contains uuid_cmp live uuid) ↔ IsLiveItem accounts uuid

-- an item comes in, or goes out; the others stay
abbrev pub Sets : BTreeSet Bytes → BTreeSet Bytes → Bytes → Bool → Type 0
Sets old new uuid is_live = (item : Bytes) → contains uuid_cmp new item ≡ cond (is_at (uuid_cmp uuid) item) is_live (contains uuid_cmp old item)

-- so it goes on with a move that is legal behind others
abbrev pub NotesLive : BTreeSet Bytes → BTreeSet Bytes → Move → Type 0
NotesLive old new m = (ms : List Move) → Legal (ms ++ m ∷ []) → HoldsLive old (end ms).accounts → HoldsLive new (end (ms ++ m ∷ [])).accounts

-- ---- drafts

-- how the code compares the keys of drafts
abbrev pub key_cmp : DraftKey → DraftKey → Ordering
key_cmp = code.ghosts.cmp

-- how many drafts of a device and an item there are
abbrev pub drafts_of : Bytes → Bytes → List Draft → ℕ
drafts_of device uuid [] = 0
drafts_of device uuid (d ∷ ds) = cond (is_draft device uuid d) (suc (drafts_of device uuid ds)) (drafts_of device uuid ds)

-- the set has just the keys of the drafts, and no two drafts have one key
pub record HoldsDrafts (keys : BTreeSet DraftKey) (drafts : List Draft) : Type 0 where
  pub found : (k : DraftKey) → contains key_cmp keys k ≡ is_some (find (is_draft (string_bytes k.device) k.uuid) drafts)
  pub once : (device uuid : Bytes) → drafts_of device uuid drafts ≤ 1
  pub count : btree_set_len keys ≡ length drafts

abbrev pub NotesDrafts : BTreeSet DraftKey → BTreeSet DraftKey → Move → Type 0
NotesDrafts old new m = (s : Ideal) → IsTrue (allows s m) → HoldsDrafts old s.drafts → HoldsDrafts new (after s m).drafts

-- the key of this device and item comes in, or goes out, where it is there
pub record AddsKey (old new : BTreeSet DraftKey) (device uuid : Bytes) : Type 0 where
  pub key : DraftKey
  pub device_is : string_bytes key.device ≡ device
  pub uuid_is : key.uuid ≡ uuid
  pub updates : (q : DraftKey) → contains key_cmp new q ≡ cond (is_at (key_cmp key) q) true (contains key_cmp old q)
  pub len : btree_set_len new ≡ btree_set_len old + cond (contains key_cmp old key) 0 1

pub record RemovesKey (old new : BTreeSet DraftKey) (device uuid : Bytes) : Type 0 where
  pub key : DraftKey
  pub device_is : string_bytes key.device ≡ device
  pub uuid_is : key.uuid ≡ uuid
  pub updates : (q : DraftKey) → contains key_cmp new q ≡ cond (is_at (key_cmp key) q) false (contains key_cmp old q)
  pub len : btree_set_len new + cond (contains key_cmp old key) 1 0 ≡ btree_set_len old

-- a key goes out, and that of another item on the device comes in
pub record TakesKey (old new : BTreeSet DraftKey) (device uuid other : Bytes) : Type 0 where
  pub between : BTreeSet DraftKey
  pub removes : RemovesKey old between device uuid
  pub adds : AddsKey between new device other

-- ---- the whole

-- the walk has come behind these moves
pub record IsAfter (walk : Walk) (ms : List Move) : Type 0 where
  pub live : HoldsLive walk.live (end ms).accounts
  pub drafts : HoldsDrafts walk.drafts (end ms).drafts
  pub versions : walk.versions ≡ count_by makes_version ms
  pub forks : walk.forks ≡ count_by makes_fork ms

-- it goes on by these
abbrev pub GoesOn : Walk → Walk → List Move → Type 0
GoesOn old new more = (ms : List Move) → Legal (ms ++ more) → IsAfter old ms → IsAfter new (ms ++ more)

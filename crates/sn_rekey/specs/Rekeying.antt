-- What the adoption of a key set makes of a device's row.
use Rattle.std.specs.Prelude.{◌≡◌, ◌⊎◌, Bool, true, false, ◌||◌, Option, Some, None, is_some, ⊤}
use Rattle.rand_chacha.specs.ChaCha.{ChaCha}
use Rattle.sn_rekey.specs.Rewraps.{Bytes, RewrapsHeld}
use Rattle.sn_rows.specs.declared.body.RowBody.{RowBody}
use Rattle.sn_rows.specs.declared.body.RowBody.TheVariants as row
use Rattle.sn_rows.specs.declared.body.RowStrings.{RowStrings}
use Rattle.sn_rows.specs.declared.device_rows.LocalItem.{LocalItem}
use Rattle.sn_sets.specs.Sets.{OpensHeld, OpensNowhere, sealed_of}
use Rattle.sn_sets.specs.declared.sets.Sets.{Sets}
use Rattle.sn_string.specs.declared.params.KeySet.{KeySet}

-- ---- one version

-- a version that opens under a set that is held
abbrev pub OpensUnderHeld : Sets → Bytes → Option RowBody → Type 0
OpensUnderHeld sets uuid None = ⊥
OpensUnderHeld sets uuid (Some row.Deleted) = ⊥
OpensUnderHeld sets uuid (Some (row.Sealed strings)) = (text : Bytes) × OpensHeld sets uuid (sealed_of strings) text

-- none there, a deletion, or one that opens under no set that is held
abbrev pub IsClosed : Sets → Bytes → Option RowBody → Type 0
IsClosed sets uuid None = ⊤
IsClosed sets uuid (Some row.Deleted) = ⊤
IsClosed sets uuid (Some (row.Sealed strings)) = OpensNowhere sets uuid (sealed_of strings)

-- a version that opens is sealed again under the set
pub record SealsAgain (sets : Sets) (set : KeySet) (words : ChaCha) (uuid : Bytes) (before after : Option RowBody) (left : ChaCha) : Type 0 where
  pub given : RowStrings
  pub given_is : before ≡ Some (row.Sealed given)
  pub again : RowStrings
  pub again_is : after ≡ Some (row.Sealed again)
  pub rewraps : RewrapsHeld sets set words uuid (sealed_of given) (sealed_of again) left

-- any other stays as it is, and nothing is drawn for it
pub record Stays (sets : Sets) (words : ChaCha) (uuid : Bytes) (before after : Option RowBody) (left : ChaCha) : Type 0 where
  pub closed : IsClosed sets uuid before
  pub same : after ≡ before
  pub undrawn : left ≡ words

-- what becomes of a place for a version, and whether it is sealed again
abbrev pub RewrapsPlace : Sets → KeySet → ChaCha → Bytes → Bool → Option RowBody → Option RowBody → ChaCha → Type 0
RewrapsPlace sets set words uuid true before after left = SealsAgain sets set words uuid before after left
RewrapsPlace sets set words uuid false before after left = Stays sets words uuid before after left

-- what becomes of a version
abbrev pub IsRewrapped : Sets → KeySet → ChaCha → Bytes → RowBody → RowBody → ChaCha → Type 0
IsRewrapped sets set words uuid before after left =
    SealsAgain sets set words uuid (Some before) (Some after) left ⊎ Stays sets words uuid (Some before) (Some after) left

-- ---- the row

-- a version of the item opens under a set that is held
abbrev pub HasOpen : Sets → LocalItem → Type 0
HasOpen sets local = OpensUnderHeld sets local.uuid local.body ⊎ OpensUnderHeld sets local.uuid local.latest ⊎ OpensUnderHeld sets local.uuid local.posted

-- none does
pub record HasNoneOpen (sets : Sets) (local : LocalItem) : Type 0 where
  pub body : IsClosed sets local.uuid local.body
  pub latest : IsClosed sets local.uuid local.latest
  pub posted : IsClosed sets local.uuid local.posted

-- the server's version, the draft and what was sent of it are sealed again under the set, in this order and where they open; a server's version that was
-- is stale from then on, and the rest stays
pub record Rekeys (sets : Sets) (set : KeySet) (words : ChaCha) (before after : LocalItem) (left : ChaCha) : Type 0 where
  pub uuid_is : after.uuid ≡ before.uuid
  pub kind_is : after.kind ≡ before.kind
  pub base_is : after.base ≡ before.base
  pub body_again : Bool
  pub second : ChaCha
  pub body_is : RewrapsPlace sets set words before.uuid body_again before.body after.body second
  pub latest_again : Bool
  pub third : ChaCha
  pub latest_is : RewrapsPlace sets set second before.uuid latest_again before.latest after.latest third
  pub posted_again : Bool
  pub posted_is : RewrapsPlace sets set third before.uuid posted_again before.posted after.posted left
  pub stale_is : after.stale ≡ (body_again || before.stale)

-- ---- as the code has it

-- a place with these strings, where there are some
abbrev pub with_strings : Option RowStrings → Option RowBody → Option RowBody
with_strings None before = before
with_strings (Some strings) before = Some (row.Sealed strings)

-- the row with these strings in its places, where there are some; it is stale where the first has some
pub record HasStrings (before : LocalItem) (body latest posted : Option RowStrings) (after : LocalItem) : Type 0 where
  pub uuid_is : after.uuid ≡ before.uuid
  pub kind_is : after.kind ≡ before.kind
  pub base_is : after.base ≡ before.base
  pub stale_is : after.stale ≡ (is_some body || before.stale)
  pub body_is : after.body ≡ with_strings body before.body
  pub latest_is : after.latest ≡ with_strings latest before.latest
  pub posted_is : after.posted ≡ with_strings posted before.posted

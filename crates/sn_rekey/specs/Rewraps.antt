-- What sealing an item again under another key set draws and writes.
use Rattle.std.specs.Prelude.{◌≡◌, ◌⊎◌, ℕ, List, [], ◌∷◌}
use Rattle.hex.specs.Hex.{encode_lower}
use Rattle.rand_chacha.specs.ChaCha.{ChaCha}
use Rattle.sn_items.specs.Draws.{drawn}
use Rattle.sn_items.specs.Items.{OpensItem, OpensKey}
use Rattle.sn_items.specs.Seals.{IsSealed}
use Rattle.sn_items.specs.declared.error.ItemError.{ItemError}
use Rattle.sn_items.specs.declared.error.ItemError.TheVariants.{Memory}
use Rattle.sn_items.specs.declared.sealed.Sealed.{Sealed}
use Rattle.sn_sets.specs.Sets.{OpensOlder}
use Rattle.sn_sets.specs.declared.sets.Sets.{Sets}
use Rattle.sn_string.specs.Grammar.{Is003, Reading, joined, version}
use Rattle.sn_string.specs.Parameters.{params_text}
use Rattle.sn_string.specs.declared.params.KeySet.{KeySet}

-- the bytes of a text or of a uuid
abbrev pub Bytes : Type 0
Bytes = List ℕ

-- ---- under a set

-- an item of this content sealed again under another set: its key under a new vector and the other set's keys; of the content's string only the
-- parameters change, and it still is the item of this content
pub record Rewraps (words : ChaCha) (uuid text : Bytes) (before after : KeySet) (given again : Sealed) (left : ChaCha) : Type 0 where
  pub item_key : Bytes
  pub has_key : OpensKey given.enc uuid before item_key
  pub enc_iv : Bytes
  pub is_drawn : (enc_iv, left) ≡ drawn 16 words
  pub enc_is : IsSealed (encode_lower item_key) uuid enc_iv after.mk after.ak after.params again.enc
  pub reading : Reading
  pub reads : Is003 given.content reading
  pub content_is : again.content
      ≡ joined (version ∷ reading.hash ∷ reading.uuid ∷ reading.iv ∷ reading.ciphertext ∷ params_text after.params ∷ [])
  pub still : OpensItem again uuid after text

-- the strings are an item under the one set, and are sealed again under the other
pub record RewrapsItem (before after : KeySet) (words : ChaCha) (uuid : Bytes) (given again : Sealed) (left : ChaCha) : Type 0 where
  pub text : Bytes
  pub opens : OpensItem given uuid before text
  pub rewraps : Rewraps words uuid text before after given again left

-- ---- under the sets that are held

-- the strings are an item under the older set and none under the present one, and are sealed again under a set
pub record RewrapsOlder (sets : Sets) (set : KeySet) (words : ChaCha) (uuid : Bytes) (given again : Sealed) (left : ChaCha) : Type 0 where
  pub text : Bytes
  pub opens : OpensOlder sets uuid given text
  pub rewraps : Rewraps words uuid text opens.set set given again left

-- the strings are an item under a set that is held, the present one or else the older, and are sealed again under a set
abbrev pub RewrapsHeld : Sets → KeySet → ChaCha → Bytes → Sealed → Sealed → ChaCha → Type 0
RewrapsHeld sets set words uuid given again left =
    RewrapsItem sets.present set words uuid given again left ⊎ RewrapsOlder sets set words uuid given again left

-- the strings are no item under the older set, or are one under the present set
abbrev pub OpensNotOlder : Sets → Bytes → Sealed → Type 0
OpensNotOlder sets uuid given = (text : Bytes) → ¬ (OpensOlder sets uuid given text)

-- ---- what is drawn where nothing is sealed

-- nothing is drawn, or one vector
abbrev pub DrawsOneAtMost : ChaCha → ChaCha → Type 0
DrawsOneAtMost words left = (left ≡ words) ⊎ (left ≡ (drawn 16 words).1)

-- a refusal draws nothing; where memory is wanting, a vector may have been drawn
abbrev pub RefusalDraws : ChaCha → ItemError → ChaCha → Type 0
RefusalDraws words Memory left = DrawsOneAtMost words left
RefusalDraws words error left = left ≡ words

-- What becomes of an edit: it is replaced, or it, or a copy of it, is in a draft or is a version.
use Rattle.std.specs.Prelude.{◌≡◌, ◌⊎◌, ℕ, List, [], ◌∷◌, ◌++◌, Bool, ◌&&◌, Option, Some, if◌then◌else◌}
use Rattle.std.specs.Str.{bytes_eq}
use Rattle.sn_laws.specs.Each.{One}
use Rattle.sn_laws.specs.Lookups.{Bytes, account_of, draft_at}
use Rattle.sn_laws.specs.Runs.{Legal, end}
use Rattle.sn_laws.specs.declared.ideal.Account.{Account}
use Rattle.sn_laws.specs.declared.ideal.Body.{Body}
use Rattle.sn_laws.specs.declared.ideal.Body.TheVariants.{Under, Gone}
use Rattle.sn_laws.specs.declared.ideal.Content.{Content}
use Rattle.sn_laws.specs.declared.ideal.Content.TheVariants.{Plain, Deleted}
use Rattle.sn_laws.specs.declared.ideal.Draft.{Draft}
use Rattle.sn_laws.specs.declared.ideal.Ideal.{Ideal}
use Rattle.sn_laws.specs.declared.moves.Move.{Move}
use Rattle.sn_laws.specs.declared.moves.Move.TheVariants.{Edit, Drop, Fork, Rename}
use Rattle.sn_notes.specs.Copies.{copy_of}

-- ---- copies

-- copied for one item after another; the first of the list is the last one
abbrev pub copies : Bytes → List Bytes → Bytes
copies text [] = text
copies text (uuid ∷ uuids) = copy_of (copies text uuids) uuid

-- the one text comes from the other by copying, perhaps not at all
abbrev pub Copies : Bytes → Bytes → Type 0
Copies text copy = (uuids : List Bytes) × (copy ≡ copies text uuids)

-- a draft's content, or a version's, is the text or a copy of it
abbrev pub IsDraftOf : Bytes → Content → Type 0
IsDraftOf text (Plain other) = Copies text other
IsDraftOf text Deleted = ⊥

abbrev pub IsVersionOf : Bytes → Body → Type 0
IsVersionOf text (Under other set) = Copies text other
IsVersionOf text Gone = ⊥

-- ---- the trail of a draft

abbrev pub is_of_draft : Bytes → Bytes → Bytes → Bytes → Bool
is_of_draft device uuid name item = bytes_eq name device && bytes_eq item uuid

-- under which uuid the draft goes on: a fork and a renaming give it another
abbrev pub next_uuid : Bytes → Bytes → Move → Bytes
next_uuid device uuid (Fork name item other) = if is_of_draft device uuid name item then other else uuid
next_uuid device uuid (Rename name item other) = if is_of_draft device uuid name item then other else uuid
next_uuid device uuid m = uuid

abbrev pub trail : Bytes → Bytes → List Move → Bytes
trail device uuid [] = uuid
trail device uuid (m ∷ ms) = trail device (next_uuid device uuid m) ms

-- the draft went by this uuid at one time
abbrev pub IsOnTrail : Bytes → Bytes → List Move → Bytes → Type 0
IsOnTrail device uuid [] item = item ≡ uuid
IsOnTrail device uuid (m ∷ ms) item = (item ≡ uuid) ⊎ IsOnTrail device (next_uuid device uuid m) ms item

-- a later edit, or the draft is dropped
abbrev pub Replaces : Bytes → Bytes → Move → Type 0
Replaces device uuid (Edit name item kind base latest) = (name ≡ device) × (item ≡ uuid)
Replaces device uuid (Drop name item) = (name ≡ device) × (item ≡ uuid)
Replaces device uuid m = ⊥

abbrev pub IsReplaced : Bytes → Bytes → List Move → Type 0
IsReplaced device uuid [] = ⊥
IsReplaced device uuid (m ∷ ms) = Replaces device uuid m ⊎ IsReplaced device (next_uuid device uuid m) ms

-- ---- the law

-- the device's draft of the item has the type, and the text or a copy of it
pub record IsDrafted (s : Ideal) (device uuid kind text : Bytes) : Type 0 where
  pub draft : Draft
  pub at : draft_at s device uuid ≡ Some draft
  pub kind_is : draft.kind ≡ kind
  pub content : IsDraftOf text draft.latest

-- an item's version in the device's account has them
pub record IsAccepted (s : Ideal) (device kind text : Bytes) (IsItem : Bytes → Type 0) : Type 0 where
  pub account : Account
  pub has : account_of s device ≡ Some account
  pub version : One (λ v. IsItem v.uuid × (v.kind ≡ kind) × IsVersionOf text v.body) account.versions

-- behind an edit and the moves that follow it: a later edit of the draft replaces it or it is dropped; or it, or a copy of it, is the draft's content;
-- or it, or a copy of it, is a version of its type in the device's account, of an item that the draft has been
abbrev pub IsKept : Ideal → Bytes → Bytes → Bytes → Bytes → List Move → Type 0
IsKept s device uuid kind text later =
    IsReplaced device uuid later ⊎ (IsDrafted s device (trail device uuid later) kind text ⊎ IsAccepted s device kind text (IsOnTrail device uuid later))

-- an edit is never lost, whatever legal moves follow
abbrev pub EditsKept : Type 0
EditsKept = (before later : List Move) (device uuid kind : Bytes) (base : Option ℕ) (text : Bytes)
    → Legal (before ++ Edit device uuid kind base (Plain text) ∷ later)
    → IsKept (end (before ++ Edit device uuid kind base (Plain text) ∷ later)) device uuid kind text later

-- The account of a device, and whether it asks for a set, behind each of its commits in a call over a link.
use Rattle.std.proofs.Common.{◌≡◌, ℕ, List, [], ◌∷◌, Option, Some, None, refl, sym, ap, ◌∙◌, subst}
use Rattle.rand_chacha.specs.ChaCha.{ChaCha}
use Rattle.sn_rows.specs.Facts.{put_apart, put_here}
use Rattle.sn_rows.specs.Table.{Rows, rows_after}
use Rattle.sn_rows.specs.declared.change.Change.{Change}
use Rattle.sn_rows.specs.declared.device_rows.OwnerRow.{OwnerRow}
use Rattle.sn_rows.specs.declared.key.Key.TheVariants as key
use Rattle.sn_rows.specs.declared.key.Slot.TheVariants.{Asked, Present}
use Rattle.sn_rows.specs.declared.value.Value.TheVariants as value
use Rattle.sn_sets.specs.declared.sets.Sets.{Sets}
use Rattle.sn_string.specs.declared.params.KeySet.{KeySet}
use Rattle.sn_sync.specs.declared.answer.Answer.{Answer}
use Rattle.sn_sync.specs.declared.answer.Answer.TheVariants as answer
use Rattle.sn_sync.specs.declared.item.Item.{Item}
use Rattle.sn_sync.specs.declared.request.Request.{Request}
use Rattle.sn_sync.specs.declared.request.Request.TheVariants as request
use Rattle.sn_device.specs.Changing.{HoldsAsked}
use Rattle.sn_device.specs.Sending.{PostsAll}
use Rattle.sn_device.specs.States.{Bytes, HasOwner, HasSets, IsInSlot, IsSetOf, HasNoneAsked}
use Rattle.sn_device.specs.Steps.{Adopts, AppliesAnswer, AppliesTo, Asks}
use Rattle.sn_device.proofs.Facts.{Adopted, adopted, one_owner, parts_keep, apply_parts, post_parts}

abbrev pub HoldsOwner : Rows → Type 0
HoldsOwner rows = (owner : OwnerRow) × HasOwner rows owner

-- ---- a set that is asked for, or none

pub asks_nothing : (rows : Rows) (owner : OwnerRow) (sets : Sets) → HasSets rows owner sets → sets.asked ≡ None → HasNoneAsked rows
asks_nothing rows owner sets has none = subst (IsInSlot rows owner.identifier Asked) none has.wanted

slot_empty : (rows : Rows) (identifier : Bytes) (found : Option KeySet) → IsInSlot rows identifier Asked found → HasNoneAsked rows → found ≡ None
slot_empty rows identifier None is none = refl
slot_empty rows identifier (Some set) (keys, has, of) none = absurd cc

pub none_asked : (rows : Rows) (owner : OwnerRow) (sets : Sets) → HasSets rows owner sets → HasNoneAsked rows → sets.asked ≡ None
none_asked rows owner sets has none = slot_empty rows owner.identifier sets.asked has.wanted none

pub asks_set : (rows : Rows) (owner : OwnerRow) (sets : Sets) (set : KeySet) → HasSets rows owner sets → sets.asked ≡ Some set
    → HoldsAsked rows owner sets.present set
asks_set rows owner sets set has is =
    record { owned = has.owned; in_use = has.in_use; wanted = subst (IsInSlot rows owner.identifier Asked) is has.wanted }

-- the same account
pub holds_asked_by : (rows : Rows) (held owner : OwnerRow) (present set : KeySet) → HoldsAsked rows held present set → HasOwner rows owner
    → HoldsAsked rows owner present set
holds_asked_by rows held owner present set has owned =
    subst (λ (o : OwnerRow). HoldsAsked rows o present set) (one_owner rows held owner has.owned owned) has

-- a set that stands in a slot is of the account
pub set_named : (rows : Rows) (held owner : OwnerRow) (set : KeySet) → HasOwner rows held → HasOwner rows owner
    → IsInSlot rows held.identifier Asked (Some set) → set.params.identifier ≡ owner.identifier
set_named rows held owner set has owned (keys, stands, of) = of.identifier_is ∙ ap (λ (o : OwnerRow). o.identifier) (one_owner rows held owner has owned)

-- ---- a posting

pub owned_posted : (rows : Rows) (numbers : List ℕ) (posted : List Change) → PostsAll rows numbers posted → HoldsOwner rows
    → HoldsOwner (rows_after rows posted)
owned_posted rows numbers posted all (held, has) =
    let parts = post_parts rows held numbers posted has all in
    let keeps = parts_keep rows posted parts in
    (parts.ends.later, keeps.owned)

pub settled_posted : (rows : Rows) (numbers : List ℕ) (posted : List Change) → PostsAll rows numbers posted → HoldsOwner rows → HasNoneAsked rows
    → HasNoneAsked (rows_after rows posted)
settled_posted rows numbers posted all (held, has) none =
    let parts = post_parts rows held numbers posted has all in
    let keeps = parts_keep rows posted parts in
    keeps.asked ∙ none

-- ---- an answer that is applied

owned_answered : (rows : Rows) (words left : ChaCha) (sent : List Item) (given : Answer) (changes : List Change)
    → AppliesAnswer rows words sent given changes left → HoldsOwner (rows_after rows changes)
owned_answered rows words left sent (answer.Sync conflicts cursor retrieved saved token) changes s =
    let parts = apply_parts rows words left sent conflicts cursor retrieved saved token changes s in
    let keeps = parts_keep rows changes parts in
    (parts.ends.later, keeps.owned)
owned_answered rows words left sent (answer.Account token identifier account) changes s = absurd s
owned_answered rows words left sent (answer.Params params) changes s = absurd s
owned_answered rows words left sent (answer.Refused status tag more) changes s = absurd s

pub owned_applied : (rows : Rows) (words left : ChaCha) (r : Request) (given : Answer) (changes : List Change) → AppliesTo rows words r given changes left
    → HoldsOwner (rows_after rows changes)
owned_applied rows words left (request.Sync token items limit sync_token cursor_token) given changes s =
    owned_answered rows words left items given changes s
owned_applied rows words left (request.Register params pw) given changes s = absurd s
owned_applied rows words left (request.Params identifier) given changes s = absurd s
owned_applied rows words left (request.SignIn identifier pw) given changes s = absurd s
owned_applied rows words left (request.ChangePw token current pw cost nonce) given changes s = absurd s

settled_answered : (rows : Rows) (words left : ChaCha) (sent : List Item) (given : Answer) (changes : List Change)
    → AppliesAnswer rows words sent given changes left → HasNoneAsked rows → HasNoneAsked (rows_after rows changes)
settled_answered rows words left sent (answer.Sync conflicts cursor retrieved saved token) changes s none =
    let parts = apply_parts rows words left sent conflicts cursor retrieved saved token changes s in
    let keeps = parts_keep rows changes parts in
    keeps.asked ∙ none
settled_answered rows words left sent (answer.Account token identifier account) changes s none = absurd s
settled_answered rows words left sent (answer.Params params) changes s none = absurd s
settled_answered rows words left sent (answer.Refused status tag more) changes s none = absurd s

pub settled_applied : (rows : Rows) (words left : ChaCha) (r : Request) (given : Answer) (changes : List Change)
    → AppliesTo rows words r given changes left → HasNoneAsked rows → HasNoneAsked (rows_after rows changes)
settled_applied rows words left (request.Sync token items limit sync_token cursor_token) given changes s none =
    settled_answered rows words left items given changes s none
settled_applied rows words left (request.Register params pw) given changes s none = absurd s
settled_applied rows words left (request.Params identifier) given changes s none = absurd s
settled_applied rows words left (request.SignIn identifier pw) given changes s none = absurd s
settled_applied rows words left (request.ChangePw token current pw cost nonce) given changes s none = absurd s

-- ---- a set that is kept as asked for

pub asks_holds : (rows : Rows) (owner : OwnerRow) (sets : Sets) (set : KeySet) (changes : List Change) → HasSets rows owner sets → Asks rows set changes
    → HoldsAsked (rows_after rows changes) owner sets.present set
asks_holds rows owner sets set changes has a =
    let one : HoldsAsked (rows_after rows (a.change ∷ [])) owner sets.present set =
    record {
      owned = put_apart rows a.change (key.Set Asked) key.Owner (value.Set a.put.keys) a.put.puts refl ∙ has.owned;
      in_use = (
        has.in_use.0,
        put_apart rows a.change (key.Set Asked) (key.Set Present) (value.Set a.put.keys) a.put.puts refl ∙ has.in_use.1,
        has.in_use.2,
      );
      wanted = (
        a.put.keys,
        put_here rows a.change (key.Set Asked) (value.Set a.put.keys) a.put.puts,
        subst (λ (o : OwnerRow). IsSetOf o.identifier a.put.keys set) (one_owner rows a.owner owner a.holds.owned has.owned) a.put.keys_are,
      );
    }
    in
    subst (λ (l : List Change). HoldsAsked (rows_after rows l) owner sets.present set) (sym a.changes_are) one

-- ---- an adoption

module _ (rows : Rows) (words left : ChaCha) (set : KeySet) (token : Bytes) (changes : List Change) (a : Adopts rows words set token changes left) where
  now : Adopted rows a.sets set token a.owner (rows_after rows changes)
  now = adopted rows words left set token changes a

  pub adopts_owned : HoldsOwner (rows_after rows changes)
  adopts_owned = (now.later, now.owned)

  pub adopts_settled : HasNoneAsked (rows_after rows changes)
  adopts_settled = now.asked

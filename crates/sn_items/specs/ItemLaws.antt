-- What holds of every item.
use Rattle.std.specs.Prelude.{◌≡◌, ◌⊎◌, ℕ, List, Result, Ok, Err, IfOk, IfErr}
use Rattle.sn_items.specs.ItemRefusals.{ItemHasCause}
use Rattle.sn_items.specs.Items.{OpensItem}
use Rattle.sn_items.specs.declared.error.ItemError.{ItemError}
use Rattle.sn_items.specs.declared.error.ItemError.TheVariants.{Memory}
use Rattle.sn_items.specs.declared.sealed.Sealed.{Sealed}
use Rattle.sn_items.specs.declared.sealed.Which.{Which}
use Rattle.sn_string.specs.declared.params.KeySet.{KeySet}

-- two strings are the item of one content at most
abbrev pub OneContent : Type 0
OneContent = (sealed : Sealed) (uuid : List ℕ) (set : KeySet) (content other : List ℕ)
    → OpensItem sealed uuid set content → OpensItem sealed uuid set other → content ≡ other

-- where two strings are an item, whatever answer the contract of opening allows is its content or want of memory
abbrev pub SealedItemOpens : Type 0
SealedItemOpens = (sealed : Sealed) (uuid : List ℕ) (set : KeySet) (content : List ℕ) (answer : Result (List ℕ) (Which × ItemError))
    → OpensItem sealed uuid set content
    → IfOk answer (OpensItem sealed uuid set)
    → IfErr answer (λ why. ItemHasCause sealed uuid set why.0 why.1)
    → (answer ≡ Ok content) ⊎ ((which : Which) × (answer ≡ Err (which, Memory)))

-- What is made of the items that are chosen to be sent, one after another.
use Rattle.std.specs.Prelude.{◌≡◌, ◌⊎◌, ◌+◌, ◌-◌, ◌^◌, ℕ, List, [], ◌∷◌, ◌++◌, min, sum_by}
use Rattle.sn_rows.specs.Table.{Rows}
use Rattle.sn_rows.specs.declared.change.Change.{Change}
use Rattle.sn_rows.specs.declared.device_rows.LocalItem.{LocalItem}
use Rattle.sn_sync.specs.declared.item.Item.{Item}
use Rattle.sn_device.specs.Sending.{AreSentAs, AreUnsent, IsSentAs, IsUnsent, Numbered, PostsAll, PutsColumns, as_posted, sent_of, weight_of}
use Rattle.sn_device.specs.States.{columns}
use Rattle.sn_sending.specs.declared.sending.Chosen.{Chosen}

-- a count of bytes, which stays at the end of its type
abbrev pub counted : ℕ → ℕ
counted bytes = min bytes (2 ^ 64 - 1)

-- each of them is in the request, and those that weren't sent before are posted
pub record AreTaken (rows : Rows) (chosen : List Numbered) (taken : Chosen) : Type 0 where
  pub unsent : AreUnsent chosen taken.numbers.items
  pub posted : PostsAll rows taken.numbers.items taken.changes.items
  pub sent : AreSentAs chosen taken.items.items
  pub weighed : taken.bytes ≡ counted (sum_by (λ w. weight_of (sent_of w.1)) chosen)

-- one that wasn't sent before is posted
pub record PostsOne (number : ℕ) (local : LocalItem) (before after : Chosen) : Type 0 where
  pub unsent : IsUnsent local
  pub change : Change
  pub puts : PutsColumns change number (as_posted (columns local))
  pub numbers : after.numbers.items ≡ before.numbers.items ++ number ∷ []
  pub changes : after.changes.items ≡ before.changes.items ++ change ∷ []

-- any other isn't
pub record PostsNone (local : LocalItem) (before after : Chosen) : Type 0 where
  pub sent_before : ¬ (IsUnsent local)
  pub numbers : after.numbers.items ≡ before.numbers.items
  pub changes : after.changes.items ≡ before.changes.items

-- one item more
pub record TakesOne (number : ℕ) (local : LocalItem) (before after : Chosen) : Type 0 where
  pub posts : PostsOne number local before after ⊎ PostsNone local before after
  pub item : Item
  pub is_sent : IsSentAs local item
  pub items : after.items.items ≡ before.items.items ++ item ∷ []
  pub weighed : after.bytes ≡ counted (before.bytes + weight_of (sent_of local))

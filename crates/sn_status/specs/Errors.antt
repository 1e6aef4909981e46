-- A refusal of a command as the error of the library that gave it. None is want of memory.
use Rattle.std.specs.Prelude.{◌≡◌, ⊤}
use Rattle.sn_status.specs.declared.refusal.FormRefusal.{FormRefusal}
use Rattle.sn_status.specs.declared.refusal.FormRefusal.TheVariants as form
use Rattle.sn_status.specs.declared.refusal.ItemRefusal.{ItemRefusal}
use Rattle.sn_status.specs.declared.refusal.ItemRefusal.TheVariants as refusal
use Rattle.sn_items.specs.declared.error.ItemError.{ItemError}
use Rattle.sn_items.specs.declared.error.ItemError.TheVariants as item
use Rattle.sn_string.specs.declared.reader.StringError.{StringError}
use Rattle.sn_string.specs.declared.reader.StringError.TheVariants as string

abbrev pub form_error : FormRefusal → StringError
form_error (form.Parts count) = string.Parts count
form_error (form.Version place) = string.Version place
form_error (form.Hash place) = string.Hash place
form_error (form.Uuid place) = string.Uuid place
form_error (form.Iv place) = string.Iv place
form_error (form.Ciphertext place) = string.Ciphertext place
form_error (form.Params place) = string.Params place

abbrev pub item_error : ItemRefusal → ItemError
item_error (refusal.Form error) = item.Form (form_error error)
item_error (refusal.OtherUuid written) = item.OtherUuid written
item_error (refusal.HashMismatch written computed) = item.HashMismatch written computed
item_error refusal.Padding = item.Padding
item_error (refusal.NotUtf8 place) = item.NotUtf8 place
item_error refusal.NotItemKey = item.NotItemKey
item_error refusal.NotObject = item.NotObject
item_error (refusal.OtherSet nonce) = item.OtherSet nonce

-- the error is want of memory, its own or that of the string's reader
abbrev pub IsWant : ItemError → Type 0
IsWant (item.Form error) = error ≡ string.Memory
IsWant (item.OtherUuid written) = ⊥
IsWant (item.HashMismatch written computed) = ⊥
IsWant item.Padding = ⊥
IsWant (item.NotUtf8 place) = ⊥
IsWant item.NotItemKey = ⊥
IsWant item.NotObject = ⊥
IsWant (item.OtherSet nonce) = ⊥
IsWant item.Memory = ⊤

-- What a call is, as far as its batches and its exchanges don't tell it.
use Rattle.std.specs.Prelude.{◌≡◌, Some}
use Rattle.rand_chacha.specs.ChaCha.{ChaCha}
use Rattle.sn_device.specs.Runs.{Call, IsNewSet, delete, edit, passwd, put, register, sign_in, sync}
use Rattle.sn_string.specs.declared.params.KeySet.{KeySet}
use Rattle.sn_telling.specs.declared.calling.Calling.{Calling}
use Rattle.sn_telling.specs.declared.calling.Calling.TheVariants as calling

-- the call, from these words: of a registration the identifier, and the set that the words give where they give one; of a sign-in the identifier; of an
-- item that is put its type and its content; of one that is edited its content
abbrev pub IsCallingOf : ChaCha → Call → Calling → Type 0
IsCallingOf words (register identifier password cost) (calling.Register name set) =
    (identifier ≡ name) × ((new : KeySet) (left : ChaCha) → IsNewSet words identifier password cost new left → set ≡ Some new)
IsCallingOf words (sign_in identifier password) (calling.SignIn name) = identifier ≡ name
IsCallingOf words (put kind text) (calling.Put type object) = (kind ≡ type) × (text ≡ object)
IsCallingOf words (edit uuid text) (calling.Edit object) = text ≡ object
IsCallingOf words (delete uuid) calling.Delete = Unit {0}
IsCallingOf words sync calling.Sync = Unit {0}
IsCallingOf words (passwd password cost) calling.Passwd = Unit {0}
IsCallingOf words call other = ⊥

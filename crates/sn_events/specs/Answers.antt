-- What an event gives, by how the call of its device ended.
use Rattle.std.specs.Prelude.{◌≡◌, Result, Ok, Err, ⊤}
use Rattle.rand_chacha.specs.ChaCha.{ChaCha}
use Rattle.sn_device.specs.Runs.{Given, Halt, answered, broken, refused}
use Rattle.sn_client.specs.declared.called.Called.{Called}
use Rattle.sn_client.specs.declared.called.Called.TheVariants as called
use Rattle.sn_device.specs.declared.error.ClientError.{ClientError}
use Rattle.sn_device.specs.declared.error.ClientError.TheVariants.{NoAccount, NoItem, Closed, TooLong, NotObject, Refused, BadAnswer, RoundsUsed, NoFreshUuid, WrongPassword, OtherAccount, HasAccount, Cost, NumbersUsed, Rekey, TooLarge, LinkFault, Memory}

-- memory was wanting, on the device, or at the server, which has no other use for this status
abbrev pub IsWant : ClientError → Type 0
IsWant NoAccount = ⊥
IsWant (NoItem uuid) = ⊥
IsWant (Closed nonce) = ⊥
IsWant (TooLong length) = ⊥
IsWant NotObject = ⊥
IsWant (Refused status tag) = status ≡ 503
IsWant (BadAnswer place) = ⊥
IsWant RoundsUsed = ⊥
IsWant (NoFreshUuid drawn) = ⊥
IsWant WrongPassword = ⊥
IsWant (OtherAccount identifier) = ⊥
IsWant (HasAccount identifier) = ⊥
IsWant (Cost cost) = ⊥
IsWant (NumbersUsed next) = ⊥
IsWant (Rekey error) = ⊥
IsWant (TooLarge size) = ⊥
IsWant LinkFault = ⊥
IsWant Memory = ⊤

-- the call ended in no want of memory
abbrev pub IsPlain : Halt → Type 0
IsPlain (answered given left) = ⊤
IsPlain (refused why) = ¬ (IsWant why)
IsPlain (broken what changes) = ⊥

-- a call that ended so is answered with what was given, and these words are left; or it is refused
abbrev pub IsHalt : {T : Type 0} → (T → Given) → ChaCha → Result T ClientError → Halt → Type 0
IsHalt gives left (Ok given) halt = halt ≡ answered (gives given) left
IsHalt gives left (Err why) halt = halt ≡ refused why

module _ {S D T : Type 0} where
  -- the device of a call that ended so, and what it gave
  abbrev pub IsAnswered : Called S D T → S → Result T ClientError → Type 0
  IsAnswered (called.Done device given) here (Ok value) = (here ≡ device) × (value ≡ given)
  IsAnswered (called.Done device given) here (Err error) = ⊥
  IsAnswered (called.Refused device why) here (Ok value) = ⊥
  IsAnswered (called.Refused device why) here (Err error) = (here ≡ device) × (error ≡ why) × ¬ (IsWant why)
  IsAnswered (called.Broken disk) here (Ok value) = ⊥
  IsAnswered (called.Broken disk) here (Err error) = ⊥

-- The texts of a device's refusals and of places in an answer.
use Rattle.std.specs.Prelude.{ℕ, List, ◌++◌, codes}
use Rattle.std.specs.Fmt.{decimal}
use Rattle.sn_status.specs.declared.refusal.ClientRefusal.{ClientRefusal}
use Rattle.sn_status.specs.declared.refusal.ClientRefusal.TheVariants.{NoAccount, NoItem, Closed, TooLong, NotObject, RoundsUsed, NoFreshUuid, WrongPassword, OtherAccount, HasAccount, Cost, NumbersUsed, Rekey, TooLarge}
use Rattle.sn_device.specs.declared.error.Place.{Place}
use Rattle.sn_device.specs.declared.error.Place.TheVariants.{Head, Json, Member, Saved, Conflict, Retrieved, Cursor}
use Rattle.sn_rekey.specs.declared.error.RekeyError.{RekeyError}
use Rattle.sn_rekey.specs.declared.error.RekeyError.TheVariants.{ChangeRunning, Unsent}
use Rattle.sn_rekey.specs.declared.error.Running.{Running}
use Rattle.sn_rekey.specs.declared.error.Running.TheVariants.{Older, Item}
use Rattle.sn_string.specs.Uuids.{uuid_text}

-- by what a change of password is seen to be under way: the nonce of an older set, or an item's uuid
abbrev pub running_text : Running → List ℕ
running_text (Older nonce) = nonce
running_text (Item uuid) = uuid_text uuid

-- why no change of password may begin: the refusal's number among those of such a change, its name and the value that it keeps
abbrev pub rekey_text : RekeyError → List ℕ
rekey_text (ChangeRunning running) = codes "rekey.1 ChangeRunning " ++ running_text running
rekey_text (Unsent uuid) = codes "rekey.2 Unsent " ++ uuid_text uuid

-- a refusal: its number among a device's, its name and the values that it keeps; one of a change of password has its own
-- number, and a batch too large the journal's
abbrev pub client_text : ClientRefusal → List ℕ
client_text NoAccount = codes "client.1 NoAccount"
client_text (NoItem uuid) = codes "client.2 NoItem " ++ uuid_text uuid
client_text (Closed nonce) = codes "client.3 Closed " ++ nonce
client_text (TooLong length) = codes "client.4 TooLong " ++ decimal length
client_text NotObject = codes "client.5 NotObject"
client_text RoundsUsed = codes "client.8 RoundsUsed"
client_text (NoFreshUuid drawn) = codes "client.9 NoFreshUuid " ++ uuid_text drawn
client_text WrongPassword = codes "client.11 WrongPassword"
client_text (OtherAccount identifier) = codes "client.12 OtherAccount " ++ identifier
client_text (HasAccount identifier) = codes "client.13 HasAccount " ++ identifier
client_text (Cost cost) = codes "client.14 Cost " ++ decimal cost
client_text (NumbersUsed next) = codes "client.15 NumbersUsed " ++ decimal next
client_text (Rekey error) = rekey_text error
client_text (TooLarge size) = codes "journal.3 TooLarge " ++ decimal size

-- where bytes that came as an answer are out of form, or fail a check
abbrev pub place_text : Place → List ℕ
place_text Head = codes "head"
place_text Json = codes "json"
place_text (Member name) = codes "member " ++ name
place_text (Saved index) = codes "saved " ++ decimal index
place_text (Conflict index) = codes "conflict " ++ decimal index
place_text (Retrieved index) = codes "retrieved " ++ decimal index
place_text Cursor = codes "cursor"

-- Statuses, and the line of each on standard error.
use Rattle.std.specs.Prelude.{◌≡◌, ◌⊎◌, ℕ, List, [], ◌∷◌, ◌++◌, codes, ⊤}
use Rattle.std.specs.Fmt.{decimal}
use Rattle.hex.specs.Hex.{encode_lower}
use Rattle.sn_status.specs.declared.refusal.FormRefusal.{FormRefusal}
use Rattle.sn_status.specs.declared.refusal.FormRefusal.TheVariants as form
use Rattle.sn_status.specs.declared.refusal.ItemRefusal.{ItemRefusal}
use Rattle.sn_status.specs.declared.refusal.ItemRefusal.TheVariants as item
use Rattle.sn_status.specs.declared.refusal.Refusal.{Refusal}
use Rattle.sn_status.specs.declared.refusal.Refusal.TheVariants.{InputLong, InputUtf8, Form, Item, Line, NotAllowed, PasswordLine, Client}
use Rattle.sn_status.specs.declared.status.Status.{Status}
use Rattle.sn_status.specs.declared.status.Status.TheVariants as status
use Rattle.sn_status.specs.declared.status.Unfit.{Unfit}
use Rattle.sn_status.specs.declared.status.Unfit.TheVariants as unfit
use Rattle.sn_status.specs.ClientLines.{client_text, place_text}
use Rattle.sn_rows.specs.Kinds.{kind_number}
use Rattle.sn_string.specs.Uuids.{uuid_text}

abbrev pub code_of : Status → ℕ
code_of status.Done = 0
code_of status.Usage = 2
code_of (status.Refused refusal) = 3
code_of status.DiskFault = 4
code_of status.LinkFault = 5
code_of status.ReadFault = 6
code_of status.WriteFault = 7
code_of status.Memory = 8
code_of (status.Foreign fault) = 9
code_of (status.Server number tag) = 10
code_of (status.BadAnswer place) = 11

-- a refusal of the string's form: its number in sn_string, its name, the count or the place
abbrev pub form_text : FormRefusal → List ℕ
form_text (form.Parts count) = codes "string.1 Parts " ++ decimal count
form_text (form.Version place) = codes "string.2 Version " ++ decimal place
form_text (form.Hash place) = codes "string.3 Hash " ++ decimal place
form_text (form.Uuid place) = codes "string.4 Uuid " ++ decimal place
form_text (form.Iv place) = codes "string.5 Iv " ++ decimal place
form_text (form.Ciphertext place) = codes "string.6 Ciphertext " ++ decimal place
form_text (form.Params place) = codes "string.7 Params " ++ decimal place

-- a refusal of opening, with the values that it keeps
abbrev pub item_text : ItemRefusal → List ℕ
item_text (item.Form refusal) = form_text refusal
item_text (item.OtherUuid written) = codes "items.8 OtherUuid " ++ uuid_text written
item_text (item.HashMismatch written computed) = codes "items.9 HashMismatch " ++ (encode_lower written ++ (codes " " ++ encode_lower computed))
item_text item.Padding = codes "items.10 Padding"
item_text (item.NotUtf8 place) = codes "items.11 NotUtf8 " ++ decimal place
item_text item.NotItemKey = codes "items.12 NotItemKey"
item_text item.NotObject = codes "items.13 NotObject"
item_text (item.OtherSet nonce) = codes "items.14 OtherSet " ++ nonce

abbrev pub refusal_text : Refusal → List ℕ
refusal_text InputLong = codes "cli.1 InputLong"
refusal_text (InputUtf8 place) = codes "cli.2 InputUtf8 " ++ decimal place
refusal_text (Form refusal) = form_text refusal
refusal_text (Item refusal) = item_text refusal
refusal_text (Line number) = codes "replay.1 Line " ++ decimal number
refusal_text (NotAllowed number) = codes "replay.2 NotAllowed " ++ decimal number
refusal_text (PasswordLine length) = codes "cli.3 PasswordLine " ++ decimal length
refusal_text (Client refusal) = client_text refusal

-- what is wrong with a store, with the place or the kind's number
abbrev pub unfit_text : Unfit → List ℕ
unfit_text (unfit.Foreign place) = codes "foreign " ++ decimal place
unfit_text (unfit.Damaged place) = codes "damaged " ++ decimal place
unfit_text (unfit.Rows kind) = codes "rows " ++ decimal (kind_number kind)

-- the line of a status
abbrev pub line_of : Status → List ℕ
line_of status.Done = []
line_of status.Usage = codes "sn: usage\n"
line_of (status.Refused refusal) = codes "sn: " ++ (refusal_text refusal ++ 10 ∷ [])
line_of status.DiskFault = codes "sn: disk fault\n"
line_of status.LinkFault = codes "sn: link fault\n"
line_of status.ReadFault = codes "sn: read fault\n"
line_of status.WriteFault = codes "sn: write fault\n"
line_of status.Memory = codes "sn: memory\n"
line_of (status.Foreign fault) = codes "sn: " ++ (unfit_text fault ++ 10 ∷ [])
line_of (status.Server number tag) = codes "sn: server " ++ (decimal number ++ (codes " " ++ (tag ++ 10 ∷ [])))
line_of (status.BadAnswer place) = codes "sn: answer " ++ (place_text place ++ 10 ∷ [])

-- a status whose line tells values
abbrev pub TellsValues : Status → Type 0
TellsValues status.Done = ⊥
TellsValues status.Usage = ⊥
TellsValues (status.Refused refusal) = ⊤
TellsValues status.DiskFault = ⊥
TellsValues status.LinkFault = ⊥
TellsValues status.ReadFault = ⊥
TellsValues status.WriteFault = ⊥
TellsValues status.Memory = ⊥
TellsValues (status.Foreign fault) = ⊤
TellsValues (status.Server number tag) = ⊤
TellsValues (status.BadAnswer place) = ⊤

-- The status whose line is told: this one, or want of memory in the place of one whose line tells values.
abbrev pub IsTold : Status → Status → Type 0
IsTold before after = (after ≡ before) ⊎ (TellsValues before × (after ≡ status.Memory))

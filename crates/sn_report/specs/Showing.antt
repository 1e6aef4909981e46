-- The lines that show a state: each account with its items, then each device with its drafts and what is closed to it.
use Rattle.std.specs.Prelude.{ℕ, List, [], ◌∷◌, ◌++◌, length, Option, Some, None, codes}
use Rattle.std.specs.Fmt.{decimal}
use Rattle.std.specs.List.{flat_map}
use Rattle.sn_laws.specs.Lookups.{Bytes, device_named, draft_at, last_of}
use Rattle.sn_laws.specs.declared.ideal.Account.{Account}
use Rattle.sn_laws.specs.declared.ideal.Body.{Body}
use Rattle.sn_laws.specs.declared.ideal.Body.TheVariants.{Under, Gone}
use Rattle.sn_laws.specs.declared.ideal.Content.{Content}
use Rattle.sn_laws.specs.declared.ideal.Device.{Device}
use Rattle.sn_laws.specs.declared.ideal.Draft.{Draft}
use Rattle.sn_laws.specs.declared.ideal.Ideal.{Ideal}
use Rattle.sn_laws.specs.declared.ideal.Version.{Version}
use Rattle.sn_report.specs.Labels.{Labels, items_of, label_text, relabelled}
use Rattle.sn_report.specs.Text.{content_text}

-- the last version of an item: its stamp, and its set and content or its deletion
abbrev pub body_text : Labels → Body → List ℕ
body_text labels (Under text number) = codes "set " ++ (decimal number ++ (codes " " ++ relabelled labels text))
body_text labels Gone = codes "deleted"

abbrev pub item_text : Labels → Bytes → ℕ → Body → List ℕ
item_text labels uuid stamp body = codes "item " ++ (label_text labels uuid ++ (codes " @" ++ (decimal stamp ++ (codes " " ++ body_text labels body))))

abbrev pub version_text : Labels → Version → List ℕ
version_text labels v = item_text labels v.uuid v.stamp v.body

abbrev pub version_lines : Labels → Option Version → List (List ℕ)
version_lines labels None = []
version_lines labels (Some v) = version_text labels v ∷ []

-- an account with its last set's number, and its items in order of label, each once
abbrev pub last_set_text : Bytes → ℕ → List ℕ
last_set_text identifier number = codes "account " ++ (identifier ++ (codes " set " ++ decimal number))

abbrev pub account_text : Account → List ℕ
account_text a = last_set_text a.identifier (length a.sets)

abbrev pub account_lines : Labels → Account → List (List ℕ)
account_lines labels a = account_text a ∷ flat_map (λ uuid. version_lines labels (last_of uuid a.versions)) (items_of labels)

-- the sets that a device holds
abbrev pub held_text : List ℕ → List ℕ
held_text [] = []
held_text (n ∷ ns) = codes " " ++ (decimal n ++ held_text ns)

abbrev pub latest_text : Labels → Bytes → Bytes → Content → List ℕ
latest_text labels device uuid latest = codes "draft " ++ (device ++ (codes " " ++ (label_text labels uuid ++ (codes " " ++ content_text labels latest))))

abbrev pub draft_text : Labels → Draft → List ℕ
draft_text labels d = latest_text labels d.device d.uuid d.latest

abbrev pub draft_lines : Labels → Option Draft → List (List ℕ)
draft_lines labels None = []
draft_lines labels (Some d) = draft_text labels d ∷ []

-- an item's row without a draft that opens under no set that the device holds, with the number of the set under which it is sealed
abbrev pub closed_text : Labels → Bytes → Bytes → ℕ → List ℕ
closed_text labels device uuid number = codes "closed " ++ (device ++ (codes " " ++ (label_text labels uuid ++ (codes " set " ++ decimal number))))

abbrev pub closed_lines : Labels → Bytes → Bytes → Option ℕ → List (List ℕ)
closed_lines labels device uuid None = []
closed_lines labels device uuid (Some number) = closed_text labels device uuid number ∷ []

-- a device with its account and its sets, its drafts in order of label, each once, and likewise what is closed to it. The state doesn't say what
-- rows a device has: so it is told of each item of a device under which set its row is closed
abbrev pub sets_text : Bytes → Bytes → List ℕ → List ℕ
sets_text name account held = codes "device " ++ (name ++ (codes " " ++ (account ++ (codes " sets" ++ held_text held))))

abbrev pub none_text : Bytes → List ℕ
none_text name = codes "device " ++ (name ++ codes " none")

abbrev pub device_text : Bytes → Option Device → List ℕ
device_text name None = none_text name
device_text name (Some d) = sets_text name d.account d.held

abbrev pub device_lines : Labels → Ideal → (Bytes → Bytes → Option ℕ) → Bytes → List (List ℕ)
device_lines labels s closed name =
    device_text name (device_named s name)
    ∷ (flat_map (λ uuid. draft_lines labels (draft_at s name uuid)) (items_of labels)
    ++ flat_map (λ uuid. closed_lines labels name uuid (closed name uuid)) (items_of labels))

-- accounts in the order in which they began, devices in that of their first lines
abbrev pub show_lines : Labels → List Bytes → Ideal → (Bytes → Bytes → Option ℕ) → List (List ℕ)
show_lines labels names s closed = flat_map (account_lines labels) s.accounts ++ flat_map (device_lines labels s closed) names

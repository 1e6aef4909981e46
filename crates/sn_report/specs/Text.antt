-- The text of a report.
use Rattle.std.specs.Prelude.{ℕ, List, [], ◌∷◌, ◌++◌, Bool, Option, Some, None, codes}
use Rattle.std.specs.Fmt.{decimal}
use Rattle.std.specs.List.{flat_map}
use Rattle.sn_laws.specs.Lookups.{Bytes}
use Rattle.sn_laws.specs.declared.ideal.Content.{Content}
use Rattle.sn_laws.specs.declared.ideal.Content.TheVariants as content
use Rattle.sn_laws.specs.declared.moves.Move.{Move}
use Rattle.sn_laws.specs.declared.moves.Move.TheVariants.{Register, Join, Edit, Drop, Post, Unpost, Accept, Rewrap, Settle, SettlePosted, Fork, Rename, GiveWay, Change, Retire}
use Rattle.sn_report.specs.Labels.{Labels, label_text, labels_after, labels_of, relabelled}
use Rattle.sn_report.specs.declared.report.Event.{Event}
use Rattle.sn_report.specs.declared.report.Last.{Last}
use Rattle.sn_report.specs.declared.report.Last.TheVariants as last
use Rattle.sn_report.specs.declared.report.Report.{Report}
use Rattle.sn_report.specs.Sets.{nonce_text, sets_of}
use Rattle.sn_report.specs.declared.sets.NumberedSet.{NumberedSet}
use Rattle.sn_rekey.specs.declared.error.RekeyError.{RekeyError}
use Rattle.sn_rekey.specs.declared.error.RekeyError.TheVariants as rekey
use Rattle.sn_rekey.specs.declared.error.Running.TheVariants as running
use Rattle.sn_status.specs.ClientLines.{client_text, place_text}
use Rattle.sn_status.specs.declared.refusal.ClientRefusal.{ClientRefusal}
use Rattle.sn_status.specs.declared.refusal.ClientRefusal.TheVariants as refusal

-- a draft's content, or its deletion
abbrev pub content_text : Labels → Content → List ℕ
content_text labels (content.Plain text) = relabelled labels text
content_text labels content.Deleted = codes "deleted"

-- a version's set, or its deletion
abbrev pub under_text : Option ℕ → List ℕ
under_text (Some number) = codes "set " ++ decimal number
under_text None = codes "deleted"

-- a draft gets a content, a draft becomes a version

abbrev pub edit_text : Labels → Bytes → Bytes → Content → List ℕ
edit_text labels device uuid latest = codes "edit " ++ (device ++ (codes " " ++ (label_text labels uuid ++ (codes " " ++ content_text labels latest))))

abbrev pub accept_text : Labels → Bytes → ℕ → Option ℕ → List ℕ
accept_text labels uuid stamp under = codes "accept " ++ (label_text labels uuid ++ (codes " @" ++ (decimal stamp ++ (codes " " ++ under_text under))))

-- a device does something with a draft, whose item may get another label

abbrev pub draft_text : List ℕ → Labels → Bytes → Bytes → List ℕ
draft_text word labels device uuid = word ++ (codes " " ++ (device ++ (codes " " ++ label_text labels uuid)))

abbrev pub moved_text : List ℕ → Labels → Bytes → Bytes → Bytes → List ℕ
moved_text word labels device uuid other = draft_text word labels device uuid ++ (codes " " ++ label_text labels other)

-- a move, with the labels that there are after it
abbrev pub move_text : Labels → Move → List ℕ
move_text labels (Register identifier set) = codes "register " ++ (identifier ++ codes " set 1")
move_text labels (Join device identifier number) = codes "join " ++ (device ++ (codes " " ++ (identifier ++ (codes " set " ++ decimal number))))
move_text labels (Edit device uuid kind base latest) = edit_text labels device uuid latest
move_text labels (Drop device uuid) = draft_text (codes "drop") labels device uuid
move_text labels (Post device uuid) = draft_text (codes "post") labels device uuid
move_text labels (Unpost device uuid) = draft_text (codes "unpost") labels device uuid
move_text labels (Accept device uuid stamp under) = accept_text labels uuid stamp under
move_text labels (Rewrap uuid stamp under) =
    codes "rewrap " ++ (label_text labels uuid ++ (codes " @" ++ (decimal stamp ++ (codes " set " ++ decimal under))))
move_text labels (Settle device uuid) = draft_text (codes "settle") labels device uuid
move_text labels (SettlePosted device uuid stamp) = draft_text (codes "settle") labels device uuid ++ (codes " @" ++ decimal stamp)
move_text labels (Fork device uuid other) = moved_text (codes "fork") labels device uuid other
move_text labels (Rename device uuid other) = moved_text (codes "rename") labels device uuid other
move_text labels (GiveWay device uuid) = draft_text (codes "giveway") labels device uuid
move_text labels (Change identifier number set) = codes "change " ++ (identifier ++ (codes " set " ++ decimal number))
move_text labels (Retire device number) = codes "retire " ++ (device ++ (codes " set " ++ decimal number))

-- a device's refusal: its number, its name and the values that it keeps, each labelled uuid as its label and each nonce as its set

abbrev pub running_text : Labels → List NumberedSet → RekeyError → List ℕ
running_text labels sets (rekey.ChangeRunning (running.Older nonce)) = codes "rekey.1 ChangeRunning " ++ nonce_text sets nonce
running_text labels sets other = relabelled labels (client_text (refusal.Rekey other))

abbrev pub refused_text : Labels → List NumberedSet → ClientRefusal → List ℕ
refused_text labels sets (refusal.Closed nonce) = codes "client.3 Closed " ++ nonce_text sets nonce
refused_text labels sets (refusal.Rekey error) = running_text labels sets error
refused_text labels sets other = relabelled labels (client_text other)

-- how an event ended; of an answer that is none, or fails a check, the place
abbrev pub last_text : Labels → List NumberedSet → Last → List ℕ
last_text labels sets last.Done = codes "= ok"
last_text labels sets last.Link = codes "= link"
last_text labels sets (last.Server status tag) = codes "= server " ++ (decimal status ++ (codes " " ++ tag))
last_text labels sets (last.Refused why) = codes "= refused " ++ refused_text labels sets why
last_text labels sets (last.BadAnswer place) = codes "= refused client.7 BadAnswer " ++ place_text place
last_text labels sets (last.Answer status) = codes "= answer " ++ decimal status

-- a line of a report: the number of the script's line, and what there is to say
abbrev pub line_text : ℕ → List ℕ → List ℕ
line_text number text = decimal number ++ (codes " " ++ (text ++ 10 ∷ []))

abbrev pub moves_text : ℕ → Bool → Labels → List Move → List ℕ
moves_text number puts labels [] = []
moves_text number puts labels (m ∷ ms) =
    line_text number (move_text (labels_after puts labels m) m) ++ moves_text number puts (labels_after puts labels m) ms

-- an event: its moves, what it shows, and how it ended
abbrev pub event_text : Labels → List NumberedSet → Event → List ℕ
event_text labels sets e =
    moves_text e.number e.puts labels e.moves
    ++ (flat_map (line_text e.number) e.shown ++ line_text e.number (last_text (labels_of e.puts labels e.moves) (sets_of sets e.moves) e.last))

abbrev pub events_text : Labels → List NumberedSet → List Event → List ℕ
events_text labels sets [] = []
events_text labels sets (e ∷ es) = event_text labels sets e ++ events_text (labels_of e.puts labels e.moves) (sets_of sets e.moves) es

abbrev pub report_text : Report → List ℕ
report_text report = events_text [] [] report.events

-- Labels of items, in the order in which they were made; the first is #1.
use Rattle.std.specs.Prelude.{ℕ, zero, suc, ◌+◌, List, [], ◌∷◌, ◌++◌, Bool, not, Option, Some, None, if◌then◌else◌, filter, nat_eq, slice_get}
use Rattle.std.specs.Fmt.{decimal}
use Rattle.std.specs.List.{list_any, starts_with}
use Rattle.std.specs.Str.{bytes_eq}
use Rattle.sn_laws.specs.Lookups.{Bytes}
use Rattle.sn_laws.specs.declared.moves.Move.{Move}
use Rattle.sn_laws.specs.declared.moves.Move.TheVariants.{Register, Join, Edit, Drop, Post, Unpost, Accept, Rewrap, Settle, SettlePosted, Fork, Rename, GiveWay, Change, Retire}
use Rattle.sn_string.specs.Uuids.{uuid_text}

-- the item of each label, that of #1 first. An item stands here once for each label that it has
abbrev pub Labels : Type 0
Labels = List Bytes

abbrev pub is_labelled : Labels → Bytes → Bool
is_labelled labels uuid = list_any (λ l. bytes_eq l uuid) labels

-- the least label of an item, where the first in the list is number n; an item without one would have the next
abbrev pub label_from : ℕ → Labels → Bytes → ℕ
label_from n [] uuid = n
label_from n (l ∷ ls) uuid = if bytes_eq l uuid then n else label_from (n + 1) ls uuid

abbrev pub label_text : Labels → Bytes → List ℕ
label_text labels uuid = 35 ∷ decimal (label_from 1 labels uuid)

-- the items that have labels, each once, by their least labels
abbrev pub items_of : Labels → List Bytes
items_of [] = []
items_of (l ∷ ls) = l ∷ filter (λ other. not (bytes_eq l other)) (items_of ls)

-- the item of the label with this number. There is none of number 0
abbrev pub item_at : Labels → ℕ → Option Bytes
item_at labels zero = None
item_at labels (suc place) = slice_get labels place

-- an item takes the next label, also where it has one
abbrev pub labelled : Labels → Bytes → Labels
labelled labels uuid = labels ++ uuid ∷ []

-- the label that a move makes: of an item that is edited, where the line puts a new item; of one that a draft is forked to; of one that
-- it is renamed to
abbrev pub labels_after : Bool → Labels → Move → Labels
labels_after puts labels (Edit device uuid kind base latest) = if puts then labelled labels uuid else labels
labels_after puts labels (Fork device uuid other) = labelled labels other
labels_after puts labels (Rename device uuid other) = labelled labels other
labels_after puts labels (Register identifier set) = labels
labels_after puts labels (Join device identifier number) = labels
labels_after puts labels (Drop device uuid) = labels
labels_after puts labels (Post device uuid) = labels
labels_after puts labels (Unpost device uuid) = labels
labels_after puts labels (Accept device uuid stamp under) = labels
labels_after puts labels (Rewrap uuid stamp under) = labels
labels_after puts labels (Settle device uuid) = labels
labels_after puts labels (SettlePosted device uuid stamp) = labels
labels_after puts labels (GiveWay device uuid) = labels
labels_after puts labels (Change identifier number set) = labels
labels_after puts labels (Retire device number) = labels

-- the labels that there are after the moves of a line's event
abbrev pub labels_of : Bool → Labels → List Move → Labels
labels_of puts labels [] = labels
labels_of puts labels (m ∷ ms) = labels_of puts (labels_after puts labels m) ms

-- the label of the item whose uuid, as text, stands at the front of a text
abbrev pub label_at : Labels → Labels → List ℕ → Option (List ℕ)
label_at all [] text = None
label_at all (l ∷ ls) text = if starts_with nat_eq text (uuid_text l) then Some (label_text all l) else label_at all ls text

-- the label, and what is to be printed behind the uuid; or the character, and what is to be printed behind it
abbrev pub one : Option (List ℕ) → ℕ → List ℕ → List ℕ → List ℕ
one None c past next = c ∷ next
one (Some label) c past next = label ++ past

-- a text read from the left, with each labelled uuid as its label; so many characters of a uuid are still to be passed over
abbrev pub relabelled_from : Labels → ℕ → List ℕ → List ℕ
relabelled_from labels n [] = []
relabelled_from labels (suc n) (c ∷ cs) = relabelled_from labels n cs
relabelled_from labels zero (c ∷ cs) = one (label_at labels labels (c ∷ cs)) c (relabelled_from labels 35 cs) (relabelled_from labels zero cs)

abbrev pub relabelled : Labels → List ℕ → List ℕ
relabelled labels text = relabelled_from labels 0 text

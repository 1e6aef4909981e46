-- Which script a number and a count make.
use Rattle.std.specs.Prelude.{◌≡◌, ◌≢◌, ◌<◌, ◌≤◌, ℕ, zero, suc, ◌+◌, ◌*◌, ◌/◌, ◌%◌, ◌==◌, ◌&&◌, ◌||◌, List, [], ◌∷◌, ◌++◌, length, Bool, false, not, codes, nat_le, count_by, if◌then◌else◌, IsTrue, Some, slice_get}
use Rattle.std.specs.Fmt.{decimal}
use Rattle.std.specs.List.{list_any}
use Rattle.sn_script.specs.declared.script.Fate.TheVariants as fate
use Rattle.sn_script.specs.declared.script.Line.{Line}
use Rattle.sn_script.specs.declared.script.Line.TheVariants as line
use Rattle.sn_script.specs.declared.script.Ordinal.TheVariants as ordinal
use Rattle.sn_script.specs.declared.script.Script.{Script}

-- ---- the numbers that are drawn

-- each number gives the next
abbrev pub next : ℕ → ℕ
next x = (75 * x + 74) % 65537

-- the number that an event draws: the first event has number 1, and draws the one next to what is given
abbrev pub drawn : ℕ → ℕ → ℕ
drawn number zero = number
drawn number (suc i) = next (drawn number i)

-- the kind of event for which a number stands, and which device's event it is: 0 is A, 1 is B
abbrev pub kind_of : ℕ → ℕ
kind_of x = x % 8

abbrev pub side_of : ℕ → ℕ
side_of x = (x / 8) % 2

abbrev pub name_of : ℕ → List ℕ
name_of side = if side == 0 then codes "A" else codes "B"

abbrev pub kind_at : ℕ → ℕ → ℕ
kind_at number i = kind_of (drawn number i)

abbrev pub side_at : ℕ → ℕ → ℕ
side_at number i = side_of (drawn number i)

-- ---- puts and their labels

-- the events up to one
abbrev pub events_to : ℕ → List ℕ
events_to zero = []
events_to (suc i) = events_to i ++ suc i ∷ []

-- an event of kind 0 to 4 writes an item, here of this device
abbrev pub writes_on : ℕ → ℕ → ℕ → Bool
writes_on number side i = (side_at number i == side) && nat_le (kind_at number i) 4

-- an event puts a new item where its kind is 0 to 3; or where it is 4, and no event before it wrote an item on its device
abbrev pub is_put : ℕ → ℕ → Bool
is_put number zero = false
is_put number (suc i) =
    nat_le (kind_at number (suc i)) 3
    || ((kind_at number (suc i) == 4) && not (list_any (writes_on number (side_at number (suc i))) (events_to i)))

-- the label of what an event puts: so many puts there are of both devices, this one too
abbrev pub label_at : ℕ → ℕ → ℕ
label_at number i = count_by (is_put number) (events_to i)

-- event k is the last put of the device before event i
pub record IsLastPut (number side i k : ℕ) : Type 0 where
  pub before : k < i
  pub put : IsTrue (is_put number k)
  pub own : side_at number k ≡ side
  pub last : (j : ℕ) → k < j → j < i → IsTrue (is_put number j) → side_at number j ≢ side

-- ---- the lines

-- what an event writes: an object text with the event's number
abbrev pub content_of : ℕ → List ℕ
content_of i = codes "{\"n\":" ++ (decimal i ++ codes "}")

-- an event's line: a put; of kind 4 else an edit of the device's last put; of kind 5 or 6 a sync; of kind 7 one whose first reply is lost
pub data IsEvent (number i : ℕ) (l : Line) : Type 0 where
  puts : IsTrue (is_put number i) → l ≡ line.Put (name_of (side_at number i)) [] (content_of i) → IsEvent number i l
  edits : (k : ℕ) → kind_at number i ≡ 4 → IsLastPut number (side_at number i) i k
      → l ≡ line.Edit (name_of (side_at number i)) (ordinal.Nth (label_at number k)) [] (content_of i) → IsEvent number i l
  syncs : 5 ≤ kind_at number i → kind_at number i ≤ 6 → l ≡ line.Sync (name_of (side_at number i)) [] → IsEvent number i l
  loses : kind_at number i ≡ 7 → l ≡ line.Sync (name_of (side_at number i)) (fate.DropReply (ordinal.Nth 1) ∷ []) → IsEvent number i l

-- so many lines, each of its event
pub record AreEvents (number count : ℕ) (lines : List Line) : Type 0 where
  pub counted : length lines ≡ count
  pub each : (k : ℕ) (l : Line) → slice_get lines k ≡ Some l → IsEvent number (suc k) l

-- what stands before the events: the settings, and one account with both devices
abbrev pub opening : List Line
opening =
    line.Cost 1 ∷ line.Clock 1 ∷ line.Register (codes "A") (codes "gen") (codes "p") []
    ∷ line.SignIn (codes "B") (codes "gen") (codes "p") [] ∷ []

-- what stands behind them, so that both devices come to have all
abbrev pub closing : List Line
closing = line.Sync (codes "A") [] ∷ line.Sync (codes "B") [] ∷ line.Sync (codes "A") [] ∷ []

-- the script is that of the number and the count
pub record IsGenerated (number count : ℕ) (script : Script) : Type 0 where
  pub events : List Line
  pub are : AreEvents number count events
  pub lines_are : script.lines ≡ opening ++ (events ++ closing)

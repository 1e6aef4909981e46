-- Each request of a device's call is one that a server reads, where those before it were answered as the server answers.
use Rattle.std.specs.Prelude.{◌≤◌, ℕ, List, [], ◌∷◌, length, ⊤}
use Rattle.httparse.specs.Grammar.{AllPass}
use Rattle.rand_chacha.specs.ChaCha.{ChaCha}
use Rattle.sn_device.specs.Runs.{Act, Call, Halt, Run, asked, commits}
use Rattle.sn_http.specs.Options.{is_visible}
use Rattle.sn_laws.specs.Each.{Each}
use Rattle.sn_laws.specs.declared.ideal.Ideal.{Ideal}
use Rattle.sn_link.specs.Laws.{AreAnswered, AreReadable, IsAnswered, IsReadable}
use Rattle.sn_rows.specs.Table.{Rows}
use Rattle.sn_sync.specs.Members.{Bytes}
use Rattle.sn_world.specs.Calls.{Fate, rows_behind}
use Rattle.sn_world.specs.Fitting.{FitsCall, FitsRows}
use Rattle.sn_world.specs.Holds.{Holds}
use Rattle.sn_world.specs.Sessions.{LeadsLine, Line, again, calls, opens, stops}
use Rattle.sn_world.specs.World.{IsMade, Made, World}

-- a host's name has at most 1,024 visible bytes
abbrev pub IsHostName : Bytes → Type 0
IsHostName host = AllPass is_visible host × (length host ≤ 1024)

-- Each request that is asked, over these rows of the server; and the later ones over the rows that its fate leaves, whichever fate it has.
abbrev pub AreReadableBy : Bytes → Rows → List Act → Type 0
AreReadableBy host server [] = ⊤
AreReadableBy host server (commits what changes ∷ acts) = AreReadableBy host server acts
AreReadableBy host server (asked r reply ∷ acts) =
    IsReadable host r × ((fate : Fate) → IsAnswered server r reply fate → AreReadableBy host (rows_behind server fate) acts)

-- each request that was made is so: it may be delivered late or again
abbrev pub AreMadeReadable : Bytes → List Made → Type 0
AreMadeReadable host made = Each (λ m. IsReadable host m.request) made

-- the requests of a line of the world; one that comes late or again was made before
abbrev pub IsReadableLine : Bytes → Line → Type 0
IsReadableLine host (opens changes stands) = ⊤
IsReadableLine host (calls name least call words acts fates halt stands) = AreReadable host acts
IsReadableLine host (stops name least call words front met) = AreReadable host front
IsReadableLine host (again name r fate) = ⊤

-- ---- the laws

-- Whatever a device calls in a world in which the invariant holds, a change of password too, and whatever rows the server has. Of a server that doesn't answer
-- by its rule nothing is said: a token of a sync that it gave could be longer than a body may be.
abbrev pub RunsReadable : Type 0
RunsReadable = (host secret : Bytes) (w : World) (s : Ideal) (name : Bytes) (least : ℕ) (call : Call) (words : ChaCha) (acts : List Act) (halt : Halt)
    (server : Rows) → IsHostName host → Holds secret w s → FitsRows (w.devices name) → FitsCall call → Run least call (w.devices name) words acts halt
    → AreReadableBy host server acts

-- so all are, where all have such fates
abbrev pub ReadableIfAnswered : Type 0
ReadableIfAnswered = (host : Bytes) (server : Rows) (acts : List Act) (fates : List Fate) → AreReadableBy host server acts → AreAnswered server acts fates
    → AreReadable host acts

-- behind a line those that were made are so again
abbrev pub MadeStayReadable : Type 0
MadeStayReadable = (host secret : Bytes) (w : World) (s : Ideal) (line : Line) → (x : LeadsLine secret w s line) → IsReadableLine host line
    → AreMadeReadable host w.made → AreMadeReadable host x.next.made

-- and each of them is one that a server reads
abbrev pub MadeAreReadable : Type 0
MadeAreReadable = (host : Bytes) (w : World) (m : Made) → AreMadeReadable host w.made → IsMade w m → IsReadable host m.request

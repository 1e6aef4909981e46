-- A line of the world says the moves that are told of its call, changes of password among them.
use Rattle.std.specs.Prelude.{◌≡◌, ℕ, List, [], ◌∷◌, true, false, Option, None}
use Rattle.rand_chacha.specs.ChaCha.{ChaCha}
use Rattle.sn_device.specs.Asking.{IsRequestBytes}
use Rattle.sn_device.specs.Runs.{Act, Call, Halt, Run, answered, asked, broken, commits as committed, refused, rows_done}
use Rattle.sn_laws.specs.Lookups.{Bytes}
use Rattle.sn_laws.specs.declared.ideal.Ideal.{Ideal}
use Rattle.sn_laws.specs.declared.moves.Move.{Move}
use Rattle.sn_link.specs.Laws.{AreReadable, IsReadable}
use Rattle.sn_recorder.specs.Told.{AreTold}
use Rattle.sn_recorder.specs.declared.exchanged.Exchanged.{Exchanged}
use Rattle.sn_rows.specs.Table.{Rows}
use Rattle.sn_rows.specs.declared.change.Change.{Change}
use Rattle.sn_saying.specs.Served.{IsBegunAs}
use Rattle.sn_server.specs.Stores.{batch_of}
use Rattle.sn_string.specs.declared.params.KeySet.{KeySet}
use Rattle.sn_sync.specs.declared.answer.Answer.{Answer}
use Rattle.sn_sync.specs.declared.request.Request.{Request}
use Rattle.sn_world.specs.Calls.{AreServed, Fate, rows_served, served}
use Rattle.sn_world.specs.Holds.{Holds, TokensDiffer}
use Rattle.sn_world.specs.Sessions.{LeadsLine, again, calls}
use Rattle.sn_world.specs.World.{Made, World}
use Rattle.sn_telling.specs.Calling.{IsCallingOf}
use Rattle.sn_telling.specs.Walking.{IsReadAs, SaysGained, SaysWalk}
use Rattle.sn_telling.specs.declared.calling.Calling.{Calling}
use Rattle.sn_telling.specs.declared.known.Known.{Known}

-- no disk failed
abbrev pub IsWhole : Halt → Type 0
IsWhole (answered given left) = Unit {0}
IsWhole (refused why) = Unit {0}
IsWhole (broken what changes) = ⊥

-- of what each request among these acts would begin this is told, in order
abbrev pub AreBegunAs : (Request → Option KeySet) → List Act → List (Option KeySet) → Type 0
AreBegunAs begins [] told = told ≡ []
AreBegunAs begins (committed what changes ∷ acts) told = AreBegunAs begins acts told
AreBegunAs begins (asked r reply ∷ acts) [] = ⊥
AreBegunAs begins (asked r reply ∷ acts) (one ∷ told) = IsBegunAs r (begins r) one × AreBegunAs begins acts told

-- the moves are the line's, wherever it leads, what is told of its requests is so, and the rows are those behind it
pub record IsTelling (w : World) (name : Bytes) (begins : Request → Option KeySet) (acts : List Act) (fates : List Fate) (said moves : List Move)
    (begun : List (Option KeySet)) (server_end rows_end : Rows) : Type 0 where
  pub moves_are : moves ≡ said
  pub begun_are : AreBegunAs begins acts begun
  pub server_is : server_end ≡ rows_served w.server fates
  pub rows_are : rows_end ≡ rows_done (w.devices name) acts

-- a whole call
abbrev pub CallsTell : Type 0
CallsTell = (secret host : Bytes) (w : World) (s : Ideal) (name : Bytes) (call : Call) (calling : Calling) (words : ChaCha) (acts : List Act) (fates : List Fate)
    (halt : Halt) (batches : List (List Change)) (exchanged : List Exchanged) (moves : List Move) (begun : List (Option KeySet)) (server_end rows_end : Rows)
    → TokensDiffer secret → Holds secret w s → IsWhole halt → IsCallingOf words call calling → Run 1 call (w.devices name) words acts halt
    → AreServed w.server acts fates → AreTold host acts fates batches exchanged → AreReadable host acts
    → SaysWalk calling name w.server (w.devices name) false None batches exchanged moves begun server_end rows_end
    → (x : LeadsLine secret w s (calls name 1 call words acts fates halt true))
    → IsTelling w name x.begins acts fates x.moves moves begun server_end rows_end

-- a request that comes late or again
abbrev pub AgainsTell : Type 0
AgainsTell = (secret host : Bytes) (w : World) (s : Ideal) (m : Made) (now : ℕ) (changes : List Change) (given : Answer) (bytes : Bytes) (told : Option KeySet)
    (found : Option Known) (moves : List Move) → TokensDiffer secret → Holds secret w s → IsRequestBytes host m.request bytes → IsReadable host m.request
    → IsBegunAs m.request m.begins told → IsReadAs bytes found → SaysGained w.server (w.devices m.device) m.device told found (batch_of changes) moves
    → (x : LeadsLine secret w s (again m.device m.request (served now changes given false))) → x.begins m.request ≡ m.begins → moves ≡ x.moves

-- What a batch of the server says, in every world whose rows these are.
use Rattle.std.specs.Prelude.{◌≡◌, ℕ, List, Option}
use Rattle.sn_laws.specs.Lookups.{Bytes}
use Rattle.sn_laws.specs.declared.ideal.Ideal.{Ideal}
use Rattle.sn_laws.specs.declared.moves.Move.{Move}
use Rattle.sn_rows.specs.Table.{Rows}
use Rattle.sn_rows.specs.declared.change.Change.{Change}
use Rattle.sn_string.specs.declared.params.KeySet.{KeySet}
use Rattle.sn_sync.specs.declared.answer.Answer.{Answer}
use Rattle.sn_sync.specs.declared.request.Request.{Request}
use Rattle.sn_sync.specs.declared.request.Request.TheVariants as request
use Rattle.sn_world.specs.Holds.{Holds}
use Rattle.sn_world.specs.Serving.{SaysServed, Serves}
use Rattle.sn_world.specs.World.{Made, World}

-- of the set that a request would begin this is told: of a registration and of a change of password just that, and of others nothing
abbrev pub IsBegunAs : Request → Option KeySet → Option KeySet → Type 0
IsBegunAs (request.Register params pw) begins told = begins ≡ told
IsBegunAs (request.Params identifier) begins told = Unit {0}
IsBegunAs (request.SignIn identifier pw) begins told = Unit {0}
IsBegunAs (request.ChangePw token current pw cost nonce) begins told = begins ≡ told
IsBegunAs (request.Sync token items limit sync_token cursor_token) begins told = Unit {0}

-- the moves are what the batch says by which the server answers the request of the device of this name, in every world in which the invariant holds and of
-- which these are the server's rows and the device's
abbrev pub IsServing : Rows → Rows → Bytes → Option KeySet → Request → List Change → List Move → Type 0
IsServing server device name told r changes moves = (secret : Bytes) (w next : World) (s : Ideal) (m : Made) (now : ℕ) (given : Answer) → Holds secret w s
    → w.server ≡ server → w.devices name ≡ device → m.device ≡ name → m.request ≡ r → IsBegunAs r m.begins told → Serves w next m now changes given
    → SaysServed server device m changes moves

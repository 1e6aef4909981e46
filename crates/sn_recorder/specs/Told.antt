-- What is told of a call by its batches and its exchanges.
use Rattle.std.specs.Prelude.{◌≡◌, List, [], ◌∷◌}
use Rattle.sn_device.specs.Asking.{IsReply, IsRequestBytes, Reply}
use Rattle.sn_device.specs.Runs.{Act, asked, commits as committed}
use Rattle.sn_device.specs.States.{Bytes}
use Rattle.sn_rows.specs.declared.change.Change.{Change}
use Rattle.sn_server.specs.Stores.{batch_of}
use Rattle.sn_sync.specs.Requests.{route_of}
use Rattle.sn_sync.specs.declared.request.Request.{Request}
use Rattle.sn_world.specs.Calls.{Fate, crashed, served, undelivered}
use Rattle.sn_recorder.specs.declared.exchanged.Exchanged.{Exchanged}

-- the batches by which the server's store has gained what a request changed: one, or none where it changed nothing
abbrev pub batches_of : Fate → List (List Change)
batches_of undelivered = []
batches_of (served now changes given arrives) = batch_of changes
batches_of (crashed now changes given) = []

-- the request was sent to the host, this came back, and the server's store gained what it changed
pub record IsToldOf (host : Bytes) (r : Request) (reply : Reply) (fate : Fate) (e : Exchanged) : Type 0 where
  pub sent : IsRequestBytes host r e.request
  pub came : IsReply (route_of r) e.answer reply
  pub gained : e.batches ≡ batches_of fate

-- the batches are those of the commits, and the exchanges those of the requests, in order
abbrev pub AreTold : Bytes → List Act → List Fate → List (List Change) → List Exchanged → Type 0
AreTold host [] fates batches exchanged = (fates ≡ []) × (batches ≡ []) × (exchanged ≡ [])
AreTold host (committed what changes ∷ acts) fates [] exchanged = ⊥
AreTold host (committed what changes ∷ acts) fates (batch ∷ batches) exchanged = (batch ≡ changes) × AreTold host acts fates batches exchanged
AreTold host (asked r reply ∷ acts) [] batches exchanged = ⊥
AreTold host (asked r reply ∷ acts) (fate ∷ fates) batches [] = ⊥
AreTold host (asked r reply ∷ acts) (fate ∷ fates) batches (e ∷ exchanged) = IsToldOf host r reply fate e × AreTold host acts fates batches exchanged

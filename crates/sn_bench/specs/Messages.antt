-- What is told of a message: it is written again, or refused in a line.
use Rattle.std.specs.Prelude.{◌≡◌, ◌⊎◌, ℕ, List, ◌++◌, codes}
use Rattle.std.specs.Fmt.{decimal}
use Rattle.sn_sync.specs.Answers.{IsAnswer, RefusesAnswer}
use Rattle.sn_sync.specs.Requests.{IsRequest, RefusesRequest}
use Rattle.sn_sync.specs.Written.{WritesAnswer, WritesRequest}
use Rattle.sn_sync.specs.declared.answer.Answer.{Answer}
use Rattle.sn_sync.specs.declared.error.SyncError.{SyncError}
use Rattle.sn_sync.specs.declared.error.SyncError.TheVariants as error
use Rattle.sn_sync.specs.declared.request.Request.{Request}
use Rattle.sn_sync.specs.declared.request.Route.{Route}
use Rattle.sn_sync.specs.declared.request.Route.TheVariants as route

-- the routes by number, in the order of their list
abbrev pub number_of : Route → ℕ
number_of route.Register = 0
number_of route.Params = 1
number_of route.SignIn = 2
number_of route.ChangePw = 3
number_of route.Sync = 4

-- a refusal's line; want of memory has none
abbrev pub IsRefusalLine : SyncError → List ℕ → Type 0
IsRefusalLine error.NotJson line = line ≡ codes "!json"
IsRefusalLine (error.Member name) line = line ≡ codes "!member " ++ name
IsRefusalLine (error.Limit name n) line = line ≡ codes "!limit " ++ (name ++ (codes " " ++ decimal n))
IsRefusalLine error.Memory line = ⊥

-- the line is written for the request that the text says on this route, or for the text's refusal
abbrev pub TellsRequest : Route → List ℕ → List ℕ → List ℕ → Type 0
TellsRequest on token text line = ((r : Request) × IsRequest on token text r × WritesRequest r line)
    ⊎ ((e : SyncError) × RefusesRequest on text e × IsRefusalLine e line)

-- the same of an answer
abbrev pub TellsAnswer : Route → ℕ → List ℕ → List ℕ → Type 0
TellsAnswer on status text line = ((a : Answer) × IsAnswer on status text a × WritesAnswer a line)
    ⊎ ((e : SyncError) × RefusesAnswer on status text e × IsRefusalLine e line)

-- In which order a call makes its commits and its requests: told apart by what the next commit is and what the next request is.
use Rattle.std.specs.Prelude.{◌≡◌, Bool, true, false, List, [], ◌∷◌, Option, Some, None, if◌then◌else◌}
use Rattle.sn_device.specs.Runs.{Act, asked, commits}
use Rattle.sn_sync.specs.declared.request.Request.{Request}
use Rattle.sn_sync.specs.declared.request.Request.TheVariants as request
use Rattle.sn_order.specs.Kinds.{kind_by}
use Rattle.sn_order.specs.declared.kind.Kind.{Kind}
use Rattle.sn_order.specs.declared.kind.Kind.TheVariants as kind

abbrev pub is_sync : Request → Bool
is_sync (request.Sync token items limit sync_token cursor_token) = true
is_sync (request.Register params pw) = false
is_sync (request.Params identifier) = false
is_sync (request.SignIn identifier pw) = false
is_sync (request.ChangePw token current pw cost nonce) = false

abbrev pub is_counts : Kind → Bool
is_counts kind.Counts = true
is_counts kind.Asks = false
is_counts kind.Joins = false
is_counts kind.Forgets = false
is_counts kind.Drafts = false

abbrev pub is_asks : Kind → Bool
is_asks kind.Asks = true
is_asks kind.Counts = false
is_asks kind.Joins = false
is_asks kind.Forgets = false
is_asks kind.Drafts = false

-- Of the next commit and the next request, whether the commit comes first. Directly behind a sync (`heard`) a commit of the device's own row is that of its
-- answer, and comes first. Else such a commit is that of an answer to come, so any other kind comes before a sync; and before a request that is no sync a
-- set that is asked for is kept, and nothing else.
abbrev pub comes_first : Bool → Kind → Bool → Bool
comes_first heard what syncs = if is_counts what then heard else (if syncs then true else is_asks what)

-- the next commit of some acts, and the next request
abbrev pub next_kind : List Act → Option Kind
next_kind [] = None
next_kind (commits what changes ∷ acts) = Some (kind_by what)
next_kind (asked r reply ∷ acts) = next_kind acts

abbrev pub next_request : List Act → Option Request
next_request [] = None
next_request (commits what changes ∷ acts) = next_request acts
next_request (asked r reply ∷ acts) = Some r

-- a commit comes before the next request, where there is one
abbrev pub IsBefore : Bool → Kind → Option Request → Type 0
IsBefore heard what None = Unit {0}
IsBefore heard what (Some r) = comes_first heard what (is_sync r) ≡ true

-- a request comes before the next commit, where there is one
abbrev pub IsAhead : Bool → Request → Option Kind → Type 0
IsAhead heard r None = Unit {0}
IsAhead heard r (Some what) = comes_first heard what (is_sync r) ≡ false

-- each act comes before the next one of the other sort; behind a sync or not, at first
abbrev pub AreInOrder : Bool → List Act → Type 0
AreInOrder heard [] = Unit {0}
AreInOrder heard (commits what changes ∷ acts) = IsBefore heard (kind_by what) (next_request acts) × AreInOrder false acts
AreInOrder heard (asked r reply ∷ acts) = IsAhead heard r (next_kind acts) × AreInOrder (is_sync r) acts

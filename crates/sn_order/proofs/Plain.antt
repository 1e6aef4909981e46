-- Acts without a sync: requests, and then one commit at most.
use Rattle.std.proofs.Common.{◌≡◌, ◌++◌, Bool, true, false, List, [], ◌∷◌, Option, Some, None, refl, sym, ap, ◌∙◌, subst}
use Rattle.sn_device.specs.Runs.{Act, asked, commits}
use Rattle.sn_sync.specs.declared.request.Request.{Request}
use Rattle.sn_order.specs.Kinds.{kind_by}
use Rattle.sn_order.specs.Order.{AreInOrder, IsAhead, IsBefore, comes_first, is_asks, is_sync, next_kind, next_request}
use Rattle.sn_order.specs.declared.kind.Kind.{Kind}
use Rattle.sn_order.specs.declared.kind.Kind.TheVariants as kind

-- ---- what comes next

-- no set that is asked for is kept
abbrev pub IsNoAsk : Option Kind → Type 0
IsNoAsk None = Unit {0}
IsNoAsk (Some what) = is_asks what ≡ false

-- it is a sync, where there is one
abbrev pub MaySync : Option Request → Type 0
MaySync None = Unit {0}
MaySync (Some r) = is_sync r ≡ true

-- any other commit is behind a request that is no sync
behind_plain : (what : Kind) → is_asks what ≡ false → comes_first false what false ≡ false
behind_plain kind.Asks other = absurd (let impossible : ⊥ = cc in impossible)
behind_plain kind.Joins other = refl
behind_plain kind.Forgets other = refl
behind_plain kind.Counts other = refl
behind_plain kind.Drafts other = refl

ahead_plain : (r : Request) (next : Option Kind) → is_sync r ≡ false → IsNoAsk next → IsAhead false r next
ahead_plain r None plain other = tt
ahead_plain r (Some what) plain other = ap (λ (b : Bool). comes_first false what b) plain ∙ behind_plain what other

pub before_sync : (what : Kind) (next : Option Request) → comes_first false what true ≡ true → MaySync next → IsBefore false what next
before_sync what None first syncs = tt
before_sync what (Some r) first syncs = ap (λ (b : Bool). comes_first false what b) syncs ∙ first

-- ---- the call is over behind them

-- no set is asked for by the commit
abbrev pub ArePlain : List Act → Type 0
ArePlain [] = Unit {0}
ArePlain (asked r reply ∷ acts) = (is_sync r ≡ false) × ArePlain acts
ArePlain (commits what changes ∷ acts) = (is_asks (kind_by what) ≡ false) × (acts ≡ [])

pub plain_none : (acts : List Act) → acts ≡ [] → ArePlain acts
plain_none acts none = subst ArePlain (sym none) tt

plain_kind : (acts : List Act) → ArePlain acts → IsNoAsk (next_kind acts)
plain_kind [] plain = tt
plain_kind (asked r reply ∷ acts) plain = plain_kind acts plain.1
plain_kind (commits what changes ∷ acts) plain = plain.0

pub plain_order : (acts : List Act) → ArePlain acts → AreInOrder false acts
plain_order [] plain = tt
plain_order (asked r reply ∷ acts) plain = (
  ahead_plain r (next_kind acts) plain.0 (plain_kind acts plain.1),
  subst (λ (heard : Bool). AreInOrder heard acts) (sym plain.0) (plain_order acts plain.1),
)
plain_order (commits what changes ∷ acts) plain =
    subst (λ (later : List Act). IsBefore false (kind_by what) (next_request later) × AreInOrder false later) (sym plain.1) (tt, tt)

-- ---- it goes on behind them

-- a set is adopted at their end
abbrev pub AreJoining : List Act → Type 0
AreJoining [] = ⊥
AreJoining (asked r reply ∷ acts) = (is_sync r ≡ false) × AreJoining acts
AreJoining (commits what changes ∷ acts) = (kind_by what ≡ kind.Joins) × (acts ≡ [])

joining_kind : (acts rest : List Act) → AreJoining acts → IsNoAsk (next_kind (acts ++ rest))
joining_kind [] rest joins = absurd joins
joining_kind (asked r reply ∷ acts) rest joins = joining_kind acts rest joins.1
joining_kind (commits what changes ∷ acts) rest joins = ap is_asks joins.0

-- in order, before acts of which the next request is a sync
pub joining_order : (acts rest : List Act) → AreJoining acts → MaySync (next_request rest) → AreInOrder false rest → AreInOrder false (acts ++ rest)
joining_order [] rest joins syncs order = absurd joins
joining_order (asked r reply ∷ acts) rest joins syncs order = (
  ahead_plain r (next_kind (acts ++ rest)) joins.0 (joining_kind acts rest joins.1),
  subst (λ (heard : Bool). AreInOrder heard (acts ++ rest)) (sym joins.0) (joining_order acts rest joins.1 syncs order),
)
joining_order (commits what changes ∷ acts) rest joins syncs order =
    subst (λ (later : List Act). IsBefore false (kind_by what) (next_request (later ++ rest)) × AreInOrder false (later ++ rest)) (sym joins.1)
    (before_sync (kind_by what) (next_request rest) (ap (λ (k : Kind). comes_first false k true) joins.0) syncs, order)

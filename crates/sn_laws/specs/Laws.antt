-- What holds of all lists of moves.
use Rattle.std.specs.Prelude.{◌≡◌, ◌≢◌, ◌↔◌, ◌<◌, ℕ, ◌+◌, List, [], ◌∷◌, ◌++◌, length, map, take, Option, Some, None, IsTrue}
use Rattle.sn_laws.specs.Each.{Each, One}
use Rattle.sn_laws.specs.Lookups.{Bytes, account_named, account_of, account_with, draft_at, last_of}
use Rattle.sn_laws.specs.Moves.{allows}
use Rattle.sn_laws.specs.Relation.{IsAllowed, IsContentOf, Moves}
use Rattle.sn_laws.specs.Runs.{Legal, end, first_illegal, step_of}
use Rattle.sn_laws.specs.declared.ideal.Version.{Version}
use Rattle.sn_laws.specs.declared.ideal.Account.{Account}
use Rattle.sn_laws.specs.declared.ideal.Body.TheVariants.{Under}
use Rattle.sn_laws.specs.declared.ideal.Draft.{Draft}
use Rattle.sn_laws.specs.declared.ideal.Ideal.{Ideal}
use Rattle.sn_laws.specs.declared.moves.Move.{Move}
use Rattle.sn_laws.specs.declared.moves.Move.TheVariants.{Accept, Rewrap, Settle}

-- a move is allowed, as the code tests it, exactly where the relation allows it
abbrev pub AllowsAsRelated : Type 0
AllowsAsRelated = (s : Ideal) (m : Move) → IsTrue (allows s m) ↔ IsAllowed s m

-- a step gives a state exactly where the move leads to it
abbrev pub StepsAsRelated : Type 0
StepsAsRelated = (s next : Ideal) (m : Move) → (step_of s m ≡ Some next) ↔ Moves s m next

-- a move leads to one state at most
abbrev pub OneNext : Type 0
OneNext = (s a b : Ideal) (m : Move) → Moves s m a → Moves s m b → a ≡ b

-- no place is refused exactly where each move is allowed where it is made
abbrev pub NoneRefused : Type 0
NoneRefused = (ms : List Move) → (first_illegal ms ≡ None) ↔ Legal ms

-- the place that is refused is the one up to which the moves are legal, and with which they aren't
pub record IsFirstIllegal (ms : List Move) (place : ℕ) : Type 0 where
  pub within : place < length ms
  pub before : Legal (take place ms)
  pub beyond : ¬ (Legal (take (place + 1) ms))

abbrev pub FirstRefused : Type 0
FirstRefused = (ms : List Move) (place : ℕ) → (first_illegal ms ≡ Some place) ↔ IsFirstIllegal ms place

-- the moves before others of a legal list are legal
abbrev pub PrefixesLegal : Type 0
PrefixesLegal = (ms more : List Move) → Legal (ms ++ more) → Legal ms

-- the account is there, with the versions that it had and perhaps later ones
pub record Keeps (a : Account) (found : Option Account) : Type 0 where
  pub now_is : Account
  pub found_is : found ≡ Some now_is
  pub later : List Version
  pub versions : now_is.versions ≡ a.versions ++ later

-- no version is ever taken away, whatever moves follow
abbrev pub KeepsVersions : Type 0
KeepsVersions = (ms more : List Move) (identifier : Bytes) (a : Account)
    → account_named (end ms) identifier ≡ Some a → Keeps a (account_named (end (ms ++ more)) identifier)

-- the stamps that versions are given, in the order of the moves
abbrev pub stamps_of : List Move → List ℕ
stamps_of [] = []
stamps_of (Accept device uuid stamp under ∷ ms) = stamp ∷ stamps_of ms
stamps_of (Rewrap uuid stamp under ∷ ms) = stamp ∷ stamps_of ms
stamps_of (m ∷ ms) = stamps_of ms

-- each is below all after it
abbrev pub Rises : List ℕ → Type 0
Rises [] = Unit {0}
Rises (n ∷ ns) = Each (λ m. n < m) ns × Rises ns

-- stamps rise over all accounts
abbrev pub StampsRise : Type 0
StampsRise = (ms : List Move) → Legal ms → Rises (stamps_of ms)

-- each account's versions stand by rising stamp
abbrev pub VersionsRise : Type 0
VersionsRise = (ms : List Move) → Legal ms → Each (λ a. Rises (map (λ v. v.stamp) a.versions)) (end ms).accounts

-- the device's draft of the item stands on the version of this stamp
pub record StandsOn (s : Ideal) (device uuid : Bytes) (stamp : ℕ) : Type 0 where
  pub draft : Draft
  pub at : draft_at s device uuid ≡ Some draft
  pub base : draft.base ≡ Some stamp

-- the last version of an item is followed only by what stood on it: where an accept is legal and the item has versions in the
-- account, the draft stands on the last of them
abbrev pub FollowsLast : Type 0
FollowsLast = (ms : List Move) (device uuid : Bytes) (stamp : ℕ) (under : Option ℕ) (a : Account) (v : Version)
    → Legal (ms ++ Accept device uuid stamp under ∷ []) → account_of (end ms) device ≡ Some a → last_of uuid a.versions ≡ Some v
    → StandsOn (end ms) device uuid v.stamp

-- the move makes no version of the item
abbrev pub AcceptsNone : Bytes → Move → Type 0
AcceptsNone uuid (Accept device other stamp under) = other ≢ uuid
AcceptsNone uuid (Rewrap other stamp under) = other ≢ uuid
AcceptsNone uuid m = Unit {0}

-- what was accepted is followed on its item only by an accept on its stamp: of two accepts on one item of an account, with none
-- between them on the item, the later draft stands on the earlier one's stamp
abbrev pub FollowsItsStamp : Type 0
FollowsItsStamp = (ms between : List Move) (device other uuid : Bytes) (stamp later : ℕ) (under under_later : Option ℕ) (a b : Account)
    → Legal ((ms ++ Accept device uuid stamp under ∷ between) ++ Accept other uuid later under_later ∷ [])
    → Each (AcceptsNone uuid) between
    → account_of (end ms) device ≡ Some a → account_of (end (ms ++ Accept device uuid stamp under ∷ between)) other ≡ Some b
    → b.identifier ≡ a.identifier
    → StandsOn (end (ms ++ Accept device uuid stamp under ∷ between)) other uuid stamp

-- the draft's content is that of a version of its item in the device's account
pub record IsVersion (s : Ideal) (device uuid : Bytes) : Type 0 where
  pub account : Account
  pub has : account_of s device ≡ Some account
  pub draft : Draft
  pub at : draft_at s device uuid ≡ Some draft
  pub version : Version
  pub among : One (λ v. v ≡ version) account.versions
  pub item : version.uuid ≡ uuid
  pub content : IsContentOf draft.kind draft.latest version.kind version.body

-- a settled draft's content is a version
abbrev pub SettlesVersions : Type 0
SettlesVersions = (ms : List Move) (device uuid : Bytes) → Legal (ms ++ Settle device uuid ∷ []) → IsVersion (end ms) device uuid

-- the version that a rewrap makes has the type and the text of the item's last one, under its account's last set
pub record SealsAgain (a : Account) (v : Version) (stamp under : ℕ) (found : Option Account) : Type 0 where
  pub text : Bytes
  pub set : ℕ
  pub was : v.body ≡ Under text set
  pub now_is : Account
  pub found_is : found ≡ Some now_is
  pub versions : now_is.versions ≡ a.versions ++ record { uuid = v.uuid; stamp = stamp; kind = v.kind; body = Under text under } ∷ []
  pub last_set : under ≡ length now_is.sets

abbrev pub RewrapsLast : Type 0
RewrapsLast = (ms : List Move) (uuid : Bytes) (stamp under : ℕ) (a : Account) (v : Version)
    → Legal (ms ++ Rewrap uuid stamp under ∷ []) → account_with (end ms).accounts uuid ≡ Some a → last_of uuid a.versions ≡ Some v
    → SealsAgain a v stamp under (account_named (end (ms ++ Rewrap uuid stamp under ∷ [])) a.identifier)

-- Where each account has one set, each device holds that alone, each live version carries it, and no version is sealed again.
use Rattle.std.proofs.Common.{◌≡◌, ◌≤◌, ℕ, zero, suc, List, [], ◌∷◌, ◌++◌, length, Option, Some, None, Bool, true, false, IsTrue, refl, sym, ◌∙◌, subst, arith}
use Rattle.std.specs.Prelude.{slice_get, if◌then◌else◌}
use Rattle.sn_laws.proofs.Facts.{allowed_from, carries_sets, found_passes, last_among}
use Rattle.sn_laws.specs.Each.{Each, One}
use Rattle.sn_laws.specs.Lookups.{Bytes, account_of, account_with, draft_at, greatest, has_item, is_account, last_of}
use Rattle.sn_laws.specs.Moves.{accepted, after, again, allows, changed_where, rewrapped, version_of}
use Rattle.sn_laws.specs.Reached.{IsOneOrTwo}
use Rattle.sn_laws.specs.Relation.{IsLive, IsUnder, MayRewrap}
use Rattle.sn_laws.specs.Runs.{end_from}
use Rattle.sn_laws.specs.declared.ideal.Account.{Account}
use Rattle.sn_laws.specs.declared.ideal.Body.{Body}
use Rattle.sn_laws.specs.declared.ideal.Body.TheVariants.{Under, Gone}
use Rattle.sn_laws.specs.declared.ideal.Draft.{Draft}
use Rattle.sn_laws.specs.declared.ideal.Ideal.{Ideal}
use Rattle.sn_laws.specs.declared.ideal.Version.{Version}
use Rattle.sn_laws.specs.declared.moves.Move.{Move}
use Rattle.sn_laws.specs.declared.moves.Move.TheVariants.{Accept, Change, Register, Rewrap}
use Rattle.sn_shows.proofs.Facts.{each_at, greatest_of_one, more}
use Rattle.sn_shows.specs.Devices.{ShowsOlder}
use Rattle.sn_shows.specs.Servers.{account_at}
use Rattle.sn_string.specs.declared.params.KeySet.{KeySet}
use Rattle.sn_rows.specs.declared.value.Value.{Value}
use Rattle.sn_world.proofs.Lists.{this_one}
use Rattle.sn_world.specs.Holds.{Reached}
use Rattle.sn_world.specs.Plain.{HaveOneSet}

-- ---- each account

abbrev HasOne : Account → Type 0
HasOne a = length a.sets ≡ 1

each_got : (xs : List Account) → ((k : ℕ) (a : Account) → slice_get xs k ≡ Some a → HasOne a) → Each HasOne xs
each_got [] f = tt
each_got (x ∷ xs) f = (f zero x refl, each_got xs (λ k a e. f (suc k) a e))

each_one_set : (xs : List Account) → HaveOneSet xs → Each HasOne xs
each_one_set xs one = each_got xs (λ k a e. one (suc k) a e)

pub have_one_set : (xs : List Account) → Each HasOne xs → HaveOneSet xs
have_one_set xs each n a at = each_at HasOne xs n a each at

-- ---- moves

-- every move but a change of password
abbrev pub KeepsSets : Move → Type 0
KeepsSets (Change identifier number set) = ⊥
KeepsSets m = Unit {0}

each_append : (xs : List Account) (y : Account) → Each HasOne xs → HasOne y → Each HasOne (xs ++ y ∷ [])
each_append [] y h p = (p, tt)
each_append (x ∷ xs) y h p = (h.0, each_append xs y h.1 p)

each_same : (p : Account → Bool) (f : Account → Account) → ((x : Account) → (f x).sets ≡ x.sets) → (xs : List Account) → Each HasOne xs
    → Each HasOne (changed_where p f xs)
each_same p f same [] h = tt
each_same p f same (x ∷ xs) h = (at (p x), each_same p f same xs h.1)
  where
    at : (b : Bool) → HasOne (if b then f x else x)
    at true = subst (λ (sets : List KeySet). length sets ≡ 1) (sym (same x)) h.0
    at false = h.0

each_accepted : (xs : List Account) (a : Option Account) (d : Option Draft) (stamp : ℕ) → Each HasOne xs → Each HasOne (accepted xs a d stamp)
each_accepted xs None d stamp h = h
each_accepted xs (Some a) None stamp h = h
each_accepted xs (Some a) (Some d) stamp h = each_same (is_account a.identifier) (more (version_of stamp (length a.sets) d)) (λ x. refl) xs h

each_rewrapped : (xs : List Account) (a : Option Account) (uuid : Bytes) (stamp : ℕ) → Each HasOne xs → Each HasOne (rewrapped xs a uuid stamp)
each_rewrapped xs None uuid stamp h = h
each_rewrapped xs (Some a) uuid stamp h =
    each_same (is_account a.identifier) (λ b. record b { versions = b.versions ++ again stamp (length a.sets) (last_of uuid a.versions) }) (λ x. refl) xs h

one_step : (s : Ideal) (m : Move) → KeepsSets m → Each HasOne s.accounts → Each HasOne (after s m).accounts
one_step s (Register identifier set) kept h = each_append s.accounts (record { identifier = identifier; sets = set ∷ []; versions = [] }) h refl
one_step s (Accept device uuid stamp under) kept h = each_accepted s.accounts (account_of s device) (draft_at s device uuid) stamp h
one_step s (Rewrap uuid stamp under) kept h = each_rewrapped s.accounts (account_with s.accounts uuid) uuid stamp h
one_step s (Change identifier number set) kept h = absurd kept
one_step s m kept h = h

one_end : (s : Ideal) (ms : List Move) → Each KeepsSets ms → Each HasOne s.accounts → Each HasOne (end_from s ms).accounts
one_end s [] kept h = h
one_end s (m ∷ ms) kept h = one_end (after s m) ms kept.1 (one_step s m kept.0 h)

-- behind such moves it is so again
pub one_set_after : (s : Ideal) (ms : List Move) → Each KeepsSets ms → HaveOneSet s.accounts → HaveOneSet (end_from s ms).accounts
one_set_after s ms kept one = have_one_set (end_from s ms).accounts (one_end s ms kept (each_one_set s.accounts one))

-- ---- versions

abbrev Carries : Account → Version → Type 0
Carries a v = (k : ℕ) → IsUnder k v.body → (1 ≤ k) × (k ≤ length a.sets)

carried : (s : Ideal) → Reached s → Each (λ (a : Account). Each (Carries a) a.versions) s.accounts
carried s r =
    subst (λ (t : Ideal). Each (λ (a : Account). Each (Carries a) a.versions) t.accounts) (sym r.is) (carries_sets r.moves r.legal)

-- a live version carries a set
pub carries_some : (s : Ideal) → Reached s → (n : ℕ) (a : Account) → account_at n s.accounts ≡ Some a → (v : Version) → One (λ (w : Version). w ≡ v) a.versions
    → (k : ℕ) → IsUnder k v.body → 1 ≤ k
carries_some s r n a at v among k under =
    let all : Each (Carries a) a.versions = each_at (λ (b : Account). Each (Carries b) b.versions) s.accounts n a (carried s r) at in
    (this_one (Carries a) a.versions v all among k under).0

live_under : (b : Body) → IsLive b → (k : ℕ) × IsUnder k b
live_under (Under text set) live = (set, refl)
live_under Gone live = absurd live

-- no version is behind, so none is sealed again
pub no_rewrap : (s : Ideal) → Reached s → HaveOneSet s.accounts → (uuid : Bytes) (stamp under : ℕ) → IsTrue (allows s (Rewrap uuid stamp under)) → ⊥
no_rewrap s r one uuid stamp under legal =
    let may : MayRewrap s uuid stamp under = allowed_from s (Rewrap uuid stamp under) legal in
    let found = found_passes (has_item uuid) s.accounts may.account may.has in
    let own : length may.account.sets ≡ 1 = this_one HasOne s.accounts may.account (each_one_set s.accounts one) found.1 in
    let all : Each (Carries may.account) may.account.versions =
    this_one (λ (b : Account). Each (Carries b) b.versions) s.accounts may.account (carried s r) found.1 in
    let among = (last_among uuid may.account.versions may.version may.last).0 in
    let under_some = live_under may.version.body may.live in
    let carries = this_one (Carries may.account) may.account.versions may.version all among under_some.0 under_some.1 in
    let low : 1 ≤ under_some.0 = carries.0 in
    let up : under_some.0 ≤ length may.account.sets = carries.1 in
    let same : under_some.0 ≡ length may.account.sets = omega arith in
    may.behind (subst (λ (k : ℕ). IsUnder k may.version.body) same under_some.1)

-- ---- devices

-- a device that holds sets of an account with one set holds that one, and no older
pub holds_one : (held : List ℕ) (n : ℕ) (a : Account) (found : Option Value) → n ≡ 1 → IsOneOrTwo n held → ShowsOlder a found held
    → (greatest 0 held ≡ 1) × (found ≡ None)
holds_one [] n a found one sets older = absurd sets
holds_one (g ∷ []) n a found one (low, up) older =
    let is : g ≡ 1 = omega arith in
    (greatest_of_one g ∙ is, older)
holds_one (o ∷ g ∷ []) n a found one (low, between, up) older = absurd (omega arith)
holds_one (o ∷ g ∷ m ∷ held) n a found one sets older = absurd sets

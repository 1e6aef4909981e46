-- What each move leaves of the accounts, and of a device's.
use Rattle.std.proofs.Common.{◌≡◌, ◌<◌, ℕ, List, [], ◌∷◌, ◌++◌, length, Option, Some, None, Bool, true, false, refl, sym, subst}
use Rattle.std.specs.Prelude.{if◌then◌else◌, find, IsTrue, ◌&&◌, ◌==◌, nat_lt, nat_le}
use Rattle.std.specs.List.{list_all}
use Rattle.std.proofs.lemmas.Bool.{and_parts}
use Rattle.std.proofs.lemmas.List.{append-nil}
use Rattle.sn_string.specs.Bounds.{last_stamp}
use Rattle.sn_string.specs.declared.params.KeySet.{KeySet}
use Rattle.sn_laws.specs.declared.ideal.Account.{Account}
use Rattle.sn_laws.specs.declared.ideal.Device.{Device}
use Rattle.sn_laws.specs.declared.ideal.Draft.{Draft}
use Rattle.sn_laws.specs.declared.ideal.Ideal.{Ideal}
use Rattle.sn_laws.specs.declared.ideal.Version.{Version}
use Rattle.sn_laws.specs.declared.moves.Move.{Move}
use Rattle.sn_laws.specs.declared.moves.Move.TheVariants.{Register, Join, Edit, Drop, Post, Unpost, Accept, Rewrap, Settle, SettlePosted, Fork, Rename, GiveWay, Change, Retire}
use Rattle.sn_laws.specs.Each.{Each, One}
use Rattle.sn_laws.specs.Lookups.{Bytes, account_for, account_named, account_of, account_with, device_named, draft_at, is_account, last_of}
use Rattle.sn_laws.specs.Moves.{accepted, after, again, all_below, allows, changed_where, is_behind, is_new_stamp, is_on_last, is_said, is_sent_under, may_accept, may_rewrap, rewrapped, sent_content, version_of}
use Rattle.sn_laws.proofs.ChangedLemmas.{each_one, find_changed}
use Rattle.sn_laws.proofs.DeviceFrames.{StaysDevice, device_stays}
use Rattle.sn_laws.proofs.EachLemmas.{below, each_from, found_passes}
use Rattle.sn_laws.proofs.FindLemmas.{find_before}

-- the stamp is above all of these
abbrev pub Below : ℕ → List Version → Type 0
Below stamp versions = Each (λ (v : Version). v.stamp < stamp) versions

-- the same account, with perhaps more sets, and with more versions, each above all that it had
pub record Grown (a b : Account) : Type 0 where
  pub same : b.identifier ≡ a.identifier
  pub sets : List KeySet
  pub sets_are : b.sets ≡ a.sets ++ sets
  pub versions : List Version
  pub versions_are : b.versions ≡ a.versions ++ versions
  pub above : Each (λ (v : Version). Below v.stamp a.versions) versions

-- an account that is found stays, and grows
pub record Stays (a : Account) (found : Option Account) : Type 0 where
  pub now_is : Account
  pub found_is : found ≡ Some now_is
  pub grown : Grown a now_is

as_before : (a : Account) → Grown a a
as_before a =
    record { same = refl; sets = []; sets_are = sym (append-nil a.sets); versions = []; versions_are = sym (append-nil a.versions); above = tt }

stays_so : (a : Account) (found : Option Account) → found ≡ Some a → Stays a found
stays_so a found h = record { now_is = a; found_is = h; grown = as_before a }

-- some accounts are changed, and this one would grow
changed : (q : Account → Bool) (f : Account → Account) → ((identifier : Bytes) (a : Account) → is_account identifier (f a) ≡ is_account identifier a)
    → (accounts : List Account) (identifier : Bytes) (a : Account) → Grown a (f a) → find (is_account identifier) accounts ≡ Some a
    → Stays a (find (is_account identifier) (changed_where q f accounts))
changed q f keeps accounts identifier a grown h = at (q a) (find_changed (is_account identifier) q f (keeps identifier) accounts a h)
  where
    at : (b : Bool) → find (is_account identifier) (changed_where q f accounts) ≡ Some (if b then f a else a)
        → Stays a (find (is_account identifier) (changed_where q f accounts))
    at true e = record { now_is = f a; found_is = e; grown = grown }
    at false e = stays_so a (find (is_account identifier) (changed_where q f accounts)) e

-- a new stamp is above all

pub new_above : (accounts : List Account) (stamp : ℕ) (a : Account) → is_new_stamp accounts stamp ≡ true → One (λ (x : Account). x ≡ a) accounts
    → Below stamp a.versions
new_above accounts stamp a new one =
    each_one (λ (b : Account). Below stamp b.versions) accounts a
    (each_from (all_below stamp) (λ (b : Account). Below stamp b.versions)
    (λ b e. each_from (λ (v : Version). nat_lt v.stamp stamp) (λ (v : Version). v.stamp < stamp) (λ v l. below v.stamp stamp l) b.versions e) accounts
    (and_parts (list_all (all_below stamp) accounts) (nat_le stamp last_stamp) new).0) one

pub accept_new : (accounts : List Account) (a : Option Account) (d : Option Draft) (uuid : Bytes) (stamp : ℕ) (under : Option ℕ)
    → may_accept accounts a d uuid stamp under ≡ true → is_new_stamp accounts stamp ≡ true
accept_new accounts None d uuid stamp under h = absurd (cc)
accept_new accounts (Some a) None uuid stamp under h = absurd (cc)
accept_new accounts (Some a) (Some d) uuid stamp under h =
    (and_parts
    (is_sent_under (length a.sets) d.posted && is_said (length a.sets) (sent_content d.latest d.posted) under
    && is_on_last accounts uuid d.base (last_of uuid a.versions)) (is_new_stamp accounts stamp) h).1

pub rewrap_new : (accounts : List Account) (a : Option Account) (uuid : Bytes) (stamp under : ℕ) → may_rewrap accounts a uuid stamp under ≡ true
    → is_new_stamp accounts stamp ≡ true
rewrap_new accounts None uuid stamp under h = absurd (cc)
rewrap_new accounts (Some a) uuid stamp under h =
    (and_parts (is_behind (length a.sets) (last_of uuid a.versions) && (under == length a.sets)) (is_new_stamp accounts stamp) h).1

-- each move that changes accounts

with_versions : (a : Account) (versions : List Version) → Each (λ (v : Version). Below v.stamp a.versions) versions
    → Grown a (record a { versions = a.versions ++ versions })
with_versions a versions above =
    record { same = refl; sets = []; sets_are = sym (append-nil a.sets); versions = versions; versions_are = refl; above = above }

accept_stays : (accounts : List Account) (identifier : Bytes) (b : Option Account) (d : Option Draft) (stamp : ℕ) (a : Account) → Below stamp a.versions
    → find (is_account identifier) accounts ≡ Some a → Stays a (find (is_account identifier) (accepted accounts b d stamp))
accept_stays accounts identifier None d stamp a above h = stays_so a (find (is_account identifier) accounts) h
accept_stays accounts identifier (Some b) None stamp a above h = stays_so a (find (is_account identifier) accounts) h
accept_stays accounts identifier (Some b) (Some d) stamp a above h =
    changed (is_account b.identifier) (λ (x : Account). record x { versions = x.versions ++ version_of stamp (length b.sets) d ∷ [] }) (λ _ _. refl) accounts
    identifier a
    (with_versions a (version_of stamp (length b.sets) d ∷ []) (above, tt)) h

again_above : (stamp number : ℕ) (last : Option Version) (a : Account) → Below stamp a.versions
    → Each (λ (v : Version). Below v.stamp a.versions) (again stamp number last)
again_above stamp number None a above = tt
again_above stamp number (Some v) a above = (above, tt)

rewrap_stays : (accounts : List Account) (identifier : Bytes) (b : Option Account) (uuid : Bytes) (stamp : ℕ) (a : Account) → Below stamp a.versions
    → find (is_account identifier) accounts ≡ Some a → Stays a (find (is_account identifier) (rewrapped accounts b uuid stamp))
rewrap_stays accounts identifier None uuid stamp a above h = stays_so a (find (is_account identifier) accounts) h
rewrap_stays accounts identifier (Some b) uuid stamp a above h =
    let more : List Version = again stamp (length b.sets) (last_of uuid b.versions) in
    changed (is_account b.identifier) (λ (x : Account). record x { versions = x.versions ++ more }) (λ _ _. refl) accounts identifier a
    (with_versions a more (again_above stamp (length b.sets) (last_of uuid b.versions) a above)) h

-- the frame
pub account_stays : (s : Ideal) (m : Move) (identifier : Bytes) (a : Account) → IsTrue (allows s m) → account_named s identifier ≡ Some a
    → Stays a (account_named (after s m) identifier)
account_stays s (Register other set) identifier a may h =
    stays_so a (account_named (after s (Register other set)) identifier)
    (find_before (is_account identifier) s.accounts (record { identifier = other; sets = set ∷ []; versions = [] } ∷ []) a h)
account_stays s (Join name other number) identifier a may h = stays_so a (account_named s identifier) h
account_stays s (Edit name item kind base latest) identifier a may h = stays_so a (account_named s identifier) h
account_stays s (Drop name item) identifier a may h = stays_so a (account_named s identifier) h
account_stays s (Post name item) identifier a may h = stays_so a (account_named s identifier) h
account_stays s (Unpost name item) identifier a may h = stays_so a (account_named s identifier) h
account_stays s (Accept name item stamp under) identifier a may h =
    accept_stays s.accounts identifier (account_of s name) (draft_at s name item) stamp a
    (new_above s.accounts stamp a (accept_new s.accounts (account_of s name) (draft_at s name item) item stamp under may)
    (found_passes (is_account identifier) s.accounts a h).1) h
account_stays s (Rewrap item stamp under) identifier a may h =
    rewrap_stays s.accounts identifier (account_with s.accounts item) item stamp a
    (new_above s.accounts stamp a (rewrap_new s.accounts (account_with s.accounts item) item stamp under may)
    (found_passes (is_account identifier) s.accounts a h).1) h
account_stays s (Settle name item) identifier a may h = stays_so a (account_named s identifier) h
account_stays s (SettlePosted name item stamp) identifier a may h = stays_so a (account_named s identifier) h
account_stays s (Fork name item other) identifier a may h = stays_so a (account_named s identifier) h
account_stays s (Rename name item other) identifier a may h = stays_so a (account_named s identifier) h
account_stays s (GiveWay name item) identifier a may h = stays_so a (account_named s identifier) h
account_stays s (Change other number set) identifier a may h =
    changed (is_account other) (λ (x : Account). record x { sets = x.sets ++ set ∷ [] }) (λ _ _. refl) s.accounts identifier a
    (record { same = refl; sets = set ∷ []; sets_are = refl; versions = []; versions_are = sym (append-nil a.versions); above = tt }) h
account_stays s (Retire name number) identifier a may h = stays_so a (account_named s identifier) h

-- a device's account stays its account
pub own_account_stays : (s : Ideal) (m : Move) (device : Bytes) (a : Account) → IsTrue (allows s m) → account_of s device ≡ Some a
    → Stays a (account_of (after s m) device)
own_account_stays s m device a may h = at (device_named s device) refl h
  where
    at : (found : Option Device) → device_named s device ≡ found → account_for s.accounts found ≡ Some a → Stays a (account_of (after s m) device)
    at None e k = absurd (cc)
    at (Some d) e k =
        let there : StaysDevice d (device_named (after s m) device) = device_stays s m device d e in
        subst (λ x. Stays a (account_for (after s m).accounts x)) (sym there.found_is)
        (subst (λ n. Stays a (account_named (after s m) n)) (sym there.account) (account_stays s m d.account a may k))

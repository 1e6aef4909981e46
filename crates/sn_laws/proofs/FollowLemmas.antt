-- What was accepted is the item's last version until the next accept on the item.
use Rattle.std.proofs.Common.{◌≡◌, ◌≢◌, ℕ, List, [], ◌∷◌, ◌++◌, length, Option, Some, Bool, true, false, refl, sym, ap, ◌∙◌, subst}
use Rattle.std.specs.Prelude.{IsTrue, find, if◌then◌else◌}
use Rattle.sn_laws.specs.declared.ideal.Version.{Version}
use Rattle.sn_laws.specs.declared.ideal.Account.{Account}
use Rattle.sn_laws.specs.declared.ideal.Ideal.{Ideal}
use Rattle.sn_laws.specs.declared.moves.Move.{Move}
use Rattle.sn_laws.specs.declared.moves.Move.TheVariants.{Register, Accept, Rewrap, Change}
use Rattle.sn_string.specs.declared.params.KeySet.{KeySet}
use Rattle.sn_laws.specs.Each.{Each}
use Rattle.sn_laws.specs.Laws.{AcceptsNone, StandsOn}
use Rattle.sn_laws.specs.Lookups.{Bytes, account_named, account_of, empty, is_account, last_of}
use Rattle.sn_laws.specs.Moves.{after, allows, version_of}
use Rattle.sn_laws.specs.Relation.{MayAccept, MayRewrap}
use Rattle.sn_laws.specs.Runs.{Legal, LegalFrom, end, end_from}
use Rattle.sn_laws.proofs.AccountLemmas.{Gains, accept_gains, gained_named, more, more_sets, named_so, rewrap_gains, sealed_again}
use Rattle.sn_laws.proofs.ChangedLemmas.{find_changed}
use Rattle.sn_laws.proofs.FindLemmas.{find_before}
use Rattle.sn_laws.proofs.LastLemmas.{last_other, last_own}
use Rattle.sn_laws.proofs.RelatedLemmas.{allowed_from, one_there}
use Rattle.sn_laws.proofs.RunLemmas.{end_from-append, legal_after, legal_before, reached_by}
use Rattle.sn_laws.proofs.StandLemmas.{stands_on_last}

-- an account is found that has a last version of the item, with this stamp
record LastFound (found : Option Account) (uuid : Bytes) (stamp : ℕ) : Type 0 where
  account : Account
  named : found ≡ Some account
  version : Version
  last : last_of uuid account.versions ≡ Some version
  stamp_is : version.stamp ≡ stamp

abbrev HasLast : Ideal → Bytes → Bytes → ℕ → Type 0
HasLast s identifier uuid stamp = LastFound (account_named s identifier) uuid stamp

-- another item's version changes no last version of this one
through_gain : (s : Ideal) (identifier uuid other : Bytes) (stamp : ℕ) (a : Account) (w : Version) (next : List Account) → Gains s other a w next
    → other ≢ uuid → HasLast s identifier uuid stamp → LastFound (find (is_account identifier) next) uuid stamp
through_gain s identifier uuid other stamp a w next g apart h =
    record {
      account = if is_account a.identifier h.account then more w h.account else h.account;
      named = ap (find (is_account identifier)) g.next_is
          ∙ find_changed (is_account identifier) (is_account a.identifier) (more w) (λ x. refl) s.accounts h.account h.named;
      version = h.version;
      last = same (is_account a.identifier h.account) ∙ h.last;
      stamp_is = h.stamp_is;
    }
  where
    same : (b : Bool) → last_of uuid (if b then more w h.account else h.account).versions ≡ last_of uuid h.account.versions
    same true = last_other uuid h.account.versions w (λ e. apart (sym g.item ∙ e))
    same false = refl

through_change : (s : Ideal) (identifier uuid other : Bytes) (number : ℕ) (set : KeySet) (stamp : ℕ) → HasLast s identifier uuid stamp
    → HasLast (after s (Change other number set)) identifier uuid stamp
through_change s identifier uuid other number set stamp h =
    record {
      account = if is_account other h.account then more_sets set h.account else h.account;
      named = find_changed (is_account identifier) (is_account other) (more_sets set) (λ x. refl) s.accounts h.account h.named;
      version = h.version;
      last = same (is_account other h.account) ∙ h.last;
      stamp_is = h.stamp_is;
    }
  where
    same : (b : Bool) → last_of uuid (if b then more_sets set h.account else h.account).versions ≡ last_of uuid h.account.versions
    same true = refl
    same false = refl

through : (identifier uuid : Bytes) (stamp : ℕ) (s : Ideal) (m : Move) → AcceptsNone uuid m → IsTrue (allows s m)
    → HasLast s identifier uuid stamp → HasLast (after s m) identifier uuid stamp
through identifier uuid stamp s (Register other set) none may h =
    record {
      account = h.account;
      named = find_before (is_account identifier) s.accounts (record { identifier = other; sets = set ∷ []; versions = [] } ∷ []) h.account h.named;
      version = h.version;
      last = h.last;
      stamp_is = h.stamp_is;
    }
through identifier uuid stamp s (Accept device other given under) none may h =
    let m : Move = Accept device other given under in
    let is : MayAccept s device other given under = allowed_from s m may in
    through_gain s identifier uuid other stamp is.account (version_of given (length is.account.sets) is.draft) (after s m).accounts
    (accept_gains s device other given under is) none h
through identifier uuid stamp s (Rewrap other given under) none may h =
    let m : Move = Rewrap other given under in
    let is : MayRewrap s other given under = allowed_from s m may in
    through_gain s identifier uuid other stamp is.account (sealed_again given (length is.account.sets) is.version) (after s m).accounts
    (rewrap_gains s other given under is) none h
through identifier uuid stamp s (Change other number set) none may h = through_change s identifier uuid other number set stamp h
through identifier uuid stamp s m none may h = h

-- what was just accepted is the last version
just_accepted : (s : Ideal) (device uuid : Bytes) (stamp : ℕ) (under : Option ℕ) (a : Account) → MayAccept s device uuid stamp under
    → account_of s device ≡ Some a → HasLast (after s (Accept device uuid stamp under)) a.identifier uuid stamp
just_accepted s device uuid stamp under a may has =
    let next : List Account = (after s (Accept device uuid stamp under)).accounts in
    let w : Version = version_of stamp (length may.account.sets) may.draft in
    let g : Gains s uuid may.account w next = accept_gains s device uuid stamp under may in
    let same : may.account ≡ a = one_there may.account a (account_of s device) may.is.has has in
    subst (λ (b : Account). LastFound (find (is_account b.identifier) next) uuid stamp) same
    (record {
      account = more w may.account;
      named = gained_named s uuid may.account w next g (named_so s device may.account may.is.has);
      version = w;
      last = last_own uuid may.account.versions w g.item;
      stamp_is = refl;
    })

stands_there : (s : Ideal) (other uuid : Bytes) (stamp later : ℕ) (under : Option ℕ) (b : Account) (identifier : Bytes) → MayAccept s other uuid later under
    → account_of s other ≡ Some b → b.identifier ≡ identifier → HasLast s identifier uuid stamp → StandsOn s other uuid stamp
stands_there s other uuid stamp later under b identifier may has is h =
    let named : account_named s identifier ≡ Some b = subst (λ name. account_named s name ≡ Some b) is (named_so s other b has) in
    let same : h.account ≡ b = one_there h.account b (account_named s identifier) h.named named in
    let last : last_of uuid b.versions ≡ Some h.version = subst (λ (x : Account). last_of uuid x.versions ≡ Some h.version) same h.last in
    subst (StandsOn s other uuid) h.stamp_is (stands_on_last s other uuid later under b h.version may has last)

pub follows_stamp : (ms between : List Move) (device other uuid : Bytes) (stamp later : ℕ) (under under_later : Option ℕ) (a b : Account)
    → Legal ((ms ++ Accept device uuid stamp under ∷ between) ++ Accept other uuid later under_later ∷ [])
    → Each (AcceptsNone uuid) between
    → account_of (end ms) device ≡ Some a → account_of (end (ms ++ Accept device uuid stamp under ∷ between)) other ≡ Some b
    → b.identifier ≡ a.identifier
    → StandsOn (end (ms ++ Accept device uuid stamp under ∷ between)) other uuid stamp
follows_stamp ms between device other uuid stamp later under under_later a b legal none has_first has_other is =
    let first : Move = Accept device uuid stamp under in
    let whole : List Move = ms ++ first ∷ between in
    let legal_first : LegalFrom (end ms) (first ∷ between) =
    legal_after empty ms (first ∷ between) (legal_before empty whole (Accept other uuid later under_later ∷ []) legal) in
    let may_first : MayAccept (end ms) device uuid stamp under = allowed_from (end ms) first legal_first.0 in
    let may_other : MayAccept (end whole) other uuid later under_later =
    allowed_from (end whole) (Accept other uuid later under_later) (legal_after empty whole (Accept other uuid later under_later ∷ []) legal).0 in
    let kept : HasLast (end_from (after (end ms) first) between) a.identifier uuid stamp =
    reached_by (AcceptsNone uuid) (λ (s : Ideal). HasLast s a.identifier uuid stamp) (through a.identifier uuid stamp) (after (end ms) first) between
    none legal_first.1 (just_accepted (end ms) device uuid stamp under a may_first has_first) in
    let there : HasLast (end whole) a.identifier uuid stamp =
    subst (λ (s : Ideal). HasLast s a.identifier uuid stamp) (sym (end_from-append empty ms (first ∷ between))) kept in
    stands_there (end whole) other uuid stamp later under_later b a.identifier may_other has_other is there

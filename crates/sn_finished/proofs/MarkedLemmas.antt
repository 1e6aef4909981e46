-- What stays true of a device's account.
use Rattle.std.proofs.Common.{◌≡◌, ◌≢◌, ℕ, List, [], ◌∷◌, length, Option, Some, None, refl, sym, ◌∙◌, subst}
use Rattle.std.specs.Prelude.{IsTrue}
use Rattle.sn_finished.proofs.ListLemmas.{each_one, one_each}
use Rattle.sn_finished.proofs.WalkLemmas.{Differ, Stays}
use Rattle.sn_laws.proofs.Facts.{Gains, accept_gains, allowed_from, among, each_changed, each_more, found_passes, more, more_sets, one_account, own_account_stays, rewrap_gains, same_text, sealed_again}
use Rattle.sn_laws.proofs.Facts.{Stays as StaysAccount}
use Rattle.sn_laws.specs.Each.{Each}
use Rattle.sn_laws.specs.Lookups.{Bytes, account_for, account_named, account_of, device_named, is_account}
use Rattle.sn_laws.specs.Moves.{after, allows, version_of}
use Rattle.sn_laws.specs.Relation.{IsUnder, MayAccept, MayRegister, MayRewrap}
use Rattle.sn_laws.specs.declared.ideal.Account.{Account}
use Rattle.sn_laws.specs.declared.ideal.Device.{Device}
use Rattle.sn_laws.specs.declared.ideal.Ideal.{Ideal}
use Rattle.sn_laws.specs.declared.ideal.Version.{Version}
use Rattle.sn_laws.specs.declared.moves.Move.{Move}
use Rattle.sn_laws.specs.declared.moves.Move.TheVariants.{Register, Accept, Rewrap, Change}
use Rattle.sn_string.specs.declared.params.KeySet.{KeySet}

-- what versions under the last set, and more sets where the moves are such, leave of an account
pub record Keeps (U : Account → Type 0) (identifier : Bytes) (Q : Move → Type 0) : Type 0 where
  pub gain : (x : Account) (w : Version) → ((k : ℕ) → IsUnder k w.body → length x.sets ≡ k) → U x → U (more w x)
  pub change : (number : ℕ) (set : KeySet) → Q (Change identifier number set) → (x : Account) → U x → U (more_sets set x)

-- it holds of the account of an identifier, which is a device's
abbrev OfNamed : (Account → Type 0) → Bytes → Account → Type 0
OfNamed U identifier x = x.identifier ≡ identifier → U x

pub record Marked (U : Account → Type 0) (device identifier : Bytes) (s : Ideal) : Type 0 where
  pub account : Account
  pub has : account_of s device ≡ Some account
  pub same : account.identifier ≡ identifier
  pub each : Each (OfNamed U identifier) s.accounts

-- ---- each step

gained : (U : Account → Type 0) (identifier : Bytes) (Q : Move → Type 0) → Keeps U identifier Q → (s : Ideal) (uuid : Bytes) (a : Account) (w : Version)
    (next : List Account) → Gains s uuid a w next → Differ s → Each (OfNamed U identifier) s.accounts → Each (OfNamed U identifier) next
gained U identifier Q keeps s uuid a w next g differ h =
    subst (Each (OfNamed U identifier)) (sym g.next_is)
    (each_changed (OfNamed U identifier) (is_account a.identifier) (more w) s.accounts h
    (λ x there is u same. keeps.gain x w
    (subst (λ (y : Account). (k : ℕ) → IsUnder k w.body → length y.sets ≡ k)
    (one_account s a x differ g.among there (sym (same_text x.identifier a.identifier is))) g.under) (u same)))

each_step : (U : Account → Type 0) (device identifier : Bytes) (Q : Move → Type 0) → Keeps U identifier Q → (s : Ideal) (m : Move) → Differ s → Q m
    → IsTrue (allows s m) → Marked U device identifier s → Each (OfNamed U identifier) (after s m).accounts
each_step U device identifier Q keeps s (Register other set) differ q may h =
    let fresh : MayRegister s other = allowed_from s (Register other set) may in
    let apart : h.account.identifier ≢ other =
    each_one (λ (x : Account). x.identifier ≢ other) s.accounts h.account fresh (among s device h.account h.has) in
    each_more (OfNamed U identifier) s.accounts (record { identifier = other; sets = set ∷ []; versions = [] }) h.each
    (λ same. absurd (apart (h.same ∙ sym same)))
each_step U device identifier Q keeps s (Accept name uuid stamp under) differ q may h =
    let is : MayAccept s name uuid stamp under = allowed_from s (Accept name uuid stamp under) may in
    let g = accept_gains s name uuid stamp under is in
    gained U identifier Q keeps s uuid is.account (version_of stamp (length is.account.sets) is.draft) (after s (Accept name uuid stamp under)).accounts g differ h.each
each_step U device identifier Q keeps s (Rewrap uuid stamp under) differ q may h =
    let is : MayRewrap s uuid stamp under = allowed_from s (Rewrap uuid stamp under) may in
    let g = rewrap_gains s uuid stamp under is in
    gained U identifier Q keeps s uuid is.account (sealed_again stamp (length is.account.sets) is.version) (after s (Rewrap uuid stamp under)).accounts g differ h.each
each_step U device identifier Q keeps s (Change other number set) differ q may h =
    each_changed (OfNamed U identifier) (is_account other) (more_sets set) s.accounts h.each
    (λ x there is u same. keeps.change number set
    (subst (λ (n : Bytes). Q (Change n number set)) (sym (same_text x.identifier other is) ∙ same) q) x (u same))
each_step U device identifier Q keeps s m differ q may h = h.each

pub marked_stays : (U : Account → Type 0) (device identifier : Bytes) (Q : Move → Type 0) → Keeps U identifier Q
    → Stays Q (Marked U device identifier)
marked_stays U device identifier Q keeps s m differ q may h =
    let there : StaysAccount h.account (account_of (after s m) device) = own_account_stays s m device h.account may h.has in
    record {
      account = there.now_is;
      has = there.found_is;
      same = there.grown.same ∙ h.same;
      each = each_step U device identifier Q keeps s m differ q may h;
    }

-- ---- from the account, and to it

pub marked_at : (U : Account → Type 0) (device : Bytes) (s : Ideal) (a : Account) → Differ s → account_of s device ≡ Some a → U a
    → Marked U device a.identifier s
marked_at U device s a differ has u =
    record {
      account = a;
      has = has;
      same = refl;
      each = one_each (OfNamed U a.identifier) s.accounts
          (λ x there same. subst U (one_account s a x differ (among s device a has) there (sym same)) u);
    }

pub marked_own : (U : Account → Type 0) (device identifier : Bytes) (s : Ideal) → (h : Marked U device identifier s) → U h.account
marked_own U device identifier s h =
    each_one (OfNamed U identifier) s.accounts h.account h.each (among s device h.account h.has) h.same

-- a device's account goes by its identifier
pub named_so : (s : Ideal) (device : Bytes) (a : Account) → account_of s device ≡ Some a → account_named s a.identifier ≡ Some a
named_so s device a h = at (device_named s device) h
  where
    at : (found : Option Device) → account_for s.accounts found ≡ Some a → account_named s a.identifier ≡ Some a
    at None k = absurd (cc)
    at (Some d) k =
        let passes = (found_passes (is_account d.account) s.accounts a k).0 in
        subst (λ (n : Bytes). account_named s n ≡ Some a) (sym (same_text a.identifier d.account passes)) k

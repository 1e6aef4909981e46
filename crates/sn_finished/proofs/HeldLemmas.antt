-- What the devices of a finished account hold, and may do.
use Rattle.std.proofs.Common.{◌≡◌, ◌≢◌, ◌<◌, ◌≤◌, ℕ, ◌+◌, List, [], ◌∷◌, ◌++◌, length, Option, Some, None, Bool, true, false, refl, sym, ap, ◌∙◌, subst, inl, inr, ⊎_elim, arith}
use Rattle.std.specs.Prelude.{IsTrue, ◌==◌, cond, not, if◌then◌else◌}
use Rattle.std.specs.Option.{option_map}
use Rattle.std.specs.Str.{bytes_eq}
use Rattle.std.proofs.lemmas.List.{length-append}
use Rattle.sn_finished.proofs.ListLemmas.{each_one, each_unit, split_at}
use Rattle.sn_finished.proofs.MarkedLemmas.{named_so}
use Rattle.sn_finished.proofs.RetiredLemmas.{held_sets, less_held, retire_may}
use Rattle.sn_finished.proofs.WalkLemmas.{Differ, walk_behind}
use Rattle.sn_finished.specs.Finished.{CarriesLast, HasFinished, IsFinishedBy}
use Rattle.sn_finished.specs.Laws.{FinishedCarries}
use Rattle.sn_laws.proofs.Facts.{allowed_from, among, device_after, device_joined, device_next, found_passes, is_false, legal_after, legal_before, number_same, one_there, own_account_stays, retired, same_number, same_text, text_same}
use Rattle.sn_laws.proofs.Facts.{Stays as StaysAccount}
use Rattle.sn_laws.specs.Each.{Each, One}
use Rattle.sn_laws.specs.Lookups.{Bytes, account_for, account_named, account_of, device_named, empty, held_by, is_account}
use Rattle.sn_laws.specs.Moves.{after, allows, most_sets, without}
use Rattle.sn_laws.specs.Reached.{DevicesHold, IsOneOrTwo}
use Rattle.sn_laws.specs.Relation.{HeldBefore, IsLive, IsUnder, MayChange, MayJoin, MayRetire}
use Rattle.sn_laws.specs.Runs.{Legal, end}
use Rattle.sn_laws.specs.declared.ideal.Account.{Account}
use Rattle.sn_laws.specs.declared.ideal.Body.{Body}
use Rattle.sn_laws.specs.declared.ideal.Body.TheVariants.{Under, Gone}
use Rattle.sn_laws.specs.declared.ideal.Device.{Device}
use Rattle.sn_laws.specs.declared.ideal.Ideal.{Ideal}
use Rattle.sn_laws.specs.declared.moves.Move.{Move}
use Rattle.sn_laws.specs.declared.moves.Move.TheVariants.{Join, Retire}
use Rattle.sn_string.specs.declared.params.KeySet.{KeySet}

abbrev Any : Move → Type 0
Any m = Unit {0}

-- ---- the device that finished

-- the device of an account with this set holds it and no other, as long as it is the last one
record Alone (n : ℕ) (device : Bytes) (s : Ideal) : Type 0 where
  account : Account
  has : account_of s device ≡ Some account
  least : n ≤ length account.sets
  is : Device
  named : device_named s device ≡ Some is
  alone : length account.sets ≡ n → is.held ≡ n ∷ []

-- the same of the device that a move leaves, by the account before it
record AloneNext (n : ℕ) (a : Account) (found : Option Device) : Type 0 where
  next : Device
  found_is : found ≡ Some next
  alone : length a.sets ≡ n → next.held ≡ n ∷ []

alone_still : (n : ℕ) (device : Bytes) (s : Ideal) → (h : Alone n device s) → AloneNext n h.account (device_named s device)
alone_still n device s h = record { next = h.is; found_is = h.named; alone = h.alone }

-- a device that holds the last set joins no other
joins_none : (s : Ideal) (name identifier : Bytes) (number n : ℕ) (h : Alone n name s) → MayJoin s name identifier number → length h.account.sets ≡ n → ⊥
joins_none s name identifier number n h may last =
    let before : HeldBefore h.is may.account.identifier number = may.before h.is h.named in
    let passes = (found_passes (is_account identifier) s.accounts may.account may.named).0 in
    let owner : h.is.account ≡ identifier = before.same ∙ same_text may.account.identifier identifier passes in
    let own : account_named s h.is.account ≡ Some h.account = sym (ap (account_for s.accounts) h.named) ∙ h.has in
    let same : may.account ≡ h.account =
    one_there may.account h.account (account_named s identifier) may.named (subst (λ (i : Bytes). account_named s i ≡ Some h.account) owner own) in
    let number_is : number ≡ n = may.last ∙ ap (λ (x : Account). length x.sets) same ∙ last in
    let less = (subst (λ (held : List ℕ). Each (λ m. m < number) held) (h.alone last) before.below).0 in
    omega (arith, number_is, less)

-- nor does it retire it
retires_none : (s : Ideal) (name : Bytes) (number n : ℕ) (h : Alone n name s) → MayRetire s name number → length h.account.sets ≡ n → ⊥
retires_none s name number n h may last =
    let held : held_by (device_named s name) ≡ n ∷ [] = ap held_by h.named ∙ h.alone last in
    let is = subst (λ (ns : List ℕ). One (λ m. m ≡ number) ns) held may.holds in
    let less = subst (λ (ns : List ℕ). One (λ m. number < m) ns) held may.greater in
    ⊎_elim (λ e. ⊎_elim (λ k. omega (arith, e, k)) (λ k. k) less) (λ e. e) is

alone_next : (n : ℕ) (device : Bytes) (s : Ideal) (m : Move) → IsTrue (allows s m) → (h : Alone n device s) → AloneNext n h.account (device_next s m device)
alone_next n device s (Join name identifier number) may h = at (bytes_eq name device) refl
  where
    at : (b : Bool) → bytes_eq name device ≡ b
        → AloneNext n h.account (if b then Some (device_joined name identifier number (device_named s name)) else device_named s device)
    at true e =
        let join : MayJoin s name identifier number = allowed_from s (Join name identifier number) may in
        let here : MayJoin s device identifier number = subst (λ (x : Bytes). MayJoin s x identifier number) (same_text name device e) join in
        record {
          next = device_joined name identifier number (device_named s name);
          found_is = refl;
          alone = λ last. absurd (joins_none s device identifier number n h here last);
        }
    at false e = alone_still n device s h
alone_next n device s (Retire name number) may h = at (bytes_eq name device) refl
  where
    at : (b : Bool) → bytes_eq name device ≡ b
        → AloneNext n h.account (if b then option_map (retired number) (device_named s device) else device_named s device)
    at true e =
        let retire : MayRetire s name number = allowed_from s (Retire name number) may in
        let here : MayRetire s device number = subst (λ (x : Bytes). MayRetire s x number) (same_text name device e) retire in
        record {
          next = retired number h.is;
          found_is = ap (option_map (retired number)) h.named;
          alone = λ last. absurd (retires_none s device number n h here last);
        }
    at false e = alone_still n device s h
alone_next n device s m may h = alone_still n device s h

-- accounts grow
alone_after : (n : ℕ) (device : Bytes) (s : Ideal) (m : Move) (a : Account) → IsTrue (allows s m) → account_of s device ≡ Some a → n ≤ length a.sets
    → AloneNext n a (device_next s m device) → Alone n device (after s m)
alone_after n device s m a may has least next =
    let there : StaysAccount a (account_of (after s m) device) = own_account_stays s m device a may has in
    let longer : length there.now_is.sets ≡ length a.sets + length there.grown.sets =
    ap length there.grown.sets_are ∙ length-append a.sets there.grown.sets in
    record {
      account = there.now_is;
      has = there.found_is;
      least = omega (arith, longer, least);
      is = next.next;
      named = device_after s m device ∙ next.found_is;
      alone = λ last. next.alone (omega (arith, longer, least, last));
    }

alone_stays : (n : ℕ) (device : Bytes) (s : Ideal) (m : Move) → Differ s → Any m → IsTrue (allows s m) → Alone n device s → Alone n device (after s m)
alone_stays n device s m differ any may h = alone_after n device s m h.account may h.has h.least (alone_next n device s m may h)

-- ---- where it retires the set before

one_left : (number n : ℕ) (held : List ℕ) → IsOneOrTwo n held → One (λ m. m ≡ number) held → One (λ m. number < m) held → n ≡ number + 1
    → without (λ m. m == number) held ≡ n ∷ []
one_left number n [] h is less last = absurd h
one_left number n (g ∷ []) h is less last =
    ⊎_elim (λ e. ⊎_elim (λ k. absurd (omega (arith, e, k))) (λ k. absurd k) less) (λ e. absurd e) is
one_left number n (o ∷ g ∷ []) h is less last =
    let first : o ≡ number = ⊎_elim (λ e. e) (λ e. ⊎_elim (λ k. absurd (passed k)) (λ k. absurd k) e) is in
    let second : g ≡ n = omega (arith, h.1, h.2, first, last) in
    let other : (g == number) ≡ false = is_false (g == number) (λ e. apart first (same_number g number e)) in
    ap (λ b. cond (not b) (o ∷ cond (not (g == number)) (g ∷ []) []) (cond (not (g == number)) (g ∷ []) [])) (number_same o number first)
    ∙ ap (λ b. cond (not b) (g ∷ []) []) other ∙ ap (λ k. k ∷ []) second
  where
    passed : g ≡ number → ⊥
    passed same = ⊎_elim (λ e. omega (arith, same, e, h.1)) (λ e. ⊎_elim (λ k. omega (arith, same, k)) (λ k. k) e) less

    apart : o ≡ number → g ≡ number → ⊥
    apart first same = omega (arith, first, same, h.1)
one_left number n (o ∷ g ∷ m ∷ rest) h is less last = absurd h

alone_first : DevicesHold → (before later : List Move) (device : Bytes) (number : ℕ) → Legal (before ++ Retire device number ∷ later)
    → Alone (number + 1) device (after (end before) (Retire device number))
alone_first hold before later device number legal =
    let s : Ideal = end before in
    let may : MayRetire s device number = retire_may before later device number legal in
    let a : Account = may.account in
    let sets : IsOneOrTwo (length a.sets) (held_by (device_named s device)) =
    held_sets hold before device a (legal_before empty before (Retire device number ∷ later) legal) may.has in
    let less : number < length a.sets = less_held (length a.sets) number (held_by (device_named s device)) sets may.greater in
    alone_after (number + 1) device s (Retire device number) a (legal_after empty before (Retire device number ∷ later) legal).0 may.has
    (omega (arith, less)) (at (device_named s device) sets may.holds may.greater)
  where
    s : Ideal
    s = end before

    a : Account
    a = (retire_may before later device number legal).account

    at : (found : Option Device) → IsOneOrTwo (length a.sets) (held_by found) → One (λ m. m ≡ number) (held_by found) → One (λ m. number < m) (held_by found)
        → AloneNext (number + 1) a (if bytes_eq device device then option_map (retired number) found else found)
    at None sets is less = absurd sets
    at (Some d) sets is less =
        record {
          next = retired number d;
          found_is = ap (λ b. if b then option_map (retired number) (Some d) else Some d) (text_same device device refl);
          alone = λ last. one_left number (length a.sets) d.held sets is less last ∙ ap (λ n. n ∷ []) last;
        }

pub finisher_holds : DevicesHold → (ms : List Move) (a : Account) (device : Bytes) → Legal ms → IsFinishedBy ms a device
    → held_by (device_named (end ms) device) ≡ length a.sets ∷ []
finisher_holds hold ms a device legal f =
    let number : ℕ = f.number in
    let parts = split_at (Retire device number) ms f.retired in
    let whole : Legal (parts.0 ++ Retire device number ∷ parts.1) = subst (λ (x : List Move). Legal x) parts.2 legal in
    let there : Alone (number + 1) device (end ms) =
    subst (λ (x : List Move). Alone (number + 1) device (end x)) (sym parts.2)
    (walk_behind Any (Alone (number + 1) device) (alone_stays (number + 1) device) parts.0 (Retire device number) parts.1 (each_unit parts.1) whole
    (alone_first hold parts.0 parts.1 device number whole)) in
    let same : there.account ≡ a = one_there there.account a (account_of (end ms) device) there.has f.has in
    let last : length there.account.sets ≡ number + 1 = ap (λ (x : Account). length x.sets) same ∙ sym f.before_last in
    ap held_by there.named ∙ there.alone last ∙ ap (λ n. n ∷ []) f.before_last

-- ---- what devices may do

-- each undeleted last version of a finished account carries the last set
carries_last : FinishedCarries → (ms : List Move) (a : Account) → Legal ms → HasFinished ms a → CarriesLast a
carries_last carries ms a legal f =
    each_one (λ (x : Account). HasFinished ms x → CarriesLast x) (end ms).accounts a (carries ms legal) (among (end ms) f.0 a f.1.has) f

under_other : (n k : ℕ) (b : Body) → (IsLive b → IsUnder n b) → k < n → ¬ (IsUnder k b)
under_other n k (Under text set) h less e =
    let is : set ≡ n = h tt in
    let same : set ≡ k = e in
    omega (arith, is, same, less)
under_other n k Gone h less e = e

pub devices_retire : DevicesHold → (ms : List Move) (a : Account) (device : Bytes) (lesser greater : ℕ) → Legal ms → CarriesLast a
    → account_of (end ms) device ≡ Some a → held_by (device_named (end ms) device) ≡ lesser ∷ greater ∷ [] → MayRetire (end ms) device lesser
devices_retire hold ms a device lesser greater legal carries has held =
    let sets : IsOneOrTwo (length a.sets) (lesser ∷ greater ∷ []) =
    subst (λ (ns : List ℕ). IsOneOrTwo (length a.sets) ns) held (held_sets hold ms device a legal has) in
    let less : lesser < length a.sets = omega (arith, sets.1, sets.2) in
    record {
      account = a;
      has = has;
      holds = subst (λ (ns : List ℕ). One (λ m. m ≡ lesser) ns) (sym held) (inl refl);
      greater = subst (λ (ns : List ℕ). One (λ m. lesser < m) ns) (sym held) (inr (inl sets.1));
      unused = λ uuid v last. under_other (length a.sets) lesser v.body (carries uuid v last) less;
    }

pub next_changes : FinishedCarries → (ms : List Move) (a : Account) (set : KeySet) → Legal ms → HasFinished ms a
    → Each (λ (k : KeySet). k.params.pw_nonce ≢ set.params.pw_nonce) a.sets → length a.sets < most_sets
    → MayChange (end ms) a.identifier (length a.sets + 1) set
next_changes carries ms a set legal f fresh few =
    record {
      account = a;
      named = named_so (end ms) f.0 a f.1.has;
      fresh = fresh;
      few = few;
      same = carries_last carries ms a legal f;
      next = refl;
    }

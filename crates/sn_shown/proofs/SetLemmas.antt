-- The sets that devices hold, gathered from device to device.
use Rattle.std.proofs.Common.{◌≡◌, ◌≤◌, ℕ, List, [], ◌∷◌, ◌++◌, length, take, Option, Some, None, Bool, true, false, refl, sym, ap, ◌∙◌, subst, ⊎_elim}
use Rattle.std.specs.Prelude.{◌==◌, ◌&&◌, IfSome, IsSome, if◌then◌else◌}
use Rattle.std.specs.BTreeMap.{BTreeMap, IsEmpty, Updates, get, is_at}
use Rattle.std.specs.Map.{lookup}
use Rattle.std.specs.Ordering.{is_eq, nat_cmp, ordering_then}
use Rattle.std.specs.declared.cmp.Ordering.{Ordering}
use Rattle.std.specs.declared.cmp.Ordering.TheVariants.{Less, Equal, Greater}
use Rattle.std.proofs.lemmas.List.{take_all}
use Rattle.sn_laws.specs.Each.{One}
use Rattle.sn_laws.specs.Lookups.{Bytes, account_of, device_named}
use Rattle.sn_laws.specs.declared.ideal.Account.{Account}
use Rattle.sn_laws.specs.declared.ideal.Device.{Device}
use Rattle.sn_laws.specs.declared.ideal.Ideal.{Ideal}
use Rattle.sn_row_map.specs.Keys.{key_cmp}
use Rattle.sn_rows.specs.Facts.{keys_compare, same_self}
use Rattle.sn_rows.specs.Table.{same_key}
use Rattle.sn_rows.specs.declared.key.Key.{Key}
use Rattle.sn_rows.specs.declared.key.Key.TheVariants as key
use Rattle.sn_shows.specs.Laws.{AreApart}
use Rattle.sn_shows.specs.Servers.{account_at}
use Rattle.sn_shows.specs.Sets.{set_at}
use Rattle.sn_shows.proofs.Facts.{one_at}
use Rattle.sn_string.specs.declared.params.KeySet.{KeySet}
use Rattle.sn_shown.specs.Held.{AreSets, AreSetsOf, IsHolding, number_of, numbers_of, with_held, with_set}
use Rattle.sn_shown.specs.Shown.{AreHeld, IsHeld, IsHolder}
use Rattle.sn_shown.specs.declared.holding.HeldSet.{HeldSet}
use Rattle.sn_shown.specs.declared.holding.Holding.{Holding}
use Rattle.sn_shown.proofs.Finds.{never, one_found, one_old_or_new, some_found, some_is}
use Rattle.sn_shown.proofs.LineOrder.{same_key as number_tie}

-- ---- the map of sets

then_tie : (p q : Ordering) → is_eq (ordering_then p q) ≡ (is_eq p && is_eq q)
then_tie Less q = refl
then_tie Equal q = refl
then_tie Greater q = refl

-- the key of a set's row compares equal with itself alone
pub key_tie : (n g : ℕ) (asked : Key) → is_at (key_cmp (key.Generation n g)) asked ≡ same_key (key.Generation n g) asked
key_tie n g (key.Generation m h) =
    then_tie (nat_cmp n m) (nat_cmp g h)
    ∙ ap (λ (b : Bool). b && is_eq (nat_cmp g h)) (number_tie n m)
    ∙ ap (λ (b : Bool). (n == m) && b) (number_tie g h)
key_tie n g asked = refl

pub set_added : (m now : BTreeMap Key KeySet) (n g : ℕ) (set : KeySet) → Updates key_cmp m now (key.Generation n g) (Some set) → (asked : Key)
    → get key_cmp now asked ≡ with_set (get key_cmp m) (key.Generation n g) set asked
set_added m now n g set h asked =
    h.0 asked ∙ ap (λ (b : Bool). if b then Some set else get key_cmp m asked) (key_tie n g asked)

-- ---- what is there

abbrev Found : Type 0
Found = Key → Option KeySet

-- each set is its account's
abbrev pub AreOwn : Found → Ideal → Type 0
AreOwn found s = (n number : ℕ) (set : KeySet) (a : Account) → found (key.Generation n number) ≡ Some set → account_at n s.accounts ≡ Some a
    → set_at number a.sets ≡ Some set

here : (found : Found) (name : Key) (set : KeySet) → with_set found name set name ≡ Some set
here found name set = ap (λ (b : Bool). if b then Some set else found name) (same_self name)

stays : (found : Found) (name : Key) (set : KeySet) (asked : Key) → IsSome (found asked) → IsSome (with_set found name set asked)
stays found name set asked some = at (same_key name asked)
  where
    at : (b : Bool) → IsSome (if b then Some set else found asked)
    at true = refl
    at false = some

own_with : (found : Found) (s : Ideal) (account g : ℕ) (set : KeySet) (b : Account) → account_at account s.accounts ≡ Some b
    → set_at g b.sets ≡ Some set → AreOwn found s → AreOwn (with_set found (key.Generation account g) set) s
own_with found s account g set b at_b is own n number x a got at = by (same_key (key.Generation account g) (key.Generation n number)) refl got
  where
    by : (c : Bool) → same_key (key.Generation account g) (key.Generation n number) ≡ c
        → (if c then Some set else found (key.Generation n number)) ≡ Some x → set_at number a.sets ≡ Some x
    by true e k =
        let keys : key.Generation account g ≡ key.Generation n number = (keys_compare (key.Generation account g) (key.Generation n number)).0 e in
        let account_same : account ≡ n = cc in
        let number_same : g ≡ number = cc in
        let set_same : set ≡ x = cc in
        let same : b ≡ a = one_found (account_at account s.accounts) b a at_b (ap (λ (m : ℕ). account_at m s.accounts) account_same ∙ at) in
        ap (λ (m : ℕ). set_at m a.sets) (sym number_same) ∙ ap (λ (c : Account). set_at g c.sets) (sym same) ∙ is ∙ ap (λ (y : KeySet). Some y) set_same
    by false e k = own n number x a k at

-- ---- from device to device

pub no_sets : (s : Ideal) (m : BTreeMap Key KeySet) → IsEmpty m → AreSetsOf (get key_cmp m) s []
no_sets s m e =
    record {
      own = λ n number set a got at.
          never (get key_cmp m (key.Generation n number)) set got (ap (λ es. lookup (is_at (key_cmp (key.Generation n number))) es) e);
      there = λ name n number a one holder at. absurd one;
    }

-- a device that holds nothing
pub same_sets : (found : Found) (s : Ideal) (names : List Bytes) (name : Bytes) → device_named s name ≡ None → AreSetsOf found s names
    → AreSetsOf found s (names ++ name ∷ [])
same_sets found s names name none h =
    record {
      own = h.own;
      there = λ other n number a one holder at.
          ⊎_elim
          (λ (old : One (λ (m : Bytes). m ≡ other) names). h.there other n number a old holder at)
          (λ (new : name ≡ other). never (device_named s other) holder.device holder.named (ap (device_named s) (sym new) ∙ none))
          (one_old_or_new (λ (m : Bytes). m ≡ other) names name one);
    }

-- and one that holds sets
module _ (found now middle : Found) (s : Ideal) (names : List Bytes) (name : Bytes) (h : Holding) (apart : AreApart s.accounts) (is : IsHolding s name h)
    (older_added : (asked : Key) → middle asked ≡ with_held found h.account h.older asked)
    (present_added : (asked : Key) → now asked ≡ with_set middle (key.Generation h.account h.present.number) h.present.set asked)
    (sets : AreSetsOf found s names) where
  abbrev both : Found
  both = with_set (with_held found h.account h.older) (key.Generation h.account h.present.number) h.present.set

  now_is : (asked : Key) → now asked ≡ both asked
  now_is asked =
      present_added asked
      ∙ ap (λ (o : Option KeySet). if same_key (key.Generation h.account h.present.number) asked then Some h.present.set else o) (older_added asked)

  older_own : (older : Option HeldSet) → IfSome older (λ o. set_at o.number is.account.sets ≡ Some o.set) → AreOwn (with_held found h.account older) s
  older_own None holds = sets.own
  older_own (Some o) holds = own_with found s h.account o.number o.set is.account is.at holds sets.own

  both_own : AreOwn both s
  both_own =
      own_with (with_held found h.account h.older) s h.account h.present.number h.present.set is.account is.at is.present (older_own h.older is.older)

  older_stays : (older : Option HeldSet) (asked : Key) → IsSome (found asked) → IsSome (with_held found h.account older asked)
  older_stays None asked some = some
  older_stays (Some o) asked some = stays found (key.Generation h.account o.number) o.set asked some

  both_stay : (asked : Key) → IsSome (found asked) → IsSome (both asked)
  both_stay asked some =
      stays (with_held found h.account h.older) (key.Generation h.account h.present.number) h.present.set asked (older_stays h.older asked some)

  present_there : IsSome (both (key.Generation h.account h.present.number))
  present_there =
      some_is (both (key.Generation h.account h.present.number)) h.present.set
      (here (with_held found h.account h.older) (key.Generation h.account h.present.number) h.present.set)

  older_there : (older : Option HeldSet) (number : ℕ) → One (λ (n : ℕ). n ≡ number) (number_of older) → IsSome (with_held found h.account older (key.Generation h.account number))
  older_there None number one = absurd one
  older_there (Some o) number one =
      ⊎_elim
      (λ (e : o.number ≡ number).
      subst (λ (n : ℕ). IsSome (with_held found h.account (Some o) (key.Generation h.account n))) e
      (some_is (with_held found h.account (Some o) (key.Generation h.account o.number)) o.set (here found (key.Generation h.account o.number) o.set)))
      (λ wrong. absurd wrong) one

  held_there : (number : ℕ) → One (λ (n : ℕ). n ≡ number) (numbers_of h) → IsSome (both (key.Generation h.account number))
  held_there number one =
      ⊎_elim
      (λ (old : One (λ (n : ℕ). n ≡ number) (number_of h.older)).
      stays (with_held found h.account h.older) (key.Generation h.account h.present.number) h.present.set (key.Generation h.account number)
      (older_there h.older number old))
      (λ (new : h.present.number ≡ number). subst (λ (n : ℕ). IsSome (both (key.Generation h.account n))) new present_there)
      (one_old_or_new (λ (n : ℕ). n ≡ number) (number_of h.older) h.present.number one)

  -- what the device holds is there
  own_there : (n number : ℕ) (a : Account) → IsHolder s a number name → account_at n s.accounts ≡ Some a → IsSome (both (key.Generation n number))
  own_there n number a holder at =
      let device : holder.device ≡ is.device = one_found (device_named s name) holder.device is.device holder.named is.named in
      let same : a ≡ is.account = one_found (account_of s name) a is.account holder.has is.has in
      let number_same : n ≡ h.account = apart n h.account a is.account at is.at (ap (λ (b : Account). b.identifier) same) in
      let held : One (λ (m : ℕ). m ≡ number) (numbers_of h) =
      subst (λ (ns : List ℕ). One (λ (m : ℕ). m ≡ number) ns) (ap (λ (d : Device). d.held) device ∙ is.held) holder.held in
      subst (λ (m : ℕ). IsSome (both (key.Generation m number))) (sym number_same) (held_there number held)

  moved : (asked : Key) → IsSome (both asked) → IsSome (now asked)
  moved asked some = subst (λ (o : Option KeySet). IsSome o) (sym (now_is asked)) some

  there : (other : Bytes) (n number : ℕ) (a : Account) → One (λ (m : Bytes). m ≡ other) (names ++ name ∷ []) → IsHolder s a number other
      → account_at n s.accounts ≡ Some a → IsSome (now (key.Generation n number))
  there other n number a one holder at =
      moved (key.Generation n number)
      (⊎_elim
      (λ (old : One (λ (m : Bytes). m ≡ other) names). both_stay (key.Generation n number) (sets.there other n number a old holder at))
      (λ (new : name ≡ other). own_there n number a (subst (λ (m : Bytes). IsHolder s a number m) (sym new) holder) at)
      (one_old_or_new (λ (m : Bytes). m ≡ other) names name one))

  pub more_sets : AreSetsOf now s (names ++ name ∷ [])
  more_sets = record { own = λ n number set a got at. both_own n number set a (sym (now_is (key.Generation n number)) ∙ got) at; there = there }

-- at the end of the names
pub sets_all : (found : Found) (s : Ideal) (names : List Bytes) (index : ℕ) → length names ≤ index → AreHeld s names
    → AreSetsOf found s (take index names) → AreSets found s.accounts
sets_all found s names index all held h n a uuid v text number at last is =
    let sets : AreSetsOf found s names = subst (λ (ns : List Bytes). AreSetsOf found s ns) (take_all index names all) h in
    let by : IsHeld s names a number = held a uuid v text number (one_at s.accounts n a at) last is in
    let set = some_found (found (key.Generation n number)) (sets.there by.0 n number a by.1 by.2 at) in
    record { set = set.0; there = set.1; at = sets.own n number set.0 a set.1 at }

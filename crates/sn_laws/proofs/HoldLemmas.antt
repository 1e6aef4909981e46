-- A device holds one or two sets of its account.
use Rattle.std.proofs.Common.{◌≡◌, ◌<◌, ◌≤◌, ℕ, List, [], ◌∷◌, ◌++◌, length, Option, Some, None, Bool, true, false, refl, sym, ap, ◌∙◌, subst, arith}
use Rattle.std.specs.Prelude.{IsTrue, ◌&&◌, ◌||◌, ◌==◌, not, nat_lt, nat_le, if◌then◌else◌, cond}
use Rattle.std.specs.List.{list_all, list_any}
use Rattle.std.specs.Option.{option_map}
use Rattle.std.specs.Str.{bytes_eq}
use Rattle.std.proofs.lemmas.Bool.{and_parts}
use Rattle.std.proofs.lemmas.List.{length-append}
use Rattle.sn_string.specs.declared.params.KeySet.{KeySet}
use Rattle.sn_laws.specs.declared.ideal.Account.{Account}
use Rattle.sn_laws.specs.declared.ideal.Device.{Device}
use Rattle.sn_laws.specs.declared.ideal.Draft.{Draft}
use Rattle.sn_laws.specs.declared.ideal.Ideal.{Ideal}
use Rattle.sn_laws.specs.declared.moves.Move.{Move}
use Rattle.sn_laws.specs.declared.moves.Move.TheVariants.{Register, Join, Accept, Rewrap, Change, Retire}
use Rattle.sn_laws.specs.Each.{Each}
use Rattle.sn_laws.specs.Lookups.{Bytes, account_for, account_named, account_of, account_with, device_named, draft_at, empty, held_by, is_account, last_of}
use Rattle.sn_laws.specs.Moves.{accepted, after, again, allows, may_join, may_retire, none_carries, rewrapped, version_of, without}
use Rattle.sn_laws.specs.Reached.{DevicesHold, HoldsSets, IsOneOrTwo}
use Rattle.sn_laws.specs.Runs.{end}
use Rattle.sn_laws.proofs.AccountFrames.{Stays, account_stays}
use Rattle.sn_laws.proofs.ChangedLemmas.{each_changed, each_more, each_one}
use Rattle.sn_laws.proofs.DeviceFrames.{device_after, device_joined, device_next, retired}
use Rattle.sn_laws.proofs.EachLemmas.{at_most, below, each_from, found_passes, same_number, same_text}
use Rattle.sn_laws.proofs.RelatedLemmas.{one_there}
use Rattle.sn_laws.proofs.RunLemmas.{reached}

-- an account has a set

abbrev HasSet : Account → Type 0
HasSet a = 1 ≤ length a.sets

more_set : (sets : List KeySet) (set : KeySet) → 1 ≤ length (sets ++ set ∷ [])
more_set sets set = grind (arith, length-append sets (set ∷ []))

accepted_sets : (accounts : List Account) (a : Option Account) (d : Option Draft) (stamp : ℕ) → Each HasSet accounts
    → Each HasSet (accepted accounts a d stamp)
accepted_sets accounts None d stamp h = h
accepted_sets accounts (Some a) None stamp h = h
accepted_sets accounts (Some a) (Some d) stamp h =
    each_changed HasSet (is_account a.identifier) (λ (b : Account). record b { versions = b.versions ++ version_of stamp (length a.sets) d ∷ [] }) accounts h
    (λ _ _ _ k. k)

rewrapped_sets : (accounts : List Account) (a : Option Account) (uuid : Bytes) (stamp : ℕ) → Each HasSet accounts
    → Each HasSet (rewrapped accounts a uuid stamp)
rewrapped_sets accounts None uuid stamp h = h
rewrapped_sets accounts (Some a) uuid stamp h =
    each_changed HasSet (is_account a.identifier)
    (λ (b : Account). record b { versions = b.versions ++ again stamp (length a.sets) (last_of uuid a.versions) }) accounts h (λ _ _ _ k. k)

sets_step : (s : Ideal) (m : Move) → Each HasSet s.accounts → Each HasSet (after s m).accounts
sets_step s (Register identifier set) h = each_more HasSet s.accounts (record { identifier = identifier; sets = set ∷ []; versions = [] }) h (more_set [] set)
sets_step s (Accept name item stamp under) h = accepted_sets s.accounts (account_of s name) (draft_at s name item) stamp h
sets_step s (Rewrap item stamp under) h = rewrapped_sets s.accounts (account_with s.accounts item) item stamp h
sets_step s (Change identifier number set) h =
    each_changed HasSet (is_account identifier) (λ (a : Account). record a { sets = a.sets ++ set ∷ [] }) s.accounts h (λ a _ _ _. more_set a.sets set)
sets_step s m h = h

-- one set is held, or two

more_numbers : (n more : ℕ) (held : List ℕ) → n ≤ more → IsOneOrTwo n held → IsOneOrTwo more held
more_numbers n more [] le h = h
more_numbers n more (g ∷ []) le h = (h.0, omega (arith, h.1, le))
more_numbers n more (o ∷ g ∷ []) le h = (h.0, h.1, omega (arith, h.2, le))
more_numbers n more (o ∷ g ∷ m ∷ rest) le h = h

-- one more, the last
one_more : (n number : ℕ) (held : List ℕ) → length held ≤ 1 → Each (λ m. m < number) held → number ≡ n → IsOneOrTwo n held
    → IsOneOrTwo n (held ++ number ∷ [])
one_more n number [] short less last h = absurd h
one_more n number (g ∷ []) short less last h = (h.0, less.0, omega (arith, last))
one_more n number (o ∷ g ∷ rest) short less last h = absurd (omega (arith, short))

-- one less, where a greater one is held
one_less : (n number : ℕ) (held : List ℕ) → IsOneOrTwo n held → list_any (λ m. m == number) held ≡ true → list_any (λ m. nat_lt number m) held ≡ true
    → IsOneOrTwo n (without (λ m. m == number) held)
one_less n number [] h is less = absurd h
one_less n number (g ∷ []) h is less = absurd (at (g == number) (nat_lt number g) refl refl is less)
  where
    at : (b c : Bool) → (g == number) ≡ b → nat_lt number g ≡ c → (b || false) ≡ true → (c || false) ≡ true → ⊥
    at true true e f k l = let same : g ≡ number = same_number g number e in omega (arith, same, below number g f)
    at false c e f k l = cc
    at b false e f k l = cc
one_less n number (o ∷ g ∷ []) h is less =
    at (o == number) (g == number) (nat_lt number o) (nat_lt number g) refl refl refl refl is less
  where
    at : (b c d e : Bool) → (o == number) ≡ b → (g == number) ≡ c → nat_lt number o ≡ d → nat_lt number g ≡ e → (b || (c || false)) ≡ true
        → (d || (e || false)) ≡ true → IsOneOrTwo n (cond (not b) (o ∷ cond (not c) (g ∷ []) []) (cond (not c) (g ∷ []) []))
    at true true d e eb ec ed ee k l =
        let same : o ≡ number = same_number o number eb in
        let too : g ≡ number = same_number g number ec in
        absurd (omega (arith, same, too, h.1))
    at true false d e eb ec ed ee k l = (omega (arith, h.0, h.1), h.2)
    at false true true e eb ec ed ee k l =
        let same : g ≡ number = same_number g number ec in
        absurd (omega (arith, same, below number o ed, h.1))
    at false true false true eb ec ed ee k l =
        let same : g ≡ number = same_number g number ec in
        absurd (omega (arith, same, below number g ee))
    at false true false false eb ec ed ee k l = absurd (cc)
    at false false d e eb ec ed ee k l = absurd (cc)
one_less n number (o ∷ g ∷ m ∷ rest) h is less = absurd h

-- each device

abbrev Holds : Ideal → Device → Type 0
Holds s d = HoldsSets (account_named s d.account) d

-- accounts grow
holds_still : (s : Ideal) (m : Move) (d : Device) → IsTrue (allows s m) → Holds s d → Holds (after s m) d
holds_still s m d may h =
    let there : Stays h.account (account_named (after s m) d.account) = account_stays s m d.account h.account may h.has in
    record {
      account = there.now_is;
      has = there.found_is;
      held = more_numbers (length h.account.sets) (length there.now_is.sets) d.held
          (grind (arith, ap length there.grown.sets_are, length-append h.account.sets there.grown.sets)) h.held;
    }

join_holds : (s : Ideal) (name identifier : Bytes) (number : ℕ) (a : Option Account) (found : Option Device) → account_named s identifier ≡ a
    → Each HasSet s.accounts → ((d : Device) → found ≡ Some d → Holds s d) → may_join a found number ≡ true
    → Holds s (device_joined name identifier number found)
join_holds s name identifier number None found e sets h may = absurd (cc)
join_holds s name identifier number (Some a) None e sets h may =
    let last : number ≡ length a.sets = same_number number (length a.sets) may in
    let some : HasSet a = each_one HasSet s.accounts a sets (found_passes (is_account identifier) s.accounts a e).1 in
    record { account = a; has = e; held = (omega (arith, last, some), omega (arith, last)) }
join_holds s name identifier number (Some a) (Some d) e sets h may =
    let below_all = and_parts (bytes_eq d.account a.identifier && (number == length a.sets) && nat_le (length d.held) 1) (list_all (λ m. nat_lt m number) d.held) may in
    let short = and_parts (bytes_eq d.account a.identifier && (number == length a.sets)) (nat_le (length d.held) 1) below_all.0 in
    let same = and_parts (bytes_eq d.account a.identifier) (number == length a.sets) short.0 in
    let named : d.account ≡ identifier =
    same_text d.account a.identifier same.0 ∙ same_text a.identifier identifier (found_passes (is_account identifier) s.accounts a e).0 in
    let was : Holds s d = h d refl in
    let is : was.account ≡ a = one_there was.account a (account_named s identifier) (ap (account_named s) (sym named) ∙ was.has) e in
    record {
      account = was.account;
      has = was.has;
      held = one_more (length was.account.sets) number d.held (at_most (length d.held) 1 short.1)
          (each_from (λ m. nat_lt m number) (λ m. m < number) (λ m l. below m number l) d.held below_all.1)
          (same_number number (length a.sets) same.1 ∙ ap (λ (x : Account). length x.sets) (sym is)) was.held;
    }

retire_holds : (s : Ideal) (a : Option Account) (d : Device) (number : ℕ) → may_retire a d.held number ≡ true → Holds s d → Holds s (retired number d)
retire_holds s None d number may h = absurd (cc)
retire_holds s (Some a) d number may h =
    let first = and_parts (list_any (λ m. m == number) d.held && list_any (λ m. nat_lt number m) d.held) (none_carries number a.versions) may in
    let both = and_parts (list_any (λ m. m == number) d.held) (list_any (λ m. nat_lt number m) d.held) first.0 in
    record { account = h.account; has = h.has; held = one_less (length h.account.sets) number d.held h.held both.0 both.1 }

record AllHold (s : Ideal) : Type 0 where
  sets : Each HasSet s.accounts
  devices : (name : Bytes) (d : Device) → device_named s name ≡ Some d → Holds s d

next_holds : (s : Ideal) (m : Move) (name : Bytes) (d : Device) → IsTrue (allows s m) → AllHold s → device_next s m name ≡ Some d → Holds s d
next_holds s (Join device identifier number) name d may h e = at (bytes_eq device name) e
  where
    at : (b : Bool) → (if b then Some (device_joined device identifier number (device_named s device)) else device_named s name) ≡ Some d → Holds s d
    at true k =
        let same : device_joined device identifier number (device_named s device) ≡ d = cc in
        subst (Holds s) same
        (join_holds s device identifier number (account_named s identifier) (device_named s device) refl h.sets (h.devices device) may)
    at false k = h.devices name d k
next_holds s (Retire device number) name d may h e = at (bytes_eq device name) refl e
  where
    of : device ≡ name → (found : Option Device) → device_named s name ≡ found → option_map (retired number) found ≡ Some d → Holds s d
    of same None f k = absurd (cc)
    of same (Some x) f k =
        let is : retired number x ≡ d = cc in
        let there : may_retire (account_of s name) (held_by (Some x)) number ≡ true =
        subst (λ found. may_retire (account_of s name) (held_by found) number ≡ true) f
        (subst (λ n. may_retire (account_of s n) (held_by (device_named s n)) number ≡ true) same may) in
        subst (Holds s) is (retire_holds s (account_of s name) x number there (h.devices name x f))

    at : (b : Bool) → bytes_eq device name ≡ b → (if b then option_map (retired number) (device_named s name) else device_named s name) ≡ Some d → Holds s d
    at true f k = of (same_text device name f) (device_named s name) refl k
    at false f k = h.devices name d k
next_holds s m name d may h e = h.devices name d e

hold_step : (s : Ideal) (m : Move) → IsTrue (allows s m) → AllHold s → AllHold (after s m)
hold_step s m may h =
    record {
      sets = sets_step s m h.sets;
      devices = λ name d e. holds_still s m d may (next_holds s m name d may h (sym (device_after s m name) ∙ e));
    }

pub devices_all_hold : DevicesHold
devices_all_hold ms name d legal at =
    let all : AllHold (end ms) = reached AllHold hold_step empty ms legal (record { sets = tt; devices = λ _ _ e. absurd (cc) }) in
    subst (λ found. HoldsSets (account_for (end ms).accounts found) d) (sym at) (all.devices name d at)

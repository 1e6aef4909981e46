-- The greatest stamp of all: a new set leaves it, and an item that is sealed again has it.
use Rattle.std.proofs.Common.{◌≡◌, ℕ, List, [], ◌∷◌, ◌++◌, length, Option, Bool, true, false, refl, sym, ap, ◌∙◌, subst}
use Rattle.std.specs.Prelude.{IsTrue, if◌then◌else◌, map}
use Rattle.std.proofs.lemmas.List.Concat.{flat_map-cons}
use Rattle.sn_laws.specs.declared.ideal.Account.{Account}
use Rattle.sn_laws.specs.declared.ideal.Ideal.{Ideal}
use Rattle.sn_laws.specs.declared.ideal.Version.{Version}
use Rattle.sn_laws.specs.declared.moves.Move.TheVariants.{Change, Rewrap}
use Rattle.sn_laws.specs.Lookups.{Bytes, greatest, has_item, is_account}
use Rattle.sn_laws.specs.Moves.{after, allows, changed_where, rewrapped}
use Rattle.sn_laws.specs.Relation.{MayRewrap}
use Rattle.sn_laws.proofs.Facts.{allowed_from, found_passes}
use Rattle.sn_string.specs.declared.params.KeySet.{KeySet}
use Rattle.sn_shows.specs.Servers.{stamps_in}
use Rattle.sn_shows.proofs.RekeyedItems.{sealed_again, with_again}
use Rattle.sn_shows.proofs.ServersLast.{last_changed}
use Rattle.sn_shows.proofs.ServersLists.{more_sets}

-- the stamps of an account's versions
abbrev stamps_of : Account → List ℕ
stamps_of a = map (λ (v : Version). v.stamp) a.versions

same_stamps : (p : Account → Bool) (set : KeySet) (accounts : List Account) → stamps_in (changed_where p (more_sets set) accounts) ≡ stamps_in accounts
same_stamps p set [] = refl
same_stamps p set (x ∷ xs) =
    flat_map-cons stamps_of (if p x then more_sets set x else x) (changed_where p (more_sets set) xs)
    ∙ ap (λ (ns : List ℕ). ns ++ stamps_in (changed_where p (more_sets set) xs)) (own (p x))
    ∙ ap (λ (ns : List ℕ). stamps_of x ++ ns) (same_stamps p set xs)
    ∙ sym (flat_map-cons stamps_of x xs)
  where
    own : (q : Bool) → stamps_of (if q then more_sets set x else x) ≡ stamps_of x
    own true = refl
    own false = refl

pub changed_last : (s : Ideal) (identifier : Bytes) (number : ℕ) (set : KeySet)
    → greatest 0 (stamps_in (after s (Change identifier number set)).accounts) ≡ greatest 0 (stamps_in s.accounts)
changed_last s identifier number set = ap (λ (ns : List ℕ). greatest 0 ns) (same_stamps (is_account identifier) set s.accounts)

pub rewrapped_last : (s : Ideal) (uuid : Bytes) (stamp under : ℕ) → IsTrue (allows s (Rewrap uuid stamp under))
    → greatest 0 (stamps_in (after s (Rewrap uuid stamp under)).accounts) ≡ stamp
rewrapped_last s uuid stamp under allowed =
    let may : MayRewrap s uuid stamp under = allowed_from s (Rewrap uuid stamp under) allowed in
    let last = last_changed (sealed_again stamp (length may.account.sets) may.version) may.account s.accounts may.new.above
    (found_passes (has_item uuid) s.accounts may.account may.has).1 in
    subst (λ (o : Option Account). greatest 0 (stamps_in (rewrapped s.accounts o uuid stamp)) ≡ stamp) (sym may.has)
    (subst (λ (o : Option Version). greatest 0 (stamps_in (with_again s.accounts may.account stamp o)) ≡ stamp) (sym may.last) last)

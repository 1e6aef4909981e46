-- Which items of an account are behind: after a change of password, after a rewrap, and where the next change may come.
use Rattle.std.proofs.Common.{◌≡◌, ◌≢◌, ◌≤◌, ℕ, ◌+◌, List, [], ◌∷◌, ◌++◌, length, length-append, Option, Some, None, Bool, true, false, refl, sym, ap, ◌∙◌, subst, ⊎_elim, arith}
use Rattle.std.specs.Prelude.{◌==◌, ◌&&◌, IsTrue, not}
use Rattle.std.specs.List.{list_all}
use Rattle.std.proofs.lemmas.Bool.{and_parts}
use Rattle.sn_laws.proofs.Facts.{and_both, clash, is_false, last_among, not_false, number_same, one_there, same_number}
use Rattle.sn_laws.specs.Each.{One}
use Rattle.sn_laws.specs.Lookups.{Bytes, last_of}
use Rattle.sn_laws.specs.Moves.{is_behind, is_live, is_under, none_behind, resealed}
use Rattle.sn_laws.specs.Relation.{IsLive, IsUnder}
use Rattle.sn_laws.specs.declared.ideal.Account.{Account}
use Rattle.sn_laws.specs.declared.ideal.Body.{Body}
use Rattle.sn_laws.specs.declared.ideal.Body.TheVariants.{Under, Gone}
use Rattle.sn_laws.specs.declared.ideal.Version.{Version}
use Rattle.sn_shows.proofs.Facts.{last_own}
use Rattle.sn_string.specs.declared.params.KeySet.{KeySet}
use Rattle.sn_changed.proofs.Left.{comes_last}
use Rattle.sn_changed.specs.Leaves.{ChangeBehind, IsItemBehind, NoneIsBehind, RewrapBehind, resealed_at, with_version}

-- ---- after a change of password

past_last : (sets : List KeySet) (set : KeySet) → length (sets ++ set ∷ []) ≤ length sets → ⊥
past_last sets set within = let count : length (sets ++ set ∷ []) ≡ length sets + 1 = length-append sets (set ∷ []) in absurd (omega arith)

pub change_behind : ChangeBehind
change_behind a set uuid own = (
  λ x. (x.version, x.last, x.live),
  λ x. record { version = x.0; last = x.1; live = x.2; behind = λ under. past_last a.sets set (own x.0 (length (a.sets ++ set ∷ [])) x.1 under) },
)

-- ---- after a rewrap

under_own : (number : ℕ) (b : Body) → IsLive (resealed number b) → IsUnder number (resealed number b)
under_own number (Under text set) live = refl
under_own number Gone live = absurd live

pub rewrap_behind : RewrapBehind
rewrap_behind a uuid v stamp last other = (forth, back)
  where
    its_uuid : v.uuid ≡ uuid
    its_uuid = (last_among uuid a.versions v last).1

    stays : other ≢ uuid → last_of other (with_version (resealed_at stamp (length a.sets) v) a).versions ≡ last_of other a.versions
    stays differs = (comes_last a.versions (resealed_at stamp (length a.sets) v)).others other (λ e. differs (e ∙ its_uuid))

    forth : IsItemBehind (with_version (resealed_at stamp (length a.sets) v) a) other → (other ≢ uuid) × IsItemBehind a other
    forth x = (differs, record { version = x.version; last = sym (stays differs) ∙ x.last; live = x.live; behind = x.behind })
      where
        differs : other ≢ uuid
        differs e =
            let new : resealed_at stamp (length a.sets) v ≡ x.version =
            one_there (resealed_at stamp (length a.sets) v) x.version (last_of other (with_version (resealed_at stamp (length a.sets) v) a).versions)
            (last_own other a.versions (resealed_at stamp (length a.sets) v) (its_uuid ∙ sym e)) x.last in
            x.behind
            (subst (λ (y : Version). IsUnder (length a.sets) y.body) new
            (under_own (length a.sets) v.body (subst (λ (y : Version). IsLive y.body) (sym new) x.live)))

    back : (other ≢ uuid) × IsItemBehind a other → IsItemBehind (with_version (resealed_at stamp (length a.sets) v) a) other
    back (differs, x) = record { version = x.version; last = stays differs ∙ x.last; live = x.live; behind = x.behind }

-- ---- where none is

tested : (number : ℕ) (b : Body) → IsLive b → ¬ (IsUnder number b) → (is_live b && not (is_under number b)) ≡ true
tested number (Under text set) live differs = ap not (is_false (set == number) (λ e. differs (same_number set number e)))
tested number Gone live differs = absurd live

test_says : (number : ℕ) (b : Body) → (is_live b && not (is_under number b)) ≡ true → IsLive b × ¬ (IsUnder number b)
test_says number (Under text set) h = (tt, λ e. clash (set == number) (number_same set number e) (not_false (set == number) h))
test_says number Gone h = absurd (cc)

at_one : (p : Version → Bool) (vs : List Version) (v : Version) → list_all p vs ≡ true → One (λ (w : Version). w ≡ v) vs → p v ≡ true
at_one p [] v all one = absurd one
at_one p (w ∷ vs) v all one =
    let both = and_parts (p w) (list_all p vs) all in
    ⊎_elim (λ (same : w ≡ v). ap p (sym same) ∙ both.0) (λ rest. at_one p vs v both.1 rest) one

all_so : (p : Version → Bool) (vs : List Version) → ((v : Version) → p v ≡ true) → list_all p vs ≡ true
all_so p [] h = refl
all_so p (v ∷ vs) h = and_both (p v) (list_all p vs) (h v) (all_so p vs h)

module _ (a : Account) where
  abbrev number : ℕ
  number = length a.sets

  none_is : IsTrue (none_behind number a.versions) → (uuid : Bytes) → ¬ (IsItemBehind a uuid)
  none_is all uuid x =
      let there = last_among uuid a.versions x.version x.last in
      let passes : not (is_behind number (last_of x.version.uuid a.versions)) ≡ true =
      at_one (λ (v : Version). not (is_behind number (last_of v.uuid a.versions))) a.versions x.version all there.0 in
      let is : not (is_behind number (Some x.version)) ≡ true =
      subst (λ (o : Option Version). not (is_behind number o) ≡ true) (ap (λ (u : Bytes). last_of u a.versions) there.1 ∙ x.last) passes in
      clash (is_live x.version.body && not (is_under number x.version.body)) (tested number x.version.body x.live x.behind)
      (not_false (is_live x.version.body && not (is_under number x.version.body)) is)

  all_are : ((uuid : Bytes) → ¬ (IsItemBehind a uuid)) → IsTrue (none_behind number a.versions)
  all_are none = all_so (λ (v : Version). not (is_behind number (last_of v.uuid a.versions))) a.versions (λ v. of_item v.uuid (last_of v.uuid a.versions) refl)
    where
      of_item : (uuid : Bytes) (found : Option Version) → last_of uuid a.versions ≡ found → not (is_behind number found) ≡ true
      of_item uuid None e = refl
      of_item uuid (Some v) e = by (is_live v.body && not (is_under number v.body)) refl
        where
          by : (b : Bool) → (is_live v.body && not (is_under number v.body)) ≡ b → not b ≡ true
          by true is =
              let says = test_says number v.body is in
              absurd (none uuid (record { version = v; last = e; live = says.0; behind = says.1 }))
          by false is = refl

pub none_is_behind : NoneIsBehind
none_is_behind a = (none_is a, all_are a)

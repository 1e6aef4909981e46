-- What a change of password and a rewrap leave: numbers of sets, last versions, and what is on them.
use Rattle.std.proofs.Common.{◌≡◌, ◌≢◌, ◌⊎◌, ℕ, zero, suc, ◌+◌, List, [], ◌∷◌, ◌++◌, length, Option, Some, None, refl, sym, ap, ◌∙◌, subst, inl, inr, add-one}
use Rattle.std.specs.Prelude.{slice_get}
use Rattle.sn_laws.proofs.Facts.{each_front, one_there}
use Rattle.sn_laws.specs.Each.{Each}
use Rattle.sn_laws.specs.Lookups.{Bytes, account_named, is_account, last_of}
use Rattle.sn_laws.specs.Moves.{after, again, changed_where, rewrapped}
use Rattle.sn_laws.specs.Relation.{IsOnLast}
use Rattle.sn_laws.specs.declared.ideal.Account.{Account}
use Rattle.sn_laws.specs.declared.ideal.Version.{Version}
use Rattle.sn_laws.specs.declared.moves.Move.TheVariants as move
use Rattle.sn_shows.proofs.Facts.{last_other, last_own, set_last}
use Rattle.sn_shows.specs.Servers.{account_at}
use Rattle.sn_shows.specs.Sets.{set_at}
use Rattle.sn_string.specs.declared.params.KeySet.{KeySet}
use Rattle.sn_changed.proofs.Becomes.{becomes, each_before, is_one_of, named_one_of}
use Rattle.sn_changed.proofs.Found.{apart_texts}
use Rattle.sn_changed.specs.Leaves.{ChangeLasts, ChangeLeaves, ChangeOnLast, ComesLast, RewrapLeaves, VersionLasts, VersionOnLast, WasLast, WereOnLast, resealed_at, with_set, with_version}

-- no version of the item
abbrev HasNone : Bytes → Account → Type 0
HasNone uuid b = Each (λ (v : Version). v.uuid ≢ uuid) b.versions

-- ---- a set more

same_place : (xs : List KeySet) (x : KeySet) (n : ℕ) → n ≢ length xs → slice_get (xs ++ x ∷ []) n ≡ slice_get xs n
same_place [] x zero differs = absurd (differs refl)
same_place [] x (suc n) differs = refl
same_place (y ∷ ys) x zero differs = refl
same_place (y ∷ ys) x (suc n) differs = same_place ys x n (λ e. differs (ap suc e))

same_number : (sets : List KeySet) (set : KeySet) (number : ℕ) → number ≢ length sets + 1 → set_at number (sets ++ set ∷ []) ≡ set_at number sets
same_number sets set zero differs = refl
same_number sets set (suc n) differs = same_place sets set n (λ e. differs (ap suc e ∙ sym (add-one (length sets))))

pub change_leaves : ChangeLeaves
change_leaves s number a set apart at = (
  becomes s (after s (move.Change a.identifier (length a.sets + 1) set)) number a (with_set set) apart at (λ x. refl) refl refl refl,
  record { next = set_last a.sets set; others = same_number a.sets set },
)

pub change_lasts : ChangeLasts
change_lasts s later number a set o other b uuid v at last = by (is_one_of s later number a (with_set set a) o other b at)
  where
    by : ((other ≡ number) × (with_set set a ≡ b)) ⊎ ((other ≢ number) × (account_at other s.accounts ≡ Some b)) → WasLast s other b.identifier uuid v
    by (inl (own, is)) = record {
      account = a;
      at = ap (λ (k : ℕ). account_at k s.accounts) own ∙ o.was;
      own = ap (λ (c : Account). c.identifier) is;
      last = ap (λ (c : Account). last_of uuid c.versions) is ∙ last;
    }
    by (inr (differs, there)) = record { account = b; at = there; own = refl; last = last }

pub change_on_last : ChangeOnLast
change_on_last s later number a set o identifier b named = by (named_one_of s later number a (with_set set a) o identifier b named)
  where
    before : (uuid : Bytes) (base : Option ℕ) → IsOnLast later (with_set set a) uuid base → IsOnLast s a uuid base
    before uuid None each = each_before s later number a (with_set set a) o (HasNone uuid) (λ k. k) each
    before uuid (Some stamp) last = last

    others : (uuid : Bytes) (base : Option ℕ) → IsOnLast later b uuid base → IsOnLast s b uuid base
    others uuid None each = each_before s later number a (with_set set a) o (HasNone uuid) (λ k. k) each
    others uuid (Some stamp) last = last

    by : ((identifier ≡ a.identifier) × (with_set set a ≡ b)) ⊎ ((identifier ≢ a.identifier) × (account_named s identifier ≡ Some b))
        → WereOnLast s later identifier b (λ base. Unit {0})
    by (inl (own, is)) = record {
      account = a;
      named = ap (account_named s) own ∙ o.was_named;
      on = λ uuid base old on. before uuid base (subst (λ (c : Account). IsOnLast later c uuid base) (sym is) on);
    }
    by (inr (differs, there)) = record { account = b; named = there; on = λ uuid base old on. others uuid base on }

-- ---- a version more

pub comes_last : (versions : List Version) (w : Version) → ComesLast versions w
comes_last versions w = record { last = last_own w.uuid versions w refl; others = λ uuid differs. last_other uuid versions w (λ e. differs (sym e)) }

pub rewrap_leaves : RewrapLeaves
rewrap_leaves s uuid stamp under number a v apart at has last = (
  becomes s (after s (move.Rewrap uuid stamp under)) number a (with_version (resealed_at stamp (length a.sets) v)) apart at (λ x. refl) accounts_are refl refl,
  comes_last a.versions (resealed_at stamp (length a.sets) v),
)
  where
    accounts_are : (after s (move.Rewrap uuid stamp under)).accounts
        ≡ changed_where (is_account a.identifier) (with_version (resealed_at stamp (length a.sets) v)) s.accounts
    accounts_are =
        ap (λ (o : Option Account). rewrapped s.accounts o uuid stamp) has
        ∙ ap
        (λ (o : Option Version).
        changed_where (is_account a.identifier) (λ (b : Account). record b { versions = b.versions ++ again stamp (length a.sets) o }) s.accounts)
        last

pub version_lasts : VersionLasts
version_lasts s later number a w o other b uuid v at last = by (is_one_of s later number a (with_version w a) o other b at)
  where
    by : ((other ≡ number) × (with_version w a ≡ b)) ⊎ ((other ≢ number) × (account_at other s.accounts ≡ Some b))
        → (v ≡ w) ⊎ WasLast s other b.identifier uuid v
    by (inr (differs, there)) = inr (record { account = b; at = there; own = refl; last = last })
    by (inl (own, is)) = of_item (apart_texts uuid w.uuid)
      where
        now_last : last_of uuid (a.versions ++ w ∷ []) ≡ Some v
        now_last = ap (λ (c : Account). last_of uuid c.versions) is ∙ last

        of_item : (uuid ≡ w.uuid) ⊎ (uuid ≢ w.uuid) → (v ≡ w) ⊎ WasLast s other b.identifier uuid v
        of_item (inl same) = inl (one_there v w (last_of uuid (a.versions ++ w ∷ [])) now_last (last_own uuid a.versions w (sym same)))
        of_item (inr apart) =
            inr
            (record {
              account = a;
              at = ap (λ (k : ℕ). account_at k s.accounts) own ∙ o.was;
              own = ap (λ (c : Account). c.identifier) is;
              last = sym ((comes_last a.versions w).others uuid apart) ∙ now_last;
            })

pub version_on_last : VersionOnLast
version_on_last s later number a w o identifier b named = by (named_one_of s later number a (with_version w a) o identifier b named)
  where
    none_before : (uuid : Bytes) → Each (HasNone uuid) later.accounts → Each (HasNone uuid) s.accounts
    none_before uuid each =
        each_before s later number a (with_version w a) o (HasNone uuid) (λ k. each_front (λ (v : Version). v.uuid ≢ uuid) a.versions (w ∷ []) k) each

    before : (uuid : Bytes) (base : Option ℕ) → base ≢ Some w.stamp → IsOnLast later (with_version w a) uuid base → IsOnLast s a uuid base
    before uuid None old each = none_before uuid each
    before uuid (Some stamp) old (v, last, is) = of_item (apart_texts uuid w.uuid)
      where
        of_item : (uuid ≡ w.uuid) ⊎ (uuid ≢ w.uuid) → (y : Version) × (last_of uuid a.versions ≡ Some y) × (y.stamp ≡ stamp)
        of_item (inl same) =
            let new : w ≡ v = one_there w v (last_of uuid (a.versions ++ w ∷ [])) (last_own uuid a.versions w (sym same)) last in
            absurd (old (ap Some (sym is ∙ ap (λ (y : Version). y.stamp) (sym new))))
        of_item (inr apart) = (v, sym ((comes_last a.versions w).others uuid apart) ∙ last, is)

    others : (uuid : Bytes) (base : Option ℕ) → IsOnLast later b uuid base → IsOnLast s b uuid base
    others uuid None each = none_before uuid each
    others uuid (Some stamp) last = last

    by : ((identifier ≡ a.identifier) × (with_version w a ≡ b)) ⊎ ((identifier ≢ a.identifier) × (account_named s identifier ≡ Some b))
        → WereOnLast s later identifier b (λ base. base ≢ Some w.stamp)
    by (inl (own, is)) = record {
      account = a;
      named = ap (account_named s) own ∙ o.was_named;
      on = λ uuid base old on. before uuid base old (subst (λ (c : Account). IsOnLast later c uuid base) (sym is) on);
    }
    by (inr (differs, there)) = record { account = b; named = there; on = λ uuid base old on. others uuid base on }

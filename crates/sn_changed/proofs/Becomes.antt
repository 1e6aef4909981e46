-- One account of an ideal state becomes another, and all else stays.
use Rattle.std.proofs.Common.{◌≡◌, ◌≢◌, ◌⊎◌, ℕ, zero, suc, List, length, Option, Some, None, Bool, true, false, refl, sym, ap, ◌∙◌, subst, inl, inr}
use Rattle.std.proofs.lemmas.List.{length-map}
use Rattle.std.proofs.lemmas.Option.{slice_get-map}
use Rattle.std.specs.Option.{option_map}
use Rattle.std.specs.Prelude.{find, if◌then◌else◌, slice_get}
use Rattle.std.specs.Str.{bytes_eq}
use Rattle.sn_laws.proofs.Facts.{is_false, one_there, same_text, text_same}
use Rattle.sn_laws.specs.Each.{Each}
use Rattle.sn_laws.specs.Lookups.{Bytes, account_named, is_account}
use Rattle.sn_laws.specs.Moves.{changed_where}
use Rattle.sn_laws.specs.declared.ideal.Account.{Account}
use Rattle.sn_laws.specs.declared.ideal.Ideal.{Ideal}
use Rattle.sn_shows.proofs.Facts.{each_at, find_changed, find_past_changed}
use Rattle.sn_shows.specs.Laws.{AreApart}
use Rattle.sn_shows.specs.Servers.{account_at}
use Rattle.sn_changed.proofs.Found.{apart_numbers, apart_texts, each_got, found_at}
use Rattle.sn_changed.specs.Leaves.{OnlyBecomes}

-- ---- where the accounts of one identifier are changed

module _ (s later : Ideal) (number : ℕ) (a : Account) (f : Account → Account) (apart : AreApart s.accounts) (at : account_at number s.accounts ≡ Some a)
    (keeps : (x : Account) → (f x).identifier ≡ x.identifier) (accounts_are : later.accounts ≡ changed_where (is_account a.identifier) f s.accounts) where
  abbrev one : Account → Account
  one x = if is_account a.identifier x then f x else x

  got : (other : ℕ) → account_at other later.accounts ≡ option_map one (account_at other s.accounts)
  got zero = refl
  got (suc n) = ap (λ (xs : List Account). slice_get xs n) accounts_are ∙ slice_get-map one s.accounts n

  is_at : account_at number later.accounts ≡ Some (f a)
  is_at =
      got number ∙ ap (option_map one) at ∙ ap (λ (q : Bool). Some (if q then f a else a)) (text_same a.identifier a.identifier refl)

  others : (other : ℕ) → other ≢ number → account_at other later.accounts ≡ account_at other s.accounts
  others other differs = got other ∙ by (account_at other s.accounts) refl
    where
      by : (found : Option Account) → account_at other s.accounts ≡ found → option_map one found ≡ found
      by None e = refl
      by (Some c) e =
          ap (λ (q : Bool). Some (if q then f c else c))
          (is_false (is_account a.identifier c) (λ passes. differs (apart other number c a e at (same_text c.identifier a.identifier passes))))

  was_named : account_named s a.identifier ≡ Some a
  was_named =
      found_at (is_account a.identifier) s.accounts number a at (text_same a.identifier a.identifier refl)
      (λ m b there passes. apart m number b a there at (same_text b.identifier a.identifier passes))

  is_named : account_named later a.identifier ≡ Some (f a)
  is_named =
      ap (λ (xs : List Account). find (is_account a.identifier) xs) accounts_are
      ∙ find_changed (is_account a.identifier) f (λ x. ap (λ (i : Bytes). bytes_eq i a.identifier) (keeps x)) s.accounts a was_named

  others_named : (identifier : Bytes) → identifier ≢ a.identifier → account_named later identifier ≡ account_named s identifier
  others_named identifier differs =
      ap (λ (xs : List Account). find (is_account identifier) xs) accounts_are
      ∙ find_past_changed (is_account identifier) (is_account a.identifier) f off
      (λ x own. ap (λ (i : Bytes). bytes_eq i identifier) (keeps x) ∙ off x own) s.accounts
    where
      off : (x : Account) → is_account a.identifier x ≡ true → is_account identifier x ≡ false
      off x own =
          is_false (is_account identifier x) (λ passes. differs (sym (same_text x.identifier identifier passes) ∙ same_text x.identifier a.identifier own))

  pub becomes : later.drafts ≡ s.drafts → later.devices ≡ s.devices → OnlyBecomes s later number a (f a)
  becomes drafts devices = record {
    same = keeps a;
    was = at;
    is = is_at;
    others = others;
    was_named = was_named;
    is_named = is_named;
    others_named = others_named;
    counted = ap length accounts_are ∙ length-map s.accounts one;
    drafts = drafts;
    devices = devices;
  }

-- ---- an account by its number or its identifier is that one, or is as it was

module _ (s later : Ideal) (number : ℕ) (a now : Account) (o : OnlyBecomes s later number a now) where
  pub is_one_of : (other : ℕ) (b : Account) → account_at other later.accounts ≡ Some b
      → ((other ≡ number) × (now ≡ b)) ⊎ ((other ≢ number) × (account_at other s.accounts ≡ Some b))
  is_one_of other b at = by (apart_numbers other number)
    where
      by : (other ≡ number) ⊎ (other ≢ number) → ((other ≡ number) × (now ≡ b)) ⊎ ((other ≢ number) × (account_at other s.accounts ≡ Some b))
      by (inl own) =
          inl (own, one_there now b (account_at number later.accounts) o.is (subst (λ (k : ℕ). account_at k later.accounts ≡ Some b) own at))
      by (inr differs) = inr (differs, sym (o.others other differs) ∙ at)

  pub was_one_of : (other : ℕ) (b : Account) → account_at other s.accounts ≡ Some b
      → ((other ≡ number) × (a ≡ b)) ⊎ ((other ≢ number) × (account_at other later.accounts ≡ Some b))
  was_one_of other b at = by (apart_numbers other number)
    where
      by : (other ≡ number) ⊎ (other ≢ number) → ((other ≡ number) × (a ≡ b)) ⊎ ((other ≢ number) × (account_at other later.accounts ≡ Some b))
      by (inl own) =
          inl (own, one_there a b (account_at number s.accounts) o.was (subst (λ (k : ℕ). account_at k s.accounts ≡ Some b) own at))
      by (inr differs) = inr (differs, o.others other differs ∙ at)

  pub named_one_of : (identifier : Bytes) (b : Account) → account_named later identifier ≡ Some b
      → ((identifier ≡ a.identifier) × (now ≡ b)) ⊎ ((identifier ≢ a.identifier) × (account_named s identifier ≡ Some b))
  named_one_of identifier b named = by (apart_texts identifier a.identifier)
    where
      by : (identifier ≡ a.identifier) ⊎ (identifier ≢ a.identifier)
          → ((identifier ≡ a.identifier) × (now ≡ b)) ⊎ ((identifier ≢ a.identifier) × (account_named s identifier ≡ Some b))
      by (inl own) =
          inl
          (own, one_there now b (account_named later a.identifier) o.is_named (subst (λ (i : Bytes). account_named later i ≡ Some b) own named))
      by (inr differs) = inr (differs, sym (o.others_named identifier differs) ∙ named)

  -- what holds of each account held of each, where it held of that one
  pub each_before : (P : Account → Type 0) → (P now → P a) → Each P later.accounts → Each P s.accounts
  each_before P before each = each_got P s.accounts (λ n b got. by n b (was_one_of (suc n) b got))
    where
      by : (n : ℕ) (b : Account) → ((suc n ≡ number) × (a ≡ b)) ⊎ ((suc n ≢ number) × (account_at (suc n) later.accounts ≡ Some b)) → P b
      by n b (inl (own, is)) = subst P is (before (each_at P later.accounts number now each o.is))
      by n b (inr (differs, there)) = each_at P later.accounts (suc n) b each there

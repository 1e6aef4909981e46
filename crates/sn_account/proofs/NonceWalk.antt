-- Walks over accounts and generations to the first text that comes again.
use Rattle.std.proofs.Common.{◌≡◌, ◌∙◌, ℕ, List, [], Bool, true, false, Option, Some, None, IsTrue, ◌+◌, ◌<◌, ◌≤◌, ◌↔◌, ◌⊎◌, refl, sym, ap, subst, arith, ⊎_elim}
use Rattle.std.proofs.Math.Nat.{eq-or-lt_of_le}
use Rattle.std.specs.Prelude.{IsSome}
use Rattle.std.specs.BTreeMap.{BTreeMap, is_at}
use Rattle.std.specs.Cmp.Lexicographic.{slice_cmp}
use Rattle.std.specs.Map.{lookup}
use Rattle.std.specs.Ordering.{nat_cmp}
use denote.Ref.{Bor}
use Rattle.sn_rows.specs.Table.{Rows}
use Rattle.sn_rows.specs.declared.server_rows.AccountRow.{AccountRow}
use Rattle.sn_rows.specs.declared.server_rows.GenerationRow.{GenerationRow}
use Rattle.sn_account.specs.Lookups.{Bytes, HasAccount, HasGeneration, IsNamed}
use Rattle.sn_account.specs.Walks.{HasGenerations, HasText, IdentifiersDiffer}
use Rattle.sn_account.proofs.ApartLemmas.{AreMet, met_again, met_more, none_met}
use Rattle.sn_account.proofs.NamedLemmas.{one_account}

-- ---- identifiers

module _ (rows : Rows) (Has : Bytes → Type 0) where
  pub identifiers_first : ((t : Bytes) → ¬ (Has t)) → AreMet (λ (n : ℕ) (t : Bytes). IsNamed rows t n) 1 Has 1
  identifiers_first none = none_met (λ (n : ℕ) (t : Bytes). IsNamed rows t n) 1 Has none

  pub identifiers_more : (Now : Bytes → Type 0) (n : ℕ) (a : AccountRow) (text : Bytes) → 1 ≤ n → HasAccount rows n a → text ≡ a.identifier
      → AreMet (λ (n : ℕ) (t : Bytes). IsNamed rows t n) 1 Has n → ¬ (Has text) → ((t : Bytes) → Now t ↔ (Has t ⊎ (t ≡ text)))
      → AreMet (λ (n : ℕ) (t : Bytes). IsNamed rows t n) 1 Now (n + 1)
  identifiers_more Now n a text from has is s new added =
      met_more (λ (n : ℕ) (t : Bytes). IsNamed rows t n) 1 Has Now n text from (a, has, sym is)
      (λ t named. sym named.2 ∙ ap (λ (x : AccountRow). x.identifier) (one_account rows n named.0 a named.1 has) ∙ sym is)
      s new added

  pub identifiers_again : (n count : ℕ) (a : AccountRow) (text : Bytes) → 1 ≤ n → n ≤ count → HasAccount rows n a → text ≡ a.identifier
      → AreMet (λ (n : ℕ) (t : Bytes). IsNamed rows t n) 1 Has n → Has text → ¬ (IdentifiersDiffer rows count)
  identifiers_again n count a text from upto has is s met differ =
      met_again (λ (n : ℕ) (t : Bytes). IsNamed rows t n) 1 Has n count text s met (a, has, sym is) from upto
      (λ m k t low high low_too high_too first second. differ m k first.0 second.0 low high low_too high_too first.1 second.1 (first.2 ∙ sym second.2))

  pub identifiers_end : (count next : ℕ) → count < next → AreMet (λ (n : ℕ) (t : Bytes). IsNamed rows t n) 1 Has next → IdentifiersDiffer rows count
  identifiers_end count next past s n m a b low high low_too high_too has other equal =
      s.apart n m a.identifier low (omega (arith, high, past)) low_too (omega (arith, high_too, past)) (a, has, refl) (b, other, sym equal)

-- ---- nonces of an account's generations

abbrev pub HasNonce : Rows → ℕ → ℕ → Bytes → Type 0
HasNonce rows n g nonce = (r : GenerationRow) × HasGeneration rows n g r × (r.pw_nonce ≡ nonce)

-- the generations below this one are there, and their nonces differ
pub record InNonces (rows : Rows) (n : ℕ) (Has : Bytes → Type 0) (next : ℕ) : Type 0 where
  pub there : (g : ℕ) → 1 ≤ g → g < next → (r : GenerationRow) × HasGeneration rows n g r
  pub kept : AreMet (HasNonce rows n) 1 Has next

one_generation : (rows : Rows) (n g : ℕ) (r s : GenerationRow) → HasGeneration rows n g r → HasGeneration rows n g s → r ≡ s
one_generation rows n g r s has other = cc

module _ (rows : Rows) (n : ℕ) (Has : Bytes → Type 0) where
  pub nonces_first : ((t : Bytes) → ¬ (Has t)) → InNonces rows n Has 1
  nonces_first none = record { there = λ g from below. absurd (omega (arith, from, below)); kept = none_met (HasNonce rows n) 1 Has none }

  pub nonces_more : (Now : Bytes → Type 0) (g : ℕ) (r : GenerationRow) (text : Bytes) → 1 ≤ g → HasGeneration rows n g r → text ≡ r.pw_nonce
      → InNonces rows n Has g → ¬ (Has text) → ((t : Bytes) → Now t ↔ (Has t ⊎ (t ≡ text))) → InNonces rows n Now (g + 1)
  nonces_more Now g r text from has is s new added = record {
    there = λ h low below. ⊎_elim
        (λ (e : h ≡ g). subst (λ (k : ℕ). (x : GenerationRow) × HasGeneration rows n k x) (sym e) (r, has))
        (λ (lt : h < g). s.there h low lt)
        (eq-or-lt_of_le (omega (arith, below)));
    kept = met_more (HasNonce rows n) 1 Has Now g text from (r, has, sym is)
        (λ t named. sym named.2 ∙ ap (λ (x : GenerationRow). x.pw_nonce) (one_generation rows n g named.0 r named.1 has) ∙ sym is)
        s.kept new added;
  }

  pub nonces_again : (g count : ℕ) (r : GenerationRow) (text : Bytes) → 1 ≤ g → g ≤ count → HasGeneration rows n g r → text ≡ r.pw_nonce
      → InNonces rows n Has g → Has text → ¬ (HasGenerations rows n count)
  nonces_again g count r text from upto has is s met whole =
      met_again (HasNonce rows n) 1 Has g count text s.kept met (r, has, sym is) from upto
      (λ h k t low high low_too high_too first second.
      whole.differ h k first.0 second.0 low high low_too high_too first.1 second.1 (first.2 ∙ sym second.2))

  pub nonces_end : (count next : ℕ) → count < next → InNonces rows n Has next → HasGenerations rows n count
  nonces_end count next past s = record {
    there = λ g low high. s.there g low (omega (arith, high, past));
    differ = λ g h r x low high low_too high_too has other equal.
        s.kept.apart g h r.pw_nonce low (omega (arith, high, past)) low_too (omega (arith, high_too, past)) (r, has, refl) (x, other, sym equal);
  }

-- ---- what is met

pub no_texts : (map : BTreeMap (Bor (List ℕ)) (Unit {0})) → map.entries ≡ [] → (text : Bytes) → ¬ (HasText map text)
no_texts map empty text =
    subst (λ (es : List (Bor (List ℕ) × Unit {0})). ¬ (IsSome (lookup (is_at (λ (k : Bor (List ℕ)). slice_cmp nat_cmp text k.now)) es))) (sym empty)
    (λ some. cc)

pub is_met : {A : Type 0} (found : Option A) (b : Bool) → (IsTrue b ↔ ¬ (IsSome found)) → b ≡ false → IsSome found
is_met (Some a) b when missed = refl
is_met None b when missed = let holds : b ≡ true = when.1 (λ some. cc) in cc

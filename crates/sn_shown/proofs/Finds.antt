-- What is found or isn't, and what holds of one of a list.
use Rattle.std.proofs.Common.{◌≡◌, ◌⊎◌, List, [], ◌∷◌, ◌++◌, Option, Some, None, Result, Ok, Err, refl, subst, inl, inr, ⊎_elim}
use Rattle.std.specs.Prelude.{IsSome, OnOk}
use Rattle.sn_laws.specs.Each.{Each, One}
use Rattle.sn_laws.specs.Lookups.{Bytes, account_named, is_account}
use Rattle.sn_laws.specs.declared.ideal.Account.{Account}
use Rattle.sn_laws.specs.declared.ideal.Ideal.{Ideal}
use Rattle.sn_laws.proofs.Facts.{found_passes, same_text}

pub never : {A B : Type 0} (found : Option A) (x : A) → found ≡ Some x → found ≡ None → B
never found x e k = absurd (cc)

pub one_found : {A : Type 0} (found : Option A) (x y : A) → found ≡ Some x → found ≡ Some y → x ≡ y
one_found found x y e k = cc

pub some_is : {A : Type 0} (found : Option A) (x : A) → found ≡ Some x → IsSome found
some_is None x e = absurd (cc)
some_is (Some y) x e = refl

pub some_found : {A : Type 0} (found : Option A) → IsSome found → (x : A) × (found ≡ Some x)
some_found None some = absurd (cc)
some_found (Some y) some = (y, refl)

pub each_one : {A : Type 0} (P : A → Type 0) (xs : List A) (a : A) → Each P xs → One (λ (x : A). x ≡ a) xs → P a
each_one P [] a each one = absurd one
each_one {A = A} P (x ∷ xs) a each one = ⊎_elim (λ (e : x ≡ a). subst P e each.0) (λ rest. each_one P xs a each.1 rest) one

pub one_old_or_new : {A : Type 0} (P : A → Type 0) (xs : List A) (y : A) → One P (xs ++ y ∷ []) → One P xs ⊎ P y
one_old_or_new P [] y h = ⊎_elim (λ e. inr e) (λ e. absurd e) h
one_old_or_new P (x ∷ xs) y h =
    ⊎_elim (λ e. inl (inl e)) (λ e. ⊎_elim (λ f. inl (inr f)) (λ f. inr f) (one_old_or_new P xs y e)) h

pub account_identifier : (s : Ideal) (identifier : Bytes) (a : Account) → account_named s identifier ≡ Some a → a.identifier ≡ identifier
account_identifier s identifier a h = same_text a.identifier identifier (found_passes (is_account identifier) s.accounts a h).0

-- an answer that is no error
pub on_ok : {T E : Type 0} (result : Result T E) (P Q : Type 0) → (P → Q) → OnOk result P → OnOk result Q
on_ok (Ok x) P Q f h = f h
on_ok (Err e) P Q f h = tt

-- What moves leave of an account's sets and of those that a device holds; and a set that it holds no more was retired.
use Rattle.std.proofs.Common.{◌≡◌, ◌≤◌, ℕ, ◌+◌, List, [], ◌∷◌, ◌++◌, length, Option, Some, Bool, true, false, refl, sym, ap, ◌∙◌, subst, inl, inr, arith}
use Rattle.std.proofs.lemmas.List.{length-append}
use Rattle.std.specs.List.{list_any}
use Rattle.std.specs.Option.{option_map}
use Rattle.std.specs.Prelude.{◌==◌, cond, find, if◌then◌else◌, not}
use Rattle.std.specs.Str.{bytes_eq}
use Rattle.sn_finished.specs.Finished.{Retires}
use Rattle.sn_laws.proofs.Facts.{Stays, StaysDevice, account_stays, device_after, device_joined, device_stays, none_from, number_same, one_from, one_front, one_there, retired, same_number, same_text}
use Rattle.sn_laws.specs.Each.{Each, One}
use Rattle.sn_laws.specs.Lookups.{Bytes, account_named, device_named, is_account}
use Rattle.sn_laws.specs.Moves.{after, changed_where, without}
use Rattle.sn_laws.specs.Runs.{LegalFrom, end_from}
use Rattle.sn_laws.specs.declared.ideal.Account.{Account}
use Rattle.sn_laws.specs.declared.ideal.Device.{Device}
use Rattle.sn_laws.specs.declared.ideal.Ideal.{Ideal}
use Rattle.sn_laws.specs.declared.moves.Move.{Move}
use Rattle.sn_laws.specs.declared.moves.Move.TheVariants.{Join, Retire}
use Rattle.sn_shows.proofs.Facts.{find_changed, find_past_changed}

-- ---- what legal moves leave of an account and of a device

-- an account stays, and its sets too
pub grows_from : (ms : List Move) (s : Ideal) → LegalFrom s ms → (identifier : Bytes) (a : Account) → account_named s identifier ≡ Some a
    → (b : Account) × (account_named (end_from s ms) identifier ≡ Some b) × (length a.sets ≤ length b.sets)
grows_from [] s legal identifier a found = (a, found, omega arith)
grows_from (m ∷ ms) s legal identifier a found =
    let x : Stays a (account_named (after s m) identifier) = account_stays s m identifier a legal.0 found in
    let y = grows_from ms (after s m) legal.1 identifier x.now_is x.found_is in
    let longer : length x.now_is.sets ≡ length a.sets + length x.grown.sets = ap length x.grown.sets_are ∙ length-append a.sets x.grown.sets in
    let later : length x.now_is.sets ≤ length y.0.sets = y.2 in
    (y.0, y.1, omega arith)

-- a device stays, with its account
pub device_kept : (ms : List Move) (s : Ideal) (name : Bytes) (d : Device) → device_named s name ≡ Some d
    → (e : Device) × (device_named (end_from s ms) name ≡ Some e) × (e.account ≡ d.account)
device_kept [] s name d named = (d, named, refl)
device_kept (m ∷ ms) s name d named =
    let x : StaysDevice d (device_named (after s m) name) = device_stays s m name d named in
    let y = device_kept ms (after s m) name x.now_is x.found_is in
    (y.0, y.1, y.2 ∙ x.account)

-- another account is found past those of an identifier that are changed
pub beside : (accounts : List Account) (identifier other : Bytes) (f : Account → Account) → ((x : Account) → (f x).identifier ≡ x.identifier)
    → bytes_eq other identifier ≡ false → find (is_account identifier) (changed_where (is_account other) f accounts) ≡ find (is_account identifier) accounts
beside accounts identifier other f same off =
    find_past_changed (is_account identifier) (is_account other) f (λ x is. not_of x.identifier (same_text x.identifier other is))
    (λ x is. not_of (f x).identifier (same x ∙ same_text x.identifier other is)) accounts
  where
    not_of : (name : Bytes) → name ≡ other → bytes_eq name identifier ≡ false
    not_of name is = ap (λ (b : Bytes). bytes_eq b identifier) is ∙ off

-- and that of the identifier is changed
pub changed_there : (accounts : List Account) (identifier other : Bytes) (f : Account → Account) (a : Account)
    → ((x : Account) → is_account identifier (f x) ≡ is_account identifier x) → bytes_eq other identifier ≡ true
    → find (is_account identifier) accounts ≡ Some a → find (is_account identifier) (changed_where (is_account other) f accounts) ≡ Some (f a)
changed_there accounts identifier other f a same is found =
    subst (λ (b : Bytes). find (is_account identifier) (changed_where (is_account b) f accounts) ≡ Some (f a)) (sym (same_text other identifier is))
    (find_changed (is_account identifier) f same accounts a found)

-- ---- a set that is held no more

no_one : {A : Type 0} (P : A → Type 0) (xs : List A) → Each (λ x. ¬ (P x)) xs → ¬ (One P xs)
no_one P [] h one = one
no_one P (x ∷ xs) h (inl is) = h.0 is
no_one P (x ∷ xs) h (inr one) = no_one P xs h.1 one

pub one_back : {A : Type 0} (P : A → Type 0) (xs ys : List A) → One P ys → One P (xs ++ ys)
one_back P [] ys one = one
one_back P (x ∷ xs) ys one = inr (one_back P xs ys one)

module _ (name : Bytes) (k : ℕ) where
  abbrev IsHeld : List ℕ → Type 0
  IsHeld held = One (λ (j : ℕ). j ≡ k) held

  others_held : (number : ℕ) (held : List ℕ) → (k == number) ≡ false → IsHeld held → IsHeld (without (λ m. m == number) held)
  others_held number [] off holds = absurd holds
  others_held number (x ∷ held) off holds = at (others_held number held off) (x == number) refl holds
    where
      at : (IsHeld held → IsHeld (without (λ m. m == number) held)) → (b : Bool) → (x == number) ≡ b → IsHeld (x ∷ held)
          → IsHeld (cond (not b) (x ∷ without (λ m. m == number) held) (without (λ m. m == number) held))
      at rest true is (inl same) =
          let on : (k == number) ≡ true = ap (λ (i : ℕ). i == number) (sym same) ∙ is in
          absurd (cc)
      at rest true is (inr one) = rest one
      at rest false is (inl same) = inl same
      at rest false is (inr one) = inr (rest one)

  -- the move behind which the device doesn't hold it
  module _ (s : Ideal) (d : Device) (named : device_named s name ≡ Some d) (holds : IsHeld d.held) where
    by_retiring : (other : Bytes) (number : ℕ) (e : Device) → device_named (after s (Retire other number)) name ≡ Some e → ¬ (IsHeld e.held)
        → Retire other number ≡ Retire name k
    by_retiring other number e later gone = at (bytes_eq other name) refl (sym (device_after s (Retire other number) name) ∙ later)
      where
        of_number : (b : Bool) → (k == number) ≡ b → bytes_eq other name ≡ true → retired number d ≡ e → Retire other number ≡ Retire name k
        of_number true is on same =
            ap (λ (z : Bytes). Retire z number) (same_text other name on) ∙ ap (λ (i : ℕ). Retire name i) (sym (same_number k number is))
        of_number false off on same = absurd (gone (subst (λ (x : Device). IsHeld x.held) same (others_held number d.held off holds)))

        at : (b : Bool) → bytes_eq other name ≡ b
            → (if bytes_eq other name then option_map (retired number) (device_named s name) else device_named s name) ≡ Some e
            → Retire other number ≡ Retire name k
        at true on is =
            let there : Some (retired number d) ≡ Some e =
            sym (ap (option_map (retired number)) named)
            ∙ sym (ap (λ (b : Bool). if b then option_map (retired number) (device_named s name) else device_named s name) on) ∙ is in
            let same : retired number d ≡ e = cc in
            of_number (k == number) refl on same
        at false off is =
            let there : device_named s name ≡ Some e =
            sym (ap (λ (b : Bool). if b then option_map (retired number) (device_named s name) else device_named s name) off) ∙ is in
            let same : d ≡ e = one_there d e (device_named s name) named there in
            absurd (gone (subst (λ (x : Device). IsHeld x.held) same holds))

    by_joining : (other joined : Bytes) (number : ℕ) (e : Device) → device_named (after s (Join other joined number)) name ≡ Some e → IsHeld e.held
    by_joining other joined number e later = at (bytes_eq other name) refl (sym (device_after s (Join other joined number) name) ∙ later)
      where
        at : (b : Bool) → bytes_eq other name ≡ b
            → (if bytes_eq other name then Some (device_joined other joined number (device_named s other)) else device_named s name) ≡ Some e → IsHeld e.held
        at true on is =
            let it : device_named s other ≡ Some d = ap (device_named s) (same_text other name on) ∙ named in
            let there : Some (device_joined other joined number (Some d)) ≡ Some e =
            sym (ap (λ (found : Option Device). Some (device_joined other joined number found)) it)
            ∙ sym (ap (λ (b : Bool). if b then Some (device_joined other joined number (device_named s other)) else device_named s name) on) ∙ is in
            let same : device_joined other joined number (Some d) ≡ e = cc in
            subst (λ (x : Device). IsHeld x.held) same (one_front (λ (j : ℕ). j ≡ k) d.held (number ∷ []) holds)
        at false off is =
            let there : device_named s name ≡ Some e =
            sym (ap (λ (b : Bool). if b then Some (device_joined other joined number (device_named s other)) else device_named s name) off) ∙ is in
            let same : d ≡ e = one_there d e (device_named s name) named there in
            subst (λ (x : Device). IsHeld x.held) same holds

    retires_it : (m : Move) (e : Device) → device_named (after s m) name ≡ Some e → ¬ (IsHeld e.held) → m ≡ Retire name k
    retires_it (Retire other number) e later gone = by_retiring other number e later gone
    retires_it (Join other joined number) e later gone = absurd (gone (by_joining other joined number e later))
    retires_it m e later gone =
        let same : d ≡ e = one_there d e (device_named s name) named later in
        absurd (gone (subst (λ (x : Device). IsHeld x.held) same holds))

  pub retired_among : (ms : List Move) (s : Ideal) (d : Device) → device_named s name ≡ Some d → IsHeld d.held → (e : Device)
      → device_named (end_from s ms) name ≡ Some e → ¬ (IsHeld e.held) → Retires ms name k
  retired_among [] s d named holds e later gone =
      let same : d ≡ e = one_there d e (device_named s name) named later in
      absurd (gone (subst (λ (x : Device). IsHeld x.held) same holds))
  retired_among (m ∷ ms) s d named holds e later gone =
      by (λ one. retired_among ms (after s m) x.now_is x.found_is one e later gone) (list_any (λ j. j == k) x.now_is.held) refl
    where
      x : StaysDevice d (device_named (after s m) name)
      x = device_stays s m name d named

      by : (IsHeld x.now_is.held → Retires ms name k) → (b : Bool) → list_any (λ j. j == k) x.now_is.held ≡ b → Retires (m ∷ ms) name k
      by rest true is = inr (rest (one_from (λ j. j == k) (λ (j : ℕ). j ≡ k) (λ j e. same_number j k e) x.now_is.held is))
      by rest false off =
          inl (retires_it s d named holds m x.now_is x.found_is
          (no_one (λ (j : ℕ). j ≡ k) x.now_is.held (none_from (λ j. j == k) (λ (j : ℕ). j ≡ k) (λ j e. number_same j k e) x.now_is.held off)))

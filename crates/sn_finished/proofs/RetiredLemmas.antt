-- A set that a device has retired is carried by no last version any more.
use Rattle.std.proofs.Common.{◌≡◌, ◌<◌, ℕ, ◌+◌, List, [], ◌∷◌, ◌++◌, length, Option, Some, None, Bool, true, false, refl, sym, ap, ◌∙◌, subst, ⊎_elim, arith}
use Rattle.std.specs.Str.{bytes_eq}
use Rattle.std.proofs.lemmas.List.{length-append}
use Rattle.sn_finished.proofs.ListLemmas.{each_unit, split_at}
use Rattle.sn_finished.proofs.MarkedLemmas.{Keeps, Marked, marked_at, marked_own, marked_stays}
use Rattle.sn_finished.proofs.WalkLemmas.{walk}
use Rattle.sn_finished.specs.Finished.{CarriesNone, Retires}
use Rattle.sn_laws.proofs.Facts.{allowed_from, clash, identifiers_differ, last_other, last_own, legal_after, legal_before, more, more_sets, one_there, same_text, text_same}
use Rattle.sn_laws.specs.Each.{One}
use Rattle.sn_laws.specs.Lookups.{Bytes, account_for, account_of, device_named, empty, held_by, last_of}
use Rattle.sn_laws.specs.Reached.{DevicesHold, HoldsSets, IsOneOrTwo}
use Rattle.sn_laws.specs.Relation.{IsUnder, MayRetire}
use Rattle.sn_laws.specs.Runs.{Legal, end}
use Rattle.sn_laws.specs.declared.ideal.Account.{Account}
use Rattle.sn_laws.specs.declared.ideal.Device.{Device}
use Rattle.sn_laws.specs.declared.ideal.Version.{Version}
use Rattle.sn_laws.specs.declared.moves.Move.{Move}
use Rattle.sn_laws.specs.declared.moves.Move.TheVariants.{Retire}
use Rattle.sn_string.specs.declared.params.KeySet.{KeySet}

-- the set comes before the last one, and no last version carries it
abbrev pub Unused : ℕ → Account → Type 0
Unused number a = (number < length a.sets) × CarriesNone number a

abbrev Any : Move → Type 0
Any m = Unit {0}

unused_gained : (number : ℕ) (x : Account) (w : Version) → ((k : ℕ) → IsUnder k w.body → length x.sets ≡ k) → Unused number x → Unused number (more w x)
unused_gained number x w under h = (h.0, none)
  where
    none : CarriesNone number (more w x)
    none uuid v last e = at (bytes_eq w.uuid uuid) refl
      where
        at : (b : Bool) → bytes_eq w.uuid uuid ≡ b → ⊥
        at true is =
            let same : w ≡ v = one_there w v (last_of uuid (x.versions ++ w ∷ [])) (last_own uuid x.versions w (same_text w.uuid uuid is)) last in
            let carried : length x.sets ≡ number = under number (subst (λ (y : Version). IsUnder number y.body) (sym same) e) in
            let less : number < length x.sets = h.0 in
            omega (arith, carried, less)
        at false is =
            h.1 uuid v (sym (last_other uuid x.versions w (λ same. clash (bytes_eq w.uuid uuid) (text_same w.uuid uuid same) is)) ∙ last) e

unused_changed : (number : ℕ) (set : KeySet) (x : Account) → Unused number x → Unused number (more_sets set x)
unused_changed number set x h =
    let longer : length (x.sets ++ set ∷ []) ≡ length x.sets + 1 = length-append x.sets (set ∷ []) in
    let less : number < length x.sets = h.0 in
    (omega (arith, longer, less), h.1)

unused_keeps : (number : ℕ) (identifier : Bytes) → Keeps (Unused number) identifier Any
unused_keeps number identifier =
    record { gain = λ x w under h. unused_gained number x w under h; change = λ n set q x h. unused_changed number set x h }

-- ---- where it is retired

-- a set below one that is held comes before the last one
pub less_held : (n number : ℕ) (held : List ℕ) → IsOneOrTwo n held → One (λ m. number < m) held → number < n
less_held n number [] h less = absurd h
less_held n number (g ∷ []) h less = ⊎_elim (λ e. omega (arith, e, h.1)) (λ e. absurd e) less
less_held n number (o ∷ g ∷ []) h less =
    ⊎_elim (λ e. omega (arith, e, h.1, h.2)) (λ e. ⊎_elim (λ k. omega (arith, k, h.2)) (λ k. absurd k) e) less
less_held n number (o ∷ g ∷ m ∷ rest) h less = absurd h

-- what a device holds, by the account that it has
pub held_sets : DevicesHold → (ms : List Move) (device : Bytes) (a : Account) → Legal ms → account_of (end ms) device ≡ Some a
    → IsOneOrTwo (length a.sets) (held_by (device_named (end ms) device))
held_sets hold ms device a legal has = at (device_named (end ms) device) refl
  where
    at : (found : Option Device) → device_named (end ms) device ≡ found → IsOneOrTwo (length a.sets) (held_by found)
    at None e = absurd (none e)
      where
        none : device_named (end ms) device ≡ None → ⊥
        none k = let no : None ≡ Some a = sym (ap (account_for (end ms).accounts) k) ∙ has in cc
    at (Some d) e =
        let holds : HoldsSets (account_of (end ms) device) d = hold ms device d legal e in
        subst (λ (x : Account). IsOneOrTwo (length x.sets) d.held) (one_there holds.account a (account_of (end ms) device) holds.has has) holds.held

-- the move is allowed where it is made
pub retire_may : (before later : List Move) (device : Bytes) (number : ℕ) → Legal (before ++ Retire device number ∷ later) → MayRetire (end before) device number
retire_may before later device number legal =
    allowed_from (end before) (Retire device number) (legal_after empty before (Retire device number ∷ later) legal).0

unused_there : DevicesHold → (before later : List Move) (device : Bytes) (number : ℕ) → Legal (before ++ Retire device number ∷ later)
    → (identifier : Bytes) × Marked (Unused number) device identifier (end (before ++ Retire device number ∷ later))
unused_there hold before later device number legal =
    let first : Move = Retire device number in
    let legal_first : Legal before = legal_before empty before (first ∷ later) legal in
    let may : MayRetire (end before) device number = retire_may before later device number legal in
    let a : Account = may.account in
    let less : number < length a.sets =
    less_held (length a.sets) number (held_by (device_named (end before) device)) (held_sets hold before device a legal_first may.has) may.greater in (
      a.identifier,
      walk Any (Marked (Unused number) device a.identifier) (marked_stays (Unused number) device a.identifier Any (unused_keeps number a.identifier)) before
          (first ∷ later) (each_unit (first ∷ later)) legal
          (marked_at (Unused number) device (end before) a (identifiers_differ before legal_first) may.has (less, may.unused)),
    )

pub retired_unused : DevicesHold → (ms : List Move) (device : Bytes) (number : ℕ) (a : Account) → Legal ms → Retires ms device number
    → account_of (end ms) device ≡ Some a → Unused number a
retired_unused hold ms device number a legal retires has =
    let parts = split_at (Retire device number) ms retires in
    let found : (identifier : Bytes) × Marked (Unused number) device identifier (end ms) =
    subst (λ (whole : List Move). (identifier : Bytes) × Marked (Unused number) device identifier (end whole)) (sym parts.2)
    (unused_there hold parts.0 parts.1 device number (subst (λ (whole : List Move). Legal whole) parts.2 legal)) in
    subst (Unused number) (one_there found.1.account a (account_of (end ms) device) found.1.has has)
    (marked_own (Unused number) device found.0 (end ms) found.1)

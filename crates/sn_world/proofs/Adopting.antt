-- The moves by which a device adopts its account's last set: they are legal, and what they leave.
use Rattle.std.proofs.Common.{◌≡◌, ◌≢◌, ◌<◌, ◌≤◌, ℕ, ◌+◌, List, [], ◌∷◌, ◌++◌, length, Option, Some, Bool, true, false, refl, sym, ap, ◌∙◌, subst, inl, inr, ⊎_elim, arith}
use Rattle.std.proofs.lemmas.Bool.Decides.{nat_tests}
use Rattle.std.specs.Option.{option_map}
use Rattle.std.specs.Prelude.{◌==◌, IsTrue, if◌then◌else◌}
use Rattle.std.specs.Str.{bytes_eq}
use Rattle.sn_adopted.specs.Moves.{adopting}
use Rattle.sn_laws.proofs.Facts.{allowed_to, carries_two, device_after, device_joined, is_false, one_there, retired, same_text, text_same}
use Rattle.sn_laws.specs.Each.{Each, One}
use Rattle.sn_laws.specs.Lookups.{Bytes, account_named, device_named, greatest, held_by}
use Rattle.sn_laws.specs.Moves.{after, allows, without}
use Rattle.sn_laws.specs.Reached.{CarriesLastTwo, IsOneOrTwo}
use Rattle.sn_laws.specs.Relation.{HeldBefore}
use Rattle.sn_laws.specs.Runs.{LegalFrom, end_from}
use Rattle.sn_laws.specs.declared.ideal.Account.{Account}
use Rattle.sn_laws.specs.declared.ideal.Device.{Device}
use Rattle.sn_laws.specs.declared.ideal.Ideal.{Ideal}
use Rattle.sn_laws.specs.declared.moves.Move.{Move}
use Rattle.sn_laws.specs.declared.moves.Move.TheVariants.{Join, Retire}
use Rattle.sn_shows.proofs.Facts.{greatest_of_one, greatest_of_two}
use Rattle.sn_shows.specs.Laws.{HasAccount}
use Rattle.sn_world.proofs.DeviceSets.{account_is}
use Rattle.sn_world.proofs.ShowsLemmas.{each_at}
use Rattle.sn_world.proofs.Tokens.{named_at, named_identifier}
use Rattle.sn_world.specs.Holds.{Reached}

-- ---- a device with one set more, or one less

-- with its greatest set and the new one
abbrev pub adopted : ℕ → Device → Device
adopted number d = record d { held = greatest 0 d.held ∷ number ∷ [] }

other_name : (name other : Bytes) → other ≢ name → bytes_eq name other ≡ false
other_name name other apart = is_false (bytes_eq name other) (λ t. apart (sym (same_text name other t)))

joined_own : (s : Ideal) (name identifier : Bytes) (number : ℕ) (d : Device) → device_named s name ≡ Some d
    → device_named (after s (Join name identifier number)) name ≡ Some (record d { held = d.held ++ number ∷ [] })
joined_own s name identifier number d named =
    device_after s (Join name identifier number) name
    ∙ ap (λ (b : Bool). if b then Some (device_joined name identifier number (device_named s name)) else device_named s name) (text_same name name refl)
    ∙ ap (λ (found : Option Device). Some (device_joined name identifier number found)) named

joined_other : (s : Ideal) (name identifier : Bytes) (number : ℕ) (other : Bytes) → other ≢ name
    → device_named (after s (Join name identifier number)) other ≡ device_named s other
joined_other s name identifier number other apart =
    device_after s (Join name identifier number) other
    ∙ ap (λ (b : Bool). if b then Some (device_joined name identifier number (device_named s name)) else device_named s other) (other_name name other apart)

retired_own : (s : Ideal) (name : Bytes) (number : ℕ) (d : Device) → device_named s name ≡ Some d
    → device_named (after s (Retire name number)) name ≡ Some (retired number d)
retired_own s name number d named =
    device_after s (Retire name number) name
    ∙ ap (λ (b : Bool). if b then option_map (retired number) (device_named s name) else device_named s name) (text_same name name refl)
    ∙ ap (option_map (retired number)) named

retired_other : (s : Ideal) (name : Bytes) (number : ℕ) (other : Bytes) → other ≢ name
    → device_named (after s (Retire name number)) other ≡ device_named s other
retired_other s name number other apart =
    device_after s (Retire name number) other
    ∙ ap (λ (b : Bool). if b then option_map (retired number) (device_named s other) else device_named s other) (other_name name other apart)

present_left : (older present : ℕ) → older < present → without (λ m. m == older) (older ∷ present ∷ []) ≡ present ∷ []
present_left older present lt =
    let own : (older == older) ≡ true = grind (arith) in
    let apart : (present == older) ≡ false = grind (arith, nat_tests, lt) in
    rw (own, apart) refl

-- ---- where each is allowed

join_allowed : (s : Ideal) (name : Bytes) (d : Device) (a : Account) (old : ℕ) → device_named s name ≡ Some d → account_named s d.account ≡ Some a
    → d.held ≡ old ∷ [] → old < length a.sets → IsTrue (allows s (Join name a.identifier (length a.sets)))
join_allowed s name d a old named has alone lt =
    let own : a.identifier ≡ d.account = named_identifier s d.account a has in
    let one : length (old ∷ []) ≤ 1 = omega arith in
    let before : HeldBefore d a.identifier (length a.sets) =
    record {
      same = sym own;
      one = subst (λ (ns : List ℕ). length ns ≤ 1) (sym alone) one;
      below = subst (λ (ns : List ℕ). Each (λ (m : ℕ). m < length a.sets) ns) (sym alone) (lt, tt);
    } in
    allowed_to s (Join name a.identifier (length a.sets))
    (record {
      account = a;
      named = subst (λ (t : Bytes). account_named s t ≡ Some a) (sym own) has;
      last = refl;
      before = λ e at. subst (λ (x : Device). HeldBefore x a.identifier (length a.sets)) (one_there d e (device_named s name) named at) before;
    })

-- an account's live last versions carry its last set or the one before
two_last : (s : Ideal) → Reached s → (identifier : Bytes) (a : Account) → account_named s identifier ≡ Some a → CarriesLastTwo a
two_last s r identifier a named =
    let all : Each CarriesLastTwo s.accounts = subst (λ (t : Ideal). Each CarriesLastTwo t.accounts) (sym r.is) (carries_two r.moves r.legal) in
    let at = named_at s identifier a named in
    each_at CarriesLastTwo s.accounts at.0 a all at.1

-- so a set below another that is below the last is carried by none
retire_allowed : (s : Ideal) → Reached s → (name : Bytes) (d : Device) (a : Account) → HasAccount s name d a → (older present : ℕ)
    → d.held ≡ older ∷ present ∷ [] → older < present → present < length a.sets → IsTrue (allows s (Retire name older))
retire_allowed s r name d a has older present both lt above =
    allowed_to s (Retire name older)
    (record {
      account = a;
      has = account_is s name d a has;
      holds = subst (λ (found : Option Device). One (λ (m : ℕ). m ≡ older) (held_by found)) (sym has.device)
          (subst (λ (ns : List ℕ). One (λ (m : ℕ). m ≡ older) ns) (sym both) (inl refl));
      greater = subst (λ (found : Option Device). One (λ (m : ℕ). older < m) (held_by found)) (sym has.device)
          (subst (λ (ns : List ℕ). One (λ (m : ℕ). older < m) ns) (sym both) (inr (inl lt)));
      unused = λ uuid v last under.
          ⊎_elim (λ (e : older ≡ length a.sets). absurd (omega arith)) (λ (e : older + 1 ≡ length a.sets). absurd (omega arith))
          (two_last s r d.account a has.account uuid v older last under);
    })

-- ---- the moves of an adoption

-- accounts and drafts stay, and so does each other device
pub record IsAdopting (s mid : Ideal) (name : Bytes) (d : Device) (number : ℕ) : Type 0 where
  pub accounts : mid.accounts ≡ s.accounts
  pub drafts : mid.drafts ≡ s.drafts
  pub own : device_named mid name ≡ Some (adopted number d)
  pub others : (other : Bytes) → other ≢ name → device_named mid other ≡ device_named s other

module _ (s : Ideal) (r : Reached s) (name : Bytes) (d : Device) (a : Account) (has : HasAccount s name d a) (above : greatest 0 d.held < length a.sets) where
  abbrev number : ℕ
  number = length a.sets

  abbrev moves_of : List ℕ → List Move
  moves_of held = adopting name a.identifier number held

  from_one : (old : ℕ) → d.held ≡ old ∷ [] → LegalFrom s (moves_of (old ∷ [])) × IsAdopting s (end_from s (moves_of (old ∷ []))) name d number
  from_one old alone =
      let is : greatest 0 d.held ≡ old = ap (greatest 0) alone ∙ greatest_of_one old in (
        (join_allowed s name d a old has.device has.account alone (subst (λ (k : ℕ). k < number) is above), tt),
        record {
          accounts = refl;
          drafts = refl;
          own = joined_own s name a.identifier number d has.device
              ∙ ap (λ (ns : List ℕ). Some (record d { held = ns })) (ap (λ (ns : List ℕ). ns ++ number ∷ []) alone ∙ ap (λ (k : ℕ). k ∷ number ∷ []) (sym is));
          others = joined_other s name a.identifier number;
        },
      )

  from_two : (older old : ℕ) → d.held ≡ older ∷ old ∷ [] → older < old
      → LegalFrom s (moves_of (older ∷ old ∷ [])) × IsAdopting s (end_from s (moves_of (older ∷ old ∷ []))) name d number
  from_two older old both lt =
      let is : greatest 0 d.held ≡ old = ap (greatest 0) both ∙ greatest_of_two older old lt in
      let below : old < number = subst (λ (k : ℕ). k < number) is above in
      let left : (retired older d).held ≡ old ∷ [] = ap (without (λ m. m == older)) both ∙ present_left older old lt in
      let first : device_named (after s (Retire name older)) name ≡ Some (retired older d) = retired_own s name older d has.device in (
        (
          retire_allowed s r name d a has older old both lt below,
          (join_allowed (after s (Retire name older)) name (retired older d) a old first has.account left below, tt),
        ),
        record {
          accounts = refl;
          drafts = refl;
          own = joined_own (after s (Retire name older)) name a.identifier number (retired older d) first
              ∙ ap (λ (ns : List ℕ). Some (record d { held = ns })) (ap (λ (ns : List ℕ). ns ++ number ∷ []) left ∙ ap (λ (k : ℕ). k ∷ number ∷ []) (sym is));
          others = λ other apart. joined_other (after s (Retire name older)) name a.identifier number other apart ∙ retired_other s name older other apart;
        },
      )

  from_held : (held : List ℕ) → d.held ≡ held → IsOneOrTwo number held
      → LegalFrom s (moves_of held) × IsAdopting s (end_from s (moves_of held)) name d number
  from_held [] e are = absurd are
  from_held (old ∷ []) e are = from_one old e
  from_held (older ∷ old ∷ []) e are = from_two older old e are.1
  from_held (older ∷ old ∷ m ∷ more) e are = absurd are

  pub adopts_so : IsOneOrTwo number d.held → LegalFrom s (moves_of d.held) × IsAdopting s (end_from s (moves_of d.held)) name d number
  adopts_so are = from_held d.held refl are

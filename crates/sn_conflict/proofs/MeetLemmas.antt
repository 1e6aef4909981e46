-- A row and the server's version, as the code finds them.
use Rattle.std.proofs.Common.{arith, ◌≡◌, ◌∙◌, ap, sym, subst, refl, ℕ, ◌≤◌, ◌↔◌, inl, inr, List, Bool, true, false, Some, None, Result, Ok, Err, IfOk, IsTrue}
use Rattle.sn_conflict.specs.Meetings.{HasContent, HasContentOf, IsKnown, MeetsDraft, MeetsOther, OpenAlike, PostedHasContent, SameStrings}
use Rattle.sn_conflict.proofs.CheckLemmas.{names_once}
use Rattle.sn_items.specs.declared.sealed.Sealed.{Sealed}
use Rattle.sn_rows.specs.declared.body.RowBody.{RowBody}
use Rattle.sn_rows.specs.declared.body.RowBody.TheVariants as row
use Rattle.sn_rows.specs.declared.body.RowStrings.{RowStrings}
use Rattle.sn_rows.specs.declared.device_rows.LocalItem.{LocalItem}
use Rattle.sn_sets.specs.Sets.{OpensHeld, OpensNowhere, sealed_of}
use Rattle.sn_sets.specs.declared.sets.Sets.{Sets}
use Rattle.sn_sets.proofs.Facts.{one_held}
use Rattle.sn_sync.specs.Versions.{NamesStamp}
use Rattle.sn_sync.specs.declared.item.Body.{Body}
use Rattle.sn_sync.specs.declared.item.Body.TheVariants as body
use Rattle.sn_sync.specs.declared.item.Item.{Item}

-- a test that fails
pub not_holds : {A : Type 0} (b : Bool) → (IsTrue b ↔ A) → b ≡ false → ¬ A
not_holds b test is = λ a. (let e : b ≡ true = test.1 a in absurd (let f = sym is ∙ e in cc))

-- ---- one content

pub alike_first : (sets : Sets) (uuid : List ℕ) (sealed : Sealed) (other_uuid : List ℕ) (other : Sealed) → OpensNowhere sets uuid sealed
    → (IsTrue false ↔ OpenAlike sets uuid sealed other_uuid other)
alike_first sets uuid sealed other_uuid other none = (λ holds. absurd cc, λ h. absurd (none h.0 h.1))

pub opens_same : (sets : Sets) (uuid : List ℕ) (sealed : Sealed) (own text : List ℕ) (b : Bool) → OpensHeld sets uuid sealed own
    → (IsTrue b ↔ (own ≡ text)) → (IsTrue b ↔ OpensHeld sets uuid sealed text)
opens_same sets uuid sealed own text b opens test = (
  λ holds. subst (λ (t : List ℕ). OpensHeld sets uuid sealed t) (test.0 holds) opens,
  λ other. test.1 (one_held sets uuid sealed own text opens other),
)

pub opens_none : (sets : Sets) (uuid : List ℕ) (sealed : Sealed) (text : List ℕ) → OpensNowhere sets uuid sealed
    → (IsTrue false ↔ OpensHeld sets uuid sealed text)
opens_none sets uuid sealed text none = (λ holds. absurd cc, λ opens. absurd (none text opens))

pub alike_text : {E : Type 0} (sets : Sets) (uuid : List ℕ) (sealed : Sealed) (other_uuid : List ℕ) (other : Sealed) (text said : List ℕ)
    (outcome : Result Bool E) → OpensHeld sets uuid sealed text → said ≡ text
    → IfOk outcome (λ b. IsTrue b ↔ OpensHeld sets other_uuid other said) → IfOk outcome (λ b. IsTrue b ↔ OpenAlike sets uuid sealed other_uuid other)
alike_text sets uuid sealed other_uuid other text said (Ok b) opens is test = (
  λ holds. (text, opens, subst (λ (t : List ℕ). OpensHeld sets other_uuid other t) is (test.0 holds)),
  λ h.
      let same : h.0 ≡ said = one_held sets uuid sealed h.0 text h.1 opens ∙ sym is in
      test.1 (subst (λ (t : List ℕ). OpensHeld sets other_uuid other t) same h.2),
)
alike_text sets uuid sealed other_uuid other text said (Err e) opens is test = tt

abbrev as_sealed : List ℕ → List ℕ → Sealed
as_sealed content enc = record { content = content; enc = enc }

pub same_parts : (strings : RowStrings) (other : Sealed) → strings.content ≡ other.content → strings.enc ≡ other.enc → sealed_of strings ≡ other
same_parts strings other first second = ap (λ c. as_sealed c strings.enc) first ∙ ap (λ e. as_sealed other.content e) second

pub strings_equal : (sets : Sets) (uuid : List ℕ) (sealed : Sealed) (other_uuid : List ℕ) (other : Sealed) (b : Bool)
    → (IsTrue b ↔ (sealed ≡ other)) → b ≡ true → (IsTrue true ↔ SameStrings sets uuid sealed other_uuid other)
strings_equal sets uuid sealed other_uuid other b test is = (λ holds. inl (test.0 is), λ h. refl)

same_or : (sets : Sets) (uuid : List ℕ) (sealed : Sealed) (other_uuid : List ℕ) (other : Sealed) (b : Bool) → ¬ (sealed ≡ other)
    → (IsTrue b ↔ OpenAlike sets uuid sealed other_uuid other) → SameStrings sets uuid sealed other_uuid other → IsTrue b
same_or sets uuid sealed other_uuid other b differ test (inl same) = absurd (differ same)
same_or sets uuid sealed other_uuid other b differ test (inr alike) = test.1 alike

pub strings_alike : {E : Type 0} (sets : Sets) (uuid : List ℕ) (sealed : Sealed) (other_uuid : List ℕ) (other : Sealed) (outcome : Result Bool E)
    → ¬ (sealed ≡ other) → IfOk outcome (λ b. IsTrue b ↔ OpenAlike sets uuid sealed other_uuid other)
    → IfOk outcome (λ b. IsTrue b ↔ SameStrings sets uuid sealed other_uuid other)
strings_alike sets uuid sealed other_uuid other (Ok b) differ test =
    (λ holds. inr (test.0 holds), λ h. same_or sets uuid sealed other_uuid other b differ test h)
strings_alike sets uuid sealed other_uuid other (Err e) differ test = tt

-- ---- a body and the server's

deleted_of : (sets : Sets) (local : LocalItem) (i : Item) (theirs : Body) (b : Bool) → (IsTrue b ↔ (theirs ≡ body.Deleted))
    → (IsTrue b ↔ HasContentOf sets local row.Deleted i theirs)
deleted_of sets local i body.Deleted b test = (λ holds. tt, λ h. test.1 refl)
deleted_of sets local i (body.Strings content enc) b test = (λ holds. absurd (let e = test.0 holds in cc), λ h. absurd h)

pub deleted_has : (sets : Sets) (local : LocalItem) (version : RowBody) (i : Item) (b : Bool) → version ≡ row.Deleted
    → (IsTrue b ↔ (i.body ≡ body.Deleted)) → (IsTrue b ↔ HasContent sets local version i)
deleted_has sets local version i b is test =
    let P : RowBody → Type 0 = λ v. IsTrue b ↔ HasContentOf sets local v i i.body in
    subst P (sym is) (deleted_of sets local i i.body b test)

pub sealed_has : {E : Type 0} (sets : Sets) (local : LocalItem) (version : RowBody) (strings : RowStrings) (i : Item) (outcome : Result Bool E)
    → version ≡ row.Sealed strings → IfOk outcome (λ b. IsTrue b ↔ HasContent sets local (row.Sealed strings) i)
    → IfOk outcome (λ b. IsTrue b ↔ HasContent sets local version i)
sealed_has sets local version strings i outcome is test =
    let P : RowBody → Type 0 = λ v. IfOk outcome (λ b. IsTrue b ↔ HasContent sets local v i) in
    subst P (sym is) test

pub sealed_deleted : (sets : Sets) (local : LocalItem) (strings : RowStrings) (i : Item) → i.body ≡ body.Deleted
    → (IsTrue false ↔ HasContent sets local (row.Sealed strings) i)
sealed_deleted sets local strings i is =
    let P : Body → Type 0 = λ v. IsTrue false ↔ HasContentOf sets local (row.Sealed strings) i v in
    subst P (sym is) (λ holds. absurd cc, λ h. absurd h)

pub sealed_kind : (sets : Sets) (local : LocalItem) (strings : RowStrings) (i : Item) (content enc : List ℕ) → i.body ≡ body.Strings content enc
    → ¬ (local.kind ≡ i.kind) → (IsTrue false ↔ HasContent sets local (row.Sealed strings) i)
sealed_kind sets local strings i content enc is other =
    let P : Body → Type 0 = λ v. IsTrue false ↔ HasContentOf sets local (row.Sealed strings) i v in
    subst P (sym is) (λ holds. absurd cc, λ h. absurd (other h.0))

sealed_with : (sets : Sets) (local : LocalItem) (strings : RowStrings) (i : Item) (content enc : List ℕ) (other : Sealed) (b : Bool)
    → i.body ≡ body.Strings content enc → local.kind ≡ i.kind → other ≡ as_sealed content enc
    → (IsTrue b ↔ SameStrings sets local.uuid (sealed_of strings) i.uuid other) → (IsTrue b ↔ HasContent sets local (row.Sealed strings) i)
sealed_with sets local strings i content enc other b is kind made test =
    let P : Body → Type 0 = λ v. IsTrue b ↔ HasContentOf sets local (row.Sealed strings) i v in
    let Q : Sealed → Type 0 = λ s. IsTrue b ↔ SameStrings sets local.uuid (sealed_of strings) i.uuid s in
    let same = subst Q made test in
    subst P (sym is) (λ holds. (kind, same.0 holds), λ h. same.1 h.1)

pub sealed_same : {E : Type 0} (sets : Sets) (local : LocalItem) (strings : RowStrings) (i : Item) (content enc : List ℕ) (other : Sealed)
    (outcome : Result Bool E) → i.body ≡ body.Strings content enc → local.kind ≡ i.kind → other.content ≡ content → other.enc ≡ enc
    → IfOk outcome (λ b. IsTrue b ↔ SameStrings sets local.uuid (sealed_of strings) i.uuid other)
    → IfOk outcome (λ b. IsTrue b ↔ HasContent sets local (row.Sealed strings) i)
sealed_same sets local strings i content enc other (Ok b) is kind first second test =
    let made : other ≡ as_sealed content enc = ap (λ c. as_sealed c other.enc) first ∙ ap (λ e. as_sealed content e) second in
    sealed_with sets local strings i content enc other b is kind made test
sealed_same sets local strings i content enc other (Err e) is kind first second test = tt

-- ---- what was posted

pub posted_none : (sets : Sets) (local : LocalItem) (i : Item) → local.posted ≡ None → (IsTrue false ↔ PostedHasContent sets local i)
posted_none sets local i none = (λ holds. absurd cc, λ h. absurd (let e = sym none ∙ h.1 in cc))

pub posted_some : {E : Type 0} (sets : Sets) (local : LocalItem) (i : Item) (posted : RowBody) (outcome : Result Bool E) → local.posted ≡ Some posted
    → IfOk outcome (λ b. IsTrue b ↔ HasContent sets local posted i) → IfOk outcome (λ b. IsTrue b ↔ PostedHasContent sets local i)
posted_some sets local i posted (Ok b) is test = (
  λ holds. (posted, is, test.0 holds),
  λ h.
      let same : h.0 ≡ posted = cc in
      test.1 (subst (λ (v : RowBody). HasContent sets local v i) same h.2),
)
posted_some sets local i posted (Err e) is test = tt

-- ---- what is known

pub known_saved : (local : LocalItem) (i : Item) (saved : Bool) → saved ≡ true → (IsTrue false ↔ IsKnown local i saved)
known_saved local i saved is = (λ holds. absurd cc, λ h. absurd (let e = sym is ∙ h.retrieved in cc))

pub known_new : (local : LocalItem) (i : Item) (saved : Bool) → local.base ≡ None → (IsTrue false ↔ IsKnown local i saved)
known_new local i saved is = (λ holds. absurd cc, λ h. absurd (let e = sym is ∙ h.stands_on in cc))

pub known_unstamped : (local : LocalItem) (i : Item) (saved : Bool) → ((stamp : ℕ) → ¬ (NamesStamp i stamp)) → (IsTrue false ↔ IsKnown local i saved)
known_unstamped local i saved none = (λ holds. absurd cc, λ h. absurd (none h.stamp h.stamped))

pub known_decided : (local : LocalItem) (i : Item) (saved : Bool) (base stamp : ℕ) (b : Bool) → saved ≡ false → local.base ≡ Some base
    → NamesStamp i stamp → (IsTrue b ↔ (stamp ≤ base)) → (IsTrue b ↔ IsKnown local i saved)
known_decided local i saved base stamp b retrieved is stamped test = (
  λ holds. record { retrieved = retrieved; base = base; stands_on = is; stamp = stamp; stamped = stamped; old = test.0 holds },
  λ h.
      let one : h.base ≡ base = cc in
      let two = names_once i h.stamp stamp h.stamped stamped in
      let old = h.old in
      test.1 (omega arith),
)

-- ---- a draft that differs

pub meets_other : (sets : Sets) (local : LocalItem) (i : Item) (saved : Bool) (latest : RowBody) (own posted : Bool) → MeetsDraft local i saved latest
    → (IsTrue own ↔ HasContent sets local latest i) → own ≡ false → (IsTrue posted ↔ PostedHasContent sets local i) → posted ≡ false
    → MeetsOther sets local i saved latest
meets_other sets local i saved latest own posted meets first differs second differed =
    record { meets = meets; differs = not_holds own first differs; differed = not_holds posted second differed }

pub meets_as_other : (sets : Sets) (local : LocalItem) (i : Item) (saved : Bool) (latest version : RowBody) → latest ≡ version
    → MeetsOther sets local i saved latest → MeetsOther sets local i saved version
meets_as_other sets local i saved latest version is other = subst (λ (v : RowBody). MeetsOther sets local i saved v) is other

-- Strings of an item, as the code finds them.
use Rattle.std.proofs.Common.{arith, ◌≡◌, ◌∙◌, sym, subst, ℕ, ◌<◌, ◌≤◌, ◌↔◌, List, Bool, true, false, Result, Ok, Err, IfOk, IsTrue, length}
use Rattle.sn_conflict.specs.Checks.{AreStringsOf, IsStringOf}
use Rattle.sn_items.specs.Opens.{NamesItem}
use Rattle.sn_string.specs.Grammar.{Is003, Reading}
use Rattle.sn_string.specs.Uuids.{IsUuidText}
use Rattle.sn_string.specs.Bounds.{most_string}
use Rattle.sn_sync.specs.declared.item.Body.{Body}
use Rattle.sn_sync.specs.declared.item.Body.TheVariants as body

pub string_long : (uuid text : List ℕ) → most_string < length text → (IsTrue false ↔ IsStringOf uuid text)
string_long uuid text long = (λ holds. absurd cc, λ is. let short : length text ≤ most_string = is.0 in absurd (omega arith))

abbrev pub Names : List ℕ → List ℕ → Type 0
Names uuid text = (reading : Reading) × NamesItem text reading uuid

-- a text of a length within the bound is a string of the uuid where it names it
pub string_short : {E : Type 0} (uuid text : List ℕ) (named : Result Bool E) → length text ≤ most_string → IfOk named (λ b. IsTrue b ↔ Names uuid text)
    → IfOk named (λ b. IsTrue b ↔ IsStringOf uuid text)
string_short uuid text (Ok b) short test = (λ holds. (short, test.0 holds), λ is. test.1 is.1)
string_short uuid text (Err e) short test = tt

-- a string that names the uuid is the item's
pub named_item : {E : Type 0} (uuid text : List ℕ) (named : Result Bool E)
    → IfOk named (λ b. IsTrue b ↔ ((r : Reading) × Is003 text r × IsUuidText r.uuid uuid)) → IfOk named (λ b. IsTrue b ↔ Names uuid text)
named_item uuid text (Ok b) test = (
  λ holds. let own = test.0 holds in (own.0, record { reads = own.1; uuid_is = own.2 }),
  λ is. test.1 (is.0, is.1.reads, is.1.uuid_is),
)
named_item uuid text (Err e) test = tt

pub strings_not_first : (uuid : List ℕ) (b : Body) (content enc : List ℕ) (first : Bool) → b ≡ body.Strings content enc
    → (IsTrue first ↔ IsStringOf uuid content) → first ≡ false → (IsTrue false ↔ AreStringsOf uuid b)
strings_not_first uuid b content enc first is test not =
    let P : Body → Type 0 = λ c. IsTrue false ↔ AreStringsOf uuid c in
    subst P (sym is) (λ holds. absurd cc, λ own. sym not ∙ test.1 own.0)

pub strings_second : {E : Type 0} (uuid : List ℕ) (b : Body) (content enc : List ℕ) (first : Bool) (second : Result Bool E)
    → b ≡ body.Strings content enc → (IsTrue first ↔ IsStringOf uuid content) → first ≡ true
    → IfOk second (λ own. IsTrue own ↔ IsStringOf uuid enc) → IfOk second (λ own. IsTrue own ↔ AreStringsOf uuid b)
strings_second uuid b content enc first (Ok second) is test own other =
    let P : Body → Type 0 = λ c. IsTrue second ↔ AreStringsOf uuid c in
    subst P (sym is) (λ holds. (test.0 own, other.0 holds), λ both. other.1 both.1)
strings_second uuid b content enc first (Err e) is test own other = tt

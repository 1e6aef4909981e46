-- The checks of an answer, as the code finds them.
use Rattle.std.proofs.Common.{arith, ◌≡◌, ◌∙◌, sym, subst, refl, ℕ, ◌+◌, ◌<◌, ◌≤◌, ◌↔◌, ◌⊎◌, inl, inr, List, Bool, true, false, ◌-◌, length, take, leb, ltb, Option, Some, None, IfSome, IfNone, IsTrue}
use Rattle.std.proofs.lemmas.Bool.{cases_lt, le-leb, leb-true, lt-ltb, ltb-true}
use Rattle.std.proofs.lemmas.List.{get_or-take, length-take-le}
use Rattle.std.proofs.lemmas.Option.{get_or_from_slice_get, slice_get-get_or, slice_get_read}
use Rattle.std.specs.List.{slice_get}
use Rattle.sn_conflict.specs.Checks.{AreBelow, IsAbove, IsConflictOf, IsNew, IsRetrieved, MayConflict, Saves}
use Rattle.sn_conflict.specs.Lists.{AllRight}
use Rattle.sn_conflict.proofs.ListLemmas.{contains_at, place_of}
use Rattle.sn_sync.specs.Stamps.{IsStampText}
use Rattle.sn_sync.specs.Versions.{NamesStamp, item_of}
use Rattle.sn_sync.specs.declared.answer.Conflict.{Conflict}
use Rattle.sn_sync.specs.declared.answer.Conflict.TheVariants as conflict
use Rattle.sn_sync.specs.declared.item.Item.{Item}
use Rattle.sn_sync.proofs.Facts.{one_stamp}

-- an item names one stamp at most
pub names_once : (i : Item) (a b : ℕ) → NamesStamp i a → NamesStamp i b → a ≡ b
names_once i a b first second =
    let same : first.0 ≡ second.0 = cc in
    one_stamp second.0 a b (subst (λ (t : List ℕ). IsStampText t a) same first.1) second.1

front_get : (items : List Item) (n k : ℕ) (x : Item) → k < n → n ≤ length items → slice_get items k ≡ Some x → slice_get (take n items) k ≡ Some x
front_get items n k x less within at =
    let short : length (take n items) ≡ n = length-take-le n items within in
    let read = get_or_from_slice_get items k x x at in
    slice_get_read (take n items) (length (take n items)) k x refl (omega (arith, short)) (sym (get_or-take n items k x less ∙ read))

-- ---- rising stamps

below_at : (before : List Item) (n : ℕ) (last : Item) (stamp : ℕ) → AllRight IsRetrieved before → length before ≡ n + 1
    → slice_get before n ≡ Some last → ((other : ℕ) → NamesStamp last other → other < stamp)
    → (j : Item) (other k : ℕ) → slice_get before k ≡ Some j → k < length before → NamesStamp j other → (k < n) ⊎ (n ≤ k) → other < stamp
below_at before n last stamp right count at below j other k there within named (inl earlier) =
    let r = right n last (omega (arith, count)) at in
    let there' = front_get before n k j earlier (omega (arith, count)) there in
    let less : other < r.rises.stamp = r.rises.above j other (contains_at (take n before) k j there') named in
    let more : r.rises.stamp < stamp = below r.rises.stamp r.rises.stamped in
    omega arith
below_at before n last stamp right count at below j other k there within named (inr later) =
    let same : k ≡ n = omega (arith, count) in
    let item : j ≡ last = cc in
    below other (subst (λ (i : Item). NamesStamp i other) item named)

pub below_last : (before : List Item) (last : Item) (stamp : ℕ) → AllRight IsRetrieved before
    → Some last ≡ slice_get before (length before - 1) → ((other : ℕ) → NamesStamp last other → other < stamp) → AreBelow before stamp
below_last before last stamp right is below = λ j other h named.
    let n = length before - 1 in
    let some : 0 < length before = (let within = h.1 in omega arith) in
    let count : length before ≡ n + 1 = omega (arith, some) in
    below_at before n last stamp right count (sym is) below j other h.0 (place_of before j h) h.1 named (cases_lt h.0 n)

-- all stamps are below where the last one is
pub below_decided : (before : List Item) (last : Item) (stamp : ℕ) (b : Bool) → AllRight IsRetrieved before
    → Some last ≡ slice_get before (length before - 1) → (IsTrue b ↔ ((other : ℕ) → NamesStamp last other → other < stamp))
    → (IsTrue b ↔ AreBelow before stamp)
below_decided before last stamp b right is test = (
  λ holds. below_last before last stamp right is (test.0 holds),
  λ all. test.1 (λ other named. all last other (contains_at before (length before - 1) last (sym is)) named),
)

pub below_empty : (before : List Item) (stamp : ℕ) → None ≡ slice_get before (length before - 1) → (IsTrue true ↔ AreBelow before stamp)
below_empty before stamp is = (
  λ holds j other h named. absurd (
      let within = h.1 in
      let there = slice_get-get_or before (length before - 1) j (omega arith) in
      cc),
  λ all. refl,
)

pub above_of : (before : List Item) (i : Item) (stamp : ℕ) (b : Bool) → NamesStamp i stamp → (IsTrue b ↔ AreBelow before stamp)
    → (IsTrue b ↔ IsAbove before i)
above_of before i stamp b stamped test = (
  λ holds. record { stamp = stamp; stamped = stamped; above = test.0 holds },
  λ h. test.1 (subst (λ (s : ℕ). AreBelow before s) (names_once i h.stamp stamp h.stamped stamped) h.above),
)

pub above_unstamped : (before : List Item) (i : Item) → ((stamp : ℕ) → ¬ (NamesStamp i stamp)) → (IsTrue false ↔ IsAbove before i)
above_unstamped before i none = (λ holds. absurd cc, λ h. absurd (none h.stamp h.stamped))

-- ---- one stamp

pub less_decided : (i : Item) (other stamp : ℕ) → NamesStamp i other → (IsTrue (ltb other stamp) ↔ ((o : ℕ) → NamesStamp i o → o < stamp))
less_decided i other stamp first = (
  λ holds o named.
      let same = names_once i o other named first in
      let less = ltb-true other stamp holds in
      omega arith,
  λ all. lt-ltb other stamp (all other first),
)

pub less_unstamped : (i : Item) (stamp : ℕ) → ((s : ℕ) → ¬ (NamesStamp i s)) → (IsTrue true ↔ ((o : ℕ) → NamesStamp i o → o < stamp))
less_unstamped i stamp none = (λ holds o named. absurd (none o named), λ all. refl)

pub most_decided : (i : Item) (other stamp : ℕ) → NamesStamp i other → (IsTrue (leb other stamp) ↔ ((o : ℕ) → NamesStamp i o → o ≤ stamp))
most_decided i other stamp first = (
  λ holds o named.
      let same = names_once i o other named first in
      let less = leb-true other stamp holds in
      omega arith,
  λ all. le-leb other stamp (all other first),
)

pub most_unstamped : (i : Item) (stamp : ℕ) → ((s : ℕ) → ¬ (NamesStamp i s)) → (IsTrue true ↔ ((o : ℕ) → NamesStamp i o → o ≤ stamp))
most_unstamped i stamp none = (λ holds o named. absurd (none o named), λ all. refl)

pub stamp_some : (i : Item) (text : List ℕ) (r : Option ℕ) → i.updated_at ≡ Some text → IfSome r (IsStampText text) → IfSome r (NamesStamp i)
stamp_some i text (Some stamp) is spelled = (text, spelled, is)
stamp_some i text None is spelled = tt

pub stamp_once : (i : Item) (r : Option ℕ) → IfSome r (NamesStamp i) → IfSome r (λ stamp. (other : ℕ) → NamesStamp i other → other ≡ stamp)
stamp_once i (Some stamp) named = λ other h. names_once i other stamp h named
stamp_once i None named = tt

pub stamp_none : (i : Item) (text : List ℕ) (r : Option ℕ) → i.updated_at ≡ Some text → IfNone r ((stamp : ℕ) → ¬ (IsStampText text stamp))
    → IfNone r ((stamp : ℕ) → ¬ (NamesStamp i stamp))
stamp_none i text (Some stamp) is none = tt
stamp_none i text None is none = λ stamp h.
    let same : h.0 ≡ text = (let e = h.2 in cc) in
    none stamp (subst (λ (t : List ℕ). IsStampText t stamp) same h.1)

pub no_stamp : (i : Item) → i.updated_at ≡ None → (stamp : ℕ) → ¬ (NamesStamp i stamp)
no_stamp i is stamp = λ h. absurd (let e = h.2 in cc)

pub new_stamped : (i : Item) (stamp : ℕ) → NamesStamp i stamp → (IsTrue false ↔ IsNew i)
new_stamped i stamp named = (λ holds. absurd cc, λ new. absurd (new stamp named))

pub new_unstamped : (i : Item) → ((stamp : ℕ) → ¬ (NamesStamp i stamp)) → (IsTrue true ↔ IsNew i)
new_unstamped i none = (λ holds. none, λ new. refl)

-- ---- what was sent

pub saves_decided : (posted i : Item) (stamp : ℕ) (b : Bool) → posted.uuid ≡ i.uuid → i.body ≡ posted.body → NamesStamp i stamp
    → (IsTrue b ↔ ((o : ℕ) → NamesStamp posted o → o ≤ stamp)) → (IsTrue b ↔ Saves posted i)
saves_decided posted i stamp b uuid same stamped test = (
  λ holds. record { is_of = uuid; body = same; stamp = stamp; stamped = stamped; later = test.0 holds },
  λ h. test.1 (λ o named.
      let one = names_once i h.stamp stamp h.stamped stamped in
      let most = h.later o named in
      omega arith),
)

pub saves_unstamped : (posted i : Item) → ((stamp : ℕ) → ¬ (NamesStamp i stamp)) → (IsTrue false ↔ Saves posted i)
saves_unstamped posted i none = (λ holds. absurd cc, λ h. absurd (none h.stamp h.stamped))

pub saves_not : (posted i : Item) → ¬ ((posted.uuid ≡ i.uuid) × (i.body ≡ posted.body)) → (IsTrue false ↔ Saves posted i)
saves_not posted i differ = (λ holds. absurd cc, λ h. absurd (differ (h.is_of, h.body)))

pub conflict_of_uuid : (posted : Item) (c : Conflict) (unsaved : Item) (b : Bool) → c ≡ conflict.Uuid unsaved → posted.uuid ≡ (item_of c).uuid
    → (IsTrue b ↔ IsNew posted) → (IsTrue b ↔ IsConflictOf posted c)
conflict_of_uuid posted c unsaved b is same test =
    let P : Conflict → Type 0 = λ d. MayConflict d posted in (
      λ holds. record { is_of = same; may = subst P (sym is) (test.0 holds) },
      λ h. test.1 (subst P is h.may),
    )

-- ---- what is found or not

pub found_some : {T : Type 0} (P : T → Type 0) (o : Option T) (x : T) → o ≡ Some x → IfSome o P → P x
found_some {T} P o x is h = let Q : Option T → Type 0 = λ v. IfSome v P in subst Q is h

pub found_none : {T : Type 0} (P : Type 0) (o : Option T) → o ≡ None → IfNone o P → P
found_none {T} P o is h = let Q : Option T → Type 0 = λ v. IfNone v P in subst Q is h

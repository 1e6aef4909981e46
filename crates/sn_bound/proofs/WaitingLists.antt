-- Lists of items that wait: by their numbers there is one such list, and its parts.
use Rattle.std.proofs.Common.{◌≡◌, ◌⊎◌, ◌<◌, ℕ, List, [], ◌∷◌, ◌++◌, map, refl, sym, ap, ◌∙◌, subst, inl, inr, ⊎_elim, arith}
use Rattle.std.specs.List.{AllZip, Contains}
use Rattle.std.specs.List.Sorted.{IsStrictlyIncreasing}
use Rattle.std.proofs.lemmas.List.Elements.{Contains-append_right}
use Rattle.std.proofs.lemmas.Map.Keys.{IsStrictlyIncreasing-from_sorted}
use Rattle.sn_bound.proofs.AllSaved.{IsAsSent}
use Rattle.sn_device.specs.Sending.{AreSentAs, AreWaiting, Numbered}
use Rattle.sn_rows.specs.Table.{Rows}
use Rattle.sn_sync.specs.Versions.{uuids}
use Rattle.sn_sync.specs.declared.item.Item.{Item}
use Rattle.sn_world.proofs.AnswerLists.{Rises, above_head, at_head, behind_head, head_or_behind, none_of, rises_behind, rises_so}

-- ---- lists that rise

head_same : {A : Type 0} (number : A → ℕ) (x y : A) (xs ys : List A) → Rises number (x ∷ xs) → Rises number (y ∷ ys) → Contains (y ∷ ys) x
    → Contains (x ∷ xs) y → y ≡ x
head_same number x y xs ys rises other there back = by (head_or_behind y ys x there) (head_or_behind x xs y back)
  where
    by : (y ≡ x) ⊎ Contains ys x → (x ≡ y) ⊎ Contains xs y → y ≡ x
    by (inl same) any = same
    by (inr behind) (inl same) = sym same
    by (inr behind) (inr behind_too) =
        let above : number y < number x = above_head number y ys x other behind in
        let below : number x < number y = above_head number x xs y rises behind_too in
        absurd (omega arith)

tail_in : {A : Type 0} (number : A → ℕ) (x y : A) (xs ys : List A) → Rises number (x ∷ xs) → y ≡ x → ((z : A) → Contains (x ∷ xs) z → Contains (y ∷ ys) z)
    → (z : A) → Contains xs z → Contains ys z
tail_in number x y xs ys rises same to z has = by (head_or_behind y ys z (to z (behind_head x xs z has)))
  where
    by : (y ≡ z) ⊎ Contains ys z → Contains ys z
    by (inr behind) = behind
    by (inl is) =
        let above : number x < number z = above_head number x xs z rises has in
        let number_is : number x ≡ number z = ap number (sym same ∙ is) in
        absurd (omega arith)

-- of the same elements there is one
pub same_rising : {A : Type 0} (number : A → ℕ) (xs ys : List A) → Rises number xs → Rises number ys → ((z : A) → Contains xs z → Contains ys z)
    → ((z : A) → Contains ys z → Contains xs z) → xs ≡ ys
same_rising number [] [] rises other to back = refl
same_rising number [] (y ∷ ys) rises other to back = absurd (none_of y (back y (at_head y ys)))
same_rising number (x ∷ xs) [] rises other to back = absurd (none_of x (to x (at_head x xs)))
same_rising {A} number (x ∷ xs) (y ∷ ys) rises other to back =
    let same : y ≡ x = head_same number x y xs ys rises other (to x (at_head x xs)) (back y (at_head y ys)) in
    let rest : xs ≡ ys =
    same_rising number xs ys (rises_behind number x xs rises) (rises_behind number y ys other) (tail_in number x y xs ys rises same to)
    (tail_in number y x ys xs other (sym same) back) in
    ap (λ (z : A). z ∷ xs) (sym same) ∙ ap (λ (zs : List A). y ∷ zs) rest

rises_later : {A : Type 0} (number : A → ℕ) (front later : List A) → Rises number (front ++ later) → Rises number later
rises_later number [] later rises = rises
rises_later number (x ∷ front) later rises = rises_later number front later (rises_behind number x (front ++ later) rises)

below_later : {A : Type 0} (number : A → ℕ) (front later : List A) (w z : A) → Rises number (front ++ later) → Contains front w → Contains later z
    → number w < number z
below_later number [] later w z rises has behind = absurd (none_of w has)
below_later {A} number (x ∷ front) later w z rises has behind =
    ⊎_elim
    (λ (same : x ≡ w). subst (λ (y : A). number y < number z) same
    (above_head number x (front ++ later) z rises (Contains-append_right front later z behind)))
    (λ among. below_later number front later w z (rises_behind number x (front ++ later) rises) among behind) (head_or_behind x front w has)

-- ---- those that wait

abbrev pub number_of : Numbered → ℕ
number_of w = w.0

-- there is one such list
pub one_waiting : (rows : Rows) (waiting others : List Numbered) → AreWaiting rows waiting → AreWaiting rows others → waiting ≡ others
one_waiting rows waiting others x y =
    same_rising number_of waiting others (rises_so number_of waiting x.rising) (rises_so number_of others y.rising)
    (λ w has. (y.whole w.0 w.1).1 ((x.whole w.0 w.1).0 has)) (λ w has. (x.whole w.0 w.1).1 ((y.whole w.0 w.1).0 has))

pub later_rising : (front later : List Numbered) → IsStrictlyIncreasing (map number_of (front ++ later)) → IsStrictlyIncreasing (map number_of later)
later_rising front later rising =
    IsStrictlyIncreasing-from_sorted (map number_of later) (rises_later number_of front later (rises_so number_of (front ++ later) rising))

-- those in front have lower numbers
pub front_lower : (front later : List Numbered) (w z : Numbered) → IsStrictlyIncreasing (map number_of (front ++ later)) → Contains front w
    → Contains later z → w.0 < z.0
front_lower front later w z rising has behind = below_later number_of front later w z (rises_so number_of (front ++ later) rising) has behind

-- what is saved of them has their uuids
pub uuids_saved : (chosen : List Numbered) (items saved : List Item) → AreSentAs chosen items → AllZip IsAsSent items saved
    → map (λ (w : Numbered). w.1.uuid) chosen ≡ uuids saved
uuids_saved [] [] [] sent as_sent = refl
uuids_saved [] [] (j ∷ saved) sent as_sent = absurd as_sent
uuids_saved [] (i ∷ items) saved sent as_sent = absurd sent
uuids_saved (w ∷ chosen) [] saved sent as_sent = absurd sent
uuids_saved (w ∷ chosen) (i ∷ items) [] sent as_sent = absurd as_sent
uuids_saved (w ∷ chosen) (i ∷ items) (j ∷ saved) sent as_sent =
    ap (λ (u : List ℕ). u ∷ map (λ (w : Numbered). w.1.uuid) chosen) (sym sent.0.uuid_is ∙ sym as_sent.0.0)
    ∙ ap (λ (us : List (List ℕ)). j.uuid ∷ us) (uuids_saved chosen items saved sent.1 as_sent.1)

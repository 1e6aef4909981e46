-- Lists of values that grow at their end, and their tokens.
use Rattle.std.proofs.Common.{◌≡◌, ◌∙◌, sym, ap, subst, refl, ℕ, ◌+◌, ◌<◌, ◌≤◌, List, [], ◌∷◌, ◌++◌, length, get_or, take, append_assoc, append-nil}
use Rattle.std.proofs.lemmas.List.{take_all, take_more}
use Rattle.json.specs.Token.{Token}
use Rattle.json.specs.Tree.{items_tokens, json_tokens}
use Rattle.json.specs.Written.{Written}
use Rattle.serde_json.specs.Data.{Data, Items, item, no_items}
use Rattle.serde_json.specs.Written.{items_outline, outline}
use Rattle.sn_sync.specs.Appended.{Appends, AppendsValue}
use Rattle.sn_sync.specs.Written.{AreConflictsData, AreItemsData, IsConflictData, IsItemData}
use Rattle.sn_sync.specs.declared.answer.Conflict.{Conflict}
use Rattle.sn_sync.specs.declared.item.Item.{Item}
use Rattle.sn_sync.proofs.Appending.{◌>>◌}

-- ---- the values

abbrev pub pushed : Items → Data → Items
pushed no_items d = item d no_items
pushed (item e ds) d = item e (pushed ds d)

AreItemsData-push : (is : List Item) (ds : Items) (i : Item) (d : Data) → AreItemsData is ds → IsItemData i d
    → AreItemsData (is ++ i ∷ []) (pushed ds d)
AreItemsData-push [] no_items i d h one = (one, tt)
AreItemsData-push [] (item e es) i d h one = absurd h
AreItemsData-push (j ∷ js) no_items i d h one = absurd h
AreItemsData-push (j ∷ js) (item e es) i d h one = (h.0, AreItemsData-push js es i d h.1 one)

AreConflictsData-push : (cs : List Conflict) (ds : Items) (c : Conflict) (d : Data) → AreConflictsData cs ds → IsConflictData c d
    → AreConflictsData (cs ++ c ∷ []) (pushed ds d)
AreConflictsData-push [] no_items c d h one = (one, tt)
AreConflictsData-push [] (item e es) c d h one = absurd h
AreConflictsData-push (b ∷ bs) no_items c d h one = absurd h
AreConflictsData-push (b ∷ bs) (item e es) c d h one = (h.0, AreConflictsData-push bs es c d h.1 one)

-- one more than the first n
more : {X : Type 0} (xs : List X) (n : ℕ) (x : X) → n < length xs → x ≡ get_or xs n x → take (n + 1) xs ≡ take n xs ++ x ∷ []
more xs n x within at = take_more xs n x within ∙ ap (λ y. take n xs ++ y ∷ []) (sym at)

pub AreItemsData-next : (is : List Item) (n : ℕ) (i : Item) (ds : Items) (d : Data) → n < length is → i ≡ get_or is n i
    → AreItemsData (take n is) ds → IsItemData i d → AreItemsData (take (n + 1) is) (pushed ds d)
AreItemsData-next is n i ds d within at h one =
    let P : List Item → Type 0 = λ js. AreItemsData js (pushed ds d) in
    subst P (sym (more is n i within at)) (AreItemsData-push (take n is) ds i d h one)

pub AreConflictsData-next : (cs : List Conflict) (n : ℕ) (c : Conflict) (ds : Items) (d : Data) → n < length cs → c ≡ get_or cs n c
    → AreConflictsData (take n cs) ds → IsConflictData c d → AreConflictsData (take (n + 1) cs) (pushed ds d)
AreConflictsData-next cs n c ds d within at h one =
    let P : List Conflict → Type 0 = λ bs. AreConflictsData bs (pushed ds d) in
    subst P (sym (more cs n c within at)) (AreConflictsData-push (take n cs) ds c d h one)

pub AreItemsData-all : (is : List Item) (n : ℕ) (ds : Items) → length is ≤ n → AreItemsData (take n is) ds → AreItemsData is ds
AreItemsData-all is n ds past h =
    let P : List Item → Type 0 = λ js. AreItemsData js ds in
    subst P (take_all n is past) h

pub AreConflictsData-all : (cs : List Conflict) (n : ℕ) (ds : Items) → length cs ≤ n → AreConflictsData (take n cs) ds → AreConflictsData cs ds
AreConflictsData-all cs n ds past h =
    let P : List Conflict → Type 0 = λ bs. AreConflictsData bs ds in
    subst P (take_all n cs past) h

-- ---- their tokens

-- without the bracket that closes the list
abbrev pub open_tokens : Items → List Token
open_tokens no_items = []
open_tokens (item d ds) = json_tokens (outline d) ++ open_tokens ds

open_tokens-pushed : (ds : Items) (d : Data) → open_tokens (pushed ds d) ≡ open_tokens ds ++ json_tokens (outline d)
open_tokens-pushed no_items d = append-nil (json_tokens (outline d))
open_tokens-pushed (item e es) d =
    let one : List Token = json_tokens (outline e) in
    ap (λ ts. one ++ ts) (open_tokens-pushed es d) ∙ sym (append_assoc one (open_tokens es) (json_tokens (outline d)))

open_tokens-closed : (ds : Items) → open_tokens ds ++ Token.end_array ∷ [] ≡ items_tokens (items_outline ds)
open_tokens-closed no_items = refl
open_tokens-closed (item d ds) =
    let one : List Token = json_tokens (outline d) in
    append_assoc one (open_tokens ds) (Token.end_array ∷ []) ∙ ap (λ ts. one ++ ts) (open_tokens-closed ds)

pub Appends-pushed : {a b c : Written} (ds : Items) (d : Data) → Appends a b (open_tokens ds) → AppendsValue b c d
    → Appends a c (open_tokens (pushed ds d))
Appends-pushed {a} {b} {c} ds d h one =
    let P : List Token → Type 0 = λ ts. Appends a c ts in
    subst P (sym (open_tokens-pushed ds d)) (h >> one)

pub Appends-closed : {a b c : Written} (ds : Items) → Appends a b (open_tokens ds) → Appends b c (Token.end_array ∷ [])
    → Appends a c (items_tokens (items_outline ds))
Appends-closed {a} {b} {c} ds h last =
    let P : List Token → Type 0 = λ ts. Appends a c ts in
    subst P (open_tokens-closed ds) (h >> last)

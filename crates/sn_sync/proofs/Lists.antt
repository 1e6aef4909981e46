-- The values of a list, one after the other.
use Rattle.std.proofs.Common.{◌≡◌, sym, subst, inr, List, [], ◌∷◌, ◌++◌, append_assoc}
use Rattle.std.proofs.lemmas.List.{append-nil}
use Rattle.serde_json.specs.Data.{Data, Items, item, no_items}
use Rattle.sn_sync.specs.Answers.{AreConflicts, IsConflict, RefusesConflicts}
use Rattle.sn_sync.specs.Items.{AreItems, IsItem, RefusesItems, Standing}
use Rattle.sn_sync.specs.Members.{Bytes}
use Rattle.sn_sync.specs.declared.answer.Conflict.{Conflict}
use Rattle.sn_sync.specs.declared.error.SyncError.{SyncError}
use Rattle.sn_sync.specs.declared.item.Item.{Item}

-- what the values that are left turn out to be is, behind what is done, what the whole list is
abbrev pub GoesOn : {T : Type 0} → (Items → List T → Type 0) → Items → Items → List T → Type 0
GoesOn {T = T} are left whole done = (xs : List T) → are left xs → are whole (done ++ xs)

-- how the values that are left are refused is how the whole list is
abbrev pub Refuses : (Items → SyncError → Type 0) → Items → Items → Type 0
Refuses refuses left whole = (e : SyncError) → refuses left e → refuses whole e

pub all_there : {T : Type 0} (are : Items → List T → Type 0) (left whole : Items) (done : List T) → are no_items [] → left ≡ no_items → GoesOn are left whole done → are whole done
all_there are left whole done none over goes = subst (are whole) (append-nil done) (goes [] (subst (λ ds. are ds []) (sym over) none))

one_more : {T : Type 0} (are : Items → List T → Type 0) (left rest whole : Items) (d : Data) (done : List T) (x : T) → left ≡ item d rest
    → ((xs : List T) → are rest xs → are (item d rest) (x ∷ xs)) → GoesOn are left whole done → GoesOn are rest whole (done ++ x ∷ [])
one_more are left rest whole d done x is put goes xs h =
    subst (are whole) (sym (append_assoc done (x ∷ []) xs)) (goes (x ∷ xs) (subst (λ ds. are ds (x ∷ xs)) (sym is) (put xs h)))

-- ---- items

-- one more value, which is an item
pub AreItems-more : (s : Standing) (left rest whole : Items) (d : Data) (done : List Item) (i : Item) → left ≡ item d rest
    → GoesOn (AreItems s) left whole done → IsItem s d i → GoesOn (AreItems s) rest whole (done ++ i ∷ [])
AreItems-more s left rest whole d done i is goes right = one_more (AreItems s) left rest whole d done i is (λ xs h. (right, h)) goes

pub RefusesItems-more : (s : Standing) (outer : Bytes) (left rest whole : Items) (d : Data) (i : Item) → left ≡ item d rest
    → Refuses (RefusesItems s outer) left whole → IsItem s d i → Refuses (RefusesItems s outer) rest whole
RefusesItems-more s outer left rest whole d i is goes right e wrong = goes e (subst (λ ds. RefusesItems s outer ds e) (sym is) (inr ((i, right), wrong)))

-- ---- conflicts

-- one more value, which is a conflict
pub AreConflicts-more : (left rest whole : Items) (d : Data) (done : List Conflict) (i : Conflict) → left ≡ item d rest
    → GoesOn AreConflicts left whole done → IsConflict d i → GoesOn AreConflicts rest whole (done ++ i ∷ [])
AreConflicts-more left rest whole d done i is goes right = one_more AreConflicts left rest whole d done i is (λ xs h. (right, h)) goes

pub RefusesConflicts-more : (left rest whole : Items) (d : Data) (i : Conflict) → left ≡ item d rest
    → Refuses RefusesConflicts left whole → IsConflict d i → Refuses RefusesConflicts rest whole
RefusesConflicts-more left rest whole d i is goes right e wrong = goes e (subst (λ ds. RefusesConflicts ds e) (sym is) (inr ((i, right), wrong)))

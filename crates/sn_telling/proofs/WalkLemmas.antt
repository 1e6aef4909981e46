-- One more batch of a walk: what is said of those so far, and then of those that follow, is said of all.
use Rattle.std.proofs.Common.{◌≡◌, ◌++◌, List, [], ◌∷◌, sym, ap, ◌∙◌, subst, append_assoc, append-nil}
use Rattle.sn_laws.specs.declared.moves.Move.{Move}
use Rattle.sn_rows.specs.Table.{Rows, rows_after}
use Rattle.sn_rows.specs.declared.change.Change.{Change}
use Rattle.sn_telling.specs.Walking.{rows_behind_all}

-- the rows behind one more
pub rows_more : (rows now next : Rows) (before : List (List Change)) (batch : List Change) → now ≡ rows_behind_all rows before → next ≡ rows_after now batch
    → next ≡ rows_behind_all rows (before ++ batch ∷ [])
rows_more rows now next [] batch now_is next_is = next_is ∙ ap (λ (r : Rows). rows_after r batch) now_is
rows_more rows now next (first ∷ before) batch now_is next_is = rows_more (rows_after rows first) now next before batch now_is next_is

-- what batches say, over the rows that go on with them
abbrev pub SaysAll : (Rows → List (List Change) → List Move → Type 0) → Rows → List (List Change) → Rows → List Move → Type 0
SaysAll Says rows before now moves = (left : List (List Change)) (later : List Move) → Says now left later → Says rows (before ++ left) (moves ++ later)

pub says_more : (One : Rows → List Change → List Move → Type 0) (Says : Rows → List (List Change) → List Move → Type 0)
    → ((rows : Rows) (batch : List Change) (batches : List (List Change)) (first later : List Move) → One rows batch first
    → Says (rows_after rows batch) batches later → Says rows (batch ∷ batches) (first ++ later))
    → (start : Rows) (before : List (List Change)) (rows now : Rows) (batch : List Change) (moves said new : List Move) → One rows batch said
    → new ≡ moves ++ said → now ≡ rows_after rows batch → SaysAll Says start before rows moves → SaysAll Says start (before ++ batch ∷ []) now new
says_more One Says turn start before rows now batch moves said new says new_is now_is so_far left later others =
    let here : Says rows (batch ∷ left) (said ++ later) =
    turn rows batch left said later says (subst (λ (r : Rows). Says r left later) now_is others) in
    subst (λ (bs : List (List Change)). Says start bs (new ++ later)) (sym (append_assoc before (batch ∷ []) left))
    (subst (Says start (before ++ batch ∷ left)) (sym (append_assoc moves said later) ∙ ap (λ (m : List Move). m ++ later) (sym new_is))
    (so_far (batch ∷ left) (said ++ later) here))

pub says_end : (Says : Rows → List (List Change) → List Move → Type 0) → ((rows : Rows) → Says rows [] [])
    → (start : Rows) (batches before : List (List Change)) (rows : Rows) (moves : List Move) → before ≡ batches → SaysAll Says start before rows moves
    → Says start batches moves
says_end Says nothing start batches before rows moves whole so_far =
    subst (λ (bs : List (List Change)). Says start bs moves) (append-nil before ∙ whole)
    (subst (Says start (before ++ [])) (append-nil moves) (so_far [] [] (nothing rows)))

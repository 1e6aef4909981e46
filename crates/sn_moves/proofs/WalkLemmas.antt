-- One more change of a batch.
use Rattle.std.proofs.Common.{◌≡◌, ◌<◌, ◌+◌, ℕ, suc, List, [], ◌∷◌, ◌++◌, Option, sym, ap, ◌∙◌, add-one, append_assoc, drop, get_or, length, take}
use Rattle.std.proofs.Math.Seq.{drop-cons}
use Rattle.std.proofs.lemmas.List.{take_more}
use Rattle.std.specs.Option.{option_to_list}
use mathlib.Core.Path.{fun_ext}
use Rattle.sn_laws.specs.Lookups.{Bytes}
use Rattle.sn_laws.specs.declared.moves.Move.{Move}
use Rattle.sn_rows.specs.Facts.{row_after-append}
use Rattle.sn_rows.specs.Table.{Rows, changed, row_after, rows_after}
use Rattle.sn_rows.specs.declared.change.Change.{Change}
use Rattle.sn_rows.specs.declared.key.Key.{Key}
use Rattle.sn_moves.specs.Drafts.{answered, copy_made, item_found, item_left, item_move}

-- a row behind one more change
pub row_more : (rows : Rows) (changes : List Change) (i : ℕ) (d : Change) (key : Key) → i < length changes
    → rows_after rows (take (i + 1) changes) key ≡ changed (rows_after rows (take i changes) key) key (get_or changes i d)
row_more rows changes i d key within =
    ap (row_after (rows key) key) (take_more changes i d within) ∙ row_after-append (rows key) key (take i changes) (get_or changes i d ∷ [])

rows_more : (rows : Rows) (changes : List Change) (i : ℕ) (d : Change) → i < length changes
    → rows_after (rows_after rows (take i changes)) (get_or changes i d ∷ []) ≡ rows_after rows (take (i + 1) changes)
rows_more rows changes i d within = fun_ext (λ key. sym (row_more rows changes i d key within))

-- what the changes from this one on say
pub answered_more : (name : Bytes) (foreign : List Bytes) (copy : Option Bytes) (rows : Rows) (changes : List Change) (i : ℕ) (d : Change) → i < length changes
    → answered name foreign copy (rows_after rows (take i changes)) (drop i changes)
    ≡ option_to_list (item_move name foreign copy (item_found (rows_after rows (take i changes)) (get_or changes i d)) (item_left (get_or changes i d)))
    ++ answered name foreign (copy_made (item_found (rows_after rows (take i changes)) (get_or changes i d)) (item_left (get_or changes i d)))
    (rows_after rows (take (i + 1) changes)) (drop (i + 1) changes)
answered_more name foreign copy rows changes i d within =
    let at : Rows = rows_after rows (take i changes) in
    let c : Change = get_or changes i d in
    ap (answered name foreign copy at) (drop-cons changes i d within)
    ∙ ap (λ (r : Rows). option_to_list (item_move name foreign copy (item_found at c) (item_left c))
    ++ answered name foreign (copy_made (item_found at c) (item_left c)) r (drop (suc i) changes)) (rows_more rows changes i d within)
    ∙ ap (λ (n : ℕ). option_to_list (item_move name foreign copy (item_found at c) (item_left c))
    ++ answered name foreign (copy_made (item_found at c) (item_left c)) (rows_after rows (take (i + 1) changes)) (drop n changes)) (sym (add-one i))

-- what one change adds to the moves of those before it, and the copy that it makes, leave the moves of all as they are
pub walk_more : (name : Bytes) (foreign : List Bytes) (copy next : Option Bytes) (rows : Rows) (changes : List Change) (i : ℕ) (change : Change)
    (moves new all : List Move) → i < length changes → change ≡ get_or changes i change
    → new ≡ moves ++ option_to_list (item_move name foreign copy (item_found (rows_after rows (take i changes)) change) (item_left change))
    → next ≡ copy_made (item_found (rows_after rows (take i changes)) change) (item_left change)
    → moves ++ answered name foreign copy (rows_after rows (take i changes)) (drop i changes) ≡ all
    → new ++ answered name foreign next (rows_after rows (take (i + 1) changes)) (drop (i + 1) changes) ≡ all
walk_more name foreign copy next rows changes i change moves new all within change_is new_is next_is so_far =
    let before : Rows = rows_after rows (take i changes) in
    let tail : Option Bytes → List Move = λ n. answered name foreign n (rows_after rows (take (i + 1) changes)) (drop (i + 1) changes) in
    let said : Change → List Move = λ d. option_to_list (item_move name foreign copy (item_found before d) (item_left d)) in
    ap (λ (m : List Move). m ++ tail next) new_is
    ∙ append_assoc moves (said change) (tail next)
    ∙ ap (λ (n : Option Bytes). moves ++ (said change ++ tail n)) next_is
    ∙ ap (λ (d : Change). moves ++ (said d ++ tail (copy_made (item_found before d) (item_left d)))) change_is
    ∙ ap (λ (m : List Move). moves ++ m) (sym (answered_more name foreign copy rows changes i change within))
    ∙ so_far

-- Batches and the rows that they leave, on both ends.
use Rattle.std.proofs.Common.{◌≡◌, ℕ, List, [], ◌∷◌, ◌++◌, Option, None, Some, refl, sym, ap, ◌∙◌, subst, inl, inr, append-nil, append_assoc}
use Rattle.std.proofs.Math.Path.{fun_ext}
use Rattle.sn_client.specs.Calls.{kept_done}
use Rattle.sn_device.specs.Runs.{Act, asked, commits, rows_done}
use Rattle.sn_events.specs.Laws.{commits_of}
use Rattle.sn_io.specs.Causes.{next_count}
use Rattle.sn_laws.specs.Lookups.{Bytes}
use Rattle.sn_link.specs.Deliveries.{Delivers, Standing, failed, serves}
use Rattle.sn_link.specs.Links.{AreAsked, Befalls}
use Rattle.sn_link.specs.Losses.{lost_at}
use Rattle.sn_link.specs.declared.losses.Losses.{Losses}
use Rattle.sn_link.specs.declared.losses.Lost.{Lost}
use Rattle.sn_link.specs.declared.losses.Lost.TheVariants as lose
use Rattle.sn_net.specs.Exchanges.{Exchange}
use Rattle.sn_rows.specs.Facts.{batch_follows}
use Rattle.sn_rows.specs.Table.{Rows, rows_after, rows_of_batches}
use Rattle.sn_rows.specs.declared.change.Change.{Change}
use Rattle.sn_server.specs.Steps.{Step, after_all}
use Rattle.sn_server.specs.Stores.{Kept as ServerKept, after}
use Rattle.sn_table.specs.Kept.{Kept, kept_of, with_batch}

-- one batch more
pub rows_more : (batches : List (List Change)) (changes : List Change) → rows_of_batches (batches ++ changes ∷ []) ≡ rows_after (rows_of_batches batches) changes
rows_more batches changes = fun_ext (batch_follows batches changes)

-- ---- a device

abbrev pub batches_done : List (List Change) → List Act → List (List Change)
batches_done batches [] = batches
batches_done batches (commits what changes ∷ acts) = batches_done (batches ++ changes ∷ []) acts
batches_done batches (asked r reply ∷ acts) = batches_done batches acts

abbrev with_rows : List (List Change) → Rows → Kept
with_rows batches rows = record { rows = rows; batches = batches }

more_of : (batches : List (List Change)) (changes : List Change) → with_batch (kept_of batches) changes ≡ kept_of (batches ++ changes ∷ [])
more_of batches changes = ap (with_rows (batches ++ changes ∷ [])) (sym (rows_more batches changes))

-- those of before, and those of the acts' commits behind them
pub done_are : (batches : List (List Change)) (acts : List Act) → batches_done batches acts ≡ batches ++ commits_of acts
done_are batches [] = sym (append-nil batches)
done_are batches (commits what changes ∷ acts) = done_are (batches ++ changes ∷ []) acts ∙ append_assoc batches (changes ∷ []) (commits_of acts)
done_are batches (asked r reply ∷ acts) = done_are batches acts

pub kept_are : (batches : List (List Change)) (acts : List Act) → kept_done (kept_of batches) acts ≡ kept_of (batches_done batches acts)
kept_are batches [] = refl
kept_are batches (commits what changes ∷ acts) =
    ap (λ (k : Kept). kept_done k acts) (more_of batches changes) ∙ kept_are (batches ++ changes ∷ []) acts
kept_are batches (asked r reply ∷ acts) = kept_are batches acts

pub rows_are_done : (batches : List (List Change)) (acts : List Act) → rows_of_batches (batches_done batches acts) ≡ rows_done (rows_of_batches batches) acts
rows_are_done batches [] = refl
rows_are_done batches (commits what changes ∷ acts) =
    rows_are_done (batches ++ changes ∷ []) acts ∙ ap (λ (rows : Rows). rows_done rows acts) (rows_more batches changes)
rows_are_done batches (asked r reply ∷ acts) = rows_are_done batches acts

-- ---- a server

-- its rows are those that its batches leave
abbrev pub IsWhole : ServerKept → Type 0
IsWhole kept = kept.rows ≡ rows_of_batches kept.batches

pub whole_after : (kept : ServerKept) (made : List Change) → IsWhole kept → IsWhole (after kept made)
whole_after kept [] whole = whole ∙ ap rows_of_batches (sym (append-nil kept.batches))
whole_after kept (change ∷ made) whole =
    ap (λ (rows : Rows). rows_after rows (change ∷ made)) whole ∙ sym (rows_more kept.batches (change ∷ made))

whole_all : (kept : ServerKept) (steps : List Step) → IsWhole kept → IsWhole (after_all kept steps)
whole_all kept [] whole = whole
whole_all kept (step ∷ steps) whole = whole_all (after kept step.made) steps (whole_after kept step.made whole)

whole_same : (kept next : ServerKept) → next ≡ kept → IsWhole kept → IsWhole next
whole_same kept next same whole = subst IsWhole (sym same) whole

whole_delivered : (now : ℕ) (kept : ServerKept) (bytes : Bytes) (given : Option Bytes) (next : ServerKept) → Delivers now kept bytes given (serves next) → IsWhole kept → IsWhole next
whole_delivered now kept bytes (Some given) next (inl replied) whole = whole_same (after kept replied.step.made) next replied.next_is (whole_after kept replied.step.made whole)
whole_delivered now kept bytes (Some given) next (inr (same, checked)) whole = whole_same kept next same whole
whole_delivered now kept bytes None next (steps, rest, served, same) whole = whole_same (after_all kept steps) next same (whole_all kept steps whole)

same_serves : (kept next : ServerKept) → serves next ≡ serves kept → next ≡ kept
same_serves kept next is = cc

pub whole_befalls : (what : Lost) (now : ℕ) (kept : ServerKept) (x : Exchange) (next : ServerKept) → Befalls what now (serves kept) x (serves next) → IsWhole kept → IsWhole next
whole_befalls lose.Nothing now kept x next (given, delivers, arrives) whole = whole_delivered now kept x.request given next delivers whole
whole_befalls lose.Request now kept x next (same, none) whole = whole_same kept next (same_serves kept next same) whole
whole_befalls lose.Reply now kept x next (given, delivers, none) whole = whole_delivered now kept x.request given next delivers whole

-- a disk that has failed stays so
failed_one : (what : Lost) (now : ℕ) (had : ServerKept) (made : List Change) (x : Exchange) (next : Standing) → Befalls what now (failed had made) x next → next ≡ failed had made
failed_one lose.Nothing now had made x next befalls = befalls.0
failed_one lose.Request now had made x next befalls = befalls.0
failed_one lose.Reply now had made x next befalls = befalls.0

pub failed_stays : (losses : Losses) (now number : ℕ) (had : ServerKept) (made : List Change) (xs : List Exchange) (last : ℕ) (next : Standing)
    → AreAsked losses now number (failed had made) xs last next → next ≡ failed had made
failed_stays losses now number had made [] last next are = are.1
failed_stays losses now number had made (x ∷ xs) last next (mid, befalls, rest) =
    let same = failed_one (lost_at losses number) now had made x mid befalls in
    failed_stays losses now (next_count number) had made xs last next (subst (λ (s : Standing). AreAsked losses now (next_count number) s xs last next) same rest)

pub never_serves : (had next : ServerKept) (made : List Change) → serves next ≡ failed had made → ⊥
never_serves had next made is = absurd (let impossible : ⊥ = cc in impossible)

goes_whole : (losses : Losses) (now number : ℕ) (kept : ServerKept) (x : Exchange) (xs : List Exchange) (last : ℕ) (next : ServerKept) (mid : Standing)
    → ((k : ServerKept) → AreAsked losses now (next_count number) (serves k) xs last (serves next) → IsWhole k → IsWhole next)
    → Befalls (lost_at losses number) now (serves kept) x mid → AreAsked losses now (next_count number) mid xs last (serves next) → IsWhole kept → IsWhole next
goes_whole losses now number kept x xs last next (serves k) on befalls rest whole = on k rest (whole_befalls (lost_at losses number) now kept x k befalls whole)
goes_whole losses now number kept x xs last next (failed had made) on befalls rest whole =
    absurd (never_serves had next made (failed_stays losses now (next_count number) had made xs last (serves next) rest))

pub whole_asked : (losses : Losses) (now number : ℕ) (kept : ServerKept) (xs : List Exchange) (last : ℕ) (next : ServerKept)
    → AreAsked losses now number (serves kept) xs last (serves next) → IsWhole kept → IsWhole next
whole_asked losses now number kept [] last next are whole = whole_same kept next (same_serves kept next are.1) whole
whole_asked losses now number kept (x ∷ xs) last next (mid, befalls, rest) whole =
    goes_whole losses now number kept x xs last next mid (λ k. whole_asked losses now (next_count number) k xs last next) befalls rest whole

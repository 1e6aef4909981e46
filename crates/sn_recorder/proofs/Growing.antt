-- The batches that a server's store gains by what is delivered.
use Rattle.std.specs.Prelude.{◌≡◌, ◌++◌, ℕ, List, [], ◌∷◌, Option, Some, None}
use Rattle.std.proofs.Common.{inl, inr, refl, sym, ◌∙◌, ap, append-nil, append_assoc}
use Rattle.sn_link.specs.Deliveries.{Delivers, failed, serves}
use Rattle.sn_link.specs.Links.{Befalls}
use Rattle.sn_link.specs.declared.losses.Lost.{Lost}
use Rattle.sn_link.specs.declared.losses.Lost.TheVariants.{Nothing, Reply, Request}
use Rattle.sn_net.specs.Exchanges.{Exchange}
use Rattle.sn_rows.specs.declared.change.Change.{Change}
use Rattle.sn_server.specs.Steps.{Step, after_all}
use Rattle.sn_server.specs.Stores.{Kept, after, batch_of}

-- it has its batches, and these behind them
abbrev pub Adds : Kept → Kept → Type 0
Adds kept next = (later : List (List Change)) × (next.batches ≡ kept.batches ++ later)

none_added : (kept next : Kept) → next ≡ kept → Adds kept next
none_added kept next same = ([], ap (λ (k : Kept). k.batches) same ∙ sym (append-nil kept.batches))

steps_add : (kept : Kept) (steps : List Step) → Adds kept (after_all kept steps)
steps_add kept [] = none_added kept kept refl
steps_add kept (step ∷ steps) =
    let (later, is) = steps_add (after kept step.made) steps in
    (batch_of step.made ++ later, is ∙ append_assoc kept.batches (batch_of step.made) later)

all_added : (kept next : Kept) (steps : List Step) → next ≡ after_all kept steps → Adds kept next
all_added kept next steps is =
    let (later, are) = steps_add kept steps in
    (later, ap (λ (k : Kept). k.batches) is ∙ are)

delivers_adds : (now : ℕ) (kept next : Kept) (bytes : List ℕ) (given : Option (List ℕ)) → Delivers now kept bytes given (serves next) → Adds kept next
delivers_adds now kept next bytes (Some given) (inl replied) = (batch_of replied.step.made, ap (λ (k : Kept). k.batches) replied.next_is)
delivers_adds now kept next bytes (Some given) (inr (same, checked)) = none_added kept next same
delivers_adds now kept next bytes None (steps, rest, served, is) = all_added kept next steps is

pub same_serves : (kept next : Kept) → serves next ≡ serves kept → next ≡ kept
same_serves kept next is = cc

pub befalls_adds : (lost : Lost) (now : ℕ) (kept next : Kept) (x : Exchange) → Befalls lost now (serves kept) x (serves next) → Adds kept next
befalls_adds Nothing now kept next x (given, delivers, arrives) = delivers_adds now kept next x.request given delivers
befalls_adds Request now kept next x (same, none) = none_added kept next (same_serves kept next same)
befalls_adds Reply now kept next x (given, delivers, none) = delivers_adds now kept next x.request given delivers

-- a disk that has failed serves no more
pub never_serves : (lost : Lost) (now : ℕ) (had next : Kept) (made : List Change) (x : Exchange) → Befalls lost now (failed had made) x (serves next) → ⊥
never_serves Nothing now had next made x (is, none) = let impossible : ⊥ = cc in impossible
never_serves Request now had next made x (is, none) = let impossible : ⊥ = cc in impossible
never_serves Reply now had next made x (is, none) = let impossible : ⊥ = cc in impossible

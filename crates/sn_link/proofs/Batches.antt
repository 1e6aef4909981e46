-- A server's batches leave its rows, also behind what is delivered.
use Rattle.std.specs.Prelude.{◌≡◌, ◌++◌, ℕ, List, [], ◌∷◌, Option, Some, None}
use Rattle.std.proofs.Common.{inl, inr, sym, ◌∙◌, ap, subst, append-nil}
use Rattle.sn_io.specs.Causes.{next_count}
use Rattle.sn_net.specs.Exchanges.{Exchange}
use Rattle.sn_rows.specs.Facts.{batch_follows}
use Rattle.sn_rows.specs.Table.{rows_after, rows_of_batches}
use Rattle.sn_rows.specs.declared.change.Change.{Change}
use Rattle.sn_server.specs.Steps.{Step, after_all}
use Rattle.sn_server.specs.Stores.{Kept, after, batch_of}
use Rattle.sn_link.specs.Deliveries.{Agrees, AgreesIn, Delivers, Standing, failed, serves}
use Rattle.sn_link.specs.Links.{AreAsked, Befalls}
use Rattle.sn_link.specs.Losses.{lost_at}
use Rattle.sn_link.specs.declared.losses.Losses.{Losses}
use Rattle.sn_link.specs.declared.losses.Lost.{Lost}
use Rattle.sn_link.specs.declared.losses.Lost.TheVariants.{Nothing, Request, Reply}

one_batch : (batches : List (List Change)) (made : List Change) → rows_of_batches (batches ++ made ∷ []) ≡ rows_after (rows_of_batches batches) made
one_batch batches made = λ i. λ at. batch_follows batches made at i

as_batch : (batches : List (List Change)) (made : List Change) → rows_of_batches (batches ++ batch_of made) ≡ rows_after (rows_of_batches batches) made
as_batch batches [] = ap rows_of_batches (append-nil batches)
as_batch batches (change ∷ made) = one_batch batches (change ∷ made)

agrees_after : (kept : Kept) (made : List Change) → Agrees kept → Agrees (after kept made)
agrees_after kept made agrees = ap (λ rows. rows_after rows made) agrees ∙ sym (as_batch kept.batches made)

agrees_all : (kept : Kept) (steps : List Step) → Agrees kept → Agrees (after_all kept steps)
agrees_all kept [] agrees = agrees
agrees_all kept (step ∷ steps) agrees = agrees_all (after kept step.made) steps (agrees_after kept step.made agrees)

agrees_delivers : (now : ℕ) (kept : Kept) (bytes : List ℕ) (given : Option (List ℕ)) (next : Standing) → Delivers now kept bytes given next → Agrees kept → AgreesIn next
agrees_delivers now kept bytes (Some given) (serves next) (inl x) agrees = subst Agrees (sym x.next_is) (agrees_after kept x.step.made agrees)
agrees_delivers now kept bytes (Some given) (serves next) (inr (same, checked)) agrees = subst Agrees (sym same) agrees
agrees_delivers now kept bytes (Some given) (failed had made) none agrees = absurd none
agrees_delivers now kept bytes None (serves next) (steps, rest, x, is) agrees = subst Agrees (sym is) (agrees_all kept steps agrees)
agrees_delivers now kept bytes None (failed had made) x agrees = subst Agrees (sym x.had_is) (agrees_all kept x.steps agrees)

pub agrees_befalls : (what : Lost) (now : ℕ) (was : Standing) (x : Exchange) (next : Standing) → Befalls what now was x next → AgreesIn was → AgreesIn next
agrees_befalls Nothing now (serves kept) x next (given, delivers, arrives) agrees = agrees_delivers now kept x.request given next delivers agrees
agrees_befalls Nothing now (failed had made) x next (same, none) agrees = subst AgreesIn (sym same) agrees
agrees_befalls Request now was x next (same, none) agrees = subst AgreesIn (sym same) agrees
agrees_befalls Reply now (serves kept) x next (given, delivers, none) agrees = agrees_delivers now kept x.request given next delivers agrees
agrees_befalls Reply now (failed had made) x next (same, none) agrees = subst AgreesIn (sym same) agrees

pub agrees_asked : (losses : Losses) (now number : ℕ) (was : Standing) (xs : List Exchange) (last : ℕ) (next : Standing) → AreAsked losses now number was xs last next → AgreesIn was → AgreesIn next
agrees_asked losses now number was [] last next are agrees = subst AgreesIn (sym are.1) agrees
agrees_asked losses now number was (x ∷ xs) last next (mid, befalls, are) agrees =
    agrees_asked losses now (next_count number) mid xs last next are (agrees_befalls (lost_at losses number) now was x mid befalls agrees)

-- How a replay goes on: what was recounted stays so as the records grow, and one more event, or line, goes on where the earlier ones led.
use Rattle.std.proofs.Common.{◌≡◌, ℕ, suc, ◌+◌, List, [], ◌∷◌, ◌++◌, length, refl, sym, ap, ◌∙◌, subst, arith, append_assoc}
use Rattle.std.proofs.lemmas.Grind.{flat_map-append}
use Rattle.std.proofs.lemmas.List.{append-nil}
use Rattle.sn_disk.specs.Shelf.{Slot}
use Rattle.sn_disk.specs.declared.memory.MemDisk.{MemDisk}
use Rattle.sn_journal.specs.declared.owner.Owner.{Owner}
use Rattle.sn_journal.specs.declared.owner.Owner.TheVariants.{Device as DeviceOwner, Server as ServerOwner}
use Rattle.sn_laws.specs.declared.moves.Move.{Move}
use Rattle.sn_report.specs.declared.report.Event.{Event}
use Rattle.sn_rows.specs.Table.{Rows}
use Rattle.sn_tail.specs.Shelves.{SlotGrows, SlotReads}
use Rattle.sn_course.specs.Stages.{Stage, past, reported, reporting}
use Rattle.sn_course.specs.Fits.{Fits}
use Rattle.sn_course.specs.Headline.{Recovers, Slots, moves_in}
use Rattle.sn_course.specs.Laws.{Grow, GoesMore, MovesMore, RecountsGo, RecountsGrow, RecountsMore, ReportingMore, settings_behind}
use Rattle.sn_course.specs.Settings.{settings_after}

-- ---- as the records grow

-- what is read at a mark stays so as the record of its disk grows
abbrev ReadsThen : Type 0
ReadsThen = (old new : Slot MemDisk) → SlotGrows old new → (owner : Owner) (mark : ℕ) (rows : Rows) → SlotReads old owner mark rows → SlotReads new owner mark rows

recovers_still : ReadsThen → (old new : Slots) (c : Stage) → Grow old new → Recovers old c → Recovers new c
recovers_still reads old new c grow h =
    record {
      server = reads old.server new.server grow.server ServerOwner c.server_mark c.world.server h.server;
      devices = λ name. reads (old.devices name) (new.devices name) (grow.devices name) DeviceOwner (c.marks name) (c.world.devices name) (h.devices name);
      shows = h.shows;
      asked_alone = h.asked_alone;
      held = h.held;
    }

pub recounts_grow : ReadsThen → RecountsGrow
recounts_grow reads old new secret c last [] [] grow h = h
recounts_grow reads old new secret c last [] (e ∷ es) grow h = absurd h
recounts_grow reads old new secret c last (r ∷ rs) [] grow h = absurd h
recounts_grow reads old new secret c last (r ∷ rs) (e ∷ es) grow h = (
  h.0,
  h.1,
  recovers_still reads old new (past c r.asks e h.0) grow h.2,
  recounts_grow reads old new secret (past c r.asks e h.0) last rs es grow h.3,
)

-- ---- one more event

pub recounts_more : RecountsMore
recounts_more slots secret c last [] [] r e next h fits recovers = (
  next,
  subst (λ (x : Stage). Fits secret x r e next) h fits,
  subst (λ (x : Stage). Recovers slots (past x r.asks e next)) h recovers,
  ap (λ (x : Stage). past x r.asks e next) h,
)
recounts_more slots secret c last [] (y ∷ es) r e next h fits recovers = absurd h
recounts_more slots secret c last (x ∷ rs) [] r e next h fits recovers = absurd h
recounts_more slots secret c last (x ∷ rs) (y ∷ es) r e next h fits recovers =
    (h.0, h.1, h.2, recounts_more slots secret (past c x.asks y h.0) last rs es r e next h.3 fits recovers)

pub recounts_go : RecountsGo
recounts_go slots secret c last [] [] h = h
recounts_go slots secret c last [] (e ∷ es) h = absurd h
recounts_go slots secret c last (r ∷ rs) [] h = absurd h
recounts_go slots secret c last (r ∷ rs) (e ∷ es) h = (h.0, h.1, recounts_go slots secret (past c r.asks e h.0) last rs es h.3)

pub goes_more : GoesMore
goes_more secret c last [] [] r e next h fits =
    (next, subst (λ (x : Stage). Fits secret x r e next) h fits, ap (λ (x : Stage). past x r.asks e next) h)
goes_more secret c last [] (y ∷ es) r e next h fits = absurd h
goes_more secret c last (x ∷ rs) [] r e next h fits = absurd h
goes_more secret c last (x ∷ rs) (y ∷ es) r e next h fits =
    (h.0, h.1, goes_more secret (past c x.asks y h.0) last rs es r e next h.2 fits)

pub moves_more : MovesMore
moves_more es e =
    flat_map-append (λ (x : Event). x.moves) es (e ∷ []) ∙ ap (λ (ms : List Move). moves_in es ++ ms) (append-nil e.moves)

-- ---- one more line

pub reporting_more : ReportingMore
reporting_more number settings [] l =
    let same : number ≡ number + 0 = omega arith in
    (append-nil (reported number settings l) ∙ ap (λ n. reported n settings l) same, refl)
reporting_more number settings (x ∷ lines) l =
    let later = reporting_more (suc number) (settings_after settings x) lines l in
    let same : suc number + length lines ≡ number + length (x ∷ lines) = omega arith in (
      ap (λ rs. reported number settings x ++ rs) later.0
          ∙ ap (λ n. reported number settings x ++ (reporting (suc number) (settings_after settings x) lines
          ++ reported n (settings_behind (settings_after settings x) lines) l)) same
          ∙ sym (append_assoc (reported number settings x) (reporting (suc number) (settings_after settings x) lines)
          (reported (number + length (x ∷ lines)) (settings_behind (settings_after settings x) lines) l)),
      later.1,
    )

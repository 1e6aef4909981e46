-- The first acts of a call are steps of the world too.
use Rattle.std.proofs.Common.{◌≡◌, List, [], ◌∷◌, ◌++◌, Option, true, refl, sym, ap, ◌∙◌, subst, append_assoc}
use Rattle.sn_device.specs.Runs.{Act, asked, commits as committed, rows_done}
use Rattle.sn_laws.specs.Lookups.{Bytes}
use Rattle.sn_laws.specs.Runs.{end_from}
use Rattle.sn_laws.specs.declared.ideal.Ideal.{Ideal}
use Rattle.sn_laws.specs.declared.moves.Move.{Move}
use Rattle.sn_rows.specs.Table.{Rows, rows_after}
use Rattle.sn_string.specs.declared.params.KeySet.{KeySet}
use Rattle.sn_sync.specs.declared.request.Request.{Request}
use Rattle.sn_world.proofs.AskLemmas.{made_of}
use Rattle.sn_world.specs.Calls.{AreServed, Fate, FrontsGo, call_steps, crashed, fate_steps, rows_behind, rows_served, served, undelivered}
use Rattle.sn_world.specs.Happens.{Happens, Trace, commits, makes}
use Rattle.sn_world.specs.World.{World}

-- the first steps of a trace
pub record First (secret : Bytes) (w : World) (s : Ideal) (steps : List Happens) : Type 0 where
  pub moves : List Move
  pub next : World
  pub goes : Trace secret w s steps moves next

pub first_of : (secret : Bytes) (a b : List Happens) (moves : List Move) (w next : World) (s : Ideal) → Trace secret w s (a ++ b) moves next → First secret w s a
first_of secret [] b moves w next s t = record { moves = []; next = w; goes = (refl, refl) }
first_of secret (step ∷ a) b moves w next s (mid, first, later, does, says, rest, is) =
    let x = first_of secret a b later mid next (end_from s first) rest in
    record { moves = first ++ x.moves; next = x.next; goes = (mid, first, x.moves, does, says, x.goes, refl) }

-- the fates of the first acts, and of those behind them
pub record Split (name : Bytes) (begins : Request → Option KeySet) (server : Rows) (front later : List Act) (fates : List Fate) : Type 0 where
  pub met : List Fate
  pub others : List Fate
  pub fates_are : fates ≡ met ++ others
  pub over : AreServed server front met
  pub later_over : AreServed (rows_served server met) later others
  pub steps : call_steps name begins (front ++ later) fates ≡ call_steps name begins front met ++ call_steps name begins later others

pub split : (name : Bytes) (begins : Request → Option KeySet) (server : Rows) (front later : List Act) (fates : List Fate) → AreServed server (front ++ later) fates
    → Split name begins server front later fates
split name begins server [] later fates over =
    record { met = []; others = fates; fates_are = refl; over = refl; later_over = over; steps = refl }
split name begins server (committed what changes ∷ front) later fates over =
    let x = split name begins server front later fates over in
    record {
      met = x.met;
      others = x.others;
      fates_are = x.fates_are;
      over = x.over;
      later_over = x.later_over;
      steps = ap (λ (steps : List Happens). commits name what changes true ∷ steps) x.steps;
    }
split name begins server (asked r reply ∷ front) later [] over = absurd over
split name begins server (asked r reply ∷ front) later (fate ∷ fates) (one, others) =
    let x = split name begins (rows_behind server fate) front later fates others in
    let own : List Happens = fate_steps (made_of name (begins r) r) fate in
    record {
      met = fate ∷ x.met;
      others = x.others;
      fates_are = ap (λ (fs : List Fate). fate ∷ fs) x.fates_are;
      over = (one, x.over);
      later_over = x.later_over;
      steps = ap (λ (steps : List Happens). makes (made_of name (begins r) r) ∷ own ++ steps) x.steps
          ∙ ap (λ (steps : List Happens). makes (made_of name (begins r) r) ∷ steps) (sym (append_assoc own (call_steps name begins front x.met) (call_steps name begins later x.others)));
    }

-- the rows that they leave
pub rows_left : (secret name : Bytes) (begins : Request → Option KeySet) (acts : List Act) (fates : List Fate) (server : Rows) (moves : List Move) (w next : World) (s : Ideal)
    → AreServed server acts fates → Trace secret w s (call_steps name begins acts fates) moves next
    → (next.server ≡ rows_served w.server fates) × (next.devices name ≡ rows_done (w.devices name) acts)
rows_left secret name begins [] fates server moves w next s none (still, same) = (
  ap (λ (x : World). x.server) same ∙ ap (rows_served w.server) (sym none),
  ap (λ (x : World). x.devices name) same,
)
rows_left secret name begins (committed what changes ∷ acts) fates server moves w next s over (mid, first, later, does, says, rest, is) =
    let x = rows_left secret name begins acts fates server later mid next (end_from s first) over rest in (
      x.0 ∙ ap (λ (r : Rows). rows_served r fates) does.0.on.server,
      x.1 ∙ ap (λ (r : Rows). rows_done r acts) does.0.on.own,
    )
rows_left secret name begins (asked r reply ∷ acts) [] server moves w next s over t = absurd over
rows_left secret name begins (asked r reply ∷ acts) (undelivered ∷ fates) server moves w next s (one, over) (mid, first, later, does, says, rest, is) =
    let x = rows_left secret name begins acts fates server later mid next (end_from s first) over rest in (
      x.0 ∙ ap (λ (z : Rows). rows_served z fates) does.server,
      x.1 ∙ ap (λ (z : Bytes → Rows). rows_done (z name) acts) does.devices,
    )
rows_left secret name begins (asked r reply ∷ acts) (served now changes given arrives ∷ fates) server moves w next s (one, over)
    (mid, first, later, does, says, (behind, second, third, serves_so, said, rest, are), is) =
    let x = rows_left secret name begins acts fates (rows_after server changes) third behind next (end_from (end_from s first) second) over rest in (
      x.0 ∙ ap (λ (z : Rows). rows_served z fates) (serves_so.on.server ∙ ap (λ (z : Rows). rows_after z changes) does.server),
      x.1 ∙ ap (λ (z : Bytes → Rows). rows_done (z name) acts) (serves_so.on.devices ∙ does.devices),
    )
rows_left secret name begins (asked r reply ∷ acts) (crashed now changes given ∷ fates) server moves w next s (one, over)
    (mid, first, later, does, says, (behind, second, third, same, said, rest, are), is) =
    let x = rows_left secret name begins acts fates server third behind next (end_from (end_from s first) second) over rest in (
      x.0 ∙ ap (λ (z : Rows). rows_served z fates) (ap (λ (z : World). z.server) same ∙ does.server),
      x.1 ∙ ap (λ (z : Bytes → Rows). rows_done (z name) acts) (ap (λ (z : World). z.devices) same ∙ does.devices),
    )

pub fronts_go : FrontsGo
fronts_go secret w s name begins front later fates last server device over x =
    let z = split name begins w.server front later fates over in
    let rest : List Happens = call_steps name begins later z.others in
    let steps : call_steps name begins (front ++ later) fates ++ last ≡ call_steps name begins front z.met ++ (rest ++ last) =
    ap (λ (steps : List Happens). steps ++ last) z.steps ∙ append_assoc (call_steps name begins front z.met) rest last in
    let first = first_of secret (call_steps name begins front z.met) (rest ++ last) x.moves w x.next s
    (subst (λ (steps : List Happens). Trace secret w s steps x.moves x.next) steps x.goes) in
    let left = rows_left secret name begins front z.met w.server first.moves w first.next s z.over first.goes in (
      z.met,
      z.others,
      z.fates_are,
      z.over,
      record { moves = first.moves; next = first.next; goes = first.goes; server_is = left.0; device_is = left.1 },
    )

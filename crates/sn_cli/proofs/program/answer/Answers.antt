use Rattle.std.proofs.Common.{◌≡◌, inl, inr, List, ℕ, Option, codes, refl, subst}
use Rattle.sn_calls.specs.declared.ends.CallEnd.{CallEnd}
use Rattle.sn_command.specs.CommandLine.{ServeLine}
use Rattle.sn_command.specs.Commands.{IsCommand, device_line, gen_line, open_line, seal_line, serve_line, task_of}
use Rattle.sn_cli.specs.Runs.{AreLeft}
use Rattle.sn_command.specs.Words.{texts}
use Rattle.sn_status.specs.declared.status.Status.{Status}
use Rattle.sn_device.specs.Runs.{Call}
use Rattle.sn_cli.proofs.DeviceRuns.{has_bounds}
use Rattle.sn_cli.proofs.MeetsLemmas.{IsLeft, answered, called_so, generated, opened, replayed, sealed, served_so, shown, wanted}
use Rattle.sn_command.proofs.Facts.{other_command}
use Rattle.sn_serve.specs.Serving.{ServeEnds, handed}
use Rattle.sn_cli.proofs.program.answer.Goals as goal

-- the port and the clock are left as they were
ports : {P C : Type 0} (port : P) (clock : C) → AreLeft port port clock clock
ports port clock = record { same_port = refl; same_clock = refl }

-- and so are the link and the shelf
same : (words : List (List ℕ)) (serves : ServeLine → Status → Type 0) (ends : List ℕ → Call → Option (List ℕ) → CallEnd → Type 0) (untouched : Type 0)
    {S P L C : Type 0} (shelf : S) (port : P) (link : L) (clock : C)
    → IsLeft words serves ends untouched (AreLeft port port clock clock) (link ≡ link) (shelf ≡ shelf)
same words serves ends untouched shelf port link clock = record { served = ports port clock; link = refl; shelf = refl }

pub returns-in-Err-Memory-clause-met : goal.returns-in-Err-Memory-clause-met
returns-in-Err-Memory-clause-met g c =
    wanted (texts c.args.words.now) _ _ _ _ _ _ _ _ _ _ (same _ _ _ _ c.args.shelf.now c.args.port.now c.args.link.now c.args.clock.now) refl (λ line. inl refl)

pub returns-in-Ok-Seal-clause-met : goal.returns-in-Ok-Seal-clause-met
returns-in-Ok-Seal-clause-met g c =
    sealed (texts c.args.words.now) _ _ _ _ _ _ (seal_line c.in-Ok-Seal.item c.in-Ok-Seal.params) _ _ _ _ _ _ _ _ (same _ _ _ _ c.args.shelf.now c.args.port.now c.args.link.now c.args.clock.now)
    (subst (IsCommand (texts c.args.words.now)) c.in-Ok-Seal.field-0-is c.in-Ok-Seal.ensures.command) c.seal_input.ensures.ran

pub returns-in-Ok-Open-clause-met : goal.returns-in-Ok-Open-clause-met
returns-in-Ok-Open-clause-met g c =
    opened (texts c.args.words.now) _ _ _ _ _ _ (open_line c.in-Ok-Open.item) _ _ _ _ _ _ _ (same _ _ _ _ c.args.shelf.now c.args.port.now c.args.link.now c.args.clock.now)
    (subst (IsCommand (texts c.args.words.now)) c.in-Ok-Open.field-0-is c.in-Ok-Open.ensures.command) c.open_input.ensures.ran

pub returns-in-Ok-Show-clause-met : goal.returns-in-Ok-Show-clause-met
returns-in-Ok-Show-clause-met g c =
    shown (texts c.args.words.now) _ _ _ _ _ _ _ _ _ _ _ _ _ (same _ _ _ _ c.args.shelf.now c.args.port.now c.args.link.now c.args.clock.now)
    (subst (IsCommand (texts c.args.words.now)) c.in-Ok-Show.field-0-is c.in-Ok-Show.ensures.command) c.show_input.ensures.ran

pub returns-in-Ok-Replay-clause-met : goal.returns-in-Ok-Replay-clause-met
returns-in-Ok-Replay-clause-met g c =
    replayed (texts c.args.words.now) _ _ _ _ _ _ _ _ _ _ _ _ _ _ (same _ _ _ _ c.args.shelf.now c.args.port.now c.args.link.now c.args.clock.now)
    (subst (IsCommand (texts c.args.words.now)) c.in-Ok-Replay.field-0-is c.in-Ok-Replay.ensures.command) c.replay_input.ensures.ran
    c.replay_input.ensures.unplayed

pub returns-in-Ok-Gen-clause-met : goal.returns-in-Ok-Gen-clause-met
returns-in-Ok-Gen-clause-met g c =
    generated (texts c.args.words.now) _ _ _ _ _ _ (gen_line c.in-Ok-Gen.options) _ _ _ _ _ _ _ (same _ _ _ _ c.args.shelf.now c.args.port.now c.args.link.now c.args.clock.now)
    (subst (IsCommand (texts c.args.words.now)) c.in-Ok-Gen.field-0-is c.in-Ok-Gen.ensures.command) c.generate_and_replay.ensures.ran
    c.generate_and_replay.ensures.unplayed

pub returns-in-Ok-Serve-clause-met : goal.returns-in-Ok-Serve-clause-met
returns-in-Ok-Serve-clause-met g c =
    let old = handed c.args.shelf.now c.args.port.now c.args.out.now c.args.clock.now c.args.seeds.now in
    let new = handed c.serve_store.new.shelf c.serve_store.new.port c.serve_store.new.out c.serve_store.new.clock c.serve_store.new.seeds in
    served_so (texts c.args.words.now)
    (λ line. ServeEnds g.S.D.Disk g.S.Shelf.told g.S.Shelf.slot g.S.Shelf.fault_count g.P.Port.goes g.P.Port.bound g.O.Sink.held g.C.Clock.given g.R.Seeds.given
    line.store line.port line.requests old new) (new ≡ old) _ _ _ _ _ (serve_line c.in-Ok-Serve.options) _ _ _ _ _ _ _ refl
    (subst (IsCommand (texts c.args.words.now)) c.in-Ok-Serve.field-0-is c.in-Ok-Serve.ensures.command) c.serve_store.ensures.ran

pub call_store-requires : goal.call_store-requires
call_store-requires g c =
    let spelled = subst (IsCommand (texts c.args.words.now)) c.in-Ok-Device.field-0-is c.in-Ok-Device.ensures.command in
    has_bounds (texts c.args.words.now) (task_of c.in-Ok-Device.options.command) spelled.task_given

pub returns-in-Ok-Device-clause-met : goal.returns-in-Ok-Device-clause-met
returns-in-Ok-Device-clause-met g c =
    called_so (texts c.args.words.now) _ _ _ _ _ _ (device_line c.in-Ok-Device.options) _ _ _ _ _ _ _ _ (ports c.args.port.now c.args.clock.now)
    (subst (IsCommand (texts c.args.words.now)) c.in-Ok-Device.field-0-is c.in-Ok-Device.ensures.command) c.call_store.ensures.ran

pub returns-in-Ok-Device-clause-port : goal.returns-in-Ok-Device-clause-port
returns-in-Ok-Device-clause-port g c is serving =
    absurd (other_command (texts c.args.words.now) (codes "serve") (device_line c.in-Ok-Device.options) refl serving.1.command
    (subst (IsCommand (texts c.args.words.now)) c.in-Ok-Device.field-0-is c.in-Ok-Device.ensures.command))

pub returns-in-Ok-Serve-clause-link : goal.returns-in-Ok-Serve-clause-link
returns-in-Ok-Serve-clause-link g c is devicing =
    let spelled = subst (IsCommand (texts c.args.words.now)) c.in-Ok-Serve.field-0-is c.in-Ok-Serve.ensures.command in
    absurd (other_command (texts c.args.words.now) (codes "serve") devicing.0 refl spelled.command devicing.1)

pub returns-in-Ok-Help-clause-met : goal.returns-in-Ok-Help-clause-met
returns-in-Ok-Help-clause-met g c =
    answered (texts c.args.words.now) _ _ _ _ _ _ _ _ _ _ _ _ (same _ _ _ _ c.args.shelf.now c.args.port.now c.args.link.now c.args.clock.now)
    (inl (subst (IsCommand (texts c.args.words.now)) c.in-Ok-Help.field-0-is c.in-Ok-Help.ensures.command)) c.answer_help.ensures.wrote

pub returns-in-Ok-Version-clause-met : goal.returns-in-Ok-Version-clause-met
returns-in-Ok-Version-clause-met g c =
    answered (texts c.args.words.now) _ _ _ _ _ _ _ _ _ _ _ _ (same _ _ _ _ c.args.shelf.now c.args.port.now c.args.link.now c.args.clock.now)
    (inr (subst (IsCommand (texts c.args.words.now)) c.in-Ok-Version.field-0-is c.in-Ok-Version.ensures.command)) c.answer_help-in-Ok-Version.ensures.wrote

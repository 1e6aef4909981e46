use Rattle.std.proofs.Common.{◌≡◌, ℕ, List, Option, Result, String, IfOk, IfErr, string_bytes, refl, sym, subst}
use Rattle.std.specs.declared.alloc.Global.{Global}
use Rattle.sn_command.specs.Commands.{task_of}
use Rattle.sn_cli.specs.DeviceCalls.{ReadsFor, kept_of}
use Rattle.sn_command.specs.DeviceLines.{TakesInput}
use Rattle.sn_cli.specs.Inputs.{ReadsText, StopsReading}
use Rattle.sn_command.specs.declared.device_line.DeviceCommand.{DeviceCommand}
use Rattle.sn_command.specs.declared.device_line.DeviceCommand.TheVariants as device
use Rattle.sn_status.specs.declared.status.Status.{Status}
use Rattle.sn_cli.proofs.DeviceRuns.{content_refused, content_taken}
use Rattle.sn_cli.proofs.calling.content_for.Goals as goal

-- a text that is kept as it is
taken : (command at : DeviceCommand) (i j : Option (List ℕ)) (result : Result (String Global) Status) → command ≡ at → TakesInput (task_of at)
    → ((text : List ℕ) → kept_of (task_of at) text ≡ text) → IfOk result (λ text. ReadsText i j (string_bytes text))
    → IfOk result (λ content. (text : List ℕ) × ReadsFor (task_of command) i j text × (string_bytes content ≡ kept_of (task_of command) text))
taken command at i j result is takes kept read =
    subst (λ (k : DeviceCommand). IfOk result (λ content. (text : List ℕ) × ReadsFor (task_of k) i j text × (string_bytes content ≡ kept_of (task_of k) text)))
    (sym is) (content_taken (task_of at) i j result takes kept read)

-- no text for a command that reads none
unread : (command at : DeviceCommand) (i : Option (List ℕ)) (content : String Global) → command ≡ at → ReadsFor (task_of at) i i (string_bytes content)
    → ((text : List ℕ) → kept_of (task_of at) text ≡ text)
    → (text : List ℕ) × ReadsFor (task_of command) i i text × (string_bytes content ≡ kept_of (task_of command) text)
unread command at i content is reads kept =
    subst (λ (k : DeviceCommand). (text : List ℕ) × ReadsFor (task_of k) i i text × (string_bytes content ≡ kept_of (task_of k) text))
    (sym is) (string_bytes content, reads, sym (kept (string_bytes content)))

-- an input that isn't taken
refused : (command at : DeviceCommand) (i j : Option (List ℕ)) (result : Result (String Global) Status) → command ≡ at → TakesInput (task_of at)
    → IfErr result (λ status. StopsReading status i j) → IfErr result (λ status. TakesInput (task_of command) × StopsReading status i j)
refused command at i j result is takes stops =
    subst (λ (k : DeviceCommand). IfErr result (λ status. TakesInput (task_of k) × StopsReading status i j)) (sym is)
    (content_refused (task_of at) i j result takes stops)

pub returns-in-Register-clause-ok : goal.returns-in-Register-clause-ok
returns-in-Register-clause-ok g c = taken c.args.command.now _ _ _ c.input_text.result c.in-Register.is tt (λ text. refl) c.input_text.ensures.ok

pub returns-in-Register-clause-err : goal.returns-in-Register-clause-err
returns-in-Register-clause-err g c = refused c.args.command.now _ _ _ c.input_text.result c.in-Register.is tt c.input_text.ensures.err

pub returns-in-SignIn-clause-ok : goal.returns-in-SignIn-clause-ok
returns-in-SignIn-clause-ok g c = taken c.args.command.now _ _ _ c.input_text-in-SignIn.result c.in-SignIn.is tt (λ text. refl) c.input_text-in-SignIn.ensures.ok

pub returns-in-SignIn-clause-err : goal.returns-in-SignIn-clause-err
returns-in-SignIn-clause-err g c = refused c.args.command.now _ _ _ c.input_text-in-SignIn.result c.in-SignIn.is tt c.input_text-in-SignIn.ensures.err

pub returns-in-ChangePassword-clause-ok : goal.returns-in-ChangePassword-clause-ok
returns-in-ChangePassword-clause-ok g c =
    taken c.args.command.now _ _ _ c.input_text-in-ChangePassword.result c.in-ChangePassword.is tt (λ text. refl) c.input_text-in-ChangePassword.ensures.ok

pub returns-in-ChangePassword-clause-err : goal.returns-in-ChangePassword-clause-err
returns-in-ChangePassword-clause-err g c =
    refused c.args.command.now _ _ _ c.input_text-in-ChangePassword.result c.in-ChangePassword.is tt c.input_text-in-ChangePassword.ensures.err

pub returns-in-Edit-clause-ok : goal.returns-in-Edit-clause-ok
returns-in-Edit-clause-ok g c = taken c.args.command.now _ _ _ c.input_text-in-Edit.result c.in-Edit.is tt (λ text. refl) c.input_text-in-Edit.ensures.ok

pub returns-in-Edit-clause-err : goal.returns-in-Edit-clause-err
returns-in-Edit-clause-err g c = refused c.args.command.now _ _ _ c.input_text-in-Edit.result c.in-Edit.is tt c.input_text-in-Edit.ensures.err

pub returns-in-Put-clause-ok : goal.returns-in-Put-clause-ok
returns-in-Put-clause-ok g c =
    let i = g.I.Source.left c.args.input.now in
    let j = g.I.Source.left c.put_content.new.input in
    subst (λ (k : DeviceCommand). IfOk c.put_content.result (λ content. (text : List ℕ) × ReadsFor (task_of k) i j text × (string_bytes content ≡ kept_of (task_of k) text)))
    (sym c.in-Put.is) c.put_content.ensures.ok

pub returns-in-Put-clause-err : goal.returns-in-Put-clause-err
returns-in-Put-clause-err g c = refused c.args.command.now _ _ _ c.put_content.result c.in-Put.is tt c.put_content.ensures.err

pub returns-in-Delete-clause-ok : goal.returns-in-Delete-clause-ok
returns-in-Delete-clause-ok g c = unread c.args.command.now (device.Delete c.in-Delete.uuid) _ c.new.result c.in-Delete.is refl (λ text. refl)

pub returns-in-List-clause-ok : goal.returns-in-List-clause-ok
returns-in-List-clause-ok g c = unread c.args.command.now device.List _ c.new-in-List.result c.in-List.is refl (λ text. refl)

pub returns-in-Content-clause-ok : goal.returns-in-Content-clause-ok
returns-in-Content-clause-ok g c = unread c.args.command.now (device.Content c.in-Content.uuid) _ c.new-in-Content.result c.in-Content.is refl (λ text. refl)

pub returns-in-Sync-clause-ok : goal.returns-in-Sync-clause-ok
returns-in-Sync-clause-ok g c = unread c.args.command.now (device.Sync c.in-Sync.server) _ c.new-in-Sync.result c.in-Sync.is refl (λ text. refl)

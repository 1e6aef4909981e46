use Rattle.std.proofs.Common.{◌≡◌, ℕ, List, Bor, Option, None, codes, refl, sym, ap, subst, ◌∙◌}
use Rattle.sn_calls.specs.Parts.{call_of, server_of}
use Rattle.sn_calls.specs.declared.device_call.DeviceCall.{DeviceCall}
use Rattle.sn_calls.specs.declared.device_call.DeviceCall.TheVariants as asked
use Rattle.sn_command.specs.Commands.{task_of}
use Rattle.sn_cli.specs.DeviceCalls.{IsPassword, TakesPassword, call_for, first_line, kept_of, server_for}
use Rattle.sn_command.specs.DeviceLines.{HasTaskBounds, Task}
use Rattle.sn_command.specs.declared.device_line.DeviceCommand.{DeviceCommand}
use Rattle.sn_command.specs.declared.device_line.DeviceCommand.TheVariants as device
use Rattle.sn_device.specs.Runs as call
use Rattle.sn_cli.proofs.calling.call_for.Goals as goal

-- the call is that of the task and of the text of which the content was kept
abbrev Spells : Task → List ℕ → DeviceCall → Type 0
Spells t content made = (text : List ℕ) → content ≡ kept_of t text
    → (call_of made ≡ call_for t text) × (server_of made ≡ server_for t) × (TakesPassword t → IsPassword (first_line text))

spelled : (command at : DeviceCommand) (content : List ℕ) (made : DeviceCall) → command ≡ at → Spells (task_of at) content made → Spells (task_of command) content made
spelled command at content made is spells = subst (λ (k : DeviceCommand). Spells (task_of k) content made) (sym is) spells

bounded : (command at : DeviceCommand) → command ≡ at → HasTaskBounds (task_of command) → HasTaskBounds (task_of at)
bounded command at is has = subst (λ (k : DeviceCommand). HasTaskBounds (task_of k)) is has

-- the password is the first line of the text
same_line : (content password text : List ℕ) → password ≡ first_line content → content ≡ text → password ≡ first_line text
same_line content password text is same = is ∙ ap first_line same

is_password : (content password text : List ℕ) → password ≡ first_line content → content ≡ text → IsPassword password → IsPassword (first_line text)
is_password content password text is same fits = subst IsPassword (same_line content password text is same) fits

registered : (server identifier content password : List ℕ) (cost : ℕ) (text : List ℕ) → password ≡ first_line content → content ≡ text
    → call.register identifier password cost ≡ call.register identifier (first_line text) cost
registered server identifier content password cost text is same = ap (λ (p : List ℕ). call.register identifier p cost) (same_line content password text is same)

signed_in : (identifier content password text : List ℕ) → password ≡ first_line content → content ≡ text
    → call.sign_in identifier password ≡ call.sign_in identifier (first_line text)
signed_in identifier content password text is same = ap (λ (p : List ℕ). call.sign_in identifier p) (same_line content password text is same)

changed : (content password text : List ℕ) (cost : ℕ) → password ≡ first_line content → content ≡ text
    → call.passwd password cost ≡ call.passwd (first_line text) cost
changed content password text cost is same = ap (λ (p : List ℕ). call.passwd p cost) (same_line content password text is same)

-- a content that is put asks no server
put_so : (command : DeviceCommand) (title : Option (Bor (List ℕ))) (content : List ℕ) → command ≡ device.Put title → (text : List ℕ)
    → content ≡ kept_of (task_of command) text
    → (call.put (codes "Note") content ≡ call_for (task_of command) text) × (None ≡ server_for (task_of command))
    × (TakesPassword (task_of command) → IsPassword (first_line text))
put_so command title content is =
    subst (λ (k : DeviceCommand). (text : List ℕ) → content ≡ kept_of (task_of k) text
    → (call.put (codes "Note") content ≡ call_for (task_of k) text) × (None ≡ server_for (task_of k))
    × (TakesPassword (task_of k) → IsPassword (first_line text)))
    (sym is) (λ text same. (ap (call.put (codes "Note")) same, refl, λ takes. absurd takes))

pub returns-in_ok-password_of-in-Register-clause-ok : goal.returns-in_ok-password_of-in-Register-clause-ok
returns-in_ok-password_of-in-Register-clause-ok c =
    let server = c.in-Register.server in
    let identifier = c.in-Register.identifier in
    let password = c.in_ok-password_of-in-Register.field-0 in
    let found = c.in_ok-password_of-in-Register.ensures.ok in
    spelled c.args.command.now (device.Register server identifier c.in-Register.cost) c.args.content.now
    (asked.Register server identifier password c.in-Register.cost) c.in-Register.is
    (λ text same. (
      registered server.now identifier.now c.args.content.now password.now c.in-Register.cost text found.0 same,
      refl,
      λ takes. is_password c.args.content.now password.now text found.0 same found.1,
    ))

pub returns-in_ok-password_of-in-Register-clause-bounds : goal.returns-in_ok-password_of-in-Register-clause-bounds
returns-in_ok-password_of-in-Register-clause-bounds c =
    bounded c.args.command.now (device.Register c.in-Register.server c.in-Register.identifier c.in-Register.cost) c.in-Register.is c.requires

pub returns-in_ok-password_of-in-SignIn-clause-ok : goal.returns-in_ok-password_of-in-SignIn-clause-ok
returns-in_ok-password_of-in-SignIn-clause-ok c =
    let server = c.in-SignIn.server in
    let identifier = c.in-SignIn.identifier in
    let password = c.in_ok-password_of-in-SignIn.field-0 in
    let found = c.in_ok-password_of-in-SignIn.ensures.ok in
    spelled c.args.command.now (device.SignIn server identifier) c.args.content.now (asked.SignIn server identifier password) c.in-SignIn.is
    (λ text same. (
      signed_in identifier.now c.args.content.now password.now text found.0 same,
      refl,
      λ takes. is_password c.args.content.now password.now text found.0 same found.1,
    ))

pub returns-in-Put-clause-ok : goal.returns-in-Put-clause-ok
returns-in-Put-clause-ok c = put_so c.args.command.now c.in-Put.title c.args.content.now c.in-Put.is

pub returns-in-Edit-clause-ok : goal.returns-in-Edit-clause-ok
returns-in-Edit-clause-ok c =
    spelled c.args.command.now (device.Edit c.in-Edit.uuid) c.args.content.now (asked.Edit c.in-Edit.uuid c.args.content) c.in-Edit.is
    (λ text same. (ap (call.edit c.in-Edit.uuid) same, refl, λ takes. absurd takes))

pub returns-in-Delete-clause-ok : goal.returns-in-Delete-clause-ok
returns-in-Delete-clause-ok c =
    spelled c.args.command.now (device.Delete c.in-Delete.uuid) c.args.content.now (asked.Delete c.in-Delete.uuid) c.in-Delete.is
    (λ text same. (refl, refl, λ takes. absurd takes))

pub returns-in-List-clause-ok : goal.returns-in-List-clause-ok
returns-in-List-clause-ok c =
    spelled c.args.command.now device.List c.args.content.now asked.List c.in-List.is (λ text same. (refl, refl, λ takes. absurd takes))

pub returns-in-Content-clause-ok : goal.returns-in-Content-clause-ok
returns-in-Content-clause-ok c =
    spelled c.args.command.now (device.Content c.in-Content.uuid) c.args.content.now (asked.Content c.in-Content.uuid) c.in-Content.is
    (λ text same. (refl, refl, λ takes. absurd takes))

pub returns-in-Sync-clause-ok : goal.returns-in-Sync-clause-ok
returns-in-Sync-clause-ok c =
    spelled c.args.command.now (device.Sync c.in-Sync.server) c.args.content.now (asked.Sync c.in-Sync.server) c.in-Sync.is
    (λ text same. (refl, refl, λ takes. absurd takes))

pub returns-in_ok-password_of-in-ChangePassword-clause-ok : goal.returns-in_ok-password_of-in-ChangePassword-clause-ok
returns-in_ok-password_of-in-ChangePassword-clause-ok c =
    let server = c.in-ChangePassword.server in
    let password = c.in_ok-password_of-in-ChangePassword.field-0 in
    let found = c.in_ok-password_of-in-ChangePassword.ensures.ok in
    spelled c.args.command.now (device.ChangePassword server c.in-ChangePassword.cost) c.args.content.now
    (asked.ChangePassword server password c.in-ChangePassword.cost) c.in-ChangePassword.is
    (λ text same. (
      changed c.args.content.now password.now text c.in-ChangePassword.cost found.0 same,
      refl,
      λ takes. is_password c.args.content.now password.now text found.0 same found.1,
    ))

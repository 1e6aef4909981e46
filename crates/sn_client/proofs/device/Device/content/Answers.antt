use Rattle.std.specs.Prelude.{string_bytes}
use Rattle.std.proofs.Common.{inr}
use Rattle.sn_client.specs.Calls.{device_rows}
use Rattle.sn_device.specs.Runs.{a_text, content}
use Rattle.sn_client.proofs.TellLemmas.{content_closed, content_gone, content_told, content_unowned, tells_exit}
use Rattle.sn_client.proofs.device.Device.content.Goals as goal

pub returns-in_err-sets : goal.returns-in_err-sets
returns-in_err-sets g c =
    tells_exit c.args.self.now.least_cost (content c.args.uuid) (device_rows c.args.self.now) (λ text. a_text (string_bytes text)) c.from_residual.result
    c.in_err-sets.field-0.0 c.from_residual.ensures.1 (content_unowned (device_rows c.args.self.now) c.args.uuid c.in_err-sets.field-0.0 c.in_err-sets.ensures.err)

pub returns-in_err-_number : goal.returns-in_err-_number
returns-in_err-_number g c =
    tells_exit c.args.self.now.least_cost (content c.args.uuid) (device_rows c.args.self.now) (λ text. a_text (string_bytes text)) c.from_residual-in_err-_number.result
    c.in_err-_number.field-0.0 c.from_residual-in_err-_number.ensures.1
    (content_gone (device_rows c.args.self.now) c.args.uuid c.in_ok-sets.ensures.ok.0 c.in_ok-sets.sets c.in_ok-sets.ensures.ok.1 c.in_err-_number.field-0.0 c.in_err-_number.ensures.err)

pub shown_text-requires-clause-sound : goal.shown_text-requires-clause-sound
shown_text-requires-clause-sound g c = c.requires.locals.items c.in_ok-_number._number c.in_ok-_number.item.now c.in_ok-_number.ensures.ok.0.0

pub returns-in_err-text : goal.returns-in_err-text
returns-in_err-text g c =
    tells_exit c.args.self.now.least_cost (content c.args.uuid) (device_rows c.args.self.now) (λ text. a_text (string_bytes text)) c.from_residual-in_err-text.result
    c.in_err-text.field-0.0 c.from_residual-in_err-text.ensures.1
    (content_closed (device_rows c.args.self.now) c.args.uuid c.in_ok-sets.ensures.ok.0 c.in_ok-sets.sets c.in_ok-sets.ensures.ok.1 c.in_ok-_number._number c.in_ok-_number.item.now
    c.in_ok-_number.ensures.ok.0 c.in_ok-_number.ensures.ok.1 c.in_err-text.field-0.0 c.in_err-text.ensures.err)

pub returns : goal.returns
returns g c = λ words. inr
    (content_told (device_rows c.args.self.now) c.args.uuid c.in_ok-sets.ensures.ok.0 c.in_ok-sets.sets c.in_ok-sets.ensures.ok.1 c.in_ok-_number._number c.in_ok-_number.item.now
    c.in_ok-_number.ensures.ok.0 c.in_ok-_number.ensures.ok.1 (string_bytes c.in_ok-text.text) c.in_ok-text.ensures.ok words)

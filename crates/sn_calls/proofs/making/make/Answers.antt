use Rattle.std.proofs.Common.{[], refl}
use Rattle.rand_chacha.specs.ChaCha.{ChaCha}
use Rattle.sn_client.specs.Calls.{device_rows}
use Rattle.sn_device.specs.Runs.{a_text, a_uuid, content, delete, edit, lines, list, nothing, put}
use Rattle.std.specs.Prelude.{string_bytes}
use Rattle.sn_calls.specs.declared.device_call.DeviceCall.TheVariants as asked
use Rattle.sn_calls.specs.declared.ends.Answered.TheVariants as answer
use Rattle.sn_calls.proofs.Made.{makes_drawn, makes_over, makes_told, makes_undrawn}
use Rattle.sn_calls.proofs.Quiet.{content_quiet, delete_quiet, edit_quiet, list_quiet, put_quiet, refused_quiet, told_quiet}
use Rattle.sn_calls.proofs.making.make.Goals as goal

pub returns-in-Register-clause-makes : goal.returns-in-Register-clause-makes
returns-in-Register-clause-makes g c = λ kept is.
    makes_over g.D.Disk g.L.Link.asks g.L.Link.aimed g.R.Seeds.given c.args.device.least_cost c.args.link.now c.register.new.link c.args.seeds.now c.draw.new.self
    (λ given. answer.Nothing) kept c.ended.result.0 c.ended.result.1 c.args.call.now (asked.Register c.in-Register.server c.in-Register.identifier c.in-Register.password c.in-Register.cost) c.in-Register.is
    c.in-Register.server.now c.draw.result c.from_seed-words.result c.register.new.words c.register.result refl refl c.draw.ensures c.from_seed-words.ensures c.requires.aimed
    (c.register.ensures.runs kept is) c.register.ensures.aimed c.ended.ensures.disk c.ended.ensures.end

pub returns-in-SignIn-clause-makes : goal.returns-in-SignIn-clause-makes
returns-in-SignIn-clause-makes g c = λ kept is.
    makes_over g.D.Disk g.L.Link.asks g.L.Link.aimed g.R.Seeds.given c.args.device.least_cost c.args.link.now c.sign_in.new.link c.args.seeds.now c.draw-in-SignIn.new.self
    (λ given. answer.Nothing) kept c.ended-in-SignIn.result.0 c.ended-in-SignIn.result.1 c.args.call.now (asked.SignIn c.in-SignIn.server c.in-SignIn.identifier c.in-SignIn.password) c.in-SignIn.is
    c.in-SignIn.server.now c.draw-in-SignIn.result c.from_seed-words-in-SignIn.result c.sign_in.new.words c.sign_in.result refl refl c.draw-in-SignIn.ensures c.from_seed-words-in-SignIn.ensures c.requires.aimed
    (c.sign_in.ensures.runs kept is) c.sign_in.ensures.aimed c.ended-in-SignIn.ensures.disk c.ended-in-SignIn.ensures.end

pub returns-in-Sync-clause-makes : goal.returns-in-Sync-clause-makes
returns-in-Sync-clause-makes g c = λ kept is.
    makes_over g.D.Disk g.L.Link.asks g.L.Link.aimed g.R.Seeds.given c.args.device.least_cost c.args.link.now c.sync.new.link c.args.seeds.now c.draw-in-Sync.new.self
    (λ given. answer.Nothing) kept c.ended-in-Sync.result.0 c.ended-in-Sync.result.1 c.args.call.now (asked.Sync c.in-Sync.server) c.in-Sync.is
    c.in-Sync.server.now c.draw-in-Sync.result c.from_seed-words-in-Sync.result c.sync.new.words c.sync.result refl refl c.draw-in-Sync.ensures c.from_seed-words-in-Sync.ensures c.requires.aimed
    (c.sync.ensures.runs kept is) c.sync.ensures.aimed c.ended-in-Sync.ensures.disk c.ended-in-Sync.ensures.end

pub returns-in-ChangePassword-clause-makes : goal.returns-in-ChangePassword-clause-makes
returns-in-ChangePassword-clause-makes g c = λ kept is.
    makes_over g.D.Disk g.L.Link.asks g.L.Link.aimed g.R.Seeds.given c.args.device.least_cost c.args.link.now c.passwd.new.link c.args.seeds.now c.draw-in-ChangePassword.new.self
    (λ given. answer.Nothing) kept c.ended-in-ChangePassword.result.0 c.ended-in-ChangePassword.result.1 c.args.call.now
    (asked.ChangePassword c.in-ChangePassword.server c.in-ChangePassword.password c.in-ChangePassword.cost) c.in-ChangePassword.is
    c.in-ChangePassword.server.now c.draw-in-ChangePassword.result c.from_seed-words-in-ChangePassword.result c.passwd.new.words c.passwd.result refl refl c.draw-in-ChangePassword.ensures c.from_seed-words-in-ChangePassword.ensures c.requires.aimed
    (c.passwd.ensures.runs kept is) c.passwd.ensures.aimed c.ended-in-ChangePassword.ensures.disk c.ended-in-ChangePassword.ensures.end

pub returns-in-Put-clause-makes : goal.returns-in-Put-clause-makes
returns-in-Put-clause-makes g c = λ kept is.
    makes_drawn g.D.Disk g.L.Link.asks g.L.Link.aimed g.R.Seeds.given c.args.device.least_cost c.args.link.now c.args.link.now c.args.seeds.now c.draw-in-Put.new.self
    (answer.Uuid) kept c.ended_with_uuid.result.0 c.ended_with_uuid.result.1 c.args.call.now (asked.Put c.in-Put.kind c.in-Put.text) c.in-Put.is
    c.draw-in-Put.result c.from_seed-words-in-Put.result c.put.new.words c.put.result refl refl c.draw-in-Put.ensures c.from_seed-words-in-Put.ensures
    (c.put.ensures.runs kept is) refl c.ended_with_uuid.ensures.disk c.ended_with_uuid.ensures.end

pub returns-in-Put-clause-link : goal.returns-in-Put-clause-link
returns-in-Put-clause-link g c = λ fault.
    absurd (refused_quiet c.args.device c.requires.opens (a_uuid) (answer.Uuid) c.args.device.least_cost (put c.in-Put.kind.now c.in-Put.text.now) c.from_seed-words-in-Put.result c.put.new.words c.put.result c.ended_with_uuid.result.1
    (λ rows acts halt run. put_quiet acts halt c.args.device.least_cost rows c.from_seed-words-in-Put.result c.in-Put.kind.now c.in-Put.text.now run) c.put.ensures.runs c.ended_with_uuid.ensures.end fault)

pub returns-in-Edit-clause-makes : goal.returns-in-Edit-clause-makes
returns-in-Edit-clause-makes g c = λ kept is.
    makes_drawn g.D.Disk g.L.Link.asks g.L.Link.aimed g.R.Seeds.given c.args.device.least_cost c.args.link.now c.args.link.now c.args.seeds.now c.draw-in-Edit.new.self
    (λ given. answer.Nothing) kept c.ended-in-Edit.result.0 c.ended-in-Edit.result.1 c.args.call.now (asked.Edit c.in-Edit.uuid c.in-Edit.text) c.in-Edit.is
    c.draw-in-Edit.result c.from_seed-words-in-Edit.result c.edit.new.words c.edit.result refl refl c.draw-in-Edit.ensures c.from_seed-words-in-Edit.ensures
    (c.edit.ensures.runs kept is) refl c.ended-in-Edit.ensures.disk c.ended-in-Edit.ensures.end

pub returns-in-Edit-clause-link : goal.returns-in-Edit-clause-link
returns-in-Edit-clause-link g c = λ fault.
    absurd (refused_quiet c.args.device c.requires.opens (λ given. nothing) (λ given. answer.Nothing) c.args.device.least_cost (edit c.in-Edit.uuid c.in-Edit.text.now) c.from_seed-words-in-Edit.result c.edit.new.words c.edit.result c.ended-in-Edit.result.1
    (λ rows acts halt run. edit_quiet acts halt c.args.device.least_cost rows c.from_seed-words-in-Edit.result c.in-Edit.uuid c.in-Edit.text.now run) c.edit.ensures.runs c.ended-in-Edit.ensures.end fault)

pub returns-in-Delete-clause-makes : goal.returns-in-Delete-clause-makes
returns-in-Delete-clause-makes g c = λ kept is.
    makes_undrawn g.D.Disk g.L.Link.asks g.L.Link.aimed g.R.Seeds.given c.args.device.least_cost c.args.link.now c.args.link.now c.args.seeds.now c.args.seeds.now
    (λ given. answer.Nothing) kept c.ended-in-Delete.result.0 c.ended-in-Delete.result.1 c.args.call.now (asked.Delete c.in-Delete.uuid) c.in-Delete.is
    c.delete.result refl refl refl (λ words. c.delete.ensures.runs words kept is) refl c.ended-in-Delete.ensures.disk c.ended-in-Delete.ensures.end

pub returns-in-Delete-clause-link : goal.returns-in-Delete-clause-link
returns-in-Delete-clause-link g c = λ fault.
    let words : ChaCha = record { key = []; stream = 0; word_pos = 0 } in
    absurd (refused_quiet c.args.device c.requires.opens (λ given. nothing) (λ given. answer.Nothing) c.args.device.least_cost (delete c.in-Delete.uuid) words words c.delete.result c.ended-in-Delete.result.1
    (λ rows acts halt run. delete_quiet acts halt c.args.device.least_cost rows words c.in-Delete.uuid run) (c.delete.ensures.runs words) c.ended-in-Delete.ensures.end fault)

pub returns-in-List-clause-makes : goal.returns-in-List-clause-makes
returns-in-List-clause-makes g c = λ kept is.
    makes_told g.D.Disk g.L.Link.asks g.L.Link.aimed g.R.Seeds.given c.args.device.least_cost c.args.link.now c.args.link.now c.args.seeds.now c.args.seeds.now
    (answer.Lines) kept c.close.result c.listed-end.result c.args.call.now (asked.List) c.in-List.is
    c.args.device c.list.result refl refl refl c.list.ensures is refl c.close.ensures c.listed-end.ensures

pub returns-in-List-clause-link : goal.returns-in-List-clause-link
returns-in-List-clause-link g c = λ fault.
    absurd (told_quiet (λ found. lines found) (answer.Lines) c.args.device.least_cost (list) (device_rows c.args.device) c.list.result c.listed-end.result
    (λ words rows acts halt run. list_quiet acts halt c.args.device.least_cost rows words run) c.list.ensures c.listed-end.ensures fault)

pub returns-in-Content-clause-makes : goal.returns-in-Content-clause-makes
returns-in-Content-clause-makes g c = λ kept is.
    makes_told g.D.Disk g.L.Link.asks g.L.Link.aimed g.R.Seeds.given c.args.device.least_cost c.args.link.now c.args.link.now c.args.seeds.now c.args.seeds.now
    (answer.Text) kept c.close-in-Content.result c.shown-end.result c.args.call.now (asked.Content c.in-Content.uuid) c.in-Content.is
    c.args.device c.content.result refl refl refl c.content.ensures is refl c.close-in-Content.ensures c.shown-end.ensures

pub returns-in-Content-clause-link : goal.returns-in-Content-clause-link
returns-in-Content-clause-link g c = λ fault.
    absurd (told_quiet (λ text. a_text (string_bytes text)) (answer.Text) c.args.device.least_cost (content c.in-Content.uuid) (device_rows c.args.device) c.content.result c.shown-end.result
    (λ words rows acts halt run. content_quiet acts halt c.args.device.least_cost rows words c.in-Content.uuid run) c.content.ensures c.shown-end.ensures fault)

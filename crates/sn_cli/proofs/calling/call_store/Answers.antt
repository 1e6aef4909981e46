use Rattle.std.proofs.Common.{◌≡◌, ◌∙◌, refl}
use Rattle.std.proofs.KnownBytes.{Keeps-refl}
use Rattle.sn_calls.specs.Ends.{handed}
use Rattle.sn_calls.specs.Parts.{call_of, server_of}
use Rattle.sn_command.specs.Commands.{device_line}
use Rattle.sn_cli.specs.DeviceCalls.{kept_of}
use Rattle.sn_cli.specs.Runs.{EndsCall}
use Rattle.sn_cli.proofs.DeviceRuns.{call_silent, ended_so, has_called, link_failed, no_password, not_read, unread}
use Rattle.sn_cli.proofs.calling.call_store.Goals as goal

pub returns-in-Err-clause-ran : goal.returns-in-Err-clause-ran
returns-in-Err-clause-ran g c =
    unread _ _ (device_line c.args.options.now) _ _ _ _ c.in-Err.status c.in-Err.ensures.err.0 c.in-Err.ensures.err.1 refl (Keeps-refl _)

pub returns-in-Err-call_for-clause-ran : goal.returns-in-Err-call_for-clause-ran
returns-in-Err-call_for-clause-ran g c =
    let found = c.in-Ok.ensures.ok in
    let failed = c.in-Err-call_for.ensures.err in
    no_password _ _ (device_line c.args.options.now) _ _ _ _ c.in-Err-call_for.status found.0 c.deref.result.now found.1
    (c.deref.ensures ∙ found.2) failed.0 failed.1 failed.2 refl (Keeps-refl _)

pub returns-clause-ran : goal.returns-clause-ran
returns-clause-ran g c =
    let line = device_line c.args.options.now in
    let old = handed c.args.shelf.now c.args.link.now c.args.seeds.now in
    let new = handed c.call-end.new.shelf c.call-end.new.link c.call-end.new.seeds in
    let ends = EndsCall g.S.D.Disk g.S.Shelf.told g.S.Shelf.slot g.S.Shelf.fault_count g.L.Link.asks g.L.Link.aimed g.R.Seeds.given old new in
    let found = c.in-Ok.ensures.ok in
    let kept : c.deref.result.now ≡ kept_of line.task found.0 = c.deref.ensures ∙ found.2 in
    let asked = c.in-Ok-call_for.asked in
    ended_so ends (new ≡ old) line _ _ _ _ c.write_end.result c.call-end.result
    (has_called ends (new ≡ old) line _ _ _ _ found.0 (call_of asked) (server_of asked) c.call-end.result found.1
    (c.in-Ok-call_for.ensures.ok found.0 kept) c.call-end.ensures.ends) c.write_end.ensures.ends

pub returns-clause-silent : goal.returns-clause-silent
returns-clause-silent g c silent = call_silent c.call-end.result c.write_end.result _ _ c.write_end.ensures.ends silent

pub returns-clause-link : goal.returns-clause-link
returns-clause-link g c fault = c.call-end.ensures.link (link_failed c.call-end.result c.write_end.result _ _ c.write_end.ensures.ends fault)

pub returns-clause-read : goal.returns-clause-read
returns-clause-read g c fault = absurd (not_read c.call-end.result c.write_end.result _ _ c.write_end.ensures.ends fault)

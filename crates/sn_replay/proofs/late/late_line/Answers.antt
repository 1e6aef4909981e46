use Rattle.std.proofs.Common.{◌≡◌, Option, Some, None, false, refl, ap, sym, subst, ◌∙◌}
use Rattle.std.specs.Option.{option_copied}
use Rattle.sn_device.specs.Asking.{IsRequestBytes}
use Rattle.sn_events.specs.Calling.{host}
use Rattle.sn_laws.specs.Lookups.{Bytes}
use Rattle.sn_laws.specs.Runs.{end}
use Rattle.sn_report.specs.Labels.{labels_of}
use Rattle.sn_row_map.specs.RowMaps.{row_in}
use Rattle.sn_rows.specs.Table.{Rows}
use Rattle.sn_telling.specs.Walking.{SaysGained, rows_behind_all}
use Rattle.sn_replay.specs.Keeping.{nth_of, requests_of}
use Rattle.sn_replay.specs.Mirrored.{mirrored}
use Rattle.sn_replay.specs.declared.kept.Kept.{Kept}
use Rattle.sn_replay.specs.declared.replaying.Seen.{Seen}
use Rattle.sn_replay.proofs.Lateness.{Meant, late_tells, nth_kept, nth_none}
use Rattle.sn_replay.proofs.late.late_line.Goals as goal

pub returns-clause-told : goal.returns-clause-told
returns-clause-told c =
    let at = c.args.at.now in
    let name : Bytes = c.args.device.now in
    let kept : Kept = c.in-Some.kept.now in
    let behind : Seen = record { labels = c.add_labels.new.labels; names = c.args.replaying.seen.names; server = c.moves_of.new.server; devices = c.moves_of.new.devices; requests = c.args.replaying.seen.requests } in
    λ script secret stage differ is_at.
    let found : nth_of (requests_of c.args.replaying.seen.requests name) c.args.which ≡ Some kept =
    ap (λ (n : Bytes). nth_of (requests_of c.args.replaying.seen.requests n) c.args.which) (sym c.as_str.ensures) ∙ sym c.in-Some.ensures in
    let meant : Meant name stage.world.made c.args.which kept =
    nth_kept name stage.world.made (requests_of c.args.replaying.seen.requests name) c.args.which kept (is_at.requests_are name) found in
    let came = c.in_ok-ends.ensures.came secret stage.world (end stage.moves) meant.m differ is_at.stands meant.among
    (subst (IsRequestBytes host meant.m.request) (sym c.as_slice.ensures) meant.is.sent) meant.is.readable in
    let told = c.in_ok-moves.ensures.moves in
    late_tells c.agains_tell.ensures c.each_fits.ensures c.keeps.ensures c.keeps_held.ensures c.steps_stay_sound.ensures script secret differ stage at.number at.settings
    name c.args.which c.args.replaying is_at kept meant c.in_ok-ends.field-0 came c.in_ok-moves.moves behind c.new.result c.server_mark-server_mark.result
    told c.in_ok-moves.ensures.server (c.in_ok-add_labels.ensures ∙ ap (labels_of false c.args.replaying.seen.labels) c.as_slice-2.ensures) refl c.in_ok-moves.ensures.devices refl c.new.ensures
    (c.server_mark-server_mark.ensures secret came.leads.next _ came.stands)

pub returns-in_default-clause-refused : goal.returns-in_default-clause-refused
returns-in_default-clause-refused c =
    λ script secret stage is_at.
    let none : nth_of (requests_of c.args.replaying.seen.requests c.args.device.now) c.args.which ≡ None =
    ap (λ (n : Bytes). nth_of (requests_of c.args.replaying.seen.requests n) c.args.which) (sym c.as_str.ensures) ∙ sym c.nth.ensures ∙ ap option_copied c.in_default.is in (
      refl,
      λ some. some (nth_none c.args.device.now stage.world.made (requests_of c.args.replaying.seen.requests c.args.device.now) c.args.which
          (is_at.requests_are c.args.device.now) none),
    )

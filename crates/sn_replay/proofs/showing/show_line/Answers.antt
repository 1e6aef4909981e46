use Rattle.std.proofs.Common.{◌≡◌, ℕ, List, Option, sym, subst}
use Rattle.sn_laws.specs.Lookups.{Bytes}
use Rattle.sn_laws.specs.Runs.{end}
use Rattle.sn_report.specs.Showing.{show_lines}
use Rattle.sn_row_map.specs.RowMaps.{row_in}
use Rattle.sn_shown.specs.Closed.{AreClosed}
use Rattle.sn_shown.specs.Shown.{EndsShow}
use Rattle.sn_replay.specs.Mirrored.{mirrored}
use Rattle.sn_replay.proofs.ShownLemmas.{ends_show, show_tells}
use Rattle.sn_replay.proofs.showing.show_line.Goals as goal

pub returns : goal.returns
returns c =
    let at = c.args.at.now in
    let seen = c.args.replaying.seen in
    λ script secret stage is_at.
    let s = end stage.moves in
    let show = ends_show c.states_regular.ensures script secret c.args.replaying stage is_at in
    let shown : (closed : Bytes → Bytes → Option ℕ) × AreClosed (λ name. mirrored seen.devices name) s closed × (c.in_ok-shown.shown ≡ show_lines seen.labels seen.names s closed) =
    subst (λ (ns : List Bytes). (closed : Bytes → Bytes → Option ℕ) × AreClosed (λ name. mirrored seen.devices name) s closed × (c.in_ok-shown.shown ≡ show_lines seen.labels ns s closed))
    c.as_slice-names.ensures
    (c.in_ok-shown.ensures s (subst (λ (ns : List Bytes). EndsShow (row_in seen.server) (λ name. mirrored seen.devices name) ns s) (sym c.as_slice-names.ensures) show)) in
    show_tells c.states_regular.ensures script secret c.args.replaying stage is_at at.number at.settings c.new.result c.in_ok-shown.shown
    c.server_mark-server_mark.result c.new.ensures shown (c.server_mark-server_mark.ensures secret stage.world s is_at.stands) c.slots_grow.ensures.same

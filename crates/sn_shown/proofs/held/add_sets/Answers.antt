use Rattle.std.proofs.Common.{◌≡◌, ◌∷◌, [], ◌++◌, Option, sym, ap, ◌∙◌, subst}
use Rattle.std.specs.BTreeMap.{get}
use Rattle.std.specs.Option.{option_copied}
use Rattle.sn_row_map.specs.Keys.{key_cmp}
use Rattle.sn_row_map.specs.declared.row_map.RowMap.{RowMap}
use Rattle.sn_rows.specs.declared.key.Key.{Key}
use Rattle.sn_rows.specs.declared.key.Key.TheVariants as key
use Rattle.sn_shows.specs.Devices.{ShowsDevice}
use Rattle.sn_shown.specs.Held.{AreSetsOf, IsHoldingOf, with_set}
use Rattle.sn_shown.specs.Rows.{rows_in}
use Rattle.sn_shown.specs.declared.holding.Holding.{Holding}
use Rattle.sn_shown.proofs.Finds.{on_ok}
use Rattle.sn_shown.proofs.HoldingLemmas.{no_rows}
use Rattle.sn_shown.proofs.SetLemmas.{more_sets, same_sets}
use Rattle.sn_shown.proofs.held.add_sets.Goals as goal

pub returns-in_default : goal.returns-in_default
returns-in_default g c = λ s names regular are shows sets.
    same_sets (get key_cmp c.args.sets.now) s names c.args.name.now
    (no_rows s c.args.name.now (rows_in (g.D.Devices.rows_of c.args.devices.now c.args.name.now)) shows
    (ap (λ (o : Option RowMap). rows_in o key.Owner) (sym c.rows.ensures ∙ ap option_copied c.in_default.is))) sets

pub returns-in_default-2 : goal.returns-in_default-2
returns-in_default-2 g c = λ s names regular are shows sets.
    let shows_rows = subst (λ (o : Option RowMap). ShowsDevice (rows_in o) s c.args.name.now) (sym c.rows.ensures ∙ ap option_copied c.in-Some.is) shows in
    same_sets (get key_cmp c.args.sets.now) s names c.args.name.now
    (subst (λ (h : Option Holding). IsHoldingOf s c.args.name.now h) c.in_default-2.is (c.in_ok-holding.ensures s c.args.name.now regular are shows_rows)) sets

pub returns : goal.returns
returns g c = λ s names regular are shows sets.
    let shows_rows = subst (λ (o : Option RowMap). ShowsDevice (rows_in o) s c.args.name.now) (sym c.rows.ensures ∙ ap option_copied c.in-Some.is) shows in
    let h = c.in-Some-2.holding in
    let is = subst (λ (x : Option Holding). IsHoldingOf s c.args.name.now x) c.in-Some-2.is (c.in_ok-holding.ensures s c.args.name.now regular are shows_rows) in
    on_ok c.add_set.result
    ((asked : Key) → get key_cmp c.add_set.new.sets asked ≡ with_set (get key_cmp c.add_older.new.sets) (key.Generation h.account h.present.number) h.present.set asked)
    (AreSetsOf (get key_cmp c.add_set.new.sets) s (names ++ c.args.name.now ∷ []))
    (λ added.
    more_sets (get key_cmp c.args.sets.now) (get key_cmp c.add_set.new.sets) (get key_cmp c.add_older.new.sets) s names c.args.name.now h
    regular.identifiers is c.in_ok-add_older.ensures added sets) c.add_set.ensures

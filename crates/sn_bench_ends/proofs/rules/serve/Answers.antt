use Rattle.std.proofs.Common.{◌≡◌, ◌∙◌, sym, subst, List}
use Rattle.sn_rows.specs.Table.{Rows, rows_after}
use Rattle.sn_rows.specs.declared.change.Change.{Change}
use Rattle.sn_rows.specs.declared.key.Key.{Key}
use Rattle.sn_account.specs.Sound.{IsSound}
use Rattle.sn_account.specs.States.{state_rows}
use Rattle.sn_bench_ends.proofs.rules.serve.Goals as goal

sound_same : (rows other : Rows) → IsSound rows → ((k : Key) → other k ≡ rows k) → IsSound other
sound_same rows other sound same = let equal : rows ≡ other = λ i k. sym (same k) i in subst IsSound equal sound

pub returns-clause-sound : goal.returns-clause-sound
returns-clause-sound c =
    let rows : Rows = state_rows c.args.state.now in
    let P : List Change → Type 0 = λ cs. IsSound (rows_after rows cs) in
    sound_same (rows_after rows c.as_slice.result.now) (state_rows c.keep.new.self) (subst P (sym c.as_slice.ensures) c.in_ok-ruled.ensures.sound)
    (λ k. c.keep.ensures.rows k ∙ c.in_ok-apply.ensures.done k)

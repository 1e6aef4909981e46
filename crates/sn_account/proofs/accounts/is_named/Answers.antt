use Rattle.std.proofs.Common.{ap, sym, ◌∙◌}
use Rattle.std.specs.Cmp.Lexicographic.{bytes_decides}
use Rattle.sn_rows.specs.declared.server_rows.AccountRow.{AccountRow}
use Rattle.sn_account.specs.States.{state_rows}
use Rattle.sn_account.proofs.NamedLemmas.{one_account}
use Rattle.sn_account.proofs.accounts.is_named.Goals as goal

pub returns-in-Some : goal.returns-in-Some
returns-in-Some c =
    let is = bytes_decides c.as_str.result.now c.args.identifier.now in (
      λ h. (_, c.in-Some.ensures.some, sym c.as_str.ensures ∙ is.0 (sym c.eq.ensures ∙ h)),
      λ named. c.eq.ensures ∙ is.1 (c.as_str.ensures
          ∙ ap (λ (a : AccountRow). a.identifier) (one_account (state_rows c.args.state.now) c.args.number _ _ c.in-Some.ensures.some named.1) ∙ named.2),
    )

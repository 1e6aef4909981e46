use Rattle.std.proofs.Common.{◌≡◌, ◌∙◌, Some, ap, rules}
use Rattle.sn_rows.specs.Table.{key_of, value_of}
use Rattle.sn_rows.specs.declared.change.Change.{Change}
use Rattle.sn_rows.specs.declared.value.Value.{Value}
use Rattle.sn_local.proofs.behind.put_number.Goals as goal

pub returns-in-Local-Local-clause-some : goal.returns-in-Local-Local-clause-some
returns-in-Local-Local-clause-some c =
    let item = c.in-Local-Local.item in
    let same : item.uuid ≡ c.args.uuid = search rules in (
      item,
      record {
        key_is = ap (λ (x : Change). key_of x) c.in-Put.is ∙ c.in-Local-Local.is-0;
        value_is = ap (λ (x : Change). value_of x) c.in-Put.is ∙ ap (λ (v : Value). Some v) c.in-Local-Local.is-1;
      },
      same,
    )

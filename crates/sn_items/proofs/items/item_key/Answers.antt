use Rattle.std.proofs.Common.{rules, string_bytes}
use Rattle.sn_items.proofs.items.item_key.Goals as goal

pub returns-in-Some-clause-ok : goal.returns-in-Some-clause-ok
returns-in-Some-clause-ok c text reads =
    record { digits = string_bytes c.in_ok-digits.digits; opens = c.in_ok-digits.ensures.ok text reads; spelled = search rules }

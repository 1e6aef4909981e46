use Rattle.sn_conflict.proofs.StringLemmas.{strings_not_first, strings_second}
use Rattle.sn_conflict.proofs.strings.has_its_strings.Goals as goal

pub returns-then-not-branch : goal.returns-then-not-branch
returns-then-not-branch c =
    strings_not_first c.args.item.now.uuid c.args.item.now.body c.in-Strings.content c.in-Strings.enc c.in_ok-is_string_of.field-0
    c.in-Strings.is (rw c.as_str.ensures at c.in_ok-is_string_of.ensures) c.if-not-branch.true

pub returns : goal.returns
returns c =
    strings_second c.args.item.now.uuid c.args.item.now.body c.in-Strings.content c.in-Strings.enc c.in_ok-is_string_of.field-0
    c.is_string_of-2.result c.in-Strings.is (rw c.as_str.ensures at c.in_ok-is_string_of.ensures) c.if-not-branch.false
    (rw c.as_str-2.ensures at c.is_string_of-2.ensures)

use Rattle.sn_account.proofs.IncomingLemmas.{own_not_first, own_second}
use Rattle.sn_account.proofs.incoming.is_own_body.Goals as goal

pub returns-then-not-branch : goal.returns-then-not-branch
returns-then-not-branch c =
    own_not_first c.args.item.now.uuid c.args.present.now c.args.item.now.body c.in-Strings.content c.in-Strings.enc c.in_ok-is_own_string.field-0
    c.in-Strings.is (rw c.as_str.ensures at c.in_ok-is_own_string.ensures) c.if-not-branch.true

pub returns : goal.returns
returns c =
    own_second c.args.item.now.uuid c.args.present.now c.args.item.now.body c.in-Strings.content c.in-Strings.enc c.in_ok-is_own_string.field-0
    c.is_own_string-2.result c.in-Strings.is (rw c.as_str.ensures at c.in_ok-is_own_string.ensures) c.if-not-branch.false
    (rw c.as_str-2.ensures at c.is_own_string-2.ensures)

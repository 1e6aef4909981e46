use Rattle.std.proofs.lemmas.Result.{IfOk-weaker}
use Rattle.sn_taking.proofs.RenamedLemmas.{has_text, sealed_draft, unread_closed, unread_deleted, unread_none}
use Rattle.sn_taking.proofs.renaming.draft_text.Goals as goal

pub returns-in_default-clause-none : goal.returns-in_default-clause-none
returns-in_default-clause-none c = unread_none c.args.sets.now c.args.local.now c.in_default.is

pub returns-in-Deleted-clause-none : goal.returns-in-Deleted-clause-none
returns-in-Deleted-clause-none c = unread_deleted c.args.sets.now c.args.local.now c.in-Some.version c.in-Some.is c.in-Deleted.is

pub returns-in-Sealed-clause-some : goal.returns-in-Sealed-clause-some
returns-in-Sealed-clause-some c =
    IfOk-weaker c.opened.result _ _
    (λ found. has_text c.args.sets.now c.args.local.now c.in-Sealed.strings found
    (sealed_draft c.args.local.now c.in-Some.version c.in-Sealed.strings c.in-Some.is c.in-Sealed.is))
    c.opened.ensures.some

pub returns-in-Sealed-clause-none : goal.returns-in-Sealed-clause-none
returns-in-Sealed-clause-none c =
    IfOk-weaker c.opened.result _ _
    (λ found. unread_closed c.args.sets.now c.args.local.now c.in-Sealed.strings found
    (sealed_draft c.args.local.now c.in-Some.version c.in-Sealed.strings c.in-Some.is c.in-Sealed.is))
    c.opened.ensures.none

use Rattle.std.proofs.Common.{arith, subst, sym}
use Rattle.sn_laws.specs.declared.moves.Move.{Move}
use Rattle.sn_summary.specs.Walks.{NotesLive, Sets}
use Rattle.sn_summary.proofs.DraftLemmas.{on_ok}
use Rattle.sn_summary.proofs.LiveLemmas.{accept_noted, kept_noted}
use Rattle.sn_summary.proofs.live.note_live.Goals as goal

pub returns-in-Accept : goal.returns-in-Accept
returns-in-Accept c =
    let old = c.args.live.now in
    let new = c.set_live.new.live in
    on_ok c.set_live.result (Sets old new c.in-Accept.uuid c.is_some.result) (NotesLive old new c.args.made.now)
    (λ sets. subst (λ (m : Move). NotesLive old new m) (sym c.in-Accept.is)
    (accept_noted old new c.in-Accept.device c.in-Accept.uuid c.in-Accept.stamp c.in-Accept.under c.is_some.result c.is_some.ensures sets))
    c.set_live.ensures

pub returns-in-Register : goal.returns-in-Register
returns-in-Register c = kept_noted c.args.live.now c.args.made.now (grind (arith, c.in-Register.is))

pub returns-in-Register-2 : goal.returns-in-Register-2
returns-in-Register-2 c = kept_noted c.args.live.now c.args.made.now (grind (arith, c.in-Register.is))

pub returns-in-Register-3 : goal.returns-in-Register-3
returns-in-Register-3 c = kept_noted c.args.live.now c.args.made.now (grind (arith, c.in-Register.is))

pub returns-in-Register-4 : goal.returns-in-Register-4
returns-in-Register-4 c = kept_noted c.args.live.now c.args.made.now (grind (arith, c.in-Register.is))

pub returns-in-Register-5 : goal.returns-in-Register-5
returns-in-Register-5 c = kept_noted c.args.live.now c.args.made.now (grind (arith, c.in-Register.is))

pub returns-in-Register-6 : goal.returns-in-Register-6
returns-in-Register-6 c = kept_noted c.args.live.now c.args.made.now (grind (arith, c.in-Register.is))

pub returns-in-Register-7 : goal.returns-in-Register-7
returns-in-Register-7 c = kept_noted c.args.live.now c.args.made.now (grind (arith, c.in-Register.is))

pub returns-in-Register-8 : goal.returns-in-Register-8
returns-in-Register-8 c = kept_noted c.args.live.now c.args.made.now (grind (arith, c.in-Register.is))

pub returns-in-Register-9 : goal.returns-in-Register-9
returns-in-Register-9 c = kept_noted c.args.live.now c.args.made.now (grind (arith, c.in-Register.is))

pub returns-in-Register-10 : goal.returns-in-Register-10
returns-in-Register-10 c = kept_noted c.args.live.now c.args.made.now (grind (arith, c.in-Register.is))

pub returns-in-Register-11 : goal.returns-in-Register-11
returns-in-Register-11 c = kept_noted c.args.live.now c.args.made.now (grind (arith, c.in-Register.is))

pub returns-in-Register-12 : goal.returns-in-Register-12
returns-in-Register-12 c = kept_noted c.args.live.now c.args.made.now (grind (arith, c.in-Register.is))

pub returns-in-Register-13 : goal.returns-in-Register-13
returns-in-Register-13 c = kept_noted c.args.live.now c.args.made.now (grind (arith, c.in-Register.is))

pub returns-in-Register-14 : goal.returns-in-Register-14
returns-in-Register-14 c = kept_noted c.args.live.now c.args.made.now (grind (arith, c.in-Register.is))

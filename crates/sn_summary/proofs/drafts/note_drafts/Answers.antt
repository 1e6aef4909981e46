use Rattle.std.proofs.Common.{arith, subst, sym}
use Rattle.sn_laws.specs.declared.moves.Move.{Move}
use Rattle.sn_summary.specs.Walks.{AddsKey, NotesDrafts, RemovesKey, TakesKey}
use Rattle.sn_summary.proofs.DraftLemmas.{drop_noted, edit_noted, fork_noted, give_way_noted, kept_noted, on_ok, rename_noted, settle_noted}
use Rattle.sn_summary.proofs.drafts.note_drafts.Goals as goal

pub returns-in-Edit : goal.returns-in-Edit
returns-in-Edit c =
    let old = c.args.drafts.now in
    let new = c.add.new.drafts in
    on_ok c.add.result (AddsKey old new c.in-Edit.device c.in-Edit.uuid) (NotesDrafts old new c.args.made.now)
    (λ a. subst (λ (m : Move). NotesDrafts old new m) (sym c.in-Edit.is)
    (edit_noted old new c.in-Edit.device c.in-Edit.uuid c.in-Edit.kind c.in-Edit.base c.in-Edit.latest a)) c.add.ensures

pub returns-in-Drop : goal.returns-in-Drop
returns-in-Drop c =
    let old = c.args.drafts.now in
    let new = c.remove.new.drafts in
    on_ok c.remove.result (RemovesKey old new c.in-Drop.device c.in-Drop.uuid) (NotesDrafts old new c.args.made.now)
    (λ a. subst (λ (m : Move). NotesDrafts old new m) (sym c.in-Drop.is) (drop_noted old new c.in-Drop.device c.in-Drop.uuid a)) c.remove.ensures

pub returns-in-Settle : goal.returns-in-Settle
returns-in-Settle c =
    let old = c.args.drafts.now in
    let new = c.remove-in-Settle.new.drafts in
    on_ok c.remove-in-Settle.result (RemovesKey old new c.in-Settle.device c.in-Settle.uuid) (NotesDrafts old new c.args.made.now)
    (λ a. subst (λ (m : Move). NotesDrafts old new m) (sym c.in-Settle.is) (settle_noted old new c.in-Settle.device c.in-Settle.uuid a)) c.remove-in-Settle.ensures

pub returns-in-GiveWay : goal.returns-in-GiveWay
returns-in-GiveWay c =
    let old = c.args.drafts.now in
    let new = c.remove-in-GiveWay.new.drafts in
    on_ok c.remove-in-GiveWay.result (RemovesKey old new c.in-GiveWay.device c.in-GiveWay.uuid) (NotesDrafts old new c.args.made.now)
    (λ a. subst (λ (m : Move). NotesDrafts old new m) (sym c.in-GiveWay.is) (give_way_noted old new c.in-GiveWay.device c.in-GiveWay.uuid a)) c.remove-in-GiveWay.ensures

pub returns-in-Fork : goal.returns-in-Fork
returns-in-Fork c =
    let old = c.args.drafts.now in
    let new = c.take.new.drafts in
    on_ok c.take.result (TakesKey old new c.in-Fork.device c.in-Fork.uuid c.in-Fork.other) (NotesDrafts old new c.args.made.now)
    (λ t. subst (λ (m : Move). NotesDrafts old new m) (sym c.in-Fork.is)
    (fork_noted old new c.in-Fork.device c.in-Fork.uuid c.in-Fork.other t)) c.take.ensures

pub returns-in-Rename : goal.returns-in-Rename
returns-in-Rename c =
    let old = c.args.drafts.now in
    let new = c.take-in-Rename.new.drafts in
    on_ok c.take-in-Rename.result (TakesKey old new c.in-Rename.device c.in-Rename.uuid c.in-Rename.other) (NotesDrafts old new c.args.made.now)
    (λ t. subst (λ (m : Move). NotesDrafts old new m) (sym c.in-Rename.is)
    (rename_noted old new c.in-Rename.device c.in-Rename.uuid c.in-Rename.other t)) c.take-in-Rename.ensures

pub returns-in-Register-3 : goal.returns-in-Register-3
returns-in-Register-3 c = kept_noted c.args.drafts.now c.args.made.now (grind (arith, c.in-Register.is))

pub returns-in-Register-4 : goal.returns-in-Register-4
returns-in-Register-4 c = kept_noted c.args.drafts.now c.args.made.now (grind (arith, c.in-Register.is))

pub returns-in-Register-7 : goal.returns-in-Register-7
returns-in-Register-7 c = kept_noted c.args.drafts.now c.args.made.now (grind (arith, c.in-Register.is))

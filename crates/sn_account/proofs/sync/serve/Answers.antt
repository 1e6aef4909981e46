use Rattle.std.proofs.Common.{◌≡◌, ◌∙◌, inl, sym, ap, subst}
use Rattle.std.specs.Prelude.{IfOk, codes}
use Rattle.sn_rows.specs.declared.server_rows.StoreRow.{StoreRow}
use Rattle.sn_sync.specs.declared.answer.Answer.TheVariants as answer
use Rattle.sn_sync.specs.declared.answer.More.TheVariants as more
use Rattle.sn_account.specs.Replies.{IsReply}
use Rattle.sn_account.specs.Rules.{Refuses}
use Rattle.sn_account.specs.States.{state_rows}
use Rattle.sn_account.proofs.SyncLemmas.{same_store, serves_ok}
use Rattle.sn_account.proofs.sync.serve.Goals as goal

pub returns-in_default : goal.returns-in_default
returns-in_default c = λ store has.
    let same : c.store_of-store.result.now ≡ store = same_store (state_rows c.args.state.now) c.store_of-store.result.now store c.store_of-store.ensures has in
    let last : store.last ≡ c.store_of-store.result.now.last = ap (λ (s : StoreRow). s.last) (sym same) in
    let runs = rw c.in_default.is at (c.in_ok-taken.ensures.none store last) in
    let refuses : Refuses 409 (codes "stamps-used") (more.Number store.last) c.unchanged.result.changes c.unchanged.result.answer = (
      c.unchanged.ensures.changes,
      c.unchanged.ensures.answer ∙ c.refused.ensures ∙ ap (λ (s : StoreRow). answer.Refused 409 (codes "stamps-used") (more.Number s.last)) same,
    ) in
    (runs.0, runs.1, inl (runs.2, refuses))

pub returns : goal.returns
returns c = λ store has.
    let same : c.store_of-store.result.now ≡ store = same_store (state_rows c.args.state.now) c.store_of-store.result.now store c.store_of-store.ensures has in
    let last : store.last ≡ c.store_of-store.result.now.last = ap (λ (s : StoreRow). s.last) (sym same) in
    let taken = rw c.in-Some.is at (c.in_ok-taken.ensures.some store last) in
    let page = rw (c.above.ensures, c.is_first.ensures) at c.in_ok-page.ensures in
    let R : StoreRow → Type 0 = λ s. IfOk c.reply.result (IsReply s c.in-Some.taken c.in_ok-page.page) in
    serves_ok (state_rows c.args.state.now) store c.args.number taken.0 c.args.items.now c.args.limit c.args.sync c.args.cursor c.args.now
    c.in-Some.taken c.in_ok-page.page c.reply.result c.requires.sound has taken.1 taken.2 page (subst R same c.reply.ensures)

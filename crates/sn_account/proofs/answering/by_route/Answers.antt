use Rattle.std.proofs.Common.{List, subst, sym}
use Rattle.std.specs.Prelude.{IfOk}
use Rattle.sn_sync.specs.declared.answer.Answer.{Answer}
use Rattle.sn_sync.specs.declared.item.Item.{Item}
use Rattle.sn_sync.specs.declared.request.Request.TheVariants as request
use Rattle.sn_account.specs.Lookups.{Bytes}
use Rattle.sn_account.specs.Rules.{ChangesPassword, SignsIn, TellsParams}
use Rattle.sn_account.specs.States.{state_rows}
use Rattle.sn_account.specs.Syncs.{Syncs}
use Rattle.sn_account.specs.declared.accounts.Ruled.{Ruled}
use Rattle.sn_account.proofs.SyncLemmas.{rule_at, rule_ok}
use Rattle.sn_account.proofs.answering.by_route.Goals as goal

pub returns-in-Register : goal.returns-in-Register
returns-in-Register c =
    rule_ok (state_rows c.args.state.now) c.requires.sound.store c.args.request.now (request.Register c.in-Register.params c.in-Register.pw) c.args.now
    c.register.result c.requires.sound.stands c.in-Register.is (c.register.ensures c.requires.sound.store c.requires.sound.stands)

pub returns-in_ok-answer-in-Params : goal.returns-in_ok-answer-in-Params
returns-in_ok-answer-in-Params c =
    let T : Bytes → Type 0 = λ i. TellsParams (state_rows c.args.state.now) i c.in_ok-answer-in-Params.answer in
    let A : Answer → Type 0 = λ a. TellsParams (state_rows c.args.state.now) c.in-Params.identifier a in
    rule_at (state_rows c.args.state.now) c.requires.sound.store c.args.request.now (request.Params c.in-Params.identifier) c.args.now
    c.unchanged.result.changes c.unchanged.result.answer c.requires.sound.stands c.in-Params.is
    (c.unchanged.ensures.changes, subst A (sym c.unchanged.ensures.answer) (subst T c.as_str.ensures c.in_ok-answer-in-Params.ensures))

pub returns-in_ok-answer-in-SignIn : goal.returns-in_ok-answer-in-SignIn
returns-in_ok-answer-in-SignIn c =
    let T : Bytes → Type 0 = λ i. SignsIn (state_rows c.args.state.now) c.requires.sound.store i c.in-SignIn.pw c.in_ok-answer-in-SignIn.answer in
    let A : Answer → Type 0 = λ a. SignsIn (state_rows c.args.state.now) c.requires.sound.store c.in-SignIn.identifier c.in-SignIn.pw a in
    rule_at (state_rows c.args.state.now) c.requires.sound.store c.args.request.now (request.SignIn c.in-SignIn.identifier c.in-SignIn.pw) c.args.now
    c.unchanged-in-SignIn.result.changes c.unchanged-in-SignIn.result.answer c.requires.sound.stands c.in-SignIn.is (
      c.unchanged-in-SignIn.ensures.changes,
      subst A (sym c.unchanged-in-SignIn.ensures.answer)
          (subst T c.as_str-in-SignIn.ensures (c.in_ok-answer-in-SignIn.ensures c.requires.sound.store c.requires.sound.stands)),
    )

pub returns-in-ChangePw : goal.returns-in-ChangePw
returns-in-ChangePw c =
    let T : Bytes → Type 0 = λ t. IfOk c.change_password.result (λ (r : Ruled). ChangesPassword (state_rows c.args.state.now) c.requires.sound.store t
    c.in-ChangePw.current c.in-ChangePw.pw c.in-ChangePw.cost c.in-ChangePw.nonce r.changes r.answer) in
    rule_ok (state_rows c.args.state.now) c.requires.sound.store c.args.request.now
    (request.ChangePw c.in-ChangePw.token c.in-ChangePw.current c.in-ChangePw.pw c.in-ChangePw.cost c.in-ChangePw.nonce) c.args.now
    c.change_password.result c.requires.sound.stands c.in-ChangePw.is
    (subst T c.as_str-in-ChangePw.ensures (c.change_password.ensures c.requires.sound.store c.requires.sound.stands))

pub returns-in-Sync : goal.returns-in-Sync
returns-in-Sync c =
    let T : Bytes → Type 0 = λ t. IfOk c.sync.result (λ (r : Ruled). Syncs (state_rows c.args.state.now) c.requires.sound.store t
    c.as_slice.result.now c.in-Sync.limit c.in-Sync.sync_token c.in-Sync.cursor_token c.args.now r.changes r.answer) in
    let I : List Item → Type 0 = λ is. IfOk c.sync.result (λ (r : Ruled). Syncs (state_rows c.args.state.now) c.requires.sound.store c.in-Sync.token
    is c.in-Sync.limit c.in-Sync.sync_token c.in-Sync.cursor_token c.args.now r.changes r.answer) in
    rule_ok (state_rows c.args.state.now) c.requires.sound.store c.args.request.now
    (request.Sync c.in-Sync.token c.in-Sync.items c.in-Sync.limit c.in-Sync.sync_token c.in-Sync.cursor_token) c.args.now
    c.sync.result c.requires.sound.stands c.in-Sync.is
    (subst I c.as_slice.ensures (subst T c.as_str-in-Sync.ensures (c.sync.ensures c.requires.sound.store c.requires.sound.stands)))

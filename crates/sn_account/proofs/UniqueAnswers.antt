-- A request has one answer, and changes the rows in one way.
use Rattle.std.proofs.Common.{ℕ, List, sym, ◌∙◌, subst}
use Rattle.sn_rows.specs.Table.{Rows}
use Rattle.sn_rows.specs.declared.change.Change.{Change}
use Rattle.sn_rows.specs.declared.server_rows.StoreRow.{StoreRow}
use Rattle.sn_sync.specs.declared.answer.Answer.{Answer}
use Rattle.sn_sync.specs.declared.request.Request.{Request}
use Rattle.sn_sync.specs.declared.request.Request.TheVariants as request
use Rattle.sn_account.specs.Rule.{RuleOf}
use Rattle.sn_account.specs.RuleUnique.{IsAnsweredOnce}
use Rattle.sn_account.specs.Sound.{IsSound}
use Rattle.sn_account.proofs.NamedLemmas.{one_store}
use Rattle.sn_account.proofs.UniqueAccounts.{changes_same, params_told_same, registers_same, signs_same}
use Rattle.sn_account.proofs.UniqueSync.{Same, syncs_same}

module _ (rows : Rows) (sound : IsSound rows) (store : StoreRow) (now : ℕ) (changes others : List Change) (given other : Answer) where
  by_route : (r : Request) → RuleOf rows store r now changes given → RuleOf rows store r now others other → Same changes given others other
  by_route (request.Register params pw) a b = registers_same rows store params pw changes others given other a b
  by_route (request.Params identifier) a b = (a.0 ∙ sym b.0, params_told_same rows sound identifier given other a.1 b.1)
  by_route (request.SignIn identifier pw) a b = (a.0 ∙ sym b.0, signs_same rows sound identifier store pw given other a.1 b.1)
  by_route (request.ChangePw token current pw cost nonce) a b = changes_same rows store pw cost nonce changes others given other sound token current a b
  by_route (request.Sync token items limit sync_token cursor_token) a b =
      syncs_same rows store items limit sync_token cursor_token now changes others given other token sound a b

pub one_answer : IsAnsweredOnce
one_answer rows r now changes others given other sound (store, has, a) (also, had, b) =
    by_route rows sound store now changes others given other r a
    (subst (λ (s : StoreRow). RuleOf rows s r now others other) (one_store rows also store had has) b)
